use Rattle.std.proofs.Common.{rules, ◌+◌, ap, length, sym, subst, arith}
use Rattle.unit_rows.specs.Shown.{config}
use Rattle.unit_rows.specs.Opening.{AreOpening}
use Rattle.unit_rows.proofs.Openings.{opening_more}
use Rattle.unit_rows.proofs.opening.opening_locals.Goals as goal

pub loop-hart-init : goal.loop-hart-init
loop-hart-init c = record { count = ap length c.in_ok-locals.ensures.items; each = λ k d low. absurd (omega arith) }

pub loop-hart-preserved : goal.loop-hart-preserved
loop-hart-preserved c = subst (AreOpening (config c.args.site.now) c.args.site.now.cluster.0 (c.loop-hart.hart + 1)) (sym c.in_ok-push.ensures.items) (opening_more (config c.args.site.now) c.args.site.now.cluster.0 c.loop-hart.hart c.loop-hart.locals.items c.in_ok-opening_local.field-0 c.loop-hart.invariant c.in_ok-opening_local.ensures)

pub returns : goal.returns
returns c = search rules
