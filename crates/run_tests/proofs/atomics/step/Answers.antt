use Rattle.std.proofs.Common.{◌<◌, sym, subst, arith}
use Rattle.dash_base.specs.declared.need.Need.{Need}
use Rattle.dash_base.specs.declared.need.Need.TheVariants.{Rmw}
use Rattle.hart_core.specs.Meaning.{Needs, IsNext}
use Rattle.unit_rows.specs.declared.parts.Local.{Local}
use Rattle.unit_rows.specs.Shown.{config, shown}
use Rattle.unit_rows.proofs.LawsOffered.{one_local, next_needs}
use Rattle.run_tests.proofs.atomics.step.Goals as goal

pub atomic-requires-clause-need : goal.atomic-requires-clause-need
atomic-requires-clause-need c = λ d.
    let w = config c.args.site.now in
    let v = shown c.args.parts.now in
    let x = c.index.result.now in
    let need : Need = Rmw c.in-Rmw.word c.in-Rmw.op c.in-Rmw.operand c.in-Rmw.labels in
    let next : IsNext w.image w.top x.core need = subst (λ n. IsNext w.image w.top x.core n) c.in-Rmw.is c.next.ensures.next in
    subst (λ (y : Local). Needs w.image w.top y.core need) (sym (one_local v 0 x (subst (λ n. 0 < n) (sym c.requires.locals) (omega (arith, w.top.harts_in_range))) c.index.ensures d)) (next_needs w.image w.top x.core need next (λ e. absurd (cc)))
