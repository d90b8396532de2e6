use Rattle.std.proofs.Common.{subst}
use Rattle.dash_base.specs.declared.need.Need.TheVariants.{Hint}
use Rattle.unit_rows.specs.Shown.{config, shown}
use Rattle.unit_rows.specs.Steps.{HartNeeds}
use Rattle.unit_rows.specs.Hints.{HintFits}
use Rattle.unit_rows.proofs.hints.hint_opening.Goals as goal

pub hint_own-requires : goal.hint_own-requires
hint_own-requires c = record {
  sized = c.requires.sized;
  hart = c.requires.hart;
  need = subst (λ k. HartNeeds (config c.args.site.now) (shown c.args.parts.now) c.args.hart (Hint k c.args.address)) c.in-Exclusive.is c.requires.need;
  opens = subst (λ k. HintFits (config c.args.site.now) (shown c.args.parts.now) k c.args.address c.args.slot) c.in-Exclusive.is c.requires.opens;
}

pub hint_read-requires : goal.hint_read-requires
hint_read-requires c = record {
  sized = c.requires.sized;
  hart = c.requires.hart;
  need = c.requires.need;
  reads = c.in_default.not-Exclusive;
  opens = c.requires.opens;
}
