use Rattle.std.proofs.Common.{sym, ◌∙◌, subst}
use Rattle.unit_rows.specs.Shown.{shown}
use Rattle.cluster_unit.specs.View.{CoreView}
use Rattle.cluster_unit.specs.Core.{IsAt}
use Rattle.cluster_unit.specs.Quiet.{IsQuiet}
use Rattle.cluster_unit.specs.contracts.unit_core.Core.{the_view}
use Rattle.cluster_unit.proofs.NoneWaits.{AreDrained, quiet_at, quiet_acks, quiet_slots, quiet_stores}
use Rattle.cluster_unit.proofs.unit_core.Core.quiet.Goals as goal

pub returns-then-not-is_empty : goal.returns-then-not-is_empty
returns-then-not-is_empty c p at = (
  λ bad. absurd (cc),
  λ quiet. sym c.if-not-is_empty.true ∙ c.is_empty.ensures ∙ quiet_acks (shown c.self.inside.parts) c.self.inside.last (the_view c.self.inside) _ p c.self.invariant (subst (λ a. IsAt a p) (sym c.self.view_is) at) (subst (λ (a : CoreView). IsQuiet a.config a.cluster p) (sym c.self.view_is) quiet),
)

pub returns-then-not-are_empty : goal.returns-then-not-are_empty
returns-then-not-are_empty c p at = (
  λ bad. absurd (cc),
  λ quiet. sym c.if-not-are_empty.true ∙ c.are_empty.ensures.1 (λ n low. quiet_slots (shown c.self.inside.parts) c.self.inside.last (the_view c.self.inside) _ p c.self.invariant (subst (λ a. IsAt a p) (sym c.self.view_is) at) (subst (λ (a : CoreView). IsQuiet a.config a.cluster p) (sym c.self.view_is) quiet) n),
)

pub returns : goal.returns
returns c p at = (
  λ true_is. subst (λ (a : CoreView). IsQuiet a.config a.cluster p) c.self.view_is
      (quiet_at (shown c.self.inside.parts) c.self.inside.last (the_view c.self.inside) _ p c.self.invariant (subst (λ a. IsAt a p) (sym c.self.view_is) at)
      (sym c.is_empty.ensures ∙ c.if-not-is_empty.false) (c.are_empty.ensures.0 c.if-not-are_empty.false) (subst AreDrained c.deref.ensures.value (c.have_no_stores.ensures.0 true_is))),
  λ quiet. c.have_no_stores.ensures.1 (subst AreDrained (sym c.deref.ensures.value)
      (quiet_stores (shown c.self.inside.parts) c.self.inside.last (the_view c.self.inside) _ p c.self.invariant (subst (λ a. IsAt a p) (sym c.self.view_is) at) (subst (λ (a : CoreView). IsQuiet a.config a.cluster p) (sym c.self.view_is) quiet))),
)
