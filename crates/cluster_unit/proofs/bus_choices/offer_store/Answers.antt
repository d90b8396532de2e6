use Rattle.std.proofs.Common.{inr, ◌∙◌, sym, subst}
use Rattle.dash_model.specs.Wants.{StoreNeed}
use Rattle.unit_rows.specs.LineNeeds.{IsNeeded}
use Rattle.unit_rows.specs.Shown.{config, shown, hart_at}
use Rattle.cluster_unit.proofs.BusListing.{no_store, same_store, a_store}
use Rattle.cluster_unit.proofs.bus_choices.offer_store.Goals as goal

pub returns-in_default-clause-listed : goal.returns-in_default-clause-listed
returns-in_default-clause-listed c =
    let w = config c.args.site.now in
    let k = c.args.site.now.cluster.0 in
    no_store w k c.args.hart (shown c.args.parts.now) c.args.needed.write _ c.requires.needed.write (subst (IsNeeded (λ q p. StoreNeed w (hart_at w k c.args.hart) q p) w k (shown c.args.parts.now)) c.in_default.is c.requires.needed.store) c.requires.before

pub returns-then-is_this-clause-listed : goal.returns-then-is_this-clause-listed
returns-then-is_this-clause-listed c =
    let w = config c.args.site.now in
    let k = c.args.site.now.cluster.0 in
    same_store w k c.args.hart (shown c.args.parts.now) c.args.needed.write c.in-Some.line _ c.requires.needed.write (subst (IsNeeded (λ q p. StoreNeed w (hart_at w k c.args.hart) q p) w k (shown c.args.parts.now)) c.in-Some.is c.requires.needed.store) (sym c.is_this.ensures ∙ c.if-is_this.true) c.requires.before

pub returns-clause-listed : goal.returns-clause-listed
returns-clause-listed c =
    let w = config c.args.site.now in
    let k = c.args.site.now.cluster.0 in
    a_store w k c.args.hart (shown c.args.parts.now) c.args.needed.write c.in-Some.line _ _ c.requires.needed.write (subst (IsNeeded (λ q p. StoreNeed w (hart_at w k c.args.hart) q p) w k (shown c.args.parts.now)) c.in-Some.is c.requires.needed.store) (sym c.is_this.ensures ∙ c.if-is_this.false) c.requires.before c.offer_needed_own.ensures.offers

pub offer_needed_own-requires-clause-needed : goal.offer_needed_own-requires-clause-needed
offer_needed_own-requires-clause-needed c = λ p shows.
    let w = config c.args.site.now in
    let k = c.args.site.now.cluster.0 in
    inr ((subst (IsNeeded (λ q p. StoreNeed w (hart_at w k c.args.hart) q p) w k (shown c.args.parts.now)) c.in-Some.is c.requires.needed.store) p shows).0
