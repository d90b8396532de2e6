use Rattle.std.proofs.Common.{inl, sym, subst}
use Rattle.dash_model.specs.Wants.{FrontNeed}
use Rattle.unit_rows.specs.LineNeeds.{IsNeeded}
use Rattle.unit_rows.specs.Shown.{config, shown, hart_at}
use Rattle.cluster_unit.specs.Listing.{HasListed, IsWritten}
use Rattle.cluster_unit.proofs.BusListing.{no_own, an_own}
use Rattle.cluster_unit.proofs.bus_choices.offer_write.Goals as goal

pub returns-in_default-clause-listed : goal.returns-in_default-clause-listed
returns-in_default-clause-listed c =
    subst (λ o. HasListed (config c.args.site.now) c.args.site.now.cluster.0 (shown c.args.parts.now) (IsWritten c.args.hart o) c.args.choices.now.items) (sym c.in_default.is)
    (no_own (config c.args.site.now) c.args.site.now.cluster.0 c.args.hart (shown c.args.parts.now) _ c.requires.before)

pub returns-clause-listed : goal.returns-clause-listed
returns-clause-listed c =
    subst (λ o. HasListed (config c.args.site.now) c.args.site.now.cluster.0 (shown c.args.parts.now) (IsWritten c.args.hart o) c.offer_needed_own.new.choices.items) (sym c.in-Some.is)
    (an_own (config c.args.site.now) c.args.site.now.cluster.0 c.args.hart (shown c.args.parts.now) c.in-Some.line _ _ c.requires.before c.offer_needed_own.ensures.offers)

pub offer_needed_own-requires-clause-needed : goal.offer_needed_own-requires-clause-needed
offer_needed_own-requires-clause-needed c = λ p shows.
    let w = config c.args.site.now in
    let k = c.args.site.now.cluster.0 in
    inl (subst (IsNeeded (λ q p. FrontNeed w (hart_at w k c.args.hart) q p) w k (shown c.args.parts.now)) c.in-Some.is c.requires.needed p shows).0
