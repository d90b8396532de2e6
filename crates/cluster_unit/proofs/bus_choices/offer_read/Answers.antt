use Rattle.std.proofs.Common.{subst}
use Rattle.dash_model.specs.Wants.{NeedsCopy}
use Rattle.unit_rows.specs.LineNeeds.{IsNeeded}
use Rattle.unit_rows.specs.Shown.{config, shown, hart_at}
use Rattle.cluster_unit.proofs.BusListing.{no_read, a_read}
use Rattle.cluster_unit.proofs.bus_choices.offer_read.Goals as goal

pub returns-in_default-clause-listed : goal.returns-in_default-clause-listed
returns-in_default-clause-listed c =
    let w = config c.args.site.now in
    let k = c.args.site.now.cluster.0 in
    no_read w k c.args.hart (shown c.args.parts.now) _ (subst (IsNeeded (λ q p. NeedsCopy w (hart_at w k c.args.hart) q p) w k (shown c.args.parts.now)) c.in_default.is c.requires.needed) c.requires.before

pub returns-clause-listed : goal.returns-clause-listed
returns-clause-listed c =
    let w = config c.args.site.now in
    let k = c.args.site.now.cluster.0 in
    a_read w k c.args.hart (shown c.args.parts.now) c.in-Some.line _ _ (subst (IsNeeded (λ q p. NeedsCopy w (hart_at w k c.args.hart) q p) w k (shown c.args.parts.now)) c.in-Some.is c.requires.needed) c.requires.before c.offer_needed_read.ensures.offers

pub offer_needed_read-requires-clause-needed : goal.offer_needed_read-requires-clause-needed
offer_needed_read-requires-clause-needed c = λ p shows.
    let w = config c.args.site.now in
    let k = c.args.site.now.cluster.0 in
    (subst (IsNeeded (λ q p. NeedsCopy w (hart_at w k c.args.hart) q p) w k (shown c.args.parts.now)) c.in-Some.is c.requires.needed p shows).0
