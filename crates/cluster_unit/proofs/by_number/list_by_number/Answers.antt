use Rattle.std.proofs.Common.{◌∙◌, ap, subst, arith}
use Rattle.unit_rows.specs.Shown.{config, shown}
use Rattle.cluster_unit.specs.Enabling.{is_take}
use Rattle.cluster_unit.specs.Listing.{HasListed, IsBelow, place_of}
use Rattle.cluster_unit.proofs.Offering.{is_own, one_numbered}
use Rattle.cluster_unit.proofs.by_number.list_by_number.Goals as goal

pub offer-requires-clause-own : goal.offer-requires-clause-own
offer-requires-clause-own c = ap is_take c.choice.ensures ∙ is_own c.args.kind c.loop-number.number

pub loop-number-preserved : goal.loop-number-preserved
loop-number-preserved c = (
  one_numbered (config c.args.site.now) c.args.site.now.cluster.0 (shown c.args.parts.now) c.args.kind c.loop-number.number _ _ _ c.choice.ensures c.loop-number.invariant.0 c.offer.ensures.offers,
  grind arith,
  c.offer.ensures.room ∙ c.loop-number.invariant.2,
  grind arith,
)

pub returns-clause-listed : goal.returns-clause-listed
returns-clause-listed c =
    let past = c.loop-number-test.false in
    let low = c.loop-number.invariant.3 in
    subst (λ n. HasListed (config c.args.site.now) c.args.site.now.cluster.0 (shown c.args.parts.now) (IsBelow (place_of c.args.kind) n) c.loop-number.choices.items) (grind arith) c.loop-number.invariant.0
