use Rattle.std.proofs.Common.{◌∙◌, sym, subst, arith}
use Rattle.unit_rows.specs.Shown.{config, shown}
use Rattle.cluster_unit.specs.Listing.{HasListed, IsBelow}
use Rattle.cluster_unit.proofs.LockListing.{none_wait, one_grant}
use Rattle.cluster_unit.proofs.grants.list_grants.Goals as goal

pub loop-number-preserved : goal.loop-number-preserved
loop-number-preserved c = (
  one_grant (config c.args.site.now) c.args.site.now.cluster.0 c.loop-number.number (shown c.args.parts.now) _ _ c.loop-number.invariant.0 c.offer_grant.ensures.offers,
  grind arith,
  c.offer_grant.ensures.room ∙ c.loop-number.invariant.2,
  grind arith,
)

pub returns-then-waiting-eq0-clause-listed : goal.returns-then-waiting-eq0-clause-listed
returns-then-waiting-eq0-clause-listed c =
    none_wait (config c.args.site.now) c.args.site.now.cluster.0 _ (shown c.args.parts.now) _ c.requires.sized (sym c.waiting.ensures ∙ c.if-waiting-eq0.true) c.requires.before

pub returns-clause-listed : goal.returns-clause-listed
returns-clause-listed c =
    let past = c.loop-number-test.false in
    let low = c.loop-number.invariant.3 in
    subst (λ n. HasListed (config c.args.site.now) c.args.site.now.cluster.0 (shown c.args.parts.now) (IsBelow 8 n) c.loop-number.choices.items) (grind arith) c.loop-number.invariant.0
