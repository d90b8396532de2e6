use Rattle.std.proofs.Common.{rules}
use Rattle.unit_rows.specs.Shown.{config, shown}
use Rattle.cluster_unit.proofs.LockListing.{not_own}
use Rattle.cluster_unit.proofs.grants.offer_grant.Goals as goal

pub returns-then-not-is_own-clause-offers : goal.returns-then-not-is_own-clause-offers
returns-then-not-is_own-clause-offers c =
    not_own (config c.args.site.now) c.args.site.now.cluster.0 c.args.number (shown c.args.parts.now) _ c.requires.sized (let f = c.if-not-is_own.true in let e = c.is_own.ensures in search rules)
