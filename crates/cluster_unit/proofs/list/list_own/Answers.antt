use Rattle.std.proofs.Common.{refl}
use Rattle.unit_rows.specs.Shown.{config, shown}
use Rattle.cluster_unit.proofs.InRange.{all_of_kind, all_asks, all_again, all_installs, all_listed}
use Rattle.cluster_unit.proofs.list.list_own.Goals as goal

pub list_by_number-requires-2-clause-before : goal.list_by_number-requires-2-clause-before
list_by_number-requires-2-clause-before c =
    all_of_kind (config c.args.site.now) c.args.site.now.cluster.0 (shown c.args.parts.now) c.requires.sized 1 _ _ refl c.list_by_number.ensures.listed

pub list_bus-requires-clause-before : goal.list_bus-requires-clause-before
list_bus-requires-clause-before c =
    all_of_kind (config c.args.site.now) c.args.site.now.cluster.0 (shown c.args.parts.now) c.requires.sized 2 _ _ refl c.list_by_number-2.ensures.listed

pub list_evictions-requires-clause-before : goal.list_evictions-requires-clause-before
list_evictions-requires-clause-before c =
    all_of_kind (config c.args.site.now) c.args.site.now.cluster.0 (shown c.args.parts.now) c.requires.sized 3 _ _ refl c.list_bus.ensures.listed

pub list_by_number-requires-3-clause-before : goal.list_by_number-requires-3-clause-before
list_by_number-requires-3-clause-before c =
    all_of_kind (config c.args.site.now) c.args.site.now.cluster.0 (shown c.args.parts.now) c.requires.sized 4 _ _ refl c.list_evictions.ensures.listed

pub list_by_number-requires-4-clause-before : goal.list_by_number-requires-4-clause-before
list_by_number-requires-4-clause-before c =
    all_asks (config c.args.site.now) c.args.site.now.cluster.0 (shown c.args.parts.now) c.requires.sized _ c.list_by_number-3.ensures.listed

pub list_by_number-requires-5-clause-before : goal.list_by_number-requires-5-clause-before
list_by_number-requires-5-clause-before c =
    all_again (config c.args.site.now) c.args.site.now.cluster.0 (shown c.args.parts.now) c.requires.sized _ _ c.used-used.ensures.used c.list_by_number-4.ensures.listed

pub list_grants-requires-clause-before : goal.list_grants-requires-clause-before
list_grants-requires-clause-before c =
    all_installs (config c.args.site.now) c.args.site.now.cluster.0 (shown c.args.parts.now) c.requires.sized _ _ c.used-used.ensures.used c.list_by_number-5.ensures.listed

pub returns-clause-lists : goal.returns-clause-lists
returns-clause-lists c =
    all_listed (config c.args.site.now) c.args.site.now.cluster.0 (shown c.args.parts.now) c.requires.sized _ c.list_grants.ensures.listed
