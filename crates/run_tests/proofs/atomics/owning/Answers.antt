use Rattle.std.proofs.Common.{arith}
use Rattle.unit_rows.specs.Shown.{config, shown}
use Rattle.run_tests.proofs.Owned.{owned_sized, pending_sized}
use Rattle.run_tests.proofs.atomics.owning.Goals as goal

pub returns-then-not-pending : goal.returns-then-not-pending
returns-then-not-pending g c = owned_sized (config c.args.site.now) c.args.site.now.cluster.0 0 0 (shown c.in_ok-parts.parts) _ c.install.new.self c.in_ok-parts.ensures c.install.ensures

pub returns : goal.returns
returns g c = pending_sized (config c.args.site.now) c.args.site.now.cluster.0 0 (shown c.in_ok-parts.parts) _ c.install.new.self c.begin.new.self c.in_ok-parts.ensures (omega (arith, c.args.site.now.topology.memory_in_range)) c.install.ensures c.begin.ensures
