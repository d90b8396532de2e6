use Rattle.std.proofs.Common.{refl, slice_index}
use Rattle.workload_gen.specs.Workload.{counter_word}
use Rattle.workload_runs.proofs.LastStores.{kept, none_stored}
use Rattle.workload_runs.proofs.counters.note_store.Goals as goal

pub returns-in_default-counter_at-clause-each : goal.returns-in_default-counter_at-clause-each
returns-in_default-counter_at-clause-each c =
    λ k low. kept (slice_index c.args.counters.now.items k) (counter_word k) c.args.kind.now (none_stored (counter_word k) c.args.kind.now c.in-Store.access c.in-Store.is (c.in_default-counter_at.ensures.none refl k low))
