use Rattle.remote_cache.proofs.Using.{UsedSoFar}
use Rattle.remote_cache.proofs.search.used.Given as goal

abbrev pub invariant-loop-id : goal.invariant-loop-id
invariant-loop-id l = UsedSoFar l.slots l.id l.used
