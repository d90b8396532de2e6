use Rattle.remote_cache.proofs.Lawful.{set_slots_stand}
use Rattle.remote_cache.proofs.laws.set_slots_stand.Goals as goal

pub returns : goal.returns
returns c = set_slots_stand
