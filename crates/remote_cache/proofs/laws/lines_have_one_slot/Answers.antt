use Rattle.remote_cache.proofs.Lawful.{lines_have_one_slot}
use Rattle.remote_cache.proofs.laws.lines_have_one_slot.Goals as goal

pub returns : goal.returns
returns c = lines_have_one_slot
