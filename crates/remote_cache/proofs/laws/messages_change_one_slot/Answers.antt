use Rattle.remote_cache.proofs.Lawful.{messages_change_one_slot}
use Rattle.remote_cache.proofs.laws.messages_change_one_slot.Goals as goal

pub returns : goal.returns
returns c = messages_change_one_slot
