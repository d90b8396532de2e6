use Rattle.queue_lock.proofs.Counted.{calls_change_one_word}
use Rattle.queue_lock.proofs.laws.calls_change_one_word.Goals as goal

pub returns : goal.returns
returns c = calls_change_one_word
