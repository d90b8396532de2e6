use Rattle.flat_model.proofs.Counting.{number_counts}
use Rattle.flat_model.proofs.laws.numbers_count.Goals as goal

pub returns : goal.returns
returns c = number_counts
