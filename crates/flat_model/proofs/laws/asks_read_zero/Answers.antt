use Rattle.flat_model.proofs.Seen.{ask_reads_zero}
use Rattle.flat_model.proofs.laws.asks_read_zero.Goals as goal

pub returns : goal.returns
returns c = ask_reads_zero
