use Rattle.flat_model.proofs.Numbers.{bytes_under-all_bytes}
use Rattle.flat_model.proofs.laws.words_are_their_bytes.Goals as goal

pub returns : goal.returns
returns c = bytes_under-all_bytes
