use Rattle.rv32_text.proofs.Unique.{spellings_are_unique}
use Rattle.rv32_text.proofs.laws.spellings_are_unique.Goals as goal

pub returns : goal.returns
returns c = spellings_are_unique
