use Rattle.rv32_text.proofs.Unique.{alike_have_one_spelling}
use Rattle.rv32_text.proofs.laws.alike_instructions_have_one_spelling.Goals as goal

pub returns : goal.returns
returns c = alike_have_one_spelling
