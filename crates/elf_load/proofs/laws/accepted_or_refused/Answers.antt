use Rattle.elf_load.proofs.Decided.{decided}
use Rattle.elf_load.proofs.laws.accepted_or_refused.Goals as goal

pub returns : goal.returns
returns c = decided
