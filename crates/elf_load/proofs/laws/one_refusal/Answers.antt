use Rattle.elf_load.proofs.Decided.{one_refusal}
use Rattle.elf_load.proofs.laws.one_refusal.Goals as goal

pub returns : goal.returns
returns c = one_refusal
