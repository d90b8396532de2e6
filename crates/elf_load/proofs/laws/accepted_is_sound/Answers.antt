use Rattle.elf_load.proofs.Sound.{sound}
use Rattle.elf_load.proofs.laws.accepted_is_sound.Goals as goal

pub returns : goal.returns
returns c = sound
