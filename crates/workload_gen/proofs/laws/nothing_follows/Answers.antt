use Rattle.std.proofs.Common.{refl}
use Rattle.elf_load.specs.Image.{fetched}
use Rattle.workload_gen.proofs.laws.nothing_follows.Goals as goal

pub returns : goal.returns
unfolding fetched
returns c = λ seed. refl
