-- How far the loader has come: no refusal of a lower number applies.
use Rattle.std.specs.Prelude.{◌<◌, ℕ, List}
use Rattle.elf_load.specs.Refusal.{Applies, number_of}
use Rattle.elf_load.specs.declared.memory_map.MemoryMap.{MemoryMap}
use Rattle.elf_load.specs.declared.refusal.LoadRefusal.{LoadRefusal}

pub record IsClear (number : ℕ) (bytes : List ℕ) (map : MemoryMap) : Type 0 where
  pub none_before : (other : LoadRefusal) → number_of other < number → Applies bytes map other → ⊥
