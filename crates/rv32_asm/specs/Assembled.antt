-- The answers of the assembler.
use Rattle.std.specs.Prelude.{◌≡◌, ℕ, List, None, Some, ⊤}
use Rattle.elf_load.specs.Image.{ImageView}
use Rattle.rv32_asm.specs.Causes.{Definitions, first_refusal, start}
use Rattle.rv32_asm.specs.Labels.{definitions, lines}
use Rattle.rv32_asm.specs.Programs.{program_by}
use Rattle.rv32_asm.specs.declared.refusal.AsmRefusal.{AsmRefusal}
use Rattle.rv32_asm.specs.declared.refusal.AsmRefusal.TheVariants.{At, OutOfMemory}

-- no line is refused, and this is the program that the lines say
pub record IsAssembledBy (labels : Definitions) (source : List ℕ) (program : ImageView) : Type 0 where
  pub accepted : first_refusal labels start (lines source) ≡ None
  pub is : program ≡ program_by labels (lines source)

-- this is the least line that is refused, with its first cause
abbrev pub IsRefusedBy : Definitions → List ℕ → AsmRefusal → Type 0
IsRefusedBy labels source (At line cause) = first_refusal labels start (lines source) ≡ Some (At line cause)
IsRefusedBy labels source OutOfMemory = ⊤

-- the same with the labels that the source defines
abbrev pub IsAssembled : List ℕ → ImageView → Type 0
IsAssembled source program = IsAssembledBy (definitions source) source program

abbrev pub IsRefused : List ℕ → AsmRefusal → Type 0
IsRefused source refusal = IsRefusedBy (definitions source) source refusal
