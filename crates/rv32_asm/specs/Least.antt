-- The line that is refused is the least, and its cause the first.
use Rattle.std.specs.Prelude.{◌≡◌, ℕ, ◌+◌, List, [], ◌∷◌, ◌++◌, length, Option, Some, None}
use Rattle.rv32_asm.specs.Causes.{Definitions, cause_of, first_refusal, next}
use Rattle.rv32_asm.specs.Lines.{reading}
use Rattle.rv32_asm.specs.declared.here.Here.{Here}
use Rattle.rv32_asm.specs.declared.refusal.AsmCause.{AsmCause}
use Rattle.rv32_asm.specs.declared.refusal.AsmRefusal.TheVariants.{At}

-- what stands behind lines
unfoldable pub behind_lines : Here → List (List ℕ) → Here
behind_lines here [] = here
behind_lines here (l ∷ ls) = behind_lines (next here (reading l)) ls

-- a line among others, and those before it
pub record Stands (ls before : List (List ℕ)) (line : List ℕ) : Type 0 where
  pub rest : List (List ℕ)
  pub is : ls ≡ before ++ line ∷ rest

-- no line is refused
abbrev pub NoLineIsRefused : Definitions → Here → List (List ℕ) → Type 0
NoLineIsRefused labels here ls =
    (before : List (List ℕ)) (line : List ℕ) → Stands ls before line → cause_of labels (behind_lines here before) (reading line) ≡ None

-- this line is refused for this cause, and none before it
pub record IsLeastRefused (labels : Definitions) (here : Here) (ls : List (List ℕ)) (number : ℕ) (cause : AsmCause) : Type 0 where
  pub before : List (List ℕ)
  pub line : List ℕ
  pub stands : Stands ls before line
  pub accepted : NoLineIsRefused labels here before
  pub refused : cause_of labels (behind_lines here before) (reading line) ≡ Some cause
  pub counted : number ≡ here.line + length before

abbrev pub RefusalsAreLeast : Type 0
RefusalsAreLeast =
    (labels : Definitions) (here : Here) (ls : List (List ℕ)) (number : ℕ) (cause : AsmCause)
    → first_refusal labels here ls ≡ Some (At number cause) → IsLeastRefused labels here ls number cause

abbrev pub AcceptedLinesHaveNoCause : Type 0
AcceptedLinesHaveNoCause =
    (labels : Definitions) (here : Here) (ls : List (List ℕ)) → first_refusal labels here ls ≡ None → NoLineIsRefused labels here ls
