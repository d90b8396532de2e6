-- What the spelling of an instruction tells of it.
use Rattle.std.specs.Prelude.{◌≡◌}
use Rattle.dash_base.specs.declared.instr.Fence.{Fence}
use Rattle.dash_base.specs.declared.instr.Instr.{Instr}
use Rattle.dash_base.specs.declared.instr.Instr.TheVariants as instr
use Rattle.rv32_text.specs.Text.{text_of}

-- two instructions that are one, or differ at most in what a fence's spelling leaves out: its fm, rd and rs1
pub data AreAlike : Instr → Instr → Type 0 where
  same : (i j : Instr) → i ≡ j → AreAlike i j
  fences : (f g : Fence) → f.pred ≡ g.pred → f.succ ≡ g.succ → AreAlike (instr.Fence f) (instr.Fence g)

-- instructions of one spelling are alike
abbrev pub SpellingsAreUnique : Type 0
SpellingsAreUnique = (i j : Instr) → text_of i ≡ text_of j → AreAlike i j

-- and those that are alike have one spelling
abbrev pub AlikeInstructionsHaveOneSpelling : Type 0
AlikeInstructionsHaveOneSpelling = (i j : Instr) → AreAlike i j → text_of i ≡ text_of j
