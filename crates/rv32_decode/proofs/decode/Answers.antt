-- The answer is the instruction that has the word, since no other has it.
use Rattle.std.proofs.Common.{◌≡◌, ◌∙◌, ℕ, Option, Some, None, ap, sym}
use Rattle.dash_base.specs.declared.instr.Instr.{Instr}
use Rattle.rv32_decode.specs.Decoding.{IsDecoding}
use Rattle.rv32_decode.specs.Layout.{word_of}
use Rattle.rv32_decode.proofs.Unique.{one_word}
use Rattle.rv32_decode.proofs.decode.Goals as goal

only_decoding : (word : ℕ) (answer : Option Instr) → IsDecoding word answer
    → (i : Instr) → word_of i ≡ word → answer ≡ Some i
only_decoding word (Some j) decoding i e = ap Some (one_word j i (decoding ∙ sym e))
only_decoding word None decoding i e = absurd (decoding i e)

pub returns-clause-only : goal.returns-clause-only
returns-clause-only c = only_decoding c.args.word c.row.result c.row.ensures
