-- Instructions of one spelling are alike: their mnemonics and operands are the same, and so their words are but for fences.
use Rattle.std.proofs.Common.{◌≡◌, ℕ, IsTrue, ◌∷◌, Option, Some, None, refl, ap, sym, ◌∙◌, arith}
use Rattle.dash_base.specs.declared.instr.Instr.{Instr}
use Rattle.dash_base.specs.declared.instr.Instr.TheVariants as instr
use Rattle.dash_base.specs.declared.instr.OpImm.{OpImm}
use Rattle.dash_base.specs.declared.ops.AluOp.{AluOp}
use Rattle.rv32_decode.specs.Hints.{prefetch_kind}
use Rattle.dash_base.specs.declared.need.HintKind.{HintKind}
use Rattle.rv32_decode.proofs.LawsOffered.{one_word}
use Rattle.rv32_text.specs.Alike.{AreAlike, same, fences}
use Rattle.rv32_text.specs.Text.{text_of}
use Rattle.rv32_text.proofs.Mnemonics.{Mnemonic, lui, auipc, jal, jalr, branch, load, store, immediate, registers, atomic, fence, ecall, ebreak, prefetch, is_used, same_mnemonic, spelled}
use Rattle.rv32_text.proofs.Operands.{immediate_mnemonic, mnemonic_of, operands_of}
use Rattle.rv32_text.proofs.Pieces.{same_set}
use Rattle.rv32_text.proofs.Prefetches.{one_immediate}
use Rattle.rv32_text.proofs.Rows.{words_of}
use Rattle.rv32_text.proofs.SameRow.{one_lui, one_auipc, one_jal, one_jalr, one_branch, one_load, one_store, one_op, one_amo}
use Rattle.rv32_text.proofs.Words.{words}

-- the row of a mnemonic; a prefetch stands in that of its operation
abbrev row : Mnemonic → ℕ
row lui = 0
row auipc = 1
row jal = 2
row jalr = 3
row (branch op) = 4
row (load op) = 5
row (store op) = 6
row (immediate op) = 7
row (prefetch kind) = 7
row (registers op) = 8
row (atomic op aq rl) = 9
row fence = 10
row ecall = 11
row ebreak = 12

row_immediate : (op : AluOp) (kind : Option HintKind) → row (immediate_mnemonic op kind) ≡ 7
row_immediate op kind = grind arith

alike : (i j : Instr) → mnemonic_of i ≡ mnemonic_of j → operands_of i ≡ operands_of j → AreAlike i j
alike (instr.Lui a) (instr.Lui b) name e = same _ _ (one_word _ _ (one_lui a b e))
alike (instr.Auipc a) (instr.Auipc b) name e = same _ _ (one_word _ _ (one_auipc a b e))
alike (instr.Jal a) (instr.Jal b) name e = same _ _ (one_word _ _ (one_jal a b e))
alike (instr.Jalr a) (instr.Jalr b) name e = same _ _ (one_word _ _ (one_jalr a b e))
alike (instr.Branch a) (instr.Branch b) name e = same _ _ (one_word _ _ (one_branch a b name e))
alike (instr.Load a) (instr.Load b) name e = same _ _ (one_word _ _ (one_load a b name e))
alike (instr.Store a) (instr.Store b) name e = same _ _ (one_word _ _ (one_store a b name e))
alike (instr.OpImm a) (instr.OpImm b) name e =
    same _ _ (one_word _ _ (one_immediate a b (prefetch_kind a) (prefetch_kind b) refl refl name e))
alike (instr.Op a) (instr.Op b) name e = same _ _ (one_word _ _ (one_op a b name e))
alike (instr.Amo a) (instr.Amo b) name e = same _ _ (one_word _ _ (one_amo a b name e))
alike (instr.Fence a) (instr.Fence b) name e =
    fences a b (same_set a.pred b.pred a.pred_in_range b.pred_in_range (cc)) (same_set a.succ b.succ a.succ_in_range b.succ_in_range (cc))
alike instr.Ecall instr.Ecall name e = same _ _ refl
alike instr.Ebreak instr.Ebreak name e = same _ _ refl
alike i j name e =
    absurd (let rows : row (mnemonic_of i) ≡ row (mnemonic_of j) = ap row name in omega (arith, row_immediate))

-- an operation with an immediate has such a form
used_immediate : (i : OpImm) (kind : Option HintKind) → IsTrue (is_used (immediate_mnemonic i.op kind))
used_immediate i None = i.has_form
used_immediate i (Some kind) = refl

used : (i : Instr) → IsTrue (is_used (mnemonic_of i))
used (instr.OpImm i) = used_immediate i (prefetch_kind i)
used _ = refl

same_words : (i j : Instr) → text_of i ≡ text_of j
    → spelled (mnemonic_of i) ∷ operands_of i ≡ spelled (mnemonic_of j) ∷ operands_of j
same_words i j e = sym (words_of i) ∙ ap words e ∙ words_of j

pub spellings_are_unique : (i j : Instr) → text_of i ≡ text_of j → AreAlike i j
spellings_are_unique i j e =
    let both = same_words i j e in
    alike i j (same_mnemonic _ _ (used i) (used j) (cc)) (cc)

pub alike_have_one_spelling : (i j : Instr) → AreAlike i j → text_of i ≡ text_of j
alike_have_one_spelling i j (same _ _ e) = ap text_of e
alike_have_one_spelling _ _ (fences f g pred succ) = cc
