-- The mnemonics of the table, each found again by its text.
use Rattle.std.proofs.Common.{◌≡◌, Bool, true, false, IsTrue, ℕ, List, [], ◌∷◌, ◌++◌, Option, Some, None, codes, map, if◌then◌else◌, ap, sym, ◌∙◌, arith}
use Rattle.std.specs.List.{flat_map}
use Rattle.dash_base.specs.Ranges.{has_immediate}
use Rattle.dash_base.specs.declared.ops.AluOp.{AluOp}
use Rattle.dash_base.specs.declared.ops.AluOp.TheVariants as alu
use Rattle.dash_base.specs.declared.ops.AmoOp.{AmoOp}
use Rattle.dash_base.specs.declared.ops.AmoOp.TheVariants as amo
use Rattle.dash_base.specs.declared.ops.BranchOp.{BranchOp}
use Rattle.dash_base.specs.declared.ops.BranchOp.TheVariants.{Beq, Bne, Blt, Bge, Bltu, Bgeu}
use Rattle.dash_base.specs.declared.ops.LoadOp.{LoadOp}
use Rattle.dash_base.specs.declared.ops.LoadOp.TheVariants.{Lb, Lh, Lw, Lbu, Lhu}
use Rattle.dash_base.specs.declared.ops.StoreOp.{StoreOp}
use Rattle.dash_base.specs.declared.ops.StoreOp.TheVariants.{Sb, Sh, Sw}
use Rattle.dash_base.specs.declared.need.HintKind.{HintKind}
use Rattle.dash_base.specs.declared.need.HintKind.TheVariants.{Fetch, Shared, Exclusive}
use Rattle.rv32_text.specs.Names.{branch_name, load_name, store_name, alu_name, immediate_name, amo_name, label_suffix, prefetch_name}
use Rattle.rv32_text.proofs.Tables.{is_same}
use Rattle.rv32_text.proofs.Words.{is_word}

-- what stands in front of the operands
pub data Mnemonic : Type 0 where
  lui : Mnemonic
  auipc : Mnemonic
  jal : Mnemonic
  jalr : Mnemonic
  branch : BranchOp → Mnemonic
  load : LoadOp → Mnemonic
  store : StoreOp → Mnemonic
  immediate : AluOp → Mnemonic
  registers : AluOp → Mnemonic
  atomic : AmoOp → Bool → Bool → Mnemonic
  fence : Mnemonic
  ecall : Mnemonic
  ebreak : Mnemonic
  prefetch : HintKind → Mnemonic

-- by the table
abbrev pub spelled : Mnemonic → List ℕ
spelled lui = codes "lui"
spelled auipc = codes "auipc"
spelled jal = codes "jal"
spelled jalr = codes "jalr"
spelled (branch op) = branch_name op
spelled (load op) = load_name op
spelled (store op) = store_name op
spelled (immediate op) = immediate_name op
spelled (registers op) = alu_name op
spelled (atomic op aq rl) = amo_name op ++ label_suffix aq rl
spelled fence = codes "fence"
spelled ecall = codes "ecall"
spelled ebreak = codes "ebreak"
spelled (prefetch kind) = prefetch_name kind

-- an operation that has no form with an immediate has no mnemonic of it
abbrev pub is_used : Mnemonic → Bool
is_used (immediate op) = has_immediate op
is_used _ = true

-- the mnemonics of an atomic operation, one for each of its labels
abbrev atomics_of : AmoOp → List Mnemonic
atomics_of op = atomic op false false ∷ atomic op true false ∷ atomic op false true ∷ atomic op true true ∷ []

abbrev immediates : List AluOp
immediates =
    alu.Add ∷ alu.Slt ∷ alu.Sltu ∷ alu.Xor ∷ alu.Or ∷ alu.And ∷ alu.Sll ∷ alu.Srl ∷ alu.Sra ∷ []

abbrev operations : List AluOp
operations =
    alu.Add ∷ alu.Sub ∷ alu.Sll ∷ alu.Slt ∷ alu.Sltu ∷ alu.Xor ∷ alu.Srl ∷ alu.Sra ∷ alu.Or ∷ alu.And
    ∷ alu.Mul ∷ alu.Mulh ∷ alu.Mulhsu ∷ alu.Mulhu ∷ alu.Div ∷ alu.Divu ∷ alu.Rem ∷ alu.Remu ∷ []

abbrev atomics : List AmoOp
atomics =
    amo.Lr ∷ amo.Sc ∷ amo.Swap ∷ amo.Add ∷ amo.Xor ∷ amo.And ∷ amo.Or ∷ amo.Min ∷ amo.Max ∷ amo.Minu ∷ amo.Maxu ∷ []

abbrev mnemonics : List Mnemonic
mnemonics =
    (lui ∷ auipc ∷ jal ∷ jalr ∷ fence ∷ ecall ∷ ebreak ∷ [])
    ++ map branch (Beq ∷ Bne ∷ Blt ∷ Bge ∷ Bltu ∷ Bgeu ∷ [])
    ++ map load (Lb ∷ Lh ∷ Lw ∷ Lbu ∷ Lhu ∷ [])
    ++ map store (Sb ∷ Sh ∷ Sw ∷ [])
    ++ map immediate immediates
    ++ map registers operations
    ++ map prefetch (Fetch ∷ Shared ∷ Exclusive ∷ [])
    ++ flat_map atomics_of atomics

-- the first mnemonic of a list with a text
abbrev found_in : List Mnemonic → List ℕ → Option Mnemonic
found_in [] text = None
found_in (m ∷ ms) text = if is_same (spelled m) text then Some m else found_in ms text

-- a mnemonic that is a word, and found again by it
record IsFound (m : Mnemonic) : Type 0 where
  word : is_word (spelled m) ≡ true
  again : found_in mnemonics (spelled m) ≡ Some m

found : (m : Mnemonic) → IsTrue (is_used m) → IsFound m
unfolding is_word
found m used = record { word = grind arith; again = grind arith }

-- a mnemonic has no space, comma or parenthesis
pub mnemonic_word : (m : Mnemonic) → IsTrue (is_used m) → is_word (spelled m) ≡ true
mnemonic_word m used = let is = found m used in is.word

the_mnemonic : (l m : Mnemonic) → Some l ≡ Some m → l ≡ m
the_mnemonic l m e = cc

-- no two mnemonics have one text
pub same_mnemonic : (l m : Mnemonic) → IsTrue (is_used l) → IsTrue (is_used m) → spelled l ≡ spelled m → l ≡ m
same_mnemonic l m l_used m_used e =
    let l_found = found l l_used in
    let m_found = found m m_used in
    the_mnemonic l m (sym l_found.again ∙ ap (found_in mnemonics) e ∙ m_found.again)
