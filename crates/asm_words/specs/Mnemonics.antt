-- The mnemonics and directives, each by its spelling.
use Rattle.std.specs.Prelude.{◌≡◌, ℕ, Bool, true, false, IsTrue, List, [], ◌∷◌, ◌++◌, ◌&&◌, Option, Some, None, codes, find, option_map, if◌then◌else◌}
use Rattle.std.specs.Str.{bytes_eq}
use Rattle.dash_base.specs.Ranges.{has_immediate}
use Rattle.dash_base.specs.declared.instr.Labels.{Labels}
use Rattle.dash_base.specs.declared.ops.AluOp.{AluOp}
use Rattle.dash_base.specs.declared.ops.AluOp.TheVariants as alu
use Rattle.dash_base.specs.declared.ops.AmoOp.{AmoOp}
use Rattle.dash_base.specs.declared.ops.AmoOp.TheVariants as amo
use Rattle.dash_base.specs.declared.ops.BranchOp.{BranchOp}
use Rattle.dash_base.specs.declared.ops.BranchOp.TheVariants.{Beq, Bne, Blt, Bge, Bltu, Bgeu}
use Rattle.dash_base.specs.declared.ops.LoadOp.{LoadOp}
use Rattle.dash_base.specs.declared.ops.LoadOp.TheVariants.{Lb, Lh, Lw, Lbu, Lhu}
use Rattle.dash_base.specs.declared.ops.StoreOp.{StoreOp}
use Rattle.dash_base.specs.declared.ops.StoreOp.TheVariants.{Sb, Sh, Sw}
use Rattle.dash_base.specs.declared.need.HintKind.{HintKind}
use Rattle.dash_base.specs.declared.need.HintKind.TheVariants.{Fetch, Shared, Exclusive}
use Rattle.rv32_text.specs.Names.{branch_name, load_name, store_name, alu_name, immediate_name, amo_name, label_suffix, prefetch_name}
use Rattle.asm_words.specs.declared.mnemonic.Mnemonic.{Mnemonic}
use Rattle.asm_words.specs.declared.mnemonic.Mnemonic.TheVariants as the

-- the spelling of one that stands alone; those of operations have none here
abbrev pub single_name : Mnemonic → List ℕ
single_name the.Lui = codes "lui"
single_name the.Auipc = codes "auipc"
single_name the.Jal = codes "jal"
single_name the.Jalr = codes "jalr"
single_name the.Fence = codes "fence"
single_name the.Ecall = codes "ecall"
single_name the.Ebreak = codes "ebreak"
single_name the.LoadImmediate = codes "li"
single_name the.LoadAddress = codes "la"
single_name the.Jump = codes "j"
single_name the.Nop = codes "nop"
single_name the.Move = codes "mv"
single_name the.Text = codes ".text"
single_name the.Data = codes ".data"
single_name the.Word = codes ".word"
single_name the.Space = codes ".space"
single_name the.Entry = codes ".entry"
single_name _ = []

-- how each is spelled
abbrev pub spelled : Mnemonic → List ℕ
spelled (the.Branch op) = branch_name op
spelled (the.Load op) = load_name op
spelled (the.Store op) = store_name op
spelled (the.Immediate op) = immediate_name op
spelled (the.Registers op) = alu_name op
spelled (the.Atomic op labels) = amo_name op ++ label_suffix labels.aq labels.rl
spelled (the.Prefetch kind) = prefetch_name kind
spelled m = single_name m

-- an operation that has no form with an immediate has no mnemonic of it
abbrev pub is_used : Mnemonic → Bool
is_used (the.Immediate op) = has_immediate op
is_used _ = true

abbrev pub branches : List BranchOp
branches = Beq ∷ Bne ∷ Blt ∷ Bge ∷ Bltu ∷ Bgeu ∷ []

abbrev pub loads : List LoadOp
loads = Lb ∷ Lh ∷ Lw ∷ Lbu ∷ Lhu ∷ []

abbrev pub stores : List StoreOp
stores = Sb ∷ Sh ∷ Sw ∷ []

abbrev pub immediates : List AluOp
immediates =
    alu.Add ∷ alu.Slt ∷ alu.Sltu ∷ alu.Xor ∷ alu.Or ∷ alu.And ∷ alu.Sll ∷ alu.Srl ∷ alu.Sra ∷ []

abbrev pub operations : List AluOp
operations =
    alu.Add ∷ alu.Sub ∷ alu.Sll ∷ alu.Slt ∷ alu.Sltu ∷ alu.Xor ∷ alu.Srl ∷ alu.Sra ∷ alu.Or ∷ alu.And
    ∷ alu.Mul ∷ alu.Mulh ∷ alu.Mulhsu ∷ alu.Mulhu ∷ alu.Div ∷ alu.Divu ∷ alu.Rem ∷ alu.Remu ∷ []

abbrev pub atomics : List AmoOp
atomics =
    amo.Lr ∷ amo.Sc ∷ amo.Swap ∷ amo.Add ∷ amo.Xor ∷ amo.And ∷ amo.Or ∷ amo.Min ∷ amo.Max ∷ amo.Minu ∷ amo.Maxu ∷ []

abbrev pub prefetches : List HintKind
prefetches = Fetch ∷ Shared ∷ Exclusive ∷ []

-- those that stand alone
abbrev pub singles : List Mnemonic
singles =
    the.Lui ∷ the.Auipc ∷ the.Jal ∷ the.Jalr ∷ the.Fence ∷ the.Ecall ∷ the.Ebreak ∷ the.LoadImmediate ∷ the.LoadAddress
    ∷ the.Jump ∷ the.Nop ∷ the.Move ∷ the.Text ∷ the.Data ∷ the.Word ∷ the.Space ∷ the.Entry ∷ []

-- the first that is there
abbrev pub either : {A : Type 0} → Option A → Option A → Option A
either (Some a) other = Some a
either None other = other

unfoldable pub single_of : List ℕ → Option Mnemonic
single_of word = find (λ m. bytes_eq (single_name m) word) singles

unfoldable pub branch_of : List ℕ → Option BranchOp
branch_of word = find (λ op. bytes_eq (branch_name op) word) branches

unfoldable pub load_of : List ℕ → Option LoadOp
load_of word = find (λ op. bytes_eq (load_name op) word) loads

unfoldable pub store_of : List ℕ → Option StoreOp
store_of word = find (λ op. bytes_eq (store_name op) word) stores

unfoldable pub immediate_of : List ℕ → Option AluOp
immediate_of word = find (λ op. has_immediate op && bytes_eq (immediate_name op) word) immediates

unfoldable pub operation_of : List ℕ → Option AluOp
operation_of word = find (λ op. bytes_eq (alu_name op) word) operations

unfoldable pub prefetch_of : List ℕ → Option HintKind
prefetch_of word = find (λ kind. bytes_eq (prefetch_name kind) word) prefetches

unfoldable pub labelled_of : Labels → List ℕ → Option AmoOp
labelled_of labels word = find (λ op. bytes_eq (amo_name op ++ label_suffix labels.aq labels.rl) word) atomics

abbrev pub labels_with : Bool → Bool → Labels
labels_with aq rl = record { aq = aq; rl = rl }

abbrev pub atomic_with : Labels → List ℕ → Option Mnemonic
atomic_with labels word = option_map (λ op. the.Atomic op labels) (labelled_of labels word)

unfoldable pub atomic_of : List ℕ → Option Mnemonic
atomic_of word =
    either (atomic_with (labels_with false false) word)
    (either (atomic_with (labels_with true false) word)
    (either (atomic_with (labels_with false true) word)
    (atomic_with (labels_with true true) word)))

-- the mnemonic or directive that a word spells
unfoldable pub mnemonic_of : List ℕ → Option Mnemonic
mnemonic_of word =
    either (single_of word)
    (either (option_map the.Branch (branch_of word))
    (either (option_map the.Load (load_of word))
    (either (option_map the.Store (store_of word))
    (either (option_map the.Immediate (immediate_of word))
    (either (option_map the.Registers (operation_of word))
    (either (option_map the.Prefetch (prefetch_of word))
    (atomic_of word)))))))
