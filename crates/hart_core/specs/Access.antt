-- Accesses to data: how wide they are, which of them trap, and which bytes of a word they mean.
use Rattle.std.specs.Prelude.{◌≡◌, ℕ, ◌+◌, ◌-◌, ◌*◌, ◌/◌, ◌%◌, ◌^◌, ◌≤◌, ◌==◌, Bool, true, false, not, ◌&&◌, nat_lt, nat_le, if◌then◌else◌, Option, Some, None}
use Rattle.dash_base.specs.declared.end.End.TheVariants.{Trapped}
use Rattle.dash_base.specs.declared.end.Trap.{Trap}
use Rattle.dash_base.specs.declared.end.Trap.TheVariants as trap
use Rattle.dash_base.specs.declared.instr.Labels.{Labels}
use Rattle.dash_base.specs.declared.ops.AmoOp.{AmoOp}
use Rattle.dash_base.specs.declared.ops.AmoOp.TheVariants.{Lr, Swap}
use Rattle.dash_base.specs.declared.ops.LoadOp.{LoadOp}
use Rattle.dash_base.specs.declared.ops.LoadOp.TheVariants.{Lb, Lh, Lw, Lbu, Lhu}
use Rattle.dash_base.specs.declared.ops.StoreOp.{StoreOp}
use Rattle.dash_base.specs.declared.ops.StoreOp.TheVariants.{Sb, Sh, Sw}
use Rattle.dash_base.specs.declared.topology.Topology.{Topology}
use Rattle.elf_load.specs.Image.{ImageView, is_writable}
use Rattle.hart_core.specs.HartState.{is_running}
use Rattle.hart_core.specs.declared.width.Width.{Width}
use Rattle.hart_core.specs.declared.width.Width.TheVariants as width
use Rattle.dash_base.specs.declared.need.Need.{Need}
use Rattle.dash_base.specs.declared.need.Need.TheVariants.{Stop, Load, Store, Rmw, Ask, Unlock}

-- how many bytes an access means
abbrev pub size_of : Width → ℕ
size_of width.Byte = 1
size_of width.Half = 2
size_of width.Word = 4

abbrev pub load_width : LoadOp → Width
load_width Lb = width.Byte
load_width Lh = width.Half
load_width Lw = width.Word
load_width Lbu = width.Byte
load_width Lhu = width.Half

abbrev pub store_width : StoreOp → Width
store_width Sb = width.Byte
store_width Sh = width.Half
store_width Sw = width.Word

-- the address of the word that has an address, and the place of that byte in it
abbrev pub word_address : ℕ → ℕ
word_address a = a - a % 4

abbrev pub place_in_word : ℕ → ℕ
place_in_word a = a % 4

-- the mask of so many bytes from a place on
abbrev pub mask_at : ℕ → ℕ → ℕ
mask_at place size = (2 ^ size - 1) * 2 ^ place

-- memory has so many bytes from an address on
abbrev pub in_memory : Topology → ℕ → ℕ → Bool
in_memory t a size = nat_le t.base a && nat_le (a + size) (t.base + t.memory)

-- an address is in the lock region, which follows memory
abbrev pub in_locks : Topology → ℕ → Bool
in_locks t a = nat_le (t.base + t.memory) a && nat_lt a (t.base + t.memory + 4 * t.locks)

-- the first trap of an access that is no use of a lock word, in this order; `is_write` says whether it may write
abbrev pub access_trap : ImageView → Topology → Bool → ℕ → ℕ → Option Trap
access_trap image t is_write a size =
    if not (a % size == 0) then Some trap.Misaligned
    else (if in_locks t a then Some trap.LockUse
    else (if not (in_memory t a size) then Some trap.Unmapped
    else (if is_write && not (is_writable image a size) then Some trap.ReadOnly
    else None)))

-- a trap with an address, or else a need
abbrev pub trap_or : Option Trap → ℕ → Need → Need
trap_or (Some cause) a need = Stop (Trapped cause a)
trap_or None a need = need

-- what a load of so many bytes needs
abbrev pub load_need : ImageView → Topology → ℕ → Width → Need
load_need image t a w =
    trap_or (access_trap image t false a (size_of w)) a (Load (record { 0 = word_address a }) (mask_at (place_in_word a) (size_of w)) (record { aq = false; rl = false }) false)

-- the low bytes of a value, at a place in a word
abbrev pub placed : ℕ → ℕ → ℕ → ℕ
placed place size value = value % 2 ^ (8 * size) * 2 ^ (8 * place)

-- what a store of the low bytes of a value needs
abbrev pub store_need : ImageView → Topology → ℕ → Width → ℕ → Need
store_need image t a w value =
    trap_or (access_trap image t true a (size_of w)) a (Store (record { 0 = word_address a }) (mask_at (place_in_word a) (size_of w)) (placed (place_in_word a) (size_of w) value))

-- what LR needs: it only reads, so it may be in a segment that may not be written
abbrev pub reserve_need : ImageView → Topology → ℕ → Labels → Need
reserve_need image t a labels =
    trap_or (access_trap image t false a 4) a (Load (record { 0 = a }) 15 labels true)

abbrev pub is_swap : AmoOp → Bool
is_swap Swap = true
is_swap _ = false

-- AMOSWAP with aq alone and an operand asks for a lock word
abbrev pub is_ask : AmoOp → Labels → ℕ → Bool
is_ask op labels operand = is_swap op && labels.aq && not labels.rl && not (operand == 0)

-- AMOSWAP with rl alone and operand 0 gives one back
abbrev pub is_unlock : AmoOp → Labels → ℕ → Bool
is_unlock op labels operand = is_swap op && not labels.aq && labels.rl && (operand == 0)

-- what SC or another atomic operation needs of a lock word: it is one of these two uses, or traps
abbrev pub lock_need : ℕ → AmoOp → Labels → ℕ → Need
lock_need a op labels operand =
    if is_ask op labels operand then Ask (record { 0 = a }) operand
    else (if is_unlock op labels operand then Unlock (record { 0 = a })
    else Stop (Trapped trap.LockUse a))

-- what SC or another atomic operation needs; one that must fail traps all the same
abbrev pub rmw_need : ImageView → Topology → ℕ → AmoOp → Labels → ℕ → Need
rmw_need image t a op labels operand =
    if (a % 4 == 0) && in_locks t a then lock_need a op labels operand
    else trap_or (access_trap image t true a 4) a (Rmw (record { 0 = a }) op operand labels)

-- what an atomic operation needs
abbrev pub amo_need : ImageView → Topology → ℕ → AmoOp → Labels → ℕ → Need
amo_need image t a Lr labels operand = reserve_need image t a labels
amo_need image t a op labels operand = rmw_need image t a op labels operand

-- so many bytes of a word, from a place on
abbrev pub bytes_at : ℕ → ℕ → ℕ → ℕ
bytes_at place size word = word / 2 ^ (8 * place) % 2 ^ (8 * size)

-- a number of so many bits, whose highest is its sign, in 32 bits
abbrev pub sign_extended : ℕ → ℕ → ℕ
sign_extended width n = if nat_lt n (2 ^ (width - 1)) then n else n + (2 ^ 32 - 2 ^ width)

-- what a load gives from the word that it finds
abbrev pub loaded : LoadOp → ℕ → ℕ → ℕ
loaded Lb a word = sign_extended 8 (bytes_at (place_in_word a) 1 word)
loaded Lh a word = sign_extended 16 (bytes_at (place_in_word a) 2 word)
loaded Lw a word = word
loaded Lbu a word = bytes_at (place_in_word a) 1 word
loaded Lhu a word = bytes_at (place_in_word a) 2 word

-- so many bytes from an address on are aligned and in memory
pub record IsInMemory (t : Topology) (a size : ℕ) : Type 0 where
  pub aligned : a % size ≡ 0
  pub above : t.base ≤ a
  pub below : a + size ≤ t.base + t.memory

-- an address is that of a lock word
pub record IsLockWord (t : Topology) (a : ℕ) : Type 0 where
  pub aligned : a % 4 ≡ 0
  pub above : t.base + t.memory ≤ a
  pub below : a + 4 ≤ t.base + t.memory + 4 * t.locks

-- what is needed of memory is a word of it, what is needed of the lock region is a lock word, and an end is one
abbrev pub IsProper : Topology → Need → Type 0
IsProper t (Load word mask labels reserve) = IsInMemory t word.0 4
IsProper t (Store word mask value) = IsInMemory t word.0 4
IsProper t (Rmw word op operand labels) = IsInMemory t word.0 4
IsProper t (Ask word value) = IsLockWord t word.0
IsProper t (Unlock word) = IsLockWord t word.0
IsProper t (Stop end) = is_running end ≡ false
IsProper t _ = Unit {0}
