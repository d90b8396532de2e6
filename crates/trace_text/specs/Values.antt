-- What a word stands for, if it stands for something of its kind.
use Rattle.std.specs.Prelude.{ℕ, ◌%◌, ◌^◌, ◌||◌, List, codes, Option, Some, None, if◌then◌else◌}
use Rattle.std.specs.Str.{bytes_eq}
use Rattle.std.specs.Str.Parse.{digits_value}
use Rattle.dash_base.specs.declared.end.Trap.{Trap}
use Rattle.dash_base.specs.declared.end.Trap.TheVariants as trap
use Rattle.dash_base.specs.declared.id.ClusterId.{ClusterId}
use Rattle.dash_base.specs.declared.id.HartId.{HartId}
use Rattle.dash_base.specs.declared.id.LineId.{LineId}
use Rattle.dash_base.specs.declared.id.WordAddr.{WordAddr}
use Rattle.dash_base.specs.declared.instr.Labels.{Labels}
use Rattle.dash_event.specs.declared.access.Op.{Op}
use Rattle.dash_event.specs.declared.access.Op.TheVariants as op

-- the digits' value, of which the low 64 bits are kept
unfoldable pub value_of : ℕ → List ℕ → ℕ
value_of radix word = digits_value radix word % 2 ^ 64

-- a decimal number of 32 bits
abbrev pub number_of : List ℕ → ℕ
number_of word = value_of 10 word % 2 ^ 32

-- a hexadecimal number of 32 bits
abbrev pub hex_of : List ℕ → ℕ
hex_of word = value_of 16 word % 2 ^ 32

abbrev pub hart_of : List ℕ → HartId
hart_of word = record { 0 = number_of word }

abbrev pub cluster_of : List ℕ → ClusterId
cluster_of word = record { 0 = number_of word }

abbrev pub line_of : List ℕ → LineId
line_of word = record { 0 = number_of word }

abbrev pub address_of : List ℕ → WordAddr
address_of word = record { 0 = hex_of word }

-- a word of memory, or none where `-` stands
unfoldable pub content_of : List ℕ → Option ℕ
content_of word = if bytes_eq word (codes "-") then None else Some (hex_of word)

-- a number, or none where `-` stands
unfoldable pub slot_of : List ℕ → Option ℕ
slot_of word = if bytes_eq word (codes "-") then None else Some (number_of word)

-- by the names of operations
unfoldable pub op_of : List ℕ → Op
op_of word =
    if bytes_eq word (codes "load") then op.Load
    else if bytes_eq word (codes "store") then op.Store
    else if bytes_eq word (codes "lr") then op.Reserve
    else if bytes_eq word (codes "sc") then op.Cond
    else if bytes_eq word (codes "amo") then op.Amo
    else if bytes_eq word (codes "ask") then op.Ask
    else op.Unlock

-- by the names of labels
unfoldable pub labels_of : List ℕ → Labels
labels_of word =
    record { aq = bytes_eq word (codes "a") || bytes_eq word (codes "ar"); rl = bytes_eq word (codes "r") || bytes_eq word (codes "ar") }

-- by the names of traps' causes
unfoldable pub cause_of : List ℕ → Trap
cause_of word =
    if bytes_eq word (codes "illegal") then trap.Illegal
    else if bytes_eq word (codes "misaligned") then trap.Misaligned
    else if bytes_eq word (codes "unmapped") then trap.Unmapped
    else if bytes_eq word (codes "readonly") then trap.ReadOnly
    else if bytes_eq word (codes "fetch") then trap.Fetch
    else if bytes_eq word (codes "lockuse") then trap.LockUse
    else if bytes_eq word (codes "badcall") then trap.BadCall
    else trap.Break
