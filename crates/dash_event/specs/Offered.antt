-- The access that an instruction makes, from what its hart needs and from what stands in the word.
use Rattle.std.specs.Prelude.{ℕ, Bool, true, false, if◌then◌else◌, Option, Some, None}
use Rattle.dash_base.specs.Words.{merged}
use Rattle.dash_base.specs.declared.id.WordAddr.{WordAddr}
use Rattle.dash_base.specs.declared.instr.Labels.{Labels}
use Rattle.dash_base.specs.declared.ops.AmoOp.{AmoOp}
use Rattle.dash_base.specs.declared.ops.AmoOp.TheVariants.{Sc}
use Rattle.dash_event.specs.declared.access.Access.{Access}
use Rattle.dash_event.specs.declared.access.Op.{Op}
use Rattle.dash_event.specs.declared.access.Op.TheVariants as op
use Rattle.dash_event.specs.declared.access.Seen.TheVariants.{Nothing}
use Rattle.rv32_alu.specs.Arithmetic.{amo_value}
use Rattle.dash_base.specs.declared.need.Need.{Need}
use Rattle.dash_base.specs.declared.need.Need.TheVariants.{Load, Store, Rmw, Ask, Unlock}

-- the mask of all four bytes of a word
abbrev pub all_bytes : ℕ
all_bytes = 15

-- the bytes of a word under a mask, in their places, with zeros outside it
abbrev pub bytes_under : ℕ → ℕ → ℕ
bytes_under mask word = merged 0 mask word

-- the labels of a plain access
abbrev pub no_label : Labels
no_label = record { aq = false; rl = false }

-- the labels of an Ask
abbrev pub acquire_label : Labels
acquire_label = record { aq = true; rl = false }

-- the labels of an Unlock
abbrev pub release_label : Labels
release_label = record { aq = false; rl = true }

-- an access of a whole word by the instruction of this number of hart h, without labels, that neither reads nor writes
abbrev pub bare_access : ℕ → ℕ → Op → WordAddr → Access
bare_access h number kind word = record {
  hart = record { 0 = h };
  number = number;
  op = kind;
  labels = no_label;
  word = word;
  mask = all_bytes;
  read = None;
  written = None;
  seen = Nothing;
}

-- LR reserves the word that it loads
abbrev pub load_op : Bool → Op
load_op reserve = if reserve then op.Reserve else op.Load

-- an atomic operation: an SC reads nothing, and writes its operand where it succeeds; any other reads the word and writes what it makes of it
abbrev pub rmw_access : Access → AmoOp → ℕ → ℕ → Bool → Access
rmw_access a Sc operand old succeeds =
    record a { op = op.Cond; written = if succeeds then Some operand else None }
rmw_access a amo operand old succeeds =
    record a { op = op.Amo; read = Some (bytes_under all_bytes old); written = Some (amo_value amo (bytes_under all_bytes old) operand) }

-- the access of the instruction of this number of hart h, where the hart needs this, old is what the word holds, and an SC succeeds or fails; none where the instruction accesses no word
abbrev pub offered : ℕ → ℕ → Need → ℕ → Bool → Option Access
offered h number (Load word mask labels reserve) old succeeds =
    Some (record (bare_access h number (load_op reserve) word) { labels = labels; mask = mask; read = Some (bytes_under mask old) })
offered h number (Store word mask value) old succeeds =
    Some (record (bare_access h number op.Store word) { mask = mask; written = Some value })
offered h number (Rmw word amo operand labels) old succeeds =
    Some (rmw_access (record (bare_access h number op.Amo word) { labels = labels }) amo operand old succeeds)
offered h number (Ask word value) old succeeds =
    Some (record (bare_access h number op.Ask word) { labels = acquire_label; read = Some 0; written = Some value })
offered h number (Unlock word) old succeeds =
    Some (record (bare_access h number op.Unlock word) { labels = release_label; read = Some old; written = Some 0 })
offered h number _ old succeeds = None
