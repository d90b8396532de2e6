-- What each event of a hart's instruction needs of its cluster's part, by the rows of the table in their order. Its fields are those of the state.
use Rattle.std.specs.Prelude.{◌≡◌, ◌≢◌, ◌⊎◌, ℕ, ◌+◌, ◌%◌, ◌<◌, Bool, true, false, cond, Option, None, Some, List, [], ◌∷◌, length}
use Rattle.dash_base.specs.declared.ops.AmoOp.{AmoOp}
use Rattle.dash_base.specs.declared.ops.AmoOp.TheVariants.{Sc}
use Rattle.dash_base.specs.declared.instr.Labels.{Labels}
use Rattle.dash_msg.specs.declared.msg.Msg.{Msg}
use Rattle.dash_msg.specs.declared.msg.Msg.TheVariants.{LockAsk, Unlock}
use Rattle.dash_event.specs.Records.{unseen}
use Rattle.dash_event.specs.declared.access.Access.{Access}
use Rattle.dash_event.specs.declared.access.Seen.{Seen}
use Rattle.dash_event.specs.declared.access.Seen.TheVariants as seen
use Rattle.dash_base.specs.declared.need.HintKind.{HintKind}
use Rattle.write_buffer.specs.Look.{newest_of, look_by}
use Rattle.write_buffer.specs.declared.entry.Entry.{Entry as Stored}
use Rattle.write_buffer.specs.declared.entry.Look.{Look}
use Rattle.write_buffer.specs.declared.entry.Look.TheVariants.{None as NoStore, Hit, Wait}
use Rattle.hart_core.specs.Meaning.{Needs, Does}
use Rattle.dash_base.specs.declared.need.Need.{Need}
use Rattle.dash_base.specs.declared.need.Need.TheVariants as needed
use Rattle.dash_event.specs.Offered.{offered}
use Rattle.dash_event.specs.Effects.{reply}
use Rattle.dash_model.specs.Maps.{raised, most}
use Rattle.dash_model.specs.Config.{Config, hart_id, cluster_of, line_at, front_slot}
use Rattle.dash_model.specs.Cell.{NoAcks}
use Rattle.dash_model.specs.Part.{Part}
use Rattle.dash_model.specs.HartRows.{HartEffect, is_line}
use Rattle.dash_model.specs.Words.{held_by, in_m, content, word_in, Unowed, IsEmptySlot}
use Rattle.dash_model.specs.Wants.{Opens}

-- hart h is of cluster c, and does its next instruction, which needs this, with this answer
pub record Retires (w : Config) (c h : ℕ) (need : Need) (answer : ℕ) (d : HartEffect) (p : Part) : Type 0 where
  pub mine : cluster_of w h ≡ c
  pub need_is : d.need ≡ need
  pub does : Does w.image w.top (p.harts h).core d.need answer d.next

-- the same of an instruction that accesses no word, at this pc
pub record RetiresAt (w : Config) (c h pc : ℕ) (need : Need) (d : HartEffect) (p : Part) : Type 0 where
  pub retires : Retires w c h need 0 d p
  pub pc_is : pc ≡ (p.harts h).core.pc

-- the number of the hart's next instruction
abbrev pub number_of : ℕ → Part → ℕ
number_of h p = (p.harts h).core.retired + 1

-- the access of the instruction of this number, where its word holds `old`, and what it was shown
pub record IsAccess (h number : ℕ) (need : Need) (old : ℕ) (succeeds : Bool) (shown : Seen) (a : Access) : Type 0 where
  pub made : Some (unseen a) ≡ offered h number need old succeeds
  pub seen_is : a.seen ≡ shown

-- no store waits, and no acknowledgement is owed to the hart
pub record Drained (h : ℕ) (p : Part) : Type 0 where
  pub buffer : (p.harts h).buffer ≡ []
  pub unowed : Unowed h p

-- Fence: one that waits needs both
pub record FenceFits (w : Config) (c h pc : ℕ) (d : HartEffect) (p : Part) : Type 0 where
  pub waits : Bool
  pub next : RetiresAt w c h pc (needed.Fence waits) d p
  pub passes : (waits ≡ false) ⊎ Drained h p

-- the slot of a hint is the one that it opens, or none where it opens none
abbrev pub SlotIs : Config → HintKind → ℕ → Option ℕ → Part → Type 0
SlotIs w kind address (Some n) p = Opens w kind address n p
SlotIs w kind address None p = (n : ℕ) → Opens w kind address n p → ⊥

-- Hint: its slot is the one that it opens
pub record HintFits (w : Config) (c h pc : ℕ) (slot : Option ℕ) (d : HartEffect) (p : Part) : Type 0 where
  pub kinds : HintKind
  pub address : ℕ
  pub next : RetiresAt w c h pc (needed.Hint kinds address) d p
  pub opens : SlotIs w kinds address slot p

-- the level that a line is read at: 1 where L1 has it, else 2
abbrev pub level_of : Config → ℕ → (ℕ → Option ℕ) → ℕ
level_of w l l1 = cond (is_line l (l1 (l % w.top.l1))) 1 2

-- from a store that waits: level 0, and that store is shown
pub record FromBuffer (w : Config) (value number : ℕ) (a : Access) (level : ℕ) (reserve : Bool) (d : HartEffect) (p : Part) : Type 0 where
  pub plain : reserve ≡ false
  pub level_is : level ≡ 0
  pub access : IsAccess a.hart.0 (number_of a.hart.0 p) d.need value false (seen.Own number) a

-- from the cluster's copy, of which the hart is a holder
pub record FromCopy (w : Config) (a : Access) (level : ℕ) (d : HartEffect) (p : Part) : Type 0 where
  pub holder : held_by a.hart.0 (p.cells (line_at w a.word.0)).copy ≡ true
  pub level_is : level ≡ level_of w (line_at w a.word.0) (p.harts a.hart.0).l1
  pub access : IsAccess a.hart.0 (number_of a.hart.0 p) d.need (word_in w a.word.0 (content (p.cells (line_at w a.word.0)).copy)) false (seen.Line (content (p.cells (line_at w a.word.0)).copy).version) a

-- by what the write buffer tells the load
abbrev pub LoadsBy : Config → Look → Access → ℕ → Bool → HartEffect → Part → Type 0
LoadsBy w NoStore a level reserve d p = FromCopy w a level d p
LoadsBy w (Hit value number) a level reserve d p = FromBuffer w value number a level reserve d p
LoadsBy w Wait a level reserve d p = ⊥

-- Load, and LR: a store that waits answers it, or the cluster's copy does
pub record LoadFits (w : Config) (c : ℕ) (a : Access) (level : ℕ) (d : HartEffect) (p : Part) : Type 0 where
  pub labels : Labels
  pub reserve : Bool
  pub next : Retires w c a.hart.0 (needed.Load a.word a.mask labels reserve) (reply a.read a.written) d p
  pub from : LoadsBy w (look_by (newest_of a.word.0 (p.harts a.hart.0).buffer) a.mask) a level reserve d p

-- Store: the buffer is not full
pub record StoreFits (w : Config) (c : ℕ) (a : Access) (d : HartEffect) (p : Part) : Type 0 where
  pub value : ℕ
  pub next : Retires w c a.hart.0 (needed.Store a.word a.mask value) (reply a.read a.written) d p
  pub access : IsAccess a.hart.0 (number_of a.hart.0 p) d.need 0 false seen.Nothing a
  pub room : length (p.harts a.hart.0).buffer < w.top.buffer

-- Commit: the oldest store is in line l, and the hart is in state M on it
pub record CommitFits (w : Config) (c h number l version : ℕ) (p : Part) : Type 0 where
  pub mine : cluster_of w h ≡ c
  pub oldest : Stored
  pub others : List Stored
  pub buffer : (p.harts h).buffer ≡ oldest ∷ others
  pub number_is : number ≡ oldest.number
  pub line : line_at w oldest.word.0 ≡ l
  pub owner : in_m h (p.cells l).copy ≡ true
  pub version_is : version ≡ raised most (content (p.cells l).copy).version

-- an SC needs that its word is reserved
abbrev pub HasReserved : AmoOp → ℕ → Option ℕ → Type 0
HasReserved Sc address r = r ≡ Some address
HasReserved op address r = Unit {0}

-- Rmw: the hart is in state M on a line that is not pending, and no store to the word waits; a release needs that the hart is drained, and an SC that its word is reserved
pub record RmwFits (w : Config) (c : ℕ) (a : Access) (l version : ℕ) (d : HartEffect) (p : Part) : Type 0 where
  pub op : AmoOp
  pub operand : ℕ
  pub labels : Labels
  pub next : Retires w c a.hart.0 (needed.Rmw a.word op operand labels) (reply a.read a.written) d p
  pub line : line_at w a.word.0 ≡ l
  pub owner : in_m a.hart.0 (p.cells l).copy ≡ true
  pub not_pending : (p.cells l).acks ≡ NoAcks
  pub unbuffered : newest_of a.word.0 (p.harts a.hart.0).buffer ≡ None
  pub release : labels.rl ≡ true → Drained a.hart.0 p
  pub reserved : HasReserved op a.word.0 (p.harts a.hart.0).reserved
  pub access : IsAccess a.hart.0 (number_of a.hart.0 p) d.need (word_in w a.word.0 (content (p.cells l).copy)) true (seen.Line (content (p.cells l).copy).version) a
  pub version_is : version ≡ raised most (content (p.cells l).copy).version

-- ScFail: its word is not reserved, and the front slot is empty
pub record ScFailFits (w : Config) (c : ℕ) (a : Access) (d : HartEffect) (p : Part) : Type 0 where
  pub operand : ℕ
  pub labels : Labels
  pub next : Retires w c a.hart.0 (needed.Rmw a.word Sc operand labels) (reply a.read a.written) d p
  pub unreserved : (p.harts a.hart.0).reserved ≢ Some a.word.0
  pub front : IsEmptySlot (front_slot w c a.hart.0) p
  pub access : IsAccess a.hart.0 (number_of a.hart.0 p) d.need 0 false seen.Nothing a

-- the message of an Ask, or of an Unlock where the hart is drained
abbrev pub LockSends : ℕ → Msg → Need → Part → Type 0
LockSends h m (needed.Ask word value) p = m ≡ LockAsk (hart_id h) (number_of h p) word value
LockSends h m (needed.Unlock word) p = (m ≡ Unlock (hart_id h) (number_of h p) word) × Drained h p
LockSends h m need p = ⊥

-- LockSend: the hart's next instruction is an Ask or an Unlock, and its message was not sent yet
pub record LockSendFits (w : Config) (c h : ℕ) (m : Msg) (p : Part) : Type 0 where
  pub mine : cluster_of w h ≡ c
  pub need : Need
  pub needs : Needs w.image w.top (p.harts h).core need
  pub unsent : (p.harts h).asked ≡ false
  pub sends : LockSends h m need p
