-- The events whose numbers are within the bounds of their types: all that a program can have.
use Rattle.std.specs.Prelude.{◌≡◌, ℕ, ◌^◌, ◌<◌, length, Option, IfSome, slice_index, ⊤}
use Rattle.dash_base.specs.declared.end.End.{End}
use Rattle.dash_base.specs.declared.end.End.TheVariants.{Running, Exited, Trapped}
use Rattle.dash_base.specs.declared.line.Line.{Line}
use Rattle.dash_event.specs.declared.access.Access.{Access}
use Rattle.dash_event.specs.declared.access.Seen.{Seen}
use Rattle.dash_event.specs.declared.access.Seen.TheVariants as seen
use Rattle.dash_event.specs.declared.event.Event.{Event}
use Rattle.dash_event.specs.declared.event.Kind.{Kind}
use Rattle.dash_event.specs.declared.event.Kind.TheVariants as kind
use Rattle.dash_msg.specs.declared.msg.Msg.{Msg}
use Rattle.dash_msg.specs.declared.msg.Msg.TheVariants.{Read, ReadEx, FwdRead, FwdReadEx, Inval, WriteBack, SharingBack, Transfer, LockAsk, Unlock, Data, DataEx, Ack, TransferAck, Nak, LockGrant, UnlockAck}

-- a number of 32 bits, and one of 64
abbrev pub IsShort : ℕ → Type 0
IsShort n = n < 2 ^ 32

abbrev pub IsLong : ℕ → Type 0
IsLong n = n < 2 ^ 64

-- a number of 32 bits where there is one
abbrev pub IsShortIfAny : Option ℕ → Type 0
IsShortIfAny o = IfSome o IsShort

abbrev pub FitsSeen : Seen → Type 0
FitsSeen (seen.Line version) = IsLong version
FitsSeen (seen.Own number) = IsShort number
FitsSeen (seen.Lock count) = IsLong count
FitsSeen seen.Nothing = ⊤

pub record FitsAccess (a : Access) : Type 0 where
  pub hart : IsShort a.hart.0
  pub number : IsShort a.number
  pub word : IsShort a.word.0
  pub mask : a.mask < 16
  pub read : IsShortIfAny a.read
  pub written : IsShortIfAny a.written
  pub seen : FitsSeen a.seen

-- a line's content: four words and a version
pub record FitsLine (d : Line) : Type 0 where
  pub four : length d.words ≡ 4
  pub words : (i : ℕ) → IsShort (slice_index d.words i)
  pub version : IsLong d.version

abbrev pub FitsMsg : Msg → Type 0
FitsMsg (Read line) = IsShort line.0
FitsMsg (ReadEx line) = IsShort line.0
FitsMsg (FwdRead line to) = IsShort line.0 × IsShort to.0
FitsMsg (FwdReadEx line to) = IsShort line.0 × IsShort to.0
FitsMsg (Inval line to) = IsShort line.0 × IsShort to.0
FitsMsg (WriteBack line copy) = IsShort line.0 × FitsLine copy
FitsMsg (SharingBack line copy to) = IsShort line.0 × FitsLine copy × IsShort to.0
FitsMsg (Transfer line to) = IsShort line.0 × IsShort to.0
FitsMsg (LockAsk hart number word value) = IsShort hart.0 × IsShort number × IsShort word.0 × IsShort value
FitsMsg (Unlock hart number word) = IsShort hart.0 × IsShort number × IsShort word.0
FitsMsg (Data line copy) = IsShort line.0 × FitsLine copy
FitsMsg (DataEx line copy count) = IsShort line.0 × FitsLine copy × IsShort count
FitsMsg (Ack line) = IsShort line.0
FitsMsg (TransferAck line) = IsShort line.0
FitsMsg (Nak line) = IsShort line.0
FitsMsg (LockGrant hart) = IsShort hart.0
FitsMsg (UnlockAck hart old) = IsShort hart.0 × IsShort old

abbrev pub FitsEnd : End → Type 0
FitsEnd (Exited code) = IsShort code
FitsEnd (Trapped cause value) = IsShort value
FitsEnd Running = ⊤

abbrev pub FitsKind : Kind → Type 0
FitsKind (kind.Alu hart pc) = IsShort hart.0 × IsShort pc
FitsKind (kind.Fence hart pc) = IsShort hart.0 × IsShort pc
FitsKind (kind.Hint hart pc slot) = IsShort hart.0 × IsShort pc × IsShortIfAny slot
FitsKind (kind.Put hart pc byte) = IsShort hart.0 × IsShort pc × (byte < 256)
FitsKind (kind.Stop hart pc end) = IsShort hart.0 × IsShort pc × FitsEnd end
FitsKind (kind.Load access level) = FitsAccess access × IsShort level
FitsKind (kind.Store access) = FitsAccess access
FitsKind (kind.Commit hart number line version) = IsShort hart.0 × IsShort number × IsShort line.0 × IsLong version
FitsKind (kind.Rmw access line version) = FitsAccess access × IsShort line.0 × IsLong version
FitsKind (kind.ScFail access) = FitsAccess access
FitsKind (kind.LockSend hart msg) = IsShort hart.0 × FitsMsg msg
FitsKind (kind.BusRead hart line) = IsShort hart.0 × IsShort line.0
FitsKind (kind.BusOwn hart line) = IsShort hart.0 × IsShort line.0
FitsKind (kind.Evict hart line) = IsShort hart.0 × IsShort line.0
FitsKind (kind.Ask slot hart line own) = IsShort slot × IsShort hart.0 × IsShort line.0
FitsKind (kind.Again slot line) = IsShort slot × IsShort line.0
FitsKind (kind.Install slot hart line) = IsShort slot × IsShort hart.0 × IsShort line.0
FitsKind (kind.Grant access) = FitsAccess access
FitsKind (kind.Free from access) = IsShort from.0 × FitsAccess access
FitsKind (kind.Take from msg) = IsShort from.0 × FitsMsg msg

pub record FitsEvent (e : Event) : Type 0 where
  pub stamp : IsLong e.stamp
  pub cluster : IsShort e.cluster.0
  pub kind : FitsKind e.kind
