-- The machine along one line: what each cluster has of it, its home, and the messages of it. Its steps are those of the line's rows.
use Rattle.std.specs.Prelude.{◌≡◌, ℕ, false, Some, List}
use Rattle.dash_base.specs.declared.line.Line.{Line}
use Rattle.dash_base.specs.declared.id.LineId.{LineId}
use Rattle.dash_msg.specs.Classes.{class_of}
use Rattle.dash_msg.specs.declared.msg.Msg.{Msg}
use Rattle.dash_model.specs.Maps.{upd, raised, most}
use Rattle.dash_model.specs.Net.{Packet, parcel, head, tail, send}
use Rattle.dash_model.specs.Cell.{Copy, NoCopy, Held, NoSlot, NoAcks, Cell, Home}
use Rattle.dash_model.specs.LineEffect.{LineEffect, has_owner, is_owner}
use Rattle.dash_model.specs.LineRows.{take_row}
use Rattle.dash_model.specs.Acts.{Act, AskRead, AskOwn, Commit, Evict, Drop, act_row}

pub record State : Type 0 where
  pub cells : ℕ → Cell
  pub home : Home
  pub net : List Packet

-- slots below k are front and store slots; the line's home; the line
pub record Where : Type 0 where
  pub k : ℕ
  pub home : ℕ
  pub line : LineId

-- cluster c did this; n is what was on its way without what it took
abbrev pub apply : ℕ → ℕ → LineEffect → List Packet → State → State
apply stamp c d n s = record { cells = upd s.cells c d.cell; home = d.home; net = send n stamp c d.sent }

pub data Event : Type 0 where
  Acts : (stamp c : ℕ) (act : Act) → Event
  Takes : (stamp c f : ℕ) (m : Msg) → Event

abbrev pub after : Where → State → Event → State
after w s (Acts t c act) = apply t c (act_row w.line w.home act (s.cells c) s.home) s.net s
after w s (Takes t c f m) = apply t c (take_row w.k w.home c f m (s.cells c) s.home) (tail f c (class_of m) s.net) s

-- the next content of what is owned
abbrev pub IsNext : Line → Copy → Type 0
IsNext d (Held hs (Some o) e) = d.version ≡ raised most e.version
IsNext d _ = ⊥

-- what an act needs of the line at its cluster
abbrev pub MayAct : Act → Cell → Type 0
MayAct (AskRead n t) a = (a.slot ≡ NoSlot) × (a.copy ≡ NoCopy)
MayAct (AskOwn n t) a = (a.slot ≡ NoSlot) × (has_owner a.copy ≡ false)
MayAct (Commit t d) a = IsNext d a.copy
MayAct (Evict t) a = a.acks ≡ NoAcks
MayAct (Drop t) a = is_owner t a.copy ≡ false
MayAct _ a = Unit {0}

abbrev pub CanHappen : Where → State → Event → Type 0
CanHappen w s (Acts t c act) = MayAct act (s.cells c)
CanHappen w s (Takes t c f m) = (u : ℕ) × (head f c (class_of m) s.net ≡ Some (parcel f c m u))

-- the content of the line after an act
abbrev pub content_after : Line → Act → Line
content_after v (Commit t d) = d
content_after v _ = v
