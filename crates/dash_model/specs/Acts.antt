-- What a cluster does to a line by itself.
use Rattle.std.specs.Prelude.{ℕ, None, Some, List, [], ◌∷◌}
use Rattle.dash_base.specs.declared.line.Line.{Line}
use Rattle.dash_base.specs.declared.id.LineId.{LineId}
use Rattle.dash_msg.specs.declared.msg.Msg.TheVariants.{Read, ReadEx, WriteBack}
use Rattle.dash_model.specs.Maps.{without, with_member}
use Rattle.dash_model.specs.Net.{to}
use Rattle.dash_model.specs.Cell.{Copy, NoCopy, Held, Asked, Came, Refused, Slot, NoSlot, Reads, Owns, Acks, NoAcks, Counting, Expects, Cell, Home}
use Rattle.dash_model.specs.LineEffect.{LineEffect, still}

-- a slot asks to read or to own, or asks again, or its line is installed; a hart commits a content, evicts its line as the owner or as another holder, or gets the line from its cluster, to read or to own
pub data Act : Type 0 where
  AskRead AskOwn : (number hart : ℕ) → Act
  Again Install : Act
  Commit : (hart : ℕ) (line : Line) → Act
  Evict Drop BusRead BusOwn : (hart : ℕ) → Act

-- a slot that was refused asks the home again
abbrev pub again_row : LineId → ℕ → Slot → Cell → Home → LineEffect
again_row l h (Reads n t Refused) a b = record { cell = record a { slot = Reads n t Asked }; home = b; sent = to h (Read l) ∷ [] }
again_row l h (Owns n t Refused) a b = record { cell = record a { slot = Owns n t Asked }; home = b; sent = to h (ReadEx l) ∷ [] }
again_row l h s a b = still a b

-- the line that came to a slot: its hart is the only holder, and of a line to own the owner
abbrev pub install_row : Slot → Cell → Home → LineEffect
install_row (Reads n t (Came d)) a b = record { cell = record a { slot = NoSlot; copy = Held (t ∷ []) None d }; home = b; sent = [] }
install_row (Owns n t (Came d)) a b = record { cell = record a { slot = NoSlot; copy = Held (t ∷ []) (Some t) d }; home = b; sent = [] }
install_row s a b = still a b

-- what the owner has becomes this
abbrev pub commit_copy : Line → Copy → Copy
commit_copy d (Held hs (Some o) e) = Held hs (Some o) d
commit_copy d a = a

-- where acknowledgements are pending they are owed to the hart too
abbrev pub owe : ℕ → Acks → Acks
owe t NoAcks = NoAcks
owe t (Counting g o) = Counting g (with_member t o)
owe t (Expects n g o) = Expects n g (with_member t o)

-- the owner evicts: no copy is left, and the home gets the content
abbrev pub evict_row : LineId → ℕ → Copy → Cell → Home → LineEffect
evict_row l h (Held hs (Some o) d) a b = record { cell = record a { copy = NoCopy }; home = b; sent = to h (WriteBack l d) ∷ [] }
evict_row l h c a b = still a b

-- where no holder is left the copy goes
abbrev pub shrunk : List ℕ → Line → Copy
shrunk [] d = NoCopy
shrunk (h ∷ hs) d = Held (h ∷ hs) None d

-- another holder evicts; beside an owner, who is a holder, the copy stays
abbrev pub drop_hart : ℕ → Copy → Copy
drop_hart t (Held hs None d) = shrunk (without t hs) d
drop_hart t (Held hs (Some o) d) = Held (without t hs) (Some o) d
drop_hart t NoCopy = NoCopy

-- a hart of the cluster holds the line too
abbrev pub bus_read : ℕ → Copy → Copy
bus_read t (Held hs o d) = Held (with_member t hs) o d
bus_read t NoCopy = NoCopy

-- a hart of the owner's cluster is the only holder and the owner
abbrev pub bus_own : ℕ → Copy → Copy
bus_own t (Held hs (Some o) d) = Held (t ∷ []) (Some t) d
bus_own t a = a

-- each act, at a cluster with this cell, where h is the line's home
abbrev pub act_row : LineId → ℕ → Act → Cell → Home → LineEffect
act_row l h (AskRead n t) a b = record { cell = record a { slot = Reads n t Asked }; home = b; sent = to h (Read l) ∷ [] }
act_row l h (AskOwn n t) a b = record { cell = record a { slot = Owns n t Asked; acks = Counting 0 [] }; home = b; sent = to h (ReadEx l) ∷ [] }
act_row l h Again a b = again_row l h a.slot a b
act_row l h Install a b = install_row a.slot a b
act_row l h (Commit t d) a b = record { cell = record a { copy = commit_copy d a.copy; acks = owe t a.acks }; home = b; sent = [] }
act_row l h (Evict t) a b = evict_row l h a.copy a b
act_row l h (Drop t) a b = record { cell = record a { copy = drop_hart t a.copy }; home = b; sent = [] }
act_row l h (BusRead t) a b = record { cell = record a { copy = bus_read t a.copy }; home = b; sent = [] }
act_row l h (BusOwn t) a b = record { cell = record a { copy = bus_own t a.copy }; home = b; sent = [] }
