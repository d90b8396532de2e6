-- What one cluster has of one line, and what the line's home has.
use Rattle.std.specs.Prelude.{ℕ, Option, List}
use Rattle.dash_base.specs.declared.line.Line.{Line}

-- the cluster's copy: none, or that of its holders, of whom one may be the owner
pub data Copy : Type 0 where
  NoCopy : Copy
  Held : (holders : List ℕ) (owner : Option ℕ) (line : Line) → Copy

-- how far a request is: asked for, asked for but no longer to be used, answered, or refused
pub data Phase : Type 0 where
  Asked : Phase
  Poisoned : Phase
  Came : (line : Line) → Phase
  Refused : Phase

-- the slot that has the line: none, or one of this number and hart, which reads or is to own the line
pub data Slot : Type 0 where
  NoSlot : Slot
  Reads : (number hart : ℕ) (phase : Phase) → Slot
  Owns : (number hart : ℕ) (phase : Phase) → Slot

-- the line's entry among the acknowledgements: none; how many came, where it isn't known how many are to come; or that too. And the harts to whom they are owed
pub data Acks : Type 0 where
  NoAcks : Acks
  Counting : (got : ℕ) (owed : List ℕ) → Acks
  Expects : (expected got : ℕ) (owed : List ℕ) → Acks

-- the directory's entry: no cluster has a copy, these may have one, or this one is to have the only current one
pub data Entry : Type 0 where
  Uncached : Entry
  SharedBy : (sharers : List ℕ) → Entry
  Dirty : (owner : ℕ) → Entry

-- a line at a cluster
pub record Cell : Type 0 where
  pub copy : Copy
  pub slot : Slot
  pub acks : Acks

-- the line in its home's memory, and its entry
pub record Home : Type 0 where
  pub mem : Line
  pub entry : Entry
