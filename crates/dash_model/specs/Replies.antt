-- What becomes of a line where a reply is taken from its lane, by the messages of the table in their order.
use Rattle.std.specs.Prelude.{ℕ, ◌+◌, ◌==◌, cond, []}
use Rattle.dash_base.specs.declared.line.Line.{Line}
use Rattle.dash_model.specs.Cell.{Asked, Poisoned, Came, Slot, Reads, Owns, Acks, NoAcks, Counting, Expects, Cell, Home}
use Rattle.dash_model.specs.LineEffect.{LineEffect, refuse, refuse_acks}

-- a slot to which a copy comes: one that reads has it, unless it was poisoned, which is refused
abbrev pub arrive : ℕ → Line → Slot → Slot
arrive k d (Reads n h Asked) = Reads n h (Came d)
arrive k d (Reads n h Poisoned) = refuse k (Reads n h Poisoned)
arrive k d s = s

-- Data: it comes to a slot that reads, unless the slot was poisoned, which is refused
abbrev pub data_row : ℕ → Line → Cell → Home → LineEffect
data_row k d a b = record { cell = record a { slot = arrive k d a.slot }; home = b; sent = [] }

-- a slot to which the line comes to own: one that waits to own it has it
abbrev pub arrive_own : Line → Slot → Slot
arrive_own d (Owns n h Asked) = Owns n h (Came d)
arrive_own d s = s

-- so many acknowledgements are expected; where they came, the entry goes
abbrev pub expecting : ℕ → Acks → Acks
expecting n NoAcks = NoAcks
expecting n (Counting g o) = cond (g == n) NoAcks (Expects n g o)
expecting n (Expects m g o) = cond (g == n) NoAcks (Expects n g o)

-- only a slot that is to own the line and waits for it sets the number
abbrev pub expecting_for : ℕ → Slot → Acks → Acks
expecting_for n (Owns k h Asked) a = expecting n a
expecting_for n s a = a

-- DataEx: it comes to a slot that is to own the line, and says how many acknowledgements to expect
abbrev pub data_ex_row : Line → ℕ → Cell → Home → LineEffect
data_ex_row d n a b = record { cell = record a { slot = arrive_own d a.slot; acks = expecting_for n a.slot a.acks }; home = b; sent = [] }

-- an entry to which one more acknowledgement came; where it is the last that is expected, the entry goes
abbrev pub counted : Acks → Acks
counted NoAcks = NoAcks
counted (Counting g o) = Counting (g + 1) o
counted (Expects n g o) = cond (g + 1 == n) NoAcks (Expects n (g + 1) o)

-- Ack, TransferAck: one more came
abbrev pub ack_row : Cell → Home → LineEffect
ack_row a b = record { cell = record a { acks = counted a.acks }; home = b; sent = [] }

-- a slot that waits for an answer is refused
abbrev pub nak_slot : ℕ → Slot → Slot
nak_slot k (Reads n h Asked) = refuse k (Reads n h Asked)
nak_slot k (Reads n h Poisoned) = refuse k (Reads n h Poisoned)
nak_slot k (Owns n h Asked) = refuse k (Owns n h Asked)
nak_slot k (Owns n h Poisoned) = refuse k (Owns n h Poisoned)
nak_slot k s = s

-- and its line's entry among the acknowledgements
abbrev pub nak_acks : ℕ → Slot → Acks → Acks
nak_acks k (Owns n h Asked) a = refuse_acks k (Owns n h Asked) a
nak_acks k (Owns n h Poisoned) a = refuse_acks k (Owns n h Poisoned) a
nak_acks k s a = a

-- Nak: a slot that waits for an answer is refused
abbrev pub nak_row : ℕ → Cell → Home → LineEffect
nak_row k a b = record { cell = record a { slot = nak_slot k a.slot; acks = nak_acks k a.slot a.acks }; home = b; sent = [] }
