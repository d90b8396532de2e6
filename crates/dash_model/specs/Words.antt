-- The words of the table: what harts hold, what is pending and owed, which slots are empty, and contents of words.
use Rattle.std.specs.Prelude.{◌≡◌, ◌≢◌, ℕ, ◌%◌, ◌<◌, ◌==◌, ◌&&◌, Bool, false, Some, [], ◌∷◌, slice_index_or, slice_set}
use Rattle.dash_base.specs.Words.{merged}
use Rattle.dash_base.specs.declared.line.Line.{Line}
use Rattle.dash_model.specs.Maps.{total, member, raised, most}
use Rattle.dash_model.specs.Config.{Config, lines, place_of}
use Rattle.dash_model.specs.Cell.{Copy, NoCopy, Held, Slot, NoSlot, Reads, Owns, Acks, NoAcks, Counting, Expects}
use Rattle.dash_model.specs.Part.{Part}

-- whether a hart is a holder
abbrev pub held_by : ℕ → Copy → Bool
held_by h (Held hs o d) = member h hs
held_by h NoCopy = false

-- whether a hart is in state M: the owner and the only holder
abbrev pub in_m : ℕ → Copy → Bool
in_m h (Held (x ∷ []) (Some o) d) = (x == h) && (o == h)
in_m h _ = false

-- the content of a copy; zeros where there is none
abbrev pub content : Copy → Line
content (Held hs o d) = d
content NoCopy = record { words = 0 ∷ 0 ∷ 0 ∷ 0 ∷ []; version = 0 }

-- the hart holds no other line with the index of this one
abbrev pub Room : Config → ℕ → ℕ → Part → Type 0
Room w h l p = (k : ℕ) → k ≢ l → k % w.top.l2 ≡ l % w.top.l2 → held_by h (p.cells k).copy ≡ false

-- whether acknowledgements are owed to a hart
abbrev pub owes : ℕ → Acks → Bool
owes h NoAcks = false
owes h (Counting g o) = member h o
owes h (Expects n g o) = member h o

-- none are, of no line
abbrev pub Unowed : ℕ → Part → Type 0
Unowed h p = (l : ℕ) → owes h (p.cells l).acks ≡ false

-- 1 where the line is pending
abbrev pub one_pending : Acks → ℕ
one_pending NoAcks = 0
one_pending (Counting g o) = 1
one_pending (Expects n g o) = 1

-- fewer lines are pending than there are entries
abbrev pub AcksHaveRoom : Config → Part → Type 0
AcksHaveRoom w p = total (λ l. one_pending (p.cells l).acks) (lines w) < w.top.acks

-- whether a slot is that of this number
abbrev pub numbered : ℕ → Slot → Bool
numbered n NoSlot = false
numbered n (Reads m h t) = m == n
numbered n (Owns m h t) = m == n

-- no line is in the slot of this number
abbrev pub IsEmptySlot : ℕ → Part → Type 0
IsEmptySlot n p = (l : ℕ) → numbered n (p.cells l).slot ≡ false

-- the word at an address, in the content of its line
abbrev pub word_in : Config → ℕ → Line → ℕ
word_in w address d = slice_index_or d.words (place_of w address) 0

-- the content with the bytes of a value written over the word at an address, under a mask, as the next version
abbrev pub written_in : Config → ℕ → ℕ → ℕ → Line → Line
written_in w address mask value d = record { words = slice_set d.words (place_of w address) (merged (word_in w address d) mask value); version = raised most d.version }
