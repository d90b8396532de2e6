-- The segment that a word is read from in one piece.
use Rattle.std.specs.Prelude.{◌≡◌, ◌≤◌, ℕ, ◌+◌, ◌-◌, Bool, ◌&&◌, nat_lt, List, length, slice_index}
use Rattle.dash_base.specs.Segment.{SegmentView}
use Rattle.dash_base.specs.Words.{word_of_bytes}

-- whether one of four bytes from an address on may be among those that a segment begins with
abbrev pub touches : ℕ → SegmentView → Bool
touches address s = nat_lt s.vaddr (address + 4) && nat_lt address (s.vaddr + length s.bytes)

-- the word of four of a list's bytes, from a place on, the lowest first
abbrev pub word_in : List ℕ → ℕ → ℕ
word_in bytes place =
    word_of_bytes (slice_index bytes place) (slice_index bytes (place + 1)) (slice_index bytes (place + 2)) (slice_index bytes (place + 3))

-- four bytes from an address on are among those that a segment begins with, and make this word
pub record HoldsWord (word address : ℕ) (s : SegmentView) : Type 0 where
  pub start : s.vaddr ≤ address
  pub end : address + 4 ≤ s.vaddr + length s.bytes
  pub is : word ≡ word_in s.bytes (address - s.vaddr)
