-- An image: its segments, the memory that a run of it opens with, and what of it may be executed and written.
use Rattle.std.specs.Prelude.{◌≡◌, ◌≤◌, ◌<◌, ℕ, ◌+◌, ◌-◌, ◌*◌, ◌/◌, min, max, Bool, ◌&&◌, not, nat_le, nat_lt, if◌then◌else◌, Option, Some, None, List, length, map, find, slice_index, Any, false}
use Rattle.std.specs.List.{list_any, range_with_len}
use Rattle.std.specs.Option.{option_map_or}
use Rattle.dash_base.specs.Segment.{SegmentView}
use Rattle.dash_base.specs.Words.{word_of_bytes}
use Rattle.elf_load.specs.Bits.{has_bit}
use Rattle.elf_load.specs.declared.memory_map.MemoryMap.{MemoryMap}

-- the address at which a run begins, and the segments in the order of their headers
pub record ImageView : Type 0 where
  pub entry : ℕ
  pub segments : List SegmentView

-- whether an address is one of the bytes that a segment begins with
abbrev pub holds : ℕ → SegmentView → Bool
holds address s = nat_le s.vaddr address && nat_lt address (s.vaddr + length s.bytes)

-- the byte of the first segment that holds the address within its bytes, and 0 elsewhere
unfoldable pub byte_among : List SegmentView → ℕ → ℕ
byte_among segments address =
    option_map_or (λ s. slice_index s.bytes (address - s.vaddr)) (find (holds address) segments) 0

-- four bytes from an address on, as a word
unfoldable pub word_among : List SegmentView → ℕ → ℕ
word_among segments address =
    word_of_bytes (byte_among segments address) (byte_among segments (address + 1)) (byte_among segments (address + 2)) (byte_among segments (address + 3))

-- the words of memory, from its lowest address on
unfoldable pub words_among : List SegmentView → MemoryMap → List ℕ
words_among segments memory =
    map (λ i. word_among segments (memory.base + 4 * i)) (range_with_len 0 (memory.size / 4))

-- the memory that a run opens with: the byte at an address
abbrev pub opening_byte : ImageView → ℕ → ℕ
opening_byte image address = byte_among image.segments address

-- the word of four bytes from an address on, the lowest first
abbrev pub opening_word : ImageView → ℕ → ℕ
opening_word image address = word_among image.segments address

-- all of its words
abbrev pub opening_words : ImageView → MemoryMap → List ℕ
opening_words image memory = words_among image.segments memory

-- whether a segment may be executed, by bit 0 of its flags
abbrev pub may_execute : SegmentView → Bool
may_execute s = has_bit 0 s.flags

-- whether a segment may be written, by bit 1 of its flags
abbrev pub may_write : SegmentView → Bool
may_write s = has_bit 1 s.flags

-- whether so many bytes from an address on all lie in a segment
abbrev pub covers : ℕ → ℕ → SegmentView → Bool
covers address len s = nat_le s.vaddr address && nat_le (address + len) (s.vaddr + s.memsz)

-- whether one of so many bytes from an address on lies in a segment
abbrev pub meets : ℕ → ℕ → SegmentView → Bool
meets address len s = nat_lt (max s.vaddr address) (min (s.vaddr + s.memsz) (address + len))

-- whether four bytes from an address on all lie in a segment, which may be executed
abbrev pub is_code_at : ℕ → SegmentView → Bool
is_code_at address s = may_execute s && covers address 4 s

-- whether one of so many bytes from an address on lies in a segment, which may not be written
abbrev pub is_read_only_at : ℕ → ℕ → SegmentView → Bool
is_read_only_at address len s = not (may_write s) && meets address len s

-- the word at an address whose four bytes are all in one segment that may be executed
unfoldable pub fetched : ImageView → ℕ → Option ℕ
fetched image pc =
    if list_any (is_code_at pc) image.segments then Some (opening_word image pc) else None

-- whether none of so many bytes from an address on is in a segment that may not be written
unfoldable pub is_writable : ImageView → ℕ → ℕ → Bool
is_writable image address len = not (list_any (is_read_only_at address len) image.segments)

-- an address lies in a segment that may not be written
abbrev pub IsReadOnly : ℕ → SegmentView → Type 0
IsReadOnly address s =
    (s.vaddr ≤ address) × (address < s.vaddr + s.memsz) × (may_write s ≡ false)

-- one of so many bytes from an address on lies in such a segment
abbrev pub HasReadOnlyByte : ImageView → ℕ → ℕ → Type 0
HasReadOnlyByte image address len =
    (k : ℕ) × (k < len) × Any (IsReadOnly (address + k)) image.segments
