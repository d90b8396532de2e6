-- The segments of a file as a list, by their program headers, each with its number.
use Rattle.std.specs.Prelude.{◌≡◌, ◌<◌, ◌≤◌, ◌⊎◌, ℕ, ◌+◌, ◌%◌, min, max, Bool, ◌==◌, ◌&&◌, ◌||◌, not, nat_le, nat_lt, true, false, if◌then◌else◌, Option, Some, None, List, [], ◌∷◌, map, filter, find}
use Rattle.std.specs.List.{list_any, range_with_len}
use Rattle.std.specs.Option.{option_map, option_and_then}
use Rattle.elf_load.specs.Bits.{has_bit}
use Rattle.elf_load.specs.Header.{file_header, header_at}
use Rattle.elf_load.specs.Refusal.{is_segment}
use Rattle.elf_load.specs.declared.header.ProgramHeader.{ProgramHeader}
use Rattle.elf_load.specs.declared.segment_table.Numbered.{Numbered}

-- a program header with its number
abbrev pub numbered_at : List ℕ → ℕ → Numbered
numbered_at bytes i = record { number = i; header = header_at bytes i }

-- the segments, in the order of their program headers
unfoldable pub numbered_segments : List ℕ → List Numbered
numbered_segments bytes =
    filter (λ s. is_segment s.header) (map (numbered_at bytes) (range_with_len 0 (file_header bytes).e_phnum))

-- x is a segment of the list
abbrev pub Among : Numbered → List Numbered → Type 0
Among x [] = ⊥
Among x (y ∷ ys) = (x ≡ y) ⊎ Among x ys

-- the numbers rise along the list
abbrev pub Rising : List Numbered → Type 0
Rising [] = Unit {0}
Rising (y ∷ ys) = ((z : Numbered) → Among z ys → y.number < z.number) × Rising ys

-- the segments of a file that have bytes in memory
pub record IsTable (segments : List Numbered) : Type 0 where
  pub rising : Rising segments
  pub in_memory : (s : Numbered) → Among s segments → 0 < (s.header).p_memsz

-- the number of the first segment that fails by a test
abbrev pub first_failing : (ProgramHeader → Bool) → List Numbered → Option ℕ
first_failing test segments = option_map (λ s. s.number) (find (λ s. test s.header) segments)

-- whether two segments of different numbers share an address
abbrev pub clashes : Numbered → Numbered → Bool
clashes a b =
    not (a.number == b.number)
    && nat_lt (max (a.header).p_vaddr (b.header).p_vaddr) (min ((a.header).p_vaddr + (a.header).p_memsz) ((b.header).p_vaddr + (b.header).p_memsz))

-- whether a segment shares an address with another one of a list
abbrev pub has_clash : List Numbered → Numbered → Bool
has_clash segments a = list_any (clashes a) segments

-- the number of a segment, and that of the first other one of a list that it shares an address with
abbrev pub pair_of : List Numbered → Option Numbered → Option (ℕ × ℕ)
pair_of segments first = option_and_then (λ a. option_map (λ b. (a.number, b.number)) (find (clashes a) segments)) first

-- the numbers of the first segment that shares an address with another one, and of the first that it shares one with
abbrev pub first_overlap : List Numbered → Option (ℕ × ℕ)
first_overlap segments = pair_of segments (find (has_clash segments) segments)

-- whether each segment of a list begins at an address or behind it, and where the one before it ends or behind
abbrev pub rises_from : ℕ → List Numbered → Bool
rises_from reach [] = true
rises_from reach (s ∷ segments) =
    not (nat_lt (s.header).p_vaddr reach) && rises_from ((s.header).p_vaddr + (s.header).p_memsz) segments

-- whether the first segment of a list begins before an address
abbrev pub begins_before : ℕ → List Numbered → Bool
begins_before end [] = false
begins_before end (s ∷ segments) = nat_lt (s.header).p_vaddr end

-- of two segments that of the lower number, where there are two
abbrev pub lower : Option Numbered → Numbered → Option Numbered
lower None s = Some s
lower (Some x) s = if nat_lt s.number x.number then Some s else Some x

-- Of segments by address, that of the least number that begins before an earlier one ends, or ends after a later one begins;
-- those before end before `reach`, and have this one.
abbrev pub least_clashing_from : ℕ → Option Numbered → List Numbered → Option Numbered
least_clashing_from reach least [] = least
least_clashing_from reach least (s ∷ segments) =
    least_clashing_from
    (max reach ((s.header).p_vaddr + (s.header).p_memsz))
    (if nat_lt (s.header).p_vaddr reach || begins_before ((s.header).p_vaddr + (s.header).p_memsz) segments then lower least s else least)
    segments

-- whether a segment may be executed and has all four bytes from an address on
abbrev pub has_word_at : ℕ → ProgramHeader → Bool
has_word_at address header =
    has_bit 0 header.p_flags && nat_le header.p_vaddr address && nat_le (address + 4) (header.p_vaddr + header.p_memsz)

-- whether an address is a multiple of 4 and one segment that may be executed has all four bytes from it on
abbrev pub is_executable_among : List Numbered → ℕ → Bool
is_executable_among segments address = address % 4 == 0 && list_any (λ s. has_word_at address s.header) segments

-- the bytes of the segment lie in a file of so many bytes, and it has room for them
pub record HasBytes (len : ℕ) (s : Numbered) : Type 0 where
  pub within : (s.header).p_offset + (s.header).p_filesz ≤ len
  pub room : (s.header).p_filesz ≤ (s.header).p_memsz
