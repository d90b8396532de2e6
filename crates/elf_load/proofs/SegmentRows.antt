-- What the tests of the segments tell: the refusal of the first that fails, or that none of them applies.
use Rattle.std.proofs.Common.{◌≡◌, ◌≢◌, ◌≤◌, ◌<◌, ◌+◌, ◌%◌, ◌⊎◌, ℕ, inl, inr, Bool, true, false, ◌==◌, ◌&&◌, eqb, max, nat_le, List, [], ◌∷◌, length, Option, Some, None, find, refl, sym, ◌∙◌, ap, subst, arith}
use Rattle.std.specs.List.{list_any, All}
use Rattle.std.specs.Option.{option_map, option_and_then}
use Rattle.std.proofs.lemmas.Bool.Decides.{nat_tests, eqb_tells}
use Rattle.elf_load.specs.Bits.{has_bit}
use Rattle.elf_load.specs.Header.{file_header, header_at}
use Rattle.elf_load.specs.Refusal.{is_segment, is_out_of_file, is_above_memory_size, is_out_of_memory, IsSegmentAt, FailsAt, IsWithin, SharesAddress, OverlapsAt, IsExecutable, IsFirstRefusal, IsLoadable}
use Rattle.elf_load.specs.Stages.{IsClear}
use Rattle.elf_load.specs.Table.{Among, IsTable, numbered_at, numbered_segments, first_failing, clashes, has_clash, first_overlap, has_word_at, is_executable_among, HasBytes}
use Rattle.elf_load.specs.declared.header.ProgramHeader.{ProgramHeader}
use Rattle.elf_load.specs.declared.memory_map.MemoryMap.{MemoryMap}
use Rattle.elf_load.specs.declared.refusal.LoadRefusal.TheVariants.{SegmentOutOfFile, FileSizeAboveMemory, SegmentOutOfMemory, Overlap, NoSegment, EntryNotExecutable}
use Rattle.elf_load.specs.declared.segment_table.Numbered.{Numbered}
use Rattle.elf_load.proofs.Among.{find_some, find_none, find_least, any_at, any_passing, all_among}
use Rattle.elf_load.proofs.Listed.{listed, is_listed, is_segment_at, rising}
use Rattle.elf_load.proofs.Order.{next_clear, first_of_number, first_without_header, loadable}

-- the header of a segment in the list
header_is : (bytes : List ℕ) (s : Numbered) → Among s (numbered_segments bytes) → s.header ≡ header_at bytes s.number
header_is bytes s among = ap (λ (x : Numbered). x.header) (is_listed bytes s among)

-- ---- a test of each segment

-- the first number at which a test fails
pub record IsLeast (test : ProgramHeader → Bool) (bytes : List ℕ) (i : ℕ) : Type 0 where
  pub fails : FailsAt test bytes i
  pub least : (k : ℕ) → FailsAt test bytes k → i ≤ k

number_some : (o : Option Numbered) (i : ℕ) → option_map (λ s. s.number) o ≡ Some i → (s : Numbered) × (o ≡ Some s) × (s.number ≡ i)
number_some None i e = absurd cc
number_some (Some s) i e = (s, refl, cc)

number_none : (o : Option Numbered) → option_map (λ s. s.number) o ≡ None → o ≡ None
number_none None e = refl
number_none (Some s) e = absurd cc

fails_there : (test : ProgramHeader → Bool) (bytes : List ℕ) (s : Numbered) → Among s (numbered_segments bytes) → test s.header ≡ true → FailsAt test bytes s.number
fails_there test bytes s among fails = record {
  segment = is_segment_at bytes s among;
  fails = sym (ap test (header_is bytes s among)) ∙ fails;
}

least_failing : (test : ProgramHeader → Bool) (bytes : List ℕ) (i : ℕ) → first_failing test (numbered_segments bytes) ≡ Some i → IsLeast test bytes i
least_failing test bytes i found =
    let p : Numbered → Bool = λ s. test s.header in
    let some = number_some (find p (numbered_segments bytes)) i found in
    let s = some.0 in
    let passes = find_some p (numbered_segments bytes) s some.1 in record {
      fails = subst (λ k. FailsAt test bytes k) some.2 (fails_there test bytes s passes.0 passes.1);
      least = λ k at.
          let above = find_least p (numbered_segments bytes) s (numbered_at bytes k) (rising bytes) some.1 (listed bytes k at.segment) at.fails in
          let number = some.2 in omega arith;
    }

none_failing : (test : ProgramHeader → Bool) (bytes : List ℕ) → first_failing test (numbered_segments bytes) ≡ None → (k : ℕ) → FailsAt test bytes k → ⊥
none_failing test bytes found k at =
    find_none (λ s. test s.header) (numbered_segments bytes) (numbered_at bytes k) (number_none _ found) (listed bytes k at.segment) at.fails

at_or_after : (i k j : ℕ) → i ≤ k → (i < k) ⊎ ((i ≡ k) × (0 ≤ j))
at_or_after i k j low = cases (eqb_tells i k) where
  cases : ((eqb i k ≡ true) × (i ≡ k)) ⊎ ((eqb i k ≡ false) × (i ≢ k)) → (i < k) ⊎ ((i ≡ k) × (0 ≤ j))
  cases (inl equal) = inr (equal.1, omega arith)
  cases (inr other) = let differ = other.1 in inl (omega arith)

pub out_of_file_first : (bytes : List ℕ) (map : MemoryMap) (segments : List Numbered) (i : ℕ) → segments ≡ numbered_segments bytes → IsClear 9 bytes map → first_failing (is_out_of_file (length bytes)) segments ≡ Some i → IsFirstRefusal bytes map (SegmentOutOfFile i)
out_of_file_first bytes map segments i is clear found =
    let least = least_failing (is_out_of_file (length bytes)) bytes i (sym (ap (first_failing (is_out_of_file (length bytes))) is) ∙ found) in
    first_of_number bytes map (SegmentOutOfFile i) clear least.fails (λ k j cause. at_or_after i k j (least.least k cause))

pub clear_10 : (bytes : List ℕ) (map : MemoryMap) (segments : List Numbered) → segments ≡ numbered_segments bytes → IsClear 9 bytes map → first_failing (is_out_of_file (length bytes)) segments ≡ None → IsClear 10 bytes map
clear_10 bytes map segments is clear found =
    next_clear 9 bytes map clear (λ k j cause. none_failing (is_out_of_file (length bytes)) bytes (sym (ap (first_failing (is_out_of_file (length bytes))) is) ∙ found) k cause)

pub above_memory_size_first : (bytes : List ℕ) (map : MemoryMap) (segments : List Numbered) (i : ℕ) → segments ≡ numbered_segments bytes → IsClear 10 bytes map → first_failing is_above_memory_size segments ≡ Some i → IsFirstRefusal bytes map (FileSizeAboveMemory i)
above_memory_size_first bytes map segments i is clear found =
    let least = least_failing is_above_memory_size bytes i (sym (ap (first_failing is_above_memory_size) is) ∙ found) in
    first_of_number bytes map (FileSizeAboveMemory i) clear least.fails (λ k j cause. at_or_after i k j (least.least k cause))

pub clear_11 : (bytes : List ℕ) (map : MemoryMap) (segments : List Numbered) → segments ≡ numbered_segments bytes → IsClear 10 bytes map → first_failing is_above_memory_size segments ≡ None → IsClear 11 bytes map
clear_11 bytes map segments is clear found =
    next_clear 10 bytes map clear (λ k j cause. none_failing is_above_memory_size bytes (sym (ap (first_failing is_above_memory_size) is) ∙ found) k cause)

pub out_of_memory_first : (bytes : List ℕ) (map : MemoryMap) (segments : List Numbered) (i : ℕ) → segments ≡ numbered_segments bytes → IsClear 11 bytes map → first_failing (is_out_of_memory map) segments ≡ Some i → IsFirstRefusal bytes map (SegmentOutOfMemory i)
out_of_memory_first bytes map segments i is clear found =
    let least = least_failing (is_out_of_memory map) bytes i (sym (ap (first_failing (is_out_of_memory map)) is) ∙ found) in
    first_of_number bytes map (SegmentOutOfMemory i) clear least.fails (λ k j cause. at_or_after i k j (least.least k cause))

pub clear_12 : (bytes : List ℕ) (map : MemoryMap) (segments : List Numbered) → segments ≡ numbered_segments bytes → IsClear 11 bytes map → first_failing (is_out_of_memory map) segments ≡ None → IsClear 12 bytes map
clear_12 bytes map segments is clear found =
    next_clear 11 bytes map clear (λ k j cause. none_failing (is_out_of_memory map) bytes (sym (ap (first_failing (is_out_of_memory map)) is) ∙ found) k cause)

-- ---- overlaps

pub clash_numbers : (a b : Numbered) → clashes a b ≡ true → a.number ≢ b.number
clash_numbers a b e = λ same. grind (arith, nat_tests)

clash_shares : (a b : Numbered) → clashes a b ≡ true → SharesAddress a.header b.header
clash_shares a b e = record {
  address = max (a.header).p_vaddr (b.header).p_vaddr;
  in_first = record { start = grind (arith, nat_tests); end = grind (arith, nat_tests) };
  in_second = record { start = grind (arith, nat_tests); end = grind (arith, nat_tests) };
}

pub clash_back : (a b : Numbered) → clashes a b ≡ true → clashes b a ≡ true
clash_back a b e = grind (arith, nat_tests)

shared_clash : (a b : Numbered) (address : ℕ) → a.number ≢ b.number → IsWithin address a.header → IsWithin address b.header → clashes a b ≡ true
shared_clash a b address differ in_a in_b =
    let la = in_a.start in let ha = in_a.end in let lb = in_b.start in let hb = in_b.end in grind (arith, nat_tests)

overlap_clash : (bytes : List ℕ) (i j : ℕ) → OverlapsAt bytes i j → clashes (numbered_at bytes i) (numbered_at bytes j) ≡ true
overlap_clash bytes i j over =
    let order = over.order in
    shared_clash (numbered_at bytes i) (numbered_at bytes j) (over.shared).address (omega arith) (over.shared).in_first (over.shared).in_second

-- the two that were found
pub record IsPair (segments : List Numbered) (i j : ℕ) : Type 0 where
  pub first : Numbered
  pub second : Numbered
  pub found : find (has_clash segments) segments ≡ Some first
  pub found_second : find (clashes first) segments ≡ Some second
  pub first_is : first.number ≡ i
  pub second_is : second.number ≡ j

second_some : (a : Numbered) (o : Option Numbered) (p : ℕ × ℕ) → option_map (λ (b : Numbered). (a.number, b.number)) o ≡ Some p → (b : Numbered) × (o ≡ Some b) × (a.number ≡ p.0) × (b.number ≡ p.1)
second_some a None p e = absurd cc
second_some a (Some b) p e =
    let pair : (a.number, b.number) ≡ p = cc in (b, refl, ap (λ (q : ℕ × ℕ). q.0) pair, ap (λ (q : ℕ × ℕ). q.1) pair)

pair_some : (segments : List Numbered) (o : Option Numbered) (p : ℕ × ℕ) → find (has_clash segments) segments ≡ o
    → option_and_then (λ a. option_map (λ b. (a.number, b.number)) (find (clashes a) segments)) o ≡ Some p → IsPair segments p.0 p.1
pair_some segments None p found e = absurd cc
pair_some segments (Some a) p found e =
    let second = second_some a (find (clashes a) segments) p e in
    record { first = a; second = second.0; found = found; found_second = second.1; first_is = second.2; second_is = second.3 }

second_none : (a : Numbered) (o : Option Numbered) → option_map {U = ℕ × ℕ} (λ (b : Numbered). (a.number, b.number)) o ≡ None → o ≡ None
second_none a None e = refl
second_none a (Some b) e = absurd cc

no_pair : (segments : List Numbered) (o : Option Numbered) → find (has_clash segments) segments ≡ o
    → option_and_then {U = ℕ × ℕ} (λ a. option_map (λ b. (a.number, b.number)) (find (clashes a) segments)) o ≡ None → find (has_clash segments) segments ≡ None
no_pair segments None found e = found
no_pair segments (Some a) found e =
    let passes = find_some (has_clash segments) segments a found in
    let other = any_passing (clashes a) segments passes.1 in
    absurd (find_none (clashes a) segments other.element (second_none a (find (clashes a) segments) e) other.among other.passes)

pub clear_13 : (bytes : List ℕ) (map : MemoryMap) (segments : List Numbered) → segments ≡ numbered_segments bytes → IsClear 12 bytes map → first_overlap segments ≡ None → IsClear 13 bytes map
clear_13 bytes map segments is clear found =
    let none = no_pair (numbered_segments bytes) (find (has_clash (numbered_segments bytes)) (numbered_segments bytes)) refl (sym (ap first_overlap is) ∙ found) in
    next_clear 12 bytes map clear (λ i j over.
    find_none (has_clash (numbered_segments bytes)) (numbered_segments bytes) (numbered_at bytes i) none (listed bytes i over.first)
    (any_at (clashes (numbered_at bytes i)) (numbered_segments bytes) (numbered_at bytes j) (listed bytes j over.second) (overlap_clash bytes i j over)))

-- the two in the file
overlaps_there : (bytes : List ℕ) (a b : Numbered) → Among a (numbered_segments bytes) → Among b (numbered_segments bytes) → a.number < b.number → SharesAddress a.header b.header → OverlapsAt bytes a.number b.number
overlaps_there bytes a b in_a in_b below shared = record {
  order = below;
  first = is_segment_at bytes a in_a;
  second = is_segment_at bytes b in_b;
  shared =
      let P : ProgramHeader → Type 0 = λ h. SharesAddress h (header_at bytes b.number) in
      let Q : ProgramHeader → Type 0 = λ h. SharesAddress a.header h in
      subst P (header_is bytes a in_a) (subst Q (header_is bytes b in_b) shared);
}

overlap_least : (bytes : List ℕ) (a b : Numbered) (i j : ℕ) → find (has_clash (numbered_segments bytes)) (numbered_segments bytes) ≡ Some a → find (clashes a) (numbered_segments bytes) ≡ Some b
    → OverlapsAt bytes i j → (a.number < i) ⊎ ((a.number ≡ i) × (b.number ≤ j))
overlap_least bytes a b i j found found_second over = cases low (eqb_tells a.number i) where
  clash : clashes (numbered_at bytes i) (numbered_at bytes j) ≡ true
  clash = overlap_clash bytes i j over

  low : a.number ≤ i
  low = find_least (has_clash (numbered_segments bytes)) (numbered_segments bytes) a (numbered_at bytes i) (rising bytes) found (listed bytes i over.first)
      (any_at (clashes (numbered_at bytes i)) (numbered_segments bytes) (numbered_at bytes j) (listed bytes j over.second) clash)

  cases : a.number ≤ i → ((eqb a.number i ≡ true) × (a.number ≡ i)) ⊎ ((eqb a.number i ≡ false) × (a.number ≢ i)) → (a.number < i) ⊎ ((a.number ≡ i) × (b.number ≤ j))
  cases up (inl equal) =
      let is : a ≡ numbered_at bytes i = is_listed bytes a (find_some (has_clash (numbered_segments bytes)) (numbered_segments bytes) a found).0 ∙ ap (numbered_at bytes) equal.1 in
      let here : clashes a (numbered_at bytes j) ≡ true = ap (λ (x : Numbered). clashes x (numbered_at bytes j)) is ∙ clash in
      inr (equal.1, find_least (clashes a) (numbered_segments bytes) b (numbered_at bytes j) (rising bytes) found_second (listed bytes j over.second) here)
  cases up (inr other) = let differ = other.1 in inl (omega arith)

overlap_first_of : (bytes : List ℕ) (map : MemoryMap) (a b : Numbered) → IsClear 12 bytes map → find (has_clash (numbered_segments bytes)) (numbered_segments bytes) ≡ Some a → find (clashes a) (numbered_segments bytes) ≡ Some b
    → IsFirstRefusal bytes map (Overlap a.number b.number)
overlap_first_of bytes map a b clear found found_second =
    let first = find_some (has_clash (numbered_segments bytes)) (numbered_segments bytes) a found in
    let second = find_some (clashes a) (numbered_segments bytes) b found_second in
    let back : has_clash (numbered_segments bytes) b ≡ true = any_at (clashes b) (numbered_segments bytes) a first.0 (clash_back a b second.1) in
    let low : a.number ≤ b.number = find_least (has_clash (numbered_segments bytes)) (numbered_segments bytes) a b (rising bytes) found second.0 back in
    let differ : a.number ≢ b.number = clash_numbers a b second.1 in
    let below : a.number < b.number = omega arith in
    first_of_number bytes map (Overlap a.number b.number) clear (overlaps_there bytes a b first.0 second.0 below (clash_shares a b second.1)) (λ i j over. overlap_least bytes a b i j found found_second over)

pub overlap_first : (bytes : List ℕ) (map : MemoryMap) (segments : List Numbered) (i j : ℕ) → segments ≡ numbered_segments bytes → IsClear 12 bytes map → first_overlap segments ≡ Some (i, j) → IsFirstRefusal bytes map (Overlap i j)
overlap_first bytes map segments i j is clear found =
    let pair : IsPair (numbered_segments bytes) i j = pair_some (numbered_segments bytes) (find (has_clash (numbered_segments bytes)) (numbered_segments bytes)) (i, j) refl (sym (ap first_overlap is) ∙ found) in
    let first = overlap_first_of bytes map pair.first pair.second clear pair.found pair.found_second in
    let at_first : IsFirstRefusal bytes map (Overlap i (pair.second).number) = subst (λ k. IsFirstRefusal bytes map (Overlap k (pair.second).number)) pair.first_is first in
    subst (λ k. IsFirstRefusal bytes map (Overlap i k)) pair.second_is at_first

-- ---- no segment

none_among : (xs : List Numbered) (x : Numbered) → (length xs == 0) ≡ true → Among x xs → ⊥
none_among [] x e among = among
none_among (y ∷ ys) x e among = absurd (grind (arith, nat_tests))

some_among : (xs : List Numbered) → (length xs == 0) ≡ false → (x : Numbered) × Among x xs
some_among [] e = absurd cc
some_among (y ∷ ys) e = (y, inl refl)

pub no_segment_first : (bytes : List ℕ) (map : MemoryMap) (segments : List Numbered) → segments ≡ numbered_segments bytes → IsClear 13 bytes map → (length segments == 0) ≡ true → IsFirstRefusal bytes map NoSegment
no_segment_first bytes map segments is clear empty =
    first_without_header bytes map NoSegment refl refl clear (λ i at. none_among (numbered_segments bytes) (numbered_at bytes i) (sym (ap (λ (xs : List Numbered). length xs == 0) is) ∙ empty) (listed bytes i at))

pub clear_14 : (bytes : List ℕ) (map : MemoryMap) (segments : List Numbered) → segments ≡ numbered_segments bytes → IsClear 13 bytes map → (length segments == 0) ≡ false → IsClear 14 bytes map
clear_14 bytes map segments is clear some =
    let found = some_among (numbered_segments bytes) (sym (ap (λ (xs : List Numbered). length xs == 0) is) ∙ some) in
    next_clear 13 bytes map clear (λ i j none. let none_at : (k : ℕ) → IsSegmentAt bytes k → ⊥ = none in none_at (found.0).number (is_segment_at bytes found.0 found.1))

-- ---- the entry

both : (s t : Bool) → (s && t) ≡ true → (s ≡ true) × (t ≡ true)
both true t e = (refl, e)
both false t e = absurd cc

and_true : (s t : Bool) → s ≡ true → t ≡ true → (s && t) ≡ true
and_true true t a b = b
and_true false t a b = absurd cc

-- a segment that may be executed and has all four bytes
record HasWord (address : ℕ) (header : ProgramHeader) : Type 0 where
  executable : has_bit 0 header.p_flags ≡ true
  start : header.p_vaddr ≤ address
  end : address + 4 ≤ header.p_vaddr + header.p_memsz

has_word : (address : ℕ) (header : ProgramHeader) → has_word_at address header ≡ true → HasWord address header
has_word address header e =
    let outer = both (has_bit 0 header.p_flags && nat_le header.p_vaddr address) (nat_le (address + 4) (header.p_vaddr + header.p_memsz)) e in
    let inner = both (has_bit 0 header.p_flags) (nat_le header.p_vaddr address) outer.0 in
    let low = inner.1 in
    let high = outer.1 in
    record { executable = inner.0; start = grind (arith, nat_tests); end = grind (arith, nat_tests) }

word_test : (address : ℕ) (header : ProgramHeader) → HasWord address header → has_word_at address header ≡ true
word_test address header has =
    let low = has.start in
    let high = has.end in
    and_true _ (nat_le (address + 4) (header.p_vaddr + header.p_memsz)) (and_true (has_bit 0 header.p_flags) (nat_le header.p_vaddr address) has.executable (grind (arith, nat_tests))) (grind (arith, nat_tests))

pub executable_there : (bytes : List ℕ) (address : ℕ) → is_executable_among (numbered_segments bytes) address ≡ true → IsExecutable bytes address
executable_there bytes address e =
    let tests = both (address % 4 == 0) (list_any (λ s. has_word_at address s.header) (numbered_segments bytes)) e in
    let found = any_passing (λ s. has_word_at address s.header) (numbered_segments bytes) tests.1 in
    let s = found.element in
    let word = has_word address (header_at bytes s.number) (sym (ap (has_word_at address) (header_is bytes s found.among)) ∙ found.passes) in
    let aligned = tests.0 in record {
      aligned = grind (arith, nat_tests);
      number = s.number;
      segment = is_segment_at bytes s found.among;
      executable = word.executable;
      start = word.start;
      end = word.end;
    }

pub executable_test : (bytes : List ℕ) (address : ℕ) → IsExecutable bytes address → is_executable_among (numbered_segments bytes) address ≡ true
executable_test bytes address is =
    let aligned = is.aligned in
    and_true (address % 4 == 0) (list_any (λ s. has_word_at address s.header) (numbered_segments bytes)) (grind (arith, nat_tests))
    (any_at (λ s. has_word_at address s.header) (numbered_segments bytes) (numbered_at bytes is.number) (listed bytes is.number is.segment)
    (word_test address (header_at bytes is.number) (record { executable = is.executable; start = is.start; end = is.end })))

pub entry_first : (bytes : List ℕ) (map : MemoryMap) (segments : List Numbered) (entry : ℕ) → segments ≡ numbered_segments bytes → entry ≡ (file_header bytes).e_entry → IsClear 14 bytes map → is_executable_among segments entry ≡ false → IsFirstRefusal bytes map (EntryNotExecutable entry)
entry_first bytes map segments entry is entry_is clear fails =
    let test : is_executable_among (numbered_segments bytes) entry ≡ false = sym (ap (λ (xs : List Numbered). is_executable_among xs entry) is) ∙ fails in
    first_without_header bytes map (EntryNotExecutable entry) refl refl clear
    ((λ executable. let passes : is_executable_among (numbered_segments bytes) entry ≡ true = executable_test bytes entry executable in absurd cc), entry_is)

pub all_clear : (bytes : List ℕ) (map : MemoryMap) (segments : List Numbered) (entry : ℕ) → segments ≡ numbered_segments bytes → entry ≡ (file_header bytes).e_entry → IsClear 14 bytes map → is_executable_among segments entry ≡ true → IsLoadable bytes map
all_clear bytes map segments entry is entry_is clear passes =
    let executable = executable_there bytes entry (sym (ap (λ (xs : List Numbered). is_executable_among xs entry) is) ∙ passes) in
    let at_entry : IsExecutable bytes (file_header bytes).e_entry = subst (λ e. IsExecutable bytes e) entry_is executable in
    loadable bytes map (next_clear 14 bytes map clear (λ i j not_executable. let none : IsExecutable bytes (file_header bytes).e_entry → ⊥ = not_executable in none at_entry))

-- ---- the bytes of what is accepted

pub in_file : (b : Bool) (len : ℕ) (header : ProgramHeader) → is_out_of_file len header ≡ b → (b ≡ true → ⊥) → header.p_offset + header.p_filesz ≤ len
in_file true len header t fails = absurd (fails refl)
in_file false len header t fails = grind (arith, nat_tests)

pub in_memory_size : (b : Bool) (header : ProgramHeader) → is_above_memory_size header ≡ b → (b ≡ true → ⊥) → header.p_filesz ≤ header.p_memsz
in_memory_size true header t fails = absurd (fails refl)
in_memory_size false header t fails = grind (arith, nat_tests)

in_memory : (header : ProgramHeader) → is_segment header ≡ true → header.p_filesz ≤ header.p_memsz → 0 < header.p_memsz
in_memory header t room = grind (arith, nat_tests)

-- the segments of which none has more bytes in the file than in memory have some in memory
pub is_table : (bytes : List ℕ) (map : MemoryMap) (segments : List Numbered) → segments ≡ numbered_segments bytes → IsClear 12 bytes map → IsTable segments
is_table bytes map segments is clear =
    subst IsTable (sym is) (record {
      rising = rising bytes;
      in_memory = λ s among.
          in_memory s.header (ap is_segment (header_is bytes s among) ∙ (is_segment_at bytes s among).segment)
          (in_memory_size (is_above_memory_size s.header) s.header refl (λ t. clear.none_before (FileSizeAboveMemory s.number) (omega arith) (fails_there is_above_memory_size bytes s among t)));
    })

pub segments_have_bytes : (bytes : List ℕ) (map : MemoryMap) (segments : List Numbered) → segments ≡ numbered_segments bytes → IsLoadable bytes map → All (HasBytes (length bytes)) segments
segments_have_bytes bytes map segments is accepted =
    let P : List Numbered → Type 0 = λ xs. All (HasBytes (length bytes)) xs in
    subst P (sym is) (all_among (HasBytes (length bytes)) (numbered_segments bytes) (λ s among. record {
      within = in_file (is_out_of_file (length bytes) s.header) (length bytes) s.header refl (λ t. accepted (SegmentOutOfFile s.number) (fails_there (is_out_of_file (length bytes)) bytes s among t));
      room = in_memory_size (is_above_memory_size s.header) s.header refl (λ t. accepted (FileSizeAboveMemory s.number) (fails_there is_above_memory_size bytes s among t));
    }))
