-- The list of segments has exactly the program headers of segments, and their numbers rise.
use Rattle.std.proofs.Common.{◌≡◌, ◌≤◌, ◌<◌, ◌+◌, ℕ, zero, suc, Bool, true, false, cond, ◌⊎◌, ◌≢◌, inl, inr, eqb, List, ◌∷◌, filter, map, refl, sym, ◌∙◌, ap, arith}
use Rattle.std.specs.List.{range_with_len}
use Rattle.std.proofs.lemmas.Bool.Decides.{eqb_tells}
use Rattle.dash_base.specs.Segment.{SegmentView}
use Rattle.elf_load.specs.Header.{file_header, header_at}
use Rattle.elf_load.specs.Refusal.{is_segment, IsSegmentAt}
use Rattle.elf_load.specs.Loader.{segment_headers}
use Rattle.elf_load.specs.Table.{Among, Rising, numbered_at, numbered_segments}
use Rattle.elf_load.specs.declared.header.ProgramHeader.{ProgramHeader}
use Rattle.elf_load.specs.declared.segment_table.Numbered.{Numbered}

pub first_or_later : (a i : ℕ) → a ≤ i → (i ≡ a) ⊎ (a + 1 ≤ i)
first_or_later a i low = cases (eqb_tells i a) where
  cases : ((eqb i a ≡ true) × (i ≡ a)) ⊎ ((eqb i a ≡ false) × (i ≢ a)) → (i ≡ a) ⊎ (a + 1 ≤ i)
  cases (inl equal) = inl equal.1
  cases (inr other) = let differ = other.1 in inr (omega arith)

-- the segments of n program headers from one number on
abbrev segments_from : List ℕ → ℕ → ℕ → List Numbered
segments_from bytes a n = filter (λ s. is_segment s.header) (map (numbered_at bytes) (range_with_len a n))

listed_in : (b : Bool) (bytes : List ℕ) (a i : ℕ) (rest : List Numbered) → is_segment (header_at bytes a) ≡ b → is_segment (header_at bytes i) ≡ true → (i ≡ a) ⊎ (a + 1 ≤ i)
    → (a + 1 ≤ i → Among (numbered_at bytes i) rest) → Among (numbered_at bytes i) (cond b (numbered_at bytes a ∷ rest) rest)
listed_in true bytes a i rest t ti (inl same) later = inl (ap (numbered_at bytes) same)
listed_in true bytes a i rest t ti (inr after) later = inr (later after)
listed_in false bytes a i rest t ti (inl same) later =
    let both : is_segment (header_at bytes i) ≡ is_segment (header_at bytes a) = ap (λ k. is_segment (header_at bytes k)) same in
    let clash : true ≡ false = sym ti ∙ both ∙ t in absurd cc
listed_in false bytes a i rest t ti (inr after) later = later after

listed_from : (bytes : List ℕ) (a n i : ℕ) → a ≤ i → i < a + n → is_segment (header_at bytes i) ≡ true → Among (numbered_at bytes i) (segments_from bytes a n)
listed_from bytes a zero i low high t = absurd (omega arith)
listed_from bytes a (suc n) i low high t =
    listed_in (is_segment (header_at bytes a)) bytes a i (segments_from bytes (a + 1) n) refl t (first_or_later a i low) (λ after. listed_from bytes (a + 1) n i after (omega arith) t)

-- where an element stands in the file
pub record IsListed (bytes : List ℕ) (a n : ℕ) (s : Numbered) : Type 0 where
  pub low : a ≤ s.number
  pub high : s.number < a + n
  pub is : s ≡ numbered_at bytes s.number
  pub segment : is_segment (header_at bytes s.number) ≡ true

sound_in : (b : Bool) (bytes : List ℕ) (a n : ℕ) (s : Numbered) (rest : List Numbered) → is_segment (header_at bytes a) ≡ b → Among s (cond b (numbered_at bytes a ∷ rest) rest)
    → (Among s rest → IsListed bytes (a + 1) n s) → IsListed bytes a (suc n) s
sound_in true bytes a n s rest t (inl same) later =
    let number : s.number ≡ a = ap (λ x. x.number) same in record {
      low = omega arith;
      high = omega arith;
      is = same ∙ ap (numbered_at bytes) (sym number);
      segment = ap (λ k. is_segment (header_at bytes k)) number ∙ t;
    }
sound_in true bytes a n s rest t (inr after) later =
    let listed = later after in
    let low = listed.low in let high = listed.high in record { low = omega arith; high = omega arith; is = listed.is; segment = listed.segment }
sound_in false bytes a n s rest t after later =
    let listed = later after in
    let low = listed.low in let high = listed.high in record { low = omega arith; high = omega arith; is = listed.is; segment = listed.segment }

sound_from : (bytes : List ℕ) (a n : ℕ) (s : Numbered) → Among s (segments_from bytes a n) → IsListed bytes a n s
sound_from bytes a zero s among = absurd among
sound_from bytes a (suc n) s among =
    sound_in (is_segment (header_at bytes a)) bytes a n s (segments_from bytes (a + 1) n) refl among (sound_from bytes (a + 1) n s)

rising_in : (b : Bool) (x : Numbered) (rest : List Numbered) → Rising rest → ((z : Numbered) → Among z rest → x.number < z.number) → Rising (cond b (x ∷ rest) rest)
rising_in true x rest rising above = (above, rising)
rising_in false x rest rising above = rising

rising_from : (bytes : List ℕ) (a n : ℕ) → Rising (segments_from bytes a n)
rising_from bytes a zero = tt
rising_from bytes a (suc n) =
    rising_in (is_segment (header_at bytes a)) (numbered_at bytes a) (segments_from bytes (a + 1) n) (rising_from bytes (a + 1) n) (λ z among. let low = (sound_from bytes (a + 1) n z among).low in omega arith)

-- the program header of a segment is in the list, with its number
pub listed : (bytes : List ℕ) (i : ℕ) → IsSegmentAt bytes i → Among (numbered_at bytes i) (numbered_segments bytes)
unfolding numbered_segments
listed bytes i at = let high = at.number in listed_from bytes 0 (file_header bytes).e_phnum i (omega arith) (omega arith) at.segment

-- an element is the program header of its number
pub is_listed : (bytes : List ℕ) (s : Numbered) → Among s (numbered_segments bytes) → s ≡ numbered_at bytes s.number
unfolding numbered_segments
is_listed bytes s among = (sound_from bytes 0 (file_header bytes).e_phnum s among).is

-- which is that of a segment
pub is_segment_at : (bytes : List ℕ) (s : Numbered) → Among s (numbered_segments bytes) → IsSegmentAt bytes s.number
unfolding numbered_segments
is_segment_at bytes s among =
    let found = sound_from bytes 0 (file_header bytes).e_phnum s among in
    let high = found.high in record { number = omega arith; segment = found.segment }

pub rising : (bytes : List ℕ) → Rising (numbered_segments bytes)
unfolding numbered_segments
rising bytes = rising_from bytes 0 (file_header bytes).e_phnum

same_in : (b : Bool) (f : ProgramHeader → SegmentView) (x : Numbered) (xs : List Numbered) (hs : List ProgramHeader) → map (λ s. f s.header) xs ≡ map f hs
    → map (λ s. f s.header) (cond b (x ∷ xs) xs) ≡ map f (cond b (x.header ∷ hs) hs)
same_in true f x xs hs rest = ap (λ ys. f x.header ∷ ys) rest
same_in false f x xs hs rest = rest

same_from : (f : ProgramHeader → SegmentView) (bytes : List ℕ) (a n : ℕ)
    → map (λ s. f s.header) (segments_from bytes a n) ≡ map f (filter is_segment (map (header_at bytes) (range_with_len a n)))
same_from f bytes a zero = refl
same_from f bytes a (suc n) =
    same_in (is_segment (header_at bytes a)) f (numbered_at bytes a) (segments_from bytes (a + 1) n) (filter is_segment (map (header_at bytes) (range_with_len (a + 1) n))) (same_from f bytes (a + 1) n)

-- what is made of each element is made of each program header
pub same_segments : (f : ProgramHeader → SegmentView) (bytes : List ℕ) → map (λ s. f s.header) (numbered_segments bytes) ≡ map f (segment_headers bytes)
unfolding numbered_segments
same_segments f bytes = same_from f bytes 0 (file_header bytes).e_phnum
