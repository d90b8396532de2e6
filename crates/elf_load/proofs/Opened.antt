-- The memory that a run opens with, put together from the last segment to the first.
use Rattle.std.proofs.Common.{◌≡◌, ◌≢◌, ◌≤◌, ◌<◌, ◌+◌, ◌-◌, ◌*◌, ◌/◌, ◌⊎◌, ℕ, zero, suc, inl, inr, Bool, true, false, cond, ◌&&◌, nat_lt, eqb, List, [], ◌∷◌, map, length, drop, set, get_or, replicate, max, min, refl, sym, ◌∙◌, ap, subst, arith, get_or-set_same, get_or-set_other}
use Rattle.std.proofs.lemmas.List.{get_or_default}
use Rattle.std.specs.List.{range_with_len}
use Rattle.std.proofs.Math.Seq.{drop-cons}
use Rattle.std.proofs.lemmas.Bool.Decides.{nat_tests, eqb_tells}
use Rattle.dash_base.specs.Segment.{SegmentView}
use Rattle.elf_load.specs.Image.{holds, byte_among, word_among, words_among}
use Rattle.elf_load.specs.Opening.{IsOpening, IsPut}
use Rattle.elf_load.specs.Touched.{word_in}
use Rattle.elf_load.specs.declared.memory_map.MemoryMap.{MemoryMap}
use Rattle.elf_load.proofs.Touched.{byte_among-cons}

-- the bytes of a segment below an address are put
pub record IsPutBelow (at : ℕ) (s : SegmentView) (memory : MemoryMap) (old new : List ℕ) : Type 0 where
  pub each : (k : ℕ) → k < memory.size
      → get_or new k 0 ≡ cond (holds (memory.base + k) s && nat_lt (memory.base + k) at) (get_or s.bytes (memory.base + k - s.vaddr) 0) (get_or old k 0)

cond_same : (a b : Bool) (x y : ℕ) → a ≡ b → cond a x y ≡ cond b x y
cond_same a b x y same = ap (λ t. cond t x y) same

cond_true : (b : Bool) (x y : ℕ) → b ≡ true → cond b x y ≡ x
cond_true b x y same = ap (λ t. cond t x y) same

cond_false : (b : Bool) (x y : ℕ) → b ≡ false → cond b x y ≡ y
cond_false b x y same = ap (λ t. cond t x y) same

-- at first none is
pub none_put : (start : ℕ) (s : SegmentView) (memory : MemoryMap) (old : List ℕ) → start ≤ max s.vaddr memory.base → IsPutBelow start s memory old old
none_put start s memory old low = record { each = λ k within. sym (cond_false (holds (memory.base + k) s && nat_lt (memory.base + k) start) _ _ (grind (arith, nat_tests))) }

-- at last all are
pub all_put : (at : ℕ) (s : SegmentView) (memory : MemoryMap) (old new : List ℕ) → min (s.vaddr + length s.bytes) (memory.base + memory.size) ≤ at → IsPutBelow at s memory old new → IsPut s memory old new
all_put at s memory old new high below = record {
  each = λ k within.
      below.each k within ∙ cond_same (holds (memory.base + k) s && nat_lt (memory.base + k) at) (holds (memory.base + k) s) _ _ (grind (arith, nat_tests));
}

-- one more
pub one_more_put : (at : ℕ) (s : SegmentView) (memory : MemoryMap) (old now : List ℕ) → s.vaddr ≤ at → memory.base ≤ at → at < s.vaddr + length s.bytes → at < memory.base + memory.size → length now ≡ memory.size
    → IsPutBelow at s memory old now → IsPutBelow (at + 1) s memory old (set now (at - memory.base) (get_or s.bytes (at - s.vaddr) 0))
one_more_put at s memory old now low base high end len below = record { each = λ k within. cases k within (eqb_tells k (at - memory.base)) } where
  cases : (k : ℕ) → k < memory.size → ((eqb k (at - memory.base) ≡ true) × (k ≡ at - memory.base)) ⊎ ((eqb k (at - memory.base) ≡ false) × (k ≢ at - memory.base))
      → get_or (set now (at - memory.base) (get_or s.bytes (at - s.vaddr) 0)) k 0 ≡ cond (holds (memory.base + k) s && nat_lt (memory.base + k) (at + 1)) (get_or s.bytes (memory.base + k - s.vaddr) 0) (get_or old k 0)
  cases k within (inl equal) =
      let same = equal.1 in
      let place : memory.base + k - s.vaddr ≡ at - s.vaddr = omega arith in
      let inside : at - memory.base < length now = omega arith in
      ap (λ i. get_or (set now (at - memory.base) (get_or s.bytes (at - s.vaddr) 0)) i 0) same
      ∙ get_or-set_same now (at - memory.base) (get_or s.bytes (at - s.vaddr) 0) 0 inside
      ∙ ap (λ i. get_or s.bytes i 0) (sym place)
      ∙ sym (cond_true (holds (memory.base + k) s && nat_lt (memory.base + k) (at + 1)) _ _ (grind (arith, nat_tests)))
  cases k within (inr other) =
      let differ = other.1 in
      get_or-set_other now (at - memory.base) k (get_or s.bytes (at - s.vaddr) 0) 0 differ
      ∙ below.each k within
      ∙ cond_same (holds (memory.base + k) s && nat_lt (memory.base + k) at) (holds (memory.base + k) s && nat_lt (memory.base + k) (at + 1)) _ _ (grind (arith, nat_tests))

-- the same of a place and a byte by equations
pub put_at : (at place value : ℕ) (s : SegmentView) (memory : MemoryMap) (old now : List ℕ) → place ≡ at - memory.base → value ≡ get_or s.bytes (at - s.vaddr) 0
    → s.vaddr ≤ at → memory.base ≤ at → at < s.vaddr + length s.bytes → at < memory.base + memory.size → length now ≡ memory.size
    → IsPutBelow at s memory old now → IsPutBelow (at + 1) s memory old (set now place value)
put_at at place value s memory old now place_is value_is low base high end len below =
    let P : ℕ → ℕ → Type 0 = λ i v. IsPutBelow (at + 1) s memory old (set now i v) in
    subst (λ i. P i value) (sym place_is) (subst (λ v. P (at - memory.base) v) (sym value_is) (one_more_put at s memory old now low base high end len below))

-- a byte that was read, whatever stands for one out of range
pub byte_read : (xs ys : List ℕ) (i j x : ℕ) → xs ≡ ys → i ≡ j → i < length xs → x ≡ get_or xs i x → x ≡ get_or ys j 0
byte_read xs ys i j x same place within read =
    read ∙ get_or_default xs i x 0 within ∙ ap (λ k. get_or xs k 0) place ∙ ap (λ (zs : List ℕ). get_or zs j 0) same

zero_at : (n k : ℕ) → ◌≡◌ {A = ℕ} (get_or (replicate n 0) k 0) 0
zero_at zero k = refl
zero_at (suc n) zero = refl
zero_at (suc n) (suc k) = zero_at n k

drop_all : (segments : List SegmentView) → drop (length segments) segments ≡ []
drop_all [] = refl
drop_all (s ∷ segments) = drop_all segments

-- memory without a segment is zeros
pub opening_none : (segments : List SegmentView) (memory : MemoryMap) (bytes : List ℕ) → ◌≡◌ {A = List ℕ} bytes (replicate memory.size 0) → IsOpening (drop (length segments) segments) memory bytes
unfolding byte_among
opening_none segments memory bytes zeros =
    let P : List SegmentView → Type 0 = λ ss. IsOpening ss memory bytes in
    subst P (sym (drop_all segments)) (record { each = λ k within. ap (λ (xs : List ℕ). get_or xs k 0) zeros ∙ zero_at memory.size k })

-- with one more segment before the others
pub opening_more : (segments : List SegmentView) (i : ℕ) (s : SegmentView) (memory : MemoryMap) (old new : List ℕ) → i < length segments → s ≡ get_or segments i s
    → IsOpening (drop (i + 1) segments) memory old → IsPut s memory old new → IsOpening (drop i segments) memory new
opening_more segments i s memory old new inside is opened put =
    let next : i + 1 ≡ suc i = omega arith in
    let rest : drop i segments ≡ s ∷ drop (i + 1) segments =
    drop-cons segments i s inside ∙ ap (λ (x : SegmentView). x ∷ drop (suc i) segments) (sym is) ∙ ap (λ n. s ∷ drop n segments) (sym next) in
    let P : List SegmentView → Type 0 = λ ss. IsOpening ss memory new in
    subst P (sym rest) (record {
      each = λ k within.
          put.each k within
          ∙ ap (λ b. cond (holds (memory.base + k) s) (get_or s.bytes (memory.base + k - s.vaddr) 0) b) (opened.each k within)
          ∙ sym (byte_among-cons s (drop (i + 1) segments) (memory.base + k));
    })

pub opening_at : (segments : List SegmentView) (left : ℕ) (s : SegmentView) (memory : MemoryMap) (old new : List ℕ) → 0 < left → left ≤ length segments → s ≡ get_or segments (left - 1) s
    → IsOpening (drop left segments) memory old → IsPut s memory old new → IsOpening (drop (left - 1) segments) memory new
opening_at segments left s memory old new some within is opened put =
    let next : left ≡ left - 1 + 1 = omega arith in
    let at_next : IsOpening (drop (left - 1 + 1) segments) memory old = subst (λ n. IsOpening (drop n segments) memory old) next opened in
    opening_more segments (left - 1) s memory old new (omega arith) is at_next put

same_map : (f g : ℕ → ℕ) (a n : ℕ) → ((i : ℕ) → a ≤ i → i < a + n → f i ≡ g i) → map f (range_with_len a n) ≡ map g (range_with_len a n)
same_map f g a zero each = refl
same_map f g a (suc n) each =
    let first : f a ≡ g a = each a (omega arith) (omega arith) in
    let rest : map f (range_with_len (a + 1) n) ≡ map g (range_with_len (a + 1) n) = same_map f g (a + 1) n (λ i low high. each i (omega arith) (omega arith)) in
    ap (λ x. x ∷ map f (range_with_len (a + 1) n)) first ∙ ap (λ xs. g a ∷ xs) rest

same_word : (segments : List SegmentView) (memory : MemoryMap) (bytes : List ℕ) (i : ℕ) → IsOpening segments memory bytes → 4 * i + 4 ≤ memory.size → word_in bytes (4 * i) ≡ word_among segments (memory.base + 4 * i)
unfolding word_among
same_word segments memory bytes i opened inside =
    let b0 = opened.each (4 * i) (omega arith) in
    let b1 : get_or bytes (4 * i + 1) 0 ≡ byte_among segments (memory.base + 4 * i + 1) = opened.each (4 * i + 1) (omega arith) ∙ ap (byte_among segments) (omega arith) in
    let b2 : get_or bytes (4 * i + 2) 0 ≡ byte_among segments (memory.base + 4 * i + 2) = opened.each (4 * i + 2) (omega arith) ∙ ap (byte_among segments) (omega arith) in
    let b3 : get_or bytes (4 * i + 3) 0 ≡ byte_among segments (memory.base + 4 * i + 3) = opened.each (4 * i + 3) (omega arith) ∙ ap (byte_among segments) (omega arith) in
    omega (arith, b0, b1, b2, b3)

-- the words of it
pub opened_words : (segments : List SegmentView) (memory : MemoryMap) (bytes words : List ℕ) → IsOpening segments memory bytes
    → words ≡ map (λ i. word_in bytes (4 * i)) (range_with_len 0 (memory.size / 4)) → words ≡ words_among segments memory
unfolding words_among
opened_words segments memory bytes words opened are =
    are ∙ same_map (λ i. word_in bytes (4 * i)) (λ i. word_among segments (memory.base + 4 * i)) 0 (memory.size / 4) (λ i low high. same_word segments memory bytes i opened (omega arith))
