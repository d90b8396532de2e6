-- The word at an address: that of the first segment which it touches, where that segment begins with
-- all four bytes, and 0 where it touches none.
use Rattle.std.proofs.Common.{◌≡◌, ◌≤◌, ◌<◌, ◌+◌, ◌-◌, ℕ, Bool, true, false, cond, List, [], ◌∷◌, length, Option, Some, None, find, slice_index, refl, sym, ap, ◌∙◌, subst, arith}
use Rattle.std.specs.Option.{option_map_or}
use Rattle.std.proofs.lemmas.Bool.Decides.{nat_tests}
use Rattle.dash_base.specs.Segment.{SegmentView}
use Rattle.elf_load.specs.Image.{holds, byte_among, word_among}
use Rattle.elf_load.specs.Touched.{touches, HoldsWord}

-- the value at a choice is the choice of the values
map_or-cond : (f : SegmentView → ℕ) (b : Bool) (s : SegmentView) (o : Option SegmentView) → option_map_or f (cond b (Some s) o) 0 ≡ cond b (f s) (option_map_or f o 0)
map_or-cond f true s o = refl
map_or-cond f false s o = refl

pub byte_among-cons : (s : SegmentView) (ss : List SegmentView) (at : ℕ) → byte_among (s ∷ ss) at ≡ cond (holds at s) (slice_index s.bytes (at - s.vaddr)) (byte_among ss at)
unfolding byte_among
byte_among-cons s ss at = map_or-cond (λ s. slice_index s.bytes (at - s.vaddr)) (holds at s) s (find (holds at) ss)

-- a segment that is not touched holds none of the four bytes
not_held : (s : SegmentView) (address at : ℕ) → touches address s ≡ false → address ≤ at → at < address + 4 → holds at s ≡ false
not_held s address at e low high = grind (arith, nat_tests)

held : (s : SegmentView) (at place : ℕ) → at ≡ s.vaddr + place → place < length s.bytes → holds at s ≡ true
held s at place e h = grind (arith, nat_tests)

-- so the byte is that of the segments after it
byte_passed : (s : SegmentView) (ss : List SegmentView) (address at : ℕ) → touches address s ≡ false → address ≤ at → at < address + 4 → byte_among (s ∷ ss) at ≡ byte_among ss at
byte_passed s ss address at e low high =
    byte_among-cons s ss at ∙ ap (λ b. cond b (slice_index s.bytes (at - s.vaddr)) (byte_among ss at)) (not_held s address at e low high)

byte_here : (s : SegmentView) (ss : List SegmentView) (at place : ℕ) → at ≡ s.vaddr + place → place < length s.bytes → byte_among (s ∷ ss) at ≡ slice_index s.bytes place
byte_here s ss at place e h =
    let there : at - s.vaddr ≡ place = omega arith in
    byte_among-cons s ss at ∙ ap (λ b. cond b (slice_index s.bytes (at - s.vaddr)) (byte_among ss at)) (held s at place e h) ∙ ap (slice_index s.bytes) there

-- where no segment is touched the byte is 0
untouched_first : (b : Bool) (s : SegmentView) (ss : List SegmentView) (address at : ℕ) → touches address s ≡ b → cond b (Some s) (find (touches address) ss) ≡ None → address ≤ at → at < address + 4 → (find (touches address) ss ≡ None → byte_among ss at ≡ 0) → byte_among (s ∷ ss) at ≡ 0
untouched_first true s ss address at t e low high rest = cc
untouched_first false s ss address at t e low high rest =
    byte_passed s ss address at t low high ∙ rest e

byte_untouched : (ss : List SegmentView) (address at : ℕ) → find (touches address) ss ≡ None → address ≤ at → at < address + 4 → byte_among ss at ≡ 0
unfolding byte_among
byte_untouched [] address at e low high = refl
byte_untouched (s ∷ ss) address at e low high =
    untouched_first (touches address s) s ss address at refl e low high (λ h. byte_untouched ss address at h low high)

-- where the first segment that is touched has the byte, it is that one's
touched_first : (b : Bool) (s x : SegmentView) (ss : List SegmentView) (address at place : ℕ) → touches address s ≡ b → cond b (Some s) (find (touches address) ss) ≡ Some x → address ≤ at → at < address + 4 → at ≡ x.vaddr + place → place < length x.bytes → (find (touches address) ss ≡ Some x → byte_among ss at ≡ slice_index x.bytes place) → byte_among (s ∷ ss) at ≡ slice_index x.bytes place
touched_first true s x ss address at place t e low high is has rest =
    let same : x ≡ s = cc in
    subst (λ (y : SegmentView). byte_among (s ∷ ss) at ≡ slice_index y.bytes place) (sym same) (byte_here s ss at place (is ∙ ap (λ (y : SegmentView). y.vaddr + place) same) (subst (λ (y : SegmentView). place < length y.bytes) same has))
touched_first false s x ss address at place t e low high is has rest =
    byte_passed s ss address at t low high ∙ rest e

byte_touched : (ss : List SegmentView) (x : SegmentView) (address at place : ℕ) → find (touches address) ss ≡ Some x → address ≤ at → at < address + 4 → at ≡ x.vaddr + place → place < length x.bytes → byte_among ss at ≡ slice_index x.bytes place
byte_touched [] x address at place e low high is has = cc
byte_touched (s ∷ ss) x address at place e low high is has =
    touched_first (touches address s) s x ss address at place refl e low high is has (λ h. byte_touched ss x address at place h low high is has)

-- the word where no segment is touched
pub word_untouched : (ss : List SegmentView) (address : ℕ) → find (touches address) ss ≡ None → 0 ≡ word_among ss address
unfolding word_among
word_untouched ss address e =
    let b0 = byte_untouched ss address address e (omega arith) (omega arith) in
    let b1 = byte_untouched ss address (address + 1) e (omega arith) (omega arith) in
    let b2 = byte_untouched ss address (address + 2) e (omega arith) (omega arith) in
    let b3 = byte_untouched ss address (address + 3) e (omega arith) (omega arith) in
    omega (arith, b0, b1, b2, b3)

-- the word where the first segment that is touched begins with all of it
pub word_touched : (ss : List SegmentView) (x : SegmentView) (word address : ℕ) → find (touches address) ss ≡ Some x → HoldsWord word address x → word ≡ word_among ss address
unfolding word_among
word_touched ss x word address e h =
    let place = address - x.vaddr in
    let start : address ≡ x.vaddr + place = omega (arith, h.start) in
    let end : place + 4 ≤ length x.bytes = omega (arith, h.start, h.end) in
    let b0 = byte_touched ss x address address place e (omega arith) (omega arith) start (omega arith) in
    let b1 = byte_touched ss x address (address + 1) (place + 1) e (omega arith) (omega arith) (omega arith) (omega arith) in
    let b2 = byte_touched ss x address (address + 2) (place + 2) e (omega arith) (omega arith) (omega arith) (omega arith) in
    let b3 = byte_touched ss x address (address + 3) (place + 3) e (omega arith) (omega arith) (omega arith) (omega arith) in
    omega (arith, h.is, b0, b1, b2, b3)
