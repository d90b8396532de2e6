-- A range of bytes meets a segment that may not be written exactly where one of its bytes lies in one.
use Rattle.std.proofs.Common.{◌≡◌, ◌<◌, ◌+◌, ◌-◌, ℕ, Bool, true, false, not, ◌↔◌, List, Any, refl, sym, ap, ◌∙◌, arith}
use Rattle.std.specs.List.{list_any}
use Rattle.std.proofs.lemmas.Bool.Decides.{nat_tests}
use Rattle.std.proofs.lemmas.List.Folds.{Any-from_list_any, list_any-from_Any}
use Rattle.dash_base.specs.Segment.{SegmentView}
use Rattle.elf_load.specs.Image.{ImageView, is_read_only_at, is_writable, IsReadOnly, HasReadOnlyByte}

one_read_only : (address len : ℕ) (s : SegmentView) → is_read_only_at address len s ≡ true → (s.vaddr - address < len) × IsReadOnly (address + (s.vaddr - address)) s
one_read_only address len s e = (grind (arith, nat_tests), (grind (arith, nat_tests), grind (arith, nat_tests), grind (arith, nat_tests)))

read_only_at : (address len k : ℕ) (s : SegmentView) → k < len → IsReadOnly (address + k) s → is_read_only_at address len s ≡ true
read_only_at address len k s below e = grind (arith, nat_tests)

some_read_only : (address len : ℕ) (segments : List SegmentView) → list_any (is_read_only_at address len) segments ≡ true → (k : ℕ) × (k < len) × Any (IsReadOnly (address + k)) segments
some_read_only address len segments e =
    let found = Any-from_list_any (is_read_only_at address len) segments e in
    let s = found.1 in
    let one = one_read_only address len s found.4 in
    (s.vaddr - address, one.0, (found.0, s, found.2, found.3, one.1))

any_read_only : (address len k : ℕ) (segments : List SegmentView) → k < len → Any (IsReadOnly (address + k)) segments → list_any (is_read_only_at address len) segments ≡ true
any_read_only address len k segments below found =
    list_any-from_Any (is_read_only_at address len) segments (found.0, found.1, found.2, found.3, read_only_at address len k found.1 below found.4)

not_false : (b : Bool) → not b ≡ false → b ≡ true
not_false true e = refl
not_false false e = cc

-- so an answer to `is_writable` refuses exactly there
pub refused_read_only : (writable : Bool) (image : ImageView) (address len : ℕ) → writable ≡ is_writable image address len → (writable ≡ false) ↔ HasReadOnlyByte image address len
unfolding is_writable
refused_read_only writable image address len is = (
  λ e. some_read_only address len image.segments (not_false (list_any (is_read_only_at address len) image.segments) (sym is ∙ e)),
  λ h. is ∙ ap not (any_read_only address len h.0 image.segments h.1 h.2),
)
