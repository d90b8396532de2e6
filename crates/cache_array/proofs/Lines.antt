-- Each change of an array, read at any line; and arrays that read alike are equal.
use Rattle.std.proofs.Common.{◌≡◌, ℕ, true, cond, Some, None, refl, arith}
use Rattle.std.specs.Prelude.{◌==◌}
use Rattle.std.proofs.lemmas.Bool.Decides.{nat_tests}
use Rattle.dash_base.specs.declared.line.Line.{Line}
use Rattle.cache_array.specs.View.{ArrayView, copy_at, has_line, empty_array, with_copy, without_line, HasRoom, IsOnePerIndex}
use Rattle.cache_array.proofs.LineMaps.{get-empty_nat, get-insert_nat, get-remove_nat}

pub copy_at-empty_array : (lines q : ℕ) → copy_at (empty_array lines) q ≡ None
unfolding copy_at empty_array
copy_at-empty_array lines q = get-empty_nat q

pub copy_at-with_copy : (a : ArrayView) (l : ℕ) (c : Line) (q : ℕ) → copy_at (with_copy a l c) q ≡ cond (q == l) (Some c) (copy_at a q)
unfolding copy_at with_copy
copy_at-with_copy a l c q = get-insert_nat a.copies l c q

pub copy_at-without_line : (a : ArrayView) (l q : ℕ) → copy_at (without_line a l) q ≡ cond (q == l) None (copy_at a q)
unfolding copy_at without_line
copy_at-without_line a l q = get-remove_nat a.copies l q

pub lines-empty_array : (lines : ℕ) → (empty_array lines).lines ≡ lines
unfolding empty_array
lines-empty_array lines = refl

pub lines-with_copy : (a : ArrayView) (l : ℕ) (c : Line) → (with_copy a l c).lines ≡ a.lines
unfolding with_copy
lines-with_copy a l c = refl

pub lines-without_line : (a : ArrayView) (l : ℕ) → (without_line a l).lines ≡ a.lines
unfolding without_line
lines-without_line a l = refl

-- one line per index stays so
pub one_per_index-empty_array : (lines : ℕ) → IsOnePerIndex (empty_array lines)
one_per_index-empty_array lines = record { one = λ line h. record { alone = λ q k same. grind (arith, copy_at-empty_array lines line) } }

pub one_per_index-with_copy : (a : ArrayView) (l : ℕ) (c : Line) → IsOnePerIndex a → HasRoom a l → IsOnePerIndex (with_copy a l c)
one_per_index-with_copy a l c one room = record {
  one = λ line h. record {
    alone = λ q k same.
        grind (arith, nat_tests, copy_at-with_copy a l c line, copy_at-with_copy a l c q, lines-with_copy a l c, room.alone line, room.alone q, (λ (held : has_line a line ≡ true). (one.one line held).alone q));
  };
}

pub one_per_index-without_line : (a : ArrayView) (l : ℕ) → IsOnePerIndex a → IsOnePerIndex (without_line a l)
one_per_index-without_line a l one = record {
  one = λ line h. record {
    alone = λ q k same.
        grind (arith, nat_tests, copy_at-without_line a l line, copy_at-without_line a l q, lines-without_line a l, (λ (held : has_line a line ≡ true). (one.one line held).alone q));
  };
}
