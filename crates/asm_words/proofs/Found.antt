-- A table that is searched from its end.
use Rattle.std.proofs.Common.{◌≡◌, ℕ, zero, suc, ◌-◌, ◌<◌, Bool, List, Option, Some, None, if◌then◌else◌, refl, ap, arith}
use Rattle.std.specs.Str.{bytes_eq}
use Rattle.asm_words.specs.Tables.{found_below}

pub found_step : (spelling : ℕ → List ℕ) (n : ℕ) (word : List ℕ) → 0 < n
    → found_below spelling n word ≡ (if bytes_eq (spelling (n - 1)) word then Some (n - 1) else found_below spelling (n - 1) word)
unfolding found_below
found_step spelling zero word some = absurd (omega arith)
found_step spelling (suc n) word some =
    let e : suc n - 1 ≡ n = omega arith in
    rw e refl

pub none_below : (spelling : ℕ → List ℕ) (word : List ℕ) → found_below spelling 0 word ≡ None
unfolding found_below
none_below spelling word = refl
