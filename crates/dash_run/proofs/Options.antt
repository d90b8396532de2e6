-- Options that are equal.
use Rattle.std.proofs.Common.{◌≡◌, Option, Some, None, unwrap_or, sym, ◌∙◌, ap}

pub some_injective : {A : Type 0} (a b : A) → Some a ≡ Some b → a ≡ b
some_injective a b same = ap (λ o. unwrap_or o a) same

-- no option is both
pub none_is_none : {A : Type 0} (o : Option A) (a : A) → o ≡ None → o ≡ Some a → ⊥
none_is_none o a none some = let both : None ≡ Some a = sym none ∙ some in cc
