-- Maps as functions from numbers, sums, membership, and numbers that stop at a greatest value.
use Rattle.std.specs.Prelude.{ℕ, zero, suc, ◌+◌, ◌==◌, ◌||◌, Bool, false, not, cond, nat_lt, List, [], ◌∷◌, filter}

-- the map with v at k
abbrev pub upd : {A : Type 0} → (ℕ → A) → ℕ → A → ℕ → A
upd f k v i = cond (i == k) v (f i)

-- the weights of the members of a list, added up
unfoldable pub weigh : {A : Type 0} → (A → ℕ) → List A → ℕ
weigh w [] = 0
weigh w (x ∷ xs) = w x + weigh w xs

-- f 0 + .. + f (n - 1)
unfoldable pub total : (ℕ → ℕ) → ℕ → ℕ
total f zero = 0
total f (suc n) = f n + total f n

-- whether a number is in a list
unfoldable pub member : ℕ → List ℕ → Bool
member c [] = false
member c (x ∷ xs) = (x == c) || member c xs

-- a list without a number
unfoldable pub without : ℕ → List ℕ → List ℕ
without c cs = filter (λ x. not (x == c)) cs

-- a rising list with a number in its place
unfoldable pub with_member : ℕ → List ℕ → List ℕ
with_member c [] = c ∷ []
with_member c (x ∷ xs) = cond (x == c) (x ∷ xs) (cond (nat_lt c x) (c ∷ x ∷ xs) (x ∷ with_member c xs))

-- one more, which stays at its greatest value
abbrev pub raised : ℕ → ℕ → ℕ
raised most n = cond (nat_lt n most) (n + 1) n

-- the greatest values of a version, a count of a lock word and a stamp, and of a count of acknowledgements
abbrev pub most : ℕ
most = 18446744073709551615

abbrev pub most_got : ℕ
most_got = 4294967295
