-- Lists of the numbers that pass: their members, and what one number more or less makes of them.
use Rattle.std.proofs.Common.{◌≡◌, ◌≢◌, ℕ, zero, suc, ◌+◌, ◌<◌, ◌≤◌, ◌==◌, ◌&&◌, ◌||◌, Bool, true, false, cond, not, nat_lt, List, [], ◌∷◌, refl, sym, ap, ap₂, ◌∙◌, arith}
use Rattle.std.proofs.lemmas.Bool.Decides.{nat_tests}
use Rattle.std.specs.Prelude.{filter}
use Rattle.dash_model.specs.Maps.{member, with_member, without}
use Rattle.unit_rows.specs.Lists.{picked}
use Rattle.unit_rows.proofs.Same.{is_not_same}

pub picked-same : (p q : ℕ → Bool) (from n : ℕ) → ((h : ℕ) → from ≤ h → h < from + n → p h ≡ q h) → picked p from n ≡ picked q from n
unfolding picked
picked-same p q from zero e = refl
picked-same p q from (suc n) e =
    let ih = picked-same p q (from + 1) n (λ h a b. e h (omega arith) (omega arith)) in
    ap₂ (λ i xs. cond i (from ∷ xs) xs) (e from (omega arith) (omega arith)) ih

none-picked : (from n : ℕ) → picked (λ h. false) from n ≡ []
unfolding picked
none-picked from zero = refl
none-picked from (suc n) = none-picked (from + 1) n

pub picked-none : (p : ℕ → Bool) (from n : ℕ) → ((h : ℕ) → from ≤ h → h < from + n → p h ≡ false) → picked p from n ≡ []
picked-none p from n e = picked-same p (λ h. false) from n e ∙ none-picked from n

-- members
member_if : (h from : ℕ) (xs : List ℕ) (b c : Bool) → (from == h) ≡ b → member h (cond c (from ∷ xs) xs) ≡ (b && c) || member h xs
unfolding member
member_if h from xs true true e = ap (λ i. i || member h xs) e
member_if h from xs false true e = ap (λ i. i || member h xs) e
member_if h from xs true false e = refl
member_if h from xs false false e = refl

absent : (h : ℕ) → member h [] ≡ false
unfolding member
absent h = refl

pub member-below : (p : ℕ → Bool) (h from n : ℕ) → h < from → member h (picked p from n) ≡ false
unfolding picked
member-below p h from zero low = absent h
member-below p h from (suc n) low = member_if h from (picked p (from + 1) n) false (p from) (grind (arith, nat_tests)) ∙ member-below p h (from + 1) n (omega arith)

pub member-above : (p : ℕ → Bool) (h from n : ℕ) → from + n ≤ h → member h (picked p from n) ≡ false
unfolding picked
member-above p h from zero high = absent h
member-above p h from (suc n) high = member_if h from (picked p (from + 1) n) false (p from) (grind (arith, nat_tests)) ∙ member-above p h (from + 1) n (omega arith)

or_none : (b : Bool) → b || false ≡ b
or_none true = refl
or_none false = refl

member_at : (p : ℕ → Bool) (h from n : ℕ) (b : Bool) → (from == h) ≡ b → from ≤ h → h < from + suc n → (from + 1 ≤ h → h < from + 1 + n → member h (picked p (from + 1) n) ≡ p h) → member h (cond (p from) (from ∷ picked p (from + 1) n) (picked p (from + 1) n)) ≡ p h
member_at p h from n true e low high ih =
    let same : from ≡ h = grind (arith, nat_tests) in
    member_if h from (picked p (from + 1) n) true (p from) e ∙ ap (λ i. p from || i) (member-below p h (from + 1) n (omega arith)) ∙ or_none (p from) ∙ ap p same
member_at p h from n false e low high ih =
    let differ : from ≢ h = is_not_same from h e in
    member_if h from (picked p (from + 1) n) false (p from) e ∙ ih (grind (arith, nat_tests)) (omega arith)

pub member-picked : (p : ℕ → Bool) (h from n : ℕ) → from ≤ h → h < from + n → member h (picked p from n) ≡ p h
unfolding picked
member-picked p h from zero low high = absurd (omega arith)
member-picked p h from (suc n) low high = member_at p h from n (from == h) refl low high (λ a b. member-picked p h (from + 1) n a b)

-- one number alone
alone_at : (p : ℕ → Bool) (k from n : ℕ) (b : Bool) → (from == k) ≡ b → from ≤ k → k < from + suc n → ((h : ℕ) → from ≤ h → h < from + suc n → p h ≡ (h == k)) → (from + 1 ≤ k → k < from + 1 + n → ((h : ℕ) → from + 1 ≤ h → h < from + 1 + n → p h ≡ (h == k)) → picked p (from + 1) n ≡ k ∷ []) → cond (p from) (from ∷ picked p (from + 1) n) (picked p (from + 1) n) ≡ k ∷ []
alone_at p k from n true t low high e ih =
    let same : from ≡ k = grind (arith, nat_tests) in
    ap (λ i. cond i (from ∷ picked p (from + 1) n) (picked p (from + 1) n)) (e from (omega arith) (omega arith) ∙ t) ∙ ap₂ (λ x xs. x ∷ xs) same (picked-none p (from + 1) n (λ h a b. e h (omega arith) (omega arith) ∙ (let f : (h == k) ≡ false = grind (arith, nat_tests) in f)))
alone_at p k from n false t low high e ih =
    let differ : from ≢ k = is_not_same from k t in
    ap (λ i. cond i (from ∷ picked p (from + 1) n) (picked p (from + 1) n)) (e from (omega arith) (omega arith) ∙ t) ∙ ih (grind (arith, nat_tests)) (omega arith) (λ h a b. e h (omega arith) (omega arith))

pub picked-alone : (p : ℕ → Bool) (k from n : ℕ) → from ≤ k → k < from + n → ((h : ℕ) → from ≤ h → h < from + n → p h ≡ (h == k)) → picked p from n ≡ k ∷ []
unfolding picked
picked-alone p k from zero low high e = absurd (omega arith)
picked-alone p k from (suc n) low high e = alone_at p k from n (from == k) refl low high e (λ a b f. picked-alone p k (from + 1) n a b f)

-- a number more
below_if : (c from : ℕ) (xs : List ℕ) (b : Bool) → c < from → with_member c xs ≡ c ∷ xs → with_member c (cond b (from ∷ xs) xs) ≡ c ∷ cond b (from ∷ xs) xs
unfolding with_member
below_if c from xs true low ih =
    let apart : (from == c) ≡ false = grind (arith, nat_tests) in
    let less : nat_lt c from ≡ true = grind (arith, nat_tests) in
    ap₂ (λ i j. cond i (from ∷ xs) (cond j (c ∷ from ∷ xs) (from ∷ with_member c xs))) apart less
below_if c from xs false low ih = ih

with_one : (c : ℕ) → with_member c [] ≡ c ∷ []
unfolding with_member
with_one c = refl

pub with_member-below : (p : ℕ → Bool) (c from n : ℕ) → c < from → with_member c (picked p from n) ≡ c ∷ picked p from n
unfolding picked
with_member-below p c from zero low = with_one c
with_member-below p c from (suc n) low = below_if c from (picked p (from + 1) n) (p from) low (with_member-below p c (from + 1) n (omega arith))

first_more : (k : ℕ) (xs : List ℕ) (b : Bool) → with_member k xs ≡ k ∷ xs → with_member k (cond b (k ∷ xs) xs) ≡ k ∷ xs
unfolding with_member
first_more k xs true e = let t : (k == k) ≡ true = grind (arith, nat_tests) in ap (λ i. cond i (k ∷ xs) (cond (nat_lt k k) (k ∷ k ∷ xs) (k ∷ with_member k xs))) t
first_more k xs false e = e

later_more : (k from : ℕ) (xs ys : List ℕ) (b : Bool) → from < k → with_member k xs ≡ ys → with_member k (cond b (from ∷ xs) xs) ≡ cond b (from ∷ ys) ys
unfolding with_member
later_more k from xs ys true low e =
    let apart : (from == k) ≡ false = grind (arith, nat_tests) in
    let more : nat_lt k from ≡ false = grind (arith, nat_tests) in
    ap₂ (λ i j. cond i (from ∷ xs) (cond j (k ∷ from ∷ xs) (from ∷ with_member k xs))) apart more ∙ ap (λ zs. from ∷ zs) e
later_more k from xs ys false low e = e

more_at : (p : ℕ → Bool) (k from n : ℕ) (b : Bool) → (from == k) ≡ b → from ≤ k → k < from + suc n → (from + 1 ≤ k → k < from + 1 + n → with_member k (picked p (from + 1) n) ≡ picked (λ h. (h == k) || p h) (from + 1) n)
    → with_member k (cond (p from) (from ∷ picked p (from + 1) n) (picked p (from + 1) n)) ≡ cond ((from == k) || p from) (from ∷ picked (λ h. (h == k) || p h) (from + 1) n) (picked (λ h. (h == k) || p h) (from + 1) n)
more_at p k from n true t low high ih =
    let same : from ≡ k = grind (arith, nat_tests) in
    let rest : picked p (from + 1) n ≡ picked (λ h. (h == k) || p h) (from + 1) n = picked-same p (λ h. (h == k) || p h) (from + 1) n (λ h a b. (let f : (h == k) ≡ false = grind (arith, nat_tests) in sym (ap (λ i. i || p h) f))) in
    let first : with_member k (cond (p from) (k ∷ picked p (from + 1) n) (picked p (from + 1) n)) ≡ k ∷ picked p (from + 1) n = first_more k (picked p (from + 1) n) (p from) (with_member-below p k (from + 1) n (omega arith)) in
    ap (λ z. with_member k (cond (p from) (z ∷ picked p (from + 1) n) (picked p (from + 1) n))) same ∙ first ∙ ap₂ (λ x xs. x ∷ xs) (sym same) rest ∙ sym (ap (λ i. cond (i || p from) (from ∷ picked (λ h. (h == k) || p h) (from + 1) n) (picked (λ h. (h == k) || p h) (from + 1) n)) t)
more_at p k from n false t low high ih =
    let differ : from ≢ k = is_not_same from k t in
    later_more k from (picked p (from + 1) n) (picked (λ h. (h == k) || p h) (from + 1) n) (p from) (grind (arith, nat_tests)) (ih (grind (arith, nat_tests)) (omega arith))
    ∙ sym (ap (λ i. cond (i || p from) (from ∷ picked (λ h. (h == k) || p h) (from + 1) n) (picked (λ h. (h == k) || p h) (from + 1) n)) t)

pub with_member-picked : (p : ℕ → Bool) (k from n : ℕ) → from ≤ k → k < from + n → with_member k (picked p from n) ≡ picked (λ h. (h == k) || p h) from n
unfolding picked
with_member-picked p k from zero low high = absurd (omega arith)
with_member-picked p k from (suc n) low high = more_at p k from n (from == k) refl low high (λ a b. with_member-picked p k (from + 1) n a b)

-- those that pass another test too
filter_if : (q : ℕ → Bool) (from : ℕ) (xs ys : List ℕ) (b : Bool) → filter q xs ≡ ys → filter q (cond b (from ∷ xs) xs) ≡ cond (b && q from) (from ∷ ys) ys
filter_if q from xs ys true e = ap (λ zs. cond (q from) (from ∷ zs) zs) e
filter_if q from xs ys false e = e

pub filter-picked : (q p : ℕ → Bool) (from n : ℕ) → filter q (picked p from n) ≡ picked (λ h. p h && q h) from n
unfolding picked
filter-picked q p from zero = refl
filter-picked q p from (suc n) = filter_if q from (picked p (from + 1) n) (picked (λ h. p h && q h) (from + 1) n) (p from) (filter-picked q p (from + 1) n)

pub without-picked : (k : ℕ) (p : ℕ → Bool) (from n : ℕ) → without k (picked p from n) ≡ picked (λ h. p h && not (h == k)) from n
unfolding without
without-picked k p from n = filter-picked (λ x. not (x == k)) p from n
