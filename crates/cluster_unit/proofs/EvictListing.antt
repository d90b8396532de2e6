-- The choices of a hart to give up a line, as its lines rise.
use Rattle.std.proofs.Common.{◌≡◌, ◌⊎◌, inl, inr, ℕ, ◌+◌, ◌<◌, ◌≤◌, List, length, slice_index_or, refl, sym, ap, ap₂, subst, arith}
use Rattle.std.proofs.lemmas.Bool.{cases_lt}
use Rattle.dash_base.specs.declared.id.LineId.{LineId}
use Rattle.dash_model.specs.Config.{Config, line_id}
use Rattle.dash_model.specs.Part.{Part}
use Rattle.unit_rows.specs.declared.choice.Choice.{Choice}
use Rattle.unit_rows.specs.declared.choice.Choice.TheVariants as choice
use Rattle.unit_rows.specs.Shown.{PartsView, Shows}
use Rattle.unit_rows.specs.Rows.{Enabled}
use Rattle.cluster_unit.specs.Order.{kind_place, number_in, IsBefore}
use Rattle.cluster_unit.specs.Listing.{Offers, HasListed, IsBelow}
use Rattle.cluster_unit.specs.Victims.{IsRising, IsAmong, HasVictims}
use Rattle.cluster_unit.proofs.Offering.{is_before, number_over, one_more, regraded}

-- a choice of hart k to give up one of the first n lines
abbrev pub IsEvictOf : ℕ → List ℕ → ℕ → Choice → Type 0
IsEvictOf k ls n (choice.Evict h l) = (h ≡ k) × IsAmong ls n l.0
IsEvictOf k ls n y = ⊥

-- up to these
abbrev pub IsGivenUp : ℕ → List ℕ → ℕ → Choice → Type 0
IsGivenUp k ls n y = IsBelow 4 k y ⊎ IsEvictOf k ls n y

evict_same : (k h x : ℕ) (l : LineId) → h ≡ k → l.0 ≡ x → choice.Evict h l ≡ choice.Evict k (line_id x)
evict_same k h x l e f = ap₂ (λ y z. choice.Evict y z) e (ap line_id f)

module _ (w : Config) (c k : ℕ) (v : PartsView) (ls : List ℕ) where
  among_none : (y : Choice) → IsGivenUp k ls 0 y → IsBelow 4 k y
  among_none y (inl d) = d
  among_none (choice.Evict h l) (inr is) = let low = is.1.low in absurd (omega (arith, low))
  among_none y (inr is) = absurd is

  pub none_given : (xs : List Choice) → HasListed w c v (IsBelow 4 k) xs → HasListed w c v (IsGivenUp k ls 0) xs
  none_given xs had = regraded w c v (IsBelow 4 k) (IsGivenUp k ls 0) xs had (λ y d. inl d) (λ y p shows own able e. among_none y e)

  among_more : (n : ℕ) (y : Choice) → IsGivenUp k ls n y → IsGivenUp k ls (n + 1) y
  among_more n y (inl d) = inl d
  among_more n (choice.Evict h l) (inr is) = let low = is.1.low in inr (is.0, record { place = is.1.place; low = omega (arith, low); is = is.1.is })
  among_more n y (inr is) = absurd is

  last_at : (n h : ℕ) (l : LineId) → h ≡ k → (at : IsAmong ls (n + 1) l.0) → (at.place < n) ⊎ (n ≤ at.place) → IsGivenUp k ls n (choice.Evict h l) ⊎ (choice.Evict h l ≡ choice.Evict k (line_id (slice_index_or ls n 0)))
  last_at n h l same at (inl less) = inl (inr (same, record { place = at.place; low = less; is = at.is }))
  last_at n h l same at (inr more) =
      let low = at.low in
      let here : at.place ≡ n = omega (arith, low, more) in
      inr (evict_same k h (slice_index_or ls n 0) l same (sym (subst (λ i. slice_index_or ls i 0 ≡ l.0) here at.is)))

  last_or : (n : ℕ) (y : Choice) → IsGivenUp k ls (n + 1) y → IsGivenUp k ls n y ⊎ (y ≡ choice.Evict k (line_id (slice_index_or ls n 0)))
  last_or n y (inl d) = inl (inl d)
  last_or n (choice.Evict h l) (inr is) = last_at n h l is.0 is.1 (cases_lt is.1.place n)
  last_or n y (inr is) = absurd is

  given_before : (n : ℕ) (p : Part) (y : Choice) → IsRising ls → n < length ls → IsGivenUp k ls n y → IsBefore w c p y (choice.Evict k (line_id (slice_index_or ls n 0)))
  given_before n p y rising low (inl d) = is_before w c p 4 k (choice.Evict k (line_id (slice_index_or ls n 0))) y refl refl d
  given_before n p (choice.Evict h l) rising low (inr is) = inr (refl, inr (is.0, subst (λ x. x < slice_index_or ls n 0) is.1.is (rising is.1.place n is.1.low low)))
  given_before n p y rising low (inr is) = absurd is

  pub one_given : (n x : ℕ) (old new : List Choice) → IsRising ls → n < length ls → x ≡ slice_index_or ls n 0 → HasListed w c v (IsGivenUp k ls n) old → Offers w c v (choice.Evict k (line_id x)) old new → HasListed w c v (IsGivenUp k ls (n + 1)) new
  one_given n x old new rising low is had offers =
      one_more w c v (IsGivenUp k ls n) (IsGivenUp k ls (n + 1)) (choice.Evict k (line_id (slice_index_or ls n 0))) old new had (subst (λ z. Offers w c v (choice.Evict k (line_id z)) old new) is offers)
      (λ y d. among_more n y d) (inr (refl, record { place = n; low = omega arith; is = refl })) (λ y p shows own able e. last_or n y e) (λ y p shows d. given_before n p y rising low d)

  given_below : (n : ℕ) (y : Choice) → IsGivenUp k ls n y → IsBelow 4 (k + 1) y
  given_below n y (inl d) = number_over 4 k y d
  given_below n (choice.Evict h l) (inr is) = let same = is.0 in inr (refl, omega (arith, same))
  given_below n y (inr is) = absurd is

  of_hart : (p : Part) (y : Choice) → HasVictims w c v k ls → Shows w c v p → Enabled w c y p → kind_place y ≡ 4 → number_in y ≡ k → IsGivenUp k ls (length ls) y
  of_hart p (choice.Evict h l) whole shows able kind same = inr (same, whole l p shows (subst (λ z. Enabled w c (choice.Evict z l) p) same able))
  of_hart p y whole shows able kind same = absurd (omega (arith, kind))

  at_number : (p : Part) (y : Choice) → HasVictims w c v k ls → Shows w c v p → Enabled w c y p → kind_place y ≡ 4 → number_in y < k + 1 → (number_in y < k) ⊎ (k ≤ number_in y) → IsGivenUp k ls (length ls) y
  at_number p y whole shows able kind low (inl less) = inl (inr (kind, less))
  at_number p y whole shows able kind low (inr more) = of_hart p y whole shows able kind (omega (arith, low, more))

  all_of_hart : (p : Part) (y : Choice) → HasVictims w c v k ls → Shows w c v p → Enabled w c y p → IsBelow 4 (k + 1) y → IsGivenUp k ls (length ls) y
  all_of_hart p y whole shows able (inl e) = inl (inl e)
  all_of_hart p y whole shows able (inr e) = at_number p y whole shows able e.0 e.1 (cases_lt (number_in y) k)

  pub all_given : (n : ℕ) (xs : List Choice) → n ≡ length ls → HasVictims w c v k ls → HasListed w c v (IsGivenUp k ls n) xs → HasListed w c v (IsBelow 4 (k + 1)) xs
  all_given n xs is whole had =
      regraded w c v (IsGivenUp k ls (length ls)) (IsBelow 4 (k + 1)) xs (subst (λ i. HasListed w c v (IsGivenUp k ls i) xs) is had) (λ y d. given_below (length ls) y d) (λ y p shows own able e. all_of_hart p y whole shows able e)
