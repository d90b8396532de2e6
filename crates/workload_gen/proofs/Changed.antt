-- What one hart's progress leaves of the others', and sums over all harts.
use Rattle.std.proofs.Common.{Bool, ap, arith, false, refl, subst, suc, sym, true, zero, ℕ, ◌+◌, ◌*◌, ◌<◌, ◌==◌, ◌≡◌, ◌≢◌, ◌≤◌, ◌⊎◌, inl, inr}
use Rattle.std.specs.Prelude.{if◌then◌else◌}
use Rattle.std.proofs.lemmas.Bool.Decides.{nat_tests}
use Rattle.workload_gen.specs.Workload.{sum_below}

-- all as before, but for one
abbrev pub changed : {A : Type 0} → (ℕ → A) → ℕ → A → ℕ → A
changed p h x g = if g == h then x else p g

pub is_same : (g h : ℕ) → (g == h) ≡ true → g ≡ h
is_same g h e = grind (arith, nat_tests)

pub not_same : (g h : ℕ) → (g == h) ≡ false → g ≢ h
not_same g h e same = grind (arith, nat_tests)

pub same_is : (g h : ℕ) → g ≡ h → (g == h) ≡ true
same_is g h e = grind (arith, nat_tests)

pub other_is : (g h : ℕ) → g ≢ h → (g == h) ≡ false
other_is g h e = grind (arith, nat_tests)

pub equal_or_not : (g h : ℕ) → (g ≡ h) ⊎ (g ≢ h)
equal_or_not g h = grind arith

module _ {A : Type 0} (p : ℕ → A) (h : ℕ) (x : A) where
  pub changed_here : changed p h x h ≡ x
  changed_here = ap (λ b. if b then x else p h) (same_is h h refl)

  pub changed_off : (g : ℕ) → g ≢ h → changed p h x g ≡ p g
  changed_off g differ = ap (λ b. if b then x else p g) (other_is g h differ)

  -- what holds of each
  pub changed_all : (P : ℕ → A → Type 0) → ((g : ℕ) → g ≢ h → P g (p g)) → P h x → (g : ℕ) → P g (changed p h x g)
  changed_all P others here g = by_test (g == h) refl
    where
      by_test : (b : Bool) → (g == h) ≡ b → P g (if b then x else p g)
      by_test true e = subst (λ z. P z x) (sym (is_same g h e)) here
      by_test false e = others g (not_same g h e)

-- ---- sums

pub sum_same : (f g : ℕ → ℕ) (n : ℕ) → ((i : ℕ) → i < n → f i ≡ g i) → sum_below f n ≡ sum_below g n
sum_same f g zero same = refl
sum_same f g (suc n) same = let rest = sum_same f g n (λ i low. same i (omega arith)) in let here = same n (omega arith) in omega arith

pub sum_more : (f g : ℕ → ℕ) (h d n : ℕ) → h < n → ((i : ℕ) → i ≢ h → g i ≡ f i) → g h ≡ f h + d → sum_below g n ≡ sum_below f n + d
sum_more f g h d zero low others here = absurd (omega arith)
sum_more f g h d (suc n) low others here = by_place (equal_or_not n h) (λ below. sum_more f g h d n below others here)
  where
    by_place : (n ≡ h) ⊎ (n ≢ h) → (h < n → sum_below g n ≡ sum_below f n + d) → sum_below g (suc n) ≡ sum_below f (suc n) + d
    by_place (inl last) shorter =
        let rest = sum_same g f n (λ i below. others i (let e : n ≡ h = last in omega arith)) in
        let at_n : g n ≡ f n + d = subst (λ z. g z ≡ f z + d) (sym last) here in
        omega arith
    by_place (inr other) shorter = let rest = shorter (omega arith) in let at_n = others n other in omega arith

pub sum_bound : (f : ℕ → ℕ) (b n : ℕ) → ((i : ℕ) → i < n → f i ≤ b) → sum_below f n ≤ n * b
sum_bound f b zero few = omega arith
sum_bound f b (suc n) few =
    let rest = sum_bound f b n (λ i low. few i (omega arith)) in
    let here = few n (omega arith) in
    let product : suc n * b ≡ n * b + b = grind arith in
    omega arith
