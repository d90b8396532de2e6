-- Lock words and sections: a lock word is not 0 exactly while one hart is inside the section of its counter.
use Rattle.std.proofs.Common.{ap, refl, subst, sym, ℕ, ◌<◌, ◌∙◌, ◌≡◌, ◌≢◌, ◌⊎◌, inl, inr}
use Rattle.workload_gen.specs.Progress.{Holding, IsInside, Outside, Progress, Stored}
use Rattle.workload_gen.proofs.Changed.{changed, changed_all, changed_here, changed_off, equal_or_not}

-- a hart is inside
pub record IsHeld (p : ℕ → Progress) (k : ℕ) : Type 0 where
  pub hart : ℕ
  pub in_range : hart < 64
  pub inside : IsInside k (p hart).section

-- harts so far, and what the lock words hold
pub record Locks (p : ℕ → Progress) (l : ℕ → ℕ) : Type 0 where
  pub low : (h k : ℕ) → h < 64 → IsInside k (p h).section → k < 64
  pub free : (h k : ℕ) → h < 64 → l k ≡ 0 → IsInside k (p h).section → ⊥
  pub taken : (k : ℕ) → k < 64 → l k ≢ 0 → IsHeld p k
  pub alone : (g h k : ℕ) → g < 64 → h < 64 → IsInside k (p g).section → IsInside k (p h).section → g ≡ h

module _ (p : ℕ → Progress) (h : ℕ) (in_range : h < 64) (x : Progress) (l m : ℕ → ℕ) (locks : Locks p l) where
  -- who is inside then: the hart itself, or another one as before
  pub data Was (k g : ℕ) : Type 0 where
    Here : g ≡ h → IsInside k x.section → Was k g
    There : g ≢ h → IsInside k (p g).section → Was k g

  pub was : (k g : ℕ) → IsInside k (changed p h x g).section → Was k g
  was k g = changed_all p h x (λ i y. IsInside k y.section → Was k i) (λ i other inside. There other inside) (λ inside. Here refl inside) g

  pub now_here : (k : ℕ) → IsInside k x.section → IsInside k (changed p h x h).section
  now_here k inside = subst (λ y. IsInside k y.section) (sym (changed_here p h x)) inside

  pub now_there : (k g : ℕ) → g ≢ h → IsInside k (p g).section → IsInside k (changed p h x g).section
  now_there k g other inside = subst (λ y. IsInside k y.section) (sym (changed_off p h x g other)) inside

  -- it stays where it was, and so do the lock words
  module _ (into : (k : ℕ) → IsInside k x.section → IsInside k (p h).section) (out : (k : ℕ) → IsInside k (p h).section → IsInside k x.section) where
    pub before : (k g : ℕ) → IsInside k (changed p h x g).section → IsInside k (p g).section
    before k g inside = by_was (was k g inside)
      where
        by_was : Was k g → IsInside k (p g).section
        by_was (Here same i) = subst (λ z. IsInside k (p z).section) (sym same) (into k i)
        by_was (There other i) = i

    pub after : (k g : ℕ) → IsInside k (p g).section → IsInside k (changed p h x g).section
    after k g inside = by_hart (equal_or_not g h)
      where
        by_hart : (g ≡ h) ⊎ (g ≢ h) → IsInside k (changed p h x g).section
        by_hart (inl same) = subst (λ z. IsInside k (changed p h x z).section) (sym same) (now_here k (out k (subst (λ z. IsInside k (p z).section) same inside)))
        by_hart (inr other) = now_there k g other inside

    pub stays : ((k : ℕ) → k < 64 → m k ≡ l k) → Locks (changed p h x) m
    stays same = record {
      low = λ g k below i. locks.low g k below (before k g i);
      free = λ g k below zero i. (let j = before k g i in locks.free g k below (sym (same k (locks.low g k below j)) ∙ zero) j);
      taken = λ k below some. (let held = locks.taken k below (λ zero. some (same k below ∙ zero)) in record { hart = held.hart; in_range = held.in_range; inside = after k held.hart held.inside });
      alone = λ g i k low_g low_i a b. locks.alone g i k low_g low_i (before k g a) (before k i b);
    }

  -- it enters where nobody is
  module _ (c : ℕ) (c_low : c < 64) (outside : (p h).section ≡ Outside) (holds : x.section ≡ Holding c) (zero : l c ≡ 0) where
    inside_is : (k : ℕ) → IsInside k x.section → c ≡ k
    inside_is k i = subst (IsInside k) holds i

    enters_low : (k g : ℕ) → g < 64 → Was k g → k < 64
    enters_low k g below (Here same i) = subst (λ z. z < 64) (inside_is k i) c_low
    enters_low k g below (There other i) = locks.low g k below i

    enters_alone : (k g i : ℕ) → g < 64 → i < 64 → Was k g → Was k i → g ≡ i
    enters_alone k g i low_g low_i (Here same a) (Here same' b) = same ∙ sym same'
    enters_alone k g i low_g low_i (Here same a) (There other b) = absurd (locks.free i k low_i (ap l (sym (inside_is k a)) ∙ zero) b)
    enters_alone k g i low_g low_i (There other a) (Here same b) = absurd (locks.free g k low_g (ap l (sym (inside_is k b)) ∙ zero) a)
    enters_alone k g i low_g low_i (There other a) (There other' b) = locks.alone g i k low_g low_i a b

    pub enters : m c ≢ 0 → ((k : ℕ) → k < 64 → k ≢ c → m k ≡ l k) → Locks (changed p h x) m
    enters some others = record {
      low = λ g k below i. enters_low k g below (was k g i);
      free = λ g k below none i. (let w = was k g i in by_free g k below none w (enters_low k g below w) (equal_or_not k c));
      taken = λ k below now. by_taken k below now (equal_or_not k c);
      alone = λ g i k low_g low_i a b. enters_alone k g i low_g low_i (was k g a) (was k i b);
    }
      where
        by_free : (g k : ℕ) → g < 64 → m k ≡ 0 → Was k g → k < 64 → (k ≡ c) ⊎ (k ≢ c) → ⊥
        by_free g k below none w k_low (inl same) = some (ap m (sym same) ∙ none)
        by_free g k below none (Here same i) k_low (inr differ) = differ (sym (inside_is k i))
        by_free g k below none (There other i) k_low (inr differ) = locks.free g k below (sym (others k k_low differ) ∙ none) i

        kept_by : (k : ℕ) → (held : IsHeld p k) → (held.hart ≡ h) ⊎ (held.hart ≢ h) → IsHeld (changed p h x) k
        kept_by k held (inl same) = absurd (subst (IsInside k) (ap (λ z. (p z).section) same ∙ outside) held.inside)
        kept_by k held (inr other) = record { hart = held.hart; in_range = held.in_range; inside = now_there k held.hart other held.inside }

        by_taken : (k : ℕ) → k < 64 → m k ≢ 0 → (k ≡ c) ⊎ (k ≢ c) → IsHeld (changed p h x) k
        by_taken k below now (inl same) = record { hart = h; in_range = in_range; inside = now_here k (subst (IsInside k) (sym holds) (sym same)) }
        by_taken k below now (inr differ) = let held = locks.taken k below (λ none. now (others k below differ ∙ none)) in kept_by k held (equal_or_not held.hart h)

  -- it leaves
  module _ (c : ℕ) (c_low : c < 64) (stored : (p h).section ≡ Stored c) (outside : x.section ≡ Outside) where
    left : (k g : ℕ) → Was k g → (g ≢ h) × IsInside k (p g).section
    left k g (Here same i) = absurd (subst (IsInside k) outside i)
    left k g (There other i) = (other, i)

    pub leaves : m c ≡ 0 → ((k : ℕ) → k < 64 → k ≢ c → m k ≡ l k) → Locks (changed p h x) m
    leaves none others = record {
      low = λ g k below i. locks.low g k below (left k g (was k g i)).1;
      free = λ g k below zero i. (let w = left k g (was k g i) in by_free g k below zero w (locks.low g k below w.1) (equal_or_not k c));
      taken = λ k below some. by_taken k below some (equal_or_not k c);
      alone = λ g i k low_g low_i a b. locks.alone g i k low_g low_i (left k g (was k g a)).1 (left k i (was k i b)).1;
    }
      where
        by_free : (g k : ℕ) → g < 64 → m k ≡ 0 → (g ≢ h) × IsInside k (p g).section → k < 64 → (k ≡ c) ⊎ (k ≢ c) → ⊥
        by_free g k below zero w k_low (inl same) = w.0 (locks.alone g h k below in_range w.1 (subst (IsInside k) (sym stored) (sym same)))
        by_free g k below zero w k_low (inr differ) = locks.free g k below (sym (others k k_low differ) ∙ zero) w.1

        kept_by : (k : ℕ) → k ≢ c → (held : IsHeld p k) → (held.hart ≡ h) ⊎ (held.hart ≢ h) → IsHeld (changed p h x) k
        kept_by k differ held (inl same) = absurd (differ (sym (subst (IsInside k) (ap (λ z. (p z).section) same ∙ stored) held.inside)))
        kept_by k differ held (inr other) = record { hart = held.hart; in_range = held.in_range; inside = now_there k held.hart other held.inside }

        by_taken : (k : ℕ) → k < 64 → m k ≢ 0 → (k ≡ c) ⊎ (k ≢ c) → IsHeld (changed p h x) k
        by_taken k below some (inl same) = absurd (some (ap m same ∙ none))
        by_taken k below some (inr differ) = let held = locks.taken k below (λ zero. some (others k below differ ∙ zero)) in kept_by k differ held (equal_or_not held.hart h)
