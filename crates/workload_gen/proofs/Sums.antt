-- Counters: each holds what all harts have added to it so far.
use Rattle.std.proofs.Common.{Bool, ap, arith, false, refl, subst, suc, sym, true, zero, ℕ, ◌%◌, ◌*◌, ◌+◌, ◌/◌, ◌<◌, ◌==◌, ◌^◌, ◌∙◌, ◌≡◌, ◌≢◌, ◌≤◌, ◌⊎◌, inl, inr}
use Rattle.std.specs.Prelude.{if◌then◌else◌}
use Rattle.workload_gen.specs.Progress.{Holding, IsInside, Loaded, Outside, Progress, Section, Stored, Summed}
use Rattle.workload_gen.specs.Workload.{added, addend_of, addition, counter_of, draw, sum_below}
use Rattle.workload_gen.proofs.Changed.{changed, changed_all, changed_here, changed_off, equal_or_not, other_is, same_is, sum_bound, sum_more, sum_same}

-- what hart h has loaded is what the counter holds, and its sum is that and what it adds
abbrev pub Agrees : ℕ → (ℕ → ℕ) → ℕ → ℕ → Section → Type 0
Agrees seed m h n (Loaded k v) = v ≡ m k
Agrees seed m h n (Summed k v) = v ≡ (m k + addend_of (draw seed h (suc n))) % 2 ^ 32
Agrees seed m h n q = Unit {0}

-- harts so far, and what the counters hold
pub record Values (seed : ℕ) (p : ℕ → Progress) (m : ℕ → ℕ) : Type 0 where
  pub done : (h : ℕ) → h < 64 → (p h).done ≤ 468
  pub sums : (k : ℕ) → k < 64 → m k ≡ sum_below (λ h. added seed k h (p h).done) 64
  pub agrees : (h : ℕ) → h < 64 → Agrees seed m h (p h).done (p h).section

choice_small : (b : Bool) (x : ℕ) → (if b then x / 65536 % 256 else 0) ≤ 255
choice_small true x = omega arith
choice_small false x = omega arith

addition_small : (k x : ℕ) → addition k x ≤ 255
addition_small k x = choice_small (counter_of x == k) x

pub added_small : (seed k h n : ℕ) → added seed k h n ≤ 255 * n
added_small seed k h zero = omega arith
added_small seed k h (suc n) = let rest = added_small seed k h n in let here = addition_small k (draw seed h (suc n)) in omega arith

addend_small : (x : ℕ) → addend_of x ≤ 255
addend_small x = omega arith

module _ (seed : ℕ) (p : ℕ → Progress) (m : ℕ → ℕ) (values : Values seed p m) where
  -- no counter comes near its greatest value
  pub small : (k : ℕ) → k < 64 → m k ≤ 64 * 119340
  small k low =
      let each : (h : ℕ) → h < 64 → added seed k h (p h).done ≤ 119340 = λ h below. (let a = added_small seed k h (p h).done in let d = values.done h below in omega arith) in
      subst (λ z. z ≤ 64 * 119340) (sym (values.sums k low)) (sum_bound (λ h. added seed k h (p h).done) 119340 64 each)

  module _ (h : ℕ) (in_range : h < 64) (x : Progress) where
    -- where nothing is stored
    pub kept : (m' : ℕ → ℕ) → ((k : ℕ) → m' k ≡ m k) → x.done ≡ (p h).done → Agrees seed m h x.done x.section → Values seed (changed p h x) m'
    kept m' same done agrees = record {
      done = changed_all p h x (λ g y. g < 64 → y.done ≤ 468) (λ g other low. values.done g low) (λ low. subst (λ z. z ≤ 468) (sym done) (values.done h low));
      sums = λ k low. same k ∙ values.sums k low ∙ sum_same (λ g. added seed k g (p g).done) (λ g. added seed k g (changed p h x g).done) 64 (λ g below. changed_all p h x (λ i y. added seed k i (p i).done ≡ added seed k i y.done) (λ i other. refl) (ap (added seed k h) (sym done)) g);
      agrees = changed_all p h x (λ g y. g < 64 → Agrees seed m' g y.done y.section) (λ g other low. moved_to g (p g).done (p g).section (values.agrees g low)) (λ low. moved_to h x.done x.section agrees);
    }
      where
        moved_to : (g n : ℕ) (q : Section) → Agrees seed m g n q → Agrees seed m' g n q
        moved_to g n (Loaded k v) a = a ∙ sym (same k)
        moved_to g n (Summed k v) a = a ∙ ap (λ z. (z + addend_of (draw seed g (suc n))) % 2 ^ 32) (sym (same k))
        moved_to g n Outside a = tt
        moved_to g n (Holding k) a = tt
        moved_to g n (Stored k) a = tt

    -- where the sum is stored
    module _ (c v : ℕ) (c_low : c < 64) (summed : (p h).section ≡ Summed c v) (its : c ≡ counter_of (draw seed h (suc (p h).done))) (few : (p h).done < 468)
        (alone : (g : ℕ) → g < 64 → IsInside c (p g).section → g ≡ h) where
      sum_is : v ≡ m c + addend_of (draw seed h (suc (p h).done))
      sum_is =
          let a = subst (Agrees seed m h (p h).done) summed (values.agrees h in_range) in
          let low = small c c_low in
          let more = addend_small (draw seed h (suc (p h).done)) in
          a ∙ (let fits : (m c + addend_of (draw seed h (suc (p h).done))) % 2 ^ 32 ≡ m c + addend_of (draw seed h (suc (p h).done)) = omega arith in fits)

      pub sum_small : v < 2 ^ 32
      sum_small = let e = sum_is in let low = small c c_low in let more = addend_small (draw seed h (suc (p h).done)) in omega arith

      adds : (k : ℕ) → (k ≡ c) ⊎ (k ≢ c) → (d : ℕ) × (addition k (draw seed h (suc (p h).done)) ≡ d) × ((k ≡ c → d ≡ addend_of (draw seed h (suc (p h).done))) × (k ≢ c → d ≡ 0))
      adds k (inl same) = (addend_of (draw seed h (suc (p h).done)), ap (λ b. if b then addend_of (draw seed h (suc (p h).done)) else 0) (same_is _ k (sym its ∙ sym same)), ((λ e. refl), (λ differ. absurd (differ same))))
      adds k (inr differ) = (0, ap (λ b. if b then addend_of (draw seed h (suc (p h).done)) else 0) (other_is _ k (λ e. differ (sym e ∙ sym its))), ((λ same. absurd (differ same)), (λ e. refl)))

      pub stored : (m' : ℕ → ℕ) → m' c ≡ v → ((k : ℕ) → k < 64 → k ≢ c → m' k ≡ m k) → x.done ≡ suc (p h).done → x.section ≡ Stored c → ((g k : ℕ) → g < 64 → IsInside k (p g).section → k < 64) → Values seed (changed p h x) m'
      stored m' here others done section lows = record {
        done = changed_all p h x (λ g y. g < 64 → y.done ≤ 468) (λ g other low. values.done g low) (λ low. (let e = done in let f = few in omega arith));
        sums = λ k low. total_by k low (equal_or_not k c);
        agrees = changed_all p h x (λ g y. g < 64 → Agrees seed m' g y.done y.section) (λ g other low. moved_to g other low (p g).section refl (values.agrees g low)) (λ low. subst (λ q. Agrees seed m' h x.done q) (sym section) tt);
      }
        where
          grown : (k d : ℕ) → addition k (draw seed h (suc (p h).done)) ≡ d → sum_below (λ g. added seed k g (changed p h x g).done) 64 ≡ sum_below (λ g. added seed k g (p g).done) 64 + d
          grown k d is = sum_more (λ g. added seed k g (p g).done) (λ g. added seed k g (changed p h x g).done) h d 64 in_range (λ g other. ap (λ y. added seed k g y.done) (changed_off p h x g other))
              (ap (λ y. added seed k h y.done) (changed_here p h x) ∙ ap (added seed k h) done ∙ ap (λ z. added seed k h (p h).done + z) is)

          total_by : (k : ℕ) → k < 64 → (k ≡ c) ⊎ (k ≢ c) → m' k ≡ sum_below (λ g. added seed k g (changed p h x g).done) 64
          total_by k low (inl same) =
              let a = adds k (inl same) in
              let more = grown k a.0 a.1 in
              let d : a.0 ≡ addend_of (draw seed h (suc (p h).done)) = a.2.0 same in
              let old = values.sums k low in
              let now : m' k ≡ v = ap m' same ∙ here in
              let at_c : m k ≡ m c = ap m same in
              let e = sum_is in
              omega arith
          total_by k low (inr differ) =
              let a = adds k (inr differ) in
              let more = grown k a.0 a.1 in
              let d : a.0 ≡ 0 = a.2.1 differ in
              let old = values.sums k low in
              let now = others k low differ in
              omega arith

          unchanged : (g : ℕ) → g ≢ h → g < 64 → (k : ℕ) → IsInside k (p g).section → m' k ≡ m k
          unchanged g other low k inside = others k (lows g k low inside) (λ same. other (alone g low (subst (λ z. IsInside z (p g).section) same inside)))

          moved_to : (g : ℕ) → g ≢ h → g < 64 → (q : Section) → (p g).section ≡ q → Agrees seed m g (p g).done q → Agrees seed m' g (p g).done q
          moved_to g other low (Loaded k w) is a = a ∙ sym (unchanged g other low k (subst (IsInside k) (sym is) refl))
          moved_to g other low (Summed k w) is a = a ∙ ap (λ z. (z + addend_of (draw seed g (suc (p g).done))) % 2 ^ 32) (sym (unchanged g other low k (subst (IsInside k) (sym is) refl)))
          moved_to g other low Outside is a = tt
          moved_to g other low (Holding k) is a = tt
          moved_to g other low (Stored k) is a = tt
