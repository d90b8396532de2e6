-- The lines that one hart more needs.
use Rattle.std.proofs.Common.{◌≡◌, ◌⊎◌, inl, inr, ℕ, ◌+◌, ◌<◌, ◌≤◌, List, [], ◌∷◌, ◌++◌, length, slice_index_or, refl, sym, ap, ◌∙◌, subst, arith, length-append}
use Rattle.std.proofs.lemmas.Bool.{cases_lt}
use Rattle.std.proofs.lemmas.List.{get_or_append_left}
use Rattle.dash_model.specs.Config.{Config}
use Rattle.unit_rows.specs.declared.needed.Needed.{Needed}
use Rattle.unit_rows.specs.AllNeeds.{AreNeeded}
use Rattle.unit_rows.specs.Shown.{PartsView}
use Rattle.cluster_unit.specs.Needs.{AreAllNeeded}
use Rattle.cluster_unit.proofs.FreshLanes.{last_of}

module _ (w : Config) (c : ℕ) (v : PartsView) where
  pub no_needs : (needs : List Needed) → needs ≡ [] → AreAllNeeded w c v 0 needs
  no_needs needs e = record { count = ap length e; each = λ k d low. absurd (omega (arith, low)) }

  need_at : (n : ℕ) (xs : List Needed) (x d : Needed) (k : ℕ) → AreAllNeeded w c v n xs → AreNeeded w c v n x → k < n + 1 → (k < n) ⊎ (n ≤ k) → AreNeeded w c v k (slice_index_or (xs ++ x ∷ []) k d)
  need_at n xs x d k had one low (inl less) = subst (AreNeeded w c v k) (sym (get_or_append_left xs (x ∷ []) d k (subst (λ m. k < m) (sym had.count) less))) (had.each k d less)
  need_at n xs x d k had one low (inr more) =
      let same : n ≡ k = omega (arith, low, more) in
      subst (λ j. AreNeeded w c v j (slice_index_or (xs ++ x ∷ []) j d)) same (subst (AreNeeded w c v n) (sym (last_of xs x n d (sym had.count))) one)

  pub more_needs : (n : ℕ) (xs ys : List Needed) (x : Needed) → ys ≡ xs ++ x ∷ [] → AreAllNeeded w c v n xs → AreNeeded w c v n x → AreAllNeeded w c v (n + 1) ys
  more_needs n xs ys x is had one = subst (AreAllNeeded w c v (n + 1)) (sym is) (record {
    count = length-append xs (x ∷ []) ∙ ap (λ m. m + 1) had.count;
    each = λ k d low. need_at n xs x d k had one low (cases_lt k n);
  })
