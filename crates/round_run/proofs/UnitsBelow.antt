-- What holds of each unit below a number, and of one more.
use Rattle.std.proofs.Common.{◌≡◌, ◌≢◌, ℕ, suc, ◌+◌, ◌*◌, ◌<◌, ◌≤◌, ◌==◌, Bool, false, List, [], ◌∷◌, ◌++◌, length, slice_index_or, refl, sym, ap, ◌∙◌, subst, arith, below_more}
use Rattle.std.proofs.Math.Nat.{mul-le-mul_right}
use Rattle.std.proofs.Math.Seq.{get_or-append_seam}
use Rattle.std.proofs.lemmas.List.{get_or_default, get_or_append_left, length-append}
use Rattle.dash_model.specs.Part.{Part}
use Rattle.unit_rows.specs.Shown.{hart_at}
use Rattle.cluster_unit.specs.View.{CoreView}
use Rattle.cluster_unit.specs.Core.{IsAt}
use Rattle.round_run.specs.Units.{UnitView}
use Rattle.round_run.proofs.Eaches.{at_or_not}

pub each_below : {U : Type 0} (P : ℕ → U → Type 0) (us : List U) (i : ℕ) (u : U) → i < length us → ((c : ℕ) (d : U) → c < i → P c (slice_index_or us c d)) → P i (slice_index_or us i u) → (c : ℕ) (d : U) → c < i + 1 → P c (slice_index_or us c d)
each_below P us i u low before here c d under =
    at_or_not (λ n. n < i + 1 → P n (slice_index_or us n d)) i c (i == c) refl
    (λ _. subst (P i) (get_or_default us i u d low) here)
    (λ far _. before c d (let f : i ≢ c = far in grind arith))
    under

-- a list with one element more
pub length_more : {X : Type 0} (xs more : List X) (x : X) (n : ℕ) → length xs ≡ n → more ≡ xs ++ x ∷ [] → length more ≡ n + 1
length_more xs more x n count is = ap length is ∙ length-append xs (x ∷ []) ∙ ap (λ m. m + 1) count

-- the number of a hart in the machine is below that of the first hart of a later cluster
pub number_below : (c i k harts : ℕ) → c < i → k < harts → c * harts + k < i * harts
number_below c i k harts low below =
    let next : suc c * harts ≤ i * harts = mul-le-mul_right harts (omega arith) in grind arith

-- what a list of answers says of the harts of one cluster, and of all below a cluster
abbrev pub TellsHarts : ℕ → ℕ → ℕ → List Bool → CoreView → Type 0
TellsHarts harts first n ws a = (k : ℕ) (p : Part) → k < n → IsAt a p → slice_index_or ws (first * harts + k) false ≡ (p.harts (hart_at a.config a.cluster k)).asked

module _ {U : Type 0} (view : U → UnitView) where
  abbrev pub TellsBelow : ℕ → ℕ → List Bool → List U → Type 0
  TellsBelow harts i ws us = (c k : ℕ) (d : U) (p : Part) → c < i → k < harts → IsAt (view (slice_index_or us c d)).core p
      → slice_index_or ws (c * harts + k) false ≡ (p.harts (hart_at (view (slice_index_or us c d)).core.config (view (slice_index_or us c d)).core.cluster k)).asked

  -- an answer more leaves the earlier ones
  pub tells_longer : (harts i n : ℕ) (ws more : List Bool) (b : Bool) (us : List U) → length ws ≡ i * harts + n → more ≡ ws ++ b ∷ [] → TellsBelow harts i ws us → TellsBelow harts i more us
  tells_longer harts i n ws more b us count is tells c k d p low below at =
      let inside : c * harts + k < length ws = (let m = number_below c i k harts low below in omega arith) in
      ap (λ xs. slice_index_or xs (c * harts + k) false) is ∙ get_or_append_left ws (b ∷ []) false (c * harts + k) inside ∙ tells c k d p low below at

  -- a unit whose harts were all answered is below the next
  pub tells_next : (harts i : ℕ) (ws : List Bool) (us : List U) (u : U) → i < length us → TellsBelow harts i ws us → TellsHarts harts i harts ws (view (slice_index_or us i u)).core → TellsBelow harts (i + 1) ws us
  tells_next harts i ws us u low before here c k d p under below at =
      each_below (λ c v. TellsHarts harts c harts ws (view v).core) us i u low (λ c d low k p below at. before c k d p low below at) here c d under k p below at

-- an answer more, of the next hart
pub tells_more : (harts i n : ℕ) (ws more : List Bool) (b : Bool) (a : CoreView) → length ws ≡ i * harts + n → more ≡ ws ++ b ∷ [] → TellsHarts harts i n ws a
    → ((p : Part) → IsAt a p → b ≡ (p.harts (hart_at a.config a.cluster n)).asked) → TellsHarts harts i (n + 1) more a
tells_more harts i n ws more b a count is tells here k p low at =
    below_more (λ k. slice_index_or more (i * harts + k) false ≡ (p.harts (hart_at a.config a.cluster k)).asked) n
    (λ k below. ap (λ xs. slice_index_or xs (i * harts + k) false) is ∙ get_or_append_left ws (b ∷ []) false (i * harts + k) (omega arith) ∙ tells k p below at)
    (ap (λ xs. slice_index_or xs (i * harts + n) false) is ∙ ap (λ m. slice_index_or (ws ++ b ∷ []) m false) (sym count) ∙ get_or-append_seam ws b [] false ∙ here p at)
    k low
