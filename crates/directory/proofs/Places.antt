-- The lines of a home, by their places in its list.
use Rattle.std.proofs.Common.{◌≡◌, ◌≢◌, ◌<◌, ◌≤◌, ℕ, ◌+◌, ◌*◌, ◌/◌, ◌%◌, Bool, true, false, cond, ◌&&◌, List, length, get_or, set, None, slice_get, refl, ap, ◌∙◌, arith}
use Rattle.std.specs.Prelude.{◌==◌, nat_lt, is_some}
use Rattle.std.specs.FinMap.{get}
use Rattle.std.proofs.lemmas.Bool.Decides.{nat_tests}
use Rattle.std.proofs.lemmas.Nat.{mod-mul-add, div-add-mod'}
use Rattle.std.proofs.lemmas.Option.{slice_get-get_or, slice_get_past}
use Rattle.directory.specs.declared.home_line.HomeLine.{HomeLine}
use Rattle.directory.specs.View.{HomeView, is_home, kept_in, kept_at, with_kept, IsWhole}
use Rattle.directory.specs.Kept.{map_of, AreKept}
use Rattle.directory.proofs.Maps.{get-map_of_place, get-map_of_none, map_of-set}

-- a home that keeps these lines
abbrev pub home_of : ℕ → ℕ → ℕ → List HomeLine → HomeView
home_of c k lines ks = record { cluster = c; clusters = k; lines = lines; kept = map_of k c ks }

-- the number of a line of the home, by its place
pub number_of : (c k q : ℕ) → q % k ≡ c → q ≡ q / k * k + c
number_of c k q is = grind (arith, div-add-mod' q k)

module _ (c k lines : ℕ) (ks : List HomeLine) (kept : AreKept c k lines ks) (q : ℕ) where
  pub place_in : nat_lt q lines ≡ true → (q % k == c) ≡ true → q / k < length ks
  place_in below here =
      let is : q ≡ q / k * k + c = number_of c k q (grind (arith, nat_tests)) in
      kept.there (q / k) (grind (arith, nat_tests, is))

  past_all : nat_lt q lines ≡ false → q ≡ q / k * k + c → length ks ≤ q / k
  past_all above is = grind (arith, nat_tests, kept.within (q / k))

  found : (t b : Bool) → nat_lt q lines ≡ t → (q % k == c) ≡ b → get (map_of k c ks) q ≡ cond (t && b) (slice_get ks (q / k)) None
  found true true e f =
      get-map_of_place k c ks (q / k) q (omega (arith, kept.cluster_in_range)) (number_of c k q (grind (arith, nat_tests)))
  found false true e f =
      let is : q ≡ q / k * k + c = number_of c k q (grind (arith, nat_tests)) in
      get-map_of_place k c ks (q / k) q (omega (arith, kept.cluster_in_range)) is
      ∙ slice_get_past ks (q / k) (past_all e is)
  found t false e f =
      get-map_of_none k c ks q (λ i same. other i (ap (λ n. n % k) same ∙ mod-mul-add i k c kept.cluster_in_range))
      ∙ none t
    where
      other : (i : ℕ) → q % k ≢ c
      other i is = grind (arith, nat_tests)

      none : (t : Bool) → None ≡ cond (t && false) (slice_get ks (q / k)) None
      none true = refl
      none false = refl

  pub get_kept : get (map_of k c ks) q ≡ cond (is_home (home_of c k lines ks) q) (slice_get ks (q / k)) None
  get_kept = found _ _ refl refl

  some_kept : (t b : Bool) → nat_lt q lines ≡ t → (q % k == c) ≡ b → is_some (cond (t && b) (slice_get ks (q / k)) None) ≡ (t && b)
  some_kept true true e f = ap is_some (slice_get-get_or ks (q / k) (kept_in None) (place_in e f))
  some_kept true false e f = refl
  some_kept false b e f = refl

  pub whole_at : is_some (get (map_of k c ks) q) ≡ is_home (home_of c k lines ks) q
  whole_at = ap is_some get_kept ∙ some_kept _ _ refl refl

  pub is_below : is_home (home_of c k lines ks) q ≡ true → nat_lt q lines ≡ true
  is_below home = grind (arith, nat_tests)

  pub is_here : is_home (home_of c k lines ks) q ≡ true → (q % k == c) ≡ true
  is_here home = grind (arith, nat_tests)

  pub place_low : is_home (home_of c k lines ks) q ≡ true → q / k < length ks
  place_low home = place_in (is_below home) (is_here home)

  -- what is kept of a line is at its place
  pub kept_at_place : (d : HomeLine) → is_home (home_of c k lines ks) q ≡ true → kept_at (home_of c k lines ks) q ≡ get_or ks (q / k) d
  unfolding kept_at
  kept_at_place d home =
      ap kept_in (get_kept ∙ ap (λ b. cond b (slice_get ks (q / k)) None) home ∙ slice_get-get_or ks (q / k) d (place_low home))

  -- another line there is another line of the home
  pub with_kept_place : (x : HomeLine) → is_home (home_of c k lines ks) q ≡ true → home_of c k lines (set ks (q / k) x) ≡ with_kept (home_of c k lines ks) q x
  unfolding with_kept
  with_kept_place x home =
      let is : q ≡ q / k * k + c = number_of c k q (grind (arith, nat_tests, is_here home)) in
      let same = map_of-set k c ks (q / k) q x (omega (arith, kept.cluster_in_range)) (place_low home) is in
      λ i. record { cluster = c; clusters = k; lines = lines; kept = same i }

pub whole : (c k lines : ℕ) (ks : List HomeLine) → AreKept c k lines ks → IsWhole (home_of c k lines ks)
whole c k lines ks kept = record { each = λ q. whole_at c k lines ks kept q }
