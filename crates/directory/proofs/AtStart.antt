-- The lines of a home at the start, by their places.
use Rattle.std.proofs.Common.{◌≡◌, ◌<◌, ◌≤◌, ℕ, suc, ◌+◌, ◌-◌, ◌*◌, ◌/◌, ◌%◌, Bool, true, false, cond, ◌&&◌, List, map, length, get_or, Some, None, slice_get, refl, sym, ap, ◌∙◌, arith}
use Rattle.std.specs.Prelude.{◌==◌, nat_lt}
use Rattle.std.specs.Int.{div_ceil}
use Rattle.std.specs.List.{range_with_len}
use Rattle.std.specs.FinMap.{get}
use Rattle.std.proofs.Math.Nat.{mul-le-mul_right}
use Rattle.std.proofs.lemmas.Bool.Decides.{nat_tests}
use Rattle.std.proofs.lemmas.Grind.{div_ceil_times}
use Rattle.std.proofs.lemmas.List.FromFn.{get_or-map-range_with_len}
use Rattle.std.proofs.lemmas.Option.{slice_get-get_or}
use Rattle.dash_base.specs.declared.topology.Topology.{Topology}
use Rattle.elf_load.specs.Image.{ImageView}
use Rattle.directory.specs.declared.home_line.HomeLine.{HomeLine}
use Rattle.directory.specs.View.{is_home, kept_in}
use Rattle.directory.specs.Opening.{opening_line}
use Rattle.directory.specs.Kept.{map_of, AreKept}
use Rattle.directory.proofs.Places.{home_of, number_of, get_kept, place_in}

-- a place below the number of places is that of a line
pub place_below : (n k count place : ℕ) → 0 < k → count ≡ div_ceil n k → place < count → place * k < n
place_below n k count place some is low =
    let most : count * k < n + k = rw is (div_ceil_times n k some).1 in
    let next : suc place * k ≤ count * k = mul-le-mul_right k (omega arith) in
    grind (arith, most, next)

-- and each line has such a place
pub place_there : (n k count place : ℕ) → 0 < k → count ≡ div_ceil n k → place * k < n → place < count
place_there n k count place some is below =
    let least : n ≤ count * k = rw is (div_ceil_times n k some).0 in
    grind (arith, least, (λ (h : count ≤ place). mul-le-mul_right k h))

pub kept_lines : (c k lines count : ℕ) (ks : List HomeLine) → c < k → k ≤ 16 → c < lines → lines ≤ 1048576 → count ≡ div_ceil (lines - c) k → length ks ≡ count → AreKept c k lines ks
kept_lines c k lines count ks low few some most is long = record {
  cluster_in_range = low;
  clusters_in_range = few;
  lines_in_range = most;
  there = λ place below.
      let room : place * k < lines - c = omega arith in
      let there = place_there (lines - c) k count place (omega arith) is room in
      omega (arith, there);
  within = λ place below.
      let under = place_below (lines - c) k count place (omega arith) is (omega arith) in
      omega (arith, under);
}

module _ (image : ImageView) (t : Topology) (c k lines : ℕ) (ks : List HomeLine) (kept : AreKept c k lines ks)
    (made : ks ≡ map (λ place. opening_line image t (place * k + c)) (range_with_len 0 (length ks))) where
  opened : (q : ℕ) (b s : Bool) → nat_lt q lines ≡ b → (q % k == c) ≡ s → cond (b && s) (slice_get ks (q / k)) None ≡ cond (b && s) (Some (opening_line image t q)) None
  opened q true true e f =
      let is : q ≡ q / k * k + c = number_of c k q (grind (arith, nat_tests)) in
      let low = place_in c k lines ks kept q e f in
      slice_get-get_or ks (q / k) (kept_in None) low
      ∙ ap (λ xs. Some (get_or xs (q / k) (kept_in None))) made
      ∙ ap Some (get_or-map-range_with_len (λ place. opening_line image t (place * k + c)) 0 (length ks) (q / k) (q / k) (kept_in None) low (omega arith))
      ∙ ap (λ n. Some (opening_line image t n)) (sym is)
  opened q true false e f = refl
  opened q false s e f = refl

  -- each line of the home is as it is at the start
  pub opening_at : (q : ℕ) → get (map_of k c ks) q ≡ cond (is_home (home_of c k lines ks) q) (Some (opening_line image t q)) None
  opening_at q = get_kept c k lines ks kept q ∙ opened q _ _ refl refl
