-- Of segments by address, the one of the least number that shares an address with another.
use Rattle.std.proofs.Common.{◌≡◌, ◌≢◌, ◌≤◌, ◌<◌, ◌+◌, ◌⊎◌, ℕ, suc, inl, inr, Bool, true, false, cond, ◌==◌, ◌||◌, eqb, leb, nat_lt, max, List, [], ◌∷◌, Option, Some, None, length, get_or, find, refl, sym, ◌∙◌, ap, subst, arith}
use Rattle.std.specs.List.{sum_by}
use Rattle.std.specs.List.Sorted.{IsPermutation, IsNonDecreasingBy}
use Rattle.std.proofs.lemmas.Bool.Decides.{nat_tests, eqb_tells, leb_tells}
use Rattle.std.proofs.lemmas.List.Sorted.{IsPermutation-sym, sum_by-IsPermutation}
use Rattle.std.proofs.lemmas.List.Sums.{sum_by-cons}
use Rattle.elf_load.specs.Table.{Among, Rising, IsTable, clashes, has_clash, pair_of, first_overlap, begins_before, lower, least_clashing_from}
use Rattle.elf_load.specs.declared.segment_table.Numbered.{Numbered}
use Rattle.elf_load.proofs.Among.{Passing, any_at, any_passing}
use Rattle.elf_load.proofs.Apart.{among_permutation}
use Rattle.elf_load.proofs.SegmentRows.{clash_numbers}

start : Numbered → ℕ
start s = (s.header).p_vaddr

-- ---- each number stands once

abbrev is : ℕ → Numbered → ℕ
is n s = cond (s.number == n) 1 0

is_one : (n : ℕ) (s : Numbered) → s.number ≡ n → is n s ≡ 1
is_one n s same = grind (arith, nat_tests)

is_none : (n : ℕ) (s : Numbered) → s.number ≢ n → is n s ≡ 0
is_none n s differ = grind (arith, nat_tests)

counted : (n : ℕ) (xs : List Numbered) (y : Numbered) → Among y xs → y.number ≡ n → 1 ≤ sum_by (is n) xs
counted n [] y among same = absurd among
counted n (x ∷ xs) y (inl here) same =
    let one = is_one n x (sym (ap (λ (s : Numbered). s.number) here) ∙ same) in omega (arith, sum_by-cons (is n) x xs)
counted n (x ∷ xs) y (inr later) same =
    let some = counted n xs y later same in omega (arith, sum_by-cons (is n) x xs)

none_counted : (n : ℕ) (xs : List Numbered) → ((y : Numbered) → Among y xs → y.number ≢ n) → sum_by (is n) xs ≡ 0
none_counted n [] none = refl
none_counted n (x ∷ xs) none =
    let here = is_none n x (none x (inl refl)) in
    let rest = none_counted n xs (λ y later. none y (inr later)) in omega (arith, sum_by-cons (is n) x xs)

rising_count : (n : ℕ) (xs : List Numbered) → Rising xs → sum_by (is n) xs ≤ 1
rising_count n [] rising = omega arith
rising_count n (x ∷ xs) rising = cases (rising_count n xs rising.1) (eqb_tells x.number n) where
  cases : sum_by (is n) xs ≤ 1 → ((eqb x.number n ≡ true) × (x.number ≡ n)) ⊎ ((eqb x.number n ≡ false) × (x.number ≢ n)) → sum_by (is n) (x ∷ xs) ≤ 1
  cases few (inl equal) =
      let same = equal.1 in
      let here = is_one n x same in
      let rest = none_counted n xs (λ y later. let above = rising.0 y later in omega arith) in omega (arith, sum_by-cons (is n) x xs)
  cases few (inr other) =
      let here = is_none n x other.1 in omega (arith, sum_by-cons (is n) x xs)

-- no two numbers are the same
abbrev Distinct : List Numbered → Type 0
Distinct [] = Unit {0}
Distinct (x ∷ xs) = ((z : Numbered) → Among z xs → x.number ≢ z.number) × Distinct xs

distinct_by_count : (xs : List Numbered) → ((n : ℕ) → sum_by (is n) xs ≤ 1) → Distinct xs
distinct_by_count [] once = tt
distinct_by_count (x ∷ xs) once = (
  λ z later same.
      let few = once x.number in
      let here = is_one x.number x refl in
      let some = counted x.number xs z later (sym same) in omega (arith, sum_by-cons (is x.number) x xs),
  distinct_by_count xs (λ n. let few = once n in omega (arith, sum_by-cons (is n) x xs)),
)

distinct_permutation : (xs ys : List Numbered) → IsPermutation xs ys → Rising xs → Distinct ys
distinct_permutation xs ys moved rising =
    distinct_by_count ys (λ n. let few = rising_count n xs rising in let same = sum_by-IsPermutation (is n) xs ys moved in omega arith)

-- ---- the order of addresses

abbrev Sorted : List Numbered → Type 0
Sorted [] = Unit {0}
Sorted (x ∷ xs) = ((z : Numbered) → Among z xs → (x.header).p_vaddr ≤ (z.header).p_vaddr) × Sorted xs

place_in : (xs : List Numbered) (z : Numbered) → Among z xs → (k : ℕ) × (k < length xs) × ((d : Numbered) → get_or xs k d ≡ z)
place_in [] z among = absurd among
place_in (x ∷ xs) z (inl same) = (0, omega arith, λ d. sym same)
place_in (x ∷ xs) z (inr later) = let there = place_in xs z later in let below = there.1 in (suc there.0, omega arith, there.2)

sorted_from : (xs : List Numbered) → IsNonDecreasingBy (λ (s : Numbered). (s.header).p_vaddr) xs → Sorted xs
sorted_from [] rises = tt
sorted_from (x ∷ xs) rises = (
  λ z later.
      let there = place_in xs z later in
      let below = there.1 in
      let order = rises 0 (suc there.0) z (omega arith) (omega arith) in
      subst (λ (s : Numbered). (x.header).p_vaddr ≤ (s.header).p_vaddr) (there.2 z) order,
  sorted_from xs (λ i j d low high. rises (suc i) (suc j) d (omega arith) (omega arith)),
)

-- ---- the pass over them

-- the answer for the segments of `seen`, of all
abbrev IsLeastOf : List Numbered → List Numbered → Option Numbered → Type 0
IsLeastOf all seen None = (y : Numbered) → Among y seen → has_clash all y ≡ true → ⊥
IsLeastOf all seen (Some x) = Among x all × (has_clash all x ≡ true) × ((y : Numbered) → Among y seen → has_clash all y ≡ true → x.number ≤ y.number)

-- how far the pass has come: what it has seen, and the rest
record IsScanned (all : List Numbered) (seen : List Numbered) (reach : ℕ) (rest : List Numbered) : Type 0 where
  split : (y : Numbered) → Among y all → Among y seen ⊎ Among y rest
  back : (y : Numbered) → Among y seen ⊎ Among y rest → Among y all
  ends : (y : Numbered) → Among y seen → (y.header).p_vaddr + (y.header).p_memsz ≤ reach
  reached : (reach ≡ 0) ⊎ ((y : Numbered) × Among y seen × ((y.header).p_vaddr + (y.header).p_memsz ≡ reach))
  begins : (y z : Numbered) → Among y seen → Among z rest → (y.header).p_vaddr ≤ (z.header).p_vaddr
  apart : (y z : Numbered) → Among y seen → Among z rest → y.number ≢ z.number
  distinct : Distinct rest
  sorted : Sorted rest
  full : (y : Numbered) → Among y all → 0 < (y.header).p_memsz

clash_test : (a b : Numbered) → a.number ≢ b.number → (a.header).p_vaddr < (b.header).p_vaddr + (b.header).p_memsz → (b.header).p_vaddr < (a.header).p_vaddr + (a.header).p_memsz
    → 0 < (a.header).p_memsz → 0 < (b.header).p_memsz → clashes a b ≡ true
clash_test a b differ low high some_a some_b = grind (arith, nat_tests)

record Shared (a b : Numbered) : Type 0 where
  low : (a.header).p_vaddr < (b.header).p_vaddr + (b.header).p_memsz
  high : (b.header).p_vaddr < (a.header).p_vaddr + (a.header).p_memsz

clash_told : (a b : Numbered) → clashes a b ≡ true → Shared a b
clash_told a b e = record { low = grind (arith, nat_tests); high = grind (arith, nat_tests) }

abbrev flagged : ℕ → Numbered → List Numbered → Bool
flagged reach s rest = nat_lt (s.header).p_vaddr reach || begins_before ((s.header).p_vaddr + (s.header).p_memsz) rest

or_true : (a b : Bool) → (a || b) ≡ true → (a ≡ true) ⊎ (b ≡ true)
or_true true b e = inl refl
or_true false b e = inr e

or_first : (a b : Bool) → a ≡ true → (a || b) ≡ true
or_first true b e = refl
or_first false b e = absurd cc

or_second : (a b : Bool) → b ≡ true → (a || b) ≡ true
or_second true b e = refl
or_second false b e = e

-- one that begins before an earlier one ends shares an address with it
earlier_clash : (all seen : List Numbered) (reach : ℕ) (s : Numbered) (rest : List Numbered) → IsScanned all seen reach (s ∷ rest) → (s.header).p_vaddr < reach
    → (reach ≡ 0) ⊎ ((y : Numbered) × Among y seen × ((y.header).p_vaddr + (y.header).p_memsz ≡ reach)) → has_clash all s ≡ true
earlier_clash all seen reach s rest scan below (inl none) = absurd (omega arith)
earlier_clash all seen reach s rest scan below (inr some) =
    let y = some.0 in
    let end = some.2 in
    let order = scan.begins y s some.1 (inl refl) in
    let full_s = scan.full s (scan.back s (inr (inl refl))) in
    let full_y = scan.full y (scan.back y (inl some.1)) in
    let differ = scan.apart y s some.1 (inl refl) in
    any_at (clashes s) all y (scan.back y (inl some.1)) (clash_test s y (λ same. differ (sym same)) (omega arith) (omega arith) full_s full_y)

-- and so does one that ends after the next begins
later_clash : (all seen : List Numbered) (reach : ℕ) (s : Numbered) (rest : List Numbered) → IsScanned all seen reach (s ∷ rest)
    → begins_before ((s.header).p_vaddr + (s.header).p_memsz) rest ≡ true → has_clash all s ≡ true
later_clash all seen reach s [] scan before = absurd cc
later_clash all seen reach s (t ∷ rest) scan before =
    let among_s = scan.back s (inr (inl refl)) in
    let among_t = scan.back t (inr (inr (inl refl))) in
    let order = scan.sorted.0 t (inl refl) in
    let full_s = scan.full s among_s in
    let full_t = scan.full t among_t in
    let high : (t.header).p_vaddr < (s.header).p_vaddr + (s.header).p_memsz = grind (arith, nat_tests) in
    any_at (clashes s) all t among_t (clash_test s t (scan.distinct.0 t (inl refl)) (omega arith) high full_s full_t)

flagged_clash : (all seen : List Numbered) (reach : ℕ) (s : Numbered) (rest : List Numbered) → IsScanned all seen reach (s ∷ rest) → flagged reach s rest ≡ true → has_clash all s ≡ true
flagged_clash all seen reach s rest scan flag = cases (or_true (nat_lt (s.header).p_vaddr reach) (begins_before ((s.header).p_vaddr + (s.header).p_memsz) rest) flag) where
  cases : (nat_lt (s.header).p_vaddr reach ≡ true) ⊎ (begins_before ((s.header).p_vaddr + (s.header).p_memsz) rest ≡ true) → has_clash all s ≡ true
  cases (inl earlier) = let below : (s.header).p_vaddr < reach = grind (arith, nat_tests) in earlier_clash all seen reach s rest scan below scan.reached
  cases (inr later) = later_clash all seen reach s rest scan later

-- where one shares an address with a later one, the next begins before its end
begins_there : (end : ℕ) (rest : List Numbered) (y : Numbered) → Sorted rest → Among y rest → (y.header).p_vaddr < end → begins_before end rest ≡ true
begins_there end [] y sorted among below = absurd among
begins_there end (t ∷ rest) y sorted (inl same) below =
    let first : (y.header).p_vaddr ≡ (t.header).p_vaddr = ap (λ (s : Numbered). (s.header).p_vaddr) same in grind (arith, nat_tests)
begins_there end (t ∷ rest) y sorted (inr later) below =
    let order = sorted.0 y later in grind (arith, nat_tests)

clash_flagged : (all seen : List Numbered) (reach : ℕ) (s : Numbered) (rest : List Numbered) → IsScanned all seen reach (s ∷ rest) → has_clash all s ≡ true → flagged reach s rest ≡ true
clash_flagged all seen reach s rest scan clash = cases (scan.split found.element found.among) where
  found : Passing (clashes s) all
  found = any_passing (clashes s) all clash

  cases : Among found.element seen ⊎ Among found.element (s ∷ rest) → flagged reach s rest ≡ true
  cases (inl before) =
      let told = clash_told s found.element found.passes in
      let low = told.low in
      let end = scan.ends found.element before in
      or_first (nat_lt (s.header).p_vaddr reach) (begins_before ((s.header).p_vaddr + (s.header).p_memsz) rest) (grind (arith, nat_tests))
  cases (inr (inl same)) = absurd (clash_numbers s found.element found.passes (ap (λ (x : Numbered). x.number) (sym same)))
  cases (inr (inr later)) =
      let told = clash_told s found.element found.passes in
      or_second (nat_lt (s.header).p_vaddr reach) (begins_before ((s.header).p_vaddr + (s.header).p_memsz) rest)
      (begins_there ((s.header).p_vaddr + (s.header).p_memsz) rest found.element scan.sorted.1 later told.high)

farther_of : (seen : List Numbered) (reach : ℕ) (s y : Numbered) → Among y seen → (y.header).p_vaddr + (y.header).p_memsz ≡ reach
    → ((leb reach ((s.header).p_vaddr + (s.header).p_memsz) ≡ true) × (reach ≤ (s.header).p_vaddr + (s.header).p_memsz)) ⊎ ((leb reach ((s.header).p_vaddr + (s.header).p_memsz) ≡ false) × ((s.header).p_vaddr + (s.header).p_memsz < reach))
    → (max reach ((s.header).p_vaddr + (s.header).p_memsz) ≡ 0) ⊎ ((x : Numbered) × Among x (s ∷ seen) × ((x.header).p_vaddr + (x.header).p_memsz ≡ max reach ((s.header).p_vaddr + (s.header).p_memsz)))
farther_of seen reach s y among end (inl up) = let order = up.1 in inr (s, inl refl, omega arith)
farther_of seen reach s y among end (inr down) = let order = down.1 in inr (y, inr among, omega arith)

farther : (seen : List Numbered) (reach : ℕ) (s : Numbered) → (reach ≡ 0) ⊎ ((y : Numbered) × Among y seen × ((y.header).p_vaddr + (y.header).p_memsz ≡ reach))
    → (max reach ((s.header).p_vaddr + (s.header).p_memsz) ≡ 0) ⊎ ((y : Numbered) × Among y (s ∷ seen) × ((y.header).p_vaddr + (y.header).p_memsz ≡ max reach ((s.header).p_vaddr + (s.header).p_memsz)))
farther seen reach s (inl none) = inr (s, inl refl, omega arith)
farther seen reach s (inr some) = farther_of seen reach s some.0 some.1 some.2 (leb_tells reach ((s.header).p_vaddr + (s.header).p_memsz))

-- one step of the pass
next_scanned : (all seen : List Numbered) (reach : ℕ) (s : Numbered) (rest : List Numbered) → IsScanned all seen reach (s ∷ rest)
    → IsScanned all (s ∷ seen) (max reach ((s.header).p_vaddr + (s.header).p_memsz)) rest
next_scanned all seen reach s rest scan = record {
  split = λ y among. moved y (scan.split y among);
  back = λ y among. returned y among;
  ends = λ y among. ended y among;
  reached = farther seen reach s scan.reached;
  begins = λ y z first later. begun y z first later;
  apart = λ y z first later. separate y z first later;
  distinct = scan.distinct.1;
  sorted = scan.sorted.1;
  full = scan.full;
} where
  moved : (y : Numbered) → Among y seen ⊎ Among y (s ∷ rest) → Among y (s ∷ seen) ⊎ Among y rest
  moved y (inl before) = inl (inr before)
  moved y (inr (inl here)) = inl (inl here)
  moved y (inr (inr later)) = inr later

  returned : (y : Numbered) → Among y (s ∷ seen) ⊎ Among y rest → Among y all
  returned y (inl (inl here)) = scan.back y (inr (inl here))
  returned y (inl (inr before)) = scan.back y (inl before)
  returned y (inr later) = scan.back y (inr (inr later))

  ended : (y : Numbered) → Among y (s ∷ seen) → (y.header).p_vaddr + (y.header).p_memsz ≤ max reach ((s.header).p_vaddr + (s.header).p_memsz)
  ended y (inl here) =
      let same : (y.header).p_vaddr + (y.header).p_memsz ≡ (s.header).p_vaddr + (s.header).p_memsz = ap (λ (x : Numbered). (x.header).p_vaddr + (x.header).p_memsz) here in omega arith
  ended y (inr before) = let end = scan.ends y before in omega arith

  begun : (y z : Numbered) → Among y (s ∷ seen) → Among z rest → (y.header).p_vaddr ≤ (z.header).p_vaddr
  begun y z (inl here) later =
      let first : (y.header).p_vaddr ≡ (s.header).p_vaddr = ap (λ (x : Numbered). (x.header).p_vaddr) here in
      let order = scan.sorted.0 z later in omega arith
  begun y z (inr before) later = scan.begins y z before (inr later)

  separate : (y z : Numbered) → Among y (s ∷ seen) → Among z rest → y.number ≢ z.number
  separate y z (inl here) later = λ same. scan.distinct.0 z later (sym (ap (λ (x : Numbered). x.number) here) ∙ same)
  separate y z (inr before) later = scan.apart y z before (inr later)

lowered_in : (c : Bool) (all seen : List Numbered) (s x : Numbered) → nat_lt s.number x.number ≡ c → Among s all → has_clash all s ≡ true → IsLeastOf all seen (Some x) → IsLeastOf all (s ∷ seen) (cond c (Some s) (Some x))
lowered_in true all seen s x order among clash least = (among, clash, λ y in_y clash_y. below y in_y clash_y) where
  below : (y : Numbered) → Among y (s ∷ seen) → has_clash all y ≡ true → s.number ≤ y.number
  below y (inl here) clash_y = let same : y.number ≡ s.number = ap (λ (z : Numbered). z.number) here in omega arith
  below y (inr before) clash_y = let above = least.2 y before clash_y in let under : s.number < x.number = grind (arith, nat_tests) in omega arith
lowered_in false all seen s x order among clash least = (least.0, least.1, λ y in_y clash_y. below y in_y clash_y) where
  below : (y : Numbered) → Among y (s ∷ seen) → has_clash all y ≡ true → x.number ≤ y.number
  below y (inl here) clash_y = let same : y.number ≡ s.number = ap (λ (z : Numbered). z.number) here in let under : x.number ≤ s.number = grind (arith, nat_tests) in omega arith
  below y (inr before) clash_y = least.2 y before clash_y

not_clash : (all seen : List Numbered) (reach : ℕ) (s y : Numbered) (rest : List Numbered) → IsScanned all seen reach (s ∷ rest) → flagged reach s rest ≡ false → y ≡ s → has_clash all y ≡ true → ⊥
not_clash all seen reach s y rest scan flag here clash =
    let test : has_clash all s ≡ true = sym (ap (has_clash all) here) ∙ clash in
    let both : flagged reach s rest ≡ true = clash_flagged all seen reach s rest scan test in
    let never : true ≡ false = sym both ∙ flag in absurd cc

next_least : (b : Bool) (all seen : List Numbered) (reach : ℕ) (s : Numbered) (rest : List Numbered) (least : Option Numbered) → flagged reach s rest ≡ b → IsScanned all seen reach (s ∷ rest)
    → IsLeastOf all seen least → IsLeastOf all (s ∷ seen) (cond b (lower least s) least)
next_least true all seen reach s rest None flag scan least =
    (scan.back s (inr (inl refl)), flagged_clash all seen reach s rest scan flag, λ y in_y clash_y. below y in_y clash_y) where
      below : (y : Numbered) → Among y (s ∷ seen) → has_clash all y ≡ true → s.number ≤ y.number
      below y (inl here) clash_y = let same : y.number ≡ s.number = ap (λ (z : Numbered). z.number) here in omega arith
      below y (inr before) clash_y = absurd (least y before clash_y)
next_least true all seen reach s rest (Some x) flag scan least =
    lowered_in (nat_lt s.number x.number) all seen s x refl (scan.back s (inr (inl refl))) (flagged_clash all seen reach s rest scan flag) least
next_least false all seen reach s rest None flag scan least = λ y in_y clash_y. none y in_y clash_y where
  none : (y : Numbered) → Among y (s ∷ seen) → has_clash all y ≡ true → ⊥
  none y (inl here) clash_y = not_clash all seen reach s y rest scan flag here clash_y
  none y (inr before) clash_y = least y before clash_y
next_least false all seen reach s rest (Some x) flag scan least = (least.0, least.1, λ y in_y clash_y. below y in_y clash_y) where
  below : (y : Numbered) → Among y (s ∷ seen) → has_clash all y ≡ true → x.number ≤ y.number
  below y (inl here) clash_y = absurd (not_clash all seen reach s y rest scan flag here clash_y)
  below y (inr before) clash_y = least.2 y before clash_y

seen_all : (all seen : List Numbered) (reach : ℕ) (y : Numbered) → IsScanned all seen reach [] → Among y seen ⊎ Among y [] → Among y seen
seen_all all seen reach y scan (inl before) = before
seen_all all seen reach y scan (inr none) = absurd none

at_end : (all seen : List Numbered) (reach : ℕ) (least : Option Numbered) → IsScanned all seen reach [] → IsLeastOf all seen least → IsLeastOf all all least
at_end all seen reach None scan least = λ y among clash. least y (seen_all all seen reach y scan (scan.split y among)) clash
at_end all seen reach (Some x) scan least = (least.0, least.1, λ y among clash. least.2 y (seen_all all seen reach y scan (scan.split y among)) clash)

-- the whole pass
scanned : (all seen : List Numbered) (reach : ℕ) (least : Option Numbered) (rest : List Numbered) → IsScanned all seen reach rest → IsLeastOf all seen least → IsLeastOf all all (least_clashing_from reach least rest)
scanned all seen reach least [] scan so_far = at_end all seen reach least scan so_far
scanned all seen reach least (s ∷ rest) scan so_far =
    scanned all (s ∷ seen) (max reach ((s.header).p_vaddr + (s.header).p_memsz)) (cond (flagged reach s rest) (lower least s) least) rest
    (next_scanned all seen reach s rest scan) (next_least (flagged reach s rest) all seen reach s rest least refl scan so_far)

only_rest : (y : Numbered) (rest : List Numbered) → Among y [] ⊎ Among y rest → Among y rest
only_rest y rest (inl none) = absurd none
only_rest y rest (inr later) = later

scanned_at_first : (all : List Numbered) → Sorted all → Distinct all → ((y : Numbered) → Among y all → 0 < (y.header).p_memsz) → IsScanned all [] 0 all
scanned_at_first all sorted distinct full = record {
  split = λ y among. inr among;
  back = λ y among. only_rest y all among;
  ends = λ y none. absurd none;
  reached = inl refl;
  begins = λ y z none later. absurd none;
  apart = λ y z none later. absurd none;
  distinct = distinct;
  sorted = sorted;
  full = full;
}

-- ---- the first in the list

find_is : (p : Numbered → Bool) (xs : List Numbered) (x : Numbered) → Rising xs → Among x xs → p x ≡ true → ((y : Numbered) → Among y xs → p y ≡ true → x.number ≤ y.number) → find p xs ≡ Some x
find_is p [] x rising among passes least = absurd among
find_is p (z ∷ zs) x rising among passes least = here (p z) refl among (λ later. find_is p zs x rising.1 later passes (λ y in_y t_y. least y (inr in_y) t_y)) where
  here : (b : Bool) → p z ≡ b → Among x (z ∷ zs) → (Among x zs → find p zs ≡ Some x) → cond b (Some z) (find p zs) ≡ Some x
  here true t (inl same) rest = ap Some (sym same)
  here true t (inr later) rest = let above = rising.0 x later in let below = least z (inl refl) t in absurd (omega arith)
  here false t (inl same) rest = let both : p x ≡ p z = ap p same in absurd cc
  here false t (inr later) rest = rest later

find_is_none : (p : Numbered → Bool) (xs : List Numbered) → ((y : Numbered) → Among y xs → p y ≡ true → ⊥) → find p xs ≡ None
find_is_none p [] none = refl
find_is_none p (z ∷ zs) none = here (p z) refl (find_is_none p zs (λ y later t_y. none y (inr later) t_y)) where
  here : (b : Bool) → p z ≡ b → find p zs ≡ None → cond b (Some z) (find p zs) ≡ None
  here true t rest = absurd (none z (inl refl) t)
  here false t rest = rest

same_clash : (xs ys : List Numbered) (y : Numbered) → IsPermutation xs ys → has_clash xs y ≡ true → has_clash ys y ≡ true
same_clash xs ys y moved clash =
    let found = any_passing (clashes y) xs clash in any_at (clashes y) ys found.element (among_permutation xs ys found.element moved found.among) found.passes

first_of_least : (segments sorted : List Numbered) (o : Option Numbered) → IsTable segments → IsPermutation segments sorted → IsLeastOf sorted sorted o → o ≡ find (has_clash segments) segments
first_of_least segments sorted None table moved least =
    sym (find_is_none (has_clash segments) segments (λ y among clash. least y (among_permutation segments sorted y moved among) (same_clash segments sorted y moved clash)))
first_of_least segments sorted (Some x) table moved least =
    let back = IsPermutation-sym segments sorted moved in
    sym (find_is (has_clash segments) segments x table.rising (among_permutation sorted segments x back least.0) (same_clash sorted segments x back least.1)
    (λ y among clash. least.2 y (among_permutation segments sorted y moved among) (same_clash segments sorted y moved clash)))

-- so the pass over the segments by address finds the first one in the list
pub least_is_first : (segments sorted : List Numbered) → IsTable segments → IsPermutation segments sorted → IsNonDecreasingBy (λ (s : Numbered). (s.header).p_vaddr) sorted
    → least_clashing_from 0 None sorted ≡ find (has_clash segments) segments
least_is_first segments sorted table moved order =
    first_of_least segments sorted (least_clashing_from 0 None sorted) table moved
    (scanned sorted [] 0 None sorted
    (scanned_at_first sorted (sorted_from sorted order) (distinct_permutation segments sorted moved table.rising)
    (λ y among. table.in_memory y (among_permutation sorted segments y (IsPermutation-sym segments sorted moved) among)))
    (λ y none clash. none))

pub pair_is : (segments sorted : List Numbered) (first : Option Numbered) → IsTable segments → IsPermutation segments sorted → IsNonDecreasingBy (λ (s : Numbered). (s.header).p_vaddr) sorted
    → first ≡ least_clashing_from 0 None sorted → pair_of segments first ≡ first_overlap segments
pair_is segments sorted first table moved order is_least = ap (pair_of segments) (is_least ∙ least_is_first segments sorted table moved order)
