-- The set of harts whose marks are set.
use Rattle.std.proofs.Common.{◌≡◌, ℕ, ◌<◌, Bool, true, false, ◌&&◌, ◌||◌, List, [], ◌∷◌, length, get_or, set, refl, sym, ap, ◌∙◌, arith}
use Rattle.std.specs.Prelude.{◌==◌}
use Rattle.std.specs.Ordering.{nat_cmp}
use Rattle.std.specs.Cmp.{nat_cmp_total, unsigned_tied}
use Rattle.std.specs.FinSet.{contains, insert, empty, from_list, contains-retain, contains-from_list_nat, contains-insert, contains-empty, same_set, nat_cmp-IsAntisymmetric}
use Rattle.std.proofs.lemmas.Bool.Decides.{nat_tests}
use Rattle.std.proofs.lemmas.List.{get_or_past, get_or-set_same, get_or-set_other}
use Rattle.ack_counter.specs.Entries.{harts_of}

abbrev four : List ℕ
four = 0 ∷ 1 ∷ 2 ∷ 3 ∷ []

pub contains-harts_of : (marks : List Bool) (q : ℕ) → contains (harts_of marks) q ≡ (contains (from_list {R = nat_cmp} four) q && get_or marks q false)
unfolding harts_of
contains-harts_of marks q = contains-retain (from_list four) (λ hart. get_or marks hart false) q (λ x tied. ap (λ k. get_or marks k false) (sym (nat_cmp-IsAntisymmetric q x tied)))

in_four : (q : ℕ) → q < 4 → contains (from_list {R = nat_cmp} four) q ≡ true
in_four q low = contains-from_list_nat four q ∙ grind (arith, nat_tests)

-- a hart of the cluster is in the set where its mark is set
pub contains-harts_of_low : (marks : List Bool) (q : ℕ) → q < 4 → contains (harts_of marks) q ≡ get_or marks q false
contains-harts_of_low marks q low = contains-harts_of marks q ∙ ap (λ b. b && get_or marks q false) (in_four q low)

marked : (marks : List Bool) (h q : ℕ) → h < length marks → get_or (set marks h true) q false ≡ ((q == h) || get_or marks q false)
marked marks h q low = grind (arith, nat_tests, get_or-set_same marks h true false low, get_or-set_other marks h q true false)

spread : (a b c : Bool) → (b ≡ true → a ≡ true) → (a && (b || c)) ≡ (b || (a && c))
spread true b c is = refl
spread false true c is = is refl
spread false false c is = refl

pub harts_of-set : (marks : List Bool) (h : ℕ) → h < 4 → length marks ≡ 4 → harts_of (set marks h true) ≡ insert (harts_of marks) h
harts_of-set marks h low four_marks =
    same_set nat_cmp_total nat_cmp-IsAntisymmetric _ _ (λ q.
    contains-harts_of (set marks h true) q
    ∙ ap (λ b. contains (from_list {R = nat_cmp} four) q && b) (marked marks h q (omega arith))
    ∙ spread (contains (from_list {R = nat_cmp} four) q) (q == h) (get_or marks q false) (λ same. in_four q (grind (arith, nat_tests)))
    ∙ sym (contains-insert nat_cmp_total (harts_of marks) h q ∙ (λ i. unsigned_tied q h i || contains-harts_of marks q i)))

none_marked : (q : ℕ) → get_or (false ∷ false ∷ false ∷ false ∷ []) q false ≡ false
none_marked q = grind (arith, nat_tests, get_or_past (false ∷ false ∷ false ∷ false ∷ []) q false)

and_false : (a b : Bool) → b ≡ false → (a && b) ≡ false
and_false true b is = is
and_false false b is = refl

pub harts_of-none : harts_of (false ∷ false ∷ false ∷ false ∷ []) ≡ empty
harts_of-none =
    same_set nat_cmp_total nat_cmp-IsAntisymmetric _ _ (λ q.
    contains-harts_of (false ∷ false ∷ false ∷ false ∷ []) q ∙ and_false (contains (from_list {R = nat_cmp} four) q) _ (none_marked q) ∙ sym (contains-empty nat_cmp q))
