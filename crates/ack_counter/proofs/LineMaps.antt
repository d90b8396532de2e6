-- Finite maps whose keys are numbers: what they have after a change, by a test of numbers, and how many values pass a test.
use Rattle.std.proofs.Common.{◌≡◌, ℕ, zero, suc, ◌+◌, Bool, true, false, cond, List, [], ◌∷◌, length, map, count_by, Option, Some, None, is_some, refl, sym, ap, ◌∙◌, arith}
use Rattle.std.specs.Prelude.{◌==◌}
use Rattle.std.specs.Ordering.{nat_cmp, is_eq}
use Rattle.std.specs.Cmp.{nat_cmp_total, unsigned_tied}
use Rattle.std.specs.declared.cmp.Ordering.TheVariants.{Less, Equal, Greater}
use Rattle.std.specs.FinMap.{len, FinMap, get, insert, remove, values, empty, find, put, entries, get-empty, get-insert, get-remove, len-insert, len-entries, get-entries, entries-insert, same_map, nat_cmp-IsAntisymmetric}
use Rattle.std.specs.FinMap.Entries.{by_order}
use Rattle.std.proofs.lemmas.Bool.Decides.{nat_tests}
use Rattle.std.proofs.lemmas.List.Sums.{sum_by-cons}

pub get-empty_nat : {X : Type 0} (q : ℕ) → get (empty {X = X} {R = nat_cmp}) q ≡ None
get-empty_nat q = get-empty nat_cmp q

pub get-insert_nat : {X : Type 0} (m : FinMap nat_cmp X) (k : ℕ) (v : X) (q : ℕ) → get (insert m k v) q ≡ cond (q == k) (Some v) (get m q)
get-insert_nat m k v q = get-insert nat_cmp_total m k v q ∙ ap (λ b. cond b (Some v) (get m q)) (unsigned_tied q k)

pub get-remove_nat : {X : Type 0} (m : FinMap nat_cmp X) (k q : ℕ) → get (remove m k) q ≡ cond (q == k) None (get m q)
get-remove_nat m k q = get-remove nat_cmp_total m k q ∙ ap (λ b. cond b None (get m q)) (unsigned_tied q k)

pub same_nat_map : {X : Type 0} (m n : FinMap nat_cmp X) → ((q : ℕ) → get m q ≡ get n q) → m ≡ n
same_nat_map m n same = same_map nat_cmp_total nat_cmp-IsAntisymmetric m n same

pub len-insert_new : {X : Type 0} (m : FinMap nat_cmp X) (k : ℕ) (v : X) → get m k ≡ None → len (insert m k v) ≡ len m + 1
len-insert_new m k v none = len-insert nat_cmp_total m k v ∙ ap (λ o. cond (is_some o) (len m) (len m + 1)) none

removed : {X : Type 0} (m : FinMap nat_cmp X) (k : ℕ) → get (remove m k) k ≡ None
removed m k = get-remove_nat m k k ∙ grind (arith, nat_tests)

-- a map whose value at a key is removed and put back
put_back : {X : Type 0} (m : FinMap nat_cmp X) (k q : ℕ) (v : X) (b : Bool) → (q == k) ≡ b → get m k ≡ Some v → cond b (Some v) (cond b None (get m q)) ≡ get m q
put_back m k q v true e is = sym is ∙ ap (get m) (let same : k ≡ q = grind (arith, nat_tests) in same)
put_back m k q v false e is = refl

pub insert-remove : {X : Type 0} (m : FinMap nat_cmp X) (k : ℕ) (v : X) → get m k ≡ Some v → insert (remove m k) k v ≡ m
insert-remove m k v is = same_nat_map _ _ (λ q. get-insert_nat (remove m k) k v q ∙ ap (cond (q == k) (Some v)) (get-remove_nat m k q) ∙ put_back m k q v (q == k) refl is)

pub len-remove_there : {X : Type 0} (m : FinMap nat_cmp X) (k : ℕ) (v : X) → get m k ≡ Some v → len (remove m k) + 1 ≡ len m
len-remove_there m k v is = sym (len-insert_new (remove m k) k v (removed m k)) ∙ ap len (insert-remove m k v is)

not_there : {X : Type 0} (m : FinMap nat_cmp X) (k q : ℕ) (b : Bool) → (q == k) ≡ b → get m k ≡ None → cond b None (get m q) ≡ get m q
not_there m k q true e none = sym none ∙ ap (get m) (let same : k ≡ q = grind (arith, nat_tests) in same)
not_there m k q false e none = refl

pub remove_nothing : {X : Type 0} (m : FinMap nat_cmp X) (k : ℕ) → get m k ≡ None → remove m k ≡ m
remove_nothing m k none = same_nat_map _ _ (λ q. get-remove_nat m k q ∙ not_there m k q (q == k) refl none)

-- what is there once a key is removed was there before
left : {X : Type 0} (v : X) (o : Option X) (b : Bool) → cond b None o ≡ Some v → o ≡ Some v
left v o true e = cc
left v o false e = e

still_there : {X : Type 0} (m : FinMap nat_cmp X) (k q : ℕ) (v : X) → get (remove m k) q ≡ Some v → get m q ≡ Some v
still_there m k q v at = left v (get m q) (q == k) (sym (get-remove_nat m k q) ∙ at)

no_entries : {X : Type 0} (es : List (ℕ × X)) → length es ≡ 0 → es ≡ []
no_entries [] none = refl
no_entries (e ∷ es) none = absurd (omega arith)

-- a map that is not empty has a key
first_key : {X : Type 0} (m : FinMap nat_cmp X) (n : ℕ) (es : List (ℕ × X)) → entries m ≡ es → len m ≡ suc n → (k : ℕ) × (v : X) × (get m k ≡ Some v)
first_key m n [] is some = let none = len-entries m ∙ ap length is in absurd (omega arith)
first_key m n (e ∷ es) is some =
    let same : (e.0 == e.0) ≡ true = grind (arith, nat_tests) in
    (e.0, e.1, get-entries m e.0 ∙ ap (find nat_cmp e.0) is ∙ ap (λ b. cond b (Some e.1) (find nat_cmp e.0 es)) (unsigned_tied e.0 e.0 ∙ same))

pub some_key : {X : Type 0} (m : FinMap nat_cmp X) (n : ℕ) → len m ≡ suc n → (k : ℕ) × (v : X) × (get m k ≡ Some v)
some_key m n some = first_key m n (entries m) refl some

module _ {X : Type 0} (test : X → Bool) where
  abbrev passing : List (ℕ × X) → ℕ
  passing es = count_by test (map (λ e. e.1) es)

  head : (x : ℕ × X) (es : List (ℕ × X)) → passing (x ∷ es) ≡ cond (test x.1) 1 0 + passing es
  head x es = sum_by-cons (λ y. cond (test y) 1 0) x.1 (map (λ e. e.1) es)

  later : (x y : ℕ × X) (es os : List (ℕ × X)) → passing os ≡ cond (test x.1) 1 0 + passing es → passing (y ∷ os) ≡ cond (test x.1) 1 0 + passing (y ∷ es)
  later x y es os is = omega (arith, is, head y os, head y es)

  passing-put : (k : ℕ) (v : X) (es : List (ℕ × X)) → find nat_cmp k es ≡ None → passing (put nat_cmp k v es) ≡ cond (test v) 1 0 + passing es
  passing-put k v [] none = head (k, v) []
  passing-put k v (e ∷ es) none =
      elim (nat_cmp k e.0) as (λ r. cond (is_eq r) (Some e.1) (find nat_cmp k es) ≡ None → passing (by_order r ((k, v) ∷ e ∷ es) ((e.0, v) ∷ es) (e ∷ put nat_cmp k v es)) ≡ cond (test v) 1 0 + passing (e ∷ es)) [
        | Less ↦ λ _. head (k, v) (e ∷ es)
        | Equal ↦ λ is. cc
        | Greater ↦ λ is. later (k, v) e es (put nat_cmp k v es) (passing-put k v es is)
      ] none

  pub passing-insert : (m : FinMap nat_cmp X) (k : ℕ) (v : X) → get m k ≡ None → count_by test (values (insert m k v)) ≡ cond (test v) 1 0 + count_by test (values m)
  passing-insert m k v none =
      ap passing (entries-insert nat_cmp_total m k v) ∙ passing-put k v (entries m) (sym (get-entries m k) ∙ none)

  -- a value is passed by its test, beside those that are left without it
  pub passing-remove : (m : FinMap nat_cmp X) (k : ℕ) (v : X) → get m k ≡ Some v → count_by test (values m) ≡ cond (test v) 1 0 + count_by test (values (remove m k))
  passing-remove m k v is =
      sym (ap (λ n. count_by test (values n)) (insert-remove m k v is)) ∙ passing-insert (remove m k) k v (removed m k)

  -- where no value passes, none is counted
  pub none_passes : (n : ℕ) (m : FinMap nat_cmp X) → len m ≡ n → ((k : ℕ) (v : X) → get m k ≡ Some v → test v ≡ false) → count_by test (values m) ≡ 0
  none_passes zero m is none = ap passing (no_entries (entries m) (sym (len-entries m) ∙ is))
  none_passes (suc n) m is none =
      let k = some_key m n is in
      let fewer = len-remove_there m k.0 k.1 k.2 in
      let rest = none_passes n (remove m k.0) (omega arith) (λ q v at. none q v (still_there m k.0 q v at)) in
      let one : cond {A = ℕ} (test k.1) 1 0 ≡ 0 = ap (λ (b : Bool). cond {A = ℕ} b 1 0) (none k.0 k.1 k.2) in
      let all = passing-remove m k.0 k.1 k.2 in
      omega arith
