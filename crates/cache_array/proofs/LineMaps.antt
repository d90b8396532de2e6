-- Finite maps whose keys are numbers: what they have after a change, by a test of numbers.
use Rattle.std.proofs.Common.{◌≡◌, ℕ, cond, Some, None, ap, ◌∙◌}
use Rattle.std.specs.Prelude.{◌==◌}
use Rattle.std.specs.Ordering.{nat_cmp}
use Rattle.std.specs.Cmp.{nat_cmp_total, unsigned_tied}
use Rattle.std.specs.FinMap.{FinMap, get, insert, remove, empty, get-insert, get-remove, get-empty, same_map, nat_cmp-IsAntisymmetric}

pub get-empty_nat : {X : Type 0} (q : ℕ) → get (empty {X = X} {R = nat_cmp}) q ≡ None
get-empty_nat q = get-empty nat_cmp q

pub get-insert_nat : {X : Type 0} (m : FinMap nat_cmp X) (k : ℕ) (v : X) (q : ℕ) → get (insert m k v) q ≡ cond (q == k) (Some v) (get m q)
get-insert_nat m k v q = get-insert nat_cmp_total m k v q ∙ ap (λ b. cond b (Some v) (get m q)) (unsigned_tied q k)

pub get-remove_nat : {X : Type 0} (m : FinMap nat_cmp X) (k q : ℕ) → get (remove m k) q ≡ cond (q == k) None (get m q)
get-remove_nat m k q = get-remove nat_cmp_total m k q ∙ ap (λ b. cond b None (get m q)) (unsigned_tied q k)

pub same_nat_map : {X : Type 0} (m n : FinMap nat_cmp X) → ((q : ℕ) → get m q ≡ get n q) → m ≡ n
same_nat_map m n same = same_map nat_cmp_total nat_cmp-IsAntisymmetric m n same
