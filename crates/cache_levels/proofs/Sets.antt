-- Sets of numbers.
use Rattle.std.proofs.Common.{◌≡◌, ℕ, Bool, not, ◌&&◌, ◌||◌, sym, ap, ◌∙◌}
use Rattle.std.specs.Prelude.{◌==◌}
use Rattle.std.specs.Ordering.{nat_cmp}
use Rattle.std.specs.Cmp.{nat_cmp_total, unsigned_tied}
use Rattle.std.specs.FinMap.{nat_cmp-IsAntisymmetric}
use Rattle.std.specs.FinSet.{FinSet, contains, insert, remove, retain, contains-insert, contains-remove, contains-retain, same_set}

pub contains-insert_nat : (s : FinSet nat_cmp) (k q : ℕ) → contains (insert s k) q ≡ ((q == k) || contains s q)
contains-insert_nat s k q = contains-insert nat_cmp_total s k q ∙ ap (λ b. b || contains s q) (unsigned_tied q k)

pub contains-remove_nat : (s : FinSet nat_cmp) (k q : ℕ) → contains (remove s k) q ≡ (not (q == k) && contains s q)
contains-remove_nat s k q = contains-remove nat_cmp_total s k q ∙ ap (λ b. not b && contains s q) (unsigned_tied q k)

pub contains-retain_nat : (s : FinSet nat_cmp) (p : ℕ → Bool) (q : ℕ) → contains (retain s p) q ≡ (contains s q && p q)
contains-retain_nat s p q = contains-retain s p q (λ x tie. ap p (sym (nat_cmp-IsAntisymmetric q x tie)))

pub same_nat_set : (s t : FinSet nat_cmp) → ((q : ℕ) → contains s q ≡ contains t q) → s ≡ t
same_nat_set s t same = same_set nat_cmp_total nat_cmp-IsAntisymmetric s t same
