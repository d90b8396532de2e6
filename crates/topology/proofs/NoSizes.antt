-- What stands for no number is out of every key's bounds.
use Rattle.std.proofs.Common.{◌≡◌, ℕ, ◌+◌, ◌*◌, ◌%◌, ◌≤◌, ◌<◌, false, ◌&&◌, ◌==◌, nat_le, refl, ap, arith}
use Rattle.std.proofs.lemmas.Bool.{leb-true, and_parts}
use Rattle.std.proofs.lemmas.Bool.Decides.{nat_tests}
use Rattle.dash_base.specs.Bounds.{is_between}
use Rattle.dash_base.specs.Sizes.{stack_limit}
use Rattle.dash_base.specs.declared.topology.Key.TheVariants as key
use Rattle.topology.specs.Document.{no_size, NoSizeIsOutOfBounds}

above : (n limit : ℕ) → n ≡ no_size → limit ≤ 16384 → is_between 1 limit n ≡ false
above n limit is small =
    let large : limit < n = omega (arith, is) in grind (arith, nat_tests)

pub out_of_bounds : NoSizeIsOutOfBounds
out_of_bounds s key.Clusters is l2 = ap (λ n. is_between 1 16 n) is
out_of_bounds s key.Harts is l2 = ap (λ n. is_between 1 4 n) is
out_of_bounds s key.Budget is l2 = ap (λ n. is_between 1 2147483647 n) is
out_of_bounds s key.Memory is l2 = ap (λ n. is_between 65536 16777216 n) is
out_of_bounds s key.Locks is l2 = ap (λ n. nat_le n 1024) is
out_of_bounds s key.Base is l2 = ap (λ n. (n % 65536 == 0) && nat_le (n + s.memory + 4 * s.locks) 4294901760) is
out_of_bounds s key.L2 is l2 = ap (λ n. is_between 16 16384 n) is
out_of_bounds s key.L1 is l2 =
    let (low, high) = and_parts _ _ (l2 refl) in above s.l1 s.l2 is (leb-true _ _ high)
out_of_bounds s key.Buffer is l2 = ap (λ n. is_between 1 16 n) is
out_of_bounds s key.Acks is l2 = ap (λ n. is_between 1 16 n) is
out_of_bounds s key.Prefetch is l2 = ap (λ n. nat_le n 8) is
out_of_bounds s key.Stack is l2 = ap (λ n. (n % 16 == 0) && is_between 16 (stack_limit s) n) is
