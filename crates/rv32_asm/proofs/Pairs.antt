-- A pair gives its value.
use Rattle.std.proofs.Common.{◌≡◌, ℕ, ◌+◌, ◌-◌, ◌*◌, ◌/◌, ◌%◌, ◌^◌, ◌<◌, ◌≤◌, Bool, true, false, ltb, ℤ, pos, negsuc, refl, arith}
use Rattle.std.proofs.lemmas.Bool.Decides.{nat_tests}
use Rattle.std.proofs.lemmas.Int.{ints}
use Rattle.rv32_asm.specs.Orders.{Completes}
use Rattle.rv32_asm.specs.Programs.{upper_part}

low_sum : (v : ℕ) → v < 2 ^ 32 → v % 4096 < 2048 → (4096 * ((v + 2048) % 2 ^ 32 / 4096) + v % 4096) % 2 ^ 32 ≡ v
low_sum v below low = omega arith

high_sum : (v k : ℕ) → v < 2 ^ 32 → 2048 ≤ v % 4096 → k ≡ 4095 - v % 4096
    → (4096 * ((v + 2048) % 2 ^ 32 / 4096) + (2 ^ 32 - (k + 1))) % 2 ^ 32 ≡ v
high_sum v k below high e = omega arith

high_bits : (v : ℕ) → 2048 ≤ v % 4096 → 2 ^ 12 - (4095 - v % 4096 + 1) ≡ v % 4096
high_bits v high = omega arith

by_test : (v : ℕ) (b : Bool) → ltb (v % 4096) 2048 ≡ b → v < 2 ^ 32 → Completes v
by_test v true e below =
    let low : v % 4096 < 2048 = grind (arith, nat_tests) in
    record {
      immediate = pos (v % 4096);
      fits = record { low = omega (arith, ints); high = omega (arith, ints) };
      bits = refl;
      sum = low_sum v below low;
    }
by_test v false e below =
    let high : 2048 ≤ v % 4096 = grind (arith, nat_tests) in
    let small : v % 4096 < 4096 = omega arith in
    record {
      immediate = negsuc (4095 - v % 4096);
      fits = record { low = omega (arith, ints); high = omega (arith, ints) };
      bits = high_bits v high;
      sum = high_sum v (4095 - v % 4096) below high refl;
    }

pub completes : (v : ℕ) → v < 2 ^ 32 → Completes v
completes v below = by_test v (ltb (v % 4096) 2048) refl below
