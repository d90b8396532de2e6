-- What the generated workload computes: the numbers that each hart draws, the counters that it adds to, and their totals.
use Rattle.std.specs.Prelude.{ℕ, zero, suc, ◌+◌, ◌*◌, ◌/◌, ◌%◌, ◌^◌, ◌==◌, if◌then◌else◌}
use Rattle.dash_base.specs.Sizes.{default_stack}
use Rattle.dash_base.specs.Topology.{HasSizes}
use Rattle.dash_base.specs.declared.sizes.Sizes.{Sizes}
use Rattle.dash_base.specs.declared.topology.Topology.{Topology}

-- how many harts there are, how many turns each takes, and how many counters they add to
abbrev pub harts : ℕ
harts = 64

unfoldable pub turns : ℕ
turns = 468

abbrev pub counters : ℕ
counters = 64

-- its machine: 16 clusters of 4 harts, with 65,536 bytes of memory and a lock word for each counter
abbrev pub sizes : Sizes
sizes = record {
  clusters = 16;
  harts = 4;
  budget = 30000;
  memory = 65536;
  locks = 64;
  base = 0;
  l2 = 256;
  l1 = 16;
  buffer = 4;
  acks = 4;
  prefetch = 2;
  stack = default_stack 16 4 65536;
}

abbrev pub IsMachine : Topology → Type 0
IsMachine t = HasSizes sizes t

-- the number that hart h draws in its turn i, by a linear congruential generator from one of its own
abbrev pub draw : ℕ → ℕ → ℕ → ℕ
draw seed h zero = (seed + 2654435761 * h) % 2 ^ 32
draw seed h (suc i) = (1664525 * draw seed h i + 1013904223) % 2 ^ 32

-- the counter that a number means, and what is added to it
abbrev pub counter_of : ℕ → ℕ
counter_of x = x / 2 ^ 26

abbrev pub addend_of : ℕ → ℕ
addend_of x = x / 65536 % 256

-- what a number adds to counter k
abbrev pub addition : ℕ → ℕ → ℕ
addition k x = if counter_of x == k then addend_of x else 0

-- what hart h adds to counter k in its first n turns
abbrev pub added : ℕ → ℕ → ℕ → ℕ → ℕ
added seed k h zero = 0
added seed k h (suc n) = added seed k h n + addition k (draw seed h (suc n))

-- the sum over the first n harts
abbrev pub sum_below : (ℕ → ℕ) → ℕ → ℕ
sum_below f zero = 0
sum_below f (suc n) = sum_below f n + f n

-- the total of counter k: what all harts add to it in all of their turns
unfoldable pub total : ℕ → ℕ → ℕ
total seed k = sum_below (λ h. added seed k h turns) harts

-- the address of counter k's word, and of its lock word
abbrev pub counter_word : ℕ → ℕ
counter_word k = 32768 + 16 * k

abbrev pub lock_word : ℕ → ℕ
lock_word k = 65536 + 4 * k
