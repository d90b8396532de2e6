-- Each instruction of a hart of the workload brings it to its next stage.
use Rattle.std.proofs.Common.{arith, false, inl, inr, refl, subst, suc, sym, true, zero, ℕ, ◌%◌, ◌*◌, ◌+◌, ◌-◌, ◌/◌, ◌<◌, ◌^◌, ◌∙◌, ◌≡◌, ◌⊎◌}
use Rattle.std.specs.Prelude.{bit_and}
use Rattle.std.proofs.lemmas.Bool.Decides.{nat_tests}
use Rattle.std.proofs.lemmas.Grind.{and_numeral}
use Rattle.dash_base.specs.declared.end.End.TheVariants.{Exited}
use Rattle.dash_base.specs.declared.need.Need.{Need}
use Rattle.dash_base.specs.declared.need.Need.TheVariants as needed
use Rattle.dash_base.specs.declared.topology.Topology.{Topology}
use Rattle.dash_event.specs.Offered.{no_label}
use Rattle.hart_core.specs.HartState.{HartState, can_go_on}
use Rattle.hart_core.specs.Meaning.{Does}
use Rattle.workload_gen.specs.Program.{image_of, upper_part}
use Rattle.workload_gen.specs.Progress.{Holding, Loaded, Outside, Progress, Stored, Summed}
use Rattle.workload_gen.specs.Workload.{IsMachine, addend_of, counter_of, counter_word, draw, lock_word}
use Rattle.workload_gen.proofs.Accessing.{again_step, ask_step, call_step, load_step, over_step, seed_lower_step, seed_upper_step, store_step, unlock_step}
use Rattle.workload_gen.proofs.Computing.{begin_step, call_number_step, choose_step, code_step, count_down_step, count_step, counter_address_step, counter_offset_step, counters_at_lower_step, counters_at_upper_step, cut_step, factor_lower_step, factor_upper_step, increase_step, increment_lower_step, increment_upper_step, lock_address_step, lock_offset_step, locks_at_lower_step, locks_at_upper_step, multiplier_lower_step, multiplier_upper_step, multiply_step, one_step, shift_step, spread_step, sum_step}
use Rattle.workload_gen.proofs.Harts.{Makes, Registers, hart}
use Rattle.workload_gen.proofs.Stages.{HartIs, at, At_again, At_ask, At_begin, At_call, At_call_number, At_choose, At_code, At_count, At_count_down, At_counter_address, At_counter_offset, At_counters_at_lower, At_counters_at_upper, At_cut, At_end, At_factor_lower, At_factor_upper, At_increase, At_increment_lower, At_increment_upper, At_load, At_lock_address, At_lock_offset, At_locks_at_lower, At_locks_at_upper, At_multiplier_lower, At_multiplier_upper, At_multiply, At_one, At_seed_lower, At_seed_upper, At_shift, At_spread, At_store, At_sum, At_unlock}

-- what an instruction that needs this, and is answered so, makes of a hart's progress
pub data Moves (seed h : ℕ) (need : Need) (answer : ℕ) : Progress → Progress → Type 0 where
  Quiet : (p : Progress) → need ≡ needed.Alu → Moves seed h need answer p p
  Asks : (n : ℕ) → need ≡ needed.Ask (record { 0 = lock_word (counter_of (draw seed h (suc n))) }) 1 → Moves seed h need answer (at n Outside) (at n (Holding (counter_of (draw seed h (suc n)))))
  Loads : (n k : ℕ) → need ≡ needed.Load (record { 0 = counter_word k }) 15 no_label false → Moves seed h need answer (at n (Holding k)) (at n (Loaded k answer))
  Sums : (n k v : ℕ) → need ≡ needed.Alu → Moves seed h need answer (at n (Loaded k v)) (at n (Summed k ((v + addend_of (draw seed h (suc n))) % 2 ^ 32)))
  Stores : (n k v : ℕ) → n < 468 → k ≡ counter_of (draw seed h (suc n)) → need ≡ needed.Store (record { 0 = counter_word k }) 15 (v % 2 ^ 32 * 1) → Moves seed h need answer (at n (Summed k v)) (at (suc n) (Stored k))
  Unlocks : (n k : ℕ) → need ≡ needed.Unlock (record { 0 = lock_word k }) → Moves seed h need answer (at n (Stored k)) (at n Outside)
  Exits : (n : ℕ) → need ≡ needed.Stop (Exited 0) → Moves seed h need answer (at n Outside) (at n Outside)

-- where the hart is then
pub record Moved (seed h : ℕ) (p : Progress) (need : Need) (answer : ℕ) (k : HartState) : Type 0 where
  pub to : Progress
  pub is : HartIs seed h to k
  pub move : Moves seed h need answer p to

-- ---- numbers

draw_small : (seed h n : ℕ) → draw seed h n < 2 ^ 32
draw_small seed h zero = omega arith
draw_small seed h (suc n) = omega arith

pub counter_low : (seed h n : ℕ) → counter_of (draw seed h n) < 64
counter_low seed h n = let small = draw_small seed h n in omega arith

begins : (seed h : ℕ) → (seed + 2654435761 * h % 2 ^ 32) % 2 ^ 32 ≡ draw seed h 0
begins seed h = omega arith

goes_on : (seed h i : ℕ) → (draw seed h i * 1664525 % 2 ^ 32 + 1013904223) % 2 ^ 32 ≡ draw seed h (suc i)
goes_on seed h i = omega arith

counter_at : (k : ℕ) → k < 64 → (k * 2 ^ 4 % 2 ^ 32 + 32768) % 2 ^ 32 ≡ counter_word k
counter_at k low = omega arith

lock_at : (k : ℕ) → k < 64 → (k * 2 ^ 2 % 2 ^ 32 + 65536) % 2 ^ 32 ≡ lock_word k
lock_at k low = omega arith

addend : (x : ℕ) → bit_and (x / 2 ^ 16) 255 ≡ addend_of x
addend x = and_numeral (x / 2 ^ 16) 254 refl

less : (i : ℕ) → i < 468 → (468 - i + 4294967295) % 2 ^ 32 ≡ 468 - suc i
less i low = omega arith

last_or_more : (i : ℕ) → i < 468 → (suc i < 468) ⊎ (suc i ≡ 468)
last_or_more i low = grind arith

module _ (seed h : ℕ) (small : seed < 2 ^ 32) (t : Topology) (s : IsMachine t) where
  abbrev To : Progress → Need → ℕ → HartState → Type 0
  To p need answer k = Moved seed h p need answer k

  -- an instruction that only computes
  quiet : (p : Progress) (x : HartState) (need : Need) (answer : ℕ) (k y z : HartState) → Makes (image_of seed) t x needed.Alu (λ a. y) → Does (image_of seed) t x need answer k → y ≡ z → HartIs seed h p z → To p need answer k
  quiet p x need answer k y z m d same is = record { to = p; is = subst (HartIs seed h p) (sym (m.gives need answer k d ∙ same)) is; move = Quiet p (m.needs need answer k d) }

  pub moved : (p : Progress) (x : HartState) → HartIs seed h p x → (need : Need) (answer : ℕ) (k : HartState) → Does (image_of seed) t x need answer k → To p need answer k
  moved p x (At_seed_upper r) need answer k d = quiet (at 0 Outside) (hart 4096 (record r { a0 = h }) 0) need answer k (hart 4100 (record r { a0 = h; s1 = upper_part seed }) 1) (hart 4100 (record r { a0 = h; s1 = upper_part seed }) 1) (seed_upper_step seed t (record r { a0 = h }) 0) d refl (At_seed_lower r)
  moved p x (At_seed_lower r) need answer k d = quiet (at 0 Outside) (hart 4100 (record r { a0 = h; s1 = upper_part seed }) 1) need answer k (hart 4104 (record r { a0 = h; s1 = seed }) 2) (hart 4104 (record r { a0 = h; s1 = seed }) 2) (seed_lower_step seed t small (record r { a0 = h }) 1) d refl (At_factor_upper r)
  moved p x (At_factor_upper r) need answer k d = quiet (at 0 Outside) (hart 4104 (record r { a0 = h; s1 = seed }) 2) need answer k (hart 4108 (record r { a0 = h; s1 = seed; t0 = 2654437376 }) 3) (hart 4108 (record r { a0 = h; s1 = seed; t0 = 2654437376 }) 3) (factor_upper_step seed t (record r { a0 = h; s1 = seed }) 2) d refl (At_factor_lower r)
  moved p x (At_factor_lower r) need answer k d = quiet (at 0 Outside) (hart 4108 (record r { a0 = h; s1 = seed; t0 = 2654437376 }) 3) need answer k (hart 4112 (record r { a0 = h; s1 = seed; t0 = 2654435761 }) 4) (hart 4112 (record r { a0 = h; s1 = seed; t0 = 2654435761 }) 4) (factor_lower_step seed t (record r { a0 = h; s1 = seed; t0 = 2654437376 }) 3) d refl (At_spread r)
  moved p x (At_spread r) need answer k d = quiet (at 0 Outside) (hart 4112 (record r { a0 = h; s1 = seed; t0 = 2654435761 }) 4) need answer k (hart 4116 (record r { a0 = h; s1 = seed; t0 = 2654435761 * h % 2 ^ 32 }) 5) (hart 4116 (record r { a0 = h; s1 = seed; t0 = 2654435761 * h % 2 ^ 32 }) 5) (spread_step seed t (record r { a0 = h; s1 = seed; t0 = 2654435761 }) 4) d refl (At_begin r)
  moved p x (At_begin r) need answer k d = quiet (at 0 Outside) (hart 4116 (record r { a0 = h; s1 = seed; t0 = 2654435761 * h % 2 ^ 32 }) 5) need answer k (hart 4120 (record r { a0 = h; t0 = 2654435761 * h % 2 ^ 32; s1 = (seed + 2654435761 * h % 2 ^ 32) % 2 ^ 32 }) 6) (hart 4120 (record r { a0 = h; t0 = 2654435761 * h % 2 ^ 32; s1 = draw seed h 0 }) 6) (begin_step seed t (record r { a0 = h; s1 = seed; t0 = 2654435761 * h % 2 ^ 32 }) 5) d (λ j. hart 4120 (record r { a0 = h; t0 = 2654435761 * h % 2 ^ 32; s1 = begins seed h j }) 6) (At_multiplier_upper (record r { a0 = h; t0 = 2654435761 * h % 2 ^ 32 }))
  moved p x (At_multiplier_upper r) need answer k d = quiet (at 0 Outside) (hart 4120 (record r { s1 = draw seed h 0 }) 6) need answer k (hart 4124 (record r { s1 = draw seed h 0; s2 = 1662976 }) 7) (hart 4124 (record r { s1 = draw seed h 0; s2 = 1662976 }) 7) (multiplier_upper_step seed t (record r { s1 = draw seed h 0 }) 6) d refl (At_multiplier_lower r)
  moved p x (At_multiplier_lower r) need answer k d = quiet (at 0 Outside) (hart 4124 (record r { s1 = draw seed h 0; s2 = 1662976 }) 7) need answer k (hart 4128 (record r { s1 = draw seed h 0; s2 = 1664525 }) 8) (hart 4128 (record r { s1 = draw seed h 0; s2 = 1664525 }) 8) (multiplier_lower_step seed t (record r { s1 = draw seed h 0; s2 = 1662976 }) 7) d refl (At_increment_upper r)
  moved p x (At_increment_upper r) need answer k d = quiet (at 0 Outside) (hart 4128 (record r { s1 = draw seed h 0; s2 = 1664525 }) 8) need answer k (hart 4132 (record r { s1 = draw seed h 0; s2 = 1664525; s3 = 1013903360 }) 9) (hart 4132 (record r { s1 = draw seed h 0; s2 = 1664525; s3 = 1013903360 }) 9) (increment_upper_step seed t (record r { s1 = draw seed h 0; s2 = 1664525 }) 8) d refl (At_increment_lower r)
  moved p x (At_increment_lower r) need answer k d = quiet (at 0 Outside) (hart 4132 (record r { s1 = draw seed h 0; s2 = 1664525; s3 = 1013903360 }) 9) need answer k (hart 4136 (record r { s1 = draw seed h 0; s2 = 1664525; s3 = 1013904223 }) 10) (hart 4136 (record r { s1 = draw seed h 0; s2 = 1664525; s3 = 1013904223 }) 10) (increment_lower_step seed t (record r { s1 = draw seed h 0; s2 = 1664525; s3 = 1013903360 }) 9) d refl (At_counters_at_upper r)
  moved p x (At_counters_at_upper r) need answer k d = quiet (at 0 Outside) (hart 4136 (record r { s1 = draw seed h 0; s2 = 1664525; s3 = 1013904223 }) 10) need answer k (hart 4140 (record r { s1 = draw seed h 0; s2 = 1664525; s3 = 1013904223; s4 = 32768 }) 11) (hart 4140 (record r { s1 = draw seed h 0; s2 = 1664525; s3 = 1013904223; s4 = 32768 }) 11) (counters_at_upper_step seed t (record r { s1 = draw seed h 0; s2 = 1664525; s3 = 1013904223 }) 10) d refl (At_counters_at_lower r)
  moved p x (At_counters_at_lower r) need answer k d = quiet (at 0 Outside) (hart 4140 (record r { s1 = draw seed h 0; s2 = 1664525; s3 = 1013904223; s4 = 32768 }) 11) need answer k (hart 4144 (record r { s1 = draw seed h 0; s2 = 1664525; s3 = 1013904223; s4 = 32768 }) 12) (hart 4144 (record r { s1 = draw seed h 0; s2 = 1664525; s3 = 1013904223; s4 = 32768 }) 12) (counters_at_lower_step seed t (record r { s1 = draw seed h 0; s2 = 1664525; s3 = 1013904223; s4 = 32768 }) 11) d refl (At_locks_at_upper r)
  moved p x (At_locks_at_upper r) need answer k d = quiet (at 0 Outside) (hart 4144 (record r { s1 = draw seed h 0; s2 = 1664525; s3 = 1013904223; s4 = 32768 }) 12) need answer k (hart 4148 (record r { s1 = draw seed h 0; s2 = 1664525; s3 = 1013904223; s4 = 32768; s5 = 65536 }) 13) (hart 4148 (record r { s1 = draw seed h 0; s2 = 1664525; s3 = 1013904223; s4 = 32768; s5 = 65536 }) 13) (locks_at_upper_step seed t (record r { s1 = draw seed h 0; s2 = 1664525; s3 = 1013904223; s4 = 32768 }) 12) d refl (At_locks_at_lower r)
  moved p x (At_locks_at_lower r) need answer k d = quiet (at 0 Outside) (hart 4148 (record r { s1 = draw seed h 0; s2 = 1664525; s3 = 1013904223; s4 = 32768; s5 = 65536 }) 13) need answer k (hart 4152 (record r { s1 = draw seed h 0; s2 = 1664525; s3 = 1013904223; s4 = 32768; s5 = 65536 }) 14) (hart 4152 (record r { s1 = draw seed h 0; s2 = 1664525; s3 = 1013904223; s4 = 32768; s5 = 65536 }) 14) (locks_at_lower_step seed t (record r { s1 = draw seed h 0; s2 = 1664525; s3 = 1013904223; s4 = 32768; s5 = 65536 }) 13) d refl (At_count r)
  moved p x (At_count r) need answer k d = quiet (at 0 Outside) (hart 4152 (record r { s1 = draw seed h 0; s2 = 1664525; s3 = 1013904223; s4 = 32768; s5 = 65536 }) 14) need answer k (hart 4156 (record r { s1 = draw seed h 0; s2 = 1664525; s3 = 1013904223; s4 = 32768; s5 = 65536; s6 = 468 }) 15) (hart 4156 (record r { s1 = draw seed h 0; s2 = 1664525; s3 = 1013904223; s4 = 32768; s5 = 65536; s6 = 468 }) 15) (count_step seed t (record r { s1 = draw seed h 0; s2 = 1664525; s3 = 1013904223; s4 = 32768; s5 = 65536 }) 14) d refl (At_one r)
  moved p x (At_one r) need answer k d = quiet (at 0 Outside) (hart 4156 (record r { s1 = draw seed h 0; s2 = 1664525; s3 = 1013904223; s4 = 32768; s5 = 65536; s6 = 468 }) 15) need answer k (hart 4160 (record r { s2 = 1664525; s3 = 1013904223; s4 = 32768; s5 = 65536; s7 = 1; s1 = draw seed h 0; s6 = 468 - 0 }) 16) (hart 4160 (record r { s2 = 1664525; s3 = 1013904223; s4 = 32768; s5 = 65536; s7 = 1; s1 = draw seed h 0; s6 = 468 - 0 }) 16) (one_step seed t (record r { s1 = draw seed h 0; s2 = 1664525; s3 = 1013904223; s4 = 32768; s5 = 65536; s6 = 468 }) 15) d refl (At_multiply 0 16 r (omega arith) (omega arith))
  moved p x (At_multiply i n r low at_n) need answer k d = quiet (at i Outside) (hart 4160 (record r { s2 = 1664525; s3 = 1013904223; s4 = 32768; s5 = 65536; s7 = 1; s1 = draw seed h i; s6 = 468 - i }) n) need answer k (hart 4164 (record r { s2 = 1664525; s3 = 1013904223; s4 = 32768; s5 = 65536; s7 = 1; s1 = draw seed h i * 1664525 % 2 ^ 32; s6 = 468 - i }) (n + 1)) (hart 4164 (record r { s2 = 1664525; s3 = 1013904223; s4 = 32768; s5 = 65536; s7 = 1; s1 = draw seed h i * 1664525 % 2 ^ 32; s6 = 468 - i }) (n + 1)) (multiply_step seed t (record r { s2 = 1664525; s3 = 1013904223; s4 = 32768; s5 = 65536; s7 = 1; s1 = draw seed h i; s6 = 468 - i }) n) d refl (At_increase i (n + 1) r low (omega arith))
  moved p x (At_increase i n r low at_n) need answer k d = quiet (at i Outside) (hart 4164 (record r { s2 = 1664525; s3 = 1013904223; s4 = 32768; s5 = 65536; s7 = 1; s1 = draw seed h i * 1664525 % 2 ^ 32; s6 = 468 - i }) n) need answer k (hart 4168 (record r { s2 = 1664525; s3 = 1013904223; s4 = 32768; s5 = 65536; s7 = 1; s6 = 468 - i; s1 = (draw seed h i * 1664525 % 2 ^ 32 + 1013904223) % 2 ^ 32 }) (n + 1)) (hart 4168 (record r { s2 = 1664525; s3 = 1013904223; s4 = 32768; s5 = 65536; s7 = 1; s6 = 468 - i; s1 = draw seed h (suc i) }) (n + 1)) (increase_step seed t (record r { s2 = 1664525; s3 = 1013904223; s4 = 32768; s5 = 65536; s7 = 1; s1 = draw seed h i * 1664525 % 2 ^ 32; s6 = 468 - i }) n) d (λ j. hart 4168 (record r { s2 = 1664525; s3 = 1013904223; s4 = 32768; s5 = 65536; s7 = 1; s6 = 468 - i; s1 = goes_on seed h i j }) (n + 1)) (At_choose i (n + 1) r low (omega arith))
  moved p x (At_choose i n r low at_n) need answer k d = quiet (at i Outside) (hart 4168 (record r { s2 = 1664525; s3 = 1013904223; s4 = 32768; s5 = 65536; s7 = 1; s1 = draw seed h (suc i); s6 = 468 - i }) n) need answer k (hart 4172 (record r { s2 = 1664525; s3 = 1013904223; s4 = 32768; s5 = 65536; s7 = 1; s1 = draw seed h (suc i); s6 = 468 - i; t1 = counter_of (draw seed h (suc i)) }) (n + 1)) (hart 4172 (record r { s2 = 1664525; s3 = 1013904223; s4 = 32768; s5 = 65536; s7 = 1; s1 = draw seed h (suc i); s6 = 468 - i; t1 = counter_of (draw seed h (suc i)) }) (n + 1)) (choose_step seed t (record r { s2 = 1664525; s3 = 1013904223; s4 = 32768; s5 = 65536; s7 = 1; s1 = draw seed h (suc i); s6 = 468 - i }) n) d refl (At_counter_offset i (n + 1) r low (omega arith))
  moved p x (At_counter_offset i n r low at_n) need answer k d = quiet (at i Outside) (hart 4172 (record r { s2 = 1664525; s3 = 1013904223; s4 = 32768; s5 = 65536; s7 = 1; s1 = draw seed h (suc i); s6 = 468 - i; t1 = counter_of (draw seed h (suc i)) }) n) need answer k (hart 4176 (record r { s2 = 1664525; s3 = 1013904223; s4 = 32768; s5 = 65536; s7 = 1; s1 = draw seed h (suc i); s6 = 468 - i; t1 = counter_of (draw seed h (suc i)); t2 = counter_of (draw seed h (suc i)) * 2 ^ 4 % 2 ^ 32 }) (n + 1)) (hart 4176 (record r { s2 = 1664525; s3 = 1013904223; s4 = 32768; s5 = 65536; s7 = 1; s1 = draw seed h (suc i); s6 = 468 - i; t1 = counter_of (draw seed h (suc i)); t2 = counter_of (draw seed h (suc i)) * 2 ^ 4 % 2 ^ 32 }) (n + 1)) (counter_offset_step seed t (record r { s2 = 1664525; s3 = 1013904223; s4 = 32768; s5 = 65536; s7 = 1; s1 = draw seed h (suc i); s6 = 468 - i; t1 = counter_of (draw seed h (suc i)) }) n) d refl (At_counter_address i (n + 1) r low (omega arith))
  moved p x (At_counter_address i n r low at_n) need answer k d = quiet (at i Outside) (hart 4176 (record r { s2 = 1664525; s3 = 1013904223; s4 = 32768; s5 = 65536; s7 = 1; s1 = draw seed h (suc i); s6 = 468 - i; t1 = counter_of (draw seed h (suc i)); t2 = counter_of (draw seed h (suc i)) * 2 ^ 4 % 2 ^ 32 }) n) need answer k (hart 4180 (record r { s2 = 1664525; s3 = 1013904223; s4 = 32768; s5 = 65536; s7 = 1; s1 = draw seed h (suc i); s6 = 468 - i; t1 = counter_of (draw seed h (suc i)); t2 = (counter_of (draw seed h (suc i)) * 2 ^ 4 % 2 ^ 32 + 32768) % 2 ^ 32 }) (n + 1)) (hart 4180 (record r { s2 = 1664525; s3 = 1013904223; s4 = 32768; s5 = 65536; s7 = 1; s1 = draw seed h (suc i); s6 = 468 - i; t1 = counter_of (draw seed h (suc i)); t2 = counter_word (counter_of (draw seed h (suc i))) }) (n + 1)) (counter_address_step seed t (record r { s2 = 1664525; s3 = 1013904223; s4 = 32768; s5 = 65536; s7 = 1; s1 = draw seed h (suc i); s6 = 468 - i; t1 = counter_of (draw seed h (suc i)); t2 = counter_of (draw seed h (suc i)) * 2 ^ 4 % 2 ^ 32 }) n) d (λ j. hart 4180 (record r { s2 = 1664525; s3 = 1013904223; s4 = 32768; s5 = 65536; s7 = 1; s1 = draw seed h (suc i); s6 = 468 - i; t1 = counter_of (draw seed h (suc i)); t2 = counter_at (counter_of (draw seed h (suc i))) (counter_low seed h (suc i)) j }) (n + 1)) (At_lock_offset i (n + 1) r low (omega arith))
  moved p x (At_lock_offset i n r low at_n) need answer k d = quiet (at i Outside) (hart 4180 (record r { s2 = 1664525; s3 = 1013904223; s4 = 32768; s5 = 65536; s7 = 1; s1 = draw seed h (suc i); s6 = 468 - i; t1 = counter_of (draw seed h (suc i)); t2 = counter_word (counter_of (draw seed h (suc i))) }) n) need answer k (hart 4184 (record r { s2 = 1664525; s3 = 1013904223; s4 = 32768; s5 = 65536; s7 = 1; s1 = draw seed h (suc i); s6 = 468 - i; t1 = counter_of (draw seed h (suc i)); t2 = counter_word (counter_of (draw seed h (suc i))); t3 = counter_of (draw seed h (suc i)) * 2 ^ 2 % 2 ^ 32 }) (n + 1)) (hart 4184 (record r { s2 = 1664525; s3 = 1013904223; s4 = 32768; s5 = 65536; s7 = 1; s1 = draw seed h (suc i); s6 = 468 - i; t1 = counter_of (draw seed h (suc i)); t2 = counter_word (counter_of (draw seed h (suc i))); t3 = counter_of (draw seed h (suc i)) * 2 ^ 2 % 2 ^ 32 }) (n + 1)) (lock_offset_step seed t (record r { s2 = 1664525; s3 = 1013904223; s4 = 32768; s5 = 65536; s7 = 1; s1 = draw seed h (suc i); s6 = 468 - i; t1 = counter_of (draw seed h (suc i)); t2 = counter_word (counter_of (draw seed h (suc i))) }) n) d refl (At_lock_address i (n + 1) (record r { t1 = counter_of (draw seed h (suc i)) }) low (omega arith))
  moved p x (At_lock_address i n r low at_n) need answer k d = quiet (at i Outside) (hart 4184 (record r { s2 = 1664525; s3 = 1013904223; s4 = 32768; s5 = 65536; s7 = 1; s1 = draw seed h (suc i); s6 = 468 - i; t2 = counter_word (counter_of (draw seed h (suc i))); t3 = counter_of (draw seed h (suc i)) * 2 ^ 2 % 2 ^ 32 }) n) need answer k (hart 4188 (record r { s2 = 1664525; s3 = 1013904223; s4 = 32768; s5 = 65536; s7 = 1; s1 = draw seed h (suc i); s6 = 468 - i; t2 = counter_word (counter_of (draw seed h (suc i))); t3 = (counter_of (draw seed h (suc i)) * 2 ^ 2 % 2 ^ 32 + 65536) % 2 ^ 32 }) (n + 1)) (hart 4188 (record r { s2 = 1664525; s3 = 1013904223; s4 = 32768; s5 = 65536; s7 = 1; s1 = draw seed h (suc i); s6 = 468 - i; t2 = counter_word (counter_of (draw seed h (suc i))); t3 = lock_word (counter_of (draw seed h (suc i))) }) (n + 1)) (lock_address_step seed t (record r { s2 = 1664525; s3 = 1013904223; s4 = 32768; s5 = 65536; s7 = 1; s1 = draw seed h (suc i); s6 = 468 - i; t2 = counter_word (counter_of (draw seed h (suc i))); t3 = counter_of (draw seed h (suc i)) * 2 ^ 2 % 2 ^ 32 }) n) d (λ j. hart 4188 (record r { s2 = 1664525; s3 = 1013904223; s4 = 32768; s5 = 65536; s7 = 1; s1 = draw seed h (suc i); s6 = 468 - i; t2 = counter_word (counter_of (draw seed h (suc i))); t3 = lock_at (counter_of (draw seed h (suc i))) (counter_low seed h (suc i)) j }) (n + 1)) (At_shift i (n + 1) r low (omega arith))
  moved p x (At_shift i n r low at_n) need answer k d = quiet (at i Outside) (hart 4188 (record r { s2 = 1664525; s3 = 1013904223; s4 = 32768; s5 = 65536; s7 = 1; s1 = draw seed h (suc i); s6 = 468 - i; t2 = counter_word (counter_of (draw seed h (suc i))); t3 = lock_word (counter_of (draw seed h (suc i))) }) n) need answer k (hart 4192 (record r { s2 = 1664525; s3 = 1013904223; s4 = 32768; s5 = 65536; s7 = 1; s1 = draw seed h (suc i); s6 = 468 - i; t2 = counter_word (counter_of (draw seed h (suc i))); t3 = lock_word (counter_of (draw seed h (suc i))); t4 = draw seed h (suc i) / 2 ^ 16 }) (n + 1)) (hart 4192 (record r { s2 = 1664525; s3 = 1013904223; s4 = 32768; s5 = 65536; s7 = 1; s1 = draw seed h (suc i); s6 = 468 - i; t2 = counter_word (counter_of (draw seed h (suc i))); t3 = lock_word (counter_of (draw seed h (suc i))); t4 = draw seed h (suc i) / 2 ^ 16 }) (n + 1)) (shift_step seed t (record r { s2 = 1664525; s3 = 1013904223; s4 = 32768; s5 = 65536; s7 = 1; s1 = draw seed h (suc i); s6 = 468 - i; t2 = counter_word (counter_of (draw seed h (suc i))); t3 = lock_word (counter_of (draw seed h (suc i))) }) n) d refl (At_cut i (n + 1) r low (omega arith))
  moved p x (At_cut i n r low at_n) need answer k d = quiet (at i Outside) (hart 4192 (record r { s2 = 1664525; s3 = 1013904223; s4 = 32768; s5 = 65536; s7 = 1; s1 = draw seed h (suc i); s6 = 468 - i; t2 = counter_word (counter_of (draw seed h (suc i))); t3 = lock_word (counter_of (draw seed h (suc i))); t4 = draw seed h (suc i) / 2 ^ 16 }) n) need answer k (hart 4196 (record r { s2 = 1664525; s3 = 1013904223; s4 = 32768; s5 = 65536; s7 = 1; s1 = draw seed h (suc i); s6 = 468 - i; t2 = counter_word (counter_of (draw seed h (suc i))); t3 = lock_word (counter_of (draw seed h (suc i))); t4 = bit_and (draw seed h (suc i) / 2 ^ 16) 255 }) (n + 1)) (hart 4196 (record r { s2 = 1664525; s3 = 1013904223; s4 = 32768; s5 = 65536; s7 = 1; s1 = draw seed h (suc i); s6 = 468 - i; t2 = counter_word (counter_of (draw seed h (suc i))); t3 = lock_word (counter_of (draw seed h (suc i))); t4 = addend_of (draw seed h (suc i)) }) (n + 1)) (cut_step seed t (record r { s2 = 1664525; s3 = 1013904223; s4 = 32768; s5 = 65536; s7 = 1; s1 = draw seed h (suc i); s6 = 468 - i; t2 = counter_word (counter_of (draw seed h (suc i))); t3 = lock_word (counter_of (draw seed h (suc i))); t4 = draw seed h (suc i) / 2 ^ 16 }) n) d (λ j. hart 4196 (record r { s2 = 1664525; s3 = 1013904223; s4 = 32768; s5 = 65536; s7 = 1; s1 = draw seed h (suc i); s6 = 468 - i; t2 = counter_word (counter_of (draw seed h (suc i))); t3 = lock_word (counter_of (draw seed h (suc i))); t4 = addend (draw seed h (suc i)) j }) (n + 1)) (At_ask i (n + 1) r low (omega arith))
  moved p x (At_ask i n r low at_n) need answer k d =
      let m = ask_step seed t s (counter_of (draw seed h (suc i))) (counter_low seed h (suc i)) (record r { s2 = 1664525; s3 = 1013904223; s4 = 32768; s5 = 65536; s7 = 1; s1 = draw seed h (suc i); s6 = 468 - i; t2 = counter_word (counter_of (draw seed h (suc i))); t3 = lock_word (counter_of (draw seed h (suc i))); t4 = addend_of (draw seed h (suc i)) }) n in
      record { to = at i (Holding (counter_of (draw seed h (suc i)))); is = subst (HartIs seed h (at i (Holding (counter_of (draw seed h (suc i)))))) (sym (m.gives need answer k d)) (At_load i (n + 1) (record r { t5 = answer }) low (omega arith)); move = Asks i (m.needs need answer k d) }
  moved p x (At_load i n r low at_n) need answer k d =
      let m = load_step seed t s (counter_of (draw seed h (suc i))) (counter_low seed h (suc i)) (record r { s2 = 1664525; s3 = 1013904223; s4 = 32768; s5 = 65536; s7 = 1; s1 = draw seed h (suc i); s6 = 468 - i; t2 = counter_word (counter_of (draw seed h (suc i))); t3 = lock_word (counter_of (draw seed h (suc i))); t4 = addend_of (draw seed h (suc i)) }) n in
      record { to = at i (Loaded (counter_of (draw seed h (suc i))) answer); is = subst (HartIs seed h (at i (Loaded (counter_of (draw seed h (suc i))) answer))) (sym (m.gives need answer k d)) (At_sum i (n + 1) r answer low (omega arith)); move = Loads i (counter_of (draw seed h (suc i))) (m.needs need answer k d) }
  moved p x (At_sum i n r v low at_n) need answer k d =
      let m = sum_step seed t (record r { s2 = 1664525; s3 = 1013904223; s4 = 32768; s5 = 65536; s7 = 1; s1 = draw seed h (suc i); s6 = 468 - i; t2 = counter_word (counter_of (draw seed h (suc i))); t3 = lock_word (counter_of (draw seed h (suc i))); t4 = addend_of (draw seed h (suc i)); t6 = v }) n in
      record { to = at i (Summed (counter_of (draw seed h (suc i))) ((v + addend_of (draw seed h (suc i))) % 2 ^ 32)); is = subst (HartIs seed h (at i (Summed (counter_of (draw seed h (suc i))) ((v + addend_of (draw seed h (suc i))) % 2 ^ 32)))) (sym (m.gives need answer k d)) (At_store i (n + 1) (record r { t4 = addend_of (draw seed h (suc i)) }) v low (omega arith)); move = Sums i (counter_of (draw seed h (suc i))) v (m.needs need answer k d) }
  moved p x (At_store i n r v low at_n) need answer k d =
      let m = store_step seed t s (counter_of (draw seed h (suc i))) (counter_low seed h (suc i)) (record r { s2 = 1664525; s3 = 1013904223; s4 = 32768; s5 = 65536; s7 = 1; s1 = draw seed h (suc i); s6 = 468 - i; t2 = counter_word (counter_of (draw seed h (suc i))); t3 = lock_word (counter_of (draw seed h (suc i))); t6 = (v + addend_of (draw seed h (suc i))) % 2 ^ 32 }) n in
      record { to = at (suc i) (Stored (counter_of (draw seed h (suc i)))); is = subst (HartIs seed h (at (suc i) (Stored (counter_of (draw seed h (suc i)))))) (sym (m.gives need answer k d)) (At_unlock i (n + 1) (record r { t2 = counter_word (counter_of (draw seed h (suc i))); t6 = (v + addend_of (draw seed h (suc i))) % 2 ^ 32 }) low (omega arith)); move = Stores i (counter_of (draw seed h (suc i))) ((v + addend_of (draw seed h (suc i))) % 2 ^ 32) low refl (m.needs need answer k d) }
  moved p x (At_unlock i n r low at_n) need answer k d =
      let m = unlock_step seed t s (counter_of (draw seed h (suc i))) (counter_low seed h (suc i)) (record r { s2 = 1664525; s3 = 1013904223; s4 = 32768; s5 = 65536; s7 = 1; s1 = draw seed h (suc i); s6 = 468 - i; t3 = lock_word (counter_of (draw seed h (suc i))) }) n in
      record { to = at (suc i) Outside; is = subst (HartIs seed h (at (suc i) Outside)) (sym (m.gives need answer k d)) (At_count_down i (n + 1) (record r { t3 = lock_word (counter_of (draw seed h (suc i))) }) low (omega arith)); move = Unlocks (suc i) (counter_of (draw seed h (suc i))) (m.needs need answer k d) }
  moved p x (At_count_down i n r low at_n) need answer k d = quiet (at (suc i) Outside) (hart 4216 (record r { s2 = 1664525; s3 = 1013904223; s4 = 32768; s5 = 65536; s7 = 1; s1 = draw seed h (suc i); s6 = 468 - i }) n) need answer k (hart 4220 (record r { s2 = 1664525; s3 = 1013904223; s4 = 32768; s5 = 65536; s7 = 1; s1 = draw seed h (suc i); s6 = (468 - i + 4294967295) % 2 ^ 32 }) (n + 1)) (hart 4220 (record r { s2 = 1664525; s3 = 1013904223; s4 = 32768; s5 = 65536; s7 = 1; s1 = draw seed h (suc i); s6 = 468 - suc i }) (n + 1)) (count_down_step seed t (record r { s2 = 1664525; s3 = 1013904223; s4 = 32768; s5 = 65536; s7 = 1; s1 = draw seed h (suc i); s6 = 468 - i }) n) d (λ j. hart 4220 (record r { s2 = 1664525; s3 = 1013904223; s4 = 32768; s5 = 65536; s7 = 1; s1 = draw seed h (suc i); s6 = less i low j }) (n + 1)) (At_again i (n + 1) r low (omega arith))
  moved p x (At_again i n r low at_n) need answer k d = by_count (last_or_more i low)
    where
      by_count : (suc i < 468) ⊎ (suc i ≡ 468) → To (at (suc i) Outside) need answer k
      by_count (inl more) = quiet (at (suc i) Outside) (hart 4220 (record r { s2 = 1664525; s3 = 1013904223; s4 = 32768; s5 = 65536; s7 = 1; s1 = draw seed h (suc i); s6 = 468 - suc i }) n) need answer k (hart 4160 (record r { s2 = 1664525; s3 = 1013904223; s4 = 32768; s5 = 65536; s7 = 1; s1 = draw seed h (suc i); s6 = 468 - suc i }) (n + 1)) (hart 4160 (record r { s2 = 1664525; s3 = 1013904223; s4 = 32768; s5 = 65536; s7 = 1; s1 = draw seed h (suc i); s6 = 468 - suc i }) (n + 1)) (again_step seed t (record r { s2 = 1664525; s3 = 1013904223; s4 = 32768; s5 = 65536; s7 = 1; s1 = draw seed h (suc i); s6 = 468 - suc i }) n (omega arith)) d refl (At_multiply (suc i) (n + 1) r more (omega arith))
      by_count (inr last) =
          let e : n + 1 ≡ 7504 = omega arith in
          quiet (at (suc i) Outside) (hart 4220 (record r { s2 = 1664525; s3 = 1013904223; s4 = 32768; s5 = 65536; s7 = 1; s1 = draw seed h (suc i); s6 = 468 - suc i }) n) need answer k (hart 4224 (record r { s2 = 1664525; s3 = 1013904223; s4 = 32768; s5 = 65536; s7 = 1; s1 = draw seed h (suc i); s6 = 468 - suc i }) (n + 1)) (hart 4224 (record r { s2 = 1664525; s3 = 1013904223; s4 = 32768; s5 = 65536; s7 = 1; s1 = draw seed h (suc i); s6 = 468 - suc i }) 7504) (over_step seed t (record r { s2 = 1664525; s3 = 1013904223; s4 = 32768; s5 = 65536; s7 = 1; s1 = draw seed h (suc i); s6 = 468 - suc i }) n (omega arith)) d (λ j. hart 4224 (record r { s2 = 1664525; s3 = 1013904223; s4 = 32768; s5 = 65536; s7 = 1; s1 = draw seed h (suc i); s6 = 468 - suc i }) (e j)) (subst (λ z. HartIs seed h (at z Outside) (hart 4224 (record r { s2 = 1664525; s3 = 1013904223; s4 = 32768; s5 = 65536; s7 = 1; s1 = draw seed h (suc i); s6 = 468 - suc i }) 7504)) (sym last) (At_code (record r { s2 = 1664525; s3 = 1013904223; s4 = 32768; s5 = 65536; s7 = 1; s1 = draw seed h (suc i); s6 = 468 - suc i })))
  moved p x (At_code r) need answer k d = quiet (at 468 Outside) (hart 4224 r 7504) need answer k (hart 4228 (record r { a0 = 0 }) 7505) (hart 4228 (record r { a0 = 0 }) 7505) (code_step seed t r 7504) d refl (At_call_number r)
  moved p x (At_call_number r) need answer k d = quiet (at 468 Outside) (hart 4228 (record r { a0 = 0 }) 7505) need answer k (hart 4232 (record r { a0 = 0; a7 = 93 }) 7506) (hart 4232 (record r { a0 = 0; a7 = 93 }) 7506) (call_number_step seed t (record r { a0 = 0 }) 7505) d refl (At_call r)
  moved p x (At_call r) need answer k d =
      let m = call_step seed t r 7506 in
      record { to = at 468 Outside; is = subst (HartIs seed h (at 468 Outside)) (sym (m.gives need answer k d)) (At_end r); move = Exits 468 (m.needs need answer k d) }
  moved p x (At_end r) need answer k d = absurd (let goes : false ≡ true = d.goes in cc)

  -- a hart that runs has not spent its budget; one that does not has exited
  pub record HasExited (p : Progress) (x : HartState) : Type 0 where
    pub progress : p ≡ at 468 Outside
    pub end : x.end ≡ Exited 0
    pub retired : x.retired ≡ 7507

  runs : (pc : ℕ) (r : Registers) (n : ℕ) → n < 7507 → can_go_on t (hart pc r n) ≡ true
  runs pc r n few = let b = s.budget_is in grind (arith, nat_tests)

  pub goes_or_exited : (p : Progress) (x : HartState) → HartIs seed h p x → (can_go_on t x ≡ true) ⊎ HasExited p x
  goes_or_exited p x (At_seed_upper r) = inl (runs 4096 (record r { a0 = h }) 0 (omega arith))
  goes_or_exited p x (At_seed_lower r) = inl (runs 4100 (record r { a0 = h; s1 = upper_part seed }) 1 (omega arith))
  goes_or_exited p x (At_factor_upper r) = inl (runs 4104 (record r { a0 = h; s1 = seed }) 2 (omega arith))
  goes_or_exited p x (At_factor_lower r) = inl (runs 4108 (record r { a0 = h; s1 = seed; t0 = 2654437376 }) 3 (omega arith))
  goes_or_exited p x (At_spread r) = inl (runs 4112 (record r { a0 = h; s1 = seed; t0 = 2654435761 }) 4 (omega arith))
  goes_or_exited p x (At_begin r) = inl (runs 4116 (record r { a0 = h; s1 = seed; t0 = 2654435761 * h % 2 ^ 32 }) 5 (omega arith))
  goes_or_exited p x (At_multiplier_upper r) = inl (runs 4120 (record r { s1 = draw seed h 0 }) 6 (omega arith))
  goes_or_exited p x (At_multiplier_lower r) = inl (runs 4124 (record r { s1 = draw seed h 0; s2 = 1662976 }) 7 (omega arith))
  goes_or_exited p x (At_increment_upper r) = inl (runs 4128 (record r { s1 = draw seed h 0; s2 = 1664525 }) 8 (omega arith))
  goes_or_exited p x (At_increment_lower r) = inl (runs 4132 (record r { s1 = draw seed h 0; s2 = 1664525; s3 = 1013903360 }) 9 (omega arith))
  goes_or_exited p x (At_counters_at_upper r) = inl (runs 4136 (record r { s1 = draw seed h 0; s2 = 1664525; s3 = 1013904223 }) 10 (omega arith))
  goes_or_exited p x (At_counters_at_lower r) = inl (runs 4140 (record r { s1 = draw seed h 0; s2 = 1664525; s3 = 1013904223; s4 = 32768 }) 11 (omega arith))
  goes_or_exited p x (At_locks_at_upper r) = inl (runs 4144 (record r { s1 = draw seed h 0; s2 = 1664525; s3 = 1013904223; s4 = 32768 }) 12 (omega arith))
  goes_or_exited p x (At_locks_at_lower r) = inl (runs 4148 (record r { s1 = draw seed h 0; s2 = 1664525; s3 = 1013904223; s4 = 32768; s5 = 65536 }) 13 (omega arith))
  goes_or_exited p x (At_count r) = inl (runs 4152 (record r { s1 = draw seed h 0; s2 = 1664525; s3 = 1013904223; s4 = 32768; s5 = 65536 }) 14 (omega arith))
  goes_or_exited p x (At_one r) = inl (runs 4156 (record r { s1 = draw seed h 0; s2 = 1664525; s3 = 1013904223; s4 = 32768; s5 = 65536; s6 = 468 }) 15 (omega arith))
  goes_or_exited p x (At_multiply i n r low at_n) = inl (runs 4160 (record r { s2 = 1664525; s3 = 1013904223; s4 = 32768; s5 = 65536; s7 = 1; s1 = draw seed h i; s6 = 468 - i }) n (omega arith))
  goes_or_exited p x (At_increase i n r low at_n) = inl (runs 4164 (record r { s2 = 1664525; s3 = 1013904223; s4 = 32768; s5 = 65536; s7 = 1; s1 = draw seed h i * 1664525 % 2 ^ 32; s6 = 468 - i }) n (omega arith))
  goes_or_exited p x (At_choose i n r low at_n) = inl (runs 4168 (record r { s2 = 1664525; s3 = 1013904223; s4 = 32768; s5 = 65536; s7 = 1; s1 = draw seed h (suc i); s6 = 468 - i }) n (omega arith))
  goes_or_exited p x (At_counter_offset i n r low at_n) = inl (runs 4172 (record r { s2 = 1664525; s3 = 1013904223; s4 = 32768; s5 = 65536; s7 = 1; s1 = draw seed h (suc i); s6 = 468 - i; t1 = counter_of (draw seed h (suc i)) }) n (omega arith))
  goes_or_exited p x (At_counter_address i n r low at_n) = inl (runs 4176 (record r { s2 = 1664525; s3 = 1013904223; s4 = 32768; s5 = 65536; s7 = 1; s1 = draw seed h (suc i); s6 = 468 - i; t1 = counter_of (draw seed h (suc i)); t2 = counter_of (draw seed h (suc i)) * 2 ^ 4 % 2 ^ 32 }) n (omega arith))
  goes_or_exited p x (At_lock_offset i n r low at_n) = inl (runs 4180 (record r { s2 = 1664525; s3 = 1013904223; s4 = 32768; s5 = 65536; s7 = 1; s1 = draw seed h (suc i); s6 = 468 - i; t1 = counter_of (draw seed h (suc i)); t2 = counter_word (counter_of (draw seed h (suc i))) }) n (omega arith))
  goes_or_exited p x (At_lock_address i n r low at_n) = inl (runs 4184 (record r { s2 = 1664525; s3 = 1013904223; s4 = 32768; s5 = 65536; s7 = 1; s1 = draw seed h (suc i); s6 = 468 - i; t2 = counter_word (counter_of (draw seed h (suc i))); t3 = counter_of (draw seed h (suc i)) * 2 ^ 2 % 2 ^ 32 }) n (omega arith))
  goes_or_exited p x (At_shift i n r low at_n) = inl (runs 4188 (record r { s2 = 1664525; s3 = 1013904223; s4 = 32768; s5 = 65536; s7 = 1; s1 = draw seed h (suc i); s6 = 468 - i; t2 = counter_word (counter_of (draw seed h (suc i))); t3 = lock_word (counter_of (draw seed h (suc i))) }) n (omega arith))
  goes_or_exited p x (At_cut i n r low at_n) = inl (runs 4192 (record r { s2 = 1664525; s3 = 1013904223; s4 = 32768; s5 = 65536; s7 = 1; s1 = draw seed h (suc i); s6 = 468 - i; t2 = counter_word (counter_of (draw seed h (suc i))); t3 = lock_word (counter_of (draw seed h (suc i))); t4 = draw seed h (suc i) / 2 ^ 16 }) n (omega arith))
  goes_or_exited p x (At_ask i n r low at_n) = inl (runs 4196 (record r { s2 = 1664525; s3 = 1013904223; s4 = 32768; s5 = 65536; s7 = 1; s1 = draw seed h (suc i); s6 = 468 - i; t2 = counter_word (counter_of (draw seed h (suc i))); t3 = lock_word (counter_of (draw seed h (suc i))); t4 = addend_of (draw seed h (suc i)) }) n (omega arith))
  goes_or_exited p x (At_load i n r low at_n) = inl (runs 4200 (record r { s2 = 1664525; s3 = 1013904223; s4 = 32768; s5 = 65536; s7 = 1; s1 = draw seed h (suc i); s6 = 468 - i; t2 = counter_word (counter_of (draw seed h (suc i))); t3 = lock_word (counter_of (draw seed h (suc i))); t4 = addend_of (draw seed h (suc i)) }) n (omega arith))
  goes_or_exited p x (At_sum i n r v low at_n) = inl (runs 4204 (record r { s2 = 1664525; s3 = 1013904223; s4 = 32768; s5 = 65536; s7 = 1; s1 = draw seed h (suc i); s6 = 468 - i; t2 = counter_word (counter_of (draw seed h (suc i))); t3 = lock_word (counter_of (draw seed h (suc i))); t4 = addend_of (draw seed h (suc i)); t6 = v }) n (omega arith))
  goes_or_exited p x (At_store i n r v low at_n) = inl (runs 4208 (record r { s2 = 1664525; s3 = 1013904223; s4 = 32768; s5 = 65536; s7 = 1; s1 = draw seed h (suc i); s6 = 468 - i; t2 = counter_word (counter_of (draw seed h (suc i))); t3 = lock_word (counter_of (draw seed h (suc i))); t6 = (v + addend_of (draw seed h (suc i))) % 2 ^ 32 }) n (omega arith))
  goes_or_exited p x (At_unlock i n r low at_n) = inl (runs 4212 (record r { s2 = 1664525; s3 = 1013904223; s4 = 32768; s5 = 65536; s7 = 1; s1 = draw seed h (suc i); s6 = 468 - i; t3 = lock_word (counter_of (draw seed h (suc i))) }) n (omega arith))
  goes_or_exited p x (At_count_down i n r low at_n) = inl (runs 4216 (record r { s2 = 1664525; s3 = 1013904223; s4 = 32768; s5 = 65536; s7 = 1; s1 = draw seed h (suc i); s6 = 468 - i }) n (omega arith))
  goes_or_exited p x (At_again i n r low at_n) = inl (runs 4220 (record r { s2 = 1664525; s3 = 1013904223; s4 = 32768; s5 = 65536; s7 = 1; s1 = draw seed h (suc i); s6 = 468 - suc i }) n (omega arith))
  goes_or_exited p x (At_code r) = inl (runs 4224 r 7504 (omega arith))
  goes_or_exited p x (At_call_number r) = inl (runs 4228 (record r { a0 = 0 }) 7505 (omega arith))
  goes_or_exited p x (At_call r) = inl (runs 4232 (record r { a0 = 0; a7 = 93 }) 7506 (omega arith))
  goes_or_exited p x (At_end r) = inr (record { progress = refl; end = refl; retired = refl })
