-- The stages of a hart of the workload: one for each of its instructions, with what its registers hold, and the end.
use Rattle.std.proofs.Common.{ℕ, suc, ◌%◌, ◌*◌, ◌+◌, ◌-◌, ◌/◌, ◌<◌, ◌^◌, ◌≡◌}
use Rattle.dash_base.specs.declared.end.End.TheVariants.{Exited}
use Rattle.hart_core.specs.HartState.{HartState}
use Rattle.workload_gen.specs.Program.{upper_part}
use Rattle.workload_gen.specs.Progress.{Holding, Loaded, Outside, Progress, Section, Stored, Summed}
use Rattle.workload_gen.specs.Workload.{addend_of, counter_of, counter_word, draw, lock_word}
use Rattle.workload_gen.proofs.Harts.{Registers, hart}

abbrev pub at : ℕ → Section → Progress
at n s = record { done = n; section = s }

-- hart h has come so far
pub data HartIs (seed h : ℕ) : Progress → HartState → Type 0 where
  At_seed_upper : (r : Registers) → HartIs seed h (at 0 Outside) (hart 4096 (record r { a0 = h }) 0)
  At_seed_lower : (r : Registers) → HartIs seed h (at 0 Outside) (hart 4100 (record r { a0 = h; s1 = upper_part seed }) 1)
  At_factor_upper : (r : Registers) → HartIs seed h (at 0 Outside) (hart 4104 (record r { a0 = h; s1 = seed }) 2)
  At_factor_lower : (r : Registers) → HartIs seed h (at 0 Outside) (hart 4108 (record r { a0 = h; s1 = seed; t0 = 2654437376 }) 3)
  At_spread : (r : Registers) → HartIs seed h (at 0 Outside) (hart 4112 (record r { a0 = h; s1 = seed; t0 = 2654435761 }) 4)
  At_begin : (r : Registers) → HartIs seed h (at 0 Outside) (hart 4116 (record r { a0 = h; s1 = seed; t0 = 2654435761 * h % 2 ^ 32 }) 5)
  At_multiplier_upper : (r : Registers) → HartIs seed h (at 0 Outside) (hart 4120 (record r { s1 = draw seed h 0 }) 6)
  At_multiplier_lower : (r : Registers) → HartIs seed h (at 0 Outside) (hart 4124 (record r { s1 = draw seed h 0; s2 = 1662976 }) 7)
  At_increment_upper : (r : Registers) → HartIs seed h (at 0 Outside) (hart 4128 (record r { s1 = draw seed h 0; s2 = 1664525 }) 8)
  At_increment_lower : (r : Registers) → HartIs seed h (at 0 Outside) (hart 4132 (record r { s1 = draw seed h 0; s2 = 1664525; s3 = 1013903360 }) 9)
  At_counters_at_upper : (r : Registers) → HartIs seed h (at 0 Outside) (hart 4136 (record r { s1 = draw seed h 0; s2 = 1664525; s3 = 1013904223 }) 10)
  At_counters_at_lower : (r : Registers) → HartIs seed h (at 0 Outside) (hart 4140 (record r { s1 = draw seed h 0; s2 = 1664525; s3 = 1013904223; s4 = 32768 }) 11)
  At_locks_at_upper : (r : Registers) → HartIs seed h (at 0 Outside) (hart 4144 (record r { s1 = draw seed h 0; s2 = 1664525; s3 = 1013904223; s4 = 32768 }) 12)
  At_locks_at_lower : (r : Registers) → HartIs seed h (at 0 Outside) (hart 4148 (record r { s1 = draw seed h 0; s2 = 1664525; s3 = 1013904223; s4 = 32768; s5 = 65536 }) 13)
  At_count : (r : Registers) → HartIs seed h (at 0 Outside) (hart 4152 (record r { s1 = draw seed h 0; s2 = 1664525; s3 = 1013904223; s4 = 32768; s5 = 65536 }) 14)
  At_one : (r : Registers) → HartIs seed h (at 0 Outside) (hart 4156 (record r { s1 = draw seed h 0; s2 = 1664525; s3 = 1013904223; s4 = 32768; s5 = 65536; s6 = 468 }) 15)
  At_multiply : (i n : ℕ) (r : Registers) → i < 468 → n ≡ 16 * i + 16 → HartIs seed h (at i Outside) (hart 4160 (record r { s2 = 1664525; s3 = 1013904223; s4 = 32768; s5 = 65536; s7 = 1; s1 = draw seed h i; s6 = 468 - i }) n)
  At_increase : (i n : ℕ) (r : Registers) → i < 468 → n ≡ 16 * i + 17 → HartIs seed h (at i Outside) (hart 4164 (record r { s2 = 1664525; s3 = 1013904223; s4 = 32768; s5 = 65536; s7 = 1; s1 = draw seed h i * 1664525 % 2 ^ 32; s6 = 468 - i }) n)
  At_choose : (i n : ℕ) (r : Registers) → i < 468 → n ≡ 16 * i + 18 → HartIs seed h (at i Outside) (hart 4168 (record r { s2 = 1664525; s3 = 1013904223; s4 = 32768; s5 = 65536; s7 = 1; s1 = draw seed h (suc i); s6 = 468 - i }) n)
  At_counter_offset : (i n : ℕ) (r : Registers) → i < 468 → n ≡ 16 * i + 19 → HartIs seed h (at i Outside) (hart 4172 (record r { s2 = 1664525; s3 = 1013904223; s4 = 32768; s5 = 65536; s7 = 1; s1 = draw seed h (suc i); s6 = 468 - i; t1 = counter_of (draw seed h (suc i)) }) n)
  At_counter_address : (i n : ℕ) (r : Registers) → i < 468 → n ≡ 16 * i + 20 → HartIs seed h (at i Outside) (hart 4176 (record r { s2 = 1664525; s3 = 1013904223; s4 = 32768; s5 = 65536; s7 = 1; s1 = draw seed h (suc i); s6 = 468 - i; t1 = counter_of (draw seed h (suc i)); t2 = counter_of (draw seed h (suc i)) * 2 ^ 4 % 2 ^ 32 }) n)
  At_lock_offset : (i n : ℕ) (r : Registers) → i < 468 → n ≡ 16 * i + 21 → HartIs seed h (at i Outside) (hart 4180 (record r { s2 = 1664525; s3 = 1013904223; s4 = 32768; s5 = 65536; s7 = 1; s1 = draw seed h (suc i); s6 = 468 - i; t1 = counter_of (draw seed h (suc i)); t2 = counter_word (counter_of (draw seed h (suc i))) }) n)
  At_lock_address : (i n : ℕ) (r : Registers) → i < 468 → n ≡ 16 * i + 22 → HartIs seed h (at i Outside) (hart 4184 (record r { s2 = 1664525; s3 = 1013904223; s4 = 32768; s5 = 65536; s7 = 1; s1 = draw seed h (suc i); s6 = 468 - i; t2 = counter_word (counter_of (draw seed h (suc i))); t3 = counter_of (draw seed h (suc i)) * 2 ^ 2 % 2 ^ 32 }) n)
  At_shift : (i n : ℕ) (r : Registers) → i < 468 → n ≡ 16 * i + 23 → HartIs seed h (at i Outside) (hart 4188 (record r { s2 = 1664525; s3 = 1013904223; s4 = 32768; s5 = 65536; s7 = 1; s1 = draw seed h (suc i); s6 = 468 - i; t2 = counter_word (counter_of (draw seed h (suc i))); t3 = lock_word (counter_of (draw seed h (suc i))) }) n)
  At_cut : (i n : ℕ) (r : Registers) → i < 468 → n ≡ 16 * i + 24 → HartIs seed h (at i Outside) (hart 4192 (record r { s2 = 1664525; s3 = 1013904223; s4 = 32768; s5 = 65536; s7 = 1; s1 = draw seed h (suc i); s6 = 468 - i; t2 = counter_word (counter_of (draw seed h (suc i))); t3 = lock_word (counter_of (draw seed h (suc i))); t4 = draw seed h (suc i) / 2 ^ 16 }) n)
  At_ask : (i n : ℕ) (r : Registers) → i < 468 → n ≡ 16 * i + 25 → HartIs seed h (at i Outside) (hart 4196 (record r { s2 = 1664525; s3 = 1013904223; s4 = 32768; s5 = 65536; s7 = 1; s1 = draw seed h (suc i); s6 = 468 - i; t2 = counter_word (counter_of (draw seed h (suc i))); t3 = lock_word (counter_of (draw seed h (suc i))); t4 = addend_of (draw seed h (suc i)) }) n)
  At_load : (i n : ℕ) (r : Registers) → i < 468 → n ≡ 16 * i + 26 → HartIs seed h (at i (Holding (counter_of (draw seed h (suc i))))) (hart 4200 (record r { s2 = 1664525; s3 = 1013904223; s4 = 32768; s5 = 65536; s7 = 1; s1 = draw seed h (suc i); s6 = 468 - i; t2 = counter_word (counter_of (draw seed h (suc i))); t3 = lock_word (counter_of (draw seed h (suc i))); t4 = addend_of (draw seed h (suc i)) }) n)
  At_sum : (i n : ℕ) (r : Registers) (v : ℕ) → i < 468 → n ≡ 16 * i + 27 → HartIs seed h (at i (Loaded (counter_of (draw seed h (suc i))) v)) (hart 4204 (record r { s2 = 1664525; s3 = 1013904223; s4 = 32768; s5 = 65536; s7 = 1; s1 = draw seed h (suc i); s6 = 468 - i; t2 = counter_word (counter_of (draw seed h (suc i))); t3 = lock_word (counter_of (draw seed h (suc i))); t4 = addend_of (draw seed h (suc i)); t6 = v }) n)
  At_store : (i n : ℕ) (r : Registers) (v : ℕ) → i < 468 → n ≡ 16 * i + 28 → HartIs seed h (at i (Summed (counter_of (draw seed h (suc i))) ((v + addend_of (draw seed h (suc i))) % 2 ^ 32))) (hart 4208 (record r { s2 = 1664525; s3 = 1013904223; s4 = 32768; s5 = 65536; s7 = 1; s1 = draw seed h (suc i); s6 = 468 - i; t2 = counter_word (counter_of (draw seed h (suc i))); t3 = lock_word (counter_of (draw seed h (suc i))); t6 = (v + addend_of (draw seed h (suc i))) % 2 ^ 32 }) n)
  At_unlock : (i n : ℕ) (r : Registers) → i < 468 → n ≡ 16 * i + 29 → HartIs seed h (at (suc i) (Stored (counter_of (draw seed h (suc i))))) (hart 4212 (record r { s2 = 1664525; s3 = 1013904223; s4 = 32768; s5 = 65536; s7 = 1; s1 = draw seed h (suc i); s6 = 468 - i; t3 = lock_word (counter_of (draw seed h (suc i))) }) n)
  At_count_down : (i n : ℕ) (r : Registers) → i < 468 → n ≡ 16 * i + 30 → HartIs seed h (at (suc i) Outside) (hart 4216 (record r { s2 = 1664525; s3 = 1013904223; s4 = 32768; s5 = 65536; s7 = 1; s1 = draw seed h (suc i); s6 = 468 - i }) n)
  At_again : (i n : ℕ) (r : Registers) → i < 468 → n ≡ 16 * i + 31 → HartIs seed h (at (suc i) Outside) (hart 4220 (record r { s2 = 1664525; s3 = 1013904223; s4 = 32768; s5 = 65536; s7 = 1; s1 = draw seed h (suc i); s6 = 468 - suc i }) n)
  At_code : (r : Registers) → HartIs seed h (at 468 Outside) (hart 4224 r 7504)
  At_call_number : (r : Registers) → HartIs seed h (at 468 Outside) (hart 4228 (record r { a0 = 0 }) 7505)
  At_call : (r : Registers) → HartIs seed h (at 468 Outside) (hart 4232 (record r { a0 = 0; a7 = 93 }) 7506)
  At_end : (r : Registers) → HartIs seed h (at 468 Outside) (record (hart 4232 (record r { a0 = 0; a7 = 93 }) 7507) { end = Exited 0 })
