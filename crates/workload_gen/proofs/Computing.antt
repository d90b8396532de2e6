-- What each instruction of the workload that only computes makes of a hart.
use Rattle.std.proofs.Common.{refl, ℕ, ◌%◌, ◌*◌, ◌+◌, ◌/◌, ◌^◌}
use Rattle.std.specs.Prelude.{bit_and}
use Rattle.dash_base.specs.declared.need.Need.TheVariants as needed
use Rattle.dash_base.specs.declared.topology.Topology.{Topology}
use Rattle.workload_gen.specs.Program.{image_of}
use Rattle.workload_gen.proofs.Harts.{Makes, Registers, hart, makes}
use Rattle.workload_gen.proofs.Listing.{begin, begin_found, call_number, call_number_found, choose, choose_found, code, code_found, count, count_down, count_down_found, count_found, counter_address, counter_address_found, counter_offset, counter_offset_found, counters_at_lower, counters_at_lower_found, counters_at_upper, counters_at_upper_found, cut, cut_found, factor_lower, factor_lower_found, factor_upper, factor_upper_found, increase, increase_found, increment_lower, increment_lower_found, increment_upper, increment_upper_found, lock_address, lock_address_found, lock_offset, lock_offset_found, locks_at_lower, locks_at_lower_found, locks_at_upper, locks_at_upper_found, multiplier_lower, multiplier_lower_found, multiplier_upper, multiplier_upper_found, multiply, multiply_found, one, one_found, shift, shift_found, spread, spread_found, sum, sum_found}

module _ (seed : ℕ) (t : Topology) where
  pub factor_upper_step : (r : Registers) (n : ℕ) → Makes (image_of seed) t (hart 4104 r n) needed.Alu (λ a. hart 4108 (record r { t0 = 2654437376 }) (n + 1))
  unfolding factor_upper
  factor_upper_step r n = makes (image_of seed) t (hart 4104 r n) factor_upper needed.Alu (λ a. hart 4108 (record r { t0 = 2654437376 }) (n + 1)) (factor_upper_found seed) refl (λ a. refl)

  pub factor_lower_step : (r : Registers) (n : ℕ) → Makes (image_of seed) t (hart 4108 (record r { t0 = 2654437376 }) n) needed.Alu (λ a. hart 4112 (record r { t0 = 2654435761 }) (n + 1))
  unfolding factor_lower
  factor_lower_step r n = makes (image_of seed) t (hart 4108 (record r { t0 = 2654437376 }) n) factor_lower needed.Alu (λ a. hart 4112 (record r { t0 = 2654435761 }) (n + 1)) (factor_lower_found seed) refl (λ a. refl)

  pub spread_step : (r : Registers) (n : ℕ) → Makes (image_of seed) t (hart 4112 r n) needed.Alu (λ a. hart 4116 (record r { t0 = r.t0 * r.a0 % 2 ^ 32 }) (n + 1))
  unfolding spread
  spread_step r n = makes (image_of seed) t (hart 4112 r n) spread needed.Alu (λ a. hart 4116 (record r { t0 = r.t0 * r.a0 % 2 ^ 32 }) (n + 1)) (spread_found seed) refl (λ a. refl)

  pub begin_step : (r : Registers) (n : ℕ) → Makes (image_of seed) t (hart 4116 r n) needed.Alu (λ a. hart 4120 (record r { s1 = (r.s1 + r.t0) % 2 ^ 32 }) (n + 1))
  unfolding begin
  begin_step r n = makes (image_of seed) t (hart 4116 r n) begin needed.Alu (λ a. hart 4120 (record r { s1 = (r.s1 + r.t0) % 2 ^ 32 }) (n + 1)) (begin_found seed) refl (λ a. refl)

  pub multiplier_upper_step : (r : Registers) (n : ℕ) → Makes (image_of seed) t (hart 4120 r n) needed.Alu (λ a. hart 4124 (record r { s2 = 1662976 }) (n + 1))
  unfolding multiplier_upper
  multiplier_upper_step r n = makes (image_of seed) t (hart 4120 r n) multiplier_upper needed.Alu (λ a. hart 4124 (record r { s2 = 1662976 }) (n + 1)) (multiplier_upper_found seed) refl (λ a. refl)

  pub multiplier_lower_step : (r : Registers) (n : ℕ) → Makes (image_of seed) t (hart 4124 (record r { s2 = 1662976 }) n) needed.Alu (λ a. hart 4128 (record r { s2 = 1664525 }) (n + 1))
  unfolding multiplier_lower
  multiplier_lower_step r n = makes (image_of seed) t (hart 4124 (record r { s2 = 1662976 }) n) multiplier_lower needed.Alu (λ a. hart 4128 (record r { s2 = 1664525 }) (n + 1)) (multiplier_lower_found seed) refl (λ a. refl)

  pub increment_upper_step : (r : Registers) (n : ℕ) → Makes (image_of seed) t (hart 4128 r n) needed.Alu (λ a. hart 4132 (record r { s3 = 1013903360 }) (n + 1))
  unfolding increment_upper
  increment_upper_step r n = makes (image_of seed) t (hart 4128 r n) increment_upper needed.Alu (λ a. hart 4132 (record r { s3 = 1013903360 }) (n + 1)) (increment_upper_found seed) refl (λ a. refl)

  pub increment_lower_step : (r : Registers) (n : ℕ) → Makes (image_of seed) t (hart 4132 (record r { s3 = 1013903360 }) n) needed.Alu (λ a. hart 4136 (record r { s3 = 1013904223 }) (n + 1))
  unfolding increment_lower
  increment_lower_step r n = makes (image_of seed) t (hart 4132 (record r { s3 = 1013903360 }) n) increment_lower needed.Alu (λ a. hart 4136 (record r { s3 = 1013904223 }) (n + 1)) (increment_lower_found seed) refl (λ a. refl)

  pub counters_at_upper_step : (r : Registers) (n : ℕ) → Makes (image_of seed) t (hart 4136 r n) needed.Alu (λ a. hart 4140 (record r { s4 = 32768 }) (n + 1))
  unfolding counters_at_upper
  counters_at_upper_step r n = makes (image_of seed) t (hart 4136 r n) counters_at_upper needed.Alu (λ a. hart 4140 (record r { s4 = 32768 }) (n + 1)) (counters_at_upper_found seed) refl (λ a. refl)

  pub counters_at_lower_step : (r : Registers) (n : ℕ) → Makes (image_of seed) t (hart 4140 (record r { s4 = 32768 }) n) needed.Alu (λ a. hart 4144 (record r { s4 = 32768 }) (n + 1))
  unfolding counters_at_lower
  counters_at_lower_step r n = makes (image_of seed) t (hart 4140 (record r { s4 = 32768 }) n) counters_at_lower needed.Alu (λ a. hart 4144 (record r { s4 = 32768 }) (n + 1)) (counters_at_lower_found seed) refl (λ a. refl)

  pub locks_at_upper_step : (r : Registers) (n : ℕ) → Makes (image_of seed) t (hart 4144 r n) needed.Alu (λ a. hart 4148 (record r { s5 = 65536 }) (n + 1))
  unfolding locks_at_upper
  locks_at_upper_step r n = makes (image_of seed) t (hart 4144 r n) locks_at_upper needed.Alu (λ a. hart 4148 (record r { s5 = 65536 }) (n + 1)) (locks_at_upper_found seed) refl (λ a. refl)

  pub locks_at_lower_step : (r : Registers) (n : ℕ) → Makes (image_of seed) t (hart 4148 (record r { s5 = 65536 }) n) needed.Alu (λ a. hart 4152 (record r { s5 = 65536 }) (n + 1))
  unfolding locks_at_lower
  locks_at_lower_step r n = makes (image_of seed) t (hart 4148 (record r { s5 = 65536 }) n) locks_at_lower needed.Alu (λ a. hart 4152 (record r { s5 = 65536 }) (n + 1)) (locks_at_lower_found seed) refl (λ a. refl)

  pub count_step : (r : Registers) (n : ℕ) → Makes (image_of seed) t (hart 4152 r n) needed.Alu (λ a. hart 4156 (record r { s6 = 468 }) (n + 1))
  unfolding count
  count_step r n = makes (image_of seed) t (hart 4152 r n) count needed.Alu (λ a. hart 4156 (record r { s6 = 468 }) (n + 1)) (count_found seed) refl (λ a. refl)

  pub one_step : (r : Registers) (n : ℕ) → Makes (image_of seed) t (hart 4156 r n) needed.Alu (λ a. hart 4160 (record r { s7 = 1 }) (n + 1))
  unfolding one
  one_step r n = makes (image_of seed) t (hart 4156 r n) one needed.Alu (λ a. hart 4160 (record r { s7 = 1 }) (n + 1)) (one_found seed) refl (λ a. refl)

  pub multiply_step : (r : Registers) (n : ℕ) → Makes (image_of seed) t (hart 4160 r n) needed.Alu (λ a. hart 4164 (record r { s1 = r.s1 * r.s2 % 2 ^ 32 }) (n + 1))
  unfolding multiply
  multiply_step r n = makes (image_of seed) t (hart 4160 r n) multiply needed.Alu (λ a. hart 4164 (record r { s1 = r.s1 * r.s2 % 2 ^ 32 }) (n + 1)) (multiply_found seed) refl (λ a. refl)

  pub increase_step : (r : Registers) (n : ℕ) → Makes (image_of seed) t (hart 4164 r n) needed.Alu (λ a. hart 4168 (record r { s1 = (r.s1 + r.s3) % 2 ^ 32 }) (n + 1))
  unfolding increase
  increase_step r n = makes (image_of seed) t (hart 4164 r n) increase needed.Alu (λ a. hart 4168 (record r { s1 = (r.s1 + r.s3) % 2 ^ 32 }) (n + 1)) (increase_found seed) refl (λ a. refl)

  pub choose_step : (r : Registers) (n : ℕ) → Makes (image_of seed) t (hart 4168 r n) needed.Alu (λ a. hart 4172 (record r { t1 = r.s1 / 2 ^ 26 }) (n + 1))
  unfolding choose
  choose_step r n = makes (image_of seed) t (hart 4168 r n) choose needed.Alu (λ a. hart 4172 (record r { t1 = r.s1 / 2 ^ 26 }) (n + 1)) (choose_found seed) refl (λ a. refl)

  pub counter_offset_step : (r : Registers) (n : ℕ) → Makes (image_of seed) t (hart 4172 r n) needed.Alu (λ a. hart 4176 (record r { t2 = r.t1 * 2 ^ 4 % 2 ^ 32 }) (n + 1))
  unfolding counter_offset
  counter_offset_step r n = makes (image_of seed) t (hart 4172 r n) counter_offset needed.Alu (λ a. hart 4176 (record r { t2 = r.t1 * 2 ^ 4 % 2 ^ 32 }) (n + 1)) (counter_offset_found seed) refl (λ a. refl)

  pub counter_address_step : (r : Registers) (n : ℕ) → Makes (image_of seed) t (hart 4176 r n) needed.Alu (λ a. hart 4180 (record r { t2 = (r.t2 + r.s4) % 2 ^ 32 }) (n + 1))
  unfolding counter_address
  counter_address_step r n = makes (image_of seed) t (hart 4176 r n) counter_address needed.Alu (λ a. hart 4180 (record r { t2 = (r.t2 + r.s4) % 2 ^ 32 }) (n + 1)) (counter_address_found seed) refl (λ a. refl)

  pub lock_offset_step : (r : Registers) (n : ℕ) → Makes (image_of seed) t (hart 4180 r n) needed.Alu (λ a. hart 4184 (record r { t3 = r.t1 * 2 ^ 2 % 2 ^ 32 }) (n + 1))
  unfolding lock_offset
  lock_offset_step r n = makes (image_of seed) t (hart 4180 r n) lock_offset needed.Alu (λ a. hart 4184 (record r { t3 = r.t1 * 2 ^ 2 % 2 ^ 32 }) (n + 1)) (lock_offset_found seed) refl (λ a. refl)

  pub lock_address_step : (r : Registers) (n : ℕ) → Makes (image_of seed) t (hart 4184 r n) needed.Alu (λ a. hart 4188 (record r { t3 = (r.t3 + r.s5) % 2 ^ 32 }) (n + 1))
  unfolding lock_address
  lock_address_step r n = makes (image_of seed) t (hart 4184 r n) lock_address needed.Alu (λ a. hart 4188 (record r { t3 = (r.t3 + r.s5) % 2 ^ 32 }) (n + 1)) (lock_address_found seed) refl (λ a. refl)

  pub shift_step : (r : Registers) (n : ℕ) → Makes (image_of seed) t (hart 4188 r n) needed.Alu (λ a. hart 4192 (record r { t4 = r.s1 / 2 ^ 16 }) (n + 1))
  unfolding shift
  shift_step r n = makes (image_of seed) t (hart 4188 r n) shift needed.Alu (λ a. hart 4192 (record r { t4 = r.s1 / 2 ^ 16 }) (n + 1)) (shift_found seed) refl (λ a. refl)

  pub cut_step : (r : Registers) (n : ℕ) → Makes (image_of seed) t (hart 4192 r n) needed.Alu (λ a. hart 4196 (record r { t4 = bit_and r.t4 255 }) (n + 1))
  unfolding cut
  cut_step r n = makes (image_of seed) t (hart 4192 r n) cut needed.Alu (λ a. hart 4196 (record r { t4 = bit_and r.t4 255 }) (n + 1)) (cut_found seed) refl (λ a. refl)

  pub sum_step : (r : Registers) (n : ℕ) → Makes (image_of seed) t (hart 4204 r n) needed.Alu (λ a. hart 4208 (record r { t6 = (r.t6 + r.t4) % 2 ^ 32 }) (n + 1))
  unfolding sum
  sum_step r n = makes (image_of seed) t (hart 4204 r n) sum needed.Alu (λ a. hart 4208 (record r { t6 = (r.t6 + r.t4) % 2 ^ 32 }) (n + 1)) (sum_found seed) refl (λ a. refl)

  pub count_down_step : (r : Registers) (n : ℕ) → Makes (image_of seed) t (hart 4216 r n) needed.Alu (λ a. hart 4220 (record r { s6 = (r.s6 + 4294967295) % 2 ^ 32 }) (n + 1))
  unfolding count_down
  count_down_step r n = makes (image_of seed) t (hart 4216 r n) count_down needed.Alu (λ a. hart 4220 (record r { s6 = (r.s6 + 4294967295) % 2 ^ 32 }) (n + 1)) (count_down_found seed) refl (λ a. refl)

  pub code_step : (r : Registers) (n : ℕ) → Makes (image_of seed) t (hart 4224 r n) needed.Alu (λ a. hart 4228 (record r { a0 = 0 }) (n + 1))
  unfolding code
  code_step r n = makes (image_of seed) t (hart 4224 r n) code needed.Alu (λ a. hart 4228 (record r { a0 = 0 }) (n + 1)) (code_found seed) refl (λ a. refl)

  pub call_number_step : (r : Registers) (n : ℕ) → Makes (image_of seed) t (hart 4228 r n) needed.Alu (λ a. hart 4232 (record r { a7 = 93 }) (n + 1))
  unfolding call_number
  call_number_step r n = makes (image_of seed) t (hart 4228 r n) call_number needed.Alu (λ a. hart 4232 (record r { a7 = 93 }) (n + 1)) (call_number_found seed) refl (λ a. refl)
