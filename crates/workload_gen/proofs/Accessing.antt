-- What the other instructions of the workload make of a hart: those that hold the seed, that use memory or a lock word, the branch and the end.
use Rattle.std.proofs.Common.{Bool, None, Some, ap, arith, false, not, refl, sym, true, ℕ, ◌%◌, ◌&&◌, ◌*◌, ◌+◌, ◌-◌, ◌/◌, ◌<◌, ◌==◌, ◌^◌, ◌∙◌, ◌≡◌, ◌≢◌, ◌≤◌}
use Rattle.std.specs.Prelude.{ℤ, if◌then◌else◌, negsuc, pos, nat_lt}
use Rattle.std.proofs.Math.Facts.{yes_leb}
use Rattle.std.proofs.lemmas.Bool.Decides.{nat_tests}
use Rattle.dash_base.specs.Ranges.{FitsBits}
use Rattle.dash_base.specs.declared.end.End.TheVariants.{Exited}
use Rattle.dash_base.specs.declared.end.Trap.TheVariants as trap
use Rattle.dash_base.specs.declared.instr.Instr.{Instr}
use Rattle.dash_base.specs.declared.instr.Instr.TheVariants as instr
use Rattle.dash_base.specs.declared.need.Need.TheVariants as needed
use Rattle.dash_base.specs.declared.ops.AluOp.TheVariants as alu
use Rattle.dash_base.specs.declared.ops.AmoOp.TheVariants.{Swap}
use Rattle.dash_base.specs.declared.topology.Topology.{Topology}
use Rattle.dash_event.specs.Offered.{acquire_label, no_label, release_label}
use Rattle.elf_load.specs.Image.{fetched, word_among, byte_among, is_writable}
use Rattle.hart_core.specs.Access.{access_trap, in_locks, in_memory, load_need, lock_need, mask_at, placed, store_need, trap_or}
use Rattle.hart_core.specs.Meaning.{IsFound, jump_need}
use Rattle.hart_core.specs.declared.found.Found.TheVariants.{This}
use Rattle.hart_core.specs.declared.width.Width.TheVariants as width
use Rattle.rv32_alu.specs.Arithmetic.{moved_by}
use Rattle.rv32_decode.specs.Layout.{in_bits}
use Rattle.workload_gen.specs.Program.{addi, image_of, lui, upper_part}
use Rattle.workload_gen.specs.Workload.{IsMachine, counter_word, lock_word}
use Rattle.workload_gen.proofs.Harts.{Makes, Registers, hart, makes}
use Rattle.workload_gen.proofs.Listing.{again, again_found, ask, ask_found, call, call_found, load, load_found, store, store_found, unlock, unlock_found}

-- ---- the seed

-- the lower 12 bits of a number, as a signed number
pub lower_by : Bool → ℕ → ℤ
lower_by true v = pos (v % 4096)
lower_by false v = negsuc (4095 - v % 4096)

abbrev pub lower_part : ℕ → ℤ
lower_part v = lower_by (nat_lt (v % 4096) 2048) v

pub lower_fits : (v : ℕ) (b : Bool) → nat_lt (v % 4096) 2048 ≡ b → FitsBits 12 (lower_by b v)
unfolding lower_by
lower_fits v true is = let small : v % 4096 < 2048 = grind (arith, nat_tests) in record { low = omega arith; high = record { lt = yes_leb (omega arith) } }
lower_fits v false is = let large : 2048 ≤ v % 4096 = grind (arith, nat_tests) in record { low = record { le = yes_leb (omega arith) }; high = omega arith }

lower_bits : (v : ℕ) (b : Bool) → in_bits 12 (lower_by b v) ≡ v % 4096
unfolding lower_by
lower_bits v true = refl
lower_bits v false = omega arith

-- the parts make the number
parts_make : (v : ℕ) → v < 2 ^ 32 → (b : Bool) → nat_lt (v % 4096) 2048 ≡ b → (upper_part v + moved_by 0 (lower_by b v)) % 2 ^ 32 ≡ v
unfolding lower_by
parts_make v small true is = let low : v % 4096 < 2048 = grind (arith, nat_tests) in omega arith
parts_make v small false is = let high : 2048 ≤ v % 4096 = grind (arith, nat_tests) in omega arith

unfoldable pub seed_upper : ℕ → Instr
seed_upper seed = instr.Lui (record { rd = 9; imm = upper_part seed; rd_in_range = omega arith; imm_in_range = omega arith; imm_is_upper = omega arith })

unfoldable pub seed_lower : ℕ → Instr
seed_lower seed = instr.OpImm (record { op = alu.Add; rd = 9; rs1 = 9; imm = lower_part seed; has_form = refl; rd_in_range = omega arith; rs1_in_range = omega arith; imm_in_range = (let fits = lower_fits seed (nat_lt (seed % 4096) 2048) refl in record { low = fits.low; high = fits.high }) })

four_bytes : (w : ℕ) → w < 2 ^ 32 → w % 256 + w / 256 % 256 * 256 + w / 65536 % 256 * 65536 + w / 16777216 % 256 * 16777216 ≡ w
four_bytes w small = omega arith

upper_small : (v : ℕ) → lui 9 v < 2 ^ 32
upper_small v = omega arith

lower_small : (v : ℕ) → addi 9 9 (v % 4096) < 2 ^ 32
lower_small v = omega arith

pub seed_upper_found : (seed : ℕ) → IsFound (image_of seed) 4096 (This (seed_upper seed))
unfolding seed_upper fetched word_among byte_among
seed_upper_found seed = ap Some (four_bytes (lui 9 (upper_part seed)) (upper_small (upper_part seed)))

pub seed_lower_found : (seed : ℕ) → IsFound (image_of seed) 4100 (This (seed_lower seed))
unfolding seed_lower fetched word_among byte_among
seed_lower_found seed = ap Some (four_bytes (addi 9 9 (seed % 4096)) (lower_small seed)) ∙ ap (λ imm. Some (addi 9 9 imm)) (sym (lower_bits seed (nat_lt (seed % 4096) 2048)))

module _ (seed : ℕ) (t : Topology) where
  pub seed_upper_step : (r : Registers) (n : ℕ) → Makes (image_of seed) t (hart 4096 r n) needed.Alu (λ a. hart 4100 (record r { s1 = upper_part seed }) (n + 1))
  unfolding seed_upper
  seed_upper_step r n = makes (image_of seed) t (hart 4096 r n) (seed_upper seed) needed.Alu (λ a. hart 4100 (record r { s1 = upper_part seed }) (n + 1)) (seed_upper_found seed) refl (λ a. refl)

  pub seed_lower_step : seed < 2 ^ 32 → (r : Registers) (n : ℕ) → Makes (image_of seed) t (hart 4100 (record r { s1 = upper_part seed }) n) needed.Alu (λ a. hart 4104 (record r { s1 = seed }) (n + 1))
  unfolding seed_lower
  seed_lower_step small r n =
      makes (image_of seed) t (hart 4100 (record r { s1 = upper_part seed }) n) (seed_lower seed) needed.Alu (λ a. hart 4104 (record r { s1 = seed }) (n + 1)) (seed_lower_found seed) refl
      (λ a. λ j. hart 4104 (record r { s1 = parts_make seed small (nat_lt (seed % 4096) 2048) refl j }) (n + 1))

  -- ---- the branch and the end

  pub again_step : (r : Registers) (n : ℕ) → r.s6 ≢ 0 → Makes (image_of seed) t (hart 4220 r n) needed.Alu (λ a. hart 4160 r (n + 1))
  unfolding again
  again_step r n more =
      let taken : not (r.s6 == 0) ≡ true = grind (arith, nat_tests) in
      makes (image_of seed) t (hart 4220 r n) again needed.Alu (λ a. hart 4160 r (n + 1)) (again_found seed)
      (λ j. if taken j then jump_need (moved_by 4220 (negsuc 59)) else needed.Alu)
      (λ a. λ j. hart (if taken j then moved_by 4220 (negsuc 59) else 4224) r (n + 1))

  pub over_step : (r : Registers) (n : ℕ) → r.s6 ≡ 0 → Makes (image_of seed) t (hart 4220 r n) needed.Alu (λ a. hart 4224 r (n + 1))
  unfolding again
  over_step r n none =
      let taken : not (r.s6 == 0) ≡ false = grind (arith, nat_tests) in
      makes (image_of seed) t (hart 4220 r n) again needed.Alu (λ a. hart 4224 r (n + 1)) (again_found seed)
      (λ j. if taken j then jump_need (moved_by 4220 (negsuc 59)) else needed.Alu)
      (λ a. λ j. hart (if taken j then moved_by 4220 (negsuc 59) else 4224) r (n + 1))

  pub call_step : (r : Registers) (n : ℕ) → Makes (image_of seed) t (hart 4232 (record r { a0 = 0; a7 = 93 }) n) (needed.Stop (Exited 0)) (λ a. record (hart 4232 (record r { a0 = 0; a7 = 93 }) (n + 1)) { end = Exited 0 })
  unfolding call
  call_step r n = makes (image_of seed) t (hart 4232 (record r { a0 = 0; a7 = 93 }) n) call (needed.Stop (Exited 0)) (λ a. record (hart 4232 (record r { a0 = 0; a7 = 93 }) (n + 1)) { end = Exited 0 }) (call_found seed) refl (λ a. refl)

  -- ---- memory and lock words

  module _ (s : IsMachine t) where
    outside : (k : ℕ) → k < 64 → in_locks t (counter_word k) ≡ false
    outside k low = let b = s.base_is in let m = s.memory_is in grind (arith, nat_tests)

    inside : (k : ℕ) → k < 64 → in_memory t (counter_word k) 4 ≡ true
    inside k low = let b = s.base_is in let m = s.memory_is in grind (arith, nat_tests)

    a_lock : (k : ℕ) → k < 64 → in_locks t (lock_word k) ≡ true
    a_lock k low = let b = s.base_is in let m = s.memory_is in let l = s.locks_is in grind (arith, nat_tests)

    aligned : (k : ℕ) → (counter_word k % 4 == 0) ≡ true
    aligned k = let e : counter_word k % 4 ≡ 0 = omega arith in grind (arith, nat_tests)

    lock_aligned : (k : ℕ) → (lock_word k % 4 == 0) ≡ true
    lock_aligned k = let e : lock_word k % 4 ≡ 0 = omega arith in grind (arith, nat_tests)

    writable : (k : ℕ) → is_writable (image_of seed) (counter_word k) 4 ≡ true
    unfolding is_writable
    writable k = grind (arith, nat_tests)

    clear : (is_write : Bool) (k : ℕ) → k < 64 → (is_write && not (is_writable (image_of seed) (counter_word k) 4)) ≡ false → access_trap (image_of seed) t is_write (counter_word k) 4 ≡ None
    clear is_write k low may = λ i. if not (aligned k i) then Some trap.Misaligned else (if outside k low i then Some trap.LockUse else (if not (inside k low i) then Some trap.Unmapped else (if may i then Some trap.ReadOnly else None)))

    at : (k : ℕ) → k < 64 → moved_by (counter_word k) (pos 0) ≡ counter_word k
    at k low = omega arith

    whole : (k : ℕ) → counter_word k % 4 ≡ 0
    whole k = omega arith

    itself : (k : ℕ) → counter_word k - counter_word k % 4 ≡ counter_word k
    itself k = omega arith

    pub load_step : (k : ℕ) → k < 64 → (r : Registers) (n : ℕ) → Makes (image_of seed) t (hart 4200 (record r { t2 = counter_word k }) n) (needed.Load (record { 0 = counter_word k }) 15 no_label false) (λ a. hart 4204 (record r { t2 = counter_word k; t6 = a }) (n + 1))
    unfolding load
    load_step k low r n =
        makes (image_of seed) t (hart 4200 (record r { t2 = counter_word k }) n) load (needed.Load (record { 0 = counter_word k }) 15 no_label false) (λ a. hart 4204 (record r { t2 = counter_word k; t6 = a }) (n + 1)) (load_found seed)
        ((λ j. load_need (image_of seed) t (at k low j) width.Word)
        ∙ (λ j. trap_or (clear false k low refl j) (counter_word k) (needed.Load (record { 0 = itself k j }) (mask_at (whole k j) 4) no_label false)))
        (λ a. refl)

    pub store_step : (k : ℕ) → k < 64 → (r : Registers) (n : ℕ) → Makes (image_of seed) t (hart 4208 (record r { t2 = counter_word k }) n) (needed.Store (record { 0 = counter_word k }) 15 (r.t6 % 2 ^ 32 * 1)) (λ a. hart 4212 (record r { t2 = counter_word k }) (n + 1))
    unfolding store
    store_step k low r n =
        makes (image_of seed) t (hart 4208 (record r { t2 = counter_word k }) n) store (needed.Store (record { 0 = counter_word k }) 15 (r.t6 % 2 ^ 32 * 1)) (λ a. hart 4212 (record r { t2 = counter_word k }) (n + 1)) (store_found seed)
        ((λ j. store_need (image_of seed) t (at k low j) width.Word r.t6)
        ∙ (λ j. trap_or (clear true k low (ap not (writable k)) j) (counter_word k) (needed.Store (record { 0 = itself k j }) (mask_at (whole k j) 4) (placed (whole k j) 4 r.t6))))
        (λ a. refl)

    pub ask_step : (k : ℕ) → k < 64 → (r : Registers) (n : ℕ) → Makes (image_of seed) t (hart 4196 (record r { s7 = 1; t3 = lock_word k }) n) (needed.Ask (record { 0 = lock_word k }) 1) (λ a. hart 4200 (record r { s7 = 1; t3 = lock_word k; t5 = a }) (n + 1))
    unfolding ask
    ask_step k low r n =
        makes (image_of seed) t (hart 4196 (record r { s7 = 1; t3 = lock_word k }) n) ask (needed.Ask (record { 0 = lock_word k }) 1) (λ a. hart 4200 (record r { s7 = 1; t3 = lock_word k; t5 = a }) (n + 1)) (ask_found seed)
        (λ j. if lock_aligned k j && a_lock k low j then lock_need (lock_word k) Swap acquire_label 1 else trap_or (access_trap (image_of seed) t true (lock_word k) 4) (lock_word k) (needed.Rmw (record { 0 = lock_word k }) Swap 1 acquire_label))
        (λ a. refl)

    pub unlock_step : (k : ℕ) → k < 64 → (r : Registers) (n : ℕ) → Makes (image_of seed) t (hart 4212 (record r { t3 = lock_word k }) n) (needed.Unlock (record { 0 = lock_word k })) (λ a. hart 4216 (record r { t3 = lock_word k }) (n + 1))
    unfolding unlock
    unlock_step k low r n =
        makes (image_of seed) t (hart 4212 (record r { t3 = lock_word k }) n) unlock (needed.Unlock (record { 0 = lock_word k })) (λ a. hart 4216 (record r { t3 = lock_word k }) (n + 1)) (unlock_found seed)
        (λ j. if lock_aligned k j && a_lock k low j then lock_need (lock_word k) Swap release_label 0 else trap_or (access_trap (image_of seed) t true (lock_word k) 4) (lock_word k) (needed.Rmw (record { 0 = lock_word k }) Swap 0 release_label))
        (λ a. refl)
