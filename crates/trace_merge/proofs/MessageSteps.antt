-- Each step of a sequential run of the written message passing, by the instruction at the hart's pc.
use Rattle.std.proofs.Common.{◌≡◌, ◌⊎◌, inl, inr, ◌<◌, ℕ, ◌+◌, ◌%◌, ◌^◌, Bool, true, false, List, [], ◌∷◌, ◌++◌, length, None, refl, sym, ◌∙◌, ap, subst, arith, eq-eqb}
use Rattle.std.proofs.lemmas.List.{length-set, get_or-set_same}
use Rattle.std.specs.Prelude.{◌==◌, not, if◌then◌else◌, pos, negsuc}
use Rattle.dash_base.specs.Topology.{IsSimple}
use Rattle.dash_base.specs.Words.{merged}
use Rattle.dash_base.specs.declared.end.End.{End}
use Rattle.dash_base.specs.declared.end.End.TheVariants.{Trapped}
use Rattle.dash_base.specs.declared.id.HartId.{HartId}
use Rattle.dash_base.specs.declared.end.Trap.TheVariants as trap
use Rattle.dash_base.specs.declared.instr.Instr.{Instr}
use Rattle.dash_base.specs.declared.ops.AmoOp.TheVariants.{Swap}
use Rattle.dash_base.specs.declared.topology.Topology.{Topology}
use Rattle.rv32_alu.specs.Arithmetic.{moved_by}
use Rattle.hart_core.specs.HartState.{HartState, reg}
use Rattle.hart_core.specs.Access.{placed}
use Rattle.hart_core.specs.Meaning.{IsFound, need_at, instr_need, jump_need, after_need, performed}
use Rattle.hart_core.specs.declared.found.Found.{Found}
use Rattle.hart_core.specs.declared.found.Found.TheVariants.{NoWord, This}
use Rattle.dash_base.specs.declared.need.Need.{Need}
use Rattle.dash_base.specs.declared.need.Need.TheVariants as needed
use Rattle.hart_core.proofs.LawsOffered.{one_found, zero_stays}
use Rattle.dash_event.specs.declared.access.Access.{Access}
use Rattle.dash_event.specs.declared.step_record.StepRecord.{StepRecord}
use Rattle.dash_event.specs.declared.step_record.StepRecord.TheVariants as step
use Rattle.dash_event.specs.Offered.{all_bytes, bytes_under, no_label, acquire_label, release_label, offered}
use Rattle.flat_model.specs.State.{FlatState}
use Rattle.flat_model.specs.Step.{record_of, content, IsFlatStep}
use Rattle.dash_event.specs.Effects.{word_after, answer_of}
use Rattle.trace_merge.specs.WrittenLogs.{message_image}
use Rattle.trace_merge.proofs.MessageCode.{skip, write, release, acquire, again, read, skip_found, write_found, release_found, acquire_found, again_found, read_found, end_found, write_need, release_need, acquire_need, read_need}
use Rattle.trace_merge.proofs.MessageRuns.{released_now, acquired_now, loaded_now, IsAcquired, IsKnown, known_store, known_flag, IsHartAt, skips, stores, releases, acquires, tests, loads, stops, IsHart, IsFlag, acquired_later, flag_later}

-- what a step of hart g leaves
pub record IsKept (rs : List StepRecord) (g : ℕ) (r : StepRecord) (old : ℕ) (next : HartState) : Type 0 where
  pub hart : IsHart (rs ++ r ∷ []) g next
  pub access : (a : Access) → r ≡ step.Access a → IsKnown (rs ++ r ∷ []) (length rs) a
  pub flag : IsFlag (rs ++ r ∷ []) (word_after 0 r old)

plain_is_none : (h : HartId) (a : Access) → step.Plain h ≡ step.Access a → ⊥
plain_is_none h a is = cc

stopped_is_none : (h : HartId) (e : End) (a : Access) → step.Stopped h e ≡ step.Access a → ⊥
stopped_is_none h e a is = cc

clear_read : bytes_under all_bytes 0 ≡ 0
unfolding merged
clear_read = refl

module _ (t : Topology) (s : IsSimple 2 1 8 t) (rs : List StepRecord) (old : FlatState) (g : ℕ) (in_range : g < 2) (r : StepRecord) (new : FlatState)
    (is_step : IsFlatStep message_image t old g r new) (i : IsHart rs g (old.harts g)) (f : IsFlag rs (old.memory 0)) where
  abbrev h : HartState
  h = old.harts g

  -- what stands at the pc
  found_is : (pc : ℕ) (x : Found) → h.pc ≡ pc → IsFound message_image pc x → is_step.does.found ≡ x
  found_is pc x at found = one_found message_image pc is_step.does.found x (subst (λ p. IsFound message_image p is_step.does.found) at is_step.does.is_found) found

  need_is : (pc : ℕ) (x : Found) (need : Need) → h.pc ≡ pc → IsFound message_image pc x → need_at message_image t h x ≡ need → is_step.need ≡ need
  need_is pc x need at found is = is_step.does.needs ∙ ap (need_at message_image t h) (found_is pc x at found) ∙ is

  record_is : (need : Need) → is_step.need ≡ need → r ≡ record_of g need (offered g (h.retired + 1) need (content old need) is_step.succeeds)
  record_is need is = is_step.recorded ∙ ap (λ n. record_of g n (offered g (h.retired + 1) n (content old n) is_step.succeeds)) is

  next_is : (pc : ℕ) (x : Found) (need : Need) → h.pc ≡ pc → IsFound message_image pc x → is_step.need ≡ need → is_step.next ≡ after_need h x need (answer_of r)
  next_is pc x need at found is = is_step.does.after ∙ (λ j. after_need h (found_is pc x at found j) (is j) (answer_of r))

  zero_is : reg is_step.next 0 ≡ 0
  zero_is = zero_stays message_image t h is_step.next is_step.need (answer_of r) is_step.does ∙ i.zero_register

  -- a branch, or the end
  quiet : (need : Need) → r ≡ record_of g need None → ((a : Access) → record_of g need None ≡ step.Access a → ⊥) → word_after 0 (record_of g need None) (old.memory 0) ≡ old.memory 0
      → IsHart (rs ++ r ∷ []) g is_step.next → IsKept rs g r (old.memory 0) is_step.next
  quiet need is none same hart = record {
    hart = hart;
    access = λ a access. absurd (none a (sym is ∙ access));
    flag = flag_later rs r (word_after 0 r (old.memory 0)) (subst (IsFlag rs) (sym (ap (λ x. word_after 0 x (old.memory 0)) is ∙ same)) f);
  }

  branch : (pc to : ℕ) (x : Instr) → h.pc ≡ pc → IsFound message_image pc (This x) → instr_need message_image t h x ≡ needed.Alu → performed h x (answer_of r) ≡ record h { pc = to; retired = h.retired + 1 }
      → IsHartAt (rs ++ r ∷ []) g (record h { pc = to; retired = h.retired + 1 }) → IsKept rs g r (old.memory 0) is_step.next
  branch pc to x at found need after stands =
      let is = need_is pc (This x) needed.Alu at found need in
      let next : is_step.next ≡ record h { pc = to; retired = h.retired + 1 } = next_is pc (This x) needed.Alu at found is ∙ after in
      quiet needed.Alu (record_is needed.Alu is) (plain_is_none (record { 0 = g })) refl
      (record { size = ap (λ k. length k.registers) next ∙ i.size; zero_register = zero_is; stands = subst (IsHartAt (rs ++ r ∷ []) g) (sym next) stands })

  kept_skip : h.pc ≡ 4096 → reg h 10 ≡ g → h.retired ≡ 0 → (g ≡ 0) ⊎ (g ≡ 1) → IsKept rs g r (old.memory 0) is_step.next
  unfolding skip
  kept_skip at number retired (inl first) =
      let ten : reg h 10 ≡ 0 = number ∙ first in
      branch 4096 4100 skip at skip_found
      (λ j. if not (ten j == i.zero_register j) then jump_need (moved_by (h.pc) (pos 12)) else needed.Alu)
      (λ j. record h { pc = if not (ten j == i.zero_register j) then moved_by h.pc (pos 12) else (at j + 4) % 2 ^ 32; retired = h.retired + 1 })
      (stores refl first (ap (λ n. n + 1) retired))
  kept_skip at number retired (inr second) =
      let ten : reg h 10 ≡ 1 = number ∙ second in
      branch 4096 4108 skip at skip_found
      (λ j. if not (ten j == i.zero_register j) then jump_need (moved_by (at j) (pos 12)) else needed.Alu)
      (λ j. record h { pc = if not (ten j == i.zero_register j) then moved_by (at j) (pos 12) else (h.pc + 4) % 2 ^ 32; retired = h.retired + 1 })
      (acquires refl)

  -- an access, with what it leaves
  accessed : (need : Need) (a : Access) → r ≡ step.Access a → IsKnown (rs ++ r ∷ []) (length rs) a → IsFlag (rs ++ r ∷ []) (word_after 0 (step.Access a) (old.memory 0))
      → IsHart (rs ++ r ∷ []) g is_step.next → IsKept rs g r (old.memory 0) is_step.next
  accessed need a is known flag hart = record {
    hart = hart;
    access = λ b access. subst (IsKnown (rs ++ r ∷ []) (length rs)) (let e : step.Access a ≡ step.Access b = sym is ∙ access in let e' : a ≡ b = cc in e') known;
    flag = subst (λ x. IsFlag (rs ++ r ∷ []) (word_after 0 x (old.memory 0))) (sym is) flag;
  }

  kept_write : h.pc ≡ 4100 → g ≡ 0 → h.retired ≡ 1 → IsKept rs g r (old.memory 0) is_step.next
  unfolding write
  kept_write at first retired =
      let need = needed.Store (record { 0 = 64 }) 15 (placed 0 4 (reg h 11)) in
      let is = need_is 4100 (This write) need at write_found (write_need t s h i.zero_register) in
      let next = next_is 4100 (This write) need at write_found is in
      accessed need _ (record_is need is) (known_store first refl (ap (λ n. n + 1) retired)) (flag_later rs r (old.memory 0) f)
      (record {
        size = ap (λ k. length k.registers) next ∙ i.size;
        zero_register = zero_is;
        stands = subst (IsHartAt (rs ++ r ∷ []) g) (sym next) (releases (λ j. (at j + 4) % 2 ^ 32) first (ap (λ n. n + 1) retired));
      })

  kept_release : h.pc ≡ 4104 → g ≡ 0 → h.retired ≡ 2 → IsKept rs g r (old.memory 0) is_step.next
  unfolding release
  kept_release at first retired =
      let need = needed.Rmw (record { 0 = 0 }) Swap (reg h 11) release_label in
      let is = need_is 4104 (This release) need at release_found (release_need t s h i.zero_register) in
      let next = next_is 4104 (This release) need at release_found is in
      accessed need _ (record_is need is) (known_flag refl (λ o. let no_bit : true ≡ false = o.no_release_bit in cc))
      (inr (released_now rs r _ (record_is need is) first refl (ap (λ n. n + 1) retired) (record { writes = refl; release_bit = refl })))
      (record {
        size = ap (λ k. length k.registers) next ∙ i.size;
        zero_register = zero_is;
        stands = subst (IsHartAt (rs ++ r ∷ []) g) (sym next) (acquires (λ j. (at j + 4) % 2 ^ 32));
      })

  kept_acquire : h.pc ≡ 4108 → IsKept rs g r (old.memory 0) is_step.next
  unfolding acquire
  kept_acquire at =
      let need = needed.Load (record { 0 = 0 }) 15 acquire_label true in
      let is = need_is 4108 (This acquire) need at acquire_found (acquire_need t s h i.zero_register) in
      let next = next_is 4108 (This acquire) need at acquire_found is in
      let answer : answer_of r ≡ bytes_under all_bytes (old.memory 0) = ap answer_of (record_is need is) in
      let twelve : reg is_step.next 12 ≡ answer_of r = ap (λ k. reg k 12) next ∙ get_or-set_same h.registers 12 (answer_of r) 0 (let n = i.size in omega arith) in
      accessed need _ (record_is need is) (known_flag refl (λ o. let no_bit : true ≡ false = o.no_acquire_bit in cc)) (flag_later rs r (old.memory 0) f)
      (record {
        size = ap (λ k. length k.registers) next ∙ length-set h.registers 12 (answer_of r) ∙ i.size;
        zero_register = zero_is;
        stands = tests (ap (λ k. k.pc) next ∙ (λ j. (at j + 4) % 2 ^ 32)) (by_flag is (twelve ∙ answer) f);
      })
    where
      by_flag : is_step.need ≡ needed.Load (record { 0 = 0 }) 15 acquire_label true → reg is_step.next 12 ≡ bytes_under all_bytes (old.memory 0) → IsFlag rs (old.memory 0)
          → (reg is_step.next 12 ≡ 0) ⊎ IsAcquired (rs ++ r ∷ []) g
      by_flag is read (inl clear) = inl (read ∙ ap (bytes_under all_bytes) clear ∙ clear_read)
      by_flag is read (inr p) = inr (acquired_now rs r g _ (record_is (needed.Load (record { 0 = 0 }) 15 acquire_label true) is) p refl refl (record { reads = refl; acquire_bit = refl }))

  kept_test : h.pc ≡ 4112 → (reg h 12 ≡ 0) ⊎ IsAcquired rs g → (b : Bool) → (reg h 12 == 0) ≡ b → IsKept rs g r (old.memory 0) is_step.next
  unfolding again
  kept_test at before true clear =
      let taken : (reg h 12 == reg h 0) ≡ true = ap (λ z. reg h 12 == z) i.zero_register ∙ clear in
      branch 4112 4108 again at again_found
      (λ j. if taken j then jump_need (moved_by (at j) (negsuc 3)) else needed.Alu)
      (λ j. record h { pc = if taken j then moved_by (at j) (negsuc 3) else (h.pc + 4) % 2 ^ 32; retired = h.retired + 1 })
      (acquires refl)
  kept_test at (inl clear) false set = absurd (let e : (reg h 12 == 0) ≡ true = eq-eqb (reg h 12) 0 clear in cc)
  kept_test at (inr c) false set =
      let not_taken : (reg h 12 == reg h 0) ≡ false = ap (λ z. reg h 12 == z) i.zero_register ∙ set in
      branch 4112 4116 again at again_found
      (λ j. if not_taken j then jump_need (moved_by h.pc (negsuc 3)) else needed.Alu)
      (λ j. record h { pc = if not_taken j then moved_by h.pc (negsuc 3) else (at j + 4) % 2 ^ 32; retired = h.retired + 1 })
      (loads refl (acquired_later rs r g c))

  kept_read : h.pc ≡ 4116 → IsAcquired rs g → IsKept rs g r (old.memory 0) is_step.next
  unfolding read
  kept_read at c =
      let need = needed.Load (record { 0 = 64 }) 15 no_label false in
      let is = need_is 4116 (This read) need at read_found (read_need t s h i.zero_register) in
      let next = next_is 4116 (This read) need at read_found is in
      accessed need _ (record_is need is) (loaded_now rs r _ refl refl c) (flag_later rs r (old.memory 0) f)
      (record {
        size = ap (λ k. length k.registers) next ∙ length-set h.registers 13 _ ∙ i.size;
        zero_register = zero_is;
        stands = stops (ap (λ k. k.pc) next ∙ (λ j. (at j + 4) % 2 ^ 32));
      })

  kept_end : h.pc ≡ 4120 → IsKept rs g r (old.memory 0) is_step.next
  kept_end at =
      let need = needed.Stop (Trapped trap.Fetch h.pc) in
      let is = need_is 4120 NoWord need at end_found refl in
      let next = next_is 4120 NoWord need at end_found is in
      quiet need (record_is need is) (stopped_is_none (record { 0 = g }) (Trapped trap.Fetch h.pc)) refl
      (record { size = ap (λ k. length k.registers) next ∙ i.size; zero_register = zero_is; stands = stops (ap (λ k. k.pc) next ∙ at) })

  -- each step
  pub kept : IsKept rs g r (old.memory 0) is_step.next
  kept = by_place i.stands
    where
      by_place : IsHartAt rs g h → IsKept rs g r (old.memory 0) is_step.next
      by_place (skips pc number retired) = kept_skip pc number retired (grind arith)
      by_place (stores pc first retired) = kept_write pc first retired
      by_place (releases pc first retired) = kept_release pc first retired
      by_place (acquires pc) = kept_acquire pc
      by_place (tests pc before) = kept_test pc before (reg h 12 == 0) refl
      by_place (loads pc c) = kept_read pc c
      by_place (stops pc) = kept_end pc
