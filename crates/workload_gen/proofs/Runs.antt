-- Every sequential run of the workload keeps the invariant, and what it comes to.
use Rattle.std.proofs.Common.{Bool, List, [], ap, arith, false, inl, inr, refl, subst, suc, sym, true, zero, ℕ, ◌*◌, ◌+◌, ◌++◌, ◌-◌, ◌<◌, ◌^◌, ◌∙◌, ◌∷◌, ◌≡◌, append-nil}
use Rattle.std.proofs.lemmas.Bool.Decides.{nat_tests}
use Rattle.std.proofs.lemmas.List.{append_assoc}
use Rattle.dash_base.specs.Places.{hart_count}
use Rattle.dash_base.specs.declared.id.WordAddr.{WordAddr}
use Rattle.dash_base.specs.declared.need.Need.{Need}
use Rattle.dash_base.specs.declared.need.Need.TheVariants as needed
use Rattle.dash_base.specs.declared.topology.Topology.{Topology}
use Rattle.dash_event.specs.Effects.{hart_of}
use Rattle.dash_event.specs.declared.step_record.StepRecord.{StepRecord}
use Rattle.elf_load.specs.Image.{byte_among, opening_word, word_among}
use Rattle.flat_model.specs.Run.{AreFlatSteps, IsCompleteSequentialRun, IsFlatStopped, RunsTo}
use Rattle.flat_model.specs.State.{FlatState, opening_state}
use Rattle.hart_core.specs.HartState.{HartState, can_go_on}
use Rattle.hart_core.specs.Meaning.{Does, Needs, after_need}
use Rattle.workload_gen.specs.Guarded.{CountersAreGuarded}
use Rattle.workload_gen.specs.LastStores.{last_of, stores_among}
use Rattle.workload_gen.specs.Program.{image_of}
use Rattle.workload_gen.specs.Progress.{IsInside, Outside, Progress}
use Rattle.workload_gen.specs.RunLaws.{CountersComeToTotals, HartsAreDone, HartsOnlyExit, IsDone, LastStoresWriteTotals, NothingIsPut}
use Rattle.workload_gen.specs.Workload.{IsMachine, added, counter_of, counter_word, draw, lock_word, sum_below, total, turns}
use Rattle.workload_gen.proofs.Changed.{sum_same}
use Rattle.workload_gen.proofs.Harts.{Registers}
use Rattle.workload_gen.proofs.Invariant.{Holds, step_kept}
use Rattle.workload_gen.proofs.Moving as moving
use Rattle.workload_gen.proofs.Moving.{HasExited, Moves, counter_low, goes_or_exited, moved}
use Rattle.workload_gen.proofs.Stages.{At_seed_upper, HartIs, at}

none_added : (seed k n : ℕ) → sum_below (λ h. added seed k h 0) n ≡ 0
none_added seed k zero = refl
none_added seed k (suc n) = let rest = none_added seed k n in omega arith

opens_at_zero : (seed k : ℕ) → opening_word (image_of seed) (counter_word k) ≡ 0
unfolding word_among byte_among
opens_at_zero seed k = grind (arith, nat_tests)

module _ (seed : ℕ) (seed_small : seed < 2 ^ 32) (t : Topology) (s : IsMachine t) where
  all_harts : hart_count t ≡ 64
  all_harts = let c = s.clusters_is in let h = s.harts_is in (λ j. c j * h j)

  first_registers : ℕ → Registers
  first_registers h = record { sp = t.base + t.memory - h * t.stack; t0 = 0; t1 = 0; t2 = 0; s1 = 0; a0 = h; a1 = hart_count t; a7 = 0; s2 = 0; s3 = 0; s4 = 0; s5 = 0; s6 = 0; s7 = 0; t3 = 0; t4 = 0; t5 = 0; t6 = 0 }

  opens : Holds seed [] (opening_state (image_of seed) t)
  unfolding first_registers
  opens = record {
    p = λ h. at 0 Outside;
    harts = λ h low. At_seed_upper (first_registers h);
    locks = record {
      low = λ h k below inside. absurd inside;
      free = λ h k below none inside. inside;
      taken = λ k low some. absurd (some refl);
      alone = λ g h k low_g low_h a b. absurd a;
    };
    values = record {
      done = λ h low. omega arith;
      sums = λ k low. opens_at_zero seed k ∙ sym (none_added seed k 64);
      agrees = λ h low. tt;
    };
    guards = record { inside = λ h k low inside. absurd inside; all = λ j a there. absurd (cc) };
    last = λ k low. sym (opens_at_zero seed k);
    console = refl;
  }

  steps_kept : (rs more : List StepRecord) (old new : FlatState) → Holds seed rs old → AreFlatSteps (image_of seed) t old more new → Holds seed (rs ++ more) new
  steps_kept rs [] old new i steps = subst (Holds seed (rs ++ [])) (sym steps) (subst (λ z. Holds seed z old) (sym (append-nil rs)) i)
  steps_kept rs (r ∷ more) old new i steps =
      let h = (hart_of r).0 in
      let low = subst (λ n. h < n) all_harts steps.1.in_range in
      let next = step_kept seed seed_small t s rs old i h low r steps.0 steps.1 in
      subst (λ z. Holds seed z new) (append_assoc rs (r ∷ []) more) (steps_kept (rs ++ r ∷ []) more steps.0 new next steps.2)

  pub holds : (rs : List StepRecord) (st : FlatState) → RunsTo (image_of seed) t rs st → Holds seed rs st
  holds rs st run = steps_kept [] rs (opening_state (image_of seed) t) st opens run

  -- ---- where all have stopped

  -- what a hart is outside of that asks for a lock word
  record AsksOutside (h : ℕ) (p : Progress) (word : WordAddr) : Type 0 where
    done : ℕ
    outside : p ≡ at done Outside
    own : word.0 ≡ lock_word (counter_of (draw seed h (suc done)))

  one_ask : (a b : WordAddr) (x y : ℕ) → needed.Ask a x ≡ needed.Ask b y → a.0 ≡ b.0
  one_ask a b x y e = cc

  asks_by : (h : ℕ) (need : Need) (word : WordAddr) (value answer : ℕ) (x y : Progress) → need ≡ needed.Ask word value → Moves seed h need answer x y → AsksOutside h x word
  asks_by h need word value answer _ _ is (moving.Quiet p e) = absurd (let no : needed.Alu ≡ needed.Ask word value = sym e ∙ is in cc)
  asks_by h need word value answer _ _ is (moving.Asks n e) = record { done = n; outside = refl; own = one_ask word _ value 1 (sym is ∙ e) }
  asks_by h need word value answer _ _ is (moving.Loads n k e) = absurd (let no = sym e ∙ is in cc)
  asks_by h need word value answer _ _ is (moving.Sums n k v e) = absurd (let no : needed.Alu ≡ needed.Ask word value = sym e ∙ is in cc)
  asks_by h need word value answer _ _ is (moving.Stores n k v few its e) = absurd (let no = sym e ∙ is in cc)
  asks_by h need word value answer _ _ is (moving.Unlocks n k e) = absurd (let no = sym e ∙ is in cc)
  asks_by h need word value answer _ _ is (moving.Exits n e) = absurd (let no = sym e ∙ is in cc)

  asks_outside : (h : ℕ) (p : Progress) (x : HartState) (word : WordAddr) (value : ℕ) → HartIs seed h p x → Needs (image_of seed) t x (needed.Ask word value) → AsksOutside h p word
  asks_outside h p x word value is needs =
      let need = needed.Ask word value in
      let does : Does (image_of seed) t x need 0 (after_need x needs.found need 0) = record { goes = needs.goes; found = needs.found; is_found = needs.is_found; needs = needs.needs; after = refl } in
      let m = moved seed h seed_small t s p x is need 0 (after_need x needs.found need 0) does in
      asks_by h need word value 0 p m.to refl m.move

  not_both : (b : Bool) → b ≡ true → b ≡ false → ⊥
  not_both b goes still = absurd (cc)

  module _ (rs : List StepRecord) (st : FlatState) (i : Holds seed rs st) (stopped : (h : ℕ) → h < 64 → IsFlatStopped (image_of seed) t st h) where
    rests : (h : ℕ) → h < 64 → can_go_on t (st.harts h) ≡ false → HasExited seed h seed_small t s (i.p h) (st.harts h)
    rests h low still = elim (goes_or_exited seed h seed_small t s (i.p h) (st.harts h) (i.harts h low)) [
      | inl goes ↦ absurd (not_both (can_go_on t (st.harts h)) goes still)
      | inr done ↦ done
    ]

    -- a hart that has stopped is outside
    outside : (h : ℕ) → h < 64 → (k : ℕ) → IsInside k (i.p h).section → ⊥
    outside h low k inside = elim (stopped h low) [
      | inl still ↦ subst (λ z. IsInside k z.section) (rests h low still).progress inside
      | inr blocked ↦ subst (λ z. IsInside k z.section) (asks_outside h (i.p h) (st.harts h) blocked.word blocked.value (i.harts h low) blocked.asks).outside inside
    ]

    pub exited : (h : ℕ) → h < 64 → HasExited seed h seed_small t s (i.p h) (st.harts h)
    exited h low = elim (stopped h low) [
      | inl still ↦ rests h low still
      | inr blocked ↦ absurd (let asks = asks_outside h (i.p h) (st.harts h) blocked.word blocked.value (i.harts h low) blocked.asks in
          let held = i.locks.taken (counter_of (draw seed h (suc asks.done))) (counter_low seed h (suc asks.done)) (λ none. blocked.taken (ap st.locks asks.own ∙ none)) in
          outside held.hart held.in_range (counter_of (draw seed h (suc asks.done))) held.inside)
    ]

    pub total_is : (k : ℕ) → k < 64 → st.memory (counter_word k) ≡ total seed k
    unfolding total turns
    total_is k low = i.values.sums k low ∙ sum_same (λ h. added seed k h (i.p h).done) (λ h. added seed k h 468) 64 (λ h below. ap (λ z. added seed k h z.done) (exited h below).progress)

pub counters_are_guarded : CountersAreGuarded
counters_are_guarded seed t rs small s run j a there = (holds seed small t s rs run.final run.runs).guards.all j a there

pub harts_only_exit : HartsOnlyExit
harts_only_exit seed t rs st small s run h low =
    let i = holds seed small t s rs st run in
    elim (goes_or_exited seed h small t s (i.p h) (st.harts h) (i.harts h low)) [
      | inl goes ↦ inl goes
      | inr done ↦ inr (record { end = done.end; retired = done.retired })
    ]

pub nothing_is_put : NothingIsPut
nothing_is_put seed t rs st small s run = (holds seed small t s rs st run).console

module _ (seed : ℕ) (t : Topology) (rs : List StepRecord) (st : FlatState) (small : seed < 2 ^ 32) (s : IsMachine t) (c : IsCompleteSequentialRun (image_of seed) t rs st) where
  kept : Holds seed rs st
  kept = holds seed small t s rs st c.runs

  all_stopped : (h : ℕ) → h < 64 → IsFlatStopped (image_of seed) t st h
  all_stopped h low = c.stopped h (subst (λ n. h < n) (sym (all_harts seed small t s)) low)

  pub done : (h : ℕ) → h < 64 → IsDone (st.harts h)
  done h low = let e = exited seed small t s rs st kept all_stopped h low in record { end = e.end; retired = e.retired }

  pub in_memory : (k : ℕ) → k < 64 → st.memory (counter_word k) ≡ total seed k
  in_memory k low = total_is seed small t s rs st kept all_stopped k low

  pub last_stored : (k : ℕ) → k < 64 → last_of (stores_among (counter_word k) rs) ≡ total seed k
  last_stored k low = kept.last k low ∙ in_memory k low

pub harts_are_done : HartsAreDone
harts_are_done seed t rs st small s c h low = done seed t rs st small s c h low

pub counters_come_to_totals : CountersComeToTotals
counters_come_to_totals seed t rs st small s c k low = in_memory seed t rs st small s c k low

pub last_stores_write_totals : LastStoresWriteTotals
last_stores_write_totals seed t rs st small s c k low = last_stored seed t rs st small s c k low
