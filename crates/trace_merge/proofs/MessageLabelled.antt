-- The image of the written message passing is properly labelled.
use Rattle.std.proofs.Common.{◌≡◌, ◌⊎◌, inl, inr, ◌<◌, ℕ, ◌*◌, Bool, true, false, List, [], ◌∷◌, ◌++◌, Some, refl, sym, ◌∙◌, ap, subst, arith, slice_get}
use Rattle.std.proofs.lemmas.Bool.Decides.{nat_tests}
use Rattle.std.proofs.lemmas.List.{append-nil, append_assoc}
use Rattle.std.specs.Prelude.{◌==◌, if◌then◌else◌, is_some, IsSome}
use Rattle.dash_base.specs.Topology.{IsSimple}
use Rattle.dash_base.specs.declared.topology.Topology.{Topology}
use Rattle.elf_load.specs.Image.{opening_word, word_among, byte_among}
use Rattle.hart_core.specs.HartState.{HartState}
use Rattle.dash_base.specs.Places.{hart_count}
use Rattle.dash_event.specs.declared.access.Access.{Access}
use Rattle.dash_event.specs.declared.step_record.StepRecord.{StepRecord}
use Rattle.dash_event.specs.declared.step_record.StepRecord.TheVariants as step
use Rattle.flat_model.specs.Labels.{IsOrdinary}
use Rattle.flat_model.specs.State.{FlatState, opening_state}
use Rattle.flat_model.specs.Step.{IsFlatStep}
use Rattle.dash_event.specs.Effects.{hart_of}
use Rattle.flat_model.specs.Run.{AreFlatSteps, IsSequentialRun}
use Rattle.flat_model.specs.Order.{IsAccessAt, HappensBefore}
use Rattle.flat_model.specs.Race.{IsRace, IsProperlyLabelled}
use Rattle.flat_model.proofs.LawsOffered.{numbers_rise, across}
use Rattle.trace_merge.specs.WrittenLogs.{message_image}
use Rattle.trace_merge.proofs.Facts.{three}
use Rattle.trace_merge.proofs.Before.{same_hart}
use Rattle.trace_merge.proofs.MessageRuns.{IsAcquired, IsKnown, known_store, known_flag, known_load, IsHart, skips, Holds, hart_later, known_all, IsReleased}
use Rattle.trace_merge.proofs.MessageSteps.{IsKept, kept}

-- a hart of the machine, which moved or did not
hart_after : (rs : List StepRecord) (r : StepRecord) (old : FlatState) (next : HartState) (g : ℕ) (moved : Bool) → (g == (hart_of r).0) ≡ moved
    → IsHart (rs ++ r ∷ []) (hart_of r).0 next → IsHart rs g (old.harts g) → IsHart (rs ++ r ∷ []) g (if moved then next else old.harts g)
hart_after rs r old next g true same now before = let e : g ≡ (hart_of r).0 = grind (arith, nat_tests) in subst (λ x. IsHart (rs ++ r ∷ []) x next) (sym e) now
hart_after rs r old next g false other now before = hart_later rs r g (old.harts g) before

module _ (t : Topology) (s : IsSimple 2 1 8 t) where
  two_harts : hart_count t ≡ 2
  two_harts = λ i. s.clusters_is i * s.harts_is i

  holds_after : (rs : List StepRecord) (old : FlatState) (r : StepRecord) (new : FlatState) → Holds rs old → IsFlatStep message_image t old (hart_of r).0 r new → Holds (rs ++ r ∷ []) new
  holds_after rs old r new h does =
      let g = (hart_of r).0 in
      let below = does.in_range in
      let count : hart_count t ≡ 2 = two_harts in
      let in_range : (hart_of r).0 < 2 = omega (arith, count) in
      let k : IsKept rs g r (old.memory 0) does.next = kept t s rs old g in_range r new does (h.harts g in_range) h.flag in
      let known = known_all rs r h.known k.access in
      subst (Holds (rs ++ r ∷ [])) (sym does.after)
      (record { harts = λ g' small. hart_after rs r old does.next g' (g' == g) refl k.hart (h.harts g' small); flag = k.flag; known = known })

  all_hold : (done rs : List StepRecord) (old new : FlatState) → Holds done old → AreFlatSteps message_image t old rs new → Holds (done ++ rs) new
  all_hold done [] old new h steps = subst (λ rs. Holds rs new) (sym (append-nil done)) (subst (Holds done) (sym steps) h)
  all_hold done (r ∷ rs) old new h steps =
      subst (λ xs. Holds xs new) (append_assoc done (r ∷ []) rs) (all_hold (done ++ r ∷ []) rs steps.0 new (holds_after done old r steps.0 h steps.1) steps.2)

  clear : opening_word message_image 0 ≡ 0
  unfolding word_among byte_among
  clear = refl

  holds_first : Holds [] (opening_state message_image t)
  holds_first = record {
    harts = λ g small. record { size = refl; zero_register = refl; stands = skips refl refl refl };
    flag = inl clear;
    known = λ i a at. absurd (cc);
  }

  -- the store of the message happens before each load of it by the other hart
  ordered : (rs : List StepRecord) (run : IsSequentialRun message_image t rs) (i j : ℕ) (a b : Access) → IsAccessAt rs i a → IsAccessAt rs j b → a.hart.0 ≡ 0 → a.number ≡ 2
      → (c : IsAcquired rs b.hart.0) → c.at < j → HappensBefore rs i j
  ordered rs run i j a b at_i at_j writer second c before =
      across rs i p.at c.at j (before_release (three i p.at))
      (record { first = step.Access a; second = step.Access p.release; first_at = at_i; second_at = p.is_at; same_hart = same })
      c.after
      (record { first = p.release; second = c.acquire; first_at = p.is_at; second_at = c.is_at; release = p.is_release; acquire = c.is_acquire; same_word = λ n. record { 0 = (p.of_flag ∙ sym c.of_flag) n } })
      before
      (record { first = step.Access c.acquire; second = step.Access b; first_at = c.is_at; second_at = at_j; same_hart = same_hart c.acquire.hart b.hart c.of_hart })
    where
      p : IsReleased rs
      p = c.released

      same : a.hart ≡ p.release.hart
      same = same_hart a.hart p.release.hart (writer ∙ sym p.of_writer)

      before_release : (i < p.at) ⊎ ((i ≡ p.at) ⊎ (p.at < i)) → i < p.at
      before_release (inl lt) = lt
      before_release (inr (inl e)) =
          let found : Some (step.Access a) ≡ Some (step.Access p.release) = sym at_i ∙ ap (slice_get rs) e ∙ p.is_at in
          let is : a ≡ p.release = cc in
          let number : a.number ≡ p.release.number = ap (λ x. x.number) is in
          let third = p.third in
          absurd (omega (arith, number, third, second))
      before_release (inr (inr gt)) =
          let rise : p.release.number < a.number = numbers_rise message_image t _ rs run.final run.runs p.at i p.release a p.is_at at_i gt (sym same) in
          let third = p.third in
          absurd (omega (arith, rise, third, second))

  clash : (rs : List StepRecord) (run : IsSequentialRun message_image t rs) (i j : ℕ) (race : IsRace rs i j) → IsKnown rs i race.first → IsKnown rs j race.second → ⊥
  clash rs run i j race (known_store h w n) (known_store h' w' n') = race.harts_differ (same_hart race.first.hart race.second.hart (h ∙ sym h'))
  clash rs run i j race (known_store h w n) (known_load w' reads c before) = race.not_before (ordered rs run i j race.first race.second race.first_at race.second_at h n c before)
  clash rs run i j race (known_load w reads c before) (known_store h w' n) = race.not_after (ordered rs run j i race.second race.first race.second_at race.first_at h n c before)
  clash rs run i j race (known_load w reads c before) (known_load w' reads' c' before') = none race.one_writes
    where
      none : IsSome race.first.written ⊎ IsSome race.second.written → ⊥
      none (inl wrote) = let e : false ≡ true = ap is_some (sym reads) ∙ wrote in cc
      none (inr wrote) = let e : false ≡ true = ap is_some (sym reads') ∙ wrote in cc
  clash rs run i j race (known_flag w labelled) (known_flag w' labelled') = none race.one_is_ordinary
    where
      none : IsOrdinary race.first ⊎ IsOrdinary race.second → ⊥
      none (inl o) = labelled o
      none (inr o) = labelled' o
  clash rs run i j race (known_flag w labelled) (known_store h' w' n') = let e : 0 ≡ 64 = sym w ∙ ap (λ x. x.0) race.same_word ∙ w' in absurd (omega (arith, e))
  clash rs run i j race (known_flag w labelled) (known_load w' reads' c' before') = let e : 0 ≡ 64 = sym w ∙ ap (λ x. x.0) race.same_word ∙ w' in absurd (omega (arith, e))
  clash rs run i j race (known_store h w n) (known_flag w' labelled') = let e : 64 ≡ 0 = sym w ∙ ap (λ x. x.0) race.same_word ∙ w' in absurd (omega (arith, e))
  clash rs run i j race (known_load w reads c before) (known_flag w' labelled') = let e : 64 ≡ 0 = sym w ∙ ap (λ x. x.0) race.same_word ∙ w' in absurd (omega (arith, e))

  pub is_labelled : IsProperlyLabelled message_image t
  is_labelled rs run i j race =
      let h = all_hold [] rs (opening_state message_image t) run.final holds_first run.runs in
      clash rs run i j race (h.known i race.first race.first_at) (h.known j race.second race.second_at)
