-- Happens-before, over any list of records.
use Rattle.std.proofs.Common.{◌≡◌, ◌≢◌, ◌⊎◌, inl, inr, ◌<◌, ℕ, true, false, List, [], ◌∷◌, length, Some, refl, sym, ◌∙◌, ap, subst, arith}
use Rattle.std.proofs.lemmas.Option.{slice_get_within}
use Rattle.dash_event.specs.declared.step_record.StepRecord.{StepRecord}
use Rattle.dash_event.specs.declared.access.Access.{Access}
use Rattle.dash_event.specs.declared.step_record.StepRecord.TheVariants as step
use Rattle.flat_model.specs.Labels.{IsOrdinary}
use Rattle.dash_event.specs.Effects.{hart_of}
use Rattle.flat_model.specs.Race.{IsRace}
use Rattle.flat_model.specs.OrderLaws.{AreInConflict}
use Rattle.flat_model.specs.Order.{AreOfOneHart, AreReleaseAndAcquire, HappensBefore, directly, chained}

-- the later of two joined positions is one of the list
joined_within : (rs : List StepRecord) (i j : ℕ) → AreOfOneHart rs i j ⊎ AreReleaseAndAcquire rs i j → j < length rs
joined_within rs i j (inl d) = slice_get_within rs j d.second d.second_at
joined_within rs i j (inr d) = slice_get_within rs j _ d.second_at

pub goes_forward : (rs : List StepRecord) (i j : ℕ) → HappensBefore rs i j → (i < j) × (j < length rs)
goes_forward rs i j (directly d) = (d.later, joined_within rs i j d.joined)
goes_forward rs i k (chained j first second) =
    let a = goes_forward rs i j first in let b = goes_forward rs j k second in (omega arith, b.1)

pub across : (rs : List StepRecord) (i r q j : ℕ) → i < r → AreOfOneHart rs i r → r < q → AreReleaseAndAcquire rs r q → q < j → AreOfOneHart rs q j
    → HappensBefore rs i j
across rs i r q j before_release first between sync after_acquire second =
    chained r (directly (record { later = before_release; joined = inl first }))
    (chained q (directly (record { later = between; joined = inr sync })) (directly (record { later = after_acquire; joined = inl second })))

-- two accesses of different harts, of which one is ordinary, are in no order by themselves
not_joined : (a b : Access) → a.hart ≢ b.hart → IsOrdinary a ⊎ IsOrdinary b
    → ¬ (AreOfOneHart (step.Access a ∷ step.Access b ∷ []) 0 1 ⊎ AreReleaseAndAcquire (step.Access a ∷ step.Access b ∷ []) 0 1)
not_joined a b differ ordinary (inl one) =
    let first : step.Access a ≡ one.first = cc in
    let second : step.Access b ≡ one.second = cc in
    differ (ap hart_of first ∙ one.same_hart ∙ sym (ap hart_of second))
not_joined a b differ (inl plain) (inr sync) =
    let first : a ≡ sync.first = (let found : Some (step.Access a) ≡ Some (step.Access sync.first) = sync.first_at in cc) in
    let no : true ≡ false = sym sync.release.release_bit ∙ ap (λ x. x.labels.rl) (sym first) ∙ plain.no_release_bit in cc
not_joined a b differ (inr plain) (inr sync) =
    let second : b ≡ sync.second = (let found : Some (step.Access b) ≡ Some (step.Access sync.second) = sync.second_at in cc) in
    let no : true ≡ false = sym sync.acquire.acquire_bit ∙ ap (λ x. x.labels.aq) (sym second) ∙ plain.no_acquire_bit in cc

not_ordered : (a b : Access) → a.hart ≢ b.hart → IsOrdinary a ⊎ IsOrdinary b → (i j : ℕ) → i ≡ 0 → j ≡ 1 → ¬ HappensBefore (step.Access a ∷ step.Access b ∷ []) i j
not_ordered a b differ ordinary i j is_first is_second (directly d) =
    not_joined a b differ ordinary (subst (λ n. AreOfOneHart (step.Access a ∷ step.Access b ∷ []) 0 n ⊎ AreReleaseAndAcquire (step.Access a ∷ step.Access b ∷ []) 0 n) is_second
    (subst (λ n. AreOfOneHart (step.Access a ∷ step.Access b ∷ []) n j ⊎ AreReleaseAndAcquire (step.Access a ∷ step.Access b ∷ []) n j) is_first d.joined))
not_ordered a b differ ordinary i k is_first is_second (chained j first second) =
    let one = goes_forward (step.Access a ∷ step.Access b ∷ []) i j first in
    let two = goes_forward (step.Access a ∷ step.Access b ∷ []) j k second in omega arith

pub lone_race : (a b : Access) → AreInConflict (step.Access a ∷ step.Access b ∷ []) 0 1 → IsOrdinary a ⊎ IsOrdinary b → IsRace (step.Access a ∷ step.Access b ∷ []) 0 1
lone_race a b conflict ordinary =
    let first : a ≡ conflict.first = (let found : Some (step.Access a) ≡ Some (step.Access conflict.first) = conflict.first_at in cc) in
    let second : b ≡ conflict.second = (let found : Some (step.Access b) ≡ Some (step.Access conflict.second) = conflict.second_at in cc) in
    let differ : a.hart ≢ b.hart = (λ same. conflict.harts_differ (sym (ap (λ x. x.hart) first) ∙ same ∙ ap (λ x. x.hart) second)) in
    record {
      first = conflict.first;
      second = conflict.second;
      first_at = conflict.first_at;
      second_at = conflict.second_at;
      harts_differ = conflict.harts_differ;
      same_word = conflict.same_word;
      masks_meet = conflict.common_byte;
      one_writes = conflict.one_writes;
      one_is_ordinary = subst (λ x. IsOrdinary x ⊎ IsOrdinary conflict.second) first (subst (λ x. IsOrdinary a ⊎ IsOrdinary x) second ordinary);
      not_before = not_ordered a b differ ordinary 0 1 refl refl;
      not_after = λ back. (let forward = goes_forward (step.Access a ∷ step.Access b ∷ []) 1 0 back in omega arith);
    }
