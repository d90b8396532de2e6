-- The one use of happens-before and of the absence of races: an ordinary store of another hart, which conflicts with an access that stands last, is parted from it by a release.
use Rattle.std.proofs.Common.{◌≡◌, ◌≢◌, ◌⊎◌, inl, inr, ◌<◌, ◌≤◌, ℕ, ◌+◌, List, [], ◌∷◌, ◌++◌, length, refl, ◌∙◌, arith}
use Rattle.std.specs.Prelude.{IsSome}
use Rattle.dash_base.specs.declared.id.HartId.{HartId}
use Rattle.dash_event.specs.Records.{records_in}
use Rattle.dash_event.specs.declared.access.Access.{Access}
use Rattle.dash_event.specs.declared.event.Event.{Event}
use Rattle.dash_event.specs.declared.event.Kind.{Kind}
use Rattle.dash_event.specs.declared.event.Kind.TheVariants as kind
use Rattle.dash_event.specs.declared.step_record.StepRecord.{StepRecord}
use Rattle.dash_event.specs.declared.step_record.StepRecord.TheVariants as step
use Rattle.flat_model.specs.Labels.{IsRelease, IsOrdinary}
use Rattle.flat_model.specs.Order.{IsAccessAt, HappensBefore}
use Rattle.flat_model.specs.Race.{MasksMeet, IsRaceFree}
use Rattle.flat_model.proofs.LawsOffered.{goes_forward}
use Rattle.dash_model.specs.Log.{IsEventAt}
use Rattle.trace_merge.proofs.Places.{IsSmall, upto, InEither, in_either, in_left, at_end, from_place, at_place, before_place}
use Rattle.trace_merge.proofs.Order.{IsReleasedBetween, parted}

pub small_records : (k : Kind) → IsSmall (records_in k)
small_records (kind.Alu h pc) = tt
small_records (kind.Fence h pc) = tt
small_records (kind.Hint h pc s) = tt
small_records (kind.Put h pc b) = tt
small_records (kind.Stop h pc e) = tt
small_records (kind.Load a l) = tt
small_records (kind.Store a) = tt
small_records (kind.Rmw a l v) = tt
small_records (kind.ScFail a) = tt
small_records (kind.Grant a) = tt
small_records (kind.Free f a) = tt
small_records k = tt

-- the records of the first events
abbrev pub steps : List Event → ℕ → List StepRecord
steps log n = upto records_in log n

-- a release of a hart among the events from position i to position n
pub record IsReleasedSince (log : List Event) (i n : ℕ) (hart : HartId) : Type 0 where
  pub at : ℕ
  pub kind : Kind
  pub is_at : IsEventAt log at kind
  pub release : Access
  pub makes : records_in kind ≡ step.Access release ∷ []
  pub from : i ≤ at
  pub before : at < n
  pub of_hart : release.hart ≡ hart
  pub is_release : IsRelease release

from_or_before : (i j : ℕ) → (i ≤ j) ⊎ (j < i)
from_or_before i j = grind arith

-- a release between places is one between events
in_log : (log : List Event) (n i p : ℕ) (b r : Access) → p < length (steps log n) → length (steps log i) ≤ p → IsRelease r
    → InEither (steps log n) (step.Access b ∷ []) p (step.Access r) → IsReleasedSince log i n r.hart
in_log log n i p b r before from release (inr s) = absurd (let e : p ≡ length (steps log n) + s.0 = s.1 in omega arith)
in_log log n i p b r before from release (inl at) =
    let o = from_place records_in small_records log n p (step.Access r) at in
    let place : p ≡ length (steps log o.at) = o.place in
    record {
      at = o.at;
      kind = o.kind;
      is_at = o.is_at;
      release = r;
      makes = o.makes;
      from = from_by o.at o.kind o.is_at o.makes place (from_or_before i o.at);
      before = o.before;
      of_hart = refl;
      is_release = release;
    }
  where
    from_by : (q : ℕ) (k : Kind) → IsEventAt log q k → records_in k ≡ step.Access r ∷ [] → p ≡ length (steps log q) → (i ≤ q) ⊎ (q < i) → i ≤ q
    from_by q k is_at makes place (inl le) = le
    from_by q k is_at makes place (inr lt) = absurd (let b = before_place records_in small_records log q i k (step.Access r) is_at makes lt in omega arith)

pub released : (log : List Event) (n i : ℕ) (k : Kind) (a b : Access) → IsRaceFree (steps log n ++ step.Access b ∷ [])
    → IsEventAt log i k → records_in k ≡ step.Access a ∷ [] → i < n → a.hart ≢ b.hart → a.word ≡ b.word → MasksMeet a b → IsSome a.written → IsOrdinary a
    → (IsReleasedSince log i n a.hart → ⊥) → ⊥
released log n i k a b race_free at makes before differ word meet writes ordinary not_released =
    let rs = steps log n ++ step.Access b ∷ [] in
    let p = length (steps log i) in
    let q = length (steps log n) in
    let first_at : IsAccessAt rs p a = in_left (steps log n) (step.Access b ∷ []) p (step.Access a) (at_place records_in small_records log i n k (step.Access a) at makes before) in
    let second_at : IsAccessAt rs q b = at_end (steps log n) (step.Access b) in
    let earlier : p < q = before_place records_in small_records log i n k (step.Access a) at makes before in
    let apart : ¬ HappensBefore rs p q = (λ h. part (parted rs p q h (step.Access a) (step.Access b) first_at second_at)) in
    race_free p q (record {
      first = a;
      second = b;
      first_at = first_at;
      second_at = second_at;
      harts_differ = differ;
      same_word = word;
      masks_meet = meet;
      one_writes = inl writes;
      one_is_ordinary = inl ordinary;
      not_before = apart;
      not_after = λ back. (let forward = goes_forward rs q p back in let f : q < p = forward.0 in omega arith);
    })
  where
    part : (a.hart ≡ b.hart) ⊎ IsReleasedBetween (steps log n ++ step.Access b ∷ []) (length (steps log i)) (length (steps log n)) a.hart → ⊥
    part (inl same) = differ same
    part (inr r) =
        let since = in_log log n i r.at b r.release r.before r.from r.is_release (in_either (steps log n) (step.Access b ∷ []) r.at (step.Access r.release) r.is_at) in
        not_released (record { at = since.at; kind = since.kind; is_at = since.is_at; release = since.release; makes = since.makes; from = since.from; before = since.before; of_hart = since.of_hart ∙ r.of_hart; is_release = since.is_release })
