-- The lock words of the sequential machine are those that a log's accesses of them read.
use Rattle.std.proofs.Common.{◌≡◌, ◌⊎◌, inl, inr, ◌<◌, ℕ, false, List, [], ◌∷◌, length, Option, refl, sym, ◌∙◌, ap, subst, arith}
use Rattle.dash_base.specs.declared.topology.Topology.{Topology}
use Rattle.elf_load.specs.Image.{ImageView}
use Rattle.dash_event.specs.Records.{unseen, records_in}
use Rattle.dash_event.specs.declared.access.Access.{Access}
use Rattle.dash_event.specs.declared.event.Event.{Event}
use Rattle.dash_event.specs.declared.event.Kind.{Kind}
use Rattle.dash_event.specs.declared.event.Kind.TheVariants as kind
use Rattle.dash_event.specs.declared.step_record.StepRecord.TheVariants as step
use Rattle.dash_event.specs.Effects.{is_of_memory}
use Rattle.flat_model.specs.Order.{IsAccessAt}
use Rattle.flat_model.specs.LastBefore.{IsLockAccess, IsLockBefore}
use Rattle.dash_model.specs.Log.{IsEventAt}
use Rattle.dash_model.specs.Coherent.{ServesLock, IsLockEvent, ReadsLock, reads_first, reads_last}
use Rattle.dash_model.specs.Admissible.{IsAdmissible}
use Rattle.trace_merge.proofs.Places.{Origin, from_place, at_place, before_place}
use Rattle.trace_merge.proofs.Released.{small_records, steps}
use Rattle.trace_merge.proofs.Facts.{one_event, three, replays}
use Rattle.trace_merge.proofs.AccessEvents.{HasRecord, a_read, a_store, a_rmw, a_grant, a_free, has_record}
use Rattle.trace_merge.proofs.Writers.{same_word}

served_makes : (k : Kind) (b : Access) → ServesLock k b → records_in k ≡ step.Access (unseen b) ∷ []
served_makes (kind.Grant a) b serves = ap (λ x. step.Access (unseen x) ∷ []) serves
served_makes (kind.Free g a) b serves = ap (λ x. step.Access (unseen x) ∷ []) serves
served_makes k b serves = elim serves [ ]

one_served : (k : Kind) (a b : Access) → ServesLock k a → ServesLock k b → a ≡ b
one_served (kind.Grant c) a b x y = sym x ∙ y
one_served (kind.Free g c) a b x y = sym x ∙ y
one_served k a b x y = elim x [ ]

module _ (image : ImageView) (t : Topology) (log : List Event) (f : IsAdmissible image t log) where
  served_op : (i : ℕ) (k : Kind) (b : Access) → IsEventAt log i k → ServesLock k b → is_of_memory b.op ≡ false
  served_op i (kind.Grant a) b at serves = let e = replays image t log f i (kind.Grant a) at in ap (λ x. is_of_memory x.op) (sym serves) ∙ ap is_of_memory e.1
  served_op i (kind.Free g a) b at serves = let e = replays image t log f i (kind.Free g a) at in ap (λ x. is_of_memory x.op) (sym serves) ∙ ap is_of_memory e.1
  served_op i k b at serves = elim serves [ ]

  -- a record of a lock word is that of an event that serves it
  record IsServer (i : ℕ) (r : Access) : Type 0 where
    access : Access
    is : unseen access ≡ r
    event : IsLockEvent log i access

  server_by : (i : ℕ) (r : Access) → HasRecord image t log f i r → is_of_memory r.op ≡ false → IsServer i r
  server_by i r (a_grant b at same _ _) lock = record { access = b; is = same; event = record { kind = kind.Grant b; at = at; is = refl } }
  server_by i r (a_free g b at same _) lock = record { access = b; is = same; event = record { kind = kind.Free g b; at = at; is = refl } }
  server_by i r (a_read none memory) lock = absurd cc
  server_by i r (a_store b at same memory) lock = absurd cc
  server_by i r (a_rmw b l v at same memory) lock = absurd cc

  server : (i : ℕ) (k : Kind) (r : Access) → IsEventAt log i k → records_in k ≡ step.Access r ∷ [] → is_of_memory r.op ≡ false → IsServer i r
  server i k r at makes = server_by i r (has_record image t log f i k r at makes)

  place_of : (n j : ℕ) (b : Access) → IsLockEvent log j b → j < n → IsAccessAt (steps log n) (length (steps log j)) (unseen b)
  place_of n j b e before = at_place records_in small_records log j n e.kind (step.Access (unseen b)) e.at (served_makes e.kind b e.is) before

  place_within : (n j : ℕ) (b : Access) → IsLockEvent log j b → j < n → length (steps log j) < length (steps log n)
  place_within n j b e before = before_place records_in small_records log j n e.kind (step.Access (unseen b)) e.at (served_makes e.kind b e.is) before

  lock_access : (j address : ℕ) (b : Access) → IsLockEvent log j b → b.word.0 ≡ address → IsLockAccess address (unseen b)
  lock_access j address b e word = record { of_lock = served_op j e.kind b e.at e.is; same_word = word }

  -- the lock word of the sequential machine is what an access reads that reads what the last one before it wrote
  pub reads_agree : (n : ℕ) (a : Access) (value : Option ℕ) → ReadsLock log n a → IsLockBefore (steps log n) (length (steps log n)) a.word.0 value → a.read ≡ value
  reads_agree n a value reads before = by_read reads before
    where
      by_read : ReadsLock log n a → IsLockBefore (steps log n) (length (steps log n)) a.word.0 value → a.read ≡ value
      by_read (reads_first none zero) (inr first) = zero ∙ sym first.1
      by_read (reads_first none zero) (inl last) =
          let l = last.0 in
          let o = from_place records_in small_records log n l.at (step.Access l.access) l.is_at in
          let s = server o.at o.kind l.access o.is_at o.makes l.has.of_lock in
          absurd (none o.at s.access s.event (same_word s.access.word a.word (ap (λ x. x.word.0) s.is ∙ l.has.same_word)) o.before)
      by_read (reads_last j b e word earlier last_of read) (inr first) =
          absurd (first.0.none (length (steps log j)) (unseen b) (place_of n j b e earlier) (lock_access j a.word.0 b e (ap (λ x. x.0) word)) (place_within n j b e earlier))
      by_read (reads_last j b e word earlier last_of read) (inl last) =
          let l = last.0 in
          let o = from_place records_in small_records log n l.at (step.Access l.access) l.is_at in
          let s = server o.at o.kind l.access o.is_at o.makes l.has.of_lock in
          read ∙ by_order o s (three j o.at) ∙ ap (λ x. x.written) s.is ∙ sym last.1
        where
          by_order : (o : Origin records_in log n last.0.at (step.Access last.0.access)) (s : IsServer o.at last.0.access) → (j < o.at) ⊎ ((j ≡ o.at) ⊎ (o.at < j)) → b.written ≡ s.access.written
          by_order o s (inl later) =
              absurd (last_of o.at s.access s.event (same_word s.access.word a.word (ap (λ x. x.word.0) s.is ∙ last.0.has.same_word)) later o.before)
          by_order o s (inr (inl same)) =
              let kinds : s.event.kind ≡ e.kind = one_event log j s.event.kind e.kind (subst (λ m. IsEventAt log m s.event.kind) (sym same) s.event.at) e.at in
              ap (λ x. x.written) (one_served e.kind b s.access e.is (subst (λ k. ServesLock k s.access) kinds s.event.is))
          by_order o s (inr (inr earlier_one)) =
              let places : length (steps log o.at) < length (steps log j) = before_place records_in small_records log o.at j o.kind (step.Access last.0.access) o.is_at o.makes earlier_one in
              let place : last.0.at ≡ length (steps log o.at) = o.place in
              absurd (last.0.last (length (steps log j)) (unseen b) (place_of n j b e earlier) (lock_access j a.word.0 b e (ap (λ x. x.0) word)) (omega arith) (place_within n j b e earlier))

  -- as each access of the log does
  pub lock_agrees : (n : ℕ) (a : Access) (value : Option ℕ) → IsLockEvent log n a → IsLockBefore (steps log n) (length (steps log n)) a.word.0 value → a.read ≡ value
  lock_agrees n a value event before = reads_agree n a value (f.coherent.locks_are_chained n a event) before
