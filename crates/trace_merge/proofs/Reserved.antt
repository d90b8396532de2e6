-- An SC that succeeds in an admissible log has its word reserved in the sequential machine.
use Rattle.std.proofs.Common.{◌≡◌, ◌≢◌, ◌<◌, ℕ, List, [], ◌∷◌, ◌++◌, length, Option, Some, None, refl, sym, ◌∙◌, ap, arith}
use Rattle.std.specs.Prelude.{IsSome}
use Rattle.dash_base.specs.declared.topology.Topology.{Topology}
use Rattle.elf_load.specs.Image.{ImageView}
use Rattle.dash_event.specs.Records.{unseen, accesses_in, records_in}
use Rattle.dash_event.specs.declared.access.Access.{Access}
use Rattle.dash_event.specs.declared.access.Op.TheVariants as op
use Rattle.dash_event.specs.declared.event.Event.{Event}
use Rattle.dash_event.specs.declared.event.Kind.{Kind}
use Rattle.dash_event.specs.declared.event.Kind.TheVariants as kind
use Rattle.dash_event.specs.declared.step_record.StepRecord.TheVariants as step
use Rattle.dash_event.specs.Offered.{all_bytes}
use Rattle.flat_model.specs.State.{FlatState}
use Rattle.flat_model.specs.Step.{IsFlatStep}
use Rattle.flat_model.specs.Run.{RunsTo}
use Rattle.flat_model.specs.Race.{IsRaceFree}
use Rattle.flat_model.specs.Order.{IsAccessAt}
use Rattle.flat_model.specs.Reserved.{IsReserved}
use Rattle.flat_model.proofs.LawsOffered.{is_offered, cond_finds, cond_may_succeed}
use Rattle.dash_model.specs.Log.{IsEventAt}
use Rattle.dash_model.specs.Admissible.{IsReservedBefore, IsAdmissible}
use Rattle.trace_merge.proofs.Places.{from_place, at_place, place_before, before_place}
use Rattle.trace_merge.proofs.Offers.{has_each}
use Rattle.trace_merge.proofs.Released.{small_records, steps}
use Rattle.trace_merge.proofs.Facts.{store_has}
use Rattle.trace_merge.proofs.Commits.{after_store}
use Rattle.trace_merge.proofs.Before.{committed_before}
use Rattle.trace_merge.proofs.Writers.{IsWrite, a_store, a_rmw, writer}

-- a record with an access is of an event that has it
record IsAccessOf (k : Kind) (r : Access) : Type 0 where
  access : Access
  has : accesses_in k ≡ access ∷ []
  is : unseen access ≡ r

access_of : (k : Kind) (r : Access) → records_in k ≡ step.Access r ∷ [] → IsAccessOf k r
access_of (kind.Load a l) r makes = record { access = a; has = refl; is = cc }
access_of (kind.Store a) r makes = record { access = a; has = refl; is = cc }
access_of (kind.Rmw a l v) r makes = record { access = a; has = refl; is = cc }
access_of (kind.ScFail a) r makes = record { access = a; has = refl; is = cc }
access_of (kind.Grant a) r makes = record { access = a; has = refl; is = cc }
access_of (kind.Free f a) r makes = record { access = a; has = refl; is = cc }
access_of k r makes = absurd cc

pub some_value : (o : Option ℕ) → IsSome o → (value : ℕ) × (o ≡ Some value)
some_value None wrote = absurd cc
some_value (Some value) wrote = (value, refl)

module _ (image : ImageView) (t : Topology) (log : List Event) (f : IsAdmissible image t log) where
  -- the failing SC r stands last, in place of the succeeding one
  pub record IsFailing (n : ℕ) (a r : Access) : Type 0 where
    pub race_free : IsRaceFree (steps log n ++ step.Access r ∷ [])
    pub same_hart : r.hart ≡ a.hart
    pub same_word : r.word ≡ a.word
    pub all : r.mask ≡ all_bytes

  undisturbed : (n : ℕ) (a r : Access) → IsFailing n a r → (s : IsReservedBefore log n a) → (i : ℕ) (b : Access) → IsWrite image t log f i b → s.at < i → i < n
      → b.hart ≢ r.hart → b.word ≡ r.word → ⊥
  undisturbed n a r fails s i b (a_rmw l v at) after before differ word =
      s.no_commit i (kind.Rmw b l v) b at refl (word ∙ fails.same_word) (λ same. differ (same ∙ sym fails.same_hart)) after before
  undisturbed n a r fails s i b (a_store at) after before differ word =
      let h = store_has image t log f i b at in
      let c = committed_before image t log f n i b r h.byte (record {
        race_free = fails.race_free;
        at = at;
        before = before;
        differ = differ;
        word = word;
        small = h.within;
        first = h.has;
        second = has_each r.mask h.byte fails.all h.within;
      }) in
      let later = after_store image t log f i b c.at c.line c.version at c.is_at in
      let store_first = later.after in
      s.no_commit c.at (kind.Commit b.hart b.number c.line c.version) b c.is_at (i, at, refl, refl) (word ∙ fails.same_word) (λ same. differ (same ∙ sym fails.same_hart)) (omega arith) c.before

  -- where an access stands in the log, between the LR and the SC
  record IsBetween (n : ℕ) (a b : Access) (first : ℕ) : Type 0 where
    at : ℕ
    kind : Kind
    is_at : IsEventAt log at kind
    makes : records_in kind ≡ step.Access b ∷ []
    after : first < at
    before : at < n

  between : (n : ℕ) (a : Access) (s : IsReservedBefore log n a) (j : ℕ) (b : Access) → IsAccessAt (steps log n) j b → length (steps log s.at) < j → IsBetween n a b s.at
  between n a s j b at after =
      let o = from_place records_in small_records log n j (step.Access b) at in
      let place : j ≡ length (steps log o.at) = o.place in
      record { at = o.at; kind = o.kind; is_at = o.is_at; makes = o.makes; after = place_before records_in small_records log s.at o.at (omega arith); before = o.before }

  pub reserved : (n : ℕ) (a r : Access) → IsFailing n a r → IsReservedBefore log n a → IsReserved (steps log n) (length (steps log n)) r
  reserved n a r fails s = record {
    at = length (steps log s.at);
    reserve = unseen s.reserve;
    is_at = at_place records_in small_records log s.at n (kind.Load s.reserve s.level) (step.Access (unseen s.reserve)) s.is_at refl s.before;
    before = before_place records_in small_records log s.at n (kind.Load s.reserve s.level) (step.Access (unseen s.reserve)) s.is_at refl s.before;
    is_reserve = s.is_reserve;
    same_hart = s.same_hart ∙ sym fails.same_hart;
    same_word = s.same_word ∙ sym fails.same_word;
    no_reserve = λ j b at after before hart is.
        let w = between n a s j b at after in
        let e = access_of w.kind b w.makes in
        s.last w.at e.access (record { kind = w.kind; at = w.is_at; is = e.has }) (ap (λ x. x.op) e.is ∙ is) (ap (λ x. x.hart) e.is ∙ hart ∙ fails.same_hart) w.after w.before;
    no_cond = λ j b at after before hart is.
        let w = between n a s j b at after in
        let e = access_of w.kind b w.makes in
        s.no_cond w.at e.access (record { kind = w.kind; at = w.is_at; is = e.has }) (ap (λ x. x.op) e.is ∙ is) (ap (λ x. x.hart) e.is ∙ hart ∙ fails.same_hart) w.after w.before;
    no_write = λ j b at after before differ word memory wrote.
        let w = between n a s j b at after in
        let value = some_value b.written wrote in
        let e = writer image t log f w.at w.kind b value.0 w.is_at w.makes memory value.1 in
        undisturbed n a r fails s w.at e.access e.write w.after w.before (λ same. differ (sym (ap (λ x. x.hart) e.is) ∙ same)) (ap (λ x. x.word) e.is ∙ word);
  }

  -- so the sequential machine has reserved the word
  pub has_reserved : (n : ℕ) (a r : Access) → IsFailing n a r → IsReservedBefore log n a → r.op ≡ op.Cond → (s new : FlatState) → RunsTo image t (steps log n) s
      → IsFlatStep image t s a.hart.0 (step.Access r) new → s.reservations a.hart.0 ≡ Some a.word.0
  has_reserved n a r fails before cond s new runs does =
      let m = cond_may_succeed image t (steps log n) s runs a.hart.0 r new does cond (reserved n a r fails before) in
      let d = m.2 in
      let h = a.hart.0 in
      cond_finds s h _ d.need _ d.succeeds (record r { written = Some m.0 }) d.possible (is_offered h d.need _ (record r { written = Some m.0 }) d.recorded) cond refl
      ∙ ap (λ w. Some w.0) fails.same_word
