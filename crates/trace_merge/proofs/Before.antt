-- The key: what a hart stored is committed before a conflicting access of another hart, and that access sees it; and conflicting writes commit in the order in which they stand.
use Rattle.std.proofs.Common.{◌≡◌, ◌≢◌, ◌⊎◌, inl, inr, ◌<◌, ◌≤◌, ℕ, suc, true, false, List, [], ◌∷◌, ◌++◌, refl, sym, ◌∙◌, ap, subst, arith}
use Rattle.std.specs.Prelude.{is_some, slice_get}
use Rattle.dash_base.specs.Words.{has_byte}
use Rattle.dash_base.specs.declared.id.ClusterId.{ClusterId}
use Rattle.dash_base.specs.declared.id.HartId.{HartId}
use Rattle.dash_base.specs.declared.id.LineId.{LineId}
use Rattle.dash_base.specs.declared.topology.Topology.{Topology}
use Rattle.dash_msg.specs.declared.msg.Msg.TheVariants.{Unlock}
use Rattle.elf_load.specs.Image.{ImageView}
use Rattle.dash_base.specs.Places.{line_of}
use Rattle.dash_event.specs.Records.{unseen, records_in}
use Rattle.dash_event.specs.declared.access.Access.{Access}
use Rattle.dash_event.specs.declared.event.Event.{Event}
use Rattle.dash_event.specs.declared.event.Kind.{Kind}
use Rattle.dash_event.specs.declared.event.Kind.TheVariants as kind
use Rattle.dash_event.specs.declared.step_record.StepRecord.{StepRecord}
use Rattle.dash_event.specs.declared.step_record.StepRecord.TheVariants as step
use Rattle.flat_model.specs.Labels.{IsRelease}
use Rattle.dash_event.specs.Effects.{hart_of}
use Rattle.flat_model.specs.Race.{IsRaceFree}
use Rattle.dash_model.specs.Log.{IsEventAt, IsShown, IsRecordEvent}
use Rattle.dash_model.specs.Coherent.{IsCommittedBefore}
use Rattle.dash_model.specs.Release.{IsReleaseEvent}
use Rattle.dash_model.specs.Admissible.{IsAdmissible}
use Rattle.trace_merge.proofs.Places.{upto_more, made_by}
use Rattle.trace_merge.proofs.Released.{steps, IsReleasedSince, released}
use Rattle.trace_merge.proofs.Facts.{one_event, three, plain_store}
use Rattle.trace_merge.proofs.AccessEvents.{HasRecord, a_read, a_store, a_rmw, a_grant, a_free, has_record}
use Rattle.trace_merge.proofs.Commits.{committed_or_not, committed_later, one_commit, after_store, commit_event}

pub same_hart : (g h : HartId) → g.0 ≡ h.0 → g ≡ h
same_hart g h e = λ i. record { 0 = e i }

module _ (image : ImageView) (t : Topology) (log : List Event) (f : IsAdmissible image t log) where
  -- a release of a hart after position i and before position n
  record IsPoint (i n : ℕ) (hart : HartId) : Type 0 where
    at : ℕ
    event : IsReleaseEvent image log at hart
    after : i < at
    before : at < n

  later_event : (i q : ℕ) (k k' : Kind) → IsEventAt log i k → IsEventAt log q k' → i ≤ q → (k ≡ k' → ⊥) → i < q
  later_event i q k k' at_i at_q from differ = by_order (three i q)
    where
      by_order : (i < q) ⊎ ((i ≡ q) ⊎ (q < i)) → i < q
      by_order (inl before) = before
      by_order (inr (inl same)) = absurd (differ (one_event log i k k' at_i (subst (λ m. IsEventAt log m k') (sym same) at_q)))
      by_order (inr (inr after)) = absurd (omega arith)

  -- the Unlock of a Free was sent after the store
  sent_point : (i q n : ℕ) (from : ClusterId) (a b : Access) → IsEventAt log i (kind.Store a) → IsEventAt log q (kind.Free from b) → i < q → q < n → b.hart ≡ a.hart → IsPoint i n a.hart
  sent_point i q n from a b at_i at_q after before hart =
      let s = f.frees_are_sent q from b at_q in
      let before_free = s.before in
      record {
        at = s.at;
        event = record { kind = kind.LockSend b.hart (Unlock b.hart b.number b.word); at = s.is_at; is = hart };
        after = later_by s.at s.is_at s.quiet (three i s.at);
        before = omega arith;
      }
    where
      later_by : (p : ℕ) → IsEventAt log p (kind.LockSend b.hart (Unlock b.hart b.number b.word))
          → ((j : ℕ) (r : StepRecord) → IsRecordEvent log j r → hart_of r ≡ b.hart → p < j → ¬ (j < q)) → (i < p) ⊎ ((i ≡ p) ⊎ (p < i)) → i < p
      later_by p at_p quiet (inl lt) = lt
      later_by p at_p quiet (inr (inl same)) =
          absurd (let e : kind.Store a ≡ kind.LockSend b.hart (Unlock b.hart b.number b.word) = one_event log i _ _ at_i (subst (λ m. IsEventAt log m (kind.LockSend b.hart (Unlock b.hart b.number b.word))) (sym same) at_p) in cc)
      later_by p at_p quiet (inr (inr gt)) = absurd (quiet i (step.Access (unseen a)) (record { kind = kind.Store a; at = at_i; is = refl }) (sym hart) gt after)

  point_by : (i q n : ℕ) (a r : Access) → IsEventAt log i (kind.Store a) → HasRecord image t log f q r → i ≤ q → q < n → r.hart ≡ a.hart → IsRelease r → IsPoint i n a.hart
  point_by i q n a r at_i (a_rmw b l v at_q same memory) from before hart release = record {
    at = q;
    event = record { kind = kind.Rmw b l v; at = at_q; is = (ap (λ x. x.hart) same ∙ hart, ap (λ x. x.labels.rl) same ∙ release.release_bit) };
    after = later_event i q (kind.Store a) (kind.Rmw b l v) at_i at_q from (λ e. cc);
    before = before;
  }
  point_by i q n a r at_i (a_free g b at_q same lock) from before hart release =
      sent_point i q n g a b at_i at_q (later_event i q (kind.Store a) (kind.Free g b) at_i at_q from (λ e. cc)) before (ap (λ x. x.hart) same ∙ hart)
  point_by i q n a r at_i (a_store b at_q same memory) from before hart release =
      let plain = plain_store image t log f q b at_q in
      absurd (let no : false ≡ true = sym plain.ordinary.no_release_bit ∙ ap (λ x. x.labels.rl) same ∙ release.release_bit in cc)
  point_by i q n a r at_i (a_read none memory) from before hart release = absurd (let no : false ≡ true = ap is_some (sym none) ∙ release.writes in cc)
  point_by i q n a r at_i (a_grant b at_q same lock no_release) from before hart release = absurd (let no : false ≡ true = sym no_release ∙ release.release_bit in cc)

  point : (i n : ℕ) (a : Access) → IsEventAt log i (kind.Store a) → IsReleasedSince log i n a.hart → IsPoint i n a.hart
  point i n a at_i r = point_by i r.at n a r.release at_i (has_record image t log f r.at r.kind r.release r.is_at r.makes) r.from r.before r.of_hart r.is_release

  committed_at_point : (i n : ℕ) (a : Access) → IsEventAt log i (kind.Store a) → (p : IsPoint i n a.hart) → IsCommittedBefore log a p.at
  committed_at_point i n a at_i p = f.stores_are_committed p.at a.hart i a p.event at_i refl p.after

  -- a store of another hart, in the bytes of an access that stands last
  pub record IsConflict (n i : ℕ) (a r : Access) (k : ℕ) : Type 0 where
    pub race_free : IsRaceFree (steps log n ++ step.Access r ∷ [])
    pub at : IsEventAt log i (kind.Store a)
    pub before : i < n
    pub differ : a.hart ≢ r.hart
    pub word : a.word ≡ r.word
    pub small : k < 4
    pub first : has_byte a.mask k ≡ true
    pub second : has_byte r.mask k ≡ true

  unless_point : (n i : ℕ) (a r : Access) (k : ℕ) → IsConflict n i a r k → (IsPoint i n a.hart → ⊥) → ⊥
  unless_point n i a r k c none =
      let plain = plain_store image t log f i a c.at in
      released log n i (kind.Store a) (unseen a) r c.race_free c.at refl c.before c.differ c.word
      (record { byte = k; in_word = c.small; in_first = c.first; in_second = c.second }) plain.writes plain.ordinary (λ s. none (point i n a c.at s))

  pub committed_before : (n i : ℕ) (a r : Access) (k : ℕ) → IsConflict n i a r k → IsCommittedBefore log a n
  committed_before n i a r k c = decide (committed_or_not log a n)
    where
      decide : IsCommittedBefore log a n ⊎ (IsCommittedBefore log a n → ⊥) → IsCommittedBefore log a n
      decide (inl is) = is
      decide (inr none) = absurd (unless_point n i a r k c (λ p. none (committed_later log a p.at n (let b = p.before in omega arith) (committed_at_point i n a c.at p))))

  pub visible : (n i : ℕ) (a r : Access) (k : ℕ) → IsConflict n i a r k → (c : ℕ) (l : LineId) (u : ℕ) → IsEventAt log c (kind.Commit a.hart a.number l u) → c < n
      → (b : Access) (v : ℕ) → IsShown log n b v → line_of t b.word ≡ l → u ≤ v
  visible n i a r k conflict c l u at_c before b v shown line = decide (grind arith)
    where
      seen : IsPoint i n a.hart → u ≤ v
      seen p =
          let done = committed_at_point i n a conflict.at p in
          let same : done.at ≡ c = one_commit image t log f done.at c a.hart a.number done.line l done.version u done.is_at at_c in
          let done_before = done.before in
          f.releases_are_seen p.at a.hart c l u n b v p.event (commit_event image t log f c a.hart a.number l u at_c) (omega arith) shown p.before line

      decide : (u ≤ v) ⊎ (v < u) → u ≤ v
      decide (inl le) = le
      decide (inr gt) = absurd (unless_point n i a r k conflict (λ p. let le = seen p in omega arith))

  -- the access of the event at i wrote, and its commit stands at c
  pub data IsWritten (i c : ℕ) (a : Access) : Type 0 where
    by_store : IsEventAt log i (kind.Store a) → (l : LineId) (v : ℕ) → IsEventAt log c (kind.Commit a.hart a.number l v) → IsWritten i c a
    by_rmw : i ≡ c → (l : LineId) (v : ℕ) → IsEventAt log c (kind.Rmw a l v) → IsWritten i c a

  pub not_after_commit : (j d : ℕ) (b : Access) → IsWritten j d b → j ≤ d
  not_after_commit j d b (by_store at l v at_d) = let s = after_store image t log f j b d l v at at_d in let lt = s.after in omega arith
  not_after_commit j d b (by_rmw same l v at) = omega arith

  -- with its last record taken apart, a list of records is as free of races
  pub free_at : (j : ℕ) (k : Kind) (b : Access) → IsEventAt log j k → records_in k ≡ step.Access b ∷ [] → IsRaceFree (steps log (suc j)) → IsRaceFree (steps log j ++ step.Access b ∷ [])
  free_at j k b at makes free = subst IsRaceFree (upto_more records_in log j ∙ ap (λ x. steps log j ++ x) (made_by records_in (slice_get log j) k at ∙ makes)) free
