-- Conflicting writes commit in the order in which they stand, and a write before an access that is shown a version is among the commits of that version.
use Rattle.std.proofs.Common.{◌≡◌, ◌≢◌, ◌⊎◌, inl, inr, ◌<◌, ◌≤◌, ℕ, suc, ◌+◌, true, ◌++◌, [], ◌∷◌, List, refl, sym, ◌∙◌, ap, subst, arith}
use Rattle.dash_base.specs.Words.{has_byte}
use Rattle.dash_base.specs.declared.id.HartId.{HartId}
use Rattle.dash_base.specs.declared.id.LineId.{LineId}
use Rattle.dash_base.specs.declared.topology.Topology.{Topology}
use Rattle.elf_load.specs.Image.{ImageView}
use Rattle.dash_base.specs.Places.{line_of}
use Rattle.dash_event.specs.Records.{unseen, records_in}
use Rattle.dash_event.specs.declared.access.Access.{Access}
use Rattle.dash_event.specs.declared.event.Event.{Event}
use Rattle.dash_event.specs.declared.event.Kind.{Kind}
use Rattle.dash_event.specs.declared.event.Kind.TheVariants as kind
use Rattle.dash_event.specs.declared.step_record.StepRecord.TheVariants as step
use Rattle.flat_model.specs.Race.{IsRaceFree}
use Rattle.dash_model.specs.Log.{IsEventAt, IsShown, IsCommitEvent}
use Rattle.dash_model.specs.Coherent.{IsCommittedBefore}
use Rattle.dash_model.specs.Admissible.{IsAdmissible}
use Rattle.trace_merge.proofs.Released.{steps}
use Rattle.trace_merge.proofs.Facts.{one_event, three, same_or_not, numbers_rise}
use Rattle.trace_merge.proofs.Commits.{one_commit, after_store, commit_event}
use Rattle.trace_merge.proofs.Before.{same_hart, IsConflict, committed_before, visible, IsWritten, by_store, by_rmw, not_after_commit, free_at}

module _ (image : ImageView) (t : Topology) (log : List Event) (f : IsAdmissible image t log) where
  -- an atomic operation is shown a version
  pub rmw_shown : (n : ℕ) (b : Access) (l : LineId) (v : ℕ) → IsEventAt log n (kind.Rmw b l v) → (u : ℕ) × IsShown log n b u × (v ≡ suc u)
  rmw_shown n b l v at =
      let s = f.coherent.rmw_shows_last n b l v at in
      let next : v ≡ s.0 + 1 = s.2 in
      (s.0, record { event = record { kind = kind.Rmw b l v; at = at; is = refl }; seen = s.1 }, omega arith)

  -- a store before a conflicting write of another hart is committed before it
  pub conflict : (j : ℕ) (k : Kind) (b : Access) → IsEventAt log j k → records_in k ≡ step.Access (unseen b) ∷ [] → IsRaceFree (steps log (suc j))
      → (i : ℕ) (a : Access) (x : ℕ) → IsEventAt log i (kind.Store a) → i < j → a.hart ≢ b.hart → a.word ≡ b.word → x < 4 → has_byte a.mask x ≡ true → has_byte b.mask x ≡ true
      → IsCommittedBefore log a j
  conflict j k b at makes free i a x at_i before differ word small first second =
      committed_before image t log f j i a (unseen b) x (record {
        race_free = free_at image t log f j k (unseen b) at makes free;
        at = at_i;
        before = before;
        differ = differ;
        word = word;
        small = small;
        first = first;
        second = second;
      })

  pub other : (g h : HartId) → (g.0 ≢ h.0) → g ≢ h
  other g h differ = λ same. differ (ap (λ x. x.0) same)

  by_committed : (i c d j : ℕ) (a b : Access) (l : LineId) (v : ℕ) → IsEventAt log c (kind.Commit a.hart a.number l v) → IsCommittedBefore log a j → IsWritten image t log f j d b → c < d
  by_committed i c d j a b l v at_c done written =
      let same : done.at ≡ c = one_commit image t log f done.at c a.hart a.number done.line l done.version v done.is_at at_c in
      let before = done.before in
      let after = not_after_commit image t log f j d b written in
      omega arith

  pub commit_order : (i j c d : ℕ) (a b : Access) (x : ℕ) → IsRaceFree (steps log (suc j)) → IsWritten image t log f i c a → IsWritten image t log f j d b → i < j
      → a.word ≡ b.word → x < 4 → has_byte a.mask x ≡ true → has_byte b.mask x ≡ true → c < d
  commit_order i j c d a b x free (by_rmw same l v at) second before word small has_a has_b = let after = not_after_commit image t log f j d b second in omega arith
  commit_order i j c d a b x free (by_store at l v at_c) (by_rmw same l' v' at_d) before word small has_a has_b = by_hart (same_or_not a.hart.0 b.hart.0)
    where
      at_j : IsEventAt log j (kind.Rmw b l' v')
      at_j = subst (λ m. IsEventAt log m (kind.Rmw b l' v')) (sym same) at_d

      by_hart : (a.hart.0 ≡ b.hart.0) ⊎ (a.hart.0 ≢ b.hart.0) → c < d
      by_hart (inl own) =
          let s = rmw_shown j b l' v' at_j in
          by_committed i c d j a b l v at_c (f.coherent.own_stores_are_committed j b s.0 i a s.1 at before (same_hart a.hart b.hart own) word) (by_rmw same l' v' at_d)
      by_hart (inr differ) =
          by_committed i c d j a b l v at_c (conflict j (kind.Rmw b l' v') b at_j refl free i a x at before (other a.hart b.hart differ) word small has_a has_b) (by_rmw same l' v' at_d)
  commit_order i j c d a b x free (by_store at l v at_c) (by_store at_j l' v' at_d) before word small has_a has_b = by_hart (same_or_not a.hart.0 b.hart.0)
    where
      in_order : a.hart ≡ b.hart → (c < d) ⊎ ((c ≡ d) ⊎ (d < c)) → c < d
      in_order own (inl lt) = lt
      in_order own (inr (inl same)) =
          let rise = numbers_rise image t log f i j a b at at_j own before in
          let kinds : kind.Commit a.hart a.number l v ≡ kind.Commit b.hart b.number l' v' = one_event log c _ _ at_c (subst (λ m. IsEventAt log m (kind.Commit b.hart b.number l' v')) (sym same) at_d) in
          let number : a.number ≡ b.number = cc in
          absurd (omega arith)
      in_order own (inr (inr gt)) =
          let rise = numbers_rise image t log f i j a b at at_j own before in
          let falls = f.coherent.commits_in_order d c a.hart b.number a.number l' l v' v (subst (λ h. IsEventAt log d (kind.Commit h b.number l' v')) (sym own) at_d) at_c gt in
          absurd (omega arith)

      by_hart : (a.hart.0 ≡ b.hart.0) ⊎ (a.hart.0 ≢ b.hart.0) → c < d
      by_hart (inl own) = in_order (same_hart a.hart b.hart own) (three c d)
      by_hart (inr differ) =
          by_committed i c d j a b l v at_c (conflict j (kind.Store b) b at_j refl free i a x at before (other a.hart b.hart differ) word small has_a has_b) (by_store at_j l' v' at_d)

  -- the access that the event at n was shown version v, and the access of the same hart, word and bytes that would stand there in a sequential run
  pub record IsReader (n : ℕ) (b r : Access) (v : ℕ) : Type 0 where
    pub shown : IsShown log n b v
    pub race_free : IsRaceFree (steps log n ++ step.Access r ∷ [])
    pub hart : r.hart ≡ b.hart
    pub word : r.word ≡ b.word

  -- a write that is committed as one of the first v versions of a line
  pub record IsAmong (n i : ℕ) (a : Access) (line : LineId) (v : ℕ) : Type 0 where
    pub at : ℕ
    pub written : IsWritten image t log f i at a
    pub before : at < n
    pub version : ℕ
    pub commit : IsCommitEvent log at a.hart line version
    pub within : version ≤ v

  pub store_among : (n i : ℕ) (a b r : Access) (v x : ℕ) → IsReader n b r v → IsEventAt log i (kind.Store a) → i < n → a.word ≡ b.word
      → x < 4 → has_byte a.mask x ≡ true → has_byte r.mask x ≡ true → IsAmong n i a (line_of t b.word) v
  store_among n i a b r v x reads at before word small has_a has_r = by_hart (same_or_not a.hart.0 b.hart.0)
    where
      line_is : (c : ℕ) (l : LineId) (u : ℕ) → IsEventAt log c (kind.Commit a.hart a.number l u) → l ≡ line_of t b.word
      line_is c l u at_c = let s = after_store image t log f i a c l u at at_c in sym s.of_line ∙ ap (line_of t) word

      among : (c : IsCommittedBefore log a n) → c.version ≤ v → IsAmong n i a (line_of t b.word) v
      among c le = record {
        at = c.at;
        written = by_store at c.line c.version c.is_at;
        before = c.before;
        version = c.version;
        commit = subst (λ l. IsCommitEvent log c.at a.hart l c.version) (line_is c.at c.line c.version c.is_at) (commit_event image t log f c.at a.hart a.number c.line c.version c.is_at);
        within = le;
      }

      by_hart : (a.hart.0 ≡ b.hart.0) ⊎ (a.hart.0 ≢ b.hart.0) → IsAmong n i a (line_of t b.word) v
      by_hart (inl own) =
          let h = same_hart a.hart b.hart own in
          let c = f.coherent.own_stores_are_committed n b v i a reads.shown at before h word in
          let event : IsCommitEvent log c.at b.hart c.line c.version = subst (λ g. IsCommitEvent log c.at g c.line c.version) h (commit_event image t log f c.at a.hart a.number c.line c.version c.is_at) in
          among c (f.coherent.own_commits_are_seen c.at n b c.line c.version v c.before event reads.shown (sym (line_is c.at c.line c.version c.is_at)))
      by_hart (inr differ) =
          let hit : IsConflict image t log f n i a r x = record {
            race_free = reads.race_free;
            at = at;
            before = before;
            differ = (λ same. differ (ap (λ h. h.0) (same ∙ reads.hart)));
            word = word ∙ sym reads.word;
            small = small;
            first = has_a;
            second = has_r;
          } in
          let c = committed_before image t log f n i a r x hit in
          among c (visible image t log f n i a r x hit c.at c.line c.version c.is_at c.before b v reads.shown (sym (line_is c.at c.line c.version c.is_at)))

  pub rmw_among : (n i : ℕ) (a b r : Access) (l : LineId) (u v : ℕ) → IsReader n b r v → IsEventAt log i (kind.Rmw a l u) → i < n → a.word ≡ b.word → IsAmong n i a (line_of t b.word) v
  rmw_among n i a b r l u v reads at before word =
      let line : l ≡ line_of t b.word = f.coherent.rmw_of_its_line i a l u at ∙ ap (line_of t) word in
      record {
        at = i;
        written = by_rmw refl l u at;
        before = before;
        version = u;
        commit = record { kind = kind.Rmw a l u; at = at; is = (refl, line, refl) };
        within = f.atomics_are_seen i a l u n b v at reads.shown before (sym line);
      }
