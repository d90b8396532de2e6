-- The written log of a message passing is admissible.
use Rattle.std.proofs.Common.{◌≡◌, ◌⊎◌, inl, inr, ◌<◌, ◌≤◌, ℕ, ◌+◌, Some, refl, sym, ◌∙◌, ap, subst, arith}
use Rattle.std.specs.Prelude.{◌/◌, ◌-◌}
use Rattle.dash_base.specs.Topology.{IsSimple}
use Rattle.dash_base.specs.Words.{merged}
use Rattle.dash_base.specs.declared.id.HartId.{HartId}
use Rattle.dash_base.specs.declared.id.LineId.{LineId}
use Rattle.dash_base.specs.declared.topology.Topology.{Topology}
use Rattle.elf_load.specs.Image.{word_among, byte_among}
use Rattle.dash_base.specs.Places.{line_of}
use Rattle.dash_event.specs.declared.access.Access.{Access}
use Rattle.dash_event.specs.declared.access.Op.TheVariants as op
use Rattle.dash_event.specs.declared.event.Kind.TheVariants as kind
use Rattle.dash_event.specs.Offered.{bytes_under}
use Rattle.dash_model.specs.Log.{commits_before}
use Rattle.dash_model.specs.LineContent.{word_at}
use Rattle.dash_model.specs.Coherent.{IsCommittedBefore, IsCoherent}
use Rattle.dash_model.specs.Admissible.{IsAdmissible}
use Rattle.trace_merge.specs.WrittenLogs.{message_image, message_store, flag_release, flag_acquire, message_load, message_log}
use Rattle.trace_merge.proofs.MessageReplay.{harts, replay}
use Rattle.trace_merge.proofs.MessageEvents.{line_0, line_4, IsTheStore, store_is, commit_is, rmw_is, IsACommit, commit_event_is, IsAShown, IsTheShown, shown_is, no_own, no_lock, release_is}

module _ (t : Topology) (s : IsSimple 2 1 8 t) where
  message_line : line_of t (record { 0 = 64 }) ≡ line_4
  message_line = λ i. record { 0 = (64 - s.base_is i) / 16 }

  flag_line : line_of t (record { 0 = 0 }) ≡ line_0
  flag_line = λ i. record { 0 = (0 - s.base_is i) / 16 }

  store_committed : (i : ℕ) → 2 < i → IsCommittedBefore message_log message_store i
  store_committed i after = record { at = 2; line = line_4; version = 1; is_at = refl; before = after }

  apart : (l : LineId) → line_0 ≡ l → line_4 ≡ l → ⊥
  apart l e e' = let same : line_0 ≡ line_4 = e ∙ sym e' in let z : 0 ≡ 4 = ap (λ (x : LineId). x.0) same in absurd (omega (arith, z))

  versions : (i : ℕ) (h : HartId) (l : LineId) (v : ℕ) → IsACommit 2 line_4 i h l v ⊎ IsACommit 3 line_0 i h l v → v ≡ commits_before message_log i l + 1
  versions i h l v (inl c) = sym c.version ∙ (λ n. commits_before message_log (sym c.at n) (c.same_line n) + 1)
  versions i h l v (inr c) = sym c.version ∙ (λ n. commits_before message_log (sym c.at n) (c.same_line n) + 1)

  before_is : (n : ℕ) (b : Access) (u i : ℕ) (a : Access) (v : ℕ) (line : LineId) → IsAShown n b u i a v → line_of t b.word ≡ line → commits_before message_log i (line_of t a.word) ≡ commits_before message_log n line
  before_is n b u i a v line e same = λ m. commits_before message_log (e.at m) ((ap (λ x. line_of t x.word) e.is ∙ same) m)

  shown_committed : (i : ℕ) (a : Access) (v : ℕ) → IsTheShown i a v → v ≤ commits_before message_log i (line_of t a.word)
  shown_committed i a v (inl e) = let z = e.version in omega arith
  shown_committed i a v (inr (inl e)) =
      let z = e.version in let c : commits_before message_log i (line_of t a.word) ≡ 1 = before_is 5 flag_acquire 1 i a v line_0 e flag_line in omega arith
  shown_committed i a v (inr (inr e)) =
      let z = e.version in let c : commits_before message_log i (line_of t a.word) ≡ 1 = before_is 7 message_load 1 i a v line_4 e message_line in omega arith

  -- what is read, where the version is of the line
  content : (n : ℕ) (b : Access) (u i : ℕ) (a : Access) (v value : ℕ) (line : LineId) → IsAShown n b u i a v → line_of t b.word ≡ line → a.read ≡ Some value
      → b.read ≡ Some (bytes_under b.mask (word_at message_image message_log line u b.word.0)) → value ≡ bytes_under a.mask (word_at message_image message_log (line_of t a.word) v a.word.0)
  content n b u i a v value line e same read is =
      let got : Some value ≡ Some (bytes_under b.mask (word_at message_image message_log line u b.word.0)) = sym read ∙ ap (λ x. x.read) e.is ∙ is in
      let first : value ≡ bytes_under b.mask (word_at message_image message_log line u b.word.0) = cc in
      first ∙ (λ m. bytes_under (sym e.is m).mask (word_at message_image message_log (sym (ap (λ x. line_of t x.word) e.is ∙ same) m) (e.version m) (sym e.is m).word.0))

  reads : (i : ℕ) (a : Access) (v value : ℕ) → IsTheShown i a v → a.read ≡ Some value → value ≡ bytes_under a.mask (word_at message_image message_log (line_of t a.word) v a.word.0)
  unfolding merged word_among byte_among
  reads i a v value (inl e) read = content 3 flag_release 0 i a v value line_0 e flag_line read refl
  reads i a v value (inr (inl e)) read = content 5 flag_acquire 1 i a v value line_0 e flag_line read refl
  reads i a v value (inr (inr e)) read = content 7 message_load 1 i a v value line_4 e message_line read refl

  own_committed : (i : ℕ) (a : Access) (v j : ℕ) (b : Access) → IsTheShown i a v → IsTheStore j b → b.hart ≡ a.hart → j < i → IsCommittedBefore message_log b i
  own_committed i a v j b (inl e) c hart before = let z = e.at in subst (λ x. IsCommittedBefore message_log x i) (sym c.is) (store_committed i (omega arith))
  own_committed i a v j b (inr (inl e)) c hart before = let z = e.at in subst (λ x. IsCommittedBefore message_log x i) (sym c.is) (store_committed i (omega arith))
  own_committed i a v j b (inr (inr e)) c hart before = let z = e.at in subst (λ x. IsCommittedBefore message_log x i) (sym c.is) (store_committed i (omega arith))

  falls : (i j : ℕ) (a b : Access) (u v : ℕ) → i < j → IsTheShown i a u → IsTheShown j b v → u ≤ v
  falls i j a b u v before (inl e) w = let z = e.version in omega arith
  falls i j a b u v before (inr (inl e)) (inl e') = absurd (let z = e.at in let z' = e'.at in omega arith)
  falls i j a b u v before (inr (inl e)) (inr (inl e')) = let z = e.version in let z' = e'.version in omega arith
  falls i j a b u v before (inr (inl e)) (inr (inr e')) = let z = e.version in let z' = e'.version in omega arith
  falls i j a b u v before (inr (inr e)) (inl e') = absurd (let z = e.at in let z' = e'.at in omega arith)
  falls i j a b u v before (inr (inr e)) (inr (inl e')) = let z = e.version in let z' = e'.version in omega arith
  falls i j a b u v before (inr (inr e)) (inr (inr e')) = let z = e.version in let z' = e'.version in omega arith

  -- what was committed is seen from position 4 on; at 3 the flag is shown, of which no commit stands before
  one_version : (i : ℕ) (h : HartId) (l : LineId) (u : ℕ) → IsACommit 2 line_4 i h l u ⊎ IsACommit 3 line_0 i h l u → 1 ≡ u
  one_version i h l u (inl c) = c.version
  one_version i h l u (inr c) = c.version

  seen : (j : ℕ) (a : Access) (u v : ℕ) → 1 ≡ u → 3 < j → IsTheShown j a v → u ≤ v
  seen j a u v one after (inl e) = absurd (let z = e.at in omega arith)
  seen j a u v one after (inr (inl e)) = let z = e.version in omega arith
  seen j a u v one after (inr (inr e)) = let z = e.version in omega arith

  own_seen : (i j : ℕ) (a : Access) (l : LineId) (u v : ℕ) → i < j → IsACommit 2 line_4 i a.hart l u ⊎ IsACommit 3 line_0 i a.hart l u → IsTheShown j a v → line_of t a.word ≡ l → u ≤ v
  own_seen i j a l u v before (inl c) (inl e) line = absurd (apart l (sym flag_line ∙ ap (λ x. line_of t x.word) (sym e.is) ∙ line) c.same_line)
  own_seen i j a l u v before (inr c) (inl e) line = absurd (let z = c.at in let z' = e.at in omega arith)
  own_seen i j a l u v before c (inr (inl e)) line = let z = one_version i a.hart l u c in let z' = e.version in omega arith
  own_seen i j a l u v before c (inr (inr e)) line = let z = one_version i a.hart l u c in let z' = e.version in omega arith

  coherent : IsCoherent message_image t message_log
  coherent = record {
    versions_count = λ i h l v c. versions i h l v (commit_event_is i h l v c);
    commits_follow_stores = λ i h n l v at.
        let e = commit_is i h n l v at in
        let z = e.at in
        record { at = 1; store = message_store; is_at = refl; before = omega arith; of_hart = e.hart; of_number = e.number; of_line = message_line ∙ e.line };
    commits_in_order = λ i j h m n k l u v at_i at_j before.
        (let e = commit_is i h m k u at_i in let e' = commit_is j h n l v at_j in let z = e.at in let z' = e'.at in absurd (omega arith));
    no_store_is_passed = λ i h n l v j b at at_j hart less.
        (let e = commit_is i h n l v at in let w = store_is j b at_j in let x : b.number ≡ 2 = ap (λ y. y.number) w.is in let y = e.number in absurd (omega arith));
    rmw_of_its_line = λ i a l v at. (let e = rmw_is i a l v at in sym e.line ∙ sym flag_line ∙ ap (λ x. line_of t x.word) (sym e.is));
    shown_is_committed = λ i a v w. shown_committed i a v (shown_is i a v w);
    reads_shown = λ i a v value w read. reads i a v value (shown_is i a v w) read;
    rmw_shows_last = λ i a l v at. (let e = rmw_is i a l v at in (0, ap (λ x. x.seen) e.is, sym e.version));
    own_stores_are_committed = λ i a v j b w at before hart word. own_committed i a v j b (shown_is i a v w) (store_is j b at) hart before;
    own_is_newest = λ i a level n at own. absurd (no_own i a level n at own);
    never_falls = λ i j a b u v before w w' hart line. falls i j a b u v before (shown_is i a u w) (shown_is j b v w');
    own_commits_are_seen = λ i j a l u v before c w line. own_seen i j a l u v before (commit_event_is i a.hart l u c) (shown_is j a v w) line;
    locks_count = λ i a w. absurd (no_lock i a w);
    locks_are_chained = λ i a w. absurd (no_lock i a w);
    grants_read_zero = λ i a at. absurd (no_lock i a (record { kind = kind.Grant a; at = at; is = refl }));
  }

  pub is_admissible : IsAdmissible message_image t message_log
  is_admissible = record {
    harts = harts t s;
    replay = replay t s;
    coherent = coherent;
    stores_are_committed = λ i h j b r at hart before.
        (let e = release_is i h r in let z = e.0 in let c = store_is j b at in subst (λ x. IsCommittedBefore message_log x i) (sym c.is) (store_committed i (omega arith)));
    releases_are_seen = λ p h i l u j a v r c before w after line.
        (let e = release_is p h r in let z = e.0 in seen j a u v (one_version i h l u (commit_event_is i h l u c)) (omega arith) (shown_is j a v w));
    atomics_are_seen = λ i a l u j b v at w before line.
        (let e = rmw_is i a l u at in let z = e.at in seen j b u v e.version (omega arith) (shown_is j b v w));
    conds_are_reserved = λ i a l v at cond.
        absurd (let e = rmw_is i a l v at in let amo : op.Amo ≡ op.Cond = ap (λ x. x.op) (sym e.is) ∙ cond in cc);
    frees_are_sent = λ i c a at. absurd (no_lock i a (record { kind = kind.Free c a; at = at; is = refl }));
  }
