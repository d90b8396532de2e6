-- The bytes that an access is shown are those of the sequential machine's memory.
use Rattle.std.proofs.Common.{◌≡◌, ◌≢◌, ◌⊎◌, inl, inr, ◌<◌, ◌≤◌, ℕ, refl, suc, true, List, length, Some, sym, ◌∙◌, ap, subst, arith}
use Rattle.dash_base.specs.Words.{has_byte, byte_of_word}
use Rattle.dash_base.specs.declared.id.HartId.{HartId}
use Rattle.dash_base.specs.declared.id.LineId.{LineId}
use Rattle.dash_base.specs.declared.id.WordAddr.{WordAddr}
use Rattle.dash_base.specs.declared.topology.Topology.{Topology}
use Rattle.elf_load.specs.Image.{ImageView, opening_word}
use Rattle.dash_base.specs.Places.{line_of}
use Rattle.dash_event.specs.Records.{unseen, records_in}
use Rattle.dash_event.specs.declared.access.Access.{Access}
use Rattle.dash_event.specs.declared.event.Event.{Event}
use Rattle.dash_event.specs.declared.event.Kind.TheVariants as kind
use Rattle.dash_event.specs.declared.step_record.StepRecord.TheVariants as step
use Rattle.dash_event.specs.Effects.{is_of_memory}
use Rattle.flat_model.specs.Order.{IsAccessAt}
use Rattle.flat_model.specs.LastBefore.{WritesByte, IsByteBefore}
use Rattle.dash_model.specs.Log.{IsCommitEvent, IsEventAt, commit_in, commits_of}
use Rattle.dash_model.specs.LineContent.{word_at}
use Rattle.dash_model.specs.Coherent.{IsCommittedBefore, IsShownOwn}
use Rattle.dash_model.specs.Admissible.{IsAdmissible}
use Rattle.trace_merge.proofs.Places.{upto_all, place_grows, from_place, at_place, place_before, before_place}
use Rattle.trace_merge.proofs.Released.{small_records, steps}
use Rattle.trace_merge.proofs.Facts.{three, same_or_not, event_within, store_op}
use Rattle.trace_merge.proofs.Commits.{after_store, commit_event, committed_later}
use Rattle.trace_merge.proofs.Before.{by_rmw, by_store, same_hart, not_after_commit}
use Rattle.trace_merge.proofs.Among.{rmw_shown, commit_order, conflict, other, IsReader, IsAmong}
use Rattle.trace_merge.proofs.Content.{small_commits, IsCommitIn, IsLastCommit, IsByteAt, byte_at}
use Rattle.trace_merge.proofs.Writers.{counts, same_word, IsWrite, a_store, a_rmw, write_kind, one_write, writer, writes_as, IsWriteOf, write_of, commit_in_of, AreRaceFree, among}

-- equal accesses write equal bytes
one_value : (address x : ℕ) (a b : Access) → a ≡ b → (w : WritesByte address x a) (w' : WritesByte address x b) → w.value ≡ w'.value
one_value address x a b same w w' = let e : Some w.value ≡ Some w'.value = sym w.written ∙ ap (λ z. z.written) same ∙ w'.written in cc

module _ (image : ImageView) (t : Topology) (log : List Event) (f : IsAdmissible image t log) where
  -- the last write of a byte among the records of the first events
  record IsLastWrite (n address x byte : ℕ) : Type 0 where
    at : ℕ
    access : Access
    write : IsWrite image t log f at access
    before : at < n
    writes : WritesByte address x access
    same : byte ≡ byte_of_word x writes.value
    last : (j : ℕ) (b : Access) → IsWrite image t log f j b → WritesByte address x b → at < j → j < n → ⊥

  record IsNoWrite (n address x byte : ℕ) : Type 0 where
    none : (j : ℕ) (b : Access) → IsWrite image t log f j b → WritesByte address x b → j < n → ⊥
    same : byte ≡ byte_of_word x (opening_word image address)

  place_of : (n j : ℕ) (b : Access) → IsWrite image t log f j b → j < n → IsAccessAt (steps log n) (length (steps log j)) (unseen b)
  place_of n j b w before = let k = write_kind image t log f j b w in at_place records_in small_records log j n k.0 (step.Access (unseen b)) k.1 k.2 before

  place_within : (n j : ℕ) (b : Access) → IsWrite image t log f j b → j < n → length (steps log j) < length (steps log n)
  place_within n j b w before = let k = write_kind image t log f j b w in before_place records_in small_records log j n k.0 (step.Access (unseen b)) k.1 k.2 before

  from_memory : (n address x byte : ℕ) → IsByteBefore image (steps log n) (length (steps log n)) address x byte → IsLastWrite n address x byte ⊎ IsNoWrite n address x byte
  from_memory n address x byte (inl m) =
      let l = m.0 in
      let o = from_place records_in small_records log n l.at (step.Access l.access) l.is_at in
      let w = writer image t log f o.at o.kind l.access l.has.value o.is_at o.makes l.has.of_memory l.has.written in
      let writes = l.has in
      let a = w.access in
      inl (record {
        at = o.at;
        access = a;
        write = w.write;
        before = o.before;
        writes = record {
          of_memory = ap (λ z. is_of_memory z.op) w.is ∙ writes.of_memory;
          same_word = ap (λ z. z.word.0) w.is ∙ writes.same_word;
          in_mask = ap (λ z. has_byte z.mask x) w.is ∙ writes.in_mask;
          value = writes.value;
          written = ap (λ z. z.written) w.is ∙ writes.written;
        };
        same = m.1;
        last = λ j b v has after before.
            let k = write_kind image t log f o.at a w.write in
            let places : length (steps log o.at) < length (steps log j) = before_place records_in small_records log o.at j k.0 (step.Access (unseen a)) k.1 k.2 after in
            let place : l.at ≡ length (steps log o.at) = o.place in
            l.last (length (steps log j)) (unseen b) (place_of n j b v before) (writes_as image t log f address x b has) (omega arith) (place_within n j b v before);
      })
  from_memory n address x byte (inr m) = inr (record {
    none = λ j b v has before. m.0.none (length (steps log j)) (unseen b) (place_of n j b v before) (writes_as image t log f address x b has) (place_within n j b v before);
    same = m.1;
  })

  -- the first v commits of a line stand before n, and each write of the byte before n is one of them
  record IsSeenByte (n : ℕ) (line : LineId) (address v x : ℕ) : Type 0 where
    race_free : AreRaceFree image t log f n
    small : x < 4
    commits : (d : ℕ) (a : Access) → IsCommitIn image log line v d a → d < n
    among : (i : ℕ) (a : Access) → IsWrite image t log f i a → i < n → WritesByte address x a → IsAmong image t log f n i a line v

  -- the last write and the last commit are of one access
  same_last : (n : ℕ) (line : LineId) (address v x byte byte' : ℕ) → IsSeenByte n line address v x → (w : IsLastWrite n address x byte) → (c : IsLastCommit image log line address x v byte')
      → w.access ≡ c.access
  same_last n line address v x byte byte' s w c = by_order (three o.at w.at)
    where
      o : IsWriteOf image t log f c.at c.access
      o = write_of image t log f line v c.at c.access c.is

      m : IsAmong image t log f n w.at w.access line v
      m = s.among w.at w.access w.write w.before w.writes

      before : o.at < n
      before = let d = s.commits c.at c.access c.is in let le = not_after_commit image t log f o.at c.at c.access o.written in omega arith

      words : c.access.word ≡ w.access.word
      words = same_word c.access.word w.access.word (c.writes.same_word ∙ sym w.writes.same_word)

      by_order : (o.at < w.at) ⊎ ((o.at ≡ w.at) ⊎ (w.at < o.at)) → w.access ≡ c.access
      by_order (inl earlier) =
          let order = commit_order image t log f o.at w.at c.at m.at c.access w.access x (s.race_free (suc w.at) w.before) o.written m.written earlier words s.small c.writes.in_mask w.writes.in_mask in
          absurd (c.last m.at w.access (commit_in_of image t log f n w.at w.access line v m) w.writes order)
      by_order (inr (inl same)) = one_write image t log f w.at w.access c.access w.write (subst (λ i. IsWrite image t log f i c.access) same o.write)
      by_order (inr (inr later)) = absurd (w.last o.at c.access o.write c.writes later before)

  agree : (n : ℕ) (line : LineId) (address v x byte byte' : ℕ) → IsSeenByte n line address v x → IsLastWrite n address x byte ⊎ IsNoWrite n address x byte
      → IsByteAt image log line address x v byte' → byte ≡ byte'
  agree n line address v x byte byte' s (inl w) (inl c) = w.same ∙ ap (byte_of_word x) (one_value address x w.access c.access (same_last n line address v x byte byte' s w c) w.writes c.writes) ∙ sym c.same
  agree n line address v x byte byte' s (inl w) (inr none) =
      let m = s.among w.at w.access w.write w.before w.writes in
      absurd (none.none m.at w.access (commit_in_of image t log f n w.at w.access line v m) w.writes)
  agree n line address v x byte byte' s (inr none) (inl c) =
      let o = write_of image t log f line v c.at c.access c.is in
      let d = s.commits c.at c.access c.is in
      let le = not_after_commit image t log f o.at c.at c.access o.written in
      absurd (none.none o.at c.access o.write c.writes (omega arith))
  agree n line address v x byte byte' s (inr none) (inr none') = none.same ∙ sym none'.same

  -- a byte of memory is that of the version that is shown
  pub line_agrees : (n : ℕ) (b r : Access) (v x byte : ℕ) → IsReader image t log f n b r v → AreRaceFree image t log f n → x < 4 → has_byte r.mask x ≡ true
      → IsByteBefore image (steps log n) (length (steps log n)) b.word.0 x byte → byte ≡ byte_of_word x (word_at image log (line_of t b.word) v b.word.0)
  line_agrees n b r v x byte reads free small has memory =
      let line = line_of t b.word in
      let shown = f.coherent.shown_is_committed n b v reads.shown in
      let below = event_within log n reads.shown.event.kind reads.shown.event.at in
      let grows = place_grows (commit_in line) (small_commits line) log n (length log) (omega arith) in
      let all = ap length (upto_all (commit_in line) log) in
      let s : IsSeenByte n line b.word.0 v x = record {
        race_free = free;
        small = small;
        commits = λ d a c. (let index = c.index in place_before (commit_in line) (small_commits line) log d n (omega arith));
        among = λ i a write before writes. among image t log f n i a b r v x reads write before (same_word a.word b.word writes.same_word) small writes.in_mask has;
      } in
      agree n line b.word.0 v x byte _ s (from_memory n b.word.0 x byte memory) (byte_at image log line b.word.0 x v small (omega arith))

  -- a commit makes one of its line's versions
  within_all : (c : ℕ) (hart : HartId) (line : LineId) (version : ℕ) → IsCommitEvent log c hart line version → version ≤ length (commits_of log line)
  within_all c hart line version e =
      let number = f.coherent.versions_count c hart line version e in
      let below = event_within log c e.kind e.at in
      let place = before_place (commit_in line) (small_commits line) log c (length log) e.kind e.kind e.at (counts line hart version e.kind e.is) below in
      let all = ap length (upto_all (commit_in line) log) in
      omega arith

  -- where each store is committed, each write of a word is among the commits of its line
  all_among : (word : WordAddr) (i : ℕ) (a : Access) → ((j : ℕ) (b : Access) → IsEventAt log j (kind.Store b) → IsCommittedBefore log b (length log)) → IsWrite image t log f i a → a.word ≡ word
      → IsAmong image t log f (length log) i a (line_of t word) (length (commits_of log (line_of t word)))
  all_among word i a done (a_store at) same =
      let c = done i a at in
      let line : c.line ≡ line_of t word = sym (after_store image t log f i a c.at c.line c.version at c.is_at).of_line ∙ ap (line_of t) same in
      let commit = subst (λ l. IsCommitEvent log c.at a.hart l c.version) line (commit_event image t log f c.at a.hart a.number c.line c.version c.is_at) in
      record { at = c.at; written = by_store at c.line c.version c.is_at; before = c.before; version = c.version; commit = commit; within = within_all c.at a.hart (line_of t word) c.version commit }
  all_among word i a done (a_rmw l u at) same =
      let line : l ≡ line_of t word = f.coherent.rmw_of_its_line i a l u at ∙ ap (line_of t) same in
      let commit : IsCommitEvent log i a.hart (line_of t word) u = record { kind = kind.Rmw a l u; at = at; is = (refl, line, refl) } in
      record { at = i; written = by_rmw refl l u at; before = event_within log i (kind.Rmw a l u) at; version = u; commit = commit; within = within_all i a.hart (line_of t word) u commit }

  -- where each store is committed, a byte of memory is that of its line's last version
  pub all_agree : (word : WordAddr) (x byte : ℕ) → ((j : ℕ) (b : Access) → IsEventAt log j (kind.Store b) → IsCommittedBefore log b (length log)) → AreRaceFree image t log f (length log) → x < 4
      → IsByteBefore image (steps log (length log)) (length (steps log (length log))) word.0 x byte → byte ≡ byte_of_word x (word_at image log (line_of t word) (length (commits_of log (line_of t word))) word.0)
  all_agree word x byte done free small memory =
      let line = line_of t word in
      let v = length (commits_of log line) in
      let s : IsSeenByte (length log) line word.0 v x = record {
        race_free = free;
        small = small;
        commits = λ d a c. event_within log d c.kind c.is_at;
        among = λ i a write before writes. all_among word i a done write (same_word a.word word writes.same_word);
      } in
      agree (length log) line word.0 v x byte _ s (from_memory (length log) word.0 x byte memory) (byte_at image log line word.0 x v small (omega arith))

  -- a byte of memory is that of the hart's own store, where that is shown
  later_write : (n j : ℕ) (a : Access) (number x : ℕ) (s : IsShownOwn log n a number) → AreRaceFree image t log f n → x < 4 → has_byte a.mask x ≡ true
      → (b : Access) → IsWrite image t log f j b → WritesByte a.word.0 x b → s.at < j → j < n → ⊥
  later_write n j a number x s free small has b write writes after before = by_write write
    where
      later_commit : IsCommittedBefore log s.store j → ⊥
      later_commit c = s.not_yet (committed_later log s.store j n (omega arith) c)

      words : s.store.word ≡ b.word
      words = s.of_word ∙ sym (same_word b.word a.word writes.same_word)

      by_hart : (s.store.hart.0 ≡ b.hart.0) ⊎ (s.store.hart.0 ≢ b.hart.0) → IsWrite image t log f j b → ⊥
      by_hart (inl own) (a_store at) =
          s.newest j b at (sym (same_hart s.store.hart b.hart own) ∙ s.of_hart) (same_word b.word a.word writes.same_word) after before
      by_hart (inl own) (a_rmw l v at) =
          let m = rmw_shown image t log f j b l v at in
          later_commit (f.coherent.own_stores_are_committed j b m.0 s.at s.store m.1 s.is_at after (same_hart s.store.hart b.hart own) words)
      by_hart (inr differ) w =
          let k = write_kind image t log f j b w in
          later_commit (conflict image t log f j k.0 b k.1 k.2 (free (suc j) before) s.at s.store x s.is_at after (other image t log f s.store.hart b.hart differ) words small (s.covers x small has) writes.in_mask)

      by_write : IsWrite image t log f j b → ⊥
      by_write w = by_hart (same_or_not s.store.hart.0 b.hart.0) w

  pub own_agrees : (n : ℕ) (a : Access) (number x byte : ℕ) (s : IsShownOwn log n a number) → AreRaceFree image t log f n → x < 4 → has_byte a.mask x ≡ true
      → IsByteBefore image (steps log n) (length (steps log n)) a.word.0 x byte → byte ≡ byte_of_word x s.value
  own_agrees n a number x byte s free small has memory = by_memory (from_memory n a.word.0 x byte memory)
    where
      writes : WritesByte a.word.0 x s.store
      writes = record {
        of_memory = ap is_of_memory (store_op image t log f s.at s.store s.is_at);
        same_word = ap (λ w. w.0) s.of_word;
        in_mask = s.covers x small has;
        value = s.value;
        written = s.written;
      }

      by_order : (w : IsLastWrite n a.word.0 x byte) → (s.at < w.at) ⊎ ((s.at ≡ w.at) ⊎ (w.at < s.at)) → byte ≡ byte_of_word x s.value
      by_order w (inl later) = absurd (later_write n w.at a number x s free small has w.access w.write w.writes later w.before)
      by_order w (inr (inl same)) =
          let is : w.access ≡ s.store = one_write image t log f w.at w.access s.store w.write (a_store (subst (λ i. IsEventAt log i (kind.Store s.store)) same s.is_at)) in
          w.same ∙ ap (byte_of_word x) (one_value a.word.0 x w.access s.store is w.writes writes)
      by_order w (inr (inr earlier)) = absurd (w.last s.at s.store (a_store s.is_at) writes earlier s.before)

      by_memory : IsLastWrite n a.word.0 x byte ⊎ IsNoWrite n a.word.0 x byte → byte ≡ byte_of_word x s.value
      by_memory (inl w) = by_order w (three s.at w.at)
      by_memory (inr none) = absurd (none.none s.at s.store (a_store s.is_at) writes s.before)
