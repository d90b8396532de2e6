-- Which events write memory, and which of their commits a version of a line has.
use Rattle.std.proofs.Common.{◌≡◌, ◌<◌, ◌≤◌, ℕ, ◌+◌, Bool, true, false, List, [], ◌∷◌, Some, refl, sym, ◌∙◌, ap, subst, arith, eq-eqb}
use Rattle.std.specs.Prelude.{◌==◌, if◌then◌else◌}
use Rattle.dash_base.specs.Words.{has_byte, byte_of_word, merged, merged_byte, word_of_bytes}
use Rattle.dash_base.specs.declared.id.HartId.{HartId}
use Rattle.dash_base.specs.declared.id.LineId.{LineId}
use Rattle.dash_base.specs.declared.id.WordAddr.{WordAddr}
use Rattle.dash_base.specs.declared.topology.Topology.{Topology}
use Rattle.elf_load.specs.Image.{ImageView}
use Rattle.dash_base.specs.Places.{line_of}
use Rattle.dash_event.specs.Records.{unseen, records_in}
use Rattle.dash_event.specs.declared.access.Access.{Access}
use Rattle.dash_event.specs.declared.event.Event.{Event}
use Rattle.dash_event.specs.declared.event.Kind.{Kind}
use Rattle.dash_event.specs.declared.event.Kind.TheVariants as kind
use Rattle.dash_event.specs.declared.step_record.StepRecord.TheVariants as step
use Rattle.dash_event.specs.Offered.{bytes_under}
use Rattle.dash_event.specs.Effects.{is_of_memory}
use Rattle.flat_model.specs.Race.{IsRaceFree}
use Rattle.flat_model.specs.LastBefore.{WritesByte}
use Rattle.dash_model.specs.Log.{IsEventAt, Commits, commit_in, commits_before}
use Rattle.dash_model.specs.LineContent.{committed, store_of}
use Rattle.dash_model.specs.Admissible.{IsAdmissible}
use Rattle.trace_merge.proofs.Released.{steps}
use Rattle.trace_merge.proofs.Facts.{one_event, store_found}
use Rattle.trace_merge.proofs.AccessEvents.{HasRecord, has_record}
use Rattle.trace_merge.proofs.AccessEvents as kinds
use Rattle.trace_merge.proofs.Before.{IsWritten, by_store, by_rmw}
use Rattle.trace_merge.proofs.Among.{IsReader, IsAmong, store_among, rmw_among}
use Rattle.trace_merge.proofs.Content.{IsCommitIn}

pub same_word : (v w : WordAddr) → v.0 ≡ w.0 → v ≡ w
same_word v w e = λ i. record { 0 = e i }

-- words that agree in the bytes of a mask are the same under it
byte_choice : (b : Bool) (x y z : ℕ) → (b ≡ true → x ≡ y) → (if b then x else z) ≡ (if b then y else z)
byte_choice true x y z same = same refl
byte_choice false x y z same = refl

pub same_under : (m p q : ℕ) → ((k : ℕ) → k < 4 → has_byte m k ≡ true → byte_of_word k p ≡ byte_of_word k q) → bytes_under m p ≡ bytes_under m q
unfolding merged
same_under m p q same =
    let each : (k : ℕ) → k < 4 → merged_byte k 0 m p ≡ merged_byte k 0 m q =
    λ k small. byte_choice (has_byte m k) (byte_of_word k p) (byte_of_word k q) (byte_of_word k 0) (same k small) in
    λ i. word_of_bytes (each 0 (omega arith) i) (each 1 (omega arith) i) (each 2 (omega arith) i) (each 3 (omega arith) i)

-- the commit of a version of a line is counted among the line's
counted_by : (l line : LineId) (k : Kind) → l ≡ line → (if l.0 == line.0 then k ∷ [] else []) ≡ k ∷ []
counted_by l line k same = λ i. if eq-eqb l.0 line.0 (ap (λ x. x.0) same) i then k ∷ [] else []

pub counts : (line : LineId) (hart : HartId) (v : ℕ) (k : Kind) → Commits k hart line v → commit_in line k ≡ k ∷ []
counts line hart v (kind.Commit g n l u) c = counted_by l line (kind.Commit g n l u) c.1
counts line hart v (kind.Rmw a l u) c = counted_by l line (kind.Rmw a l u) c.1
counts line hart v k c = elim c [ ]

module _ (image : ImageView) (t : Topology) (log : List Event) (f : IsAdmissible image t log) where
  -- the event at a position wrote memory
  pub data IsWrite (i : ℕ) (a : Access) : Type 0 where
    a_store : IsEventAt log i (kind.Store a) → IsWrite i a
    a_rmw : (l : LineId) (v : ℕ) → IsEventAt log i (kind.Rmw a l v) → IsWrite i a

  pub write_kind : (i : ℕ) (a : Access) → IsWrite i a → (k : Kind) × IsEventAt log i k × (records_in k ≡ step.Access (unseen a) ∷ [])
  write_kind i a (a_store at) = (kind.Store a, at, refl)
  write_kind i a (a_rmw l v at) = (kind.Rmw a l v, at, refl)

  pub one_write : (i : ℕ) (a b : Access) → IsWrite i a → IsWrite i b → a ≡ b
  one_write i a b (a_store at) (a_store at') = let e = one_event log i (kind.Store a) (kind.Store b) at at' in cc
  one_write i a b (a_store at) (a_rmw l v at') = absurd (let e = one_event log i (kind.Store a) (kind.Rmw b l v) at at' in cc)
  one_write i a b (a_rmw l v at) (a_store at') = absurd (let e = one_event log i (kind.Rmw a l v) (kind.Store b) at at' in cc)
  one_write i a b (a_rmw l v at) (a_rmw l' v' at') = let e = one_event log i (kind.Rmw a l v) (kind.Rmw b l' v') at at' in cc

  -- a record that writes a byte is that of a store or an atomic operation
  pub record IsWriter (i : ℕ) (r : Access) : Type 0 where
    pub access : Access
    pub is : unseen access ≡ r
    pub write : IsWrite i access

  writer_by : (i : ℕ) (r : Access) (value : ℕ) → HasRecord image t log f i r → is_of_memory r.op ≡ true → r.written ≡ Some value → IsWriter i r
  writer_by i r value (kinds.a_store b at same _) memory written = record { access = b; is = same; write = a_store at }
  writer_by i r value (kinds.a_rmw b l v at same _) memory written = record { access = b; is = same; write = a_rmw l v at }
  writer_by i r value (kinds.a_read none _) memory written = absurd cc
  writer_by i r value (kinds.a_grant b at same lock _) memory written = absurd cc
  writer_by i r value (kinds.a_free g b at same lock) memory written = absurd cc

  pub writer : (i : ℕ) (k : Kind) (r : Access) (value : ℕ) → IsEventAt log i k → records_in k ≡ step.Access r ∷ [] → is_of_memory r.op ≡ true → r.written ≡ Some value → IsWriter i r
  writer i k r value at makes = writer_by i r value (has_record image t log f i k r at makes)

  -- it writes the same bytes with or without what it was shown
  pub writes_as : (address x : ℕ) (a : Access) → WritesByte address x a → WritesByte address x (unseen a)
  writes_as address x a w = record { of_memory = w.of_memory; same_word = w.same_word; in_mask = w.in_mask; value = w.value; written = w.written }

  -- the commit at d of a line wrote what the event at i wrote
  pub record IsWriteOf (d : ℕ) (b : Access) : Type 0 where
    pub at : ℕ
    pub write : IsWrite at b
    pub written : IsWritten image t log f at d b

  write_of_by : (d : ℕ) (b : Access) (line : LineId) (k : Kind) → IsEventAt log d k → commit_in line k ≡ k ∷ [] → committed log k ≡ Some b → IsWriteOf d b
  write_of_by d b line (kind.Commit h n l v) at makes found =
      let s = f.coherent.commits_follow_stores d h n l v at in
      let of_store : store_of log h n ≡ Some s.store = (λ i. store_of log (sym s.of_hart i) (sym s.of_number i)) ∙ store_found image t log f s.at s.store s.is_at in
      let is : s.store ≡ b = (let e : Some s.store ≡ Some b = sym of_store ∙ found in cc) in
      let at_b : IsEventAt log s.at (kind.Store b) = subst (λ a. IsEventAt log s.at (kind.Store a)) is s.is_at in
      let hart : h ≡ b.hart = sym s.of_hart ∙ ap (λ a. a.hart) is in
      let number : n ≡ b.number = sym s.of_number ∙ ap (λ a. a.number) is in
      record { at = s.at; write = a_store at_b; written = by_store at_b l v (at ∙ (λ i. Some (kind.Commit (hart i) (number i) l v))) }
  write_of_by d b line (kind.Rmw a l v) at makes found =
      let is : a ≡ b = cc in
      let at_b : IsEventAt log d (kind.Rmw b l v) = subst (λ z. IsEventAt log d (kind.Rmw z l v)) is at in
      record { at = d; write = a_rmw l v at_b; written = by_rmw refl l v at_b }
  write_of_by d b line k at makes found = absurd cc

  pub write_of : (line : LineId) (v d : ℕ) (b : Access) → IsCommitIn image log line v d b → IsWriteOf d b
  write_of line v d b c = write_of_by d b line c.kind c.is_at c.makes c.access

  -- what is committed among the first versions of a line is counted there
  committed_is : (i c : ℕ) (a : Access) (k : Kind) → IsWritten image t log f i c a → IsEventAt log c k → committed log k ≡ Some a
  committed_is i c a k (by_store at l v at_c) at_k = ap (committed log) (one_event log c k (kind.Commit a.hart a.number l v) at_k at_c) ∙ store_found image t log f i a at
  committed_is i c a k (by_rmw same l v at_c) at_k = ap (committed log) (one_event log c k (kind.Rmw a l v) at_k at_c)

  pub commit_in_of : (n i : ℕ) (a : Access) (line : LineId) (v : ℕ) (m : IsAmong image t log f n i a line v) → IsCommitIn image log line v m.at a
  commit_in_of n i a line v m =
      let e = m.commit in
      let version : m.version ≡ commits_before log m.at line + 1 = f.coherent.versions_count m.at a.hart line m.version e in
      let within = m.within in
      record { kind = e.kind; is_at = e.at; makes = counts line a.hart m.version e.kind e.is; access = committed_is i m.at a e.kind m.written e.at; index = omega arith }

  -- no list of the records of the first events has a race
  abbrev pub AreRaceFree : ℕ → Type 0
  AreRaceFree n = (m : ℕ) → m ≤ n → IsRaceFree (steps log m)

  pub among : (n i : ℕ) (a b r : Access) (v x : ℕ) → IsReader image t log f n b r v → IsWrite i a → i < n → a.word ≡ b.word
      → x < 4 → has_byte a.mask x ≡ true → has_byte r.mask x ≡ true → IsAmong image t log f n i a (line_of t b.word) v
  among n i a b r v x reads (a_store at) before word small has_a has_r = store_among image t log f n i a b r v x reads at before word small has_a has_r
  among n i a b r v x reads (a_rmw l u at) before word small has_a has_r = rmw_among image t log f n i a b r l u v reads at before word
