-- The written log of one hart, with a load of the hart's own store, is admissible.
use Rattle.std.proofs.Common.{◌≡◌, ◌<◌, ℕ, ◌+◌, Some, refl, sym, ◌∙◌, ap, subst, arith}
use Rattle.std.specs.Prelude.{◌/◌, ◌-◌}
use Rattle.dash_base.specs.Topology.{IsSimple}
use Rattle.dash_base.specs.Words.{merged}
use Rattle.dash_base.specs.declared.id.HartId.{HartId}
use Rattle.dash_base.specs.declared.id.LineId.{LineId}
use Rattle.dash_base.specs.declared.topology.Topology.{Topology}
use Rattle.elf_load.specs.Image.{word_among, byte_among}
use Rattle.dash_base.specs.Places.{line_of}
use Rattle.dash_event.specs.declared.access.Access.{Access}
use Rattle.dash_event.specs.declared.access.Seen.TheVariants.{Line, Own}
use Rattle.dash_event.specs.declared.event.Kind.{Kind}
use Rattle.dash_event.specs.declared.event.Kind.TheVariants as kind
use Rattle.dash_event.specs.Offered.{bytes_under}
use Rattle.dash_model.specs.Log.{IsEventAt, IsShown, Commits, IsCommitEvent, commits_before}
use Rattle.dash_model.specs.LineContent.{word_at}
use Rattle.dash_model.specs.Coherent.{IsCommittedBefore, IsShownOwn, IsLockEvent, IsCoherent}
use Rattle.dash_model.specs.Release.{Releases, IsReleaseEvent}
use Rattle.dash_model.specs.Admissible.{IsAdmissible}
use Rattle.trace_merge.specs.WrittenLogs.{forwarding_image, forwarded_store, forwarded_load, committed_load, forwarding_log}
use Rattle.trace_merge.proofs.Offers.{has_each}
use Rattle.trace_merge.proofs.Written.{each_at, access_at, ServesNone}
use Rattle.trace_merge.proofs.ForwardingCode.{harts, replay}

abbrev hart_0 : HartId
hart_0 = record { 0 = 0 }

abbrev line_4 : LineId
line_4 = record { 0 = 4 }

-- what stands at each position
record IsTheStore (i : ℕ) (a : Access) : Type 0 where
  at : i ≡ 0
  is : a ≡ forwarded_store

abbrev StoreAt : ℕ → Kind → Type 0
StoreAt i (kind.Store a) = IsTheStore i a
StoreAt i k = Unit {0}

store_is : (i : ℕ) (a : Access) → IsEventAt forwarding_log i (kind.Store a) → IsTheStore i a
store_is i a at = each_at StoreAt forwarding_log (record { at = refl; is = refl }, (tt, (tt, (tt, tt)))) i (kind.Store a) at

record IsTheCommit (i : ℕ) (h : HartId) (n : ℕ) (l : LineId) (v : ℕ) : Type 0 where
  at : i ≡ 2
  hart : hart_0 ≡ h
  number : 1 ≡ n
  line : line_4 ≡ l
  version : 1 ≡ v

abbrev CommitAt : ℕ → Kind → Type 0
CommitAt i (kind.Commit h n l v) = IsTheCommit i h n l v
CommitAt i k = Unit {0}

commit_is : (i : ℕ) (h : HartId) (n : ℕ) (l : LineId) (v : ℕ) → IsEventAt forwarding_log i (kind.Commit h n l v) → IsTheCommit i h n l v
commit_is i h n l v at =
    each_at CommitAt forwarding_log (tt, (tt, (record { at = refl; hart = refl; number = refl; line = refl; version = refl }, (tt, tt)))) i (kind.Commit h n l v) at

abbrev IsOneCommit : ℕ → Kind → Type 0
IsOneCommit i k = (h : HartId) (l : LineId) (v : ℕ) → Commits k h l v → (i ≡ 2) × (line_4 ≡ l) × (1 ≡ v)

committed_at : (i : ℕ) (h : HartId) (l : LineId) (v : ℕ) → IsCommitEvent forwarding_log i h l v → (i ≡ 2) × (line_4 ≡ l) × (1 ≡ v)
committed_at i h l v c = each_at IsOneCommit forwarding_log (λ h l v c. absurd c, (λ h l v c. absurd c, (λ h l v c. (refl, c.1, c.2), (λ h l v c. absurd c, tt)))) i c.kind c.at h l v c.is

record IsTheShown (i : ℕ) (a : Access) (v : ℕ) : Type 0 where
  at : i ≡ 3
  is : a ≡ committed_load
  version : 1 ≡ v

abbrev ShownAt : ℕ → Access → Type 0
ShownAt i a = (v : ℕ) → a.seen ≡ Line v → IsTheShown i a v

shown_at : (i : ℕ) (a : Access) (v : ℕ) → IsShown forwarding_log i a v → IsTheShown i a v
shown_at i a v w =
    access_at ShownAt forwarding_log (λ v e. absurd cc, (λ v e. absurd cc, (tt, (λ v e. record { at = refl; is = refl; version = cc }, tt)))) i a w.event v w.seen

record IsTheOwn (i : ℕ) (a : Access) (n : ℕ) : Type 0 where
  at : i ≡ 1
  is : a ≡ forwarded_load
  number : 1 ≡ n

abbrev OwnAt : ℕ → Access → Type 0
OwnAt i a = (n : ℕ) → a.seen ≡ Own n → IsTheOwn i a n

own_is : (i : ℕ) (a : Access) (level n : ℕ) → IsEventAt forwarding_log i (kind.Load a level) → a.seen ≡ Own n → IsTheOwn i a n
own_is i a level n at =
    access_at OwnAt forwarding_log (λ n e. absurd cc, (λ n e. record { at = refl; is = refl; number = cc }, (tt, (λ n e. absurd cc, tt)))) i a (record { kind = kind.Load a level; at = at; is = refl }) n

abbrev NoRmw : ℕ → Kind → Type 0
NoRmw i (kind.Rmw a l v) = ⊥
NoRmw i k = Unit {0}

no_rmw : (i : ℕ) (a : Access) (l : LineId) (v : ℕ) → ¬ IsEventAt forwarding_log i (kind.Rmw a l v)
no_rmw i a l v at = each_at NoRmw forwarding_log (tt, (tt, (tt, (tt, tt)))) i (kind.Rmw a l v) at

no_lock : (i : ℕ) (a : Access) → ¬ IsLockEvent forwarding_log i a
no_lock i a e = each_at ServesNone forwarding_log (λ a s. s, (λ a s. s, (λ a s. s, (λ a s. s, tt)))) i e.kind e.at a e.is

abbrev ReleasesNone : ℕ → Kind → Type 0
ReleasesNone i k = (h : HartId) → Releases forwarding_image k h → ⊥

no_release : (i : ℕ) (h : HartId) → ¬ IsReleaseEvent forwarding_image forwarding_log i h
no_release i h r = each_at ReleasesNone forwarding_log (λ h r. r, (λ h r. r, (λ h r. r, (λ h r. r, tt)))) i r.kind r.at h r.is

module _ (t : Topology) (s : IsSimple 1 1 8 t) where
  line_is : line_of t (record { 0 = 64 }) ≡ line_4
  line_is = λ i. record { 0 = (64 - s.base_is i) / 16 }

  store_committed : (i : ℕ) → 2 < i → IsCommittedBefore forwarding_log forwarded_store i
  store_committed i after = record { at = 2; line = line_4; version = 1; is_at = refl; before = after }

  own : IsShownOwn forwarding_log 1 forwarded_load 1
  unfolding merged
  own = record {
    at = 0;
    store = forwarded_store;
    value = 1;
    is_at = refl;
    before = omega arith;
    of_hart = refl;
    of_word = refl;
    of_number = refl;
    newest = λ j b at hart word after before. (let e = store_is j b at in let z = e.at in omega arith);
    covers = λ k small has. has_each 15 k refl small;
    written = refl;
    read = refl;
    not_yet = λ c. (let e = commit_is c.at hart_0 1 c.line c.version c.is_at in let z = e.at in let b = c.before in omega arith);
  }

  word_is : word_at forwarding_image forwarding_log line_4 1 64 ≡ 1
  unfolding merged word_among byte_among
  word_is = refl

  under_is : bytes_under 15 1 ≡ 1
  unfolding merged
  under_is = refl

  coherent : IsCoherent forwarding_image t forwarding_log
  coherent = record {
    versions_count = λ i h l v c. (let e = committed_at i h l v c in sym e.2 ∙ (λ n. commits_before forwarding_log (sym e.0 n) (e.1 n) + 1));
    commits_follow_stores = λ i h n l v at.
        let e = commit_is i h n l v at in
        let z = e.at in
        record { at = 0; store = forwarded_store; is_at = refl; before = omega arith; of_hart = e.hart; of_number = e.number; of_line = line_is ∙ e.line };
    commits_in_order = λ i j h m n k l u v at_i at_j before.
        (let e = commit_is i h m k u at_i in let e' = commit_is j h n l v at_j in let z = e.at in let z' = e'.at in absurd (omega arith));
    no_store_is_passed = λ i h n l v j b at at_j hart less.
        (let e = commit_is i h n l v at in let w = store_is j b at_j in let x : b.number ≡ 1 = ap (λ y. y.number) w.is in let y = e.number in absurd (omega arith));
    rmw_of_its_line = λ i a l v at. absurd (no_rmw i a l v at);
    shown_is_committed = λ i a v w.
        let e = shown_at i a v w in
        let z = e.version in
        let one : commits_before forwarding_log i (line_of t a.word) ≡ 1 = (λ n. commits_before forwarding_log (e.at n) ((ap (λ x. line_of t x.word) e.is ∙ line_is) n)) in
        omega arith;
    reads_shown = λ i a v value w read.
        let e = shown_at i a v w in
        let got : Some 1 ≡ Some value = ap (λ x. x.read) (sym e.is) ∙ read in
        let one : 1 ≡ value = cc in
        let word : word_at forwarding_image forwarding_log (line_of t a.word) v a.word.0 ≡ 1 =
        (λ n. word_at forwarding_image forwarding_log ((ap (λ x. line_of t x.word) e.is ∙ line_is) n) (sym e.version n) (e.is n).word.0) ∙ word_is in
        sym one ∙ sym under_is ∙ (λ n. bytes_under (sym e.is n).mask (sym word n));
    rmw_shows_last = λ i a l v at. absurd (no_rmw i a l v at);
    own_stores_are_committed = λ i a v j b w at before hart word.
        let e = shown_at i a v w in
        let z = e.at in
        let c = store_is j b at in
        subst (λ x. IsCommittedBefore forwarding_log x i) (sym c.is) (store_committed i (omega arith));
    own_is_newest = λ i a level n at seen.
        let e = own_is i a level n at seen in
        subst (λ x. IsShownOwn forwarding_log i a x) e.number (subst (λ x. IsShownOwn forwarding_log i x 1) (sym e.is) (subst (λ x. IsShownOwn forwarding_log x forwarded_load 1) (sym e.at) own));
    never_falls = λ i j a b u v before w w' hart line.
        (let e = shown_at i a u w in let e' = shown_at j b v w' in let z = e.at in let z' = e'.at in absurd (omega arith));
    own_commits_are_seen = λ i j a l u v before c w line.
        (let e = committed_at i a.hart l u c in let e' = shown_at j a v w in let x = e.2 in let y = e'.version in omega arith);
    locks_count = λ i a w. absurd (no_lock i a w);
    locks_are_chained = λ i a w. absurd (no_lock i a w);
    grants_read_zero = λ i a at. absurd (no_lock i a (record { kind = kind.Grant a; at = at; is = refl }));
  }

  pub is_admissible : IsAdmissible forwarding_image t forwarding_log
  is_admissible = record {
    harts = harts t s;
    replay = replay t s;
    coherent = coherent;
    stores_are_committed = λ i h j b r at hart before. absurd (no_release i h r);
    releases_are_seen = λ p h i l u j a v r c before w after line. absurd (no_release p h r);
    atomics_are_seen = λ i a l u j b v at w before line. absurd (no_rmw i a l u at);
    conds_are_reserved = λ i a l v at cond. absurd (no_rmw i a l v at);
    frees_are_sent = λ i c a at. absurd (no_lock i a (record { kind = kind.Free c a; at = at; is = refl }));
  }
