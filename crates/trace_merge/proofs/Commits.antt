-- Commits of stores: each store has one at most, after it, and it can be told whether a store is committed before a position.
use Rattle.std.proofs.Common.{◌≡◌, ◌⊎◌, inl, inr, ◌<◌, ◌≤◌, ℕ, Bool, true, false, List, [], ◌∷◌, length, Some, None, refl, sym, ◌∙◌, ap, subst, arith, eq-eqb}
use Rattle.std.proofs.lemmas.Bool.Decides.{nat_tests}
use Rattle.std.specs.Prelude.{slice_get, ◌==◌, ◌&&◌, if◌then◌else◌}
use Rattle.dash_base.specs.declared.id.HartId.{HartId}
use Rattle.dash_base.specs.declared.id.LineId.{LineId}
use Rattle.dash_base.specs.declared.topology.Topology.{Topology}
use Rattle.elf_load.specs.Image.{ImageView}
use Rattle.dash_base.specs.Places.{line_of}
use Rattle.dash_event.specs.declared.access.Access.{Access}
use Rattle.dash_event.specs.declared.event.Event.{Event}
use Rattle.dash_event.specs.declared.event.Kind.{Kind}
use Rattle.dash_event.specs.declared.event.Kind.TheVariants as kind
use Rattle.dash_model.specs.Log.{IsEventAt, IsCommitEvent}
use Rattle.dash_model.specs.Coherent.{IsCommittedBefore}
use Rattle.dash_model.specs.Admissible.{IsAdmissible}
use Rattle.trace_merge.proofs.Places.{IsSmall, small_if, upto, from_place, at_place}
use Rattle.trace_merge.proofs.Facts.{one_event, three, both, one_store}

-- what happened, in a list of one, where it commits a store
own_commit : Access → Kind → List Kind
own_commit a (kind.Commit h m l v) = if (h.0 == a.hart.0) && (m == a.number) then kind.Commit h m l v ∷ [] else []
own_commit a k = []

small_commits : (a : Access) (k : Kind) → IsSmall (own_commit a k)
unfolding own_commit
small_commits a (kind.Commit h m l v) = small_if ((h.0 == a.hart.0) && (m == a.number)) (kind.Commit h m l v)
small_commits a k = tt

record IsThatCommit (a : Access) (k : Kind) : Type 0 where
  line : LineId
  version : ℕ
  is : k ≡ kind.Commit a.hart a.number line version

that_by : (a : Access) (h : HartId) (m : ℕ) (l : LineId) (v : ℕ) (k : Kind) (b : Bool) → ((h.0 == a.hart.0) && (m == a.number)) ≡ b
    → (if b then kind.Commit h m l v ∷ [] else []) ≡ k ∷ [] → IsThatCommit a (kind.Commit h m l v)
that_by a h m l v k true test is =
    let parts = both (h.0 == a.hart.0) (m == a.number) test in
    let h_test : (h.0 == a.hart.0) ≡ true = parts.0 in
    let m_test : (m == a.number) ≡ true = parts.1 in
    let h_is : h.0 ≡ a.hart.0 = grind (arith, nat_tests) in
    let m_is : m ≡ a.number = grind (arith, nat_tests) in
    record { line = l; version = v; is = λ i. kind.Commit (record { 0 = h_is i }) (m_is i) l v }
that_by a h m l v k false test is = absurd cc

that_commit : (a : Access) (k k' : Kind) → own_commit a k ≡ k' ∷ [] → IsThatCommit a k
unfolding own_commit
that_commit a (kind.Commit h m l v) k' is = that_by a h m l v k' ((h.0 == a.hart.0) && (m == a.number)) refl is
that_commit a k k' is = absurd cc

is_own : (a : Access) (l : LineId) (v : ℕ) → own_commit a (kind.Commit a.hart a.number l v) ≡ kind.Commit a.hart a.number l v ∷ []
unfolding own_commit
is_own a l v = λ i. if eq-eqb a.hart.0 a.hart.0 refl i && eq-eqb a.number a.number refl i then kind.Commit a.hart a.number l v ∷ [] else []

-- a store is committed before a position, or it is not
pub committed_or_not : (log : List Event) (a : Access) (n : ℕ) → IsCommittedBefore log a n ⊎ (IsCommittedBefore log a n → ⊥)
committed_or_not log a n = decide (upto (own_commit a) log n) refl
  where
    decide : (ks : List Kind) → upto (own_commit a) log n ≡ ks → IsCommittedBefore log a n ⊎ (IsCommittedBefore log a n → ⊥)
    decide [] e = inr (λ c.
        let at = at_place (own_commit a) (small_commits a) log c.at n (kind.Commit a.hart a.number c.line c.version) (kind.Commit a.hart a.number c.line c.version) c.is_at (is_own a c.line c.version) c.before in
        let none : None ≡ Some (kind.Commit a.hart a.number c.line c.version) = ap (λ xs. slice_get xs (length (upto (own_commit a) log c.at))) (sym e) ∙ at in cc)
    decide (k ∷ ks) e =
        let o = from_place (own_commit a) (small_commits a) log n 0 k (ap (λ xs. slice_get xs 0) e) in
        let that = that_commit a o.kind k o.makes in
        inl (record { at = o.at; line = that.line; version = that.version; is_at = o.is_at ∙ ap Some that.is; before = o.before })

pub committed_later : (log : List Event) (a : Access) (m n : ℕ) → m ≤ n → IsCommittedBefore log a m → IsCommittedBefore log a n
committed_later log a m n le c = record { at = c.at; line = c.line; version = c.version; is_at = c.is_at; before = (let b = c.before in omega arith) }

module _ (image : ImageView) (t : Topology) (log : List Event) (f : IsAdmissible image t log) where
  -- a store has one commit at most
  pub one_commit : (c d : ℕ) (h : HartId) (m : ℕ) (k l : LineId) (u v : ℕ) → IsEventAt log c (kind.Commit h m k u) → IsEventAt log d (kind.Commit h m l v) → c ≡ d
  one_commit c d h m k l u v at_c at_d = one_by (three c d)
    where
      one_by : (c < d) ⊎ ((c ≡ d) ⊎ (d < c)) → c ≡ d
      one_by (inl before) = absurd (let r = f.coherent.commits_in_order c d h m m k l u v at_c at_d before in omega arith)
      one_by (inr (inl same)) = same
      one_by (inr (inr after)) = absurd (let r = f.coherent.commits_in_order d c h m m l k v u at_d at_c after in omega arith)

  -- a store stands before its commit, which is of its word's line
  pub record IsAfterStore (i : ℕ) (a : Access) (c : ℕ) (line : LineId) : Type 0 where
    pub after : i < c
    pub of_line : line_of t a.word ≡ line

  pub after_store : (i : ℕ) (a : Access) (c : ℕ) (l : LineId) (v : ℕ) → IsEventAt log i (kind.Store a) → IsEventAt log c (kind.Commit a.hart a.number l v) → IsAfterStore i a c l
  after_store i a c l v at_i at_c =
      let s = f.coherent.commits_follow_stores c a.hart a.number l v at_c in
      let same : s.at ≡ i = one_store image t log f s.at i s.store a s.is_at at_i s.of_hart s.of_number in
      let kinds : kind.Store s.store ≡ kind.Store a = one_event log i (kind.Store s.store) (kind.Store a) (subst (λ m. IsEventAt log m (kind.Store s.store)) same s.is_at) at_i in
      let is : s.store ≡ a = cc in
      let before = s.before in
      record { after = omega arith; of_line = ap (λ x. line_of t x.word) (sym is) ∙ s.of_line }

  pub commit_event : (c : ℕ) (h : HartId) (m : ℕ) (l : LineId) (v : ℕ) → IsEventAt log c (kind.Commit h m l v) → IsCommitEvent log c h l v
  commit_event c h m l v at = record { kind = kind.Commit h m l v; at = at; is = (refl, refl, refl) }
