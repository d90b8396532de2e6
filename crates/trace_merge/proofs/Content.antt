-- The content of a line, byte by byte: what the last of its first commits wrote there, or the opening memory.
use Rattle.std.proofs.Common.{◌≡◌, ◌⊎◌, inl, inr, ◌<◌, ◌≤◌, ℕ, zero, suc, Bool, true, false, List, [], ◌∷◌, ◌++◌, length, take, Option, Some, None, refl, sym, ◌∙◌, ap, subst, arith}
use Rattle.std.specs.Prelude.{slice_get, fold, ◌==◌, if◌then◌else◌}
use Rattle.dash_base.specs.Words.{byte_of_word}
use Rattle.dash_base.specs.declared.id.LineId.{LineId}
use Rattle.elf_load.specs.Image.{ImageView, opening_word}
use Rattle.dash_event.specs.declared.access.Access.{Access}
use Rattle.dash_event.specs.declared.event.Event.{Event}
use Rattle.dash_event.specs.declared.event.Kind.{Kind}
use Rattle.dash_event.specs.declared.event.Kind.TheVariants as kind
use Rattle.dash_event.specs.declared.step_record.StepRecord.TheVariants as step
use Rattle.flat_model.specs.LastBefore.{WritesByte}
use Rattle.dash_event.specs.Effects.{word_after}
use Rattle.flat_model.proofs.LawsOffered.{same_access, byte_after, WritesOrKeeps}
use Rattle.dash_model.specs.Log.{IsEventAt, commit_in, commits_of, commits_before}
use Rattle.dash_model.specs.LineContent.{committed, committed_over, word_at}
use Rattle.trace_merge.proofs.Places.{IsSmall, small_if, upto_all, from_place, before_place}
use Rattle.trace_merge.proofs.Facts.{one_event, three, some_element}

take_one : {A : Type 0} (xs : List A) (v : ℕ) (x : A) → slice_get xs v ≡ Some x → take (suc v) xs ≡ take v xs ++ x ∷ []
take_one [] v x at = absurd cc
take_one (y ∷ xs) zero x at = let same : y ≡ x = cc in ap (λ z. z ∷ []) same
take_one (y ∷ xs) (suc v) x at = ap (λ zs. y ∷ zs) (take_one xs v x at)

fold_end : {A B : Type 0} (g : B → A → B) (b : B) (xs : List A) (x : A) → fold g b (xs ++ x ∷ []) ≡ g (fold g b xs) x
fold_end g b [] x = refl
fold_end g b (y ∷ xs) x = fold_end g (g b y) xs x

pub small_commits : (line : LineId) (k : Kind) → IsSmall (commit_in line k)
small_commits line (kind.Commit h n l v) = small_if (l.0 == line.0) (kind.Commit h n l v)
small_commits line (kind.Rmw a l v) = small_if (l.0 == line.0) (kind.Rmw a l v)
small_commits line k = tt

itself_by : (b : Bool) (k k' : Kind) → (if b then k ∷ [] else []) ≡ k' ∷ [] → k ≡ k'
itself_by true k k' is = cc
itself_by false k k' is = absurd cc

-- a commit is counted as itself
itself : (line : LineId) (k k' : Kind) → commit_in line k ≡ k' ∷ [] → k ≡ k'
itself line (kind.Commit h n l v) k' is = itself_by (l.0 == line.0) (kind.Commit h n l v) k' is
itself line (kind.Rmw a l v) k' is = itself_by (l.0 == line.0) (kind.Rmw a l v) k' is
itself line k k' is = absurd cc

module _ (image : ImageView) (log : List Event) (line : LineId) where
  -- the access of one of the line's first commits
  pub record IsCommitIn (v d : ℕ) (b : Access) : Type 0 where
    pub kind : Kind
    pub is_at : IsEventAt log d kind
    pub makes : commit_in line kind ≡ kind ∷ []
    pub access : committed log kind ≡ Some b
    pub index : commits_before log d line < v

  -- the last of the first commits that writes a byte, and none
  pub record IsLastCommit (address x v byte : ℕ) : Type 0 where
    pub at : ℕ
    pub access : Access
    pub is : IsCommitIn v at access
    pub writes : WritesByte address x access
    pub same : byte ≡ byte_of_word x writes.value
    pub last : (d : ℕ) (b : Access) → IsCommitIn v d b → WritesByte address x b → at < d → ⊥

  pub record IsNoCommit (address x v byte : ℕ) : Type 0 where
    pub none : (d : ℕ) (b : Access) → IsCommitIn v d b → WritesByte address x b → ⊥
    pub same : byte ≡ byte_of_word x (opening_word image address)

  abbrev pub IsByteAt : ℕ → ℕ → ℕ → ℕ → Type 0
  IsByteAt address x v byte = IsLastCommit address x v byte ⊎ IsNoCommit address x v byte

  -- the next commit
  record IsNext (v : ℕ) : Type 0 where
    at : ℕ
    kind : Kind
    is_at : IsEventAt log at kind
    makes : commit_in line kind ≡ kind ∷ []
    index : v ≡ commits_before log at line

  fewer_or_next : (i v : ℕ) → i < suc v → (i < v) ⊎ (i ≡ v)
  fewer_or_next i v less = grind arith

  one_place : (c d : ℕ) (k k' : Kind) → IsEventAt log c k → commit_in line k ≡ k ∷ [] → IsEventAt log d k' → commit_in line k' ≡ k' ∷ []
      → commits_before log c line ≡ commits_before log d line → (c < d) ⊎ ((c ≡ d) ⊎ (d < c)) → c ≡ d
  one_place c d k k' at_c makes_c at_d makes_d same (inl lt) = absurd (let b = before_place (commit_in line) (small_commits line) log c d k k at_c makes_c lt in omega arith)
  one_place c d k k' at_c makes_c at_d makes_d same (inr (inl e)) = e
  one_place c d k k' at_c makes_c at_d makes_d same (inr (inr gt)) = absurd (let b = before_place (commit_in line) (small_commits line) log d c k' k' at_d makes_d gt in omega arith)

  -- one more commit is the next one or one of those before
  earlier_or_next : (v : ℕ) (n : IsNext v) (d : ℕ) (b : Access) → IsCommitIn (suc v) d b → IsCommitIn v d b ⊎ ((d ≡ n.at) × (committed log n.kind ≡ Some b))
  earlier_or_next v n d b c = by_index (fewer_or_next (commits_before log d line) v c.index)
    where
      by_index : (commits_before log d line < v) ⊎ (commits_before log d line ≡ v) → IsCommitIn v d b ⊎ ((d ≡ n.at) × (committed log n.kind ≡ Some b))
      by_index (inl less) = inl (record { kind = c.kind; is_at = c.is_at; makes = c.makes; access = c.access; index = less })
      by_index (inr next) =
          let same : d ≡ n.at = one_place d n.at c.kind n.kind c.is_at c.makes n.is_at n.makes (next ∙ n.index) (three d n.at) in
          let kinds : c.kind ≡ n.kind = one_event log n.at c.kind n.kind (subst (λ m. IsEventAt log m c.kind) same c.is_at) n.is_at in
          inr (same, ap (committed log) (sym kinds) ∙ c.access)

  more : (v d : ℕ) (b : Access) → IsCommitIn v d b → IsCommitIn (suc v) d b
  more v d b c = record { kind = c.kind; is_at = c.is_at; makes = c.makes; access = c.access; index = (let i = c.index in omega arith) }

  -- a next commit that doesn't write the byte keeps it
  kept : (address x v byte byte' : ℕ) (n : IsNext v) → ((b : Access) → committed log n.kind ≡ Some b → WritesByte address x b → ⊥) → byte' ≡ byte → IsByteAt address x v byte → IsByteAt address x (suc v) byte'
  kept address x v byte byte' n quiet same (inl l) = inl (record {
    at = l.at;
    access = l.access;
    is = more v l.at l.access l.is;
    writes = l.writes;
    same = same ∙ l.same;
    last = λ d b c writes after. last_by d b writes after (earlier_or_next v n d b c);
  })
    where
      last_by : (d : ℕ) (b : Access) → WritesByte address x b → l.at < d → IsCommitIn v d b ⊎ ((d ≡ n.at) × (committed log n.kind ≡ Some b)) → ⊥
      last_by d b writes after (inl c) = l.last d b c writes after
      last_by d b writes after (inr e) = quiet b e.1 writes
  kept address x v byte byte' n quiet same (inr none) = inr (record {
    none = λ d b c writes. none_by d b writes (earlier_or_next v n d b c);
    same = same ∙ none.same;
  })
    where
      none_by : (d : ℕ) (b : Access) → WritesByte address x b → IsCommitIn v d b ⊎ ((d ≡ n.at) × (committed log n.kind ≡ Some b)) → ⊥
      none_by d b writes (inl c) = none.none d b c writes
      none_by d b writes (inr e) = quiet b e.1 writes

  put_by : (address x v byte old : ℕ) (n : IsNext v) (a : Access) → committed log n.kind ≡ Some a → IsByteAt address x v (byte_of_word x old)
      → byte ≡ byte_of_word x (word_after address (step.Access a) old) → WritesOrKeeps address x old (step.Access a) → IsByteAt address x (suc v) byte
  put_by address x v byte old n a is so_far same (inl l) =
      let a_is : l.access ≡ a = sym (same_access a l.access l.is) in
      let found : committed log n.kind ≡ Some l.access = is ∙ ap Some (sym a_is) in
      inl (record {
        at = n.at;
        access = l.access;
        is = record { kind = n.kind; is_at = n.is_at; makes = n.makes; access = found; index = (let i = n.index in omega arith) };
        writes = l.has;
        same = same ∙ l.value_is;
        last = λ d b c writes after. (let i = c.index in let j = n.index in let k = before_place (commit_in line) (small_commits line) log n.at d n.kind n.kind n.is_at n.makes after in omega arith);
      })
  put_by address x v byte old n a is so_far same (inr k) =
      kept address x v (byte_of_word x old) byte n (λ b found writes. k.none b (let e : Some a ≡ Some b = sym is ∙ found in let e' : a ≡ b = cc in ap step.Access e') writes) (same ∙ k.same) so_far

  next_by : (address x v old : ℕ) → x < 4 → (n : IsNext v) (o : Option Access) → committed log n.kind ≡ o → IsByteAt address x v (byte_of_word x old)
      → IsByteAt address x (suc v) (byte_of_word x (committed_over address o old))
  next_by address x v old small n None is so_far = kept address x v (byte_of_word x old) (byte_of_word x old) n (λ b found writes. (cc)) refl so_far
  next_by address x v old small n (Some a) is so_far =
      put_by address x v (byte_of_word x (word_after address (step.Access a) old)) old n a is so_far refl (byte_after address x old small (step.Access a))

  next_commit : (v : ℕ) (k : Kind) → slice_get (commits_of log line) v ≡ Some k → (n : IsNext v) × (n.kind ≡ k)
  next_commit v k at =
      let o = from_place (commit_in line) (small_commits line) log (length log) v k (ap (λ xs. slice_get xs v) (upto_all (commit_in line) log) ∙ at) in
      let same : o.kind ≡ k = itself line o.kind k o.makes in
      (record { at = o.at; kind = o.kind; is_at = o.is_at; makes = o.makes ∙ ap (λ z. z ∷ []) (sym same); index = o.place }, same)

  abbrev over : ℕ → ℕ → Kind → ℕ
  over address old k = committed_over address (committed log k) old

  -- each byte of a line's word, at each version
  pub byte_at : (address x v : ℕ) → x < 4 → v ≤ length (commits_of log line) → IsByteAt address x v (byte_of_word x (word_at image log line v address))
  byte_at address x zero small within = inr (record { none = λ d b c writes. (let i = c.index in omega arith); same = refl })
  byte_at address x (suc v) small within =
      let k = some_element (commits_of log line) v (omega arith) in
      let n = next_commit v k.0 k.1 in
      let content : word_at image log line (suc v) address ≡ committed_over address (committed log n.0.kind) (word_at image log line v address) =
      ap (fold (over address) (opening_word image address)) (take_one (commits_of log line) v k.0 k.1)
      ∙ fold_end (over address) (opening_word image address) (take v (commits_of log line)) k.0
      ∙ ap (over address (word_at image log line v address)) (sym n.1) in
      subst (λ w. IsByteAt address x (suc v) (byte_of_word x w)) (sym content)
      (next_by address x v (word_at image log line v address) small n.0 (committed log n.0.kind) refl (byte_at address x v small (omega arith)))
