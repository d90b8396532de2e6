-- In every run a hart's stores have rising numbers, and each is in its write buffer or was committed: those that were committed come before those that wait.
use Rattle.std.proofs.Common.{◌≡◌, ℕ, ◌+◌, ◌≤◌, ◌<◌, ◌==◌, true, List, [], ◌∷◌, ◌++◌, ◌⊎◌, inl, inr, length, if◌then◌else◌, refl, sym, ap, ◌∙◌, subst, arith}
use Rattle.dash_base.specs.declared.id.HartId.{HartId}
use Rattle.dash_base.specs.declared.id.LineId.{LineId}
use Rattle.dash_event.specs.declared.access.Access.{Access}
use Rattle.dash_event.specs.declared.event.Event.{Event}
use Rattle.dash_event.specs.declared.event.Kind.{Kind}
use Rattle.dash_event.specs.declared.event.Kind.TheVariants as kind
use Rattle.write_buffer.specs.declared.entry.Entry.{Entry as Stored}
use Rattle.dash_model.specs.Config.{Config, cluster_of}
use Rattle.dash_model.specs.Part.{Processor}
use Rattle.dash_model.specs.HartRows.{entry_of}
use Rattle.dash_model.specs.Guard.{Guard}
use Rattle.dash_model.specs.Row.{row}
use Rattle.dash_model.specs.Machine.{Machine, Reaches}
use Rattle.dash_model.specs.Log.{IsEventAt}
use Rattle.dash_model.specs.BufferFacts.{store_by, commit_by}
use Rattle.dash_model.proofs.Written.{IsWrite}
use Rattle.dash_model.proofs.Stores.{store_writes}
use Rattle.dash_model.proofs.BufferFacts.{no_store, no_commit}
use Rattle.dash_model.proofs.HartRuns.{hart_at, IsKept, reached_keeps}
use Rattle.dash_model.proofs.Tests.{same}
use Rattle.dash_model.proofs.Happened.{Happened}
use Rattle.dash_model.proofs.Earlier.{Earlier, Latest, stands, event_kept, event_last}
use Rattle.dash_model.proofs.Entries.{IsIn, in_first, in_last, in_more, NumbersRise, rise_more}
use Rattle.dash_model.proofs.StoreTurns.{Turn, Idles, Leaves, Joins, turn}

-- a store's commit is in the log
pub record IsCommitted (log : List Event) (b : Access) : Type 0 where
  pub at : ℕ
  pub line : LineId
  pub version : ℕ
  pub is_at : IsEventAt log at (kind.Commit b.hart b.number line version)

-- what waits in a buffer is a store of hart h in the log
pub record IsStore (w : Config) (log : List Event) (h : ℕ) (x : Stored) : Type 0 where
  pub at : ℕ
  pub store : Access
  pub is_at : IsEventAt log at (kind.Store store)
  pub of_hart : store.hart.0 ≡ h
  pub entry : entry_of store ≡ x
  pub writes : IsWrite w store

-- the stores of hart h by the log
pub record Ordered (w : Config) (log : List Event) (h : ℕ) (s : Processor) : Type 0 where
  -- no store has a number that the hart has not come to
  pub retired : (j : ℕ) (b : Access) → IsEventAt log j (kind.Store b) → b.hart.0 ≡ h → b.number ≤ s.core.retired
  -- each waits or was committed
  pub stored : (j : ℕ) (b : Access) → IsEventAt log j (kind.Store b) → b.hart.0 ≡ h → IsIn (entry_of b) s.buffer ⊎ IsCommitted log b
  pub reached : (i : ℕ) (g : HartId) (n : ℕ) (k : LineId) (v : ℕ) → IsEventAt log i (kind.Commit g n k v) → g.0 ≡ h → n ≤ s.core.retired
  -- what was committed comes before all that waits
  pub passed : (i : ℕ) (g : HartId) (n : ℕ) (k : LineId) (v : ℕ) → IsEventAt log i (kind.Commit g n k v) → g.0 ≡ h → (x : Stored) → IsIn x s.buffer → n < x.number
  pub waiting : (x : Stored) → IsIn x s.buffer → IsStore w log h x
  pub rising : NumbersRise s.buffer

committed_kept : (log : List Event) (e : Event) (b : Access) → IsCommitted log b → IsCommitted (log ++ e ∷ []) b
committed_kept log e b k = record { at = k.at; line = k.line; version = k.version; is_at = event_kept log (e ∷ []) k.at (kind.Commit b.hart b.number k.line k.version) k.is_at }

store_is_kept : (w : Config) (log : List Event) (e : Event) (h : ℕ) (x : Stored) → IsStore w log h x → IsStore w (log ++ e ∷ []) h x
store_is_kept w log e h x k = record { at = k.at; store = k.store; is_at = event_kept log (e ∷ []) k.at (kind.Store k.store) k.is_at; of_hart = k.of_hart; entry = k.entry; writes = k.writes }

-- an event that is no store, or no commit, of the hart
not_store : (e : Kind) (h : ℕ) (b : Access) → store_by h e ≡ [] → e ≡ kind.Store b → b.hart.0 ≡ h → ⊥
not_store e h b none is mine =
    let test : (b.hart.0 == h) ≡ true = subst (λ z. (z == h) ≡ true) (sym mine) (same h) in
    let one : b ∷ [] ≡ [] = sym (ap (λ t. if t then b ∷ [] else []) test) ∙ ap (store_by h) (sym is) ∙ none in
    absurd (cc)

not_commit : (e : Kind) (h : ℕ) (g : HartId) (n : ℕ) (k : LineId) (v : ℕ) → commit_by h e ≡ [] → e ≡ kind.Commit g n k v → g.0 ≡ h → ⊥
not_commit e h g n k v none is mine =
    let test : (g.0 == h) ≡ true = subst (λ z. (z == h) ≡ true) (sym mine) (same h) in
    let one : n ∷ [] ≡ [] = sym (ap (λ t. if t then n ∷ [] else []) test) ∙ ap (commit_by h) (sym is) ∙ none in
    absurd (cc)

one_store : (e : Kind) (a b : Access) → e ≡ kind.Store a → e ≡ kind.Store b → a ≡ b
one_store e a b x y = cc

not_both : (e : Kind) (a : Access) (g : HartId) (n : ℕ) (k : LineId) (v : ℕ) → e ≡ kind.Store a → e ≡ kind.Commit g n k v → ⊥
not_both e a g n k v x y = cc

one_number : (e : Kind) (f g : HartId) (m n : ℕ) (k l : LineId) (u v : ℕ) → e ≡ kind.Commit f m k u → e ≡ kind.Commit g n l v → m ≡ n
one_number e f g m n k l u v x y = cc

module _ (w : Config) (log : List Event) (e : Event) (h : ℕ) (s t : Processor) (k : Ordered w log h s) where
  idles : store_by h e.kind ≡ [] → commit_by h e.kind ≡ [] → t.buffer ≡ s.buffer → s.core.retired ≤ t.core.retired → Ordered w (log ++ e ∷ []) h t
  idles none still b r = record {
    retired = λ j a at mine. elim (stands log e j (kind.Store a) at) [ Earlier there low ↦ (let z = k.retired j a there mine in omega arith) | Latest place is ↦ absurd (not_store e.kind h a none is mine) ];
    stored = λ j a at mine. elim (stands log e j (kind.Store a) at) [
      | Earlier there low ↦ elim (k.stored j a there mine) [ inl i ↦ inl (subst (IsIn (entry_of a)) (sym b) i) | inr c ↦ inr (committed_kept log e a c) ]
      | Latest place is ↦ absurd (not_store e.kind h a none is mine)
    ];
    reached = λ i g n l v at mine. elim (stands log e i (kind.Commit g n l v) at) [ Earlier there low ↦ (let z = k.reached i g n l v there mine in omega arith) | Latest place is ↦ absurd (not_commit e.kind h g n l v still is mine) ];
    passed = λ i g n l v at mine x in_t. elim (stands log e i (kind.Commit g n l v) at) [ Earlier there low ↦ k.passed i g n l v there mine x (subst (IsIn x) b in_t) | Latest place is ↦ absurd (not_commit e.kind h g n l v still is mine) ];
    waiting = λ x in_t. store_is_kept w log e h x (k.waiting x (subst (IsIn x) b in_t));
    rising = subst NumbersRise (sym b) k.rising;
  }

  -- the commit of the oldest store that waits
  left_committed : (x : Stored) (g : HartId) (n : ℕ) (l : LineId) (v : ℕ) (a : Access) → e.kind ≡ kind.Commit g n l v → g.0 ≡ h → n ≡ x.number → a.hart.0 ≡ h → x ≡ entry_of a → IsCommitted (log ++ e ∷ []) a
  left_committed x g n l v a is mine number of_a entry =
      let hart : g ≡ a.hart = (let q : g.0 ≡ a.hart.0 = mine ∙ sym of_a in λ i. record { 0 = q i }) in
      let count : n ≡ a.number = number ∙ ap (λ (z : Stored). z.number) entry in
      record { at = length log; line = l; version = v; is_at = subst (λ z. IsEventAt (log ++ e ∷ []) (length log) z) (is ∙ ap (λ z. kind.Commit z n l v) hart ∙ ap (λ z. kind.Commit a.hart z l v) count) (event_last log e) }

  leaves : (x : Stored) (g : HartId) (n : ℕ) (l : LineId) (v : ℕ) → e.kind ≡ kind.Commit g n l v → g.0 ≡ h → n ≡ x.number → s.buffer ≡ x ∷ t.buffer → s.core.retired ≤ t.core.retired → Ordered w (log ++ e ∷ []) h t
  leaves x g n l v is mine number b r =
      let waits : (y : Stored) → IsIn y t.buffer → IsIn y s.buffer = λ y i. subst (IsIn y) (sym b) (inr i) in
      let oldest : IsStore w log h x = k.waiting x (subst (IsIn x) (sym b) (inl refl)) in
      let rise : NumbersRise (x ∷ t.buffer) = subst NumbersRise b k.rising in
      let low : x.number ≤ s.core.retired = subst (λ (z : Stored). z.number ≤ s.core.retired) oldest.entry (k.retired oldest.at oldest.store oldest.is_at oldest.of_hart) in
      record {
        retired = λ j a at of_a. elim (stands log e j (kind.Store a) at) [ Earlier there early ↦ (let z = k.retired j a there of_a in omega arith) | Latest place q ↦ absurd (not_both e.kind a g n l v q is) ];
        stored = λ j a at of_a. elim (stands log e j (kind.Store a) at) [
          | Earlier there early ↦ elim (k.stored j a there of_a) [
            | inl i ↦ elim (subst (IsIn (entry_of a)) b i) [ inl here ↦ inr (left_committed x g n l v a is mine number of_a here) | inr rest ↦ inl rest ]
            | inr c ↦ inr (committed_kept log e a c)
          ]
          | Latest place q ↦ absurd (not_both e.kind a g n l v q is)
        ];
        reached = λ i f m j u at of_f. elim (stands log e i (kind.Commit f m j u) at) [ Earlier there early ↦ (let z = k.reached i f m j u there of_f in omega arith) | Latest place q ↦ (let z = one_number e.kind f g m n j l u v q is in omega arith) ];
        passed = λ i f m j u at of_f y in_t. elim (stands log e i (kind.Commit f m j u) at) [ Earlier there early ↦ k.passed i f m j u there of_f y (waits y in_t) | Latest place q ↦ (let z = one_number e.kind f g m n j l u v q is in let above = rise.0 y in_t in omega arith) ];
        waiting = λ y in_t. store_is_kept w log e h y (k.waiting y (waits y in_t));
        rising = rise.1;
      }

  joins : (a : Access) → e.kind ≡ kind.Store a → IsWrite w a → a.hart.0 ≡ h → a.number ≡ s.core.retired + 1 → t.buffer ≡ s.buffer ++ entry_of a ∷ [] → t.core.retired ≡ s.core.retired + 1 → Ordered w (log ++ e ∷ []) h t
  joins a is writes mine number b r =
      let low : (y : Stored) → IsIn y s.buffer → y.number < a.number = λ y i. (let o = k.waiting y i in let z : y.number ≤ s.core.retired = subst (λ (x : Stored). x.number ≤ s.core.retired) o.entry (k.retired o.at o.store o.is_at o.of_hart) in omega arith) in
      let parted : (y : Stored) → IsIn y t.buffer → IsIn y s.buffer ⊎ (entry_of a ≡ y) = λ y i. in_more y (entry_of a) s.buffer (subst (IsIn y) b i) in
      let here : IsStore w (log ++ e ∷ []) h (entry_of a) = record { at = length log; store = a; is_at = subst (IsEventAt (log ++ e ∷ []) (length log)) is (event_last log e); of_hart = mine; entry = refl; writes = writes } in
      record {
        retired = λ j c at of_c. elim (stands log e j (kind.Store c) at) [ Earlier there early ↦ (let z = k.retired j c there of_c in omega arith) | Latest place q ↦ (let z = ap (λ (x : Access). x.number) (one_store e.kind a c is q) in omega arith) ];
        stored = λ j c at of_c. elim (stands log e j (kind.Store c) at) [
          | Earlier there early ↦ elim (k.stored j c there of_c) [ inl i ↦ inl (subst (IsIn (entry_of c)) (sym b) (in_first (entry_of c) s.buffer (entry_of a ∷ []) i)) | inr m ↦ inr (committed_kept log e c m) ]
          | Latest place q ↦ inl (subst (λ z. IsIn (entry_of z) t.buffer) (one_store e.kind a c is q) (subst (IsIn (entry_of a)) (sym b) (in_last (entry_of a) s.buffer)))
        ];
        reached = λ i g n l v at of_g. elim (stands log e i (kind.Commit g n l v) at) [ Earlier there early ↦ (let z = k.reached i g n l v there of_g in omega arith) | Latest place q ↦ absurd (not_both e.kind a g n l v is q) ];
        passed = λ i g n l v at of_g y in_t. elim (stands log e i (kind.Commit g n l v) at) [
          | Earlier there early ↦ elim (parted y in_t) [ inl i_s ↦ k.passed i g n l v there of_g y i_s | inr q ↦ subst (λ (x : Stored). n < x.number) q (let z = k.reached i g n l v there of_g in let y : n < a.number = omega arith in y) ]
          | Latest place q ↦ absurd (not_both e.kind a g n l v is q)
        ];
        waiting = λ y in_t. elim (parted y in_t) [ inl i_s ↦ store_is_kept w log e h y (k.waiting y i_s) | inr q ↦ subst (IsStore w (log ++ e ∷ []) h) q here ];
        rising = subst NumbersRise (sym b) (rise_more s.buffer (entry_of a) low k.rising);
      }

  ordered_by : Turn e.kind h s t → ((a : Access) → e.kind ≡ kind.Store a → IsWrite w a) → Ordered w (log ++ e ∷ []) h t
  ordered_by (Idles none still b r) writes = idles none still b r
  ordered_by (Leaves x g n l v is mine number b r) writes = leaves x g n l v is mine number b r
  ordered_by (Joins a is mine number b r) writes = joins a is (writes a is) mine number b r

ordered_kept : (w : Config) → IsKept w (Ordered w)
ordered_kept w = record {
  own = λ c log e d p h can k. ordered_by w log e h (p.harts h) ((row w c e.kind d p).part.harts h) k (turn w c e.kind d p h can) (λ a is. store_writes w c a d p (subst (λ z. Guard w c z d p) is can));
  other = λ c log e d p h s other can k. idles w log e h s s k (no_store w c e.kind d p h other can) (no_commit w c e.kind d p h other can) refl (omega arith);
}

pub ordered : (w : Config) (log : List Event) (m : Machine) (h : ℕ) → Reaches w log m → Ordered w log h (hart_at w m h)
ordered w log m h r = reached_keeps w (Ordered w) (ordered_kept w) log m r h (record {
  retired = λ j b at mine. absurd (cc);
  stored = λ j b at mine. absurd (cc);
  reached = λ i g n k v at mine. absurd (cc);
  passed = λ i g n k v at mine x in_b. absurd in_b;
  waiting = λ x in_b. absurd in_b;
  rising = tt;
})

-- the stores of a hart of the cluster at which something happens, by the events before it
pub ordered_at : (w : Config) (log : List Event) (i : ℕ) (e : Kind) (a : Happened w log i e) (h : ℕ) → cluster_of w h ≡ a.step.event.cluster.0 → Ordered w a.before h ((a.state.parts a.step.event.cluster.0).harts h)
ordered_at w log i e a h mine = subst (λ z. Ordered w a.before h ((a.state.parts z).harts h)) mine (ordered w a.before a.state h a.reached)
