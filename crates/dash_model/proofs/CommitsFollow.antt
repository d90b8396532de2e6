-- In every run each hart's stores are committed in program order, each after it retired, and none is left out.
use Rattle.std.proofs.Common.{◌≡◌, ℕ, ◌+◌, ◌<◌, ◌==◌, Bool, true, false, nat_lt, Some, List, ◌∷◌, ◌⊎◌, inl, inr, refl, sym, ap, ◌∙◌, subst, arith}
use Rattle.std.proofs.lemmas.Bool.Decides.{nat_tests}
use Rattle.dash_base.specs.declared.id.HartId.{HartId}
use Rattle.dash_base.specs.declared.id.LineId.{LineId}
use Rattle.dash_base.specs.Places.{line_of}
use Rattle.dash_event.specs.declared.access.Access.{Access}
use Rattle.dash_event.specs.declared.event.Event.{Event}
use Rattle.dash_event.specs.declared.event.Kind.{Kind}
use Rattle.dash_event.specs.declared.event.Kind.TheVariants as kind
use Rattle.write_buffer.specs.declared.entry.Entry.{Entry as Stored}
use Rattle.dash_model.specs.Config.{Config, line_at}
use Rattle.dash_model.specs.Part.{Part}
use Rattle.dash_model.specs.HartRows.{HartEffect, entry_of}
use Rattle.dash_model.specs.HartGuards.{CommitFits, number_of}
use Rattle.dash_model.specs.Guard.{Guard}
use Rattle.dash_model.specs.Machine.{IsRun}
use Rattle.dash_model.specs.Log.{IsEventAt}
use Rattle.dash_model.specs.Coherent.{IsStoredBefore, IsCommittedBefore}
use Rattle.dash_model.proofs.Tests.{is_below, is_same, not_same}
use Rattle.dash_model.proofs.Buffers.{number_is}
use Rattle.dash_model.proofs.Stores.{store_mine}
use Rattle.dash_model.proofs.Happened.{Happened, happened}
use Rattle.dash_model.proofs.Earlier.{into_before, from_before, guard_of}
use Rattle.dash_model.proofs.Entries.{IsIn, NumbersRise}
use Rattle.dash_model.proofs.StoreOrder.{IsCommitted, IsStore, ordered_at}

-- a store that is committed in the events before a position
pub committed_before : (w : Config) (log : List Event) (i : ℕ) (e : Kind) (a : Happened w log i e) (b : Access) → IsCommitted a.before b → IsCommittedBefore log b i
committed_before w log i e a b k =
    let there = from_before w log i e a k.at (kind.Commit b.hart b.number k.line k.version) k.is_at in
    record { at = k.at; line = k.line; version = k.version; is_at = there.0; before = there.1 }

pub commit_fits : (w : Config) (c : ℕ) (g : HartId) (n : ℕ) (k : LineId) (v : ℕ) (d : HartEffect) (p : Part) → Guard w c (kind.Commit g n k v) d p → CommitFits w c g.0 n k.0 v p
unfolding Guard
commit_fits w c g n k v d p can = can

-- a commit of a run: the oldest store that waits, in what the events before it made of the hart's stores
record Leaving (w : Config) (log : List Event) (i : ℕ) (g : HartId) (n : ℕ) (k : LineId) (v : ℕ) : Type 0 where
  pub place : Happened w log i (kind.Commit g n k v)
  pub oldest : Stored
  pub others : List Stored
  pub number : n ≡ oldest.number
  pub line : line_at w oldest.word.0 ≡ k.0
  pub store : IsStore w place.before g.0 oldest
  pub rising : NumbersRise (oldest ∷ others)
  pub stored : (j : ℕ) (b : Access) → IsEventAt place.before j (kind.Store b) → b.hart.0 ≡ g.0 → IsIn (entry_of b) (oldest ∷ others) ⊎ IsCommitted place.before b
  pub passed : (j : ℕ) (f : HartId) (m : ℕ) (l : LineId) (u : ℕ) → IsEventAt place.before j (kind.Commit f m l u) → f.0 ≡ g.0 → m < oldest.number

leaving : (w : Config) (log : List Event) (i : ℕ) (g : HartId) (n : ℕ) (k : LineId) (v : ℕ) → IsRun w log → IsEventAt log i (kind.Commit g n k v) → Leaving w log i g n k v
leaving w log i g n k v r at =
    let a = happened w log i (kind.Commit g n k v) r at in
    let c = a.step.event.cluster.0 in
    let p = a.state.parts c in
    let can = commit_fits w c g n k v a.step.done p (guard_of w log i (kind.Commit g n k v) a) in
    let o = ordered_at w log i (kind.Commit g n k v) a g.0 can.mine in
    let first : IsIn can.oldest (p.harts g.0).buffer = subst (IsIn can.oldest) (sym can.buffer) (inl refl) in
    record {
      place = a;
      oldest = can.oldest;
      others = can.others;
      number = can.number_is;
      line = can.line;
      store = o.waiting can.oldest first;
      rising = subst NumbersRise can.buffer o.rising;
      stored = λ j b at mine. elim (o.stored j b at mine) [ inl x ↦ inl (subst (IsIn (entry_of b)) can.buffer x) | inr x ↦ inr x ];
      passed = λ j f m l u at mine. o.passed j f m l u at mine can.oldest first;
    }

pub commits_follow_stores : (w : Config) (log : List Event) → IsRun w log
    → (i : ℕ) (hart : HartId) (number : ℕ) (line : LineId) (version : ℕ) → IsEventAt log i (kind.Commit hart number line version) → IsStoredBefore w.top log i hart number line
commits_follow_stores w log r i g n k v at =
    let x = leaving w log i g n k v r at in
    let s = x.store in
    let there = from_before w log i (kind.Commit g n k v) x.place s.at (kind.Store s.store) s.is_at in
    let line : (line_of w.top s.store.word).0 ≡ k.0 = ap (λ (y : Stored). line_at w y.word.0) s.entry ∙ x.line in
    record {
      at = s.at;
      store = s.store;
      is_at = there.0;
      before = there.1;
      of_hart = (let q = s.of_hart in λ y. record { 0 = q y });
      of_number = ap (λ (y : Stored). y.number) s.entry ∙ sym x.number;
      of_line = λ y. record { 0 = line y };
    }

pub commits_in_order : (w : Config) (log : List Event) → IsRun w log
    → (i j : ℕ) (hart : HartId) (m n : ℕ) (k l : LineId) (u v : ℕ) → IsEventAt log i (kind.Commit hart m k u) → IsEventAt log j (kind.Commit hart n l v) → i < j → m < n
commits_in_order w log r i j g m n k l u v first second low =
    let x = leaving w log j g n l v r second in
    let number = x.number in
    let passed = x.passed i g m k u (into_before w log j (kind.Commit g n l v) x.place i (kind.Commit g m k u) first low) refl in
    omega arith

-- a store has the number after all that its hart came to before
new_number : (w : Config) (c : ℕ) (a : Access) (d : HartEffect) (p : Part) → Guard w c (kind.Store a) d p → a.number ≡ (p.harts a.hart.0).core.retired + 1
unfolding Guard
new_number w c a d p can = number_is a.hart.0 (number_of a.hart.0 p) d.need a a.word a.mask can.value 0 false can.next.need_is can.access.made

-- what the events before a store made of its hart's stores
record Joining (w : Config) (log : List Event) (i : ℕ) (b : Access) : Type 0 where
  pub stores : (j : ℕ) (a : Access) → IsEventAt log j (kind.Store a) → j < i → a.hart.0 ≡ b.hart.0 → a.number < b.number
  pub commits : (j : ℕ) (g : HartId) (n : ℕ) (k : LineId) (v : ℕ) → IsEventAt log j (kind.Commit g n k v) → j < i → g.0 ≡ b.hart.0 → n < b.number

joining : (w : Config) (log : List Event) (i : ℕ) (b : Access) → IsRun w log → IsEventAt log i (kind.Store b) → Joining w log i b
joining w log i b r at =
    let a = happened w log i (kind.Store b) r at in
    let c = a.step.event.cluster.0 in
    let p = a.state.parts c in
    let can = guard_of w log i (kind.Store b) a in
    let number = new_number w c b a.step.done p can in
    let o = ordered_at w log i (kind.Store b) a b.hart.0 (store_mine w c b a.step.done p can) in
    record {
      stores = λ j x there low of_b. (let z = o.retired j x (into_before w log i (kind.Store b) a j (kind.Store x) there low) of_b in omega arith);
      commits = λ j g n k v there low of_b. (let z = o.reached j g n k v (into_before w log i (kind.Store b) a j (kind.Commit g n k v) there low) of_b in omega arith);
    }

pub stores_rise : (w : Config) (log : List Event) → IsRun w log
    → (i j : ℕ) (a b : Access) → IsEventAt log i (kind.Store a) → IsEventAt log j (kind.Store b) → a.hart.0 ≡ b.hart.0 → i < j → a.number < b.number
stores_rise w log r i j a b first second mine low = (joining w log j b r second).stores i a first low mine

two_kinds : (log : List Event) (i : ℕ) (g : HartId) (n : ℕ) (k : LineId) (v : ℕ) (b : Access) → IsEventAt log i (kind.Commit g n k v) → IsEventAt log i (kind.Store b) → ⊥
two_kinds log i g n k v b x y = absurd (let z : Some (kind.Commit g n k v) ≡ Some (kind.Store b) = sym x ∙ y in cc)

-- a store with a lower number than that of a commit of its hart stands before it
module _ (w : Config) (log : List Event) (r : IsRun w log) (i j : ℕ) (g : HartId) (n : ℕ) (k : LineId) (v : ℕ) (b : Access) (at : IsEventAt log i (kind.Commit g n k v)) (there : IsEventAt log j (kind.Store b)) (mine : b.hart.0 ≡ g.0) (less : b.number < n) where
  not_after : (t : Bool) → (i == j) ≡ t → nat_lt j i ≡ false → ⊥
  not_after true e low = two_kinds log j g n k v b (subst (λ z. IsEventAt log z (kind.Commit g n k v)) (is_same i j e) at) there
  not_after false e low =
      let differs = not_same i j e in
      let after : i < j = grind (arith, nat_tests) in
      let above = (joining w log j b r there).commits i g n k v at after (sym mine) in
      omega arith

  stands_before : (t : Bool) → nat_lt j i ≡ t → j < i
  stands_before true e = is_below j i e
  stands_before false e = absurd (not_after (i == j) refl e)

  left_out : IsCommittedBefore log b i
  left_out =
      let x = leaving w log i g n k v r at in
      let number = x.number in
      let low = stands_before (nat_lt j i) refl in
      elim (x.stored j b (into_before w log i (kind.Commit g n k v) x.place j (kind.Store b) there low) mine) [
        | inl i_b ↦ elim i_b [
          | inl here ↦ (let q = ap (λ (y : Stored). y.number) here in absurd (omega arith))
          | inr rest ↦ (let q = x.rising.0 (entry_of b) rest in absurd (omega arith))
        ]
        | inr done ↦ committed_before w log i (kind.Commit g n k v) x.place b done
      ]

pub no_store_is_passed : (w : Config) (log : List Event) → IsRun w log
    → (i : ℕ) (hart : HartId) (number : ℕ) (line : LineId) (version : ℕ) (j : ℕ) (b : Access)
    → IsEventAt log i (kind.Commit hart number line version) → IsEventAt log j (kind.Store b) → b.hart ≡ hart → b.number < number → IsCommittedBefore log b i
no_store_is_passed w log r i g n k v j b at there mine less = left_out w log r i j g n k v b at there (ap (λ (h : HartId). h.0) mine) less
