-- In every run each hart's write buffer holds the stores that the log has not committed.
use Rattle.std.proofs.Common.{◌≡◌, ◌≢◌, ℕ, ◌==◌, Bool, true, false, cond, List, [], ◌∷◌, ◌++◌, map, if◌then◌else◌, append-nil, refl, sym, ap, ap₂, ◌∙◌, subst, inl, inr, arith}
use Rattle.std.proofs.lemmas.Bool.Decides.{nat_tests}
use Rattle.std.proofs.lemmas.Grind.{flat_map-append}
use Rattle.std.proofs.lemmas.List.{append_assoc, map-append}
use Rattle.dash_base.specs.declared.id.HartId.{HartId}
use Rattle.dash_base.specs.declared.id.LineId.{LineId}
use Rattle.dash_event.specs.declared.access.Access.{Access}
use Rattle.dash_event.specs.declared.event.Event.{Event}
use Rattle.dash_event.specs.declared.event.Kind.{Kind}
use Rattle.dash_event.specs.declared.event.Kind.TheVariants as kind
use Rattle.write_buffer.specs.declared.entry.Entry.{Entry as Stored}
use Rattle.dash_model.specs.Config.{Config, cluster_of}
use Rattle.dash_model.specs.Part.{Processor, Part}
use Rattle.dash_model.specs.HartRows.{HartEffect, entry_of, cleared, commit_row}
use Rattle.dash_model.specs.Guard.{Guard}
use Rattle.dash_model.specs.Row.{row}
use Rattle.dash_model.specs.Machine.{Machine, Reaches}
use Rattle.dash_model.specs.BufferFacts.{store_by, stores_by, commit_by, commits_by, BufferFacts}
use Rattle.dash_model.proofs.Along.{same_or_not}
use Rattle.dash_model.proofs.Buffers.{buffer_is, kept_else}
use Rattle.dash_model.proofs.HartRuns.{hart_at, IsKept, reached_keeps}

-- a hart's stores by the log, where this is in its buffer
pub record Waits (log : List Event) (h : ℕ) (b : List Stored) : Type 0 where
  pub committed : List Access
  pub waiting : List Access
  pub stores : stores_by h log ≡ committed ++ waiting
  pub commits : commits_by h log ≡ map (λ a. a.number) committed
  pub buffer : b ≡ map entry_of waiting

-- an event's part in a hart's buffer: none, the oldest store leaves it, or one more waits
pub data Effect (e : Kind) (h : ℕ) (b c : List Stored) : Type 0 where
  Same : store_by h e ≡ [] → commit_by h e ≡ [] → c ≡ b → Effect e h b c
  Gone : (x : Stored) → store_by h e ≡ [] → commit_by h e ≡ x.number ∷ [] → b ≡ x ∷ c → Effect e h b c
  More : (a : Access) → store_by h e ≡ a ∷ [] → commit_by h e ≡ [] → c ≡ b ++ entry_of a ∷ [] → Effect e h b c

store_by_test : (w : Config) (c : ℕ) (a : Access) (d : HartEffect) (p : Part) (h : ℕ) (i : Bool) → (a.hart.0 == h) ≡ i → Effect (kind.Store a) h (p.harts h).buffer ((row w c (kind.Store a) d p).part.harts h).buffer
unfolding row
store_by_test w c a d p h true is =
    let test : (h == a.hart.0) ≡ true = grind (arith, nat_tests) in
    let same : a.hart.0 ≡ h = grind (arith, nat_tests) in
    let next = record (p.harts a.hart.0) { core = d.next; buffer = (p.harts a.hart.0).buffer ++ entry_of a ∷ [] } in
    More a (ap (λ b. if b then a ∷ [] else []) is) refl (ap (λ b. (cond b next (p.harts h)).buffer) test ∙ ap (λ z. (p.harts z).buffer ++ entry_of a ∷ []) same)
store_by_test w c a d p h false is =
    let test : (h == a.hart.0) ≡ false = grind (arith, nat_tests) in
    let next = record (p.harts a.hart.0) { core = d.next; buffer = (p.harts a.hart.0).buffer ++ entry_of a ∷ [] } in
    Same (ap (λ b. if b then a ∷ [] else []) is) refl (ap (λ b. (cond b next (p.harts h)).buffer) test)

-- clearing what a hart held leaves its buffer
cleared_keeps : (w : Config) (l : ℕ) (s : Processor) (b : Bool) → (cond b (cleared w l s) s).buffer ≡ s.buffer
cleared_keeps w l s true = refl
cleared_keeps w l s false = refl

commit_row_buffer : (w : Config) (g l h : ℕ) (x : Stored) (xs : List Stored) (p : Part) → ((commit_row w g l (x ∷ xs) p).part.harts h).buffer ≡ (cond (h == g) (record (p.harts g) { buffer = xs }) (p.harts h)).buffer
commit_row_buffer w g l h x xs p = cleared_keeps w l (cond (h == g) (record (p.harts g) { buffer = xs }) (p.harts h)) _

commit_by_test : (w : Config) (g : HartId) (n : ℕ) (k : LineId) (v h : ℕ) (p : Part) (x : Stored) (xs : List Stored) (i : Bool) → (g.0 == h) ≡ i → (p.harts g.0).buffer ≡ x ∷ xs → n ≡ x.number → Effect (kind.Commit g n k v) h (p.harts h).buffer ((commit_row w g.0 k.0 (x ∷ xs) p).part.harts h).buffer
commit_by_test w g n k v h p x xs true is b number =
    let test : (h == g.0) ≡ true = grind (arith, nat_tests) in
    let same : g.0 ≡ h = grind (arith, nat_tests) in
    let rest : ((commit_row w g.0 k.0 (x ∷ xs) p).part.harts h).buffer ≡ xs = commit_row_buffer w g.0 k.0 h x xs p ∙ ap (λ t. (cond t (record (p.harts g.0) { buffer = xs }) (p.harts h)).buffer) test in
    Gone x refl (ap (λ t. if t then n ∷ [] else []) is ∙ ap (λ z. z ∷ []) number) (ap (λ z. (p.harts z).buffer) (sym same) ∙ b ∙ ap (λ ys. x ∷ ys) (sym rest))
commit_by_test w g n k v h p x xs false is b number =
    let test : (h == g.0) ≡ false = grind (arith, nat_tests) in
    Same refl (ap (λ t. if t then n ∷ [] else []) is) (commit_row_buffer w g.0 k.0 h x xs p ∙ ap (λ t. (cond t (record (p.harts g.0) { buffer = xs }) (p.harts h)).buffer) test)

pub effect : (w : Config) (c : ℕ) (e : Kind) (d : HartEffect) (p : Part) (h : ℕ) → Guard w c e d p → Effect e h (p.harts h).buffer ((row w c e d p).part.harts h).buffer
unfolding row Guard
effect w c (kind.Store a) d p h can = store_by_test w c a d p h (a.hart.0 == h) refl
effect w c (kind.Commit g n k v) d p h can = subst (λ b. Effect (kind.Commit g n k v) h (p.harts h).buffer ((commit_row w g.0 k.0 b p).part.harts h).buffer) (sym can.buffer) (commit_by_test w g n k v h p can.oldest can.others (g.0 == h) refl can.buffer can.number_is)
effect w c e d p h can = Same refl refl (kept_else e h (p.harts h) ((row w c e d p).part.harts h) (buffer_is w c e d p h can) (λ a q. absurd (cc)) (λ g n k v q. absurd (cc)))

stores_more : (log : List Event) (e : Event) (h : ℕ) (xs : List Access) → store_by h e.kind ≡ xs → stores_by h (log ++ e ∷ []) ≡ stores_by h log ++ xs
stores_more log e h xs is = flat_map-append (λ e. store_by h e.kind) log (e ∷ []) ∙ ap (λ ys. stores_by h log ++ ys) (append-nil (store_by h e.kind) ∙ is)

commits_more : (log : List Event) (e : Event) (h : ℕ) (xs : List ℕ) → commit_by h e.kind ≡ xs → commits_by h (log ++ e ∷ []) ≡ commits_by h log ++ xs
commits_more log e h xs is = flat_map-append (λ e. commit_by h e.kind) log (e ∷ []) ∙ ap (λ ys. commits_by h log ++ ys) (append-nil (commit_by h e.kind) ∙ is)

-- nothing of a hart happens
same_waits : (log : List Event) (e : Event) (h : ℕ) (b c : List Stored) → store_by h e.kind ≡ [] → commit_by h e.kind ≡ [] → c ≡ b → Waits log h b → Waits (log ++ e ∷ []) h c
same_waits log e h b c none still same k = record {
  committed = k.committed;
  waiting = k.waiting;
  stores = stores_more log e h [] none ∙ append-nil (stores_by h log) ∙ k.stores;
  commits = commits_more log e h [] still ∙ append-nil (commits_by h log) ∙ k.commits;
  buffer = same ∙ k.buffer;
}

-- the oldest store leaves
first_same : (x y : Stored) (xs ys : List Stored) → x ∷ xs ≡ y ∷ ys → x ≡ y
first_same x y xs ys e = cc

rest_same : (x y : Stored) (xs ys : List Stored) → x ∷ xs ≡ y ∷ ys → xs ≡ ys
rest_same x y xs ys e = cc

gone_waits : (log : List Event) (e : Event) (h : ℕ) (x : Stored) (c : List Stored) (gone left : List Access) → store_by h e.kind ≡ [] → commit_by h e.kind ≡ x.number ∷ [] → stores_by h log ≡ gone ++ left → commits_by h log ≡ map (λ a. a.number) gone → x ∷ c ≡ map entry_of left → Waits (log ++ e ∷ []) h c
gone_waits log e h x c gone [] none one stores commits buffer = absurd (cc)
gone_waits log e h x c gone (a ∷ rest) none one stores commits buffer =
    let oldest : x ≡ entry_of a = first_same x (entry_of a) c (map entry_of rest) buffer in
    record {
      committed = gone ++ a ∷ [];
      waiting = rest;
      stores = stores_more log e h [] none ∙ append-nil (stores_by h log) ∙ stores ∙ sym (append_assoc gone (a ∷ []) rest);
      commits = commits_more log e h (x.number ∷ []) one ∙ ap₂ (λ ys n. ys ++ n ∷ []) commits (ap (λ z. z.number) oldest) ∙ sym (map-append (λ a. a.number) gone (a ∷ []));
      buffer = rest_same x (entry_of a) c (map entry_of rest) buffer;
    }

more_waits : (log : List Event) (e : Event) (h : ℕ) (b c : List Stored) (a : Access) → store_by h e.kind ≡ a ∷ [] → commit_by h e.kind ≡ [] → c ≡ b ++ entry_of a ∷ [] → Waits log h b → Waits (log ++ e ∷ []) h c
more_waits log e h b c a one still more k = record {
  committed = k.committed;
  waiting = k.waiting ++ a ∷ [];
  stores = stores_more log e h (a ∷ []) one ∙ ap (λ ys. ys ++ a ∷ []) k.stores ∙ append_assoc k.committed k.waiting (a ∷ []);
  commits = commits_more log e h [] still ∙ append-nil (commits_by h log) ∙ k.commits;
  buffer = more ∙ ap (λ ys. ys ++ entry_of a ∷ []) k.buffer ∙ sym (map-append entry_of k.waiting (a ∷ []));
}

waits_by : (log : List Event) (e : Event) (h : ℕ) (b c : List Stored) → Effect e.kind h b c → Waits log h b → Waits (log ++ e ∷ []) h c
waits_by log e h b c (Same none still same) k = same_waits log e h b c none still same k
waits_by log e h b c (Gone x none one is) k = gone_waits log e h x c k.committed k.waiting none one k.stores k.commits (sym is ∙ k.buffer)
waits_by log e h b c (More a one still more) k = more_waits log e h b c a one still more k

-- an event of another cluster is none of the hart's
pub not_mine : (w : Config) (c g h : ℕ) → cluster_of w g ≡ c → cluster_of w h ≢ c → (g == h) ≡ false
not_mine w c g h mine other = elim (same_or_not g h) [ inl e ↦ absurd (other (ap (cluster_of w) (sym e) ∙ mine)) | inr n ↦ grind (arith, nat_tests) ]

pub no_store : (w : Config) (c : ℕ) (e : Kind) (d : HartEffect) (p : Part) (h : ℕ) → cluster_of w h ≢ c → Guard w c e d p → store_by h e ≡ []
unfolding Guard
no_store w c (kind.Store a) d p h other can = ap (λ b. if b then a ∷ [] else []) (not_mine w c a.hart.0 h can.next.mine other)
no_store w c _ d p h other can = refl

pub no_commit : (w : Config) (c : ℕ) (e : Kind) (d : HartEffect) (p : Part) (h : ℕ) → cluster_of w h ≢ c → Guard w c e d p → commit_by h e ≡ []
unfolding Guard
no_commit w c (kind.Commit g n k v) d p h other can = ap (λ b. if b then n ∷ [] else []) (not_mine w c g.0 h can.mine other)
no_commit w c _ d p h other can = refl

-- a hart's stores by the log
abbrev pub WaitsAt : List Event → ℕ → Processor → Type 0
WaitsAt log h s = Waits log h s.buffer

waits_kept : (w : Config) → IsKept w WaitsAt
waits_kept w = record {
  own = λ c log e d p h can k. waits_by log e h (p.harts h).buffer ((row w c e.kind d p).part.harts h).buffer (effect w c e.kind d p h can) k;
  other = λ c log e d p h s other can k. same_waits log e h s.buffer s.buffer (no_store w c e.kind d p h other can) (no_commit w c e.kind d p h other can) refl k;
}

facts : (w : Config) (log : List Event) (h : ℕ) (m : Machine) → WaitsAt log h (hart_at w m h) → BufferFacts w log h m
facts w log h m k = record { committed = k.committed; waiting = k.waiting; stores = k.stores; commits = k.commits; buffer = k.buffer }

pub buffers_hold_uncommitted_stores : (w : Config) (log : List Event) (m : Machine) (h : ℕ) → Reaches w log m → BufferFacts w log h m
buffers_hold_uncommitted_stores w log m h r = facts w log h m (reached_keeps w WaitsAt (waits_kept w) log m r h (record { committed = []; waiting = []; stores = refl; commits = refl; buffer = refl }))
