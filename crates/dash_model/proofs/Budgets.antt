-- What a hart commits it has retired, within its budget; so the commits of a line are no more than all harts may retire.
use Rattle.std.proofs.Common.{◌≡◌, ◌≢◌, ℕ, zero, suc, ◌+◌, ◌*◌, ◌/◌, ◌≤◌, ◌<◌, ◌==◌, Bool, true, false, cond, List, [], ◌∷◌, ◌++◌, length, map, if◌then◌else◌, refl, ap, ◌∙◌, subst, inl, inr, arith}
use Rattle.std.proofs.Math.Nat.{mul-le-mul_left}
use Rattle.std.proofs.lemmas.Bool.Decides.{nat_tests}
use Rattle.std.proofs.lemmas.List.{length-append, length-map}
use Rattle.dash_base.specs.declared.id.LineId.{LineId}
use Rattle.dash_event.specs.declared.access.Access.{Access}
use Rattle.dash_event.specs.declared.event.Event.{Event}
use Rattle.dash_event.specs.declared.event.Kind.{Kind}
use Rattle.dash_event.specs.declared.event.Kind.TheVariants as kind
use Rattle.hart_core.specs.HartState.{HartState}
use Rattle.hart_core.specs.Meaning.{retired_after}
use Rattle.hart_core.proofs.LawsOffered.{retires, in_budget}
use Rattle.dash_event.specs.Effects.{reply}
use Rattle.dash_model.specs.Maps.{weigh, total, most}
use Rattle.dash_model.specs.Config.{Config, all_harts, cluster_of}
use Rattle.dash_model.specs.OnLine.{one}
use Rattle.dash_model.specs.Part.{Processor, Part}
use Rattle.dash_model.specs.HartRows.{HartEffect, cleared, entry_of, rmw_reserved}
use Rattle.dash_model.specs.Guard.{Guard}
use Rattle.dash_model.specs.Row.{row}
use Rattle.dash_model.specs.Log.{commit_in, commits_of}
use Rattle.dash_model.specs.Machine.{Machine, Step, event_of, after, opening, AreSteps, state_after, IsRun, Reaches}
use Rattle.dash_model.specs.BufferFacts.{store_by, stores_by, commit_by, commits_by}
use Rattle.dash_model.proofs.Along.{same_or_not}
use Rattle.dash_model.proofs.HartRuns.{hart_at, IsKept, reached_keeps}
use Rattle.dash_model.proofs.Buffers.{buffer_is, store_retires}
use Rattle.dash_model.proofs.Stores.{rises}
use Rattle.dash_model.proofs.BufferFacts.{not_mine, buffers_hold_uncommitted_stores}

-- 1 where an atomic operation of hart h commits
abbrev pub swaps : ℕ → Kind → ℕ
swaps h (kind.Rmw a k v) = one a.hart.0 h
swaps h e = 0

-- 1 where hart h makes a version
abbrev pub makes : ℕ → Kind → ℕ
makes h (kind.Commit g n k v) = one g.0 h
makes h (kind.Rmw a k v) = one a.hart.0 h
makes h e = 0

-- 1 where hart h retires an instruction that makes one, now or later
abbrev pub spends : ℕ → Kind → ℕ
spends h (kind.Store a) = one a.hart.0 h
spends h (kind.Rmw a k v) = one a.hart.0 h
spends h e = 0

-- how often in a log
abbrev pub often : (Kind → ℕ) → List Event → ℕ
often f log = weigh (λ e. f e.kind) log

often-append : (f : Kind → ℕ) (xs ys : List Event) → often f (xs ++ ys) ≡ often f xs + often f ys
unfolding weigh
often-append f [] ys = omega arith
often-append f (x ∷ xs) ys = let ih = often-append f xs ys in omega arith

often-last : (f : Kind → ℕ) (log : List Event) (e : Event) → often f (log ++ e ∷ []) ≡ often f log + f e.kind
unfolding weigh
often-last f log e = let r = often-append f log (e ∷ []) in omega arith

-- what a hart spends at an event it retires, within its budget
pub record Spends (w : Config) (h : ℕ) (e : Kind) (s t : HartState) : Type 0 where
  pub retired : s.retired + spends h e ≤ t.retired
  pub within : 1 ≤ spends h e → t.retired ≤ w.top.budget

-- an event of hart g that retires one
spends_one : (w : Config) (g h : ℕ) (e : Kind) (hs : ℕ → Processor) (t next : HartState) (i : Bool) → (g == h) ≡ i → spends h e ≡ one g h → next.retired ≡ (hs g).core.retired + 1 → next.retired ≤ w.top.budget → (g ≡ h → t ≡ next) → (hs h).core.retired ≤ t.retired → Spends w h e (hs h).core t
spends_one w g h e hs t next true is weight more top now less =
    let same : g ≡ h = grind (arith, nat_tests) in
    let old : (hs g).core.retired ≡ (hs h).core.retired = ap (λ z. (hs z).core.retired) same in
    let new : t.retired ≡ next.retired = ap (λ (z : HartState). z.retired) (now same) in
    let test : one g h ≡ 1 = ap (λ b. cond b 1 0) is in
    record { retired = omega arith; within = λ _. omega arith }
spends_one w g h e hs t next false is weight more top now less =
    let test : one g h ≡ 0 = ap (λ b. cond b 1 0) is in
    record { retired = omega arith; within = λ some. absurd (omega arith) }

-- clearing what a hart held leaves its registers
cleared_core : (w : Config) (l : ℕ) (s : Processor) (b : Bool) → (cond b (cleared w l s) s).core ≡ s.core
cleared_core w l s true = refl
cleared_core w l s false = refl

test_same : (g h : ℕ) → g ≡ h → (h == g) ≡ true
test_same g h e = grind (arith, nat_tests)

spends_by : (w : Config) (c : ℕ) (e : Kind) (d : HartEffect) (p : Part) (h : ℕ) → Guard w c e d p → Spends w h e (p.harts h).core ((row w c e d p).part.harts h).core
unfolding row Guard
spends_by w c (kind.Store a) d p h can =
    let next = record (p.harts a.hart.0) { core = d.next; buffer = (p.harts a.hart.0).buffer ++ entry_of a ∷ [] } in
    spends_one w a.hart.0 h (kind.Store a) p.harts ((row w c (kind.Store a) d p).part.harts h).core d.next (a.hart.0 == h) refl refl (store_retires w (p.harts a.hart.0).core d.next d.need (reply a.read a.written) a.word a.mask can.value can.next.need_is can.next.does) (in_budget w.image w.top (p.harts a.hart.0).core d.next d.need (reply a.read a.written) can.next.does) (λ same. ap (λ b. (cond b next (p.harts h)).core) (test_same a.hart.0 h same)) (rises (kind.Store a) h (p.harts h) ((row w c (kind.Store a) d p).part.harts h) (buffer_is w c (kind.Store a) d p h can))
spends_by w c (kind.Rmw a k v) d p h can =
    let next = record (p.harts a.hart.0) { core = d.next; reserved = rmw_reserved a.op (p.harts a.hart.0).reserved } in
    spends_one w a.hart.0 h (kind.Rmw a k v) p.harts ((row w c (kind.Rmw a k v) d p).part.harts h).core d.next (a.hart.0 == h) refl refl (retires w.image w.top (p.harts a.hart.0).core d.next d.need (reply a.read a.written) can.next.does ∙ ap (λ z. retired_after z (p.harts a.hart.0).core.retired) can.next.need_is) (in_budget w.image w.top (p.harts a.hart.0).core d.next d.need (reply a.read a.written) can.next.does) (λ same. cleared_core w k.0 (cond (h == a.hart.0) next (p.harts h)) _ ∙ ap (λ b. (cond b next (p.harts h)).core) (test_same a.hart.0 h same)) (rises (kind.Rmw a k v) h (p.harts h) ((row w c (kind.Rmw a k v) d p).part.harts h) (buffer_is w c (kind.Rmw a k v) d p h can))
spends_by w c e d p h can = record { retired = let more = rises e h (p.harts h) ((row w c e d p).part.harts h) (buffer_is w c e d p h can) in omega arith; within = λ some. absurd (omega arith) }

-- an event of another cluster spends nothing of the hart's
spends_none : (w : Config) (c : ℕ) (e : Kind) (d : HartEffect) (p : Part) (h : ℕ) → cluster_of w h ≢ c → Guard w c e d p → spends h e ≡ 0
unfolding Guard
spends_none w c (kind.Store a) d p h other can = ap (λ b. cond b 1 0) (not_mine w c a.hart.0 h can.next.mine other)
spends_none w c (kind.Rmw a k v) d p h other can = ap (λ b. cond b 1 0) (not_mine w c a.hart.0 h can.next.mine other)
spends_none w c _ d p h other can = refl

-- what a hart spent in a log
pub record Spent (w : Config) (log : List Event) (h : ℕ) (s : HartState) : Type 0 where
  pub retired : often (spends h) log ≤ s.retired
  pub budget : often (spends h) log ≤ w.top.budget

spent_more : (w : Config) (log : List Event) (e : Event) (h : ℕ) (s t : HartState) → Spends w h e.kind s t → Spent w log h s → Spent w (log ++ e ∷ []) h t
spent_more w log e h s t k old =
    let sum = often-last (spends h) log e in
    let more = k.retired in
    let within = k.within in
    let was = old.retired in
    let had = old.budget in
    record { retired = omega arith; budget = grind arith }

-- the same of a hart
abbrev pub SpentAt : Config → List Event → ℕ → Processor → Type 0
SpentAt w log h s = Spent w log h s.core

spent_kept : (w : Config) → IsKept w (SpentAt w)
spent_kept w = record {
  own = λ c log e d p h can k. spent_more w log e h (p.harts h).core ((row w c e.kind d p).part.harts h).core (spends_by w c e.kind d p h can) k;
  other = λ c log e d p h s other can k. let none = spends_none w c e.kind d p h other can in spent_more w log e h s.core s.core (record { retired = omega arith; within = λ some. absurd (omega arith) }) k;
}

opening_spent : (w : Config) (h : ℕ) → SpentAt w [] h (hart_at w (opening w) h)
unfolding weigh
opening_spent w h = record { retired = omega arith; budget = omega arith }

-- what a hart makes and what it spends, by its stores and commits
length_if : (A : Type 0) (a : A) (b : Bool) → length (if b then a ∷ [] else []) ≡ cond b 1 0
length_if A a true = refl
length_if A a false = refl

makes_is : (h : ℕ) (e : Kind) → length (commit_by h e) + swaps h e ≡ makes h e
makes_is h (kind.Commit g n k v) = let r = length_if ℕ n (g.0 == h) in omega arith
makes_is h (kind.Rmw a k v) = omega arith
makes_is h e = refl

spends_is : (h : ℕ) (e : Kind) → length (store_by h e) + swaps h e ≡ spends h e
spends_is h (kind.Store a) = let r = length_if Access a (a.hart.0 == h) in omega arith
spends_is h (kind.Rmw a k v) = omega arith
spends_is h e = refl

makes_often : (h : ℕ) (log : List Event) → length (commits_by h log) + often (swaps h) log ≡ often (makes h) log
unfolding weigh
makes_often h [] = refl
makes_often h (e ∷ es) =
    let here = makes_is h e.kind in
    let there = makes_often h es in
    let sum = length-append (commit_by h e.kind) (commits_by h es) in
    omega arith

spends_often : (h : ℕ) (log : List Event) → length (stores_by h log) + often (swaps h) log ≡ often (spends h) log
unfolding weigh
spends_often h [] = refl
spends_often h (e ∷ es) =
    let here = spends_is h e.kind in
    let there = spends_often h es in
    let sum = length-append (store_by h e.kind) (stores_by h es) in
    omega arith

-- a hart makes no more versions than its budget
hart_makes : (w : Config) (log : List Event) (h : ℕ) → IsRun w log → often (makes h) log ≤ w.top.budget
hart_makes w log h r =
    let m = state_after w (opening w) r.steps in
    let reached : Reaches w log m = record { run = r; state = refl } in
    let buffers = buffers_hold_uncommitted_stores w log m h reached in
    let spent = (reached_keeps w (SpentAt w) (spent_kept w) log m reached h (opening_spent w h)).budget in
    let made = makes_often h log in
    let paid = spends_often h log in
    let stores : length (stores_by h log) ≡ length buffers.committed + length buffers.waiting = ap length buffers.stores ∙ length-append buffers.committed buffers.waiting in
    let commits : length (commits_by h log) ≡ length buffers.committed = ap length buffers.commits ∙ length-map buffers.committed (λ a. a.number) in
    omega arith

-- sums over harts
total-add : (f g : ℕ → ℕ) (n : ℕ) → total (λ h. f h + g h) n ≡ total f n + total g n
unfolding total
total-add f g zero = refl
total-add f g (suc n) = let ih = total-add f g n in omega arith

total-le : (f : ℕ → ℕ) (b : ℕ) → ((h : ℕ) → f h ≤ b) → (n : ℕ) → total f n ≤ n * b
unfolding total
total-le f b low zero = omega arith
total-le f b low (suc n) = let ih = total-le f b low n in let here = low n in omega arith

total-at : (f : ℕ → ℕ) (g n : ℕ) → g < n → f g ≤ total f n
unfolding total
total-at f g zero less = absurd (omega arith)
total-at f g (suc n) less = elim (same_or_not g n) [ inl e ↦ (let same : f g ≡ f n = ap f e in omega arith) | inr o ↦ (let ih = total-at f g n (omega arith) in omega arith) ]

-- the hart of each commit is one of the machine
abbrev pub MakesBelow : ℕ → Kind → Type 0
MakesBelow n (kind.Commit g m k v) = g.0 < n
MakesBelow n (kind.Rmw a k v) = a.hart.0 < n
MakesBelow n e = Unit {0}

abbrev pub AllMakeBelow : ℕ → List Event → Type 0
AllMakeBelow n [] = Unit {0}
AllMakeBelow n (e ∷ es) = MakesBelow n e.kind × AllMakeBelow n es

hart_below : (w : Config) (c h : ℕ) → cluster_of w h ≡ c → c < w.top.clusters → h < all_harts w
hart_below w c h mine less =
    let some = w.top.harts_in_range in
    let next : h / w.top.harts + 1 ≤ w.top.clusters = omega arith in
    let product = mul-le-mul_left w.top.harts next in
    omega arith

makes_below : (w : Config) (c : ℕ) (e : Kind) (d : HartEffect) (p : Part) → c < w.top.clusters → Guard w c e d p → MakesBelow (all_harts w) e
unfolding Guard
makes_below w c (kind.Commit g n k v) d p less can = hart_below w c g.0 can.mine less
makes_below w c (kind.Rmw a k v) d p less can = hart_below w c a.hart.0 can.next.mine less
makes_below w c _ d p less can = tt

steps_below : (w : Config) (m : Machine) (gs : List Step) → AreSteps w m gs → AllMakeBelow (all_harts w) (map event_of gs)
steps_below w m [] s = tt
steps_below w m (g ∷ gs) s = (makes_below w g.event.cluster.0 g.event.kind g.done (m.parts g.event.cluster.0) s.0.cluster s.0.steps.guard, steps_below w (after w m g) gs s.1)

-- each commit of a line is one hart's
at_most_one : (A : Type 0) (a : A) (b : Bool) → length (if b then a ∷ [] else []) ≤ 1
at_most_one A a true = omega arith
at_most_one A a false = omega arith

one_makes : (g n : ℕ) → g < n → 1 ≤ total (λ h. one g h) n
one_makes g n less = let self : one g g ≡ 1 = grind (arith, nat_tests) in let r = total-at (λ h. one g h) g n less in omega arith

commit_made : (n : ℕ) (l : LineId) (e : Kind) → MakesBelow n e → length (commit_in l e) ≤ total (λ h. makes h e) n
commit_made n l (kind.Commit g m k v) less = let a = at_most_one Kind (kind.Commit g m k v) (k.0 == l.0) in let b = one_makes g.0 n less in omega arith
commit_made n l (kind.Rmw a k v) less = let f = at_most_one Kind (kind.Rmw a k v) (k.0 == l.0) in let b = one_makes a.hart.0 n less in omega arith
commit_made n l e less = omega arith

commits_made : (n : ℕ) (l : LineId) (log : List Event) → AllMakeBelow n log → length (commits_of log l) ≤ total (λ h. often (makes h) log) n
unfolding weigh
commits_made n l [] less = omega arith
commits_made n l (e ∷ es) less =
    let here = commit_made n l e.kind less.0 in
    let there = commits_made n l es less.1 in
    let sum = total-add (λ h. makes h e.kind) (λ h. often (makes h) es) n in
    let all = length-append (commit_in l e.kind) (commits_of es l) in
    omega arith

pub within_budgets : (w : Config) (log : List Event) (l : LineId) → IsRun w log → length (commits_of log l) ≤ all_harts w * w.top.budget
within_budgets w log l r =
    let below = subst (AllMakeBelow (all_harts w)) r.events (steps_below w (opening w) r.steps r.happen) in
    let made = commits_made (all_harts w) l log below in
    let paid = total-le (λ h. often (makes h) log) w.top.budget (λ h. hart_makes w log h r) (all_harts w) in
    omega arith

pub below_greatest : (w : Config) (log : List Event) (l : LineId) → IsRun w log → length (commits_of log l) < most
below_greatest w log l r =
    let paid = within_budgets w log l r in
    let work = w.top.work_in_range in
    omega arith
