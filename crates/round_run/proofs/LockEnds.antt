-- Who waits for a lock word, where no message is on its way and no lock word can be granted.
use Rattle.std.proofs.Common.{◌≡◌, ◌≢◌, ◌⊎◌, ℕ, zero, suc, ◌+◌, ◌-◌, ◌*◌, ◌/◌, ◌%◌, ◌==◌, ◌&&◌, nat_lt, nat_le, ◌<◌, ◌≤◌, Bool, true, false, cond, Some, List, [], ◌∷◌, inl, inr, refl, ◌∙◌, ap, ap₂, arith}
use Rattle.std.proofs.lemmas.Bool.Decides.{nat_tests}
use Rattle.dash_base.specs.declared.topology.Topology.{Topology}
use Rattle.dash_base.specs.declared.need.Need.TheVariants as needed
use Rattle.hart_core.specs.Access.{in_locks}
use Rattle.dash_event.specs.Offered.{bare_access, acquire_label}
use Rattle.dash_event.specs.declared.access.Access.{Access}
use Rattle.dash_event.specs.declared.access.Op.TheVariants as op
use Rattle.dash_event.specs.declared.access.Seen.TheVariants as seen
use Rattle.dash_event.specs.declared.event.Kind.TheVariants as kind
use Rattle.dash_model.specs.Maps.{weigh, total}
use Rattle.dash_model.specs.Config.{Config, lock_at, lock_home}
use Rattle.dash_model.specs.Net.{Packet}
use Rattle.dash_model.specs.OnLine.{one}
use Rattle.dash_model.specs.Part.{Part, Waiter}
use Rattle.dash_model.specs.Guard.{Guard}
use Rattle.dash_model.specs.Machine.{Machine}
use Rattle.dash_model.specs.Complete.{hart_at, IsQueued, IsWaiting}
use Rattle.dash_model.specs.LockFacts.{queue_of, is_waiter, of_hart, asking, LockFacts}
use Rattle.unit_rows.specs.declared.choice.Choice.TheVariants.{Grant}
use Rattle.unit_rows.specs.Rows.{Enabled}

-- ---- sums, and queues

-- a number is 0, or is not
zero_or : (n : ℕ) → (n ≡ 0) ⊎ (0 < n)
zero_or zero = inl refl
zero_or (suc n) = inr (omega arith)

-- a term of a sum that is not 0
record Found (f : ℕ → ℕ) (n : ℕ) : Type 0 where
  pub at : ℕ
  pub inside : at < n
  pub some : 0 < f at

-- where a sum is not 0, it has such a term
found : (f : ℕ → ℕ) (n : ℕ) → 0 < total f n → Found f n
unfolding total
found f zero some = absurd (omega arith)
found f (suc n) some =
    elim (zero_or (f n)) [
      | inl none ↦ (let rest = found f n (omega arith) in record { at = rest.at; inside = (let l = rest.inside in omega arith); some = rest.some })
      | inr here ↦ record { at = n; inside = omega arith; some = here }
    ]

-- a number below the next one is this one, or below it
term_or : (i n : ℕ) → i < suc n → (i ≡ n) ⊎ (i < n)
term_or i n low = grind (arith, nat_tests)

-- each term is at most the sum
term_le : (f : ℕ → ℕ) (i n : ℕ) → i < n → f i ≤ total f n
unfolding total
term_le f i zero low = absurd (omega arith)
term_le f i (suc n) low =
    elim (term_or i n low) [
      | inl is ↦ (let here : f i ≡ f n = ap f is in omega arith)
      | inr less ↦ (let rest = term_le f i n less in omega arith)
    ]

-- the first in a queue is the hart, or the hart is behind it
queued_by : (h : ℕ) (x : Waiter) (xs : List Waiter) (i : Bool) → (x.hart == h) ≡ i → 0 < cond i 1 0 + weigh (is_waiter h) xs → (0 < weigh (is_waiter h) xs → IsQueued h xs) → IsQueued h (x ∷ xs)
queued_by h x xs true e some rest = inl (grind (arith, nat_tests))
queued_by h x xs false e some rest = inr (rest (omega arith))

-- a hart has a place in a queue where it is in it
queued : (h : ℕ) (xs : List Waiter) → 0 < weigh (is_waiter h) xs → IsQueued h xs
unfolding weigh
queued h [] some = absurd (omega arith)
queued h (x ∷ xs) some = queued_by h x xs (x.hart == h) refl some (queued h xs)

-- the weight of the hart itself
one_same : (a h : ℕ) → a ≡ h → one a h ≡ 1
one_same a h e = grind (arith, nat_tests)

-- and the other way round
has_place : (h : ℕ) (xs : List Waiter) → IsQueued h xs → 0 < weigh (is_waiter h) xs
unfolding weigh
has_place h [] waits = absurd waits
has_place h (x ∷ xs) (inl is) = let here = one_same x.hart h is in omega arith
has_place h (x ∷ xs) (inr later) = let rest = has_place h xs later in omega arith

-- a queue in which someone waits
pub record HasFirst (xs : List Waiter) : Type 0 where
  pub waiter : Waiter
  pub others : List Waiter
  pub is : xs ≡ waiter ∷ others

-- a queue that a hart is in is one
first_of_queue : (h : ℕ) (xs : List Waiter) → IsQueued h xs → HasFirst xs
first_of_queue h [] waits = absurd waits
first_of_queue h (x ∷ xs) waits = record { waiter = x; others = xs; is = refl }

-- ---- a grant

-- the address of a lock word
abbrev lock_address : Topology → ℕ → ℕ
lock_address t i = t.base + t.memory + 4 * i

-- its number
lock_number : (b m i : ℕ) → (b + m + 4 * i - (b + m)) / 4 ≡ i
lock_number b m i = let e : b + m + 4 * i - (b + m) ≡ 4 * i = omega arith in rw e (omega arith)

-- both tests hold
and_true : (i j : Bool) → i ≡ true → j ≡ true → (i && j) ≡ true
and_true i j e f = ap₂ (λ x y. x && y) e f

-- tests of numbers that hold
le_true : (a b : ℕ) → a ≤ b → nat_le a b ≡ true
le_true a b le = grind (arith, nat_tests)

lt_true : (a b : ℕ) → a < b → nat_lt a b ≡ true
lt_true a b less = grind (arith, nat_tests)

equal_true : (a b : ℕ) → a ≡ b → (a == b) ≡ true
equal_true a b e = grind (arith, nat_tests)

-- it is in the lock region
in_region : (t : Topology) (i : ℕ) → i < t.locks → in_locks t (lock_address t i) ≡ true
in_region t i low = and_true _ _ (le_true (t.base + t.memory) (lock_address t i) (omega arith)) (lt_true (lock_address t i) (t.base + t.memory + 4 * t.locks) (omega arith))

-- it is that of a word
in_words : (b m i : ℕ) → b % 65536 ≡ 0 → m % 65536 ≡ 0 → (b + m + 4 * i) % 4 ≡ 0
in_words b m i base memory = omega arith

-- a lock word that is 0, where someone waits, can be granted at its home
pub can_grant : (w : Config) (c i : ℕ) (p : Part) → w.top.base % 65536 ≡ 0 → w.top.memory % 65536 ≡ 0 → i < w.top.locks → lock_home w i ≡ c
    → HasFirst (p.locks i).queue → (p.locks i).value ≡ 0 → Enabled w c (Grant i) p
unfolding Guard
can_grant w c i p base memory low home first zero_there =
    let number : lock_at w (lock_address w.top i) ≡ i = lock_number w.top.base w.top.memory i in
    record {
      event = kind.Grant granted;
      is_of = number;
      done = record { need = needed.Alu; next = (p.harts 0).core };
      guard = record {
        mine = and_true _ _
            (and_true _ _ (in_region w.top i low) (equal_true _ 0 (in_words w.top.base w.top.memory i base memory)))
            (equal_true _ c (ap (lock_home w) number ∙ home));
        is_zero = ap (λ n. (p.locks n).value) number ∙ zero_there;
        waiter = first.waiter;
        others = first.others;
        queue = ap (λ n. (p.locks n).queue) number ∙ first.is;
        access = record { made = refl; seen_is = refl };
      };
    }
  where
    granted : Access
    granted = record (bare_access first.waiter.hart first.waiter.number op.Ask (record { 0 = lock_address w.top i })) {
      labels = acquire_label;
      read = Some 0;
      written = Some first.waiter.value;
      seen = seen.Lock (p.locks (lock_at w (lock_address w.top i))).count;
    }

-- ---- who waits

-- no messages have no weight
no_messages : (h : ℕ) (net : List Packet) → net ≡ [] → weigh (of_hart h) net ≡ 0
unfolding weigh
no_messages h net none = ap (weigh (of_hart h)) none

-- 1 where a lock instruction was sent
abbrev if_asked : Bool → ℕ
if_asked i = cond i 1 0

-- it is 1
asking_one : (i : Bool) → i ≡ true → if_asked i ≡ 1
asking_one i e = ap if_asked e

-- where it is not 0, the instruction was sent
one_asking : (i : Bool) → 0 < if_asked i → i ≡ true
one_asking true some = refl
one_asking false some = absurd (omega arith)

-- a hart whose lock instruction was sent waits
pub waits_if_asked : (w : Config) (m : Machine) (h : ℕ) → LockFacts w m → m.net ≡ [] → ((i : ℕ) → i < w.top.locks → HasFirst (queue_of w m i) → ((m.parts (lock_home w i)).locks i).value ≢ 0)
    → (hart_at w h m).asked ≡ true → IsWaiting w h m
waits_if_asked w m h facts none taken asked =
    let one_place = facts.one_each h in
    let no_message = no_messages h m.net none in
    let asks : asking w m h ≡ 1 = asking_one (hart_at w h m).asked asked in
    let place = found (λ i. weigh (is_waiter h) (queue_of w m i)) w.top.locks (omega arith) in
    let waits = queued h (queue_of w m place.at) place.some in
    record { word = place.at; inside = place.inside; queued = waits; taken = taken place.at place.inside (first_of_queue h (queue_of w m place.at) waits) }

-- and no other
pub asked_if_waits : (w : Config) (m : Machine) (h : ℕ) → LockFacts w m → IsWaiting w h m → (hart_at w h m).asked ≡ true
asked_if_waits w m h facts waits =
    let here = has_place h (queue_of w m waits.word) waits.queued in
    let all = term_le (λ i. weigh (is_waiter h) (queue_of w m i)) waits.word w.top.locks waits.inside in
    let one_place = facts.one_each h in
    one_asking (hart_at w h m).asked (omega arith)
