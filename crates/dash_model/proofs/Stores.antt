-- Each store that waits is the one of its hart and number in the log, and a number that has not retired has none there.
use Rattle.std.proofs.Common.{◌≡◌, ◌≢◌, ℕ, ◌≤◌, ◌<◌, ◌==◌, ◌&&◌, Bool, true, false, cond, Some, List, [], ◌∷◌, ◌++◌, flat_map, slice_get, if◌then◌else◌, unwrap_or, append-nil, refl, sym, ap, ap₂, ◌∙◌, subst, arith}
use Rattle.std.proofs.lemmas.Bool.Decides.{nat_tests}
use Rattle.std.proofs.lemmas.Grind.{flat_map-append}
use Rattle.dash_base.specs.declared.id.WordAddr.{WordAddr}
use Rattle.dash_event.specs.Records.{unseen}
use Rattle.dash_event.specs.declared.access.Access.{Access}
use Rattle.dash_event.specs.declared.event.Event.{Event}
use Rattle.dash_event.specs.declared.event.Kind.{Kind}
use Rattle.dash_event.specs.declared.event.Kind.TheVariants as kind
use Rattle.write_buffer.specs.declared.entry.Entry.{Entry as Stored}
use Rattle.hart_core.specs.Access.{IsProper}
use Rattle.dash_base.specs.declared.need.Need.{Need}
use Rattle.dash_base.specs.declared.need.Need.TheVariants as needed
use Rattle.hart_core.proofs.LawsOffered.{proper, needs_of}
use Rattle.dash_event.specs.Offered.{offered}
use Rattle.dash_event.specs.Effects.{is_of_memory, reply}
use Rattle.dash_model.specs.Config.{Config, hart_id, cluster_of}
use Rattle.dash_model.specs.Part.{Processor, Part}
use Rattle.dash_model.specs.HartRows.{HartEffect, entry_of}
use Rattle.dash_model.specs.HartGuards.{number_of}
use Rattle.dash_model.specs.Guard.{Guard}
use Rattle.dash_model.specs.Row.{row}
use Rattle.dash_model.specs.Machine.{Machine, Step, CanHappen, after}
use Rattle.dash_model.specs.LineContent.{store_in, store_of}
use Rattle.dash_model.proofs.Buffers.{Buffer, Kept, Dropped, Added, buffer_is, number_is, store_retires}
use Rattle.dash_model.proofs.Written.{IsWrite}
use Rattle.dash_model.proofs.HartRuns.{IsKept, hart_step}

-- a store that waits is that of its number in the log
pub record IsStored (w : Config) (log : List Event) (h : ℕ) (s : Stored) : Type 0 where
  pub access : Access
  pub found : store_of log (hart_id h) s.number ≡ Some access
  pub entry : entry_of access ≡ s
  pub writes : IsWrite w access

abbrev pub AllStored : Config → List Event → ℕ → List Stored → Type 0
AllStored w log h [] = Unit {0}
AllStored w log h (s ∷ ss) = IsStored w log h s × AllStored w log h ss

-- the stores of a hart and number in a log
abbrev pub stores_in : List Event → ℕ → ℕ → List Access
stores_in log h n = flat_map (λ e. store_in (hart_id h) n e.kind) log

-- a hart's buffer, and the numbers that it has not come to
pub record IsListed (w : Config) (log : List Event) (h : ℕ) (s : Processor) : Type 0 where
  pub waiting : AllStored w log h s.buffer
  pub none : (n : ℕ) → s.core.retired < n → stores_in log h n ≡ []

abbrev pub Listed : Config → List Event → Machine → Type 0
Listed w log m = (h : ℕ) → IsListed w log h ((m.parts (cluster_of w h)).harts h)

-- the first store of a number stays the first
first_kept : (xs ys : List Access) (a : Access) → slice_get xs 0 ≡ Some a → slice_get (xs ++ ys) 0 ≡ Some a
first_kept [] ys a e = absurd (cc)
first_kept (x ∷ xs) ys a e = e

pub store_kept : (log more : List Event) (h n : ℕ) (a : Access) → store_of log (hart_id h) n ≡ Some a → store_of (log ++ more) (hart_id h) n ≡ Some a
store_kept log more h n a e = ap (λ xs. slice_get xs 0) (flat_map-append (λ e. store_in (hart_id h) n e.kind) log more) ∙ first_kept (stores_in log h n) (stores_in more h n) a e

all_kept : (w : Config) (log more : List Event) (h : ℕ) (ss : List Stored) → AllStored w log h ss → AllStored w (log ++ more) h ss
all_kept w log more h [] k = tt
all_kept w log more h (s ∷ ss) k = (record { access = k.0.access; found = store_kept log more h s.number k.0.access k.0.found; entry = k.0.entry; writes = k.0.writes }, all_kept w log more h ss k.1)

all_added : (w : Config) (log : List Event) (h : ℕ) (ss : List Stored) (s : Stored) → AllStored w log h ss → IsStored w log h s → AllStored w log h (ss ++ s ∷ [])
all_added w log h [] s k one = (one, tt)
all_added w log h (x ∷ xs) s k one = (k.0, all_added w log h xs s k.1 one)

pub stores_more : (log : List Event) (e : Event) (h n : ℕ) → stores_in (log ++ e ∷ []) h n ≡ stores_in log h n ++ store_in (hart_id h) n e.kind
stores_more log e h n = flat_map-append (λ e. store_in (hart_id h) n e.kind) log (e ∷ []) ∙ ap (λ xs. stores_in log h n ++ xs) (append-nil (store_in (hart_id h) n e.kind))

-- a store writes a word of memory
store_access : (h number : ℕ) (need : Need) (a : Access) (word : WordAddr) (mask value old : ℕ) (ok : Bool) → need ≡ needed.Store word mask value → Some (unseen a) ≡ offered h number need old ok → (is_of_memory a.op ≡ true) × (a.written ≡ Some value)
store_access h number need a word mask value old ok is made =
    let now : Some (unseen a) ≡ offered h number (needed.Store word mask value) old ok = made ∙ ap (λ z. offered h number z old ok) is in
    let same : unseen a ≡ unwrap_or (offered h number (needed.Store word mask value) old ok) (unseen a) = ap (λ z. unwrap_or z (unseen a)) now in
    (ap (λ z. is_of_memory z.op) same, ap (λ z. z.written) same)

pub store_writes : (w : Config) (c : ℕ) (a : Access) (d : HartEffect) (p : Part) → Guard w c (kind.Store a) d p → IsWrite w a
unfolding Guard
store_writes w c a d p can =
    let made = store_access a.hart.0 (number_of a.hart.0 p) d.need a a.word a.mask can.value 0 false can.next.need_is can.access.made in
    let inside : IsProper w.top d.need = proper w.image w.top (p.harts a.hart.0).core d.need (needs_of w.image w.top (p.harts a.hart.0).core d.next d.need (reply a.read a.written) can.next.does) in
    record { of_memory = made.0; inside = subst (IsProper w.top) can.next.need_is inside; value = can.value; written = made.1 }

-- a store has the number of its hart's last instruction
pub store_number : (w : Config) (c : ℕ) (a : Access) (d : HartEffect) (p : Part) (h : ℕ) → Guard w c (kind.Store a) d p → h ≡ a.hart.0 → ((row w c (kind.Store a) d p).part.harts h).core.retired ≡ a.number
unfolding row Guard
store_number w c a d p h can same =
    let test : (h == a.hart.0) ≡ true = grind (arith, nat_tests) in
    let next = record (p.harts a.hart.0) { core = d.next; buffer = (p.harts a.hart.0).buffer ++ entry_of a ∷ [] } in
    let number = number_is a.hart.0 (number_of a.hart.0 p) d.need a a.word a.mask can.value 0 false can.next.need_is can.access.made in
    ap (λ b. (cond b next (p.harts h)).core.retired) test ∙ store_retires w (p.harts a.hart.0).core d.next d.need (reply a.read a.written) a.word a.mask can.value can.next.need_is can.next.does ∙ sym number

pub store_mine : (w : Config) (c : ℕ) (a : Access) (d : HartEffect) (p : Part) → Guard w c (kind.Store a) d p → cluster_of w a.hart.0 ≡ c
unfolding Guard
store_mine w c a d p can = can.next.mine

not_this : (h n : ℕ) (a : Access) (i j : Bool) → (a.hart.0 == h) ≡ i → (a.number == n) ≡ j → (h ≡ a.hart.0 → a.number < n) → (if i && j then a ∷ [] else []) ≡ []
not_this h n a false j e f low = refl
not_this h n a true false e f low = refl
not_this h n a true true e f low =
    let here : h ≡ a.hart.0 = grind (arith, nat_tests) in
    let same : a.number ≡ n = grind (arith, nat_tests) in
    let less = low here in
    absurd (omega arith)

-- an event stores nothing under a number that its hart has not come to
beyond : (w : Config) (c : ℕ) (e : Kind) (d : HartEffect) (p : Part) (h n : ℕ) → Guard w c e d p → (cluster_of w h ≡ c → ((row w c e d p).part.harts h).core.retired < n) → store_in (hart_id h) n e ≡ []
beyond w c (kind.Store a) d p h n can low =
    not_this h n a (a.hart.0 == h) (a.number == n) refl refl (λ same. (let less = low (ap (cluster_of w) same ∙ store_mine w c a d p can) in let number = store_number w c a d p h can same in omega arith))
beyond w c _ d p h n can low = refl

pub rises : (e : Kind) (h : ℕ) (s t : Processor) → Buffer e h s t → s.core.retired ≤ t.core.retired
rises e h s t (Kept b r) = r
rises e h s t (Dropped x g n z v q b r) = r
rises e h s t (Added a is mine number b r) = omega (arith, r)

-- the store of an event is the first of its number
new_store : (log : List Event) (e : Event) (h : ℕ) (a : Access) → e.kind ≡ kind.Store a → a.hart.0 ≡ h → stores_in log h a.number ≡ [] → store_of (log ++ e ∷ []) (hart_id h) a.number ≡ Some a
new_store log e h a is mine none =
    let here : (a.hart.0 == h) ≡ true = grind (arith, nat_tests) in
    let there : (a.number == a.number) ≡ true = grind (arith, nat_tests) in
    let one : store_in (hart_id h) a.number (kind.Store a) ≡ a ∷ [] = ap₂ (λ i j. if i && j then a ∷ [] else []) here there in
    ap (λ xs. slice_get xs 0) (stores_more log e h a.number ∙ ap₂ (λ xs ys. xs ++ ys) none (ap (store_in (hart_id h) a.number) is ∙ one))

waiting_by : (w : Config) (log : List Event) (e : Event) (h : ℕ) (s t : Processor) → Buffer e.kind h s t → ((a : Access) → e.kind ≡ kind.Store a → IsWrite w a) → IsListed w log h s → AllStored w (log ++ e ∷ []) h t.buffer
waiting_by w log e h s t (Kept b r) writes k = subst (AllStored w (log ++ e ∷ []) h) (sym b) (all_kept w log (e ∷ []) h s.buffer k.waiting)
waiting_by w log e h s t (Dropped x g n z v q b r) writes k = all_kept w log (e ∷ []) h t.buffer (subst (AllStored w log h) b k.waiting).1
waiting_by w log e h s t (Added a is mine number b r) writes k =
    let more : s.core.retired < a.number = omega (arith, number) in
    let one : IsStored w (log ++ e ∷ []) h (entry_of a) = record { access = a; found = new_store log e h a is mine (k.none a.number more); entry = refl; writes = writes a is } in
    subst (AllStored w (log ++ e ∷ []) h) (sym b) (all_added w (log ++ e ∷ []) h s.buffer (entry_of a) (all_kept w log (e ∷ []) h s.buffer k.waiting) one)

hart_listed : (w : Config) (c : ℕ) (log : List Event) (e : Event) (d : HartEffect) (p : Part) (h : ℕ) → Guard w c e.kind d p → IsListed w log h (p.harts h) → IsListed w (log ++ e ∷ []) h ((row w c e.kind d p).part.harts h)
hart_listed w c log e d p h can k =
    let s = p.harts h in
    let t = (row w c e.kind d p).part.harts h in
    let buffer = buffer_is w c e.kind d p h can in
    let less = rises e.kind h s t buffer in
    record {
      waiting = waiting_by w log e h s t buffer (λ a is. store_writes w c a d p (subst (λ z. Guard w c z d p) is can)) k;
      none = λ n low. stores_more log e h n ∙ ap₂ (λ xs ys. xs ++ ys) (k.none n (omega (arith, less, low))) (beyond w c e.kind d p h n can (λ z. low));
    }

other_listed : (w : Config) (c : ℕ) (log : List Event) (e : Event) (d : HartEffect) (p : Part) (h : ℕ) (s : Processor) → cluster_of w h ≢ c → Guard w c e.kind d p → IsListed w log h s → IsListed w (log ++ e ∷ []) h s
other_listed w c log e d p h s differs can k = record {
  waiting = all_kept w log (e ∷ []) h s.buffer k.waiting;
  none = λ n low. stores_more log e h n ∙ ap₂ (λ xs ys. xs ++ ys) (k.none n low) (beyond w c e.kind d p h n can (λ same. absurd (differs same)));
}

listed_kept : (w : Config) → IsKept w (IsListed w)
listed_kept w = record {
  own = λ c log e d p h can k. hart_listed w c log e d p h can k;
  other = λ c log e d p h s other can k. other_listed w c log e d p h s other can k;
}

pub step_listed : (w : Config) (log : List Event) (m : Machine) (g : Step) → CanHappen w m g → Listed w log m → Listed w (log ++ g.event ∷ []) (after w m g)
step_listed w log m g can k h = hart_step w (IsListed w) (listed_kept w) log m g can h (k h)
