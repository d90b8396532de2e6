-- Of lines that are not of memory no cluster has anything, and no message is on its way.
use Rattle.std.proofs.Common.{◌≡◌, ◌≢◌, ℕ, ◌+◌, ◌≤◌, ◌<◌, ◌==◌, Bool, true, false, cond, Option, None, Some, List, [], ◌∷◌, refl, sym, ap, ◌∙◌, subst, arith}
use Rattle.std.proofs.lemmas.Bool.Decides.{nat_tests}
use Rattle.std.specs.Prelude.{unwrap_or}
use Rattle.dash_base.specs.declared.id.ClusterId.{ClusterId}
use Rattle.dash_base.specs.declared.id.LineId.{LineId}
use Rattle.dash_base.specs.declared.ops.AmoOp.TheVariants.{Sc}
use Rattle.dash_msg.specs.Classes.{class_of}
use Rattle.dash_msg.specs.declared.classes.Class.{Class}
use Rattle.dash_msg.specs.declared.msg.Msg.{Msg}
use Rattle.dash_event.specs.declared.event.Event.{Event}
use Rattle.dash_event.specs.declared.event.Kind.{Kind}
use Rattle.dash_event.specs.declared.event.Kind.TheVariants as kind
use Rattle.dash_base.specs.declared.need.HintKind.{HintKind}
use Rattle.dash_base.specs.declared.need.HintKind.TheVariants.{Fetch, Shared, Exclusive}
use Rattle.write_buffer.specs.declared.entry.Entry.{Entry as Stored}
use Rattle.hart_core.specs.Access.{in_memory, IsInMemory, IsProper}
use Rattle.dash_base.specs.declared.need.Need.{Need}
use Rattle.dash_base.specs.declared.need.Need.TheVariants as needed
use Rattle.hart_core.proofs.LawsOffered.{proper}
use Rattle.dash_model.specs.Config.{Config, line_id, lines, home_of, line_at, lock_at, cluster_of}
use Rattle.dash_model.specs.Net.{Packet, parcel, head, tail}
use Rattle.dash_model.specs.Cell.{NoCopy, NoSlot, Cell, Home}
use Rattle.dash_model.specs.Part.{Processor, Waiter, Part}
use Rattle.dash_model.specs.Acts.{Act, AskRead, AskOwn, Again, Install, Commit, Evict, Drop, BusRead, BusOwn, act_row, again_row, install_row, commit_copy, evict_row, drop_hart, bus_read, bus_own}
use Rattle.dash_model.specs.HartRows.{PartEffect, quiet, HartEffect, acts, change, retire, hint_row, commit_row, kept, rmw_reserved, evict_act, ask_act}
use Rattle.dash_model.specs.LockRows.{grant_row}
use Rattle.dash_model.specs.LineEffect.{is_owner}
use Rattle.dash_model.specs.Words.{held_by, content, written_in}
use Rattle.dash_model.specs.Wants.{LoadsFrom, WritesTo, HeadIn, AsksFor, FrontReads, FrontOwns, StoreOwns}
use Rattle.dash_model.specs.HartGuards.{SlotIs}
use Rattle.dash_model.specs.Guard.{Guard}
use Rattle.dash_model.specs.Ranges.{applies}
use Rattle.dash_model.specs.Row.{row}
use Rattle.dash_model.specs.OnLine.{is_of, on}
use Rattle.dash_model.specs.Machine.{Machine, Step, taken, AtHead, less, CanHappen, after, opening, Reaches}
use Rattle.dash_model.proofs.Along.{AllAre, all_other, on-send-none, on-head, on-tail-off}
use Rattle.dash_model.proofs.RowsAlong.{act_sends}
use Rattle.dash_model.proofs.Views.{IsNoTake, lock_sent}
use Rattle.dash_model.proofs.Taken.{take_off_if}
use Rattle.dash_model.proofs.Lift.{taken_off}
use Rattle.dash_model.proofs.Stores.{AllStored, IsListed}
use Rattle.dash_model.proofs.Reached.{each_reached}
use Rattle.dash_model.proofs.InRuns.{in_runs}

-- neither a copy nor a slot
abbrev pub IsEmpty : Cell → Type 0
IsEmpty a = (a.copy ≡ NoCopy) × (a.slot ≡ NoSlot)

-- a row leaves a line with nothing
pub record Leaves (l : ℕ) (d : PartEffect) : Type 0 where
  pub cell : IsEmpty (d.part.cells l)
  pub sent : AllAre l false d.sent

-- the act asks for no line
abbrev IsNoAsk : Act → Type 0
IsNoAsk (AskRead n h) = ⊥
IsNoAsk (AskOwn n h) = ⊥
IsNoAsk a = Unit {0}

act_empty : (k : LineId) (h : ℕ) (a : Act) (c : Cell) (b : Home) → IsNoAsk a → IsEmpty c → IsEmpty (act_row k h a c b).cell × ((act_row k h a c b).sent ≡ [])
act_empty k h (AskRead n t) c b idle e = absurd idle
act_empty k h (AskOwn n t) c b idle e = absurd idle
act_empty k h Again c b idle e = subst (λ s. IsEmpty (again_row k h s c b).cell × ((again_row k h s c b).sent ≡ [])) (sym e.1) (e, refl)
act_empty k h Install c b idle e = subst (λ s. IsEmpty (install_row s c b).cell × ((install_row s c b).sent ≡ [])) (sym e.1) (e, refl)
act_empty k h (Commit t d) c b idle e = ((ap (commit_copy d) e.0, e.1), refl)
act_empty k h (Evict t) c b idle e = subst (λ x. IsEmpty (evict_row k h x c b).cell × ((evict_row k h x c b).sent ≡ [])) (sym e.0) (e, refl)
act_empty k h (Drop t) c b idle e = ((ap (drop_hart t) e.0, e.1), refl)
act_empty k h (BusRead t) c b idle e = ((ap (bus_read t) e.0, e.1), refl)
act_empty k h (BusOwn t) c b idle e = ((ap (bus_own t) e.0, e.1), refl)

acts_by : (w : Config) (l k : ℕ) (a : Act) (p : Part) (i : Bool) → (l == k) ≡ i → IsEmpty (p.cells l) → (k ≡ l → IsNoAsk a) → Leaves l (acts w k a p)
acts_by w l k a p true is e idle =
    let same : l ≡ k = grind (arith, nat_tests) in
    let r = act_empty (line_id k) (home_of w k) a (p.cells k) (p.homes k) (idle (sym same)) (subst (λ y. IsEmpty (p.cells y)) same e) in
    record {
      cell = subst (λ z. IsEmpty (cond z (act_row (line_id k) (home_of w k) a (p.cells k) (p.homes k)).cell (p.cells l))) (sym is) r.0;
      sent = subst (AllAre l false) (sym r.1) tt;
    }
acts_by w l k a p false is e idle =
    let differs : l ≢ k = grind (arith, nat_tests) in
    record {
      cell = subst (λ z. IsEmpty (cond z (act_row (line_id k) (home_of w k) a (p.cells k) (p.homes k)).cell (p.cells l))) (sym is) e;
      sent = all_other k l (act_row (line_id k) (home_of w k) a (p.cells k) (p.homes k)).sent (act_sends k (home_of w k) a (p.cells k) (p.homes k)) differs;
    }

acts_off : (w : Config) (l k : ℕ) (a : Act) (p : Part) → IsEmpty (p.cells l) → (k ≡ l → IsNoAsk a) → Leaves l (acts w k a p)
acts_off w l k a p e idle = acts_by w l k a p (l == k) refl e idle

still_off : (l : ℕ) (p : Part) → IsEmpty (p.cells l) → Leaves l (quiet p)
still_off l p e = record { cell = e; sent = tt }

-- what a hart needs is of memory
pub inside_line : (w : Config) (address : ℕ) → IsInMemory w.top address 4 → line_at w address < lines w
inside_line w address i =
    let pages = w.top.memory_in_pages in
    let above = i.above in
    let below = i.below in
    omega arith

inside_byte : (w : Config) (address : ℕ) → in_memory w.top address 1 ≡ true → line_at w address < lines w
inside_byte w address i =
    let pages = w.top.memory_in_pages in
    let above : w.top.base ≤ address = grind (arith, nat_tests) in
    let below : address + 1 ≤ w.top.base + w.top.memory = grind (arith, nat_tests) in
    omega arith

loads_inside : (w : Config) (l : ℕ) (s : Processor) (need : Need) → LoadsFrom w l s need → IsProper w.top need → l < lines w
loads_inside w l s (needed.Load word mask labels true) e i = subst (λ z. z < lines w) e.0 (inside_line w word.0 i)
loads_inside w l s (needed.Load word mask labels false) e i = subst (λ z. z < lines w) e.0 (inside_line w word.0 i)
loads_inside w l s _ e i = absurd e

writes_inside : (w : Config) (l : ℕ) (s : Processor) (need : Need) → WritesTo w l s need → IsProper w.top need → l < lines w
writes_inside w l s (needed.Rmw word Sc operand labels) e i = subst (λ z. z < lines w) e.0 (inside_line w word.0 i)
writes_inside w l s (needed.Rmw word op operand labels) e i = subst (λ z. z < lines w) e (inside_line w word.0 i)
writes_inside w l s _ e i = absurd e

oldest_inside : (w : Config) (l h : ℕ) (log : List Event) (ss : List Stored) → AllStored w log h ss → HeadIn w l ss → l < lines w
oldest_inside w l h log [] k e = absurd e
oldest_inside w l h log (s ∷ ss) k e = subst (λ z. z < lines w) (ap (λ (y : Stored). line_at w y.word.0) k.0.entry ∙ e) (inside_line w k.0.access.word.0 k.0.writes.inside)

-- the oldest store of each hart of the cluster is to a line of memory
abbrev pub OldestInside : Config → ℕ → Part → Type 0
OldestInside w c p = (h l : ℕ) → cluster_of w h ≡ c → HeadIn w l (p.harts h).buffer → l < lines w

cause_inside : (w : Config) (c n h l : ℕ) (own : Bool) (p : Part) → AsksFor w c n h l p own → (HeadIn w l (p.harts h).buffer → l < lines w) → l < lines w
cause_inside w c n h l false p (FrontReads i j k) s = loads_inside w l (p.harts h) j.need j.loads (proper w.image w.top (p.harts h).core j.need j.needs)
cause_inside w c n h l true p (FrontOwns i j k r) s = writes_inside w l (p.harts h) j.need j.writes (proper w.image w.top (p.harts h).core j.need j.needs)
cause_inside w c n h l true p (StoreOwns i j k r) s = s j.oldest

hint_kind_off : (w : Config) (l h n : ℕ) (k : HintKind) (address : ℕ) (p : Part) → lines w ≤ l → in_memory w.top address 1 ≡ true → IsEmpty (p.cells l) → Leaves l (hint_row w h (Some n) (needed.Hint k address) p)
hint_kind_off w l h n Fetch address p out i e = acts_off w l (line_at w address) (AskRead n h) p e (λ same. (let low = inside_byte w address i in absurd (omega arith)))
hint_kind_off w l h n Shared address p out i e = acts_off w l (line_at w address) (AskRead n h) p e (λ same. (let low = inside_byte w address i in absurd (omega arith)))
hint_kind_off w l h n Exclusive address p out i e = acts_off w l (line_at w address) (AskOwn n h) p e (λ same. (let low = inside_byte w address i in absurd (omega arith)))

hint_off : (w : Config) (l h : ℕ) (slot : Option ℕ) (k : HintKind) (address : ℕ) (d : HartEffect) (p : Part) → lines w ≤ l → SlotIs w k address slot p → IsEmpty (p.cells l) → Leaves l (hint_row w h slot (needed.Hint k address) (retire h d p))
hint_off w l h (Some n) k address d p out o e = hint_kind_off w l h n k address (retire h d p) out o.inside e
hint_off w l h None k address d p out o e = still_off l (retire h d p) e

commit_off : (w : Config) (l h k : ℕ) (b : List Stored) (p : Part) → IsEmpty (p.cells l) → Leaves l (commit_row w h k b p)
commit_off w l h k [] p e = still_off l p e
commit_off w l h k (x ∷ xs) p e = acts_off w l k (Commit h (written_in w x.word.0 x.mask x.value (content (p.cells k).copy))) (change h (record (p.harts h) { buffer = xs }) p) e (λ same. tt)

evict_asks : (h : ℕ) (i : Bool) → IsNoAsk (cond i (Evict h) (Drop h))
evict_asks h true = tt
evict_asks h false = tt

grant_off : (w : Config) (l i : ℕ) (q : List Waiter) (p : Part) → IsEmpty (p.cells l) → Leaves l (grant_row w i q p)
grant_off w l i [] p e = still_off l p e
grant_off w l i (x ∷ xs) p e = record { cell = e; sent = (refl, tt) }

-- each event but Take leaves it so
pub row_off : (w : Config) (c : ℕ) (e : Kind) (d : HartEffect) (p : Part) (l : ℕ) → lines w ≤ l → IsNoTake e → Guard w c e d p → OldestInside w c p → IsEmpty (p.cells l) → Leaves l (row w c e d p)
unfolding row Guard
row_off w c (kind.Alu h pc) d p l out t g s e = record { cell = e; sent = tt }
row_off w c (kind.Fence h pc) d p l out t g s e = record { cell = e; sent = tt }
row_off w c (kind.Hint h pc slot) d p l out t g s e = subst (λ n. Leaves l (hint_row w h.0 slot n (retire h.0 d p))) (sym g.next.retires.need_is) (hint_off w l h.0 slot g.kinds g.address d p out g.opens e)
row_off w c (kind.Put h pc byte) d p l out t g s e = record { cell = e; sent = tt }
row_off w c (kind.Stop h pc end) d p l out t g s e = record { cell = e; sent = tt }
row_off w c (kind.Load a level) d p l out t g s e = record { cell = e; sent = tt }
row_off w c (kind.Store a) d p l out t g s e = record { cell = e; sent = tt }
row_off w c (kind.Commit h n k v) d p l out t g s e = commit_off w l h.0 k.0 (p.harts h.0).buffer p e
row_off w c (kind.Rmw a k v) d p l out t g s e = acts_off w l k.0 (Commit a.hart.0 (written_in w a.word.0 a.mask (unwrap_or a.written 0) (content (p.cells k.0).copy))) (change a.hart.0 (record (p.harts a.hart.0) { core = d.next; reserved = rmw_reserved a.op (p.harts a.hart.0).reserved }) p) e (λ same. tt)
row_off w c (kind.ScFail a) d p l out t g s e = record { cell = e; sent = tt }
row_off w c (kind.LockSend h m) d p l out t g s e = record { cell = e; sent = (lock_sent h.0 l m g.need p g.sends, tt) }
row_off w c (kind.BusRead h k) d p l out t g s e = acts_off w l k.0 (BusRead h.0) p e (λ same. tt)
row_off w c (kind.BusOwn h k) d p l out t g s e = acts_off w l k.0 (BusOwn h.0) p e (λ same. tt)
row_off w c (kind.Evict h k) d p l out t g s e = acts_off w l k.0 (evict_act h.0 (p.cells k.0).copy) p e (λ same. evict_asks h.0 (is_owner h.0 (p.cells k.0).copy))
row_off w c (kind.Ask slot h k own) d p l out t g s e = acts_off w l k.0 (ask_act own slot h.0) p e (λ same. (let low = cause_inside w c slot h.0 k.0 own p g.may.cause (s h.0 k.0 g.mine) in absurd (omega arith)))
row_off w c (kind.Again slot k) d p l out t g s e = acts_off w l k.0 Again p e (λ same. tt)
row_off w c (kind.Install slot h k) d p l out t g s e = acts_off w l k.0 Install (change h.0 (kept w k.0 (p.cells k.0).slot (held_by h.0 (p.cells k.0).copy) (p.harts h.0)) p) e (λ same. tt)
row_off w c (kind.Grant a) d p l out t g s e = grant_off w l (lock_at w a.word.0) (p.locks (lock_at w a.word.0)).queue p e
row_off w c (kind.Free f a) d p l out t g s e = record { cell = e; sent = (refl, tt) }
row_off w c (kind.Take f m) d p l out t g s e = absurd t

-- no cluster has anything of the line, and no message of it is on its way
pub record IsNowhere (l : ℕ) (m : Machine) : Type 0 where
  pub cells : (c : ℕ) → IsEmpty ((m.parts c).cells l)
  pub net : on l m.net ≡ []

pub none_first : (a b : ℕ) (k : Class) (q : Packet) (net : List Packet) → net ≡ [] → head a b k net ≡ Some q → ⊥
unfolding head
none_first a b k q [] e h = cc
none_first a b k q (x ∷ xs) e h = cc

either : (l : ℕ) (q p : Part) (i : Bool) → IsEmpty (q.cells l) → IsEmpty (p.cells l) → IsEmpty ((cond i q p).cells l)
either l q p true e f = e
either l q p false e f = f

take_nowhere : (w : Config) (c : ℕ) (f : ClusterId) (m : Msg) (d : HartEffect) (p : Part) (l : ℕ) → is_of l m ≡ false → IsEmpty (p.cells l) → Leaves l (row w c (kind.Take f m) d p)
unfolding row
take_nowhere w c f m d p l idle e =
    let s = take_off_if w c f.0 m d p l (applies w c m p) idle in
    record { cell = subst IsEmpty (sym s.cells) e; sent = s.sent }

take_by : (w : Config) (m : Machine) (c u l : ℕ) (f : ClusterId) (x : Msg) (d : HartEffect) (i : Bool) → is_of l x ≡ i → head f.0 c (class_of x) m.net ≡ Some (parcel f.0 c x u) → IsNowhere l m
    → Leaves l (row w c (kind.Take f x) d (m.parts c)) × (on l (tail f.0 c (class_of x) m.net) ≡ on l m.net)
take_by w m c u l f x d true is first k = absurd (none_first f.0 c (class_of x) (parcel f.0 c x u) (on l m.net) k.net (on-head l f.0 c (class_of x) (parcel f.0 c x u) m.net is first))
take_by w m c u l f x d false is first k = (take_nowhere w c f x d (m.parts c) l is (k.cells c), on-tail-off l f.0 c (class_of x) (parcel f.0 c x u) m.net is first)

leaves_by : (w : Config) (m : Machine) (c u l : ℕ) (e : Kind) (d : HartEffect) → lines w ≤ l → OldestInside w c (m.parts c) → Guard w c e d (m.parts c) → AtHead (taken c u e) m.net → IsNowhere l m
    → Leaves l (row w c e d (m.parts c)) × (on l (less (taken c u e) m.net) ≡ on l m.net)
leaves_by w m c u l (kind.Take f x) d out s can first k = take_by w m c u l f x d (is_of l x) refl first k
leaves_by w m c u l e d out s can first k = (row_off w c e d (m.parts c) l out tt can s (k.cells c), taken_off l c u e m.net tt first)

nowhere_step : (w : Config) (log : List Event) (m : Machine) (g : Step) (l : ℕ) → lines w ≤ l → Reaches w log m → CanHappen w m g → IsNowhere l m → IsNowhere l (after w m g)
nowhere_step w log m g l out r can k =
    let c = g.event.cluster.0 in
    let some : 0 < lines w = (let low = w.top.memory_in_range.low in omega arith) in
    let listed = (each_reached w log m 0 some r).listed in
    let s = leaves_by w m c g.stamp l g.event.kind g.done out (λ h i mine e. oldest_inside w i h log ((m.parts c).harts h).buffer (subst (λ z. IsListed w log h ((m.parts z).harts h)) mine (listed h)).waiting e) can.steps.guard can.head k in
    let d = row w c g.event.kind g.done (m.parts c) in
    record {
      cells = λ x. either l (record d.part { last = g.event.stamp }) (m.parts x) (x == c) s.0.cell (k.cells x);
      net = on-send-none l g.event.stamp c (less (taken c g.stamp g.event.kind) m.net) d.sent s.0.sent ∙ s.1 ∙ k.net;
    }

opening_nowhere : (w : Config) (l : ℕ) → IsNowhere l (opening w)
unfolding on
opening_nowhere w l = record { cells = λ c. (refl, refl); net = refl }

pub nowhere : (w : Config) (log : List Event) (m : Machine) → Reaches w log m → (l : ℕ) → lines w ≤ l → IsNowhere l m
nowhere w log m r l out = in_runs w (λ es n. IsNowhere l n) (opening_nowhere w l) (λ es n g reached can k. nowhere_step w es n g l out reached can k) log m r
