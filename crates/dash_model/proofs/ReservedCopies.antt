-- What a step makes of a cluster's copy of a line, where a hart holds it before and after: its version stays, or it was current, and no other hart commits the line.
use Rattle.std.proofs.Common.{Bool, List, None, Some, [], ap, arith, cond, false, inl, inr, refl, subst, sym, true, ℕ, ◌&&◌, ◌+◌, ◌<◌, ◌==◌, ◌∙◌, ◌∷◌, ◌≡◌, ◌≤◌, ◌⊎◌}
use Rattle.std.proofs.lemmas.Bool.Decides.{nat_tests}
use Rattle.dash_base.specs.declared.id.ClusterId.{ClusterId}
use Rattle.dash_base.specs.declared.id.HartId.{HartId}
use Rattle.dash_base.specs.declared.id.LineId.{LineId}
use Rattle.dash_base.specs.declared.line.Line.{Line}
use Rattle.dash_msg.specs.declared.msg.Msg.{Msg}
use Rattle.dash_msg.specs.declared.msg.Msg.TheVariants.{FwdRead, FwdReadEx, Inval, Read, ReadEx, SharingBack, Transfer, WriteBack}
use Rattle.dash_event.specs.declared.event.Event.{Event}
use Rattle.dash_model.specs.Acts.{Act, Again, AskOwn, AskRead, BusOwn, BusRead, Commit, Drop, Evict, Install, act_row, again_row, bus_own, bus_read, drop_hart, evict_row, install_row, shrunk}
use Rattle.dash_model.specs.Cell.{Acks, Came, Cell, Copy, Dirty, Entry, Held, Home, NoAcks, NoCopy, Owns, Reads, Refused, SharedBy, Slot, Uncached}
use Rattle.dash_model.specs.Config.{Config, cluster_of, first_prefetch, home_of, line_id, lines}
use Rattle.dash_model.specs.History.{version_of}
use Rattle.dash_model.specs.LineEffect.{LineEffect, has_owner, still}
use Rattle.dash_model.specs.LineFacts.{IsOnItsWay, IsReading, cell_at, home_at}
use Rattle.dash_model.specs.LineRows.{take_row}
use Rattle.dash_model.specs.Log.{Commits}
use Rattle.dash_model.specs.Machine.{CanHappen, Machine, Reaches, Step, after}
use Rattle.dash_model.specs.Maps.{weigh, without}
use Rattle.dash_model.specs.Net.{Packet}
use Rattle.dash_model.specs.OnLine.{came_own, invals, invals_at, invals_at_msg, on, one}
use Rattle.dash_model.specs.Requests.{give_own, give_read, is_dirty_of, own_row, read_row, sharing_back_row, transfer_row, write_back_row}
use Rattle.dash_model.specs.Words.{content, held_by}
use Rattle.dash_model.proofs.CommitPlaces.{commits_in_m, only_holder}
use Rattle.dash_model.proofs.Facts.{At, Place, holds}
use Rattle.dash_model.proofs.LineFacts.{inval_weighs, runs_keep_lines}
use Rattle.dash_model.proofs.LineState.{IsNext, MayAct, State}
use Rattle.dash_model.proofs.LineViews.{Does_act, LineStep, Rests, Takes_one, line_step}
use Rattle.dash_model.proofs.Reached.{each_reached}
use Rattle.dash_model.proofs.Tests.{is_same}

-- the copy of a cluster that acts or takes a message, where it has this before: its version stays, its owner writes, or a line that came is installed
data CopyAfter (there here : ℕ) (a : Cell) (k : Copy) : Type 0 where
  Stays : (content k).version ≡ (content a.copy).version → CopyAfter there here a k
  Writes : there ≡ here → has_owner a.copy ≡ true → CopyAfter there here a k
  Installs : there ≡ here → (n t : ℕ) (d : Line) → a.slot ≡ Owns n t (Came d) → CopyAfter there here a k
  Reading : IsReading a.slot → CopyAfter there here a k

same_copy : (there here : ℕ) (a : Cell) (k : Copy) → k ≡ a.copy → CopyAfter there here a k
same_copy there here a k e = Stays (ap (λ x. (content x).version) e)

-- acts
again_copy : (l : LineId) (h : ℕ) (s : Slot) (a : Cell) (b : Home) → (again_row l h s a b).cell.copy ≡ a.copy
again_copy l h (Reads n t Refused) a b = refl
again_copy l h (Owns n t Refused) a b = refl
again_copy l h _ a b = refl

install_copy : (c : ℕ) (s : Slot) (a : Cell) (b : Home) → a.slot ≡ s → CopyAfter c c a (install_row s a b).cell.copy
install_copy c (Reads n t (Came d)) a b e = Reading (subst IsReading (sym e) tt)
install_copy c (Owns n t (Came d)) a b e = Installs refl n t d e
install_copy c _ a b e = Stays refl

commit_owner : (d : Line) (k : Copy) → IsNext d k → has_owner k ≡ true
commit_owner d (Held hs (Some o) e) may = refl
commit_owner d (Held hs None e) may = absurd may
commit_owner d NoCopy may = absurd may

evict_copy : (l : LineId) (h t c : ℕ) (k : Copy) (a : Cell) (b : Home) → a.copy ≡ k → held_by t (evict_row l h k a b).cell.copy ≡ true → CopyAfter c c a (evict_row l h k a b).cell.copy
evict_copy l h t c (Held hs (Some o) d) a b e held = absurd (cc)
evict_copy l h t c (Held hs None d) a b e held = Stays refl
evict_copy l h t c NoCopy a b e held = Stays refl

shrunk_version : (t : ℕ) (hs : List ℕ) (d : Line) → held_by t (shrunk hs d) ≡ true → (content (shrunk hs d)).version ≡ d.version
shrunk_version t [] d held = absurd (cc)
shrunk_version t (x ∷ xs) d held = refl

drop_version : (t h : ℕ) (k : Copy) → held_by h (drop_hart t k) ≡ true → (content (drop_hart t k)).version ≡ (content k).version
drop_version t h (Held hs None d) held = shrunk_version h (without t hs) d held
drop_version t h (Held hs (Some o) d) held = refl
drop_version t h NoCopy held = refl

read_version : (t : ℕ) (k : Copy) → (content (bus_read t k)).version ≡ (content k).version
read_version t (Held hs o d) = refl
read_version t NoCopy = refl

own_version : (t : ℕ) (k : Copy) → (content (bus_own t k)).version ≡ (content k).version
own_version t (Held hs (Some o) d) = refl
own_version t (Held hs None d) = refl
own_version t NoCopy = refl

act_copy : (l : LineId) (home h c : ℕ) (y : Act) (a : Cell) (b : Home) → MayAct y a → held_by h (act_row l home y a b).cell.copy ≡ true → CopyAfter c c a (act_row l home y a b).cell.copy
act_copy l home h c (AskRead n t) a b may held = Stays refl
act_copy l home h c (AskOwn n t) a b may held = Stays refl
act_copy l home h c Again a b may held = same_copy c c a (again_row l home a.slot a b).cell.copy (again_copy l home a.slot a b)
act_copy l home h c Install a b may held = install_copy c a.slot a b refl
act_copy l home h c (Commit t d) a b may held = Writes refl (commit_owner d a.copy may)
act_copy l home h c (Evict t) a b may held = evict_copy l home h c a.copy a b refl held
act_copy l home h c (Drop t) a b may held = Stays (drop_version t h a.copy held)
act_copy l home h c (BusRead t) a b may held = Stays (read_version t a.copy)
act_copy l home h c (BusOwn t) a b may held = Stays (own_version t a.copy)

-- messages
read_copy : (l : LineId) (f : ℕ) (e : Entry) (a : Cell) (b : Home) → (read_row l f e a b).cell.copy ≡ a.copy
read_copy l f Uncached a b = refl
read_copy l f (SharedBy cs) a b = refl
read_copy l f (Dirty o) a b = refl

own_copy : (l : LineId) (f : ℕ) (e : Entry) (a : Cell) (b : Home) → (own_row l f e a b).cell.copy ≡ a.copy
own_copy l f Uncached a b = refl
own_copy l f (SharedBy cs) a b = refl
own_copy l f (Dirty o) a b = refl

cond_copy : (i : Bool) (d e : LineEffect) (k : Copy) → d.cell.copy ≡ k → e.cell.copy ≡ k → (cond i d e).cell.copy ≡ k
cond_copy true d e k x y = x
cond_copy false d e k x y = y

give_read_copy : (l : LineId) (h r : ℕ) (k : Copy) (s : Acks) (a : Cell) (b : Home) → a.copy ≡ k → (content (give_read l h r k s a b).cell.copy).version ≡ (content a.copy).version
give_read_copy l h r (Held hs (Some o) d) NoAcks a b e = ap (λ x. (content x).version) (sym e)
give_read_copy l h r _ _ a b e = refl

give_own_copy : (l : LineId) (h r t : ℕ) (k : Copy) (s : Acks) (a : Cell) (b : Home) → held_by t (give_own l h r k s a b).cell.copy ≡ true → (content (give_own l h r k s a b).cell.copy).version ≡ (content a.copy).version
give_own_copy l h r t (Held hs (Some o) d) NoAcks a b held = absurd (cc)
give_own_copy l h r t _ _ a b held = refl

write_back_copy : (d : Line) (i : Bool) (a : Cell) (b : Home) → (write_back_row d i a b).cell.copy ≡ a.copy
write_back_copy d true a b = refl
write_back_copy d false a b = refl

sharing_back_copy : (f : ℕ) (d : Line) (r : ℕ) (i : Bool) (a : Cell) (b : Home) → (sharing_back_row f d r i a b).cell.copy ≡ a.copy
sharing_back_copy f d r true a b = refl
sharing_back_copy f d r false a b = refl

transfer_copy : (l : LineId) (r : ℕ) (i : Bool) (a : Cell) (b : Home) → (transfer_row l r i a b).cell.copy ≡ a.copy
transfer_copy l r true a b = refl
transfer_copy l r false a b = refl

take_copy : (k home c f h : ℕ) (m : Msg) (a : Cell) (b : Home) → held_by h (take_row k home c f m a b).cell.copy ≡ true → CopyAfter c c a (take_row k home c f m a b).cell.copy
take_copy k home c f h (Read l) a b held = same_copy c c a (take_row k home c f (Read l) a b).cell.copy (cond_copy (c == home) (read_row l f b.entry a b) (still a b) a.copy (read_copy l f b.entry a b) refl)
take_copy k home c f h (ReadEx l) a b held = same_copy c c a (take_row k home c f (ReadEx l) a b).cell.copy (cond_copy (c == home) (own_row l f b.entry a b) (still a b) a.copy (own_copy l f b.entry a b) refl)
take_copy k home c f h (FwdRead l r) a b held = Stays (give_read_copy l home r.0 a.copy a.acks a b refl)
take_copy k home c f h (FwdReadEx l r) a b held = Stays (give_own_copy l home r.0 h a.copy a.acks a b held)
take_copy k home c f h (Inval l r) a b held = absurd (cc)
take_copy k home c f h (WriteBack l d) a b held = same_copy c c a (take_row k home c f (WriteBack l d) a b).cell.copy (write_back_copy d ((c == home) && is_dirty_of f b.entry) a b)
take_copy k home c f h (SharingBack l d r) a b held = same_copy c c a (take_row k home c f (SharingBack l d r) a b).cell.copy (sharing_back_copy f d r.0 ((c == home) && is_dirty_of f b.entry) a b)
take_copy k home c f h (Transfer l r) a b held = same_copy c c a (take_row k home c f (Transfer l r) a b).cell.copy (transfer_copy l r.0 ((c == home) && is_dirty_of f b.entry) a b)
take_copy k home c f h _ a b held = Stays refl

-- at cluster `there`, where `here` acts
copy_at : (there here : ℕ) (b : Bool) → (there == here) ≡ b → (x : Cell) (f : ℕ → Cell) (h : ℕ) → held_by h (cond b x (f there)).copy ≡ true → (held_by h x.copy ≡ true → CopyAfter here here (f here) x.copy) → CopyAfter there here (f there) (cond b x (f there)).copy
copy_at there here true is x f h held k = subst (λ y. CopyAfter y here (f y) x.copy) (sym (is_same there here is)) (k held)
copy_at there here false is x f h held k = Stays refl

-- an invalidation on its way to cluster x
record Invalidates (x : ℕ) (net : List Packet) : Type 0 where
  pub packet : Packet
  pub line : LineId
  pub other : ClusterId
  pub there : IsOnItsWay packet net
  pub is : packet.msg ≡ Inval line other
  pub to_it : packet.dst ≡ x

inval_is : (x : ℕ) (q : Packet) (net : List Packet) (m : Msg) → q.msg ≡ m → IsOnItsWay q net → 1 ≤ invals_at_msg x q.src q.dst m → Invalidates x net
inval_is x q net (Inval l r) e at some = record { packet = q; line = l; other = r; there = at; is = e; to_it = grind (arith, nat_tests) }
inval_is x q net _ e at some = absurd (omega arith)

more_net : (x : ℕ) (q : Packet) (net : List Packet) → Invalidates x net → Invalidates x (q ∷ net)
more_net x q net k = record { packet = k.packet; line = k.line; other = k.other; there = inr k.there; is = k.is; to_it = k.to_it }

some_of : (a b : ℕ) → 1 ≤ a + b → (1 ≤ a) ⊎ (1 ≤ b)
some_of a b e = grind arith

some_inval : (x : ℕ) (net : List Packet) → 1 ≤ weigh (invals_at x) net → Invalidates x net
unfolding weigh
some_inval x [] e = absurd (omega arith)
some_inval x (q ∷ qs) e = elim (some_of (invals_at x q) (weigh (invals_at x) qs) e) [
  | inl here ↦ inval_is x q (q ∷ qs) q.msg refl (inl refl) here
  | inr later ↦ more_net x q qs (some_inval x qs later)
]

-- a step along the copy of a hart's cluster
pub data CopyStep (w : Config) (log : List Event) (m : Machine) (g : Step) (h l : ℕ) : Type 0 where
  Same : (content (cell_at l (after w m g) (cluster_of w h)).copy).version ≡ (content (cell_at l m (cluster_of w h)).copy).version → CopyStep w log m g h l
  Fresh : (content (cell_at l m (cluster_of w h)).copy).version ≡ version_of log l → ((t : HartId) (x : ℕ) → Commits g.event.kind t (line_id l) x → t.0 ≡ h) → CopyStep w log m g h l

module _ (w : Config) (log : List Event) (m : Machine) (g : Step) (r : Reaches w log m) (can : CanHappen w m g) (h l : ℕ) (low : l < lines w) (held : held_by h (cell_at l m (cluster_of w h)).copy ≡ true) where
  -- no other hart of the cluster commits
  alone : cluster_of w h ≡ g.event.cluster.0 → (t : HartId) (x : ℕ) → Commits g.event.kind t (line_id l) x → t.0 ≡ h
  alone here t x is =
      let c = g.event.cluster.0 in
      only_holder t.0 h (cell_at l m c).copy (commits_in_m w c g.event.kind g.done (m.parts c) t l x can.steps.guard is) (subst (λ y. held_by h (cell_at l m y).copy ≡ true) here held)

  owner_is_current : (c : ℕ) (k : Copy) → (cell_at l m c).copy ≡ k → has_owner k ≡ true → (content k).version ≡ version_of log l
  owner_is_current c (Held hs (Some o) d) is has = ((runs_keep_lines w log m l low r).token.owner c hs o d is).version
  owner_is_current c (Held hs None d) is has = absurd (cc)
  owner_is_current c NoCopy is has = absurd (cc)

  -- where the line came to own, none is on its way
  one_of_place : (p : Place) (c x : ℕ) → p ≡ At x → 1 ≤ holds p c → x ≡ c
  one_of_place p c x is some = let here : 1 ≤ one x c = subst (λ y. 1 ≤ holds y c) is some in grind (arith, nat_tests)

  no_inval : (c : ℕ) → 1 ≤ came_own (cell_at l m c).slot → 1 ≤ weigh (invals_at c) (on l m.net) → ⊥
  no_inval c came some =
      let k = (each_reached w log m l low r).holds.invariant in
      let q = some_inval c (on l m.net) some in
      let facts = (k.known c).facts in
      let token = facts.tokens.token in
      let here : 1 ≤ holds k.place c = omega arith in
      let other = q.other.0 in
      let counts = inval_weighs (on l m.net) q.packet q.line q.other q.there q.is in
      let differs = (runs_keep_lines w log m l low r).one_epoch.others q.packet q.line q.other q.there q.is in
      elim ((k.known other).facts.epoch.one_owner) [
        | inl none ↦ (let z : weigh (invals other) (on l m.net) ≡ 0 = none in omega arith)
        | inr at ↦ differs (q.to_it ∙ sym (one_of_place k.place c other at here))
      ]

  stale_is_current : (c n t : ℕ) (d : Line) (k : Copy) → (cell_at l m c).copy ≡ k → held_by h k ≡ true → (cell_at l m c).slot ≡ Owns n t (Came d) → (content k).version ≡ version_of log l
  stale_is_current c n t d (Held hs o x) is has slot =
      let came : came_own (cell_at l m c).slot ≡ 1 = ap came_own slot in
      elim (((runs_keep_lines w log m l low r).stale c).copy hs o x is) [
        | inl current ↦ current.version
        | inr some ↦ absurd (no_inval c (omega arith) some)
      ]
  stale_is_current c n t d NoCopy is has slot = absurd (cc)

  copy_now : (k : Copy) → (cell_at l (after w m g) (cluster_of w h)).copy ≡ k → CopyAfter (cluster_of w h) g.event.cluster.0 (cell_at l m (cluster_of w h)) k → CopyStep w log m g h l
  copy_now k is (Stays e) = Same (ap (λ x. (content x).version) is ∙ e)
  copy_now k is (Writes here has) = Fresh (owner_is_current (cluster_of w h) (cell_at l m (cluster_of w h)).copy refl has) (alone here)
  copy_now k is (Installs here n t d slot) = Fresh (stale_is_current (cluster_of w h) n t d (cell_at l m (cluster_of w h)).copy refl held slot) (alone here)
  copy_now k is (Reading reads) = absurd (let none : held_by h (cell_at l m (cluster_of w h)).copy ≡ false = ap (held_by h) (((runs_keep_lines w log m l low r).requests (cluster_of w h)).reading reads) in cc)

  copy_by : LineStep w l m g → held_by h (cell_at l (after w m g) (cluster_of w h)).copy ≡ true → CopyStep w log m g h l
  copy_by (Rests e) after_held = Same (ap (λ (s : State). (content (s.cells (cluster_of w h)).copy).version) e)
  copy_by (Does_act a may e) after_held =
      let there = cluster_of w h in
      let c = g.event.cluster.0 in
      let f = λ (x : ℕ). cell_at l m x in
      let x = (act_row (line_id l) (home_of w l) a (f c) (home_at w l m)).cell in
      let is : (cell_at l (after w m g) there).copy ≡ (cond (there == c) x (f there)).copy = ap (λ (s : State). (s.cells there).copy) e in
      copy_now (cond (there == c) x (f there)).copy is (copy_at there c (there == c) refl x f h (subst (λ k. held_by h k ≡ true) is after_held) (act_copy (line_id l) (home_of w l) h c a (f c) (home_at w l m) may))
  copy_by (Takes_one f x of first e) after_held =
      let there = cluster_of w h in
      let c = g.event.cluster.0 in
      let cells = λ (y : ℕ). cell_at l m y in
      let z = (take_row (first_prefetch w) (home_of w l) c f.0 x (cells c) (home_at w l m)).cell in
      let is : (cell_at l (after w m g) there).copy ≡ (cond (there == c) z (cells there)).copy = ap (λ (s : State). (s.cells there).copy) e in
      copy_now (cond (there == c) z (cells there)).copy is (copy_at there c (there == c) refl z cells h (subst (λ k. held_by h k ≡ true) is after_held) (take_copy (first_prefetch w) (home_of w l) c f.0 h x (cells c) (home_at w l m)))

  pub copy_step : held_by h (cell_at l (after w m g) (cluster_of w h)).copy ≡ true → CopyStep w log m g h l
  copy_step after_held = let k = each_reached w log m l low r in copy_by (line_step w l k.content m g low can k.holds) after_held
