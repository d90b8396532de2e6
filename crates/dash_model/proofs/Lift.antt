-- Each step of the machine keeps the invariant of each line of memory.
use Rattle.std.proofs.Common.{◌≡◌, ◌≢◌, ℕ, ◌<◌, ◌==◌, Bool, true, false, cond, Some, List, [], ◌++◌, refl, sym, ap, ◌∙◌, subst, inl, inr, arith}
use Rattle.std.proofs.lemmas.Bool.Decides.{nat_tests}
use Rattle.dash_base.specs.declared.id.ClusterId.{ClusterId}
use Rattle.dash_base.specs.declared.line.Line.{Line}
use Rattle.dash_msg.specs.Classes.{class_of}
use Rattle.dash_msg.specs.declared.classes.Class.TheVariants.{Request}
use Rattle.dash_msg.specs.declared.msg.Msg.{Msg}
use Rattle.dash_msg.specs.declared.msg.Msg.TheVariants.{Read, ReadEx, FwdRead, FwdReadEx, Inval, WriteBack, SharingBack, Transfer, LockAsk, Unlock, Data, DataEx, Ack, TransferAck, Nak, LockGrant, UnlockAck}
use Rattle.dash_msg.specs.declared.parcel.Sent.{Sent}
use Rattle.dash_event.specs.declared.event.Kind.{Kind}
use Rattle.dash_event.specs.declared.event.Kind.TheVariants as kind
use Rattle.dash_model.specs.Maps.{upd}
use Rattle.dash_model.specs.Config.{Config, line_id, lines, home_of, first_prefetch}
use Rattle.dash_model.specs.Net.{Packet, parcel, head, tail, send}
use Rattle.dash_model.specs.Cell.{Cell, Home}
use Rattle.dash_model.specs.Part.{Part}
use Rattle.dash_model.specs.LineEffect.{LineEffect}
use Rattle.dash_model.specs.Acts.{Act, act_row}
use Rattle.dash_model.specs.LineRows.{take_row}
use Rattle.dash_model.specs.HartRows.{PartEffect, HartEffect}
use Rattle.dash_model.specs.Ranges.{applies}
use Rattle.dash_model.specs.Row.{msg_row_if, row}
use Rattle.dash_model.specs.Machine.{Machine, Step, taken, AtHead, less, puts, part_after, CanHappen, after}
use Rattle.dash_model.specs.OnLine.{is_of, on}
use Rattle.dash_model.proofs.LineState.{content_after}
use Rattle.dash_model.proofs.Steps.{Invariant}
use Rattle.dash_model.proofs.LineSteps.{IsLineMsg, take_step, act_step}
use Rattle.dash_model.proofs.Bounds.{Bounded, take_bounded, act_bounded}
use Rattle.dash_model.proofs.Everywhere.{Everywhere, NotNewer, take_keeps, act_not_newer}
use Rattle.dash_model.proofs.Along.{along, at, AllAre, same_or_not, all_other, on-send-none, on-send-all, on-head, on-tail, on-tail-off, changed, along_still, along_row}
use Rattle.dash_model.proofs.RowsAlong.{take_sends, act_sends, take_local, act_local}
use Rattle.dash_model.proofs.Taken.{IsLineRow, take_off_if, take_on_if, case_applies}
use Rattle.dash_model.proofs.Views.{View, Still, Does, ActsOn, IsNoTake, content_by, view}

-- line l with content v in a state of the machine
pub record Holds (w : Config) (l : ℕ) (v : Line) (m : Machine) : Type 0 where
  pub invariant : Invariant (home_of w l) v (along w l m)
  pub bounded : Bounded w.top.clusters (along w l m)
  pub newest : Everywhere (NotNewer v) (along w l m)

test_false : (x c : ℕ) → x ≢ c → (x == c) ≡ false
test_false x c n = grind (arith, nat_tests)

test_true : (c : ℕ) → (c == c) ≡ true
test_true c = grind (arith, nat_tests)

-- what leaves its lane where no message of a line is taken
pub taken_off : (l c u : ℕ) (e : Kind) (net : List Packet) → IsNoTake e → AtHead (taken c u e) net → on l (less (taken c u e) net) ≡ on l net
taken_off l c u (kind.Free f a) net t h = on-tail-off l f.0 c Request (parcel f.0 c (Unlock a.hart a.number a.word) u) net refl h
taken_off l c u (kind.Take f m) net t h = absurd t
taken_off l c u _ net t h = refl

-- a line that a step leaves
off_step : (w : Config) (l : ℕ) (v : Line) (m : Machine) (g : Step) (q : Part) (ss : List Sent) → (e : q.cells l ≡ (m.parts g.event.cluster.0).cells l) → (f : q.homes l ≡ (m.parts g.event.cluster.0).homes l) → AllAre l false ss → on l (less (taken g.event.cluster.0 g.stamp g.event.kind) m.net) ≡ on l m.net → Holds w l v m → (console : List ℕ) → Holds w l v (changed m g.event.cluster.0 q (send (less (taken g.event.cluster.0 g.stamp g.event.kind) m.net) g.event.stamp g.event.cluster.0 ss) console)
off_step w l v m g q ss e f a n h console =
    let s = along_still w m l g.event.cluster.0 q (send (less (taken g.event.cluster.0 g.stamp g.event.kind) m.net) g.event.stamp g.event.cluster.0 ss) console e f (on-send-none l g.event.stamp g.event.cluster.0 (less (taken g.event.cluster.0 g.stamp g.event.kind) m.net) ss a ∙ n) in
    record { invariant = subst (Invariant (home_of w l) v) (sym s) h.invariant; bounded = subst (Bounded w.top.clusters) (sym s) h.bounded; newest = subst (Everywhere (NotNewer v)) (sym s) h.newest }

-- an act on the line
act_on : (w : Config) (l : ℕ) (v : Line) (m : Machine) (g : Step) (q : Part) (ss : List Sent) (a : Act) → ActsOn w g.event.kind (m.parts g.event.cluster.0) q ss l a → on l (less (taken g.event.cluster.0 g.stamp g.event.kind) m.net) ≡ on l m.net → g.event.cluster.0 < w.top.clusters → Holds w l v m → (console : List ℕ) → Holds w l (content_after v a) (changed m g.event.cluster.0 q (send (less (taken g.event.cluster.0 g.stamp g.event.kind) m.net) g.event.stamp g.event.cluster.0 ss) console)
act_on w l v m g q ss a d n b h console =
    let c = g.event.cluster.0 in
    let p = m.parts g.event.cluster.0 in
    let D : Cell → Home → LineEffect = λ x y. act_row (line_id l) (home_of w l) a x y in
    let cells : q.cells l ≡ (act_row (line_id l) (home_of w l) a (p.cells l) (p.homes l)).cell = d.cells l ∙ ap (λ i. cond i (act_row (line_id l) (home_of w l) a (p.cells l) (p.homes l)).cell (p.cells l)) (test_true l) in
    let homes : q.homes l ≡ (act_row (line_id l) (home_of w l) a (p.cells l) (p.homes l)).home = d.homes l ∙ ap (λ i. cond i (act_row (line_id l) (home_of w l) a (p.cells l) (p.homes l)).home (p.homes l)) (test_true l) in
    let net : on l (send (less (taken c g.stamp g.event.kind) m.net) g.event.stamp c ss) ≡ send (on l m.net) g.event.stamp c (act_row (line_id l) (home_of w l) a (p.cells l) (p.homes l)).sent = ap (λ xs. on l (send (less (taken c g.stamp g.event.kind) m.net) g.event.stamp c xs)) d.sent ∙ on-send-all l g.event.stamp c (less (taken c g.stamp g.event.kind) m.net) (act_row (line_id l) (home_of w l) a (p.cells l) (p.homes l)).sent (act_sends l (home_of w l) a (p.cells l) (p.homes l)) ∙ ap (λ xs. send xs g.event.stamp c (act_row (line_id l) (home_of w l) a (p.cells l) (p.homes l)).sent) n in
    let s = along_row w m l c g.event.stamp (λ x y. act_row (line_id l) (home_of w l) a x y) q (on l m.net) (send (less (taken c g.stamp g.event.kind) m.net) g.event.stamp c ss) console (act_local (line_id l) c (home_of w l) a) cells homes net in
    record {
      invariant = subst (Invariant (home_of w l) (content_after v a)) (sym s) (act_step (at w l) (along w l m) v g.event.stamp c a d.may h.invariant).invariant;
      bounded = subst (Bounded w.top.clusters) (sym s) (act_bounded w.top.clusters (at w l) (along w l m) g.event.stamp c a b h.bounded);
      newest = subst (Everywhere (NotNewer (content_after v a))) (sym s) (act_not_newer (at w l) (along w l m) v g.event.stamp c a d.may h.invariant h.newest);
    }

act_off_cells : (A : Type 0) (f : ℕ → A) (k l : ℕ) (x : A) → l ≢ k → upd f k x l ≡ f l
act_off_cells A f k l x n = ap (λ i. cond i x (f l)) (test_false l k n)

-- a step that takes no message of a line
view_step : (w : Config) (l : ℕ) (v : Line) (m : Machine) (g : Step) (q : Part) (ss : List Sent) → View w g.event.kind (m.parts g.event.cluster.0) q ss → on l (less (taken g.event.cluster.0 g.stamp g.event.kind) m.net) ≡ on l m.net → g.event.cluster.0 < w.top.clusters → Holds w l v m → (console : List ℕ) → Holds w l (content_by w (m.parts g.event.cluster.0) l v g.event.kind) (changed m g.event.cluster.0 q (send (less (taken g.event.cluster.0 g.stamp g.event.kind) m.net) g.event.stamp g.event.cluster.0 ss) console)
view_step w l v m g q ss (Still s) n b h console = subst (λ u. Holds w l u (changed m g.event.cluster.0 q (send (less (taken g.event.cluster.0 g.stamp g.event.kind) m.net) g.event.stamp g.event.cluster.0 ss) console)) (sym (s.keeps l v)) (off_step w l v m g q ss (s.cells l) (s.homes l) (s.sent l) n h console)
view_step w l v m g q ss (Does k a d) n b h console =
    elim (same_or_not l k) [
      | inl e ↦ subst (λ u. Holds w l u (changed m g.event.cluster.0 q (send (less (taken g.event.cluster.0 g.stamp g.event.kind) m.net) g.event.stamp g.event.cluster.0 ss) console)) (sym (d.writes l v ∙ ap (λ i. cond i (content_after v a) v) (ap (λ y. y == l) (sym e) ∙ test_true l))) (act_on w l v m g q ss a (subst (λ y. ActsOn w g.event.kind (m.parts g.event.cluster.0) q ss y a) (sym e) d) n b h console)
      | inr o ↦ subst (λ u. Holds w l u (changed m g.event.cluster.0 q (send (less (taken g.event.cluster.0 g.stamp g.event.kind) m.net) g.event.stamp g.event.cluster.0 ss) console)) (sym (d.writes l v ∙ ap (λ i. cond i (content_after v a) v) (test_false k l (λ z. o (sym z))))) (off_step w l v m g q ss (d.cells l ∙ act_off_cells Cell (m.parts g.event.cluster.0).cells k l (act_row (line_id k) (home_of w k) a ((m.parts g.event.cluster.0).cells k) ((m.parts g.event.cluster.0).homes k)).cell o) (d.homes l ∙ act_off_cells Home (m.parts g.event.cluster.0).homes k l (act_row (line_id k) (home_of w k) a ((m.parts g.event.cluster.0).cells k) ((m.parts g.event.cluster.0).homes k)).home o) (subst (AllAre l false) (sym d.sent) (all_other k l (act_row (line_id k) (home_of w k) a ((m.parts g.event.cluster.0).cells k) ((m.parts g.event.cluster.0).homes k)).sent (act_sends k (home_of w k) a ((m.parts g.event.cluster.0).cells k) ((m.parts g.event.cluster.0).homes k)) o)) n h console)
    ]

pub line_msg : (l : ℕ) (m : Msg) → is_of l m ≡ true → IsLineMsg m
line_msg l (LockAsk h n word v) e = absurd (cc)
line_msg l (Unlock h n word) e = absurd (cc)
line_msg l (LockGrant h) e = absurd (cc)
line_msg l (UnlockAck h old) e = absurd (cc)
line_msg l (Read k) e = tt
line_msg l (ReadEx k) e = tt
line_msg l (FwdRead k r) e = tt
line_msg l (FwdReadEx k r) e = tt
line_msg l (Inval k r) e = tt
line_msg l (WriteBack k d) e = tt
line_msg l (SharingBack k d r) e = tt
line_msg l (Transfer k r) e = tt
line_msg l (Data k d) e = tt
line_msg l (DataEx k d n) e = tt
line_msg l (Ack k) e = tt
line_msg l (TransferAck k) e = tt
line_msg l (Nak k) e = tt

-- a message of the line
take_line : (w : Config) (l : ℕ) (v : Line) (m : Machine) (t c f u : ℕ) (x : Msg) (q : PartEffect) (console : List ℕ) → is_of l x ≡ true → head f c (class_of x) m.net ≡ Some (parcel f c x u) → IsLineRow w c f x l (m.parts c) q → c < w.top.clusters → Holds w l v m → Holds w l v (changed m c (record q.part { last = t }) (send (tail f c (class_of x) m.net) t c q.sent) console)
take_line w l v m t c f u x q console o h d b k =
    let p = m.parts c in
    let first = on-head l f c (class_of x) (parcel f c x u) m.net o h in
    let net : on l (send (tail f c (class_of x) m.net) t c q.sent) ≡ send (tail f c (class_of x) (on l m.net)) t c (take_row (first_prefetch w) (home_of w l) c f x (p.cells l) (p.homes l)).sent = ap (λ xs. on l (send (tail f c (class_of x) m.net) t c xs)) d.sent ∙ on-send-all l t c (tail f c (class_of x) m.net) (take_row (first_prefetch w) (home_of w l) c f x (p.cells l) (p.homes l)).sent (take_sends l (first_prefetch w) (home_of w l) c f x (p.cells l) (p.homes l) o) ∙ ap (λ xs. send xs t c (take_row (first_prefetch w) (home_of w l) c f x (p.cells l) (p.homes l)).sent) (on-tail l f c (class_of x) (parcel f c x u) m.net o h) in
    let s = along_row w m l c t (λ a e. take_row (first_prefetch w) (home_of w l) c f x a e) (record q.part { last = t }) (tail f c (class_of x) (on l m.net)) (send (tail f c (class_of x) m.net) t c q.sent) console (take_local (first_prefetch w) (home_of w l) c f x) d.cells d.homes net in
    record {
      invariant = subst (Invariant (home_of w l) v) (sym s) (take_step (at w l) (along w l m) v t c f u x (line_msg l x o) first k.invariant).invariant;
      bounded = subst (Bounded w.top.clusters) (sym s) (take_bounded w.top.clusters (at w l) (along w l m) t c f u x b first k.bounded);
      newest = subst (Everywhere (NotNewer v)) (sym s) (take_keeps (NotNewer v) (at w l) (along w l m) t c f u x first k.newest);
    }

-- a message that is taken
take_any : (w : Config) (l : ℕ) (v : Line) (m : Machine) (t c f u : ℕ) (x : Msg) (d : HartEffect) (console : List ℕ) (b : Bool) → applies w c x (m.parts c) ≡ b → l < lines w → c < w.top.clusters → head f c (class_of x) m.net ≡ Some (parcel f c x u) → Holds w l v m → (o : Bool) → is_of l x ≡ o → Holds w l v (changed m c (record (msg_row_if b w c f x d (m.parts c)).part { last = t }) (send (tail f c (class_of x) m.net) t c (msg_row_if b w c f x d (m.parts c)).sent) console)
take_any w l v m t c f u x d console b e i j h k true o =
    let first = on-head l f c (class_of x) (parcel f c x u) m.net o h in
    let applied = sym e ∙ case_applies w l v c f u x (m.parts c) (along w l m) i o first refl k.invariant k.bounded in
    take_line w l v m t c f u x (msg_row_if b w c f x d (m.parts c)) console o h (take_on_if w c f x d (m.parts c) l b applied o) j k
take_any w l v m t c f u x d console b e i j h k false o =
    let a = take_off_if w c f x d (m.parts c) l b o in
    let s = along_still w m l c (record (msg_row_if b w c f x d (m.parts c)).part { last = t }) (send (tail f c (class_of x) m.net) t c (msg_row_if b w c f x d (m.parts c)).sent) console a.cells a.homes (on-send-none l t c (tail f c (class_of x) m.net) (msg_row_if b w c f x d (m.parts c)).sent a.sent ∙ on-tail-off l f c (class_of x) (parcel f c x u) m.net o h) in
    record { invariant = subst (Invariant (home_of w l) v) (sym s) k.invariant; bounded = subst (Bounded w.top.clusters) (sym s) k.bounded; newest = subst (Everywhere (NotNewer v)) (sym s) k.newest }

take_kind : (w : Config) (l : ℕ) (v : Line) (m : Machine) (t c : ℕ) (f : ClusterId) (x : Msg) (u : ℕ) (d : HartEffect) (console : List ℕ) → l < lines w → c < w.top.clusters → head f.0 c (class_of x) m.net ≡ Some (parcel f.0 c x u) → Holds w l v m → Holds w l v (changed m c (record (row w c (kind.Take f x) d (m.parts c)).part { last = t }) (send (tail f.0 c (class_of x) m.net) t c (row w c (kind.Take f x) d (m.parts c)).sent) (console ++ []))
unfolding row
take_kind w l v m t c f x u d console i j h k = take_any w l v m t c f.0 u x d (console ++ []) (applies w c x (m.parts c)) refl i j h k (is_of l x) refl

-- the stamp of the last event is of no line
stamped : (w : Config) (e : Kind) (p q : Part) (ss : List Sent) (t : ℕ) → View w e p q ss → View w e p (record q { last = t }) ss
stamped w e p q ss t (Still s) = Still (record { cells = s.cells; homes = s.homes; sent = s.sent; keeps = s.keeps })
stamped w e p q ss t (Does k a d) = Does k a (record { may = d.may; cells = d.cells; homes = d.homes; sent = d.sent; writes = d.writes })

-- each event
kind_step : (w : Config) (l : ℕ) (v : Line) (m : Machine) (g : Step) (e : Kind) → g.event.kind ≡ e → l < lines w → CanHappen w m g → Holds w l v m → Holds w l (content_by w (m.parts g.event.cluster.0) l v g.event.kind) (after w m g)
kind_step w l v m g (kind.Take f x) e i h k =
    let c = g.event.cluster.0 in
    subst (λ y. Holds w l (content_by w (m.parts c) l v y) (changed m c (record (row w c y g.done (m.parts c)).part { last = g.event.stamp }) (send (less (taken c g.stamp y) m.net) g.event.stamp c (row w c y g.done (m.parts c)).sent) (m.console ++ puts y))) (sym e) (take_kind w l v m g.event.stamp c f x g.stamp g.done m.console i h.cluster (subst (λ y. AtHead (taken c g.stamp y) m.net) e h.head) k)
kind_step w l v m g _ e i h k =
    let c = g.event.cluster.0 in
    view_step w l v m g (part_after w c g (m.parts c)) (row w c g.event.kind g.done (m.parts c)).sent (stamped w g.event.kind (m.parts c) (row w c g.event.kind g.done (m.parts c)).part (row w c g.event.kind g.done (m.parts c)).sent g.event.stamp (view w c g.event.kind g.done (m.parts c) (subst IsNoTake (sym e) tt) h.steps.guard)) (taken_off l c g.stamp g.event.kind m.net (subst IsNoTake (sym e) tt) h.head) h.cluster k (m.console ++ puts g.event.kind)

pub keeps_line : (w : Config) (l : ℕ) (v : Line) (m : Machine) (g : Step) → l < lines w → CanHappen w m g → Holds w l v m → Holds w l (content_by w (m.parts g.event.cluster.0) l v g.event.kind) (after w m g)
keeps_line w l v m g i h k = kind_step w l v m g g.event.kind refl i h k
