-- What a step of the machine is along one line: nothing, an act of its cluster, or a message of the line that is taken.
use Rattle.std.proofs.Common.{◌≡◌, ℕ, ◌<◌, Bool, true, false, cond, Some, [], ◌++◌, refl, sym, ap, ◌∙◌, subst, inl, inr}
use Rattle.dash_base.specs.declared.id.ClusterId.{ClusterId}
use Rattle.dash_base.specs.declared.line.Line.{Line}
use Rattle.dash_msg.specs.Classes.{class_of}
use Rattle.dash_msg.specs.declared.msg.Msg.{Msg}
use Rattle.dash_event.specs.declared.event.Kind.{Kind}
use Rattle.dash_event.specs.declared.event.Kind.TheVariants as kind
use Rattle.dash_model.specs.Config.{Config, line_id, lines, home_of, first_prefetch}
use Rattle.dash_model.specs.Net.{parcel, head, tail, send}
use Rattle.dash_model.specs.OnLine.{is_of, on}
use Rattle.dash_model.specs.HartRows.{HartEffect}
use Rattle.dash_model.specs.LineRows.{take_row}
use Rattle.dash_model.specs.Acts.{Act, act_row}
use Rattle.dash_model.specs.Row.{msg_row_if, row}
use Rattle.dash_model.specs.Ranges.{applies}
use Rattle.dash_model.specs.Machine.{Machine, Step, taken, AtHead, less, part_after, puts, CanHappen, after}
use Rattle.dash_model.proofs.LineState.{State, Acts, Takes, MayAct}
use Rattle.dash_model.proofs.LineState as line
use Rattle.dash_model.proofs.Along.{along, at, AllAre, same_or_not, all_other, on-send-none, on-send-all, on-head, on-tail, on-tail-off, changed, along_still, along_row}
use Rattle.dash_model.proofs.RowsAlong.{take_sends, act_sends, take_local, act_local}
use Rattle.dash_model.proofs.Views.{ActsOn, View, Still, Does, IsNoTake, view}
use Rattle.dash_model.proofs.Taken.{take_off_if, take_on_if, case_applies}
use Rattle.dash_model.proofs.Lift.{Holds, taken_off}
use Rattle.dash_model.proofs.Tests.{same, differ}

pub data LineStep (w : Config) (l : ℕ) (m : Machine) (g : Step) : Type 0 where
  Rests : along w l (after w m g) ≡ along w l m → LineStep w l m g
  Does_act : (a : Act) → MayAct a ((m.parts g.event.cluster.0).cells l) → along w l (after w m g) ≡ line.after (at w l) (along w l m) (Acts g.event.stamp g.event.cluster.0 a) → LineStep w l m g
  Takes_one : (f : ClusterId) (x : Msg) → is_of l x ≡ true → head f.0 g.event.cluster.0 (class_of x) (on l m.net) ≡ Some (parcel f.0 g.event.cluster.0 x g.stamp) → along w l (after w m g) ≡ line.after (at w l) (along w l m) (Takes g.event.stamp g.event.cluster.0 f.0 x) → LineStep w l m g

act_view : (w : Config) (l : ℕ) (m : Machine) (g : Step) (a : Act) → ActsOn w g.event.kind (m.parts g.event.cluster.0) (row w g.event.cluster.0 g.event.kind g.done (m.parts g.event.cluster.0)).part (row w g.event.cluster.0 g.event.kind g.done (m.parts g.event.cluster.0)).sent l a → on l (less (taken g.event.cluster.0 g.stamp g.event.kind) m.net) ≡ on l m.net → LineStep w l m g
act_view w l m g a d n =
    let c = g.event.cluster.0 in
    let p = m.parts g.event.cluster.0 in
    let q = part_after w c g p in
    let ss = (row w c g.event.kind g.done p).sent in
    let cells : q.cells l ≡ (act_row (line_id l) (home_of w l) a (p.cells l) (p.homes l)).cell = d.cells l ∙ ap (λ i. cond i (act_row (line_id l) (home_of w l) a (p.cells l) (p.homes l)).cell (p.cells l)) (same l) in
    let homes : q.homes l ≡ (act_row (line_id l) (home_of w l) a (p.cells l) (p.homes l)).home = d.homes l ∙ ap (λ i. cond i (act_row (line_id l) (home_of w l) a (p.cells l) (p.homes l)).home (p.homes l)) (same l) in
    let net : on l (send (less (taken c g.stamp g.event.kind) m.net) g.event.stamp c ss) ≡ send (on l m.net) g.event.stamp c (act_row (line_id l) (home_of w l) a (p.cells l) (p.homes l)).sent = ap (λ xs. on l (send (less (taken c g.stamp g.event.kind) m.net) g.event.stamp c xs)) d.sent ∙ on-send-all l g.event.stamp c (less (taken c g.stamp g.event.kind) m.net) (act_row (line_id l) (home_of w l) a (p.cells l) (p.homes l)).sent (act_sends l (home_of w l) a (p.cells l) (p.homes l)) ∙ ap (λ xs. send xs g.event.stamp c (act_row (line_id l) (home_of w l) a (p.cells l) (p.homes l)).sent) n in
    Does_act a d.may (along_row w m l c g.event.stamp (λ x y. act_row (line_id l) (home_of w l) a x y) q (on l m.net) (send (less (taken c g.stamp g.event.kind) m.net) g.event.stamp c ss) (m.console ++ puts g.event.kind) (act_local (line_id l) c (home_of w l) a) cells homes net)

view_of : (w : Config) (l : ℕ) (m : Machine) (g : Step) → View w g.event.kind (m.parts g.event.cluster.0) (row w g.event.cluster.0 g.event.kind g.done (m.parts g.event.cluster.0)).part (row w g.event.cluster.0 g.event.kind g.done (m.parts g.event.cluster.0)).sent → on l (less (taken g.event.cluster.0 g.stamp g.event.kind) m.net) ≡ on l m.net → LineStep w l m g
view_of w l m g (Still s) n =
    let c = g.event.cluster.0 in
    let p = m.parts g.event.cluster.0 in
    let ss = (row w c g.event.kind g.done p).sent in
    Rests (along_still w m l c (part_after w c g p) (send (less (taken c g.stamp g.event.kind) m.net) g.event.stamp c ss) (m.console ++ puts g.event.kind) (s.cells l) (s.homes l) (on-send-none l g.event.stamp c (less (taken c g.stamp g.event.kind) m.net) ss (s.sent l) ∙ n))
view_of w l m g (Does k a d) n =
    let c = g.event.cluster.0 in
    let p = m.parts g.event.cluster.0 in
    let ss = (row w c g.event.kind g.done p).sent in
    elim (same_or_not l k) [
      | inl e ↦ act_view w l m g a (subst (λ y. ActsOn w g.event.kind p (row w c g.event.kind g.done p).part ss y a) (sym e) d) n
      | inr o ↦ Rests (along_still w m l c (part_after w c g p) (send (less (taken c g.stamp g.event.kind) m.net) g.event.stamp c ss) (m.console ++ puts g.event.kind) (d.cells l ∙ ap (λ i. cond i (act_row (line_id k) (home_of w k) a (p.cells k) (p.homes k)).cell (p.cells l)) (differ l k o)) (d.homes l ∙ ap (λ i. cond i (act_row (line_id k) (home_of w k) a (p.cells k) (p.homes k)).home (p.homes l)) (differ l k o)) (on-send-none l g.event.stamp c (less (taken c g.stamp g.event.kind) m.net) ss (subst (AllAre l false) (sym d.sent) (all_other k l (act_row (line_id k) (home_of w k) a (p.cells k) (p.homes k)).sent (act_sends k (home_of w k) a (p.cells k) (p.homes k)) o)) ∙ n))
    ]

-- a message that is taken: the machine after it
abbrev taken_to : Config → Machine → ℕ → ℕ → ClusterId → Msg → HartEffect → Bool → Machine
taken_to w m t c f x d b = changed m c (record (msg_row_if b w c f.0 x d (m.parts c)).part { last = t }) (send (tail f.0 c (class_of x) m.net) t c (msg_row_if b w c f.0 x d (m.parts c)).sent) (m.console ++ [])

pub data TakeStep (w : Config) (l : ℕ) (m n : Machine) (t c u : ℕ) (f : ClusterId) (x : Msg) : Type 0 where
  Off : along w l n ≡ along w l m → TakeStep w l m n t c u f x
  On : is_of l x ≡ true → head f.0 c (class_of x) (on l m.net) ≡ Some (parcel f.0 c x u) → along w l n ≡ line.after (at w l) (along w l m) (Takes t c f.0 x) → TakeStep w l m n t c u f x

take_by : (w : Config) (l : ℕ) (v : Line) (m : Machine) (t c u : ℕ) (f : ClusterId) (x : Msg) (d : HartEffect) (b o : Bool) → applies w c x (m.parts c) ≡ b → is_of l x ≡ o → l < lines w → head f.0 c (class_of x) m.net ≡ Some (parcel f.0 c x u) → Holds w l v m → TakeStep w l m (taken_to w m t c f x d b) t c u f x
take_by w l v m t c u f x d b true e o i h k =
    let p = m.parts c in
    let first = on-head l f.0 c (class_of x) (parcel f.0 c x u) m.net o h in
    let applied = sym e ∙ case_applies w l v c f.0 u x p (along w l m) i o first refl k.invariant k.bounded in
    let r = take_on_if w c f.0 x d p l b applied o in
    let net : on l (send (tail f.0 c (class_of x) m.net) t c (msg_row_if b w c f.0 x d p).sent) ≡ send (tail f.0 c (class_of x) (on l m.net)) t c (take_row (first_prefetch w) (home_of w l) c f.0 x (p.cells l) (p.homes l)).sent = ap (λ xs. on l (send (tail f.0 c (class_of x) m.net) t c xs)) r.sent ∙ on-send-all l t c (tail f.0 c (class_of x) m.net) (take_row (first_prefetch w) (home_of w l) c f.0 x (p.cells l) (p.homes l)).sent (take_sends l (first_prefetch w) (home_of w l) c f.0 x (p.cells l) (p.homes l) o) ∙ ap (λ xs. send xs t c (take_row (first_prefetch w) (home_of w l) c f.0 x (p.cells l) (p.homes l)).sent) (on-tail l f.0 c (class_of x) (parcel f.0 c x u) m.net o h) in
    On o first (along_row w m l c t (λ a y. take_row (first_prefetch w) (home_of w l) c f.0 x a y) (record (msg_row_if b w c f.0 x d p).part { last = t }) (tail f.0 c (class_of x) (on l m.net)) (send (tail f.0 c (class_of x) m.net) t c (msg_row_if b w c f.0 x d p).sent) (m.console ++ []) (take_local (first_prefetch w) (home_of w l) c f.0 x) r.cells r.homes net)
take_by w l v m t c u f x d b false e o i h k =
    let a = take_off_if w c f.0 x d (m.parts c) l b o in
    Off (along_still w m l c (record (msg_row_if b w c f.0 x d (m.parts c)).part { last = t }) (send (tail f.0 c (class_of x) m.net) t c (msg_row_if b w c f.0 x d (m.parts c)).sent) (m.console ++ []) a.cells a.homes (on-send-none l t c (tail f.0 c (class_of x) m.net) (msg_row_if b w c f.0 x d (m.parts c)).sent a.sent ∙ on-tail-off l f.0 c (class_of x) (parcel f.0 c x u) m.net o h))

take_kind : (w : Config) (l : ℕ) (v : Line) (m : Machine) (t c u : ℕ) (f : ClusterId) (x : Msg) (d : HartEffect) → l < lines w → head f.0 c (class_of x) m.net ≡ Some (parcel f.0 c x u) → Holds w l v m → TakeStep w l m (changed m c (record (row w c (kind.Take f x) d (m.parts c)).part { last = t }) (send (tail f.0 c (class_of x) m.net) t c (row w c (kind.Take f x) d (m.parts c)).sent) (m.console ++ [])) t c u f x
unfolding row
take_kind w l v m t c u f x d i h k = take_by w l v m t c u f x d (applies w c x (m.parts c)) (is_of l x) refl refl i h k

take_view : (w : Config) (l : ℕ) (m : Machine) (g : Step) (f : ClusterId) (x : Msg) → TakeStep w l m (after w m g) g.event.stamp g.event.cluster.0 g.stamp f x → LineStep w l m g
take_view w l m g f x (Off e) = Rests e
take_view w l m g f x (On o h e) = Takes_one f x o h e

view_kind : (w : Config) (l : ℕ) (v : Line) (m : Machine) (g : Step) (e : Kind) → g.event.kind ≡ e → l < lines w → CanHappen w m g → Holds w l v m → LineStep w l m g
view_kind w l v m g (kind.Take f x) e i h k =
    let c = g.event.cluster.0 in
    take_view w l m g f x (subst (λ y. TakeStep w l m (changed m c (record (row w c y g.done (m.parts c)).part { last = g.event.stamp }) (send (less (taken c g.stamp y) m.net) g.event.stamp c (row w c y g.done (m.parts c)).sent) (m.console ++ puts y)) g.event.stamp c g.stamp f x) (sym e) (take_kind w l v m g.event.stamp c g.stamp f x g.done i (subst (λ y. AtHead (taken c g.stamp y) m.net) e h.head) k))
view_kind w l v m g _ e i h k =
    let c = g.event.cluster.0 in
    view_of w l m g (view w c g.event.kind g.done (m.parts c) (subst IsNoTake (sym e) tt) h.steps.guard) (taken_off l c g.stamp g.event.kind m.net (subst IsNoTake (sym e) tt) h.head)

pub line_step : (w : Config) (l : ℕ) (v : Line) (m : Machine) (g : Step) → l < lines w → CanHappen w m g → Holds w l v m → LineStep w l m g
line_step w l v m g i h k = view_kind w l v m g g.event.kind refl i h k
