-- Each event fixes its effect, and each log its state.
use Rattle.std.proofs.Common.{◌≡◌, ℕ, ◌&&◌, Bool, true, false, List, [], ◌∷◌, map, refl, sym, ap, ◌∙◌, ap₂, subst}
use Rattle.dash_msg.specs.declared.msg.Msg.{Msg}
use Rattle.dash_msg.specs.declared.msg.Msg.TheVariants.{LockGrant, UnlockAck}
use Rattle.dash_event.specs.declared.event.Event.{Event}
use Rattle.dash_event.specs.declared.event.Kind.{Kind}
use Rattle.dash_event.specs.declared.event.Kind.TheVariants as kind
use Rattle.hart_core.specs.HartState.{HartState}
use Rattle.hart_core.specs.Meaning.{Does}
use Rattle.dash_base.specs.declared.need.Need.{Need}
use Rattle.hart_core.proofs.LawsOffered.{one_need, needs_of, one_after}
use Rattle.dash_model.specs.Maps.{upd}
use Rattle.dash_model.specs.Config.{Config}
use Rattle.dash_model.specs.Net.{Packet, send}
use Rattle.dash_model.specs.Part.{Part}
use Rattle.dash_model.specs.HartRows.{quiet, HartEffect}
use Rattle.dash_model.specs.LockRows.{answered}
use Rattle.dash_model.specs.Ranges.{own_hart, applies}
use Rattle.dash_model.specs.HartGuards.{Retires}
use Rattle.dash_model.specs.Guard.{DoesIf, Guard}
use Rattle.dash_model.specs.Row.{msg_row, msg_row_if, row}
use Rattle.dash_model.specs.Machine.{Machine, Step, event_of, taken, less, CanHappen, after, opening, AreSteps, state_after, Reaches}
use Rattle.dash_model.proofs.Lifted.{rest_events}

same_done : (w : Config) (h : HartState) (a : ℕ) (d e : HartEffect) → Does w.image w.top h d.need a d.next → Does w.image w.top h e.need a e.next
    → d ≡ e
same_done w h a d e x y =
    let need : d.need ≡ e.need =
    one_need w.image w.top h d.need e.need (needs_of w.image w.top h d.next d.need a x) (needs_of w.image w.top h e.next e.need a y) in
    let next : d.next ≡ e.next = one_after w.image w.top h d.next e.next e.need a (subst (λ n. Does w.image w.top h n a d.next) need x) y in
    λ i. record { need = need i; next = next i }

retires_same : (w : Config) (c h : ℕ) (m n : Need) (a : ℕ) (d e : HartEffect) (p : Part) → Retires w c h m a d p → Retires w c h n a e p → d ≡ e
retires_same w c h m n a d e p x y = same_done w (p.harts h).core a d e x.does y.does

-- a message of which the row does not ask what the hart did
msg_same : (w : Config) (c f : ℕ) (m : Msg) (d e : HartEffect) (p : Part) (b : Bool) → msg_row w c f m d p ≡ msg_row w c f m e p
    → msg_row_if b w c f m d p ≡ msg_row_if b w c f m e p
msg_same w c f m d e p true x = x
msg_same w c f m d e p false x = refl

-- an answer of a lock word
answer_same : (w : Config) (c f h a : ℕ) (m : Msg) (d e : HartEffect) (p : Part) (i j : Bool)
    → ((x : HartEffect) → msg_row w c f m x p ≡ quiet (answered h j x p)) → DoesIf (i && j) w h a d p → DoesIf (i && j) w h a e p
    → msg_row_if (i && true) w c f m d p ≡ msg_row_if (i && true) w c f m e p
answer_same w c f h a m d e p true true r x y = ap (λ z. msg_row w c f m z p) (same_done w (p.harts h).core a d e x y)
answer_same w c f h a m d e p true false r x y = r d ∙ sym (r e)
answer_same w c f h a m d e p false j r x y = refl

pub row_same : (w : Config) (c : ℕ) (k : Kind) (d e : HartEffect) (p : Part) → Guard w c k d p → Guard w c k e p → row w c k d p ≡ row w c k e p
unfolding row Guard
row_same w c (kind.Alu h pc) d e p g k = ap (λ z. row w c (kind.Alu h pc) z p) (retires_same w c h.0 _ _ 0 d e p g.retires k.retires)
row_same w c (kind.Fence h pc) d e p g k = ap (λ z. row w c (kind.Fence h pc) z p) (retires_same w c h.0 _ _ 0 d e p g.next.retires k.next.retires)
row_same w c (kind.Hint h pc slot) d e p g k =
    ap (λ z. row w c (kind.Hint h pc slot) z p) (retires_same w c h.0 _ _ 0 d e p g.next.retires k.next.retires)
row_same w c (kind.Put h pc byte) d e p g k = ap (λ z. row w c (kind.Put h pc byte) z p) (retires_same w c h.0 _ _ 0 d e p g.retires k.retires)
row_same w c (kind.Stop h pc end) d e p g k = ap (λ z. row w c (kind.Stop h pc end) z p) (retires_same w c h.0 _ _ 0 d e p g.retires k.retires)
row_same w c (kind.Load a level) d e p g k = ap (λ z. row w c (kind.Load a level) z p) (retires_same w c a.hart.0 _ _ _ d e p g.next k.next)
row_same w c (kind.Store a) d e p g k = ap (λ z. row w c (kind.Store a) z p) (retires_same w c a.hart.0 _ _ _ d e p g.next k.next)
row_same w c (kind.Commit h n l v) d e p g k = refl
row_same w c (kind.Rmw a l v) d e p g k = ap (λ z. row w c (kind.Rmw a l v) z p) (retires_same w c a.hart.0 _ _ _ d e p g.next k.next)
row_same w c (kind.ScFail a) d e p g k = ap (λ z. row w c (kind.ScFail a) z p) (retires_same w c a.hart.0 _ _ _ d e p g.next k.next)
row_same w c (kind.LockSend h m) d e p g k = refl
row_same w c (kind.BusRead h l) d e p g k = refl
row_same w c (kind.BusOwn h l) d e p g k = refl
row_same w c (kind.Evict h l) d e p g k = refl
row_same w c (kind.Ask slot h l own) d e p g k = refl
row_same w c (kind.Again slot l) d e p g k = refl
row_same w c (kind.Install slot h l) d e p g k = refl
row_same w c (kind.Grant a) d e p g k = refl
row_same w c (kind.Free f a) d e p g k = refl
row_same w c (kind.Take f (LockGrant h)) d e p g k =
    answer_same w c f.0 h.0 0 (LockGrant h) d e p (own_hart w c h) (p.harts h.0).asked (λ x. refl) g k
row_same w c (kind.Take f (UnlockAck h old)) d e p g k =
    answer_same w c f.0 h.0 old (UnlockAck h old) d e p (own_hart w c h) (p.harts h.0).asked (λ x. refl) g k
row_same w c (kind.Take f m) d e p g k = msg_same w c f.0 m d e p (applies w c m p) refl

-- what is left of the lanes does not depend on the stamp of what is taken
less_same : (c u v : ℕ) (k : Kind) (net : List Packet) → less (taken c u k) net ≡ less (taken c v k) net
less_same c u v (kind.Take f m) net = refl
less_same c u v (kind.Free f a) net = refl
less_same c u v _ net = refl

after_same_event : (w : Config) (m : Machine) (e : Event) (u v : ℕ) (d f : HartEffect)
    → row w e.cluster.0 e.kind d (m.parts e.cluster.0) ≡ row w e.cluster.0 e.kind f (m.parts e.cluster.0)
    → after w m (record { event = e; stamp = u; done = d }) ≡ after w m (record { event = e; stamp = v; done = f })
after_same_event w m e u v d f r = ap₂ (λ n x. record {
  parts = λ c. upd m.parts e.cluster.0 (record (x.part) { last = e.stamp }) c;
  net = send n e.stamp e.cluster.0 x.sent;
  console = (after w m (record { event = e; stamp = u; done = d })).console;
}) (less_same e.cluster.0 u v e.kind m.net) r

pub after_same : (w : Config) (m : Machine) (g h : Step) → g.event ≡ h.event → CanHappen w m g → CanHappen w m h → after w m g ≡ after w m h
after_same w m g h e x y =
    let guard : Guard w g.event.cluster.0 g.event.kind h.done (m.parts g.event.cluster.0) =
    subst (λ z. Guard w z.cluster.0 z.kind h.done (m.parts z.cluster.0)) (sym e) y.steps.guard in
    after_same_event w m g.event g.stamp h.stamp g.done h.done (row_same w g.event.cluster.0 g.event.kind g.done h.done (m.parts g.event.cluster.0) x.steps.guard guard)
    ∙ ap (λ z. after w m (record { event = z; stamp = h.stamp; done = h.done })) e

head_same : (e f : Event) (es fs : List Event) → e ∷ es ≡ f ∷ fs → e ≡ f
head_same e f es fs x = cc

states_same : (w : Config) (m : Machine) (gs hs : List Step) → map event_of gs ≡ map event_of hs → AreSteps w m gs → AreSteps w m hs
    → state_after w m gs ≡ state_after w m hs
states_same w m [] [] e x y = refl
states_same w m [] (h ∷ hs) e x y = absurd (cc)
states_same w m (g ∷ gs) [] e x y = absurd (cc)
states_same w m (g ∷ gs) (h ∷ hs) e x y =
    let one : after w m g ≡ after w m h = after_same w m g h (head_same g.event h.event (map event_of gs) (map event_of hs) e) x.0 y.0 in
    states_same w (after w m g) gs hs (rest_events g.event h.event (map event_of gs) (map event_of hs) e) x.1 (subst (λ n. AreSteps w n hs) (sym one) y.1)
    ∙ ap (λ n. state_after w n hs) one

pub reach_same : (w : Config) (log : List Event) (m n : Machine) → Reaches w log m → Reaches w log n → m ≡ n
reach_same w log m n x y =
    x.state ∙ states_same w (opening w) x.run.steps y.run.steps (x.run.events ∙ sym y.run.events) x.run.happen y.run.happen ∙ sym y.state
