-- Steps of all clusters that are still to come, each cluster's by itself: the next one can happen.
use Rattle.std.proofs.Common.{◌≡◌, ℕ, ◌<◌, ◌≤◌, true, cond, Some, List, [], ◌∷◌, ◌++◌, map, refl, sym, ap, ◌∙◌, ap₂, subst, inl, inr, append-nil, append_assoc, arith}
use Rattle.std.proofs.lemmas.Bool.Decides.{nat_tests}
use Rattle.std.proofs.lemmas.List.{append_cancel_left}
use Rattle.dash_msg.specs.declared.classes.Class.{Class}
use Rattle.dash_msg.specs.Classes.{class_of}
use Rattle.dash_model.specs.Maps.{most}
use Rattle.dash_model.specs.Config.{Config}
use Rattle.dash_model.specs.Net.{Packet, same_class, in_lane, lane, first}
use Rattle.dash_model.specs.Row.{row}
use Rattle.dash_model.specs.Machine.{PrecedesAll, IsRising, Machine, Step, by, event_of, AtHead, less, next_stamp, stamp_of, part_after, sends, Steps, after, AreSteps, state_after}
use Rattle.dash_model.specs.LocalRun.{IsLocalRun, part_at, sent_in, packets_taken, received_in, of_cluster, StampsFit}
use Rattle.dash_model.proofs.Along.{same_or_not}
use Rattle.dash_model.proofs.Lanes.{head-lane, lane-append, lane-send}
use Rattle.dash_model.proofs.Taking.{Takes, takes_view, lane-taken, off_source, off_target, NoneBelow, none_in, none_lane, not_before_of, not_before_all, of_own, of_other, parts_own, parts_other, Nothing, One}

-- what is still to come: the clusters' runs from here, and lanes met
abbrev pub AllBelow : ℕ → List Step → Type 0
AllBelow n [] = Unit {0}
AllBelow n (g ∷ gs) = (by g < n) × AllBelow n gs

pub record Ready (w : Config) (m : Machine) (gs : List Step) (left : ℕ → ℕ → Class → List Packet) : Type 0 where
  pub runs : (c : ℕ) → IsLocalRun w c (m.parts c) (of_cluster c gs)
  pub met : (a b : ℕ) (k : Class) → lane a b k m.net ++ lane a b k (sent_in w a (m.parts a) (of_cluster a gs)) ≡ lane a b k (received_in b (of_cluster b gs)) ++ left a b k

-- the sent, with an event first
pub sent_first : (w : Config) (m : Machine) (g : Step) (gs : List Step) (a b : ℕ) (k : Class)
    → lane a b k (sends w (by g) g (m.parts (by g))) ++ lane a b k (sent_in w a ((after w m g).parts a) (of_cluster a gs)) ≡ lane a b k (sent_in w a (m.parts a) (of_cluster a (g ∷ gs)))
unfolding sent_in
sent_first w m g gs a b k =
    elim (same_or_not a (by g)) [
      | inl e ↦ subst (λ a. lane a b k (sends w (by g) g (m.parts (by g))) ++ lane a b k (sent_in w a ((after w m g).parts a) (of_cluster a gs)) ≡ lane a b k (sent_in w a (m.parts a) (of_cluster a (g ∷ gs)))) (sym e) (ap (λ p. lane (by g) b k (sends w (by g) g (m.parts (by g))) ++ lane (by g) b k (sent_in w (by g) p (of_cluster (by g) gs))) (parts_own w m g) ∙ sym (lane-append (by g) b k (sends w (by g) g (m.parts (by g))) (sent_in w (by g) (part_after w (by g) g (m.parts (by g))) (of_cluster (by g) gs))) ∙ ap (λ h. lane (by g) b k (sent_in w (by g) (m.parts (by g)) h)) (sym (of_own g gs)))
      | inr n ↦ ap₂ (λ s t. s ++ t) (off_source a b k (by g) g.event.stamp (row w (by g) g.event.kind g.done (m.parts (by g))).sent n) (ap₂ (λ p h. lane a b k (sent_in w a p h)) (parts_other w m g a n) (sym (of_other a g gs n)))
    ]

pub received_first : (g : Step) (gs : List Step) (a b : ℕ) (k : Class)
    → lane a b k (packets_taken (by g) g) ++ lane a b k (received_in b (of_cluster b gs)) ≡ lane a b k (received_in b (of_cluster b (g ∷ gs)))
unfolding received_in
received_first g gs a b k =
    elim (same_or_not b (by g)) [
      | inl e ↦ subst (λ b. lane a b k (packets_taken (by g) g) ++ lane a b k (received_in b (of_cluster b gs)) ≡ lane a b k (received_in b (of_cluster b (g ∷ gs)))) (sym e) (sym (lane-append a (by g) k (packets_taken (by g) g) (received_in (by g) (of_cluster (by g) gs))) ∙ ap (λ h. lane a (by g) k (received_in (by g) h)) (sym (of_own g gs)))
      | inr n ↦ ap₂ (λ s t. s ++ t) (off_target a b k (by g) g.stamp (packets_taken (by g) g) n (takes_view (by g) g.stamp g.event.kind)) (ap (λ h. lane a b k (received_in b h)) (sym (of_other b g gs n)))
    ]

-- the message that is taken is at the head of its lane
pub local_step : (w : Config) (m : Machine) (g : Step) (gs : List Step) (left : ℕ → ℕ → Class → List Packet) → Ready w m (g ∷ gs) left
    → Steps w (by g) g (m.parts (by g)) × IsLocalRun w (by g) (part_after w (by g) g (m.parts (by g))) (of_cluster (by g) gs)
local_step w m g gs left r = subst (IsLocalRun w (by g) (m.parts (by g))) (of_own g gs) (r.runs (by g))

pub later : (n t u : ℕ) → t ≡ next_stamp n u → t < most → u < t
later n t u e h = grind (arith, nat_tests)

pub front : (ns ss rs ls : List Packet) (q : Packet) (t : ℕ) → ns ++ ss ≡ (q ∷ rs) ++ ls → NoneBelow t ss → q.stamp < t → first ns ≡ Some q
front [] [] rs ls q t e h l = absurd (cc)
front [] (s ∷ ss) rs ls q t e h l =
    let f : s ≡ q = cc in
    let g : s.stamp ≡ q.stamp = ap (λ (x : Packet). x.stamp) f in
    let b : t ≤ s.stamp = h.0 in
    absurd (omega arith)
front (n ∷ ns) ss rs ls q t e h l = cc

pub lane_self : (q : Packet) → lane q.src q.dst (class_of q.msg) (q ∷ []) ≡ q ∷ []
unfolding lane
lane_self q =
    let c : same_class (class_of q.msg) (class_of q.msg) ≡ true = grind arith in
    let e : in_lane q.src q.dst (class_of q.msg) q ≡ true = grind (arith, nat_tests) in
    ap (λ t. cond t (q ∷ []) []) e

pub at_head : (w : Config) (m : Machine) (g : Step) (gs : List Step) (left : ℕ → ℕ → Class → List Packet) (ts : List Packet) → packets_taken (by g) g ≡ ts
    → Takes (by g) g.stamp ts → Ready w m (g ∷ gs) left → PrecedesAll g.event (map event_of gs) → g.event.stamp < most → AtHead ts m.net
at_head w m g gs left ts e Nothing r o h = tt
at_head w m g gs left ts e (One q d s) r o h =
    let k = class_of q.msg in
    let t = local_step w m g gs left r in
    let late : g.stamp < g.event.stamp =
    later (m.parts (by g)).last g.event.stamp g.stamp (t.0.stamp ∙ ap (λ ts. next_stamp (m.parts (by g)).last (stamp_of ts)) e ∙ ap (next_stamp (m.parts (by g)).last) s) h in
    let own : lane q.src q.dst k (packets_taken (by g) g) ≡ q ∷ [] = ap (lane q.src q.dst k) e ∙ lane_self q in
    let got : lane q.src q.dst k (received_in q.dst (of_cluster q.dst (g ∷ gs))) ≡ q ∷ lane q.src q.dst k (received_in q.dst (of_cluster q.dst gs)) = sym (received_first g gs q.src q.dst k)
    ∙ ap (λ x. x ++ lane q.src q.dst k (received_in q.dst (of_cluster q.dst gs))) own in
    let met = r.met q.src q.dst k ∙ ap (λ x. x ++ left q.src q.dst k) got in
    let none =
    none_lane g.event.stamp q.src q.dst k (sent_in w q.src (m.parts q.src) (of_cluster q.src (g ∷ gs))) (none_in w q.src g.event.stamp (m.parts q.src) (of_cluster q.src (g ∷ gs)) (not_before_of g.event.stamp q.src (g ∷ gs) (omega arith, not_before_all g gs o))) in
    let small : q.stamp < g.event.stamp = omega arith in
    head-lane q.src q.dst k m.net
    ∙ front (lane q.src q.dst k m.net) (lane q.src q.dst k (sent_in w q.src (m.parts q.src) (of_cluster q.src (g ∷ gs)))) (lane q.src q.dst k (received_in q.dst (of_cluster q.dst gs))) (left q.src q.dst k) q g.event.stamp met none small

-- the lanes stay met
pub regroup : (a b s n r l x y : List Packet) → (a ++ b) ++ y ≡ x ++ l → s ++ n ≡ y → a ++ r ≡ x → (b ++ s) ++ n ≡ r ++ l
regroup a b s n r l x y e f g =
    append_assoc b s n
    ∙ append_cancel_left a (b ++ (s ++ n)) (r ++ l) (ap (λ z. a ++ (b ++ z)) f ∙ sym (append_assoc a b y) ∙ e ∙ ap (λ z. z ++ l) (sym g) ∙ append_assoc a r l)

pub net_after : (w : Config) (m : Machine) (g : Step) (a b : ℕ) (k : Class)
    → lane a b k (after w m g).net ≡ lane a b k (less (packets_taken (by g) g) m.net) ++ lane a b k (sends w (by g) g (m.parts (by g)))
net_after w m g a b k = lane-send a b k (less (packets_taken (by g) g) m.net) g.event.stamp (by g) (row w (by g) g.event.kind g.done (m.parts (by g))).sent

pub next_runs : (w : Config) (m : Machine) (g : Step) (gs : List Step) (left : ℕ → ℕ → Class → List Packet) → Ready w m (g ∷ gs) left → (c : ℕ)
    → IsLocalRun w c ((after w m g).parts c) (of_cluster c gs)
next_runs w m g gs left r c =
    elim (same_or_not c (by g)) [
      | inl e ↦ subst (λ c. IsLocalRun w c ((after w m g).parts c) (of_cluster c gs)) (sym e) (subst (λ p. IsLocalRun w (by g) p (of_cluster (by g) gs)) (sym (parts_own w m g)) (local_step w m g gs left r).1)
      | inr n ↦ subst (λ p. IsLocalRun w c p (of_cluster c gs)) (sym (parts_other w m g c n)) (subst (IsLocalRun w c (m.parts c)) (of_other c g gs n) (r.runs c))
    ]

pub next_ready : (w : Config) (m : Machine) (g : Step) (gs : List Step) (left : ℕ → ℕ → Class → List Packet) → Ready w m (g ∷ gs) left
    → AtHead (packets_taken (by g) g) m.net → Ready w (after w m g) gs left
next_ready w m g gs left r h = record {
  runs = next_runs w m g gs left r;
  met = λ a b k. ap (λ n. n ++ lane a b k (sent_in w a ((after w m g).parts a) (of_cluster a gs))) (net_after w m g a b k)
      ∙ regroup (lane a b k (packets_taken (by g) g)) (lane a b k (less (packets_taken (by g) g) m.net)) (lane a b k (sends w (by g) g (m.parts (by g)))) (lane a b k (sent_in w a ((after w m g).parts a) (of_cluster a gs))) (lane a b k (received_in b (of_cluster b gs))) (left a b k) (lane a b k (received_in b (of_cluster b (g ∷ gs)))) (lane a b k (sent_in w a (m.parts a) (of_cluster a (g ∷ gs)))) (ap (λ n. n ++ lane a b k (sent_in w a (m.parts a) (of_cluster a (g ∷ gs)))) (lane-taken a b k (by g) g.stamp (packets_taken (by g) g) m.net (takes_view (by g) g.stamp g.event.kind) h) ∙ r.met a b k) (sent_first w m g gs a b k) (received_first g gs a b k);
}

pub ready_run : (w : Config) (m : Machine) (gs : List Step) (left : ℕ → ℕ → Class → List Packet) → Ready w m gs left → IsRising (map event_of gs)
    → StampsFit gs → AllBelow w.top.clusters gs → AreSteps w m gs
ready_run w m [] left r o h b = tt
ready_run w m (g ∷ gs) left r o h b =
    let first = at_head w m g gs left (packets_taken (by g) g) refl (takes_view (by g) g.stamp g.event.kind) r o.0 h.0 in
    (record { cluster = b.0; head = first; steps = (local_step w m g gs left r).0 }, ready_run w (after w m g) gs left (next_ready w m g gs left r first) o.1 h.1 b.1)

-- the state that it reaches: each cluster's part is its local run's, and each lane holds the rest
pub record Reaches (w : Config) (m n : Machine) (gs : List Step) (left : ℕ → ℕ → Class → List Packet) : Type 0 where
  pub parts : (c : ℕ) → n.parts c ≡ part_at w c (m.parts c) (of_cluster c gs)
  pub lanes : (a b : ℕ) (k : Class) → lane a b k n.net ≡ left a b k

pub parts_first : (w : Config) (m : Machine) (g : Step) (gs : List Step) (c : ℕ)
    → part_at w c ((after w m g).parts c) (of_cluster c gs) ≡ part_at w c (m.parts c) (of_cluster c (g ∷ gs))
parts_first w m g gs c =
    elim (same_or_not c (by g)) [
      | inl e ↦ subst (λ c. part_at w c ((after w m g).parts c) (of_cluster c gs) ≡ part_at w c (m.parts c) (of_cluster c (g ∷ gs))) (sym e) (ap (λ p. part_at w (by g) p (of_cluster (by g) gs)) (parts_own w m g) ∙ ap (part_at w (by g) (m.parts (by g))) (sym (of_own g gs)))
      | inr n ↦ ap₂ (part_at w c) (parts_other w m g c n) (sym (of_other c g gs n))
    ]

pub ready_end : (w : Config) (m : Machine) (left : ℕ → ℕ → Class → List Packet) → Ready w m [] left → Reaches w m m [] left
unfolding of_cluster sent_in received_in lane
ready_end w m left r = record { parts = λ c. refl; lanes = λ a b k. sym (append-nil (lane a b k m.net)) ∙ r.met a b k }

pub ready_reaches : (w : Config) (m : Machine) (gs : List Step) (left : ℕ → ℕ → Class → List Packet) → Ready w m gs left → IsRising (map event_of gs)
    → StampsFit gs → Reaches w m (state_after w m gs) gs left
ready_reaches w m [] left r o h = ready_end w m left r
ready_reaches w m (g ∷ gs) left r o h =
    let first = at_head w m g gs left (packets_taken (by g) g) refl (takes_view (by g) g.stamp g.event.kind) r o.0 h.0 in
    let k = ready_reaches w (after w m g) gs left (next_ready w m g gs left r first) o.1 h.1 in
    record { parts = λ c. k.parts c ∙ parts_first w m g gs c; lanes = k.lanes }
