-- What an event takes, what is sent and taken in each lane, and the stamps of both.
use Rattle.std.proofs.Common.{◌≡◌, ◌≢◌, ℕ, ◌≤◌, ◌==◌, ◌&&◌, Bool, true, false, cond, Some, List, [], ◌∷◌, ◌++◌, map, refl, sym, ap, ◌∙◌, arith}
use Rattle.std.proofs.lemmas.Bool.Decides.{nat_tests}
use Rattle.dash_msg.specs.declared.msg.Msg.TheVariants.{Unlock}
use Rattle.dash_msg.specs.declared.classes.Class.{Class}
use Rattle.dash_msg.specs.declared.classes.Class.TheVariants.{Request, Reply}
use Rattle.dash_msg.specs.declared.parcel.Sent.{Sent}
use Rattle.dash_msg.specs.Classes.{class_of}
use Rattle.dash_event.specs.declared.event.Kind.{Kind}
use Rattle.dash_event.specs.declared.event.Kind.TheVariants.{Free, Take}
use Rattle.dash_model.specs.Config.{Config}
use Rattle.dash_model.specs.Net.{Packet, same_class, in_lane, packet, parcel, lane, head, tail}
use Rattle.dash_model.specs.Part.{Part}
use Rattle.dash_model.specs.Row.{row}
use Rattle.dash_model.specs.Machine.{PrecedesAll, Machine, Step, by, event_of, taken, AtHead, less, part_after, sends, after}
use Rattle.dash_model.specs.LocalRun.{sent_in, of_cluster}

pub same_lane : (a b : ℕ) (k j i : Class) (c d e f : ℕ) → (c == a) && (d == b) && same_class j k ≡ true
    → (e == a) && (f == b) && same_class i k ≡ true → (e == c) && (f == d) && same_class i j ≡ true
same_lane a b Request Request Request c d e f g h = grind (arith, nat_tests)
same_lane a b Reply Reply Reply c d e f g h = grind (arith, nat_tests)
same_lane a b _ _ _ c d e f g h = grind (arith, nat_tests)

pub take_cases : (a b : ℕ) (k : Class) (q p : Packet) (ps : List Packet) (i s t : Bool) → in_lane q.src q.dst (class_of q.msg) p ≡ i
    → in_lane a b k q ≡ s → in_lane a b k p ≡ t → cond i (Some p) (head q.src q.dst (class_of q.msg) ps) ≡ Some q
    → (head q.src q.dst (class_of q.msg) ps ≡ Some q → cond s (q ∷ []) [] ++ lane a b k (tail q.src q.dst (class_of q.msg) ps) ≡ lane a b k ps)
    → cond s (q ∷ []) [] ++ lane a b k (cond i ps (p ∷ tail q.src q.dst (class_of q.msg) ps)) ≡ cond t (p ∷ lane a b k ps) (lane a b k ps)
unfolding lane
take_cases a b k q p ps true true true e f g h ih = let r : p ≡ q = cc in ap (λ x. x ∷ lane a b k ps) (sym r)
take_cases a b k q p ps true true false e f g h ih = let r : p ≡ q = cc in absurd (cc (ap (in_lane a b k) r))
take_cases a b k q p ps true false true e f g h ih = let r : p ≡ q = cc in absurd (cc (ap (in_lane a b k) r))
take_cases a b k q p ps true false false e f g h ih = refl
take_cases a b k q p ps false true true e f g h ih = absurd (cc (same_lane a b k (class_of q.msg) (class_of p.msg) q.src q.dst p.src p.dst f g))
take_cases a b k q p ps false true false e f g h ih =
    ap (λ t. q ∷ cond t (p ∷ lane a b k (tail q.src q.dst (class_of q.msg) ps)) (lane a b k (tail q.src q.dst (class_of q.msg) ps))) g ∙ ih h
take_cases a b k q p ps false false true e f g h ih =
    ap (λ t. cond t (p ∷ lane a b k (tail q.src q.dst (class_of q.msg) ps)) (lane a b k (tail q.src q.dst (class_of q.msg) ps))) g
    ∙ ap (λ r. p ∷ r) (ih h)
take_cases a b k q p ps false false false e f g h ih =
    ap (λ t. cond t (p ∷ lane a b k (tail q.src q.dst (class_of q.msg) ps)) (lane a b k (tail q.src q.dst (class_of q.msg) ps))) g ∙ ih h

-- a message at the head of its lane, and what is left of each lane
pub lane-less : (a b : ℕ) (k : Class) (q : Packet) (net : List Packet) → head q.src q.dst (class_of q.msg) net ≡ Some q
    → lane a b k (q ∷ []) ++ lane a b k (tail q.src q.dst (class_of q.msg) net) ≡ lane a b k net
unfolding lane head tail
lane-less a b k q [] h = absurd (cc)
lane-less a b k q (p ∷ ps) h =
    take_cases a b k q p ps (in_lane q.src q.dst (class_of q.msg) p) (in_lane a b k q) (in_lane a b k p) refl refl refl h (lane-less a b k q ps)

-- what an event takes: nothing, or one message to its cluster with the stamp given
pub data Takes (c u : ℕ) : List Packet → Type 0 where
  Nothing : Takes c u []
  One : (q : Packet) → q.dst ≡ c → q.stamp ≡ u → Takes c u (q ∷ [])

pub takes_view : (c u : ℕ) (e : Kind) → Takes c u (taken c u e)
takes_view c u (Take f m) = One (parcel f.0 c m u) refl refl
takes_view c u (Free f a) = One (parcel f.0 c (Unlock a.hart a.number a.word) u) refl refl
takes_view c u _ = Nothing

pub lane-taken : (a b : ℕ) (k : Class) (c u : ℕ) (ts net : List Packet) → Takes c u ts → AtHead ts net
    → lane a b k ts ++ lane a b k (less ts net) ≡ lane a b k net
unfolding lane
lane-taken a b k c u [] net t h = refl
lane-taken a b k c u (q ∷ []) net t h = lane-less a b k q net h
lane-taken a b k c u (q ∷ r ∷ rs) net t h = elim t [ ]

-- what is sent and taken by a cluster is in its own lanes alone
pub off_source : (a b : ℕ) (k : Class) (c t : ℕ) (ss : List Sent) → a ≢ c → lane a b k (map (packet t c) ss) ≡ []
unfolding lane
off_source a b k c t [] n = refl
off_source a b k c t (s ∷ ss) n =
    let e : in_lane a b k (packet t c s) ≡ false = grind (arith, nat_tests) in
    ap (λ z. cond z (packet t c s ∷ lane a b k (map (packet t c) ss)) (lane a b k (map (packet t c) ss))) e ∙ off_source a b k c t ss n

pub off_target : (a b : ℕ) (k : Class) (c u : ℕ) (ts : List Packet) → b ≢ c → Takes c u ts → lane a b k ts ≡ []
unfolding lane
off_target a b k c u ts n Nothing = refl
off_target a b k c u ts n (One q d s) =
    let e : in_lane a b k q ≡ false = grind (arith, nat_tests) in
    ap (λ z. cond z (q ∷ []) []) e

-- stamps: none of these is below t
abbrev pub NoneBelow : ℕ → List Packet → Type 0
NoneBelow t [] = Unit {0}
NoneBelow t (p ∷ ps) = (t ≤ p.stamp) × NoneBelow t ps

abbrev pub NotBefore : ℕ → List Step → Type 0
NotBefore t [] = Unit {0}
NotBefore t (g ∷ gs) = (t ≤ g.event.stamp) × NotBefore t gs

pub none_append : (t : ℕ) (xs ys : List Packet) → NoneBelow t xs → NoneBelow t ys → NoneBelow t (xs ++ ys)
none_append t [] ys h k = k
none_append t (x ∷ xs) ys h k = (h.0, none_append t xs ys h.1 k)

pub none_sent : (t u c : ℕ) (ss : List Sent) → t ≤ u → NoneBelow t (map (packet u c) ss)
none_sent t u c [] h = tt
none_sent t u c (s ∷ ss) h = (h, none_sent t u c ss h)

pub none_in : (w : Config) (c t : ℕ) (p : Part) (gs : List Step) → NotBefore t gs → NoneBelow t (sent_in w c p gs)
unfolding sent_in
none_in w c t p [] h = tt
none_in w c t p (g ∷ gs) h =
    none_append t (sends w c g p) (sent_in w c (part_after w c g p) gs) (none_sent t g.event.stamp c (row w c g.event.kind g.done p).sent h.0) (none_in w c t (part_after w c g p) gs h.1)

pub none_lane_cases : (t : ℕ) (a b : ℕ) (k : Class) (p : Packet) (ps : List Packet) (i : Bool) → t ≤ p.stamp → NoneBelow t (lane a b k ps)
    → NoneBelow t (cond i (p ∷ lane a b k ps) (lane a b k ps))
none_lane_cases t a b k p ps true h ih = (h, ih)
none_lane_cases t a b k p ps false h ih = ih

pub none_lane : (t a b : ℕ) (k : Class) (ps : List Packet) → NoneBelow t ps → NoneBelow t (lane a b k ps)
unfolding lane
none_lane t a b k [] h = tt
none_lane t a b k (p ∷ ps) h = none_lane_cases t a b k p ps (in_lane a b k p) h.0 (none_lane t a b k ps h.1)

pub not_before_cases : (t : ℕ) (g : Step) (gs : List Step) (i : Bool) → t ≤ g.event.stamp → NotBefore t gs → NotBefore t (cond i (g ∷ gs) gs)
not_before_cases t g gs true h k = (h, k)
not_before_cases t g gs false h k = k

pub not_before_of : (t c : ℕ) (gs : List Step) → NotBefore t gs → NotBefore t (of_cluster c gs)
unfolding of_cluster
not_before_of t c [] h = tt
not_before_of t c (g ∷ gs) h = not_before_cases t g (of_cluster c gs) (by g == c) h.0 (not_before_of t c gs h.1)

pub not_before_all : (g : Step) (gs : List Step) → PrecedesAll g.event (map event_of gs) → NotBefore g.event.stamp gs
not_before_all g [] h = tt
not_before_all g (x ∷ xs) h = (grind arith, not_before_all g xs h.1)

-- the events of a cluster
pub of_own : (g : Step) (gs : List Step) → of_cluster (by g) (g ∷ gs) ≡ g ∷ of_cluster (by g) gs
unfolding of_cluster
of_own g gs =
    let e : (by g == by g) ≡ true = grind (arith, nat_tests) in
    ap (λ t. cond t (g ∷ of_cluster (by g) gs) (of_cluster (by g) gs)) e

pub of_other : (c : ℕ) (g : Step) (gs : List Step) → c ≢ by g → of_cluster c (g ∷ gs) ≡ of_cluster c gs
unfolding of_cluster
of_other c g gs n =
    let e : (by g == c) ≡ false = grind (arith, nat_tests) in
    ap (λ t. cond t (g ∷ of_cluster c gs) (of_cluster c gs)) e

pub parts_own : (w : Config) (m : Machine) (g : Step) → (after w m g).parts (by g) ≡ part_after w (by g) g (m.parts (by g))
parts_own w m g =
    let i : (by g == by g) ≡ true = grind (arith, nat_tests) in
    ap (λ t. cond t (part_after w (by g) g (m.parts (by g))) (m.parts (by g))) i

pub parts_other : (w : Config) (m : Machine) (g : Step) (c : ℕ) → c ≢ by g → (after w m g).parts c ≡ m.parts c
parts_other w m g c n =
    let i : (c == by g) ≡ false = grind (arith, nat_tests) in
    ap (λ t. cond t (part_after w (by g) g (m.parts (by g))) (m.parts c)) i
