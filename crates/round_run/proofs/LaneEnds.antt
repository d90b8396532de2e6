-- The lanes of units that ended: all that was sent was received.
use Rattle.std.proofs.Common.{◌≡◌, ◌⊎◌, ℕ, ◌<◌, ◌≤◌, ◌==◌, ◌&&◌, nat_lt, Bool, true, false, cond, List, [], ◌∷◌, ◌++◌, map, slice_index_or, inl, inr, refl, sym, ◌∙◌, ap, ap₂, subst, arith}
use Rattle.std.proofs.lemmas.Bool.Decides.{nat_tests}
use Rattle.std.proofs.lemmas.List.{append-nil}
use denote.RawPtr.{null_ptr}
use Rattle.dash_msg.specs.Classes.{class_of}
use Rattle.dash_msg.specs.declared.classes.Class.{Class}
use Rattle.dash_msg.specs.declared.classes.Class.TheVariants.{Request, Reply}
use Rattle.dash_msg.specs.declared.msg.Msg.{Msg}
use Rattle.dash_msg.specs.declared.parcel.Parcel.{Parcel}
use Rattle.mesh_lanes.specs.View.{LaneName, OutletView, InletView}
use Rattle.dash_model.specs.Config.{Config}
use Rattle.dash_model.specs.Net.{Packet, same_class, in_lane, lane}
use Rattle.dash_model.specs.Part.{opening_part}
use Rattle.dash_model.specs.Machine.{Step, event_of}
use Rattle.dash_model.specs.LineFacts.{IsOnItsWay}
use Rattle.dash_model.specs.LocalRun.{IsLocalRun, sent_in, received_in, LanesMeet}
use Rattle.cluster_unit.specs.Ends.{place, parcel_of, parcels, AllOfClass, Carry, AreOfClass, Brought}
use Rattle.cluster_unit.specs.View.{CoreView}

-- ---- tests

-- numbers that are tested to be equal are so
equal_is : (m n : ℕ) → (m == n) ≡ true → m ≡ n
equal_is m n e = grind (arith, nat_tests)

-- a number is tested to equal itself
equal_itself : (n : ℕ) → (n == n) ≡ true
equal_itself n = grind (arith, nat_tests)

-- classes that are tested to be one are so
one_class : (j k : Class) → same_class j k ≡ true → j ≡ k
one_class Request Request e = refl
one_class Reply Reply e = refl
one_class Request Reply e = absurd (cc)
one_class Reply Request e = absurd (cc)

-- a class is tested to be itself
class_itself : (k : Class) → same_class k k ≡ true
class_itself Request = refl
class_itself Reply = refl

-- three tests that all hold
record AllThree (i j l : Bool) : Type 0 where
  pub first : i ≡ true
  pub second : j ≡ true
  pub third : l ≡ true

-- where their conjunction holds
all_three : (i j l : Bool) → (i && j && l) ≡ true → AllThree i j l
all_three true true true e = record { first = refl; second = refl; third = refl }
all_three true true false e = absurd (cc)
all_three true false l e = absurd (cc)
all_three false j l e = absurd (cc)

-- and it does where they do
three : (i j l : Bool) → i ≡ true → j ≡ true → l ≡ true → (i && j && l) ≡ true
three i j l e f g = ap (λ x. x && j && l) e ∙ ap (λ x. x && l) f ∙ g

-- ---- packets of one lane

-- packets from one cluster to another, of a class
abbrev Between : ℕ → ℕ → Class → List Packet → Type 0
Between a b k [] = Unit {0}
Between a b k (p ∷ ps) = (p.src ≡ a) × (p.dst ≡ b) × (class_of p.msg ≡ k) × Between a b k ps

-- one packet more, if it is of the lane
between_if : (a b : ℕ) (k : Class) (p : Packet) (ps : List Packet) (i : Bool) → in_lane a b k p ≡ i → Between a b k ps → Between a b k (cond i (p ∷ ps) ps)
between_if a b k p ps true e rest =
    let all = all_three (p.src == a) (p.dst == b) (same_class (class_of p.msg) k) e in
    (equal_is p.src a all.first, equal_is p.dst b all.second, one_class (class_of p.msg) k all.third, rest)
between_if a b k p ps false e rest = rest

-- the packets of a lane are between its ends
between : (a b : ℕ) (k : Class) (ps : List Packet) → Between a b k (lane a b k ps)
unfolding lane
between a b k [] = tt
between a b k (p ∷ ps) = between_if a b k p (lane a b k ps) (in_lane a b k p) refl (between a b k ps)

-- their parcels are of its class
of_class : (a b : ℕ) (k : Class) (ps : List Packet) → Between a b k ps → AllOfClass k (map parcel_of ps)
of_class a b k [] all = tt
of_class a b k (p ∷ ps) all = (all.2, of_class a b k ps all.3)

-- packets between the same ends with one parcel are one
same_packet : (x y : Packet) → x.src ≡ y.src → x.dst ≡ y.dst → parcel_of x ≡ parcel_of y → x ≡ y
same_packet x y src dst rest =
    let whole = λ (s d : ℕ) (m : Msg) (u : ℕ). (let p : Packet = record { src = s; dst = d; msg = m; stamp = u } in p) in
    ap (λ s. whole s x.dst x.msg x.stamp) src ∙ ap (λ d. whole y.src d x.msg x.stamp) dst ∙ ap (λ (q : Parcel). whole y.src y.dst q.msg q.stamp) rest

-- the first of two lists that are one
first_parcel : (x y : Parcel) (xs ys : List Parcel) → x ∷ xs ≡ y ∷ ys → x ≡ y
first_parcel x y xs ys e = cc

-- the rest of them
other_parcels : (x y : Parcel) (xs ys : List Parcel) → x ∷ xs ≡ y ∷ ys → xs ≡ ys
other_parcels x y xs ys e = cc

-- a list with a first is not empty
no_parcel : (x : Parcel) (xs : List Parcel) → x ∷ xs ≡ [] → ⊥
no_parcel x xs e = absurd (cc)

-- so lists of packets between the same ends, with the same parcels, are one
same_packets : (a b : ℕ) (k : Class) (xs ys : List Packet) → Between a b k xs → Between a b k ys → map parcel_of xs ≡ map parcel_of ys → xs ≡ ys
same_packets a b k [] [] f g e = refl
same_packets a b k [] (y ∷ ys) f g e = absurd (no_parcel (parcel_of y) (map parcel_of ys) (sym e))
same_packets a b k (x ∷ xs) [] f g e = absurd (no_parcel (parcel_of x) (map parcel_of xs) e)
same_packets a b k (x ∷ xs) (y ∷ ys) f g e =
    ap₂ (λ p ps. p ∷ ps)
    (same_packet x y (f.0 ∙ sym g.0) (f.1 ∙ sym g.1) (first_parcel (parcel_of x) (parcel_of y) (map parcel_of xs) (map parcel_of ys) e))
    (same_packets a b k xs ys f.3 g.3 (other_parcels (parcel_of x) (parcel_of y) (map parcel_of xs) (map parcel_of ys) e))

-- a lane is known by its parcels
same_lane : (a b : ℕ) (k : Class) (xs ys : List Packet) → parcels a b k xs ≡ parcels a b k ys → lane a b k xs ≡ lane a b k ys
same_lane a b k xs ys e = same_packets a b k (lane a b k xs) (lane a b k ys) (between a b k xs) (between a b k ys) e

-- ---- what is on its way

-- a packet is the first of its lane where it is the first of all
first_of_lane : (p : Packet) (ps : List Packet) → lane p.src p.dst (class_of p.msg) (p ∷ ps) ≡ p ∷ lane p.src p.dst (class_of p.msg) ps
unfolding lane
first_of_lane p ps =
    ap (λ i. cond i (p ∷ lane p.src p.dst (class_of p.msg) ps) (lane p.src p.dst (class_of p.msg) ps))
    (three (p.src == p.src) (p.dst == p.dst) (same_class (class_of p.msg) (class_of p.msg)) (equal_itself p.src) (equal_itself p.dst) (class_itself (class_of p.msg)))

-- a list of packets with a first is not empty
no_packet : (x : Packet) (xs : List Packet) → x ∷ xs ≡ [] → ⊥
no_packet x xs e = absurd (cc)

-- where each packet's lane is empty, nothing is on its way
pub none_on_way : (net : List Packet) → ((p : Packet) → IsOnItsWay p net → lane p.src p.dst (class_of p.msg) net ≡ []) → net ≡ []
none_on_way [] empty = refl
none_on_way (p ∷ ps) empty = absurd (no_packet p (lane p.src p.dst (class_of p.msg) ps) (sym (first_of_lane p ps) ∙ empty p (inl refl)))

-- ---- the runs of all clusters

-- what a unit's core tells of a run of its cluster
pub record RunsAs (w : Config) (c : ℕ) (a : CoreView) (gs : List Step) : Type 0 where
  pub events : map event_of gs ≡ a.log
  pub ran : IsLocalRun w c (opening_part w) gs
  pub carry : Carry w.top.clusters c (sent_in w c (opening_part w) gs) a.outlets
  pub brought : AreOfClass w.top.clusters a.inlets → Brought w.top.clusters c (received_in c gs) a.inlets
  pub sources : (f b : ℕ) (k : Class) → w.top.clusters ≤ f → lane f b k (received_in c gs) ≡ []

-- all that one core sent was received at another
abbrev pub IsThrough : (ℕ → CoreView) → ℕ → ℕ → Type 0
IsThrough cores a b = (k : Class) (o : OutletView) (n : InletView) → (slice_index_or (cores a).outlets (place b k) o).sent ≡ (slice_index_or (cores b).inlets (place a k) n).received

-- a lane, and ends of it, that nothing is said of
a_name : LaneName
a_name = record { words = null_ptr; slots = null_ptr; names = (0, (0, 0)) }

an_outlet : OutletView
an_outlet = record { lane = a_name; sent = []; spool = []; free = 0; spare = 0 }

an_inlet : InletView
an_inlet = record { lane = a_name; received = []; known = [] }

-- a number is below another one, or is not
pub below_or : (c n : ℕ) → (c < n) ⊎ (n ≤ c)
below_or c n = grind (arith, nat_tests)

-- the test of that where it is
lt_true : (c n : ℕ) → c < n → nat_lt c n ≡ true
lt_true c n less = grind (arith, nat_tests)

-- and where it is not
lt_false : (c n : ℕ) → n ≤ c → nat_lt c n ≡ false
lt_false c n least = grind (arith, nat_tests)

-- no steps send nothing
none_sent : (w : Config) (a b : ℕ) (k : Class) → lane a b k (sent_in w a (opening_part w) []) ≡ []
unfolding lane sent_in
none_sent w a b k = refl

-- and take nothing
none_received : (a b : ℕ) (k : Class) → lane a b k (received_in b []) ≡ []
unfolding lane received_in
none_received a b k = refl

-- lanes that meet, of which those to clusters of the machine have nothing left
pub record MeetEmpty (w : Config) (runs : ℕ → List Step) : Type 0 where
  pub meet : LanesMeet w runs
  pub none : (a b : ℕ) (k : Class) → b < w.top.clusters → meet.left a b k ≡ []

module _ (w : Config) (cores : ℕ → CoreView) (runs : ℕ → List Step) (each : (c : ℕ) → c < w.top.clusters → RunsAs w c (cores c) (runs c)) (past : (c : ℕ) → w.top.clusters ≤ c → runs c ≡ [])
    (through : (a b : ℕ) → a < w.top.clusters → b < w.top.clusters → IsThrough cores a b) where
  -- what a cluster sent
  abbrev sent : ℕ → List Packet
  sent a = sent_in w a (opening_part w) (runs a)

  -- what it took
  abbrev received : ℕ → List Packet
  received b = received_in b (runs b)

  -- what is left of a lane: nothing at a cluster of the machine, and all at another
  abbrev left : ℕ → ℕ → Class → List Packet
  left a b k = cond (nat_lt b w.top.clusters) [] (lane a b k (sent a))

  -- each lane brought messages of its class
  honest : (b : ℕ) → b < w.top.clusters → AreOfClass w.top.clusters (cores b).inlets
  honest b low f k x below =
      subst (AllOfClass k) (sym ((each f below).carry b k an_outlet low) ∙ through f b below low k an_outlet x) (of_class f b k (lane f b k (sent f)) (between f b k (sent f)))

  -- a lane between clusters of the machine
  met_both : (a b : ℕ) (k : Class) → a < w.top.clusters → b < w.top.clusters → lane a b k (sent a) ≡ lane a b k (received b)
  met_both a b k low below =
      same_lane a b k (sent a) (received b)
      (sym ((each a low).carry b k an_outlet below) ∙ through a b low below k an_outlet an_inlet ∙ (each b below).brought (honest b below) a k an_inlet low)

  -- what is no cluster sent nothing
  none_from : (a b : ℕ) (k : Class) → w.top.clusters ≤ a → lane a b k (sent a) ≡ []
  none_from a b k high = ap (λ gs. lane a b k (sent_in w a (opening_part w) gs)) (past a high) ∙ none_sent w a b k

  -- and took nothing
  none_to : (a b : ℕ) (k : Class) → w.top.clusters ≤ b → lane a b k (received b) ≡ []
  none_to a b k high = ap (λ gs. lane a b k (received_in b gs)) (past b high) ∙ none_received a b k

  -- nothing is left at a cluster of the machine
  none_left : (a b : ℕ) (k : Class) → b < w.top.clusters → left a b k ≡ []
  none_left a b k below = ap (λ i. cond i [] (lane a b k (sent a))) (lt_true b w.top.clusters below)

  -- all is left at what is none
  all_left : (a b : ℕ) (k : Class) → w.top.clusters ≤ b → left a b k ≡ lane a b k (sent a)
  all_left a b k high = ap (λ i. cond i [] (lane a b k (sent a))) (lt_false b w.top.clusters high)

  -- so what was received is all there is
  with_none : (a b : ℕ) (k : Class) → b < w.top.clusters → lane a b k (received b) ≡ lane a b k (received b) ++ left a b k
  with_none a b k below = sym (append-nil (lane a b k (received b))) ∙ ap (λ ps. lane a b k (received b) ++ ps) (sym (none_left a b k below))

  -- each lane meets
  met_by : (a b : ℕ) (k : Class) → (a < w.top.clusters) ⊎ (w.top.clusters ≤ a) → (b < w.top.clusters) ⊎ (w.top.clusters ≤ b) → lane a b k (sent a) ≡ lane a b k (received b) ++ left a b k
  met_by a b k (inl low) (inl below) = met_both a b k low below ∙ with_none a b k below
  met_by a b k (inr high) (inl below) = none_from a b k high ∙ sym ((each b below).sources a b k high) ∙ with_none a b k below
  met_by a b k source (inr high) = sym (all_left a b k high) ∙ ap (λ ps. ps ++ left a b k) (sym (none_to a b k high))

  -- so the runs' lanes meet
  pub meet_empty : MeetEmpty w runs
  meet_empty = record {
    meet = record { left = left; met = λ a b k. met_by a b k (below_or a w.top.clusters) (below_or b w.top.clusters) };
    none = none_left;
  }
