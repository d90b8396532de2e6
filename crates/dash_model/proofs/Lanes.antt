-- A lane is a queue.
use Rattle.std.proofs.Common.{◌≡◌, ℕ, ◌==◌, ◌&&◌, Bool, true, false, cond, Some, List, [], ◌∷◌, ◌++◌, map, refl, ap, ◌∙◌, arith}
use Rattle.std.proofs.lemmas.Bool.Decides.{nat_tests}
use Rattle.dash_msg.specs.Classes.{class_of}
use Rattle.dash_msg.specs.declared.classes.Class.{Class}
use Rattle.dash_msg.specs.declared.classes.Class.TheVariants.{Request, Reply}
use Rattle.dash_msg.specs.declared.parcel.Sent.{Sent}
use Rattle.dash_model.specs.Net.{Packet, packet, same_class, in_lane, lane, head, tail, first, rest, send}
use Rattle.dash_model.specs.MachineLaws.{IsQueue}

head_by : (a b : ℕ) (k : Class) (p : Packet) (ps : List Packet) (i : Bool) → head a b k ps ≡ first (lane a b k ps)
    → cond i (Some p) (head a b k ps) ≡ first (cond i (p ∷ lane a b k ps) (lane a b k ps))
head_by a b k p ps true e = refl
head_by a b k p ps false e = e

pub head-lane : (a b : ℕ) (k : Class) (net : List Packet) → head a b k net ≡ first (lane a b k net)
unfolding head lane
head-lane a b k [] = refl
head-lane a b k (p ∷ ps) = head_by a b k p ps (in_lane a b k p) (head-lane a b k ps)

tail_by : (a b : ℕ) (k : Class) (p : Packet) (ps : List Packet) (i : Bool) → in_lane a b k p ≡ i → lane a b k (tail a b k ps) ≡ rest (lane a b k ps)
    → lane a b k (cond i ps (p ∷ tail a b k ps)) ≡ rest (cond i (p ∷ lane a b k ps) (lane a b k ps))
unfolding lane
tail_by a b k p ps true i e = refl
tail_by a b k p ps false i e = ap (λ t. cond t (p ∷ lane a b k (tail a b k ps)) (lane a b k (tail a b k ps))) i ∙ e

pub lane-tail : (a b : ℕ) (k : Class) (net : List Packet) → lane a b k (tail a b k net) ≡ rest (lane a b k net)
unfolding tail lane
lane-tail a b k [] = refl
lane-tail a b k (p ∷ ps) = tail_by a b k p ps (in_lane a b k p) refl (lane-tail a b k ps)

append_by : (p : Packet) (xs ys zs : List Packet) (i : Bool) → zs ≡ xs ++ ys → cond i (p ∷ zs) zs ≡ cond i (p ∷ xs) xs ++ ys
append_by p xs ys zs true e = ap (λ t. p ∷ t) e
append_by p xs ys zs false e = e

pub lane-append : (a b : ℕ) (k : Class) (xs ys : List Packet) → lane a b k (xs ++ ys) ≡ lane a b k xs ++ lane a b k ys
unfolding lane
lane-append a b k [] ys = refl
lane-append a b k (x ∷ xs) ys = append_by x (lane a b k xs) (lane a b k ys) (lane a b k (xs ++ ys)) (in_lane a b k x) (lane-append a b k xs ys)

-- a packet is in one lane
one_lane : (a b c d : ℕ) (k j i : Class) (e f : ℕ) → (e == a) && (f == b) && same_class i k ≡ true → (e == c) && (f == d) && same_class i j ≡ true
    → (c ≡ a) × (d ≡ b) × (j ≡ k)
one_lane a b c d Request Request Request e f g h = grind (arith, nat_tests)
one_lane a b c d Reply Reply Reply e f g h = grind (arith, nat_tests)
one_lane a b c d Request Request Reply e f g h = grind (arith, nat_tests)
one_lane a b c d Reply Reply Request e f g h = grind (arith, nat_tests)
one_lane a b c d Request Reply Request e f g h = grind (arith, nat_tests)
one_lane a b c d Request Reply Reply e f g h = grind (arith, nat_tests)
one_lane a b c d Reply Request Request e f g h = grind (arith, nat_tests)
one_lane a b c d Reply Request Reply e f g h = grind (arith, nat_tests)

other_by : (a b c d : ℕ) (k j : Class) (p : Packet) (ps : List Packet) (s t : Bool) → in_lane a b k p ≡ s → in_lane c d j p ≡ t
    → ((c ≡ a) × (d ≡ b) × (j ≡ k) → ⊥) → lane a b k (tail c d j ps) ≡ lane a b k ps
    → lane a b k (cond t ps (p ∷ tail c d j ps)) ≡ cond s (p ∷ lane a b k ps) (lane a b k ps)
unfolding lane
other_by a b c d k j p ps true true e f n ih = absurd (n (one_lane a b c d k j (class_of p.msg) p.src p.dst e f))
other_by a b c d k j p ps false true e f n ih = refl
other_by a b c d k j p ps s false e f n ih =
    ap (λ t. cond t (p ∷ lane a b k (tail c d j ps)) (lane a b k (tail c d j ps))) e ∙ ap (λ xs. cond s (p ∷ xs) xs) ih

pub lane-tail-other : (a b c d : ℕ) (k j : Class) (net : List Packet) → ((c ≡ a) × (d ≡ b) × (j ≡ k) → ⊥)
    → lane a b k (tail c d j net) ≡ lane a b k net
unfolding tail lane
lane-tail-other a b c d k j [] n = refl
lane-tail-other a b c d k j (p ∷ ps) n = other_by a b c d k j p ps (in_lane a b k p) (in_lane c d j p) refl refl n (lane-tail-other a b c d k j ps n)

pub lane-send : (a b : ℕ) (k : Class) (net : List Packet) (t c : ℕ) (ss : List Sent)
    → lane a b k (send net t c ss) ≡ lane a b k net ++ lane a b k (map (packet t c) ss)
unfolding send
lane-send a b k net t c ss = lane-append a b k net (map (packet t c) ss)

pub lanes_are_queues : (a b : ℕ) (k : Class) (net : List Packet) → IsQueue a b k net
lanes_are_queues a b k net = record {
  head_is = head-lane a b k net;
  tail_is = lane-tail a b k net;
  tail_of_other = λ c d j n. lane-tail-other a b c d k j net n;
  joins = λ t c ss. lane-send a b k net t c ss;
}
