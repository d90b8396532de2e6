-- The machine along one line: messages of a line, and what a row of one line is along that line and along others.
use Rattle.std.proofs.Common.{◌≡◌, ◌≢◌, ◌⊎◌, ℕ, ◌==◌, Bool, true, false, cond, Some, List, [], ◌∷◌, ◌++◌, map, refl, sym, ap, ◌∙◌, inl, inr, arith}
use Rattle.std.proofs.lemmas.Bool.Decides.{nat_tests}
use Rattle.dash_msg.specs.declared.classes.Class.{Class}
use Rattle.dash_msg.specs.declared.msg.Msg.{Msg}
use Rattle.dash_msg.specs.declared.parcel.Sent.{Sent}
use Rattle.dash_model.specs.Maps.{upd}
use Rattle.dash_model.specs.Config.{Config, line_id, home_of, first_prefetch}
use Rattle.dash_model.specs.Net.{Packet, packet, in_lane, head, tail, send}
use Rattle.dash_model.specs.OnLine.{is_of, on}
use Rattle.dash_model.specs.Cell.{Cell, Home}
use Rattle.dash_model.specs.Part.{Part}
use Rattle.dash_model.specs.LineEffect.{LineEffect}
use Rattle.dash_model.specs.Machine.{Machine}
use Rattle.dash_model.proofs.LineState.{State, Where, apply}

abbrev pub along : Config → ℕ → Machine → State
along w l m = record { cells = λ c. (m.parts c).cells l; home = (m.parts (home_of w l)).homes l; net = on l m.net }

abbrev pub at : Config → ℕ → Where
at w l = record { k = first_prefetch w; home = home_of w l; line = line_id l }

-- all messages of a list are of line k, or none is
abbrev pub AllAre : ℕ → Bool → List Sent → Type 0
AllAre k b [] = Unit {0}
AllAre k b (s ∷ ss) = (is_of k s.msg ≡ b) × AllAre k b ss

pub same_or_not : (l k : ℕ) → (l ≡ k) ⊎ (l ≢ k)
same_or_not l k = grind (arith, nat_tests)

-- a message of one line is of no other
pub other_line : (k l : ℕ) (m : Msg) → is_of k m ≡ true → l ≢ k → is_of l m ≡ false
other_line k l m e n = grind (arith, nat_tests)

pub all_other : (k l : ℕ) (ss : List Sent) → AllAre k true ss → l ≢ k → AllAre l false ss
all_other k l [] h n = tt
all_other k l (s ∷ ss) h n = (other_line k l s.msg h.0 n, all_other k l ss h.1 n)

on_more : (k : ℕ) (p : Packet) (ps qs : List Packet) (i : Bool) → on k (ps ++ qs) ≡ on k ps ++ on k qs
    → cond i (p ∷ on k (ps ++ qs)) (on k (ps ++ qs)) ≡ cond i (p ∷ on k ps) (on k ps) ++ on k qs
on_more k p ps qs true e = ap (λ xs. p ∷ xs) e
on_more k p ps qs false e = e

pub on-append : (k : ℕ) (ps qs : List Packet) → on k (ps ++ qs) ≡ on k ps ++ on k qs
unfolding on
on-append k [] qs = refl
on-append k (p ∷ ps) qs = on_more k p ps qs (is_of k p.msg) (on-append k ps qs)

on-none : (k t a : ℕ) (ss : List Sent) → AllAre k false ss → on k (map (packet t a) ss) ≡ []
unfolding on
on-none k t a [] h = refl
on-none k t a (s ∷ ss) h = ap (λ b. cond b (packet t a s ∷ on k (map (packet t a) ss)) (on k (map (packet t a) ss))) h.0 ∙ on-none k t a ss h.1

on-all : (k t a : ℕ) (ss : List Sent) → AllAre k true ss → on k (map (packet t a) ss) ≡ map (packet t a) ss
unfolding on
on-all k t a [] h = refl
on-all k t a (s ∷ ss) h =
    ap (λ b. cond b (packet t a s ∷ on k (map (packet t a) ss)) (on k (map (packet t a) ss))) h.0 ∙ ap (λ xs. packet t a s ∷ xs) (on-all k t a ss h.1)

nothing_more : (xs : List Packet) → xs ++ [] ≡ xs
nothing_more [] = refl
nothing_more (x ∷ xs) = ap (λ ys. x ∷ ys) (nothing_more xs)

pub on-send-none : (k t a : ℕ) (net : List Packet) (ss : List Sent) → AllAre k false ss → on k (send net t a ss) ≡ on k net
unfolding send
on-send-none k t a net ss h = on-append k net (map (packet t a) ss) ∙ ap (λ xs. on k net ++ xs) (on-none k t a ss h) ∙ nothing_more (on k net)

pub on-send-all : (k t a : ℕ) (net : List Packet) (ss : List Sent) → AllAre k true ss → on k (send net t a ss) ≡ send (on k net) t a ss
unfolding send
on-send-all k t a net ss h = on-append k net (map (packet t a) ss) ∙ ap (λ xs. on k net ++ xs) (on-all k t a ss h)

-- the head of a lane is the head among the messages of its line
head_by : (k a b : ℕ) (c : Class) (q p : Packet) (ps : List Packet) (i j : Bool) → in_lane a b c p ≡ i → is_of k p.msg ≡ j → is_of k q.msg ≡ true
    → cond i (Some p) (head a b c ps) ≡ Some q → (head a b c ps ≡ Some q → head a b c (on k ps) ≡ Some q)
    → head a b c (cond j (p ∷ on k ps) (on k ps)) ≡ Some q
unfolding head
head_by k a b c q p ps true true e f h g ih = ap (λ x. cond x (Some p) (head a b c (on k ps))) e ∙ g
head_by k a b c q p ps true false e f h g ih = let r : p ≡ q = cc in absurd (cc (ap (λ (x : Packet). is_of k x.msg) r))
head_by k a b c q p ps false true e f h g ih = ap (λ x. cond x (Some p) (head a b c (on k ps))) e ∙ ih g
head_by k a b c q p ps false false e f h g ih = ih g

pub on-head : (k a b : ℕ) (c : Class) (q : Packet) (net : List Packet) → is_of k q.msg ≡ true → head a b c net ≡ Some q
    → head a b c (on k net) ≡ Some q
unfolding head on
on-head k a b c q [] h e = absurd (cc)
on-head k a b c q (p ∷ ps) h e = head_by k a b c q p ps (in_lane a b c p) (is_of k p.msg) refl refl h e (on-head k a b c q ps h)

tail_by : (k a b : ℕ) (c : Class) (q p : Packet) (ps : List Packet) (i j : Bool) → in_lane a b c p ≡ i → is_of k p.msg ≡ j → is_of k q.msg ≡ true
    → cond i (Some p) (head a b c ps) ≡ Some q → (head a b c ps ≡ Some q → on k (tail a b c ps) ≡ tail a b c (on k ps))
    → on k (cond i ps (p ∷ tail a b c ps)) ≡ tail a b c (cond j (p ∷ on k ps) (on k ps))
unfolding tail on
tail_by k a b c q p ps true true e f h g ih = sym (ap (λ x. cond x (on k ps) (p ∷ tail a b c (on k ps))) e)
tail_by k a b c q p ps true false e f h g ih = let r : p ≡ q = cc in absurd (cc (ap (λ (x : Packet). is_of k x.msg) r))
tail_by k a b c q p ps false true e f h g ih =
    ap (λ x. cond x (p ∷ on k (tail a b c ps)) (on k (tail a b c ps))) f ∙ ap (λ xs. p ∷ xs) (ih g)
    ∙ sym (ap (λ x. cond x (on k ps) (p ∷ tail a b c (on k ps))) e)
tail_by k a b c q p ps false false e f h g ih = ap (λ x. cond x (p ∷ on k (tail a b c ps)) (on k (tail a b c ps))) f ∙ ih g

pub on-tail : (k a b : ℕ) (c : Class) (q : Packet) (net : List Packet) → is_of k q.msg ≡ true → head a b c net ≡ Some q
    → on k (tail a b c net) ≡ tail a b c (on k net)
unfolding head tail on
on-tail k a b c q [] h e = absurd (cc)
on-tail k a b c q (p ∷ ps) h e = tail_by k a b c q p ps (in_lane a b c p) (is_of k p.msg) refl refl h e (on-tail k a b c q ps h)

-- a message of another line leaves those of this one
off_by : (k a b : ℕ) (c : Class) (q p : Packet) (ps : List Packet) (i j : Bool) → is_of k p.msg ≡ j → is_of k q.msg ≡ false
    → cond i (Some p) (head a b c ps) ≡ Some q → (head a b c ps ≡ Some q → on k (tail a b c ps) ≡ on k ps)
    → on k (cond i ps (p ∷ tail a b c ps)) ≡ cond j (p ∷ on k ps) (on k ps)
unfolding on
off_by k a b c q p ps true true f h g ih = let r : p ≡ q = cc in absurd (cc (ap (λ (x : Packet). is_of k x.msg) r))
off_by k a b c q p ps true false f h g ih = refl
off_by k a b c q p ps false j f h g ih = ap (λ x. cond x (p ∷ on k (tail a b c ps)) (on k (tail a b c ps))) f ∙ ap (λ xs. cond j (p ∷ xs) xs) (ih g)

pub on-tail-off : (k a b : ℕ) (c : Class) (q : Packet) (net : List Packet) → is_of k q.msg ≡ false → head a b c net ≡ Some q
    → on k (tail a b c net) ≡ on k net
unfolding head tail on
on-tail-off k a b c q [] h e = absurd (cc)
on-tail-off k a b c q (p ∷ ps) h e = off_by k a b c q p ps (in_lane a b c p) (is_of k p.msg) refl h e (on-tail-off k a b c q ps h)

-- a cluster's part that changed, along a line
abbrev pub changed : Machine → ℕ → Part → List Packet → List ℕ → Machine
changed m c q net console = record { parts = upd m.parts c q; net = net; console = console }

cell_of : (l : ℕ) (q p : Part) (a : Cell) (i : Bool) → q.cells l ≡ a → (cond i q p).cells l ≡ cond i a (p.cells l)
cell_of l q p a true e = e
cell_of l q p a false e = refl

cell_still : (l : ℕ) (q p r : Part) (i : Bool) → (i ≡ true → q.cells l ≡ p.cells l) → (cond i q p).cells l ≡ p.cells l
cell_still l q p r true e = e refl
cell_still l q p r false e = refl

home_still : (l : ℕ) (q p : Part) (i : Bool) → (i ≡ true → q.homes l ≡ p.homes l) → (cond i q p).homes l ≡ p.homes l
home_still l q p true e = e refl
home_still l q p false e = refl

is_same : (x c : ℕ) → (x == c) ≡ true → x ≡ c
is_same x c e = grind (arith, nat_tests)

-- nothing of the line changed
pub along_still : (w : Config) (m : Machine) (l c : ℕ) (q : Part) (net : List Packet) (console : List ℕ) → q.cells l ≡ (m.parts c).cells l
    → q.homes l ≡ (m.parts c).homes l → on l net ≡ on l m.net → along w l (changed m c q net console) ≡ along w l m
along_still w m l c q net console e f g = λ i. record {
  cells = λ x. cell_still l q (m.parts x) q (x == c) (λ t. e ∙ ap (λ y. (m.parts y).cells l) (sym (is_same x c t))) i;
  home = home_still l q (m.parts (home_of w l)) (home_of w l == c) (λ t. f ∙ ap (λ y. (m.parts y).homes l) (sym (is_same (home_of w l) c t))) i;
  net = g i;
}

-- a row that reads and changes the home only where it is its cluster's
pub record IsLocal (c h : ℕ) (D : Cell → Home → LineEffect) : Type 0 where
  pub home : c ≢ h → (a : Cell) (b : Home) → (D a b).home ≡ b
  pub cell : c ≢ h → (a : Cell) (b e : Home) → (D a b).cell ≡ (D a e).cell
  pub sent : c ≢ h → (a : Cell) (b e : Home) → (D a b).sent ≡ (D a e).sent

test_false : (x c : ℕ) → x ≢ c → (x == c) ≡ false
test_false x c n = grind (arith, nat_tests)

test_true : (c : ℕ) → (c == c) ≡ true
test_true c = grind (arith, nat_tests)

-- the line at this cluster, and maybe its home, changed by a row
pub along_row : (w : Config) (m : Machine) (l c t : ℕ) (D : Cell → Home → LineEffect) (q : Part) (rest net : List Packet) (console : List ℕ)
    → IsLocal c (home_of w l) D → q.cells l ≡ (D ((m.parts c).cells l) ((m.parts c).homes l)).cell
    → q.homes l ≡ (D ((m.parts c).cells l) ((m.parts c).homes l)).home → on l net ≡ send rest t c (D ((m.parts c).cells l) ((m.parts c).homes l)).sent
    → along w l (changed m c q net console) ≡ apply t c (D ((m.parts c).cells l) ((m.parts (home_of w l)).homes l)) rest (along w l m)
along_row w m l c t D q rest net console local e f g =
    elim (same_or_not c (home_of w l)) [
      | inl s ↦ (λ i. record {
        cells = λ x. cell_of l q (m.parts x) (D ((m.parts c).cells l) ((m.parts c).homes l)).cell (x == c) e i;
        home = (ap (λ y. (cond (y == c) q (m.parts y)).homes l) (sym s) ∙ ap (λ b. (cond b q (m.parts c)).homes l) (test_true c) ∙ f) i;
        net = g i;
      }) ∙ ap (λ y. apply t c (D ((m.parts c).cells l) ((m.parts y).homes l)) rest (along w l m)) s
      | inr n ↦ (λ i. record {
        cells = λ x. cell_of l q (m.parts x) (D ((m.parts c).cells l) ((m.parts (home_of w l)).homes l)).cell (x == c) (e ∙ local.cell n ((m.parts c).cells l) ((m.parts c).homes l) ((m.parts (home_of w l)).homes l)) i;
        home = (ap (λ b. (cond b q (m.parts (home_of w l))).homes l) (test_false (home_of w l) c (λ z. n (sym z))) ∙ sym (local.home n ((m.parts c).cells l) ((m.parts (home_of w l)).homes l))) i;
        net = (g ∙ ap (λ ss. send rest t c ss) (local.sent n ((m.parts c).cells l) ((m.parts c).homes l) ((m.parts (home_of w l)).homes l))) i;
      })
    ]
