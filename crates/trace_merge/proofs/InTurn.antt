-- Events in turn: those of one stamp stand by cluster. Sorted by stamp, and in turn at each stamp, they rise.
use Rattle.std.proofs.Common.{◌≡◌, ◌⊎◌, inl, inr, ℕ, suc, ◌<◌, ◌≤◌, Bool, true, false, cond, not, ◌&&◌, List, [], ◌∷◌, ◌++◌, refl, ap, subst, nat_cmp, is_lt, arith}
use Rattle.std.specs.List.{filter, AllByRecursion as Each}
use Rattle.std.specs.List.Sorted.{IsNonDecreasingBy, ties}
use Rattle.std.proofs.lemmas.List.Elements.{recursion_from_All}
use Rattle.std.proofs.lemmas.Bool.Decides.{nat_tests}
use Rattle.dash_event.specs.declared.event.Event.{Event}
use Rattle.dash_model.specs.Machine.{Precedes, PrecedesAll, IsRising}
use Rattle.trace_merge.proofs.Recursion.{each_kept, each_append}

-- e may stand before f, where those of one cluster rise and clusters follow one another
abbrev pub Before : Event → Event → Type 0
Before e f = (e.stamp < f.stamp) ⊎ (e.cluster.0 < f.cluster.0)

abbrev pub InTurn : List Event → Type 0
InTurn [] = Unit {0}
InTurn (e ∷ es) = Each (Before e) es × InTurn es

-- ---- lists in turn

before_of : (e : Event) (es : List Event) → PrecedesAll e es → Each (Before e) es
before_of e [] h = tt
before_of e (f ∷ fs) h = (before e f h.0, before_of e fs h.1) where
  before : (e f : Event) → Precedes e f → Before e f
  before e f (inl less) = inl less
  before e f (inr both) = inr both.1

pub turn_of : (es : List Event) → IsRising es → InTurn es
turn_of [] h = tt
turn_of (e ∷ es) h = (before_of e es h.0, turn_of es h.1)

pub turn_append : (xs ys : List Event) → InTurn xs → InTurn ys → Each (λ x. Each (Before x) ys) xs → InTurn (xs ++ ys)
turn_append [] ys h g across = g
turn_append (x ∷ xs) ys h g across = (each_append (Before x) xs ys h.0 across.0, turn_append xs ys h.1 g across.1)

turn_if : (x : Event) (xs : List Event) (b : Bool) → Each (Before x) xs → InTurn xs → InTurn (cond b (x ∷ xs) xs)
turn_if x xs true p q = (p, q)
turn_if x xs false p q = q

pub turn_kept : (test : Event → Bool) (xs : List Event) → InTurn xs → InTurn (filter test xs)
turn_kept test [] h = tt
turn_kept test (x ∷ xs) h = turn_if x (filter test xs) (test x) (each_kept (Before x) test xs h.0) (turn_kept test xs h.1)

-- ---- sorted by stamp

-- as the sort has it: whether two events tie
abbrev pub tie : Event → Event → Bool
tie = ties (λ e f. is_lt (nat_cmp e.stamp f.stamp))

not_less : (n : ℕ) → is_lt (nat_cmp n n) ≡ false
not_less n = grind (arith, nat_tests)

tied : (e f : Event) → e.stamp ≡ f.stamp → tie e f ≡ true
tied e f same = subst (λ n. (not (is_lt (nat_cmp e.stamp n)) && not (is_lt (nat_cmp n e.stamp))) ≡ true) same (ap (λ b. not b && not b) (not_less e.stamp))

abbrev Up : List Event → Type 0
Up [] = Unit {0}
Up (e ∷ es) = Each (λ f. e.stamp ≤ f.stamp) es × Up es

up_of : (es : List Event) → IsNonDecreasingBy (λ e. e.stamp) es → Up es
up_of [] h = tt
up_of (e ∷ es) h = (
  recursion_from_All (λ f. e.stamp ≤ f.stamp) es (λ k d within. h 0 (suc k) d (omega arith) (omega arith)),
  up_of es (λ i j d le within. h (suc i) (suc j) d (omega arith) (omega arith)),
)

at_most : (m n : ℕ) → m ≤ n → (m < n) ⊎ (m ≡ n)
at_most m n le = grind (arith, nat_tests)

before_tied : (e f : Event) (fs : List Event) (b : Bool) → b ≡ true → Each (Before e) (cond b (f ∷ fs) fs) → Before e f
before_tied e f fs true is h = h.0
before_tied e f fs false is h = absurd (cc)

before_rest : (e f : Event) (fs : List Event) (b : Bool) → Each (Before e) (cond b (f ∷ fs) fs) → Each (Before e) fs
before_rest e f fs true h = h.1
before_rest e f fs false h = h

by_cluster : (e f : Event) → e.stamp ≡ f.stamp → Before e f → Precedes e f
by_cluster e f same (inl less) = absurd (omega arith)
by_cluster e f same (inr less) = inr (same, less)

precedes : (e f : Event) (fs : List Event) → (e.stamp < f.stamp) ⊎ (e.stamp ≡ f.stamp) → Each (Before e) (filter (tie e) (f ∷ fs)) → Precedes e f
precedes e f fs (inl less) h = inl less
precedes e f fs (inr same) h = by_cluster e f same (before_tied e f (filter (tie e) fs) (tie e f) (tied e f same) h)

precedes_all : (e : Event) (es : List Event) → Each (λ f. e.stamp ≤ f.stamp) es → Each (Before e) (filter (tie e) es) → PrecedesAll e es
precedes_all e [] up h = tt
precedes_all e (f ∷ fs) up h =
    (precedes e f fs (at_most e.stamp f.stamp up.0) h, precedes_all e fs up.1 (before_rest e f (filter (tie e) fs) (tie e f) h))

turn_first : (e : Event) (es : List Event) (b : Bool) → b ≡ true → InTurn (cond b (e ∷ es) es) → Each (Before e) es
turn_first e es true is h = h.0
turn_first e es false is h = absurd (cc)

turn_rest : (e : Event) (es : List Event) (b : Bool) → InTurn (cond b (e ∷ es) es) → InTurn es
turn_rest e es true h = h.1
turn_rest e es false h = h

rises_up : (es : List Event) → Up es → ((x : Event) → InTurn (filter (tie x) es)) → IsRising es
rises_up [] up turns = tt
rises_up (e ∷ es) up turns = (
  precedes_all e es up.0 (turn_first e (filter (tie e) es) (tie e e) (tied e e refl) (turns e)),
  rises_up es up.1 (λ x. turn_rest e (filter (tie x) es) (tie x e) (turns x)),
)

pub rises_sorted : (es : List Event) → IsNonDecreasingBy (λ e. e.stamp) es → ((x : Event) → InTurn (filter (tie x) es)) → IsRising es
rises_sorted es sorted turns = rises_up es (up_of es sorted) turns
