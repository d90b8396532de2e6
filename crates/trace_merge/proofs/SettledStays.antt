-- What is settled stays settled, whatever the clusters append, and the merge begins with it.
use Rattle.std.proofs.Common.{◌≡◌, ◌⊎◌, inl, inr, ℕ, zero, suc, ◌+◌, ◌<◌, ◌≤◌, List, [], ◌∷◌, ◌++◌, length, take, drop, refl, sym, ◌∙◌, ap, subst, arith}
use Rattle.std.specs.List.{AllByRecursion as Each}
use Rattle.std.proofs.lemmas.List.{append_assoc}
use Rattle.std.proofs.lemmas.Bool.Decides.{nat_tests}
use Rattle.dash_event.specs.declared.event.Event.{Event}
use Rattle.dash_model.specs.Machine.{Precedes, PrecedesAll, IsRising}
use Rattle.dash_model.specs.LocalRun.{events_of, IsMergeOf}
use Rattle.trace_merge.specs.MergedLogs.{log_of, AreLogs}
use Rattle.trace_merge.specs.Settled.{IsBeforeNext, last_stamp, IsSettled, left_of, StartsMerge, IsSettledPart, HaveGrown, StartsSettled}
use Rattle.trace_merge.proofs.Recursion.{each_append, each_weaker, events_append, events_own, events_none}
use Rattle.trace_merge.proofs.Rising.{each_of, precedes_of, From, from_first, first_is, own_kept}
use Rattle.trace_merge.proofs.MergedLogs.{past}
use Rattle.trace_merge.proofs.Takings.{within_or, same_or, clusters_of}

later_stamp : (xs ys : List Event) → Each (λ e. last_stamp xs < e.stamp) ys → last_stamp xs ≤ last_stamp (xs ++ ys)
later_stamp [] ys h = omega arith
later_stamp (x ∷ []) [] h = omega arith
later_stamp (x ∷ []) (y ∷ ys) h = last_above x.stamp y ys h where
  last_above : (n : ℕ) (y : Event) (ys : List Event) → Each (λ e. n < e.stamp) (y ∷ ys) → n ≤ last_stamp (y ∷ ys)
  last_above n y [] h = let less = h.0 in omega arith
  last_above n y (z ∷ zs) h = last_above n z zs h.1
later_stamp (x ∷ y ∷ xs) ys h = later_stamp (y ∷ xs) ys h

cut_same : (xs left : List Event) → drop (length xs) (xs ++ left) ≡ left
cut_same [] left = refl
cut_same (x ∷ xs) left = cut_same xs left

right_each : (P : Event → Type 0) (xs ys : List Event) → Each P (xs ++ ys) → Each P ys
right_each P [] ys h = h
right_each P (x ∷ xs) ys h = right_each P xs ys h.1

same_or_more : (m n : ℕ) → m ≤ n → (m ≡ n) ⊎ (m < n)
same_or_more m n le = grind (arith, nat_tests)

-- before all that a cluster can still write, so before what it wrote
before_new : (last c : ℕ) (e f : Event) → IsBeforeNext last c e → last < f.stamp → f.cluster.0 ≡ c → Precedes e f
before_new last c e f (inl less) after own = inl (omega arith)
before_new last c e f (inr both) after own = here (same_or_more (last + 1) f.stamp (omega arith)) where
  here : (last + 1 ≡ f.stamp) ⊎ (last + 1 < f.stamp) → Precedes e f
  here (inl same) = let at = both.0 in let less = both.1 in inr (omega arith, omega arith)
  here (inr more) = let at = both.0 in inl (omega arith)

settled_later : (low high c : ℕ) (e : Event) → low ≤ high → IsBeforeNext low c e → IsBeforeNext high c e
settled_later low high c e le (inl less) = inl (omega arith)
settled_later low high c e le (inr both) = up (same_or_more low high le) where
  up : (low ≡ high) ⊎ (low < high) → IsBeforeNext high c e
  up (inl same) = let at = both.0 in inr (omega arith, both.1)
  up (inr less) = let at = both.0 in inl (omega arith)

pub settled_parts_stay : (earlier later : List (List Event)) (es : List Event) → AreLogs later → HaveGrown earlier later → IsSettledPart earlier es → StartsSettled later es
settled_parts_stay earlier later es are grown part = record { starts = starts; settled = settled } where
  new_left : (d : ℕ) → left_of later es d ≡ left_of earlier es d ++ grown.added d
  new_left d =
      ap (drop (length (events_of d es))) (sym (grown.appended d) ∙ ap (λ l. l ++ grown.added d) (sym (part.starts.parts d)) ∙ append_assoc (events_of d es) (left_of earlier es d) (grown.added d))
      ∙ cut_same (events_of d es) (left_of earlier es d ++ grown.added d)

  new_part : (d : ℕ) → events_of d es ++ left_of later es d ≡ log_of later d
  new_part d =
      ap (λ l. events_of d es ++ l) (new_left d) ∙ sym (append_assoc (events_of d es) (left_of earlier es d) (grown.added d)) ∙ ap (λ l. l ++ grown.added d) (part.starts.parts d) ∙ grown.appended d

  all_after : (d : ℕ) (e : Event) → IsBeforeNext (last_stamp (log_of earlier d)) d e → (fs : List Event) → Each (λ f. last_stamp (log_of earlier d) < f.stamp) fs → Each (λ f. f.cluster.0 ≡ d) fs → PrecedesAll e fs
  all_after d e settled [] after own = tt
  all_after d e settled (f ∷ fs) after own = (before_new (last_stamp (log_of earlier d)) d e f settled after.0 own.0, all_after d e settled fs after.1 own.1)

  added_own : (d : ℕ) → Each (λ f. f.cluster.0 ≡ d) (grown.added d)
  added_own d = right_each (λ f. f.cluster.0 ≡ d) (log_of earlier d) (grown.added d) (subst (Each (λ f. f.cluster.0 ≡ d)) (sym (grown.appended d)) (clusters_of later are d))

  joined : (e : Event) (xs ys : List Event) → PrecedesAll e xs → PrecedesAll e ys → PrecedesAll e (xs ++ ys)
  joined e xs ys p q = precedes_of e (xs ++ ys) (each_append (Precedes e) xs ys (each_of e xs p) (each_of e ys q))

  both : (d : ℕ) (xs : List Event) → d < length earlier → Each (IsSettled earlier) xs → Each (λ e. PrecedesAll e (left_of earlier es d)) xs → Each (λ e. PrecedesAll e (left_of earlier es d ++ grown.added d)) xs
  both d [] within settled before = tt
  both d (x ∷ xs) within settled before = (joined x (left_of earlier es d) (grown.added d) before.0 (all_after d x (settled.0 d within) (grown.added d) (grown.after d) (added_own d)), both d xs within settled.1 before.1)

  none_past : (d : ℕ) (xs : List Event) → left_of later es d ≡ [] → Each (λ e. PrecedesAll e (left_of later es d)) xs
  none_past d [] is = tt
  none_past d (x ∷ xs) is = (subst (PrecedesAll x) (sym is) tt, none_past d xs is)

  nothing : (k : ℕ) → drop {A = Event} k [] ≡ []
  nothing zero = refl
  nothing (suc k) = refl

  before : (d : ℕ) → Each (λ e. PrecedesAll e (left_of later es d)) es
  before d = decided (within_or d (length earlier)) where
    decided : (d < length earlier) ⊎ (length earlier ≤ d) → Each (λ e. PrecedesAll e (left_of later es d)) es
    decided (inl w) = subst (λ l. Each (λ e. PrecedesAll e l) es) (sym (new_left d)) (both d es w part.settled (part.starts.before d))
    decided (inr le) = none_past d es (ap (drop (length (events_of d es))) (past d later (subst (λ n. n ≤ d) grown.count le)) ∙ nothing (length (events_of d es)))

  starts : StartsMerge later es
  starts = record { parts = new_part; rising = part.starts.rising; before = before }

  settled : Each (IsSettled later) es
  settled = each_weaker (IsSettled earlier) (IsSettled later)
      (λ e h c within. settled_later (last_stamp (log_of earlier c)) (last_stamp (log_of later c)) c e
      (subst (λ l. last_stamp (log_of earlier c) ≤ last_stamp l) (grown.appended c) (later_stamp (log_of earlier c) (grown.added c) (grown.after c)))
      (h c (subst (λ n. c < n) (sym grown.count) within))) es part.settled

pub nothing_starts : (logs : List (List Event)) → StartsSettled logs []
nothing_starts logs = record { starts = record { parts = parts; rising = tt; before = λ d. tt }; settled = tt } where
  parts : (d : ℕ) → events_of d [] ++ left_of logs [] d ≡ log_of logs d
  parts d = ap (λ xs. xs ++ drop (length xs) (log_of logs d)) (events_none d [] tt)

-- ---- the merge begins with each start of it

own_first : (c : ℕ) (e : Event) (es : List Event) → e.cluster.0 ≡ c → events_of c (e ∷ es) ≡ e ∷ events_of c es
own_first c e es is = events_append c (e ∷ []) es ∙ ap (λ l. l ++ events_of c es) (events_own c (e ∷ []) (is, tt))

other_first : (c : ℕ) (e : Event) (es : List Event) → (e.cluster.0 ≡ c → ⊥) → events_of c (e ∷ es) ≡ events_of c es
other_first c e es is = events_append c (e ∷ []) es ∙ ap (λ l. l ++ events_of c es) (events_none c (e ∷ []) (is, tt))

from_all : (e : Event) (l : List Event) → PrecedesAll e l → Each (From e) l
from_all e [] h = tt
from_all e (f ∷ fs) h = (inr h.0, from_all e fs h.1)

module _ (left : ℕ → List Event) where
  first_same : (e x : Event) (es m : List Event) → IsRising (e ∷ es) → IsRising (x ∷ m) → ((c : ℕ) → PrecedesAll e (left c))
      → ((c : ℕ) → events_of c (x ∷ m) ≡ events_of c (e ∷ es) ++ left c) → e ≡ x
  first_same e x es m rise rose before same = first_is x e there back where
    there : From x e
    there = (subst (Each (From x)) (same e.cluster.0 ∙ ap (λ l. l ++ left e.cluster.0) (own_first e.cluster.0 e es refl)) (own_kept (From x) e.cluster.0 (x ∷ m) (inl refl, from_first x m rose.0))).0

    back : From e x
    back = (subst (Each (From e)) (sym (same x.cluster.0) ∙ own_first x.cluster.0 x m refl)
        (each_append (From e) (events_of x.cluster.0 (e ∷ es)) (left x.cluster.0) (own_kept (From e) x.cluster.0 (e ∷ es) (inl refl, from_first e es rise.0)) (from_all e (left x.cluster.0) (before x.cluster.0)))).0

  rest_same : (e : Event) (es m : List Event) → ((c : ℕ) → events_of c (e ∷ m) ≡ events_of c (e ∷ es) ++ left c) → (c : ℕ) → events_of c m ≡ events_of c es ++ left c
  rest_same e es m same c = decided (same_or e.cluster.0 c) where
    decided : (e.cluster.0 ≡ c) ⊎ (e.cluster.0 ≡ c → ⊥) → events_of c m ≡ events_of c es ++ left c
    decided (inl is) = ap (drop 1) (sym (own_first c e m is) ∙ same c ∙ ap (λ l. l ++ left c) (own_first c e es is))
    decided (inr other) = sym (other_first c e m other) ∙ same c ∙ ap (λ l. l ++ left c) (other_first c e es other)

  begins : (es m : List Event) → IsRising es → IsRising m → ((c : ℕ) → Each (λ e. PrecedesAll e (left c)) es) → ((c : ℕ) → events_of c m ≡ events_of c es ++ left c) → take (length es) m ≡ es
  begins [] m rise rose before same = refl
  begins (e ∷ es) [] rise rose before same = absurd (nothing_here (sym (events_none e.cluster.0 [] tt) ∙ same e.cluster.0 ∙ ap (λ l. l ++ left e.cluster.0) (own_first e.cluster.0 e es refl))) where
    nothing_here : [] ≡ e ∷ (events_of e.cluster.0 es ++ left e.cluster.0) → ⊥
    nothing_here is = cc
  begins (e ∷ es) (x ∷ m) rise rose before same =
      let is = first_same e x es m rise rose (λ c. (before c).0) same in
      let now = subst (λ y. (c : ℕ) → events_of c (y ∷ m) ≡ events_of c (e ∷ es) ++ left c) (sym is) same in
      ap (λ y. y ∷ take (length es) m) (sym is) ∙ ap (λ l. e ∷ l) (begins es m rise.1 rose.1 (λ c. (before c).1) (rest_same e es m now))

pub merges_begin : (logs : List (List Event)) (es merged : List Event) → StartsMerge logs es → IsMergeOf (length logs) (log_of logs) merged → take (length es) merged ≡ es
merges_begin logs es merged starts merge = begins (left_of logs es) es merged starts.rising merge.rising starts.before (λ c. merge.parts c ∙ sym (starts.parts c))
