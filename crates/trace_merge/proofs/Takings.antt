-- What taking an event does: the start of the merge has one event more. And where no event is left to take.
use Rattle.std.proofs.Common.{◌≡◌, ◌⊎◌, inl, inr, ℕ, zero, suc, ◌+◌, ◌-◌, ◌<◌, ◌≤◌, ◌==◌, Bool, true, false, cond, List, [], ◌∷◌, ◌++◌, length, take, drop, get_or, set, Some, None, refl, sym, ◌∙◌, ap, subst, arith}
use Rattle.std.specs.Prelude.{slice_get}
use Rattle.std.specs.List.{AllByRecursion as Each}
use Rattle.std.proofs.lemmas.List.{append-nil, get_or-set_same, get_or-set_other, length-set}
use Rattle.std.proofs.lemmas.List.Elements.{recursion_from_All}
use Rattle.std.proofs.lemmas.Bool.Decides.{nat_tests}
use Rattle.dash_event.specs.declared.event.Event.{Event}
use Rattle.dash_model.specs.Machine.{Precedes, PrecedesAll, IsRising}
use Rattle.dash_model.specs.LocalRun.{events_of, IsMergeOf}
use Rattle.trace_merge.specs.MergedLogs.{IsLogOf, log_of, AreLogs}
use Rattle.trace_merge.specs.Settled.{IsBeforeNext, last_stamp, IsSettled, left_of, StartsMerge, IsSettledPart}
use Rattle.trace_merge.specs.Taking.{AreTaken, head_of, AllTaken, IsFirst, taken_with}
use Rattle.trace_merge.proofs.Recursion.{each_append, each_weaker, events_append, events_own, events_none, is_same, is_other}
use Rattle.trace_merge.proofs.Rising.{each_of, precedes_of}
use Rattle.trace_merge.proofs.MergedLogs.{past}
use Rattle.trace_merge.proofs.Firsts.{some_same}

-- ---- lists

get_drop : (k : ℕ) (l : List Event) → slice_get l k ≡ slice_get (drop k l) 0
get_drop zero l = refl
get_drop (suc k) [] = refl
get_drop (suc k) (x ∷ l) = get_drop k l

drop_one : (k : ℕ) (l : List Event) → drop (suc k) l ≡ drop 1 (drop k l)
drop_one zero l = refl
drop_one (suc k) [] = refl
drop_one (suc k) (x ∷ l) = drop_one k l

cut : (l : List Event) (e : Event) → slice_get l 0 ≡ Some e → l ≡ e ∷ drop 1 l
cut [] e at = absurd (cc)
cut (x ∷ l) e at = ap (λ y. y ∷ l) (some_same x e at)

none_left : (l : List Event) → slice_get l 0 ≡ None → l ≡ []
none_left [] at = refl
none_left (x ∷ l) at = absurd (cc)

drop_nil : (k : ℕ) → drop {A = Event} k [] ≡ []
drop_nil zero = refl
drop_nil (suc k) = refl

length_more : (xs : List Event) (e : Event) → length (xs ++ e ∷ []) ≡ suc (length xs)
length_more [] e = refl
length_more (x ∷ xs) e = let more = length_more xs e in omega arith

tails : (x y : Event) (xs ys : List Event) → x ∷ xs ≡ y ∷ ys → xs ≡ ys
tails x y xs ys same = ap (drop 1) same

part_more : (xs l : List Event) (e : Event) → xs ++ drop (length xs) l ≡ l → slice_get (drop (length xs) l) 0 ≡ Some e → (xs ++ e ∷ []) ++ drop (length (xs ++ e ∷ [])) l ≡ l
part_more [] l e part at = sym (cut l e at)
part_more (x ∷ xs) [] e part at = absurd (cc)
part_more (x ∷ xs) (y ∷ l) e part at =
    let more = part_more xs l e (tails x y (xs ++ drop (length xs) l) l part) at in
    ap (λ r. x ∷ r) more ∙ ap (λ r. x ∷ r) (sym (tails x y (xs ++ drop (length xs) l) l part)) ∙ part

get_within : (l : List Event) (i : ℕ) (e : Event) → slice_get l i ≡ Some e → i < length l
get_within [] i e at = absurd (cc)
get_within (x ∷ l) zero e at = omega arith
get_within (x ∷ l) (suc i) e at = let more = get_within l i e at in omega arith

one_more : (n : ℕ) → n + 1 ≡ suc n
one_more n = omega arith

pub same_or : (a b : ℕ) → (a ≡ b) ⊎ (a ≡ b → ⊥)
same_or a b = decided (a == b) refl where
  decided : (t : Bool) → (a == b) ≡ t → (a ≡ b) ⊎ (a ≡ b → ⊥)
  decided true e = inl (is_same a b e)
  decided false e = inr (is_other a b e)

pub within_or : (a b : ℕ) → (a < b) ⊎ (b ≤ a)
within_or a b = grind (arith, nat_tests)

-- ---- rising lists

rising_drop : (k : ℕ) (l : List Event) → IsRising l → IsRising (drop k l)
rising_drop zero l h = h
rising_drop (suc k) [] h = tt
rising_drop (suc k) (x ∷ l) h = rising_drop k l h.1

rising_more : (es : List Event) (e : Event) → IsRising es → Each (λ x. Precedes x e) es → IsRising (es ++ e ∷ [])
rising_more [] e rise before = (tt, tt)
rising_more (x ∷ es) e rise before =
    (precedes_of x (es ++ e ∷ []) (each_append (Precedes x) es (e ∷ []) (each_of x es rise.0) (before.0, tt)), rising_more es e rise.1 before.1)

-- e is not after f
abbrev pub NotAfter : Event → Event → Type 0
NotAfter e f = (e.stamp < f.stamp) ⊎ ((e.stamp ≡ f.stamp) × (e.cluster.0 ≤ f.cluster.0))

then_precedes : (e f g : Event) → NotAfter e f → Precedes f g → Precedes e g
then_precedes e f g (inl p) (inl q) = inl (omega arith)
then_precedes e f g (inl p) (inr q) = let same = q.0 in inl (omega arith)
then_precedes e f g (inr p) (inl q) = let same = p.0 in inl (omega arith)
then_precedes e f g (inr p) (inr q) = let a = p.0 in let b = q.0 in let c = p.1 in let d = q.1 in inr (omega arith, omega arith)

not_after : (e f : Event) → Precedes e f → NotAfter e f
not_after e f (inl p) = inl p
not_after e f (inr p) = let less = p.1 in inr (p.0, omega arith)

apart : (e f : Event) → NotAfter e f → (e.cluster.0 ≡ f.cluster.0 → ⊥) → Precedes e f
apart e f (inl p) other = inl p
apart e f (inr p) other = inr (p.0, less (within_or e.cluster.0 f.cluster.0)) where
  less : (e.cluster.0 < f.cluster.0) ⊎ (f.cluster.0 ≤ e.cluster.0) → e.cluster.0 < f.cluster.0
  less (inl l) = l
  less (inr g) = let le = p.1 in absurd (other (omega arith))

settled_before : (last c : ℕ) (e f : Event) → NotAfter e f → IsBeforeNext last c f → IsBeforeNext last c e
settled_before last c e f (inl p) (inl q) = inl (omega arith)
settled_before last c e f (inl p) (inr q) = let same = q.0 in inl (omega arith)
settled_before last c e f (inr p) (inl q) = let same = p.0 in inl (omega arith)
settled_before last c e f (inr p) (inr q) = let a = p.0 in let b = q.0 in let x = p.1 in let y = q.1 in inr (omega arith, omega arith)

-- ---- the events of a cluster, with one more

with_own : (d : ℕ) (es : List Event) (e : Event) → e.cluster.0 ≡ d → events_of d (es ++ e ∷ []) ≡ events_of d es ++ e ∷ []
with_own d es e is = events_append d es (e ∷ []) ∙ ap (λ r. events_of d es ++ r) (events_own d (e ∷ []) (is, tt))

with_other : (d : ℕ) (es : List Event) (e : Event) → (e.cluster.0 ≡ d → ⊥) → events_of d (es ++ e ∷ []) ≡ events_of d es
with_other d es e is = events_append d es (e ∷ []) ∙ ap (λ r. events_of d es ++ r) (events_none d (e ∷ []) (is, tt)) ∙ append-nil (events_of d es)

pub few : (d : ℕ) (es : List Event) → length (events_of d es) ≤ length es
unfolding events_of
few d [] = omega arith
few d (e ∷ es) = one (e.cluster.0 == d) (few d es) where
  one : (b : Bool) → length (events_of d es) ≤ length es → length (cond b (e ∷ events_of d es) (events_of d es)) ≤ suc (length es)
  one true less = omega arith
  one false less = omega arith

-- ---- how much is left

abbrev pub left_in : List (List Event) → List ℕ → ℕ
left_in (l ∷ ls) (t ∷ ts) = (length l - t) + left_in ls ts
left_in ls ts = 0

left_less : (ls : List (List Event)) (ts : List ℕ) (k : ℕ) → k < length ts → get_or ts k 0 < length (get_or ls k []) → left_in ls (set ts k (get_or ts k 0 + 1)) < left_in ls ts
left_less [] ts k in_ts in_log = absurd (omega arith)
left_less (l ∷ ls) [] k in_ts in_log = absurd (omega arith)
left_less (l ∷ ls) (t ∷ ts) zero in_ts in_log = omega arith
left_less (l ∷ ls) (t ∷ ts) (suc k) in_ts in_log = let less = left_less ls ts k (omega arith) in_log in omega arith

-- ---- where logs are taken

pub log_is : (logs : List (List Event)) → AreLogs logs → (d : ℕ) → IsLogOf d (log_of logs d)
log_is logs are d = decided (within_or d (length logs)) where
  decided : (d < length logs) ⊎ (length logs ≤ d) → IsLogOf d (log_of logs d)
  decided (inl w) = are d w
  decided (inr le) = subst (IsLogOf d) (sym (past d logs le)) (record { cluster = λ i x w. absurd (omega arith); rising = tt })

pub clusters_of : (logs : List (List Event)) → AreLogs logs → (d : ℕ) → Each (λ e. e.cluster.0 ≡ d) (log_of logs d)
clusters_of logs are d = recursion_from_All (λ e. e.cluster.0 ≡ d) (log_of logs d) (log_is logs are d).cluster

each_drop : (P : Event → Type 0) (k : ℕ) (l : List Event) → Each P l → Each P (drop k l)
each_drop P zero l h = h
each_drop P (suc k) [] h = tt
each_drop P (suc k) (x ∷ l) h = each_drop P k l h.1

module _ (logs : List (List Event)) (are : AreLogs logs) (es : List Event) (ts : List ℕ) (taken : AreTaken es ts) (count : length ts ≡ length logs) (starts : StartsMerge logs es) where
  head_left : (d : ℕ) → d < length logs → head_of logs ts d ≡ slice_get (left_of logs es d) 0
  head_left d within = ap (slice_get (log_of logs d)) (taken d (subst (λ n. d < n) (sym count) within)) ∙ get_drop (length (events_of d es)) (log_of logs d)

  left_past : (d : ℕ) → length logs ≤ d → left_of logs es d ≡ []
  left_past d le = ap (drop (length (events_of d es))) (past d logs le) ∙ drop_nil (length (events_of d es))

  -- nothing is left
  module _ (all : AllTaken logs ts (length logs)) where
    empty : (d : ℕ) → left_of logs es d ≡ []
    empty d = decided (within_or d (length logs)) where
      decided : (d < length logs) ⊎ (length logs ≤ d) → left_of logs es d ≡ []
      decided (inl w) = none_left (left_of logs es d) (sym (head_left d w) ∙ all d w)
      decided (inr le) = left_past d le

    pub all_merged : IsMergeOf (length logs) (log_of logs) es
    all_merged = record {
      parts = λ d. sym (append-nil (events_of d es)) ∙ ap (λ r. events_of d es ++ r) (sym (empty d)) ∙ starts.parts d;
      none = λ d le. past d logs le;
      rising = starts.rising;
    }

    pub all_settled : Each (IsSettled logs) es → IsSettledPart logs es
    all_settled settled = record {
      starts = starts;
      settled = settled;
      rest = λ d. subst (Each (λ e. IsSettled logs e → ⊥)) (sym (empty d)) tt;
    }

  -- the first event that is left
  module _ (e : Event) (first : IsFirst logs ts (length logs) e) where
    left_rises : (d : ℕ) → IsRising (left_of logs es d)
    left_rises d = rising_drop (length (events_of d es)) (log_of logs d) (log_is logs are d).rising

    left_own : (d : ℕ) → Each (λ f. f.cluster.0 ≡ d) (left_of logs es d)
    left_own d = each_drop (λ f. f.cluster.0 ≡ d) (length (events_of d es)) (log_of logs d) (clusters_of logs are d)

    -- it is not after any that is left
    late : (d : ℕ) (left : List Event) → d < length logs → slice_get left 0 ≡ head_of logs ts d → IsRising left → Each (λ f. f.cluster.0 ≡ d) left → Each (NotAfter e) left
    late d [] within at rise own = tt
    late d (f ∷ fs) within at rise own =
        let here : NotAfter e f = subst (λ c. (e.stamp < f.stamp) ⊎ ((e.stamp ≡ f.stamp) × (e.cluster.0 ≤ c))) (sym own.0) (first.first d f within (sym at)) in
        (here, each_weaker (Precedes f) (NotAfter e) (λ g p. not_after e g (then_precedes e f g here p)) fs (each_of f fs rise.0))

    all_late : (d : ℕ) → Each (NotAfter e) (left_of logs es d)
    all_late d = decided (within_or d (length logs)) where
      decided : (d < length logs) ⊎ (length logs ≤ d) → Each (NotAfter e) (left_of logs es d)
      decided (inl w) = late d (left_of logs es d) w (sym (head_left d w)) (left_rises d) (left_own d)
      decided (inr le) = subst (Each (NotAfter e)) (sym (left_past d le)) tt

    pub none_settled : Each (IsSettled logs) es → (IsSettled logs e → ⊥) → IsSettledPart logs es
    none_settled settled open_ = record {
      starts = starts;
      settled = settled;
      rest = λ d. each_weaker (NotAfter e) (λ f. IsSettled logs f → ⊥) (λ f n s. open_ (λ c w. settled_before (last_stamp (log_of logs c)) c e f n (s c w))) (left_of logs es d) (all_late d);
    }

    at_head : slice_get (left_of logs es e.cluster.0) 0 ≡ Some e
    at_head = sym (head_left e.cluster.0 first.within) ∙ first.head

    left_cut : left_of logs es e.cluster.0 ≡ e ∷ drop 1 (left_of logs es e.cluster.0)
    left_cut = cut (left_of logs es e.cluster.0) e at_head

    left_after : (d : ℕ) → e.cluster.0 ≡ d → left_of logs (es ++ e ∷ []) d ≡ drop 1 (left_of logs es d)
    left_after d is =
        ap (λ xs. drop (length xs) (log_of logs d)) (with_own d es e is) ∙ ap (λ n. drop n (log_of logs d)) (length_more (events_of d es) e) ∙ drop_one (length (events_of d es)) (log_of logs d)

    left_kept : (d : ℕ) → (e.cluster.0 ≡ d → ⊥) → left_of logs (es ++ e ∷ []) d ≡ left_of logs es d
    left_kept d other = ap (λ xs. drop (length xs) (log_of logs d)) (with_other d es e other)

    part : (d : ℕ) → events_of d (es ++ e ∷ []) ++ left_of logs (es ++ e ∷ []) d ≡ log_of logs d
    part d = decided (same_or e.cluster.0 d) where
      decided : (e.cluster.0 ≡ d) ⊎ (e.cluster.0 ≡ d → ⊥) → events_of d (es ++ e ∷ []) ++ left_of logs (es ++ e ∷ []) d ≡ log_of logs d
      decided (inl is) =
          ap (λ xs. xs ++ drop (length xs) (log_of logs d)) (with_own d es e is)
          ∙ part_more (events_of d es) (log_of logs d) e (starts.parts d) (subst (λ c. slice_get (left_of logs es c) 0 ≡ Some e) is at_head)
      decided (inr other) = ap (λ xs. xs ++ drop (length xs) (log_of logs d)) (with_other d es e other) ∙ starts.parts d

    rest_of : (x : Event) (l : List Event) → PrecedesAll x l → PrecedesAll x (drop 1 l)
    rest_of x [] h = tt
    rest_of x (y ∷ l) h = h.1

    before : (d : ℕ) → Each (λ x. PrecedesAll x (left_of logs (es ++ e ∷ []) d)) (es ++ e ∷ [])
    before d = decided (same_or e.cluster.0 d) where
      decided : (e.cluster.0 ≡ d) ⊎ (e.cluster.0 ≡ d → ⊥) → Each (λ x. PrecedesAll x (left_of logs (es ++ e ∷ []) d)) (es ++ e ∷ [])
      decided (inl is) = subst (λ l. Each (λ x. PrecedesAll x l) (es ++ e ∷ [])) (sym (left_after d is)) (each_append (λ x. PrecedesAll x (drop 1 (left_of logs es d))) es (e ∷ [])
          (each_weaker (λ x. PrecedesAll x (left_of logs es d)) (λ x. PrecedesAll x (drop 1 (left_of logs es d))) (λ x h. rest_of x (left_of logs es d) h) es (starts.before d))
          ((subst IsRising (subst (λ c. left_of logs es c ≡ e ∷ drop 1 (left_of logs es c)) is left_cut) (left_rises d)).0, tt))
      decided (inr other) = subst (λ l. Each (λ x. PrecedesAll x l) (es ++ e ∷ [])) (sym (left_kept d other)) (each_append (λ x. PrecedesAll x (left_of logs es d)) es (e ∷ []) (starts.before d)
          (precedes_of e (left_of logs es d) (all_apart (left_of logs es d) (all_late d) (left_own d)), tt)) where
            all_apart : (l : List Event) → Each (NotAfter e) l → Each (λ f. f.cluster.0 ≡ d) l → Each (Precedes e) l
            all_apart [] n own = tt
            all_apart (f ∷ fs) n own = (apart e f n.0 (λ same. other (same ∙ own.0)), all_apart fs n.1 own.1)

    pub starts_with : StartsMerge logs (es ++ e ∷ [])
    starts_with = record {
      parts = part;
      rising = rising_more es e starts.rising (each_weaker (λ x. PrecedesAll x (left_of logs es e.cluster.0)) (λ x. Precedes x e) (λ x h. (subst (PrecedesAll x) left_cut h).0) es (starts.before e.cluster.0));
      before = before;
    }

    in_taken : e.cluster.0 < length ts
    in_taken = subst (λ n. e.cluster.0 < n) (sym count) first.within

    pub are_taken_with : AreTaken (es ++ e ∷ []) (taken_with ts e)
    are_taken_with c within = decided (same_or e.cluster.0 c) where
      inside : c < length ts
      inside = subst (λ n. c < n) (length-set ts e.cluster.0 (get_or ts e.cluster.0 0 + 1)) within

      decided : (e.cluster.0 ≡ c) ⊎ (e.cluster.0 ≡ c → ⊥) → get_or (taken_with ts e) c 0 ≡ length (events_of c (es ++ e ∷ []))
      decided (inl is) =
          ap (λ n. get_or (taken_with ts e) n 0) (sym is) ∙ get_or-set_same ts e.cluster.0 (get_or ts e.cluster.0 0 + 1) 0 in_taken
          ∙ one_more (get_or ts e.cluster.0 0) ∙ ap (λ n. suc n) (taken e.cluster.0 in_taken) ∙ sym (length_more (events_of e.cluster.0 es) e) ∙ ap length (sym (with_own e.cluster.0 es e refl)) ∙ ap (λ n. length (events_of n (es ++ e ∷ []))) is
      decided (inr other) = get_or-set_other ts e.cluster.0 c (get_or ts e.cluster.0 0 + 1) 0 (λ s. other (sym s)) ∙ taken c inside ∙ ap length (sym (with_other c es e other))

    pub count_with : length (taken_with ts e) ≡ length logs
    count_with = length-set ts e.cluster.0 (get_or ts e.cluster.0 0 + 1) ∙ count

    pub left_with : left_in logs (taken_with ts e) < left_in logs ts
    left_with = left_less logs ts e.cluster.0 in_taken (get_within (log_of logs e.cluster.0) (get_or ts e.cluster.0 0) e first.head)

    pub room_for : get_or ts e.cluster.0 0 ≤ length es
    room_for = subst (λ n. n ≤ length es) (sym (taken e.cluster.0 in_taken)) (few e.cluster.0 es)

-- ---- what is kept

pub kept_more : (start xs ys : List Event) → take (length start) xs ≡ start → take (length start) (xs ++ ys) ≡ start
kept_more [] xs ys is = refl
kept_more (s ∷ start) [] ys is = absurd (cc)
kept_more (s ∷ start) (x ∷ xs) ys is =
    let rest = tails x s (take (length start) xs) start is in
    ap (λ r. x ∷ r) (kept_more start xs ys rest) ∙ ap (λ r. x ∷ r) (sym rest) ∙ is
