-- The first event of all that were not taken, found log by log; and settled events, found likewise.
use Rattle.std.proofs.Common.{◌≡◌, ◌⊎◌, inl, inr, ℕ, zero, suc, ◌+◌, ◌-◌, ◌<◌, ◌≤◌, Bool, true, false, cond, nat_lt, List, [], ◌∷◌, length, map, get_or, Option, Some, None, refl, sym, ◌∙◌, ap, subst, arith}
use Rattle.std.specs.Prelude.{MatchOption, slice_get, slice_index_or}
use Rattle.std.specs.List.{AllByRecursion as Each}
use Rattle.std.proofs.lemmas.List.Elements.{recursion_from_All}
use Rattle.std.proofs.lemmas.Bool.Decides.{nat_tests}
use Rattle.dash_event.specs.declared.event.Event.{Event}
use Rattle.trace_merge.specs.MergedLogs.{log_of, AreLogs}
use Rattle.trace_merge.specs.Settled.{last_stamp}
use Rattle.trace_merge.specs.Taking.{head_of, AllTaken, IsFirst, earlier_of}

pub map_at : {X : Type 0} (f : X → List Event) (xs : List X) (i : ℕ) (x : X) → i < length xs → x ≡ get_or xs i x → log_of (map f xs) i ≡ f x
map_at f [] i x within at = absurd (omega arith)
map_at f (y ∷ ys) zero x within at = ap f (sym at)
map_at f (y ∷ ys) (suc i) x within at = map_at f ys i x (omega arith) at

pub last_is : (xs : List Event) (e : Event) → slice_get xs (length xs - 1) ≡ Some e → e.stamp ≡ last_stamp xs
last_is [] e at = absurd (cc)
last_is (x ∷ []) e at = ap (λ o. stamp_of x o) (sym at) where
  stamp_of : Event → Option Event → ℕ
  stamp_of x None = x.stamp
  stamp_of x (Some y) = y.stamp
last_is (x ∷ y ∷ ys) e at =
    let one : length (x ∷ y ∷ ys) - 1 ≡ suc (length (y ∷ ys) - 1) = omega arith in
    last_is (y ∷ ys) e (subst (λ i. slice_get (x ∷ y ∷ ys) i ≡ Some e) one at)

pub some_same : (e f : Event) → Some e ≡ Some f → e ≡ f
some_same e f at = cc

pub less_or : (c k : ℕ) → c < k + 1 → (c < k) ⊎ (c ≡ k)
less_or c k h = grind (arith, nat_tests)

pub at_least : (a b : ℕ) → nat_lt a b ≡ false → (b < a) ⊎ (b ≡ a)
at_least a b h = grind (arith, nat_tests)

pub is_less : (a b : ℕ) → nat_lt a b ≡ true → a < b
is_less a b h = grind (arith, nat_tests)

pub each_get : (P : Event → Type 0) (xs : List Event) (i : ℕ) (e : Event) → Each P xs → slice_get xs i ≡ Some e → P e
each_get P [] i e h at = absurd (cc)
each_get P (x ∷ xs) zero e h at = subst P (some_same x e at) h.0
each_get P (x ∷ xs) (suc i) e h at = each_get P xs i e h.1 at

module _ (logs : List (List Event)) (taken : List ℕ) (k : ℕ) (own : (e : Event) → head_of logs taken k ≡ Some e → e.cluster.0 ≡ k) where
  abbrev Best : ℕ → Option Event → Type 0
  Best n o = MatchOption o (AllTaken logs taken n) (IsFirst logs taken n)

  second : (e f : Event) (b : Bool) → nat_lt f.stamp e.stamp ≡ b → head_of logs taken k ≡ Some f → IsFirst logs taken k e → Best (k + 1) (cond b (Some f) (Some e))
  second e f true less at h = record {
    within = let same = own f at in omega arith;
    head = subst (λ n. head_of logs taken n ≡ Some f) (sym (own f at)) at;
    first = λ c g within head. first c g head (less_or c k within);
  } where
    first : (c : ℕ) (g : Event) → head_of logs taken c ≡ Some g → (c < k) ⊎ (c ≡ k) → (f.stamp < g.stamp) ⊎ ((f.stamp ≡ g.stamp) × (f.cluster.0 ≤ c))
    first c g head (inl below) = inl (before (h.first c g below head)) where
      before : (e.stamp < g.stamp) ⊎ ((e.stamp ≡ g.stamp) × (e.cluster.0 ≤ c)) → f.stamp < g.stamp
      before (inl l) = let l2 = is_less f.stamp e.stamp less in omega arith
      before (inr s) = let same = s.0 in let l2 = is_less f.stamp e.stamp less in omega arith
    first c g head (inr is) = inr (ap (λ x. x.stamp) (some_same f g (sym at ∙ sym (ap (head_of logs taken) is) ∙ head)), let same = own f at in omega arith)
  second e f false less at h = record {
    within = let w = h.within in omega arith;
    head = h.head;
    first = λ c g within head. first c g head (less_or c k within);
  } where
    first : (c : ℕ) (g : Event) → head_of logs taken c ≡ Some g → (c < k) ⊎ (c ≡ k) → (e.stamp < g.stamp) ⊎ ((e.stamp ≡ g.stamp) × (e.cluster.0 ≤ c))
    first c g head (inl below) = h.first c g below head
    first c g head (inr is) = subst (λ x. (e.stamp < x.stamp) ⊎ ((e.stamp ≡ x.stamp) × (e.cluster.0 ≤ c))) (some_same f g (sym at ∙ sym (ap (head_of logs taken) is) ∙ head)) (late (at_least f.stamp e.stamp less)) where
      late : (e.stamp < f.stamp) ⊎ (e.stamp ≡ f.stamp) → (e.stamp < f.stamp) ⊎ ((e.stamp ≡ f.stamp) × (e.cluster.0 ≤ c))
      late (inl l) = inl l
      late (inr s) = inr (s, let w = h.within in omega arith)

  better : (b h : Option Event) → head_of logs taken k ≡ h → Best k b → Best (k + 1) (earlier_of b h)
  better None None at all = λ c within. none c (less_or c k within) where
    none : (c : ℕ) → (c < k) ⊎ (c ≡ k) → head_of logs taken c ≡ None
    none c (inl below) = all c below
    none c (inr is) = ap (head_of logs taken) is ∙ at
  better None (Some f) at all = record {
    within = let same = own f at in omega arith;
    head = subst (λ n. head_of logs taken n ≡ Some f) (sym (own f at)) at;
    first = λ c g within head. first c g head (less_or c k within);
  } where
    first : (c : ℕ) (g : Event) → head_of logs taken c ≡ Some g → (c < k) ⊎ (c ≡ k) → (f.stamp < g.stamp) ⊎ ((f.stamp ≡ g.stamp) × (f.cluster.0 ≤ c))
    first c g head (inl below) = let none = all c below in absurd (cc)
    first c g head (inr is) = inr (ap (λ x. x.stamp) (some_same f g (sym at ∙ sym (ap (head_of logs taken) is) ∙ head)), let same = own f at in omega arith)
  better (Some e) None at h = record {
    within = let w = h.within in omega arith;
    head = h.head;
    first = λ c g within head. first c g head (less_or c k within);
  } where
    first : (c : ℕ) (g : Event) → head_of logs taken c ≡ Some g → (c < k) ⊎ (c ≡ k) → (e.stamp < g.stamp) ⊎ ((e.stamp ≡ g.stamp) × (e.cluster.0 ≤ c))
    first c g head (inl below) = h.first c g below head
    first c g head (inr is) = let none = ap (head_of logs taken) is ∙ at in absurd (cc)
  better (Some e) (Some f) at h = second e f (nat_lt f.stamp e.stamp) refl at h

  pub better_with : (b : Option Event) → MatchOption b (AllTaken logs taken k) (IsFirst logs taken k)
      → MatchOption (earlier_of b (head_of logs taken k)) (AllTaken logs taken (k + 1)) (IsFirst logs taken (k + 1))
  better_with b h = better b (head_of logs taken k) refl h

pub own_head : (logs : List (List Event)) (taken : List ℕ) → AreLogs logs → (k : ℕ) → k < length logs → (e : Event) → head_of logs taken k ≡ Some e → e.cluster.0 ≡ k
own_head logs taken are k within e at = each_get (λ e. e.cluster.0 ≡ k) (log_of logs k) (slice_index_or taken k 0) e (recursion_from_All (λ e. e.cluster.0 ≡ k) (log_of logs k) (are k within).cluster) at
