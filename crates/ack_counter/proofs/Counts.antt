-- How many lines have an entry after each call, and that nothing is owed to a hart exactly where no line's entry is: the laws of counts, proved.
use Rattle.std.proofs.Common.{◌≡◌, ◌≢◌, ℕ, zero, suc, ◌+◌, ◌<◌, ◌||◌, Bool, true, false, cond, Option, Some, None, is_some, refl, sym, ap, ◌∙◌, arith}
use Rattle.std.specs.Prelude.{◌==◌, option_and_then}
use Rattle.std.specs.Ordering.{nat_cmp}
use Rattle.std.specs.Cmp.{nat_cmp_total, unsigned_tied}
use Rattle.std.specs.FinSet.{contains, contains-empty, contains-insert}
use Rattle.std.specs.FinMap.{len}
use Rattle.std.proofs.lemmas.Bool.Decides.{nat_tests}
use Rattle.ack_counter.specs.View.{Counted, TableView, entry_at, is_pending, count, owes, owed_to, owes_if, one_pending, pending_below}
use Rattle.ack_counter.specs.Steps.{fresh, expecting, counting, also_owed, with_entry, without_entry, set_entry, changed}
use Rattle.ack_counter.specs.Laws.{EntriesAreCounted, OwedIsByLine}
use Rattle.ack_counter.proofs.LineMaps.{len-remove_there, remove_nothing, some_key, passing-remove, none_passes}
use Rattle.ack_counter.proofs.Lines.{entry_at-without_entry, entry_at-changed, count-empty_table, count-with_entry}

abbrev one : Bool → ℕ
one b = cond b 1 0

without_by : (t : TableView) (l : ℕ) (o : Option Counted) → entry_at t l ≡ o → count (without_entry t l) + one (is_some o) ≡ count t
unfolding count without_entry entry_at
without_by t l None is = ap (λ m. len m + 0) (remove_nothing t.entries l is) ∙ omega arith
without_by t l (Some e) is = len-remove_there t.entries l e is

pub count-without_entry : (t : TableView) (l : ℕ) → count (without_entry t l) + one_pending t l ≡ count t
count-without_entry t l = without_by t l (entry_at t l) refl

with_by : (n m : ℕ) (b : Bool) → n ≡ cond b m (m + 1) → n + one b ≡ m + 1
with_by n m true is = omega arith
with_by n m false is = omega arith

count-with : (t : TableView) (l : ℕ) (e : Counted) → count (with_entry t l e) + one_pending t l ≡ count t + 1
count-with t l e = with_by (count (with_entry t l e)) (count t) (is_pending t l) (count-with_entry t l e)

count-set : (t : TableView) (l : ℕ) (o : Option Counted) → count (set_entry t l o) + one_pending t l ≡ count t + one (is_some o)
count-set t l None = count-without_entry t l ∙ omega arith
count-set t l (Some e) = count-with t l e

-- a change of the entry of one line, where it has one
changed_by : (t : TableView) (l : ℕ) (f : Counted → Option Counted) (o : Option Counted) → entry_at t l ≡ o → count (changed t l f o) + one (is_some o) ≡ count t + one (is_some (option_and_then f o))
changed_by t l f None is = refl
changed_by t l f (Some e) is = sym (ap (λ (x : Option Counted). count (set_entry t l (f e)) + one (is_some x)) is) ∙ count-set t l (f e)

here : (l : ℕ) (x y : Option Counted) → cond (l == l) x y ≡ x
here l x y = grind (arith, nat_tests)

pub count-changed : (t : TableView) (l : ℕ) (f : Counted → Option Counted) → count (changed t l f (entry_at t l)) + one_pending t l ≡ count t + one_pending (changed t l f (entry_at t l)) l
count-changed t l f = changed_by t l f (entry_at t l) refl ∙ sym (ap (λ x. count t + one (is_some x)) (entry_at-changed t l f l ∙ here l _ _))

still_some : (g : Counted → Counted) (o : Option Counted) → is_some (option_and_then (λ e. Some (g e)) o) ≡ is_some o
still_some g None = refl
still_some g (Some e) = refl

same_count : (n m k : ℕ) → n + k ≡ m + k → n ≡ m
same_count n m k is = omega arith

count-owing : (t : TableView) (l h : ℕ) → count (changed t l (λ e. Some (also_owed h e)) (entry_at t l)) ≡ count t
count-owing t l h = same_count _ (count t) (one_pending t l) (changed_by t l (λ e. Some (also_owed h e)) (entry_at t l) refl ∙ ap (λ b. count t + one b) (still_some (also_owed h) (entry_at t l)))

-- the lines that have an entry, one after another
below_same : (t u : TableView) (n : ℕ) → ((q : ℕ) → q < n → entry_at t q ≡ entry_at u q) → pending_below t n ≡ pending_below u n
unfolding pending_below
below_same t u zero same = refl
below_same t u (suc n) same =
    let here : one_pending t n ≡ one_pending u n = ap (λ x. one (is_some x)) (same n (omega arith)) in
    let rest = below_same t u n (λ q low. same q (omega arith)) in
    omega arith

elsewhere : (q l : ℕ) (x y : Option Counted) → q ≢ l → cond (q == l) x y ≡ y
elsewhere q l x y apart = grind (arith, nat_tests)

less_differs : (q n : ℕ) → q < n → q ≢ n
less_differs q n low e = omega arith

at_or_below : (q n : ℕ) (o : Option Counted) (b : Bool) → (q == n) ≡ b → (is_some o ≡ true → q < suc n) → is_some (cond b None o) ≡ true → q < n
at_or_below q n o true e low is = cc
at_or_below q n o false e low is = let l = low is in grind (arith, nat_tests)

none_pending : (n : ℕ) (t : TableView) → count t ≡ n → ((q : ℕ) → is_pending t q ≡ true → q < 0) → n ≡ 0
unfolding count entry_at
none_pending zero t is none = refl
none_pending (suc n) t is none = let k = some_key t.entries n is in let bad = none k.0 (ap (λ (x : Option Counted). is_some x) k.2) in absurd (omega arith)

pub count-below : (t : TableView) (n : ℕ) → ((q : ℕ) → is_pending t q ≡ true → q < n) → count t ≡ pending_below t n
unfolding pending_below
count-below t zero all = none_pending (count t) t refl all
count-below t (suc n) all =
    let less = without_entry t n in
    let rest = count-below less n (λ q is. at_or_below q n (entry_at t q) (q == n) refl (all q) (sym (ap (λ x. is_some x) (entry_at-without_entry t n q)) ∙ is)) in
    let same = below_same less t n (λ q low. entry_at-without_entry t n q ∙ elsewhere q n None (entry_at t q) (less_differs q n low)) in
    let one_less = count-without_entry t n in
    omega arith

pub entries_are_counted : EntriesAreCounted
entries_are_counted = record {
  empty = count-empty_table;
  begun = λ t l. count-with t l fresh;
  cancelled = count-without_entry;
  granted = λ t l n. count-changed t l (expecting n);
  acked = λ t l. count-changed t l counting;
  owing = count-owing;
  by_line = count-below;
}

-- what is owed
pub owes-fresh : (h : ℕ) → owes fresh h ≡ false
unfolding owes fresh
owes-fresh h = contains-empty nat_cmp h

pub owes-also_owed : (e : Counted) (h q : ℕ) → owes (also_owed h e) q ≡ ((q == h) || owes e q)
unfolding owes also_owed
owes-also_owed e h q = contains-insert nat_cmp_total e.owed h q ∙ ap (λ b. b || contains e.owed q) (unsigned_tied q h)

is_false : (b : Bool) → one b ≡ 0 → b ≡ false
is_false true e = absurd (omega arith)
is_false false e = refl

none_by : (t : TableView) (h l : ℕ) (o : Option Counted) → entry_at t l ≡ o → owed_to t h ≡ 0 → owes_if o h ≡ false
unfolding owed_to entry_at
none_by t h l None is none = refl
none_by t h l (Some e) is none =
    let all = passing-remove (λ d. owes d h) t.entries l e is in
    is_false (owes e h) (let n = none in omega arith)

pub owed_is_by_line : OwedIsByLine
unfolding owed_to entry_at
owed_is_by_line = record {
  none = λ t h none l. none_by t h l (entry_at t l) refl none;
  all = λ t h none. none_passes (λ d. owes d h) (len t.entries) t.entries refl (λ l e is. sym (ap (λ o. owes_if o h) is) ∙ none l);
}
