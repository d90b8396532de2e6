-- Each change of a table, read at any line: the laws of tables, proved.
use Rattle.std.proofs.Common.{◌≡◌, ◌≢◌, ℕ, ◌+◌, true, false, cond, Option, Some, None, refl, ap, ◌∙◌, arith}
use Rattle.std.specs.Prelude.{◌==◌, option_and_then}
use Rattle.std.specs.Ordering.{nat_cmp}
use Rattle.std.specs.Cmp.{nat_cmp_total}
use Rattle.std.specs.FinMap as fin
use Rattle.std.proofs.lemmas.Bool.Decides.{nat_tests}
use Rattle.ack_counter.specs.View.{Counted, TableView, entry_at, is_pending, count}
use Rattle.ack_counter.specs.Steps.{fresh, expecting, counting, also_owed, empty_table, with_entry, without_entry, set_entry, changed}
use Rattle.ack_counter.specs.Laws.{CallsChangeTheirLine, CallsKeepOtherLines}
use Rattle.ack_counter.proofs.LineMaps.{get-empty_nat, get-insert_nat, get-remove_nat}

pub entry_at-empty_table : (n q : ℕ) → entry_at (empty_table n) q ≡ None
unfolding entry_at empty_table
entry_at-empty_table n q = get-empty_nat q

pub entry_at-with_entry : (t : TableView) (l : ℕ) (e : Counted) (q : ℕ) → entry_at (with_entry t l e) q ≡ cond (q == l) (Some e) (entry_at t q)
unfolding entry_at with_entry
entry_at-with_entry t l e q = get-insert_nat t.entries l e q

pub entry_at-without_entry : (t : TableView) (l q : ℕ) → entry_at (without_entry t l) q ≡ cond (q == l) None (entry_at t q)
unfolding entry_at without_entry
entry_at-without_entry t l q = get-remove_nat t.entries l q

pub entry_at-set_entry : (t : TableView) (l : ℕ) (o : Option Counted) (q : ℕ) → entry_at (set_entry t l o) q ≡ cond (q == l) o (entry_at t q)
entry_at-set_entry t l None q = entry_at-without_entry t l q
entry_at-set_entry t l (Some e) q = entry_at-with_entry t l e q

none_stays : (t : TableView) (l q : ℕ) → entry_at t l ≡ None → entry_at t q ≡ cond (q == l) None (entry_at t q)
none_stays t l q none = elim (q == l) as (λ b. (q == l) ≡ b → entry_at t q ≡ cond b None (entry_at t q)) [
  | true ↦ λ same. ap (entry_at t) (grind (arith, nat_tests)) ∙ none
  | false ↦ λ apart. refl
] refl

-- a change of the entry of one line, where it has one
pub entry_at-changed : (t : TableView) (l : ℕ) (f : Counted → Option Counted) (q : ℕ) → entry_at (changed t l f (entry_at t l)) q ≡ cond (q == l) (option_and_then f (entry_at t l)) (entry_at t q)
entry_at-changed t l f q = by_case (entry_at t l) refl
  where
    by_case : (o : Option Counted) → entry_at t l ≡ o → entry_at (changed t l f o) q ≡ cond (q == l) (option_and_then f o) (entry_at t q)
    by_case None is = none_stays t l q is
    by_case (Some e) is = entry_at-set_entry t l (f e) q

here : (l : ℕ) (x y : Option Counted) → cond (l == l) x y ≡ x
here l x y = grind (arith, nat_tests)

elsewhere : (q l : ℕ) (x y : Option Counted) → q ≢ l → cond (q == l) x y ≡ y
elsewhere q l x y apart = grind (arith, nat_tests)

pub calls_change_their_line : CallsChangeTheirLine
calls_change_their_line = record {
  empty = λ n l. entry_at-empty_table n l;
  begun = λ t l. entry_at-with_entry t l fresh l ∙ here l _ _;
  cancelled = λ t l. entry_at-without_entry t l l ∙ here l _ _;
  granted = λ t l n. entry_at-changed t l (expecting n) l ∙ here l _ _;
  acked = λ t l. entry_at-changed t l counting l ∙ here l _ _;
  owing = λ t l h. entry_at-changed t l (λ e. Some (also_owed h e)) l ∙ here l _ _;
}

pub calls_keep_other_lines : CallsKeepOtherLines
calls_keep_other_lines = record {
  begun = λ t l q apart. entry_at-with_entry t l fresh q ∙ elsewhere q l _ _ apart;
  cancelled = λ t l q apart. entry_at-without_entry t l q ∙ elsewhere q l _ _ apart;
  granted = λ t l n q apart. entry_at-changed t l (expecting n) q ∙ elsewhere q l _ _ apart;
  acked = λ t l q apart. entry_at-changed t l counting q ∙ elsewhere q l _ _ apart;
  owing = λ t l h q apart. entry_at-changed t l (λ e. Some (also_owed h e)) q ∙ elsewhere q l _ _ apart;
}

-- how many lines have entries
pub count-empty_table : (n : ℕ) → count (empty_table n) ≡ 0
unfolding count empty_table
count-empty_table n = fin.len-empty nat_cmp Counted

pub count-with_entry : (t : TableView) (l : ℕ) (e : Counted) → count (with_entry t l e) ≡ cond (is_pending t l) (count t) (count t + 1)
unfolding count with_entry entry_at
count-with_entry t l e = fin.len-insert nat_cmp_total t.entries l e

pub capacity-with_entry : (t : TableView) (l : ℕ) (e : Counted) → (with_entry t l e).capacity ≡ t.capacity
unfolding with_entry
capacity-with_entry t l e = refl

pub capacity-without_entry : (t : TableView) (l : ℕ) → (without_entry t l).capacity ≡ t.capacity
unfolding without_entry
capacity-without_entry t l = refl

pub capacity-set_entry : (t : TableView) (l : ℕ) (o : Option Counted) → (set_entry t l o).capacity ≡ t.capacity
capacity-set_entry t l None = capacity-without_entry t l
capacity-set_entry t l (Some e) = capacity-with_entry t l e

pub capacity-changed : (t : TableView) (l : ℕ) (f : Counted → Option Counted) (o : Option Counted) → (changed t l f o).capacity ≡ t.capacity
capacity-changed t l f None = refl
capacity-changed t l f (Some e) = capacity-set_entry t l (f e)
