-- The map of entries, read and changed; how many lines it has, and how many are owed to a hart.
use Rattle.std.proofs.Common.{◌≡◌, ℕ, ◌+◌, ◌<◌, Bool, true, false, cond, List, [], ◌∷◌, ◌++◌, length, map, count_by, Option, Some, None, option_map, find, refl, sym, ap, ◌∙◌, arith}
use Rattle.std.specs.Prelude.{◌==◌}
use Rattle.std.specs.Ordering.{nat_cmp}
use Rattle.std.specs.FinMap as fin
use Rattle.std.specs.FinMap.{get, insert, remove, empty, len-empty, len-entries}
use Rattle.std.proofs.lemmas.List.Sums.{sum_by-cons}
use Rattle.std.proofs.lemmas.Bool.Decides.{nat_tests}
use Rattle.ack_counter.specs.declared.entries.Entry.{Entry}
use Rattle.ack_counter.specs.View.{Counted, owes}
use Rattle.ack_counter.specs.Entries.{is_of, is_owed, others, counted_in, map_of, are_apart}
use Rattle.ack_counter.proofs.LineMaps.{get-empty_nat, get-insert_nat, get-remove_nat, same_nat_map, len-insert_new, passing-insert}
use Rattle.ack_counter.proofs.Finds.{found, found-cons, found-others, found-push, gone}
use Rattle.ack_counter.proofs.Harts.{contains-harts_of_low}

pub map_of-nil : map_of [] ≡ empty
unfolding map_of
map_of-nil = refl

pub map_of-cons : (e : Entry) (es : List Entry) → map_of (e ∷ es) ≡ insert (map_of es) e.line.0 (counted_in e)
unfolding map_of
map_of-cons e es = refl

pub get-map_of : (es : List Entry) (q : ℕ) → get (map_of es) q ≡ found es q
get-map_of [] q = ap (λ m. get m q) map_of-nil ∙ get-empty_nat q
get-map_of (e ∷ es) q =
    ap (λ m. get m q) (map_of-cons e es)
    ∙ get-insert_nat (map_of es) e.line.0 (counted_in e) q
    ∙ ap (cond (q == e.line.0) (Some (counted_in e))) (get-map_of es q)
    ∙ sym (found-cons e es q)

pub map_of-others : (es : List Entry) (l : ℕ) → map_of (others l es) ≡ remove (map_of es) l
map_of-others es l =
    same_nat_map _ _ (λ q. get-map_of _ q ∙ found-others es l q ∙ sym (get-remove_nat (map_of es) l q ∙ ap (cond (q == l) None) (get-map_of es q)))

same_cond : (b : Bool) (x y z : Option Counted) → cond b x (cond b y z) ≡ cond b x z
same_cond true x y z = refl
same_cond false x y z = refl

pub map_of-put : (es : List Entry) (e : Entry) → map_of (others e.line.0 es ++ e ∷ []) ≡ insert (map_of es) e.line.0 (counted_in e)
map_of-put es e =
    same_nat_map _ _ (λ q.
    get-map_of _ q
    ∙ found-push _ e q (gone es e.line.0)
    ∙ ap (cond (q == e.line.0) (Some (counted_in e))) (found-others es e.line.0 q)
    ∙ same_cond (q == e.line.0) (Some (counted_in e)) None (found es q)
    ∙ sym (get-insert_nat (map_of es) e.line.0 (counted_in e) q ∙ ap (cond (q == e.line.0) (Some (counted_in e))) (get-map_of es q)))

first_alone : (e : Entry) (es : List Entry) → are_apart (e ∷ es) ≡ true → find (is_of e.line.0) es ≡ None
first_alone e es apart = grind (arith, nat_tests)

rest_apart : (e : Entry) (es : List Entry) → are_apart (e ∷ es) ≡ true → are_apart es ≡ true
rest_apart e es apart = grind (arith, nat_tests)

not_there : (e : Entry) (es : List Entry) → are_apart (e ∷ es) ≡ true → get (map_of es) e.line.0 ≡ None
not_there e es apart = get-map_of es e.line.0 ∙ ap (option_map counted_in) (first_alone e es apart)

pub len-map_of : (es : List Entry) → are_apart es ≡ true → fin.len (map_of es) ≡ length es
len-map_of [] apart = ap fin.len map_of-nil ∙ len-empty nat_cmp Counted
len-map_of (e ∷ es) apart =
    let first = ap fin.len (map_of-cons e es) ∙ len-insert_new (map_of es) e.line.0 (counted_in e) (not_there e es apart) in
    let rest = len-map_of es (rest_apart e es apart) in
    omega (arith, first, rest)

no_entries : (es : List (ℕ × Counted)) → length es ≡ 0 → es ≡ []
no_entries [] none = refl
no_entries (e ∷ es) none = absurd (omega arith)

owes-counted_in : (e : Entry) (hart : ℕ) → hart < 4 → owes (counted_in e) hart ≡ is_owed hart e
unfolding owes
owes-counted_in e hart low = contains-harts_of_low e.owed hart low

owed_nil : (hart : ℕ) → count_by (λ e. owes e hart) (fin.values (map_of [])) ≡ 0
owed_nil hart = ap (λ es. count_by (λ e. owes e hart) (map (λ (e : ℕ × Counted). e.1) es)) (no_entries (fin.entries (map_of [])) (sym (len-entries (map_of [])) ∙ len-map_of [] refl))

abbrev unit_of : Bool → ℕ
unit_of b = cond b 1 0

pub owed-map_of : (es : List Entry) (hart : ℕ) → hart < 4 → are_apart es ≡ true → count_by (λ e. owes e hart) (fin.values (map_of es)) ≡ count_by (is_owed hart) es
owed-map_of [] hart low apart = owed_nil hart
owed-map_of (e ∷ es) hart low apart =
    let first = ap (λ m. count_by (λ d. owes d hart) (fin.values m)) (map_of-cons e es) ∙ passing-insert (λ d. owes d hart) (map_of es) e.line.0 (counted_in e) (not_there e es apart) in
    let mark = owes-counted_in e hart low in
    let rest = owed-map_of es hart low (rest_apart e es apart) in
    first ∙ (λ i. (ap unit_of mark) i + rest i) ∙ sym (sum_by-cons (λ d. unit_of (is_owed hart d)) e es)
