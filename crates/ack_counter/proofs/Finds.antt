-- What is found among entries, after one is removed or added; and that no line has two.
use Rattle.std.proofs.Common.{◌≡◌, ℕ, ◌<◌, ◌≤◌, Bool, true, false, cond, List, [], ◌∷◌, ◌++◌, length, Option, Some, None, option_map, find, refl, ap, ◌∙◌, arith}
use Rattle.std.specs.Prelude.{◌==◌}
use Rattle.std.proofs.lemmas.Bool.Decides.{nat_tests}
use Rattle.ack_counter.specs.declared.entries.Entry.{Entry}
use Rattle.ack_counter.specs.View.{Counted}
use Rattle.ack_counter.specs.Entries.{is_of, others, counted_in, are_apart}

pub find-others : (es : List Entry) (l q : ℕ) → find (is_of q) (others l es) ≡ cond (q == l) None (find (is_of q) es)
find-others [] l q = grind (arith, nat_tests)
find-others (e ∷ es) l q = grind (arith, nat_tests, find-others es l q)

pub find-push : (es : List Entry) (e : Entry) (q : ℕ) → find (is_of e.line.0) es ≡ None → find (is_of q) (es ++ e ∷ []) ≡ cond (q == e.line.0) (Some e) (find (is_of q) es)
find-push [] e q none = grind (arith, nat_tests)
find-push (o ∷ es) e q none = grind (arith, nat_tests, find-push es e q)

pub gone : (es : List Entry) (l : ℕ) → find (is_of l) (others l es) ≡ None
gone es l = find-others es l l ∙ grind (arith, nat_tests)

-- an entry that is found has the line
pub found_line : (es : List Entry) (l : ℕ) (e : Entry) → find (is_of l) es ≡ Some e → e.line.0 ≡ l
found_line [] l e is = cc
found_line (o ∷ es) l e is = grind (arith, nat_tests, found_line es l e)

pub length-others : (es : List Entry) (l : ℕ) → length (others l es) ≤ length es
length-others [] l = omega arith
length-others (e ∷ es) l = grind (arith, nat_tests, length-others es l)

pub shorter : (es : List Entry) (l : ℕ) (e : Entry) → find (is_of l) es ≡ Some e → length (others l es) < length es
shorter [] l e is = cc
shorter (o ∷ es) l e is = grind (arith, nat_tests, shorter es l e, length-others es l)

pub apart-others : (es : List Entry) (l : ℕ) → are_apart es ≡ true → are_apart (others l es) ≡ true
apart-others [] l apart = refl
apart-others (e ∷ es) l apart = grind (arith, nat_tests, apart-others es l, find-others es l e.line.0)

pub apart-push : (es : List Entry) (e : Entry) → are_apart es ≡ true → find (is_of e.line.0) es ≡ None → are_apart (es ++ e ∷ []) ≡ true
apart-push [] e apart none = refl
apart-push (o ∷ es) e apart none = grind (arith, nat_tests, apart-push es e, find-push es e o.line.0)

-- what is counted of a line
abbrev pub found : List Entry → ℕ → Option Counted
found es q = option_map counted_in (find (is_of q) es)

pick : (b : Bool) (x y : Option Entry) → option_map counted_in (cond b x y) ≡ cond b (option_map counted_in x) (option_map counted_in y)
pick true x y = refl
pick false x y = refl

pub found-others : (es : List Entry) (l q : ℕ) → found (others l es) q ≡ cond (q == l) None (found es q)
found-others es l q = ap (option_map counted_in) (find-others es l q) ∙ pick (q == l) None (find (is_of q) es)

pub found-push : (es : List Entry) (e : Entry) (q : ℕ) → find (is_of e.line.0) es ≡ None → found (es ++ e ∷ []) q ≡ cond (q == e.line.0) (Some (counted_in e)) (found es q)
found-push es e q none = ap (option_map counted_in) (find-push es e q none) ∙ pick (q == e.line.0) (Some e) (find (is_of q) es)

flip : (a b : ℕ) → (a == b) ≡ (b == a)
flip a b = grind (arith, nat_tests)

pub found-cons : (e : Entry) (es : List Entry) (q : ℕ) → found (e ∷ es) q ≡ cond (q == e.line.0) (Some (counted_in e)) (found es q)
found-cons e es q = pick (e.line.0 == q) (Some e) (find (is_of q) es) ∙ ap (λ b. cond b (Some (counted_in e)) (found es q)) (flip e.line.0 q)
