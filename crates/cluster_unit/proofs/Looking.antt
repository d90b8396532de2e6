-- Inlets that are looked at, one after another.
use Rattle.std.proofs.Common.{◌≡◌, ℕ, suc, zero, ◌+◌, ◌*◌, ◌<◌, ◌≤◌, ◌==◌, nat_lt, Bool, true, false, Option, None, Some, IfSome, IfNone, is_some, List, [], ◌∷◌, ◌++◌, length, slice_index_or, slice_get, slice_set, refl, sym, ap, ap₂, ◌∙◌, subst, arith}
use Rattle.std.proofs.lemmas.Bool.Decides.{nat_tests}
use Rattle.std.proofs.lemmas.List.{append_assoc, append-nil, length-append, length-set, get_or-set_same, get_or-set_other, get_or_default}
use mathlib.Core.List.{IsPrefix}
use Rattle.dash_msg.specs.declared.classes.Class.{Class}
use Rattle.dash_msg.specs.declared.classes.Class.TheVariants.{Request, Reply}
use Rattle.dash_msg.specs.declared.parcel.Parcel.{Parcel}
use Rattle.mesh_lanes.specs.View.{InletView}
use Rattle.unit_rows.specs.declared.choice.Choice.{Choice}
use Rattle.cluster_unit.specs.Ends.{place, knows, Looked}
use Rattle.cluster_unit.specs.Takes.{take_if, takes_from, takes_of}
use Rattle.cluster_unit.proofs.Sending.{at_or_not}

begins : (xs : List Parcel) → IsPrefix xs xs
begins xs = ([], append-nil xs)

begins_more : (xs ys zs : List Parcel) → IsPrefix xs ys → IsPrefix ys zs → IsPrefix xs zs
begins_more xs ys zs a b = (a.0 ++ b.0, sym (append_assoc xs a.0 b.0) ∙ ap (λ ps. ps ++ b.0) a.1 ∙ b.1)

pub looked_none : (xs : List InletView) → Looked xs xs
looked_none xs = record { count = refl; lane = λ j x. refl; received = λ j x. refl; known = λ j x. begins (slice_index_or xs j x).known }

pub looked_more : (xs ys zs : List InletView) → Looked xs ys → Looked ys zs → Looked xs zs
looked_more xs ys zs a b = record {
  count = b.count ∙ a.count;
  lane = λ j x. b.lane j x ∙ a.lane j x;
  received = λ j x. b.received j x ∙ a.received j x;
  known = λ j x. begins_more (slice_index_or xs j x).known (slice_index_or ys j x).known (slice_index_or zs j x).known (a.known j x) (b.known j x);
}

pub looked_at : (xs : List InletView) (i : ℕ) (d y : InletView) → i < length xs → y.lane ≡ (slice_index_or xs i d).lane → y.received ≡ (slice_index_or xs i d).received → IsPrefix (slice_index_or xs i d).known y.known → Looked xs (slice_set xs i y)
looked_at xs i d y low lane received known = record {
  count = length-set xs i y;
  lane = λ j x. at_or_not (λ n. (slice_index_or (slice_set xs i y) n x).lane ≡ (slice_index_or xs n x).lane) i j (i == j) refl
      (ap (λ (z : InletView). z.lane) (get_or-set_same xs i y x low) ∙ lane ∙ ap (λ (z : InletView). z.lane) (get_or_default xs i d x low)) (λ far. ap (λ (z : InletView). z.lane) (get_or-set_other xs i j y x (λ e. far (sym e))));
  received = λ j x. at_or_not (λ n. (slice_index_or (slice_set xs i y) n x).received ≡ (slice_index_or xs n x).received) i j (i == j) refl
      (ap (λ (z : InletView). z.received) (get_or-set_same xs i y x low) ∙ received ∙ ap (λ (z : InletView). z.received) (get_or_default xs i d x low)) (λ far. ap (λ (z : InletView). z.received) (get_or-set_other xs i j y x (λ e. far (sym e))));
  known = λ j x. at_or_not (λ n. IsPrefix (slice_index_or xs n x).known (slice_index_or (slice_set xs i y) n x).known) i j (i == j) refl
      (subst (λ (z : InletView). IsPrefix (slice_index_or xs i x).known z.known) (sym (get_or-set_same xs i y x low)) (subst (λ (z : InletView). IsPrefix z.known y.known) (get_or_default xs i d x low) known))
      (λ far. subst (λ (z : InletView). IsPrefix (slice_index_or xs j x).known z.known) (sym (get_or-set_other xs i j y x (λ e. far (sym e)))) (begins (slice_index_or xs j x).known));
}

-- whether an end shows a message is whether it then knows of one
pub shows_is : (o : Option Parcel) (i : InletView) → IfSome o (λ p. IsPrefix (p ∷ []) i.known) → IfNone o (i.known ≡ []) → is_some o ≡ knows (Some i)
shows_is None i some none = sym (ap (λ (ps : List Parcel). nat_lt 0 (length ps)) none)
shows_is (Some p) i some none = let e : length i.known ≡ suc (length some.0) = sym (ap (λ (ps : List Parcel). length ps) some.1) in let f : nat_lt 0 (length i.known) ≡ true = grind (arith, nat_tests) in sym f

-- choices from the first clusters, and from the next
pub takes_next : (xs : List InletView) (n : ℕ) → takes_of xs (n + 1) ≡ takes_of xs n ++ takes_from xs n
unfolding takes_of
takes_next xs n = subst (λ m. takes_of xs m ≡ takes_of xs n ++ takes_from xs n) (let e : suc n ≡ n + 1 = grind arith in e) refl

-- they stay where their ends stay
pub takes_same : (xs ys : List InletView) (n : ℕ) → ((j : ℕ) → j < 2 * n → slice_get ys j ≡ slice_get xs j) → takes_of ys n ≡ takes_of xs n
unfolding takes_of
takes_same xs ys zero same = refl
takes_same xs ys (suc n) same =
    ap₂ (λ a b. a ++ b) (takes_same xs ys n (λ j low. same j (grind arith)))
    (ap₂ (λ a b. take_if (knows a) n Request ++ take_if (knows b) n Reply) (same (place n Request) (grind arith)) (same (place n Reply) (grind arith)))

pub takes_grow : (xs ys : List InletView) (old mid new : List Choice) (n : ℕ) → mid ≡ old ++ takes_of xs n → ((j : ℕ) → j < 2 * n → slice_get ys j ≡ slice_get xs j) → new ≡ mid ++ takes_from ys n → new ≡ old ++ takes_of ys (n + 1)
takes_grow xs ys old mid new n is same next =
    next ∙ ap (λ cs. cs ++ takes_from ys n) (is ∙ ap (λ cs. old ++ cs) (sym (takes_same xs ys n same))) ∙ append_assoc old (takes_of ys n) (takes_from ys n) ∙ ap (λ cs. old ++ cs) (sym (takes_next ys n))

take_if_few : (b : Bool) (f : ℕ) (k : Class) → length (take_if b f k) ≤ 1
take_if_few true f k = grind arith
take_if_few false f k = grind arith

pub from_few : (xs : List InletView) (f : ℕ) → length (takes_from xs f) ≤ 2
from_few xs f =
    let a = take_if_few (knows (slice_get xs (place f Request))) f Request in
    let b = take_if_few (knows (slice_get xs (place f Reply))) f Reply in
    let l = length-append (take_if (knows (slice_get xs (place f Request))) f Request) (take_if (knows (slice_get xs (place f Reply))) f Reply) in
    grind arith

pub few_more : (xs : List InletView) (f n m : ℕ) (old new : List Choice) → length old ≤ n + 2 * m → new ≡ old ++ takes_from xs f → length new ≤ n + 2 * (m + 1)
few_more xs f n m old new few is =
    let l : length new ≡ length old + length (takes_from xs f) = ap (λ (cs : List Choice). length cs) is ∙ length-append old (takes_from xs f) in
    let a = from_few xs f in
    grind arith

pub no_takes : (xs : List InletView) (old : List Choice) → old ≡ old ++ takes_of xs 0
unfolding takes_of
no_takes xs old = sym (append-nil old)
