-- The least unknown name of a document is the first one, since a map's keys ascend.
use Rattle.std.proofs.Common.{◌≡◌, ℕ, Bool, true, false, if◌then◌else◌, List, [], ◌∷◌, ◌++◌, Option, Some, None, string_bytes, Ordering, Less, Equal, Greater, nat_cmp, refl, ap, ◌∙◌}
use Rattle.std.specs.Cmp.Lexicographic.{slice_cmp}
use Rattle.std.specs.List.{AllByRecursion}
use Rattle.std.specs.List.Sorted.{IsStrictlySortedBy}
use Rattle.std.specs.Map.{keys_of}
use Rattle.std.specs.Ordering.{match_ordering}
use Rattle.std.specs.String.{string_cmp}
use Rattle.toml.specs.View.{members_view}
use Rattle.toml.proofs.Views.{Entry}
use Rattle.topology.specs.Document.{is_key, least_unknown, lesser}

-- each name is that of a key
abbrev pub AllKnown : List Entry → Type 0
AllKnown [] = Unit {0}
AllKnown (e ∷ es) = (is_key (string_bytes e.0) ≡ true) × AllKnown es

pub all_known-push : (es : List Entry) (e : Entry) → AllKnown es → is_key (string_bytes e.0) ≡ true → AllKnown (es ++ e ∷ [])
all_known-push [] e known here = (here, tt)
all_known-push (x ∷ es) e known here = (known.0, all_known-push es e known.1 here)

pub least_unknown-known : (done rest : List Entry) → AllKnown done → least_unknown (members_view (done ++ rest)) ≡ least_unknown (members_view rest)
least_unknown-known [] rest known = refl
least_unknown-known (e ∷ done) rest known = rw known.0 (least_unknown-known done rest known.1)

-- a name is below another, where there is one
abbrev IsBelow : List ℕ → Option (List ℕ) → Type 0
IsBelow name None = Unit {0}
IsBelow name (Some other) = slice_cmp nat_cmp name other ≡ Less

lesser-below : (name : List ℕ) (other : Option (List ℕ)) → IsBelow name other → lesser name other ≡ name
lesser-below name None below = refl
lesser-below name (Some other) below = rw below

below_chosen : (order : Ordering) (name here other : List ℕ) → slice_cmp nat_cmp name here ≡ Less → slice_cmp nat_cmp name other ≡ Less
    → slice_cmp nat_cmp name (match_ordering order here here other) ≡ Less
below_chosen Less name here other first second = first
below_chosen Equal name here other first second = first
below_chosen Greater name here other first second = second

below_lesser : (name here : List ℕ) (other : Option (List ℕ)) → slice_cmp nat_cmp name here ≡ Less → IsBelow name other → IsBelow name (Some (lesser here other))
below_lesser name here None first second = first
below_lesser name here (Some other) first second = below_chosen (slice_cmp nat_cmp here other) name here other first second

below_either : (known : Bool) (name here : List ℕ) (other : Option (List ℕ)) → slice_cmp nat_cmp name here ≡ Less → IsBelow name other
    → IsBelow name (if known then other else Some (lesser here other))
below_either true name here other first second = second
below_either false name here other first second = below_lesser name here other first second

below_all : (name : List ℕ) (es : List Entry) → AllByRecursion (λ y. slice_cmp nat_cmp name (string_bytes y) ≡ Less) (keys_of es) → IsBelow name (least_unknown (members_view es))
below_all name [] below = tt
below_all name (e ∷ es) below =
    below_either (is_key (string_bytes e.0)) name (string_bytes e.0) (least_unknown (members_view es)) below.0 (below_all name es below.1)

below_later : (done rest : List Entry) (e : Entry) → IsStrictlySortedBy string_cmp (keys_of (done ++ e ∷ rest))
    → AllByRecursion (λ y. slice_cmp nat_cmp (string_bytes e.0) (string_bytes y) ≡ Less) (keys_of rest)
unfolding IsStrictlySortedBy
below_later [] rest e sorted = sorted.0
below_later (x ∷ done) rest e sorted = below_later done rest e sorted.1

-- the first unknown name is the least one
pub first_is_least : (done rest : List Entry) (e : Entry) → AllKnown done → is_key (string_bytes e.0) ≡ false → IsStrictlySortedBy string_cmp (keys_of (done ++ e ∷ rest))
    → least_unknown (members_view (done ++ e ∷ rest)) ≡ Some (string_bytes e.0)
first_is_least done rest e known unknown sorted =
    least_unknown-known done (e ∷ rest) known
    ∙ rw unknown (ap Some (lesser-below _ _ (below_all (string_bytes e.0) rest (below_later done rest e sorted))))
