-- Prints one after another: what they print, and the calls that are made.
use Rattle.std.proofs.Common.{◌≡◌, ℕ, ◌+◌, List, [], ◌∷◌, ◌++◌, length, map, take, Option, Some, None, Result, Ok, Err, OnErr, refl, sym, ◌∙◌, ap, append_assoc, append-nil}
use Rattle.std.proofs.Common.{arith}
use Rattle.std.proofs.Math.Seq.{take-append-add}
use Rattle.std.proofs.lemmas.Grind.{common_steps}
use Rattle.dash_base.specs.Outside.{Printed, Appends, AppendsPart, Follows, on, Call, print_on, failed_print_on, print_call, with_calls}
use Rattle.dash_base.specs.declared.host.Stream.{Stream}
use Rattle.dash_run.specs.Output.{HasTried}

-- as many elements as a prefix has are that prefix, whatever comes after
pub take-length-take : (n : ℕ) (xs ys : List ℕ) → take (length (take n xs)) (xs ++ ys) ≡ take n xs
take-length-take n xs ys = grind (arith, common_steps)

pub append_twice : (to : Stream) (a b : List ℕ) (p q r : Printed) → Appends to a p q → Appends to b q r → Appends to (a ++ b) p r
append_twice to a b p q r first second = record {
  same = second.same ∙ ap (λ xs. xs ++ b) first.same ∙ append_assoc (on to p) a b;
  others = second.others ∙ first.others;
}

-- a part of the first text
pub first_part : (to : Stream) (a b : List ℕ) (p q : Option Printed)
    → Follows (AppendsPart to a) p q → Follows (AppendsPart to (a ++ b)) p q
first_part to a b p None first = tt
first_part to a b None (Some q) first = absurd first
first_part to a b (Some p) (Some q) first = record {
  count = length (take first.count a);
  part = rw (take-length-take first.count a b) first.part;
}

-- the first text, and a part of the second
pub second_part : (to : Stream) (a b : List ℕ) (p q r : Option Printed)
    → Follows (Appends to a) p q → Follows (AppendsPart to b) q r → Follows (AppendsPart to (a ++ b)) p r
second_part to a b p q None first second = tt
second_part to a b p None (Some r) first second = absurd second
second_part to a b None (Some q) (Some r) first second = absurd first
second_part to a b (Some p) (Some q) (Some r) first second = record {
  count = length a + second.count;
  part = rw (take-append-add a b second.count) (append_twice to a (take second.count b) p q r first second.part);
}

-- what holds anyway holds of an error
pub on_err : {A E P : Type 0} (r : Result A E) → P → OnErr r P
on_err (Ok a) holds = tt
on_err (Err e) holds = holds

-- calls after calls
pub with_calls_twice : (told : Option (List Call)) (first second : List Call) → with_calls (with_calls told first) second ≡ with_calls told (first ++ second)
with_calls_twice None first second = refl
with_calls_twice (Some before) first second = ap Some (append_assoc before first second)

pub with_no_calls : (told : Option (List Call)) → told ≡ with_calls told []
with_no_calls None = refl
with_no_calls (Some before) = ap Some (sym (append-nil before))

-- the first print failed
pub tried_first : (to : Stream) (text : List ℕ) (rest : List (List ℕ)) (old new : Option (List Call))
    → new ≡ with_calls old (failed_print_on to text ∷ []) → HasTried to (text ∷ rest) old new
tried_first to text rest old new made = record {
  calls = failed_print_on to text ∷ [];
  breaks_off = record { before = []; text = text; after = rest; split = refl; made_is = refl };
  made = made;
}

-- a print failed after those of these texts
pub tried_after : (to : Stream) (texts : List (List ℕ)) (text : List ℕ) (old mid new : Option (List Call))
    → mid ≡ with_calls old (map (print_on to) texts) → new ≡ with_calls mid (failed_print_on to text ∷ []) → HasTried to (texts ++ text ∷ []) old new
tried_after to texts text old mid new printed failed = record {
  calls = map (print_on to) texts ++ failed_print_on to text ∷ [];
  breaks_off = record { before = texts; text = text; after = []; split = refl; made_is = refl };
  made = failed ∙ ap (λ told. with_calls told (failed_print_on to text ∷ [])) printed ∙ with_calls_twice old (map (print_on to) texts) (failed_print_on to text ∷ []);
}

-- a print failed, and more texts were to come
pub tried_before : (to : Stream) (texts more : List (List ℕ)) (old new : Option (List Call)) → HasTried to texts old new → HasTried to (texts ++ more) old new
tried_before to texts more old new tried =
    let off = tried.breaks_off in
    record {
      calls = tried.calls;
      breaks_off = record {
        before = off.before;
        text = off.text;
        after = off.after ++ more;
        split = ap (λ ts. ts ++ more) off.split ∙ append_assoc off.before (off.text ∷ off.after) more;
        made_is = off.made_is;
      };
      made = tried.made;
    }

-- the only print failed
pub tried_one : {A E : Type 0} (r : Result A E) (to : Stream) (text : List ℕ) (old new : Option (List Call))
    → new ≡ with_calls old (print_call to text r ∷ []) → OnErr r (HasTried to (text ∷ []) old new)
tried_one (Ok a) to text old new made = tt
tried_one (Err e) to text old new made = tried_first to text [] old new made
