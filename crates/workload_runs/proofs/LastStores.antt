-- The counters of the first events of a log, and of one event more.
use Rattle.std.proofs.Common.{Bool, List, None, Option, Some, [], ap, arith, false, length, refl, subst, sym, take, true, ℕ, ◌++◌, ◌+◌, ◌<◌, ◌==◌, ◌∙◌, ◌∷◌, ◌≡◌, ◌≢◌, ◌≤◌}
use Rattle.std.specs.Prelude.{if◌then◌else◌, slice_index, unwrap_or, get_or}
use Rattle.std.specs.List.{last_or}
use Rattle.std.proofs.lemmas.Bool.Decides.{nat_tests}
use Rattle.std.proofs.lemmas.List.{flat_map_more, take_all, take_more}
use Rattle.dash_event.specs.declared.access.Access.{Access}
use Rattle.dash_event.specs.declared.event.Event.{Event}
use Rattle.dash_event.specs.declared.event.Kind.{Kind}
use Rattle.dash_event.specs.declared.event.Kind.TheVariants.{Store}
use Rattle.workload_gen.specs.Workload.{counter_word, counters}
use Rattle.workload_runs.specs.Counters.{AreCounters, counters_in, last_stored, stored_in, stores_to}
use Rattle.workload_runs.proofs.Lists.{listed_is}

-- a store of another word stores nothing here
none_by : (b : Bool) (x : ℕ) → b ≡ false → (if b then x ∷ [] else []) ≡ []
none_by b x e = ap (λ t. if t then x ∷ [] else []) e

pub none_stored : (address : ℕ) (k : Kind) (a : Access) → k ≡ Store a → a.word.0 ≢ address → stored_in address k ≡ []
none_stored address k a is other =
    let no : (a.word.0 == address) ≡ false = differ (a.word.0 == address) refl in
    ap (stored_in address) is ∙ none_by (a.word.0 == address) (unwrap_or a.written 0) no
  where
    differ : (b : Bool) → (a.word.0 == address) ≡ b → (a.word.0 == address) ≡ false
    differ true e = absurd (other (grind (arith, nat_tests)))
    differ false e = e

pub kept : (old address : ℕ) (k : Kind) → stored_in address k ≡ [] → old ≡ unwrap_or (last_or (Some old) (stored_in address k)) 0
kept old address k none = ap (λ xs. unwrap_or (last_or (Some old) xs) 0) (sym none)

-- the last of two lists
pub last_append : (o : Option ℕ) (xs ys : List ℕ) → last_or o (xs ++ ys) ≡ last_or (last_or o xs) ys
last_append o [] ys = refl
last_append o (x ∷ xs) ys = last_append (Some x) xs ys

last_of : (o : Option ℕ) (ys : List ℕ) → unwrap_or (last_or (Some (unwrap_or o 0)) ys) 0 ≡ unwrap_or (last_or o ys) 0
last_of o [] = refl
last_of o (y ∷ ys) = refl

stores_more : (address : ℕ) (log : List Event) (i : ℕ) (e : Event) → i < length log → e ≡ get_or log i e → stores_to address (take (i + 1) log) ≡ stores_to address (take i log) ++ stored_in address e.kind
stores_more address log i e within item =
    sym (flat_map_more (λ (x : Event). stored_in address x.kind) [] (take i log) e ∙ ap (λ y. stores_to address (take i log ++ y ∷ [])) item ∙ ap (stores_to address) (sym (take_more log i e within)))

-- one event more
pub one_more : (log : List Event) (i : ℕ) (e : Event) (old new : List ℕ) → i < length log → e ≡ get_or log i e → AreCounters (take i log) old → length new ≡ counters
    → ((k : ℕ) → k < counters → slice_index new k ≡ unwrap_or (last_or (Some (slice_index old k)) (stored_in (counter_word k) e.kind)) 0) → AreCounters (take (i + 1) log) new
one_more log i e old new within item before count each = record {
  count = count;
  each = λ k low.
      let xs = stores_to (counter_word k) (take i log) in
      let ys = stored_in (counter_word k) e.kind in
      each k low
      ∙ ap (λ v. unwrap_or (last_or (Some v) ys) 0) (before.each k low)
      ∙ last_of (last_or None xs) ys
      ∙ ap (λ o. unwrap_or o 0) (sym (last_append None xs ys))
      ∙ ap (λ zs. unwrap_or (last_or None zs) 0) (sym (stores_more (counter_word k) log i e within item));
}

-- all of them
pub all_of : (log : List Event) (i : ℕ) (values : List ℕ) → length log ≤ i → AreCounters (take i log) values → values ≡ counters_in log
unfolding counters_in
all_of log i values reached are =
    let whole = subst (λ es. AreCounters es values) (take_all i log reached) are in
    listed_is (λ k. last_stored (counter_word k) log) values 64 whole.count whole.each
