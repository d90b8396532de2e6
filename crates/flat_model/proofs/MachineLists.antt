-- Lists that hold a state hold the state after a step, once each is changed as the step says.
use Rattle.std.proofs.Common.{◌≡◌, ◌<◌, ◌≤◌, ℕ, ◌+◌, ◌*◌, ◌==◌, if◌then◌else◌, List, ◌∷◌, [], ◌++◌, length, map, get_or, slice_get, slice_set, Option, Some, None, ap, sym, ◌∙◌, arith}
use Rattle.std.proofs.lemmas.Grind.{common_steps}
use Rattle.std.proofs.lemmas.List.FromFn.{fill_by_all, get_or-map-range_with_len, length-map-range_with_len, map-range_with_len_more}
use Rattle.std.proofs.lemmas.Option.{slice_get-get_or}
use Rattle.std.specs.List.{range_with_len}
use Rattle.dash_base.specs.declared.topology.Topology.{Topology}
use Rattle.elf_load.specs.Image.{ImageView}
use Rattle.dash_event.specs.declared.step_record.StepRecord.{StepRecord}
use Rattle.hart_core.specs.HartState.{HartState}
use Rattle.dash_base.specs.Places.{hart_count}
use Rattle.flat_model.specs.State.{FlatState}
use Rattle.flat_model.specs.Step.{flat_state_after, reservation_after}
use Rattle.dash_event.specs.Effects.{hart_of, word_after, lock_after}
use Rattle.flat_model.specs.Represents.{MachineView, Represents, IsSized}
use Rattle.flat_model.specs.Change.{IsCarriedOut}

-- ---- lists made from a function of the place

pub list_more : {X : Type 0} (f : ℕ → X) (old new : List X) (x : X) (n : ℕ) → old ≡ map f (range_with_len 0 n) → x ≡ f n
    → new ≡ old ++ x ∷ [] → new ≡ map f (range_with_len 0 (n + 1))
list_more f old new x n is same more =
    more ∙ ap (λ xs. xs ++ x ∷ []) is ∙ ap (λ y. map f (range_with_len 0 n) ++ y ∷ []) same
    ∙ sym (map-range_with_len_more f 0 n n (omega arith))

set_at : {X : Type 0} (f : ℕ → X) (n i k : ℕ) (y : X) → i < n → k < n
    → get_or (slice_set (map f (range_with_len 0 n)) i y) k y ≡ if k == i then y else f k
set_at f n i k y inside below =
    let count : length (map f (range_with_len 0 n)) ≡ n = length-map-range_with_len f 0 n in
    let other : get_or (map f (range_with_len 0 n)) k y ≡ f k = get_or-map-range_with_len f 0 n k k y below (omega arith) in
    grind (arith, common_steps, count, other)

set_made : {X : Type 0} (f : ℕ → X) (n i : ℕ) (y : X) → i < n
    → slice_set (map f (range_with_len 0 n)) i y ≡ map (λ k. if k == i then y else f k) (range_with_len 0 n)
set_made f n i y inside =
    fill_by_all (λ k. if k == i then y else f k) (slice_set (map f (range_with_len 0 n)) i y) n y
    (let count : length (map f (range_with_len 0 n)) ≡ n = length-map-range_with_len f 0 n in grind (arith, common_steps, count))
    (λ k below. set_at f n i k y inside below)

change_made : {X : Type 0} (f : ℕ → X) (g : ℕ → X → X) (old new : List X) (n : ℕ) (d : X) → old ≡ map f (range_with_len 0 n)
    → length new ≡ length old → ((k : ℕ) → k < length old → get_or new k d ≡ g k (get_or old k d))
    → new ≡ map (λ k. g k (f k)) (range_with_len 0 n)
change_made f g old new n d is count each =
    let whole : length old ≡ n = ap length is ∙ length-map-range_with_len f 0 n in
    fill_by_all (λ k. g k (f k)) new n d (count ∙ whole) (λ k below.
    each k (omega (arith, whole, below))
    ∙ ap (λ xs. g k (get_or xs k d)) is ∙ ap (g k) (get_or-map-range_with_len f 0 n k k d below (omega arith)))

-- ---- a list that is changed from its first place on

pub set_count : {X : Type 0} (now was : List X) (n : ℕ) (y : X) → length now ≡ length was → length (slice_set now n y) ≡ length was
set_count now was n y count = grind (arith, common_steps)

pub set_more : {X : Type 0} (g : ℕ → X → X) (now was : List X) (n : ℕ) (y d : X) (k : ℕ) → n < length now
    → ((k : ℕ) → k < n → get_or now k d ≡ g k (get_or was k d)) → ((k : ℕ) → n ≤ k → get_or now k d ≡ get_or was k d)
    → y ≡ g n (get_or now n d) → k < n + 1 → get_or (slice_set now n y) k d ≡ g k (get_or was k d)
set_more g now was n y d k inside changed others is below =
    let here : get_or now n d ≡ get_or was n d = others n (omega arith) in
    let earlier = changed k in
    grind (arith, common_steps, here, earlier)

pub set_others : {X : Type 0} (now was : List X) (n : ℕ) (y d : X) (k : ℕ) → ((k : ℕ) → n ≤ k → get_or now k d ≡ get_or was k d)
    → n + 1 ≤ k → get_or (slice_set now n y) k d ≡ get_or was k d
set_others now was n y d k others above =
    let later : get_or now k d ≡ get_or was k d = others k (omega arith) in
    grind (arith, common_steps, later)

-- ---- what lists that hold a state have

pub hart_is : (t : Topology) (m : MachineView) (s : FlatState) (h : ℕ) → Represents t m s → h < hart_count t → slice_get m.harts h ≡ Some (s.harts h)
hart_is t m s h held inside =
    let f : ℕ → HartState = λ k. s.harts k in
    let count : length (map f (range_with_len 0 (hart_count t))) ≡ hart_count t = length-map-range_with_len f 0 (hart_count t) in
    ap (λ xs. slice_get xs h) held.harts_are
    ∙ slice_get-get_or (map f (range_with_len 0 (hart_count t))) h (s.harts h) (omega (arith, count, inside))
    ∙ ap Some (get_or-map-range_with_len f 0 (hart_count t) h h (s.harts h) inside (omega arith))

pub reservation_is : (t : Topology) (m : MachineView) (s : FlatState) (h : ℕ) (d : Option ℕ) → Represents t m s → h < hart_count t
    → get_or m.reservations h d ≡ s.reservations h
reservation_is t m s h d held inside =
    ap (λ xs. get_or xs h d) held.reservations_are
    ∙ get_or-map-range_with_len (λ k. s.reservations k) 0 (hart_count t) h h d inside (omega arith)

pub held_sized : (t : Topology) (m : MachineView) (s : FlatState) → Represents t m s → IsSized t m
held_sized t m s held = record {
  harts_count = ap length held.harts_are ∙ length-map-range_with_len (λ k. s.harts k) 0 (hart_count t);
  reservations_count = ap length held.reservations_are ∙ length-map-range_with_len (λ k. s.reservations k) 0 (hart_count t);
  memory_whole = held.memory_whole;
  locks_whole = held.locks_whole;
}

-- ---- after a step

pub held_after : (image : ImageView) (t : Topology) (h : ℕ) (r : StepRecord) (old new : MachineView) (s : FlatState)
    → h ≡ (hart_of r).0 → h < hart_count t → Represents t old s → (carried : IsCarriedOut image t h r old new)
    → Represents t new (flat_state_after s r carried.hart.after)
held_after image t h r old new s own inside held carried = record {
  harts_are =
      carried.hart.now ∙ ap (λ xs. slice_set xs h carried.hart.after) held.harts_are
      ∙ set_made (λ k. s.harts k) (hart_count t) h carried.hart.after inside
      ∙ ap (λ i. map (λ k. if k == i then carried.hart.after else s.harts k) (range_with_len 0 (hart_count t))) own;
  reservations_are =
      change_made (λ k. s.reservations k) (λ k old. reservation_after k r old) old.reservations new.reservations (hart_count t) None
      held.reservations_are carried.reservations.count carried.reservations.each;
  memory_whole = ap (λ n. 4 * n) carried.memory.count ∙ held.memory_whole;
  memory_is = λ i within.
      let before : i < length old.memory = omega (arith, carried.memory.count, within) in
      carried.memory.each i before ∙ ap (word_after (t.base + 4 * i) r) (held.memory_is i before);
  locks_whole = carried.locks.count ∙ held.locks_whole;
  locks_are = λ i within.
      let before : i < length old.locks = omega (arith, carried.locks.count, within) in
      carried.locks.each i before ∙ ap (lock_after (t.base + t.memory + 4 * i) r) (held.locks_are i before);
}
