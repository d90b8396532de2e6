-- The stores of a word among the records of a run are those of its log.
use Rattle.std.proofs.Common.{Bool, List, Option, Some, [], ap, arith, false, inl, inr, refl, suc, true, zero, ℕ, ◌++◌, ◌+◌, ◌<◌, ◌==◌, ◌∙◌, ◌∷◌, ◌≡◌}
use Rattle.std.specs.Prelude.{flat_map, if◌then◌else◌, slice_get, unwrap_or, ◌&&◌}
use Rattle.std.specs.List.{last_or}
use Rattle.std.proofs.lemmas.List.Concat.{flat_map-append}
use Rattle.dash_base.specs.declared.topology.Topology.{Topology}
use Rattle.dash_event.specs.Records.{records_in, records_of, unseen}
use Rattle.dash_event.specs.declared.access.Access.{Access}
use Rattle.dash_event.specs.declared.event.Event.{Event}
use Rattle.dash_event.specs.declared.event.Kind.{Kind}
use Rattle.dash_event.specs.declared.event.Kind.TheVariants as kind
use Rattle.dash_event.specs.declared.step_record.StepRecord.TheVariants as step
use Rattle.elf_load.specs.Image.{ImageView}
use Rattle.dash_model.specs.Log.{IsEventAt}
use Rattle.dash_model.specs.Replay.{Harts, IsReplay, IsRmw, IsLoad, Replays}
use Rattle.workload_gen.specs.LastStores.{is_store, stored_by}
use Rattle.workload_runs.specs.Counters.{stored_in, stores_to}
use Rattle.workload_runs.proofs.LastStores.{last_append}

-- ---- events and their records

-- an event of a store has that operation, and no other event has
abbrev OpFits : Kind → Type 0
OpFits (kind.Store a) = is_store a.op ≡ true
OpFits (kind.Load a level) = is_store a.op ≡ false
OpFits (kind.Rmw a line version) = is_store a.op ≡ false
OpFits (kind.ScFail a) = is_store a.op ≡ false
OpFits (kind.Grant a) = is_store a.op ≡ false
OpFits (kind.Free from a) = is_store a.op ≡ false
OpFits k = Unit {0}

loads : (a : Access) (level : ℕ) → IsLoad a level → is_store a.op ≡ false
loads a level (inl load) = ap is_store load.0
loads a level (inr reserve) = ap is_store reserve.0

rmws : (a : Access) → IsRmw a → is_store a.op ≡ false
rmws a (inl amo) = ap is_store amo
rmws a (inr cond) = ap is_store cond.0

op_fits : (image : ImageView) (t : Topology) (old new : Harts) (k : Kind) → Replays image t old k new → OpFits k
op_fits image t old new (kind.Store a) r = ap is_store r.1
op_fits image t old new (kind.Load a level) r = loads a level r.1
op_fits image t old new (kind.Rmw a line version) r = rmws a r.1
op_fits image t old new (kind.ScFail a) r = ap is_store r.1
op_fits image t old new (kind.Grant a) r = ap is_store r.1
op_fits image t old new (kind.Free from a) r = ap is_store r.1
op_fits image t old new k r = tt

is_made : (address : ℕ) (a : Access) (b : Bool) → is_store a.op ≡ b → flat_map (stored_by address) (step.Access a ∷ []) ≡ (if b && (a.word.0 == address) then unwrap_or a.written 0 ∷ [] else [])
is_made address a b e = nil_right (stored_by address (step.Access a)) ∙ ap (λ t. if t && (a.word.0 == address) then unwrap_or a.written 0 ∷ [] else []) e
  where
    nil_right : (xs : List ℕ) → xs ++ [] ≡ xs
    nil_right [] = refl
    nil_right (x ∷ xs) = ap (λ ys. x ∷ ys) (nil_right xs)

one_made : (address : ℕ) (k : Kind) → OpFits k → flat_map (stored_by address) (records_in k) ≡ stored_in address k
one_made address (kind.Store a) fits = is_made address (unseen a) true fits
one_made address (kind.Load a level) fits = is_made address (unseen a) false fits
one_made address (kind.Rmw a line version) fits = is_made address (unseen a) false fits
one_made address (kind.ScFail a) fits = is_made address (unseen a) false fits
one_made address (kind.Grant a) fits = is_made address (unseen a) false fits
one_made address (kind.Free from a) fits = is_made address (unseen a) false fits
one_made address k fits = refl

all_made : (address : ℕ) (log : List Event) → ((i : ℕ) (k : Kind) → IsEventAt log i k → OpFits k) → flat_map (stored_by address) (records_of log) ≡ stores_to address log
all_made address [] fits = refl
all_made address (e ∷ es) fits =
    flat_map-append (stored_by address) (records_in e.kind) (records_of es)
    ∙ (λ i. one_made address e.kind (fits 0 e.kind refl) i ++ all_made address es (λ j k at. fits (suc j) k at) i)

pub stores_are_recorded : (image : ImageView) (t : Topology) (address : ℕ) (log : List Event) (harts : ℕ → Harts) → IsReplay image t log harts → flat_map (stored_by address) (records_of log) ≡ stores_to address log
stores_are_recorded image t address log harts r = all_made address log (λ i k at. op_fits image t (harts i) (harts (i + 1)) k (r.moves i k at))

-- ---- the last of what a list makes

module _ {A : Type 0} (g : A → List ℕ) where
  pub none_made : (xs : List A) → ((q : ℕ) (y : A) → slice_get xs q ≡ Some y → g y ≡ []) → flat_map g xs ≡ []
  none_made [] none = refl
  none_made (x ∷ xs) none = λ i. none 0 x refl i ++ none_made xs (λ q y at. none (suc q) y at) i

  pub last_made : (o : Option ℕ) (xs : List A) (p : ℕ) (x : A) (v : ℕ) → slice_get xs p ≡ Some x → g x ≡ v ∷ [] → ((q : ℕ) (y : A) → slice_get xs q ≡ Some y → p < q → g y ≡ []) → last_or o (flat_map g xs) ≡ Some v
  last_made o [] p x v at makes none = absurd cc
  last_made o (y ∷ ys) zero x v at makes none =
      let same : y ≡ x = cc in
      λ i. last_or o ((ap g same ∙ makes) i ++ none_made ys (λ q z at. none (suc q) z at (omega arith)) i)
  last_made o (y ∷ ys) (suc p) x v at makes none =
      last_append o (g y) (flat_map g ys) ∙ last_made (last_or o (g y)) ys p x v at makes (λ q z at later. none (suc q) z at (omega arith))
