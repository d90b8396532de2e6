-- What the stores of a word wrote, in a list of records that grows, and whole words that are loaded and stored.
use Rattle.std.proofs.Common.{List, None, Option, Some, [], ap, arith, refl, ℕ, ◌%◌, ◌*◌, ◌+◌, ◌++◌, ◌/◌, ◌<◌, ◌^◌, ◌∙◌, ◌∷◌, ◌≡◌}
use Rattle.std.specs.Prelude.{unwrap_or}
use Rattle.std.specs.List.{last_or}
use Rattle.std.proofs.lemmas.List.Concat.{flat_map-append}
use Rattle.dash_base.specs.Words.{merged}
use Rattle.dash_event.specs.Offered.{all_bytes, bytes_under}
use Rattle.dash_event.specs.declared.step_record.StepRecord.{StepRecord}
use Rattle.workload_gen.specs.LastStores.{last_of, stored_by, stores_among}

four_bytes : (w : ℕ) → w < 2 ^ 32 → w / 1 % 256 + w / 256 % 256 * 256 + w / 65536 % 256 * 65536 + w / 16777216 % 256 * 16777216 ≡ w
four_bytes w small = omega arith

pub loaded_whole : (w : ℕ) → w < 2 ^ 32 → bytes_under all_bytes w ≡ w
unfolding merged
loaded_whole w small = four_bytes w small

pub stored_whole : (old w : ℕ) → w < 2 ^ 32 → merged old 15 w ≡ w
unfolding merged
stored_whole old w small = four_bytes w small

last_append : (o : Option ℕ) (xs ys : List ℕ) → last_or o (xs ++ ys) ≡ last_or (last_or o xs) ys
last_append o [] ys = refl
last_append o (x ∷ xs) ys = last_append (Some x) xs ys

append_none : (xs : List ℕ) → xs ++ [] ≡ xs
append_none [] = refl
append_none (x ∷ xs) = ap (λ ys. x ∷ ys) (append_none xs)

among_more : (address : ℕ) (rs : List StepRecord) (r : StepRecord) → stores_among address (rs ++ r ∷ []) ≡ stores_among address rs ++ stored_by address r
among_more address rs r = flat_map-append (stored_by address) rs (r ∷ []) ∙ ap (λ ys. stores_among address rs ++ ys) (append_none (stored_by address r))

-- a record that stores nothing there
pub last_kept : (address : ℕ) (rs : List StepRecord) (r : StepRecord) → stored_by address r ≡ [] → last_of (stores_among address (rs ++ r ∷ [])) ≡ last_of (stores_among address rs)
last_kept address rs r none =
    ap last_of (among_more address rs r) ∙ ap (λ ys. last_of (stores_among address rs ++ ys)) none ∙ ap last_of (append_none (stores_among address rs))

-- and one that stores this
pub last_now : (address v : ℕ) (rs : List StepRecord) (r : StepRecord) → stored_by address r ≡ v ∷ [] → last_of (stores_among address (rs ++ r ∷ [])) ≡ v
last_now address v rs r is =
    ap last_of (among_more address rs r) ∙ ap (λ ys. last_of (stores_among address rs ++ ys)) is ∙ ap (λ o. unwrap_or o 0) (last_append None (stores_among address rs) (v ∷ []))
