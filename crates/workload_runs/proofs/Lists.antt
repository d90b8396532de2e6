-- Lists by their elements.
use Rattle.std.proofs.Common.{List, [], ap, arith, inl, inr, length, refl, suc, sym, zero, ℕ, ◌++◌, ◌<◌, ◌∙◌, ◌∷◌, ◌≡◌, ◌⊎◌}
use Rattle.std.specs.Prelude.{slice_index}
use Rattle.std.proofs.lemmas.List.{length-append}
use Rattle.workload_gen.specs.Summary.{listed}

same_lists : (xs ys : List ℕ) → length xs ≡ length ys → ((k : ℕ) → k < length xs → slice_index xs k ≡ slice_index ys k) → xs ≡ ys
same_lists [] [] count each = refl
same_lists [] (y ∷ ys) count each = absurd (omega arith)
same_lists (x ∷ xs) [] count each = absurd (omega arith)
same_lists (x ∷ xs) (y ∷ ys) count each = λ j. each 0 (omega arith) j ∷ same_lists xs ys (omega arith) (λ k low. each (suc k) (omega arith)) j

index_left : (xs ys : List ℕ) (k : ℕ) → k < length xs → slice_index (xs ++ ys) k ≡ slice_index xs k
index_left [] ys k low = absurd (omega arith)
index_left (x ∷ xs) ys zero low = refl
index_left (x ∷ xs) ys (suc k) low = index_left xs ys k (omega arith)

index_end : (xs : List ℕ) (v : ℕ) → slice_index (xs ++ v ∷ []) (length xs) ≡ v
index_end [] v = refl
index_end (x ∷ xs) v = index_end xs v

pub listed_count : (f : ℕ → ℕ) (n : ℕ) → length (listed f n) ≡ n
listed_count f zero = refl
listed_count f (suc n) = let rest = listed_count f n in let more = length-append (listed f n) (f n ∷ []) in omega arith

below_or_last : (k n : ℕ) → k < suc n → (k < n) ⊎ (k ≡ n)
below_or_last k n low = grind arith

pub listed_at : (f : ℕ → ℕ) (n k : ℕ) → k < n → slice_index (listed f n) k ≡ f k
listed_at f zero k low = absurd (omega arith)
listed_at f (suc n) k low = by_place (below_or_last k n low) (λ below. listed_at f n k below)
  where
    by_place : (k < n) ⊎ (k ≡ n) → (k < n → slice_index (listed f n) k ≡ f k) → slice_index (listed f n ++ f n ∷ []) k ≡ f k
    by_place (inl below) shorter = let count = listed_count f n in index_left (listed f n) (f n ∷ []) k (omega arith) ∙ shorter below
    by_place (inr last) shorter = ap (slice_index (listed f n ++ f n ∷ [])) (last ∙ sym (listed_count f n)) ∙ index_end (listed f n) (f n) ∙ ap f (sym last)

pub listed_is : (f : ℕ → ℕ) (xs : List ℕ) (n : ℕ) → length xs ≡ n → ((k : ℕ) → k < n → slice_index xs k ≡ f k) → xs ≡ listed f n
listed_is f xs n count each = same_lists xs (listed f n) (count ∙ sym (listed_count f n)) (λ k low. (let below : k < n = omega arith in each k below ∙ sym (listed_at f n k below)))
