-- The order of the refusals: what is known where none before some number applies.
use Rattle.std.proofs.Common.{◌≡◌, ◌≤◌, ◌<◌, ◌+◌, ◌⊎◌, ◌≢◌, ℕ, inl, inr, true, false, ◌==◌, eqb, List, length, subst, arith}
use Rattle.std.specs.Bool.{MatchBool}
use Rattle.std.proofs.lemmas.Bool.Decides.{eqb_tells}
use Rattle.elf_load.specs.Header.{file_header}
use Rattle.elf_load.specs.Refusal.{is_short, is_elf, is_class_32_little, is_riscv, is_executable, is_compressed, is_reduced, has_other_headers, is_out_of_file, is_above_memory_size, is_out_of_memory, IsSegmentAt, FailsAt, OverlapsAt, IsExecutable, Applies, number_of, header_of, second_header_of, IsFirstRefusal, IsLoadable}
use Rattle.elf_load.specs.Stages.{IsClear}
use Rattle.elf_load.specs.Loader.{Refuses}
use Rattle.elf_load.specs.declared.memory_map.MemoryMap.{MemoryMap}
use Rattle.elf_load.specs.declared.refusal.LoadRefusal.{LoadRefusal}
use Rattle.elf_load.specs.declared.refusal.LoadRefusal.TheVariants.{Short, HeaderSize, EntryNotExecutable, OutOfMemory}

-- the cause of the refusal with a number, at these headers
abbrev pub CauseOf : List ℕ → MemoryMap → ℕ → ℕ → ℕ → Type 0
CauseOf bytes map n i j =
    MatchBool (n == 1) (is_short bytes ≡ true)
    (MatchBool (n == 2) (is_elf bytes ≡ false)
    (MatchBool (n == 3) (is_class_32_little (file_header bytes) ≡ false)
    (MatchBool (n == 4) (is_riscv (file_header bytes) ≡ false)
    (MatchBool (n == 5) (is_executable (file_header bytes) ≡ false)
    (MatchBool (n == 6) (is_compressed (file_header bytes) ≡ true)
    (MatchBool (n == 7) (is_reduced (file_header bytes) ≡ true)
    (MatchBool (n == 8) (has_other_headers (file_header bytes) ≡ true)
    (MatchBool (n == 9) (FailsAt (is_out_of_file (length bytes)) bytes i)
    (MatchBool (n == 10) (FailsAt is_above_memory_size bytes i)
    (MatchBool (n == 11) (FailsAt (is_out_of_memory map) bytes i)
    (MatchBool (n == 12) (OverlapsAt bytes i j)
    (MatchBool (n == 13) ((k : ℕ) → IsSegmentAt bytes k → ⊥)
    (MatchBool (n == 14) (IsExecutable bytes (file_header bytes).e_entry → ⊥)
    ⊥)))))))))))))

cause_of : (bytes : List ℕ) (map : MemoryMap) (refusal : LoadRefusal) → Applies bytes map refusal → CauseOf bytes map (number_of refusal) (header_of refusal) (second_header_of refusal)
cause_of bytes map (Short at) applies = applies.0
cause_of bytes map (HeaderSize size) applies = applies.0
cause_of bytes map (EntryNotExecutable entry) applies =
    let P : ℕ → Type 0 = λ e. IsExecutable bytes e → ⊥ in subst P applies.1 applies.0
cause_of bytes map refusal applies = applies

cause_at : (bytes : List ℕ) (map : MemoryMap) (n : ℕ) (refusal : LoadRefusal) → number_of refusal ≡ n → Applies bytes map refusal → CauseOf bytes map n (header_of refusal) (second_header_of refusal)
cause_at bytes map n refusal same applies =
    let P : ℕ → Type 0 = λ m. CauseOf bytes map m (header_of refusal) (second_header_of refusal) in subst P same (cause_of bytes map refusal applies)

below_or_same : (m n : ℕ) → m < n + 1 → (m < n) ⊎ (m ≡ n)
below_or_same m n below = cases (eqb_tells m n) where
  cases : ((eqb m n ≡ true) × (m ≡ n)) ⊎ ((eqb m n ≡ false) × (m ≢ n)) → (m < n) ⊎ (m ≡ n)
  cases (inl equal) = inr equal.1
  cases (inr other) = let differ = other.1 in inl (omega arith)

-- at first nothing is known
pub clear_at_first : (bytes : List ℕ) (map : MemoryMap) → IsClear 1 bytes map
clear_at_first bytes map = record { none_before = λ other below applies. let zero : number_of other ≡ 0 = omega arith in cause_at bytes map 0 other zero applies }

-- where the next refusal doesn't apply, none up to it does
pub next_clear : (n : ℕ) (bytes : List ℕ) (map : MemoryMap) → IsClear n bytes map → ((i j : ℕ) → CauseOf bytes map n i j → ⊥) → IsClear (n + 1) bytes map
next_clear n bytes map clear fails = record { none_before = λ other below applies. cases other applies (below_or_same (number_of other) n below) } where
  cases : (other : LoadRefusal) → Applies bytes map other → (number_of other < n) ⊎ (number_of other ≡ n) → ⊥
  cases other applies (inl before) = clear.none_before other before applies
  cases other applies (inr same) = fails (header_of other) (second_header_of other) (cause_at bytes map n other same applies)

-- where the last one doesn't apply, none does
pub loadable : (bytes : List ℕ) (map : MemoryMap) → IsClear 15 bytes map → IsLoadable bytes map
loadable bytes map clear OutOfMemory applies = applies
loadable bytes map clear refusal applies = clear.none_before refusal (omega arith) applies

-- a refusal is the first where none before it applies, and none of its number at headers before its own
pub first_of_number : (bytes : List ℕ) (map : MemoryMap) (refusal : LoadRefusal) → IsClear (number_of refusal) bytes map → Applies bytes map refusal
    → ((i j : ℕ) → CauseOf bytes map (number_of refusal) i j → (header_of refusal < i) ⊎ ((header_of refusal ≡ i) × (second_header_of refusal ≤ j))) → IsFirstRefusal bytes map refusal
first_of_number bytes map refusal clear applies least = record {
  applies = applies;
  none_before = clear.none_before;
  least = λ other same causes. least (header_of other) (second_header_of other) (cause_at bytes map (number_of refusal) other same causes);
}

-- which are 0 where it names none
pub first_without_header : (bytes : List ℕ) (map : MemoryMap) (refusal : LoadRefusal) → header_of refusal ≡ 0 → second_header_of refusal ≡ 0 → IsClear (number_of refusal) bytes map → Applies bytes map refusal → IsFirstRefusal bytes map refusal
first_without_header bytes map refusal first second clear applies =
    first_of_number bytes map refusal clear applies (λ i j _. cases i j (eqb_tells i 0)) where
      cases : (i j : ℕ) → ((eqb i 0 ≡ true) × (i ≡ 0)) ⊎ ((eqb i 0 ≡ false) × (i ≢ 0)) → (header_of refusal < i) ⊎ ((header_of refusal ≡ i) × (second_header_of refusal ≤ j))
      cases i j (inl equal) = let same = equal.1 in inr (omega arith, omega arith)
      cases i j (inr other) = let differ = other.1 in inl (omega arith)

-- the first refusal is what the loader answers
pub first_refuses : (bytes : List ℕ) (map : MemoryMap) (refusal : LoadRefusal) → IsFirstRefusal bytes map refusal → Refuses bytes map refusal
first_refuses bytes map OutOfMemory first = tt
first_refuses bytes map refusal first = first
