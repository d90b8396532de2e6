-- Each file is accepted or has a refusal, and it has one at most.
use Rattle.std.proofs.Common.{◌≡◌, ◌≢◌, ◌<◌, ◌≤◌, ◌⊎◌, ℕ, inl, inr, Bool, true, false, cond, ◌==◌, eqb, leb, List, length, Option, Some, None, refl, sym, ◌∙◌, ap, arith}
use Rattle.std.proofs.lemmas.Bool.Decides.{eqb_tells, leb_tells}
use Rattle.elf_load.specs.Header.{file_header}
use Rattle.elf_load.specs.Refusal.{is_short, is_elf, is_class_32_little, is_riscv, is_executable, is_compressed, is_reduced, has_other_headers, is_out_of_file, is_above_memory_size, is_out_of_memory, Applies, number_of, header_of, second_header_of, IsUpTo, IsFirstRefusal, IsLoadable}
use Rattle.elf_load.specs.Stages.{IsClear}
use Rattle.elf_load.specs.Table.{numbered_segments, first_failing, first_overlap, is_executable_among}
use Rattle.elf_load.specs.declared.memory_map.MemoryMap.{MemoryMap}
use Rattle.elf_load.specs.declared.refusal.LoadRefusal.{LoadRefusal}
use Rattle.elf_load.specs.declared.refusal.LoadRefusal.TheVariants.{Short, NotElf, NotClass32Little, NotRiscv, NotExec, Compressed, Reduced, HeaderSize, SegmentOutOfFile, FileSizeAboveMemory, SegmentOutOfMemory, Overlap, NoSegment, EntryNotExecutable, OutOfMemory}
use Rattle.elf_load.proofs.FileRows.{clear_2, clear_3, clear_4, clear_5, clear_6, clear_7, clear_8, clear_9, short_first, not_elf_first, not_class_first, not_riscv_first, not_exec_first, compressed_first, reduced_first, header_size_first}
use Rattle.elf_load.proofs.SegmentRows.{out_of_file_first, above_memory_size_first, out_of_memory_first, overlap_first, no_segment_first, entry_first, all_clear, clear_10, clear_11, clear_12, clear_13, clear_14}

-- ---- one at most

-- the refusal of a number, at these headers
refusal_at : List ℕ → ℕ → ℕ → ℕ → LoadRefusal
refusal_at bytes n i j =
    cond (n == 1) (Short (length bytes))
    (cond (n == 2) NotElf
    (cond (n == 3) NotClass32Little
    (cond (n == 4) NotRiscv
    (cond (n == 5) NotExec
    (cond (n == 6) Compressed
    (cond (n == 7) Reduced
    (cond (n == 8) (HeaderSize (file_header bytes).e_phentsize)
    (cond (n == 9) (SegmentOutOfFile i)
    (cond (n == 10) (FileSizeAboveMemory i)
    (cond (n == 11) (SegmentOutOfMemory i)
    (cond (n == 12) (Overlap i j)
    (cond (n == 13) NoSegment
    (EntryNotExecutable (file_header bytes).e_entry)))))))))))))

named : (bytes : List ℕ) (map : MemoryMap) (refusal : LoadRefusal) → Applies bytes map refusal → refusal ≡ refusal_at bytes (number_of refusal) (header_of refusal) (second_header_of refusal)
unfolding refusal_at
named bytes map (Short at) applies = ap Short applies.1
named bytes map (HeaderSize size) applies = ap HeaderSize applies.1
named bytes map (EntryNotExecutable entry) applies = ap EntryNotExecutable applies.1
named bytes map OutOfMemory applies = absurd applies
named bytes map refusal applies = refl

same_headers : (a b : LoadRefusal) → IsUpTo a b → IsUpTo b a → (header_of a ≡ header_of b) × (second_header_of a ≡ second_header_of b)
same_headers a b (inl before) (inl after) = absurd (omega arith)
same_headers a b (inl before) (inr equal) = let same = equal.0 in absurd (omega arith)
same_headers a b (inr equal) (inl after) = let same = equal.0 in absurd (omega arith)
same_headers a b (inr equal) (inr back) = let low = equal.1 in let high = back.1 in (equal.0, omega arith)

same_number : (bytes : List ℕ) (map : MemoryMap) (a b : LoadRefusal) → number_of a ≡ number_of b → IsFirstRefusal bytes map a → IsFirstRefusal bytes map b → a ≡ b
same_number bytes map a b same first other =
    let headers = same_headers a b (first.least b (sym same) other.applies) (other.least a same first.applies) in
    named bytes map a first.applies
    ∙ ap (λ n. refusal_at bytes n (header_of a) (second_header_of a)) same
    ∙ ap (λ i. refusal_at bytes (number_of b) i (second_header_of a)) headers.0
    ∙ ap (λ j. refusal_at bytes (number_of b) (header_of b) j) headers.1
    ∙ sym (named bytes map b other.applies)

pub numbers : (m n : ℕ) → (m < n) ⊎ ((m ≡ n) ⊎ (n < m))
numbers m n = cases (leb_tells m n) (eqb_tells m n) where
  cases : ((leb m n ≡ true) × (m ≤ n)) ⊎ ((leb m n ≡ false) × (n < m)) → ((eqb m n ≡ true) × (m ≡ n)) ⊎ ((eqb m n ≡ false) × (m ≢ n)) → (m < n) ⊎ ((m ≡ n) ⊎ (n < m))
  cases up (inl equal) = inr (inl equal.1)
  cases (inl up) (inr other) = let below = up.1 in let differ = other.1 in inl (omega arith)
  cases (inr down) (inr other) = inr (inr down.1)

pub one_refusal : (bytes : List ℕ) (map : MemoryMap) (a b : LoadRefusal) → IsFirstRefusal bytes map a → IsFirstRefusal bytes map b → a ≡ b
one_refusal bytes map a b first other = cases (numbers (number_of a) (number_of b)) where
  cases : (number_of a < number_of b) ⊎ ((number_of a ≡ number_of b) ⊎ (number_of b < number_of a)) → a ≡ b
  cases (inl before) = absurd (other.none_before a before first.applies)
  cases (inr (inl same)) = same_number bytes map a b same first other
  cases (inr (inr after)) = absurd (first.none_before b after other.applies)

-- ---- one at least, or none applies

abbrev Decided : List ℕ → MemoryMap → Type 0
Decided bytes map = IsLoadable bytes map ⊎ ((refusal : LoadRefusal) × IsFirstRefusal bytes map refusal)

at_14 : (b : Bool) (bytes : List ℕ) (map : MemoryMap) → is_executable_among (numbered_segments bytes) (file_header bytes).e_entry ≡ b → IsClear 14 bytes map → Decided bytes map
at_14 true bytes map test clear = inl (all_clear bytes map (numbered_segments bytes) (file_header bytes).e_entry refl refl clear test)
at_14 false bytes map test clear = inr (EntryNotExecutable (file_header bytes).e_entry, entry_first bytes map (numbered_segments bytes) (file_header bytes).e_entry refl refl clear test)

at_13 : (b : Bool) (bytes : List ℕ) (map : MemoryMap) → (length (numbered_segments bytes) == 0) ≡ b → IsClear 13 bytes map → Decided bytes map
at_13 true bytes map test clear = inr (NoSegment, no_segment_first bytes map (numbered_segments bytes) refl clear test)
at_13 false bytes map test clear = at_14 _ bytes map refl (clear_14 bytes map (numbered_segments bytes) refl clear test)

at_12 : (o : Option (ℕ × ℕ)) (bytes : List ℕ) (map : MemoryMap) → first_overlap (numbered_segments bytes) ≡ o → IsClear 12 bytes map → Decided bytes map
at_12 (Some (i, j)) bytes map test clear = inr (Overlap i j, overlap_first bytes map (numbered_segments bytes) i j refl clear test)
at_12 None bytes map test clear = at_13 _ bytes map refl (clear_13 bytes map (numbered_segments bytes) refl clear test)

at_11 : (o : Option ℕ) (bytes : List ℕ) (map : MemoryMap) → first_failing (is_out_of_memory map) (numbered_segments bytes) ≡ o → IsClear 11 bytes map → Decided bytes map
at_11 (Some i) bytes map test clear = inr (SegmentOutOfMemory i, out_of_memory_first bytes map (numbered_segments bytes) i refl clear test)
at_11 None bytes map test clear = at_12 _ bytes map refl (clear_12 bytes map (numbered_segments bytes) refl clear test)

at_10 : (o : Option ℕ) (bytes : List ℕ) (map : MemoryMap) → first_failing is_above_memory_size (numbered_segments bytes) ≡ o → IsClear 10 bytes map → Decided bytes map
at_10 (Some i) bytes map test clear = inr (FileSizeAboveMemory i, above_memory_size_first bytes map (numbered_segments bytes) i refl clear test)
at_10 None bytes map test clear = at_11 _ bytes map refl (clear_11 bytes map (numbered_segments bytes) refl clear test)

at_9 : (o : Option ℕ) (bytes : List ℕ) (map : MemoryMap) → first_failing (is_out_of_file (length bytes)) (numbered_segments bytes) ≡ o → IsClear 9 bytes map → Decided bytes map
at_9 (Some i) bytes map test clear = inr (SegmentOutOfFile i, out_of_file_first bytes map (numbered_segments bytes) i refl clear test)
at_9 None bytes map test clear = at_10 _ bytes map refl (clear_10 bytes map (numbered_segments bytes) refl clear test)

at_8 : (b : Bool) (bytes : List ℕ) (map : MemoryMap) → has_other_headers (file_header bytes) ≡ b → IsClear 8 bytes map → Decided bytes map
at_8 true bytes map test clear = inr (HeaderSize (file_header bytes).e_phentsize, header_size_first bytes map clear test)
at_8 false bytes map test clear = at_9 _ bytes map refl (clear_9 bytes map clear test)

at_7 : (b : Bool) (bytes : List ℕ) (map : MemoryMap) → is_reduced (file_header bytes) ≡ b → IsClear 7 bytes map → Decided bytes map
at_7 true bytes map test clear = inr (Reduced, reduced_first bytes map clear test)
at_7 false bytes map test clear = at_8 _ bytes map refl (clear_8 bytes map clear test)

at_6 : (b : Bool) (bytes : List ℕ) (map : MemoryMap) → is_compressed (file_header bytes) ≡ b → IsClear 6 bytes map → Decided bytes map
at_6 true bytes map test clear = inr (Compressed, compressed_first bytes map clear test)
at_6 false bytes map test clear = at_7 _ bytes map refl (clear_7 bytes map clear test)

at_5 : (b : Bool) (bytes : List ℕ) (map : MemoryMap) → is_executable (file_header bytes) ≡ b → IsClear 5 bytes map → Decided bytes map
at_5 true bytes map test clear = at_6 _ bytes map refl (clear_6 bytes map clear test)
at_5 false bytes map test clear = inr (NotExec, not_exec_first bytes map clear test)

at_4 : (b : Bool) (bytes : List ℕ) (map : MemoryMap) → is_riscv (file_header bytes) ≡ b → IsClear 4 bytes map → Decided bytes map
at_4 true bytes map test clear = at_5 _ bytes map refl (clear_5 bytes map clear test)
at_4 false bytes map test clear = inr (NotRiscv, not_riscv_first bytes map clear test)

at_3 : (b : Bool) (bytes : List ℕ) (map : MemoryMap) → is_class_32_little (file_header bytes) ≡ b → IsClear 3 bytes map → Decided bytes map
at_3 true bytes map test clear = at_4 _ bytes map refl (clear_4 bytes map clear test)
at_3 false bytes map test clear = inr (NotClass32Little, not_class_first bytes map clear test)

at_2 : (b : Bool) (bytes : List ℕ) (map : MemoryMap) → is_elf bytes ≡ b → IsClear 2 bytes map → Decided bytes map
at_2 true bytes map test clear = at_3 _ bytes map refl (clear_3 bytes map clear test)
at_2 false bytes map test clear = inr (NotElf, not_elf_first bytes map clear test)

at_1 : (b : Bool) (bytes : List ℕ) (map : MemoryMap) → is_short bytes ≡ b → Decided bytes map
at_1 true bytes map test = inr (Short (length bytes), short_first bytes map test)
at_1 false bytes map test = at_2 _ bytes map refl (clear_2 bytes map test)

pub decided : (bytes : List ℕ) (map : MemoryMap) → IsLoadable bytes map ⊎ ((refusal : LoadRefusal) × IsFirstRefusal bytes map refusal)
decided bytes map = at_1 _ bytes map refl
