-- What is accepted has its segments in the file and in memory, apart from each other, and its entry in code.
use Rattle.std.proofs.Common.{◌≡◌, ◌≢◌, ◌<◌, ◌≤◌, ◌+◌, ◌⊎◌, ℕ, inl, inr, Bool, true, false, List, length, refl, arith}
use Rattle.std.proofs.lemmas.Bool.Decides.{nat_tests}
use Rattle.elf_load.specs.Header.{file_header, header_at}
use Rattle.elf_load.specs.Refusal.{is_out_of_file, is_above_memory_size, is_out_of_memory, IsSegmentAt, SharesAddress, IsExecutable, IsLoadable}
use Rattle.elf_load.specs.Laws.{IsPlaced, IsSound}
use Rattle.elf_load.specs.Table.{numbered_segments, is_executable_among}
use Rattle.elf_load.specs.declared.header.ProgramHeader.{ProgramHeader}
use Rattle.elf_load.specs.declared.memory_map.MemoryMap.{MemoryMap}
use Rattle.elf_load.specs.declared.refusal.LoadRefusal.TheVariants.{SegmentOutOfFile, FileSizeAboveMemory, SegmentOutOfMemory, Overlap, EntryNotExecutable}
use Rattle.elf_load.proofs.Decided.{numbers}
use Rattle.elf_load.proofs.SegmentRows.{in_file, in_memory_size, executable_there, executable_test}

-- a segment that the test passes lies in memory
record IsInMemory (map : MemoryMap) (header : ProgramHeader) : Type 0 where
  begins : map.base ≤ header.p_vaddr
  ends : header.p_vaddr + header.p_memsz ≤ map.base + map.size

in_memory : (b : Bool) (map : MemoryMap) (header : ProgramHeader) → is_out_of_memory map header ≡ b → (b ≡ true → ⊥) → IsInMemory map header
in_memory true map header test fails = absurd (fails refl)
in_memory false map header test fails = record { begins = grind (arith, nat_tests); ends = grind (arith, nat_tests) }

placed : (bytes : List ℕ) (map : MemoryMap) → IsLoadable bytes map → (i : ℕ) → IsSegmentAt bytes i → IsPlaced (length bytes) map (header_at bytes i)
placed bytes map accepted i at =
    let memory = in_memory (is_out_of_memory map (header_at bytes i)) map (header_at bytes i) refl (λ t. accepted (SegmentOutOfMemory i) (record { segment = at; fails = t })) in record {
      in_file = in_file (is_out_of_file (length bytes) (header_at bytes i)) (length bytes) (header_at bytes i) refl (λ t. accepted (SegmentOutOfFile i) (record { segment = at; fails = t }));
      room = in_memory_size (is_above_memory_size (header_at bytes i)) (header_at bytes i) refl (λ t. accepted (FileSizeAboveMemory i) (record { segment = at; fails = t }));
      begins = memory.begins;
      ends = memory.ends;
    }

disjoint : (bytes : List ℕ) (map : MemoryMap) → IsLoadable bytes map → (i j : ℕ) → i ≢ j → IsSegmentAt bytes i → IsSegmentAt bytes j → SharesAddress (header_at bytes i) (header_at bytes j) → ⊥
disjoint bytes map accepted i j differ first second shared = cases (numbers i j) where
  cases : (i < j) ⊎ ((i ≡ j) ⊎ (j < i)) → ⊥
  cases (inl below) = accepted (Overlap i j) (record { order = below; first = first; second = second; shared = shared })
  cases (inr (inl same)) = differ same
  cases (inr (inr above)) =
      accepted (Overlap j i) (record { order = above; first = second; second = first; shared = record { address = shared.address; in_first = shared.in_second; in_second = shared.in_first } })

entry_in : (b : Bool) (bytes : List ℕ) (map : MemoryMap) → IsLoadable bytes map → is_executable_among (numbered_segments bytes) (file_header bytes).e_entry ≡ b → IsExecutable bytes (file_header bytes).e_entry
entry_in true bytes map accepted test = executable_there bytes (file_header bytes).e_entry test
entry_in false bytes map accepted test =
    absurd (accepted (EntryNotExecutable (file_header bytes).e_entry)
    ((λ executable. let passes : is_executable_among (numbered_segments bytes) (file_header bytes).e_entry ≡ true = executable_test bytes (file_header bytes).e_entry executable in absurd cc), refl))

pub sound : (bytes : List ℕ) (map : MemoryMap) → IsLoadable bytes map → IsSound bytes map
sound bytes map accepted = record {
  placed = placed bytes map accepted;
  disjoint = disjoint bytes map accepted;
  entry = entry_in _ bytes map accepted refl;
}
