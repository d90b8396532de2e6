-- What the tests of the file header tell: the refusal of the first that fails, or that none of them applies.
use Rattle.std.proofs.Common.{◌≡◌, ℕ, true, false, List, length, refl}
use Rattle.elf_load.specs.Header.{file_header}
use Rattle.elf_load.specs.Refusal.{is_short, is_elf, is_class_32_little, is_riscv, is_executable, is_compressed, is_reduced, has_other_headers, IsFirstRefusal}
use Rattle.elf_load.specs.Stages.{IsClear}
use Rattle.elf_load.specs.declared.memory_map.MemoryMap.{MemoryMap}
use Rattle.elf_load.specs.declared.refusal.LoadRefusal.TheVariants.{Short, NotElf, NotClass32Little, NotRiscv, NotExec, Compressed, Reduced, HeaderSize}
use Rattle.elf_load.proofs.Order.{clear_at_first, next_clear, first_without_header}

pub clear_2 : (bytes : List ℕ) (map : MemoryMap) → is_short bytes ≡ false → IsClear 2 bytes map
clear_2 bytes map whole = next_clear 1 bytes map (clear_at_first bytes map) (λ i j applies. let both : is_short bytes ≡ true = applies in cc)

pub clear_3 : (bytes : List ℕ) (map : MemoryMap) → IsClear 2 bytes map → is_elf bytes ≡ true → IsClear 3 bytes map
clear_3 bytes map clear test = next_clear 2 bytes map clear (λ i j applies. let both : is_elf bytes ≡ false = applies in cc)

pub clear_4 : (bytes : List ℕ) (map : MemoryMap) → IsClear 3 bytes map → is_class_32_little (file_header bytes) ≡ true → IsClear 4 bytes map
clear_4 bytes map clear test = next_clear 3 bytes map clear (λ i j applies. let both : is_class_32_little (file_header bytes) ≡ false = applies in cc)

pub clear_5 : (bytes : List ℕ) (map : MemoryMap) → IsClear 4 bytes map → is_riscv (file_header bytes) ≡ true → IsClear 5 bytes map
clear_5 bytes map clear test = next_clear 4 bytes map clear (λ i j applies. let both : is_riscv (file_header bytes) ≡ false = applies in cc)

pub clear_6 : (bytes : List ℕ) (map : MemoryMap) → IsClear 5 bytes map → is_executable (file_header bytes) ≡ true → IsClear 6 bytes map
clear_6 bytes map clear test = next_clear 5 bytes map clear (λ i j applies. let both : is_executable (file_header bytes) ≡ false = applies in cc)

pub clear_7 : (bytes : List ℕ) (map : MemoryMap) → IsClear 6 bytes map → is_compressed (file_header bytes) ≡ false → IsClear 7 bytes map
clear_7 bytes map clear test = next_clear 6 bytes map clear (λ i j applies. let both : is_compressed (file_header bytes) ≡ true = applies in cc)

pub clear_8 : (bytes : List ℕ) (map : MemoryMap) → IsClear 7 bytes map → is_reduced (file_header bytes) ≡ false → IsClear 8 bytes map
clear_8 bytes map clear test = next_clear 7 bytes map clear (λ i j applies. let both : is_reduced (file_header bytes) ≡ true = applies in cc)

pub clear_9 : (bytes : List ℕ) (map : MemoryMap) → IsClear 8 bytes map → has_other_headers (file_header bytes) ≡ false → IsClear 9 bytes map
clear_9 bytes map clear test = next_clear 8 bytes map clear (λ i j applies. let both : has_other_headers (file_header bytes) ≡ true = applies in cc)

pub short_first : (bytes : List ℕ) (map : MemoryMap) → is_short bytes ≡ true → IsFirstRefusal bytes map (Short (length bytes))
short_first bytes map test = first_without_header bytes map (Short (length bytes)) refl refl (clear_at_first bytes map) (test, refl)

pub not_elf_first : (bytes : List ℕ) (map : MemoryMap) → IsClear 2 bytes map → is_elf bytes ≡ false → IsFirstRefusal bytes map NotElf
not_elf_first bytes map clear test = first_without_header bytes map NotElf refl refl clear test

pub not_class_first : (bytes : List ℕ) (map : MemoryMap) → IsClear 3 bytes map → is_class_32_little (file_header bytes) ≡ false → IsFirstRefusal bytes map NotClass32Little
not_class_first bytes map clear test = first_without_header bytes map NotClass32Little refl refl clear test

pub not_riscv_first : (bytes : List ℕ) (map : MemoryMap) → IsClear 4 bytes map → is_riscv (file_header bytes) ≡ false → IsFirstRefusal bytes map NotRiscv
not_riscv_first bytes map clear test = first_without_header bytes map NotRiscv refl refl clear test

pub not_exec_first : (bytes : List ℕ) (map : MemoryMap) → IsClear 5 bytes map → is_executable (file_header bytes) ≡ false → IsFirstRefusal bytes map NotExec
not_exec_first bytes map clear test = first_without_header bytes map NotExec refl refl clear test

pub compressed_first : (bytes : List ℕ) (map : MemoryMap) → IsClear 6 bytes map → is_compressed (file_header bytes) ≡ true → IsFirstRefusal bytes map Compressed
compressed_first bytes map clear test = first_without_header bytes map Compressed refl refl clear test

pub reduced_first : (bytes : List ℕ) (map : MemoryMap) → IsClear 7 bytes map → is_reduced (file_header bytes) ≡ true → IsFirstRefusal bytes map Reduced
reduced_first bytes map clear test = first_without_header bytes map Reduced refl refl clear test

pub header_size_first : (bytes : List ℕ) (map : MemoryMap) → IsClear 8 bytes map → has_other_headers (file_header bytes) ≡ true → IsFirstRefusal bytes map (HeaderSize (file_header bytes).e_phentsize)
header_size_first bytes map clear test = first_without_header bytes map (HeaderSize (file_header bytes).e_phentsize) refl refl clear (test, refl)
