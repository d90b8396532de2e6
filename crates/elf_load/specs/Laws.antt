-- Laws of the refusals. Each is the contract of a function of `laws`.
use Rattle.std.specs.Prelude.{◌≡◌, ◌≢◌, ◌≤◌, ◌⊎◌, ℕ, ◌+◌, List, length}
use Rattle.elf_load.specs.Header.{file_header, header_at}
use Rattle.elf_load.specs.Refusal.{IsSegmentAt, SharesAddress, IsExecutable, IsFirstRefusal, IsLoadable}
use Rattle.elf_load.specs.declared.header.ProgramHeader.{ProgramHeader}
use Rattle.elf_load.specs.declared.memory_map.MemoryMap.{MemoryMap}
use Rattle.elf_load.specs.declared.refusal.LoadRefusal.{LoadRefusal}

-- a file has one refusal at most
abbrev pub OneRefusal : Type 0
OneRefusal =
    (bytes : List ℕ) (map : MemoryMap) (refusal other : LoadRefusal) → IsFirstRefusal bytes map refusal → IsFirstRefusal bytes map other → refusal ≡ other

-- a file is accepted, or it has a refusal
abbrev pub AcceptedOrRefused : Type 0
AcceptedOrRefused =
    (bytes : List ℕ) (map : MemoryMap) → IsLoadable bytes map ⊎ ((refusal : LoadRefusal) × IsFirstRefusal bytes map refusal)

-- the segment lies in a file of so many bytes, has room for its bytes, and lies in memory
pub record IsPlaced (len : ℕ) (map : MemoryMap) (header : ProgramHeader) : Type 0 where
  pub in_file : header.p_offset + header.p_filesz ≤ len
  pub room : header.p_filesz ≤ header.p_memsz
  pub begins : map.base ≤ header.p_vaddr
  pub ends : header.p_vaddr + header.p_memsz ≤ map.base + map.size

-- all segments do, no two of them share an address, and the entry is in one that may be executed
pub record IsSound (bytes : List ℕ) (map : MemoryMap) : Type 0 where
  pub placed : (i : ℕ) → IsSegmentAt bytes i → IsPlaced (length bytes) map (header_at bytes i)
  pub disjoint : (i j : ℕ) → i ≢ j → IsSegmentAt bytes i → IsSegmentAt bytes j → SharesAddress (header_at bytes i) (header_at bytes j) → ⊥
  pub entry : IsExecutable bytes (file_header bytes).e_entry

abbrev pub AcceptedIsSound : Type 0
AcceptedIsSound = (bytes : List ℕ) (map : MemoryMap) → IsLoadable bytes map → IsSound bytes map
