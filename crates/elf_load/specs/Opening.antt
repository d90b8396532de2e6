-- The bytes of the memory that a run opens with, as they are put together.
use Rattle.std.specs.Prelude.{◌≡◌, ◌<◌, ℕ, ◌+◌, ◌-◌, if◌then◌else◌, List, slice_index}
use Rattle.dash_base.specs.Segment.{SegmentView}
use Rattle.elf_load.specs.Image.{holds, byte_among}
use Rattle.elf_load.specs.declared.memory_map.MemoryMap.{MemoryMap}

-- each byte of memory, from its lowest address on, is that of the segments
pub record IsOpening (segments : List SegmentView) (memory : MemoryMap) (bytes : List ℕ) : Type 0 where
  pub each : (k : ℕ) → k < memory.size → slice_index bytes k ≡ byte_among segments (memory.base + k)

-- a segment's bytes are put over those of memory
pub record IsPut (s : SegmentView) (memory : MemoryMap) (old new : List ℕ) : Type 0 where
  pub each : (k : ℕ) → k < memory.size
      → slice_index new k ≡ (if holds (memory.base + k) s then slice_index s.bytes (memory.base + k - s.vaddr) else slice_index old k)
