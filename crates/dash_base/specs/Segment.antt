-- A segment of an image, as contracts see it.
use Rattle.std.specs.Prelude.{ℕ, List}

-- where a segment lies, how long it is in memory, its flags, and the bytes that it begins with
pub record SegmentView : Type 0 where
  pub vaddr : ℕ
  pub memsz : ℕ
  pub flags : ℕ
  pub bytes : List ℕ
