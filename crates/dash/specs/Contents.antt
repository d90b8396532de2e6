-- What was read of a file that may have so many bytes.
use Rattle.std.specs.Prelude.{ℕ, ◌<◌, ◌≤◌, vec_len}
use Rattle.dash.specs.declared.real_host.Contents.{Contents}
use Rattle.dash.specs.declared.real_host.Contents.TheVariants.{Whole, Larger}

-- all of a file within the limit, or the size of one above it
abbrev pub IsWithin : ℕ → Contents → Type 0
IsWithin limit (Whole bytes) = vec_len bytes ≤ limit
IsWithin limit (Larger size) = limit < size
