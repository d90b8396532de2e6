-- The conditions on which a hart goes on.
use Rattle.std.specs.Prelude.{ℕ, ◌==◌, Bool, not, ◌&&◌, ◌||◌, length}
use Rattle.std.specs.List.{list_any}
use Rattle.write_buffer.specs.View.{BufferView}
use Rattle.write_buffer.specs.Look.{has_word}
use Rattle.ack_counter.specs.View.{TableView, is_pending, owed_to}

-- no store of a hart waits in its buffer, and no acknowledgements are owed to it
abbrev pub is_drained : ℕ → BufferView → TableView → Bool
is_drained hart b t = (length b.items == 0) && (owed_to t hart == 0)

-- the line is not pending, no store to the word waits, and for a release the hart is drained
abbrev pub is_free_to_commit : Bool → ℕ → ℕ → ℕ → BufferView → TableView → Bool
is_free_to_commit release word line hart b t =
    not (is_pending t line) && (not (list_any (has_word word) b.items) && (not release || is_drained hart b t))
