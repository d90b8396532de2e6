-- The content of a line at each of its versions.
use Rattle.std.specs.Prelude.{ℕ, ◌==◌, ◌&&◌, if◌then◌else◌, List, [], ◌∷◌, flat_map, fold, take, Option, Some, None, slice_get}
use Rattle.dash_base.specs.declared.id.HartId.{HartId}
use Rattle.dash_base.specs.declared.id.LineId.{LineId}
use Rattle.elf_load.specs.Image.{ImageView, opening_word}
use Rattle.dash_event.specs.declared.access.Access.{Access}
use Rattle.dash_event.specs.declared.event.Event.{Event}
use Rattle.dash_event.specs.declared.event.Kind.{Kind}
use Rattle.dash_event.specs.declared.event.Kind.TheVariants.{Store, Commit, Rmw}
use Rattle.dash_event.specs.declared.step_record.StepRecord.TheVariants as step
use Rattle.dash_event.specs.Effects.{word_after}
use Rattle.dash_model.specs.Log.{commits_of}

-- the access, in a list of one, where a hart's store of this number retired
abbrev pub store_in : HartId → ℕ → Kind → List Access
store_in hart number (Store a) = if (a.hart.0 == hart.0) && (a.number == number) then a ∷ [] else []
store_in hart number kind = []

-- the store of a hart and number, where the log has one
abbrev pub store_of : List Event → HartId → ℕ → Option Access
store_of log hart number = slice_get (flat_map (λ e. store_in hart number e.kind) log) 0

-- the access whose bytes a commit writes: that of the store of its hart and number, or an atomic operation's own
abbrev pub committed : List Event → Kind → Option Access
committed log (Commit hart number line version) = store_of log hart number
committed log (Rmw a line version) = Some a
committed log kind = None

-- the word at an address after a commit of this access
abbrev pub committed_over : ℕ → Option Access → ℕ → ℕ
committed_over address None old = old
committed_over address (Some a) old = word_after address (step.Access a) old

-- the word at an address of a line, at a version of the line: the opening word with so many of the line's commits written over it, the first ones of the log
abbrev pub word_at : ImageView → List Event → LineId → ℕ → ℕ → ℕ
word_at image log line version address =
    fold (λ old kind. committed_over address (committed log kind) old) (opening_word image address) (take version (commits_of log line))
