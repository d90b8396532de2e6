-- What the last store to a word in a list of records wrote.
use Rattle.std.specs.Prelude.{ℕ, ◌==◌, ◌&&◌, Bool, true, false, if◌then◌else◌, List, [], ◌∷◌, flat_map, None, unwrap_or}
use Rattle.std.specs.List.{last_or}
use Rattle.dash_event.specs.declared.access.Op.{Op}
use Rattle.dash_event.specs.declared.access.Op.TheVariants as op
use Rattle.dash_event.specs.declared.step_record.StepRecord.{StepRecord}
use Rattle.dash_event.specs.declared.step_record.StepRecord.TheVariants as step

-- whether an operation is a store
abbrev pub is_store : Op → Bool
is_store op.Store = true
is_store kind = false

-- what a record stores in the word at an address, in a list of one
abbrev pub stored_by : ℕ → StepRecord → List ℕ
stored_by address (step.Access a) = if is_store a.op && (a.word.0 == address) then unwrap_or a.written 0 ∷ [] else []
stored_by address r = []

-- what the stores of a word wrote, in the order of the records
abbrev pub stores_among : ℕ → List StepRecord → List ℕ
stores_among address rs = flat_map (stored_by address) rs

-- the last of these, or 0 where there is none
abbrev pub last_of : List ℕ → ℕ
last_of values = unwrap_or (last_or None values) 0
