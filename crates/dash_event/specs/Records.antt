-- What a log records: its accesses, and the records of its events at their order points.
use Rattle.std.specs.Prelude.{ℕ, List, [], ◌∷◌, flat_map}
use Rattle.dash_event.specs.declared.access.Access.{Access}
use Rattle.dash_event.specs.declared.access.Seen.TheVariants.{Nothing}
use Rattle.dash_event.specs.declared.event.Event.{Event}
use Rattle.dash_event.specs.declared.event.Kind.{Kind}
use Rattle.dash_event.specs.declared.event.Kind.TheVariants.{Alu, Fence, Hint, Put, Stop, Load, Store, Rmw, ScFail, Grant, Free}
use Rattle.dash_event.specs.declared.step_record.StepRecord.{StepRecord}
use Rattle.dash_event.specs.declared.step_record.StepRecord.TheVariants as step

-- an access, with nothing said of the content that it was shown
abbrev pub unseen : Access → Access
unseen a = record a { seen = Nothing }

-- the access of what happened, where it has one
abbrev pub accesses_in : Kind → List Access
accesses_in (Load a level) = a ∷ []
accesses_in (Store a) = a ∷ []
accesses_in (Rmw a line version) = a ∷ []
accesses_in (ScFail a) = a ∷ []
accesses_in (Grant a) = a ∷ []
accesses_in (Free from a) = a ∷ []
accesses_in kind = []

-- the accesses of a log, in its order
abbrev pub accesses_of : List Event → List Access
accesses_of log = flat_map (λ e. accesses_in e.kind) log

-- the byte that was put on the console, where one was
abbrev pub bytes_in : Kind → List ℕ
bytes_in (Put hart pc byte) = byte ∷ []
bytes_in kind = []

-- the console of a log: the bytes that were put on it, in the log's order
abbrev pub console_of : List Event → List ℕ
console_of log = flat_map (λ e. bytes_in e.kind) log

-- the record of an event at its order point, where it has one: a store stands where it retires, an atomic operation where it commits, and a lock word's access where it is served
abbrev pub records_in : Kind → List StepRecord
records_in (Alu hart pc) = step.Plain hart ∷ []
records_in (Fence hart pc) = step.Plain hart ∷ []
records_in (Hint hart pc slot) = step.Plain hart ∷ []
records_in (Put hart pc byte) = step.Byte hart byte ∷ []
records_in (Stop hart pc end) = step.Stopped hart end ∷ []
records_in (Load a level) = step.Access (unseen a) ∷ []
records_in (Store a) = step.Access (unseen a) ∷ []
records_in (Rmw a line version) = step.Access (unseen a) ∷ []
records_in (ScFail a) = step.Access (unseen a) ∷ []
records_in (Grant a) = step.Access (unseen a) ∷ []
records_in (Free from a) = step.Access (unseen a) ∷ []
records_in kind = []

-- the records of a log at their order points, in its order
abbrev pub records_of : List Event → List StepRecord
records_of log = flat_map (λ e. records_in e.kind) log
