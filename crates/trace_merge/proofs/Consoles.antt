-- The console that a run of a log's records leaves is that of the log.
use Rattle.std.proofs.Common.{◌≡◌, ℕ, List, [], ◌∷◌, ◌++◌, refl, sym, ◌∙◌, ap}
use Rattle.std.specs.Prelude.{flat_map}
use Rattle.std.proofs.lemmas.List.{append-nil, append_assoc}
use Rattle.std.proofs.lemmas.List.Concat.{flat_map-append}
use Rattle.dash_base.specs.declared.topology.Topology.{Topology}
use Rattle.elf_load.specs.Image.{ImageView}
use Rattle.dash_event.specs.Records.{bytes_in, console_of, records_in, records_of}
use Rattle.dash_event.specs.declared.event.Event.{Event}
use Rattle.dash_event.specs.declared.event.Kind.{Kind}
use Rattle.dash_event.specs.declared.event.Kind.TheVariants as kind
use Rattle.dash_event.specs.declared.step_record.StepRecord.{StepRecord}
use Rattle.dash_event.specs.declared.step_record.StepRecord.TheVariants as step
use Rattle.flat_model.specs.State.{FlatState, opening_state}
use Rattle.flat_model.specs.Step.{console_after}
use Rattle.flat_model.specs.Run.{AreFlatSteps, RunsTo}

-- the byte that a record puts on the console, where it puts one
abbrev byte_of : StepRecord → List ℕ
byte_of (step.Byte hart byte) = byte ∷ []
byte_of r = []

console_grows : (r : StepRecord) (old : List ℕ) → console_after r old ≡ old ++ byte_of r
console_grows (step.Byte hart byte) old = refl
console_grows r old = sym (append-nil old)

-- steps add their bytes
console_left : (image : ImageView) (t : Topology) (old : FlatState) (rs : List StepRecord) (new : FlatState) → AreFlatSteps image t old rs new
    → new.console ≡ old.console ++ flat_map byte_of rs
console_left image t old [] new steps = ap (λ s. s.console) steps ∙ sym (append-nil old.console)
console_left image t old (r ∷ rs) new steps =
    console_left image t steps.0 rs new steps.2
    ∙ ap (λ c. c ++ flat_map byte_of rs) (ap (λ s. s.console) steps.1.after ∙ console_grows r old.console)
    ∙ append_assoc old.console (byte_of r) (flat_map byte_of rs)

byte_in_record : (k : Kind) → flat_map byte_of (records_in k) ≡ bytes_in k
byte_in_record (kind.Put h pc b) = refl
byte_in_record k = refl

bytes_of_records : (log : List Event) → flat_map byte_of (records_of log) ≡ console_of log
bytes_of_records [] = refl
bytes_of_records (e ∷ es) =
    flat_map-append byte_of (records_in e.kind) (records_of es) ∙ (λ i. byte_in_record e.kind i ++ bytes_of_records es i)

pub console_is : (image : ImageView) (t : Topology) (log : List Event) (s : FlatState) → RunsTo image t (records_of log) s → s.console ≡ console_of log
console_is image t log s runs = console_left image t (opening_state image t) (records_of log) s runs ∙ bytes_of_records log
