-- Laws of logs and their texts. Each is the contract of a function of `laws`.
use Rattle.std.specs.Prelude.{◌≡◌, ℕ, List}
use Rattle.std.specs.List.{AllByRecursion}
use Rattle.dash_event.specs.declared.event.Event.{Event}
use Rattle.trace_text.specs.Fits.{FitsEvent}
use Rattle.trace_text.specs.LogText.{log_text}
use Rattle.trace_text.specs.Reading.{IsTextOf, IsRefusedFor}
use Rattle.trace_text.specs.declared.refusal.TextRefusal.{TextRefusal}
use Rattle.trace_text.specs.declared.refusal.TextRefusal.TheVariants.{OutOfMemory}

-- two logs of one text, whose numbers are within the bounds of their types, are one log
abbrev pub TextsTellLogs : Type 0
TextsTellLogs = (l m : List Event) → AllByRecursion FitsEvent l → AllByRecursion FitsEvent m → log_text l ≡ log_text m → l ≡ m

-- a text that was written of one log, and read as one, was read as the log that was written
abbrev pub ReadingGivesBack : Type 0
ReadingGivesBack = (text : List ℕ) (written read : List Event) → IsTextOf text written → IsTextOf text read → read ≡ written

-- a text of a log is refused for want of memory alone
abbrev pub TextsOfLogsAreRead : Type 0
TextsOfLogsAreRead = (text : List ℕ) (log : List Event) (why : TextRefusal) → IsTextOf text log → IsRefusedFor text why → why ≡ OutOfMemory
