-- Where the sequential run of a log's records stands, beside the machine whose run has come to its end.
use Rattle.std.specs.Prelude.{◌≡◌, ◌<◌, ℕ, true, List, length}
use Rattle.dash_base.specs.Places.{line_of}
use Rattle.dash_base.specs.Words.{byte_of_word}
use Rattle.dash_base.specs.declared.id.WordAddr.{WordAddr}
use Rattle.dash_event.specs.Records.{console_of, records_of}
use Rattle.dash_event.specs.declared.event.Event.{Event}
use Rattle.flat_model.specs.LastBefore.{IsByteBefore}
use Rattle.flat_model.specs.Race.{IsProperlyLabelled}
use Rattle.flat_model.specs.Run.{IsCompleteSequentialRun}
use Rattle.flat_model.specs.State.{FlatState}
use Rattle.dash_model.specs.Complete.{IsComplete, hart_at}
use Rattle.dash_model.specs.Config.{Config, is_lock}
use Rattle.dash_model.specs.LineContent.{word_at}
use Rattle.dash_model.specs.Log.{commits_of}
use Rattle.dash_model.specs.Machine.{Machine, Reaches}
use Rattle.dash_model.specs.RunEnds.{value_of}

-- the records of a log lead to a state in which each hart has ended, has spent its budget or waits for a lock word that is not 0; each hart and lock word is in it as in the machine; each byte of memory is what the last write of it in the log wrote, or the opening one, and is that of the last version of its line; and its console is the log's
pub record EndsAs (w : Config) (log : List Event) (m : Machine) : Type 0 where
  pub state : FlatState
  pub complete : IsCompleteSequentialRun w.image w.top (records_of log) state
  pub harts : (h : ℕ) → state.harts h ≡ (hart_at w h m).core
  pub locks : (word : WordAddr) → is_lock w word.0 ≡ true → state.locks word.0 ≡ value_of w m word
  pub memory : (address k : ℕ) → k < 4 → IsByteBefore w.image (records_of log) (length (records_of log)) address k (byte_of_word k (state.memory address))
  pub contents : (word : WordAddr) (k : ℕ) → k < 4
      → byte_of_word k (state.memory word.0) ≡ byte_of_word k (word_at w.image log (line_of w.top word) (length (commits_of log (line_of w.top word))) word.0)
  pub console : state.console ≡ console_of log

-- where the image is properly labelled, the records of a complete run are such a sequential run
abbrev pub CompleteRunsAreComplete : Type 0
CompleteRunsAreComplete = (w : Config) (log : List Event) (m : Machine) → IsProperlyLabelled w.image w.top → Reaches w log m → IsComplete w m → EndsAs w log m
