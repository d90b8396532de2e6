-- The counters of the generated workload, as a log tells them.
use Rattle.std.specs.Prelude.{◌≡◌, ℕ, ◌<◌, ◌==◌, if◌then◌else◌, List, [], ◌∷◌, flat_map, length, slice_index, unwrap_or}
use Rattle.dash_event.specs.declared.event.Event.{Event}
use Rattle.dash_event.specs.declared.event.Kind.{Kind}
use Rattle.dash_event.specs.declared.event.Kind.TheVariants.{Store}
use Rattle.workload_gen.specs.LastStores.{last_of}
use Rattle.workload_gen.specs.Summary.{listed}
use Rattle.workload_gen.specs.Workload.{counter_word, counters}

-- what is stored in the word at an address, in a list of one, where a store of it retired
abbrev pub stored_in : ℕ → Kind → List ℕ
stored_in address (Store a) = if a.word.0 == address then unwrap_or a.written 0 ∷ [] else []
stored_in address kind = []

-- what the stores of a word wrote, in the order of the log
abbrev pub stores_to : ℕ → List Event → List ℕ
stores_to address log = flat_map (λ e. stored_in address e.kind) log

-- what the last of them wrote, or 0 where there is none
abbrev pub last_stored : ℕ → List Event → ℕ
last_stored address log = last_of (stores_to address log)

-- for each counter, what the last store of its word in a log wrote, or 0
unfoldable pub counters_in : List Event → List ℕ
counters_in log = listed (λ k. last_stored (counter_word k) log) counters

-- the same of a list, counter by counter
pub record AreCounters (log : List Event) (values : List ℕ) : Type 0 where
  pub count : length values ≡ counters
  pub each : (k : ℕ) → k < counters → slice_index values k ≡ last_stored (counter_word k) log
