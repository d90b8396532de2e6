-- What every run keeps of each hart's write buffer: the stores that the log has not committed, in their order.
use Rattle.std.specs.Prelude.{◌≡◌, ℕ, ◌==◌, if◌then◌else◌, List, [], ◌∷◌, ◌++◌, flat_map, map}
use Rattle.dash_event.specs.declared.access.Access.{Access}
use Rattle.dash_event.specs.declared.event.Event.{Event}
use Rattle.dash_event.specs.declared.event.Kind.{Kind}
use Rattle.dash_event.specs.declared.event.Kind.TheVariants.{Store, Commit}
use Rattle.dash_model.specs.Config.{Config, cluster_of}
use Rattle.dash_model.specs.HartRows.{entry_of}
use Rattle.dash_model.specs.Machine.{Machine, Reaches}

-- the access, in a list of one, where a store of hart h retired
abbrev pub store_by : ℕ → Kind → List Access
store_by h (Store a) = if a.hart.0 == h then a ∷ [] else []
store_by h kind = []

-- the stores of hart h, in the order of the log
abbrev pub stores_by : ℕ → List Event → List Access
stores_by h log = flat_map (λ e. store_by h e.kind) log

-- the number, in a list of one, of the store that hart h commits
abbrev pub commit_by : ℕ → Kind → List ℕ
commit_by h (Commit hart number line version) = if hart.0 == h then number ∷ [] else []
commit_by h kind = []

-- the numbers of the stores that hart h committed, in the order of the log
abbrev pub commits_by : ℕ → List Event → List ℕ
commits_by h log = flat_map (λ e. commit_by h e.kind) log

-- the stores of a hart are those that it committed, in the order of their commits, and then those that wait in its buffer, each with the number, word, mask and value of its Store event
pub record BufferFacts (w : Config) (log : List Event) (h : ℕ) (m : Machine) : Type 0 where
  pub committed : List Access
  pub waiting : List Access
  pub stores : stores_by h log ≡ committed ++ waiting
  pub commits : commits_by h log ≡ map (λ a. a.number) committed
  pub buffer : ((m.parts (cluster_of w h)).harts h).buffer ≡ map entry_of waiting

-- every run keeps them, of each hart
abbrev pub BuffersHoldUncommittedStores : Type 0
BuffersHoldUncommittedStores = (w : Config) (log : List Event) (m : Machine) (h : ℕ) → Reaches w log m → BufferFacts w log h m
