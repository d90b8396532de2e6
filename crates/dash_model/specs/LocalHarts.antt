-- What each local run keeps of its harts.
use Rattle.std.specs.Prelude.{◌≡◌, ℕ, true, List, [], ◌∷◌}
use Rattle.write_buffer.specs.declared.entry.Entry.{Entry as Stored}
use Rattle.hart_core.specs.Access.{IsInMemory}
use Rattle.dash_model.specs.Config.{Config}
use Rattle.dash_model.specs.Part.{Processor, opening_part}
use Rattle.dash_model.specs.LockFacts.{NeedsLock}
use Rattle.dash_model.specs.Machine.{Step}
use Rattle.dash_model.specs.LocalRun.{IsLocalRun, part_at}

-- each of these stores is to a word of memory
abbrev pub AreOfMemory : Config → List Stored → Type 0
AreOfMemory w [] = Unit {0}
AreOfMemory w (s ∷ ss) = IsInMemory w.top s.word.0 4 × AreOfMemory w ss

-- where its lock instruction was sent the hart has a lock instruction as its next one, and each store that waits is to a word of memory
pub record IsReady (w : Config) (s : Processor) : Type 0 where
  pub next : s.asked ≡ true → NeedsLock w s.core
  pub waiting : AreOfMemory w s.buffer

-- so each hart is wherever a local run leads, whatever its lanes brought
abbrev pub LocalRunsKeepHarts : Type 0
LocalRunsKeepHarts = (w : Config) (c : ℕ) (gs : List Step) (h : ℕ) → IsLocalRun w c (opening_part w) gs → IsReady w ((part_at w c (opening_part w) gs).harts h)
