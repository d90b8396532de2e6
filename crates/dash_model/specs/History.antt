-- The version of a line after a log, and how many versions a line can have.
use Rattle.std.specs.Prelude.{◌≡◌, ℕ, ◌*◌, ◌<◌, ◌≤◌, List, ◌∷◌, ◌++◌, length}
use Rattle.dash_base.specs.declared.id.HartId.{HartId}
use Rattle.dash_event.specs.declared.event.Event.{Event}
use Rattle.dash_model.specs.Maps.{most}
use Rattle.dash_model.specs.Config.{Config, line_id, all_harts}
use Rattle.dash_model.specs.Machine.{IsRun}
use Rattle.dash_model.specs.Log.{Commits, commits_of}

-- the current version of a line: the number of its commits
abbrev pub version_of : List Event → ℕ → ℕ
version_of log l = length (commits_of log (line_id l))

-- a line has no more commits than all harts together may retire instructions, which is below the greatest version; so no commit makes that one
pub record StaysBelowGreatest (w : Config) (log : List Event) (l : ℕ) : Type 0 where
  pub within_budgets : version_of log l ≤ all_harts w * w.top.budget
  pub below_greatest : version_of log l < most
  pub made : (before rest : List Event) (e : Event) (hart : HartId) (version : ℕ) → log ≡ before ++ (e ∷ rest) → Commits e.kind hart (line_id l) version → version < most

-- each line does so in every run
abbrev pub VersionsStayBelowGreatest : Type 0
VersionsStayBelowGreatest = (w : Config) (log : List Event) (l : ℕ) → IsRun w log → StaysBelowGreatest w log l
