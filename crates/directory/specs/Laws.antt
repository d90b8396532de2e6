-- What the laws of homes say: entries are sets of clusters, and serving a message changes one line.
use Rattle.std.specs.Prelude.{◌≡◌, ◌≢◌, ℕ, ◌==◌, ◌||◌, Some}
use Rattle.dash_base.specs.declared.id.LineId.{LineId}
use Rattle.dash_base.specs.declared.id.ClusterId.{ClusterId}
use Rattle.dash_msg.specs.declared.msg.Msg.{Msg}
use Rattle.directory.specs.Sharers.{is_sharer, only, with_sharer}
use Rattle.directory.specs.Rows.{served}
use Rattle.directory.specs.View.{HomeView, is_home, kept_at, line_of, after_serve}

-- bits are sets of clusters
pub record SharersAreSets : Type 0 where
  pub alone : (c i : ℕ) → is_sharer (only c) i ≡ (i == c)
  pub joined : (sharers c i : ℕ) → is_sharer (with_sharer sharers c) i ≡ ((i == c) || is_sharer sharers i)

-- the line of a message becomes what its row says, each other line stays, and so do the lines whose home it is
pub record ServingChangesOneLine : Type 0 where
  pub line : (h : HomeView) (from : ClusterId) (msg : Msg) (l : LineId) → line_of msg ≡ Some l → kept_at (after_serve h from msg) l.0 ≡ (served h.clusters from msg (kept_at h l.0)).kept
  pub others : (h : HomeView) (from : ClusterId) (msg : Msg) (l : LineId) (other : ℕ) → line_of msg ≡ Some l → other ≢ l.0 → kept_at (after_serve h from msg) other ≡ kept_at h other
  pub homes : (h : HomeView) (from : ClusterId) (msg : Msg) (l : LineId) (other : ℕ) → line_of msg ≡ Some l → is_home (after_serve h from msg) other ≡ is_home h other
