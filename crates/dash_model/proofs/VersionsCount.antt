-- In every run the commits of a line carry the versions 1, 2, 3 and so on, and an atomic operation is shown the version before its own.
use Rattle.std.proofs.Common.{◌≡◌, ℕ, ◌+◌, List, ◌∷◌, ◌++◌, map, sym, ap₂, ◌∙◌, subst}
use Rattle.dash_base.specs.declared.id.HartId.{HartId}
use Rattle.dash_base.specs.declared.id.LineId.{LineId}
use Rattle.dash_base.specs.Places.{line_of}
use Rattle.dash_event.specs.declared.access.Access.{Access}
use Rattle.dash_event.specs.declared.access.Seen.TheVariants.{Line}
use Rattle.dash_event.specs.declared.event.Event.{Event}
use Rattle.dash_event.specs.declared.event.Kind.{Kind}
use Rattle.dash_event.specs.declared.event.Kind.TheVariants as kind
use Rattle.dash_model.specs.Config.{Config, line_at}
use Rattle.dash_model.specs.Part.{Part}
use Rattle.dash_model.specs.HartRows.{HartEffect}
use Rattle.dash_model.specs.Guard.{Guard}
use Rattle.dash_model.specs.Machine.{event_of, IsRun}
use Rattle.dash_model.specs.Log.{IsEventAt, IsCommitEvent, Commits, commits_before}
use Rattle.dash_model.specs.History.{version_of}
use Rattle.dash_model.proofs.Numbered.{commit_numbered, rmw_numbered}
use Rattle.dash_model.proofs.Happened.{Happened, happened, before_is}
use Rattle.dash_model.proofs.Earlier.{guard_of}

-- the run up to the event, and on from it
whole : (w : Config) (log : List Event) (i : ℕ) (e : Kind) (a : Happened w log i e) → IsRun w log → IsRun w (a.before ++ (a.step.event ∷ map event_of a.follow))
whole w log i e a r = subst (IsRun w) a.whole r

counted : (w : Config) (log : List Event) (i : ℕ) (e : Kind) (hart : HartId) (line : LineId) (version : ℕ) → IsRun w log → IsEventAt log i e → Commits e hart line version → version ≡ commits_before log i line + 1
counted w log i (kind.Commit h n k v) hart line version r at is =
    let a = happened w log i (kind.Commit h n k v) r at in
    sym is.2 ∙ commit_numbered w a.before (map event_of a.follow) a.step.event h n k v (whole w log i (kind.Commit h n k v) a r) a.is ∙ ap₂ (λ es (l : LineId). version_of es l.0 + 1) (before_is w log i (kind.Commit h n k v) a) is.1
counted w log i (kind.Rmw b k v) hart line version r at is =
    let a = happened w log i (kind.Rmw b k v) r at in
    sym is.2 ∙ (rmw_numbered w a.before (map event_of a.follow) a.step.event b k v (whole w log i (kind.Rmw b k v) a r) a.is).0 ∙ ap₂ (λ es (l : LineId). version_of es l.0 + 1) (before_is w log i (kind.Rmw b k v) a) is.1
counted w log i _ hart line version r at is = absurd is

pub versions_count : (w : Config) (log : List Event) → IsRun w log
    → (i : ℕ) (hart : HartId) (line : LineId) (version : ℕ) → IsCommitEvent log i hart line version → version ≡ commits_before log i line + 1
versions_count w log r i hart line version c = counted w log i c.kind hart line version r c.at c.is

pub rmw_shows_last : (w : Config) (log : List Event) → IsRun w log
    → (i : ℕ) (a : Access) (line : LineId) (version : ℕ) → IsEventAt log i (kind.Rmw a line version) → (shown : ℕ) × (a.seen ≡ Line shown) × (version ≡ shown + 1)
rmw_shows_last w log r i b k v at =
    let a = happened w log i (kind.Rmw b k v) r at in
    let n = rmw_numbered w a.before (map event_of a.follow) a.step.event b k v (whole w log i (kind.Rmw b k v) a r) a.is in
    (version_of a.before k.0, n.1, n.0)

pub line_is : (w : Config) (c : ℕ) (a : Access) (k : LineId) (v : ℕ) (d : HartEffect) (p : Part) → Guard w c (kind.Rmw a k v) d p → line_at w a.word.0 ≡ k.0
unfolding Guard
line_is w c a k v d p can = can.line

pub rmw_of_its_line : (w : Config) (log : List Event) → IsRun w log
    → (i : ℕ) (a : Access) (line : LineId) (version : ℕ) → IsEventAt log i (kind.Rmw a line version) → line ≡ line_of w.top a.word
rmw_of_its_line w log r i b k v at =
    let a = happened w log i (kind.Rmw b k v) r at in
    let same : k.0 ≡ (line_of w.top b.word).0 = sym (line_is w a.step.event.cluster.0 b k v a.step.done (a.state.parts a.step.event.cluster.0) (guard_of w log i (kind.Rmw b k v) a)) in
    λ x. record { 0 = same x }
