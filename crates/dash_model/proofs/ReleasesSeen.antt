-- What a hart committed before a release, and what an atomic operation commits, each later event sees that is shown a version of the line.
use Rattle.std.proofs.Common.{List, [], ap, arith, refl, subst, sym, ℕ, ◌++◌, ◌<◌, ◌∷◌, ◌≡◌, ◌∙◌}
use Rattle.dash_base.specs.Places.{line_of}
use Rattle.dash_base.specs.declared.id.HartId.{HartId}
use Rattle.dash_base.specs.declared.id.LineId.{LineId}
use Rattle.dash_event.specs.declared.access.Access.{Access}
use Rattle.dash_event.specs.declared.event.Event.{Event}
use Rattle.dash_event.specs.declared.event.Kind.TheVariants as kind
use Rattle.dash_model.proofs.Along.{along}
use Rattle.dash_model.proofs.DrainedHarts.{nothing_is_owed}
use Rattle.dash_model.proofs.Earlier.{guard_of}
use Rattle.dash_model.proofs.Facts.{NoneToRead}
use Rattle.dash_model.proofs.Floors.{Floor, floor_keeps, shown_above, stays, under}
use Rattle.dash_model.proofs.Happened.{Happened, happened, before_is, lasts}
use Rattle.dash_model.proofs.Late.{Seen, Owed, ByAll, Late, late_keeps, made_late, seen_at_once}
use Rattle.dash_model.proofs.OwedFacts.{runs_owe_as_logged}
use Rattle.dash_model.proofs.OwnCommits.{made_at, made_version}
use Rattle.dash_model.proofs.Reached.{next_reached}
use Rattle.dash_model.proofs.ShownVersions.{shown_at, shown_low}
use Rattle.dash_model.specs.Cell.{NoAcks}
use Rattle.dash_model.specs.Config.{Config, line_at, line_id, lines}
use Rattle.dash_model.specs.Guard.{Guard}
use Rattle.dash_model.specs.HartRows.{HartEffect}
use Rattle.dash_model.specs.Log.{Commits, IsEventAt}
use Rattle.dash_model.specs.Machine.{IsRun, after}
use Rattle.dash_model.specs.Maps.{member}
use Rattle.dash_model.specs.Owed.{IsOwed}
use Rattle.dash_model.specs.OwedFacts.{owed_to}
use Rattle.dash_model.specs.Part.{Part}
use Rattle.dash_model.specs.Release.{IsReleaseEvent, ReleasesAreSeen, AtomicsAreSeen}

-- at a release nothing is owed, so nothing older is there to read
seen_by_release : (w : Config) (log : List Event) (l c u p : ℕ) (hart : HartId) (release : IsReleaseEvent w.image log p hart) (h : Happened w log p release.kind) → IsRun w log → l < lines w → Seen w l c hart.0 u h.state → (x : ℕ) → NoneToRead (under u) (along w l h.state) x
seen_by_release w log l c u p hart release h run low (Owed owed) x =
    let due = (runs_owe_as_logged w h.before h.state l c low h.reached).from_entry hart.0 (ap (λ a. member hart.0 (owed_to a)) owed.knows.is ∙ owed.has) in
    absurd (nothing_is_owed w log run p hart (line_id l) release (subst (λ es. IsOwed w.top es hart (line_id l)) (before_is w log p release.kind h) due))
seen_by_release w log l c u p hart release h run low (ByAll none) x = none x

pub releases_are_seen : (w : Config) (log : List Event) → IsRun w log → ReleasesAreSeen w.image w.top log
releases_are_seen w log run p hart i line u j a v release commit first shown later is =
    let s = made_at w log i commit.kind hart (line_of w.top a.word) u run commit.at (subst (λ k. Commits commit.kind hart k u) (sym is) commit.is) in
    let h = happened w log p release.kind run release.at in
    let t = shown_at w log j a v run shown in
    let c = s.at.step.event.cluster.0 in
    let x = t.at.step.event.cluster.0 in
    let l = line_at w a.word.0 in
    let low = shown_low w x v a (t.at.state.parts x) t.shows in
    let late = lasts w (Late w l c hart.0 u) (late_keeps w l c hart.0 u low) log i p commit.kind release.kind run s.at h first (made_late w s.at.before s.at.state s.at.step l hart.0 u low s.at.reached s.at.can s.made) in
    let floor : Floor w l u x h.before h.state = record { made = late.made; none = seen_by_release w log l c u p hart release h run low late.seen x } in
    shown_above w log j u a v t (stays w (Floor w l u x) (floor_keeps w l u x low) log p j release.kind t.kind run h t.at later floor)

not_pending : (w : Config) (c : ℕ) (a : Access) (line : LineId) (u : ℕ) (d : HartEffect) (p : Part) → Guard w c (kind.Rmw a line u) d p → (p.cells line.0).acks ≡ NoAcks
unfolding Guard
not_pending w c a line u d p g = g.not_pending

pub atomics_are_seen : (w : Config) (log : List Event) → IsRun w log → AtomicsAreSeen w.top log
atomics_are_seen w log run i a line u j b v there shown later is =
    let k = line_of w.top b.word in
    let e = kind.Rmw a k u in
    let s = made_at w log i e a.hart k u run (subst (λ y. IsEventAt log i (kind.Rmw a y u)) (sym is) there) (refl, refl, refl) in
    let t = shown_at w log j b v run shown in
    let c = s.at.step.event.cluster.0 in
    let x = t.at.step.event.cluster.0 in
    let low = shown_low w x v b (t.at.state.parts x) t.shows in
    let now = next_reached w s.at.before s.at.state s.at.step k.0 low s.at.reached s.at.can in
    let version = made_version w s.at.before s.at.state s.at.step k.0 a.hart.0 u now s.made in
    let told = now.told.version in
    let clear = not_pending w c a k u s.at.step.done (s.at.state.parts c) (guard_of w log i e s.at) in
    let floor : Floor w k.0 u x (s.at.before ++ s.at.step.event ∷ []) (after w s.at.state s.at.step) = record { made = omega arith; none = seen_at_once w s.at.before s.at.state s.at.step k.0 a.hart.0 u now s.made clear x } in
    shown_above w log j u b v t (lasts w (Floor w k.0 u x) (floor_keeps w k.0 u x low) log i j e t.kind run s.at t.at later floor)
