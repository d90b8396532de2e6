-- What a commit makes of its line at its cluster; from it on the cluster has nothing older to read.
use Rattle.std.proofs.Common.{List, None, Some, [], ap, ap₂, arith, cond, refl, subst, sym, true, unwrap_or, ℕ, ◌++◌, ◌<◌, ◌==◌, ◌∙◌, ◌∷◌, ◌≡◌, ◌≤◌}
use Rattle.dash_base.specs.Places.{line_of}
use Rattle.dash_base.specs.declared.id.HartId.{HartId}
use Rattle.dash_base.specs.declared.id.LineId.{LineId}
use Rattle.dash_base.specs.declared.line.Line.{Line}
use Rattle.dash_event.specs.declared.access.Access.{Access}
use Rattle.dash_event.specs.declared.event.Event.{Event}
use Rattle.dash_event.specs.declared.event.Kind.TheVariants as kind
use Rattle.dash_event.specs.declared.event.Kind.{Kind}
use Rattle.dash_model.proofs.Along.{along}
use Rattle.dash_model.proofs.Contents.{commit, owner_current}
use Rattle.dash_model.proofs.Facts.{came_off}
use Rattle.dash_model.proofs.Floors.{Floor, floor_keeps, not_under, reads_copy, shown_above, under}
use Rattle.dash_model.proofs.Happened.{Happened, happened, lasts}
use Rattle.dash_model.proofs.Reached.{IsAt, next_reached}
use Rattle.dash_model.proofs.ShownVersions.{shown_at, shown_low}
use Rattle.dash_model.proofs.Tests.{both_left, both_right, is_same, same}
use Rattle.dash_model.specs.Acts.{commit_copy, owe}
use Rattle.dash_model.specs.Cell.{Cell, Copy, Held, NoCopy}
use Rattle.dash_model.specs.Config.{Config, cluster_of, home_of, line_at}
use Rattle.dash_model.specs.Guard.{Guard}
use Rattle.dash_model.specs.HartRows.{HartEffect, commit_row}
use Rattle.dash_model.specs.LineFacts.{cell_at}
use Rattle.dash_model.specs.Log.{Commits, IsCommitEvent, IsEventAt, IsShown}
use Rattle.dash_model.specs.Machine.{IsRun, Machine, Step, after, part_after}
use Rattle.dash_model.specs.Maps.{most, raised}
use Rattle.dash_model.specs.Part.{Part}
use Rattle.dash_model.specs.Row.{row}
use Rattle.dash_model.specs.Words.{in_m, content, written_in}

-- hart h of cluster c commits version v of line l: its cell becomes this
pub record Made (w : Config) (c h l v : ℕ) (a b : Cell) : Type 0 where
  pub mine : cluster_of w h ≡ c
  pub owner : in_m h a.copy ≡ true
  pub content : Line
  pub version : content.version ≡ v
  pub cell : b ≡ record a { copy = commit_copy content a.copy; acks = owe h a.acks }

made_by : (w : Config) (c h l v address mask value : ℕ) (p : Part) → cluster_of w h ≡ c → in_m h (p.cells l).copy ≡ true → v ≡ raised most (content (p.cells l).copy).version → (b : Cell) → b ≡ cond (l == l) (record (p.cells l) { copy = commit_copy (written_in w address mask value (content (p.cells l).copy)) (p.cells l).copy; acks = owe h (p.cells l).acks }) (p.cells l) → Made w c h l v (p.cells l) b
made_by w c h l v address mask value p mine owner version b is = record {
  mine = mine;
  owner = owner;
  content = written_in w address mask value (content (p.cells l).copy);
  version = sym version;
  cell = is ∙ ap (λ i. cond i (record (p.cells l) { copy = commit_copy (written_in w address mask value (content (p.cells l).copy)) (p.cells l).copy; acks = owe h (p.cells l).acks }) (p.cells l)) (same l);
}

guard_makes : (w : Config) (c v : ℕ) (e : Kind) (d : HartEffect) (p : Part) (hart : HartId) (line : LineId) → Guard w c e d p → Commits e hart line v → Made w c hart.0 line.0 v (p.cells line.0) ((row w c e d p).part.cells line.0)
unfolding row Guard
guard_makes w c v (kind.Commit h n l u) d p hart line g is =
    subst (λ z. Made w c z.0 line.0 v (p.cells line.0) ((row w c (kind.Commit h n l u) d p).part.cells line.0)) is.0 (subst (λ z. Made w c h.0 z.0 v (p.cells z.0) ((row w c (kind.Commit h n l u) d p).part.cells z.0)) is.1 (made_by w c h.0 l.0 v g.oldest.word.0 g.oldest.mask g.oldest.value p g.mine g.owner (sym is.2 ∙ g.version_is) ((row w c (kind.Commit h n l u) d p).part.cells l.0) (ap (λ b. (commit_row w h.0 l.0 b p).part.cells l.0) g.buffer)))
guard_makes w c v (kind.Rmw a l u) d p hart line g is =
    subst (λ z. Made w c z.0 line.0 v (p.cells line.0) ((row w c (kind.Rmw a l u) d p).part.cells line.0)) is.0 (subst (λ z. Made w c a.hart.0 z.0 v (p.cells z.0) ((row w c (kind.Rmw a l u) d p).part.cells z.0)) is.1 (made_by w c a.hart.0 l.0 v a.word.0 a.mask (unwrap_or a.written 0) p g.next.mine g.owner (sym is.2 ∙ g.version_is) ((row w c (kind.Rmw a l u) d p).part.cells l.0) refl))
guard_makes w c v _ d p hart line g is = absurd is

-- a step commits it
abbrev pub MadeBy : Config → Machine → Step → ℕ → ℕ → ℕ → Type 0
MadeBy w m g h l v = Made w g.event.cluster.0 h l v (cell_at l m g.event.cluster.0) (cell_at l (after w m g) g.event.cluster.0)

-- the event of a position does
pub record MadeAt (w : Config) (log : List Event) (i : ℕ) (k : Kind) (h l v : ℕ) : Type 0 where
  pub at : Happened w log i k
  pub made : MadeBy w at.state at.step h l v

-- the cell of a step's cluster after it
pub its_cell : (w : Config) (m : Machine) (g : Step) (l : ℕ) → cell_at l (after w m g) g.event.cluster.0 ≡ (row w g.event.cluster.0 g.event.kind g.done (m.parts g.event.cluster.0)).part.cells l
its_cell w m g l = ap (λ b. (cond b (part_after w g.event.cluster.0 g (m.parts g.event.cluster.0)) (m.parts g.event.cluster.0)).cells l) (same g.event.cluster.0)

pub made_at : (w : Config) (log : List Event) (i : ℕ) (k : Kind) (hart : HartId) (line : LineId) (v : ℕ) → IsRun w log → IsEventAt log i k → Commits k hart line v → MadeAt w log i k hart.0 line.0 v
made_at w log i k hart line v run there is =
    let h = happened w log i k run there in
    let c = h.step.event.cluster.0 in
    record {
      at = h;
      made = subst (Made w c hart.0 line.0 v (cell_at line.0 h.state c)) (sym (its_cell w h.state h.step line.0)) (guard_makes w c v h.step.event.kind h.step.done (h.state.parts c) hart line h.can.steps.guard (subst (λ z. Commits z hart line v) (sym h.is) is));
    }

-- who commits owns the line before and after
still_owns : (h : ℕ) (d : Line) (c : Copy) → in_m h c ≡ true → commit_copy d c ≡ Held (h ∷ []) (Some h) d
still_owns h d (Held (x ∷ []) (Some o) e) is = ap₂ (λ y z. Held (y ∷ []) (Some z) d) (is_same x h (both_left (x == h) (o == h) is)) (is_same o h (both_right (x == h) (o == h) is))
still_owns h d (Held (x ∷ []) None e) is = absurd (cc)
still_owns h d (Held [] o e) is = absurd (cc)
still_owns h d (Held (x ∷ y ∷ ys) o e) is = absurd (cc)
still_owns h d NoCopy is = absurd (cc)

-- after a step that commits
module _ (w : Config) (log : List Event) (m : Machine) (g : Step) (l h v : ℕ) (now : IsAt w (log ++ g.event ∷ []) l (after w m g)) (k : MadeBy w m g h l v) where
  pub owns_after : (cell_at l (after w m g) g.event.cluster.0).copy ≡ Held (h ∷ []) (Some h) k.content
  owns_after = ap (λ (z : Cell). z.copy) k.cell ∙ still_owns h k.content (cell_at l m g.event.cluster.0).copy k.owner

  -- the version is that of the current content
  pub made_version : v ≡ now.content.version
  made_version =
      let b = cell_at l (after w m g) g.event.cluster.0 in
      let current : k.content ≡ now.content = owner_current (h ∷ []) h k.content b.copy now.content (came_off b.slot now.content) owns_after (now.holds.invariant.known g.event.cluster.0).contents.owner in
      sym k.version ∙ ap (λ (d : Line). d.version) current

  -- and a floor at its cluster
  made_floor : Floor w l v g.event.cluster.0 (log ++ g.event ∷ []) (after w m g)
  made_floor =
      let c = g.event.cluster.0 in
      let version = made_version in
      let is = k.version in
      let told = now.told.version in
      record { made = omega arith; none = reads_copy (under v) (home_of w l) c (along w l (after w m g)) now.holds.invariant.place (h ∷ []) (Some h) k.content (now.holds.invariant.known c).facts owns_after (not_under v k.content (omega arith)) }

pub own_commits_are_seen : (w : Config) (log : List Event) → IsRun w log → (i j : ℕ) (a : Access) (line : LineId) (u v : ℕ) → i < j → IsCommitEvent log i a.hart line u → IsShown log j a v → line_of w.top a.word ≡ line → u ≤ v
own_commits_are_seen w log run i j a line u v later commit shown is =
    let s = made_at w log i commit.kind a.hart (line_of w.top a.word) u run commit.at (subst (λ k. Commits commit.kind a.hart k u) (sym is) commit.is) in
    let t = shown_at w log j a v run shown in
    let c = s.at.step.event.cluster.0 in
    let l = line_at w a.word.0 in
    let low = shown_low w t.at.step.event.cluster.0 v a (t.at.state.parts t.at.step.event.cluster.0) t.shows in
    let now = next_reached w s.at.before s.at.state s.at.step l low s.at.reached s.at.can in
    let floor = lasts w (Floor w l u c) (floor_keeps w l u c low) log i j commit.kind t.kind run s.at t.at later (made_floor w s.at.before s.at.state s.at.step l a.hart.0 u now s.made) in
    shown_above w log j u a v t (subst (λ y. Floor w l u y t.at.before t.at.state) (sym s.made.mine ∙ t.shows.mine) floor)
