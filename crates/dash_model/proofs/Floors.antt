-- From what a cluster was shown of a line on, it has nothing older to read.
use Rattle.std.proofs.Common.{List, None, Option, Some, [], ap, arith, cond, nat_lt, refl, subst, sym, ℕ, ◌+◌, ◌<◌, ◌∙◌, ◌∷◌, ◌≡◌, ◌≤◌}
use Rattle.std.proofs.lemmas.Bool.Decides.{nat_tests}
use Rattle.dash_base.specs.Places.{line_of}
use Rattle.dash_base.specs.declared.id.HartId.{HartId}
use Rattle.dash_base.specs.declared.id.LineId.{LineId}
use Rattle.dash_base.specs.declared.id.WordAddr.{WordAddr}
use Rattle.dash_base.specs.declared.line.Line.{Line}
use Rattle.dash_base.specs.declared.topology.Topology.{Topology}
use Rattle.dash_event.specs.declared.access.Access.{Access}
use Rattle.dash_event.specs.declared.event.Event.{Event}
use Rattle.dash_event.specs.declared.event.Kind.{Kind}
use Rattle.dash_model.proofs.Along.{along, at}
use Rattle.dash_model.proofs.Contents.{off_not}
use Rattle.dash_model.proofs.Everywhere.{CopyHas, NotNewer}
use Rattle.dash_model.proofs.Facts.{Facts, NoneToRead, Place, asked, came_off, datas_weight, held, is_reading, owner_off, read_weight, shared_weight}
use Rattle.dash_model.proofs.Happened.{Happened, lasts}
use Rattle.dash_model.proofs.InRuns.{Keeps}
use Rattle.dash_model.proofs.Lift.{line_msg}
use Rattle.dash_model.proofs.LineState.{State}
use Rattle.dash_model.proofs.LineSteps.{take_step, act_step}
use Rattle.dash_model.proofs.LineViews.{LineStep, Rests, Does_act, Takes_one, line_step}
use Rattle.dash_model.proofs.Reached.{each_reached, version_first}
use Rattle.dash_model.proofs.ShownVersions.{ShownAt, shown_at, shown_low}
use Rattle.dash_model.proofs.Steps.{Invariant}
use Rattle.dash_model.specs.Cell.{Held, NoSlot, Owns, Reads, Slot}
use Rattle.dash_model.specs.Config.{Config, cluster_of, home_of, line_at, lines}
use Rattle.dash_model.specs.History.{version_of}
use Rattle.dash_model.specs.LineFacts.{cell_at}
use Rattle.dash_model.specs.Log.{IsShown}
use Rattle.dash_model.specs.Machine.{IsRun, Machine, Step, after, less}
use Rattle.dash_model.specs.Maps.{weigh}

-- 1 where a content is older than this version
abbrev pub under : ℕ → Line → ℕ
under f d = cond (nat_lt d.version f) 1 0

pub not_under : (f : ℕ) (d : Line) → f ≤ d.version → under f d ≡ 0
not_under f d less = grind (arith, nat_tests)

from_under : (f : ℕ) (d : Line) → under f d ≡ 0 → f ≤ d.version
from_under f d none = grind (arith, nat_tests)

-- cluster x has nothing older to read than this version of line l, which was committed
pub record Floor (w : Config) (l f x : ℕ) (log : List Event) (m : Machine) : Type 0 where
  pub made : f ≤ version_of log l
  pub none : NoneToRead (under f) (along w l m) x

-- a step keeps it that nothing there to read has weight
pub step_reads : (b : Line → ℕ) (w : Config) (l x : ℕ) (v : Line) (m : Machine) (g : Step) → b v ≡ 0 → LineStep w l m g → Invariant (home_of w l) v (along w l m) → NoneToRead b (along w l m) x → NoneToRead b (along w l (after w m g)) x
step_reads b w l x v m g z (Rests e) inv old = subst (λ s. NoneToRead b s x) (sym e) old
step_reads b w l x v m g z (Does_act a may e) inv old = subst (λ s. NoneToRead b s x) (sym e) ((act_step (at w l) (along w l m) v g.event.stamp g.event.cluster.0 a may inv).reading b z x old)
step_reads b w l x v m g z (Takes_one f y of first e) inv old = subst (λ s. NoneToRead b s x) (sym e) ((take_step (at w l) (along w l m) v g.event.stamp g.event.cluster.0 f.0 g.stamp y (line_msg l y of) first inv).reading b z x old)

pub floor_keeps : (w : Config) (l f x : ℕ) → l < lines w → Keeps w (Floor w l f x)
floor_keeps w l f x low log m g r can k =
    let a = each_reached w log m l low r in
    let more = version_first log (g.event ∷ []) l in
    let made = k.made in
    let version = a.told.version in
    record { made = omega arith; none = step_reads (under f) w l x a.content m g (not_under f a.content (omega arith)) (line_step w l a.content m g low can a.holds) a.holds.invariant k.none }

-- beside a copy there is nothing else to read
none_beside : (b : Line → ℕ) (s : Slot) (n : ℕ) → is_reading s ≡ 0 → read_weight b s + asked s n ≡ 0
none_beside b (Reads i t phase) n k = absurd (omega arith)
none_beside b (Owns i t phase) n k = refl
none_beside b NoSlot n k = refl

copy_none : (b : Line → ℕ) (hs : List ℕ) (o : Option ℕ) (d : Line) → b d ≡ 0 → shared_weight b (Held hs o d) ≡ 0
copy_none b hs None d z = z
copy_none b hs (Some o) d z = refl

pub reads_copy : (b : Line → ℕ) (h x : ℕ) (s : State) (p : Place) (hs : List ℕ) (o : Option ℕ) (d : Line) → Facts h s p x → (s.cells x).copy ≡ Held hs o d → b d ≡ 0 → NoneToRead b s x
reads_copy b h x s p hs o d k is z =
    let one : held (s.cells x).copy ≡ 1 = ap held is in
    let reading = k.requests.reading in
    let here : shared_weight b (s.cells x).copy ≡ 0 = ap (shared_weight b) is ∙ copy_none b hs o d z in
    let beside = none_beside b (s.cells x).slot (weigh (datas_weight b x) s.net) (omega arith) in
    omega arith

-- what is shown is a floor
pub shown_floor : (w : Config) (log : List Event) (i : ℕ) (a : Access) (v : ℕ) (s : ShownAt w log i a v) → Floor w (line_at w a.word.0) v s.at.step.event.cluster.0 s.at.before s.at.state
shown_floor w log i a v s =
    let h = s.at in
    let c = h.step.event.cluster.0 in
    let l = line_at w a.word.0 in
    let now = each_reached w h.before h.state l (shown_low w c v a (h.state.parts c) s.shows) h.reached in
    let d = s.shows.copy.line in
    let less : d.version ≤ now.content.version = subst (CopyHas (NotNewer now.content)) s.shows.copy.is (now.holds.newest.copy c) in
    let version = now.told.version in
    let is = s.shows.version in
    record { made = omega arith; none = reads_copy (under v) (home_of w l) c (along w l h.state) now.holds.invariant.place s.shows.copy.holders s.shows.copy.owner d (now.holds.invariant.known c).facts s.shows.copy.is (not_under v d (omega arith)) }

-- and nothing below a floor is shown
copy_above : (f r : ℕ) (v : Line) (hs : List ℕ) (o : Option ℕ) (d : Line) → f ≤ v.version → owner_off (Held hs o d) v + r ≡ 0 → shared_weight (under f) (Held hs o d) ≡ 0 → f ≤ d.version
copy_above f r v hs None d less off none = from_under f d none
copy_above f r v hs (Some o) d less off none = let e : d.version ≡ v.version = ap (λ (z : Line). z.version) (off_not v d (omega arith)) in omega arith

pub shown_above : (w : Config) (log : List Event) (i f : ℕ) (a : Access) (v : ℕ) (s : ShownAt w log i a v) → Floor w (line_at w a.word.0) f s.at.step.event.cluster.0 s.at.before s.at.state → f ≤ v
shown_above w log i f a v s k =
    let h = s.at in
    let c = h.step.event.cluster.0 in
    let l = line_at w a.word.0 in
    let now = each_reached w h.before h.state l (shown_low w c v a (h.state.parts c) s.shows) h.reached in
    let copy = s.shows.copy in
    let version = now.told.version in
    let made = k.made in
    let none = k.none in
    let shared : shared_weight (under f) (Held copy.holders copy.owner copy.line) ≡ 0 = sym (ap (shared_weight (under f)) copy.is) ∙ (let z : shared_weight (under f) (cell_at l h.state c).copy ≡ 0 = omega arith in z) in
    let above = copy_above f (came_off (cell_at l h.state c).slot now.content) now.content copy.holders copy.owner copy.line (omega arith) (subst (λ y. owner_off y now.content + came_off (cell_at l h.state c).slot now.content ≡ 0) copy.is (now.holds.invariant.known c).contents.owner) shared in
    let is = s.shows.version in
    omega arith

-- what each step keeps, and holds just before an event, holds just before each later one
pub stays : (w : Config) (P : List Event → Machine → Type 0) → Keeps w P → (log : List Event) (i j : ℕ) (d e : Kind) → IsRun w log → (a : Happened w log i d) → (b : Happened w log j e) → i < j → P a.before a.state → P b.before b.state
stays w P keeps log i j d e run a b low k = lasts w P keeps log i j d e run a b low (keeps a.before a.state a.step a.reached a.can k)

same_line : (t : Topology) (a b : WordAddr) → line_of t a ≡ line_of t b → (line_of t a).0 ≡ (line_of t b).0
same_line t a b e = ap (λ (z : LineId). z.0) e

pub never_falls : (w : Config) (log : List Event) → IsRun w log → (i j : ℕ) (a b : Access) (u v : ℕ) → i < j → IsShown log i a u → IsShown log j b v → a.hart ≡ b.hart → line_of w.top a.word ≡ line_of w.top b.word → u ≤ v
never_falls w log run i j a b u v low first later hart line =
    let s = shown_at w log i a u run first in
    let t = shown_at w log j b v run later in
    let c = s.at.step.event.cluster.0 in
    let l = line_at w a.word.0 in
    let floor = stays w (Floor w l u c) (floor_keeps w l u c (shown_low w c u a (s.at.state.parts c) s.shows)) log i j s.kind t.kind run s.at t.at low (shown_floor w log i a u s) in
    let there : c ≡ t.at.step.event.cluster.0 = sym s.shows.mine ∙ ap (λ (h : HartId). cluster_of w h.0) hart ∙ t.shows.mine in
    shown_above w log j u b v t (subst (λ y. Floor w y u t.at.step.event.cluster.0 t.at.before t.at.state) (same_line w.top a.word b.word line) (subst (λ y. Floor w l u y t.at.before t.at.state) there floor))
