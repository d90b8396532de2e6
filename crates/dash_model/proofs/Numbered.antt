-- The versions that commits make.
use Rattle.std.proofs.Common.{◌≡◌, ℕ, ◌+◌, ◌<◌, true, None, Some, List, [], ◌∷◌, ◌++◌, refl, ap, ◌∙◌, subst, arith}
use Rattle.dash_base.specs.declared.id.HartId.{HartId}
use Rattle.dash_base.specs.declared.id.LineId.{LineId}
use Rattle.dash_base.specs.declared.line.Line.{Line}
use Rattle.dash_event.specs.declared.access.Access.{Access}
use Rattle.dash_event.specs.declared.access.Seen.TheVariants as seen
use Rattle.dash_event.specs.declared.event.Event.{Event}
use Rattle.dash_event.specs.declared.event.Kind.{Kind}
use Rattle.dash_event.specs.declared.event.Kind.TheVariants as kind
use Rattle.dash_model.specs.Maps.{raised, most}
use Rattle.hart_core.specs.Access.{IsInMemory}
use Rattle.dash_model.specs.Config.{Config, line_id, lines, line_at}
use Rattle.dash_model.specs.Cell.{Copy, NoCopy, Held}
use Rattle.dash_model.specs.Part.{Part}
use Rattle.dash_model.specs.Words.{in_m, content}
use Rattle.dash_model.specs.HartRows.{HartEffect}
use Rattle.dash_model.specs.HartGuards.{CommitFits, RmwFits}
use Rattle.dash_model.specs.Guard.{Guard}
use Rattle.dash_model.specs.Machine.{Machine, IsRun, Reaches}
use Rattle.dash_model.specs.Log.{Commits}
use Rattle.dash_model.specs.History.{version_of, StaysBelowGreatest}
use Rattle.dash_model.proofs.LineFacts.{runs_keep_lines}
use Rattle.dash_model.proofs.Prefix.{events_happen}
use Rattle.dash_model.proofs.Stores.{AllStored, IsListed}
use Rattle.dash_model.proofs.Told.{raised_below, rmw_writes}
use Rattle.dash_model.proofs.Reached.{each_reached}
use Rattle.dash_model.proofs.Budgets.{within_budgets, below_greatest}

-- a hart in state M has the owner's content
owner_version : (c : Copy) (h v : ℕ) → in_m h c ≡ true
    → ((hs : List ℕ) (o : ℕ) (d : Line) → c ≡ Held hs (Some o) d → d.version ≡ v) → (content c).version ≡ v
owner_version (Held (x ∷ []) (Some o) d) h v e f = f (x ∷ []) o d refl
owner_version (Held (x ∷ []) None d) h v e f = absurd (cc)
owner_version (Held [] o d) h v e f = absurd (cc)
owner_version (Held (x ∷ y ∷ ys) o d) h v e f = absurd (cc)
owner_version NoCopy h v e f = absurd (cc)

commit_fits : (w : Config) (c : ℕ) (y : Kind) (d : HartEffect) (p : Part) (h : HartId) (n : ℕ) (k : LineId) (v : ℕ)
    → y ≡ kind.Commit h n k v → Guard w c y d p → CommitFits w c h.0 n k.0 v p
unfolding Guard
commit_fits w c y d p h n k v e g = subst (λ z. Guard w c z d p) e g

rmw_fits : (w : Config) (c : ℕ) (y : Kind) (d : HartEffect) (p : Part) (a : Access) (k : LineId) (v : ℕ)
    → y ≡ kind.Rmw a k v → Guard w c y d p → RmwFits w c a k.0 v d p
unfolding Guard
rmw_fits w c y d p a k v e g = subst (λ z. Guard w c z d p) e g

-- where a commit's word is, is a line of memory
pub line_below : (w : Config) (address l : ℕ) → IsInMemory w.top address 4 → line_at w address ≡ l → l < lines w
line_below w address l i e =
    let pages = w.top.memory_in_pages in
    let above = i.above in
    let below = i.below in
    omega arith

pub first_line : (w : Config) → 0 < lines w
first_line w = let some = w.top.memory_in_range in omega arith

pub commit_line : (w : Config) (log : List Event) (m : Machine) (c : ℕ) (h : HartId) (n v : ℕ) (k : LineId) → Reaches w log m → CommitFits w c h.0 n k.0 v (m.parts c) → k.0 < lines w
commit_line w log m c h n v k r g =
    let listed = subst (λ z. IsListed w log h.0 ((m.parts z).harts h.0)) g.mine ((each_reached w log m 0 (first_line w) r).listed h.0) in
    let first = (subst (AllStored w log h.0) g.buffer listed.waiting).0 in
    line_below w first.access.word.0 k.0 first.writes.inside (ap (λ z. line_at w z.word.0) first.entry ∙ g.line)

-- the version that a hart in state M writes over
pub current_version : (w : Config) (log : List Event) (m : Machine) (c h l : ℕ) → l < lines w → Reaches w log m → in_m h ((m.parts c).cells l).copy ≡ true
    → (content ((m.parts c).cells l).copy).version ≡ version_of log l
current_version w log m c h l i r owner = owner_version ((m.parts c).cells l).copy h (version_of log l) owner (λ hs o d is. ((runs_keep_lines w log m l i r).token.owner c hs o d is).version)

pub next_version : (w : Config) (log : List Event) (l v n : ℕ) → IsRun w log → v ≡ raised most n → n ≡ version_of log l → v ≡ version_of log l + 1
next_version w log l v n r e f = e ∙ ap (raised most) f ∙ raised_below (version_of log l) (below_greatest w log (line_id l) r)

pub commit_numbered : (w : Config) (before rest : List Event) (e : Event) (h : HartId) (n : ℕ) (k : LineId) (v : ℕ)
    → IsRun w (before ++ (e ∷ rest)) → e.kind ≡ kind.Commit h n k v → v ≡ version_of before k.0 + 1
commit_numbered w before rest e h n k v r q =
    let s = events_happen w before rest e r in
    let c = s.step.event.cluster.0 in
    let g = commit_fits w c s.step.event.kind s.step.done (s.state.parts c) h n k v (ap (λ (x : Event). x.kind) s.is ∙ q) s.can.steps.guard in
    next_version w before k.0 v _ s.reached.run g.version_is (current_version w before s.state c h.0 k.0 (commit_line w before s.state c h n v k s.reached g) s.reached g.owner)

pub rmw_numbered : (w : Config) (before rest : List Event) (e : Event) (a : Access) (k : LineId) (v : ℕ)
    → IsRun w (before ++ (e ∷ rest)) → e.kind ≡ kind.Rmw a k v
    → (v ≡ version_of before k.0 + 1) × (a.seen ≡ seen.Line (version_of before k.0))
rmw_numbered w before rest e a k v r q =
    let s = events_happen w before rest e r in
    let c = s.step.event.cluster.0 in
    let can = subst (λ z. Guard w c z s.step.done (s.state.parts c)) (ap (λ (x : Event). x.kind) s.is ∙ q) s.can.steps.guard in
    let g = rmw_fits w c (kind.Rmw a k v) s.step.done (s.state.parts c) a k v refl can in
    let i = line_below w a.word.0 k.0 (rmw_writes w c a k v s.step.done (s.state.parts c) can).inside g.line in
    let version = current_version w before s.state c a.hart.0 k.0 i s.reached g.owner in
    (next_version w before k.0 v _ s.reached.run g.version_is version, g.access.seen_is ∙ ap seen.Line version)

-- no commit makes the greatest version
not_greatest : (w : Config) (before rest : List Event) (e : Event) (l v : ℕ) → IsRun w (before ++ (e ∷ rest)) → v ≡ version_of before l + 1 → v < most
not_greatest w before rest e l v r is =
    let paid = within_budgets w before (line_id l) (events_happen w before rest e r).reached.run in
    let work = w.top.work_in_range in
    omega arith

made_below : (w : Config) (before rest : List Event) (e : Event) (k : Kind) (hart : HartId) (line : LineId) (v : ℕ) → IsRun w (before ++ (e ∷ rest)) → e.kind ≡ k → Commits k hart line v → v < most
made_below w before rest e (kind.Commit h n l u) hart line v r is of = subst (λ z. z < most) of.2 (not_greatest w before rest e l.0 u r (commit_numbered w before rest e h n l u r is))
made_below w before rest e (kind.Rmw a l u) hart line v r is of = subst (λ z. z < most) of.2 (not_greatest w before rest e l.0 u r (rmw_numbered w before rest e a l u r is).0)
made_below w before rest e _ hart line v r is of = absurd of

pub versions_stay_below : (w : Config) (log : List Event) (l : ℕ) → IsRun w log → StaysBelowGreatest w log l
versions_stay_below w log l r = record {
  within_budgets = within_budgets w log (line_id l) r;
  below_greatest = below_greatest w log (line_id l) r;
  made = λ before rest e hart v at of. made_below w before rest e e.kind hart (line_id l) v (subst (IsRun w) at r) refl of;
}
