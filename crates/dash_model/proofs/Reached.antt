-- Every run keeps the invariant of each line of memory, with the content that the log tells.
use Rattle.std.proofs.Common.{◌≡◌, ℕ, ◌+◌, ◌≤◌, ◌<◌, true, cond, None, Some, List, [], ◌∷◌, ◌++◌, length, map, append-nil, refl, sym, ap, ◌∙◌, subst, inl, inr, arith}
use Rattle.std.proofs.lemmas.Bool.Decides.{nat_tests}
use Rattle.std.proofs.lemmas.Grind.{flat_map-append}
use Rattle.std.proofs.lemmas.List.{append_assoc, length-append}
use Rattle.dash_base.specs.declared.line.Line.{Line}
use Rattle.dash_event.specs.declared.event.Event.{Event}
use Rattle.dash_event.specs.declared.event.Kind.{Kind}
use Rattle.dash_event.specs.declared.event.Kind.TheVariants as kind
use Rattle.dash_model.specs.Maps.{weigh, most}
use Rattle.dash_model.specs.Config.{Config, line_id, lines, home_of, opening_line}
use Rattle.dash_model.specs.Cell.{Copy, NoCopy, Held}
use Rattle.dash_model.specs.Words.{in_m, content}
use Rattle.dash_model.specs.Machine.{Machine, Step, event_of, CanHappen, after, opening, AreSteps, state_after, Reaches}
use Rattle.dash_model.specs.OnLine.{on}
use Rattle.dash_model.specs.Log.{commit_in, commits_of}
use Rattle.dash_model.specs.History.{version_of}
use Rattle.dash_model.proofs.SameLine.{same-self}
use Rattle.dash_model.proofs.Facts.{AtHome, Facts, Contents, owner_off, came_off}
use Rattle.dash_model.proofs.Contents.{off_not}
use Rattle.dash_model.proofs.Bounds.{Bounded}
use Rattle.dash_model.proofs.Everywhere.{Everywhere, NotNewer}
use Rattle.dash_model.proofs.Along.{along}
use Rattle.dash_model.proofs.Views.{content_by}
use Rattle.dash_model.proofs.Lift.{Holds, keeps_line}
use Rattle.dash_model.proofs.Stores.{IsListed, Listed, step_listed}
use Rattle.dash_model.proofs.Told.{Told, Knows, told_step, opening_told}
use Rattle.dash_model.proofs.Budgets.{below_greatest}

opening_facts : (w : Config) (l x : ℕ) → Facts (home_of w l) (along w l (opening w)) AtHome x
unfolding on weigh
opening_facts w l x = record {
  requests = record { read = omega arith; own = omega arith; all = refl; reading = omega arith; routed = refl };
  tokens = record { token = refl; back = refl; leaving = refl; gaining = refl; entry = refl; home = refl; backs = refl };
  epoch = record { one_owner = inl refl; others = refl };
  counts = (refl, refl);
}

opening_contents : (w : Config) (l x : ℕ) → Contents (along w l (opening w)) AtHome (opening_line w l) x
unfolding on weigh
opening_contents w l x = record { brought = refl; given = refl; owner = refl; mem = inr (ap (λ b. cond {A = ℕ} b 0 1) (same-self (opening_line w l))); fresh = inr refl }

opening_bounded : (w : Config) (l : ℕ) → Bounded w.top.clusters (along w l (opening w))
unfolding on
opening_bounded w l = record { net = tt; entry = tt; acks = λ x. tt }

opening_newest : (w : Config) (l : ℕ) → Everywhere (NotNewer (opening_line w l)) (along w l (opening w))
unfolding on
opening_newest w l = record { net = tt; mem = omega arith; copy = λ x. tt; slot = λ x. tt }

opening_holds : (w : Config) (l : ℕ) → Holds w l (opening_line w l) (opening w)
opening_holds w l = record {
  invariant = record { place = AtHome; known = λ x. record { facts = opening_facts w l x; covered = inr (inl refl); contents = opening_contents w l x } };
  bounded = opening_bounded w l;
  newest = opening_newest w l;
}

-- line l in a state that a run of this log reached
pub record IsAt (w : Config) (log : List Event) (l : ℕ) (m : Machine) : Type 0 where
  pub content : Line
  pub holds : Holds w l content m
  pub told : Told w log l content
  pub listed : Listed w log m

opening_at : (w : Config) (l : ℕ) → IsAt w [] l (opening w)
opening_at w l = record { content = opening_line w l; holds = opening_holds w l; told = opening_told w l; listed = λ h. record { waiting = tt; none = λ n low. refl } }

-- what a hart in state M has is the current content
owner_has : (h : ℕ) (x : Copy) (v : Line) (r : ℕ) → in_m h x ≡ true → owner_off x v + r ≡ 0 → content x ≡ v
owner_has h (Held (y ∷ []) (Some o) d) v r e z = off_not v d (omega arith)
owner_has h (Held (y ∷ []) None d) v r e z = absurd (cc)
owner_has h (Held [] o d) v r e z = absurd (cc)
owner_has h (Held (x ∷ y ∷ ys) o d) v r e z = absurd (cc)
owner_has h NoCopy v r e z = absurd (cc)

step_at : (w : Config) (log : List Event) (l : ℕ) (m : Machine) (g : Step) → l < lines w → version_of (log ++ g.event ∷ []) l ≤ most → CanHappen w m g → IsAt w log l m → IsAt w (log ++ g.event ∷ []) l (after w m g)
step_at w log l m g i low can k =
    let c = g.event.cluster.0 in
    let knows : Knows w c log l k.content (m.parts c) = record {
      listed = λ h mine. subst (λ z. IsListed w log h ((m.parts z).harts h)) mine (k.listed h);
      owned = λ h e. owner_has h ((m.parts c).cells l).copy k.content (came_off ((m.parts c).cells l).slot k.content) e (k.holds.invariant.known c).contents.owner;
    } in
    record {
      content = content_by w (m.parts c) l k.content g.event.kind;
      holds = keeps_line w l k.content m g i can k.holds;
      told = told_step w c log g.event l k.content g.done (m.parts c) g.event.kind refl can.steps.guard knows low k.told;
      listed = step_listed w log m g can k.listed;
    }

-- a log has no fewer commits than its beginning
pub version_first : (xs ys : List Event) (l : ℕ) → version_of xs l ≤ version_of (xs ++ ys) l
version_first xs ys l =
    let sum : version_of (xs ++ ys) l ≡ version_of xs l + version_of ys l = ap length (flat_map-append (λ e. commit_in (line_id l) e.kind) xs ys) ∙ length-append (commits_of xs (line_id l)) (commits_of ys (line_id l)) in
    omega arith

steps_at : (w : Config) (log : List Event) (l : ℕ) (m : Machine) (gs : List Step) → l < lines w → version_of (log ++ map event_of gs) l ≤ most → AreSteps w m gs → IsAt w log l m → IsAt w (log ++ map event_of gs) l (state_after w m gs)
steps_at w log l m [] i low s k = subst (λ es. IsAt w es l m) (sym (append-nil log)) k
steps_at w log l m (g ∷ gs) i low s k =
    let whole = append_assoc log (g.event ∷ []) (map event_of gs) in
    let all : version_of ((log ++ g.event ∷ []) ++ map event_of gs) l ≤ most = subst (λ es. version_of es l ≤ most) (sym whole) low in
    let first = version_first (log ++ g.event ∷ []) (map event_of gs) l in
    subst (λ es. IsAt w es l (state_after w (after w m g) gs)) whole (steps_at w (log ++ g.event ∷ []) l (after w m g) gs i all s.1 (step_at w log l m g i (omega arith) s.0 k))

pub each_reached : (w : Config) (log : List Event) (m : Machine) (l : ℕ) → l < lines w → Reaches w log m → IsAt w log l m
each_reached w log m l i r =
    let less = below_greatest w log (line_id l) r.run in
    let low : version_of (map event_of r.run.steps) l ≤ most = subst (λ es. version_of es l ≤ most) (sym r.run.events) (omega arith) in
    subst (IsAt w log l) (sym r.state) (subst (λ es. IsAt w es l (state_after w (opening w) r.run.steps)) r.run.events (steps_at w [] l (opening w) r.run.steps i low r.run.happen (opening_at w l)))

-- an event commits a line at most once
few_commits : (l : ℕ) (e : Kind) → length (commit_in (line_id l) e ++ []) ≤ 1
few_commits l (kind.Commit h n k v) = grind (arith, nat_tests)
few_commits l (kind.Rmw a k v) = grind (arith, nat_tests)
few_commits l _ = omega arith

-- and after one more step
pub next_reached : (w : Config) (log : List Event) (m : Machine) (g : Step) (l : ℕ) → l < lines w → Reaches w log m → CanHappen w m g → IsAt w (log ++ g.event ∷ []) l (after w m g)
next_reached w log m g l i r can =
    let less = below_greatest w log (line_id l) r.run in
    let few = few_commits l g.event.kind in
    let sum : version_of (log ++ g.event ∷ []) l ≡ version_of log l + version_of (g.event ∷ []) l = ap length (flat_map-append (λ e. commit_in (line_id l) e.kind) log (g.event ∷ [])) ∙ length-append (commits_of log (line_id l)) (commits_of (g.event ∷ []) (line_id l)) in
    step_at w log l m g i (omega arith) can (each_reached w log m l i r)
