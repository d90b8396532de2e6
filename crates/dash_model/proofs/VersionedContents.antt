-- Every content of a line, wherever it is, has the words that the log's commits up to its version make of it.
use Rattle.std.proofs.Common.{List, None, Some, [], ap, ap₂, arith, cond, subst, sym, ℕ, ◌++◌, ◌+◌, ◌<◌, ◌∙◌, ◌∷◌, ◌≡◌}
use Rattle.std.proofs.Math.Seq.{take-append_seam}
use Rattle.std.proofs.lemmas.Grind.{flat_map-append}
use Rattle.std.proofs.lemmas.List.{append_assoc}
use Rattle.std.specs.Prelude.{take}
use Rattle.dash_base.specs.declared.line.Line.{Line}
use Rattle.dash_event.specs.declared.event.Event.{Event}
use Rattle.dash_model.proofs.Along.{along, at}
use Rattle.dash_model.proofs.Contents.{off_not}
use Rattle.dash_model.proofs.Everywhere.{Everywhere, act_keeps, take_keeps}
use Rattle.dash_model.proofs.Facts.{came_off, owner_off}
use Rattle.dash_model.proofs.InRuns.{Keeps, in_runs}
use Rattle.dash_model.proofs.LineState as line
use Rattle.dash_model.proofs.LineState.{State, Where, Acts, IsNext, MayAct}
use Rattle.dash_model.proofs.LineViews.{LineStep, Rests, Does_act, Takes_one, line_step}
use Rattle.dash_model.proofs.Reached.{each_reached, next_reached}
use Rattle.dash_model.proofs.Steps.{Invariant}
use Rattle.dash_model.proofs.Tests.{same}
use Rattle.dash_model.proofs.Told.{Told, opening_told, word_by}
use Rattle.dash_model.specs.Acts.{Commit, commit_copy, owe}
use Rattle.dash_model.specs.Cell.{Copy, Held, NoCopy}
use Rattle.dash_model.specs.Config.{Config, home_of, line_at, line_id, lines, opening_line}
use Rattle.dash_model.specs.LineContent.{word_at}
use Rattle.dash_model.specs.LineFacts.{cell_at}
use Rattle.dash_model.specs.Log.{commit_in, commits_of}
use Rattle.dash_model.specs.Machine.{Machine, Reaches, Step, after, opening}
use Rattle.dash_model.specs.OnLine.{on}
use Rattle.dash_model.specs.Words.{word_in}
use Rattle.hart_core.specs.Access.{IsInMemory}

-- the words of a content are those of its version by a log
abbrev pub IsWritten : Config → List Event → ℕ → Line → Type 0
IsWritten w log l d = (address : ℕ) → IsInMemory w.top address 4 → line_at w address ≡ l → word_in w address d ≡ word_at w.image log (line_id l) d.version address

-- so the current content is written, and stays so
pub told_written : (w : Config) (log more : List Event) (l : ℕ) (d : Line) → Told w log l d → IsWritten w (log ++ more) l d
told_written w log more l d k address inside line =
    let firsts : take d.version (commits_of (log ++ more) (line_id l)) ≡ commits_of log (line_id l) = ap₂ take k.version (flat_map-append (λ e. commit_in (line_id l) e.kind) log more) ∙ take-append_seam (commits_of log (line_id l)) (commits_of more (line_id l)) in
    k.words address inside line more ∙ sym (ap (λ ks. word_by w (log ++ more) ks address) firsts)

-- what a commit makes is the current content
made_by : (d v : Line) (c : Copy) (r : ℕ) → IsNext d c → owner_off (commit_copy d c) v + r ≡ 0 → d ≡ v
made_by d v (Held hs (Some o) x) r next off = off_not v d (omega arith)
made_by d v (Held hs None x) r next off = absurd next
made_by d v NoCopy r next off = absurd next

pub made_current : (w : Where) (s : State) (i c t : ℕ) (d v : Line) → IsNext d (s.cells c).copy → Invariant w.home v (line.after w s (Acts i c (Commit t d))) → d ≡ v
made_current w s i c t d v next inv =
    let a = record (s.cells c) { copy = commit_copy d (s.cells c).copy; acks = owe t (s.cells c).acks } in
    made_by d v (s.cells c).copy _ next (subst (λ b. owner_off (cond b a (s.cells c)).copy v + came_off (cond b a (s.cells c)).slot v ≡ 0) (same c) (inv.known c).contents.owner)

-- a step keeps what every content has, where what it makes has it
pub step_keeps : (P : Line → Type 0) (w : Config) (l : ℕ) (v : Line) (m : Machine) (g : Step) → LineStep w l m g → Invariant (home_of w l) v (along w l (after w m g)) → P v → Everywhere P (along w l m) → Everywhere P (along w l (after w m g))
step_keeps P w l v m g (Rests e) inv now old = subst (Everywhere P) (sym e) old
step_keeps P w l v m g (Takes_one f x of first e) inv now old = subst (Everywhere P) (sym e) (take_keeps P (at w l) (along w l m) g.event.stamp g.event.cluster.0 f.0 g.stamp x first old)
step_keeps P w l v m g (Does_act a may e) inv now old =
    subst (Everywhere P) (sym e) (act_keeps P (at w l) (along w l m) g.event.stamp g.event.cluster.0 a (λ t d is. subst P (sym (made_current (at w l) (along w l m) g.event.stamp g.event.cluster.0 t d v (subst (λ y. MayAct y (cell_at l m g.event.cluster.0)) is may) (subst (Invariant (home_of w l) v) (e ∙ ap (λ y. line.after (at w l) (along w l m) (Acts g.event.stamp g.event.cluster.0 y)) is) inv))) now) old)

-- by the log, and by each that goes on
abbrev pub AllWritten : Config → ℕ → List Event → Machine → Type 0
AllWritten w l log m = (more : List Event) → Everywhere (IsWritten w (log ++ more) l) (along w l m)

opening_written : (w : Config) (l : ℕ) → AllWritten w l [] (opening w)
unfolding on
opening_written w l more = record { net = tt; mem = told_written w [] more l (opening_line w l) (opening_told w l); copy = λ x. tt; slot = λ x. tt }

written_keeps : (w : Config) (l : ℕ) → l < lines w → Keeps w (AllWritten w l)
written_keeps w l low log m g r can old more =
    let now = next_reached w log m g l low r can in
    let before = each_reached w log m l low r in
    let e = append_assoc log (g.event ∷ []) more in
    step_keeps (IsWritten w ((log ++ g.event ∷ []) ++ more) l) w l now.content m g (line_step w l before.content m g low can before.holds) now.holds.invariant (told_written w (log ++ g.event ∷ []) more l now.content now.told) (subst (λ es. Everywhere (IsWritten w es l) (along w l m)) (sym e) (old (g.event ∷ more)))

pub all_written : (w : Config) (log : List Event) (m : Machine) (l : ℕ) → l < lines w → Reaches w log m → AllWritten w l log m
all_written w log m l low r = in_runs w (AllWritten w l) (opening_written w l) (written_keeps w l low) log m r
