-- From a commit on, acknowledgements of its line are owed to its hart, or nothing older is there to read.
use Rattle.std.proofs.Common.{Bool, List, [], ap, arith, cond, false, inl, inr, refl, subst, sym, true, ℕ, ◌++◌, ◌+◌, ◌<◌, ◌==◌, ◌||◌, ◌∙◌, ◌∷◌, ◌≡◌, ◌≤◌, ◌⊎◌}
use Rattle.dash_base.specs.declared.id.ClusterId.{ClusterId}
use Rattle.dash_event.specs.declared.event.Event.{Event}
use Rattle.dash_event.specs.declared.event.Kind.TheVariants as kind
use Rattle.dash_event.specs.declared.event.Kind.{Kind}
use Rattle.dash_model.proofs.Along.{along}
use Rattle.dash_model.proofs.Facts.{Counted, Facts, NoneToRead, Place, counting, holds, waits_own}
use Rattle.dash_model.proofs.Floors.{not_under, step_reads, under}
use Rattle.dash_model.proofs.InRuns.{Keeps}
use Rattle.dash_model.proofs.LineState.{State}
use Rattle.dash_model.proofs.LineViews.{line_step}
use Rattle.dash_model.proofs.OwedEntry.{Entered, Stays, Begins, Ends, Owes, Counts, Told}
use Rattle.dash_model.proofs.OwedFacts.{agrees, member_with}
use Rattle.dash_model.proofs.OwedStep.{cell_step, owner_told}
use Rattle.dash_model.proofs.OwnCommits.{MadeBy, its_cell, owns_after, made_version}
use Rattle.dash_model.proofs.PendingFacts.{Knows, has_token}
use Rattle.dash_model.proofs.Reached.{IsAt, each_reached, next_reached, version_first}
use Rattle.dash_model.proofs.Settled.{settled, tokens}
use Rattle.dash_model.proofs.Tests.{is_same, same}
use Rattle.dash_model.specs.Acts.{owe}
use Rattle.dash_model.specs.Cell.{Acks, Asked, Cell, Counting, Expects, NoAcks, Owns, Slot}
use Rattle.dash_model.specs.Config.{Config, home_of, line_id, lines}
use Rattle.dash_model.specs.HartRows.{HartEffect}
use Rattle.dash_model.specs.History.{version_of}
use Rattle.dash_model.specs.LineFacts.{cell_at}
use Rattle.dash_model.specs.Machine.{CanHappen, Machine, Reaches, Step, after, part_after}
use Rattle.dash_model.specs.Maps.{member, weigh, with_member}
use Rattle.dash_model.specs.OnLine.{owned, counts_to}
use Rattle.dash_model.specs.Owed.{acknowledged_by}
use Rattle.dash_model.specs.Part.{Part}
use Rattle.dash_model.specs.Ranges.{applies}
use Rattle.dash_model.specs.Replies.{counted}
use Rattle.dash_model.specs.Row.{msg_row_if, row}
use Rattle.dash_msg.specs.declared.msg.Msg.TheVariants.{Ack, TransferAck}
use Rattle.dash_msg.specs.declared.msg.Msg.{Msg}

-- an entry that knows its number owes to the hart
pub record OwesTo (h : ℕ) (a : Acks) : Type 0 where
  pub knows : Knows a
  pub has : member h knows.owed ≡ true

-- the hart is owed at the cluster's entry, or no cluster has anything older to read than this version
pub data Seen (w : Config) (l c h u : ℕ) (m : Machine) : Type 0 where
  Owed : OwesTo h (cell_at l m c).acks → Seen w l c h u m
  ByAll : ((x : ℕ) → NoneToRead (under u) (along w l m) x) → Seen w l c h u m

-- and the version was committed
pub record Late (w : Config) (l c h u : ℕ) (log : List Event) (m : Machine) : Type 0 where
  pub made : u ≤ version_of log l
  pub seen : Seen w l c h u m

-- the event takes the last acknowledgement
record Clears (l : ℕ) (e : Kind) (b : Acks) : Type 0 where
  pub from : ClusterId
  pub msg : Msg
  pub takes : e ≡ kind.Take from msg
  pub is : acknowledged_by (line_id l) msg ≡ 1
  pub none : b ≡ NoAcks

or_true : (b : Bool) → b || true ≡ true
or_true true = refl
or_true false = refl

counts_if : (l h n g : ℕ) (o : List ℕ) (e : Kind) (b : Acks) (f : ClusterId) (m : Msg) (i : Bool) → e ≡ kind.Take f m → acknowledged_by (line_id l) m ≡ 1 → member h o ≡ true → b ≡ cond i NoAcks (Expects n g o) → OwesTo h b ⊎ Clears l e b
counts_if l h n g o e b f m true takes is k to = inr (record { from = f; msg = m; takes = takes; is = is; none = to })
counts_if l h n g o e b f m false takes is k to = inl (record { knows = record { expected = n; got = g; owed = o; is = to }; has = k })

-- who is owed stays so, until the last acknowledgement comes
owed_step : (w : Config) (c l h : ℕ) (e : Kind) (a b : Acks) → Entered w c l e a b → OwesTo h a → OwesTo h b ⊎ Clears l e b
owed_step w c l h e a b (Stays to q) k = inl (subst (OwesTo h) (sym to) k)
owed_step w c l h e a b (Begins from to q) k = absurd (let z = sym from ∙ k.knows.is in cc)
owed_step w c l h e a b (Ends o from to q) k = absurd (let z = sym from ∙ k.knows.is in cc)
owed_step w c l h e a b (Owes g v mine is only i j takes told to) k =
    let y = k.knows in
    inl (record { knows = record { expected = y.expected; got = y.got; owed = with_member g.0 y.owed; is = to ∙ ap (owe g.0) y.is }; has = member_with h g.0 y.owed ∙ ap (λ b. (g.0 == h) || b) k.has ∙ or_true (g.0 == h) })
owed_step w c l h e a b (Counts f m is off i j some to) k =
    let y = k.knows in
    counts_if l h y.expected (y.got + 1) y.owed e b f m (y.got + 1 == y.expected) is j k.has (to ∙ ap counted y.is)
owed_step w c l h e a b (Told f d n g o is from to) k = absurd (let z = sym from ∙ k.knows.is in cc)

-- an acknowledgement moves no token
ack_at : (l k : ℕ) (p : Part) (a : Acks) (i : Bool) → (l == k) ≡ i → tokens (cond i (record (p.cells k) { acks = a }) (p.cells l)) ≡ tokens (p.cells l)
ack_at l k p a true e = ap (λ y. tokens (p.cells y)) (sym (is_same l k e))
ack_at l k p a false e = refl

ack_if : (w : Config) (c l : ℕ) (f : ClusterId) (m : Msg) (d : HartEffect) (p : Part) (b : Bool) → acknowledged_by (line_id l) m ≡ 1 → tokens ((msg_row_if b w c f.0 m d p).part.cells l) ≡ tokens (p.cells l)
ack_if w c l f m d p false is = refl
ack_if w c l f (Ack k) d p true is = ack_at l k.0 p (counted (p.cells k.0).acks) (l == k.0) refl
ack_if w c l f (TransferAck k) d p true is = ack_at l k.0 p (counted (p.cells k.0).acks) (l == k.0) refl
ack_if w c l f _ d p true is = absurd (cc)

ack_moves : (w : Config) (c l : ℕ) (e : Kind) (d : HartEffect) (p : Part) (b : Acks) → Clears l e b → tokens ((row w c e d p).part.cells l) ≡ tokens (p.cells l)
unfolding row
ack_moves w c l e d p b k = ap (λ y. tokens ((row w c y d p).part.cells l)) k.takes ∙ ack_if w c l k.from k.msg d p (applies w c k.msg p) k.is

-- an entry that knows its number is of a cluster that has the line to own
waits_not : (s : Slot) (n g : ℕ) (o : List ℕ) (x d h : ℕ) → Counted s (Expects n g o) x d h → waits_own s ≡ 0
waits_not (Owns i t Asked) n g o x d h k = absurd k
waits_not _ n g o x d h k = refl

has_line : (h c : ℕ) (s : State) (p : Place) → Facts h s p c → Knows (s.cells c).acks → 1 ≤ tokens (s.cells c)
has_line h c s p k knows =
    let one = has_token h c s p k knows in
    let token = k.tokens.token in
    let own = k.requests.own in
    let none = waits_not (s.cells c).slot knows.expected knows.got knows.owed (counting c s) (weigh (counts_to c) s.net) (holds p c) (subst (λ a. Counted (s.cells c).slot a (counting c s) (weigh (counts_to c) s.net) (holds p c)) knows.is k.counts) in
    omega arith

-- one step of a run
module _ (w : Config) (log : List Event) (l h u : ℕ) (m : Machine) (g : Step) (low : l < lines w) (can : CanHappen w m g) (r : Reaches w log m) (made : u ≤ version_of log l) where
  -- after the last acknowledgement nothing older is there to read
  cleared : OwesTo h (cell_at l m g.event.cluster.0).acks → Clears l g.event.kind (cell_at l (after w m g) g.event.cluster.0).acks → (x : ℕ) → NoneToRead (under u) (along w l (after w m g)) x
  cleared owed k =
      let c = g.event.cluster.0 in
      let before = each_reached w log m l low r in
      let now = next_reached w log m g l low r can in
      let more = version_first log (g.event ∷ []) l in
      let version = now.told.version in
      let stay : tokens (cell_at l (after w m g) c) ≡ tokens (cell_at l m c) = ap tokens (its_cell w m g l) ∙ ack_moves w c l g.event.kind g.done (m.parts c) (cell_at l (after w m g) c).acks k in
      let has = has_line (home_of w l) c (along w l m) before.holds.invariant.place (before.holds.invariant.known c).facts owed.knows in
      settled (home_of w l) now.content (along w l (after w m g)) now.holds.invariant c (omega arith) k.none (under u) (not_under u now.content (omega arith))

  seen_own : OwesTo h (cell_at l m g.event.cluster.0).acks → Seen w l g.event.cluster.0 h u (after w m g)
  seen_own owed =
      let c = g.event.cluster.0 in
      let i = each_reached w log m l low r in
      let step = cell_step w l i.content m c g.stamp g.event.kind g.done low can.steps.guard can.head i.holds (agrees w log m l c low r).alone in
      let entered = subst (λ (y : Cell). Entered w c l g.event.kind (cell_at l m c).acks y.acks) (sym (its_cell w m g l)) step.entered in
      elim (owed_step w c l h g.event.kind (cell_at l m c).acks (cell_at l (after w m g) c).acks entered owed) [ inl z ↦ Owed z | inr k ↦ ByAll (cleared owed k) ]

  seen_if : (c : ℕ) (b : Bool) → (c == g.event.cluster.0) ≡ b → OwesTo h (cell_at l m c).acks → Seen w l c h u (after w m g)
  seen_if c true is owed = let s = is_same c g.event.cluster.0 is in subst (λ y. Seen w l y h u (after w m g)) (sym s) (seen_own (subst (λ y. OwesTo h (cell_at l m y).acks) s owed))
  seen_if c false is owed = Owed (subst (λ b. OwesTo h ((cond b (part_after w g.event.cluster.0 g (m.parts g.event.cluster.0)) (m.parts c)).cells l).acks) (sym is) owed)

  seen_step : (c : ℕ) → Seen w l c h u m → Seen w l c h u (after w m g)
  seen_step c (Owed owed) = seen_if c (c == g.event.cluster.0) refl owed
  seen_step c (ByAll none) =
      let a = each_reached w log m l low r in
      let version = a.told.version in
      ByAll (λ x. step_reads (under u) w l x a.content m g (not_under u a.content (omega arith)) (line_step w l a.content m g low can a.holds) a.holds.invariant (none x))

pub late_keeps : (w : Config) (l c h u : ℕ) → l < lines w → Keeps w (Late w l c h u)
late_keeps w l c h u low log m g r can k =
    let more = version_first log (g.event ∷ []) l in
    let made = k.made in
    record { made = omega arith; seen = seen_step w log l h u m g low can r k.made c k.seen }

-- a commit where nothing is pending is seen by all at once, and another one is owed
module _ (w : Config) (log : List Event) (m : Machine) (g : Step) (l h u : ℕ) (now : IsAt w (log ++ g.event ∷ []) l (after w m g)) (k : MadeBy w m g h l u) where
  pub seen_at_once : (cell_at l m g.event.cluster.0).acks ≡ NoAcks → (x : ℕ) → NoneToRead (under u) (along w l (after w m g)) x
  seen_at_once clear =
      let version = made_version w log m g l h u now k in
      let has : owned (cell_at l (after w m g) g.event.cluster.0).copy ≡ 1 = ap owned (owns_after w log m g l h u now k) in
      settled (home_of w l) now.content (along w l (after w m g)) now.holds.invariant g.event.cluster.0 (omega arith) (ap (λ (y : Cell). y.acks) k.cell ∙ ap (owe h) clear) (under u) (not_under u now.content (omega arith))

  made_seen : (a : Acks) → (cell_at l m g.event.cluster.0).acks ≡ a → ((n : ℕ) (o : List ℕ) → a ≡ Counting n o → ⊥) → Seen w l g.event.cluster.0 h u (after w m g)
  made_seen NoAcks is told = ByAll (seen_at_once is)
  made_seen (Counting n o) is told = absurd (told n o refl)
  made_seen (Expects e n o) is told = Owed (record { knows = record { expected = e; got = n; owed = with_member h o; is = ap (λ (y : Cell). y.acks) k.cell ∙ ap (owe h) is }; has = member_with h h o ∙ ap (λ b. b || member h o) (same h) })

pub made_late : (w : Config) (log : List Event) (m : Machine) (g : Step) (l h u : ℕ) → l < lines w → Reaches w log m → CanHappen w m g → MadeBy w m g h l u → Late w l g.event.cluster.0 h u (log ++ g.event ∷ []) (after w m g)
made_late w log m g l h u low r can k =
    let c = g.event.cluster.0 in
    let before = each_reached w log m l low r in
    let now = next_reached w log m g l low r can in
    let version = made_version w log m g l h u now k in
    let told = now.told.version in
    record {
      made = omega arith;
      seen = made_seen w log m g l h u now k (cell_at l m c).acks refl (owner_told (home_of w l) w c l m before.holds.invariant.place h (before.holds.invariant.known c).facts (agrees w log m l c low r).alone k.owner);
    }
