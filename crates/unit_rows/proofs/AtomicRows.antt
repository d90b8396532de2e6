-- Atomic operations that write: where the code's parts let a hart do one, they do the event's row.
use Rattle.std.proofs.Common.{◌≡◌, ℕ, ◌+◌, ◌<◌, true, false, if◌then◌else◌, Option, None, Some, unwrap_or, [], slice_index_or, slice_set, refl, sym, ap, ◌∙◌, subst}
use Rattle.dash_base.specs.declared.id.HartId.{HartId}
use Rattle.dash_base.specs.declared.id.LineId.{LineId}
use Rattle.dash_base.specs.declared.id.WordAddr.{WordAddr}
use Rattle.dash_base.specs.declared.instr.Labels.{Labels}
use Rattle.dash_base.specs.declared.line.Line.{Line}
use Rattle.dash_base.specs.declared.ops.AmoOp.{AmoOp}
use Rattle.dash_base.specs.declared.ops.AmoOp.TheVariants.{Sc}
use Rattle.dash_base.specs.declared.need.Need.{Need}
use Rattle.dash_base.specs.declared.need.Need.TheVariants as needed
use Rattle.dash_event.specs.Effects.{reply}
use Rattle.dash_event.specs.Offered.{bare_access, offered, rmw_access}
use Rattle.dash_event.specs.Records.{unseen}
use Rattle.dash_event.specs.declared.access.Access.{Access}
use Rattle.dash_event.specs.declared.access.Op.TheVariants as op
use Rattle.dash_event.specs.declared.access.Seen.TheVariants as seen
use Rattle.dash_event.specs.declared.event.Kind.TheVariants as kind
use Rattle.write_buffer.specs.Look.{newest_of}
use Rattle.ack_counter.specs.View.{Counted, entry_at}
use Rattle.fence_release.proofs.LawsOffered.{MayCommit, commit_tells, drained_holds}
use Rattle.hart_core.specs.declared.front.Front.{Front}
use Rattle.hart_core.specs.HartState.{HartState}
use Rattle.hart_core.specs.Meaning.{IsNext, IsFront, Does}
use Rattle.snoop_bus.specs.View.{BusView, holding_at, after_commit, IsOneMap}
use Rattle.dash_model.specs.Config.{Config, line_id, line_at}
use Rattle.dash_model.specs.Part.{Processor, Part}
use Rattle.dash_model.specs.Words.{in_m, content, word_in, written_in}
use Rattle.dash_model.specs.HartRows.{PartEffect, change, acts, rmw_reserved}
use Rattle.dash_model.specs.HartGuards.{number_of, Drained, HasReserved}
use Rattle.dash_model.specs.Acts.{Commit as Commits, owe}
use Rattle.dash_model.specs.Guard.{Guard}
use Rattle.dash_model.specs.Row.{row}
use Rattle.unit_rows.specs.declared.choice.Choice.TheVariants.{Step}
use Rattle.unit_rows.specs.declared.parts.Local.{Local}
use Rattle.unit_rows.specs.AtomicFits.{AtomicFits, HartFails}
use Rattle.unit_rows.specs.LineNeeds.{is_sc, is_reserved, fails}
use Rattle.unit_rows.specs.Shown.{PartsView, hart_at, acks_by, reserved_by, Shows, AreSized}
use Rattle.unit_rows.specs.Steps.{HartNeeds}
use Rattle.unit_rows.specs.Rows.{Happens, DoesChoice}
use Rattle.unit_rows.proofs.BusTurns.{content-copy_by, with_line}
use Rattle.unit_rows.proofs.Drained.{drained_shown}
use Rattle.unit_rows.proofs.Harts.{shows_change}
use Rattle.unit_rows.proofs.LineNeeds.{reserved_is, not_false}
use Rattle.unit_rows.proofs.Retiring.{effect, number_there, part_does, shown_by, same_local}
use Rattle.unit_rows.proofs.Rewrites.{after, line_shown, sized_after}
use Rattle.unit_rows.proofs.StateM.{has_owner_alone, in_m-owns_alone}
use Rattle.unit_rows.proofs.StoreRows.{does_by, one_access}

-- what a hart has reserved after an operation that wrote
abbrev pub kept : AmoOp → Option WordAddr → Option WordAddr
kept o r = if is_sc o then None else r

-- the hart afterwards
abbrev pub wrote : Local → HartState → AmoOp → Local
wrote x core o = record x { core = core; reserved = kept o x.reserved }

-- the access of an operation that found this word
abbrev pub written_access : ℕ → ℕ → WordAddr → AmoOp → ℕ → Labels → ℕ → Access
written_access h n word o operand labels old = rmw_access (record (bare_access h n op.Amo word) { labels = labels }) o operand old true

-- an access that is made by this operation of a hart that had this reserved
record IsMade (n : ℕ) (o : AmoOp) (operand : ℕ) (labels : Labels) (old version : ℕ) (r : Option WordAddr) (a : Access) : Type 0 where
  made : Some (unseen a) ≡ offered a.hart.0 n (needed.Rmw a.word o operand labels) old true
  seen_is : a.seen ≡ seen.Line version
  answer : reply a.read a.written ≡ unwrap_or a.read 0
  reserved : rmw_reserved a.op (reserved_by r) ≡ reserved_by (kept o r)

-- a line that is not pending has nothing to be owed
nothing_owed : (w : Config) (c h : ℕ) (o : Option Counted) → o ≡ None → owe h (acks_by w c o) ≡ acks_by w c o
nothing_owed w c h None e = refl
nothing_owed w c h (Some x) e = absurd (cc)

-- an SC that doesn't fail has its word reserved
pub has_reserved : (o : AmoOp) (r : Option WordAddr) (word : WordAddr) → fails o r word ≡ false → HasReserved o word.0 (reserved_by r)
has_reserved Sc r word e = reserved_is r word (not_false (is_reserved r word) e)
has_reserved o r word e = tt

-- the line's next content
abbrev next_of : Config → Access → Line → Line
next_of w a d = written_in w a.word.0 a.mask (unwrap_or a.written 0) d

-- the hart on a part afterwards
abbrev left : HartState → Access → Processor → Processor
left core a s = record s { core = core; reserved = rmw_reserved a.op s.reserved }

happens : (w : Config) (c k n operand : ℕ) (o : AmoOp) (labels : Labels) (a : Access) (v : PartsView) (x : Local) (core : HartState) (d : Line) (f : AtomicFits w v k a.word labels d) → x ≡ f.local
    → a.hart.0 ≡ hart_at w c k → k < w.top.harts → AreSized w c v → IsOneMap v.bus → HartNeeds w v k (needed.Rmw a.word o operand labels) → x ≡ slice_index_or v.locals k x → n ≡ x.core.retired + 1
    → HasReserved o a.word.0 (reserved_by x.reserved) → IsMade n o operand labels (word_in w a.word.0 d) d.version x.reserved a
    → ((need : Need) → IsNext w.image w.top x.core need → Does w.image w.top x.core need (unwrap_or a.read 0) core)
    → (p : Part) → Shows w c v p
    → Happens w c (kind.Rmw a (line_id (line_at w a.word.0)) (next_of w a d).version) (effect (needed.Rmw a.word o operand labels) core) (after v k (wrote x core o) (line_at w a.word.0) (next_of w a d) v.acks) [] p
unfolding Guard row
happens w c k n operand o labels a v x core d f local e low sized map needs is number reserved m does p shows =
    let h = hart_at w c k in
    let l = line_at w a.word.0 in
    let need : Need = needed.Rmw a.word o operand labels in
    let s = shown_by w c v k x p low shows (sym is) in
    let may : MayCommit labels.rl a.word.0 l k x.buffer v.acks = subst (λ (y : Local). MayCommit labels.rl a.word.0 l k y.buffer v.acks) (sym local) (commit_tells labels.rl a.word.0 l k f.local.buffer v.acks f.free) in
    let content_is : content (p.cells l).copy ≡ d = ap content (shows.copies l) ∙ content-copy_by w c d (holding_at v.bus l) f.copy_is in
    let number_is : n ≡ number_of a.hart.0 p = number ∙ number_there w c k a.hart.0 v x p e low shows is in
    let acting : (need : Need) → IsNext w.image w.top x.core need → Does w.image w.top x.core need (reply a.read a.written) core = subst (λ i. (need : Need) → IsNext w.image w.top x.core need → Does w.image w.top x.core need i core) (sym m.answer) does in
    let row_is : acts w l (Commits a.hart.0 (next_of w a (content (p.cells l).copy))) (change a.hart.0 (left core a (p.harts a.hart.0)) p) ≡ acts w l (Commits h (next_of w a d)) (change h (left core a (p.harts h)) p) =
    ap (λ i. acts w l (Commits i (next_of w a (content (p.cells l).copy))) (change i (left core a (p.harts i)) p)) e ∙ ap (λ y. acts w l (Commits h (next_of w a y)) (change h (left core a (p.harts h)) p)) content_is in
    record {
      guard = record {
        op = o;
        operand = operand;
        labels = labels;
        next = part_does w c k a.hart.0 (reply a.read a.written) need x core (p.harts h) p e low refl s.core (does_by w v k (reply a.read a.written) need x core needs is acting);
        line = refl;
        owner = subst (λ i. in_m i (p.cells l).copy ≡ true) (sym e) (in_m-owns_alone w c k l v p low sized.bus_harts map shows ∙ f.state_m);
        not_pending = shows.acks l ∙ ap (acks_by w c) may.not_pending;
        unbuffered = subst (λ i. newest_of a.word.0 (p.harts i).buffer ≡ None) (sym e) (ap (newest_of a.word.0) s.buffer ∙ may.unbuffered);
        release = λ r. subst (λ i. Drained i p) (sym e) (drained_shown w c k v x p low shows s (drained_holds k x.buffer v.acks (may.drained r)));
        reserved = subst (λ i. HasReserved o a.word.0 (p.harts i).reserved) (sym e) (subst (HasReserved o a.word.0) (sym s.reserved) reserved);
        access = record {
          made = m.made ∙ ap (λ i. offered a.hart.0 i need (word_in w a.word.0 d) true) number_is ∙ ap (λ y. offered a.hart.0 (number_of a.hart.0 p) need (word_in w a.word.0 y) true) (sym content_is);
          seen_is = m.seen_is ∙ ap (λ (y : Line). seen.Line y.version) (sym content_is);
        };
        version_is = ap (λ y. (next_of w a y).version) (sym content_is);
      };
      shows = subst (λ (r : PartEffect). Shows w c (after v k (wrote x core o) l (next_of w a d) v.acks) r.part) (sym row_is)
          (line_shown w c k v (change h (left core a (p.harts h)) p) (wrote x core o) l (next_of w a d) v.acks low sized map (has_owner_alone v.bus k l f.state_m) (nothing_owed w c h (entry_at v.acks l) may.not_pending) (λ q apart. refl)
          (shows_change w c v p k (wrote x core o) (left core a (p.harts h)) low sized.locals shows (record { core = refl; reserved = ap (rmw_reserved a.op) s.reserved ∙ m.reserved; buffer = s.buffer; asked = s.asked; l1 = s.l1 })));
      sent_is = ap (λ (r : PartEffect). r.sent) row_is;
    }

does_access : (w : Config) (c k n operand : ℕ) (o : AmoOp) (labels : Labels) (a : Access) (v : PartsView) (x : Local) (core : HartState) (d : Line) (f : AtomicFits w v k a.word labels d) → x ≡ f.local
    → a.hart.0 ≡ hart_at w c k → k < w.top.harts → AreSized w c v → IsOneMap v.bus → HartNeeds w v k (needed.Rmw a.word o operand labels) → x ≡ slice_index_or v.locals k x → n ≡ x.core.retired + 1
    → HasReserved o a.word.0 (reserved_by x.reserved) → IsMade n o operand labels (word_in w a.word.0 d) d.version x.reserved a
    → ((need : Need) → IsNext w.image w.top x.core need → Does w.image w.top x.core need (unwrap_or a.read 0) core)
    → DoesChoice w c (Step k) (kind.Rmw a (line_id (line_at w a.word.0)) (next_of w a d).version) v (after v k (wrote x core o) (line_at w a.word.0) (next_of w a d) v.acks) []
does_access w c k n operand o labels a v x core d f local e low sized map needs is number reserved m does = record {
  is_of = e;
  does = record { done = effect (needed.Rmw a.word o operand labels) core; happens = happens w c k n operand o labels a v x core d f local e low sized map needs is number reserved m does };
}

-- the same, by the operation
does_atomic : (w : Config) (c k n operand : ℕ) (o : AmoOp) (g : HartId) (word : WordAddr) (labels : Labels) (v : PartsView) (x : Local) (core : HartState) (d : Line) (f : AtomicFits w v k word labels d) → x ≡ f.local
    → g.0 ≡ hart_at w c k → k < w.top.harts → AreSized w c v → IsOneMap v.bus → HartNeeds w v k (needed.Rmw word o operand labels) → x ≡ slice_index_or v.locals k x → n ≡ x.core.retired + 1
    → HasReserved o word.0 (reserved_by x.reserved)
    → ((need : Need) → IsNext w.image w.top x.core need → Does w.image w.top x.core need (unwrap_or (written_access g.0 n word o operand labels (word_in w word.0 d)).read 0) core)
    → DoesChoice w c (Step k) (kind.Rmw (record (written_access g.0 n word o operand labels (word_in w word.0 d)) { seen = seen.Line d.version }) (line_id (line_at w word.0)) (written_in w word.0 (written_access g.0 n word o operand labels (word_in w word.0 d)).mask (unwrap_or (written_access g.0 n word o operand labels (word_in w word.0 d)).written 0) d).version) v
    (after v k (wrote x core o) (line_at w word.0) (written_in w word.0 (written_access g.0 n word o operand labels (word_in w word.0 d)).mask (unwrap_or (written_access g.0 n word o operand labels (word_in w word.0 d)).written 0) d) v.acks) []
does_atomic w c k n operand Sc g word labels v x core d f local e low sized map needs is number reserved does =
    does_access w c k n operand Sc labels (record (written_access g.0 n word Sc operand labels (word_in w word.0 d)) { seen = seen.Line d.version }) v x core d f local e low sized map needs is number reserved (record { made = refl; seen_is = refl; answer = refl; reserved = refl }) does
does_atomic w c k n operand o g word labels v x core d f local e low sized map needs is number reserved does =
    does_access w c k n operand o labels (record (written_access g.0 n word o operand labels (word_in w word.0 d)) { seen = seen.Line d.version }) v x core d f local e low sized map needs is number reserved (record { made = refl; seen_is = refl; answer = refl; reserved = refl }) does

-- the same, as the code has its values
pub atomic_as : (w : Config) (c k n operand old answer : ℕ) (o : AmoOp) (g : HartId) (word : WordAddr) (labels : Labels) (b : Access) (v : PartsView) (x : Local) (core : HartState) (d next : Line) (l : LineId) (r : Option WordAddr) (bus : BusView)
    → AtomicFits w v k word labels d → k < w.top.harts → AreSized w c v → IsOneMap v.bus → HartNeeds w v k (needed.Rmw word o operand labels) → HartFails v k o word false
    → g.0 ≡ hart_at w c k → l ≡ line_id (line_at w word.0) → x ≡ slice_index_or v.locals k x → n ≡ x.core.retired + 1 → old ≡ word_in w word.0 d
    → Some b ≡ offered g.0 n (needed.Rmw word o operand labels) old true → answer ≡ unwrap_or b.read 0 → next ≡ written_in w word.0 b.mask (unwrap_or b.written 0) d → r ≡ kept o x.reserved → bus ≡ after_commit v.bus l.0 next
    → ((need : Need) → IsNext w.image w.top x.core need → Does w.image w.top x.core need answer core)
    → DoesChoice w c (Step k) (kind.Rmw (record b { seen = seen.Line d.version }) l next.version) v (with_line v (slice_set v.locals k (record x { core = core; reserved = r })) bus v.slots v.acks) []
atomic_as w c k n operand old answer o g word labels b v x core d next l r bus f low sized map needs reserves e line is number old_is made answer_is next_is kept_is bus_is does =
    let access : b ≡ written_access g.0 n word o operand labels (word_in w word.0 d) = one_access b (written_access g.0 n word o operand labels old) made ∙ ap (written_access g.0 n word o operand labels) old_is in
    let acting : (need : Need) → IsNext w.image w.top x.core need → Does w.image w.top x.core need (unwrap_or (written_access g.0 n word o operand labels (word_in w word.0 d)).read 0) core =
    subst (λ i. (need : Need) → IsNext w.image w.top x.core need → Does w.image w.top x.core need i core) (answer_is ∙ ap (λ (y : Access). unwrap_or y.read 0) access) does in
    let local : x ≡ f.local = same_local v k x f.local (subst (λ i. k < i) (sym sized.locals) low) is f.is_local in
    let free : fails o x.reserved word ≡ false = ap (λ (y : Local). fails o y.reserved word) is ∙ reserves x in
    rw (bus_is, kept_is, line, next_is, access)
    (does_atomic w c k n operand o g word labels v x core d f local e low sized map needs is number (has_reserved o x.reserved word free) acting)

pub sized_atomic : (w : Config) (c k : ℕ) (v : PartsView) (x : Local) (core : HartState) (front : Front) (next : Line) (l : ℕ) (r : Option WordAddr) (bus : BusView) → k < w.top.harts → AreSized w c v → x ≡ slice_index_or v.locals k x → bus ≡ after_commit v.bus l next → IsFront w.image w.top core front
    → AreSized w c (with_line v (slice_set v.locals k (record x { core = core; front = front; reserved = r })) bus v.slots v.acks)
sized_atomic w c k v x core front next l r bus low sized is bus_is found =
    subst (λ b. AreSized w c (with_line v (slice_set v.locals k (record x { core = core; front = front; reserved = r })) b v.slots v.acks)) (sym bus_is) (sized_after w c k v x (record x { core = core; front = front; reserved = r }) l next v.acks low sized is refl (λ f. found) refl sized.acks_in_range)
