-- The answers to lock instructions: a hart that waits for one does its instruction.
use Rattle.std.proofs.Common.{◌≡◌, ℕ, ◌+◌, ◌*◌, ◌%◌, ◌<◌, ◌&&◌, Bool, true, false, cond, Option, Some, None, [], slice_index_or, slice_set, refl, sym, ap, ap₂, ◌∙◌, subst, inl, inr, mod-lt}
use Rattle.std.proofs.lemmas.Nat.{div-add-mod'}
use Rattle.std.proofs.Math.ListN.{length-set}
use Rattle.std.proofs.lemmas.List.{get_or_read, get_or-set_same, get_or-set_other}
use Rattle.dash_base.specs.declared.id.ClusterId.{ClusterId}
use Rattle.dash_base.specs.declared.id.HartId.{HartId}
use Rattle.dash_msg.specs.declared.msg.Msg.{Msg}
use Rattle.dash_msg.specs.declared.msg.Msg.TheVariants.{LockGrant, UnlockAck}
use Rattle.dash_event.specs.declared.event.Kind.TheVariants as kind
use Rattle.hart_core.specs.declared.front.Front.{Front}
use Rattle.hart_core.specs.HartState.{HartState}
use Rattle.hart_core.specs.Meaning.{Does, IsFinished, IsFront}
use Rattle.dash_model.specs.Config.{Config, cluster_of}
use Rattle.dash_model.specs.Part.{Part}
use Rattle.dash_model.specs.HartRows.{PartEffect, HartEffect, quiet, change}
use Rattle.dash_model.specs.LockRows.{answered}
use Rattle.dash_model.specs.Row.{msg_row, msg_row_if, row}
use Rattle.dash_model.specs.Ranges.{own_hart, applies}
use Rattle.dash_model.specs.Guard.{DoesIf, TakeFits, Guard}
use Rattle.unit_rows.specs.declared.parts.Local.{Local}
use Rattle.unit_rows.specs.Shown.{PartsView, hart_at, HasFront, ShowsHart, Shows, AreSized}
use Rattle.unit_rows.specs.Rows.{Happens}
use Rattle.unit_rows.specs.Takes.{Takes}
use Rattle.unit_rows.specs.LockWords.{own_hart_number, IsAnswer}
use Rattle.unit_rows.proofs.Same.{is_same, same_or_not}
use Rattle.unit_rows.proofs.Harts.{with_local, shows_change}
use Rattle.unit_rows.proofs.LineTakes.{idle, takes_still, takes_nothing}

-- what is asked of a message that answers: its hart, and the answer
record AnswersAs (w : Config) (c f : ℕ) (m : Msg) (h : HartId) (answer : ℕ) (p : Part) : Type 0 where
  fits : (d : HartEffect) → DoesIf (own_hart w c h && (p.harts h.0).asked) w h.0 answer d p → TakeFits w c m d p
  range : applies w c m p ≡ own_hart w c h && true
  row_is : (d : HartEffect) → msg_row w c f m d p ≡ quiet (answered h.0 (p.harts h.0).asked d p)

answers_as : (w : Config) (c f : ℕ) (m : Msg) (h : HartId) (answer : ℕ) (p : Part) → IsAnswer m h answer → AnswersAs w c f m h answer p
answers_as w c f (LockGrant g) h answer p e = subst (λ x. AnswersAs w c f (LockGrant g) x answer p) e.0 (subst (λ y. AnswersAs w c f (LockGrant g) g y p) (sym e.1) (record { fits = λ d does. does; range = refl; row_is = λ d. refl }))
answers_as w c f (UnlockAck g old) h answer p e = subst (λ x. AnswersAs w c f (UnlockAck g old) x answer p) e.0 (subst (λ y. AnswersAs w c f (UnlockAck g old) g y p) (sym e.1) (record { fits = λ d does. does; range = refl; row_is = λ d. refl }))
answers_as w c f m h answer p e = absurd e

-- a hart by its number in the cluster
pub record OwnHart (w : Config) (c : ℕ) (h : HartId) (k : ℕ) : Type 0 where
  pub own : own_hart w c h ≡ true
  pub number : hart_at w c k ≡ h.0
  pub low : k < w.top.harts

some_by : (a k : ℕ) (b : Bool) → cond b (Some a) None ≡ Some k → (b ≡ true) × (a ≡ k)
some_by a k true e = (refl, cc)
some_by a k false e = absurd (cc)

last_true : (a b : Bool) → a && b ≡ true → b ≡ true
last_true true b e = e
last_true false b e = absurd (cc)

pub own_hart_of : (w : Config) (c : ℕ) (h : HartId) (k : ℕ) → own_hart_number w c h ≡ Some k → OwnHart w c h k
own_hart_of w c h k e =
    let is = some_by (h.0 % w.top.harts) k (own_hart w c h) e in
    let at : cluster_of w h.0 ≡ c = is_same (cluster_of w h.0) c (last_true _ _ is.0) in
    let some : 0 < w.top.harts = w.top.harts_in_range.low in
    record {
      own = is.0;
      number = ap₂ (λ x y. x * w.top.harts + y) (sym at) (sym is.1) ∙ div-add-mod' h.0 w.top.harts;
      low = subst (λ y. y < w.top.harts) is.1 (mod-lt h.0 some);
    }

no_number : ℕ → Option ℕ
no_number a = None

none_by : (a : ℕ) (b : Bool) → cond b (Some a) (no_number a) ≡ no_number a → b ≡ false
unfolding no_number
none_by a true e = absurd (cc)
none_by a false e = refl

pub no_own_hart : (w : Config) (c : ℕ) (h : HartId) → own_hart_number w c h ≡ None → own_hart w c h ≡ false
unfolding no_number
no_own_hart w c h e = none_by (h.0 % w.top.harts) (own_hart w c h) e

-- a hart of another cluster, or of none
pub takes_foreign : (w : Config) (c : ℕ) (v : PartsView) (from : ClusterId) (m : Msg) (h : HartId) (answer : ℕ) → IsAnswer m h answer → own_hart_number w c h ≡ None → Takes w c from m v v []
takes_foreign w c v from m h answer is none =
    let out = no_own_hart w c h none in
    takes_nothing w c from m v
    (λ p shows. (answers_as w c from.0 m h answer p is).fits (idle w) (subst (λ b. DoesIf (b && (p.harts h.0).asked) w h.0 answer (idle w) p) (sym out) tt))
    (λ p shows. (answers_as w c from.0 m h answer p is).range ∙ ap (λ b. b && true) out)

-- a hart whose lock instruction was not sent
last_false : (a b : Bool) → b ≡ false → a && b ≡ false
last_false true b e = e
last_false false b e = refl

shown_asked : (w : Config) (c : ℕ) (v : PartsView) (p : Part) (h : HartId) (k : ℕ) (x : Local) → OwnHart w c h k → Shows w c v p → (p.harts h.0).asked ≡ (slice_index_or v.locals k x).asked
shown_asked w c v p h k x own shows = ap (λ y. (p.harts y).asked) (sym own.number) ∙ (shows.harts k x own.low).asked

pub takes_unasked : (w : Config) (c : ℕ) (v : PartsView) (from : ClusterId) (m : Msg) (h : HartId) (answer k : ℕ) (x : Local) → IsAnswer m h answer → own_hart_number w c h ≡ Some k → (slice_index_or v.locals k x).asked ≡ false → Takes w c from m v v []
takes_unasked w c v from m h answer k x is some unasked =
    let own = own_hart_of w c h k some in
    takes_still w c from m v
    (λ p shows. (answers_as w c from.0 m h answer p is).fits (idle w) (subst (λ b. DoesIf b w h.0 answer (idle w) p) (sym (last_false (own_hart w c h) _ (shown_asked w c v p h k x own shows ∙ unasked))) tt))
    (λ p shows. let a = answers_as w c from.0 m h answer p is in
    ap (λ b. msg_row_if b w c from.0 m (idle w) p) (a.range ∙ ap (λ b. b && true) own.own) ∙ a.row_is (idle w) ∙ ap (λ b. quiet (answered h.0 b (idle w) p)) (shown_asked w c v p h k x own shows ∙ unasked))

-- a hart that waits for the answer does its instruction
abbrev pub done_by : Local → HartState → Local
done_by x core = record x { core = core; asked = false }

module _ (w : Config) (c : ℕ) (v : PartsView) (from : ClusterId) (m : Msg) (h : HartId) (answer k : ℕ) (x : Local) (core : HartState) (sized : AreSized w c v) (is : IsAnswer m h answer) (own : OwnHart w c h k) (asked : (slice_index_or v.locals k x).asked ≡ true) (finished : IsFinished w.image w.top (slice_index_or v.locals k x).core answer core) where
  effect : HartEffect
  effect = record { need = finished.need; next = core }

  here : (p : Part) → Shows w c v p → ShowsHart w v.bus k (slice_index_or v.locals k x) (p.harts h.0)
  here p shows = subst (λ y. ShowsHart w v.bus k (slice_index_or v.locals k x) (p.harts y)) own.number (shows.harts k x own.low)

  does : (p : Part) → Shows w c v p → DoesIf (own_hart w c h && (p.harts h.0).asked) w h.0 answer effect p
  unfolding effect
  does p shows =
      let both : own_hart w c h && (p.harts h.0).asked ≡ true = ap₂ (λ a b. a && b) own.own ((here p shows).asked ∙ asked) in
      subst (λ b. DoesIf b w h.0 answer (record { need = finished.need; next = core }) p) (sym both) (subst (λ (y : HartState). Does w.image w.top y finished.need answer core) (sym (here p shows).core) finished.does)

  changed : (p : Part) → Shows w c v p → Shows w c (with_local v k (done_by (slice_index_or v.locals k x) core)) (change h.0 (record (p.harts h.0) { core = core; asked = false }) p)
  changed p shows =
      let s = here p shows in
      subst (λ y. Shows w c (with_local v k (done_by (slice_index_or v.locals k x) core)) (change y (record (p.harts h.0) { core = core; asked = false }) p)) own.number
      (shows_change w c v p k (done_by (slice_index_or v.locals k x) core) (record (p.harts h.0) { core = core; asked = false }) own.low sized.locals shows
      (record { core = refl; reserved = s.reserved; buffer = s.buffer; asked = refl; l1 = s.l1 }))

  happens : (p : Part) → Shows w c v p → Happens w c (kind.Take from m) effect (with_local v k (done_by (slice_index_or v.locals k x) core)) [] p
  unfolding Guard row effect
  happens p shows =
      let a = answers_as w c from.0 m h answer p is in
      let row_is : msg_row_if (applies w c m p) w c from.0 m effect p ≡ quiet (change h.0 (record (p.harts h.0) { core = core; asked = false }) p) =
      ap (λ b. msg_row_if b w c from.0 m effect p) (a.range ∙ ap (λ b. b && true) own.own) ∙ a.row_is effect ∙ ap (λ b. quiet (answered h.0 b effect p)) ((here p shows).asked ∙ asked) in
      record {
        guard = a.fits effect (does p shows);
        shows = subst (λ (y : PartEffect). Shows w c (with_local v k (done_by (slice_index_or v.locals k x) core)) y.part) (sym row_is) (changed p shows);
        sent_is = ap (λ (y : PartEffect). y.sent) row_is;
      }

  pub takes_answer : Takes w c from m v (with_local v k (done_by (slice_index_or v.locals k x) core)) []
  takes_answer = record { is_of = (refl, refl); does = record { done = effect; happens = happens } }

-- one hart changed leaves the sizes, where its buffer has the same and its next instruction is found
sized_change : (w : Config) (c : ℕ) (v : PartsView) (k : ℕ) (y : Local) → k < w.top.harts → AreSized w c v → y.buffer.capacity ≡ w.top.buffer → HasFront w y → AreSized w c (with_local v k y)
sized_change w c v k y low z cap found = record {
  locals = length-set v.locals k y ∙ z.locals;
  buffers = λ j d below. elim (same_or_not j k) [
    | inl e ↦ subst (λ i. (slice_index_or (slice_set v.locals k y) i d).buffer.capacity ≡ w.top.buffer) (sym e) (ap (λ (x : Local). x.buffer.capacity) (get_or-set_same v.locals k y d (subst (λ n. k < n) (sym z.locals) low)) ∙ cap)
    | inr o ↦ ap (λ (x : Local). x.buffer.capacity) (get_or-set_other v.locals k j y d o) ∙ z.buffers j d below
  ];
  fronts = λ j d below. elim (same_or_not j k) [
    | inl e ↦ subst (λ i. HasFront w (slice_index_or (slice_set v.locals k y) i d)) (sym e) (subst (HasFront w) (sym (get_or-set_same v.locals k y d (subst (λ n. k < n) (sym z.locals) low))) found)
    | inr o ↦ subst (HasFront w) (sym (get_or-set_other v.locals k j y d o)) (z.fronts j d below)
  ];
  bus_harts = z.bus_harts;
  l1 = z.l1;
  l2 = z.l2;
  slot_harts = z.slot_harts;
  slot_count = z.slot_count;
  slots_in_range = z.slots_in_range;
  acks = z.acks;
  acks_in_range = z.acks_in_range;
  home_cluster = z.home_cluster;
  home_clusters = z.home_clusters;
  home_lines = z.home_lines;
  lock_cluster = z.lock_cluster;
  lock_clusters = z.lock_clusters;
  lock_words = z.lock_words;
  lock_harts = z.lock_harts;
}

pub sized_answer : (w : Config) (c : ℕ) (v : PartsView) (k : ℕ) (x : Local) (core : HartState) (front : Front) → k < w.top.harts → AreSized w c v → x ≡ slice_index_or v.locals k x → IsFront w.image w.top core front → AreSized w c (with_local v k (record (done_by x core) { front = front }))
sized_answer w c v k x core front low z is found = sized_change w c v k (record (done_by x core) { front = front }) low z (ap (λ (y : Local). y.buffer.capacity) is ∙ z.buffers k x low) found

-- the hart that was read is the one of its number
pub one_local : (w : Config) (c : ℕ) (v : PartsView) (k : ℕ) (x : Local) → AreSized w c v → k < w.top.harts → x ≡ slice_index_or v.locals k x → (d : Local) → slice_index_or v.locals k d ≡ x
one_local w c v k x z low is d = sym (get_or_read v.locals k x (subst (λ n. k < n) (sym z.locals) low) is d)
