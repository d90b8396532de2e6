-- Whether a hart wants another line with the index of one that it may hold: what the code's slots, caches and needs tell of it.
use Rattle.std.proofs.Common.{◌≡◌, ◌≢◌, ℕ, ◌==◌, ◌&&◌, ◌-◌, ◌*◌, ◌%◌, Bool, true, false, not, cond, Option, None, Some, is_some, refl, sym, ap, ◌∙◌, subst, inl, inr}
use Rattle.dash_base.specs.declared.id.LineId.{LineId}
use Rattle.remote_cache.specs.declared.slot.Phase.{Phase as Waits}
use Rattle.remote_cache.specs.declared.slot.Phase.TheVariants as waits
use Rattle.remote_cache.specs.declared.slot.Slot.{Slot as Request}
use Rattle.remote_cache.specs.Steps.{came_in}
use Rattle.remote_cache.specs.View.{SlotsView, slot_at, slot_of, is_of, IsOnePerLine}
use Rattle.remote_cache.proofs.LawsOffered.{lines_have_one_slot}
use Rattle.snoop_bus.specs.Holding.{Holding, copy_in}
use Rattle.snoop_bus.specs.View.{holding_at, copy_of, owner_at}
use Rattle.dash_model.specs.Config.{Config}
use Rattle.dash_model.specs.Cell.{Reads, Owns}
use Rattle.dash_model.specs.LineEffect.{has_copy, has_owner}
use Rattle.dash_model.specs.Part.{Part}
use Rattle.dash_model.specs.Wants.{NeedsCopy, FrontNeed, StoreNeed, CameFor, Wants, ToInstall, ToRead, ToOwn}
use Rattle.unit_rows.specs.Shown.{PartsView, hart_at, phase_by, slot_by, slot_in, Shows}
use Rattle.unit_rows.specs.LineNeeds.{IsNeeded}
use Rattle.unit_rows.specs.EvictFits.{Another, Tells, SlotTells, ComesFor, CanRead, CanWrite, CanStore, is_other, copy_found, owner_found, came_other}
use Rattle.unit_rows.proofs.Same.{is_same, test_same, test_differ}
use Rattle.unit_rows.proofs.Copies.{local_of, has-copy_by, has_owner-copy_by}
use Rattle.unit_rows.proofs.SlotsOn.{slot_is}

-- the one line that is needed, and whether the cluster has it
tells_at : (w : Config) (c l : ℕ) (v : PartsView) (Needs : ℕ → Part → Type 0) (has : ℕ → Part → Bool) (m : LineId) (x y b : Bool) → (m.0 == l) ≡ x → (m.0 % w.top.l2 == l % w.top.l2) ≡ y
    → ((p : Part) → Shows w c v p → Needs m.0 p × ((q : ℕ) → Needs q p → q ≡ m.0)) → ((p : Part) → Shows w c v p → has m.0 p ≡ b) → Tells w c v l (λ q p. Needs q p × (has q p ≡ true)) ((not x && y) && b)
tells_at w c l v Needs has m true y b e i is held = λ p shows o. o.differs ((is p shows).1 o.other o.is_so.0 ∙ is_same m.0 l e)
tells_at w c l v Needs has m false false b e i is held = λ p shows o.
    let same : o.other ≡ m.0 = (is p shows).1 o.other o.is_so.0 in
    let t : true ≡ false = sym (test_same (l % w.top.l2)) ∙ ap (λ z. z == l % w.top.l2) (sym o.index) ∙ ap (λ z. z % w.top.l2 == l % w.top.l2) same ∙ i in absurd (cc)
tells_at w c l v Needs has m false true false e i is held = λ p shows o.
    let same : o.other ≡ m.0 = (is p shows).1 o.other o.is_so.0 in
    let t : true ≡ false = sym o.is_so.1 ∙ ap (λ z. has z p) same ∙ held p shows in absurd (cc)
tells_at w c l v Needs has m false true true e i is held = λ p shows. record {
  other = m.0;
  differs = λ same. let t : true ≡ false = sym (test_same l) ∙ ap (λ z. z == l) (sym same) ∙ e in absurd (cc);
  index = is_same (m.0 % w.top.l2) (l % w.top.l2) i;
  is_so = ((is p shows).0, held p shows);
}

some_copy : (o : Option Holding) → is_some o ≡ is_some (copy_in o)
some_copy None = refl
some_copy (Some h) = refl

pub tells_read : (w : Config) (c k l : ℕ) (v : PartsView) (found : Option LineId) → IsNeeded (λ q p. NeedsCopy w (hart_at w c k) q p) w c v found → Tells w c v l (CanRead w (hart_at w c k)) (is_other w found l && copy_found v.bus found)
tells_read w c k l v None is = λ p shows o. is p shows o.other o.is_so.0
tells_read w c k l v (Some m) is =
    tells_at w c l v (λ q p. NeedsCopy w (hart_at w c k) q p) (λ q p. has_copy (p.cells q).copy) m (m.0 == l) (m.0 % w.top.l2 == l % w.top.l2) (is_some (copy_of v.bus m.0)) refl refl is
    (λ p shows. ap has_copy (shows.copies m.0) ∙ has-copy_by w c (holding_at v.bus m.0) ∙ some_copy (holding_at v.bus m.0))

pub tells_write : (w : Config) (c k l : ℕ) (v : PartsView) (found : Option LineId) → IsNeeded (λ q p. FrontNeed w (hart_at w c k) q p) w c v found → Tells w c v l (CanWrite w (hart_at w c k)) (is_other w found l && owner_found v.bus found)
tells_write w c k l v None is = λ p shows o. is p shows o.other o.is_so.0
tells_write w c k l v (Some m) is =
    tells_at w c l v (λ q p. FrontNeed w (hart_at w c k) q p) (λ q p. has_owner (p.cells q).copy) m (m.0 == l) (m.0 % w.top.l2 == l % w.top.l2) (is_some (owner_at v.bus m.0)) refl refl is
    (λ p shows. ap has_owner (shows.copies m.0) ∙ has_owner-copy_by w c (holding_at v.bus m.0))

pub tells_store : (w : Config) (c k l : ℕ) (v : PartsView) (found : Option LineId) → IsNeeded (λ q p. StoreNeed w (hart_at w c k) q p) w c v found → Tells w c v l (CanStore w (hart_at w c k)) (is_other w found l && owner_found v.bus found)
tells_store w c k l v None is = λ p shows o. is p shows o.other o.is_so.0
tells_store w c k l v (Some m) is =
    tells_at w c l v (λ q p. StoreNeed w (hart_at w c k) q p) (λ q p. has_owner (p.cells q).copy) m (m.0 == l) (m.0 % w.top.l2 == l % w.top.l2) (is_some (owner_at v.bus m.0)) refl refl is
    (λ p shows. ap has_owner (shows.copies m.0) ∙ has_owner-copy_by w c (holding_at v.bus m.0))

-- both of two answers, by the first one
pub then_so : (T : Bool → Type 0) (x y b : Bool) → T (x && y) → x ≡ true → b ≡ y → T b
then_so T true y b t e i = subst T (sym i) t
then_so T false y b t e i = absurd (cc)

pub else_not : (T : Bool → Type 0) (x y b : Bool) → T (x && y) → b ≡ x → b ≡ false → T b
else_not T true y b t e i = absurd (cc)
else_not T false y b t e i = subst T (sym e) t

-- a line that came to a slot
both : (a b : Bool) → a && b ≡ true → (a ≡ true) × (b ≡ true)
both true true e = (refl, refl)
both true false e = absurd (cc)
both false b e = absurd (cc)

came_slot : (h n t : ℕ) (own : Bool) (phase : Waits) → is_some (came_in phase) ≡ true → t ≡ h → CameFor h (cond own (Owns n t (phase_by phase)) (Reads n t (phase_by phase)))
came_slot h n t own waits.Asked e same = absurd (cc)
came_slot h n t own waits.Poisoned e same = absurd (cc)
came_slot h n t own waits.Refused e same = absurd (cc)
came_slot h n t true (waits.Came d) e same = same
came_slot h n t false (waits.Came d) e same = same

pub came_at : (w : Config) (c k l n : ℕ) (v : PartsView) (p : Part) (o : Option Request) → IsOnePerLine v.slots.slots → Shows w c v p → slot_at v.slots n ≡ o → came_other w k l o ≡ true → Another w l (ComesFor (hart_at w c k)) p
came_at w c k l n v p None one shows at e = absurd (cc)
came_at w c k l n v p (Some s) one shows at e =
    let parts = both (s.hart == k && is_some (came_in s.phase)) (is_other w (Some s.line) l) e in
    let mine = both (s.hart == k) (is_some (came_in s.phase)) parts.0 in
    let apart = both (not (s.line.0 == l)) (s.line.0 % w.top.l2 == l % w.top.l2) parts.1 in
    let has : is_of s.line.0 (slot_at v.slots n) ≡ true = ap (is_of s.line.0) at ∙ test_same s.line.0 in
    let shown = shows.slots s.line.0 ∙ slot_is w c v.slots s.line.0 n one has ∙ ap (slot_by w c n) at in
    record {
      other = s.line.0;
      differs = λ same. let t : false ≡ true = ap not (sym (ap (λ z. z == l) same ∙ test_same l)) ∙ apart.0 in absurd (cc);
      index = is_same (s.line.0 % w.top.l2) (l % w.top.l2) apart.1;
      is_so = subst (CameFor (hart_at w c k)) (sym shown) (came_slot (hart_at w c k) n (hart_at w c s.hart) s.own s.phase mine.1 (ap (hart_at w c) (is_same s.hart k mine.0)));
    }

came_back : (h n t : ℕ) (own : Bool) (phase : Waits) → CameFor h (cond own (Owns n t (phase_by phase)) (Reads n t (phase_by phase))) → (t ≡ h) × (is_some (came_in phase) ≡ true)
came_back h n t true waits.Asked r = absurd r
came_back h n t true waits.Poisoned r = absurd r
came_back h n t true waits.Refused r = absurd r
came_back h n t true (waits.Came d) r = (r, refl)
came_back h n t false waits.Asked r = absurd r
came_back h n t false waits.Poisoned r = absurd r
came_back h n t false waits.Refused r = absurd r
came_back h n t false (waits.Came d) r = (r, refl)

same_hart : (w : Config) (c j k : ℕ) → hart_at w c j ≡ hart_at w c k → j ≡ k
same_hart w c j k e = sym (local_of w c j) ∙ ap (λ x. x - c * w.top.harts) e ∙ local_of w c k

all_so : (a b x y : Bool) → a ≡ true → b ≡ true → x ≡ false → y ≡ true → (a && b) && (not x && y) ≡ true
all_so a b x y e f g h = rw (e, f, g, h) refl

none_at : (w : Config) (c k l n q : ℕ) (v : SlotsView) (o : Option Request) → slot_at v n ≡ o → is_of q o ≡ true → q ≢ l → q % w.top.l2 ≡ l % w.top.l2 → CameFor (hart_at w c k) (slot_by w c n o) → came_other w k l o ≡ true
none_at w c k l n q v None at has apart index r = absurd r
none_at w c k l n q v (Some s) at has apart index r =
    let t = came_back (hart_at w c k) n (hart_at w c s.hart) s.own s.phase r in
    let line : s.line.0 ≡ q = is_same s.line.0 q has in
    all_so (s.hart == k) (is_some (came_in s.phase)) (s.line.0 == l) (s.line.0 % w.top.l2 == l % w.top.l2)
    (ap (λ j. j == k) (same_hart w c s.hart k t.0) ∙ test_same k) t.1 (test_differ s.line.0 l (λ e. apart (sym line ∙ e)))
    (ap (λ j. j % w.top.l2 == l % w.top.l2) line ∙ ap (λ j. j == l % w.top.l2) index ∙ test_same (l % w.top.l2))

none_by : (w : Config) (c k l q : ℕ) (v : SlotsView) (o : Option ℕ) → slot_of v q ≡ o → ((n : ℕ) → came_other w k l (slot_at v n) ≡ false) → q ≢ l → q % w.top.l2 ≡ l % w.top.l2 → CameFor (hart_at w c k) (slot_in w c v o) → ⊥
none_by w c k l q v None at none apart index r = absurd r
none_by w c k l q v (Some n) at none apart index r =
    let t : true ≡ false = sym (none_at w c k l n q v (slot_at v n) refl (lines_have_one_slot.has_line v q n at) apart index r) ∙ none n in absurd (cc)

pub none_came : (w : Config) (c k l : ℕ) (v : PartsView) (p : Part) → ((n : ℕ) → came_other w k l (slot_at v.slots n) ≡ false) → Shows w c v p → Another w l (ComesFor (hart_at w c k)) p → ⊥
none_came w c k l v p none shows o = none_by w c k l o.other v.slots (slot_of v.slots o.other) refl none o.differs o.index (subst (CameFor (hart_at w c k)) (shows.slots o.other) o.is_so)

-- all causes together
with_cause : (w : Config) (l : ℕ) (P Q : ℕ → Part → Type 0) (p : Part) → ((q : ℕ) → P q p → Q q p) → Another w l P p → Another w l Q p
with_cause w l P Q p turns o = record { other = o.other; differs = o.differs; index = o.index; is_so = turns o.other o.is_so }

no_cause : (w : Config) (c k l : ℕ) (v : PartsView) (p : Part) → Shows w c v p → ((n : ℕ) → came_other w k l (slot_at v.slots n) ≡ false) → Tells w c v l (CanRead w (hart_at w c k)) false → Tells w c v l (CanWrite w (hart_at w c k)) false → Tells w c v l (CanStore w (hart_at w c k)) false
    → (q : ℕ) → q ≢ l → q % w.top.l2 ≡ l % w.top.l2 → Wants w (hart_at w c k) q p → ⊥
no_cause w c k l v p shows came reads writes stores q apart index (ToInstall is) = none_came w c k l v p came shows (record { other = q; differs = apart; index = index; is_so = is })
no_cause w c k l v p shows came reads writes stores q apart index (ToRead need has) = reads p shows (record { other = q; differs = apart; index = index; is_so = (need, has) })
no_cause w c k l v p shows came reads writes stores q apart index (ToOwn (inl need) has) = writes p shows (record { other = q; differs = apart; index = index; is_so = (need, has) })
no_cause w c k l v p shows came reads writes stores q apart index (ToOwn (inr need) has) = stores p shows (record { other = q; differs = apart; index = index; is_so = (need, has) })

pub wants_come : (w : Config) (c k l : ℕ) (v : PartsView) (b : Bool) → IsOnePerLine v.slots.slots → SlotTells w v.slots k l b → b ≡ true → Tells w c v l (Wants w (hart_at w c k)) true
wants_come w c k l v true one came e = λ p shows. with_cause w l (ComesFor (hart_at w c k)) (Wants w (hart_at w c k)) p (λ q is. ToInstall is) (came_at w c k l came.slot v p (slot_at v.slots came.slot) one shows refl came.came)
wants_come w c k l v false one came e = absurd (cc)

pub wants_read : (w : Config) (c k l : ℕ) (v : PartsView) (b : Bool) → Tells w c v l (CanRead w (hart_at w c k)) b → b ≡ true → Tells w c v l (Wants w (hart_at w c k)) true
wants_read w c k l v true reads e = λ p shows. with_cause w l (CanRead w (hart_at w c k)) (Wants w (hart_at w c k)) p (λ q is. ToRead is.0 is.1) (reads p shows)
wants_read w c k l v false reads e = absurd (cc)

pub wants_write : (w : Config) (c k l : ℕ) (v : PartsView) (b : Bool) → Tells w c v l (CanWrite w (hart_at w c k)) b → b ≡ true → Tells w c v l (Wants w (hart_at w c k)) true
wants_write w c k l v true writes e = λ p shows. with_cause w l (CanWrite w (hart_at w c k)) (Wants w (hart_at w c k)) p (λ q is. ToOwn (inl is.0) is.1) (writes p shows)
wants_write w c k l v false writes e = absurd (cc)

pub wants_last : (w : Config) (c k l : ℕ) (v : PartsView) (a b x y : Bool) → SlotTells w v.slots k l a → Tells w c v l (CanRead w (hart_at w c k)) b → Tells w c v l (CanWrite w (hart_at w c k)) x → Tells w c v l (CanStore w (hart_at w c k)) y
    → a ≡ false → b ≡ false → x ≡ false → Tells w c v l (Wants w (hart_at w c k)) y
wants_last w c k l v true b x y came reads writes stores e f g = absurd (cc)
wants_last w c k l v false true x y came reads writes stores e f g = absurd (cc)
wants_last w c k l v false false true y came reads writes stores e f g = absurd (cc)
wants_last w c k l v false false false true came reads writes stores e f g = λ p shows. with_cause w l (CanStore w (hart_at w c k)) (Wants w (hart_at w c k)) p (λ q is. ToOwn (inr is.0) is.1) (stores p shows)
wants_last w c k l v false false false false came reads writes stores e f g = λ p shows o. no_cause w c k l v p shows came reads writes stores o.other o.differs o.index o.is_so
