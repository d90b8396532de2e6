-- Stores, and SCs that fail: their rows, and when they can't retire.
use Rattle.std.proofs.Common.{◌≡◌, ◌≢◌, ◌⊎◌, ℕ, ◌+◌, ◌<◌, ◌≤◌, true, false, None, Some, Option, Result, Ok, Err, IsOk, OnOk, ◌↔◌, [], ◌∷◌, ◌++◌, length, is_some, slice_index_or, refl, sym, ap, ◌∙◌, subst, inl, inr, arith}
use Rattle.dash_base.specs.declared.id.HartId.{HartId}
use Rattle.dash_base.specs.declared.id.WordAddr.{WordAddr}
use Rattle.dash_base.specs.declared.instr.Labels.{Labels}
use Rattle.dash_base.specs.declared.ops.AmoOp.TheVariants.{Sc}
use Rattle.dash_base.specs.declared.need.Need.{Need}
use Rattle.dash_base.specs.declared.need.Need.TheVariants as needed
use Rattle.dash_event.specs.Offered.{bare_access, offered, rmw_access}
use Rattle.dash_event.specs.declared.access.Access.{Access}
use Rattle.dash_event.specs.declared.access.Op.TheVariants as op
use Rattle.dash_event.specs.declared.event.Kind.TheVariants as kind
use Rattle.write_buffer.specs.View.{BufferView}
use Rattle.hart_core.specs.HartState.{HartState}
use Rattle.hart_core.specs.Meaning.{Needs, Does, IsNext}
use Rattle.remote_cache.specs.View.{slot_at, IsOnePerLine}
use Rattle.dash_model.specs.Config.{Config, front_slot}
use Rattle.dash_model.specs.Part.{Part}
use Rattle.dash_model.specs.Words.{IsEmptySlot}
use Rattle.dash_model.specs.HartRows.{change, entry_of}
use Rattle.dash_model.specs.HartGuards.{number_of}
use Rattle.dash_model.specs.Guard.{Guard}
use Rattle.dash_model.specs.Row.{row}
use Rattle.unit_rows.specs.declared.choice.Choice.TheVariants.{Step}
use Rattle.unit_rows.specs.declared.parts.Local.{Local}
use Rattle.unit_rows.specs.Shown.{PartsView, hart_at, reserved_by, Shows, AreSized}
use Rattle.unit_rows.specs.Steps.{HartNeeds, changed_local}
use Rattle.unit_rows.specs.Rows.{DoesChoice, Cannot}
use Rattle.unit_rows.proofs.Copies.{local_of}
use Rattle.unit_rows.proofs.Harts.{shows_change}
use Rattle.unit_rows.proofs.EmptySlots.{empty_shown, empty_back}
use Rattle.unit_rows.proofs.Retiring.{effect, next_needs, number_there, part_does, part_needs, shown_by}
use Rattle.unit_rows.proofs.StepTold.{RmwTells, ScTells, step_told}

-- the hart that did an instruction with this answer, by what it needed
pub does_by : (w : Config) (v : PartsView) (k answer : ℕ) (need : Need) (x : Local) (core : HartState) → HartNeeds w v k need → x ≡ slice_index_or v.locals k x
    → ((n : Need) → IsNext w.image w.top x.core n → Does w.image w.top x.core n answer core) → Does w.image w.top x.core need answer core
does_by w v k answer need x core n is does = does need (next_needs w.image w.top x.core need (subst (λ (y : Local). Needs w.image w.top y.core need) (sym is) (n x)))

-- the access of a store
abbrev pub store_access : ℕ → ℕ → WordAddr → ℕ → ℕ → Access
store_access h n word mask value = record (bare_access h n op.Store word) { mask = mask; written = Some value }

pub store_by : (w : Config) (c k n mask value : ℕ) (g : HartId) (word : WordAddr) (v : PartsView) (x : Local) (core : HartState) (b : BufferView)
    → g.0 ≡ hart_at w c k → k < w.top.harts → AreSized w c v → HartNeeds w v k (needed.Store word mask value) → x ≡ slice_index_or v.locals k x → n ≡ x.core.retired + 1 → length x.buffer.items < w.top.buffer
    → ((need : Need) → IsNext w.image w.top x.core need → Does w.image w.top x.core need 0 core)
    → b.items ≡ x.buffer.items ++ record { number = n; word = word; mask = mask; value = value } ∷ []
    → DoesChoice w c (Step k) (kind.Store (store_access g.0 n word mask value)) v (changed_local v k (record x { core = core; buffer = b })) []
unfolding Guard row
store_by w c k n mask value g word v x core b e low sized needs is number room does put = record {
  is_of = e;
  does = record {
    done = effect (needed.Store word mask value) core;
    happens = λ p s.
        let hart = shown_by w c v k x p low s (sym is) in
        let a : Access = store_access g.0 n word mask value in
        let m : n ≡ number_of g.0 p = number ∙ number_there w c k g.0 v x p e low s is in
        record {
          guard = record {
            value = value;
            next = part_does w c k g.0 0 (needed.Store word mask value) x core (p.harts (hart_at w c k)) p e low refl hart.core (does_by w v k 0 (needed.Store word mask value) x core needs is does);
            access = record { made = ap (λ i. offered g.0 i (needed.Store word mask value) 0 false) m; seen_is = refl };
            room = subst (λ i. length (p.harts i).buffer < w.top.buffer) (sym e) (subst (λ es. length es < w.top.buffer) (sym hart.buffer) room);
          };
          shows = subst (λ i. Shows w c (changed_local v k (record x { core = core; buffer = b })) (change i (record (p.harts i) { core = core; buffer = (p.harts i).buffer ++ entry_of a ∷ [] }) p)) (sym e)
              (shows_change w c v p k (record x { core = core; buffer = b }) (record (p.harts (hart_at w c k)) { core = core; buffer = (p.harts (hart_at w c k)).buffer ++ entry_of a ∷ [] }) low sized.locals s
              (record { core = refl; reserved = hart.reserved; buffer = ap (λ es. es ++ entry_of a ∷ []) hart.buffer ∙ sym put; asked = hart.asked; l1 = hart.l1 }));
          sent_is = refl;
        };
  };
}

-- an entry is put where there is room
pub put_done : {A B : Type 0} (r : Result A B) (L P : Type 0) → (IsOk r ↔ L) → OnOk r P → L → P
put_done (Ok x) L P fits put low = put
put_done (Err x) L P fits put low = absurd (cc (fits.1 low))

pub one_access : (a b : Access) → Some a ≡ Some b → a ≡ b
one_access a b e = cc

pub does_store : (w : Config) (c k n mask value : ℕ) (g : HartId) (word : WordAddr) (a : Access) (v : PartsView) (x : Local) (core : HartState) (b : BufferView)
    → g.0 ≡ hart_at w c k → k < w.top.harts → AreSized w c v → HartNeeds w v k (needed.Store word mask value) → x ≡ slice_index_or v.locals k x → n ≡ x.core.retired + 1 → length x.buffer.items < w.top.buffer
    → Some a ≡ offered g.0 n (needed.Store word mask value) 0 false
    → ((need : Need) → IsNext w.image w.top x.core need → Does w.image w.top x.core need 0 core)
    → b.items ≡ x.buffer.items ++ record { number = n; word = word; mask = mask; value = value } ∷ []
    → DoesChoice w c (Step k) (kind.Store a) v (changed_local v k (record x { core = core; buffer = b })) []
does_store w c k n mask value g word a v x core b e low sized needs is number room made does put =
    subst (λ y. DoesChoice w c (Step k) (kind.Store y) v (changed_local v k (record x { core = core; buffer = b })) []) (sym (one_access a (store_access g.0 n word mask value) made)) (store_by w c k n mask value g word v x core b e low sized needs is number room does put)

-- no store finds room in a full buffer
pub store_cannot : (w : Config) (c k mask value : ℕ) (word : WordAddr) (v : PartsView) (x : Local) → k < w.top.harts → x ≡ slice_index_or v.locals k x → HartNeeds w v k (needed.Store word mask value) → w.top.buffer ≤ length x.buffer.items → Cannot w c v (Step k)
store_cannot w c k mask value word v x low is n full p s e =
    let told = step_told w c k (needed.Store word mask value) p e.event e.done e.is_of e.guard (part_needs w c v k (needed.Store word mask value) x p low s n) in
    let here : length x.buffer.items < w.top.buffer = subst (λ es. length es < w.top.buffer) (shown_by w c v k x p low s (sym is)).buffer told in
    absurd (omega arith)

-- the access of an SC that fails
abbrev pub failed_access : ℕ → ℕ → WordAddr → ℕ → Labels → Access
failed_access h n word operand labels = rmw_access (record (bare_access h n op.Amo word) { labels = labels }) Sc operand 0 false

pub sc_by : (w : Config) (c k n operand : ℕ) (g : HartId) (word : WordAddr) (labels : Labels) (v : PartsView) (x : Local) (core : HartState)
    → g.0 ≡ hart_at w c k → k < w.top.harts → AreSized w c v → HartNeeds w v k (needed.Rmw word Sc operand labels) → x ≡ slice_index_or v.locals k x → n ≡ x.core.retired + 1
    → reserved_by x.reserved ≢ Some word.0 → slot_at v.slots k ≡ None
    → ((need : Need) → IsNext w.image w.top x.core need → Does w.image w.top x.core need 1 core)
    → DoesChoice w c (Step k) (kind.ScFail (failed_access g.0 n word operand labels)) v (changed_local v k (record x { core = core; reserved = None })) []
unfolding Guard row
sc_by w c k n operand g word labels v x core e low sized needs is number unreserved front does = record {
  is_of = e;
  does = record {
    done = effect (needed.Rmw word Sc operand labels) core;
    happens = λ p s.
        let hart = shown_by w c v k x p low s (sym is) in
        let m : n ≡ number_of g.0 p = number ∙ number_there w c k g.0 v x p e low s is in
        record {
          guard = record {
            operand = operand;
            labels = labels;
            next = part_does w c k g.0 1 (needed.Rmw word Sc operand labels) x core (p.harts (hart_at w c k)) p e low refl hart.core (does_by w v k 1 (needed.Rmw word Sc operand labels) x core needs is does);
            unreserved = λ r. unreserved (sym hart.reserved ∙ subst (λ i. (p.harts i).reserved ≡ Some word.0) e r);
            front = subst (λ i. IsEmptySlot i p) (sym (ap (λ i. front_slot w c i) e ∙ local_of w c k)) (empty_shown w c k v p s front);
            access = record { made = ap (λ i. offered g.0 i (needed.Rmw word Sc operand labels) 0 false) m; seen_is = refl };
          };
          shows = subst (λ i. Shows w c (changed_local v k (record x { core = core; reserved = None })) (change i (record (p.harts i) { core = core; reserved = None }) p)) (sym e)
              (shows_change w c v p k (record x { core = core; reserved = None }) (record (p.harts (hart_at w c k)) { core = core; reserved = None }) low sized.locals s
              (record { core = refl; reserved = refl; buffer = hart.buffer; asked = hart.asked; l1 = hart.l1 }));
          sent_is = refl;
        };
  };
}

pub none_of : {A : Type 0} (o : Option A) → is_some o ≡ false → o ≡ None
none_of None e = refl
none_of (Some x) e = absurd (cc)

pub does_sc_fail : (w : Config) (c k n operand : ℕ) (g : HartId) (word : WordAddr) (labels : Labels) (a : Access) (v : PartsView) (x : Local) (core : HartState)
    → g.0 ≡ hart_at w c k → k < w.top.harts → AreSized w c v → HartNeeds w v k (needed.Rmw word Sc operand labels) → x ≡ slice_index_or v.locals k x → n ≡ x.core.retired + 1
    → reserved_by x.reserved ≢ Some word.0 → is_some (slot_at v.slots k) ≡ false
    → Some a ≡ offered g.0 n (needed.Rmw word Sc operand labels) 0 false
    → ((need : Need) → IsNext w.image w.top x.core need → Does w.image w.top x.core need 1 core)
    → DoesChoice w c (Step k) (kind.ScFail a) v (changed_local v k (record x { core = core; reserved = None })) []
does_sc_fail w c k n operand g word labels a v x core e low sized needs is number unreserved front made does =
    subst (λ y. DoesChoice w c (Step k) (kind.ScFail y) v (changed_local v k (record x { core = core; reserved = None })) []) (sym (one_access a (failed_access g.0 n word operand labels) made)) (sc_by w c k n operand g word labels v x core e low sized needs is number unreserved (none_of (slot_at v.slots k) front) does)

sc_not : (w : Config) (c k : ℕ) (word : WordAddr) (labels : Labels) (v : PartsView) (x : Local) (p : Part) → Shows w c v p → reserved_by x.reserved ≢ Some word.0 → (p.harts (hart_at w c k)).reserved ≡ reserved_by x.reserved → IsOnePerLine v.slots.slots → is_some (slot_at v.slots k) ≡ true
    → RmwTells w (hart_at w c k) word Sc labels p ⊎ ScTells w c (hart_at w c k) word Sc p → ⊥
sc_not w c k word labels v x p s unreserved same one full (inl r) = unreserved (sym same ∙ r.reserved)
sc_not w c k word labels v x p s unreserved same one full (inr r) =
    let empty : is_some (slot_at v.slots k) ≡ false = ap is_some (empty_back w c k v p s one (subst (λ i. IsEmptySlot i p) (local_of w c k) r.front)) in
    cc

-- an SC whose word is not reserved can't retire while its hart's front slot is not empty
pub sc_cannot : (w : Config) (c k operand : ℕ) (word : WordAddr) (labels : Labels) (v : PartsView) (x : Local) → k < w.top.harts → x ≡ slice_index_or v.locals k x → HartNeeds w v k (needed.Rmw word Sc operand labels)
    → reserved_by x.reserved ≢ Some word.0 → IsOnePerLine v.slots.slots → is_some (slot_at v.slots k) ≡ true → Cannot w c v (Step k)
sc_cannot w c k operand word labels v x low is n unreserved one full p s e =
    sc_not w c k word labels v x p s unreserved (shown_by w c v k x p low s (sym is)).reserved one full
    (step_told w c k (needed.Rmw word Sc operand labels) p e.event e.done e.is_of e.guard (part_needs w c v k (needed.Rmw word Sc operand labels) x p low s n))
