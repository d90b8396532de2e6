-- What a slot has cause to ask for: the request that the code finds is the one that the table lets it make.
use Rattle.std.proofs.Common.{◌≡◌, ◌⊎◌, ℕ, ◌+◌, ◌-◌, ◌*◌, ◌<◌, ◌≤◌, Bool, true, false, cond, Option, None, Some, is_some, refl, sym, ap, ◌∙◌, subst, inl, inr, arith}
use Rattle.std.specs.Prelude.{IfSome}
use Rattle.std.proofs.Math.Nat.{div-mul-le_self, mod-eq-sub-div-mul, mod-lt}
use Rattle.dash_base.specs.declared.id.LineId.{LineId}
use Rattle.dash_base.specs.declared.need.Need.{Need}
use Rattle.dash_base.specs.declared.need.Need.TheVariants.{Load}
use Rattle.dash_base.specs.Places.{line_count}
use Rattle.hart_core.proofs.LawsOffered.{one_need}
use Rattle.snoop_bus.specs.View.{BusView, copy_of, owner_at}
use Rattle.remote_cache.specs.Steps.{issued}
use Rattle.ack_counter.specs.View.{TableView, has_room}
use Rattle.dash_model.specs.Config.{Config, cluster_of, front_slot}
use Rattle.dash_model.specs.LineEffect.{has_copy, has_owner}
use Rattle.dash_model.specs.Part.{Processor, Part}
use Rattle.dash_model.specs.Wants.{LoadsFrom, NeedsCopy, WritesTo, FrontNeed, StoreNeed, AsksFor, FrontReads, FrontOwns, StoreOwns}
use Rattle.unit_rows.specs.Shown.{PartsView, hart_at, Shows, AreSized}
use Rattle.unit_rows.specs.LineNeeds.{IsNeeded}
use Rattle.unit_rows.specs.AskFits.{MayOwn, ToRead, ToWrite, ToStore, uncopied, unowned, HasCause, CausesJust}
use Rattle.unit_rows.proofs.AcksRoom.{room_there, room_back}
use Rattle.unit_rows.proofs.HintFits.{copy_there, owner_there}
use Rattle.unit_rows.proofs.LineNeeds.{unless}

-- a hart of the cluster by its number there
pub local_is : (w : Config) (c h : ℕ) → cluster_of w h ≡ c → front_slot w c h < w.top.harts
local_is w c h mine =
    let some : 0 < w.top.harts = w.top.harts_in_range.low in
    subst (λ y. h - y * w.top.harts < w.top.harts) mine (subst (λ y. y < w.top.harts) (mod-eq-sub-div-mul h w.top.harts) (mod-lt h some))

hart_is : (w : Config) (c n h : ℕ) → cluster_of w h ≡ c → n ≡ front_slot w c h → h ≡ hart_at w c n
hart_is w c n h mine is =
    let low : c * w.top.harts ≤ h = subst (λ y. y * w.top.harts ≤ h) mine (div-mul-le_self h w.top.harts) in
    let far : n ≡ h - c * w.top.harts = is in
    omega arith

pub slot_is : (w : Config) (c k : ℕ) → k ≡ front_slot w c (hart_at w c k)
slot_is w c k = omega arith

-- the causes of a front slot, and of a store slot; a prefetch slot has none
front_told : (w : Config) (c k h q : ℕ) (p : Part) (own : Bool) → k < w.top.harts → cluster_of w h ≡ c → AsksFor w c k h q p own → ToRead w (hart_at w c k) q p ⊎ ToWrite w (hart_at w c k) q p
front_told w c k h q p false low mine (FrontReads s n e) = inl (subst (λ y. ToRead w y q p) (hart_is w c k h mine s) (n, e))
front_told w c k h q p true low mine (FrontOwns s n e r) = inr (subst (λ y. ToWrite w y q p) (hart_is w c k h mine s) (n, (e, r)))
front_told w c k h q p true low mine (StoreOwns s n e r) = let far : k ≡ front_slot w c h + w.top.harts = s in absurd (omega arith)

store_told : (w : Config) (c k h q : ℕ) (p : Part) (own : Bool) → cluster_of w h ≡ c → AsksFor w c (k + w.top.harts) h q p own → ToStore w (hart_at w c k) q p
store_told w c k h q p false mine (FrontReads s n e) = let near = local_is w c h mine in let far : k + w.top.harts ≡ front_slot w c h = s in absurd (omega arith)
store_told w c k h q p true mine (FrontOwns s n e r) = let near = local_is w c h mine in let far : k + w.top.harts ≡ front_slot w c h = s in absurd (omega arith)
store_told w c k h q p true mine (StoreOwns s n e r) =
    let far : k + w.top.harts ≡ front_slot w c h + w.top.harts = s in
    let same : k ≡ front_slot w c h = omega arith in
    subst (λ y. ToStore w y q p) (hart_is w c k h mine same) (n, (e, r))

pub no_cause : (w : Config) (c n : ℕ) (v : PartsView) → w.top.harts + w.top.harts ≤ n → CausesJust w c v n None
no_cause w c n v high p h q own shows mine x = beyond own x
  where
    near : front_slot w c h < w.top.harts
    near = local_is w c h mine

    beyond : (own : Bool) → AsksFor w c n h q p own → ⊥
    beyond false (FrontReads s m e) = let low = near in let far : n ≡ front_slot w c h = s in omega arith
    beyond true (FrontOwns s m e r) = let low = near in let far : n ≡ front_slot w c h = s in omega arith
    beyond true (StoreOwns s m e r) = let low = near in let far : n ≡ front_slot w c h + w.top.harts = s in omega arith

-- an instruction that reads a line writes none
apart : (w : Config) (l q : ℕ) (s : Processor) (need : Need) → LoadsFrom w l s need → WritesTo w q s need → ⊥
apart w l q s (Load word mask labels reserve) f g = g
apart w l q s need f g = absurd f

not_both : (w : Config) (h l q : ℕ) (p : Part) → NeedsCopy w h l p → FrontNeed w h q p → ⊥
not_both w h l q p a b =
    let same : b.need ≡ a.need = one_need w.image w.top (p.harts h).core b.need a.need b.needs a.needs in
    apart w l q (p.harts h) a.need a.loads (subst (λ y. WritesTo w q (p.harts h) y) same b.writes)

-- what the tests tell
kept_out : (b : Bool) (l : LineId) → cond b None (Some l) ≡ None → b ≡ true
kept_out true l e = refl
kept_out false l e = absurd (cc)

let_in : (a b : Bool) (l m : LineId) → cond a None (cond b (Some m) None) ≡ Some l → (a ≡ false) × (b ≡ true) × (m ≡ l)
let_in true b l m e = absurd (cc)
let_in false false l m e = absurd (cc)
let_in false true l m e = (refl, refl, (let same : m ≡ l = cc in same))

kept_back : (a b : Bool) (m : LineId) → cond a None (cond b (Some m) None) ≡ None → a ≡ false → b ≡ true → ⊥
kept_back true b m e x y = cc
kept_back false false m e x y = cc
kept_back false true m e x y = cc

copied_not : (b : BusView) (found : Option LineId) (l : LineId) → uncopied b found ≡ Some l → (found ≡ Some l) × (is_some (copy_of b l.0) ≡ false)
copied_not b None l e = absurd (cc)
copied_not b (Some m) l e = let t = unless (is_some (copy_of b m.0)) l m e in (ap (λ y. Some y) t.1, subst (λ (y : LineId). is_some (copy_of b y.0) ≡ false) t.1 t.0)

record Free (b : BusView) (t : TableView) (found : Option LineId) (l : LineId) : Type 0 where
  found_is : found ≡ Some l
  owner : is_some (owner_at b l.0) ≡ false
  room : has_room t ≡ true

owned_not : (b : BusView) (t : TableView) (found : Option LineId) (l : LineId) → unowned b t found ≡ Some l → Free b t found l
owned_not b t None l e = absurd (cc)
owned_not b t (Some m) l e =
    let x = let_in (is_some (owner_at b m.0)) (has_room t) l m e in
    record { found_is = ap (λ y. Some y) x.2; owner = subst (λ (y : LineId). is_some (owner_at b y.0) ≡ false) x.2 x.0; room = x.1 }

-- a line to read
read_some : (w : Config) (c k : ℕ) (v : PartsView) (found : Option LineId) (l : LineId) → IsNeeded (λ q p. NeedsCopy w (hart_at w c k) q p) w c v found → uncopied v.bus found ≡ Some l → (p : Part) → Shows w c v p → ToRead w (hart_at w c k) l.0 p × ((q : ℕ) → NeedsCopy w (hart_at w c k) q p → q ≡ l.0)
read_some w c k v found l is e p shows =
    let t = copied_not v.bus found l e in
    let now : IsNeeded (λ q p. NeedsCopy w (hart_at w c k) q p) w c v (Some l) = subst (IsNeeded (λ q p. NeedsCopy w (hart_at w c k) q p) w c v) t.0 is in
    (((now p shows).0, copy_there w c l.0 v p shows ∙ t.1), (now p shows).1)

read_none : (w : Config) (c k : ℕ) (v : PartsView) (found : Option LineId) → IsNeeded (λ q p. NeedsCopy w (hart_at w c k) q p) w c v found → uncopied v.bus found ≡ None → (p : Part) → Shows w c v p → (q : ℕ) → ToRead w (hart_at w c k) q p → ⊥
read_none w c k v None is e p shows q x = is p shows q x.0
read_none w c k v (Some m) is e p shows q x =
    let same : q ≡ m.0 = (is p shows).1 q x.0 in
    let f : true ≡ false = sym (kept_out (is_some (copy_of v.bus m.0)) m e) ∙ sym (copy_there w c m.0 v p shows) ∙ ap (λ y. has_copy (p.cells y).copy) (sym same) ∙ x.1 in
    absurd (cc)

-- a line to own, for what needs it
own_some : (N : ℕ → Part → Type 0) (w : Config) (c : ℕ) (v : PartsView) (found : Option LineId) (l : LineId) → AreSized w c v → IsNeeded N w c v found → unowned v.bus v.acks found ≡ Some l → (p : Part) → Shows w c v p → (N l.0 p × MayOwn w l.0 p) × ((q : ℕ) → N q p → q ≡ l.0)
own_some N w c v found l sized is e p shows =
    let t = owned_not v.bus v.acks found l e in
    let now : IsNeeded N w c v (Some l) = subst (IsNeeded N w c v) t.found_is is in
    (((now p shows).0, (owner_there w c l.0 v p shows ∙ t.owner, room_there w c v p shows sized t.room)), (now p shows).1)

own_none : (N : ℕ → Part → Type 0) (w : Config) (c : ℕ) (v : PartsView) (found : Option LineId) → AreSized w c v → IsNeeded N w c v found → unowned v.bus v.acks found ≡ None → (p : Part) → Shows w c v p → (q : ℕ) → N q p × MayOwn w q p → ⊥
own_none N w c v None sized is e p shows q x = is p shows q x.0
own_none N w c v (Some m) sized is e p shows q x =
    let same : q ≡ m.0 = (is p shows).1 q x.0 in
    kept_back (is_some (owner_at v.bus m.0)) (has_room v.acks) m e (sym (owner_there w c m.0 v p shows) ∙ ap (λ y. has_owner (p.cells y).copy) (sym same) ∙ x.1.0) (room_back w c v p shows sized x.1.1)

pub none_if : (o : Option LineId) → ((l : LineId) → o ≡ Some l → ⊥) → o ≡ None
none_if None apart = refl
none_if (Some l) apart = absurd (apart l refl)

-- what was found is in memory
if_some : (n : ℕ) (o : Option LineId) (l : LineId) → IfSome o (λ (y : LineId). y.0 < n) → o ≡ Some l → l.0 < n
if_some n None l k e = absurd (cc)
if_some n (Some m) l k e = let same : m ≡ l = cc in subst (λ (y : LineId). y.0 < n) same k

-- a front slot
pub causes_read : (w : Config) (c k : ℕ) (v : PartsView) (found : Option LineId) (l : LineId) → k < w.top.harts → IfSome found (λ (y : LineId). y.0 < line_count w.top) → IsNeeded (λ q p. NeedsCopy w (hart_at w c k) q p) w c v found → uncopied v.bus found ≡ Some l → HasCause w c v k (issued k l false)
causes_read w c k v found l low inside is e = record {
  asked = refl;
  local = low;
  inside = if_some (line_count w.top) found l inside (copied_not v.bus found l e).0;
  room = λ own. absurd (cc);
  cause = λ p shows. let x = (read_some w c k v found l is e p shows).0 in FrontReads (slot_is w c k) x.0 x.1;
  only = λ p h q own shows mine x.
      let t = read_some w c k v found l is e p shows in
      elim (front_told w c k h q p own low mine x) [
        | inl r ↦ t.1 q r.0
        | inr r ↦ absurd (not_both w (hart_at w c k) l.0 q p t.0.0 r.0)
      ];
}

pub causes_write : (w : Config) (c k : ℕ) (v : PartsView) (read found : Option LineId) (l : LineId) → k < w.top.harts → IfSome found (λ (y : LineId). y.0 < line_count w.top) → AreSized w c v → IsNeeded (λ q p. NeedsCopy w (hart_at w c k) q p) w c v read → uncopied v.bus read ≡ None
    → IsNeeded (λ q p. FrontNeed w (hart_at w c k) q p) w c v found → unowned v.bus v.acks found ≡ Some l → HasCause w c v k (issued k l true)
causes_write w c k v read found l low inside sized reads none is e = record {
  asked = refl;
  local = low;
  inside = if_some (line_count w.top) found l inside (owned_not v.bus v.acks found l e).found_is;
  room = λ own. (owned_not v.bus v.acks found l e).room;
  cause = λ p shows. let x = (own_some (λ q p. FrontNeed w (hart_at w c k) q p) w c v found l sized is e p shows).0 in FrontOwns (slot_is w c k) x.0 x.1.0 x.1.1;
  only = λ p h q own shows mine x.
      elim (front_told w c k h q p own low mine x) [
        | inl r ↦ absurd (read_none w c k v read reads none p shows q r)
        | inr r ↦ (own_some (λ q p. FrontNeed w (hart_at w c k) q p) w c v found l sized is e p shows).1 q r.0
      ];
}

pub front_none : (w : Config) (c k : ℕ) (v : PartsView) (read found : Option LineId) → k < w.top.harts → AreSized w c v → IsNeeded (λ q p. NeedsCopy w (hart_at w c k) q p) w c v read → uncopied v.bus read ≡ None
    → IsNeeded (λ q p. FrontNeed w (hart_at w c k) q p) w c v found → unowned v.bus v.acks found ≡ None → CausesJust w c v k None
front_none w c k v read found low sized reads none is e p h q own shows mine x =
    elim (front_told w c k h q p own low mine x) [
      | inl r ↦ read_none w c k v read reads none p shows q r
      | inr r ↦ own_none (λ q p. FrontNeed w (hart_at w c k) q p) w c v found sized is e p shows q r
    ]

-- a store slot
pub causes_store : (w : Config) (c k : ℕ) (v : PartsView) (found : Option LineId) (l : LineId) → k < w.top.harts → IfSome found (λ (y : LineId). y.0 < line_count w.top) → AreSized w c v → IsNeeded (λ q p. StoreNeed w (hart_at w c k) q p) w c v found → unowned v.bus v.acks found ≡ Some l → HasCause w c v (k + w.top.harts) (issued k l true)
causes_store w c k v found l low inside sized is e = record {
  asked = refl;
  local = low;
  inside = if_some (line_count w.top) found l inside (owned_not v.bus v.acks found l e).found_is;
  room = λ own. (owned_not v.bus v.acks found l e).room;
  cause = λ p shows. let x = (own_some (λ q p. StoreNeed w (hart_at w c k) q p) w c v found l sized is e p shows).0 in StoreOwns (ap (λ y. y + w.top.harts) (slot_is w c k)) x.0 x.1.0 x.1.1;
  only = λ p h q own shows mine x. (own_some (λ q p. StoreNeed w (hart_at w c k) q p) w c v found l sized is e p shows).1 q (store_told w c k h q p own mine x).0;
}

pub store_none : (w : Config) (c k : ℕ) (v : PartsView) (found : Option LineId) → AreSized w c v → IsNeeded (λ q p. StoreNeed w (hart_at w c k) q p) w c v found → unowned v.bus v.acks found ≡ None → CausesJust w c v (k + w.top.harts) None
store_none w c k v found sized is e p h q own shows mine x = own_none (λ q p. StoreNeed w (hart_at w c k) q p) w c v found sized is e p shows q (store_told w c k h q p own mine x)
