-- BusRead and BusOwn are enabled only where the code's parts let the hart get the line.
use Rattle.std.proofs.Common.{◌≡◌, ◌≢◌, ℕ, ◌<◌, Bool, true, false, not, Option, None, Some, is_some, IsTrue, ◌↔◌, refl, sym, ap, ◌∙◌, subst, inl, inr}
use Rattle.dash_base.specs.declared.id.LineId.{LineId}
use Rattle.snoop_bus.specs.Holding.{Holding, copy_in}
use Rattle.snoop_bus.specs.View.{holding_at, owner_at, copy_of, HasHartRoom}
use Rattle.dash_event.specs.declared.event.Kind.{Kind}
use Rattle.dash_event.specs.declared.event.Kind.TheVariants as kind
use Rattle.dash_model.specs.Config.{Config, line_id}
use Rattle.dash_model.specs.Part.{Part}
use Rattle.dash_model.specs.HartRows.{HartEffect}
use Rattle.dash_model.specs.LineEffect.{has_copy, has_owner}
use Rattle.dash_model.specs.LineGuards.{BusReadFits as ReadInTable, BusOwnFits as OwnInTable}
use Rattle.dash_model.specs.Guard.{Guard}
use Rattle.dash_model.specs.Wants.{NeedsCopy, NeedsOwn, FrontNeed, StoreNeed}
use Rattle.unit_rows.specs.declared.choice.Choice.TheVariants.{BusRead, BusOwn}
use Rattle.unit_rows.specs.Shown.{PartsView, hart_at, Shows, AreSized}
use Rattle.unit_rows.specs.Choices.{IsOf}
use Rattle.unit_rows.specs.Rows.{Enabled, Cannot}
use Rattle.unit_rows.specs.LineNeeds.{is_this, IsNeeded}
use Rattle.unit_rows.proofs.Same.{is_same, test_same}
use Rattle.unit_rows.proofs.Copies.{has-copy_by, has_owner-copy_by}
use Rattle.unit_rows.proofs.RoomOn.{room_code}

-- the table's guard of an enabled choice
read_guard : (w : Config) (c k : ℕ) (l : LineId) (p : Part) (e : Kind) (d : HartEffect) → IsOf w c (BusRead k l) e → Guard w c e d p → ReadInTable w c (hart_at w c k) l.0 p
unfolding Guard
read_guard w c k l p (kind.BusRead g line) d is guard = subst (λ y. ReadInTable w c y l.0 p) is.0 (subst (λ (y : LineId). ReadInTable w c g.0 y.0 p) is.1 guard)
read_guard w c k l p e d is guard = absurd is

own_guard : (w : Config) (c k : ℕ) (l : LineId) (p : Part) (e : Kind) (d : HartEffect) → IsOf w c (BusOwn k l) e → Guard w c e d p → OwnInTable w c (hart_at w c k) l.0 p
unfolding Guard
own_guard w c k l p (kind.BusOwn g line) d is guard = subst (λ y. OwnInTable w c y l.0 p) is.0 (subst (λ (y : LineId). OwnInTable w c g.0 y.0 p) is.1 guard)
own_guard w c k l p e d is guard = absurd is

pub read_told : (w : Config) (c k : ℕ) (l : LineId) (p : Part) → Enabled w c (BusRead k l) p → ReadInTable w c (hart_at w c k) l.0 p
read_told w c k l p able = read_guard w c k l p able.event able.done able.is_of able.guard

pub own_told : (w : Config) (c k : ℕ) (l : LineId) (p : Part) → Enabled w c (BusOwn k l) p → OwnInTable w c (hart_at w c k) l.0 p
own_told w c k l p able = own_guard w c k l p able.event able.done able.is_of able.guard

-- BusRead: another line is needed, or none; there is no copy; there is no room
pub other_line : (w : Config) (c k : ℕ) (v : PartsView) (l : LineId) (found : Option LineId) → IsNeeded (λ q p. NeedsCopy w (hart_at w c k) q p) w c v found → found ≢ Some l → Cannot w c v (BusRead k l)
other_line w c k v l None is apart p shows able = is p shows l.0 (read_told w c k l p able).need
other_line w c k v l (Some m) is apart p shows able = let same : l.0 ≡ m.0 = (is p shows).1 l.0 (read_told w c k l p able).need in apart (ap (λ n. Some (the_line n)) (sym same))
  where
    the_line : ℕ → LineId
    the_line n = record { 0 = n }

copy_there : (o : Option Holding) → copy_in o ≡ None → is_some o ≡ false
copy_there None e = refl
copy_there (Some h) e = absurd (cc)

pub no_copy : (w : Config) (c k : ℕ) (v : PartsView) (l : LineId) → copy_of v.bus l.0 ≡ None → Cannot w c v (BusRead k l)
no_copy w c k v l none p shows able =
    let f : true ≡ false = sym (read_told w c k l p able).copy ∙ ap has_copy (shows.copies l.0) ∙ has-copy_by w c (holding_at v.bus l.0) ∙ copy_there (holding_at v.bus l.0) none in absurd (cc)

pub no_room : (w : Config) (c k : ℕ) (v : PartsView) (l : LineId) → k < w.top.harts → AreSized w c v → (HasHartRoom v.bus k l.0 → ⊥) → Cannot w c v (BusRead k l)
no_room w c k v l low sized none p shows able = none (room_code w c v p k l.0 low sized shows (read_told w c k l p able).room)

-- BusOwn: neither the instruction nor the oldest store needs the line; there is no owner; there is no room
front_apart : (w : Config) (c k : ℕ) (v : PartsView) (l : LineId) (p : Part) (found : Option LineId) → IsNeeded (λ q p. FrontNeed w (hart_at w c k) q p) w c v found → found ≢ Some l → Shows w c v p → FrontNeed w (hart_at w c k) l.0 p → ⊥
front_apart w c k v l p None is apart shows need = is p shows l.0 need
front_apart w c k v l p (Some m) is apart shows need = apart (ap (λ n. Some (the_line n)) (sym ((is p shows).1 l.0 need)))
  where
    the_line : ℕ → LineId
    the_line n = record { 0 = n }

store_apart : (w : Config) (c k : ℕ) (v : PartsView) (l : LineId) (p : Part) (found : Option LineId) → IsNeeded (λ q p. StoreNeed w (hart_at w c k) q p) w c v found → found ≢ Some l → Shows w c v p → StoreNeed w (hart_at w c k) l.0 p → ⊥
store_apart w c k v l p None is apart shows need = is p shows l.0 need
store_apart w c k v l p (Some m) is apart shows need = apart (ap (λ n. Some (the_line n)) (sym ((is p shows).1 l.0 need)))
  where
    the_line : ℕ → LineId
    the_line n = record { 0 = n }

pub not_needed : (w : Config) (c k : ℕ) (v : PartsView) (l : LineId) (write store : Option LineId) → IsNeeded (λ q p. FrontNeed w (hart_at w c k) q p) w c v write → IsNeeded (λ q p. StoreNeed w (hart_at w c k) q p) w c v store → write ≢ Some l → store ≢ Some l → (p : Part) → Shows w c v p → NeedsOwn w (hart_at w c k) l.0 p → ⊥
not_needed w c k v l write store is_write is_store apart other p shows (inl n) = front_apart w c k v l p write is_write apart shows n
not_needed w c k v l write store is_write is_store apart other p shows (inr n) = store_apart w c k v l p store is_store other shows n

pub not_needed_own : (w : Config) (c k : ℕ) (v : PartsView) (l : LineId) → ((p : Part) → Shows w c v p → NeedsOwn w (hart_at w c k) l.0 p → ⊥) → Cannot w c v (BusOwn k l)
not_needed_own w c k v l none p shows able = none p shows (own_told w c k l p able).need

pub no_owner : (w : Config) (c k : ℕ) (v : PartsView) (l : LineId) → owner_at v.bus l.0 ≡ None → Cannot w c v (BusOwn k l)
no_owner w c k v l none p shows able =
    let f : true ≡ false = sym (own_told w c k l p able).owner ∙ ap has_owner (shows.copies l.0) ∙ has_owner-copy_by w c (holding_at v.bus l.0) ∙ ap is_some none in absurd (cc)

pub no_own_room : (w : Config) (c k : ℕ) (v : PartsView) (l : LineId) → k < w.top.harts → AreSized w c v → (HasHartRoom v.bus k l.0 → ⊥) → Cannot w c v (BusOwn k l)
no_own_room w c k v l low sized none p shows able = none (room_code w c v p k l.0 low sized shows (own_told w c k l p able).room)

-- what is needed is needed on every part
pub copy_for : (w : Config) (c k : ℕ) (v : PartsView) (l : LineId) (found : Option LineId) → IsNeeded (λ q p. NeedsCopy w (hart_at w c k) q p) w c v found → found ≡ Some l → (p : Part) → Shows w c v p → NeedsCopy w (hart_at w c k) l.0 p
copy_for w c k v l None is e = absurd (cc)
copy_for w c k v l (Some m) is e = λ p shows. let same : m ≡ l = cc in subst (λ (y : LineId). NeedsCopy w (hart_at w c k) y.0 p) same (is p shows).0

pub write_for : (w : Config) (c k : ℕ) (v : PartsView) (l : LineId) (found : Option LineId) → IsNeeded (λ q p. FrontNeed w (hart_at w c k) q p) w c v found → found ≡ Some l → (p : Part) → Shows w c v p → NeedsOwn w (hart_at w c k) l.0 p
write_for w c k v l None is e = absurd (cc)
write_for w c k v l (Some m) is e = λ p shows. let same : m ≡ l = cc in inl (subst (λ (y : LineId). FrontNeed w (hart_at w c k) y.0 p) same (is p shows).0)

pub store_for : (w : Config) (c k : ℕ) (v : PartsView) (l : LineId) (found : Option LineId) → IsNeeded (λ q p. StoreNeed w (hart_at w c k) q p) w c v found → found ≡ Some l → (p : Part) → Shows w c v p → NeedsOwn w (hart_at w c k) l.0 p
store_for w c k v l None is e = absurd (cc)
store_for w c k v l (Some m) is e = λ p shows. let same : m ≡ l = cc in inr (subst (λ (y : LineId). StoreNeed w (hart_at w c k) y.0 p) same (is p shows).0)

-- what tests of what was found tell
pub this_found : (o : Option LineId) (l : LineId) → is_this o l.0 ≡ true → o ≡ Some l
this_found None l e = absurd (cc)
this_found (Some m) l e = ap (λ n. Some (line_id n)) (is_same m.0 l.0 e)

pub this_missing : (o : Option LineId) (l : LineId) → is_this o l.0 ≡ false → o ≢ Some l
this_missing o l e is = let t : is_this o l.0 ≡ true = ap (λ x. is_this x l.0) is ∙ test_same l.0 in absurd (cc)

pub some_by_test : {A : Type 0} (o : Option A) (b : Bool) → is_some o ≡ not b → b ≡ false → o ≢ None
some_by_test o b e is none = let f : true ≡ false = sym (ap not is) ∙ sym e ∙ ap is_some none in absurd (cc)

pub none_by_test : {A : Type 0} (o : Option A) (b : Bool) → is_some o ≡ not b → b ≡ true → o ≡ None
none_by_test None b e is = refl
none_by_test (Some x) b e is = let f : true ≡ false = e ∙ ap not is in absurd (cc)

pub unroomy : {A : Type 0} (b : Bool) → (IsTrue b ↔ A) → b ≡ false → A → ⊥
unroomy b both e a = let t : b ≡ true = both.1 a in absurd (cc)
