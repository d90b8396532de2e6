-- Each line that a hart may give up is in the way of one that it wants.
use Rattle.std.proofs.Common.{Err, ◌≡◌, ◌⊎◌, inl, inr, ℕ, ◌+◌, ◌-◌, ◌%◌, ◌<◌, ◌≤◌, ◌==◌, Bool, true, false, cond, Option, None, Some, List, length, refl, sym, ap, ◌∙◌, subst, arith}
use Rattle.std.specs.List.{insert}
use Rattle.std.specs.List.Sorted.{IsBinarySearchResult}
use Rattle.std.specs.Ordering.{nat_cmp}
use Rattle.std.proofs.lemmas.List.Sorted.{searched}
use Rattle.std.proofs.lemmas.Bool.{cases_lt, cases_eq}
use Rattle.std.proofs.lemmas.Bool.Decides.{nat_tests}
use Rattle.std.proofs.lemmas.List.Edits.{length-insert, get_or-insert_below, get_or-insert_at, get_or-insert_above}
use Rattle.std.proofs.Common.{slice_index_or}
use Rattle.dash_base.specs.declared.id.LineId.{LineId}
use Rattle.dash_event.specs.declared.event.Kind.{Kind}
use Rattle.dash_event.specs.declared.event.Kind.TheVariants as kind
use Rattle.remote_cache.specs.declared.slot.Phase.{Phase as Waits}
use Rattle.remote_cache.specs.declared.slot.Phase.TheVariants as waits
use Rattle.remote_cache.specs.declared.slot.Slot.{Slot as Request}
use Rattle.remote_cache.specs.View.{SlotsView, count, slot_at, slot_of, is_of, IsUsed}
use Rattle.remote_cache.proofs.LawsOffered.{lines_have_one_slot}
use Rattle.snoop_bus.specs.View.{BusView, harts as bus_harts, HasHartRoom, IsHartOther, IsOneMap}
use Rattle.dash_model.specs.Config.{Config}
use Rattle.dash_model.specs.Cell.{Reads, Owns}
use Rattle.dash_model.specs.Part.{Part}
use Rattle.dash_model.specs.HartRows.{HartEffect}
use Rattle.dash_model.specs.Guard.{Guard}
use Rattle.dash_model.specs.LineGuards.{EvictFits}
use Rattle.dash_model.specs.Wants.{NeedsCopy, FrontNeed, StoreNeed, CameFor, Wants, ToInstall, ToRead, ToOwn}
use Rattle.unit_rows.specs.declared.choice.Choice.TheVariants as choice
use Rattle.unit_rows.specs.Shown.{PartsView, hart_at, phase_by, slot_by, slot_in, Shows, AreSized}
use Rattle.unit_rows.specs.LineNeeds.{IsNeeded}
use Rattle.unit_rows.specs.Choices.{IsOf}
use Rattle.unit_rows.proofs.LawsOffered.{held_is}
use Rattle.cluster_unit.specs.Victims.{IsRising, IsIn, Keeps, came_by, came_line, HasVictimOf, HasCame, HasVictims}

-- ---- a number that is put in its place

order_by : (i at : ℕ) → (at < i) ⊎ (i ≤ at) → at ≤ i → (i ≡ at → ⊥) → at < i
order_by i at (inl less) above other = less
order_by i at (inr more) above other = absurd (other (omega (arith, more, above)))

order_apart : (i at : ℕ) → at ≤ i → (i ≡ at → ⊥) → at < i
order_apart i at above other = order_by i at (cases_lt at i) above other

rises_at : (xs : List ℕ) → IsRising xs → (i j : ℕ) → j < length xs → (i < j) ⊎ (j ≤ i) → i ≤ j → slice_index_or xs i 0 ≤ slice_index_or xs j 0
rises_at xs rising i j low (inl less) up = let r = rising i j less low in omega (arith, r)
rises_at xs rising i j low (inr more) up = let same : i ≡ j = omega (arith, more, up) in subst (λ n. slice_index_or xs i 0 ≤ slice_index_or xs n 0) same (omega arith)

module _ (xs : List ℕ) (at y : ℕ) (inside : at ≤ length xs) where
  put_below : (j : ℕ) → j < at → slice_index_or (insert xs at y) j 0 ≡ slice_index_or xs j 0
  put_below j low = get_or-insert_below xs at y 0 j low inside

  put_here : slice_index_or (insert xs at y) at 0 ≡ y
  put_here = get_or-insert_at xs at y 0 inside

  put_above : (j : ℕ) → at ≤ j → slice_index_or (insert xs at y) (j + 1) 0 ≡ slice_index_or xs j 0
  put_above j high = get_or-insert_above xs at y 0 j high inside

  put_after : (j : ℕ) → at < j → slice_index_or (insert xs at y) j 0 ≡ slice_index_or xs (j - 1) 0
  put_after j high = let same : j - 1 + 1 ≡ j = omega (arith, high) in subst (λ i. slice_index_or (insert xs at y) i 0 ≡ slice_index_or xs (j - 1) 0) same (put_above (j - 1) (omega (arith, high)))

  is_longer : length (insert xs at y) ≡ length xs + 1
  is_longer = length-insert xs at y inside

  keep_at : (x n : ℕ) → n < length xs → slice_index_or xs n 0 ≡ x → (n < at) ⊎ (at ≤ n) → IsIn (insert xs at y) x
  keep_at x n low is (inl below) = record { place = n; low = let more = is_longer in omega (arith, more, low); is = put_below n below ∙ is }
  keep_at x n low is (inr above) = record { place = n + 1; low = let more = is_longer in omega (arith, more, low); is = put_above n above ∙ is }

  pub put_keeps : Keeps xs (insert xs at y)
  put_keeps x had = keep_at x had.place had.low had.is (cases_lt had.place at)

  pub put_has : IsIn (insert xs at y) y
  put_has = record { place = at; low = let more = is_longer in omega (arith, more, inside); is = put_here }

  module _ (rising : IsRising xs) (less : (k : ℕ) → k < at → slice_index_or xs k 0 < y) (more : (k : ℕ) → at ≤ k → k < length xs → y < slice_index_or xs k 0) where
    rise_after : (i j : ℕ) → i < j → j < length xs + 1 → at < j → (i < at) ⊎ (at ≤ i) → (i ≡ at) ⊎ (i ≡ at → ⊥) → slice_index_or (insert xs at y) i 0 < slice_index_or (insert xs at y) j 0
    rise_after i j up low high (inl below) same =
        let e = put_below i below in let f = put_after j high in let r = rising i (j - 1) (omega (arith, below, high)) (omega (arith, low, high)) in omega (arith, e, f, r)
    rise_after i j up low high (inr above) (inl here) =
        let e = subst (λ n. slice_index_or (insert xs at y) n 0 ≡ y) (sym here) put_here in let f = put_after j high in let r = more (j - 1) (omega (arith, high)) (omega (arith, low, high)) in omega (arith, e, f, r)
    rise_after i j up low high (inr above) (inr other) =
        let over : at < i = order_apart i at above other in
        let e = put_after i over in let f = put_after j high in let r = rising (i - 1) (j - 1) (omega (arith, over, up)) (omega (arith, low, high)) in omega (arith, e, f, r)

    rise_at : (i j : ℕ) → i < j → j < length xs + 1 → (j < at) ⊎ (at ≤ j) → (j ≡ at) ⊎ (j ≡ at → ⊥) → slice_index_or (insert xs at y) i 0 < slice_index_or (insert xs at y) j 0
    rise_at i j up low (inl below) same =
        let e = put_below i (omega (arith, up, below)) in let f = put_below j below in let r = rising i j up (omega (arith, below, inside)) in omega (arith, e, f, r)
    rise_at i j up low (inr above) (inl here) =
        let e = put_below i (omega (arith, up, here)) in let f = subst (λ n. slice_index_or (insert xs at y) n 0 ≡ y) (sym here) put_here in let r = less i (omega (arith, up, here)) in omega (arith, e, f, r)
    rise_at i j up low (inr above) (inr other) = rise_after i j up low (order_apart j at above other) (cases_lt i at) (cases_eq i at)

    pub put_rises : IsRising (insert xs at y)
    put_rises i j up low = rise_at i j up (let longer = is_longer in omega (arith, low, longer)) (cases_lt j at) (cases_eq j at)

pub rises_slowly : (xs : List ℕ) → IsRising xs → (i j : ℕ) → i ≤ j → j < length xs → slice_index_or xs i 0 ≤ slice_index_or xs j 0
rises_slowly xs rising i j up low = rises_at xs rising i j low (cases_lt i j) up

-- a line is put where the search says that it belongs
pub put_in : (xs ys new : List ℕ) (x at : ℕ) → ys ≡ xs → IsRising xs → IsBinarySearchResult (λ y. nat_cmp y x) ys (Err at) → new ≡ insert xs at x → IsRising new × Keeps xs new
put_in xs ys new x at same rising found is =
    let place = searched xs x (Err at) (subst (λ zs. IsBinarySearchResult (λ y. nat_cmp y x) zs (Err at)) same found) (rises_slowly xs rising) in
    (subst IsRising (sym is) (put_rises xs at x place.0 rising place.1 place.2), subst (λ zs. Keeps xs zs) (sym is) (put_keeps xs at x place.0))

-- ---- the line in the way of one that is wanted

pub in_the_way : (b : BusView) (k m line : ℕ) (xs : List ℕ) → IsOneMap b → k < bus_harts b → IsHartOther b k m line → IsIn xs line → (l : ℕ) → IsHartOther b k m l → IsIn xs l
in_the_way b k m line xs map low is had l other =
    let same : l ≡ line = (map.indexes k line low is.held).alone l other.held (other.index ∙ sym is.index) in subst (λ n. IsIn xs n) (sym same) had

pub none_in_way : (b : BusView) (k m : ℕ) (xs : List ℕ) → HasHartRoom b k m → (l : ℕ) → IsHartOther b k m l → IsIn xs l
none_in_way b k m xs room l other = absurd (other.apart (room.alone l other.held other.index))

pub kept_victim : (b : BusView) (k : ℕ) (found : Option LineId) (xs ys : List ℕ) → Keeps xs ys → HasVictimOf b k found xs → HasVictimOf b k found ys
kept_victim b k None xs ys keeps had = tt
kept_victim b k (Some m) xs ys keeps had = λ l other. keeps l (had l other)

pub kept_came : (b : BusView) (v : SlotsView) (k n : ℕ) (xs ys : List ℕ) → Keeps xs ys → HasCame b v k n xs → HasCame b v k n ys
kept_came b v k n xs ys keeps had i low = kept_victim b k (came_line k (slot_at v i)) xs ys keeps (had i low)

came_at : (b : BusView) (v : SlotsView) (k n : ℕ) (xs : List ℕ) → HasCame b v k n xs → HasVictimOf b k (came_line k (slot_at v n)) xs → (i : ℕ) → i < n + 1 → (i < n) ⊎ (n ≤ i) → HasVictimOf b k (came_line k (slot_at v i)) xs
came_at b v k n xs had one i low (inl less) = had i less
came_at b v k n xs had one i low (inr more) = let same : n ≡ i = omega (arith, low, more) in subst (λ j. HasVictimOf b k (came_line k (slot_at v j)) xs) same one

pub one_came : (b : BusView) (v : SlotsView) (k n : ℕ) (found : Option LineId) (xs ys : List ℕ) → found ≡ came_line k (slot_at v n) → HasCame b v k n xs → Keeps xs ys → HasVictimOf b k found ys → HasCame b v k (n + 1) ys
one_came b v k n found xs ys is had keeps one i low =
    came_at b v k n ys (kept_came b v k n xs ys keeps had) (subst (λ o. HasVictimOf b k o ys) is one) i low (cases_lt i n)

-- nothing came to a slot that is empty
came_nowhere : (b : BusView) (k : ℕ) (xs : List ℕ) (o : Option Request) → o ≡ None → HasVictimOf b k (came_line k o) xs
came_nowhere b k xs None e = tt
came_nowhere b k xs (Some s) e = absurd (cc)

came_past : (b : BusView) (v : SlotsView) (k u : ℕ) (xs : List ℕ) → IsUsed v.slots u → HasCame b v k u xs → (i : ℕ) → (i < u) ⊎ (u ≤ i) → HasVictimOf b k (came_line k (slot_at v i)) xs
came_past b v k u xs used had i (inl low) = had i low
came_past b v k u xs used had i (inr high) = came_nowhere b k xs (slot_at v i) (used.rest i high)

pub all_came : (b : BusView) (v : SlotsView) (k u n : ℕ) (xs : List ℕ) → IsUsed v.slots u → HasCame b v k u xs → HasCame b v k n xs
all_came b v k u n xs used had i low = came_past b v k u xs used had i (cases_lt i u)

-- ---- what an enabled Evict tells

evict_by : (w : Config) (c k : ℕ) (l : LineId) (p : Part) (e : Kind) (d : HartEffect) → IsOf w c (choice.Evict k l) e → Guard w c e d p → EvictFits w c (hart_at w c k) l.0 p
unfolding Guard
evict_by w c k l p (kind.Evict g line) d is guard = subst (λ y. EvictFits w c y l.0 p) is.0 (subst (λ (y : LineId). EvictFits w c g.0 y.0 p) is.1 guard)
evict_by w c k l p e d is guard = absurd is

-- a slot to which the line came
record CameTo (v : SlotsView) (k q : ℕ) : Type 0 where
  slot : ℕ
  low : slot < count v
  line : LineId
  line_is : line.0 ≡ q
  came : came_line k (slot_at v slot) ≡ Some line

came_phase : (h n t : ℕ) (own : Bool) (phase : Waits) (l : LineId) → CameFor h (cond own (Owns n t (phase_by phase)) (Reads n t (phase_by phase))) → (t ≡ h) × (came_by phase l ≡ Some l)
came_phase h n t true waits.Asked l r = absurd r
came_phase h n t true waits.Poisoned l r = absurd r
came_phase h n t true waits.Refused l r = absurd r
came_phase h n t true (waits.Came d) l r = (r, refl)
came_phase h n t false waits.Asked l r = absurd r
came_phase h n t false waits.Poisoned l r = absurd r
came_phase h n t false waits.Refused l r = absurd r
came_phase h n t false (waits.Came d) l r = (r, refl)

came_in_slot : (w : Config) (c k n q : ℕ) (v : SlotsView) (o : Option Request) → n < count v → slot_at v n ≡ o → is_of q o ≡ true → CameFor (hart_at w c k) (slot_by w c n o) → CameTo v k q
came_in_slot w c k n q v None low at has r = absurd r
came_in_slot w c k n q v (Some s) low at has r =
    let t = came_phase (hart_at w c k) n (hart_at w c s.hart) s.own s.phase s.line r in
    let hart = t.0 in
    let same : s.hart ≡ k = omega (arith, hart) in
    let test : (s.hart == k) ≡ true = grind (arith, nat_tests) in
    record { slot = n; low = low; line = s.line; line_is = grind (arith, nat_tests); came = ap (came_line k) at ∙ ap (λ b. cond b (came_by s.phase s.line) None) test ∙ t.1 }

came_in : (w : Config) (c k q : ℕ) (v : SlotsView) (o : Option ℕ) → slot_of v q ≡ o → CameFor (hart_at w c k) (slot_in w c v o) → CameTo v k q
came_in w c k q v None at r = absurd r
came_in w c k q v (Some n) at r = came_in_slot w c k n q v (slot_at v n) (lines_have_one_slot.in_range v q n at) refl (lines_have_one_slot.has_line v q n at) r

victim_there : (b : BusView) (k : ℕ) (found : Option LineId) (m : LineId) (xs : List ℕ) (l : ℕ) → found ≡ Some m → HasVictimOf b k found xs → IsHartOther b k m.0 l → IsIn xs l
victim_there b k None m xs l e had other = absurd (cc)
victim_there b k (Some x) m xs l e had other = let same : x ≡ m = cc in had l (subst (λ (y : LineId). IsHartOther b k y.0 l) (sym same) other)

by_need : (w : Config) (c k : ℕ) (v : PartsView) (p : Part) (Needs : ℕ → Part → Type 0) (found : Option LineId) (xs : List ℕ) (q l : ℕ) → Shows w c v p → IsNeeded Needs w c v found → Needs q p → HasVictimOf v.bus k found xs → IsHartOther v.bus k q l → IsIn xs l
by_need w c k v p Needs None xs q l shows none need had other = absurd (none p shows q need)
by_need w c k v p Needs (Some m) xs q l shows one need had other = had l (subst (λ y. IsHartOther v.bus k y l) ((one p shows).1 q need) other)

module _ (w : Config) (c k : ℕ) (v : PartsView) (xs : List ℕ) (copy write store : Option LineId) (came : HasCame v.bus v.slots k (count v.slots) xs)
    (reads : IsNeeded (λ q p. NeedsCopy w (hart_at w c k) q p) w c v copy) (writes : IsNeeded (λ q p. FrontNeed w (hart_at w c k) q p) w c v write) (stores : IsNeeded (λ q p. StoreNeed w (hart_at w c k) q p) w c v store)
    (has_copy : HasVictimOf v.bus k copy xs) (has_write : HasVictimOf v.bus k write xs) (has_store : HasVictimOf v.bus k store xs) where
  wanted : (p : Part) (q l : ℕ) → Shows w c v p → IsHartOther v.bus k q l → Wants w (hart_at w c k) q p → IsIn xs l
  wanted p q l shows other (ToInstall is) =
      let t = came_in w c k q v.slots (slot_of v.slots q) refl (subst (CameFor (hart_at w c k)) (shows.slots q) is) in
      victim_there v.bus k (came_line k (slot_at v.slots t.slot)) t.line xs l t.came (came t.slot t.low) (subst (λ y. IsHartOther v.bus k y l) (sym t.line_is) other)
  wanted p q l shows other (ToRead need has) = by_need w c k v p (λ y z. NeedsCopy w (hart_at w c k) y z) copy xs q l shows reads need has_copy other
  wanted p q l shows other (ToOwn (inl need) has) = by_need w c k v p (λ y z. FrontNeed w (hart_at w c k) y z) write xs q l shows writes need has_write other
  wanted p q l shows other (ToOwn (inr need) has) = by_need w c k v p (λ y z. StoreNeed w (hart_at w c k) y z) store xs q l shows stores need has_store other

  pub all_victims : k < w.top.harts → AreSized w c v → HasVictims w c v k xs
  all_victims low sized l p shows able =
      let t = evict_by w c k l p able.event able.done able.is_of able.guard in
      wanted p t.other l.0 shows
      (record { held = sym (held_is w c v p k l.0 low shows) ∙ t.holder; apart = λ e. t.differs (sym e); index = subst (λ n. l.0 % n ≡ t.other % n) (sym sized.l2) (sym t.index) }) t.wants
