-- The first choice that serves a hart, as a search finds it.
use Rattle.std.proofs.Common.{◌≡◌, ◌≢◌, ◌⊎◌, inl, inr, ℕ, ◌+◌, ◌<◌, ◌≤◌, Bool, true, false, Option, None, Some, List, [], ◌∷◌, length, slice_index_or, refl, sym, ap, ap₂, ◌∙◌, subst, arith}
use Rattle.std.proofs.lemmas.Bool.{cases_lt}
use Rattle.dash_base.specs.declared.id.LineId.{LineId}
use Rattle.write_buffer.specs.declared.entry.Entry.{Entry as Stored}
use Rattle.dash_model.specs.Config.{Config, line_id}
use Rattle.dash_model.specs.Part.{Part, opening_part}
use Rattle.dash_model.specs.LocalRun.{part_at}
use Rattle.dash_model.specs.Wants.{NeedsCopy, FrontNeed, StoreNeed}
use Rattle.unit_rows.specs.declared.choice.Choice.{Choice}
use Rattle.unit_rows.specs.declared.choice.Choice.TheVariants as choice
use Rattle.unit_rows.specs.declared.parts.Local.{Local}
use Rattle.unit_rows.specs.EvictFits.{Tells, CanRead, CanWrite, CanStore}
use Rattle.unit_rows.specs.LineNeeds.{IsNeeded}
use Rattle.unit_rows.specs.Shown.{PartsView, hart_at, Shows}
use Rattle.unit_rows.specs.Rows.{Enabled}
use Rattle.cluster_unit.specs.declared.cause.Cause.{Cause}
use Rattle.cluster_unit.specs.declared.cause.Cause.TheVariants.{Store, Instruction}
use Rattle.cluster_unit.specs.declared.turn.Turn.{Turn}
use Rattle.cluster_unit.specs.Enabling.{is_take}
use Rattle.cluster_unit.specs.View.{CoreView}
use Rattle.cluster_unit.specs.Core.{HasRun, IsCore}
use Rattle.cluster_unit.specs.Choosing.{Performed}
use Rattle.cluster_unit.specs.Victims.{HasVictims}
use Rattle.cluster_unit.specs.Serial.{FrontRoom, ServesStore, ServesFront, ServesAfter, Serves, serial_place, FirstSerial, Stepped}
use Rattle.cluster_unit.specs.SerialSearch.{Just, IsAtPlace, FoundAt, NoneBefore, IsFirstFor, FirstFor, RoomFor, MakesRoom, CannotMake, FindsRoom}
use Rattle.cluster_unit.proofs.Cores.{shows_at}
use Rattle.cluster_unit.proofs.FirstOnes.{so_far}
use Rattle.cluster_unit.proofs.Listed.{own_may}
use Rattle.cluster_unit.proofs.Turning.{at_run, performed_did}

-- ---- one place after another
module _ (w : Config) (c : ℕ) (v : PartsView) (P : Choice → Part → Type 0) where
  pub none_yet : NoneBefore w c v P 0
  none_yet y p shows able serves low = omega (arith, low)

  pub none_next : (n : ℕ) → NoneBefore w c v P n → FoundAt w c v P n None → NoneBefore w c v P (n + 1)
  none_next n before none y p shows able serves low = by_last (cases_lt (serial_place y) n)
    where
      by_last : (serial_place y < n) ⊎ (n ≤ serial_place y) → ⊥
      by_last (inl less) = before y p shows able serves less
      by_last (inr more) = none y p shows able serves (omega (arith, low, more))

  pub one_found : (n : ℕ) (x : Choice) → NoneBefore w c v P n → FoundAt w c v P n (Some x) → IsFirstFor w c v P x
  one_found n x before found = record { own = found.own; can = found.can; serves = found.serves; first = subst (λ m. NoneBefore w c v P m) (sym found.place) before }

  pub last_found : (n : ℕ) (found : Option Choice) → ((y : Choice) (p : Part) → P y p → serial_place y < n + 1) → NoneBefore w c v P n → FoundAt w c v P n found → FirstFor w c v P found
  last_found n None few before none = λ y p shows able serves. none_next n before none y p shows able serves (few y p serves)
  last_found n (Some x) few before found = one_found n x before found

  -- a choice that is the only one of its place
  pub just_at : (n : ℕ) (x : Choice) (found : Option Choice) → is_take x ≡ false → serial_place x ≡ n → ((p : Part) → Shows w c v p → P x p) → ((y : Choice) (p : Part) → Shows w c v p → P y p → serial_place y ≡ n → y ≡ x) → Just w c v x found → FoundAt w c v P n found
  just_at n x None own place serves only cannot = λ y p shows able is at. cannot p shows (subst (λ z. Enabled w c z p) (only y p shows is at) able)
  just_at n x (Some z) own place serves only found = subst (IsAtPlace w c v P n) (sym found.0) (record { own = own; can = found.1; serves = serves; place = place })

  -- the same choices, on the parts that are shown
  pub same_for : (Q : Choice → Part → Type 0) (found : Option Choice) → ((y : Choice) (p : Part) → Shows w c v p → P y p → Q y p) → ((y : Choice) (p : Part) → Shows w c v p → Q y p → P y p) → FirstFor w c v P found → FirstFor w c v Q found
  same_for Q None to back none = λ y p shows able serves. none y p shows able (back y p shows serves)
  same_for Q (Some x) to back found = record { own = found.own; can = found.can; serves = λ p shows. to x p shows (found.serves p shows); first = λ y p shows able serves low. found.first y p shows able (back y p shows serves) low }

-- ---- a line that is needed
own_line : (k h : ℕ) (l m : LineId) → h ≡ k → m.0 ≡ l.0 → choice.BusOwn h m ≡ choice.BusOwn k l
own_line k h l m e f = ap₂ (λ i j. choice.BusOwn i (line_id j)) e f

read_line : (k h : ℕ) (l m : LineId) → h ≡ k → m.0 ≡ l.0 → choice.BusRead h m ≡ choice.BusRead k l
read_line k h l m e f = ap₂ (λ i j. choice.BusRead i (line_id j)) e f

module _ (w : Config) (c k : ℕ) (v : PartsView) where
  -- of the oldest store
  only_commit : (y : Choice) (p : Part) → Shows w c v p → ServesStore w c k y p → serial_place y ≡ 0 → y ≡ choice.Commit k
  only_commit (choice.Commit h) p shows is at = ap choice.Commit is
  only_commit (choice.BusOwn h l) p shows is at = absurd (omega (arith, at))
  only_commit (choice.Evict h l) p shows is at = absurd (omega (arith, at))
  only_commit (choice.Ask n) p shows is at = absurd (omega (arith, at))
  only_commit y p shows is at = absurd is

  only_store : (l : LineId) → IsNeeded (λ q p. StoreNeed w (hart_at w c k) q p) w c v (Some l) → (y : Choice) (p : Part) → Shows w c v p → ServesStore w c k y p → serial_place y ≡ 2 → y ≡ choice.BusOwn k l
  only_store l needed (choice.BusOwn h m) p shows is at = own_line k h l m is.0 ((needed p shows).1 m.0 is.1)
  only_store l needed (choice.Commit h) p shows is at = absurd (omega (arith, at))
  only_store l needed (choice.Evict h m) p shows is at = absurd (omega (arith, at))
  only_store l needed (choice.Ask n) p shows is at = absurd (omega (arith, at))
  only_store l needed y p shows is at = absurd is

  pub no_store : IsNeeded (λ q p. StoreNeed w (hart_at w c k) q p) w c v None → FoundAt w c v (λ y p. ServesStore w c k y p) 2 None
  no_store none (choice.BusOwn h m) p shows able is at = none p shows m.0 is.1
  no_store none (choice.Commit h) p shows able is at = absurd (omega (arith, at))
  no_store none (choice.Evict h m) p shows able is at = absurd (omega (arith, at))
  no_store none (choice.Ask n) p shows able is at = absurd (omega (arith, at))
  no_store none y p shows able is at = absurd is

  only_store_slot : (y : Choice) (p : Part) → Shows w c v p → ServesStore w c k y p → serial_place y ≡ 4 → y ≡ choice.Ask (k + w.top.harts)
  only_store_slot (choice.Ask n) p shows is at = ap choice.Ask is
  only_store_slot (choice.Commit h) p shows is at = absurd (omega (arith, at))
  only_store_slot (choice.BusOwn h m) p shows is at = absurd (omega (arith, at))
  only_store_slot (choice.Evict h m) p shows is at = absurd (omega (arith, at))
  only_store_slot y p shows is at = absurd is

  few_store : (y : Choice) (p : Part) → ServesStore w c k y p → serial_place y < 4 + 1
  few_store (choice.Commit h) p is = omega arith
  few_store (choice.BusOwn h m) p is = omega arith
  few_store (choice.Evict h m) p is = omega arith
  few_store (choice.Ask n) p is = omega arith
  few_store y p is = absurd is

  pub commit_at : (found : Option Choice) → Just w c v (choice.Commit k) found → FoundAt w c v (λ y p. ServesStore w c k y p) 0 found
  commit_at found just = just_at w c v (λ y p. ServesStore w c k y p) 0 (choice.Commit k) found refl refl (λ p shows. refl) (λ y p shows is at. only_commit y p shows is at) just

  pub store_at : (l : LineId) (found : Option Choice) → IsNeeded (λ q p. StoreNeed w (hart_at w c k) q p) w c v (Some l) → Just w c v (choice.BusOwn k l) found → FoundAt w c v (λ y p. ServesStore w c k y p) 2 found
  store_at l found needed just = just_at w c v (λ y p. ServesStore w c k y p) 2 (choice.BusOwn k l) found refl refl (λ p shows. (refl, (needed p shows).0)) (λ y p shows is at. only_store l needed y p shows is at) just

  pub store_slot_at : (found : Option Choice) → Just w c v (choice.Ask (k + w.top.harts)) found → FoundAt w c v (λ y p. ServesStore w c k y p) 4 found
  store_slot_at found just = just_at w c v (λ y p. ServesStore w c k y p) 4 (choice.Ask (k + w.top.harts)) found refl refl (λ p shows. refl) (λ y p shows is at. only_store_slot y p shows is at) just

  no_store_room : FindsRoom Store w c v k None → (y : Choice) (p : Part) → Shows w c v p → Enabled w c y p → ServesStore w c k y p → serial_place y ≡ 3 → ⊥
  no_store_room none (choice.Evict h m) p shows able is at = none m p shows (subst (λ i. Enabled w c (choice.Evict i m) p) is.0 able) is.1
  no_store_room none (choice.Commit h) p shows able is at = omega (arith, at)
  no_store_room none (choice.BusOwn h m) p shows able is at = omega (arith, at)
  no_store_room none (choice.Ask n) p shows able is at = omega (arith, at)
  no_store_room none y p shows able is at = absurd is

  pub store_room : (found : Option Choice) → FindsRoom Store w c v k found → FoundAt w c v (λ y p. ServesStore w c k y p) 3 found
  store_room None none = λ y p shows able is at. no_store_room none y p shows able is at
  store_room (Some x) found = subst (IsAtPlace w c v (λ y p. ServesStore w c k y p) 3) (sym found.is) (record { own = refl; can = found.can; serves = λ p shows. (refl, found.room p shows); place = refl })

  -- one by one
  pub none_at_1 : NoneBefore w c v (λ y p. ServesStore w c k y p) 1 → NoneBefore w c v (λ y p. ServesStore w c k y p) 2
  none_at_1 before = none_next w c v (λ y p. ServesStore w c k y p) 1 before by_kind
    where
      by_kind : (y : Choice) (p : Part) → Shows w c v p → Enabled w c y p → ServesStore w c k y p → serial_place y ≡ 1 → ⊥
      by_kind (choice.Commit h) p shows able is at = omega (arith, at)
      by_kind (choice.BusOwn h m) p shows able is at = omega (arith, at)
      by_kind (choice.Evict h m) p shows able is at = omega (arith, at)
      by_kind (choice.Ask n) p shows able is at = omega (arith, at)
      by_kind y p shows able is at = is

  pub store_last : (found : Option Choice) → NoneBefore w c v (λ y p. ServesStore w c k y p) 4 → Just w c v (choice.Ask (k + w.top.harts)) found → FirstFor w c v (λ y p. ServesStore w c k y p) found
  store_last found before just = last_found w c v (λ y p. ServesStore w c k y p) 4 found few_store before (store_slot_at found just)

  -- of the instruction
  only_step : (y : Choice) (p : Part) → Shows w c v p → ServesFront w c k y p → serial_place y ≡ 0 → y ≡ choice.Step k
  only_step (choice.Step h) p shows is at = ap choice.Step is
  only_step (choice.BusRead h l) p shows is at = absurd (omega (arith, at))
  only_step (choice.BusOwn h l) p shows is at = absurd (omega (arith, at))
  only_step (choice.Evict h l) p shows is at = absurd (omega (arith, at))
  only_step (choice.Ask n) p shows is at = absurd (omega (arith, at))
  only_step y p shows is at = absurd is

  only_read : (l : LineId) → IsNeeded (λ q p. NeedsCopy w (hart_at w c k) q p) w c v (Some l) → (y : Choice) (p : Part) → Shows w c v p → ServesFront w c k y p → serial_place y ≡ 1 → y ≡ choice.BusRead k l
  only_read l needed (choice.BusRead h m) p shows is at = read_line k h l m is.0 ((needed p shows).1 m.0 is.1)
  only_read l needed (choice.Step h) p shows is at = absurd (omega (arith, at))
  only_read l needed (choice.BusOwn h m) p shows is at = absurd (omega (arith, at))
  only_read l needed (choice.Evict h m) p shows is at = absurd (omega (arith, at))
  only_read l needed (choice.Ask n) p shows is at = absurd (omega (arith, at))
  only_read l needed y p shows is at = absurd is

  pub no_read : IsNeeded (λ q p. NeedsCopy w (hart_at w c k) q p) w c v None → FoundAt w c v (λ y p. ServesFront w c k y p) 1 None
  no_read none (choice.BusRead h m) p shows able is at = none p shows m.0 is.1
  no_read none (choice.Step h) p shows able is at = absurd (omega (arith, at))
  no_read none (choice.BusOwn h m) p shows able is at = absurd (omega (arith, at))
  no_read none (choice.Evict h m) p shows able is at = absurd (omega (arith, at))
  no_read none (choice.Ask n) p shows able is at = absurd (omega (arith, at))
  no_read none y p shows able is at = absurd is

  only_write : (l : LineId) → IsNeeded (λ q p. FrontNeed w (hart_at w c k) q p) w c v (Some l) → (y : Choice) (p : Part) → Shows w c v p → ServesFront w c k y p → serial_place y ≡ 2 → y ≡ choice.BusOwn k l
  only_write l needed (choice.BusOwn h m) p shows is at = own_line k h l m is.0 ((needed p shows).1 m.0 is.1)
  only_write l needed (choice.Step h) p shows is at = absurd (omega (arith, at))
  only_write l needed (choice.BusRead h m) p shows is at = absurd (omega (arith, at))
  only_write l needed (choice.Evict h m) p shows is at = absurd (omega (arith, at))
  only_write l needed (choice.Ask n) p shows is at = absurd (omega (arith, at))
  only_write l needed y p shows is at = absurd is

  pub no_write : IsNeeded (λ q p. FrontNeed w (hart_at w c k) q p) w c v None → FoundAt w c v (λ y p. ServesFront w c k y p) 2 None
  no_write none (choice.BusOwn h m) p shows able is at = none p shows m.0 is.1
  no_write none (choice.Step h) p shows able is at = absurd (omega (arith, at))
  no_write none (choice.BusRead h m) p shows able is at = absurd (omega (arith, at))
  no_write none (choice.Evict h m) p shows able is at = absurd (omega (arith, at))
  no_write none (choice.Ask n) p shows able is at = absurd (omega (arith, at))
  no_write none y p shows able is at = absurd is

  only_front_slot : (y : Choice) (p : Part) → Shows w c v p → ServesFront w c k y p → serial_place y ≡ 4 → y ≡ choice.Ask k
  only_front_slot (choice.Ask n) p shows is at = ap choice.Ask is
  only_front_slot (choice.Step h) p shows is at = absurd (omega (arith, at))
  only_front_slot (choice.BusRead h m) p shows is at = absurd (omega (arith, at))
  only_front_slot (choice.BusOwn h m) p shows is at = absurd (omega (arith, at))
  only_front_slot (choice.Evict h m) p shows is at = absurd (omega (arith, at))
  only_front_slot y p shows is at = absurd is

  few_front : (y : Choice) (p : Part) → ServesFront w c k y p → serial_place y < 4 + 1
  few_front (choice.Step h) p is = omega arith
  few_front (choice.BusRead h m) p is = omega arith
  few_front (choice.BusOwn h m) p is = omega arith
  few_front (choice.Evict h m) p is = omega arith
  few_front (choice.Ask n) p is = omega arith
  few_front y p is = absurd is

  pub step_at : (found : Option Choice) → Just w c v (choice.Step k) found → FoundAt w c v (λ y p. ServesFront w c k y p) 0 found
  step_at found just = just_at w c v (λ y p. ServesFront w c k y p) 0 (choice.Step k) found refl refl (λ p shows. refl) (λ y p shows is at. only_step y p shows is at) just

  pub read_at : (l : LineId) (found : Option Choice) → IsNeeded (λ q p. NeedsCopy w (hart_at w c k) q p) w c v (Some l) → Just w c v (choice.BusRead k l) found → FoundAt w c v (λ y p. ServesFront w c k y p) 1 found
  read_at l found needed just = just_at w c v (λ y p. ServesFront w c k y p) 1 (choice.BusRead k l) found refl refl (λ p shows. (refl, (needed p shows).0)) (λ y p shows is at. only_read l needed y p shows is at) just

  pub write_at : (l : LineId) (found : Option Choice) → IsNeeded (λ q p. FrontNeed w (hart_at w c k) q p) w c v (Some l) → Just w c v (choice.BusOwn k l) found → FoundAt w c v (λ y p. ServesFront w c k y p) 2 found
  write_at l found needed just = just_at w c v (λ y p. ServesFront w c k y p) 2 (choice.BusOwn k l) found refl refl (λ p shows. (refl, (needed p shows).0)) (λ y p shows is at. only_write l needed y p shows is at) just

  front_slot_at : (found : Option Choice) → Just w c v (choice.Ask k) found → FoundAt w c v (λ y p. ServesFront w c k y p) 4 found
  front_slot_at found just = just_at w c v (λ y p. ServesFront w c k y p) 4 (choice.Ask k) found refl refl (λ p shows. refl) (λ y p shows is at. only_front_slot y p shows is at) just

  no_front_room : FindsRoom Instruction w c v k None → (y : Choice) (p : Part) → Shows w c v p → Enabled w c y p → ServesFront w c k y p → serial_place y ≡ 3 → ⊥
  no_front_room none (choice.Evict h m) p shows able is at = none m p shows (subst (λ i. Enabled w c (choice.Evict i m) p) is.0 able) is.1
  no_front_room none (choice.Step h) p shows able is at = omega (arith, at)
  no_front_room none (choice.BusRead h m) p shows able is at = omega (arith, at)
  no_front_room none (choice.BusOwn h m) p shows able is at = omega (arith, at)
  no_front_room none (choice.Ask n) p shows able is at = omega (arith, at)
  no_front_room none y p shows able is at = absurd is

  pub front_room : (found : Option Choice) → FindsRoom Instruction w c v k found → FoundAt w c v (λ y p. ServesFront w c k y p) 3 found
  front_room None none = λ y p shows able is at. no_front_room none y p shows able is at
  front_room (Some x) found = subst (IsAtPlace w c v (λ y p. ServesFront w c k y p) 3) (sym found.is) (record { own = refl; can = found.can; serves = λ p shows. (refl, found.room p shows); place = refl })

  pub front_last : (found : Option Choice) → NoneBefore w c v (λ y p. ServesFront w c k y p) 4 → Just w c v (choice.Ask k) found → FirstFor w c v (λ y p. ServesFront w c k y p) found
  front_last found before just = last_found w c v (λ y p. ServesFront w c k y p) 4 found few_front before (front_slot_at found just)

  -- which of the two it is
  buffer_of : (x : Local) → k < w.top.harts → x ≡ slice_index_or v.locals k x → (p : Part) → Shows w c v p → (p.harts (hart_at w c k)).buffer ≡ x.buffer.items
  buffer_of x low is p shows = (shows.harts k x low).buffer ∙ ap (λ (y : Local). y.buffer.items) (sym is)

  pub as_front : (x : Local) (found : Option Choice) → k < w.top.harts → x ≡ slice_index_or v.locals k x → length x.buffer.items ≡ 0 → FirstFor w c v (λ y p. ServesFront w c k y p) found → FirstFor w c v (λ y p. Serves w c k y p) found
  as_front x found low is none first = by_items x.buffer.items refl none
    where
      by_items : (es : List Stored) → x.buffer.items ≡ es → length es ≡ 0 → FirstFor w c v (λ y p. Serves w c k y p) found
      by_items [] e none = same_for w c v (λ y p. ServesFront w c k y p) (λ y p. Serves w c k y p) found
          (λ y p shows s. subst (λ es. ServesAfter w c k es y p) (sym (buffer_of x low is p shows ∙ e)) s) (λ y p shows s. subst (λ es. ServesAfter w c k es y p) (buffer_of x low is p shows ∙ e) s) first
      by_items (d ∷ es) e none = absurd (cc)

  pub as_store : (x : Local) (found : Option Choice) → k < w.top.harts → x ≡ slice_index_or v.locals k x → length x.buffer.items ≢ 0 → FirstFor w c v (λ y p. ServesStore w c k y p) found → FirstFor w c v (λ y p. Serves w c k y p) found
  as_store x found low is some first = by_items x.buffer.items refl some
    where
      by_items : (es : List Stored) → x.buffer.items ≡ es → length es ≢ 0 → FirstFor w c v (λ y p. Serves w c k y p) found
      by_items [] e some = absurd (some refl)
      by_items (d ∷ es) e some = same_for w c v (λ y p. ServesStore w c k y p) (λ y p. Serves w c k y p) found
          (λ y p shows s. subst (λ ds. ServesAfter w c k ds y p) (sym (buffer_of x low is p shows ∙ e)) s) (λ y p shows s. subst (λ ds. ServesAfter w c k ds y p) (buffer_of x low is p shows ∙ e) s) first

-- ---- lines in the way
module _ (w : Config) (c k : ℕ) (v : PartsView) (cause : Cause) (ls : List ℕ) (whole : HasVictims w c v k ls) where
  pub no_room_next : (n x : ℕ) → x ≡ slice_index_or ls n 0 → ((i : ℕ) → i < n → CannotMake cause w c v k (line_id (slice_index_or ls i 0))) → CannotMake cause w c v k (line_id x) → (i : ℕ) → i < n + 1 → CannotMake cause w c v k (line_id (slice_index_or ls i 0))
  no_room_next n x is before now = so_far (λ i. CannotMake cause w c v k (line_id (slice_index_or ls i 0))) n before (subst (λ y. CannotMake cause w c v k (line_id y)) is now)

  pub no_room : (n : ℕ) → length ls ≤ n → ((i : ℕ) → i < n → CannotMake cause w c v k (line_id (slice_index_or ls i 0))) → FindsRoom cause w c v k None
  no_room n all before m p shows able room =
      let there = whole m p shows able in
      let low = there.low in
      subst (λ i. CannotMake cause w c v k (line_id i)) there.is (before there.place (omega (arith, low, all))) p shows able room

module _ (w : Config) (c k l : ℕ) (v : PartsView) where
  tells_yes : (IsSo : ℕ → Part → Type 0) (b : Bool) → Tells w c v l IsSo b → b ≡ true → Tells w c v l IsSo true
  tells_yes IsSo true told e = told
  tells_yes IsSo false told e = absurd (cc)

  tells_no : (IsSo : ℕ → Part → Type 0) (b : Bool) → Tells w c v l IsSo b → b ≡ false → Tells w c v l IsSo false
  tells_no IsSo true told e = absurd (cc)
  tells_no IsSo false told e = told

  pub room_of_store : (cause : Cause) (b : Bool) → cause ≡ Store → Tells w c v l (CanStore w (hart_at w c k)) b → b ≡ true → MakesRoom cause w c v k l
  room_of_store cause b is told e = subst (λ z. MakesRoom z w c v k l) (sym is) (λ p shows. tells_yes (CanStore w (hart_at w c k)) b told e p shows)

  pub no_room_of_store : (cause : Cause) (b : Bool) → cause ≡ Store → Tells w c v l (CanStore w (hart_at w c k)) b → b ≡ false → (p : Part) → Shows w c v p → RoomFor cause w c k l p → ⊥
  no_room_of_store cause b is told e p shows room = tells_no (CanStore w (hart_at w c k)) b told e p shows (subst (λ z. RoomFor z w c k l p) is room)

  pub room_of_front : (cause : Cause) → cause ≡ Instruction → ((p : Part) → Shows w c v p → FrontRoom w c k l p) → MakesRoom cause w c v k l
  room_of_front cause is room = subst (λ z. MakesRoom z w c v k l) (sym is) (λ p shows. room p shows)

  pub no_room_of_front : (cause : Cause) → cause ≡ Instruction → ((p : Part) → Shows w c v p → FrontRoom w c k l p → ⊥) → (p : Part) → Shows w c v p → RoomFor cause w c k l p → ⊥
  no_room_of_front cause is none p shows room = none p shows (subst (λ z. RoomFor z w c k l p) is room)

  pub reads_way : (b : Bool) → Tells w c v l (CanRead w (hart_at w c k)) b → b ≡ true → (p : Part) → Shows w c v p → FrontRoom w c k l p
  reads_way b told e p shows = inl (tells_yes (CanRead w (hart_at w c k)) b told e p shows)

  pub writes_way : (b : Bool) → Tells w c v l (CanWrite w (hart_at w c k)) b → b ≡ true → (p : Part) → Shows w c v p → FrontRoom w c k l p
  writes_way b told e p shows = inr (tells_yes (CanWrite w (hart_at w c k)) b told e p shows)

  pub neither_way : (a b : Bool) → Tells w c v l (CanRead w (hart_at w c k)) a → Tells w c v l (CanWrite w (hart_at w c k)) b → a ≡ false → b ≡ false → (p : Part) → Shows w c v p → FrontRoom w c k l p → ⊥
  neither_way a b reads writes e f p shows (inl is) = tells_no (CanRead w (hart_at w c k)) a reads e p shows is
  neither_way a b reads writes e f p shows (inr is) = tells_no (CanWrite w (hart_at w c k)) b writes f p shows is

-- ---- from the parts to the core, and its step
pub first_at_core : (v : PartsView) (last : ℕ) (a : CoreView) (capacity k : ℕ) (found : Option Choice) → IsCore v last a capacity → FirstFor a.config a.cluster v (λ y p. Serves a.config a.cluster k y p) found → FirstSerial a k found
first_at_core v last a capacity k None core none = λ y p at able serves. none y p (shows_at v last a capacity p core at) able serves
first_at_core v last a capacity k (Some x) core found = λ p at.
    let shows = shows_at v last a capacity p core at in
    record { able = found.can p shows; serves = found.serves p shows; first = λ y able serves low. found.first y p shows able serves low }

not_take : (k : ℕ) (x : Choice) (p : Part) (w : Config) (c : ℕ) (es : List Stored) → ServesAfter w c k es x p → is_take x ≡ false
not_take k (choice.Take f j) p w c [] s = absurd s
not_take k (choice.Take f j) p w c (e ∷ es) s = absurd s
not_take k (choice.Step h) p w c es s = refl
not_take k (choice.Commit h) p w c es s = refl
not_take k (choice.BusRead h l) p w c es s = refl
not_take k (choice.BusOwn h l) p w c es s = refl
not_take k (choice.Evict h l) p w c es s = refl
not_take k (choice.Ask n) p w c es s = refl
not_take k (choice.Again n) p w c es s = refl
not_take k (choice.Install n) p w c es s = refl
not_take k (choice.Grant i) p w c es s = refl

pub stepped_one : (k : ℕ) (t : Turn) (a b : CoreView) (x : Choice) → FirstSerial a k (Some x) → HasRun a → Performed x t a b → Stepped k t a b
stepped_one k t a b x first run done =
    let at = at_run a run in
    let p = part_at a.config a.cluster (opening_part a.config) run.history in
    let one = first p at in
    let did = performed_did x t a b p at (own_may a x p (not_take k x p a.config a.cluster (p.harts (hart_at a.config a.cluster k)).buffer one.serves) one.able) done in
    subst (λ u. Stepped k u a b) (sym did.0) (record { choice = x; first = first; done = did.1 })
