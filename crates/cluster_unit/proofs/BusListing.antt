-- The choices of a hart to get a line from its cluster, in their order.
use Rattle.std.proofs.Common.{◌≡◌, ◌≢◌, ◌⊎◌, inl, inr, ℕ, ◌+◌, ◌<◌, ◌≤◌, ◌==◌, true, false, Option, None, Some, List, refl, sym, ap, ap₂, ◌∙◌, subst, arith}
use Rattle.std.proofs.lemmas.Bool.{cases_lt}
use Rattle.std.proofs.lemmas.Bool.Decides.{nat_tests}
use Rattle.dash_base.specs.declared.id.LineId.{LineId}
use Rattle.dash_event.specs.declared.event.Kind.{Kind}
use Rattle.dash_event.specs.declared.event.Kind.TheVariants as kind
use Rattle.dash_model.specs.Config.{Config, line_id}
use Rattle.dash_model.specs.Part.{Part}
use Rattle.dash_model.specs.HartRows.{HartEffect}
use Rattle.dash_model.specs.Guard.{Guard}
use Rattle.dash_model.specs.Wants.{NeedsCopy, FrontNeed, StoreNeed, NeedsOwn}
use Rattle.unit_rows.specs.declared.choice.Choice.{Choice}
use Rattle.unit_rows.specs.declared.choice.Choice.TheVariants as choice
use Rattle.unit_rows.specs.Shown.{PartsView, hart_at, Shows}
use Rattle.unit_rows.specs.LineNeeds.{is_this, IsNeeded}
use Rattle.unit_rows.specs.Choices.{IsOf}
use Rattle.unit_rows.specs.Rows.{Enabled}
use Rattle.cluster_unit.specs.Order.{kind_place, number_in, IsBefore}
use Rattle.cluster_unit.specs.Listing.{Offers, HasListed, IsBelow, IsOwnOf, IsRead, IsWritten}
use Rattle.cluster_unit.proofs.Offering.{is_before, number_over, one_more, regraded}

-- what enabled choices need
read_by : (w : Config) (c k : ℕ) (l : LineId) (p : Part) (e : Kind) (d : HartEffect) → IsOf w c (choice.BusRead k l) e → Guard w c e d p → NeedsCopy w (hart_at w c k) l.0 p
unfolding Guard
read_by w c k l p (kind.BusRead g m) d is guard = subst (λ y. NeedsCopy w y l.0 p) is.0 (subst (λ (y : LineId). NeedsCopy w g.0 y.0 p) is.1 guard.need)
read_by w c k l p e d is guard = absurd is

own_by : (w : Config) (c k : ℕ) (l : LineId) (p : Part) (e : Kind) (d : HartEffect) → IsOf w c (choice.BusOwn k l) e → Guard w c e d p → NeedsOwn w (hart_at w c k) l.0 p
unfolding Guard
own_by w c k l p (kind.BusOwn g m) d is guard = subst (λ y. NeedsOwn w y l.0 p) is.0 (subst (λ (y : LineId). NeedsOwn w g.0 y.0 p) is.1 guard.need)
own_by w c k l p e d is guard = absurd is

read_needs : (w : Config) (c k h : ℕ) (l : LineId) (p : Part) → h ≡ k → Enabled w c (choice.BusRead h l) p → NeedsCopy w (hart_at w c k) l.0 p
read_needs w c k h l p same able = subst (λ y. NeedsCopy w (hart_at w c y) l.0 p) same (read_by w c h l p able.event able.done able.is_of able.guard)

own_needs : (w : Config) (c k h : ℕ) (l : LineId) (p : Part) → h ≡ k → Enabled w c (choice.BusOwn h l) p → NeedsOwn w (hart_at w c k) l.0 p
own_needs w c k h l p same able = subst (λ y. NeedsOwn w (hart_at w c y) l.0 p) same (own_by w c h l p able.event able.done able.is_of able.guard)

line_same : {l m : LineId} → l.0 ≡ m.0 → l ≡ m
line_same e = ap line_id e

own_same : (k h : ℕ) (l m : LineId) → h ≡ k → l.0 ≡ m.0 → choice.BusOwn h l ≡ choice.BusOwn k m
own_same k h l m e f = ap₂ (λ x y. choice.BusOwn x y) e (line_same f)

module _ (w : Config) (c k : ℕ) (v : PartsView) where
  -- BusRead
  none_read : (p : Part) (y : Choice) → ((q : ℕ) → NeedsCopy w (hart_at w c k) q p → ⊥) → Enabled w c y p → IsRead k y → IsBelow 3 k y
  none_read p y none able (inl d) = d
  none_read p (choice.BusRead h l) none able (inr is) = absurd (none l.0 (read_needs w c k h l p is able))
  none_read p y none able (inr is) = absurd is

  one_read : (p : Part) (y : Choice) (m : LineId) → ((q : ℕ) → NeedsCopy w (hart_at w c k) q p → q ≡ m.0) → Enabled w c y p → IsRead k y → IsBelow 3 k y ⊎ (y ≡ choice.BusRead k m)
  one_read p y m one able (inl d) = inl d
  one_read p (choice.BusRead h l) m one able (inr is) = inr (ap₂ (λ x z. choice.BusRead x z) is (line_same (one l.0 (read_needs w c k h l p is able))))
  one_read p y m one able (inr is) = absurd is

  pub no_read : (xs : List Choice) → IsNeeded (λ q p. NeedsCopy w (hart_at w c k) q p) w c v None → HasListed w c v (IsBelow 3 k) xs → HasListed w c v (IsRead k) xs
  no_read xs none had = regraded w c v (IsBelow 3 k) (IsRead k) xs had (λ y d. inl d) (λ y p shows own able e. none_read p y (none p shows) able e)

  pub a_read : (m : LineId) (old new : List Choice) → IsNeeded (λ q p. NeedsCopy w (hart_at w c k) q p) w c v (Some m) → HasListed w c v (IsBelow 3 k) old → Offers w c v (choice.BusRead k m) old new → HasListed w c v (IsRead k) new
  a_read m old new one had offers =
      one_more w c v (IsBelow 3 k) (IsRead k) (choice.BusRead k m) old new had offers (λ y d. inl d) (inr refl) (λ y p shows own able e. one_read p y m (one p shows).1 able e)
      (λ y p shows d. is_before w c p 3 k (choice.BusRead k m) y refl refl d)

  -- BusOwn of the instruction
  none_own : (y : Choice) → IsWritten k None y → IsRead k y
  none_own y (inl d) = d
  none_own y (inr e) = absurd e

  read_before : (p : Part) (m : LineId) (y : Choice) → IsRead k y → IsBefore w c p y (choice.BusOwn k m)
  read_before p m y (inl d) = is_before w c p 3 k (choice.BusOwn k m) y refl refl d
  read_before p m (choice.BusRead h l) (inr is) = inr (refl, inr (is, tt))
  read_before p m y (inr is) = absurd is

  pub no_own : (xs : List Choice) → HasListed w c v (IsRead k) xs → HasListed w c v (IsWritten k None) xs
  no_own xs had = regraded w c v (IsRead k) (IsWritten k None) xs had (λ y d. inl d) (λ y p shows own able e. none_own y e)

  pub an_own : (m : LineId) (old new : List Choice) → HasListed w c v (IsRead k) old → Offers w c v (choice.BusOwn k m) old new → HasListed w c v (IsWritten k (Some m)) new
  an_own m old new had offers =
      one_more w c v (IsRead k) (IsWritten k (Some m)) (choice.BusOwn k m) old new had offers (λ y d. inl d) (inr refl) (λ y p shows own able e. e) (λ y p shows d. read_before p m y d)

  -- BusOwn of the oldest store
  data OrStored (found : Option LineId) (p : Part) (y : Choice) : Type 0 where
    IsThere : IsWritten k found y → OrStored found p y
    IsStored : (l : LineId) → y ≡ choice.BusOwn k l → StoreNeed w (hart_at w c k) l.0 p → OrStored found p y

  front_of : (found : Option LineId) (p : Part) (h : ℕ) (l : LineId) → IsNeeded (λ q z. FrontNeed w (hart_at w c k) q z) w c v found → Shows w c v p → h ≡ k → FrontNeed w (hart_at w c k) l.0 p → IsOwnOf k found (choice.BusOwn h l)
  front_of None p h l none shows same need = absurd (none p shows l.0 need)
  front_of (Some m) p h l one shows same need = own_same k h l m same ((one p shows).1 l.0 need)

  own_or : (found : Option LineId) (p : Part) (h : ℕ) (l : LineId) → IsNeeded (λ q z. FrontNeed w (hart_at w c k) q z) w c v found → Shows w c v p → h ≡ k → NeedsOwn w (hart_at w c k) l.0 p → OrStored found p (choice.BusOwn h l)
  own_or found p h l front shows same (inl need) = IsThere (inr (front_of found p h l front shows same need))
  own_or found p h l front shows same (inr need) = IsStored l (ap (λ x. choice.BusOwn x l) same) need

  at_hart : (found : Option LineId) (p : Part) (y : Choice) → IsNeeded (λ q z. FrontNeed w (hart_at w c k) q z) w c v found → Shows w c v p → Enabled w c y p → kind_place y ≡ 3 → number_in y ≡ k → OrStored found p y
  at_hart found p (choice.BusRead h l) front shows able kind same = IsThere (inl (inr same))
  at_hart found p (choice.BusOwn h l) front shows able kind same = own_or found p h l front shows same (own_needs w c k h l p same able)
  at_hart found p y front shows able kind same = absurd (omega (arith, kind))

  at_number : (found : Option LineId) (p : Part) (y : Choice) → IsNeeded (λ q z. FrontNeed w (hart_at w c k) q z) w c v found → Shows w c v p → Enabled w c y p → kind_place y ≡ 3 → number_in y < k + 1 → (number_in y < k) ⊎ (k ≤ number_in y) → OrStored found p y
  at_number found p y front shows able kind low (inl less) = IsThere (inl (inl (inr (kind, less))))
  at_number found p y front shows able kind low (inr more) = at_hart found p y front shows able kind (omega (arith, low, more))

  sorted_out : (found : Option LineId) (p : Part) (y : Choice) → IsNeeded (λ q z. FrontNeed w (hart_at w c k) q z) w c v found → Shows w c v p → Enabled w c y p → IsBelow 3 (k + 1) y → OrStored found p y
  sorted_out found p y front shows able (inl e) = IsThere (inl (inl (inl e)))
  sorted_out found p y front shows able (inr e) = at_number found p y front shows able e.0 e.1 (cases_lt (number_in y) k)

  own_below : (m : LineId) (y : Choice) → y ≡ choice.BusOwn k m → IsBelow 3 (k + 1) y
  own_below m y e = subst (λ z. IsBelow 3 (k + 1) z) (sym e) (inr (refl, omega arith))

  all_below : (found : Option LineId) (y : Choice) → IsWritten k found y → IsBelow 3 (k + 1) y
  all_below found y (inl (inl d)) = number_over 3 k y d
  all_below found (choice.BusRead h l) (inl (inr is)) = inr (refl, omega (arith, is))
  all_below found y (inl (inr is)) = absurd is
  all_below None y (inr e) = absurd e
  all_below (Some m) y (inr e) = own_below m y e

  none_left : (found : Option LineId) (p : Part) (y : Choice) → ((q : ℕ) → StoreNeed w (hart_at w c k) q p → ⊥) → OrStored found p y → IsWritten k found y
  none_left found p y none (IsThere d) = d
  none_left found p y none (IsStored l e need) = absurd (none l.0 need)

  pub no_store : (found : Option LineId) (xs : List Choice) → IsNeeded (λ q p. FrontNeed w (hart_at w c k) q p) w c v found → IsNeeded (λ q p. StoreNeed w (hart_at w c k) q p) w c v None → HasListed w c v (IsWritten k found) xs → HasListed w c v (IsBelow 3 (k + 1)) xs
  no_store found xs front none had =
      regraded w c v (IsWritten k found) (IsBelow 3 (k + 1)) xs had (λ y d. all_below found y d) (λ y p shows own able e. none_left found p y (none p shows) (sorted_out found p y front shows able e))

  found_is : (found : Option LineId) (m : LineId) → is_this found m.0 ≡ true → IsOwnOf k found (choice.BusOwn k m)
  found_is None m e = absurd (cc)
  found_is (Some x) m e = let same : x.0 ≡ m.0 = grind (arith, nat_tests) in own_same k k m x refl (sym same)

  same_left : (found : Option LineId) (m : LineId) (p : Part) (y : Choice) → is_this found m.0 ≡ true → ((q : ℕ) → StoreNeed w (hart_at w c k) q p → q ≡ m.0) → OrStored found p y → IsWritten k found y
  same_left found m p y e one (IsThere d) = d
  same_left found m p y e one (IsStored l is need) = inr (subst (λ z. IsOwnOf k found z) (sym (is ∙ own_same k k l m refl (one l.0 need))) (found_is found m e))

  pub same_store : (found : Option LineId) (m : LineId) (xs : List Choice) → IsNeeded (λ q p. FrontNeed w (hart_at w c k) q p) w c v found → IsNeeded (λ q p. StoreNeed w (hart_at w c k) q p) w c v (Some m) → is_this found m.0 ≡ true → HasListed w c v (IsWritten k found) xs → HasListed w c v (IsBelow 3 (k + 1)) xs
  same_store found m xs front one e had =
      regraded w c v (IsWritten k found) (IsBelow 3 (k + 1)) xs had (λ y d. all_below found y d) (λ y p shows own able r. same_left found m p y e (one p shows).1 (sorted_out found p y front shows able r))

  one_left : (found : Option LineId) (m : LineId) (p : Part) (y : Choice) → ((q : ℕ) → StoreNeed w (hart_at w c k) q p → q ≡ m.0) → OrStored found p y → IsWritten k found y ⊎ (y ≡ choice.BusOwn k m)
  one_left found m p y one (IsThere d) = inl d
  one_left found m p y one (IsStored l is need) = inr (is ∙ own_same k k l m refl (one l.0 need))

  not_same : (x m : LineId) → (x.0 == m.0) ≡ false → x ≢ m
  not_same x m e same = let f : x.0 ≡ m.0 = ap (λ (l : LineId). l.0) same in let t : (x.0 == m.0) ≡ true = grind (arith, nat_tests) in absurd (cc)

  written_before : (found : Option LineId) (m : LineId) (p : Part) (y : Choice) → IsNeeded (λ q z. FrontNeed w (hart_at w c k) q z) w c v found → Shows w c v p → is_this found m.0 ≡ false → IsWritten k found y → IsBefore w c p y (choice.BusOwn k m)
  written_before found m p y front shows e (inl d) = read_before p m y d
  written_before None m p y front shows e (inr r) = absurd r
  written_before (Some x) m p y front shows e (inr r) = subst (λ z. IsBefore w c p z (choice.BusOwn k m)) (sym r) (inr (refl, inr (refl, ((front p shows).0, not_same x m e))))

  pub a_store : (found : Option LineId) (m : LineId) (old new : List Choice) → IsNeeded (λ q p. FrontNeed w (hart_at w c k) q p) w c v found → IsNeeded (λ q p. StoreNeed w (hart_at w c k) q p) w c v (Some m) → is_this found m.0 ≡ false
      → HasListed w c v (IsWritten k found) old → Offers w c v (choice.BusOwn k m) old new → HasListed w c v (IsBelow 3 (k + 1)) new
  a_store found m old new front one e had offers =
      one_more w c v (IsWritten k found) (IsBelow 3 (k + 1)) (choice.BusOwn k m) old new had offers (λ y d. all_below found y d) (inr (refl, omega arith))
      (λ y p shows own able r. one_left found m p y (one p shows).1 (sorted_out found p y front shows able r)) (λ y p shows d. written_before found m p y front shows e d)
