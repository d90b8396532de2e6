-- The number of an enabled choice is that of a hart, a slot or a lock word.
use Rattle.std.proofs.Common.{◌≡◌, ◌⊎◌, inl, inr, ℕ, ◌+◌, ◌-◌, ◌*◌, ◌%◌, ◌<◌, ◌≤◌, Bool, true, false, nat_le, if◌then◌else◌, None, List, slice_index_or, refl, ap, subst, arith}
use Rattle.std.proofs.lemmas.Bool.{cases_lt}
use Rattle.std.proofs.lemmas.List.{get_or_past}
use Rattle.std.proofs.lemmas.Nat.{div-add-mod', mod_below}
use Rattle.dash_base.specs.declared.id.LineId.{LineId}
use Rattle.dash_event.specs.declared.event.Kind.{Kind}
use Rattle.dash_event.specs.declared.event.Kind.TheVariants as kind
use Rattle.remote_cache.specs.View.{count, slot_at, IsUsed}
use Rattle.remote_cache.specs.Steps.{arrived_in, is_refused}
use Rattle.queue_lock.specs.View.{is_own}
use Rattle.queue_lock.proofs.LawsOffered.{own_below}
use Rattle.dash_model.specs.Config.{Config, cluster_of}
use Rattle.dash_model.specs.Part.{Part}
use Rattle.dash_model.specs.HartRows.{HartEffect}
use Rattle.dash_model.specs.Guard.{Guard}
use Rattle.dash_model.specs.Wants.{AsksFor, FrontReads, FrontOwns, StoreOwns}
use Rattle.unit_rows.specs.declared.choice.Choice.{Choice}
use Rattle.unit_rows.specs.declared.choice.Choice.TheVariants as choice
use Rattle.unit_rows.specs.Shown.{PartsView, hart_at, Shows, AreSized}
use Rattle.unit_rows.specs.Choices.{IsStepOf, IsOf}
use Rattle.unit_rows.specs.Rows.{Enabled}
use Rattle.unit_rows.proofs.LawsOffered.{not_refused, not_come, own_of}
use Rattle.cluster_unit.specs.Enabling.{is_take}
use Rattle.cluster_unit.specs.Order.{kind_place, number_in}
use Rattle.cluster_unit.specs.Lists.{ListsOwn}
use Rattle.cluster_unit.specs.Listing.{HasListed, IsBelow}
use Rattle.cluster_unit.proofs.Offering.{next_kind}

-- the cluster of a hart whose event is enabled
of_step : (w : Config) (c h : ℕ) (p : Part) (e : Kind) (d : HartEffect) → IsStepOf h e → Guard w c e d p → cluster_of w h ≡ c
unfolding Guard
of_step w c h p (kind.Alu g pc) d is guard = subst (λ y. cluster_of w y ≡ c) is guard.retires.mine
of_step w c h p (kind.Fence g pc) d is guard = subst (λ y. cluster_of w y ≡ c) is guard.next.retires.mine
of_step w c h p (kind.Hint g pc slot) d is guard = subst (λ y. cluster_of w y ≡ c) is guard.next.retires.mine
of_step w c h p (kind.Put g pc byte) d is guard = subst (λ y. cluster_of w y ≡ c) is guard.retires.mine
of_step w c h p (kind.Stop g pc end) d is guard = subst (λ y. cluster_of w y ≡ c) is guard.retires.mine
of_step w c h p (kind.Load a level) d is guard = subst (λ y. cluster_of w y ≡ c) is guard.next.mine
of_step w c h p (kind.Store a) d is guard = subst (λ y. cluster_of w y ≡ c) is guard.next.mine
of_step w c h p (kind.Rmw a line version) d is guard = subst (λ y. cluster_of w y ≡ c) is guard.next.mine
of_step w c h p (kind.ScFail a) d is guard = subst (λ y. cluster_of w y ≡ c) is guard.next.mine
of_step w c h p (kind.LockSend g msg) d is guard = subst (λ y. cluster_of w y ≡ c) is guard.mine
of_step w c h p e d is guard = absurd is

of_commit : (w : Config) (c k : ℕ) (p : Part) (e : Kind) (d : HartEffect) → IsOf w c (choice.Commit k) e → Guard w c e d p → cluster_of w (hart_at w c k) ≡ c
unfolding Guard
of_commit w c k p (kind.Commit g n l version) d is guard = subst (λ y. cluster_of w y ≡ c) is guard.mine
of_commit w c k p e d is guard = absurd is

of_read : (w : Config) (c k : ℕ) (l : LineId) (p : Part) (e : Kind) (d : HartEffect) → IsOf w c (choice.BusRead k l) e → Guard w c e d p → cluster_of w (hart_at w c k) ≡ c
unfolding Guard
of_read w c k l p (kind.BusRead g m) d is guard = subst (λ y. cluster_of w y ≡ c) is.0 guard.mine
of_read w c k l p e d is guard = absurd is

of_own : (w : Config) (c k : ℕ) (l : LineId) (p : Part) (e : Kind) (d : HartEffect) → IsOf w c (choice.BusOwn k l) e → Guard w c e d p → cluster_of w (hart_at w c k) ≡ c
unfolding Guard
of_own w c k l p (kind.BusOwn g m) d is guard = subst (λ y. cluster_of w y ≡ c) is.0 guard.mine
of_own w c k l p e d is guard = absurd is

of_evict : (w : Config) (c k : ℕ) (l : LineId) (p : Part) (e : Kind) (d : HartEffect) → IsOf w c (choice.Evict k l) e → Guard w c e d p → cluster_of w (hart_at w c k) ≡ c
unfolding Guard
of_evict w c k l p (kind.Evict g m) d is guard = subst (λ y. cluster_of w y ≡ c) is.0 guard.mine
of_evict w c k l p e d is guard = absurd is

-- a number of the machine as one of the cluster
within : (w : Config) (c g : ℕ) → cluster_of w g ≡ c → g - c * w.top.harts < w.top.harts
within w c g e =
    let whole : c * w.top.harts + g % w.top.harts ≡ g = subst (λ q. q * w.top.harts + g % w.top.harts ≡ g) e (div-add-mod' g w.top.harts) in
    let some = w.top.harts_in_range.low in
    let low : g % w.top.harts < w.top.harts = mod_below g w.top.harts (omega (arith, some)) in
    omega (arith, whole, low)

low_hart : (w : Config) (c k : ℕ) → cluster_of w (hart_at w c k) ≡ c → k < w.top.harts
low_hart w c k e = let low = within w c (hart_at w c k) e in omega (arith, low)

asks_low : (w : Config) (c n g l : ℕ) (own : Bool) (p : Part) → g - c * w.top.harts < w.top.harts → AsksFor w c n g l p own → n < 2 * w.top.harts
asks_low w c n g l own p low (FrontReads is need has) = omega (arith, low, is)
asks_low w c n g l own p low (FrontOwns is need has room) = omega (arith, low, is)
asks_low w c n g l own p low (StoreOwns is need has room) = omega (arith, low, is)

of_ask : (w : Config) (c n : ℕ) (p : Part) (e : Kind) (d : HartEffect) → IsOf w c (choice.Ask n) e → Guard w c e d p → n < 2 * w.top.harts
unfolding Guard
of_ask w c n p (kind.Ask slot g l own) d is guard = subst (λ y. y < 2 * w.top.harts) is (asks_low w c slot g.0 l.0 own p (within w c g.0 guard.mine) guard.may.cause)
of_ask w c n p e d is guard = absurd is

of_grant : (w : Config) (c i : ℕ) (v : PartsView) (p : Part) (e : Kind) (d : HartEffect) → AreSized w c v → IsOf w c (choice.Grant i) e → Guard w c e d p → is_own v.locks i ≡ true
unfolding Guard
of_grant w c i v p (kind.Grant a) d sized is guard = subst (λ y. is_own v.locks y ≡ true) is (own_of w c v a.word sized guard.mine)
of_grant w c i v p e d sized is guard = absurd is

pub grants_own : (w : Config) (c i : ℕ) (v : PartsView) (p : Part) → AreSized w c v → Enabled w c (choice.Grant i) p → is_own v.locks i ≡ true
grants_own w c i v p sized able = of_grant w c i v p able.event able.done sized able.is_of able.guard

-- a slot that is not there has nothing
in_slots : (v : PartsView) (n : ℕ) → (slot_at v.slots n ≡ None → ⊥) → (n < count v.slots) ⊎ (count v.slots ≤ n) → n < count v.slots
in_slots v n some (inl low) = low
in_slots v n some (inr high) = absurd (some (get_or_past v.slots.slots n None high))

-- only choices to take a message come after the eighth kind
none_after : (y : Choice) → is_take y ≡ false → kind_place y < 9
none_after (choice.Take f k) own = absurd (cc)
none_after (choice.Step k) own = omega arith
none_after (choice.Commit k) own = omega arith
none_after (choice.BusRead k l) own = omega arith
none_after (choice.BusOwn k l) own = omega arith
none_after (choice.Evict k l) own = omega arith
none_after (choice.Ask n) own = omega arith
none_after (choice.Again n) own = omega arith
none_after (choice.Install n) own = omega arith
none_after (choice.Grant i) own = omega arith

-- a slot that has something is one of those that are used
in_used : (v : PartsView) (n u : ℕ) → IsUsed v.slots.slots u → (slot_at v.slots n ≡ None → ⊥) → (n < u) ⊎ (u ≤ n) → n < u
in_used v n u used some (inl low) = low
in_used v n u used some (inr high) = absurd (some (used.rest n high))

-- how many numbers the choices of a kind have
abbrev pub limit : Config → PartsView → ℕ → ℕ
limit w v place = if nat_le place 4 then w.top.harts else (if nat_le place 7 then count v.slots else w.top.locks)

-- what is below the place of choices to take a message is none of them
not_take : (x : Choice) → IsBelow 9 0 x → is_take x ≡ false
not_take (choice.Take f k) (inl low) = absurd (grind arith)
not_take (choice.Take f k) (inr (at, low)) = absurd (grind arith)
not_take (choice.Step k) below = refl
not_take (choice.Commit k) below = refl
not_take (choice.BusRead k l) below = refl
not_take (choice.BusOwn k l) below = refl
not_take (choice.Evict k l) below = refl
not_take (choice.Ask n) below = refl
not_take (choice.Again n) below = refl
not_take (choice.Install n) below = refl
not_take (choice.Grant i) below = refl

module _ (w : Config) (c : ℕ) (v : PartsView) (sized : AreSized w c v) where
  in_range : (y : Choice) (p : Part) → Shows w c v p → is_take y ≡ false → Enabled w c y p → number_in y < limit w v (kind_place y)
  in_range (choice.Step k) p shows own able = low_hart w c k (of_step w c (hart_at w c k) p able.event able.done able.is_of able.guard)
  in_range (choice.Commit k) p shows own able = low_hart w c k (of_commit w c k p able.event able.done able.is_of able.guard)
  in_range (choice.BusRead k l) p shows own able = low_hart w c k (of_read w c k l p able.event able.done able.is_of able.guard)
  in_range (choice.BusOwn k l) p shows own able = low_hart w c k (of_own w c k l p able.event able.done able.is_of able.guard)
  in_range (choice.Evict k l) p shows own able = low_hart w c k (of_evict w c k l p able.event able.done able.is_of able.guard)
  in_range (choice.Ask n) p shows own able = let low = of_ask w c n p able.event able.done able.is_of able.guard in let all = sized.slot_count in omega (arith, low, all)
  in_range (choice.Again n) p shows own able = in_slots v n (λ none. not_refused w c n v (ap is_refused none) p shows able) (cases_lt n (count v.slots))
  in_range (choice.Install n) p shows own able = in_slots v n (λ none. not_come w c n v sized (ap arrived_in none) p shows able) (cases_lt n (count v.slots))
  in_range (choice.Grant i) p shows own able = let low = own_below v.locks i (grants_own w c i v p sized able) in let all = sized.lock_words in omega (arith, low, all)
  in_range (choice.Take f k) p shows own able = absurd (cc)

  pub below_limit : (r : ℕ) (y : Choice) (p : Part) → Shows w c v p → is_take y ≡ false → Enabled w c y p → kind_place y ≡ r → number_in y < limit w v r
  below_limit r y p shows own able at = subst (λ k. number_in y < limit w v k) at (in_range y p shows own able)

  -- all of a kind are listed
  pub all_of_kind : (r n : ℕ) (xs : List Choice) → n ≡ limit w v r → HasListed w c v (IsBelow r n) xs → HasListed w c v (IsBelow (r + 1) 0) xs
  all_of_kind r n xs is had =
      next_kind w c v r (limit w v r) xs (subst (λ m. HasListed w c v (IsBelow r m) xs) is had) (λ y p shows own able at. below_limit r y p shows own able at)

  ask_low : (y : Choice) (p : Part) → Enabled w c y p → kind_place y ≡ 5 → number_in y < 2 * w.top.harts
  ask_low (choice.Ask n) p able at = of_ask w c n p able.event able.done able.is_of able.guard
  ask_low y p able at = absurd (omega (arith, at))

  again_low : (u : ℕ) (y : Choice) (p : Part) → IsUsed v.slots.slots u → Shows w c v p → Enabled w c y p → kind_place y ≡ 6 → number_in y < u
  again_low u (choice.Again n) p used shows able at = in_used v n u used (λ none. not_refused w c n v (ap is_refused none) p shows able) (cases_lt n u)
  again_low u y p used shows able at = absurd (omega (arith, at))

  install_low : (u : ℕ) (y : Choice) (p : Part) → IsUsed v.slots.slots u → Shows w c v p → Enabled w c y p → kind_place y ≡ 7 → number_in y < u
  install_low u (choice.Install n) p used shows able at = in_used v n u used (λ none. not_come w c n v sized (ap arrived_in none) p shows able) (cases_lt n u)
  install_low u y p used shows able at = absurd (omega (arith, at))

  -- no slot but the first ones asks, and none that is empty asks again or has a line to install
  pub all_asks : (xs : List Choice) → HasListed w c v (IsBelow 5 (2 * w.top.harts)) xs → HasListed w c v (IsBelow 6 0) xs
  all_asks xs had = next_kind w c v 5 (2 * w.top.harts) xs had (λ y p shows own able at. ask_low y p able at)

  pub all_again : (u : ℕ) (xs : List Choice) → IsUsed v.slots.slots u → HasListed w c v (IsBelow 6 u) xs → HasListed w c v (IsBelow 7 0) xs
  all_again u xs used had = next_kind w c v 6 u xs had (λ y p shows own able at. again_low u y p used shows able at)

  pub all_installs : (u : ℕ) (xs : List Choice) → IsUsed v.slots.slots u → HasListed w c v (IsBelow 7 u) xs → HasListed w c v (IsBelow 8 0) xs
  all_installs u xs used had = next_kind w c v 7 u xs had (λ y p shows own able at. install_low u y p used shows able at)

  pub all_listed : (xs : List Choice) → HasListed w c v (IsBelow 8 w.top.locks) xs → ListsOwn w c v xs
  all_listed xs had =
      let all = all_of_kind 8 w.top.locks xs refl had in
      record { just = all.just; own = λ i d low. not_take (slice_index_or xs i d) (all.within i d low); whole = λ y p shows own able. all.whole y p shows own able (inl (none_after y own)); ordered = all.ordered }
