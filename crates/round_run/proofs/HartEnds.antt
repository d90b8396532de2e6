-- The harts of a machine whose units ended, by their numbers in the machine.
use Rattle.std.proofs.Common.{◌≡◌, ◌≢◌, ◌↔◌, ℕ, suc, ◌+◌, ◌*◌, ◌/◌, ◌%◌, ◌<◌, Bool, true, false, List, [], length, slice_index_or, inl, inr, refl, sym, ◌∙◌, ap, subst, arith}
use Rattle.std.proofs.Math.Nat.{div-lt_iff_lt-mul, mod-lt, div-add-mod, mul_comm, mul-le-mul_right}
use Rattle.std.proofs.lemmas.Nat.{div-mul-add}
use Rattle.dash_base.specs.declared.topology.Topology.{Topology}
use Rattle.dash_model.specs.Config.{Config, all_harts, lock_home}
use Rattle.dash_model.specs.Part.{Processor}
use Rattle.dash_model.specs.Machine.{Machine}
use Rattle.dash_model.specs.Complete.{hart_at, IsWaiting, IsSpent, IsStopped, Ended, Spent, Waits, IsComplete, SomeHart as SomeOf, DidTrap, IsStatus, AfterTrap, AfterBudget, AfterWait, AfterAll}
use Rattle.dash_model.specs.LockFacts.{queue_of, LockFacts}
use Rattle.unit_rows.specs.declared.choice.Choice.TheVariants.{Grant}
use Rattle.unit_rows.specs.Rows.{Enabled}
use Rattle.unit_rows.specs.Shown.{hart_at as hart_of}
use Rattle.cluster_unit.specs.View.{CoreView}
use Rattle.cluster_unit.specs.Core.{IsAt}
use Rattle.cluster_unit.specs.Quiet.{IsQuiet}
use Rattle.cluster_unit.specs.Wiring.{AreOf}
use Rattle.round_run.specs.Units.{UnitView, NoneGrants}
use Rattle.round_run.specs.Ending.{Has, IsStill, AreOver, SomeHart, NoHart, IsCause, TellsAsked}
use Rattle.round_run.specs.Finished.{status_of}
use Rattle.round_run.specs.declared.rest.Rest.TheVariants.{Trap, Spent as SpentAll, Asked}
use Rattle.round_run.specs.declared.finished.Cause.{Cause}
use Rattle.round_run.specs.declared.finished.Cause.TheVariants.{Exited, Budget, Trapped, Deadlock}
use Rattle.round_run.proofs.LockEnds.{HasFirst, can_grant, waits_if_asked, asked_if_waits}

-- ---- numbers

-- the number of a hart is made from that of its cluster and its number there
whole : (h k : ℕ) → h / k * k + h % k ≡ h
whole h k = ap (λ n. n + h % k) (mul_comm (h / k) k) ∙ div-add-mod h k

-- its cluster is one of the machine
cluster_low : (h n k : ℕ) → 0 < k → h < n * k → h / k < n
cluster_low h n k some low = (div-lt_iff_lt-mul some).1 low

-- it is one of the harts of the machine
hart_low : (c j n k : ℕ) → c < n → j < k → c * k + j < n * k
hart_low c j n k low below = let more = mul-le-mul_right {m = suc c} {n = n} k (omega arith) in grind arith

-- what holds of each hart of each cluster holds of each hart of the machine
at_hart : (w : Config) (m : Machine) (P : Processor → Type 0) → ((c k : ℕ) → c < w.top.clusters → k < w.top.harts → P ((m.parts c).harts (hart_of w c k))) → (h : ℕ) → h < all_harts w → P (hart_at w h m)
at_hart w m P each h low =
    let some : 0 < w.top.harts = (let one = w.top.harts_in_range.low in omega arith) in
    subst (λ n. P ((m.parts (h / w.top.harts)).harts n)) (whole h w.top.harts)
    (each (h / w.top.harts) (h % w.top.harts) (cluster_low h w.top.clusters w.top.harts some low) (mod-lt h some))

-- and what holds of a hart of a cluster
of_hart : (w : Config) (m : Machine) (P : Processor → Type 0) (c k : ℕ) → k < w.top.harts → P ((m.parts c).harts (hart_of w c k)) → P (hart_at w (c * w.top.harts + k) m)
of_hart w m P c k below holds = subst (λ n. P ((m.parts n).harts (c * w.top.harts + k))) (sym (div-mul-add c w.top.harts k below)) holds

-- what is said of a core's machine and cluster
pub moved : (P : Config → ℕ → Type 0) (a : CoreView) (w : Config) (c : ℕ) → a.config ≡ w → a.cluster ≡ c → P a.config a.cluster → P w c
moved P a w c e f holds = subst (λ v. P v c) e (subst (λ n. P a.config n) f holds)

-- and the other way round
moved_back : (P : Config → ℕ → Type 0) (a : CoreView) (w : Config) (c : ℕ) → a.config ≡ w → a.cluster ≡ c → P w c → P a.config a.cluster
moved_back P a w c e f holds = subst (λ n. P a.config n) (sym f) (subst (λ v. P v c) (sym e) holds)

-- ---- units at the parts of a machine

module _ {U : Type 0} (view : U → UnitView) (w : Config) (us : List U) (d : U) (m : Machine) (of : AreOf (λ u. (view u).core) w us)
    (at : (c : ℕ) → c < length us → IsAt (view (slice_index_or us c d)).core (m.parts c)) where
  -- the core of a cluster
  abbrev core : ℕ → CoreView
  core c = (view (slice_index_or us c d)).core

  -- a cluster of the machine has a unit
  inside : (c : ℕ) → c < w.top.clusters → c < length us
  inside c low = subst (λ n. c < n) (sym of.count) low

  -- what is said of its machine and its cluster, of these
  here : (P : Config → ℕ → Type 0) (c : ℕ) → c < length us → P (core c).config (core c).cluster → P w c
  here P c low holds = moved P (core c) w c (of.config c d low) (of.cluster c d low) holds

  -- and the other way round
  back : (P : Config → ℕ → Type 0) (c : ℕ) → c < length us → P w c → P (core c).config (core c).cluster
  back P c low holds = moved_back P (core c) w c (of.config c d low) (of.cluster c d low) holds

  -- the part of each cluster is quiet
  quiet_part : AreOver view w.top us → (c : ℕ) → c < w.top.clusters → IsQuiet w c (m.parts c)
  quiet_part over c low = here (λ v n. IsQuiet v n (m.parts c)) c (inside c low) ((over c d (inside c low)).quiet (m.parts c) (at c (inside c low)))

  -- each hart is still
  still_hart : AreOver view w.top us → (h : ℕ) → h < all_harts w → IsStill w.top (hart_at w h m)
  still_hart over = at_hart w m (IsStill w.top)
      (λ c k low below. here (λ v n. IsStill w.top ((m.parts c).harts (hart_of v n k))) c (inside c low) ((over c d (inside c low)).still (m.parts c) (at c (inside c low)) k below))

  -- no lock word for which someone waits is 0
  taken : NoneGrants view us → (i : ℕ) → i < w.top.locks → HasFirst (queue_of w m i) → ((m.parts (lock_home w i)).locks i).value ≢ 0
  taken granted i low first none =
      let some : 0 < w.top.clusters = (let one = w.top.clusters_in_range.low in omega arith) in
      let home = inside (lock_home w i) (mod-lt i some) in
      granted (lock_home w i) d home i (m.parts (lock_home w i)) (at (lock_home w i) home)
      (back (λ v n. Enabled v n (Grant i) (m.parts (lock_home w i))) (lock_home w i) home
      (can_grant w (lock_home w i) i (m.parts (lock_home w i)) w.top.base_in_pages w.top.memory_in_pages low refl first none))

  -- some hart of a unit is some hart of the machine
  some_of : (P : Topology → Processor → Type 0) (Q : ℕ → Type 0) → ((h : ℕ) → P w.top (hart_at w h m) → Q h) → SomeHart view w.top P us → SomeOf w Q
  some_of P Q gives some =
      let low = subst (λ n. some.cluster < n) of.count some.low in record {
        hart = some.cluster * w.top.harts + some.number;
        inside = hart_low some.cluster some.number w.top.clusters w.top.harts low some.below;
        holds = gives (some.cluster * w.top.harts + some.number) (of_hart w m (P w.top) some.cluster some.number some.below
            (here (λ v n. P w.top ((m.parts some.cluster).harts (hart_of v n some.number))) some.cluster some.low (some.holds d (m.parts some.cluster) (at some.cluster some.low))));
      }

  -- where no hart of a unit is so, none of the machine is
  none_of : (P : Topology → Processor → Type 0) (Q : ℕ → Type 0) → ((h : ℕ) → Q h → P w.top (hart_at w h m)) → NoHart view w.top P us → SomeOf w Q → ⊥
  none_of P Q gives none some =
      at_hart w m (λ s. P w.top s → ⊥)
      (λ c k low below holds. none c k d (m.parts c) (inside c low) below (at c (inside c low)) (back (λ v n. P w.top ((m.parts c).harts (hart_of v n k))) c (inside c low) holds))
      some.hart some.inside (gives some.hart some.holds)

  -- for each hart it is told whether its lock instruction was sent
  told : (waits : List Bool) → TellsAsked view w.top us waits → (h : ℕ) → h < all_harts w → slice_index_or waits h false ≡ (hart_at w h m).asked
  told waits tells h low =
      let some : 0 < w.top.harts = (let one = w.top.harts_in_range.low in omega arith) in
      let c = h / w.top.harts in
      let k = h % w.top.harts in
      let home = inside c (cluster_low h w.top.clusters w.top.harts some low) in
      subst (λ n. slice_index_or waits n false ≡ ((m.parts c).harts n).asked) (whole h w.top.harts)
      (here (λ v n. slice_index_or waits (c * w.top.harts + k) false ≡ ((m.parts c).harts (hart_of v n k)).asked) c home (tells.each c k d (m.parts c) home (mod-lt h some) (at c home)))

  module _ (over : AreOver view w.top us) (granted : NoneGrants view us) (facts : LockFacts w m) (none : m.net ≡ []) where
    -- a hart whose lock instruction was sent waits
    waits_if : (h : ℕ) → (hart_at w h m).asked ≡ true → IsWaiting w h m
    waits_if h asked = waits_if_asked w m h facts none (taken granted) asked

    -- a hart that is still stands
    stopped : (h : ℕ) → IsStill w.top (hart_at w h m) → IsStopped w h m
    stopped h (inl ended) = Ended ended
    stopped h (inr (inl spent)) = Spent (record { running = spent.running; all = spent.all })
    stopped h (inr (inr asked)) = Waits (waits_if h asked)

    -- the machine came to its end
    pub completes : IsComplete w m
    completes = record {
      lanes = none;
      buffers = at_hart w m (λ s. s.buffer ≡ []) (λ c k low below. (quiet_part over c low).buffers k below);
      slots = λ c l low. (quiet_part over c low).slots l;
      acks = λ c l low. (quiet_part over c low).acks l;
      harts = λ h low. stopped h (still_hart over h low);
    }

    -- no hart trapped
    no_trap : NoHart view w.top (Has Trap) us → SomeOf w (λ h. DidTrap (hart_at w h m).core.end) → ⊥
    no_trap = none_of (Has Trap) (λ h. DidTrap (hart_at w h m).core.end) (λ h did. did)

    -- no hart spent its budget
    none_spent : NoHart view w.top (Has SpentAll) us → SomeOf w (λ h. IsSpent w h m) → ⊥
    none_spent = none_of (Has SpentAll) (λ h. IsSpent w h m) (λ h spent. record { running = spent.running; all = spent.all })

    -- by this cause
    pub status : (cause : Cause) → IsCause view w.top us cause → IsStatus w m (status_of cause)
    status Trapped is = AfterTrap (some_of (Has Trap) (λ h. DidTrap (hart_at w h m).core.end) (λ h did. did) is)
    status Budget is = AfterBudget (no_trap is.0) (some_of (Has SpentAll) (λ h. IsSpent w h m) (λ h spent. record { running = spent.running; all = spent.all }) is.1)
    status Deadlock is = AfterWait (no_trap is.0) (none_spent is.1.0) (some_of (Has Asked) (λ h. IsWaiting w h m) waits_if is.1.1)
    status Exited is = AfterAll (no_trap is.0) (none_spent is.1.0) (none_of (Has Asked) (λ h. IsWaiting w h m) (λ h waits. asked_if_waits w m h facts waits) is.1.1)

    -- and these harts wait
    pub waiting : (waits : List Bool) → TellsAsked view w.top us waits → (h : ℕ) → h < all_harts w → (slice_index_or waits h false ≡ true) ↔ IsWaiting w h m
    waiting waits tells h low = (
      (λ is. waits_if h (sym (told waits tells h low) ∙ is)),
      (λ waiter. told waits tells h low ∙ asked_if_waits w m h facts waiter),
    )
