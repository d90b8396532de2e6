-- What every sequential run of the workload keeps, by the step that a hart makes.
use Rattle.std.proofs.Common.{Bool, List, None, Some, [], ap, arith, false, inl, inr, length, not, refl, subst, suc, sym, true, ℕ, ◌%◌, ◌&&◌, ◌*◌, ◌+◌, ◌++◌, ◌<◌, ◌==◌, ◌^◌, ◌∙◌, ◌∷◌, ◌≡◌, ◌≢◌, ◌⊎◌}
use Rattle.std.specs.Prelude.{if◌then◌else◌, unwrap_or}
use Rattle.dash_base.specs.Words.{merged}
use Rattle.dash_base.specs.declared.end.End.TheVariants.{Exited}
use Rattle.dash_base.specs.declared.need.Need.{Need}
use Rattle.dash_base.specs.declared.need.Need.TheVariants as needed
use Rattle.dash_base.specs.declared.topology.Topology.{Topology}
use Rattle.dash_event.specs.Effects.{answer_of, hart_of, is_of_memory, lock_after, word_after, written_over}
use Rattle.dash_event.specs.Offered.{acquire_label, bare_access, no_label, offered, release_label}
use Rattle.dash_event.specs.declared.access.Access.{Access}
use Rattle.dash_event.specs.declared.access.Op.TheVariants as op
use Rattle.dash_event.specs.declared.step_record.StepRecord.{StepRecord}
use Rattle.dash_event.specs.declared.step_record.StepRecord.TheVariants as step
use Rattle.flat_model.specs.State.{FlatState}
use Rattle.flat_model.specs.Step.{IsFlatStep, IsPossible, console_after, content, flat_state_after, record_of}
use Rattle.hart_core.specs.HartState.{HartState}
use Rattle.workload_gen.specs.Guarded.{Asks, Counter, IsGuarded, IsHeldBefore, Unlocks}
use Rattle.workload_gen.specs.LastStores.{is_store, last_of, stores_among}
use Rattle.workload_gen.specs.Program.{image_of}
use Rattle.workload_gen.specs.Progress.{Holding, IsInside, Loaded, Outside, Progress, Stored, Summed}
use Rattle.workload_gen.specs.Workload.{IsMachine, addend_of, counter_of, counter_word, draw, lock_word}
use Rattle.workload_gen.proofs.Changed.{changed, equal_or_not, is_same, other_is, same_is}
use Rattle.workload_gen.proofs.Growing.{last_kept, last_now, loaded_whole, stored_whole}
use Rattle.workload_gen.proofs.Held.{Guards, all_guarded, held_now, still_held}
use Rattle.workload_gen.proofs.Moving as moving
use Rattle.workload_gen.proofs.Moving.{Moves, counter_low, moved}
use Rattle.workload_gen.proofs.Sections.{Here, Locks, There, Was, before, enters, leaves, stays, was}
use Rattle.workload_gen.proofs.Stages.{HartIs, at}
use Rattle.workload_gen.proofs.Sums.{Agrees, Values, kept, small, stored, sum_small}

-- the state after these records
pub record Holds (seed : ℕ) (rs : List StepRecord) (st : FlatState) : Type 0 where
  pub p : ℕ → Progress
  pub harts : (h : ℕ) → h < 64 → HartIs seed h (p h) (st.harts h)
  pub locks : Locks p (λ k. st.locks (lock_word k))
  pub values : Values seed p (λ k. st.memory (counter_word k))
  pub guards : Guards rs p
  pub last : (k : ℕ) → k < 64 → last_of (stores_among (counter_word k) rs) ≡ st.memory (counter_word k)
  pub console : st.console ≡ []

-- words apart
counter_apart : (c k : ℕ) → k ≢ c → (counter_word c == counter_word k) ≡ false
counter_apart c k differ = other_is (counter_word c) (counter_word k) (λ e. differ (let same : k ≡ c = omega arith in same))

lock_apart : (c k : ℕ) → k ≢ c → (lock_word c == lock_word k) ≡ false
lock_apart c k differ = other_is (lock_word c) (lock_word k) (λ e. differ (let same : k ≡ c = omega arith in same))

either_way : (b : Bool) (x : ℕ) → (if b then x else x) ≡ x
either_way true x = refl
either_way false x = refl

module _ (seed : ℕ) (seed_small : seed < 2 ^ 32) (t : Topology) (s : IsMachine t) (rs : List StepRecord) (old : FlatState) (i : Holds seed rs old) (h : ℕ) (in_range : h < 64) where
  abbrev m : ℕ → ℕ
  m k = old.memory (counter_word k)

  abbrev l : ℕ → ℕ
  l k = old.locks (lock_word k)

  -- where a hart stays in or out of its section
  abbrev StaysIn : Progress → Type 0
  StaysIn y = ((k : ℕ) → IsInside k y.section → IsInside k (i.p h).section) × ((k : ℕ) → IsInside k (i.p h).section → IsInside k y.section)

  -- the parts put together
  module _ (r : StepRecord) (next : HartState) (y : Progress) (of_hart : (hart_of r).0 ≡ h) (is : HartIs seed h y next) where
    harts_now : (g : ℕ) → g < 64 → HartIs seed g (changed i.p h y g) (if g == (hart_of r).0 then next else old.harts g)
    harts_now g below = subst (λ z. HartIs seed g (changed i.p h y g) (if g == z then next else old.harts g)) (sym of_hart) (by_test (g == h) refl)
      where
        by_test : (b : Bool) → (g == h) ≡ b → HartIs seed g (if b then y else i.p g) (if b then next else old.harts g)
        by_test true e = subst (λ z. HartIs seed z y next) (sym (is_same g h e)) is
        by_test false e = i.harts g below

    whole : Locks (changed i.p h y) (λ k. lock_after (lock_word k) r (l k)) → Values seed (changed i.p h y) (λ k. word_after (counter_word k) r (m k)) → Guards (rs ++ r ∷ []) (changed i.p h y)
        → ((k : ℕ) → k < 64 → last_of (stores_among (counter_word k) (rs ++ r ∷ [])) ≡ word_after (counter_word k) r (m k)) → console_after r old.console ≡ [] → Holds seed (rs ++ r ∷ []) (flat_state_after old r next)
    whole locks values guards last console = record { p = changed i.p h y; harts = harts_now; locks = locks; values = values; guards = guards; last = last; console = console }

    -- the hart stays where it is, and the record is no use of a lock word
    guards_stay : StaysIn y → ((b : Access) → r ≡ step.Access b → is_of_memory b.op ≡ true) → ((a : Access) → r ≡ step.Access a → IsGuarded rs (length rs) a) → Guards (rs ++ r ∷ []) (changed i.p h y)
    guards_stay stay memory new = record {
      inside = λ g k below inside. still_held rs r (record { 0 = g }) k (λ b is lock. (let yes = memory b is in let no = lock.of_lock in absurd (cc))) (i.guards.inside g k below (before i.p h in_range y l l i.locks stay.0 stay.1 k g inside));
      all = all_guarded rs r i.guards.all new;
    }

  -- ---- a step that accesses nothing

  no_access : (r : StepRecord) → ((a : Access) → r ≡ step.Access a → ⊥) → (b : Access) → r ≡ step.Access b → is_of_memory b.op ≡ true
  no_access r none b is = absurd (none b is)

  plain : (next : HartState) (y : Progress) → HartIs seed h y next → StaysIn y → y.done ≡ (i.p h).done → Agrees seed m h y.done y.section → Holds seed (rs ++ step.Plain (record { 0 = h }) ∷ []) (flat_state_after old (step.Plain (record { 0 = h })) next)
  plain next y is stay done agrees =
      let r = step.Plain (record { 0 = h }) in
      whole r next y refl is
      (stays i.p h in_range y l l i.locks stay.0 stay.1 (λ k low. refl))
      (kept seed i.p m i.values h in_range y m (λ k. refl) done agrees)
      (guards_stay r next y refl is stay (no_access r (λ a e. cc)) (λ a e. absurd (cc)))
      (λ k low. last_kept (counter_word k) rs r refl ∙ i.last k low)
      i.console

  exits : (next : HartState) (y : Progress) → HartIs seed h y next → StaysIn y → y.done ≡ (i.p h).done → Agrees seed m h y.done y.section → Holds seed (rs ++ step.Stopped (record { 0 = h }) (Exited 0) ∷ []) (flat_state_after old (step.Stopped (record { 0 = h }) (Exited 0)) next)
  exits next y is stay done agrees =
      let r = step.Stopped (record { 0 = h }) (Exited 0) in
      whole r next y refl is
      (stays i.p h in_range y l l i.locks stay.0 stay.1 (λ k low. refl))
      (kept seed i.p m i.values h in_range y m (λ k. refl) done agrees)
      (guards_stay r next y refl is stay (no_access r (λ a e. cc)) (λ a e. absurd (cc)))
      (λ k low. last_kept (counter_word k) rs r refl ∙ i.last k low)
      i.console

  -- ---- counters

  same_access : (a b : Access) → step.Access a ≡ step.Access b → a ≡ b
  same_access a b e = cc

  access_of : (P : Access → Type 0) (a : Access) → P a → (b : Access) → step.Access a ≡ step.Access b → P b
  access_of P a k b e = subst P (same_access a b e) k

  loads : (next : HartState) (n c : ℕ) (a : Access) → (i.p h).section ≡ Holding c → c < 64 → a.hart ≡ record { 0 = h } → a.op ≡ op.Load → a.labels ≡ no_label → a.word ≡ record { 0 = counter_word c } → a.written ≡ None
      → HartIs seed h (at n (Loaded c (m c))) next → n ≡ (i.p h).done → Holds seed (rs ++ step.Access a ∷ []) (flat_state_after old (step.Access a) next)
  loads next n c a holding low hart kind labels word written is done =
      let r = step.Access a in
      let y = at n (Loaded c (m c)) in
      let stay : StaysIn y = ((λ k inside. subst (IsInside k) (sym holding) inside), (λ k inside. subst (IsInside k) holding inside)) in
      let held = i.guards.inside h c in_range (subst (IsInside c) (sym holding) refl) in
      let same : (k : ℕ) → word_after (counter_word k) r (m k) ≡ m k = λ k. (λ j. if is_of_memory (kind j) && ((word j).0 == counter_word k) then written_over (m k) a.mask (written j) else m k) ∙ either_way (counter_word c == counter_word k) (m k) in
      whole r next y (ap (λ z. z.0) hart) is
      (stays i.p h in_range y l (λ k. lock_after (lock_word k) r (l k)) i.locks stay.0 stay.1 (λ k below. λ j. if not (is_of_memory (kind j)) && (a.word.0 == lock_word k) then unwrap_or a.written (l k) else l k))
      (kept seed i.p m i.values h in_range y (λ k. word_after (counter_word k) r (m k)) same done refl)
      (guards_stay r next y (ap (λ z. z.0) hart) is stay (λ b e. access_of (λ z. is_of_memory z.op ≡ true) a (ap is_of_memory kind) b e)
      (λ b e. access_of (IsGuarded rs (length rs)) a (Counter c low (ap (λ z. z.0) word) (inl kind) labels (subst (λ z. IsHeldBefore rs (length rs) z c) (sym hart) held)) b e))
      (λ k below. last_kept (counter_word k) rs r (λ j. if is_store (kind j) && (a.word.0 == counter_word k) then unwrap_or a.written 0 ∷ [] else []) ∙ i.last k below ∙ sym (same k))
      i.console

  module _ (next : HartState) (n number c v : ℕ) (is_done : (i.p h).done ≡ n) (summed : (i.p h).section ≡ Summed c v) (its : c ≡ counter_of (draw seed h (suc n))) (few : n < 468) where
    abbrev store_access : Access
    store_access = record (bare_access h number op.Store (record { 0 = counter_word c })) { mask = 15; written = Some (v % 2 ^ 32 * 1) }

    c_low : c < 64
    c_low = subst (λ z. z < 64) (sym its) (counter_low seed h (suc n))

    only : (g : ℕ) → g < 64 → IsInside c (i.p g).section → g ≡ h
    only g below inside = i.locks.alone g h c below in_range inside (subst (IsInside c) (sym summed) refl)

    its_now : c ≡ counter_of (draw seed h (suc (i.p h).done))
    its_now = its ∙ ap (λ z. counter_of (draw seed h (suc z))) (sym is_done)

    few_now : (i.p h).done < 468
    few_now = subst (λ z. z < 468) (sym is_done) few

    value_is : v % 2 ^ 32 * 1 ≡ v
    value_is = let low = sum_small seed i.p m i.values h in_range (at (suc n) (Stored c)) c v c_low summed its_now few_now only in omega arith

    value_small : v % 2 ^ 32 * 1 < 2 ^ 32
    value_small = omega arith

    stores : HartIs seed h (at (suc n) (Stored c)) next → Holds seed (rs ++ step.Access store_access ∷ []) (flat_state_after old (step.Access store_access) next)
    stores is =
        let r = step.Access store_access in
        let y = at (suc n) (Stored c) in
        let stay : StaysIn y = ((λ k inside. subst (IsInside k) (sym summed) inside), (λ k inside. subst (IsInside k) summed inside)) in
        let held = i.guards.inside h c in_range (subst (IsInside c) (sym summed) refl) in
        whole r next y refl is
        (stays i.p h in_range y l l i.locks stay.0 stay.1 (λ k low. refl))
        (stored seed i.p m i.values h in_range y c v c_low summed its_now few_now only (λ k. word_after (counter_word k) r (m k))
        ((λ j. if same_is (counter_word c) (counter_word c) refl j then merged (m c) 15 (v % 2 ^ 32 * 1) else m c) ∙ stored_whole (m c) (v % 2 ^ 32 * 1) value_small ∙ value_is)
        (λ k low differ. (λ j. if counter_apart c k differ j then merged (m k) 15 (v % 2 ^ 32 * 1) else m k))
        (ap suc (sym is_done)) refl (λ g k below inside. i.locks.low g k below inside))
        (guards_stay r next y refl is stay (λ b e. access_of (λ z. is_of_memory z.op ≡ true) store_access refl b e)
        (λ b e. access_of (IsGuarded rs (length rs)) store_access (Counter c c_low refl (inr refl) refl held) b e))
        (λ k low. by_counter k low (equal_or_not k c))
        i.console
      where
        by_counter : (k : ℕ) → k < 64 → (k ≡ c) ⊎ (k ≢ c) → last_of (stores_among (counter_word k) (rs ++ step.Access store_access ∷ [])) ≡ word_after (counter_word k) (step.Access store_access) (m k)
        by_counter k low (inl same) =
            let hit : (counter_word c == counter_word k) ≡ true = same_is (counter_word c) (counter_word k) (ap counter_word (sym same)) in
            last_now (counter_word k) (v % 2 ^ 32 * 1) rs (step.Access store_access) (λ j. if hit j then (v % 2 ^ 32 * 1) ∷ [] else [])
            ∙ sym ((λ j. if hit j then merged (m k) 15 (v % 2 ^ 32 * 1) else m k) ∙ stored_whole (m k) (v % 2 ^ 32 * 1) value_small)
        by_counter k low (inr differ) =
            let miss = counter_apart c k differ in
            last_kept (counter_word k) rs (step.Access store_access) (λ j. if miss j then (v % 2 ^ 32 * 1) ∷ [] else []) ∙ i.last k low ∙ sym (λ j. if miss j then merged (m k) 15 (v % 2 ^ 32 * 1) else m k)

  -- ---- lock words

  lock_differs : (c k : ℕ) → lock_word c ≡ lock_word k → c ≡ k
  lock_differs c k e = omega arith

  module _ (next : HartState) (n number : ℕ) (is_done : (i.p h).done ≡ n) (outside : (i.p h).section ≡ Outside) (zero_is : old.locks (lock_word (counter_of (draw seed h (suc n)))) ≡ 0) where
    abbrev own : ℕ
    own = counter_of (draw seed h (suc n))

    abbrev ask_access : Access
    ask_access = record (bare_access h number op.Ask (record { 0 = lock_word own })) { labels = acquire_label; read = Some 0; written = Some 1 }

    asked_inside : (g k : ℕ) → g < 64 → Was i.p h in_range (at n (Holding own)) l l i.locks k g → IsHeldBefore (rs ++ step.Access ask_access ∷ []) (length (rs ++ step.Access ask_access ∷ [])) (record { 0 = g }) k
    asked_inside g k below (Here same inside) =
        subst (λ z. IsHeldBefore (rs ++ step.Access ask_access ∷ []) (length (rs ++ step.Access ask_access ∷ [])) (record { 0 = g }) z) inside
        (held_now rs (step.Access ask_access) ask_access (record { 0 = g }) own refl refl refl (λ j. record { 0 = sym same j }))
    asked_inside g k below (There other inside) =
        still_held rs (step.Access ask_access) (record { 0 = g }) k
        (λ b e lock. i.locks.free g k below (ap l (lock_differs k own (sym (access_of (λ z. lock_word own ≡ z.word.0) ask_access refl b e ∙ lock.same_word))) ∙ zero_is) inside)
        (i.guards.inside g k below inside)

    asks : HartIs seed h (at n (Holding own)) next → Holds seed (rs ++ step.Access ask_access ∷ []) (flat_state_after old (step.Access ask_access) next)
    asks is =
        let r = step.Access ask_access in
        let y = at n (Holding own) in
        let one : lock_after (lock_word own) r (l own) ≡ 1 = (λ j. if same_is (lock_word own) (lock_word own) refl j then 1 else l own) in
        whole r next y refl is
        (enters i.p h in_range y l (λ k. lock_after (lock_word k) r (l k)) i.locks own (counter_low seed h (suc n)) outside refl zero_is
        (λ none. (let no : 1 ≡ 0 = sym one ∙ none in omega arith))
        (λ k low differ. (λ j. if lock_apart own k differ j then 1 else l k)))
        (kept seed i.p m i.values h in_range y m (λ k. refl) (sym is_done) tt)
        (record {
          inside = λ g k below inside. asked_inside g k below (was i.p h in_range y l l i.locks k g inside);
          all = all_guarded rs r i.guards.all (λ b e. access_of (IsGuarded rs (length rs)) ask_access (Asks own (counter_low seed h (suc n)) refl refl refl refl refl) b e);
        })
        (λ k low. last_kept (counter_word k) rs r refl ∙ i.last k low)
        i.console

  module _ (next : HartState) (n number c x : ℕ) (is_done : (i.p h).done ≡ n) (in_stored : (i.p h).section ≡ Stored c) where
    abbrev unlock_access : Access
    unlock_access = record (bare_access h number op.Unlock (record { 0 = lock_word c })) { labels = release_label; read = Some x; written = Some 0 }

    its_inside : IsInside c (i.p h).section
    its_inside = subst (IsInside c) (sym in_stored) refl

    freed_inside : (g k : ℕ) → g < 64 → Was i.p h in_range (at n Outside) l l i.locks k g → IsHeldBefore (rs ++ step.Access unlock_access ∷ []) (length (rs ++ step.Access unlock_access ∷ [])) (record { 0 = g }) k
    freed_inside g k below (Here same inside) = absurd inside
    freed_inside g k below (There other inside) =
        still_held rs (step.Access unlock_access) (record { 0 = g }) k
        (λ b e lock. other (i.locks.alone g h k below in_range inside (subst (λ z. IsInside z (i.p h).section) (lock_differs c k (access_of (λ z. lock_word c ≡ z.word.0) unlock_access refl b e ∙ lock.same_word)) its_inside)))
        (i.guards.inside g k below inside)

    unlocks : HartIs seed h (at n Outside) next → Holds seed (rs ++ step.Access unlock_access ∷ []) (flat_state_after old (step.Access unlock_access) next)
    unlocks is =
        let r = step.Access unlock_access in
        let y = at n Outside in
        let low = i.locks.low h c in_range its_inside in
        whole r next y refl is
        (leaves i.p h in_range y l (λ k. lock_after (lock_word k) r (l k)) i.locks c low in_stored refl
        (λ j. if same_is (lock_word c) (lock_word c) refl j then 0 else l c)
        (λ k below differ. (λ j. if lock_apart c k differ j then 0 else l k)))
        (kept seed i.p m i.values h in_range y m (λ k. refl) (sym is_done) tt)
        (record {
          inside = λ g k below inside. freed_inside g k below (was i.p h in_range y l l i.locks k g inside);
          all = all_guarded rs r i.guards.all (λ b e. access_of (IsGuarded rs (length rs)) unlock_access (Unlocks c low refl refl refl refl (i.guards.inside h c in_range its_inside)) b e);
        })
        (λ k below. last_kept (counter_word k) rs r refl ∙ i.last k below)
        i.console

  -- ---- any step

  module _ (r : StepRecord) (new : FlatState) (is_step : IsFlatStep (image_of seed) t old h r new) where
    abbrev next : HartState
    next = is_step.next

    record_is : (need : Need) → is_step.need ≡ need → r ≡ record_of h need (offered h ((old.harts h).retired + 1) need (content old need) is_step.succeeds)
    record_is need is = is_step.recorded ∙ ap (λ z. record_of h z (offered h ((old.harts h).retired + 1) z (content old z) is_step.succeeds)) is

    as_record : (x : StepRecord) → r ≡ x → Holds seed (rs ++ x ∷ []) (flat_state_after old x next) → Holds seed (rs ++ r ∷ []) new
    as_record x is k = subst (Holds seed (rs ++ r ∷ [])) (sym is_step.after) (subst (λ z. Holds seed (rs ++ z ∷ []) (flat_state_after old z next)) (sym is) k)

    section_is : (x : Progress) → i.p h ≡ x → (i.p h).section ≡ x.section
    section_is x e = ap (λ z. z.section) e

    same_inside : (x y : Progress) → i.p h ≡ x → ((k : ℕ) → IsInside k y.section → IsInside k x.section) → ((k : ℕ) → IsInside k x.section → IsInside k y.section) → StaysIn y
    same_inside x y e into out = ((λ k inside. subst (IsInside k) (sym (section_is x e)) (into k inside)), (λ k inside. out k (subst (IsInside k) (section_is x e) inside)))

    agrees_at : (x : Progress) → i.p h ≡ x → Agrees seed m h x.done x.section
    agrees_at x e = subst (λ z. Agrees seed m h z.done z.section) e (i.values.agrees h in_range)

    by_move : (x y : Progress) → Moves seed h is_step.need (answer_of r) x y → i.p h ≡ x → HartIs seed h y next → Holds seed (rs ++ r ∷ []) new
    by_move _ _ (moving.Quiet p need) e is =
        as_record (step.Plain (record { 0 = h })) (record_is needed.Alu need)
        (plain next p is (same_inside p p e (λ k inside. inside) (λ k inside. inside)) (ap (λ z. z.done) (sym e)) (agrees_at p e))
    by_move _ _ (moving.Asks n need) e is =
        let c = counter_of (draw seed h (suc n)) in
        let zero_is = subst (λ z. IsPossible old h z is_step.succeeds) need is_step.possible in
        as_record _ (record_is (needed.Ask (record { 0 = lock_word c }) 1) need)
        (asks next n ((old.harts h).retired + 1) (ap (λ z. z.done) e) (section_is (at n Outside) e) zero_is is)
    by_move _ _ (moving.Loads n k need) e is =
        let low = i.locks.low h k in_range (subst (IsInside k) (sym (section_is (at n (Holding k)) e)) refl) in
        let is_record = record_is (needed.Load (record { 0 = counter_word k }) 15 no_label false) need in
        let few = small seed i.p m i.values k low in
        let answer : answer_of r ≡ m k = ap answer_of is_record ∙ loaded_whole (m k) (omega arith) in
        as_record _ is_record (loads next n k _ (section_is (at n (Holding k)) e) low refl refl refl refl refl (subst (λ z. HartIs seed h (at n (Loaded k z)) next) answer is) (ap (λ z. z.done) (sym e)))
    by_move _ _ (moving.Sums n k v need) e is =
        let x = at n (Loaded k v) in
        let y = at n (Summed k ((v + addend_of (draw seed h (suc n))) % 2 ^ 32)) in
        as_record (step.Plain (record { 0 = h })) (record_is needed.Alu need)
        (plain next y is (same_inside x y e (λ k inside. inside) (λ k inside. inside)) (ap (λ z. z.done) (sym e)) (ap (λ z. (z + addend_of (draw seed h (suc n))) % 2 ^ 32) (agrees_at x e)))
    by_move _ _ (moving.Stores n k v few its need) e is =
        as_record _ (record_is (needed.Store (record { 0 = counter_word k }) 15 (v % 2 ^ 32 * 1)) need)
        (stores next n ((old.harts h).retired + 1) k v (ap (λ z. z.done) e) (section_is (at n (Summed k v)) e) its few is)
    by_move _ _ (moving.Unlocks n k need) e is =
        as_record _ (record_is (needed.Unlock (record { 0 = lock_word k })) need)
        (unlocks next n ((old.harts h).retired + 1) k (l k) (ap (λ z. z.done) e) (section_is (at n (Stored k)) e) is)
    by_move _ _ (moving.Exits n need) e is =
        let x = at n Outside in
        as_record (step.Stopped (record { 0 = h }) (Exited 0)) (record_is (needed.Stop (Exited 0)) need)
        (exits next x is (same_inside x x e (λ k inside. inside) (λ k inside. inside)) (ap (λ z. z.done) (sym e)) tt)

    pub step_kept : Holds seed (rs ++ r ∷ []) new
    step_kept =
        let to = moved seed h seed_small t s (i.p h) (old.harts h) (i.harts h in_range) is_step.need (answer_of r) next is_step.does in
        by_move (i.p h) to.to to.move refl to.is
