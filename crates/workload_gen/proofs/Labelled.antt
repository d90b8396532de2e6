-- No sequential run of the workload has a race: between two uses of a counter by different harts, the first one's hart frees its lock word, and then the second one's asks for it.
use Rattle.std.proofs.Common.{List, None, Option, Some, ap, arith, false, inl, inr, refl, subst, suc, sym, true, zero, ℕ, ◌<◌, ◌^◌, ◌∙◌, ◌≡◌, ◌≢◌, ◌⊎◌}
use Rattle.std.specs.Prelude.{IsSome}
use Rattle.dash_base.specs.declared.id.HartId.{HartId}
use Rattle.dash_base.specs.declared.id.WordAddr.{WordAddr}
use Rattle.dash_base.specs.declared.topology.Topology.{Topology}
use Rattle.dash_event.specs.Effects.{is_of_memory}
use Rattle.dash_event.specs.Offered.{acquire_label, release_label}
use Rattle.dash_event.specs.declared.access.Access.{Access}
use Rattle.dash_event.specs.declared.access.Op.{Op}
use Rattle.dash_event.specs.declared.access.Op.TheVariants as op
use Rattle.dash_event.specs.declared.step_record.StepRecord.{StepRecord}
use Rattle.dash_event.specs.declared.step_record.StepRecord.TheVariants as step
use Rattle.flat_model.proofs.LawsOffered.{across, locks_exclude}
use Rattle.flat_model.specs.Labels.{IsOrdinary}
use Rattle.flat_model.specs.LastBefore.{IsLockAccess}
use Rattle.flat_model.specs.Order.{HappensBefore, IsAccessAt}
use Rattle.flat_model.specs.Race.{IsRace}
use Rattle.flat_model.specs.ReadLaws.{IsUnlockedBetween}
use Rattle.flat_model.specs.Run.{IsSequentialRun}
use Rattle.workload_gen.specs.Guarded.{Asks, Counter, IsGuarded, IsHeldBefore, Unlocks}
use Rattle.workload_gen.specs.Program.{image_of}
use Rattle.workload_gen.specs.RunLaws.{WorkloadsAreProperlyLabelled}
use Rattle.workload_gen.specs.Workload.{IsMachine, counter_word, lock_word}
use Rattle.workload_gen.proofs.Runs.{counters_are_guarded}

pub one_access : (rs : List StepRecord) (i : ℕ) (a b : Access) → IsAccessAt rs i a → IsAccessAt rs i b → a ≡ b
one_access rs i a b at_a at_b = let same : Some (step.Access a) ≡ Some (step.Access b) = sym at_a ∙ at_b in cc

pub three : (i j : ℕ) → (i < j) ⊎ ((i ≡ j) ⊎ (j < i))
three i j = grind arith

same_word : (v w : WordAddr) → v.0 ≡ w.0 → v ≡ w
same_word v w e = λ i. record { 0 = e i }

some_is : (o : Option ℕ) (v : ℕ) → o ≡ Some v → IsSome o
some_is (Some v) w e = refl
some_is None w e = absurd (let no : None ≡ Some w = e in cc)

lock_use : (k : ℕ) (a : Access) (kind : Op) → a.op ≡ kind → is_of_memory kind ≡ false → a.word.0 ≡ lock_word k → IsLockAccess (lock_word k) a
lock_use k a kind is lock word = record { of_lock = ap is_of_memory is ∙ lock; same_word = word }

not_asked : op.Unlock ≡ op.Ask → ⊥
not_asked e = cc

-- a counter's word is no lock word
words_differ : (c k : ℕ) → c < 64 → counter_word c ≡ lock_word k → ⊥
words_differ c k low e = omega arith

module _ (seed : ℕ) (t : Topology) (small : seed < 2 ^ 32) (s : IsMachine t) (rs : List StepRecord) (run : IsSequentialRun (image_of seed) t rs) where
  guarded : (j : ℕ) (a : Access) → IsAccessAt rs j a → IsGuarded rs j a
  guarded j a there = counters_are_guarded seed t rs small s run j a there

  -- the hart of an Unlock held the lock word
  freed_by : (k j : ℕ) (a : Access) → a.op ≡ op.Unlock → a.word.0 ≡ lock_word k → IsGuarded rs j a → (a.labels ≡ release_label) × IsSome a.written × IsHeldBefore rs j a.hart k
  freed_by k j a is word (Counter c low at_c kind labels held) = absurd (words_differ c k low (sym at_c ∙ word))
  freed_by k j a is word (Asks c low at_c kind labels read written) = absurd (not_asked (sym is ∙ kind))
  freed_by k j a is word (Unlocks c low at_c kind labels written held) =
      let same : c ≡ k = (let e : lock_word c ≡ lock_word k = sym at_c ∙ word in omega arith) in
      (labels, some_is a.written 0 written, subst (IsHeldBefore rs j a.hart) same held)

  asked_by : (k j : ℕ) (a : Access) → a.op ≡ op.Ask → a.word.0 ≡ lock_word k → IsGuarded rs j a → (a.labels ≡ acquire_label) × IsSome a.read
  asked_by k j a is word (Counter c low at_c kind labels held) = absurd (words_differ c k low (sym at_c ∙ word))
  asked_by k j a is word (Asks c low at_c kind labels read written) = (labels, some_is a.read 0 read)
  asked_by k j a is word (Unlocks c low at_c kind labels written held) = absurd (not_asked (sym kind ∙ is))

  -- what the hart that asked at a frees before b
  record IsFreedBetween (k a b : ℕ) (hart : HartId) : Type 0 where
    at : ℕ
    unlock : Access
    is_at : IsAccessAt rs at unlock
    after : a < at
    before : at < b
    of_hart : unlock.hart ≡ hart
    word : unlock.word.0 ≡ lock_word k
    is_unlock : unlock.op ≡ op.Unlock

  module _ (k a : ℕ) (x : Access) (at_a : IsAccessAt rs a x) (asks : x.op ≡ op.Ask) (word : x.word.0 ≡ lock_word k) where
    -- between two Asks the first one's hart frees it: an Unlock stands there, of that hart or of one that asked between
    freed_within : (n b : ℕ) (y : Access) → b < n → IsAccessAt rs b y → y.op ≡ op.Ask → y.word.0 ≡ lock_word k → a < b → IsFreedBetween k a b x.hart
    freed_within zero b y few at_b asks_b word_b later = absurd (omega arith)
    freed_within (suc n) b y few at_b asks_b word_b later = by_last (three a held.last.at) (λ c z less at_c asks_c word_c after. freed_within n c z less at_c asks_c word_c after)
      where
        between : IsUnlockedBetween rs a b x.word
        between = locks_exclude (image_of seed) t rs run a b x y at_a at_b later asks asks_b (same_word x.word y.word (word ∙ sym word_b))

        its_word : between.unlock.word.0 ≡ lock_word k
        its_word = ap (λ z. z.0) between.same_word ∙ word

        held : IsHeldBefore rs between.at between.unlock.hart k
        held = (freed_by k between.at between.unlock between.is_unlock its_word (guarded between.at between.unlock between.is_at)).2

        by_last : (a < held.last.at) ⊎ ((a ≡ held.last.at) ⊎ (held.last.at < a)) → ((c : ℕ) (z : Access) → c < n → IsAccessAt rs c z → z.op ≡ op.Ask → z.word.0 ≡ lock_word k → a < c → IsFreedBetween k a c x.hart) → IsFreedBetween k a b x.hart
        by_last (inl after) shorter =
            let first = held.last.before in
            let second = between.before in
            let f = shorter held.last.at held.last.access (omega arith) held.last.is_at held.asks held.last.has.same_word after in
            record { at = f.at; unlock = f.unlock; is_at = f.is_at; after = f.after; before = (let third = f.before in omega arith); of_hart = f.of_hart; word = f.word; is_unlock = f.is_unlock }
        by_last (inr (inl same)) shorter =
            let is : x ≡ held.last.access = one_access rs held.last.at x held.last.access (subst (λ z. IsAccessAt rs z x) same at_a) held.last.is_at in
            record { at = between.at; unlock = between.unlock; is_at = between.is_at; after = between.after; before = between.before; of_hart = sym held.of_hart ∙ ap (λ z. z.hart) (sym is); word = its_word; is_unlock = between.is_unlock }
        by_last (inr (inr before)) shorter = absurd (held.last.last a x at_a (lock_use k x op.Ask asks refl word) before between.after)

    freed : (b : ℕ) (y : Access) → IsAccessAt rs b y → y.op ≡ op.Ask → y.word.0 ≡ lock_word k → a < b → IsFreedBetween k a b x.hart
    freed b y at_b asks_b word_b later = freed_within (suc b) b y (omega arith) at_b asks_b word_b later

  -- an access of a counter is at no lock word's use
  apart : (k i j : ℕ) (a b : Access) → k < 64 → a.word.0 ≡ counter_word k → b.word.0 ≡ lock_word k → IsAccessAt rs i a → IsAccessAt rs j b → i ≡ j → ⊥
  apart k i j a b low at_c at_l at_i at_j same =
      let is : a ≡ b = one_access rs j a b (subst (λ z. IsAccessAt rs z a) same at_i) at_j in
      words_differ k k low (sym at_c ∙ ap (λ z. z.word.0) is ∙ at_l)

  ordered : (k i j : ℕ) (a b : Access) → k < 64 → i < j → IsAccessAt rs i a → IsAccessAt rs j b → a.word.0 ≡ counter_word k → b.word.0 ≡ counter_word k → a.hart ≢ b.hart → IsHeldBefore rs i a.hart k → IsHeldBefore rs j b.hart k → HappensBefore rs i j
  ordered k i j a b low before at_i at_j word_a word_b differ first second = by_order (three first.last.at second.last.at)
    where
      first_lock : IsLockAccess (lock_word k) first.last.access
      first_lock = first.last.has

      second_lock : IsLockAccess (lock_word k) second.last.access
      second_lock = second.last.has

      by_order : (first.last.at < second.last.at) ⊎ ((first.last.at ≡ second.last.at) ⊎ (second.last.at < first.last.at)) → HappensBefore rs i j
      by_order (inr (inl same)) =
          let is : first.last.access ≡ second.last.access = one_access rs second.last.at first.last.access second.last.access (subst (λ z. IsAccessAt rs z first.last.access) same first.last.is_at) second.last.is_at in
          absurd (differ (sym first.of_hart ∙ ap (λ z. z.hart) is ∙ second.of_hart))
      by_order (inr (inr later)) = absurd (second.last.last first.last.at first.last.access first.last.is_at first_lock later (let e = first.last.before in omega arith))
      by_order (inl earlier) =
          let f = freed k first.last.at first.last.access first.last.is_at first.asks first_lock.same_word second.last.at second.last.access second.last.is_at second.asks second_lock.same_word earlier in
          let e = freed_by k f.at f.unlock f.is_unlock f.word (guarded f.at f.unlock f.is_at) in
          let g = asked_by k second.last.at second.last.access second.asks second_lock.same_word (guarded second.last.at second.last.access second.last.is_at) in
          let not_before : (f.at < i → ⊥) = (λ lt. first.last.last f.at f.unlock f.is_at (lock_use k f.unlock op.Unlock f.is_unlock refl f.word) f.after lt) in
          let not_same : (i ≡ f.at → ⊥) = (λ eq. apart k i f.at a f.unlock low word_a f.word at_i f.is_at eq) in
          across rs i f.at second.last.at j (later_of i f.at not_before not_same)
          (record { first = step.Access a; second = step.Access f.unlock; first_at = at_i; second_at = f.is_at; same_hart = sym first.of_hart ∙ sym f.of_hart })
          f.before
          (record {
            first = f.unlock;
            second = second.last.access;
            first_at = f.is_at;
            second_at = second.last.is_at;
            release = record { writes = e.1; release_bit = ap (λ z. z.rl) e.0 };
            acquire = record { reads = g.1; acquire_bit = ap (λ z. z.aq) g.0 };
            same_word = same_word f.unlock.word second.last.access.word (f.word ∙ sym second_lock.same_word);
          })
          second.last.before
          (record { first = step.Access second.last.access; second = step.Access b; first_at = second.last.is_at; second_at = at_j; same_hart = second.of_hart })
        where
          later_of : (n m : ℕ) → (m < n → ⊥) → (n ≡ m → ⊥) → n < m
          later_of n m not_less not_equal = elim (three n m) [
            | inl lt ↦ lt
            | inr (inl eq) ↦ absurd (not_equal eq)
            | inr (inr gt) ↦ absurd (not_less gt)
          ]

  -- an ordinary access is one of a counter
  record OfCounter (j : ℕ) (a : Access) : Type 0 where
    counter : ℕ
    low : counter < 64
    word : a.word.0 ≡ counter_word counter
    held : IsHeldBefore rs j a.hart counter

  ordinary_is : (j : ℕ) (a : Access) → IsOrdinary a → IsGuarded rs j a → OfCounter j a
  ordinary_is j a o (Counter k low word kind labels held) = record { counter = k; low = low; word = word; held = held }
  ordinary_is j a o (Asks k low word kind labels read written) = absurd (let no : true ≡ false = sym (ap (λ z. z.aq) labels) ∙ o.no_acquire_bit in cc)
  ordinary_is j a o (Unlocks k low word kind labels written held) = absurd (let no : true ≡ false = sym (ap (λ z. z.rl) labels) ∙ o.no_release_bit in cc)

  -- so is another one of the same word
  other_is : (j k : ℕ) (a : Access) → k < 64 → a.word.0 ≡ counter_word k → IsGuarded rs j a → IsHeldBefore rs j a.hart k
  other_is j k a k_low at_k (Counter c low word kind labels held) = subst (IsHeldBefore rs j a.hart) (let e : counter_word c ≡ counter_word k = sym word ∙ at_k in let same : c ≡ k = omega arith in same) held
  other_is j k a k_low at_k (Asks c low word kind labels read written) = absurd (words_differ k c k_low (sym at_k ∙ word))
  other_is j k a k_low at_k (Unlocks c low word kind labels written held) = absurd (words_differ k c k_low (sym at_k ∙ word))

  no_race : (i j : ℕ) → IsRace rs i j → ⊥
  no_race i j race = by_kind race.one_is_ordinary
    where
      by_place : (k : ℕ) → k < 64 → race.first.word.0 ≡ counter_word k → race.second.word.0 ≡ counter_word k → (i < j) ⊎ ((i ≡ j) ⊎ (j < i)) → ⊥
      by_place k low word_a word_b (inl before) =
          race.not_before (ordered k i j race.first race.second low before race.first_at race.second_at word_a word_b race.harts_differ (other_is i k race.first low word_a (guarded i race.first race.first_at)) (other_is j k race.second low word_b (guarded j race.second race.second_at)))
      by_place k low word_a word_b (inr (inl same)) =
          race.harts_differ (ap (λ z. z.hart) (one_access rs j race.first race.second (subst (λ z. IsAccessAt rs z race.first) same race.first_at) race.second_at))
      by_place k low word_a word_b (inr (inr after)) =
          race.not_after (ordered k j i race.second race.first low after race.second_at race.first_at word_b word_a (λ e. race.harts_differ (sym e)) (other_is j k race.second low word_b (guarded j race.second race.second_at)) (other_is i k race.first low word_a (guarded i race.first race.first_at)))

      by_kind : IsOrdinary race.first ⊎ IsOrdinary race.second → ⊥
      by_kind (inl o) = let c = ordinary_is i race.first o (guarded i race.first race.first_at) in by_place c.counter c.low c.word (ap (λ z. z.0) (sym race.same_word) ∙ c.word) (three i j)
      by_kind (inr o) = let c = ordinary_is j race.second o (guarded j race.second race.second_at) in by_place c.counter c.low (ap (λ z. z.0) race.same_word ∙ c.word) c.word (three i j)

pub workloads_are_properly_labelled : WorkloadsAreProperlyLabelled
workloads_are_properly_labelled seed t small s rs run i j race = no_race seed t small s rs run i j race
