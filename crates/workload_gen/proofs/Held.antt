-- Who holds a lock word, in a list of records that grows.
use Rattle.std.proofs.Common.{List, Some, [], ap, arith, length, refl, subst, suc, sym, zero, ℕ, ◌++◌, ◌<◌, ◌∙◌, ◌∷◌, ◌≡◌, ◌≤◌}
use Rattle.std.specs.Prelude.{slice_get}
use Rattle.std.proofs.lemmas.Option.{slice_get_within}
use Rattle.dash_base.specs.declared.id.HartId.{HartId}
use Rattle.dash_event.specs.Effects.{is_of_memory}
use Rattle.dash_event.specs.declared.access.Access.{Access}
use Rattle.dash_event.specs.declared.access.Op.TheVariants as op
use Rattle.dash_event.specs.declared.step_record.StepRecord.{StepRecord}
use Rattle.dash_event.specs.declared.step_record.StepRecord.TheVariants as step
use Rattle.flat_model.specs.LastBefore.{IsLockAccess}
use Rattle.flat_model.specs.Order.{IsAccessAt}
use Rattle.workload_gen.specs.Guarded.{Asks, Counter, IsGuarded, IsHeldBefore, Unlocks}
use Rattle.workload_gen.specs.Progress.{IsInside, Progress}
use Rattle.workload_gen.specs.Workload.{lock_word}

-- ---- positions in a list that grows by one

pub at_end : {A : Type 0} (xs : List A) (x : A) → slice_get (xs ++ x ∷ []) (length xs) ≡ Some x
at_end [] x = refl
at_end (y ∷ ys) x = at_end ys x

pub kept_at : {A : Type 0} (xs ys : List A) (i : ℕ) (x : A) → slice_get xs i ≡ Some x → slice_get (xs ++ ys) i ≡ Some x
kept_at [] ys i x at = absurd cc
kept_at (y ∷ xs) ys zero x at = at
kept_at (y ∷ xs) ys (suc i) x at = kept_at xs ys i x at

pub data Place {A : Type 0} (xs : List A) (x : A) (i : ℕ) (y : A) : Type 0 where
  Before : slice_get xs i ≡ Some y → Place xs x i y
  Last : i ≡ length xs → x ≡ y → Place xs x i y

next_place : {A : Type 0} (z : A) (xs : List A) (x : A) (i : ℕ) (y : A) → Place xs x i y → Place (z ∷ xs) x (suc i) y
next_place z xs x i y (Before at) = Before at
next_place z xs x i y (Last end same) = Last (ap suc end) same

pub place : {A : Type 0} (xs : List A) (x : A) (i : ℕ) (y : A) → slice_get (xs ++ x ∷ []) i ≡ Some y → Place xs x i y
place [] x zero y at = Last refl (let same : x ≡ y = cc in same)
place [] x (suc i) y at = absurd cc
place (z ∷ xs) x zero y at = Before at
place (z ∷ xs) x (suc i) y at = next_place z xs x i y (place xs x i y at)

pub longer : {A : Type 0} (xs : List A) (x : A) → length (xs ++ x ∷ []) ≡ suc (length xs)
longer [] x = refl
longer (y ∷ ys) x = ap suc (longer ys x)

-- ---- who holds

module _ (rs : List StepRecord) (r : StepRecord) where
  -- what stood before a position does so
  pub held_on : (j : ℕ) (hart : HartId) (k : ℕ) → j ≤ length rs → IsHeldBefore rs j hart k → IsHeldBefore (rs ++ r ∷ []) j hart k
  held_on j hart k within held = record {
    last = record {
      at = held.last.at;
      access = held.last.access;
      is_at = kept_at rs (r ∷ []) held.last.at (step.Access held.last.access) held.last.is_at;
      before = held.last.before;
      has = held.last.has;
      last = λ i b at is after before. by_place i b is after before (place rs r i (step.Access b) at);
    };
    asks = held.asks;
    of_hart = held.of_hart;
  }
    where
      by_place : (i : ℕ) (b : Access) → IsLockAccess (lock_word k) b → held.last.at < i → i < j → Place rs r i (step.Access b) → ⊥
      by_place i b is after before (Before at) = held.last.last i b at is after before
      by_place i b is after before (Last end same) = absurd (omega arith)

  -- and it still holds where the record is of no use of the lock word
  pub still_held : (hart : HartId) (k : ℕ) → ((b : Access) → r ≡ step.Access b → IsLockAccess (lock_word k) b → ⊥) → IsHeldBefore rs (length rs) hart k → IsHeldBefore (rs ++ r ∷ []) (length (rs ++ r ∷ [])) hart k
  still_held hart k other held = record {
    last = record {
      at = held.last.at;
      access = held.last.access;
      is_at = kept_at rs (r ∷ []) held.last.at (step.Access held.last.access) held.last.is_at;
      before = (let b = held.last.before in let n = longer rs r in omega arith);
      has = held.last.has;
      last = λ i b at is after before. by_place i b is after (place rs r i (step.Access b) at);
    };
    asks = held.asks;
    of_hart = held.of_hart;
  }
    where
      by_place : (i : ℕ) (b : Access) → IsLockAccess (lock_word k) b → held.last.at < i → Place rs r i (step.Access b) → ⊥
      by_place i b is after (Before at) = held.last.last i b at is after (slice_get_within rs i (step.Access b) at)
      by_place i b is after (Last end same) = other b same is

  -- it holds from its Ask on
  pub held_now : (a : Access) (hart : HartId) (k : ℕ) → r ≡ step.Access a → a.op ≡ op.Ask → a.word.0 ≡ lock_word k → a.hart ≡ hart → IsHeldBefore (rs ++ r ∷ []) (length (rs ++ r ∷ [])) hart k
  held_now a hart k is asks word of_hart = record {
    last = record {
      at = length rs;
      access = a;
      is_at = at_end rs r ∙ ap Some is;
      before = (let n = longer rs r in omega arith);
      has = record { of_lock = ap is_of_memory asks; same_word = word };
      last = λ i b at lock after before. (let n = longer rs r in omega arith);
    };
    asks = asks;
    of_hart = of_hart;
  }

  guarded_on : (j : ℕ) (a : Access) → j ≤ length rs → IsGuarded rs j a → IsGuarded (rs ++ r ∷ []) j a
  guarded_on j a within (Counter k low word is labels held) = Counter k low word is labels (held_on j a.hart k within held)
  guarded_on j a within (Asks k low word is labels read written) = Asks k low word is labels read written
  guarded_on j a within (Unlocks k low word is labels written held) = Unlocks k low word is labels written (held_on j a.hart k within held)

  -- all accesses, with the one of the record
  pub all_guarded : ((j : ℕ) (a : Access) → IsAccessAt rs j a → IsGuarded rs j a) → ((a : Access) → r ≡ step.Access a → IsGuarded rs (length rs) a) → (j : ℕ) (a : Access) → IsAccessAt (rs ++ r ∷ []) j a → IsGuarded (rs ++ r ∷ []) j a
  all_guarded all new j a at = by_place (place rs r j (step.Access a) at)
    where
      by_place : Place rs r j (step.Access a) → IsGuarded (rs ++ r ∷ []) j a
      by_place (Before there) = let below = slice_get_within rs j (step.Access a) there in guarded_on j a (omega arith) (all j a there)
      by_place (Last end same) = subst (λ i. IsGuarded (rs ++ r ∷ []) i a) (sym end) (guarded_on (length rs) a (omega arith) (new a same))

-- harts that are inside hold their lock words, and each access is guarded
pub record Guards (rs : List StepRecord) (p : ℕ → Progress) : Type 0 where
  pub inside : (h k : ℕ) → h < 64 → IsInside k (p h).section → IsHeldBefore rs (length rs) (record { 0 = h }) k
  pub all : (j : ℕ) (a : Access) → IsAccessAt rs j a → IsGuarded rs j a
