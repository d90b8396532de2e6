-- What a step leaves in a lock word.
use Rattle.std.proofs.Common.{◌≡◌, ◌⊎◌, inl, inr, ℕ, Bool, true, false, Option, Some, refl, sym, ◌∙◌, ap, arith}
use Rattle.std.proofs.lemmas.Bool.Decides.{nat_tests}
use Rattle.std.specs.Prelude.{if◌then◌else◌, ◌==◌, ◌&&◌, not, unwrap_or}
use Rattle.dash_base.specs.declared.ops.AmoOp.TheVariants.{Sc}
use Rattle.dash_event.specs.declared.access.Access.{Access}
use Rattle.dash_event.specs.declared.access.Op.TheVariants as op
use Rattle.dash_event.specs.declared.step_record.StepRecord.{StepRecord}
use Rattle.dash_event.specs.declared.step_record.StepRecord.TheVariants as step
use Rattle.dash_base.specs.declared.need.Need.{Need}
use Rattle.dash_base.specs.declared.need.Need.TheVariants.{Load, Store, Rmw, Ask, Unlock}
use Rattle.flat_model.specs.State.{FlatState}
use Rattle.dash_event.specs.Offered.{load_op, offered}
use Rattle.flat_model.specs.Step.{IsPossible, content}
use Rattle.dash_event.specs.Effects.{is_of_memory, lock_after}
use Rattle.flat_model.specs.LastBefore.{IsLockAccess}
use Rattle.flat_model.proofs.Values.{Leaves, Keeps}
use Rattle.flat_model.proofs.Writes.{same_access}

-- what an access of a lock word reads and writes: what stands there, and some word
pub record IsLockUse (s : FlatState) (a : Access) : Type 0 where
  pub read : a.read ≡ Some (s.locks a.word.0)
  pub value : ℕ
  pub written : a.written ≡ Some value

-- the operation of a load is one on memory
load_of_memory : (reserve : Bool) → is_of_memory (load_op reserve) ≡ true
load_of_memory true = refl
load_of_memory false = refl

pub lock_use : (s : FlatState) (h n : ℕ) (need : Need) (ok : Bool) (a : Access)
    → IsPossible s h need ok → offered h n need (content s need) ok ≡ Some a → is_of_memory a.op ≡ false → IsLockUse s a
lock_use s h n (Load w m l r) ok a possible is lock =
    let kind : load_op r ≡ a.op = ap (λ o. (unwrap_or o a).op) is in
    let no : true ≡ false = sym (load_of_memory r) ∙ ap is_of_memory kind ∙ lock in absurd cc
lock_use s h n (Store w m x) ok a possible is lock =
    let no : true ≡ false = ap (λ o. is_of_memory (unwrap_or o a).op) is ∙ lock in absurd cc
lock_use s h n (Rmw w Sc x l) ok a possible is lock =
    let no : true ≡ false = ap (λ o. is_of_memory (unwrap_or o a).op) is ∙ lock in absurd cc
lock_use s h n (Rmw w amo x l) ok a possible is lock =
    let no : true ≡ false = ap (λ o. is_of_memory (unwrap_or o a).op) is ∙ lock in absurd cc
lock_use s h n (Ask w x) ok a possible is lock =
    let word : w.0 ≡ a.word.0 = ap (λ o. (unwrap_or o a).word.0) is in
    record {
      read = sym (ap (λ o. (unwrap_or o a).read) is) ∙ ap Some (sym possible ∙ ap s.locks word);
      value = x;
      written = sym (ap (λ o. (unwrap_or o a).written) is);
    }
lock_use s h n (Unlock w) ok a possible is lock =
    let word : w.0 ≡ a.word.0 = ap (λ o. (unwrap_or o a).word.0) is in
    record {
      read = sym (ap (λ o. (unwrap_or o a).read) is) ∙ ap (λ x. Some (s.locks x)) word;
      value = 0;
      written = sym (ap (λ o. (unwrap_or o a).written) is);
    }
lock_use s h n _ ok a possible is lock = absurd cc

-- an Ask reads 0
pub ask_reads : (h n : ℕ) (need : Need) (old : ℕ) (ok : Bool) (a : Access) → offered h n need old ok ≡ Some a → a.op ≡ op.Ask → a.read ≡ Some 0
ask_reads h n (Load w m l true) old ok a is ask = let kind : op.Reserve ≡ a.op = ap (λ o. (unwrap_or o a).op) is in cc
ask_reads h n (Load w m l false) old ok a is ask = let kind : op.Load ≡ a.op = ap (λ o. (unwrap_or o a).op) is in cc
ask_reads h n (Store w m x) old ok a is ask = let kind : op.Store ≡ a.op = ap (λ o. (unwrap_or o a).op) is in cc
ask_reads h n (Rmw w Sc x l) old ok a is ask = let kind : op.Cond ≡ a.op = ap (λ o. (unwrap_or o a).op) is in cc
ask_reads h n (Rmw w amo x l) old ok a is ask = let kind : op.Amo ≡ a.op = ap (λ o. (unwrap_or o a).op) is in cc
ask_reads h n (Ask w x) old ok a is ask = sym (ap (λ o. (unwrap_or o a).read) is)
ask_reads h n (Unlock w) old ok a is ask = let kind : op.Unlock ≡ a.op = ap (λ o. (unwrap_or o a).op) is in cc
ask_reads h n _ old ok a is ask = cc

-- an access of a lock word writes it
abbrev WritesLocks : StepRecord → Type 0
WritesLocks r = (a : Access) → r ≡ step.Access a → is_of_memory a.op ≡ false → (value : ℕ) × (a.written ≡ Some value)

-- a step leaves what it wrote in the lock word, or keeps it
abbrev pub LeavesOrKeeps : ℕ → ℕ → StepRecord → Type 0
LeavesOrKeeps address old r =
    Leaves (IsLockAccess address) (Option ℕ) (λ a of_word. a.written) r (Some (lock_after address r old))
    ⊎ Keeps (IsLockAccess address) (Option ℕ) r (Some old) (Some (lock_after address r old))

module _ (address old : ℕ) (a : Access) (writes : WritesLocks (step.Access a)) where
  lock_is : (memory same : Bool) → is_of_memory a.op ≡ memory → (a.word.0 == address) ≡ same
      → lock_after address (step.Access a) old ≡ (if not memory && same then unwrap_or a.written old else old)
  lock_is memory same m s = λ i. if not (m i) && s i then unwrap_or a.written old else old

  leaves_or_keeps : (memory same : Bool) → is_of_memory a.op ≡ memory → (a.word.0 == address) ≡ same → LeavesOrKeeps address old (step.Access a)
  leaves_or_keeps false true m s =
      let word : a.word.0 ≡ address = grind (arith, nat_tests) in
      let wrote = writes a refl m in
      let left : unwrap_or a.written old ≡ wrote.0 = ap (λ o. unwrap_or o old) wrote.1 in
      inl (record {
        access = a;
        is = refl;
        has = record { of_lock = m; same_word = word };
        value_is = ap Some (lock_is false true m s ∙ left) ∙ sym wrote.1;
      })
  leaves_or_keeps false false m s = inr (record {
    none = λ b is lock. (let word : a.word.0 ≡ address = ap (λ c. c.word.0) (same_access a b is) ∙ lock.same_word in absurd (grind (arith, nat_tests)));
    same = ap Some (lock_is false false m s);
  })
  leaves_or_keeps true same m s = inr (record {
    none = λ b is lock. (let no : true ≡ false = sym m ∙ ap (λ c. is_of_memory c.op) (same_access a b is) ∙ lock.of_lock in cc);
    same = ap Some (lock_is true same m s);
  })

-- each record writes the lock word or keeps it
pub lock_after_step : (address old : ℕ) (r : StepRecord) → WritesLocks r → LeavesOrKeeps address old r
lock_after_step address old (step.Access a) writes =
    leaves_or_keeps address old a writes (is_of_memory a.op) (a.word.0 == address) refl refl
lock_after_step address old r writes = inr (record { none = λ b is lock. (cc); same = refl })
