-- What the accesses of a sequential run read.
use Rattle.std.proofs.Common.{◌≡◌, ◌⊎◌, inl, inr, ◌<◌, ℕ, true, false, List, length, Option, Some, refl, sym, ◌∙◌, subst}
use Rattle.dash_base.specs.Words.{has_byte, byte_of_word}
use Rattle.dash_base.specs.declared.topology.Topology.{Topology}
use Rattle.elf_load.specs.Image.{ImageView}
use Rattle.dash_event.specs.declared.access.Access.{Access}
use Rattle.dash_event.specs.declared.access.Op.TheVariants as op
use Rattle.dash_event.specs.declared.step_record.StepRecord.{StepRecord}
use Rattle.dash_event.specs.declared.step_record.StepRecord.TheVariants as step
use Rattle.flat_model.specs.State.{FlatState, opening_state}
use Rattle.flat_model.specs.Step.{IsFlatStep}
use Rattle.dash_event.specs.Effects.{hart_of, is_of_memory}
use Rattle.flat_model.specs.Run.{RunsTo, IsSequentialRun}
use Rattle.flat_model.specs.Order.{IsAccessAt}
use Rattle.flat_model.specs.LastBefore.{WritesByte, IsLockAccess, IsByteBefore, IsLockBefore}
use Rattle.flat_model.proofs.Offers.{is_offered, read_is}
use Rattle.flat_model.proofs.Values.{Leaves, Keeps, IsLeft, IsFirst, at_position, at_end}
use Rattle.flat_model.proofs.Writes.{left_byte, byte_after}
use Rattle.flat_model.proofs.Locks.{lock_use, ask_reads, lock_after_step}

abbrev byte_in : ℕ → ℕ → FlatState → ℕ
byte_in address k s = byte_of_word k (s.memory address)

-- a step writes a byte of memory, or keeps it
byte_on : (image : ImageView) (t : Topology) (address k : ℕ) → k < 4 → (old : FlatState) (r : StepRecord) (new : FlatState)
    → IsFlatStep image t old (hart_of r).0 r new
    → Leaves (WritesByte address k) ℕ (left_byte address k) r (byte_in address k new) ⊎ Keeps (WritesByte address k) ℕ r (byte_in address k old) (byte_in address k new)
byte_on image t address k below old r new s =
    subst (λ x. Leaves (WritesByte address k) ℕ (left_byte address k) r (byte_in address k x) ⊎ Keeps (WritesByte address k) ℕ r (byte_in address k old) (byte_in address k x))
    (sym s.after) (byte_after address k (old.memory address) below r)

-- a byte that was left is the byte before a position
byte_before : (image : ImageView) (t : Topology) (rs : List StepRecord) (i address k byte seen : ℕ) → byte ≡ seen
    → IsLeft (WritesByte address k) ℕ (left_byte address k) rs i seen ⊎ IsFirst (WritesByte address k) ℕ rs i (byte_in address k (opening_state image t)) seen
    → IsByteBefore image rs i address k byte
byte_before image t rs i address k byte seen same (inl l) = inl (l.access, same ∙ l.value_is)
byte_before image t rs i address k byte seen same (inr f) = inr (f.none, same ∙ f.same)

pub reads_see : (image : ImageView) (t : Topology) (rs : List StepRecord) → IsSequentialRun image t rs
    → (i : ℕ) (a : Access) (value : ℕ) → IsAccessAt rs i a → is_of_memory a.op ≡ true → a.read ≡ Some value
    → (k : ℕ) → k < 4 → has_byte a.mask k ≡ true → IsByteBefore image rs i a.word.0 k (byte_of_word k value)
reads_see image t rs run i a value at memory read k below has =
    let word = a.word.0 in
    let found = at_position image t (WritesByte word k) ℕ (left_byte word k) (byte_in word k) (byte_on image t word k below) (opening_state image t) rs run.final run.runs i (step.Access a) at in
    let s = found.0.is_step in
    let is = is_offered a.hart.0 s.need _ a s.recorded in
    let same = read_is found.0.old a.hart.0 _ s.need s.succeeds a value k is memory read below has in
    byte_before image t rs i word k (byte_of_word k value) (byte_in word k found.0.old) same found.1

abbrev lock_in : ℕ → FlatState → Option ℕ
lock_in address s = Some (s.locks address)

-- a step writes a lock word, or keeps it
lock_on : (image : ImageView) (t : Topology) (address : ℕ) (old : FlatState) (r : StepRecord) (new : FlatState)
    → IsFlatStep image t old (hart_of r).0 r new
    → Leaves (IsLockAccess address) (Option ℕ) (λ a of_word. a.written) r (lock_in address new) ⊎ Keeps (IsLockAccess address) (Option ℕ) r (lock_in address old) (lock_in address new)
lock_on image t address old r new s =
    let writes : (a : Access) → r ≡ step.Access a → is_of_memory a.op ≡ false → (value : ℕ) × (a.written ≡ Some value) =
    λ a is lock. (let found_use = lock_use old (hart_of r).0 _ s.need s.succeeds a s.possible (is_offered (hart_of r).0 s.need _ a (sym is ∙ s.recorded)) lock in (found_use.value, found_use.written)) in
    subst (λ x. Leaves (IsLockAccess address) (Option ℕ) (λ a of_word. a.written) r (lock_in address x) ⊎ Keeps (IsLockAccess address) (Option ℕ) r (lock_in address old) (lock_in address x))
    (sym s.after) (lock_after_step address (old.locks address) r writes)

lock_before : (rs : List StepRecord) (i address : ℕ) (word seen : Option ℕ) → word ≡ seen
    → IsLeft (IsLockAccess address) (Option ℕ) (λ a of_word. a.written) rs i seen ⊎ IsFirst (IsLockAccess address) (Option ℕ) rs i (Some 0) seen
    → IsLockBefore rs i address word
lock_before rs i address word seen same (inl l) = inl (l.access, same ∙ l.value_is)
lock_before rs i address word seen same (inr f) = inr (f.none, same ∙ f.same)

pub locks_chained : (image : ImageView) (t : Topology) (rs : List StepRecord) → IsSequentialRun image t rs
    → (i : ℕ) (a : Access) → IsAccessAt rs i a → is_of_memory a.op ≡ false → IsLockBefore rs i a.word.0 a.read
locks_chained image t rs run i a at lock =
    let word = a.word.0 in
    let found = at_position image t (IsLockAccess word) (Option ℕ) (λ b of_word. b.written) (lock_in word) (lock_on image t word) (opening_state image t) rs run.final run.runs i (step.Access a) at in
    let s = found.0.is_step in
    let found_use = lock_use found.0.old a.hart.0 _ s.need s.succeeds a s.possible (is_offered a.hart.0 s.need _ a s.recorded) lock in
    lock_before rs i word a.read (lock_in word found.0.old) found_use.read found.1

pub ask_reads_zero : (image : ImageView) (t : Topology) (rs : List StepRecord) → IsSequentialRun image t rs
    → (i : ℕ) (a : Access) → IsAccessAt rs i a → a.op ≡ op.Ask → a.read ≡ Some 0
ask_reads_zero image t rs run i a at ask =
    let found = at_position image t (IsLockAccess 0) (Option ℕ) (λ b of_word. b.written) (lock_in 0) (lock_on image t 0) (opening_state image t) rs run.final run.runs i (step.Access a) at in
    let s = found.0.is_step in
    ask_reads a.hart.0 _ s.need _ s.succeeds a (is_offered a.hart.0 s.need _ a s.recorded) ask

-- memory and lock words at the end of a run
pub memory_at_end : (image : ImageView) (t : Topology) (rs : List StepRecord) (s : FlatState) → RunsTo image t rs s
    → (address k : ℕ) → k < 4 → IsByteBefore image rs (length rs) address k (byte_of_word k (s.memory address))
memory_at_end image t rs s run address k below =
    byte_before image t rs (length rs) address k _ (byte_in address k s) refl
    (at_end image t (WritesByte address k) ℕ (left_byte address k) (byte_in address k) (byte_on image t address k below) (opening_state image t) rs s run)

pub locks_at_end : (image : ImageView) (t : Topology) (rs : List StepRecord) (s : FlatState) → RunsTo image t rs s
    → (address : ℕ) → IsLockBefore rs (length rs) address (Some (s.locks address))
locks_at_end image t rs s run address =
    lock_before rs (length rs) address _ (lock_in address s) refl
    (at_end image t (IsLockAccess address) (Option ℕ) (λ a of_word. a.written) (lock_in address) (lock_on image t address) (opening_state image t) rs s run)
