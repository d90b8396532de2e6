-- An Ask writes a word that is not 0, so an Unlock stands between two Asks.
use Rattle.std.proofs.Common.{◌≡◌, ◌≢◌, ◌⊎◌, inl, inr, ◌<◌, ℕ, ◌%◌, Bool, true, false, List, Option, Some, None, refl, sym, ◌∙◌, ap, subst, arith}
use Rattle.std.proofs.lemmas.Bool.Decides.{nat_tests}
use Rattle.std.specs.Prelude.{if◌then◌else◌, ◌==◌, ◌&&◌, unwrap_or, slice_get}
use Rattle.dash_base.specs.declared.end.Trap.{Trap}
use Rattle.dash_base.specs.declared.instr.Instr.{Instr}
use Rattle.dash_base.specs.declared.instr.Instr.TheVariants as instr
use Rattle.dash_base.specs.declared.instr.Labels.{Labels}
use Rattle.dash_base.specs.declared.ops.AmoOp.{AmoOp}
use Rattle.dash_base.specs.declared.ops.AmoOp.TheVariants.{Lr, Sc}
use Rattle.dash_base.specs.declared.topology.Topology.{Topology}
use Rattle.elf_load.specs.Image.{ImageView}
use Rattle.rv32_alu.specs.Arithmetic.{is_taken}
use Rattle.dash_event.specs.declared.access.Access.{Access}
use Rattle.dash_event.specs.declared.access.Op.{Op}
use Rattle.dash_event.specs.declared.access.Op.TheVariants as op
use Rattle.dash_event.specs.declared.step_record.StepRecord.{StepRecord}
use Rattle.dash_event.specs.declared.step_record.StepRecord.TheVariants as step
use Rattle.hart_core.specs.HartState.{HartState, reg}
use Rattle.hart_core.specs.Access.{size_of, in_locks, trap_or, load_need, store_need, rmw_need, amo_need, access_trap, is_ask, is_unlock}
use Rattle.hart_core.specs.declared.width.Width.{Width}
use Rattle.hart_core.specs.Meaning.{need_at, jump_need, call_need, instr_need}
use Rattle.hart_core.specs.declared.found.Found.{Found}
use Rattle.hart_core.specs.declared.found.Found.TheVariants.{This}
use Rattle.dash_base.specs.declared.need.Need.{Need}
use Rattle.dash_base.specs.declared.need.Need.TheVariants.{Load, Store, Rmw, Ask, Unlock}
use Rattle.dash_event.specs.Offered.{offered}
use Rattle.flat_model.specs.State.{opening_state}
use Rattle.dash_event.specs.Effects.{is_of_memory}
use Rattle.flat_model.specs.Run.{IsSequentialRun}
use Rattle.flat_model.specs.Order.{IsAccessAt}
use Rattle.flat_model.specs.LastBefore.{IsLockBefore}
use Rattle.flat_model.specs.ReadLaws.{IsUnlockedBetween}
use Rattle.flat_model.proofs.Offers.{is_offered}
use Rattle.flat_model.proofs.Values.{step_at}
use Rattle.flat_model.proofs.Seen.{locks_chained, ask_reads_zero}

-- what is asked for is not 0
abbrev AsksSome : Need → Type 0
AsksSome (Ask word value) = value ≢ 0
AsksSome need = Unit {0}

trap_asks : (o : Option Trap) (a : ℕ) (need : Need) → AsksSome need → AsksSome (trap_or o a need)
trap_asks (Some cause) a need asks = tt
trap_asks None a need asks = asks

choice_asks : (test : Bool) (a b : Need) → (test ≡ true → AsksSome a) → (test ≡ false → AsksSome b) → AsksSome (if test then a else b)
choice_asks true a b f g = f refl
choice_asks false a b f g = g refl

ask_asks : (kind : AmoOp) (labels : Labels) (operand : ℕ) → is_ask kind labels operand ≡ true → operand ≢ 0
ask_asks kind labels operand e zero_operand = grind (arith, nat_tests)

rmw_asks : (image : ImageView) (t : Topology) (a : ℕ) (kind : AmoOp) (labels : Labels) (operand : ℕ) → AsksSome (rmw_need image t a kind labels operand)
rmw_asks image t a kind labels operand =
    choice_asks ((a % 4 == 0) && in_locks t a) _ _
    (λ e. choice_asks (is_ask kind labels operand) _ _ (λ f. ask_asks kind labels operand f) (λ f. choice_asks (is_unlock kind labels operand) _ _ (λ k. tt) (λ k. tt)))
    (λ e. trap_asks (access_trap image t true a 4) a _ tt)

amo_asks : (image : ImageView) (t : Topology) (a : ℕ) (kind : AmoOp) (labels : Labels) (operand : ℕ) → AsksSome (amo_need image t a kind labels operand)
amo_asks image t a Lr labels operand = trap_asks (access_trap image t false a 4) a _ tt
amo_asks image t a kind labels operand = rmw_asks image t a kind labels operand

jump_asks : (target : ℕ) → AsksSome (jump_need target)
jump_asks target = choice_asks (target % 4 == 0) _ _ (λ e. tt) (λ e. tt)

call_asks : (h : HartState) → AsksSome (call_need h)
call_asks h = choice_asks (reg h 17 == 1) _ _ (λ e. tt) (λ e. choice_asks (reg h 17 == 93) _ _ (λ f. tt) (λ f. tt))

load_asks : (image : ImageView) (t : Topology) (a : ℕ) (w : Width) → AsksSome (load_need image t a w)
load_asks image t a w = trap_asks (access_trap image t false a (size_of w)) a _ tt

store_asks : (image : ImageView) (t : Topology) (a : ℕ) (w : Width) (value : ℕ) → AsksSome (store_need image t a w value)
store_asks image t a w value = trap_asks (access_trap image t true a (size_of w)) a _ tt

instr_asks : (image : ImageView) (t : Topology) (h : HartState) (i : Instr) → AsksSome (instr_need image t h i)
instr_asks image t h (instr.Jal i) = jump_asks _
instr_asks image t h (instr.Jalr i) = jump_asks _
instr_asks image t h (instr.Branch i) =
    choice_asks (is_taken i.op (reg h i.rs1) (reg h i.rs2)) _ _ (λ e. jump_asks _) (λ e. tt)
instr_asks image t h (instr.Load i) = load_asks image t _ _
instr_asks image t h (instr.Store i) = store_asks image t _ _ _
instr_asks image t h (instr.OpImm i) = grind arith
instr_asks image t h (instr.Amo i) = amo_asks image t _ i.op i.labels _
instr_asks image t h instr.Ecall = call_asks h
instr_asks image t h _ = tt

need_asks : (image : ImageView) (t : Topology) (h : HartState) (found : Found) → AsksSome (need_at image t h found)
need_asks image t h (This i) = instr_asks image t h i
need_asks image t h _ = tt

-- an Ask writes no 0
ask_writes : (h n : ℕ) (need : Need) (old : ℕ) (ok : Bool) (a : Access) → AsksSome need → offered h n need old ok ≡ Some a → a.op ≡ op.Ask → a.written ≢ Some 0
ask_writes h n (Load w m l true) old ok a asks is ask wrote = let kind : op.Reserve ≡ a.op = ap (λ o. (unwrap_or o a).op) is in cc
ask_writes h n (Load w m l false) old ok a asks is ask wrote = let kind : op.Load ≡ a.op = ap (λ o. (unwrap_or o a).op) is in cc
ask_writes h n (Store w m x) old ok a asks is ask wrote = let kind : op.Store ≡ a.op = ap (λ o. (unwrap_or o a).op) is in cc
ask_writes h n (Rmw w Sc x l) old ok a asks is ask wrote = let kind : op.Cond ≡ a.op = ap (λ o. (unwrap_or o a).op) is in cc
ask_writes h n (Rmw w amo x l) old ok a asks is ask wrote = let kind : op.Amo ≡ a.op = ap (λ o. (unwrap_or o a).op) is in cc
ask_writes h n (Ask w x) old ok a asks is ask wrote =
    let value : Some x ≡ a.written = ap (λ o. (unwrap_or o a).written) is in
    let zero_value : x ≡ 0 = cc in asks zero_value
ask_writes h n (Unlock w) old ok a asks is ask wrote = let kind : op.Unlock ≡ a.op = ap (λ o. (unwrap_or o a).op) is in cc
ask_writes h n _ old ok a asks is ask wrote = cc

-- the two operations on a lock word
lock_op : (kind : Op) → is_of_memory kind ≡ false → (kind ≡ op.Ask) ⊎ (kind ≡ op.Unlock)
lock_op op.Ask e = inl refl
lock_op op.Unlock e = inr refl
lock_op kind e = absurd cc

-- an Ask of a sequential run writes no 0
wrote_some : (image : ImageView) (t : Topology) (rs : List StepRecord) → IsSequentialRun image t rs
    → (i : ℕ) (a : Access) → IsAccessAt rs i a → a.op ≡ op.Ask → a.written ≢ Some 0
wrote_some image t rs run i a at ask =
    let found = step_at image t (opening_state image t) rs run.final run.runs i (step.Access a) at in
    let s = found.is_step in
    let asks = subst (λ n. AsksSome n) (sym s.does.needs) (need_asks image t (found.old.harts a.hart.0) s.does.found) in
    ask_writes a.hart.0 _ s.need _ s.succeeds a asks (is_offered a.hart.0 s.need _ a s.recorded) ask

-- two positions, the first of which is not after the second
apart : (i k : ℕ) → i ≢ k → ¬ (k < i) → i < k
apart i k other not_before = omega (arith, other, not_before)

-- the last access of a lock word before an Ask of it, where an Ask stands before, is an Unlock after that
unlocked : (rs : List StepRecord) (i j : ℕ) (a b : Access) → IsAccessAt rs i a → i < j → a.op ≡ op.Ask → a.word ≡ b.word → b.read ≡ Some 0
    → ((k : ℕ) (c : Access) → IsAccessAt rs k c → c.op ≡ op.Ask → c.written ≢ Some 0)
    → IsLockBefore rs j b.word.0 b.read → IsUnlockedBetween rs i j a.word
unlocked rs i j a b at before ask same read asks (inr f) =
    absurd (f.0.none i a at (record { of_lock = ap is_of_memory ask; same_word = ap (λ w. w.0) same }) before)
unlocked rs i j a b at before ask same read asks (inl l) = unlocked_by (lock_op l.0.access.op l.0.has.of_lock)
  where
    unlocked_by : (l.0.access.op ≡ op.Ask) ⊎ (l.0.access.op ≡ op.Unlock) → IsUnlockedBetween rs i j a.word
    unlocked_by (inl is_ask_op) = absurd (asks l.0.at l.0.access l.0.is_at is_ask_op (sym l.1 ∙ read))
    unlocked_by (inr is_unlock_op) = record {
      at = l.0.at;
      unlock = l.0.access;
      is_at = l.0.is_at;
      after = apart i l.0.at
          (λ e. (let found : Some (step.Access l.0.access) ≡ Some (step.Access a) = sym l.0.is_at ∙ ap (slice_get rs) (sym e) ∙ at in
          let is : l.0.access ≡ a = cc in
          let kinds : op.Unlock ≡ op.Ask = sym is_unlock_op ∙ ap (λ x. x.op) is ∙ ask in cc))
          (λ earlier. l.0.last i a at (record { of_lock = ap is_of_memory ask; same_word = ap (λ w. w.0) same }) earlier before);
      before = l.0.before;
      is_unlock = is_unlock_op;
      same_word = λ k. record { 0 = (l.0.has.same_word ∙ sym (ap (λ w. w.0) same)) k };
    }

pub locks_exclude : (image : ImageView) (t : Topology) (rs : List StepRecord) → IsSequentialRun image t rs
    → (i j : ℕ) (a b : Access) → IsAccessAt rs i a → IsAccessAt rs j b → i < j
    → a.op ≡ op.Ask → b.op ≡ op.Ask → a.word ≡ b.word → IsUnlockedBetween rs i j a.word
locks_exclude image t rs run i j a b at_i at_j before ask_a ask_b same =
    unlocked rs i j a b at_i before ask_a same (ask_reads_zero image t rs run j b at_j ask_b) (wrote_some image t rs run)
    (locks_chained image t rs run j b at_j (ap is_of_memory ask_b))
