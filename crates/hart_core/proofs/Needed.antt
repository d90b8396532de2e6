-- What holds of each need of an instruction: it is no rest, what it means is there, a store has bytes, and it retires one but for a trap.
use Rattle.std.proofs.Common.{◌≡◌, ◌↔◌, ◌∙◌, ℕ, zero, suc, ◌+◌, ◌%◌, ◌<◌, ◌≤◌, ◌==◌, Bool, true, false, List, slice_index, slice_set, ◌≢◌, Option, Some, None, ap, sym, subst, refl, arith, if◌then◌else◌, ◌&&◌}
use Rattle.std.proofs.lemmas.List.{get_or-set_other}
use Rattle.dash_base.specs.declared.end.End.{End}
use Rattle.dash_base.specs.declared.end.End.TheVariants.{Running, Exited, Trapped}
use Rattle.dash_base.specs.declared.end.Trap.{Trap}
use Rattle.dash_base.specs.declared.id.WordAddr.{WordAddr}
use Rattle.dash_base.specs.declared.instr.Instr.{Instr}
use Rattle.dash_base.specs.declared.instr.Instr.TheVariants as instr
use Rattle.dash_base.specs.declared.instr.Labels.{Labels}
use Rattle.dash_base.specs.declared.ops.AmoOp.{AmoOp}
use Rattle.dash_base.specs.declared.ops.AmoOp.TheVariants.{Lr}
use Rattle.dash_base.specs.declared.topology.Topology.{Topology}
use Rattle.dash_base.specs.Words.{has_byte}
use Rattle.elf_load.specs.Image.{ImageView}
use Rattle.rv32_alu.specs.Arithmetic.{is_taken}
use Rattle.rv32_decode.specs.declared.prefetch.Hint.{Hint}
use Rattle.hart_core.specs.declared.found.Found.{Found}
use Rattle.hart_core.specs.declared.found.Found.TheVariants.{NoWord, NoInstr, This}
use Rattle.dash_base.specs.declared.need.Need.{Need}
use Rattle.dash_base.specs.declared.need.Need.TheVariants as needed
use Rattle.hart_core.specs.declared.width.Width.{Width}
use Rattle.hart_core.specs.declared.width.Width.TheVariants as width
use Rattle.hart_core.specs.HartState.{HartState, reg, with_register, can_go_on}
use Rattle.hart_core.specs.Access.{IsProper, IsInMemory, IsLockWord, size_of, word_address, mask_at, in_locks, access_trap, trap_or, load_need, store_need, reserve_need, lock_need, rmw_need, amo_need}
use Rattle.hart_core.specs.Meaning.{IsFound, HasByte, need_at, jump_need, hint_need, call_need, instr_need, with_result, ended, after_need, Needs, Does, retired_after}

-- what holds of the need of each instruction
abbrev Works : Topology → Need → Type 0
Works t needed.Rest = ⊥
Works t (needed.Store word mask value) = IsInMemory t word.0 4 × HasByte mask
Works t need = IsProper t need

trap_works : (t : Topology) (o : Option Trap) (a : ℕ) (need : Need) → (o ≡ None → Works t need) → Works t (trap_or o a need)
trap_works t (Some cause) a need clear = refl
trap_works t None a need clear = clear refl

choice_works : (t : Topology) (test : Bool) (a b : Need) → (test ≡ true → Works t a) → (test ≡ false → Works t b)
    → Works t (if test then a else b)
choice_works t true a b f g = f refl
choice_works t false a b f g = g refl

clear_access : (image : ImageView) (t : Topology) (is_write : Bool) (a size : ℕ) → access_trap image t is_write a size ≡ None → IsInMemory t a size
clear_access image t is_write a size clear = grind arith

word_in_memory : (t : Topology) (a : ℕ) (w : Width) → IsInMemory t a (size_of w) → IsInMemory t (word_address a) 4
word_in_memory t a width.Byte m = grind arith
word_in_memory t a width.Half m = grind arith
word_in_memory t a width.Word m = grind arith

mask_has : (p : ℕ) → p < 4 → (w : Width) → has_byte (mask_at p (size_of w)) p ≡ true
mask_has zero small width.Byte = refl
mask_has zero small width.Half = refl
mask_has zero small width.Word = refl
mask_has (suc zero) small width.Byte = refl
mask_has (suc zero) small width.Half = refl
mask_has (suc zero) small width.Word = refl
mask_has (suc (suc zero)) small width.Byte = refl
mask_has (suc (suc zero)) small width.Half = refl
mask_has (suc (suc zero)) small width.Word = refl
mask_has (suc (suc (suc zero))) small width.Byte = refl
mask_has (suc (suc (suc zero))) small width.Half = refl
mask_has (suc (suc (suc zero))) small width.Word = refl
mask_has (suc (suc (suc (suc p)))) small w = absurd (omega arith)

load_works : (image : ImageView) (t : Topology) (a : ℕ) (w : Width) → Works t (load_need image t a w)
load_works image t a w =
    trap_works t (access_trap image t false a (size_of w)) a _ (λ e. word_in_memory t a w (clear_access image t false a (size_of w) e))

store_works : (image : ImageView) (t : Topology) (a : ℕ) (w : Width) (value : ℕ) → Works t (store_need image t a w value)
store_works image t a w value =
    let place : a % 4 < 4 = omega arith in
    trap_works t (access_trap image t true a (size_of w)) a _ (λ e.
    (word_in_memory t a w (clear_access image t true a (size_of w) e), record { byte = a % 4; within = place; has = mask_has (a % 4) place w }))

reserve_works : (image : ImageView) (t : Topology) (a : ℕ) (labels : Labels) → Works t (reserve_need image t a labels)
reserve_works image t a labels = trap_works t (access_trap image t false a 4) a _ (λ e. clear_access image t false a 4 e)

lock_works : (t : Topology) (a : ℕ) (op : AmoOp) (labels : Labels) (operand : ℕ) → IsLockWord t a → Works t (lock_need a op labels operand)
lock_works t a op labels operand is_lock = grind arith

is_lock_word : (t : Topology) (a : ℕ) → ((a % 4 == 0) && in_locks t a) ≡ true → IsLockWord t a
is_lock_word t a e = grind arith

rmw_works : (image : ImageView) (t : Topology) (a : ℕ) (op : AmoOp) (labels : Labels) (operand : ℕ) → Works t (rmw_need image t a op labels operand)
rmw_works image t a op labels operand =
    choice_works t ((a % 4 == 0) && in_locks t a) _ _ (λ e. lock_works t a op labels operand (is_lock_word t a e))
    (λ e. trap_works t (access_trap image t true a 4) a _ (λ e. clear_access image t true a 4 e))

amo_works : (image : ImageView) (t : Topology) (a : ℕ) (op : AmoOp) (labels : Labels) (operand : ℕ) → Works t (amo_need image t a op labels operand)
amo_works image t a Lr labels operand = reserve_works image t a labels
amo_works image t a op labels operand = rmw_works image t a op labels operand

jump_works : (t : Topology) (target : ℕ) → Works t (jump_need target)
jump_works t target = grind arith

call_works : (t : Topology) (h : HartState) → Works t (call_need h)
call_works t h = grind arith

hint_works : (t : Topology) (h : HartState) (o : Option Hint) → Works t (hint_need h o)
hint_works t h None = tt
hint_works t h (Some hint) = tt

pub instr_works : (image : ImageView) (t : Topology) (h : HartState) (i : Instr) → Works t (instr_need image t h i)
instr_works image t h (instr.Lui i) = tt
instr_works image t h (instr.Auipc i) = tt
instr_works image t h (instr.Jal i) = jump_works t _
instr_works image t h (instr.Jalr i) = jump_works t _
instr_works image t h (instr.Branch i) =
    choice_works t (is_taken i.op (reg h i.rs1) (reg h i.rs2)) _ _ (λ e. jump_works t _) (λ e. tt)
instr_works image t h (instr.Load i) = load_works image t _ _
instr_works image t h (instr.Store i) = store_works image t _ _ _
instr_works image t h (instr.OpImm i) = hint_works t h _
instr_works image t h (instr.Op i) = tt
instr_works image t h (instr.Amo i) = amo_works image t _ i.op i.labels _
instr_works image t h (instr.Fence i) = tt
instr_works image t h instr.Ecall = call_works t h
instr_works image t h instr.Ebreak = refl

works : (image : ImageView) (t : Topology) (h : HartState) (found : Found) → Works t (need_at image t h found)
works image t h NoWord = refl
works image t h (NoInstr word) = refl
works image t h (This i) = instr_works image t h i

works_proper : (t : Topology) (need : Need) → Works t need → IsProper t need
works_proper t needed.Rest fact = tt
works_proper t (needed.Store word mask value) fact = fact.0
works_proper t needed.Alu fact = fact
works_proper t (needed.Fence waits) fact = fact
works_proper t (needed.Hint kind address) fact = fact
works_proper t (needed.Put byte) fact = fact
works_proper t (needed.Stop end) fact = fact
works_proper t (needed.Load word mask labels reserve) fact = fact
works_proper t (needed.Rmw word op operand labels) fact = fact
works_proper t (needed.Ask word value) fact = fact
works_proper t (needed.Unlock word) fact = fact

-- what a hart needs
needs_works : (image : ImageView) (t : Topology) (h : HartState) (need : Need) → Needs image t h need → Works t need
needs_works image t h need needs = subst (λ n. Works t n) (sym needs.needs) (works image t h needs.found)

pub never_rest : (image : ImageView) (t : Topology) (h : HartState) → Needs image t h needed.Rest → ⊥
never_rest image t h needs = needs_works image t h needed.Rest needs

both : (b : Bool) → b ≡ true → b ≡ false → ⊥
both b is_true is_false = cc

-- a hart that can go on needs something
pub works_on : (image : ImageView) (t : Topology) (h : HartState) (found : Found) (need : Need) → can_go_on t h ≡ true
    → IsFound image h.pc found → need ≡ need_at image t h found → (need ≡ needed.Rest) ↔ (can_go_on t h ≡ false)
works_on image t h found need goes is_found needs = (
  λ e. absurd (never_rest image t h (record { goes = goes; found = found; is_found = is_found; needs = sym e ∙ needs })),
  λ e. absurd (both (can_go_on t h) goes e),
)

pub proper : (image : ImageView) (t : Topology) (h : HartState) (need : Need) → Needs image t h need → IsProper t need
proper image t h need needs = works_proper t need (needs_works image t h need needs)

pub store_has_byte : (image : ImageView) (t : Topology) (h : HartState) (word : WordAddr) (mask value : ℕ)
    → Needs image t h (needed.Store word mask value) → HasByte mask
store_has_byte image t h word mask value needs = (needs_works image t h (needed.Store word mask value) needs).1

-- the result of an instruction is in its registers alone
result_retires : (h : HartState) (i : Instr) (x : ℕ) → (with_result h i x).retired ≡ h.retired
result_retires h i x = grind arith

-- the instruction that was found retires one, unless it traps
performed_retires : (t : Topology) (h : HartState) (i : Instr) (need : Need) (x : ℕ) → Works t need
    → (after_need h (This i) need x).retired ≡ retired_after need h.retired
performed_retires t h i needed.Rest x fact = absurd fact
performed_retires t h i (needed.Stop Running) x fact = absurd (grind arith)
performed_retires t h i (needed.Stop (Exited code)) x fact = refl
performed_retires t h i (needed.Stop (Trapped cause value)) x fact = refl
performed_retires t h i need x fact = ap (λ n. n + 1) (result_retires h i x)

found_retires : (image : ImageView) (t : Topology) (h : HartState) (found : Found) (x : ℕ)
    → (after_need h found (need_at image t h found) x).retired ≡ retired_after (need_at image t h found) h.retired
found_retires image t h NoWord x = refl
found_retires image t h (NoInstr word) x = refl
found_retires image t h (This i) x = performed_retires t h i (instr_need image t h i) x (instr_works image t h i)

pub retires : (image : ImageView) (t : Topology) (h k : HartState) (need : Need) (x : ℕ) → Does image t h need x k
    → k.retired ≡ retired_after need h.retired
retires image t h k need x does =
    ap (λ s. s.retired) does.after ∙ ap (λ n. (after_need h does.found n x).retired) does.needs
    ∙ found_retires image t h does.found x ∙ ap (λ n. retired_after n h.retired) (sym does.needs)

below_budget : (t : Topology) (h : HartState) → can_go_on t h ≡ true → h.retired < t.budget
below_budget t h goes = grind arith

after_in_budget : (need : Need) (retired budget : ℕ) → retired < budget → retired_after need retired ≤ budget
after_in_budget need retired budget below = grind arith

-- no hart passes its budget
pub in_budget : (image : ImageView) (t : Topology) (h k : HartState) (need : Need) (x : ℕ) → Does image t h need x k → k.retired ≤ t.budget
in_budget image t h k need x does =
    let after = retires image t h k need x does in
    let within = after_in_budget need h.retired t.budget (below_budget t h does.goes) in
    omega (arith, after, within)

-- register 0 is never written
written_if : (l : List ℕ) (rd value : ℕ) (test : Bool) → (test ≡ false → 0 ≢ rd)
    → slice_index (if test then l else slice_set l rd value) 0 ≡ slice_index l 0
written_if l rd value true other = refl
written_if l rd value false other = get_or-set_other l rd 0 value 0 (other refl)

other_register : (rd : ℕ) → (rd == 0) ≡ false → 0 ≢ rd
other_register rd e same = grind arith

written_zero : (h : HartState) (rd value : ℕ) → reg (with_register h rd value) 0 ≡ reg h 0
written_zero h rd value = written_if h.registers rd value (rd == 0) (other_register rd)

result_zero : (h : HartState) (i : Instr) (x : ℕ) → reg (with_result h i x) 0 ≡ reg h 0
result_zero h (instr.Lui i) x = written_zero h i.rd _
result_zero h (instr.Auipc i) x = written_zero h i.rd _
result_zero h (instr.Jal i) x = written_zero h i.rd _
result_zero h (instr.Jalr i) x = written_zero h i.rd _
result_zero h (instr.Branch i) x = refl
result_zero h (instr.Load i) x = written_zero h i.rd _
result_zero h (instr.Store i) x = refl
result_zero h (instr.OpImm i) x = written_zero h i.rd _
result_zero h (instr.Op i) x = written_zero h i.rd _
result_zero h (instr.Amo i) x = written_zero h i.rd _
result_zero h (instr.Fence i) x = refl
result_zero h instr.Ecall x = refl
result_zero h instr.Ebreak x = refl

ended_zero : (h : HartState) (end : End) → reg (ended h end) 0 ≡ reg h 0
ended_zero h Running = refl
ended_zero h (Exited code) = refl
ended_zero h (Trapped cause value) = refl

after_zero : (h : HartState) (found : Found) (need : Need) (x : ℕ) → reg (after_need h found need x) 0 ≡ reg h 0
after_zero h found (needed.Stop end) x = ended_zero h end
after_zero h (This i) need x = result_zero h i x
after_zero h NoWord need x = refl
after_zero h (NoInstr word) need x = refl

pub zero_stays : (image : ImageView) (t : Topology) (h k : HartState) (need : Need) (x : ℕ) → Does image t h need x k
    → reg k 0 ≡ reg h 0
zero_stays image t h k need x does =
    ap (λ s. reg s 0) does.after ∙ after_zero h does.found need x
