-- The meaning of an instruction: what it needs, and what becomes of the hart when it is answered.
use Rattle.std.specs.Prelude.{◌≡◌, ℕ, ◌+◌, ◌-◌, ◌%◌, ◌^◌, ◌<◌, ◌==◌, ◌&&◌, Bool, true, false, not, if◌then◌else◌, Option, Some, None}
use Rattle.dash_base.specs.Words.{has_byte}
use Rattle.dash_base.specs.declared.end.End.{End}
use Rattle.dash_base.specs.declared.end.End.TheVariants.{Exited, Trapped}
use Rattle.dash_base.specs.declared.end.Trap.TheVariants as trap
use Rattle.dash_base.specs.declared.instr.Fence.{Fence}
use Rattle.dash_base.specs.declared.instr.Instr.{Instr}
use Rattle.dash_base.specs.declared.instr.Instr.TheVariants as instr
use Rattle.dash_base.specs.declared.topology.Topology.{Topology}
use Rattle.elf_load.specs.Image.{ImageView, fetched}
use Rattle.rv32_decode.specs.Layout.{word_of}
use Rattle.rv32_decode.specs.Decoding.{IsDecoding}
use Rattle.rv32_decode.specs.Hints.{hint_of}
use Rattle.rv32_decode.specs.declared.prefetch.Hint.{Hint}
use Rattle.rv32_alu.specs.Arithmetic.{alu_value, is_taken, moved_by}
use Rattle.hart_core.specs.declared.found.Found.{Found}
use Rattle.hart_core.specs.declared.found.Found.TheVariants.{NoWord, NoInstr, This}
use Rattle.hart_core.specs.declared.front.Front.{Front}
use Rattle.dash_base.specs.declared.need.Need.{Need}
use Rattle.dash_base.specs.declared.need.Need.TheVariants as needed
use Rattle.hart_core.specs.HartState.{HartState, reg, with_register, retired_to, can_go_on}
use Rattle.hart_core.specs.Access.{load_width, store_width, load_need, store_need, amo_need, loaded}

-- what stands at an address
abbrev pub IsFound : ImageView → ℕ → Found → Type 0
IsFound image pc NoWord = fetched image pc ≡ None
IsFound image pc (NoInstr word) = (fetched image pc ≡ Some word) × IsDecoding word None
IsFound image pc (This i) = fetched image pc ≡ Some (word_of i)

-- the address of the next instruction in line
abbrev pub following : HartState → ℕ
following h = (h.pc + 4) % 2 ^ 32

-- the target of JALR, whose bit 0 is cleared
abbrev pub without_bit_0 : ℕ → ℕ
without_bit_0 target = target - target % 2

-- the address at which the hart goes on after an instruction
abbrev pub next_pc : HartState → Instr → ℕ
next_pc h (instr.Jal i) = moved_by h.pc i.offset
next_pc h (instr.Jalr i) = without_bit_0 (moved_by (reg h i.rs1) i.offset)
next_pc h (instr.Branch i) =
    if is_taken i.op (reg h i.rs1) (reg h i.rs2) then moved_by h.pc i.offset else following h
next_pc h _ = following h

-- a jump to an address that is no multiple of 4 traps
abbrev pub jump_need : ℕ → Need
jump_need target = if target % 4 == 0 then needed.Alu else needed.Stop (Trapped trap.Misaligned target)

-- a prefetch, or an operation on registers alone
abbrev pub hint_need : HartState → Option Hint → Need
hint_need h (Some hint) = needed.Hint hint.kind (moved_by (reg h hint.rs1) hint.offset)
hint_need h None = needed.Alu

-- a fence waits where writes before it are ordered before anything after it: W is bit 0 of `pred`
abbrev pub fence_waits : Fence → Bool
fence_waits i = (i.pred % 2 == 1) && not (i.succ == 0)

-- a call by the number in a7 (x17): 1 puts the low byte of a0 (x10), 93 exits with a0
abbrev pub call_need : HartState → Need
call_need h =
    if reg h 17 == 1 then needed.Put (reg h 10 % 2 ^ 8)
    else (if reg h 17 == 93 then needed.Stop (Exited (reg h 10))
    else needed.Stop (Trapped trap.BadCall (reg h 17)))

-- what an instruction needs
abbrev pub instr_need : ImageView → Topology → HartState → Instr → Need
instr_need image t h (instr.Jal i) = jump_need (next_pc h (instr.Jal i))
instr_need image t h (instr.Jalr i) = jump_need (next_pc h (instr.Jalr i))
instr_need image t h (instr.Branch i) =
    if is_taken i.op (reg h i.rs1) (reg h i.rs2) then jump_need (moved_by h.pc i.offset) else needed.Alu
instr_need image t h (instr.Load i) =
    load_need image t (moved_by (reg h i.rs1) i.offset) (load_width i.op)
instr_need image t h (instr.Store i) =
    store_need image t (moved_by (reg h i.rs1) i.offset) (store_width i.op) (reg h i.rs2)
instr_need image t h (instr.OpImm i) = hint_need h (hint_of (instr.OpImm i))
instr_need image t h (instr.Amo i) = amo_need image t (reg h i.rs1) i.op i.labels (reg h i.rs2)
instr_need image t h (instr.Fence i) = needed.Fence (fence_waits i)
instr_need image t h instr.Ecall = call_need h
instr_need image t h instr.Ebreak = needed.Stop (Trapped trap.Break 0)
instr_need image t h _ = needed.Alu

-- what the hart needs where this stands at its pc
abbrev pub need_at : ImageView → Topology → HartState → Found → Need
need_at image t h NoWord = needed.Stop (Trapped trap.Fetch h.pc)
need_at image t h (NoInstr word) = needed.Stop (Trapped trap.Illegal word)
need_at image t h (This i) = instr_need image t h i

-- the hart with the instruction's destination register written. The answer is the word that a load or an atomic operation found, in which only the bytes that the access means count, and of SC 0 where it wrote and 1 where it did not
abbrev pub with_result : HartState → Instr → ℕ → HartState
with_result h (instr.Lui i) answer = with_register h i.rd i.imm
with_result h (instr.Auipc i) answer = with_register h i.rd ((h.pc + i.imm) % 2 ^ 32)
with_result h (instr.Jal i) answer = with_register h i.rd (following h)
with_result h (instr.Jalr i) answer = with_register h i.rd (following h)
with_result h (instr.Load i) answer =
    with_register h i.rd (loaded i.op (moved_by (reg h i.rs1) i.offset) answer)
with_result h (instr.OpImm i) answer =
    with_register h i.rd (alu_value i.op (reg h i.rs1) (moved_by 0 i.imm))
with_result h (instr.Op i) answer =
    with_register h i.rd (alu_value i.op (reg h i.rs1) (reg h i.rs2))
with_result h (instr.Amo i) answer = with_register h i.rd answer
with_result h _ answer = h

-- the hart after an instruction that doesn't end it
abbrev pub performed : HartState → Instr → ℕ → HartState
performed h i answer = retired_to (with_result h i answer) (next_pc h i)

-- the hart after its end: an exit retires, a trap doesn't; both leave the pc and the registers
abbrev pub ended : HartState → End → HartState
ended h (Exited code) = record h { end = Exited code; retired = h.retired + 1 }
ended h end = record h { end = end }

-- the hart after what it needed was answered
abbrev pub after_need : HartState → Found → Need → ℕ → HartState
after_need h found (needed.Stop end) answer = ended h end
after_need h (This i) need answer = performed h i answer
after_need h found need answer = h

-- a hart that can go on needs this for its next instruction
pub record Needs (image : ImageView) (t : Topology) (h : HartState) (need : Need) : Type 0 where
  pub goes : can_go_on t h ≡ true
  pub found : Found
  pub is_found : IsFound image h.pc found
  pub needs : need ≡ need_at image t h found

-- a hart that can go on needs this for its next instruction, and with this answer becomes k
pub record Does (image : ImageView) (t : Topology) (h : HartState) (need : Need) (answer : ℕ) (k : HartState) : Type 0 where
  pub goes : can_go_on t h ≡ true
  pub found : Found
  pub is_found : IsFound image h.pc found
  pub needs : need ≡ need_at image t h found
  pub after : k ≡ after_need h found need answer

-- what a hart needs: nothing where it rests
abbrev pub NeedsIf : Bool → ImageView → Topology → HartState → Need → Type 0
NeedsIf true image t h need = Needs image t h need
NeedsIf false image t h need = need ≡ needed.Rest

abbrev pub IsNext : ImageView → Topology → HartState → Need → Type 0
IsNext image t h need = NeedsIf (can_go_on t h) image t h need

-- this stands at the hart's pc, and it is what the hart needs; where the hart rests, what stands there doesn't count
pub record IsFront (image : ImageView) (t : Topology) (h : HartState) (front : Front) : Type 0 where
  pub next : IsNext image t h front.need
  pub found : can_go_on t h ≡ true → IsFound image h.pc front.found
  pub need : can_go_on t h ≡ true → front.need ≡ need_at image t h front.found

-- a hart that did its next instruction with this answer
pub record IsFinished (image : ImageView) (t : Topology) (h : HartState) (answer : ℕ) (k : HartState) : Type 0 where
  pub need : Need
  pub does : Does image t h need answer k

-- a mask has one of the four bytes of a word
pub record HasByte (mask : ℕ) : Type 0 where
  pub byte : ℕ
  pub within : byte < 4
  pub has : has_byte mask byte ≡ true

-- whether a need is the end by a trap
abbrev pub is_trap : Need → Bool
is_trap (needed.Stop (Trapped cause value)) = true
is_trap _ = false

-- how many instructions have retired after one with this need: a trap retires nothing
abbrev pub retired_after : Need → ℕ → ℕ
retired_after need retired = if is_trap need then retired else retired + 1
