-- What an event of a hart's instruction tells, by what the hart needs for it.
use Rattle.std.proofs.Common.{◌≡◌, ◌≢◌, ◌⊎◌, ℕ, ◌<◌, Bool, true, false, None, Some, length, refl, sym, subst, inl, inr}
use Rattle.dash_base.specs.declared.id.WordAddr.{WordAddr}
use Rattle.dash_base.specs.declared.instr.Labels.{Labels}
use Rattle.dash_base.specs.declared.ops.AmoOp.{AmoOp}
use Rattle.dash_base.specs.declared.ops.AmoOp.TheVariants.{Sc}
use Rattle.dash_base.specs.declared.need.Need.{Need}
use Rattle.dash_base.specs.declared.need.Need.TheVariants as needed
use Rattle.dash_msg.specs.declared.msg.Msg.{Msg}
use Rattle.dash_event.specs.declared.access.Access.{Access}
use Rattle.dash_event.specs.declared.event.Kind.{Kind}
use Rattle.dash_event.specs.declared.event.Kind.TheVariants as kind
use Rattle.write_buffer.specs.Look.{newest_of, look_by}
use Rattle.write_buffer.specs.declared.entry.Look.{Look}
use Rattle.write_buffer.specs.declared.entry.Look.TheVariants.{None as NoStore, Hit, Wait}
use Rattle.hart_core.specs.Meaning.{Needs}
use Rattle.hart_core.proofs.LawsOffered.{needs_of, one_need}
use Rattle.dash_model.specs.Config.{Config, line_at, front_slot}
use Rattle.dash_model.specs.Cell.{NoAcks}
use Rattle.dash_model.specs.Part.{Part}
use Rattle.dash_model.specs.Words.{held_by, in_m, IsEmptySlot}
use Rattle.dash_model.specs.HartRows.{HartEffect}
use Rattle.dash_model.specs.HartGuards.{Retires, Drained, LoadsBy, HasReserved, LockSends}
use Rattle.dash_model.specs.Guard.{Guard}
use Rattle.unit_rows.specs.Shown.{hart_at}
use Rattle.unit_rows.specs.Choices.{IsStepOf}

-- a load, by what the buffer tells it: it holds its line; or it is no LR
abbrev pub LoadTells : ℕ → ℕ → Look → Bool → Part → Type 0
LoadTells h l NoStore reserve p = held_by h (p.cells l).copy ≡ true
LoadTells h l (Hit value number) reserve p = reserve ≡ false
LoadTells h l Wait reserve p = ⊥

-- an atomic operation that writes: its hart is in state M, and free to commit
pub record RmwTells (w : Config) (h : ℕ) (word : WordAddr) (op : AmoOp) (labels : Labels) (p : Part) : Type 0 where
  pub owner : in_m h (p.cells (line_at w word.0)).copy ≡ true
  pub not_pending : (p.cells (line_at w word.0)).acks ≡ NoAcks
  pub unbuffered : newest_of word.0 (p.harts h).buffer ≡ None
  pub release : labels.rl ≡ true → Drained h p
  pub reserved : HasReserved op word.0 (p.harts h).reserved

-- an SC that fails: its word is not reserved, and the front slot is empty
pub record ScTells (w : Config) (c h : ℕ) (word : WordAddr) (op : AmoOp) (p : Part) : Type 0 where
  pub op_is : op ≡ Sc
  pub unreserved : (p.harts h).reserved ≢ Some word.0
  pub front : IsEmptySlot (front_slot w c h) p

-- an instruction, by its need
abbrev pub Tells : Config → ℕ → ℕ → Need → Part → Type 0
Tells w c h (needed.Fence waits) p = (waits ≡ false) ⊎ Drained h p
Tells w c h (needed.Load word mask labels reserve) p = LoadTells h (line_at w word.0) (look_by (newest_of word.0 (p.harts h).buffer) mask) reserve p
Tells w c h (needed.Store word mask value) p = length (p.harts h).buffer < w.top.buffer
Tells w c h (needed.Rmw word op operand labels) p = RmwTells w h word op labels p ⊎ ScTells w c h word op p
Tells w c h (needed.Ask word value) p = (p.harts h).asked ≡ false
Tells w c h (needed.Unlock word) p = ((p.harts h).asked ≡ false) × Drained h p
Tells w c h need p = Unit {0}

retires_need : (w : Config) (c h answer : ℕ) (need : Need) (d : HartEffect) (p : Part) → Retires w c h need answer d p → Needs w.image w.top (p.harts h).core need
retires_need w c h answer need d p r = subst (λ n. Needs w.image w.top (p.harts h).core n) r.need_is (needs_of w.image w.top (p.harts h).core d.next d.need answer r.does)

-- a hart has one need
told_at : (w : Config) (c h k : ℕ) (e need : Need) (p : Part) → h ≡ k → Needs w.image w.top (p.harts h).core e → Tells w c h e p → Needs w.image w.top (p.harts k).core need → Tells w c k need p
told_at w c h k e need p is a t n = subst (λ i. Needs w.image w.top (p.harts i).core need → Tells w c i need p) is (λ m. subst (λ y. Tells w c h y p) (one_need w.image w.top (p.harts h).core e need a m) t) n

load_tells : (w : Config) (a : Access) (level : ℕ) (look : Look) (reserve : Bool) (d : HartEffect) (p : Part) → LoadsBy w look a level reserve d p → LoadTells a.hart.0 (line_at w a.word.0) look reserve p
load_tells w a level NoStore reserve d p b = b.holder
load_tells w a level (Hit value number) reserve d p b = b.plain
load_tells w a level Wait reserve d p b = b

lock_tells : (w : Config) (c h : ℕ) (m : Msg) (need : Need) (p : Part) → (p.harts h).asked ≡ false → LockSends h m need p → Tells w c h need p
lock_tells w c h m (needed.Ask word value) p unsent sends = unsent
lock_tells w c h m (needed.Unlock word) p unsent sends = (unsent, sends.1)
lock_tells w c h m need p unsent sends = absurd sends

pub step_told : (w : Config) (c k : ℕ) (need : Need) (p : Part) (e : Kind) (d : HartEffect) → IsStepOf (hart_at w c k) e → Guard w c e d p → Needs w.image w.top (p.harts (hart_at w c k)).core need → Tells w c (hart_at w c k) need p
unfolding Guard
step_told w c k need p (kind.Alu g pc) d is guard n = told_at w c g.0 (hart_at w c k) needed.Alu need p is (retires_need w c g.0 0 needed.Alu d p guard.retires) tt n
step_told w c k need p (kind.Fence g pc) d is guard n = told_at w c g.0 (hart_at w c k) (needed.Fence guard.waits) need p is (retires_need w c g.0 0 (needed.Fence guard.waits) d p guard.next.retires) guard.passes n
step_told w c k need p (kind.Hint g pc slot) d is guard n = told_at w c g.0 (hart_at w c k) (needed.Hint guard.kinds guard.address) need p is (retires_need w c g.0 0 (needed.Hint guard.kinds guard.address) d p guard.next.retires) tt n
step_told w c k need p (kind.Put g pc byte) d is guard n = told_at w c g.0 (hart_at w c k) (needed.Put byte) need p is (retires_need w c g.0 0 (needed.Put byte) d p guard.retires) tt n
step_told w c k need p (kind.Stop g pc end) d is guard n = told_at w c g.0 (hart_at w c k) (needed.Stop end) need p is (retires_need w c g.0 0 (needed.Stop end) d p guard.retires) tt n
step_told w c k need p (kind.Load a level) d is guard n =
    let own : Need = needed.Load a.word a.mask guard.labels guard.reserve in
    told_at w c a.hart.0 (hart_at w c k) own need p is (retires_need w c a.hart.0 _ own d p guard.next) (load_tells w a level (look_by (newest_of a.word.0 (p.harts a.hart.0).buffer) a.mask) guard.reserve d p guard.from) n
step_told w c k need p (kind.Store a) d is guard n =
    let own : Need = needed.Store a.word a.mask guard.value in
    told_at w c a.hart.0 (hart_at w c k) own need p is (retires_need w c a.hart.0 _ own d p guard.next) guard.room n
step_told w c k need p (kind.Rmw a line version) d is guard n =
    let own : Need = needed.Rmw a.word guard.op guard.operand guard.labels in
    told_at w c a.hart.0 (hart_at w c k) own need p is (retires_need w c a.hart.0 _ own d p guard.next) (inl (record {
      owner = subst (λ l. in_m a.hart.0 (p.cells l).copy ≡ true) (sym guard.line) guard.owner;
      not_pending = subst (λ l. (p.cells l).acks ≡ NoAcks) (sym guard.line) guard.not_pending;
      unbuffered = guard.unbuffered;
      release = guard.release;
      reserved = guard.reserved;
    })) n
step_told w c k need p (kind.ScFail a) d is guard n =
    let own : Need = needed.Rmw a.word Sc guard.operand guard.labels in
    told_at w c a.hart.0 (hart_at w c k) own need p is (retires_need w c a.hart.0 _ own d p guard.next) (inr (record { op_is = refl; unreserved = guard.unreserved; front = guard.front })) n
step_told w c k need p (kind.LockSend g msg) d is guard n =
    told_at w c g.0 (hart_at w c k) guard.need need p is guard.needs (lock_tells w c g.0 msg guard.need p guard.unsent guard.sends) n
step_told w c k need p e d is guard n = absurd is
