-- Each message that meets a slot: the machine's row of a slot is the code's.
use Rattle.std.proofs.Common.{◌≡◌, ℕ, ◌&&◌, Bool, true, false, cond, not, nat_lt, Some, is_some, refl, sym, ◌∙◌}
use Rattle.dash_base.specs.declared.line.Line.{Line}
use Rattle.dash_base.specs.declared.id.LineId.{LineId}
use Rattle.remote_cache.specs.declared.slot.Slot.{Slot as Request}
use Rattle.remote_cache.specs.declared.slot.Phase.{Phase as Waits}
use Rattle.remote_cache.specs.declared.slot.Phase.TheVariants as waits
use Rattle.remote_cache.specs.Rows.{refused, on_data, on_data_ex, on_nak, on_inval}
use Rattle.remote_cache.specs.Steps.{number_met}
use Rattle.dash_model.specs.Config.{Config}
use Rattle.dash_model.specs.Cell.{NoSlot, Reads, Owns, Refused, Acks, NoAcks}
use Rattle.dash_model.specs.Requests.{poison}
use Rattle.dash_model.specs.Replies.{arrive, arrive_own, expecting, expecting_for, nak_slot, nak_acks}
use Rattle.unit_rows.specs.Shown.{hart_at, slot_by}
use Rattle.unit_rows.proofs.SlotMet.{slot_changed, SameRequest}

-- a request of these
abbrev pub request : ℕ → LineId → Bool → Waits → Request
request h l own phase = record { hart = h; line = l; own = own; phase = phase }

-- the request stays
pub refused_same : (prefetch : Bool) (s : Request) → SameRequest s (refused prefetch s)
refused_same true s = tt
refused_same false s = (refl, refl)

pub data_same : (prefetch : Bool) (d : Line) (s : Request) (own : Bool) (phase : Waits) → SameRequest s (on_data prefetch d s own phase)
data_same prefetch d s false waits.Asked = (refl, refl)
data_same prefetch d s false waits.Poisoned = refused_same prefetch s
data_same prefetch d s false waits.Refused = tt
data_same prefetch d s false (waits.Came e) = tt
data_same prefetch d s true phase = tt

pub data_ex_same : (d : Line) (s : Request) (own : Bool) (phase : Waits) → SameRequest s (on_data_ex d s own phase)
data_ex_same d s true waits.Asked = (refl, refl)
data_ex_same d s true waits.Poisoned = tt
data_ex_same d s true waits.Refused = tt
data_ex_same d s true (waits.Came e) = tt
data_ex_same d s false phase = tt

pub nak_same : (prefetch : Bool) (s : Request) (phase : Waits) → SameRequest s (on_nak prefetch s phase)
nak_same prefetch s waits.Asked = refused_same prefetch s
nak_same prefetch s waits.Poisoned = refused_same prefetch s
nak_same prefetch s waits.Refused = tt
nak_same prefetch s (waits.Came e) = tt

pub inval_same : (prefetch : Bool) (s : Request) (own : Bool) (phase : Waits) → SameRequest s (on_inval prefetch s own phase)
inval_same prefetch s false waits.Asked = (refl, refl)
inval_same prefetch s false waits.Poisoned = tt
inval_same prefetch s false waits.Refused = tt
inval_same prefetch s false (waits.Came e) = refused_same prefetch s
inval_same prefetch s true phase = tt

-- a slot that is refused
read_if : (w : Config) (c n h : ℕ) (l : LineId) (phase : Waits) (b : Bool) → cond b (Reads n (hart_at w c h) Refused) NoSlot ≡ slot_changed w c n (request h l false phase) (refused (not b) (request h l false phase))
read_if w c n h l phase true = refl
read_if w c n h l phase false = refl

own_if : (w : Config) (c n h : ℕ) (l : LineId) (phase : Waits) (b : Bool) → cond b (Owns n (hart_at w c h) Refused) NoSlot ≡ slot_changed w c n (request h l true phase) (refused (not b) (request h l true phase))
own_if w c n h l phase true = refl
own_if w c n h l phase false = refl

-- Data, DataEx, Nak and Inval, where the slots below k are front and store slots
pub arrive_is : (w : Config) (c k n : ℕ) (d : Line) (h : ℕ) (l : LineId) (own : Bool) (phase : Waits) → arrive k d (slot_by w c n (Some (request h l own phase))) ≡ slot_changed w c n (request h l own phase) (on_data (not (nat_lt n k)) d (request h l own phase) own phase)
arrive_is w c k n d h l false waits.Asked = refl
arrive_is w c k n d h l false waits.Poisoned = read_if w c n h l waits.Poisoned (nat_lt n k)
arrive_is w c k n d h l false waits.Refused = refl
arrive_is w c k n d h l false (waits.Came e) = refl
arrive_is w c k n d h l true waits.Asked = refl
arrive_is w c k n d h l true waits.Poisoned = refl
arrive_is w c k n d h l true waits.Refused = refl
arrive_is w c k n d h l true (waits.Came e) = refl

pub arrive_own_is : (w : Config) (c n : ℕ) (d : Line) (h : ℕ) (l : LineId) (own : Bool) (phase : Waits) → arrive_own d (slot_by w c n (Some (request h l own phase))) ≡ slot_changed w c n (request h l own phase) (on_data_ex d (request h l own phase) own phase)
arrive_own_is w c n d h l false phase = refl
arrive_own_is w c n d h l true waits.Asked = refl
arrive_own_is w c n d h l true waits.Poisoned = refl
arrive_own_is w c n d h l true waits.Refused = refl
arrive_own_is w c n d h l true (waits.Came e) = refl

pub nak_is : (w : Config) (c k n : ℕ) (h : ℕ) (l : LineId) (own : Bool) (phase : Waits) → nak_slot k (slot_by w c n (Some (request h l own phase))) ≡ slot_changed w c n (request h l own phase) (on_nak (not (nat_lt n k)) (request h l own phase) phase)
nak_is w c k n h l false waits.Asked = read_if w c n h l waits.Asked (nat_lt n k)
nak_is w c k n h l false waits.Poisoned = read_if w c n h l waits.Poisoned (nat_lt n k)
nak_is w c k n h l false waits.Refused = refl
nak_is w c k n h l false (waits.Came e) = refl
nak_is w c k n h l true waits.Asked = own_if w c n h l waits.Asked (nat_lt n k)
nak_is w c k n h l true waits.Poisoned = own_if w c n h l waits.Poisoned (nat_lt n k)
nak_is w c k n h l true waits.Refused = refl
nak_is w c k n h l true (waits.Came e) = refl

pub poison_is : (w : Config) (c k n : ℕ) (h : ℕ) (l : LineId) (own : Bool) (phase : Waits) → poison k (slot_by w c n (Some (request h l own phase))) ≡ slot_changed w c n (request h l own phase) (on_inval (not (nat_lt n k)) (request h l own phase) own phase)
poison_is w c k n h l false waits.Asked = refl
poison_is w c k n h l false waits.Poisoned = refl
poison_is w c k n h l false waits.Refused = refl
poison_is w c k n h l false (waits.Came e) = read_if w c n h l (waits.Came e) (nat_lt n k)
poison_is w c k n h l true waits.Asked = refl
poison_is w c k n h l true waits.Poisoned = refl
poison_is w c k n h l true waits.Refused = refl
poison_is w c k n h l true (waits.Came e) = refl

-- what becomes of the entry of acknowledgements with DataEx: it is granted where the slot meets it
pub granted_met : (w : Config) (c n : ℕ) (d : Line) (m h : ℕ) (l : LineId) (own : Bool) (phase : Waits) (a : Acks) → is_some (number_met n (on_data_ex d (request h l own phase) own phase)) ≡ true → expecting_for m (slot_by w c n (Some (request h l own phase))) a ≡ expecting m a
granted_met w c n d m h l true waits.Asked a e = refl
granted_met w c n d m h l true waits.Poisoned a e = absurd (cc)
granted_met w c n d m h l true waits.Refused a e = absurd (cc)
granted_met w c n d m h l true (waits.Came x) a e = absurd (cc)
granted_met w c n d m h l false phase a e = absurd (cc)

pub granted_not : (w : Config) (c n : ℕ) (d : Line) (m h : ℕ) (l : LineId) (own : Bool) (phase : Waits) (a : Acks) → is_some (number_met n (on_data_ex d (request h l own phase) own phase)) ≡ false → expecting_for m (slot_by w c n (Some (request h l own phase))) a ≡ a
granted_not w c n d m h l true waits.Asked a e = absurd (cc)
granted_not w c n d m h l true waits.Poisoned a e = refl
granted_not w c n d m h l true waits.Refused a e = refl
granted_not w c n d m h l true (waits.Came x) a e = refl
granted_not w c n d m h l false phase a e = refl

-- and with Nak: it goes with a prefetch slot that is to own the line, where that one waits
acks_if : (a : Acks) (b : Bool) → not b && true ≡ false → cond b a NoAcks ≡ a
acks_if a true e = refl
acks_if a false e = absurd (cc)

acks_gone : (a : Acks) (b : Bool) → not b && true ≡ true → cond b a NoAcks ≡ NoAcks
acks_gone a true e = absurd (cc)
acks_gone a false e = refl

pub nak_kept : (w : Config) (c k n h : ℕ) (l : LineId) (own : Bool) (phase : Waits) (a : Acks) → not (nat_lt n k) && own ≡ false → nak_acks k (slot_by w c n (Some (request h l own phase))) a ≡ a
nak_kept w c k n h l false phase a e = refl
nak_kept w c k n h l true waits.Asked a e = acks_if a (nat_lt n k) e
nak_kept w c k n h l true waits.Poisoned a e = acks_if a (nat_lt n k) e
nak_kept w c k n h l true waits.Refused a e = refl
nak_kept w c k n h l true (waits.Came x) a e = refl

met_refused : (n : ℕ) (b : Bool) (s : Request) → is_some (number_met n (refused b s)) ≡ true
met_refused n true s = refl
met_refused n false s = refl

pub nak_not : (w : Config) (c k n h : ℕ) (l : LineId) (own : Bool) (phase : Waits) (a : Acks) → is_some (number_met n (on_nak (not (nat_lt n k)) (request h l own phase) phase)) ≡ false → nak_acks k (slot_by w c n (Some (request h l own phase))) a ≡ a
nak_not w c k n h l false phase a e = refl
nak_not w c k n h l true waits.Asked a e = absurd (let t : true ≡ false = sym (met_refused n (not (nat_lt n k)) (request h l true waits.Asked)) ∙ e in cc)
nak_not w c k n h l true waits.Poisoned a e = absurd (let t : true ≡ false = sym (met_refused n (not (nat_lt n k)) (request h l true waits.Poisoned)) ∙ e in cc)
nak_not w c k n h l true waits.Refused a e = refl
nak_not w c k n h l true (waits.Came x) a e = refl

pub nak_gone : (w : Config) (c k n h : ℕ) (l : LineId) (own : Bool) (phase : Waits) (a : Acks) → not (nat_lt n k) && own ≡ true → is_some (number_met n (on_nak (not (nat_lt n k)) (request h l own phase) phase)) ≡ true → nak_acks k (slot_by w c n (Some (request h l own phase))) a ≡ NoAcks
nak_gone w c k n h l false phase a e m = absurd (none (nat_lt n k) e)
  where
    none : (b : Bool) → not b && false ≡ true → ⊥
    none true t = absurd (cc)
    none false t = absurd (cc)
nak_gone w c k n h l true waits.Asked a e m = acks_gone a (nat_lt n k) e
nak_gone w c k n h l true waits.Poisoned a e m = acks_gone a (nat_lt n k) e
nak_gone w c k n h l true waits.Refused a e m = absurd (cc)
nak_gone w c k n h l true (waits.Came x) a e m = absurd (cc)
