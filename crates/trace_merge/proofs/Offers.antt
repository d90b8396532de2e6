-- The fields of an access that an instruction offers, whatever the word holds.
use Rattle.std.proofs.Common.{◌≡◌, ◌<◌, ℕ, zero, suc, Bool, true, false, Some, None, refl, sym, ◌∙◌, ap, subst, arith}
use Rattle.std.specs.Prelude.{unwrap_or, IsSome}
use Rattle.dash_base.specs.Words.{has_byte}
use Rattle.dash_base.specs.declared.id.WordAddr.{WordAddr}
use Rattle.dash_base.specs.declared.instr.Labels.{Labels}
use Rattle.dash_base.specs.declared.ops.AmoOp.{AmoOp}
use Rattle.dash_base.specs.declared.ops.AmoOp.TheVariants.{Sc}
use Rattle.rv32_alu.specs.Arithmetic.{amo_value}
use Rattle.dash_event.specs.declared.access.Access.{Access}
use Rattle.dash_event.specs.declared.access.Op.{Op}
use Rattle.dash_event.specs.declared.access.Op.TheVariants as op
use Rattle.dash_base.specs.declared.need.Need.{Need}
use Rattle.dash_base.specs.declared.need.Need.TheVariants.{Load, Store, Rmw, Ask, Unlock}
use Rattle.flat_model.specs.Labels.{IsOrdinary}
use Rattle.dash_event.specs.Offered.{all_bytes, bytes_under, bare_access, offered}

-- what a store offers
pub record IsPlainStore (a : Access) : Type 0 where
  pub writes : IsSome a.written
  pub reads_nothing : a.read ≡ None
  pub ordinary : IsOrdinary a

-- what an access has by its operation
abbrev pub HasShape : Op → Access → Type 0
HasShape op.Load a = (a.written ≡ None) × IsSome a.read
HasShape op.Reserve a = (a.written ≡ None) × IsSome a.read
HasShape op.Store a = IsPlainStore a
HasShape op.Cond a = (a.read ≡ None) × (a.mask ≡ all_bytes)
HasShape op.Amo a = IsSome a.read × IsSome a.written × (a.mask ≡ all_bytes)
HasShape op.Ask a = a.labels.rl ≡ false
HasShape op.Unlock a = Unit {0}

-- what an instruction other than SC makes an atomic operation of
abbrev pub IsAmo : AmoOp → Type 0
IsAmo Sc = ⊥
IsAmo amo = Unit {0}

-- the need that offers an access, by its operation
pub data IsOffer : Need → Op → Type 0 where
  a_load : (w : WordAddr) (m : ℕ) (l : Labels) → IsOffer (Load w m l false) op.Load
  a_reserve : (w : WordAddr) (m : ℕ) (l : Labels) → IsOffer (Load w m l true) op.Reserve
  a_store : (w : WordAddr) (m x : ℕ) → IsOffer (Store w m x) op.Store
  a_cond : (w : WordAddr) (x : ℕ) (l : Labels) → IsOffer (Rmw w Sc x l) op.Cond
  an_amo : (w : WordAddr) (amo : AmoOp) (x : ℕ) (l : Labels) → IsAmo amo → IsOffer (Rmw w amo x l) op.Amo
  an_ask : (w : WordAddr) (x : ℕ) → IsOffer (Ask w x) op.Ask
  an_unlock : (w : WordAddr) → IsOffer (Unlock w) op.Unlock

pub is_offer : (h n : ℕ) (need : Need) (old : ℕ) (ok : Bool) (a : Access) → offered h n need old ok ≡ Some a → IsOffer need a.op
is_offer h n (Load w m l true) old ok a is = subst (IsOffer (Load w m l true)) (ap (λ o. (unwrap_or o a).op) is) (a_reserve w m l)
is_offer h n (Load w m l false) old ok a is = subst (IsOffer (Load w m l false)) (ap (λ o. (unwrap_or o a).op) is) (a_load w m l)
is_offer h n (Store w m x) old ok a is = subst (IsOffer (Store w m x)) (ap (λ o. (unwrap_or o a).op) is) (a_store w m x)
is_offer h n (Rmw w Sc x l) old ok a is = subst (IsOffer (Rmw w Sc x l)) (ap (λ o. (unwrap_or o a).op) is) (a_cond w x l)
is_offer h n (Rmw w amo x l) old ok a is = subst (IsOffer (Rmw w amo x l)) (ap (λ o. (unwrap_or o a).op) is) (an_amo w amo x l tt)
is_offer h n (Ask w x) old ok a is = subst (IsOffer (Ask w x)) (ap (λ o. (unwrap_or o a).op) is) (an_ask w x)
is_offer h n (Unlock w) old ok a is = subst (IsOffer (Unlock w)) (ap (λ o. (unwrap_or o a).op) is) (an_unlock w)
is_offer h n _ old ok a is = absurd cc

-- the access of an atomic operation on a word that holds this
abbrev pub amo_access : ℕ → ℕ → WordAddr → AmoOp → ℕ → Labels → ℕ → Access
amo_access h n w amo x l old =
    record (record (bare_access h n op.Amo w) { labels = l }) { op = op.Amo; read = Some (bytes_under all_bytes old); written = Some (amo_value amo (bytes_under all_bytes old) x) }

pub amo_offered : (h n : ℕ) (w : WordAddr) (amo : AmoOp) (x : ℕ) (l : Labels) (old : ℕ) (ok : Bool) → IsAmo amo → offered h n (Rmw w amo x l) old ok ≡ Some (amo_access h n w amo x l old)
amo_offered h n w Sc x l old ok other = elim other [ ]
amo_offered h n w amo x l old ok other = refl

shape_by : (h n : ℕ) (need : Need) (old : ℕ) (ok : Bool) (o : Op) (a : Access) → IsOffer need o → offered h n need old ok ≡ Some a → HasShape o a
shape_by h n need old ok o a (a_load w m l) is = subst (λ o. HasShape op.Load (unwrap_or o a)) is (refl, refl)
shape_by h n need old ok o a (a_reserve w m l) is = subst (λ o. HasShape op.Reserve (unwrap_or o a)) is (refl, refl)
shape_by h n need old ok o a (a_store w m x) is =
    subst (λ o. HasShape op.Store (unwrap_or o a)) is (record { writes = refl; reads_nothing = refl; ordinary = record { no_acquire_bit = refl; no_release_bit = refl } })
shape_by h n need old ok o a (a_cond w x l) is = subst (λ o. HasShape op.Cond (unwrap_or o a)) is (refl, refl)
shape_by h n need old ok o a (an_amo w amo x l other) is = subst (λ o. HasShape op.Amo (unwrap_or o a)) (sym (amo_offered h n w amo x l old ok other) ∙ is) (refl, refl, refl)
shape_by h n need old ok o a (an_ask w x) is = subst (λ o. HasShape op.Ask (unwrap_or o a)) is refl
shape_by h n need old ok o a (an_unlock w) is = tt

pub has_shape : (h n : ℕ) (need : Need) (old : ℕ) (ok : Bool) (a : Access) → offered h n need old ok ≡ Some a → HasShape a.op a
has_shape h n need old ok a is = shape_by h n need old ok a.op a (is_offer h n need old ok a is) is

-- the need of a store
pub store_need : (h n : ℕ) (need : Need) (old : ℕ) (ok : Bool) (a : Access) → offered h n need old ok ≡ Some a → a.op ≡ op.Store
    → (value : ℕ) × (need ≡ Store a.word a.mask value)
store_need h n need old ok a is store = by_offer need (subst (IsOffer need) store (is_offer h n need old ok a is)) is
  where
    by_offer : (need : Need) → IsOffer need op.Store → offered h n need old ok ≡ Some a → (value : ℕ) × (need ≡ Store a.word a.mask value)
    by_offer need (a_store w m x) is = (x, ap (λ o. Store (unwrap_or o a).word (unwrap_or o a).mask x) is)

-- the mask of all bytes has each
pub has_each : (m k : ℕ) → m ≡ all_bytes → k < 4 → has_byte m k ≡ true
has_each m zero all small = ap (λ x. has_byte x 0) all
has_each m (suc zero) all small = ap (λ x. has_byte x 1) all
has_each m (suc (suc zero)) all small = ap (λ x. has_byte x 2) all
has_each m (suc (suc (suc zero))) all small = ap (λ x. has_byte x 3) all
has_each m (suc (suc (suc (suc k)))) all small = absurd (omega arith)
