-- The event that a record of an access is of, by what it may do: read, store, operate atomically, or serve a lock word.
use Rattle.std.proofs.Common.{◌≡◌, inl, inr, ℕ, suc, Bool, true, false, List, [], ◌∷◌, None, sym, ◌∙◌, ap, subst}
use Rattle.std.specs.Prelude.{IsSome}
use Rattle.dash_base.specs.declared.id.ClusterId.{ClusterId}
use Rattle.dash_base.specs.declared.id.LineId.{LineId}
use Rattle.dash_base.specs.declared.topology.Topology.{Topology}
use Rattle.elf_load.specs.Image.{ImageView}
use Rattle.dash_event.specs.Records.{unseen, records_in}
use Rattle.dash_event.specs.declared.access.Access.{Access}
use Rattle.dash_event.specs.declared.event.Event.{Event}
use Rattle.dash_event.specs.declared.event.Kind.{Kind}
use Rattle.dash_event.specs.declared.event.Kind.TheVariants as kind
use Rattle.dash_event.specs.declared.step_record.StepRecord.TheVariants as step
use Rattle.dash_event.specs.Effects.{is_of_memory}
use Rattle.dash_model.specs.Log.{IsEventAt}
use Rattle.dash_model.specs.Replay.{Harts, Accesses, IsLoad, IsRmw}
use Rattle.dash_model.specs.Admissible.{IsAdmissible}
use Rattle.trace_merge.proofs.Offers.{HasShape, has_shape}
use Rattle.trace_merge.proofs.Facts.{replays}

-- a load reads, writes nothing and is of memory
pub record IsRead (a : Access) : Type 0 where
  pub writes_nothing : a.written ≡ None
  pub reads : IsSome a.read
  pub of_memory : is_of_memory a.op ≡ true

pub is_read : (a : Access) (level : ℕ) → IsLoad a level → HasShape a.op (unseen a) → IsRead a
is_read a level (inl load) shape = let s = subst (λ o. HasShape o (unseen a)) load.0 shape in record { writes_nothing = s.0; reads = s.1; of_memory = ap is_of_memory load.0 }
is_read a level (inr reserve) shape = let s = subst (λ o. HasShape o (unseen a)) reserve.0 shape in record { writes_nothing = s.0; reads = s.1; of_memory = ap is_of_memory reserve.0 }

pub rmw_of_memory : (a : Access) → IsRmw a → is_of_memory a.op ≡ true
rmw_of_memory a (inl amo) = ap is_of_memory amo
rmw_of_memory a (inr cond) = ap is_of_memory cond.0

module _ (image : ImageView) (t : Topology) (log : List Event) (f : IsAdmissible image t log) where
  pub shape_of : (old new : Harts) (a : Access) → Accesses image t old new a → HasShape a.op (unseen a)
  shape_of old new a s = has_shape a.hart.0 _ s.need s.content s.succeeds (unseen a) s.is_offered

  -- the event at a position has this record: a load or an SC that fails, a store, an atomic operation, a grant or a free
  pub data HasRecord (i : ℕ) (r : Access) : Type 0 where
    a_read : r.written ≡ None → is_of_memory r.op ≡ true → HasRecord i r
    a_store : (b : Access) → IsEventAt log i (kind.Store b) → unseen b ≡ r → is_of_memory r.op ≡ true → HasRecord i r
    a_rmw : (b : Access) (l : LineId) (v : ℕ) → IsEventAt log i (kind.Rmw b l v) → unseen b ≡ r → is_of_memory r.op ≡ true → HasRecord i r
    a_grant : (b : Access) → IsEventAt log i (kind.Grant b) → unseen b ≡ r → is_of_memory r.op ≡ false → r.labels.rl ≡ false → HasRecord i r
    a_free : (g : ClusterId) (b : Access) → IsEventAt log i (kind.Free g b) → unseen b ≡ r → is_of_memory r.op ≡ false → HasRecord i r

  of_op : (b r : Access) (x : Bool) → unseen b ≡ r → is_of_memory b.op ≡ x → is_of_memory r.op ≡ x
  of_op b r x same is = ap (λ z. is_of_memory z.op) (sym same) ∙ is

  pub has_record : (i : ℕ) (k : Kind) (r : Access) → IsEventAt log i k → records_in k ≡ step.Access r ∷ [] → HasRecord i r
  has_record i (kind.Load b lev) r at makes =
      let same : unseen b ≡ r = cc in
      let e = replays image t log f i (kind.Load b lev) at in
      let read = is_read b lev e.1 (shape_of (f.harts i) (f.harts (suc i)) b e.0) in
      a_read (ap (λ z. z.written) (sym same) ∙ read.writes_nothing) (of_op b r true same read.of_memory)
  has_record i (kind.Store b) r at makes =
      let same : unseen b ≡ r = cc in
      a_store b at same (of_op b r true same (ap is_of_memory (replays image t log f i (kind.Store b) at).1))
  has_record i (kind.Rmw b l v) r at makes =
      let same : unseen b ≡ r = cc in
      a_rmw b l v at same (of_op b r true same (rmw_of_memory b (replays image t log f i (kind.Rmw b l v) at).1))
  has_record i (kind.ScFail b) r at makes =
      let same : unseen b ≡ r = cc in
      let e = replays image t log f i (kind.ScFail b) at in
      a_read (ap (λ z. z.written) (sym same) ∙ e.2) (of_op b r true same (ap is_of_memory e.1))
  has_record i (kind.Grant b) r at makes =
      let same : unseen b ≡ r = cc in
      let e = replays image t log f i (kind.Grant b) at in
      let no_release : b.labels.rl ≡ false = subst (λ o. HasShape o (unseen b)) e.1 (shape_of (f.harts i) (f.harts (suc i)) b e.0) in
      a_grant b at same (of_op b r false same (ap is_of_memory e.1)) (ap (λ z. z.labels.rl) (sym same) ∙ no_release)
  has_record i (kind.Free g b) r at makes =
      let same : unseen b ≡ r = cc in
      a_free g b at same (of_op b r false same (ap is_of_memory (replays image t log f i (kind.Free g b) at).1))
  has_record i k r at makes = absurd cc
