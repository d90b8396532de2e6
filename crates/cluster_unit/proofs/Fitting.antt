-- A hart's next instruction: whether it is enabled, by what the calls for its need tell; and what a row answers.
use Rattle.std.proofs.Common.{◌≡◌, ◌≢◌, ℕ, ◌<◌, Bool, true, false, Option, None, Some, [], ◌∷◌, is_some, option_to_list, slice_index_or, ◌↔◌, sym, ◌∙◌, subst}
use Rattle.std.specs.Prelude.{IfSome, IfNone}
use Rattle.dash_base.specs.declared.end.End.{End}
use Rattle.dash_base.specs.declared.id.WordAddr.{WordAddr}
use Rattle.dash_base.specs.declared.instr.Labels.{Labels}
use Rattle.dash_base.specs.declared.ops.AmoOp.{AmoOp}
use Rattle.dash_base.specs.declared.need.HintKind.{HintKind}
use Rattle.dash_base.specs.declared.need.Need.{Need}
use Rattle.dash_base.specs.declared.need.Need.TheVariants as needed
use Rattle.dash_event.specs.declared.event.Kind.{Kind}
use Rattle.dash_msg.specs.declared.parcel.Sent.{Sent}
use Rattle.hart_core.specs.HartState.{can_go_on}
use Rattle.hart_core.proofs.LawsOffered.{front_rests}
use Rattle.remote_cache.specs.View.{IsOnePerLine}
use Rattle.snoop_bus.specs.View.{IsOneMap}
use Rattle.dash_model.specs.Config.{Config}
use Rattle.unit_rows.specs.declared.choice.Choice.{Choice}
use Rattle.unit_rows.specs.declared.choice.Choice.TheVariants.{Step}
use Rattle.unit_rows.specs.declared.outcome.Outcome.{Outcome}
use Rattle.unit_rows.specs.declared.parts.Local.{Local}
use Rattle.unit_rows.specs.declared.source.Source.{Source}
use Rattle.unit_rows.specs.Rows.{DoesChoice, Can, Cannot}
use Rattle.unit_rows.specs.Shown.{PartsView, AreSized}
use Rattle.unit_rows.specs.StepFits.{FenceFits, LoadFits, StoreFits, EndsAs, AskFits, UnlockFits}
use Rattle.unit_rows.specs.Steps.{HartNeeds}
use Rattle.unit_rows.proofs.LawsOffered.{can_alu, can_put, can_stop, can_fence, can_hint, can_load, can_store, can_atomic, can_lock, can_unlock, front_of, needs_now, rest_cannot}
use Rattle.cluster_unit.specs.Acting.{unsent, sending}

-- which source a load has, and what an atomic operation does
record Which {A : Type 0} (o : Option A) (P : A → Type 0) : Type 0 where
  one : A
  so : P one

which : {A : Type 0} (o : Option A) (P : A → Type 0) → is_some o ≡ true → IfSome o P → Which o P
which None P e s = absurd (cc)
which (Some x) P e s = record { one = x; so = s }

not_one : {A : Type 0} (o : Option A) (P : Type 0) → is_some o ≡ false → IfNone o P → P
not_one None P e s = s
not_one (Some x) P e s = absurd (cc)

module _ (w : Config) (c k : ℕ) (v : PartsView) (x : Local) (low : k < w.top.harts) (sized : AreSized w c v) (is : x ≡ slice_index_or v.locals k x) where
  rest : (x.front.need ≡ needed.Rest) ↔ (can_go_on w.top x.core ≡ false)
  rest = front_rests w.image w.top x.core x.front (front_of w c k v x low sized is)

  pub rest_no : x.front.need ≡ needed.Rest → Cannot w c v (Step k)
  rest_no e = rest_cannot w c k x.front.need v x low is rest e

  pub needing : (other : Need) → x.front.need ≡ other → other ≢ needed.Rest → HartNeeds w v k other
  needing other e apart = subst (HartNeeds w v k) e (needs_now w k x.front.need v x (subst (λ n. k < n) (sym sized.locals) low) is rest (λ r. apart (sym e ∙ r)) (front_of w c k v x low sized is).next)

  pub alu_needed : x.front.need ≡ needed.Alu → HartNeeds w v k needed.Alu
  alu_needed e = needing needed.Alu e (λ r. absurd (cc))

  pub fence_needed : {waits : Bool} → x.front.need ≡ needed.Fence waits → HartNeeds w v k (needed.Fence waits)
  fence_needed e = needing _ e (λ r. absurd (cc))

  pub hint_needed : {kinds : HintKind} {address : ℕ} → x.front.need ≡ needed.Hint kinds address → HartNeeds w v k (needed.Hint kinds address)
  hint_needed e = needing _ e (λ r. absurd (cc))

  pub put_needed : {byte : ℕ} → x.front.need ≡ needed.Put byte → HartNeeds w v k (needed.Put byte)
  put_needed e = needing _ e (λ r. absurd (cc))

  pub stop_needed : {end : End} → x.front.need ≡ needed.Stop end → HartNeeds w v k (needed.Stop end)
  stop_needed e = needing _ e (λ r. absurd (cc))

  pub load_needed : {word : WordAddr} {mask : ℕ} {labels : Labels} {reserve : Bool} → x.front.need ≡ needed.Load word mask labels reserve → HartNeeds w v k (needed.Load word mask labels reserve)
  load_needed e = needing _ e (λ r. absurd (cc))

  pub store_needed : {word : WordAddr} {mask value : ℕ} → x.front.need ≡ needed.Store word mask value → HartNeeds w v k (needed.Store word mask value)
  store_needed e = needing _ e (λ r. absurd (cc))

  pub atomic_needed : {word : WordAddr} {o : AmoOp} {operand : ℕ} {labels : Labels} → x.front.need ≡ needed.Rmw word o operand labels → HartNeeds w v k (needed.Rmw word o operand labels)
  atomic_needed e = needing _ e (λ r. absurd (cc))

  pub lock_needed : {word : WordAddr} {value : ℕ} → x.front.need ≡ needed.Ask word value → HartNeeds w v k (needed.Ask word value)
  lock_needed e = needing _ e (λ r. absurd (cc))

  pub unlock_needed : {word : WordAddr} → x.front.need ≡ needed.Unlock word → HartNeeds w v k (needed.Unlock word)
  unlock_needed e = needing _ e (λ r. absurd (cc))

  pub alu_yes : x.front.need ≡ needed.Alu → Can w c v (Step k)
  alu_yes e = can_alu w c k v low sized x is (alu_needed e)

  pub fence_yes : {waits : Bool} → x.front.need ≡ needed.Fence waits → FenceFits v k waits → Can w c v (Step k)
  fence_yes e f = can_fence w c k v low sized _ f (fence_needed e)

  pub hint_yes : {kinds : HintKind} {address : ℕ} → x.front.need ≡ needed.Hint kinds address → IsOnePerLine v.slots.slots → Can w c v (Step k)
  hint_yes e one = can_hint w c k v low sized x _ _ is (hint_needed e) one

  pub put_yes : {byte : ℕ} → x.front.need ≡ needed.Put byte → Can w c v (Step k)
  put_yes e = can_put w c k v low sized x _ is (put_needed e)

  pub stop_yes : {end : End} → x.front.need ≡ needed.Stop end → Can w c v (Step k)
  stop_yes e = can_stop w c k v low sized x _ is (stop_needed e)

  pub load_yes : {word : WordAddr} {mask : ℕ} {labels : Labels} {reserve : Bool} (o : Option Source) → x.front.need ≡ needed.Load word mask labels reserve → is_some o ≡ true → IfSome o (λ source. LoadFits w v k word mask reserve source) → Can w c v (Step k)
  load_yes {word} {mask} {labels} {reserve} o e some fits = let f = which o (λ source. LoadFits w v k word mask reserve source) some fits in can_load w c k v low sized word mask labels reserve f.one f.so (load_needed e)

  pub load_no : {word : WordAddr} {mask : ℕ} {labels : Labels} {reserve : Bool} (o : Option Source) → x.front.need ≡ needed.Load word mask labels reserve → is_some o ≡ false → IfNone o ((labels : Labels) → HartNeeds w v k (needed.Load word mask labels reserve) → Cannot w c v (Step k)) → Cannot w c v (Step k)
  load_no {word} {mask} {labels} {reserve} o e none idle = not_one o ((labels : Labels) → HartNeeds w v k (needed.Load word mask labels reserve) → Cannot w c v (Step k)) none idle labels (load_needed e)

  pub store_yes : {word : WordAddr} {mask value : ℕ} → x.front.need ≡ needed.Store word mask value → StoreFits w v k → Can w c v (Step k)
  store_yes e f = can_store w c k v low sized _ _ _ f (store_needed e)

  pub store_no : {word : WordAddr} {mask value : ℕ} → x.front.need ≡ needed.Store word mask value → ((word : WordAddr) (mask value : ℕ) → HartNeeds w v k (needed.Store word mask value) → Cannot w c v (Step k)) → Cannot w c v (Step k)
  store_no e idle = idle _ _ _ (store_needed e)

  pub atomic_yes : {word : WordAddr} {o : AmoOp} {operand : ℕ} {labels : Labels} (outcome : Option Outcome) → x.front.need ≡ needed.Rmw word o operand labels → is_some outcome ≡ true → IfSome outcome (λ y. EndsAs w v k word o labels y) → IsOneMap v.bus → Can w c v (Step k)
  atomic_yes {word} {o} {operand} {labels} outcome e some fits map = let f = which outcome (λ y. EndsAs w v k word o labels y) some fits in can_atomic w c k v low sized x word o operand labels f.one is f.so (atomic_needed e) map

  pub atomic_no : {word : WordAddr} {o : AmoOp} {operand : ℕ} {labels : Labels} (outcome : Option Outcome) → x.front.need ≡ needed.Rmw word o operand labels → is_some outcome ≡ false → IfNone outcome ((operand : ℕ) → HartNeeds w v k (needed.Rmw word o operand labels) → Cannot w c v (Step k)) → Cannot w c v (Step k)
  atomic_no {word} {o} {operand} {labels} outcome e none idle = not_one outcome ((operand : ℕ) → HartNeeds w v k (needed.Rmw word o operand labels) → Cannot w c v (Step k)) none idle operand (atomic_needed e)

  pub lock_yes : {word : WordAddr} {value : ℕ} → x.front.need ≡ needed.Ask word value → AskFits v k → Can w c v (Step k)
  lock_yes e f = can_lock w c k v low sized _ _ f (lock_needed e)

  pub lock_no : {word : WordAddr} {value : ℕ} → x.front.need ≡ needed.Ask word value → ((word : WordAddr) (value : ℕ) → HartNeeds w v k (needed.Ask word value) → Cannot w c v (Step k)) → Cannot w c v (Step k)
  lock_no e idle = idle _ _ (lock_needed e)

  pub unlock_yes : {word : WordAddr} → x.front.need ≡ needed.Unlock word → UnlockFits v k → Can w c v (Step k)
  unlock_yes e f = can_unlock w c k v low sized _ f (unlock_needed e)

  pub unlock_no : {word : WordAddr} → x.front.need ≡ needed.Unlock word → ((word : WordAddr) → HartNeeds w v k (needed.Unlock word) → Cannot w c v (Step k)) → Cannot w c v (Step k)
  unlock_no e idle = idle _ (unlock_needed e)

-- what a row that sends nothing answers, and one that sends
unsent_by : (w : Config) (c : ℕ) (choice : Choice) (v z : PartsView) (o : Option Kind) → IfSome o (λ e. DoesChoice w c choice e v z []) → IfSome (unsent o) (λ done. DoesChoice w c choice done.0 v z (option_to_list done.1))
unsent_by w c choice v z None d = tt
unsent_by w c choice v z (Some e) d = d

pub unsent_did : (w : Config) (c : ℕ) (choice : Choice) (v z : PartsView) (o : Option Kind) (r : Option (Kind × Option Sent)) → r ≡ unsent o → IfSome o (λ e. DoesChoice w c choice e v z []) → IfSome r (λ done. DoesChoice w c choice done.0 v z (option_to_list done.1))
unsent_did w c choice v z o r e d = subst (λ y. IfSome y (λ done. DoesChoice w c choice done.0 v z (option_to_list done.1))) (sym e) (unsent_by w c choice v z o d)

unsent_none : (P : Type 0) (o : Option Kind) → IfNone o P → IfNone (unsent o) P
unsent_none P None i = i
unsent_none P (Some e) i = tt

pub unsent_idle : (P : Type 0) (o : Option Kind) (r : Option (Kind × Option Sent)) → r ≡ unsent o → IfNone o P → IfNone r P
unsent_idle P o r e i = subst (λ y. IfNone y P) (sym e) (unsent_none P o i)

sending_by : (w : Config) (c : ℕ) (choice : Choice) (v z : PartsView) (o : Option (Kind × Sent)) → IfSome o (λ done. DoesChoice w c choice done.0 v z (done.1 ∷ [])) → IfSome (sending o) (λ done. DoesChoice w c choice done.0 v z (option_to_list done.1))
sending_by w c choice v z None d = tt
sending_by w c choice v z (Some done) d = d

pub sending_did : (w : Config) (c : ℕ) (choice : Choice) (v z : PartsView) (o : Option (Kind × Sent)) (r : Option (Kind × Option Sent)) → r ≡ sending o → IfSome o (λ done. DoesChoice w c choice done.0 v z (done.1 ∷ [])) → IfSome r (λ done. DoesChoice w c choice done.0 v z (option_to_list done.1))
sending_did w c choice v z o r e d = subst (λ y. IfSome y (λ done. DoesChoice w c choice done.0 v z (option_to_list done.1))) (sym e) (sending_by w c choice v z o d)

sending_none : (P : Type 0) (o : Option (Kind × Sent)) → IfNone o P → IfNone (sending o) P
sending_none P None i = i
sending_none P (Some done) i = tt

pub sending_idle : (P : Type 0) (o : Option (Kind × Sent)) (r : Option (Kind × Option Sent)) → r ≡ sending o → IfNone o P → IfNone r P
sending_idle P o r e i = subst (λ y. IfNone y P) (sym e) (sending_none P o i)
