-- A hart's instruction is enabled where the code's parts let the hart do it.
use Rattle.std.proofs.Common.{◌≡◌, ◌≢◌, ℕ, suc, zero, ◌+◌, ◌<◌, ◌≤◌, ◌⊎◌, inl, inr, Bool, true, false, Option, None, Some, is_some, unwrap_or, ◌∷◌, [], ◌++◌, slice_index_or, refl, sym, ap, ◌∙◌, subst, arith}
use Rattle.dash_base.specs.declared.end.End.{End}
use Rattle.dash_base.specs.declared.id.WordAddr.{WordAddr}
use Rattle.dash_base.specs.declared.instr.Labels.{Labels}
use Rattle.dash_base.specs.declared.line.Line.{Line}
use Rattle.dash_base.specs.declared.ops.AmoOp.{AmoOp}
use Rattle.dash_base.specs.declared.ops.AmoOp.TheVariants.{Sc}
use Rattle.dash_base.specs.declared.need.HintKind.{HintKind}
use Rattle.dash_base.specs.declared.need.Need.{Need}
use Rattle.dash_base.specs.declared.need.Need.TheVariants as needed
use Rattle.dash_event.specs.Offered.{bytes_under}
use Rattle.dash_event.specs.declared.event.Kind.TheVariants as kind
use Rattle.hart_core.specs.Access.{in_memory}
use Rattle.hart_core.specs.HartState.{HartState}
use Rattle.hart_core.specs.Meaning.{Needs, IsNext, Does, after_need}
use Rattle.prefetch_unit.specs.Hints.{kind_opens, IsLeastEmpty, AreFull}
use Rattle.remote_cache.specs.View.{SlotsView, slot_at, slot_of, count, first_prefetch, IsOnePerLine}
use Rattle.remote_cache.specs.declared.slot.Slot.{Slot as Request}
use Rattle.snoop_bus.specs.Holding.{Holding, has_hart, holders_in, copy_in}
use Rattle.snoop_bus.specs.View.{holding_at, copy_of, owner_at, hart_level, after_commit, IsOneMap}
use Rattle.snoop_bus.proofs.LawsOffered.{has_hart-zero}
use Rattle.dash_model.specs.Config.{Config, hart_id, cluster_id, line_id, line_at, lock_at, lock_home}
use Rattle.dash_model.specs.Guard.{Guard}
use Rattle.dash_model.specs.Words.{word_in, written_in}
use Rattle.unit_rows.specs.declared.choice.Choice.TheVariants.{Step}
use Rattle.unit_rows.specs.declared.outcome.Outcome.{Outcome}
use Rattle.unit_rows.specs.declared.outcome.Outcome.TheVariants.{Fails, Writes}
use Rattle.unit_rows.specs.declared.parts.Local.{Local}
use Rattle.unit_rows.specs.declared.source.Source.{Source}
use Rattle.unit_rows.specs.declared.source.Source.TheVariants.{Stored, Held}
use Rattle.unit_rows.specs.Hints.{OpensJust}
use Rattle.unit_rows.specs.LineNeeds.{fails}
use Rattle.unit_rows.specs.Rows.{Can}
use Rattle.unit_rows.specs.Shown.{PartsView, hart_at, AreSized}
use Rattle.unit_rows.specs.StepFits.{FenceFits, LoadFits, FindsIn, StoreFits, EndsAs, AskFits, UnlockFits}
use Rattle.unit_rows.specs.Steps.{HartNeeds, Retired, changed_local}
use Rattle.unit_rows.proofs.AtomicRows.{kept, written_access, atomic_as}
use Rattle.unit_rows.proofs.AtomicTold.{needs_sc, fails_unreserved}
use Rattle.unit_rows.proofs.CanLines.{can_by}
use Rattle.unit_rows.proofs.HintFits.{slot_is_shown}
use Rattle.unit_rows.proofs.LineNeeds.{next_is}
use Rattle.unit_rows.proofs.LoadRows.{Read, does_stored, does_held}
use Rattle.unit_rows.proofs.LockSends.{does_ask, does_unlock}
use Rattle.unit_rows.proofs.PlainSteps.{does_alu, does_put, does_stop, does_fence}
use Rattle.unit_rows.proofs.Retiring.{effect, retired_from, plain_step}
use Rattle.unit_rows.proofs.Same.{same_or_not}
use Rattle.unit_rows.proofs.StoreRows.{store_by, sc_by}

-- what the hart that was read needs
here : (w : Config) (k : ℕ) (v : PartsView) (x : Local) (need : Need) → x ≡ slice_index_or v.locals k x → HartNeeds w v k need → Needs w.image w.top x.core need
here w k v x need is n = subst (λ (y : Local). Needs w.image w.top y.core need) (sym is) (n x)

-- the hart after its instruction, with this answer
abbrev done : (w : Config) (x : Local) (need : Need) → Needs w.image w.top x.core need → ℕ → HartState
done w x need n answer = after_need x.core n.found need answer

does_it : (w : Config) (x : Local) (need : Need) (n : Needs w.image w.top x.core need) (answer : ℕ) (m : Need) → IsNext w.image w.top x.core m → Does w.image w.top x.core m answer (done w x need n answer)
does_it w x need n answer m next =
    subst (λ y. Does w.image w.top x.core y answer (done w x need n answer)) (sym (next_is w.image w.top x.core m need next n)) (record { goes = n.goes; found = n.found; is_found = n.is_found; needs = n.needs; after = refl })

-- some slot is the least of the prefetch slots that is empty, or none is empty
least_by : (s : SlotsView) (n : ℕ) (o : Option Request) → slot_at s n ≡ o → first_prefetch s ≤ n → n < count s → ((m : ℕ) → first_prefetch s ≤ m → m < n → slot_at s m ≢ None) → (((m : ℕ) → first_prefetch s ≤ m → m < n + 1 → slot_at s m ≢ None) → ((i : ℕ) × IsLeastEmpty s i) ⊎ AreFull s) → ((i : ℕ) × IsLeastEmpty s i) ⊎ AreFull s
least_by s n None e from below before further = inl (n, record { from = from; below = below; empty = e; least = before })
least_by s n (Some x) e from below before further = further (λ m low under. elim (same_or_not m n) [
  | inl same ↦ subst (λ i. slot_at s i ≢ None) (sym same) (λ none. let bad : Some x ≡ None = sym e ∙ none in cc)
  | inr o ↦ before m low (omega arith)
])

least_from : (s : SlotsView) (n more : ℕ) → first_prefetch s ≤ n → n + more ≡ count s → ((m : ℕ) → first_prefetch s ≤ m → m < n → slot_at s m ≢ None) → ((i : ℕ) × IsLeastEmpty s i) ⊎ AreFull s
least_from s n zero from all before = inr (record { full = λ m low below. before m low (omega arith) })
least_from s n (suc more) from all before = least_by s n (slot_at s n) refl from (omega arith) before (λ so. least_from s (n + 1) more (omega arith) (omega arith) so)

-- the slot that a hint opens, if there is one
record Opened (w : Config) (v : PartsView) (kinds : HintKind) (address : ℕ) : Type 0 where
  slot : Option ℕ
  just : OpensJust w v kinds address slot

opened_by : (w : Config) (v : PartsView) (kinds : HintKind) (address : ℕ) (inside opens : Bool) (lone : Option ℕ) → in_memory w.top address 1 ≡ inside → kind_opens kinds (is_some (copy_of v.bus (line_at w address))) (is_some (owner_at v.bus (line_at w address))) v.acks ≡ opens → slot_of v.slots (line_at w address) ≡ lone
    → ((i : ℕ) × IsLeastEmpty v.slots i) ⊎ AreFull v.slots → Opened w v kinds address
opened_by w v kinds address false opens lone a b e least = record { slot = None; just = λ n f. let bad : true ≡ false = sym f.inside ∙ a in cc }
opened_by w v kinds address true false lone a b e least = record { slot = None; just = λ n f. let bad : true ≡ false = sym f.opens.kinds ∙ b in cc }
opened_by w v kinds address true true (Some m) a b e least = record { slot = None; just = λ n f. let bad : None ≡ Some m = sym f.opens.lone ∙ e in cc }
opened_by w v kinds address true true None a b e (inr full) = record { slot = None; just = λ n f. full.full n f.opens.slot.from f.opens.slot.below f.opens.slot.empty }
opened_by w v kinds address true true None a b e (inl least) = record { slot = Some least.0; just = record { inside = a; opens = record { kinds = b; lone = e; slot = least.1 } } }

prefetch_slots : (w : Config) (c : ℕ) (v : PartsView) → AreSized w c v → first_prefetch v.slots + w.top.prefetch ≡ count v.slots
prefetch_slots w c v sized = omega (arith, sized.slot_harts, sized.slot_count)

opened : (w : Config) (c : ℕ) (v : PartsView) (kinds : HintKind) (address : ℕ) → AreSized w c v → Opened w v kinds address
opened w c v kinds address sized =
    opened_by w v kinds address _ _ _ refl refl refl (least_from v.slots (first_prefetch v.slots) w.top.prefetch (omega arith) (prefetch_slots w c v sized) (λ m low below. absurd (omega arith)))

-- where a hart holds a line there is a copy
record Copied (o : Option Holding) : Type 0 where
  copy : Line
  is : copy_in o ≡ Some copy

copied : (k : ℕ) (o : Option Holding) → has_hart (holders_in o) k ≡ true → Copied o
copied k None e = absurd (let bad : true ≡ false = sym e ∙ has_hart-zero k in cc)
copied k (Some h) e = record { copy = h.copy; is = refl }

module _ (w : Config) (c k : ℕ) (v : PartsView) (low : k < w.top.harts) (sized : AreSized w c v) where
  retired : (x : Local) (need : Need) → x ≡ slice_index_or v.locals k x → (n : Needs w.image w.top x.core need) → Retired w v (changed_local v k (record x { core = done w x need n 0 })) k 0 x.core.pc
  retired x need is n = retired_from w v k 0 x.core.pc x (done w x need n 0) x.front low sized.locals is (does_it w x need n 0) refl

  pub can_alu : (x : Local) → x ≡ slice_index_or v.locals k x → HartNeeds w v k needed.Alu → Can w c v (Step k)
  can_alu x is n = can_by (does_alu w c k x.core.pc (hart_id (hart_at w c k)) v _ (retired x needed.Alu is (here w k v x needed.Alu is n)) refl low sized n)

  pub can_put : (x : Local) (byte : ℕ) → x ≡ slice_index_or v.locals k x → HartNeeds w v k (needed.Put byte) → Can w c v (Step k)
  can_put x byte is n = can_by (does_put w c k x.core.pc byte (hart_id (hart_at w c k)) v _ (retired x (needed.Put byte) is (here w k v x (needed.Put byte) is n)) refl low sized n)

  pub can_stop : (x : Local) (end : End) → x ≡ slice_index_or v.locals k x → HartNeeds w v k (needed.Stop end) → Can w c v (Step k)
  can_stop x end is n = can_by (does_stop w c k x.core.pc end (hart_id (hart_at w c k)) v _ (retired x (needed.Stop end) is (here w k v x (needed.Stop end) is n)) refl low sized n)

  pub can_fence : (waits : Bool) → FenceFits v k waits → HartNeeds w v k (needed.Fence waits) → Can w c v (Step k)
  can_fence waits f n = can_by (does_fence w c k f.local.core.pc waits (hart_id (hart_at w c k)) v _ f.local (retired f.local (needed.Fence waits) f.is_local (here w k v f.local (needed.Fence waits) f.is_local n)) refl low sized n f.is_local f.passes)

  pub can_hint : (x : Local) (kinds : HintKind) (address : ℕ) → x ≡ slice_index_or v.locals k x → HartNeeds w v k (needed.Hint kinds address) → IsOnePerLine v.slots.slots → Can w c v (Step k)
  unfolding Guard
  can_hint x kinds address is n one p s =
      let need : Need = needed.Hint kinds address in
      let there = here w k v x need is n in
      let r = retired x need is there in
      let o = opened w c v kinds address sized in
      record {
        event = kind.Hint (hart_id (hart_at w c k)) x.core.pc o.slot;
        is_of = refl;
        done = effect need r.core;
        guard = record {
          kinds = kinds;
          address = address;
          next = (plain_step w c k (hart_at w c k) x.core.pc need v _ p r refl low sized n s).at;
          opens = slot_is_shown w c address kinds o.slot v p s sized one o.just;
        };
      }

  load_by : (word : WordAddr) (mask : ℕ) (labels : Labels) (reserve : Bool) (source : Source) (x : Local) → x ≡ slice_index_or v.locals k x → FindsIn w v k x word mask reserve source → HartNeeds w v k (needed.Load word mask labels reserve) → Can w c v (Step k)
  load_by word mask labels reserve (Stored value number) x is f n =
      let plain = subst (λ b. HartNeeds w v k (needed.Load word mask labels b)) f.1 n in
      let need : Need = needed.Load word mask labels false in
      let there = here w k v x need is plain in
      can_by (does_stored w c k (x.core.retired + 1) mask value number (hart_id (hart_at w c k)) word labels v x (done w x need there (bytes_under mask value)) refl low sized plain is refl f.0 (does_it w x need there (bytes_under mask value)))
  load_by word mask labels reserve Held x is f n =
      let need : Need = needed.Load word mask labels reserve in
      let there = here w k v x need is n in
      let l = line_at w word.0 in
      let d = copied k (holding_at v.bus l) f.1 in
      let answer = bytes_under mask (word_in w word.0 d.copy) in
      let read : Read v.bus k l d.copy (hart_level v.bus k l) = record { held = f.1; copy = d.is; level_is = refl } in
      can_by (does_held w c k (x.core.retired + 1) mask (hart_level v.bus k l) (hart_id (hart_at w c k)) word labels reserve d.copy v x (done w x need there answer) refl low sized n is refl f.0 read (does_it w x need there answer))

  pub can_load : (word : WordAddr) (mask : ℕ) (labels : Labels) (reserve : Bool) (source : Source) → LoadFits w v k word mask reserve source → HartNeeds w v k (needed.Load word mask labels reserve) → Can w c v (Step k)
  can_load word mask labels reserve source f n = load_by word mask labels reserve source f.local f.is_local f.finds n

  pub can_store : (word : WordAddr) (mask value : ℕ) → StoreFits w v k → HartNeeds w v k (needed.Store word mask value) → Can w c v (Step k)
  can_store word mask value f n =
      let x = f.local in
      let need : Need = needed.Store word mask value in
      let there = here w k v x need f.is_local n in
      can_by (store_by w c k (x.core.retired + 1) mask value (hart_id (hart_at w c k)) word v x (done w x need there 0) (record x.buffer { items = x.buffer.items ++ record { number = x.core.retired + 1; word = word; mask = mask; value = value } ∷ [] }) refl low sized n f.is_local refl f.room (does_it w x need there 0) refl)

  pub can_atomic : (x : Local) (word : WordAddr) (o : AmoOp) (operand : ℕ) (labels : Labels) (outcome : Outcome) → x ≡ slice_index_or v.locals k x → EndsAs w v k word o labels outcome → HartNeeds w v k (needed.Rmw word o operand labels) → IsOneMap v.bus → Can w c v (Step k)
  can_atomic x word o operand labels Fails is f n map =
      let sc = needs_sc w v k o word operand labels f.0 n in
      let need : Need = needed.Rmw word Sc operand labels in
      let there = here w k v x need is sc in
      can_by (sc_by w c k (x.core.retired + 1) operand (hart_id (hart_at w c k)) word labels v x (done w x need there 1) refl low sized sc is refl (fails_unreserved o x.reserved word (ap (λ (y : Local). fails o y.reserved word) is ∙ f.0 x)) f.1 (does_it w x need there 1))
  can_atomic x word o operand labels (Writes copy) is f n map =
      let need : Need = needed.Rmw word o operand labels in
      let there = here w k v x need is n in
      let l = line_at w word.0 in
      let old = word_in w word.0 copy in
      let a = written_access (hart_at w c k) (x.core.retired + 1) word o operand labels old in
      let answer = unwrap_or a.read 0 in
      let next = written_in w word.0 a.mask (unwrap_or a.written 0) copy in
      can_by (atomic_as w c k (x.core.retired + 1) operand old answer o (hart_id (hart_at w c k)) word labels a v x (done w x need there answer) copy next (line_id l) (kept o x.reserved) (after_commit v.bus l next) f.1 low sized map n f.0 refl refl is refl refl refl refl refl refl refl (does_it w x need there answer))

  pub can_lock : (word : WordAddr) (value : ℕ) → AskFits v k → HartNeeds w v k (needed.Ask word value) → Can w c v (Step k)
  can_lock word value f n = can_by (does_ask w c k (f.local.core.retired + 1) value (hart_id (hart_at w c k)) word (cluster_id (lock_home w (lock_at w word.0))) v f.local f.local refl low sized n f.is_local f.is_local f.unsent refl refl)

  pub can_unlock : (word : WordAddr) → UnlockFits v k → HartNeeds w v k (needed.Unlock word) → Can w c v (Step k)
  can_unlock word f n = can_by (does_unlock w c k (f.local.core.retired + 1) (hart_id (hart_at w c k)) word (cluster_id (lock_home w (lock_at w word.0))) v f.local f.local refl low sized n f.is_local f.is_local f.unsent f.drained refl refl)
