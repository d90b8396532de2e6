-- Whether a choice is enabled, and what was done, by the call for its kind.
use Rattle.std.proofs.Common.{◌≡◌, ℕ, ◌<◌, true, false, Option, None, Some, [], ◌∷◌, is_some, option_to_list, sym, subst}
use Rattle.std.specs.Prelude.{IfSome, IfNone}
use Rattle.dash_event.specs.declared.event.Kind.{Kind}
use Rattle.dash_msg.specs.declared.parcel.Sent.{Sent}
use Rattle.dash_base.specs.declared.line.Line.{Line}
use Rattle.remote_cache.specs.View.{count, IsOnePerLine}
use Rattle.remote_cache.specs.declared.slot.Slot.{Slot as Request}
use Rattle.snoop_bus.specs.View.{IsOneMap}
use Rattle.write_buffer.specs.declared.entry.Entry.{Entry as Stored}
use Rattle.dash_model.specs.Config.{Config}
use Rattle.unit_rows.specs.declared.choice.Choice.{Choice}
use Rattle.unit_rows.specs.declared.choice.Choice.TheVariants.{Commit, Ask, Again, Install, Grant}
use Rattle.unit_rows.specs.AskFits.{RequestFits}
use Rattle.unit_rows.specs.CommitFits.{CommitFits}
use Rattle.unit_rows.specs.LockWords.{Granted}
use Rattle.unit_rows.specs.Rows.{DoesChoice, Can, Cannot}
use Rattle.unit_rows.specs.Shown.{PartsView, AreSized}
use Rattle.unit_rows.specs.SlotFits.{AgainFits, InstallFits}
use Rattle.unit_rows.proofs.LawsOffered.{can_commit, can_install, can_ask, can_again}
use Rattle.cluster_unit.specs.Enabling.{is_take, IsInRange}

-- the choice is this one
pub in_range : (w : Config) (v : PartsView) (choice other : Choice) → choice ≡ other → IsInRange w v choice → IsInRange w v other
in_range w v choice other e r = subst (IsInRange w v) e r

pub did_by : (w : Config) (c : ℕ) (choice other : Choice) (v z : PartsView) (r : Option (Kind × Option Sent)) → choice ≡ other → IfSome r (λ done. DoesChoice w c other done.0 v z (option_to_list done.1)) → IfSome r (λ done. DoesChoice w c choice done.0 v z (option_to_list done.1))
did_by w c choice other v z r e d = subst (λ y. IfSome r (λ done. DoesChoice w c y done.0 v z (option_to_list done.1))) (sym e) d

idle_if : (P Q : Type 0) (r : Option (Kind × Option Sent)) → (P → Q) → IfNone r P → IfNone r Q
idle_if P Q None f i = f i
idle_if P Q (Some done) f i = tt

pub idle_by : (w : Config) (c : ℕ) (choice other : Choice) (v : PartsView) (r : Option (Kind × Option Sent)) → choice ≡ other → IfNone r (Cannot w c v other) → IfNone r (is_take choice ≡ false → Cannot w c v choice)
idle_by w c choice other v r e i = idle_if (Cannot w c v other) (is_take choice ≡ false → Cannot w c v choice) r (λ n own. subst (Cannot w c v) (sym e) n) i

pub can_other : (w : Config) (c : ℕ) (choice other : Choice) (v : PartsView) → choice ≡ other → Can w c v other → Can w c v choice
can_other w c choice other v e n = subst (Can w c v) (sym e) n

pub cannot_other : (w : Config) (c : ℕ) (choice other : Choice) (v : PartsView) → choice ≡ other → Cannot w c v other → Cannot w c v choice
cannot_other w c choice other v e n = subst (Cannot w c v) (sym e) n

pub some_commit : (w : Config) (c k : ℕ) (v : PartsView) (o : Option (Stored × Line)) → is_some o ≡ true → IfSome o (λ found. CommitFits w v k found.0 found.1) → k < w.top.harts → AreSized w c v → IsOneMap v.bus → Can w c v (Commit k)
some_commit w c k v None e f low sized map = absurd (cc)
some_commit w c k v (Some found) e f low sized map = can_commit w c k v found.0 found.1 f low sized map

pub some_install : (w : Config) (c n : ℕ) (v : PartsView) (o : Option (Request × Line)) → is_some o ≡ true → IfSome o (λ found. InstallFits w v n found.0 found.1) → IsOnePerLine v.slots.slots → AreSized w c v → Can w c v (Install n)
some_install w c n v None e f one sized = absurd (cc)
some_install w c n v (Some found) e f one sized = can_install w c n v found.0 found.1 f one sized

pub some_ask : (w : Config) (c n : ℕ) (v : PartsView) (o : Option Request) → is_some o ≡ true → IfSome o (λ r. RequestFits w c v n r) → n < count v.slots → IsOnePerLine v.slots.slots → Can w c v (Ask n)
some_ask w c n v None e f low one = absurd (cc)
some_ask w c n v (Some r) e f low one = can_ask w c n v r f low one

pub some_again : (w : Config) (c n : ℕ) (v : PartsView) (o : Option Request) → is_some o ≡ true → IfSome o (λ r. AgainFits v n r) → n < count v.slots → IsOnePerLine v.slots.slots → Can w c v (Again n)
some_again w c n v None e f low one = absurd (cc)
some_again w c n v (Some r) e f low one = can_again w c n v r f low one

pub none_cannot : {A : Type 0} (o : Option A) (P : Type 0) → is_some o ≡ false → IfNone o P → P
none_cannot None P e i = i
none_cannot (Some x) P e i = absurd (cc)

-- a grant, by the two parts of its contract
pub granted_did : (w : Config) (c i : ℕ) (v z : PartsView) (o : Option (Kind × Sent)) → Granted w c i v z o → IfSome o (λ done. DoesChoice w c (Grant i) done.0 v z (done.1 ∷ []))
granted_did w c i v z None g = tt
granted_did w c i v z (Some done) g = g

pub granted_idle : (w : Config) (c i : ℕ) (v z : PartsView) (o : Option (Kind × Sent)) → Granted w c i v z o → IfNone o (Cannot w c v (Grant i))
granted_idle w c i v z None g = g.0
granted_idle w c i v z (Some done) g = tt

pub granted_same : (w : Config) (c i : ℕ) (v z : PartsView) (o : Option (Kind × Sent)) → Granted w c i v z o → IfNone o (z ≡ v)
granted_same w c i v z None g = g.1
granted_same w c i v z (Some done) g = tt
