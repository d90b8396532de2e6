-- A core in which nothing is under way, by what its parts show.
use Rattle.std.proofs.Common.{◌≡◌, ℕ, ◌<◌, Bool, true, false, Option, None, Some, List, [], length, slice_index_or, is_some, ◌∷◌, if◌then◌else◌, refl, sym, ap, ◌∙◌, subst, arith}
use Rattle.std.proofs.lemmas.Bool.Decides.{nat_tests}
use Rattle.ack_counter.specs.View.{Counted, TableView, entry_at, one_pending, pending_below, is_none_pending}
use Rattle.ack_counter.specs.View.{count as pending_count}
use Rattle.ack_counter.proofs.LawsOffered.{entries_are_counted}
use Rattle.remote_cache.specs.declared.slot.Slot.{Slot as Request}
use Rattle.remote_cache.specs.View.{SlotsView, slot_at, slot_of, is_of, count}
use Rattle.remote_cache.proofs.LawsOffered.{lines_have_one_slot}
use Rattle.dash_model.specs.Config.{Config}
use Rattle.dash_model.specs.Cell.{NoSlot, NoAcks}
use Rattle.dash_model.specs.Part.{Part}
use Rattle.unit_rows.specs.declared.parts.Local.{Local}
use Rattle.unit_rows.specs.Shown.{PartsView, slot_by, slot_in, slot_on, acks_by, counted_by}
use Rattle.cluster_unit.specs.View.{CoreView}
use Rattle.cluster_unit.specs.Core.{IsAt, IsCore}
use Rattle.cluster_unit.specs.Quiet.{IsQuiet}
use Rattle.cluster_unit.proofs.Cores.{shows_at}

-- each slot is empty exactly where no line has one
found_none : (o : Option Request) (l : ℕ) → o ≡ None → is_of l o ≡ true → ⊥
found_none None l e is = absurd (cc)
found_none (Some s) l e is = absurd (cc)

none_by : (w : Config) (c : ℕ) (v : SlotsView) (l : ℕ) (o : Option ℕ) → slot_of v l ≡ o → ((n : ℕ) → n < count v → slot_at v n ≡ None) → slot_in w c v o ≡ NoSlot
none_by w c v l None is none = refl
none_by w c v l (Some n) is none = absurd (found_none (slot_at v n) l (none n (lines_have_one_slot.in_range v l n is)) (lines_have_one_slot.has_line v l n is))

no_slot : (w : Config) (c : ℕ) (v : SlotsView) → ((n : ℕ) → n < count v → slot_at v n ≡ None) → (l : ℕ) → slot_on w c v l ≡ NoSlot
no_slot w c v none l = none_by w c v l (slot_of v l) refl none

is_slot : (w : Config) (c n : ℕ) (s : Request) (b : Bool) → s.own ≡ b → slot_by w c n (Some s) ≡ NoSlot → ⊥
is_slot w c n s true own e = absurd (cc)
is_slot w c n s false own e = absurd (cc)

shows_slot : (w : Config) (c n l : ℕ) (o : Option Request) → is_of l o ≡ true → slot_by w c n o ≡ NoSlot → ⊥
shows_slot w c n l None is e = absurd (cc)
shows_slot w c n l (Some s) is e = is_slot w c n s s.own refl e

of_none : (w : Config) (c : ℕ) (v : SlotsView) (l n : ℕ) (o : Option ℕ) → slot_of v l ≡ o → slot_in w c v o ≡ NoSlot → is_of l (slot_at v n) ≡ false
of_none w c v l n None is e = lines_have_one_slot.none v l n is
of_none w c v l n (Some m) is e = absurd (shows_slot w c m l (slot_at v m) (lines_have_one_slot.has_line v l m is) e)

none_has : (o : Option Request) → ((l : ℕ) → is_of l o ≡ false) → o ≡ None
none_has None none = refl
none_has (Some s) none = let bad = none s.line.0 in absurd (grind (arith, nat_tests))

none_open : (w : Config) (c : ℕ) (v : SlotsView) → ((l : ℕ) → slot_on w c v l ≡ NoSlot) → (n : ℕ) → slot_at v n ≡ None
none_open w c v none n = none_has (slot_at v n) (λ l. of_none w c v l n (slot_of v l) refl (none l))

-- no acknowledgements are counted exactly where no line has an entry
no_acks : (w : Config) (c : ℕ) (t : TableView) (l : ℕ) (o : Option Counted) → entry_at t l ≡ o → is_none_pending t ≡ true → acks_by w c o ≡ NoAcks
no_acks w c t l None is none = refl
no_acks w c t l (Some e) is none =
    let one : one_pending t l ≡ 1 = ap (λ (o : Option Counted). if is_some o then 1 else 0) is in
    let less = entries_are_counted.cancelled t l in
    absurd (grind (arith, nat_tests))

counted_is : (w : Config) (c : ℕ) (e : Counted) (o : Option ℕ) → counted_by w c e o ≡ NoAcks → ⊥
counted_is w c e None is = absurd (cc)
counted_is w c e (Some n) is = absurd (cc)

none_counted : (w : Config) (c : ℕ) (o : Option Counted) → acks_by w c o ≡ NoAcks → is_some o ≡ true → ⊥
none_counted w c None is some = absurd (cc)
none_counted w c (Some e) is some = counted_is w c e e.expected is

none_pending : (w : Config) (c : ℕ) (t : TableView) → ((l : ℕ) → acks_by w c (entry_at t l) ≡ NoAcks) → is_none_pending t ≡ true
unfolding pending_below
none_pending w c t none =
    let zero_is : pending_count t ≡ pending_below t 0 = entries_are_counted.by_line t 0 (λ l some. absurd (none_counted w c (entry_at t l) (none l) some)) in
    grind (arith, nat_tests)

-- no store of these harts waits
abbrev pub AreDrained : List Local → Type 0
AreDrained xs = (k : ℕ) (x : Local) → k < length xs → (slice_index_or xs k x).buffer.items ≡ []

a_local : (xs : List Local) (k : ℕ) → k < length xs → Local
a_local [] k low = absurd (omega arith)
a_local (x ∷ xs) k low = x

-- the parts are quiet exactly where the part is that they show
pub quiet_at : (v : PartsView) (last : ℕ) (a : CoreView) (capacity : ℕ) (p : Part) → IsCore v last a capacity → IsAt a p
    → is_none_pending v.acks ≡ true → ((n : ℕ) → n < count v.slots → slot_at v.slots n ≡ None) → AreDrained v.locals → IsQuiet a.config a.cluster p
quiet_at v last a capacity p k at none empty waits =
    let shows = shows_at v last a capacity p k at in
    record {
      slots = λ l. shows.slots l ∙ no_slot a.config a.cluster v.slots empty l;
      acks = λ l. shows.acks l ∙ no_acks a.config a.cluster v.acks l (entry_at v.acks l) refl none;
      buffers = λ n low.
          let below : n < length v.locals = subst (λ m. n < m) (sym k.sized.locals) low in
          let x = a_local v.locals n below in
          (shows.harts n x low).buffer ∙ waits n x below;
    }

pub quiet_acks : (v : PartsView) (last : ℕ) (a : CoreView) (capacity : ℕ) (p : Part) → IsCore v last a capacity → IsAt a p → IsQuiet a.config a.cluster p → is_none_pending v.acks ≡ true
quiet_acks v last a capacity p k at quiet = none_pending a.config a.cluster v.acks (λ l. sym ((shows_at v last a capacity p k at).acks l) ∙ quiet.acks l)

pub quiet_slots : (v : PartsView) (last : ℕ) (a : CoreView) (capacity : ℕ) (p : Part) → IsCore v last a capacity → IsAt a p → IsQuiet a.config a.cluster p → (n : ℕ) → slot_at v.slots n ≡ None
quiet_slots v last a capacity p k at quiet = none_open a.config a.cluster v.slots (λ l. sym ((shows_at v last a capacity p k at).slots l) ∙ quiet.slots l)

pub quiet_stores : (v : PartsView) (last : ℕ) (a : CoreView) (capacity : ℕ) (p : Part) → IsCore v last a capacity → IsAt a p → IsQuiet a.config a.cluster p → AreDrained v.locals
quiet_stores v last a capacity p k at quiet n x low =
    let own : n < a.config.top.harts = subst (λ m. n < m) k.sized.locals low in
    sym ((shows_at v last a capacity p k at).harts n x own).buffer ∙ quiet.buffers n own
