-- A choice of a line, a slot or a lock word is enabled where the code's parts let it be done.
use Rattle.std.proofs.Common.{◌≡◌, ℕ, ◌<◌, ◌==◌, ◌&&◌, Bool, true, false, not, Some, List, [], ◌∷◌, slice_get, slice_set, refl}
use Rattle.std.specs.Prelude.{unwrap_or}
use Rattle.dash_base.specs.declared.id.LineId.{LineId}
use Rattle.dash_base.specs.declared.id.WordAddr.{WordAddr}
use Rattle.dash_base.specs.declared.line.Line.{Line}
use Rattle.dash_base.specs.declared.need.Need.TheVariants as needed
use Rattle.dash_base.specs.Places as places
use Rattle.dash_msg.specs.declared.parcel.Sent.{Sent}
use Rattle.dash_event.specs.Offered.{bare_access, offered}
use Rattle.dash_event.specs.declared.access.Access.{Access}
use Rattle.dash_event.specs.declared.access.Op.TheVariants as op
use Rattle.dash_event.specs.declared.access.Seen.TheVariants as seen
use Rattle.dash_event.specs.declared.event.Kind.{Kind}
use Rattle.dash_event.specs.declared.event.Kind.TheVariants as kind
use Rattle.ack_counter.specs.Steps.{owing}
use Rattle.queue_lock.specs.View.{is_own, is_ready, is_empty, lock_at}
use Rattle.queue_lock.specs.Steps.{after_grant}
use Rattle.queue_lock.specs.declared.waiter.Waiter.{Waiter as Asker}
use Rattle.remote_cache.specs.Steps.{issued, asked_again}
use Rattle.remote_cache.specs.View.{slot_at, with_slot, count, IsOnePerLine}
use Rattle.remote_cache.specs.declared.slot.Slot.{Slot as Request}
use Rattle.snoop_bus.specs.View.{after_commit, after_bus_read, IsOneMap}
use Rattle.write_buffer.specs.declared.entry.Entry.{Entry as Stored}
use Rattle.dash_model.specs.Config.{Config, hart_id, line_id, line_at, home_of}
use Rattle.dash_model.specs.Guard.{Guard}
use Rattle.dash_model.specs.Net.{to}
use Rattle.dash_model.specs.Words.{written_in}
use Rattle.unit_rows.specs.declared.choice.Choice.{Choice}
use Rattle.unit_rows.specs.declared.choice.Choice.TheVariants.{Commit, BusRead, BusOwn, Evict, Ask, Again, Install, Grant}
use Rattle.unit_rows.specs.AskFits.{RequestFits, asked_acks}
use Rattle.unit_rows.specs.BusFits.{BusReadFits, BusOwnFits}
use Rattle.unit_rows.specs.CommitFits.{CommitFits}
use Rattle.unit_rows.specs.EvictFits.{EvictFits}
use Rattle.unit_rows.specs.LockWords.{address}
use Rattle.unit_rows.specs.Rows.{DoesChoice, Can}
use Rattle.unit_rows.specs.Shown.{PartsView, hart_at, AreSized}
use Rattle.unit_rows.specs.SlotFits.{AgainFits, InstallFits, request_for}
use Rattle.unit_rows.proofs.AgainRow.{asks_again}
use Rattle.unit_rows.proofs.AskRow.{asks_for}
use Rattle.unit_rows.proofs.BusRows.{own_fits, reads_from_bus}
use Rattle.unit_rows.proofs.CommitRow.{committed, commits}
use Rattle.unit_rows.proofs.EvictRow.{fits as evict_fits}
use Rattle.unit_rows.proofs.InstallRow.{fits as install_fits}
use Rattle.unit_rows.proofs.LockServes.{ask_access, granted_with}
use Rattle.unit_rows.proofs.NoInstruction.{no_instruction}

-- what can be done is enabled
pub can_by : {w : Config} {c : ℕ} {choice : Choice} {e : Kind} {v z : PartsView} {sent : List Sent} → DoesChoice w c choice e v z sent → Can w c v choice
can_by d p shows = record { event = _; is_of = d.is_of; done = d.does.done; guard = (d.does.happens p shows).guard }

pub can_commit : (w : Config) (c k : ℕ) (v : PartsView) (e : Stored) (d : Line) → CommitFits w v k e d → k < w.top.harts → AreSized w c v → IsOneMap v.bus → Can w c v (Commit k)
can_commit w c k v e d f low sized map =
    let next = written_in w e.word.0 e.mask e.value d in
    let l = line_at w e.word.0 in
    can_by (commits w c k v e d next (hart_id (hart_at w c k)) (line_id l) f.local (slice_set v.locals k (committed f.local)) (after_commit v.bus l next) (owing v.acks l k) f low sized map refl refl refl f.is_local refl refl refl)

pub can_read : (w : Config) (c k : ℕ) (v : PartsView) (l : LineId) → BusReadFits w c v k l.0 → k < w.top.harts → AreSized w c v → IsOneMap v.bus → Can w c v (BusRead k l)
can_read w c k v l f low sized map = can_by (reads_from_bus w c k v (hart_id (hart_at w c k)) l (after_bus_read v.bus k l.0) low sized map f refl refl)

pub can_own : (w : Config) (c k : ℕ) (v : PartsView) (l : LineId) → BusOwnFits w c v k l.0 → k < w.top.harts → AreSized w c v → Can w c v (BusOwn k l)
unfolding Guard
can_own w c k v l f low sized p shows = record { event = kind.BusOwn (hart_id (hart_at w c k)) l; is_of = (refl, refl); done = no_instruction w; guard = own_fits w c k l.0 v p low sized f shows }

pub can_evict : (w : Config) (c k : ℕ) (v : PartsView) (l : LineId) → EvictFits w c v k l.0 → k < w.top.harts → Can w c v (Evict k l)
unfolding Guard
can_evict w c k v l f low p shows = record { event = kind.Evict (hart_id (hart_at w c k)) l; is_of = (refl, refl); done = no_instruction w; guard = evict_fits w c k l.0 v p low f shows }

pub can_install : (w : Config) (c n : ℕ) (v : PartsView) (s : Request) (d : Line) → InstallFits w v n s d → IsOnePerLine v.slots.slots → AreSized w c v → Can w c v (Install n)
unfolding Guard
can_install w c n v s d f one sized p shows = record { event = kind.Install n (hart_id (hart_at w c s.hart)) s.line; is_of = refl; done = no_instruction w; guard = install_fits w c n v s d p one sized f shows }

pub can_ask : (w : Config) (c n : ℕ) (v : PartsView) (r : Request) → RequestFits w c v n r → n < count v.slots → IsOnePerLine v.slots.slots → Can w c v (Ask n)
can_ask w c n v r f low one =
    can_by (asks_for w c n (hart_id (hart_at w c r.hart)) r v (with_slot v.slots n (Some (issued r.hart r.line r.own))) (asked_acks v.acks r.line.0 r.own) (to (home_of w r.line.0) (request_for r.line r.own)) low one f refl refl refl refl)

pub can_again : (w : Config) (c n : ℕ) (v : PartsView) (s : Request) → AgainFits v n s → n < count v.slots → IsOnePerLine v.slots.slots → Can w c v (Again n)
can_again w c n v s f low one = can_by (asks_again w c n v s (with_slot v.slots n (asked_again (slot_at v.slots n))) (to (home_of w s.line.0) (request_for s.line s.own)) low one f refl refl)

-- of a lock word that is ready someone is the first who waits
record First (q : List Asker) : Type 0 where
  asker : Asker
  is : slice_get q 0 ≡ Some asker

right_true : (a b : Bool) → a && b ≡ true → b ≡ true
right_true true b e = e
right_true false b e = absurd (cc)

first_waiter : (q : List Asker) → not (is_empty q) ≡ true → First q
first_waiter [] e = absurd (cc)
first_waiter (x ∷ q) e = record { asker = x; is = refl }

pub can_grant : (w : Config) (c i : ℕ) (v : PartsView) → AreSized w c v → is_own v.locks i ≡ true → is_ready (lock_at v.locks i) ≡ true → Can w c v (Grant i)
can_grant w c i v sized own ready =
    let first = first_waiter (lock_at v.locks i).queue (right_true ((lock_at v.locks i).value == 0) _ ready) in
    let x = first.asker in
    let word : WordAddr = record { 0 = address w i } in
    let n = (lock_at v.locks i).count in
    let bare : Access = unwrap_or (offered x.hart.0 x.number (needed.Ask word x.value) 0 true) (bare_access x.hart.0 x.number op.Amo word) in
    can_by (granted_with w c v i x word n (record bare { seen = seen.Lock n }) (after_grant v.locks i x) (places.cluster_of w.top x.hart) sized own ready first.is refl refl (ask_access x word n bare (record bare { seen = seen.Lock n }) refl refl) refl refl)
