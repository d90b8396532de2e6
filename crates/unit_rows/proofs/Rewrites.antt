-- A line's content that becomes another in its owner's hands, beside a change of the hart and of the line's acknowledgements.
use Rattle.std.proofs.Common.{◌≡◌, ◌≢◌, ℕ, ◌<◌, true, Option, None, Some, is_some, slice_index_or, slice_set, refl, ap, ◌∙◌, sym, subst}
use Rattle.std.proofs.lemmas.List.{length-set}
use Rattle.dash_base.specs.declared.line.Line.{Line}
use Rattle.dash_base.specs.Places.{line_count}
use Rattle.snoop_bus.specs.Holding.{Holding, has_hart, holders_in, rewritten}
use Rattle.snoop_bus.specs.View.{holding_at, holders_at, owner_at, nobody, after_commit, IsOneMap}
use Rattle.ack_counter.specs.View.{Counted, TableView, entry_at}
use Rattle.dash_model.specs.Config.{Config, line_id, home_of}
use Rattle.dash_model.specs.Part.{Part}
use Rattle.dash_model.specs.HartRows.{acts}
use Rattle.dash_model.specs.Acts.{Commit as Commits, act_row, commit_copy, owe}
use Rattle.unit_rows.specs.declared.parts.Local.{Local}
use Rattle.unit_rows.specs.Shown.{PartsView, hart_at, copy_by, acks_by, HasFront, Shows, AreSized}
use Rattle.unit_rows.proofs.Harts.{with_local}
use Rattle.unit_rows.proofs.Lines.{shows_line}
use Rattle.unit_rows.proofs.Swept.{none_leave, harts_stay}
use Rattle.unit_rows.proofs.BusTurns.{rewritten-copy_by, with_line, line_turns}
use Rattle.unit_rows.proofs.Sized.{set_sizes, sized_line}

-- the parts afterwards, where the hart is this one, and this is the line's next content
abbrev pub after : PartsView → ℕ → Local → ℕ → Line → TableView → PartsView
after v k y l next acks = with_line v (slice_set v.locals k y) (after_commit v.bus l next) v.slots acks

holders_stay : (d : Line) (o : Option Holding) → holders_in (rewritten d o) ≡ holders_in o
holders_stay d None = refl
holders_stay d (Some h) = refl

-- where the hart has changed, the line changes too
pub line_shown : (w : Config) (c k : ℕ) (v : PartsView) (p : Part) (y : Local) (l : ℕ) (next : Line) (acks : TableView) → k < w.top.harts → AreSized w c v → IsOneMap v.bus → is_some (owner_at v.bus l) ≡ true
    → owe (hart_at w c k) (acks_by w c (entry_at v.acks l)) ≡ acks_by w c (entry_at acks l) → ((q : ℕ) → q ≢ l → entry_at acks q ≡ entry_at v.acks q)
    → Shows w c (with_local v k y) p → Shows w c (after v k y l next acks) (acts w l (Commits (hart_at w c k) next) p).part
line_shown w c k v p y l next acks low sized map owner owed others shows =
    let copy : commit_copy next (p.cells l).copy ≡ copy_by w c (rewritten next (holding_at v.bus l)) = ap (commit_copy next) (shows.copies l) ∙ rewritten-copy_by w c next (holding_at v.bus l) owner in
    let same : holders_in (rewritten next (holding_at v.bus l)) ≡ holders_at v.bus l = holders_stay next (holding_at v.bus l) in
    shows_line w c (with_local v k y) (after v k y l next acks) p l (act_row (line_id l) (home_of w l) (Commits (hart_at w c k) next) (p.cells l) (p.homes l)) shows
    (line_turns w c (with_local v k y) p l (act_row (line_id l) (home_of w l) (Commits (hart_at w c k) next) (p.cells l) (p.homes l)) nobody (rewritten next (holding_at v.bus l)) (slice_set v.locals k y) v.slots acks shows
    (harts_stay w c (with_local v k y) p l nobody (rewritten next (holding_at v.bus l)) (commit_copy next (p.cells l).copy) (length-set v.locals k y ∙ sized.locals) sized.bus_harts map shows (none_leave w v.bus l (rewritten next (holding_at v.bus l)) same) copy (λ j below has. ap (λ n. has_hart n j) same ∙ has))
    copy (shows.slots l) (λ q apart. refl)
    (ap (owe (hart_at w c k)) (shows.acks l) ∙ owed) others refl)

-- and the sizes are those of before
pub sized_after : (w : Config) (c k : ℕ) (v : PartsView) (x y : Local) (l : ℕ) (next : Line) (acks : TableView) → k < w.top.harts → AreSized w c v → x ≡ slice_index_or v.locals k x → y.buffer.capacity ≡ x.buffer.capacity → (HasFront w x → HasFront w y)
    → acks.capacity ≡ v.acks.capacity → ((q : ℕ) (e : Counted) → entry_at acks q ≡ Some e → q < line_count w.top) → AreSized w c (after v k y l next acks)
sized_after w c k v x y l next acks low sized here same finds capacity entries =
    sized_line w c v (slice_set v.locals k y) nobody l (rewritten next (holding_at v.bus l)) v.slots acks sized (set_sizes w v.locals k y x (subst (λ n. k < n) (sym sized.locals) low) here same finds) refl refl sized.slots_in_range capacity entries
