-- Commit: where the code's parts let a hart commit, they do the event's row.
use Rattle.std.proofs.Common.{◌≡◌, ℕ, ◌<◌, List, [], ◌∷◌, drop, slice_index_or, slice_set, refl, sym, ap, ◌∙◌, subst}
use Rattle.dash_base.specs.declared.line.Line.{Line}
use Rattle.dash_base.specs.declared.id.HartId.{HartId}
use Rattle.dash_base.specs.declared.id.LineId.{LineId}
use Rattle.circular_buffer.specs.Buffer.{buffer}
use Rattle.snoop_bus.specs.View.{BusView, holding_at, after_commit, IsOneMap}
use Rattle.ack_counter.specs.View.{TableView}
use Rattle.ack_counter.specs.Steps.{owing}
use Rattle.write_buffer.specs.declared.entry.Entry.{Entry as Stored}
use Rattle.dash_event.specs.declared.event.Kind.TheVariants as kind
use Rattle.dash_model.specs.Config.{Config, hart_id, line_id, line_at}
use Rattle.dash_model.specs.Part.{Part}
use Rattle.dash_model.specs.HartRows.{PartEffect, change, acts, commit_row}
use Rattle.dash_model.specs.Guard.{Guard}
use Rattle.dash_model.specs.Row.{row}
use Rattle.dash_model.specs.Acts.{Commit as Commits}
use Rattle.dash_model.specs.Words.{content, written_in}
use Rattle.unit_rows.specs.declared.parts.Local.{Local}
use Rattle.unit_rows.specs.declared.choice.Choice.TheVariants.{Commit}
use Rattle.unit_rows.specs.Shown.{PartsView, hart_at, Shows, AreSized}
use Rattle.unit_rows.specs.Rows.{Happens, DoesChoice}
use Rattle.unit_rows.specs.CommitFits.{CommitFits}
use Rattle.unit_rows.proofs.Harts.{with_local, shows_change}
use Rattle.unit_rows.proofs.Rewrites.{after, line_shown, sized_after}
use Rattle.unit_rows.proofs.BusTurns.{content-copy_by, with_line}
use Rattle.unit_rows.proofs.AcksOn.{owing-acks, owing-elsewhere, owing_range, owing_capacity}
use Rattle.dash_base.specs.Places.{line_count}
use Rattle.unit_rows.proofs.StateM.{has_owner_alone, in_m-owns_alone}
use Rattle.unit_rows.proofs.OneHart.{shown_hart, one_local, cluster_is, head_of}
use Rattle.unit_rows.proofs.NoInstruction.{no_instruction}

-- the hart without its oldest store
abbrev pub committed : Local → Local
committed x = record x { buffer = buffer (drop 1 x.buffer.items) x.buffer.capacity }

-- the hart alone changed
uncommitted : (w : Config) (c k : ℕ) (v : PartsView) (p : Part) (e : Stored) (d : Line) (f : CommitFits w v k e d) → k < w.top.harts → AreSized w c v → Shows w c v p
    → Shows w c (with_local v k (committed f.local)) (change (hart_at w c k) (record (p.harts (hart_at w c k)) { buffer = drop 1 f.local.buffer.items }) p)
uncommitted w c k v p e d f low sized shows =
    let s = shown_hart w c v p k f.local low sized shows f.is_local in
    shows_change w c v p k (committed f.local) (record (p.harts (hart_at w c k)) { buffer = drop 1 f.local.buffer.items }) low sized.locals shows
    (record { core = s.core; reserved = s.reserved; buffer = refl; asked = s.asked; l1 = s.l1 })

-- the event happens
happens : (w : Config) (c k : ℕ) (v : PartsView) (e : Stored) (d : Line) (f : CommitFits w v k e d) → k < w.top.harts → AreSized w c v → IsOneMap v.bus → (p : Part) → Shows w c v p
    → Happens w c (kind.Commit (hart_id (hart_at w c k)) e.number (line_id (line_at w e.word.0)) (written_in w e.word.0 e.mask e.value d).version) (no_instruction w) (after v k (committed f.local) (line_at w e.word.0) (written_in w e.word.0 e.mask e.value d) (owing v.acks (line_at w e.word.0) k)) [] p
unfolding Guard row
happens w c k v e d f low sized map p shows =
    let h = hart_at w c k in
    let l = line_at w e.word.0 in
    let s = shown_hart w c v p k f.local low sized shows f.is_local in
    let stores : (p.harts h).buffer ≡ e ∷ drop 1 f.local.buffer.items = s.buffer ∙ head_of f.local.buffer.items e f.head in
    let is : content (p.cells l).copy ≡ d = ap content (shows.copies l) ∙ content-copy_by w c d (holding_at v.bus l) f.copy_is in
    let row_is : commit_row w h l (p.harts h).buffer p ≡ acts w l (Commits h (written_in w e.word.0 e.mask e.value d)) (change h (record (p.harts h) { buffer = drop 1 f.local.buffer.items }) p) =
    ap (λ b. commit_row w h l b p) stores ∙ ap (λ x. acts w l (Commits h (written_in w e.word.0 e.mask e.value x)) (change h (record (p.harts h) { buffer = drop 1 f.local.buffer.items }) p)) is in
    record {
      guard = record {
        mine = cluster_is w c k low;
        oldest = e;
        others = drop 1 f.local.buffer.items;
        buffer = stores;
        number_is = refl;
        line = refl;
        owner = in_m-owns_alone w c k l v p low sized.bus_harts map shows ∙ f.state_m;
        version_is = ap (λ x. (written_in w e.word.0 e.mask e.value x).version) (sym is);
      };
      shows = subst (λ (r : PartEffect). Shows w c (after v k (committed f.local) l (written_in w e.word.0 e.mask e.value d) (owing v.acks l k)) r.part) (sym row_is)
          (line_shown w c k v (change h (record (p.harts h) { buffer = drop 1 f.local.buffer.items }) p) (committed f.local) l (written_in w e.word.0 e.mask e.value d) (owing v.acks l k) low sized map (has_owner_alone v.bus k l f.state_m) (owing-acks w c k v.acks l low) (owing-elsewhere v.acks l k) (uncommitted w c k v p e d f low sized shows));
      sent_is = ap (λ (r : PartEffect). r.sent) row_is;
    }

pub commits : (w : Config) (c k : ℕ) (v : PartsView) (e : Stored) (d next : Line) (h : HartId) (l : LineId) (x : Local) (locals : List Local) (b : BusView) (acks : TableView) → CommitFits w v k e d → k < w.top.harts → AreSized w c v → IsOneMap v.bus
    → h ≡ hart_id (hart_at w c k) → l ≡ line_id (line_at w e.word.0) → next ≡ written_in w e.word.0 e.mask e.value d → x ≡ slice_index_or v.locals k x
    → locals ≡ slice_set v.locals k (committed x) → b ≡ after_commit v.bus l.0 next → acks ≡ owing v.acks l.0 k
    → DoesChoice w c (Commit k) (kind.Commit h e.number l next.version) v (with_line v locals b v.slots acks) []
commits w c k v e d next h l x locals b acks f low sized map h_is l_is next_is x_is locals_is b_is acks_is =
    rw (locals_is, b_is, acks_is, one_local v.locals k x f.local (subst (λ n. k < n) (sym sized.locals) low) x_is f.is_local, h_is, l_is, next_is)
    (let base : DoesChoice w c (Commit k) (kind.Commit (hart_id (hart_at w c k)) e.number (line_id (line_at w e.word.0)) (written_in w e.word.0 e.mask e.value d).version) v (after v k (committed f.local) (line_at w e.word.0) (written_in w e.word.0 e.mask e.value d) (owing v.acks (line_at w e.word.0) k)) [] =
    record { is_of = refl; does = record { done = no_instruction w; happens = happens w c k v e d f low sized map } } in base)

pub sized_committed : (w : Config) (c k : ℕ) (v : PartsView) (next : Line) (l : ℕ) (x : Local) (locals : List Local) (b : BusView) (acks : TableView) → k < w.top.harts → AreSized w c v → x ≡ slice_index_or v.locals k x
    → locals ≡ slice_set v.locals k (committed x) → b ≡ after_commit v.bus l next → acks ≡ owing v.acks l k → AreSized w c (with_line v locals b v.slots acks)
sized_committed w c k v next l x locals b acks low sized here locals_is b_is acks_is =
    rw (locals_is, b_is, acks_is)
    (let base : AreSized w c (after v k (committed x) l next (owing v.acks l k)) =
    sized_after w c k v x (committed x) l next (owing v.acks l k) low sized here refl (λ f. f) (owing_capacity v.acks l k) (owing_range v.acks l k (line_count w.top) sized.acks_in_range) in base)
