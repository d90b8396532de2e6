-- Changes of a line on the bus: what each makes of the line's copy, and of all that the parts show.
use Rattle.std.proofs.Common.{◌≡◌, ◌≢◌, ℕ, ◌<◌, Bool, true, false, cond, Option, None, Some, List, [], ◌∷◌, slice_index_or, refl, sym, ap, ◌∙◌, is_some}
use Rattle.dash_base.specs.declared.line.Line.{Line}
use Rattle.snoop_bus.specs.Holding.{Holding, has_hart, alone, with_hart, without_hart, holders_in, owner_in, copy_in, joined_by, owned_by, rewritten, left_by, disowned, IsProperHolding}
use Rattle.snoop_bus.specs.Holding as bus
use Rattle.snoop_bus.specs.View.{BusView, holding_at, changed}
use Rattle.snoop_bus.proofs.LawsOffered.{holding_at-changed}
use Rattle.ack_counter.specs.View.{TableView, entry_at}
use Rattle.remote_cache.specs.View.{SlotsView}
use Rattle.dash_model.specs.Config.{Config}
use Rattle.dash_model.specs.Cell.{Held}
use Rattle.dash_model.specs.Part.{Part}
use Rattle.dash_model.specs.LineEffect.{LineEffect}
use Rattle.dash_model.specs.HartRows.{cleared_where_lost}
use Rattle.dash_model.specs.Words.{content}
use Rattle.dash_model.specs.Acts.{commit_copy, bus_read, bus_own}
use Rattle.unit_rows.specs.declared.parts.Local.{Local}
use Rattle.unit_rows.specs.Shown.{PartsView, hart_at, harts_by, owner_by, copy_by, slot_on, acks_by, ShowsHart, Shows}
use Rattle.unit_rows.proofs.Same.{test_same, test_differ}
use Rattle.unit_rows.proofs.Copies.{harts_alone, harts_with}
use Rattle.unit_rows.proofs.Lines.{Turns}

-- a hart more, the only holder and owner, another content, no owner
pub joined-copy_by : (w : Config) (c k : ℕ) (o : Option Holding) → k < w.top.harts → bus_read (hart_at w c k) (copy_by w c o) ≡ copy_by w c (joined_by k o)
joined-copy_by w c k None low = refl
joined-copy_by w c k (Some h) low = ap (λ hs. Held hs (owner_by w c h.owner) h.copy) (sym (harts_with w c k h.holders low))

own_part : (w : Config) (c t : ℕ) (hs : List ℕ) (d : Line) (o : Option ℕ) → is_some o ≡ true → bus_own t (Held hs (owner_by w c o) d) ≡ Held (t ∷ []) (Some t) d
own_part w c t hs d None e = absurd (cc)
own_part w c t hs d (Some j) e = refl

pub owned-copy_by : (w : Config) (c k : ℕ) (o : Option Holding) → k < w.top.harts → is_some (owner_in o) ≡ true → bus_own (hart_at w c k) (copy_by w c o) ≡ copy_by w c (owned_by k o)
owned-copy_by w c k None low e = absurd (cc)
owned-copy_by w c k (Some h) low e = own_part w c (hart_at w c k) (harts_by w c (has_hart h.holders)) h.copy h.owner e ∙ ap (λ hs. Held hs (Some (hart_at w c k)) h.copy) (sym (harts_alone w c k low))

commit_part : (w : Config) (c : ℕ) (d : Line) (hs : List ℕ) (e : Line) (o : Option ℕ) → is_some o ≡ true → commit_copy d (Held hs (owner_by w c o) e) ≡ Held hs (owner_by w c o) d
commit_part w c d hs e None s = absurd (cc)
commit_part w c d hs e (Some j) s = refl

pub rewritten-copy_by : (w : Config) (c : ℕ) (d : Line) (o : Option Holding) → is_some (owner_in o) ≡ true → commit_copy d (copy_by w c o) ≡ copy_by w c (rewritten d o)
rewritten-copy_by w c d None e = absurd (cc)
rewritten-copy_by w c d (Some h) e = commit_part w c d (harts_by w c (has_hart h.holders)) h.copy h.owner e

pub content-copy_by : (w : Config) (c : ℕ) (d : Line) (o : Option Holding) → copy_in o ≡ Some d → content (copy_by w c o) ≡ d
content-copy_by w c d None e = absurd (cc)
content-copy_by w c d (Some h) e = let t : h.copy ≡ d = cc in t

-- the only holder of a line that came
pub held-installed : (w : Config) (c k : ℕ) (d : Line) (own : Bool) → k < w.top.harts → copy_by w c (bus.held_by k d own) ≡ Held (hart_at w c k ∷ []) (cond own (Some (hart_at w c k)) None) d
held-installed w c k d true low = ap (λ hs. Held hs (Some (hart_at w c k)) d) (harts_alone w c k low)
held-installed w c k d false low = ap (λ hs. Held hs None d) (harts_alone w c k low)

pub disowned-copy_by : (w : Config) (c : ℕ) (h : Holding) → copy_by w c (disowned (Some h)) ≡ Held (harts_by w c (has_hart h.holders)) None h.copy
disowned-copy_by w c h = refl

-- the changed line and the others
pub copy_here : (b : BusView) (passes : ℕ → Bool) (l : ℕ) (o : Option Holding) → holding_at (changed b passes l o) l ≡ o
copy_here b passes l o = holding_at-changed b passes l o l ∙ ap (λ t. cond t o (holding_at b l)) (test_same l)

pub copy_elsewhere : (b : BusView) (passes : ℕ → Bool) (l : ℕ) (o : Option Holding) (q : ℕ) → q ≢ l → holding_at (changed b passes l o) q ≡ holding_at b q
copy_elsewhere b passes l o q apart = holding_at-changed b passes l o q ∙ ap (λ t. cond t o (holding_at b q)) (test_differ q l apart)

-- a row of a line that leaves its home as it was: the bus changes, and harts, slots and acknowledgements may
abbrev pub with_line : PartsView → List Local → BusView → SlotsView → TableView → PartsView
with_line v locals b slots acks = record v { locals = locals; bus = b; slots = slots; acks = acks }

pub line_turns : (w : Config) (c : ℕ) (v : PartsView) (p : Part) (l : ℕ) (d : LineEffect) (passes : ℕ → Bool) (o : Option Holding) (locals : List Local) (slots : SlotsView) (acks : TableView) → Shows w c v p
    → ((k : ℕ) (x : Local) → k < w.top.harts → ShowsHart w (changed v.bus passes l o) k (slice_index_or locals k x) (cleared_where_lost w l (p.cells l).copy d.cell.copy (hart_at w c k) (p.harts (hart_at w c k))))
    → d.cell.copy ≡ copy_by w c o → d.cell.slot ≡ slot_on w c slots l → ((q : ℕ) → q ≢ l → slot_on w c slots q ≡ slot_on w c v.slots q)
    → d.cell.acks ≡ acks_by w c (entry_at acks l) → ((q : ℕ) → q ≢ l → entry_at acks q ≡ entry_at v.acks q) → d.home ≡ p.homes l
    → Turns w c v (with_line v locals (changed v.bus passes l o) slots acks) p l d
line_turns w c v p l d passes o locals slots acks shows harts copy slot other_slots entry other_entries home = record {
  harts = harts;
  copy = copy ∙ ap (copy_by w c) (sym (copy_here v.bus passes l o));
  copies = copy_elsewhere v.bus passes l o;
  slot = slot;
  slots = other_slots;
  acks = entry;
  entries = other_entries;
  home = λ mine. home ∙ shows.homes l mine;
  own = λ q. refl;
  homes = λ q apart. refl;
  locks = refl;
}

-- a change of the bus alone
pub bus_turns : (w : Config) (c : ℕ) (v : PartsView) (p : Part) (l : ℕ) (d : LineEffect) (passes : ℕ → Bool) (o : Option Holding) (locals : List Local) → Shows w c v p
    → ((k : ℕ) (x : Local) → k < w.top.harts → ShowsHart w (changed v.bus passes l o) k (slice_index_or locals k x) (cleared_where_lost w l (p.cells l).copy d.cell.copy (hart_at w c k) (p.harts (hart_at w c k))))
    → d.cell.copy ≡ copy_by w c o → d.cell.slot ≡ (p.cells l).slot → d.cell.acks ≡ (p.cells l).acks → d.home ≡ p.homes l
    → Turns w c v (with_line v locals (changed v.bus passes l o) v.slots v.acks) p l d
bus_turns w c v p l d passes o locals shows harts copy slot acks home =
    line_turns w c v p l d passes o locals v.slots v.acks shows harts copy (slot ∙ shows.slots l) (λ q apart. refl) (acks ∙ shows.acks l) (λ q apart. refl) home
