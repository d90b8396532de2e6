-- The sizes of a cluster's parts, which changes of harts, of a line and of its acknowledgements keep.
use Rattle.std.proofs.Common.{◌≡◌, ℕ, ◌<◌, Bool, true, false, Option, Some, List, length, slice_index_or, slice_set, refl, sym, ap, ◌∙◌, subst, inl, inr}
use Rattle.std.proofs.lemmas.List.{get_or-set_same, get_or-set_other, get_or_default, length-set}
use Rattle.dash_base.specs.Places.{line_count}
use Rattle.snoop_bus.specs.Holding.{Holding}
use Rattle.snoop_bus.specs.View.{BusView, changed}
use Rattle.snoop_bus.proofs.LawsOffered.{harts-changed}
use Rattle.remote_cache.specs.declared.slot.Slot.{Slot as Request}
use Rattle.remote_cache.specs.View.{SlotsView, slot_at, count as slot_count}
use Rattle.ack_counter.specs.View.{Counted, TableView, entry_at}
use Rattle.dash_model.specs.Config.{Config}
use Rattle.unit_rows.specs.declared.parts.Local.{Local}
use Rattle.unit_rows.specs.Shown.{PartsView, HasFront, AreSized}
use Rattle.unit_rows.specs.Sweeps.{is_lost, swept, AreSwept}
use Rattle.unit_rows.proofs.Same.{same_or_not}
use Rattle.unit_rows.proofs.BusTurns.{with_line}

l1_stays : (b : BusView) (p : ℕ → Bool) (l : ℕ) (o : Option Holding) → (changed b p l o).l1_lines ≡ b.l1_lines
unfolding changed
l1_stays b p l o = refl

l2_stays : (b : BusView) (p : ℕ → Bool) (l : ℕ) (o : Option Holding) → (changed b p l o).l2_lines ≡ b.l2_lines
unfolding changed
l2_stays b p l o = refl

-- as many harts, with buffers of the same sizes, whose next instructions are found where they were
pub record SameSizes (w : Config) (old new : List Local) : Type 0 where
  pub count : length new ≡ length old
  pub buffers : (k : ℕ) (d : Local) → k < length old → (slice_index_or new k d).buffer.capacity ≡ (slice_index_or old k d).buffer.capacity
  pub fronts : (k : ℕ) (d : Local) → k < length old → HasFront w (slice_index_or old k d) → HasFront w (slice_index_or new k d)

pub same_sizes : (w : Config) (xs : List Local) → SameSizes w xs xs
same_sizes w xs = record { count = refl; buffers = λ k d low. refl; fronts = λ k d low f. f }

pub set_sizes : (w : Config) (xs : List Local) (k : ℕ) (x y : Local) → k < length xs → y ≡ slice_index_or xs k y → x.buffer.capacity ≡ y.buffer.capacity → (HasFront w y → HasFront w x) → SameSizes w xs (slice_set xs k x)
set_sizes w xs k x y inside here same finds = record {
  count = length-set xs k x;
  buffers = λ j d low. elim (same_or_not j k) [
    | inl e ↦ ap (λ i. (slice_index_or (slice_set xs k x) i d).buffer.capacity) e ∙ ap (λ (z : Local). z.buffer.capacity) (get_or-set_same xs k x d inside) ∙ same ∙ ap (λ (z : Local). z.buffer.capacity) (here ∙ get_or_default xs k y d inside) ∙ ap (λ i. (slice_index_or xs i d).buffer.capacity) (sym e)
    | inr n ↦ ap (λ (z : Local). z.buffer.capacity) (get_or-set_other xs k j x d n)
  ];
  fronts = λ j d low f. elim (same_or_not j k) [
    | inl e ↦ subst (λ i. HasFront w (slice_index_or (slice_set xs k x) i d)) (sym e) (subst (HasFront w) (sym (get_or-set_same xs k x d inside))
        (finds (subst (HasFront w) (sym (here ∙ get_or_default xs k y d inside)) (subst (λ i. HasFront w (slice_index_or xs i d)) e f))))
    | inr n ↦ subst (HasFront w) (sym (get_or-set_other xs k j x d n)) f
  ];
}

pub swept_size : (w : Config) (l : ℕ) (b : Bool) (x : Local) → (swept w l b x).buffer.capacity ≡ x.buffer.capacity
swept_size w l true x = refl
swept_size w l false x = refl

pub swept_front : (w : Config) (l : ℕ) (b : Bool) (x : Local) → HasFront w x → HasFront w (swept w l b x)
swept_front w l true x f = f
swept_front w l false x f = f

pub more_sizes : (w : Config) (xs ys zs : List Local) → SameSizes w xs ys → SameSizes w ys zs → SameSizes w xs zs
more_sizes w xs ys zs f g = record {
  count = g.count ∙ f.count;
  buffers = λ k d low. g.buffers k d (subst (λ n. k < n) (sym f.count) low) ∙ f.buffers k d low;
  fronts = λ k d low h. g.fronts k d (subst (λ n. k < n) (sym f.count) low) (f.fronts k d low h);
}

pub swept_sizes : (w : Config) (l before after : ℕ) (old new : List Local) → AreSwept w l before after old new → SameSizes w old new
swept_sizes w l before after old new are = record {
  count = are.count;
  buffers = λ k d low. ap (λ (z : Local). z.buffer.capacity) (are.each k d low) ∙ swept_size w l (is_lost before after k) (slice_index_or old k d);
  fronts = λ k d low f. subst (HasFront w) (sym (are.each k d low)) (swept_front w l (is_lost before after k) (slice_index_or old k d) f);
}

-- a row of a line
pub sized_line : (w : Config) (c : ℕ) (v : PartsView) (locals : List Local) (passes : ℕ → Bool) (l : ℕ) (o : Option Holding) (slots : SlotsView) (acks : TableView) → AreSized w c v → SameSizes w v.locals locals
    → slots.harts ≡ v.slots.harts → slot_count slots ≡ slot_count v.slots → ((n : ℕ) (s : Request) → slot_at slots n ≡ Some s → (s.hart < w.top.harts) × (s.line.0 < line_count w.top))
    → acks.capacity ≡ v.acks.capacity → ((q : ℕ) (e : Counted) → entry_at acks q ≡ Some e → q < line_count w.top)
    → AreSized w c (with_line v locals (changed v.bus passes l o) slots acks)
sized_line w c v locals passes l o slots acks z s harts count in_range capacity entries = record {
  locals = s.count ∙ z.locals;
  buffers = λ k d low. s.buffers k d (subst (λ n. k < n) (sym z.locals) low) ∙ z.buffers k d low;
  fronts = λ k d low. s.fronts k d (subst (λ n. k < n) (sym z.locals) low) (z.fronts k d low);
  bus_harts = harts-changed v.bus passes l o ∙ z.bus_harts;
  l1 = l1_stays v.bus passes l o ∙ z.l1;
  l2 = l2_stays v.bus passes l o ∙ z.l2;
  slot_harts = harts ∙ z.slot_harts;
  slot_count = count ∙ z.slot_count;
  slots_in_range = in_range;
  acks = capacity ∙ z.acks;
  acks_in_range = entries;
  home_cluster = z.home_cluster;
  home_clusters = z.home_clusters;
  home_lines = z.home_lines;
  lock_cluster = z.lock_cluster;
  lock_clusters = z.lock_clusters;
  lock_words = z.lock_words;
  lock_harts = z.lock_harts;
}

-- a change of the bus and of harts alone
pub sized_bus : (w : Config) (c : ℕ) (v : PartsView) (locals : List Local) (passes : ℕ → Bool) (l : ℕ) (o : Option Holding) → AreSized w c v → SameSizes w v.locals locals → AreSized w c (with_line v locals (changed v.bus passes l o) v.slots v.acks)
sized_bus w c v locals passes l o z s = sized_line w c v locals passes l o v.slots v.acks z s refl refl z.slots_in_range refl z.acks_in_range
