-- A hart that retires an instruction: which hart it is, what it does, and what its part shows then.
use Rattle.std.proofs.Common.{◌≡◌, ℕ, ◌+◌, ◌<◌, length, slice_index_or, slice_set, refl, sym, ap, ◌∙◌, subst, inl, inr}
use Rattle.std.proofs.Math.ListN.{length-set}
use Rattle.std.proofs.lemmas.Nat.{div-mul-add}
use Rattle.std.proofs.lemmas.List.{get_or_read, get_or-set_same, get_or-set_other}
use Rattle.std.specs.Bool.{IsTrue}
use Rattle.elf_load.specs.Image.{ImageView}
use Rattle.dash_base.specs.declared.id.HartId.{HartId}
use Rattle.dash_base.specs.declared.topology.Topology.{Topology}
use Rattle.dash_base.specs.declared.need.Need.{Need}
use Rattle.hart_core.specs.declared.front.Front.{Front}
use Rattle.hart_core.specs.HartState.{HartState, can_go_on}
use Rattle.hart_core.specs.Meaning.{Needs, Does, IsNext, NeedsIf}
use Rattle.dash_model.specs.Config.{Config, cluster_of}
use Rattle.dash_model.specs.Part.{Processor, Part}
use Rattle.dash_model.specs.HartRows.{HartEffect, retire}
use Rattle.dash_model.specs.HartGuards.{Retires, RetiresAt, number_of}
use Rattle.unit_rows.specs.declared.parts.Local.{Local}
use Rattle.unit_rows.specs.Shown.{PartsView, hart_at, HasFront, ShowsHart, Shows, AreSized}
use Rattle.unit_rows.specs.Steps.{HartNeeds, HartGoes, changed_local, Retired}
use Rattle.unit_rows.proofs.Same.{same_or_not}
use Rattle.unit_rows.proofs.Harts.{shows_change}

-- the hart that was read is the one of its number
pub one_local : (v : PartsView) (k : ℕ) (x : Local) → k < length v.locals → x ≡ slice_index_or v.locals k x → (d : Local) → slice_index_or v.locals k d ≡ x
one_local v k x low is d = sym (get_or_read v.locals k x low is d)

pub same_local : (v : PartsView) (k : ℕ) (x y : Local) → k < length v.locals → x ≡ slice_index_or v.locals k x → y ≡ slice_index_or v.locals k y → x ≡ y
same_local v k x y low is as_well = sym (one_local v k x low is y) ∙ sym as_well

-- a hart by its number in the machine
pub hart_number : {g : HartId} {n : ℕ} → g ≡ record { 0 = n } → g.0 ≡ n
hart_number e = ap (λ (h : HartId). h.0) e

-- a hart is of its cluster
pub cluster-hart_at : (w : Config) (c k : ℕ) → k < w.top.harts → cluster_of w (hart_at w c k) ≡ c
cluster-hart_at w c k low = div-mul-add c w.top.harts k low

-- what it needs, by what it needs next
pub next_needs : (image : ImageView) (t : Topology) (h : HartState) (need : Need) → Needs image t h need → IsNext image t h need
next_needs image t h need n = subst (λ b. NeedsIf b image t h need) (sym n.goes) n

pub goes_of : (w : Config) (v : PartsView) (k : ℕ) (need : Need) → HartNeeds w v k need → HartGoes w v k
goes_of w v k need n = λ d. (n d).goes

-- the hart that was read goes on
pub goes_on : (w : Config) (v : PartsView) (k : ℕ) (x : Local) → x ≡ slice_index_or v.locals k x → HartGoes w v k → IsTrue (can_go_on w.top x.core)
goes_on w v k x is goes = ap (λ (y : Local). can_go_on w.top y.core) is ∙ goes x

pub retired_from : (w : Config) (v : PartsView) (k answer pc : ℕ) (x : Local) (core : HartState) (front : Front) → k < w.top.harts → length v.locals ≡ w.top.harts → x ≡ slice_index_or v.locals k x
    → ((need : Need) → IsNext w.image w.top x.core need → Does w.image w.top x.core need answer core) → pc ≡ x.core.pc
    → Retired w v (changed_local v k (record x { core = core; front = front })) k answer pc
retired_from w v k answer pc x core front low count is does at = record {
  local = x;
  is = one_local v k x (subst (λ n. k < n) (sym count) low) is;
  core = core;
  front = front;
  does = λ need n. does need (next_needs w.image w.top x.core need n);
  pc_is = at;
  new_is = refl;
}

-- one hart changed leaves the sizes, where its buffer has the same and its next instruction is found
pub sized_local : (w : Config) (c : ℕ) (v : PartsView) (k : ℕ) (y : Local) → k < w.top.harts → AreSized w c v → y.buffer.capacity ≡ w.top.buffer → HasFront w y → AreSized w c (changed_local v k y)
sized_local w c v k y low z cap found = record {
  locals = length-set v.locals k y ∙ z.locals;
  buffers = λ j d below. elim (same_or_not j k) [
    | inl e ↦ subst (λ i. (slice_index_or (slice_set v.locals k y) i d).buffer.capacity ≡ w.top.buffer) (sym e) (ap (λ (x : Local). x.buffer.capacity) (get_or-set_same v.locals k y d (subst (λ n. k < n) (sym z.locals) low)) ∙ cap)
    | inr o ↦ ap (λ (x : Local). x.buffer.capacity) (get_or-set_other v.locals k j y d o) ∙ z.buffers j d below
  ];
  fronts = λ j d below. elim (same_or_not j k) [
    | inl e ↦ subst (λ i. HasFront w (slice_index_or (slice_set v.locals k y) i d)) (sym e) (subst (HasFront w) (sym (get_or-set_same v.locals k y d (subst (λ n. k < n) (sym z.locals) low))) found)
    | inr o ↦ subst (HasFront w) (sym (get_or-set_other v.locals k j y d o)) (z.fronts j d below)
  ];
  bus_harts = z.bus_harts;
  l1 = z.l1;
  l2 = z.l2;
  slot_harts = z.slot_harts;
  slot_count = z.slot_count;
  slots_in_range = z.slots_in_range;
  acks = z.acks;
  acks_in_range = z.acks_in_range;
  home_cluster = z.home_cluster;
  home_clusters = z.home_clusters;
  home_lines = z.home_lines;
  lock_cluster = z.lock_cluster;
  lock_clusters = z.lock_clusters;
  lock_words = z.lock_words;
  lock_harts = z.lock_harts;
}

-- the capacity of the buffer of the hart that was read
pub capacity_of : (w : Config) (c : ℕ) (v : PartsView) (k : ℕ) (x : Local) → k < w.top.harts → AreSized w c v → x ≡ slice_index_or v.locals k x → x.buffer.capacity ≡ w.top.buffer
capacity_of w c v k x low z is = ap (λ (y : Local). y.buffer.capacity) is ∙ z.buffers k x low

-- the next instruction that was found for the hart that was read
pub front_of : (w : Config) (c k : ℕ) (v : PartsView) (x : Local) → k < w.top.harts → AreSized w c v → x ≡ slice_index_or v.locals k x → HasFront w x
front_of w c k v x low z is = subst (HasFront w) (sym is) (z.fronts k x low)

-- what the hart of an event did
abbrev pub effect : Need → HartState → HartEffect
effect need core = record { need = need; next = core }

-- a part's hart needs what the code's hart needs
pub part_needs : (w : Config) (c : ℕ) (v : PartsView) (k : ℕ) (need : Need) (x : Local) (p : Part) → k < w.top.harts → Shows w c v p → HartNeeds w v k need → Needs w.image w.top (p.harts (hart_at w c k)).core need
part_needs w c v k need x p low s n = subst (λ y. Needs w.image w.top y need) (sym (s.harts k x low).core) (n x)

pub shown_by : (w : Config) (c : ℕ) (v : PartsView) (k : ℕ) (x : Local) (p : Part) → k < w.top.harts → Shows w c v p → slice_index_or v.locals k x ≡ x → ShowsHart w v.bus k x (p.harts (hart_at w c k))
shown_by w c v k x p low s is = subst (λ y. ShowsHart w v.bus k y (p.harts (hart_at w c k))) is (s.harts k x low)

-- the number of the hart's instruction
pub number_there : (w : Config) (c k h : ℕ) (v : PartsView) (x : Local) (p : Part) → h ≡ hart_at w c k → k < w.top.harts → Shows w c v p → x ≡ slice_index_or v.locals k x → x.core.retired + 1 ≡ number_of h p
number_there w c k h v x p e low s is = ap (λ (y : HartState). y.retired + 1) (sym (shown_by w c v k x p low s (sym is)).core) ∙ sym (ap (λ i. number_of i p) e)

-- on a part, the hart of an event does its instruction
pub part_does : (w : Config) (c k h answer : ℕ) (need : Need) (x : Local) (core : HartState) (s : Processor) (p : Part) → h ≡ hart_at w c k → k < w.top.harts → p.harts (hart_at w c k) ≡ s → s.core ≡ x.core
    → Does w.image w.top x.core need answer core → Retires w c h need answer (effect need core) p
part_does w c k h answer need x core s p e low at same does = record {
  mine = ap (cluster_of w) e ∙ cluster-hart_at w c k low;
  need_is = refl;
  does = subst (λ y. Does w.image w.top y need answer core) (sym (ap (λ i. (p.harts i).core) e ∙ ap (λ (y : Processor). y.core) at ∙ same)) does;
}

-- an event that only retires: what its guard asks of the hart, and what the parts show then
pub record PlainStep (w : Config) (c h pc : ℕ) (need : Need) (core : HartState) (z : PartsView) (p : Part) : Type 0 where
  pub at : RetiresAt w c h pc need (effect need core) p
  pub shows : Shows w c z (retire h (effect need core) p)

pub plain_step : (w : Config) (c k h pc : ℕ) (need : Need) (v z : PartsView) (p : Part) (r : Retired w v z k 0 pc) → h ≡ hart_at w c k → k < w.top.harts → AreSized w c v → HartNeeds w v k need → Shows w c v p → PlainStep w c h pc need r.core z p
plain_step w c k h pc need v z p r e low sized n s =
    let hart = shown_by w c v k r.local p low s (r.is r.local) in
    let needs : Needs w.image w.top r.local.core need = subst (λ (y : Local). Needs w.image w.top y.core need) (r.is r.local) (n r.local) in
    record {
      at = record {
        retires = part_does w c k h 0 need r.local r.core (p.harts (hart_at w c k)) p e low refl hart.core (r.does need needs);
        pc_is = r.pc_is ∙ sym (ap (λ i. (p.harts i).core.pc) e ∙ ap (λ (y : HartState). y.pc) hart.core);
      };
      shows = subst (λ y. Shows w c y (retire h (effect need r.core) p)) (sym r.new_is) (subst (λ i. Shows w c (changed_local v k (record r.local { core = r.core; front = r.front })) (retire i (effect need r.core) p)) (sym e)
          (shows_change w c v p k (record r.local { core = r.core; front = r.front }) (record (p.harts (hart_at w c k)) { core = r.core }) low sized.locals s (record { core = refl; reserved = hart.reserved; buffer = hart.buffer; asked = hart.asked; l1 = hart.l1 })));
    }
