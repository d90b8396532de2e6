-- The parts at the start show the part that a run of the machine begins with.
use Rattle.std.proofs.Common.{List, [], ◌∷◌, ◌++◌, inl, inr, ◌≡◌, ℕ, ◌+◌, ◌<◌, Bool, true, false, None, Some, Option, replicate, slice_index_or, refl, sym, ap, ◌∙◌, subst, if◌then◌else◌, nat_lt, ◌≤◌, arith}
use Rattle.std.proofs.lemmas.List.{length-replicate, get_or-replicate, get_or_past, get_or_push, get_or_append_left, length-append}
use Rattle.std.proofs.lemmas.Bool.Decides.{nat_tests}
use Rattle.remote_cache.proofs.LawsOffered.{lines_have_one_slot}
use Rattle.dash_base.specs.Places.{first_prefetch}
use Rattle.write_buffer.specs.View.{BufferView}
use Rattle.snoop_bus.specs.View.{BusView, empty_bus, holding_at, in_hart_l1, harts as bus_harts}
use Rattle.snoop_bus.proofs.LawsOffered.{holding_at-empty_bus, in_hart_l1-empty_bus, harts-empty_bus}
use Rattle.remote_cache.specs.View.{SlotsView, empty_slots, is_of, slot_of, slot_at, count as slot_count}
use Rattle.ack_counter.specs.View.{TableView, entry_at}
use Rattle.ack_counter.specs.Steps.{empty_table}
use Rattle.ack_counter.proofs.LawsOffered.{entry_at-empty_table}
use Rattle.directory.specs.View.{HomeView, is_home, kept_at, kept_in}
use Rattle.directory.specs.Opening as home
use Rattle.directory.specs.Opening.{line_from}
use Rattle.queue_lock.specs.View.{LocksView, is_own, lock_at, lock_in, unused}
use Rattle.queue_lock.specs.Steps as locks
use Rattle.dash_model.specs.Config.{Config}
use Rattle.dash_model.specs.Cell.{NoSlot}
use Rattle.dash_model.specs.Part.{opening_part}
use Rattle.unit_rows.specs.declared.parts.Local.{Local}
use Rattle.unit_rows.specs.Shown.{PartsView, hart_at, copy_by, slot_in, slot_on, acks_by, home_by, lock_by, reserved_by, ShowsHart, Shows, AreSized}
use Rattle.unit_rows.specs.Opening.{AreOpening, IsOpeningLocal, IsOpening}
use Rattle.unit_rows.proofs.Same.{same_or_not}

shows_local : (w : Config) (c k : ℕ) (x : Local) (b : BusView) → b ≡ empty_bus w.top.harts w.top.l1 w.top.l2 → IsOpeningLocal w c k x → ShowsHart w b k x ((opening_part w).harts (hart_at w c k))
shows_local w c k x b is o = record {
  core = sym o.core;
  reserved = sym (ap reserved_by o.reserved);
  buffer = sym (ap (λ (y : BufferView). y.items) o.buffer);
  asked = sym o.asked;
  l1 = λ q. sym (ap (λ y. in_hart_l1 y k q) is ∙ in_hart_l1-empty_bus w.top.harts w.top.l1 w.top.l2 k q);
}

-- no slot has a line
slot_none : (v : SlotsView) (l : ℕ) (o : Option ℕ) → ((n : ℕ) → slot_at v n ≡ None) → slot_of v l ≡ o → o ≡ None
slot_none v l None none is = refl
slot_none v l (Some n) none is = absurd (let has = lines_have_one_slot.has_line v l n is in let no : is_of l (slot_at v n) ≡ false = ap (is_of l) (none n) in cc)

pub past_or_in : (h n i : ℕ) (b : Bool) → nat_lt i n ≡ b → slot_at (empty_slots h n) i ≡ None
past_or_in h n i true low = get_or-replicate n i None None (let e : i < n = grind (arith, nat_tests) in e)
past_or_in h n i false high = get_or_past (replicate n None) i None (let e : n ≤ i = grind (arith, nat_tests) in subst (λ y. y ≤ i) (sym (length-replicate n None)) e)

no_slot : (w : Config) (c h n l : ℕ) → slot_on w c (empty_slots h n) l ≡ NoSlot
no_slot w c h n l = ap (slot_in w c (empty_slots h n)) (slot_none (empty_slots h n) l (slot_of (empty_slots h n) l) (λ i. past_or_in h n i (nat_lt i n) refl) refl)

kept_opening : (w : Config) (c : ℕ) (h : HomeView) (l : ℕ) → home.IsOpening w.top c w.image h → is_home h l ≡ true → kept_at h l ≡ home.opening_line w.image w.top l
unfolding kept_at
kept_opening w c h l o own = ap kept_in (o.kept_is l ∙ ap (λ b. if b then Some (home.opening_line w.image w.top l) else None) own)

home_opening : (w : Config) (l : ℕ) → (opening_part w).homes l ≡ home_by w (home.opening_line w.image w.top l)
unfolding line_from
home_opening w l = refl

lock_opening : (w : Config) (c : ℕ) (v : LocksView) (i : ℕ) → locks.IsOpening w.top c v → is_own v i ≡ true → lock_at v i ≡ unused
unfolding lock_at
lock_opening w c v i o own = ap lock_in (o.words_are i ∙ ap (λ b. if b then Some unused else None) own)

pub opening_shows : (w : Config) (c : ℕ) (v : PartsView) → IsOpening w c v → Shows w c v (opening_part w)
opening_shows w c v o = record {
  harts = λ k d low. shows_local w c k (slice_index_or v.locals k d) v.bus o.bus (o.locals.each k d low);
  copies = λ l. sym (ap (copy_by w c) (ap (λ b. holding_at b l) o.bus ∙ holding_at-empty_bus w.top.harts w.top.l1 w.top.l2 l));
  slots = λ l. sym (ap (λ s. slot_on w c s l) o.slots ∙ no_slot w c w.top.harts (first_prefetch w.top.harts + w.top.prefetch) l);
  acks = λ l. sym (ap (acks_by w c) (ap (λ t. entry_at t l) o.acks ∙ entry_at-empty_table w.top.acks l));
  homes = λ l own. home_opening w l ∙ ap (home_by w) (sym (kept_opening w c v.home l o.home own));
  locks = λ i own. sym (ap lock_by (lock_opening w c v.locks i o.locks own));
}

-- and they have the sizes of the topology
empty_l1 : (n l1 l2 : ℕ) → (empty_bus n l1 l2).l1_lines ≡ l1
unfolding empty_bus
empty_l1 n l1 l2 = refl

empty_l2 : (n l1 l2 : ℕ) → (empty_bus n l1 l2).l2_lines ≡ l2
unfolding empty_bus
empty_l2 n l1 l2 = refl

empty_capacity : (n : ℕ) → (empty_table n).capacity ≡ n
unfolding empty_table
empty_capacity n = refl

pub opening_sized : (w : Config) (c : ℕ) (v : PartsView) → IsOpening w c v → AreSized w c v
opening_sized w c v o = record {
  locals = o.locals.count;
  buffers = λ k d low. ap (λ (b : BufferView). b.capacity) (o.locals.each k d low).buffer;
  fronts = λ k d low. (o.locals.each k d low).front;
  bus_harts = ap bus_harts o.bus ∙ harts-empty_bus w.top.harts w.top.l1 w.top.l2;
  l1 = ap (λ (b : BusView). b.l1_lines) o.bus ∙ empty_l1 w.top.harts w.top.l1 w.top.l2;
  l2 = ap (λ (b : BusView). b.l2_lines) o.bus ∙ empty_l2 w.top.harts w.top.l1 w.top.l2;
  slot_harts = ap (λ (s : SlotsView). s.harts) o.slots;
  slot_count = ap slot_count o.slots ∙ length-replicate (first_prefetch w.top.harts + w.top.prefetch) None;
  slots_in_range = λ n s is.
      let none : slot_at v.slots n ≡ None = ap (λ (y : SlotsView). slot_at y n) o.slots ∙ past_or_in w.top.harts (first_prefetch w.top.harts + w.top.prefetch) n (nat_lt n (first_prefetch w.top.harts + w.top.prefetch)) refl in
      let bad : None ≡ Some s = sym none ∙ is in
      absurd (cc);
  acks = ap (λ (t : TableView). t.capacity) o.acks ∙ empty_capacity w.top.acks;
  acks_in_range = λ l e is.
      let bad : None ≡ Some e = sym (ap (λ t. entry_at t l) o.acks ∙ entry_at-empty_table w.top.acks l) ∙ is in
      absurd (cc);
  home_cluster = o.home.cluster_is;
  home_clusters = o.home.clusters_is;
  home_lines = o.home.lines_is;
  lock_cluster = o.locks.cluster_is;
  lock_clusters = o.locks.clusters_is;
  lock_words = o.locks.locks_is;
  lock_harts = o.locks.harts_is;
}

-- one hart more
pub opening_more : (w : Config) (c n : ℕ) (xs : List Local) (x : Local) → AreOpening w c n xs → IsOpeningLocal w c n x → AreOpening w c (n + 1) (xs ++ x ∷ [])
opening_more w c n xs x all one = record {
  count = length-append xs (x ∷ []) ∙ ap (λ m. m + 1) all.count;
  each = λ k d low. elim (same_or_not k n) [
    | inl e ↦ subst (IsOpeningLocal w c k) (sym (get_or_push xs x d k (all.count ∙ sym e))) (subst (λ m. IsOpeningLocal w c m x) (sym e) one)
    | inr o ↦ subst (IsOpeningLocal w c k) (sym (get_or_append_left xs (x ∷ []) d k (let m : k < n = grind arith in omega (arith, m, all.count)))) (all.each k d (grind arith))
  ];
}
