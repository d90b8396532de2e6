-- Loads: their rows, from a store that waits or from the cluster's copy, and when they can't retire.
use Rattle.std.proofs.Common.{◌≡◌, ◌≢◌, ℕ, ◌+◌, ◌<◌, ◌%◌, ◌==◌, ◌&&◌, ◌||◌, Bool, true, false, cond, not, None, Some, Option, [], slice_index_or, slice_set, refl, sym, ap, ◌∙◌, subst, inl, inr, arith, if◌then◌else◌}
use Rattle.std.specs.Prelude.{option_map, IfNone}
use Rattle.std.proofs.lemmas.Bool.Decides.{nat_tests}
use Rattle.std.proofs.lemmas.List.{get_or-set_same, get_or-set_other}
use Rattle.dash_base.specs.declared.id.HartId.{HartId}
use Rattle.dash_base.specs.declared.id.WordAddr.{WordAddr}
use Rattle.dash_base.specs.declared.instr.Labels.{Labels}
use Rattle.dash_base.specs.declared.line.Line.{Line}
use Rattle.dash_base.specs.declared.need.Need.{Need}
use Rattle.dash_base.specs.declared.need.Need.TheVariants as needed
use Rattle.dash_event.specs.Offered.{bare_access, bytes_under, load_op, offered}
use Rattle.dash_event.specs.declared.access.Access.{Access}
use Rattle.dash_event.specs.declared.access.Seen.{Seen}
use Rattle.dash_event.specs.declared.access.Seen.TheVariants as seen
use Rattle.dash_event.specs.declared.event.Kind.TheVariants as kind
use Rattle.write_buffer.specs.Look.{newest_of, look_by}
use Rattle.write_buffer.specs.declared.entry.Look.{Look}
use Rattle.write_buffer.specs.declared.entry.Look.TheVariants.{None as NoStore, Hit}
use Rattle.hart_core.specs.HartState.{HartState}
use Rattle.hart_core.specs.Meaning.{IsNext, Does}
use Rattle.snoop_bus.specs.Holding.{Holding, has_hart, holders_in, copy_in}
use Rattle.snoop_bus.specs.View.{BusView, harts as bus_harts, holding_at, is_holder, copy_of, in_hart_l1, hart_level, hart_read_of, after_hart_read, hart_entered}
use Rattle.snoop_bus.proofs.LawsOffered.{has_hart-zero, holding_at-after_hart_read, in_hart_l1-after_hart_read, harts-after_hart_read, l1_lines-after_hart_read, l2_lines-after_hart_read}
use Rattle.dash_model.specs.Maps.{upd}
use Rattle.dash_model.specs.Config.{Config, line_at}
use Rattle.dash_model.specs.Part.{Processor, Part}
use Rattle.dash_model.specs.Words.{held_by, content, word_in}
use Rattle.dash_model.specs.HartRows.{change, is_line, loaded_from, reserving}
use Rattle.dash_model.specs.HartGuards.{number_of, level_of, LoadsBy}
use Rattle.dash_model.specs.Guard.{Guard}
use Rattle.dash_model.specs.Row.{row}
use Rattle.unit_rows.specs.declared.choice.Choice.TheVariants.{Step}
use Rattle.unit_rows.specs.declared.parts.Local.{Local}
use Rattle.unit_rows.specs.Shown.{PartsView, hart_at, copy_by, reserved_by, HasFront, ShowsHart, Shows, AreSized}
use Rattle.unit_rows.specs.Steps.{HartNeeds, changed_local}
use Rattle.unit_rows.specs.Rows.{DoesChoice, Cannot}
use Rattle.unit_rows.proofs.Same.{at_upd, same_or_not, test_same, test_differ}
use Rattle.unit_rows.proofs.Copies.{held-copy_by}
use Rattle.unit_rows.proofs.Harts.{one_number, shows_change}
use Rattle.unit_rows.proofs.Retiring.{effect, number_there, part_does, part_needs, shown_by, sized_local}
use Rattle.unit_rows.proofs.StoreRows.{does_by}
use Rattle.unit_rows.proofs.StepTold.{LoadTells, step_told}

-- the access of a load that found this word, and what it was shown
abbrev pub load_access : ℕ → ℕ → WordAddr → ℕ → Labels → Bool → ℕ → Seen → Access
load_access h n word mask labels reserve old what = record (bare_access h n (load_op reserve) word) { labels = labels; mask = mask; read = Some (bytes_under mask old); seen = what }

pub seen_access : (h n mask old : ℕ) (word : WordAddr) (labels : Labels) (reserve : Bool) (what : Seen) (a : Access) → Some a ≡ offered h n (needed.Load word mask labels reserve) old false → record a { seen = what } ≡ load_access h n word mask labels reserve old what
seen_access h n mask old word labels reserve what a e =
    let is : a ≡ record (bare_access h n (load_op reserve) word) { labels = labels; mask = mask; read = Some (bytes_under mask old) } = cc in
    ap (λ (b : Access). record b { seen = what }) is

-- what the buffer tells on the part
look_there : (w : Config) (c k h mask : ℕ) (word : WordAddr) (look : Look) (v : PartsView) (x : Local) (p : Part) → h ≡ hart_at w c k → k < w.top.harts → Shows w c v p → x ≡ slice_index_or v.locals k x
    → look_by (newest_of word.0 x.buffer.items) mask ≡ look → look_by (newest_of word.0 (p.harts h).buffer) mask ≡ look
look_there w c k h mask word look v x p e low s is found = ap (λ es. look_by (newest_of word.0 es) mask) (ap (λ i. (p.harts i).buffer) e ∙ (shown_by w c v k x p low s (sym is)).buffer) ∙ found

-- from a store that waits
pub does_stored : (w : Config) (c k n mask value number : ℕ) (g : HartId) (word : WordAddr) (labels : Labels) (v : PartsView) (x : Local) (core : HartState)
    → g.0 ≡ hart_at w c k → k < w.top.harts → AreSized w c v → HartNeeds w v k (needed.Load word mask labels false) → x ≡ slice_index_or v.locals k x → n ≡ x.core.retired + 1
    → look_by (newest_of word.0 x.buffer.items) mask ≡ Hit value number
    → ((need : Need) → IsNext w.image w.top x.core need → Does w.image w.top x.core need (bytes_under mask value) core)
    → DoesChoice w c (Step k) (kind.Load (load_access g.0 n word mask labels false value (seen.Own number)) 0) v (changed_local v k (record x { core = core })) []
unfolding Guard row
does_stored w c k n mask value number g word labels v x core e low sized needs is count found does = record {
  is_of = e;
  does = record {
    done = effect (needed.Load word mask labels false) core;
    happens = λ p s.
        let need : Need = needed.Load word mask labels false in
        let a : Access = load_access g.0 n word mask labels false value (seen.Own number) in
        let hart = shown_by w c v k x p low s (sym is) in
        let m : n ≡ number_of g.0 p = count ∙ number_there w c k g.0 v x p e low s is in
        let look = look_there w c k g.0 mask word (Hit value number) v x p e low s is found in
        record {
          guard = record {
            labels = labels;
            reserve = false;
            next = part_does w c k g.0 (bytes_under mask value) need x core (p.harts (hart_at w c k)) p e low refl hart.core (does_by w v k (bytes_under mask value) need x core needs is does);
            from = subst (λ y. LoadsBy w y a 0 false (effect need core) p) (sym look) (record { plain = refl; level_is = refl; access = record { made = ap (λ i. offered g.0 i need value false) m; seen_is = refl } });
          };
          shows = subst (λ y. Shows w c (changed_local v k (record x { core = core })) (change g.0 (loaded_from w a (line_at w word.0) y (record (p.harts g.0) { core = core })) p)) (sym look)
              (subst (λ i. Shows w c (changed_local v k (record x { core = core })) (change i (record (p.harts i) { core = core }) p)) (sym e)
              (shows_change w c v p k (record x { core = core }) (record (p.harts (hart_at w c k)) { core = core }) low sized.locals s (record { core = refl; reserved = hart.reserved; buffer = hart.buffer; asked = hart.asked; l1 = hart.l1 })));
          sent_is = refl;
        };
  };
}

-- the line enters the L1 that a part tells of, as it enters the code's
same_line : (l i : ℕ) (o : Option ℕ) → is_line l o ≡ true → is_line i o ≡ (l == i)
same_line l i None e = absurd (cc)
same_line l i (Some j) e = let same : j ≡ l = grind (arith, nat_tests) in ap (λ y. y == i) same

flip : (i j : ℕ) → (i == j) ≡ (j == i)
flip i j = grind (arith, nat_tests)

or_and_false : (a b : Bool) → (a || (b && false)) ≡ a
or_and_false true b = refl
or_and_false false true = refl
or_and_false false false = refl

and_true : (b : Bool) → (b && true) ≡ b
and_true true = refl
and_true false = refl

apart_lines : (l i n : ℕ) → (i % n == l % n) ≡ false → (i == l) ≡ false
apart_lines l i n e = test_differ i l (λ same. let t : (i % n == l % n) ≡ true = ap (λ y. y % n == l % n) same ∙ test_same (l % n) in cc)

entered_at : (l i n : ℕ) (l1 : ℕ → Option ℕ) (here there index : Bool) → is_line l (l1 (l % n)) ≡ here → is_line i (l1 (i % n)) ≡ there → (i % n == l % n) ≡ index
    → is_line i (cond index (Some l) (l1 (i % n))) ≡ cond (not here) ((i == l) || (there && not index)) there
entered_at l i n l1 true there true h t e = flip l i ∙ flip i l ∙ sym (same_line l i (l1 (l % n)) h) ∙ ap (λ y. is_line i (l1 y)) (let same : l % n ≡ i % n = grind (arith, nat_tests) in same) ∙ t
entered_at l i n l1 true there false h t e = t
entered_at l i n l1 false there true h t e = flip l i ∙ sym (or_and_false (i == l) there)
entered_at l i n l1 false there false h t e = t ∙ sym (and_true there) ∙ ap (λ b. b || (there && true)) (sym (apart_lines l i n e))

l1_enters : (w : Config) (k l i : ℕ) (b : BusView) (l1 : ℕ → Option ℕ) → k < bus_harts b → b.l1_lines ≡ w.top.l1 → is_holder b k l ≡ true → ((q : ℕ) → is_line q (l1 (q % w.top.l1)) ≡ in_hart_l1 b k q)
    → is_line i (upd l1 (l % w.top.l1) (Some l) (i % w.top.l1)) ≡ in_hart_l1 (after_hart_read b k l) k i
l1_enters w k l i b l1 low size held has =
    entered_at l i w.top.l1 l1 (in_hart_l1 b k l) (in_hart_l1 b k i) (i % w.top.l1 == l % w.top.l1) (has l) (has i) refl
    ∙ ap (λ t. cond (t && not (in_hart_l1 b k l)) ((i == l) || (in_hart_l1 b k i && not (i % w.top.l1 == l % w.top.l1))) (in_hart_l1 b k i)) (sym held)
    ∙ ap (λ n. cond (is_holder b k l && not (in_hart_l1 b k l)) ((i == l) || (in_hart_l1 b k i && not (i % n == l % n))) (in_hart_l1 b k i)) (sym size)
    ∙ ap (λ t. cond (t && (is_holder b k l && not (in_hart_l1 b k l))) ((i == l) || (in_hart_l1 b k i && not (i % b.l1_lines == l % b.l1_lines))) (in_hart_l1 b k i)) (sym (test_same k))
    ∙ sym (in_hart_l1-after_hart_read b k l k i low)

other_l1 : (k l j q : ℕ) (b : BusView) → k < bus_harts b → j ≢ k → in_hart_l1 (after_hart_read b k l) j q ≡ in_hart_l1 b j q
other_l1 k l j q b low differ = in_hart_l1-after_hart_read b k l j q low ∙ ap (λ t. cond (t && (is_holder b k l && not (in_hart_l1 b k l))) ((q == l) || (in_hart_l1 b j q && not (q % b.l1_lines == l % b.l1_lines))) (in_hart_l1 b j q)) (test_differ j k differ)

-- the parts with another hart of this number, which read a line
abbrev pub after_read : PartsView → ℕ → ℕ → Local → PartsView
after_read v k l y = record v { locals = slice_set v.locals k y; bus = after_hart_read v.bus k l }

shows_read : (w : Config) (c k l : ℕ) (v : PartsView) (p : Part) (y : Local) (s : Processor) → k < w.top.harts → AreSized w c v → Shows w c v p → ShowsHart w (after_hart_read v.bus k l) k y s → Shows w c (after_read v k l y) (change (hart_at w c k) s p)
shows_read w c k l v p y s low sized shows hart =
    let inside : k < bus_harts v.bus = subst (λ n. k < n) (sym sized.bus_harts) low in
    let b = after_hart_read v.bus k l in
    record {
      harts = λ j d below. elim (same_or_not j k) [
        | inl e ↦ subst (λ i. ShowsHart w b i (slice_index_or (slice_set v.locals k y) i d) ((change (hart_at w c k) s p).harts (hart_at w c i))) (sym e) (subst (λ x. ShowsHart w b k x ((change (hart_at w c k) s p).harts (hart_at w c k))) (sym (get_or-set_same v.locals k y d (subst (λ n. k < n) (sym sized.locals) low))) (at_upd (λ x. ShowsHart w b k y x) p.harts (hart_at w c k) (hart_at w c k) s (λ i. hart) (λ n. absurd (n refl))))
        | inr o ↦ subst (λ x. ShowsHart w b j x ((change (hart_at w c k) s p).harts (hart_at w c j))) (sym (get_or-set_other v.locals k j y d o)) (at_upd (λ x. ShowsHart w b j (slice_index_or v.locals j d) x) p.harts (hart_at w c k) (hart_at w c j) s (λ i. absurd (o (one_number w c j k i))) (λ n.
            let was = shows.harts j d below in
            record { core = was.core; reserved = was.reserved; buffer = was.buffer; asked = was.asked; l1 = λ q. was.l1 q ∙ sym (other_l1 k l j q v.bus inside o) }))
      ];
      copies = λ q. shows.copies q ∙ ap (copy_by w c) (sym (holding_at-after_hart_read v.bus k l q));
      slots = shows.slots;
      acks = shows.acks;
      homes = shows.homes;
      locks = shows.locks;
    }

-- what a hart's read tells
pub record Read (b : BusView) (k l : ℕ) (d : Line) (level : ℕ) : Type 0 where
  pub held : is_holder b k l ≡ true
  pub copy : copy_of b l ≡ Some d
  pub level_is : level ≡ hart_level b k l

abbrev pair : Line → ℕ → Line × ℕ
pair d n = (d, n)

some_pair : (x d : Line) (m n : ℕ) → Some (pair x m) ≡ Some (pair d n) → (x ≡ d) × (m ≡ n)
some_pair x d m n e = let q : pair x m ≡ pair d n = cc in (ap (λ (z : Line × ℕ). z.0) q, ap (λ (z : Line × ℕ). z.1) q)

read_by : (b : BusView) (k l level : ℕ) (d : Line) (t : Bool) (o : Option Line) → is_holder b k l ≡ t → copy_of b l ≡ o → (if t then option_map {U = Line × ℕ} (λ (copy : Line). (copy, hart_level b k l)) o else None) ≡ Some (d, level) → Read b k l d level
read_by b k l level d true None h is e = absurd (cc)
read_by b k l level d true (Some x) h is e = let both = some_pair x d (hart_level b k l) level e in record { held = h; copy = is ∙ ap (λ y. Some y) both.0; level_is = sym both.1 }
read_by b k l level d false o h is e = absurd (cc)

pub read_tells : (b : BusView) (k l level : ℕ) (d : Line) → hart_read_of b k l ≡ Some (d, level) → Read b k l d level
unfolding hart_read_of
read_tells b k l level d e = read_by b k l level d (is_holder b k l) (copy_of b l) refl refl e

none_held : (k : ℕ) (o : Option Holding) → copy_in o ≡ None → has_hart (holders_in o) k ≡ false
none_held k None e = has_hart-zero k
none_held k (Some h) e = absurd (cc)

not_by : (b : BusView) (k l : ℕ) (t : Bool) (o : Option Line) → is_holder b k l ≡ t → copy_of b l ≡ o → (if t then option_map {U = Line × ℕ} (λ (copy : Line). (copy, hart_level b k l)) o else None) ≡ None → is_holder b k l ≡ false
not_by b k l true None h is e = none_held k (holding_at b l) is
not_by b k l true (Some x) h is e = absurd (cc)
not_by b k l false o h is e = h

pub no_read_tells : (b : BusView) (k l : ℕ) → hart_read_of b k l ≡ None → is_holder b k l ≡ false
unfolding hart_read_of
no_read_tells b k l e = not_by b k l (is_holder b k l) (copy_of b l) refl refl e

pub no_read_keeps : (b : BusView) (k l : ℕ) → hart_read_of b k l ≡ None → after_hart_read b k l ≡ b
unfolding after_hart_read
no_read_keeps b k l e = ap (λ t. if (t && not (in_hart_l1 b k l)) then hart_entered b k l else b) (no_read_tells b k l e)

content_by : (w : Config) (c : ℕ) (d : Line) (o : Option Holding) → copy_in o ≡ Some d → content (copy_by w c o) ≡ d
content_by w c d None e = absurd (cc)
content_by w c d (Some h) e = let t : h.copy ≡ d = cc in t

-- LR reserves its word
abbrev pub reserves : Bool → WordAddr → Option WordAddr → Option WordAddr
reserves reserve word old = if reserve then Some word else old

reserving_by : (word : WordAddr) (r : Option WordAddr) (reserve : Bool) → reserving (load_op reserve) word.0 (reserved_by r) ≡ reserved_by (reserves reserve word r)
reserving_by word r true = refl
reserving_by word r false = refl

-- from the cluster's copy
pub does_held : (w : Config) (c k n mask level : ℕ) (g : HartId) (word : WordAddr) (labels : Labels) (reserve : Bool) (d : Line) (v : PartsView) (x : Local) (core : HartState)
    → g.0 ≡ hart_at w c k → k < w.top.harts → AreSized w c v → HartNeeds w v k (needed.Load word mask labels reserve) → x ≡ slice_index_or v.locals k x → n ≡ x.core.retired + 1
    → look_by (newest_of word.0 x.buffer.items) mask ≡ NoStore → Read v.bus k (line_at w word.0) d level
    → ((need : Need) → IsNext w.image w.top x.core need → Does w.image w.top x.core need (bytes_under mask (word_in w word.0 d)) core)
    → DoesChoice w c (Step k) (kind.Load (load_access g.0 n word mask labels reserve (word_in w word.0 d) (seen.Line d.version)) level) v (after_read v k (line_at w word.0) (record x { core = core; reserved = reserves reserve word x.reserved })) []
unfolding Guard row
does_held w c k n mask level g word labels reserve d v x core e low sized needs is count found read does = record {
  is_of = e;
  does = record {
    done = effect (needed.Load word mask labels reserve) core;
    happens = λ p s.
        let need : Need = needed.Load word mask labels reserve in
        let l : ℕ = line_at w word.0 in
        let y : Local = record x { core = core; reserved = reserves reserve word x.reserved } in
        let a : Access = load_access g.0 n word mask labels reserve (word_in w word.0 d) (seen.Line d.version) in
        let hart = shown_by w c v k x p low s (sym is) in
        let m : n ≡ number_of g.0 p = count ∙ number_there w c k g.0 v x p e low s is in
        let look = look_there w c k g.0 mask word NoStore v x p e low s is found in
        let d_is : content (p.cells l).copy ≡ d = ap content (s.copies l) ∙ content_by w c d (holding_at v.bus l) read.copy in
        record {
          guard = record {
            labels = labels;
            reserve = reserve;
            next = part_does w c k g.0 (bytes_under mask (word_in w word.0 d)) need x core (p.harts (hart_at w c k)) p e low refl hart.core (does_by w v k (bytes_under mask (word_in w word.0 d)) need x core needs is does);
            from = subst (λ z. LoadsBy w z a level reserve (effect need core) p) (sym look) (record {
              holder = subst (λ i. held_by i (p.cells l).copy ≡ true) (sym e) (ap (held_by (hart_at w c k)) (s.copies l) ∙ held-copy_by w c k (holding_at v.bus l) low ∙ read.held);
              level_is = read.level_is ∙ ap (λ t. cond t 1 2) (sym (hart.l1 l)) ∙ ap (λ i. level_of w l (p.harts i).l1) (sym e);
              access = record { made = ap (λ i. offered g.0 i need (word_in w word.0 d) false) m ∙ ap (λ z. offered g.0 (number_of g.0 p) need (word_in w word.0 z) false) (sym d_is); seen_is = ap (λ (z : Line). seen.Line z.version) (sym d_is) };
            });
          };
          shows = subst (λ z. Shows w c (after_read v k l y) (change g.0 (loaded_from w a l z (record (p.harts g.0) { core = core })) p)) (sym look)
              (subst (λ i. Shows w c (after_read v k l y) (change i (record (p.harts i) { core = core; l1 = upd (p.harts i).l1 (l % w.top.l1) (Some l); reserved = reserving (load_op reserve) word.0 (p.harts i).reserved }) p)) (sym e)
              (shows_read w c k l v p y (record (p.harts (hart_at w c k)) { core = core; l1 = upd (p.harts (hart_at w c k)).l1 (l % w.top.l1) (Some l); reserved = reserving (load_op reserve) word.0 (p.harts (hart_at w c k)).reserved }) low sized s (record {
                core = refl;
                reserved = ap (reserving (load_op reserve) word.0) hart.reserved ∙ reserving_by word x.reserved reserve;
                buffer = hart.buffer;
                asked = hart.asked;
                l1 = λ q. l1_enters w k l q v.bus (p.harts (hart_at w c k)).l1 (subst (λ i. k < i) (sym sized.bus_harts) low) sized.l1 read.held hart.l1;
              })));
          sent_is = refl;
        };
  };
}

-- the same, as the code has its values
abbrev pub loaded_parts : PartsView → ℕ → Local → BusView → PartsView
loaded_parts v k y b = record v { locals = slice_set v.locals k y; bus = b }

pub stored_as : (w : Config) (c k n mask value number answer : ℕ) (g : HartId) (word : WordAddr) (labels : Labels) (a : Access) (v : PartsView) (x : Local) (core : HartState)
    → g.0 ≡ hart_at w c k → k < w.top.harts → AreSized w c v → HartNeeds w v k (needed.Load word mask labels false) → x ≡ slice_index_or v.locals k x → n ≡ x.core.retired + 1
    → look_by (newest_of word.0 x.buffer.items) mask ≡ Hit value number → Some a ≡ offered g.0 n (needed.Load word mask labels false) value false → answer ≡ bytes_under mask value
    → ((need : Need) → IsNext w.image w.top x.core need → Does w.image w.top x.core need answer core)
    → DoesChoice w c (Step k) (kind.Load (record a { seen = seen.Own number }) 0) v (changed_local v k (record x { core = core })) []
stored_as w c k n mask value number answer g word labels a v x core e low sized needs is count found made answers does =
    subst (λ y. DoesChoice w c (Step k) (kind.Load y 0) v (changed_local v k (record x { core = core })) []) (sym (seen_access g.0 n mask value word labels false (seen.Own number) a made))
    (does_stored w c k n mask value number g word labels v x core e low sized needs is count found (subst (λ y. (need : Need) → IsNext w.image w.top x.core need → Does w.image w.top x.core need y core) answers does))

pub held_as : (w : Config) (c k n mask level l old answer : ℕ) (g : HartId) (word : WordAddr) (labels : Labels) (reserve : Bool) (d : Line) (a : Access) (b : BusView) (r : Option WordAddr) (v : PartsView) (x : Local) (core : HartState)
    → g.0 ≡ hart_at w c k → k < w.top.harts → AreSized w c v → HartNeeds w v k (needed.Load word mask labels reserve) → x ≡ slice_index_or v.locals k x → n ≡ x.core.retired + 1
    → look_by (newest_of word.0 x.buffer.items) mask ≡ NoStore → l ≡ line_at w word.0 → hart_read_of v.bus k l ≡ Some (d, level) → b ≡ after_hart_read v.bus k l → old ≡ word_in w word.0 d
    → Some a ≡ offered g.0 n (needed.Load word mask labels reserve) old false → answer ≡ bytes_under mask old → r ≡ reserves reserve word x.reserved
    → ((need : Need) → IsNext w.image w.top x.core need → Does w.image w.top x.core need answer core)
    → DoesChoice w c (Step k) (kind.Load (record a { seen = seen.Line d.version }) level) v (loaded_parts v k (record x { core = core; reserved = r }) b) []
held_as w c k n mask level l old answer g word labels reserve d a b r v x core e low sized needs is count found line read bus content_is made answers kept does =
    let m : ℕ = line_at w word.0 in
    let told : Read v.bus k m d level = subst (λ i. Read v.bus k i d level) line (read_tells v.bus k l level d read) in
    let acts : (need : Need) → IsNext w.image w.top x.core need → Does w.image w.top x.core need (bytes_under mask (word_in w word.0 d)) core = subst (λ y. (need : Need) → IsNext w.image w.top x.core need → Does w.image w.top x.core need y core) (answers ∙ ap (bytes_under mask) content_is) does in
    let first = does_held w c k n mask level g word labels reserve d v x core e low sized needs is count found told acts in
    let access : record a { seen = seen.Line d.version } ≡ load_access g.0 n word mask labels reserve (word_in w word.0 d) (seen.Line d.version) = seen_access g.0 n mask old word labels reserve (seen.Line d.version) a made ∙ ap (λ y. load_access g.0 n word mask labels reserve y (seen.Line d.version)) content_is in
    subst (λ y. DoesChoice w c (Step k) (kind.Load (record a { seen = seen.Line d.version }) level) v (loaded_parts v k (record x { core = core; reserved = r }) y) []) (sym (bus ∙ ap (after_hart_read v.bus k) line))
    (subst (λ y. DoesChoice w c (Step k) (kind.Load (record a { seen = seen.Line d.version }) level) v (loaded_parts v k (record x { core = core; reserved = y }) (after_hart_read v.bus k m)) []) (sym kept)
    (subst (λ y. DoesChoice w c (Step k) (kind.Load y level) v (after_read v k m (record x { core = core; reserved = reserves reserve word x.reserved })) []) (sym access) first))

-- the sizes after a read
pub sized_read : (w : Config) (c k l : ℕ) (v : PartsView) (y : Local) (b : BusView) → k < w.top.harts → AreSized w c v → y.buffer.capacity ≡ w.top.buffer → HasFront w y → b ≡ after_hart_read v.bus k l → AreSized w c (loaded_parts v k y b)
sized_read w c k l v y b low sized cap found is =
    let z = sized_local w c v k y low sized cap found in
    subst (λ i. AreSized w c (loaded_parts v k y i)) (sym is) (record {
      locals = z.locals;
      buffers = z.buffers;
      fronts = z.fronts;
      bus_harts = harts-after_hart_read v.bus k l ∙ z.bus_harts;
      l1 = l1_lines-after_hart_read v.bus k l ∙ z.l1;
      l2 = l2_lines-after_hart_read v.bus k l ∙ z.l2;
      slot_harts = z.slot_harts;
      slot_count = z.slot_count;
      slots_in_range = z.slots_in_range;
      acks = z.acks;
      acks_in_range = z.acks_in_range;
      home_cluster = z.home_cluster;
      home_clusters = z.home_clusters;
      home_lines = z.home_lines;
      lock_cluster = z.lock_cluster;
      lock_clusters = z.lock_clusters;
      lock_words = z.lock_words;
      lock_harts = z.lock_harts;
    })

-- a fact, also where it is asked for under a condition
pub if_none : {A : Type 0} (o : Option A) (P : Type 0) → P → IfNone o P
if_none None P h = h
if_none (Some x) P h = tt

-- no load retires while the store that the buffer shows it lacks a byte, an LR while a store to its word waits, and a load from a copy that its hart doesn't hold
pub load_cannot : (w : Config) (c k mask : ℕ) (word : WordAddr) (labels : Labels) (reserve : Bool) (look : Look) (v : PartsView) (x : Local) → k < w.top.harts → x ≡ slice_index_or v.locals k x → HartNeeds w v k (needed.Load word mask labels reserve)
    → look_by (newest_of word.0 x.buffer.items) mask ≡ look → ((p : Part) → Shows w c v p → LoadTells (hart_at w c k) (line_at w word.0) look reserve p → ⊥) → Cannot w c v (Step k)
load_cannot w c k mask word labels reserve look v x low is n found refuses p s e =
    let told = step_told w c k (needed.Load word mask labels reserve) p e.event e.done e.is_of e.guard (part_needs w c v k (needed.Load word mask labels reserve) x p low s n) in
    refuses p s (subst (λ y. LoadTells (hart_at w c k) (line_at w word.0) y reserve p) (look_there w c k (hart_at w c k) mask word look v x p refl low s is found) told)

pub not_held : (w : Config) (c k l : ℕ) (reserve : Bool) (v : PartsView) → k < w.top.harts → is_holder v.bus k l ≡ false → (p : Part) → Shows w c v p → LoadTells (hart_at w c k) l NoStore reserve p → ⊥
not_held w c k l reserve v low free p s told =
    let is : held_by (hart_at w c k) (p.cells l).copy ≡ false = ap (held_by (hart_at w c k)) (s.copies l) ∙ held-copy_by w c k (holding_at v.bus l) low ∙ free in
    cc

pub held_cannot : (w : Config) (c k mask : ℕ) (word : WordAddr) (labels : Labels) (reserve : Bool) (v : PartsView) (x : Local) → k < w.top.harts → x ≡ slice_index_or v.locals k x → HartNeeds w v k (needed.Load word mask labels reserve)
    → ((d : Local) → look_by (newest_of word.0 (slice_index_or v.locals k d).buffer.items) mask ≡ NoStore) → is_holder v.bus k (line_at w word.0) ≡ false → Cannot w c v (Step k)
held_cannot w c k mask word labels reserve v x low is n found free =
    load_cannot w c k mask word labels reserve NoStore v x low is n (ap (λ (y : Local). look_by (newest_of word.0 y.buffer.items) mask) is ∙ found x) (not_held w c k (line_at w word.0) reserve v low free)
