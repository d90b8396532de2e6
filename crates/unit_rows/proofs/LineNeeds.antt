-- What a hart needs of lines: the line that the code finds is the one that the table says is needed.
use Rattle.std.proofs.Common.{◌≡◌, ◌≢◌, ℕ, ◌<◌, ◌==◌, Bool, true, false, not, cond, Option, None, Some, List, [], ◌∷◌, slice_index_or, refl, sym, ap, ap₂, ◌∙◌, subst}
use Rattle.dash_base.specs.declared.id.WordAddr.{WordAddr}
use Rattle.dash_base.specs.declared.id.LineId.{LineId}
use Rattle.dash_base.specs.declared.ops.AmoOp.TheVariants as amo
use Rattle.dash_base.specs.declared.need.Need.{Need}
use Rattle.dash_base.specs.declared.need.Need.TheVariants.{Load, Rmw, Rest}
use Rattle.dash_base.specs.declared.topology.Topology.{Topology}
use Rattle.elf_load.specs.Image.{ImageView}
use Rattle.hart_core.specs.HartState.{HartState, can_go_on}
use Rattle.hart_core.specs.Meaning.{Needs, NeedsIf, IsNext}
use Rattle.hart_core.proofs.LawsOffered.{one_need}
use Rattle.write_buffer.specs.Look.{newest_of, look_by, covers}
use Rattle.write_buffer.specs.declared.entry.Entry.{Entry as Stored}
use Rattle.write_buffer.specs.declared.entry.Look.{Look}
use Rattle.write_buffer.specs.declared.entry.Look.TheVariants.{None as NoStore, Hit, Wait}
use Rattle.snoop_bus.specs.View.{holding_at, is_holder, IsOneMap}
use Rattle.dash_model.specs.Config.{Config, line_id, line_at}
use Rattle.dash_model.specs.Part.{Processor, Part}
use Rattle.dash_model.specs.Words.{held_by, in_m}
use Rattle.dash_model.specs.Wants.{LoadsFrom, NeedsCopy, WritesTo, FrontNeed, HeadIn, StoreNeed}
use Rattle.unit_rows.specs.declared.parts.Local.{Local}
use Rattle.unit_rows.specs.Shown.{PartsView, hart_at, reserved_by, Shows, AreSized}
use Rattle.snoop_bus.specs.View.{owns_alone}
use Rattle.unit_rows.specs.LineNeeds.{line_by, load_line, is_reserved, write_line, store_line, IsNeeded}
use Rattle.unit_rows.proofs.Same.{test_same, is_same}
use Rattle.unit_rows.proofs.Copies.{held-copy_by}
use Rattle.unit_rows.proofs.OneHart.{shown_hart}
use Rattle.unit_rows.proofs.StateM.{in_m-owns_alone}

-- the need of a hart that can go on
pub next_is : (image : ImageView) (t : Topology) (h : HartState) (need other : Need) → IsNext image t h need → Needs image t h other → need ≡ other
next_is image t h need other next n = one_need image t h need other (subst (λ b. NeedsIf b image t h need) n.goes next) n

by_going : (image : ImageView) (t : Topology) (h : HartState) (need : Need) (b : Bool) → NeedsIf b image t h need → need ≢ Rest → Needs image t h need
by_going image t h need true n apart = n
by_going image t h need false n apart = absurd (apart n)

pub next_needs : (image : ImageView) (t : Topology) (h : HartState) (need : Need) → IsNext image t h need → need ≢ Rest → Needs image t h need
next_needs image t h need next apart = by_going image t h need (can_go_on t h) next apart

-- a load
found_if : (b : Bool) (x : Stored) → cond b (Hit x.value x.number) Wait ≡ NoStore → ⊥
found_if true x e = absurd (cc)
found_if false x e = absurd (cc)

unfound : (o : Option Stored) (mask : ℕ) → look_by o mask ≡ NoStore → o ≡ None
unfound None mask e = refl
unfound (Some x) mask e = absurd (found_if (covers x.mask mask) x e)

pub by_look : (w : Config) (word : WordAddr) (l : LineId) (look : Look) → line_by w word look ≡ Some l → (look ≡ NoStore) × (line_at w word.0 ≡ l.0)
by_look w word l NoStore e = let same : line_id (line_at w word.0) ≡ l = cc in (refl, ap (λ (x : LineId). x.0) same)
by_look w word l (Hit x n) e = absurd (cc)
by_look w word l Wait e = absurd (cc)

loads_from : (w : Config) (l : LineId) (s : Processor) (need : Need) → load_line w s.buffer need ≡ Some l → LoadsFrom w l.0 s need
loads_from w l s (Load word mask labels true) e = let t = by_look w word l (look_by (newest_of word.0 s.buffer) mask) e in (t.1, unfound (newest_of word.0 s.buffer) mask t.0)
loads_from w l s (Load word mask labels false) e = let t = by_look w word l (look_by (newest_of word.0 s.buffer) mask) e in (t.1, t.0)
loads_from w l s need e = absurd (cc)

loads_line : (w : Config) (q : ℕ) (s : Processor) (need : Need) → LoadsFrom w q s need → load_line w s.buffer need ≡ Some (line_id q)
loads_line w q s (Load word mask labels true) f = ap (λ o. line_by w word (look_by o mask)) f.1 ∙ ap (λ n. Some (line_id n)) f.0
loads_line w q s (Load word mask labels false) f = ap (line_by w word) f.1 ∙ ap (λ n. Some (line_id n)) f.0
loads_line w q s need f = absurd f

pub loads_something : (w : Config) (es : List Stored) (l : LineId) (need : Need) → load_line w es need ≡ Some l → need ≢ Rest
loads_something w es l need e i = absurd (let t : load_line w es need ≡ None = ap (load_line w es) i in cc)

-- what a hart that needs a copy tells of the code's hart
copy_told : (w : Config) (c k : ℕ) (v : PartsView) (p : Part) (x : Local) (need : Need) → k < w.top.harts → AreSized w c v → x ≡ slice_index_or v.locals k x → IsNext w.image w.top x.core need → Shows w c v p → (q : ℕ) → NeedsCopy w (hart_at w c k) q p → load_line w x.buffer.items need ≡ Some (line_id q)
copy_told w c k v p x need low sized here next shows q n =
    let s = shown_hart w c v p k x low sized shows here in
    let same : need ≡ n.need = next_is w.image w.top x.core need n.need next (subst (λ y. Needs w.image w.top y n.need) s.core n.needs) in
    ap₂ (λ es y. load_line w es y) (sym s.buffer) same ∙ loads_line w q (p.harts (hart_at w c k)) n.need n.loads

pub copy_needed : (w : Config) (c k : ℕ) (v : PartsView) (x : Local) (need : Need) (l : LineId) → k < w.top.harts → AreSized w c v → x ≡ slice_index_or v.locals k x → IsNext w.image w.top x.core need → load_line w x.buffer.items need ≡ Some l → is_holder v.bus k l.0 ≡ false → IsNeeded (λ q p. NeedsCopy w (hart_at w c k) q p) w c v (Some l)
copy_needed w c k v x need l low sized here next line lacks p shows =
    let s = shown_hart w c v p k x low sized shows here in (
      record {
        need = need;
        needs = subst (λ y. Needs w.image w.top y need) (sym s.core) (next_needs w.image w.top x.core need next (loads_something w x.buffer.items l need line));
        loads = loads_from w l (p.harts (hart_at w c k)) need (ap (λ es. load_line w es need) s.buffer ∙ line);
        lacks = ap (held_by (hart_at w c k)) (shows.copies l.0) ∙ held-copy_by w c k (holding_at v.bus l.0) low ∙ lacks;
      },
      λ q n. let same : Some (line_id q) ≡ Some l = sym (copy_told w c k v p x need low sized here next shows q n) ∙ line in let is : line_id q ≡ l = cc in ap (λ (y : LineId). y.0) is,
    )

pub copy_unneeded : (w : Config) (c k : ℕ) (v : PartsView) (x : Local) (need : Need) → k < w.top.harts → AreSized w c v → x ≡ slice_index_or v.locals k x → IsNext w.image w.top x.core need → load_line w x.buffer.items need ≡ None → (p : Part) → Shows w c v p → (q : ℕ) → NeedsCopy w (hart_at w c k) q p → ⊥
copy_unneeded w c k v x need low sized here next line p shows q n = let f : Some (line_id q) ≡ None = sym (copy_told w c k v p x need low sized here next shows q n) ∙ line in absurd (cc)

pub copy_is_held : (w : Config) (c k : ℕ) (v : PartsView) (x : Local) (need : Need) (l : LineId) → k < w.top.harts → AreSized w c v → x ≡ slice_index_or v.locals k x → IsNext w.image w.top x.core need → load_line w x.buffer.items need ≡ Some l → is_holder v.bus k l.0 ≡ true → (p : Part) → Shows w c v p → (q : ℕ) → NeedsCopy w (hart_at w c k) q p → ⊥
copy_is_held w c k v x need l low sized here next line holds p shows q n =
    let same : Some (line_id q) ≡ Some l = sym (copy_told w c k v p x need low sized here next shows q n) ∙ line in
    let is : line_id q ≡ l = cc in
    let f : true ≡ false = sym holds ∙ sym (ap (held_by (hart_at w c k)) (shows.copies l.0) ∙ held-copy_by w c k (holding_at v.bus l.0) low) ∙ ap (λ (y : LineId). held_by (hart_at w c k) (p.cells y.0).copy) (sym is) ∙ n.lacks in
    absurd (cc)

-- an atomic operation
pub unless : (b : Bool) (l m : LineId) → cond b None (Some m) ≡ Some l → (b ≡ false) × (m ≡ l)
unless true l m e = absurd (cc)
unless false l m e = (refl, (let same : m ≡ l = cc in same))

pub reserved_is : (r : Option WordAddr) (word : WordAddr) → is_reserved r word ≡ true → reserved_by r ≡ Some word.0
reserved_is None word e = absurd (cc)
reserved_is (Some a) word e = ap Some (is_same a.0 word.0 e)

pub is_reserved_by : (r : Option WordAddr) (word : WordAddr) → reserved_by r ≡ Some word.0 → is_reserved r word ≡ true
is_reserved_by None word e = absurd (cc)
is_reserved_by (Some a) word e = let same : a.0 ≡ word.0 = cc in ap (λ y. y == word.0) same ∙ test_same word.0

pub not_false : (b : Bool) → not b ≡ false → b ≡ true
not_false true e = refl
not_false false e = absurd (cc)

at_line : (w : Config) (l : LineId) (word : WordAddr) → line_id (line_at w word.0) ≡ l → line_at w word.0 ≡ l.0
at_line w l word e = ap (λ (x : LineId). x.0) e

writes_to : (w : Config) (l : LineId) (s : Processor) (r : Option WordAddr) (need : Need) → s.reserved ≡ reserved_by r → write_line w r need ≡ Some l → WritesTo w l.0 s need
writes_to w l s r (Rmw word amo.Sc operand labels) res e = let t = unless (not (is_reserved r word)) l (line_id (line_at w word.0)) e in (at_line w l word t.1, res ∙ reserved_is r word (not_false (is_reserved r word) t.0))
writes_to w l s r (Rmw word op operand labels) res e = let same : line_id (line_at w word.0) ≡ l = cc in at_line w l word same
writes_to w l s r need res e = absurd (cc)

writes_line : (w : Config) (q : ℕ) (s : Processor) (r : Option WordAddr) (need : Need) → s.reserved ≡ reserved_by r → WritesTo w q s need → write_line w r need ≡ Some (line_id q)
writes_line w q s r (Rmw word amo.Sc operand labels) res f = ap (λ b. cond (not b) None (Some (line_id (line_at w word.0)))) (is_reserved_by r word (sym res ∙ f.1)) ∙ ap (λ n. Some (line_id n)) f.0
writes_line w q s r (Rmw word op operand labels) res f = ap (λ n. Some (line_id n)) f
writes_line w q s r need res f = absurd f

pub writes_something : (w : Config) (r : Option WordAddr) (l : LineId) (need : Need) → write_line w r need ≡ Some l → need ≢ Rest
writes_something w r l need e i = absurd (let t : write_line w r need ≡ None = ap (write_line w r) i in cc)

write_told : (w : Config) (c k : ℕ) (v : PartsView) (p : Part) (x : Local) (need : Need) → k < w.top.harts → AreSized w c v → x ≡ slice_index_or v.locals k x → IsNext w.image w.top x.core need → Shows w c v p → (q : ℕ) → FrontNeed w (hart_at w c k) q p → write_line w x.reserved need ≡ Some (line_id q)
write_told w c k v p x need low sized here next shows q n =
    let s = shown_hart w c v p k x low sized shows here in
    let same : need ≡ n.need = next_is w.image w.top x.core need n.need next (subst (λ y. Needs w.image w.top y n.need) s.core n.needs) in
    ap (write_line w x.reserved) same ∙ writes_line w q (p.harts (hart_at w c k)) x.reserved n.need s.reserved n.writes

pub write_needed : (w : Config) (c k : ℕ) (v : PartsView) (x : Local) (need : Need) (l : LineId) → k < w.top.harts → AreSized w c v → IsOneMap v.bus → x ≡ slice_index_or v.locals k x → IsNext w.image w.top x.core need → write_line w x.reserved need ≡ Some l → owns_alone v.bus k l.0 ≡ false → IsNeeded (λ q p. FrontNeed w (hart_at w c k) q p) w c v (Some l)
write_needed w c k v x need l low sized map here next line lacks p shows =
    let s = shown_hart w c v p k x low sized shows here in (
      record {
        need = need;
        needs = subst (λ y. Needs w.image w.top y need) (sym s.core) (next_needs w.image w.top x.core need next (writes_something w x.reserved l need line));
        writes = writes_to w l (p.harts (hart_at w c k)) x.reserved need s.reserved line;
        lacks = in_m-owns_alone w c k l.0 v p low sized.bus_harts map shows ∙ lacks;
      },
      λ q n. let same : Some (line_id q) ≡ Some l = sym (write_told w c k v p x need low sized here next shows q n) ∙ line in let is : line_id q ≡ l = cc in ap (λ (y : LineId). y.0) is,
    )

pub write_unneeded : (w : Config) (c k : ℕ) (v : PartsView) (x : Local) (need : Need) → k < w.top.harts → AreSized w c v → x ≡ slice_index_or v.locals k x → IsNext w.image w.top x.core need → write_line w x.reserved need ≡ None → (p : Part) → Shows w c v p → (q : ℕ) → FrontNeed w (hart_at w c k) q p → ⊥
write_unneeded w c k v x need low sized here next line p shows q n = let f : Some (line_id q) ≡ None = sym (write_told w c k v p x need low sized here next shows q n) ∙ line in absurd (cc)

-- where the hart is in state M it needs nothing
in_m_already : (w : Config) (c k q : ℕ) (v : PartsView) (p : Part) (l : LineId) → k < w.top.harts → AreSized w c v → IsOneMap v.bus → Shows w c v p → line_id q ≡ l → owns_alone v.bus k l.0 ≡ true → in_m (hart_at w c k) (p.cells q).copy ≡ false → ⊥
in_m_already w c k q v p l low sized map shows is owns lacks =
    let f : true ≡ false = sym owns ∙ sym (in_m-owns_alone w c k l.0 v p low sized.bus_harts map shows) ∙ ap (λ (y : LineId). in_m (hart_at w c k) (p.cells y.0).copy) (sym is) ∙ lacks in
    absurd (cc)

pub write_in_m : (w : Config) (c k : ℕ) (v : PartsView) (x : Local) (need : Need) (l : LineId) → k < w.top.harts → AreSized w c v → IsOneMap v.bus → x ≡ slice_index_or v.locals k x → IsNext w.image w.top x.core need → write_line w x.reserved need ≡ Some l → owns_alone v.bus k l.0 ≡ true → (p : Part) → Shows w c v p → (q : ℕ) → FrontNeed w (hart_at w c k) q p → ⊥
write_in_m w c k v x need l low sized map here next line owns p shows q n =
    let same : Some (line_id q) ≡ Some l = sym (write_told w c k v p x need low sized here next shows q n) ∙ line in
    let is : line_id q ≡ l = cc in
    in_m_already w c k q v p l low sized map shows is owns n.lacks

-- the oldest store
head_line : (w : Config) (l : LineId) (es : List Stored) → store_line w es ≡ Some l → HeadIn w l.0 es
head_line w l [] e = absurd (cc)
head_line w l (x ∷ xs) e = let same : line_id (line_at w x.word.0) ≡ l = cc in at_line w l x.word same

line_of_head : (w : Config) (q : ℕ) (es : List Stored) → HeadIn w q es → store_line w es ≡ Some (line_id q)
line_of_head w q [] f = absurd f
line_of_head w q (x ∷ xs) f = ap (λ n. Some (line_id n)) f

store_told : (w : Config) (c k : ℕ) (v : PartsView) (p : Part) (x : Local) → k < w.top.harts → AreSized w c v → x ≡ slice_index_or v.locals k x → Shows w c v p → (q : ℕ) → StoreNeed w (hart_at w c k) q p → store_line w x.buffer.items ≡ Some (line_id q)
store_told w c k v p x low sized here shows q n =
    let s = shown_hart w c v p k x low sized shows here in
    ap (store_line w) (sym s.buffer) ∙ line_of_head w q (p.harts (hart_at w c k)).buffer n.oldest

pub store_needed : (w : Config) (c k : ℕ) (v : PartsView) (x : Local) (l : LineId) → k < w.top.harts → AreSized w c v → IsOneMap v.bus → x ≡ slice_index_or v.locals k x → store_line w x.buffer.items ≡ Some l → owns_alone v.bus k l.0 ≡ false → IsNeeded (λ q p. StoreNeed w (hart_at w c k) q p) w c v (Some l)
store_needed w c k v x l low sized map here line lacks p shows =
    let s = shown_hart w c v p k x low sized shows here in (
      record {
        oldest = head_line w l (p.harts (hart_at w c k)).buffer (ap (store_line w) s.buffer ∙ line);
        lacks = in_m-owns_alone w c k l.0 v p low sized.bus_harts map shows ∙ lacks;
      },
      λ q n. let same : Some (line_id q) ≡ Some l = sym (store_told w c k v p x low sized here shows q n) ∙ line in let is : line_id q ≡ l = cc in ap (λ (y : LineId). y.0) is,
    )

pub store_unneeded : (w : Config) (c k : ℕ) (v : PartsView) (x : Local) → k < w.top.harts → AreSized w c v → x ≡ slice_index_or v.locals k x → store_line w x.buffer.items ≡ None → (p : Part) → Shows w c v p → (q : ℕ) → StoreNeed w (hart_at w c k) q p → ⊥
store_unneeded w c k v x low sized here line p shows q n = let f : Some (line_id q) ≡ None = sym (store_told w c k v p x low sized here shows q n) ∙ line in absurd (cc)

pub store_in_m : (w : Config) (c k : ℕ) (v : PartsView) (x : Local) (l : LineId) → k < w.top.harts → AreSized w c v → IsOneMap v.bus → x ≡ slice_index_or v.locals k x → store_line w x.buffer.items ≡ Some l → owns_alone v.bus k l.0 ≡ true → (p : Part) → Shows w c v p → (q : ℕ) → StoreNeed w (hart_at w c k) q p → ⊥
store_in_m w c k v x l low sized map here line owns p shows q n =
    let same : Some (line_id q) ≡ Some l = sym (store_told w c k v p x low sized here shows q n) ∙ line in
    let is : line_id q ≡ l = cc in
    in_m_already w c k q v p l low sized map shows is owns n.lacks
