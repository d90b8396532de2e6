-- A line that a hart needs is one of memory.
use Rattle.std.proofs.Common.{◌≡◌, ℕ, ◌+◌, ◌-◌, ◌*◌, ◌/◌, ◌%◌, ◌<◌, ◌≤◌, ◌&&◌, not, Option, Some, List, [], ◌∷◌, slice_index_or, sym, subst, arith}
use Rattle.dash_base.specs.declared.id.WordAddr.{WordAddr}
use Rattle.dash_base.specs.declared.id.LineId.{LineId}
use Rattle.dash_base.specs.declared.need.Need.{Need}
use Rattle.dash_base.specs.declared.need.Need.TheVariants.{Load, Rmw}
use Rattle.dash_base.specs.Places.{line_count}
use Rattle.hart_core.specs.Access.{IsInMemory, IsProper}
use Rattle.hart_core.specs.HartState.{HartState}
use Rattle.hart_core.specs.Meaning.{IsNext}
use Rattle.hart_core.proofs.LawsOffered.{proper}
use Rattle.write_buffer.specs.Look.{newest_of, look_by}
use Rattle.write_buffer.specs.declared.entry.Entry.{Entry as Stored}
use Rattle.dash_model.specs.Config.{Config, line_id, line_at}
use Rattle.dash_model.specs.LocalHarts.{AreOfMemory}
use Rattle.unit_rows.specs.declared.parts.Local.{Local}
use Rattle.unit_rows.specs.Shown.{PartsView}
use Rattle.unit_rows.specs.AskFits.{StoresAreOfMemory}
use Rattle.unit_rows.specs.LineNeeds.{is_sc, is_reserved, load_line, write_line, store_line}
use Rattle.unit_rows.proofs.LineNeeds.{by_look, loads_something, unless, writes_something, next_needs}

-- the line of a word of memory
inside_by : (b m a : ℕ) → b ≤ a → a + 4 ≤ b + m → m % 65536 ≡ 0 → (a - b) / 16 < m / 16
inside_by b m a above below pages =
    let low : b ≤ a = above in
    let high : a + 4 ≤ b + m = below in
    let whole : 16 * (m / 16) ≡ m = omega arith in
    omega arith

word_inside : (w : Config) (word : WordAddr) → IsInMemory w.top word.0 4 → line_at w word.0 < line_count w.top
word_inside w word at = inside_by w.top.base w.top.memory word.0 at.above at.below w.top.memory_in_pages

-- of a load, and of an atomic operation
load_by : (w : Config) (es : List Stored) (l : LineId) (need : Need) → IsProper w.top need → load_line w es need ≡ Some l → l.0 < line_count w.top
load_by w es l (Load word mask labels reserve) at e = subst (λ n. n < line_count w.top) (by_look w word l (look_by (newest_of word.0 es) mask) e).1 (word_inside w word at)
load_by w es l need at e = absurd (cc)

write_by : (w : Config) (r : Option WordAddr) (l : LineId) (need : Need) → IsProper w.top need → write_line w r need ≡ Some l → l.0 < line_count w.top
write_by w r l (Rmw word op operand labels) at e = subst (λ (y : LineId). y.0 < line_count w.top) (unless (is_sc op && not (is_reserved r word)) l (line_id (line_at w word.0)) e).1 (word_inside w word at)
write_by w r l need at e = absurd (cc)

pub load_inside : (w : Config) (h : HartState) (es : List Stored) (need : Need) (l : LineId) → IsNext w.image w.top h need → load_line w es need ≡ Some l → l.0 < line_count w.top
load_inside w h es need l next e = load_by w es l need (proper w.image w.top h need (next_needs w.image w.top h need next (loads_something w es l need e))) e

pub write_inside : (w : Config) (h : HartState) (r : Option WordAddr) (need : Need) (l : LineId) → IsNext w.image w.top h need → write_line w r need ≡ Some l → l.0 < line_count w.top
write_inside w h r need l next e = write_by w r l need (proper w.image w.top h need (next_needs w.image w.top h need next (writes_something w r l need e))) e

-- of the oldest store
store_by : (w : Config) (es : List Stored) (l : LineId) → AreOfMemory w es → store_line w es ≡ Some l → l.0 < line_count w.top
store_by w [] l at e = absurd (cc)
store_by w (x ∷ xs) l at e = let same : line_id (line_at w x.word.0) ≡ l = cc in subst (λ (y : LineId). y.0 < line_count w.top) same (word_inside w x.word at.0)

pub store_inside : (w : Config) (k : ℕ) (v : PartsView) (x : Local) (l : LineId) → k < w.top.harts → x ≡ slice_index_or v.locals k x → store_line w x.buffer.items ≡ Some l → StoresAreOfMemory w v → l.0 < line_count w.top
store_inside w k v x l low here e stores = store_by w x.buffer.items l (subst (λ (y : Local). AreOfMemory w y.buffer.items) (sym here) (stores.inside k x low)) e
