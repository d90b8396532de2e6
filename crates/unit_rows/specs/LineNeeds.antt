-- Which line a hart needs: for its instruction, to read it or to own it, or for its oldest store.
use Rattle.std.specs.Prelude.{◌≡◌, ℕ, ◌==◌, ◌&&◌, Bool, true, false, not, cond, Option, Some, None, List, slice_get}
use Rattle.dash_base.specs.declared.id.WordAddr.{WordAddr}
use Rattle.dash_base.specs.declared.id.LineId.{LineId}
use Rattle.dash_base.specs.declared.ops.AmoOp.{AmoOp}
use Rattle.dash_base.specs.declared.ops.AmoOp.TheVariants.{Sc}
use Rattle.dash_base.specs.declared.need.Need.{Need}
use Rattle.dash_base.specs.declared.need.Need.TheVariants.{Load, Rmw}
use Rattle.dash_base.specs.Places.{line_of}
use Rattle.write_buffer.specs.Look.{newest_of, look_by}
use Rattle.write_buffer.specs.declared.entry.Entry.{Entry as Stored}
use Rattle.write_buffer.specs.declared.entry.Look.{Look}
use Rattle.write_buffer.specs.declared.entry.Look.TheVariants.{None as NoStore}
use Rattle.dash_model.specs.Config.{Config}
use Rattle.dash_model.specs.Part.{Part}
use Rattle.unit_rows.specs.Shown.{PartsView, Shows}

-- the line of a word of which the buffer says nothing
abbrev pub line_by : Config → WordAddr → Look → Option LineId
line_by w word NoStore = Some (line_of w.top word)
line_by w word look = None

-- the line that an instruction loads from
abbrev pub load_line : Config → List Stored → Need → Option LineId
load_line w es (Load word mask labels reserve) = line_by w word (look_by (newest_of word.0 es) mask)
load_line w es need = None

-- whether an operation is SC
abbrev pub is_sc : AmoOp → Bool
is_sc Sc = true
is_sc op = false

-- whether this word is reserved
abbrev pub is_reserved : Option WordAddr → WordAddr → Bool
is_reserved None word = false
is_reserved (Some a) word = a.0 == word.0

-- whether an operation is an SC whose word is not reserved, which fails
abbrev pub fails : AmoOp → Option WordAddr → WordAddr → Bool
fails op r word = is_sc op && not (is_reserved r word)

-- the line that an instruction writes to at once, where an SC has reserved its word
abbrev pub write_line : Config → Option WordAddr → Need → Option LineId
write_line w r (Rmw word op operand labels) = cond (fails op r word) None (Some (line_of w.top word))
write_line w r need = None

-- the line of a store, if there is one
abbrev pub line_in : Config → Option Stored → Option LineId
line_in w None = None
line_in w (Some e) = Some (line_of w.top e.word)

-- the line of the oldest store
abbrev pub store_line : Config → List Stored → Option LineId
store_line w es = line_in w (slice_get es 0)

-- whether this line was found
abbrev pub is_this : Option LineId → ℕ → Bool
is_this None l = false
is_this (Some m) l = m.0 == l

-- on each part that the parts show this line is needed and no other one, or no line is
abbrev pub IsNeeded : (ℕ → Part → Type 0) → Config → ℕ → PartsView → Option LineId → Type 0
IsNeeded Needs w c v None = (p : Part) → Shows w c v p → (q : ℕ) → Needs q p → ⊥
IsNeeded Needs w c v (Some l) = (p : Part) → Shows w c v p → Needs l.0 p × ((q : ℕ) → Needs q p → q ≡ l.0)
