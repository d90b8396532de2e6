-- The lines of a source, and the addresses of its labels.
use Rattle.std.specs.Prelude.{ℕ, ◌+◌, ◌==◌, Bool, true, false, List, [], ◌∷◌, Option, Some, None, Result, Ok, Err, option_map, unwrap_or, if◌then◌else◌}
use Rattle.std.specs.Str.{bytes_eq}
use Rattle.asm_words.specs.Mnemonics.{either}
use Rattle.rv32_asm.specs.Lines.{reading}
use Rattle.rv32_asm.specs.Rows.{Reading}
use Rattle.rv32_asm.specs.declared.labels.Definition.{Definition}
use Rattle.rv32_asm.specs.declared.statement.Statement.{Statement}
use Rattle.rv32_asm.specs.declared.statement.Statement.TheVariants as says

-- one byte more in front of the first line
abbrev pub longer : ℕ → List (List ℕ) → List (List ℕ)
longer c [] = (c ∷ []) ∷ []
longer c (l ∷ ls) = (c ∷ l) ∷ ls

-- a newline ends a line
abbrev pub in_front : Bool → ℕ → List (List ℕ) → List (List ℕ)
in_front true c ls = [] ∷ ls
in_front false c ls = longer c ls

-- the lines between the newlines of a source, one more than it has newlines
unfoldable pub lines : List ℕ → List (List ℕ)
lines [] = [] ∷ []
lines (c ∷ cs) = in_front (c == 10) c (lines cs)

-- how many bytes a line puts
abbrev pub size : Statement → ℕ
size (says.Space n) = n
size (says.Put word) = 4
size (says.PutAddress label) = 4
size (says.Branch op rs1 rs2 label) = 4
size (says.Jump rd label) = 4
size (says.Pair rd value) = 8
size (says.PairAddress rd label) = 8
size _ = 0

abbrev pub size_of : Reading → ℕ
size_of (Ok statement) = size statement
size_of (Err cause) = 0

abbrev pub moved_by : ℕ → Option ℕ → Option ℕ
moved_by n place = option_map (λ a. a + n) place

-- the address behind a line, from the address before it; None stands before any segment
abbrev pub moved : Option ℕ → Reading → Option ℕ
moved place (Ok (says.Segment address flags)) = Some address
moved place (Ok statement) = moved_by (size statement) place
moved place (Err cause) = place

abbrev pub defined_at : Option ℕ → ℕ → Definition
defined_at place line = record { line = line; address = unwrap_or place 0 }

-- the definition of a label that a line is
abbrev pub defined_by : Option ℕ → ℕ → Reading → List ℕ → Option Definition
defined_by place line (Ok (says.Label label)) name = if bytes_eq label name then Some (defined_at place line) else None
defined_by place line _ name = None

-- the first definition of a label among lines, the first of which has this number and stands at this address
unfoldable pub definition_in : Option ℕ → ℕ → List (List ℕ) → List ℕ → Option Definition
definition_in place number [] name = None
definition_in place number (l ∷ ls) name =
    either (defined_by place number (reading l) name) (definition_in (moved place (reading l)) (number + 1) ls name)

-- where each label of a source is defined
abbrev pub definitions : List ℕ → List ℕ → Option Definition
definitions source name = definition_in None 1 (lines source) name
