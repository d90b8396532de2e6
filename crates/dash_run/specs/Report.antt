-- The text of a report.
use Rattle.std.specs.Prelude.{ℕ, zero, suc, ◌+◌, Bool, true, false, nat_lt, if◌then◌else◌, List, [], ◌∷◌, ◌++◌, length, slice_range, codes, decimal, flat_map}
use Rattle.dash_base.specs.declared.end.End.{End}
use Rattle.dash_base.specs.declared.end.End.TheVariants.{Running, Exited, Trapped}
use Rattle.dash_base.specs.declared.topology.Topology.{Topology}
use Rattle.dash_event.specs.declared.access.Access.{Access}
use Rattle.dash_event.specs.declared.event.Event.{Event}
use Rattle.hart_core.specs.HartState.{HartState}
use Rattle.dash_model.specs.Config.{Config, all_harts}
use Rattle.dash_model.specs.Machine.{Machine}
use Rattle.dash_model.specs.Complete.{hart_at}
use Rattle.dash_event.specs.Records.{accesses_of}
use Rattle.trace_text.specs.Spelling.{newline, hex, cause_text}
use Rattle.trace_text.specs.AccessText.{access_text}
use Rattle.trace_text.specs.LogText.{log_text}

-- how a hart that may have instructions left rests
abbrev pub end_text : Bool → End → List ℕ
end_text has_left (Exited code) = codes "exit " ++ hex code
end_text has_left (Trapped cause value) = codes "trap " ++ cause_text cause ++ codes " " ++ hex value
end_text has_left Running = if has_left then codes "waits" else codes "budget"

unfoldable pub console_section : List ℕ → List ℕ
console_section console =
    codes "console " ++ decimal (length console) ++ newline ++ console ++ newline

unfoldable pub hart_line : Topology → ℕ → HartState → List ℕ
hart_line t number h =
    codes "hart " ++ decimal number ++ codes " " ++ end_text (nat_lt h.retired t.budget) h.end ++ codes " pc " ++ hex h.pc ++ codes " retired " ++ decimal h.retired ++ newline

-- each word after a space
abbrev pub words_text : List ℕ → List ℕ
words_text words = flat_map (λ n. codes " " ++ hex n) words

-- eight registers, after the name of the first of them
unfoldable pub register_line : List ℕ → List ℕ → List ℕ
register_line label words = label ++ words_text words ++ newline

-- eight registers from one on
abbrev pub eight_from : ℕ → List ℕ → List ℕ
eight_from first registers = slice_range registers first (first + 8)

-- the lines of one hart
unfoldable pub hart_text : Topology → ℕ → HartState → List ℕ
hart_text t number h =
    hart_line t number h
    ++ register_line (codes "x0") (eight_from 0 h.registers) ++ register_line (codes "x8") (eight_from 8 h.registers)
    ++ register_line (codes "x16") (eight_from 16 h.registers) ++ register_line (codes "x24") (eight_from 24 h.registers)

-- the lines of the first harts, so many
abbrev pub harts_text : Topology → (ℕ → HartState) → ℕ → List ℕ
harts_text t hart zero = []
harts_text t hart (suc n) = harts_text t hart n ++ hart_text t n (hart n)

unfoldable pub status_line : ℕ → List ℕ
status_line status = codes "status " ++ decimal status ++ newline

-- the lines of all harts, by their numbers, and the exit status
unfoldable pub harts_section : Topology → (ℕ → HartState) → ℕ → ℕ → List ℕ
harts_section t hart count status = harts_text t hart count ++ status_line status

-- the line of an access
unfoldable pub access_line : Access → List ℕ
access_line a = access_text a ++ newline

unfoldable pub access_section : List Access → List ℕ
access_section accesses =
    codes "accesses " ++ decimal (length accesses) ++ newline ++ flat_map access_line accesses

-- hart h of a machine in this state
abbrev pub hart_of : Config → Machine → ℕ → HartState
hart_of w m h = (hart_at w h m).core

-- the section with the text of the log, where it is asked for
abbrev pub log_sections : Bool → List Event → List (List ℕ)
log_sections true log = log_text log ∷ []
log_sections false log = []

-- the report of a run that ended in this state with this exit status and log: its three sections, and a fourth with the log where that is asked for
abbrev pub report_of : Bool → Config → Machine → ℕ → List Event → List (List ℕ)
report_of with_log w m status log =
    console_section m.console ∷ harts_section w.top (hart_of w m) (all_harts w) status ∷ access_section (accesses_of log) ∷ log_sections with_log log
