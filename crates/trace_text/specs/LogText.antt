-- The text of a log: a first line, and a line for each event.
use Rattle.std.specs.Prelude.{ℕ, Bool, true, false, List, ◌++◌, codes, decimal, flat_map}
use Rattle.dash_base.specs.declared.end.End.{End}
use Rattle.dash_base.specs.declared.end.End.TheVariants.{Running, Exited, Trapped}
use Rattle.dash_base.specs.declared.id.HartId.{HartId}
use Rattle.dash_event.specs.declared.event.Event.{Event}
use Rattle.dash_event.specs.declared.event.Kind.{Kind}
use Rattle.dash_event.specs.declared.event.Kind.TheVariants as kind
use Rattle.trace_text.specs.Spelling.{newline, space, hex, hex_byte, number_text, cause_text}
use Rattle.trace_text.specs.AccessText.{access_text}
use Rattle.trace_text.specs.MsgText.{msg_text}

-- a kind's name, and a hart
abbrev pub of_hart : List ℕ → HartId → List ℕ
of_hart name hart = name ++ space ++ decimal hart.0

-- a kind's name, a hart, and the address of its instruction
abbrev pub at_pc : List ℕ → HartId → ℕ → List ℕ
at_pc name hart pc = of_hart name hart ++ space ++ hex pc

-- how a hart ended
abbrev pub end_text : End → List ℕ
end_text (Exited code) = codes "exit " ++ hex code
end_text (Trapped cause value) = codes "trap " ++ cause_text cause ++ space ++ hex value
end_text Running = codes "running"

-- whether a slot asked to own its line
abbrev pub own_text : Bool → List ℕ
own_text true = codes "own"
own_text false = codes "read"

-- what happened: its name in small letters, and its fields
abbrev pub kind_text : Kind → List ℕ
kind_text (kind.Alu hart pc) = at_pc (codes "alu") hart pc
kind_text (kind.Fence hart pc) = at_pc (codes "fence") hart pc
kind_text (kind.Hint hart pc slot) = at_pc (codes "hint") hart pc ++ space ++ number_text slot
kind_text (kind.Put hart pc byte) = at_pc (codes "put") hart pc ++ space ++ hex_byte byte
kind_text (kind.Stop hart pc end) = at_pc (codes "stop") hart pc ++ space ++ end_text end
kind_text (kind.Load access level) = codes "load " ++ access_text access ++ space ++ decimal level
kind_text (kind.Store access) = codes "store " ++ access_text access
kind_text (kind.Commit hart number line version) =
    of_hart (codes "commit") hart ++ space ++ decimal number ++ space ++ decimal line.0 ++ space ++ decimal version
kind_text (kind.Rmw access line version) = codes "rmw " ++ access_text access ++ space ++ decimal line.0 ++ space ++ decimal version
kind_text (kind.ScFail access) = codes "scfail " ++ access_text access
kind_text (kind.LockSend hart msg) = of_hart (codes "locksend") hart ++ space ++ msg_text msg
kind_text (kind.BusRead hart line) = of_hart (codes "busread") hart ++ space ++ decimal line.0
kind_text (kind.BusOwn hart line) = of_hart (codes "busown") hart ++ space ++ decimal line.0
kind_text (kind.Evict hart line) = of_hart (codes "evict") hart ++ space ++ decimal line.0
kind_text (kind.Ask slot hart line own) =
    codes "ask " ++ decimal slot ++ space ++ decimal hart.0 ++ space ++ decimal line.0 ++ space ++ own_text own
kind_text (kind.Again slot line) = codes "again " ++ decimal slot ++ space ++ decimal line.0
kind_text (kind.Install slot hart line) = codes "install " ++ decimal slot ++ space ++ decimal hart.0 ++ space ++ decimal line.0
kind_text (kind.Grant access) = codes "grant " ++ access_text access
kind_text (kind.Free from access) = codes "free " ++ decimal from.0 ++ space ++ access_text access
kind_text (kind.Take from msg) = codes "take " ++ decimal from.0 ++ space ++ msg_text msg

-- the line of an event: its stamp, its cluster, and what happened
unfoldable pub event_line : Event → List ℕ
event_line e = decimal e.stamp ++ space ++ decimal e.cluster.0 ++ space ++ kind_text e.kind ++ newline

-- the first line
abbrev pub first_line : List ℕ
first_line = codes "dash log 1" ++ newline

-- the text of a log
abbrev pub log_text : List Event → List ℕ
log_text log = first_line ++ flat_map event_line log
