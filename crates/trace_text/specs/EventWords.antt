-- The event that the words of a line stand for, if they stand for one.
use Rattle.std.specs.Prelude.{ℕ, ◌%◌, List, codes, if◌then◌else◌}
use Rattle.std.specs.Str.{bytes_eq}
use Rattle.dash_base.specs.declared.end.End.{End}
use Rattle.dash_base.specs.declared.end.End.TheVariants.{Running, Exited, Trapped}
use Rattle.dash_event.specs.declared.event.Event.{Event}
use Rattle.dash_event.specs.declared.event.Kind.{Kind}
use Rattle.dash_event.specs.declared.event.Kind.TheVariants as kind
use Rattle.trace_text.specs.Words.{first, behind}
use Rattle.trace_text.specs.Values.{value_of, number_of, hex_of, hart_of, cluster_of, line_of, slot_of, cause_of}
use Rattle.trace_text.specs.AccessWords.{access_of, behind_access}
use Rattle.trace_text.specs.MsgWords.{msg_of}

-- how a hart ended
unfoldable pub end_of : List (List ℕ) → End
end_of ws =
    if bytes_eq (first ws) (codes "exit") then Exited (hex_of (first (behind ws)))
    else if bytes_eq (first ws) (codes "trap") then Trapped (cause_of (first (behind ws))) (hex_of (first (behind (behind ws))))
    else Running

-- what an instruction without an access did
unfoldable pub retired_of : List ℕ → List (List ℕ) → Kind
retired_of name ws =
    let hart = hart_of (first ws) in
    let pc = hex_of (first (behind ws)) in
    let third = behind (behind ws) in
    if bytes_eq name (codes "alu") then kind.Alu hart pc
    else if bytes_eq name (codes "fence") then kind.Fence hart pc
    else if bytes_eq name (codes "hint") then kind.Hint hart pc (slot_of (first third))
    else if bytes_eq name (codes "put") then kind.Put hart pc (hex_of (first third) % 256)
    else kind.Stop hart pc (end_of third)

-- what a request slot did, or such an instruction
unfoldable pub asked_of : List ℕ → List (List ℕ) → Kind
asked_of name ws =
    let slot = number_of (first ws) in
    let second = first (behind ws) in
    let third = first (behind (behind ws)) in
    if bytes_eq name (codes "ask")
    then kind.Ask slot (hart_of second) (line_of third) (bytes_eq (first (behind (behind (behind ws)))) (codes "own"))
    else if bytes_eq name (codes "again") then kind.Again slot (line_of second)
    else if bytes_eq name (codes "install") then kind.Install slot (hart_of second) (line_of third)
    else retired_of name ws

-- what happened to a line in a cluster's caches, or what a slot did
unfoldable pub cached_of : List ℕ → List (List ℕ) → Kind
cached_of name ws =
    let hart = hart_of (first ws) in
    let line = line_of (first (behind ws)) in
    if bytes_eq name (codes "busread") then kind.BusRead hart line
    else if bytes_eq name (codes "busown") then kind.BusOwn hart line
    else if bytes_eq name (codes "evict") then kind.Evict hart line
    else if bytes_eq name (codes "commit")
    then kind.Commit hart (number_of (first (behind ws))) (line_of (first (behind (behind ws)))) (value_of 10 (first (behind (behind (behind ws)))))
    else asked_of name ws

-- a message that was sent or taken, a lock word freed, or what happened in the caches
unfoldable pub passed_of : List ℕ → List (List ℕ) → Kind
passed_of name ws =
    if bytes_eq name (codes "locksend") then kind.LockSend (hart_of (first ws)) (msg_of (behind ws))
    else if bytes_eq name (codes "free") then kind.Free (cluster_of (first ws)) (access_of (behind ws))
    else if bytes_eq name (codes "take") then kind.Take (cluster_of (first ws)) (msg_of (behind ws))
    else cached_of name ws

-- what happened, by its name and its fields in order
unfoldable pub kind_of : List (List ℕ) → Kind
kind_of ws =
    let name = first ws in
    let access = access_of (behind ws) in
    let rest = behind_access (behind ws) in
    if bytes_eq name (codes "load") then kind.Load access (number_of (first rest))
    else if bytes_eq name (codes "store") then kind.Store access
    else if bytes_eq name (codes "rmw") then kind.Rmw access (line_of (first rest)) (value_of 10 (first (behind rest)))
    else if bytes_eq name (codes "scfail") then kind.ScFail access
    else if bytes_eq name (codes "grant") then kind.Grant access
    else passed_of name (behind ws)

-- an event: its stamp, its cluster, and what happened
unfoldable pub event_of : List (List ℕ) → Event
event_of ws = record {
  stamp = value_of 10 (first ws);
  cluster = cluster_of (first (behind ws));
  kind = kind_of (behind (behind ws));
}
