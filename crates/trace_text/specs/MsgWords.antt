-- The message that words stand for, if they stand for one.
use Rattle.std.specs.Prelude.{ℕ, List, [], ◌∷◌, codes, if◌then◌else◌}
use Rattle.std.specs.Str.{bytes_eq}
use Rattle.dash_base.specs.declared.id.LineId.{LineId}
use Rattle.dash_base.specs.declared.line.Line.{Line}
use Rattle.dash_msg.specs.declared.msg.Msg.{Msg}
use Rattle.dash_msg.specs.declared.msg.Msg.TheVariants.{Read, ReadEx, FwdRead, FwdReadEx, Inval, WriteBack, SharingBack, Transfer, LockAsk, Unlock, Data, DataEx, Ack, TransferAck, Nak, LockGrant, UnlockAck}
use Rattle.trace_text.specs.Words.{first, behind}
use Rattle.trace_text.specs.Values.{value_of, number_of, hex_of, hart_of, cluster_of, line_of, address_of}

-- the words behind a line's content
abbrev pub behind_copy : List (List ℕ) → List (List ℕ)
behind_copy ws = behind (behind (behind (behind (behind ws))))

-- a line's content: four words and a version
unfoldable pub copy_of : List (List ℕ) → Line
copy_of ws = record {
  words = hex_of (first ws) ∷ hex_of (first (behind ws)) ∷ hex_of (first (behind (behind ws))) ∷ hex_of (first (behind (behind (behind ws)))) ∷ [];
  version = value_of 10 (first (behind (behind (behind (behind ws)))));
}

-- a message with a line's content, by its name
unfoldable pub copied_msg_of : List ℕ → LineId → List (List ℕ) → Msg
copied_msg_of name line ws =
    let copy = copy_of ws in
    let next = first (behind_copy ws) in
    if bytes_eq name (codes "writeback") then WriteBack line copy
    else if bytes_eq name (codes "data") then Data line copy
    else if bytes_eq name (codes "sharingback") then SharingBack line copy (cluster_of next)
    else DataEx line copy (number_of next)

-- a message for a cluster, or another one with more than a line's number
unfoldable pub sent_for_of : List ℕ → LineId → List (List ℕ) → Msg
sent_for_of name line ws =
    let to = cluster_of (first ws) in
    if bytes_eq name (codes "fwdread") then FwdRead line to
    else if bytes_eq name (codes "fwdreadex") then FwdReadEx line to
    else if bytes_eq name (codes "inval") then Inval line to
    else if bytes_eq name (codes "transfer") then Transfer line to
    else copied_msg_of name line ws

-- a message about a line
unfoldable pub line_msg_of : List ℕ → List (List ℕ) → Msg
line_msg_of name ws =
    let line = line_of (first ws) in
    if bytes_eq name (codes "read") then Read line
    else if bytes_eq name (codes "readex") then ReadEx line
    else if bytes_eq name (codes "ack") then Ack line
    else if bytes_eq name (codes "transferack") then TransferAck line
    else if bytes_eq name (codes "nak") then Nak line
    else sent_for_of name line (behind ws)

-- a message, by its name and its fields in order
unfoldable pub msg_of : List (List ℕ) → Msg
msg_of ws =
    let name = first ws in
    let hart = hart_of (first (behind ws)) in
    let third = behind (behind ws) in
    if bytes_eq name (codes "lockask")
    then LockAsk hart (number_of (first third)) (address_of (first (behind third))) (hex_of (first (behind (behind third))))
    else if bytes_eq name (codes "unlock") then Unlock hart (number_of (first third)) (address_of (first (behind third)))
    else if bytes_eq name (codes "lockgrant") then LockGrant hart
    else if bytes_eq name (codes "unlockack") then UnlockAck hart (hex_of (first third))
    else line_msg_of name (behind ws)
