-- The text of a message.
use Rattle.std.specs.Prelude.{ℕ, List, ◌++◌, codes, decimal, slice_index}
use Rattle.dash_base.specs.declared.id.LineId.{LineId}
use Rattle.dash_base.specs.declared.line.Line.{Line}
use Rattle.dash_msg.specs.declared.msg.Msg.{Msg}
use Rattle.dash_msg.specs.declared.msg.Msg.TheVariants.{Read, ReadEx, FwdRead, FwdReadEx, Inval, WriteBack, SharingBack, Transfer, LockAsk, Unlock, Data, DataEx, Ack, TransferAck, Nak, LockGrant, UnlockAck}
use Rattle.trace_text.specs.Spelling.{space, hex}

-- the content of a line: its four words and its version
unfoldable pub copy_text : Line → List ℕ
copy_text d =
    hex (slice_index d.words 0) ++ space ++ hex (slice_index d.words 1) ++ space ++ hex (slice_index d.words 2) ++ space ++ hex (slice_index d.words 3) ++ space ++ decimal d.version

-- a message's name, and a line's number
abbrev pub of_line : List ℕ → LineId → List ℕ
of_line name line = name ++ space ++ decimal line.0

-- a message: its name in small letters, and its fields
abbrev pub msg_text : Msg → List ℕ
msg_text (Read line) = of_line (codes "read") line
msg_text (ReadEx line) = of_line (codes "readex") line
msg_text (FwdRead line to) = of_line (codes "fwdread") line ++ space ++ decimal to.0
msg_text (FwdReadEx line to) = of_line (codes "fwdreadex") line ++ space ++ decimal to.0
msg_text (Inval line to) = of_line (codes "inval") line ++ space ++ decimal to.0
msg_text (WriteBack line copy) = of_line (codes "writeback") line ++ space ++ copy_text copy
msg_text (SharingBack line copy to) = of_line (codes "sharingback") line ++ space ++ copy_text copy ++ space ++ decimal to.0
msg_text (Transfer line to) = of_line (codes "transfer") line ++ space ++ decimal to.0
msg_text (LockAsk hart number word value) = codes "lockask " ++ decimal hart.0 ++ space ++ decimal number ++ space ++ hex word.0 ++ space ++ hex value
msg_text (Unlock hart number word) = codes "unlock " ++ decimal hart.0 ++ space ++ decimal number ++ space ++ hex word.0
msg_text (Data line copy) = of_line (codes "data") line ++ space ++ copy_text copy
msg_text (DataEx line copy count) = of_line (codes "dataex") line ++ space ++ copy_text copy ++ space ++ decimal count
msg_text (Ack line) = of_line (codes "ack") line
msg_text (TransferAck line) = of_line (codes "transferack") line
msg_text (Nak line) = of_line (codes "nak") line
msg_text (LockGrant hart) = codes "lockgrant " ++ decimal hart.0
msg_text (UnlockAck hart old) = codes "unlockack " ++ decimal hart.0 ++ space ++ hex old
