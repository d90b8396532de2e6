-- The class of a message.
use Rattle.dash_msg.specs.declared.classes.Class.{Class}
use Rattle.dash_msg.specs.declared.classes.Class.TheVariants.{Request, Reply}
use Rattle.dash_msg.specs.declared.msg.Msg.{Msg}
use Rattle.dash_msg.specs.declared.msg.Msg.TheVariants.{Read, ReadEx, FwdRead, FwdReadEx, Inval, WriteBack, SharingBack, Transfer, LockAsk, Unlock, Data, DataEx, Ack, TransferAck, Nak, LockGrant, UnlockAck}

-- what answers a request is a reply, and all else a request
abbrev pub class_of : Msg → Class
class_of (Read line) = Request
class_of (ReadEx line) = Request
class_of (FwdRead line to) = Request
class_of (FwdReadEx line to) = Request
class_of (Inval line to) = Request
class_of (WriteBack line copy) = Request
class_of (SharingBack line copy to) = Request
class_of (Transfer line to) = Request
class_of (LockAsk hart number word value) = Request
class_of (Unlock hart number word) = Request
class_of (Data line copy) = Reply
class_of (DataEx line copy count) = Reply
class_of (Ack line) = Reply
class_of (TransferAck line) = Reply
class_of (Nak line) = Reply
class_of (LockGrant hart) = Reply
class_of (UnlockAck hart old) = Reply
