use Rattle.std.proofs.Common.{◌≡◌, ◌++◌, OnOk, string_bytes, sym, subst}
use Rattle.dash_msg.specs.declared.msg.Msg.{Msg}
use Rattle.trace_text.specs.MsgText.{msg_text}
use Rattle.trace_text.proofs.messages.push_msg.Goals as goal

pub returns-in-SharingBack-clause-text : goal.returns-in-SharingBack-clause-text
returns-in-SharingBack-clause-text c =
    subst (λ (m : Msg). OnOk c.push_copied_with.result (string_bytes c.push_copied_with.new.text ≡ string_bytes c.args.text.now ++ msg_text m))
    (sym c.in-SharingBack.is) c.push_copied_with.ensures.text

pub returns-in-TransferAck-clause-text : goal.returns-in-TransferAck-clause-text
returns-in-TransferAck-clause-text c =
    subst (λ (m : Msg). OnOk c.push_line-in-TransferAck.result (string_bytes c.push_line-in-TransferAck.new.text ≡ string_bytes c.args.text.now ++ msg_text m))
    (sym c.in-TransferAck.is) c.push_line-in-TransferAck.ensures.text
