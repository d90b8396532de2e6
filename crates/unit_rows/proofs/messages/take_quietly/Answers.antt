use Rattle.unit_rows.specs.Shown.{config, shown}
use Rattle.unit_rows.proofs.Quiet.{only_unlock}
use Rattle.unit_rows.proofs.messages.take_quietly.Goals as goal

pub returns-in_default : goal.returns-in_default
returns-in_default c = record {
  took = λ from quiet. only_unlock (config c.args.site.now) c.args.site.now.cluster.0 (shown c.args.parts.now) from c.args.msg.now
      c.in_default.not-LockAsk c.in_default.not-Data c.in_default.not-DataEx c.in_default.not-Ack c.in_default.not-TransferAck c.in_default.not-Nak c.in_default.not-LockGrant c.in_default.not-UnlockAck quiet;
  sized = c.requires.sized;
}
