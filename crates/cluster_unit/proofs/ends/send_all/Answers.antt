use Rattle.std.proofs.Common.{◌<◌, take, sym, subst, arith}
use Rattle.std.proofs.lemmas.List.{take_more, length-take-le}
use Rattle.cluster_unit.specs.Ends.{Sends}
use Rattle.cluster_unit.proofs.Sending.{sends_none, sends_more}
use Rattle.cluster_unit.proofs.ends.send_all.Goals as goal

pub loop-sent-init : goal.loop-sent-init
loop-sent-init c = (sends_none c.args.clusters c.args.stamp c.args.outlets.now, grind arith)

pub loop-sent-preserved : goal.loop-sent-preserved
loop-sent-preserved c = (
  subst (λ ss. Sends c.args.clusters c.args.stamp ss c.args.outlets.now c.send.new.outlets) (sym (take_more c.args.messages.now c.loop-sent.sent-index _ c.loop-sent-test.true))
      (sends_more c.args.clusters c.args.stamp (take c.loop-sent.sent-index c.args.messages.now) _ c.args.outlets.now c.loop-sent.outlets c.send.new.outlets c.loop-sent.invariant.0 c.send.ensures),
  grind arith,
)

pub send-requires-clause-spare : goal.send-requires-clause-spare
send-requires-clause-spare c j x low =
    let had = c.requires.spare j x (subst (λ n. j < n) c.loop-sent.auto.outlets low) in
    let left = c.loop-sent.invariant.0.spare j x in
    let sent = length-take-le c.loop-sent.sent-index c.args.messages.now c.loop-sent.invariant.1 in
    let more = c.loop-sent-test.true in
    grind arith
