use Rattle.std.proofs.Common.{refl}
use Rattle.trace_text.specs.Values.{value_of}
use Rattle.trace_text.proofs.Digits.{value_more}
use Rattle.trace_text.proofs.values.value_of.Goals as goal

pub loop-byte-init : goal.loop-byte-init
unfolding value_of
loop-byte-init c = refl

pub loop-byte-preserved : goal.loop-byte-preserved
loop-byte-preserved c =
    let more = value_more c.args.radix c.args.word.now c.loop-byte.byte-index c.loop-byte-test.true in
    cc
