use Rattle.std.proofs.Common.{refl, arith, take, ap, sym, ◌∙◌}
use Rattle.std.proofs.Math.Seq.{take-length}
use Rattle.asm_words.specs.Numbers.{hex_value}
use Rattle.asm_words.proofs.Values.{hex_more, hex_small}
use Rattle.asm_words.proofs.numbers.hex_value.Goals as goal

pub loop-c-init : goal.loop-c-init
unfolding hex_value
loop-c-init c = refl

pub overflow_mul-value : goal.overflow_mul-value
overflow_mul-value c =
    let small = hex_small (take c.loop-c.c-index c.args.digits.now) in
    omega (arith, c.loop-c.invariant)

pub overflow_add-value : goal.overflow_add-value
overflow_add-value c =
    let small = hex_small (take c.loop-c.c-index c.args.digits.now) in
    omega (arith, c.loop-c.invariant)

pub loop-c-preserved : goal.loop-c-preserved
loop-c-preserved c =
    let more = hex_more c.args.digits.now c.loop-c.c-index c.loop-c-test.true in
    cc
