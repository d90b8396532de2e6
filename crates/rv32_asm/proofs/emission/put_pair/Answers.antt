use Rattle.rv32_asm.proofs.Zeros.{adds_equal}
use Rattle.rv32_asm.proofs.emission.put_pair.Goals as goal

pub returns-clause-added : goal.returns-clause-added
returns-clause-added c =
    adds_equal c.upper_word.result c.lower_word.result _ _ c.args.assembly.now c.put_word.new.self c.put_word-2.new.self c.upper_word.ensures c.lower_word.ensures c.in_ok-put_word.ensures.added c.in_ok-put_word-2.ensures.added
