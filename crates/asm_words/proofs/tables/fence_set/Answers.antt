use Rattle.std.proofs.Common.{◌≡◌, refl, arith, ap, sym, ◌∙◌}
use Rattle.rv32_text.specs.Names.{fence_set}
use Rattle.asm_words.specs.Tables.{found_below, fence_set_of}
use Rattle.asm_words.proofs.Found.{none_below}
use Rattle.asm_words.proofs.tables.fence_set.Goals as goal

pub loop-n-init : goal.loop-n-init
unfolding fence_set_of
loop-n-init c = (omega arith, refl)

pub returns-clause-value : goal.returns-clause-value
returns-clause-value c =
    let at_end : c.loop-n.n ≡ 0 = omega arith in
    sym (none_below fence_set c.args.word.now) ∙ ap (λ n. found_below fence_set n c.args.word.now) (sym at_end) ∙ c.loop-n.invariant.1
