use Rattle.std.proofs.Common.{◌≡◌, ap, ◌∙◌, arith, length}
use Rattle.std.proofs.lemmas.List.{length-replicate}
use Rattle.std.specs.Int.{div_ceil}
use Rattle.queue_lock.proofs.AtStart.{words_of_each}
use Rattle.queue_lock.proofs.opening.opening_words.Goals as goal

pub returns-clause-all : goal.returns-clause-all
returns-clause-all c =
    let long = ap length c.loop.invariant ∙ length-replicate c.loop.counter _ in
    let all : c.loop.counter ≡ c.div_ceil-count.result = omega (arith, c.loop.auto.counter-end, c.loop-test.false) in
    words_of_each _ _ _ c.div_ceil-count.result _ c.requires
    (c.div_ceil-count.ensures ∙ ap (λ n. div_ceil n c.args.topology.now.clusters) c.saturating_sub.ensures) (long ∙ all)
