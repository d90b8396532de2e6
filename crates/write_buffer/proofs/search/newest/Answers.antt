-- A search from the back, whose closure is the test.
use Rattle.std.proofs.Common.{rules, ◌∙◌, ap}
use Rattle.write_buffer.specs.Look.{newest_of}
use Rattle.write_buffer.proofs.Newest.{found_from_back}
use Rattle.write_buffer.proofs.search.newest.Goals as goal

pub returns : goal.returns
returns c =
    let ran = c.rfind.ensures.ran in
    c.copied.ensures ∙ found_from_back _ c.args.word.0 _ (λ x b q k. search rules) ran.0 _ _ _ ran.1 ran.2 ran.3 ran.4
    ∙ ap (newest_of c.args.word.0) c.iter.ensures.rest
