use Rattle.directory.proofs.OpeningWords.{opening_each}
use Rattle.directory.proofs.opening.opening_words.Goals as goal

pub returns-clause-each : goal.returns-clause-each
returns-clause-each c =
    rw c.in_ok-opening_words.ensures.words (opening_each c.args.image.now _)
