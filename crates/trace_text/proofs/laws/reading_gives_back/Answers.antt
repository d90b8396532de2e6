use Rattle.trace_text.proofs.Unique.{reading_gives_back}
use Rattle.trace_text.proofs.laws.reading_gives_back.Goals as goal

pub returns : goal.returns
returns c = reading_gives_back
