use Rattle.std.proofs.Common.{◌≡◌, replicate}
use Rattle.dash_base.specs.Places.{hart_count}
use Rattle.queue_lock.specs.Kept.{opening_word}
use Rattle.queue_lock.proofs.opening.opening_words.Given as goal

-- so many lock words so far
abbrev pub invariant-loop : goal.invariant-loop
invariant-loop l = l.words.items ≡ replicate l.counter (opening_word (hart_count l.topology))
