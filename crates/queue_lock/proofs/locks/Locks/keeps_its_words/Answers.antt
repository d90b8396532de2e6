use Rattle.std.proofs.Common.{◌≤◌, subst}
use Rattle.queue_lock.specs.View.{IsWhole}
use Rattle.queue_lock.proofs.Places.{whole_at}
use Rattle.queue_lock.proofs.locks.Locks.keeps_its_words.Goals as goal

pub returns : goal.returns
returns c =
    subst IsWhole c.self.view_is
    (record {
      each = λ i. whole_at _ _ _ c.self.inside.harts _ c.self.invariant.each i;
      few = subst (λ n. n ≤ c.self.inside.harts) c.self.invariant.counted c.self.invariant.few;
    })
