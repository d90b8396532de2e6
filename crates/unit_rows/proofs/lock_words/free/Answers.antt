use Rattle.std.proofs.Common.{◌≡◌, ◌∙◌, sym, subst, Some}
use Rattle.queue_lock.specs.View.{LocksView, lock_at}
use Rattle.queue_lock.specs.Steps.{freed}
use Rattle.unit_rows.specs.LockWords.{own_number}
use Rattle.unit_rows.specs.Shown.{config, shown, AreSized}
use Rattle.unit_rows.proofs.LockWords.{with_locks, sized_locks, found}
use Rattle.unit_rows.proofs.LockServes.{freed_with}
use Rattle.unit_rows.proofs.lock_words.free.Goals as goal

pub returns-clause-did : goal.returns-clause-did
returns-clause-did c =
    let w = config c.args.site.now in
    let at : own_number w c.args.site.now.cluster.0 c.args.word ≡ Some c.unwrap-place.result = sym c.own_number.ensures ∙ c.unwrap-place.ensures in
    freed_with w c.args.site.now.cluster.0 (shown c.args.parts.now) c.args.from c.args.hart c.args.number c.args.word c.unwrap-place.result c.free-old.result c.served-count.result c.unlock_access-access.result c.free-old.new.self c.cluster_of.result
    c.requires.sized c.requires.serves (found w c.args.site.now.cluster.0 c.args.word c.unwrap-place.result at).number c.free-old.ensures.old c.served-count.ensures c.unlock_access-access.ensures c.free-old.ensures.after c.cluster_of.ensures

pub returns-clause-sized : goal.returns-clause-sized
returns-clause-sized c =
    let w = config c.args.site.now in
    subst (λ (x : LocksView). AreSized w c.args.site.now.cluster.0 (with_locks (shown c.args.parts.now) x)) (sym c.free-old.ensures.after) (sized_locks w c.args.site.now.cluster.0 (shown c.args.parts.now) c.unwrap-place.result (freed (lock_at c.args.parts.now.locks c.unwrap-place.result)) c.requires.sized)
