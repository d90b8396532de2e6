use Rattle.std.proofs.Common.{sym, subst, refl}
use Rattle.queue_lock.specs.View.{LocksView, lock_at}
use Rattle.queue_lock.specs.Steps.{granted}
use Rattle.unit_rows.specs.Shown.{config, shown, AreSized}
use Rattle.unit_rows.proofs.LockWords.{with_locks, sized_locks}
use Rattle.unit_rows.proofs.LockServes.{granted_with}
use Rattle.unit_rows.proofs.lock_words.grant.Goals as goal

pub returns-then-not-fits_grant-clause-did : goal.returns-then-not-fits_grant-clause-did
returns-then-not-fits_grant-clause-did c = (c.fits_grant.ensures.idle c.if-not-fits_grant.true, refl)

pub returns-clause-did : goal.returns-clause-did
returns-clause-did c =
    granted_with (config c.args.site.now) c.args.site.now.cluster.0 (shown c.args.parts.now) c.args.number c.grant-waiter.result c.address-word.result c.served-count.result c.ask_access-access.result c.grant-waiter.new.self c.cluster_of.result
    c.requires (c.fits_grant.ensures.own c.if-not-fits_grant.false) (c.fits_grant.ensures.ready c.if-not-fits_grant.false) c.grant-waiter.ensures.first c.address-word.ensures c.served-count.ensures c.ask_access-access.ensures c.grant-waiter.ensures.after c.cluster_of.ensures

pub returns-clause-sized : goal.returns-clause-sized
returns-clause-sized c =
    let w = config c.args.site.now in
    subst (λ (x : LocksView). AreSized w c.args.site.now.cluster.0 (with_locks (shown c.args.parts.now) x)) (sym c.grant-waiter.ensures.after) (sized_locks w c.args.site.now.cluster.0 (shown c.args.parts.now) c.args.number (granted c.grant-waiter.result (lock_at c.args.parts.now.locks c.args.number)) c.requires)
