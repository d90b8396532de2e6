use Rattle.std.proofs.Common.{◌≡◌, ◌+◌, ◌<◌, sym, ap, ◌∙◌, subst}
use Rattle.fence_release.specs.Conditions.{is_drained}
use Rattle.unit_rows.specs.declared.parts.Local.{Local}
use Rattle.unit_rows.specs.Shown.{config, shown}
use Rattle.unit_rows.proofs.Retiring.{hart_number, same_local, sized_local, capacity_of, front_of}
use Rattle.unit_rows.proofs.LockSends.{does_unlock}
use Rattle.unit_rows.proofs.lock_instructions.unlock.Goals as goal

pub returns-then-not-fits_unlock-clause-idle : goal.returns-then-not-fits_unlock-clause-idle
returns-then-not-fits_unlock-clause-idle c = c.fits_unlock.ensures.idle c.if-not-fits_unlock.true c.args.word c.requires.need

pub returns-clause-did : goal.returns-clause-did
returns-clause-did c =
    let f = c.fits_unlock.ensures.fits c.if-not-fits_unlock.false in
    let same : c.index.result.now ≡ f.local = same_local (shown c.args.parts.now) c.args.hart c.index.result.now f.local (subst (λ n. c.args.hart < n) (sym c.requires.sized.locals) c.requires.hart) c.index.ensures f.is_local in
    does_unlock (config c.args.site.now) c.args.site.now.cluster.0 c.args.hart (c.retired-number.result + 1) c.hart_id-id.result c.args.word c.home_of_lock-to.result (shown c.args.parts.now) c.index.result.now c.index_mut.result.now
    (hart_number c.hart_id-id.ensures) c.requires.hart c.requires.sized c.requires.need c.index.ensures c.index_mut.ensures.value (ap (λ (y : Local). y.asked) same ∙ f.unsent) (ap (λ (y : Local). is_drained c.args.hart y.buffer c.args.parts.now.acks) same ∙ f.drained) (ap (λ n. n + 1) c.retired-number.ensures) c.home_of_lock-to.ensures

pub returns-clause-sized : goal.returns-clause-sized
returns-clause-sized c =
    sized_local (config c.args.site.now) c.args.site.now.cluster.0 (shown c.args.parts.now) c.args.hart _ c.requires.hart c.requires.sized
    (capacity_of (config c.args.site.now) c.args.site.now.cluster.0 (shown c.args.parts.now) c.args.hart c.index_mut.result.now c.requires.hart c.requires.sized c.index_mut.ensures.value)
    (front_of (config c.args.site.now) c.args.site.now.cluster.0 c.args.hart (shown c.args.parts.now) c.index_mut.result.now c.requires.hart c.requires.sized c.index_mut.ensures.value)
