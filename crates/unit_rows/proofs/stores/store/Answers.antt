use Rattle.unit_rows.specs.declared.choice.Choice.TheVariants.{Step}
use Rattle.std.proofs.Common.{[], ◌≡◌, ◌+◌, ◌<◌, length, sym, ap, ◌∙◌, subst}
use Rattle.unit_rows.specs.declared.parts.Local.{Local}
use Rattle.unit_rows.specs.Shown.{config, shown}
use Rattle.unit_rows.proofs.Retiring.{hart_number, same_local, goes_on, sized_local, capacity_of, front_of}
use Rattle.unit_rows.proofs.Fronted.{does_fronted}
use Rattle.unit_rows.proofs.StoreRows.{put_done, does_store}
use Rattle.unit_rows.proofs.stores.store.Goals as goal

pub returns-then-not-fits_store-clause-idle : goal.returns-then-not-fits_store-clause-idle
returns-then-not-fits_store-clause-idle c = c.fits_store.ensures.idle c.if-not-fits_store.true c.args.word c.args.mask c.args.value c.requires.need

pub advance-requires : goal.advance-requires
advance-requires c = record {
  goes = goes_on (config c.args.site.now) (shown c.args.parts.now) c.args.hart c.index_mut-local.result.now c.index_mut-local.ensures.value (λ d. (c.requires.need d).goes);
  front = front_of (config c.args.site.now) c.args.site.now.cluster.0 c.args.hart (shown c.args.parts.now) c.index_mut-local.result.now c.requires.hart c.requires.sized c.index_mut-local.ensures.value;
}

pub returns-clause-did : goal.returns-clause-did
returns-clause-did c =
    let same : c.index.result.now ≡ c.index_mut-local.result.now = (same_local (shown c.args.parts.now) c.args.hart c.index.result.now c.index_mut-local.result.now (subst (λ n. c.args.hart < n) (sym c.requires.sized.locals) c.requires.hart) c.index.ensures c.index_mut-local.ensures.value) in
    let room : length c.index_mut-local.result.now.buffer.items < c.args.site.now.topology.buffer = (let f = c.fits_store.ensures.fits c.if-not-fits_store.false in subst (λ (y : Local). length y.buffer.items < c.args.site.now.topology.buffer) (same_local (shown c.args.parts.now) c.args.hart f.local c.index_mut-local.result.now (subst (λ n. c.args.hart < n) (sym c.requires.sized.locals) c.requires.hart) f.is_local c.index_mut-local.ensures.value) f.room) in
    let cap = capacity_of (config c.args.site.now) c.args.site.now.cluster.0 (shown c.args.parts.now) c.args.hart c.index_mut-local.result.now c.requires.hart c.requires.sized c.index_mut-local.ensures.value in
    let put = put_done c.try_put.result _ _ c.try_put.ensures.fits c.try_put.ensures.put (subst (λ n. length c.index_mut-local.result.now.buffer.items < n) (sym cap) room) in
    does_fronted (config c.args.site.now) c.args.site.now.cluster.0 (Step c.args.hart) _ (shown c.args.parts.now) (shown c.args.parts.now) (shown c.args.parts.now).locals c.args.hart (record c.index_mut-local.result.now { core = c.advance.new.self; buffer = c.try_put.new.self }) c.advance.new.front [] (subst (λ n. c.args.hart < n) (sym c.requires.sized.locals) c.requires.hart)
    (does_store (config c.args.site.now) c.args.site.now.cluster.0 c.args.hart (c.retired-number.result + 1) c.args.mask c.args.value c.hart_id.result c.args.word c.in_ok-access.access (shown c.args.parts.now) c.index_mut-local.result.now c.advance.new.self c.try_put.new.self
    (hart_number c.hart_id.ensures) c.requires.hart c.requires.sized c.requires.need c.index_mut-local.ensures.value (ap (λ n. n + 1) c.retired-number.ensures ∙ ap (λ (y : Local). y.core.retired + 1) same) room
    (sym c.in_ok-access.was ∙ c.offer.ensures) c.advance.ensures.next (ap (λ b. b.items) put))

pub returns-clause-sized : goal.returns-clause-sized
returns-clause-sized c =
    let same : c.index.result.now ≡ c.index_mut-local.result.now = (same_local (shown c.args.parts.now) c.args.hart c.index.result.now c.index_mut-local.result.now (subst (λ n. c.args.hart < n) (sym c.requires.sized.locals) c.requires.hart) c.index.ensures c.index_mut-local.ensures.value) in
    let room : length c.index_mut-local.result.now.buffer.items < c.args.site.now.topology.buffer = (let f = c.fits_store.ensures.fits c.if-not-fits_store.false in subst (λ (y : Local). length y.buffer.items < c.args.site.now.topology.buffer) (same_local (shown c.args.parts.now) c.args.hart f.local c.index_mut-local.result.now (subst (λ n. c.args.hart < n) (sym c.requires.sized.locals) c.requires.hart) f.is_local c.index_mut-local.ensures.value) f.room) in
    let cap = capacity_of (config c.args.site.now) c.args.site.now.cluster.0 (shown c.args.parts.now) c.args.hart c.index_mut-local.result.now c.requires.hart c.requires.sized c.index_mut-local.ensures.value in
    let put = put_done c.try_put.result _ _ c.try_put.ensures.fits c.try_put.ensures.put (subst (λ n. length c.index_mut-local.result.now.buffer.items < n) (sym cap) room) in
    sized_local (config c.args.site.now) c.args.site.now.cluster.0 (shown c.args.parts.now) c.args.hart _ c.requires.hart c.requires.sized (ap (λ b. b.capacity) put ∙ cap) c.advance.ensures.front
