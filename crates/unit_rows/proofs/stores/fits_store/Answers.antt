use Rattle.std.proofs.Common.{arith}
use Rattle.std.proofs.lemmas.Bool.Decides.{nat_tests}
use Rattle.unit_rows.specs.Shown.{config, shown}
use Rattle.unit_rows.proofs.StoreRows.{store_cannot}
use Rattle.unit_rows.proofs.stores.fits_store.Goals as goal

pub returns-clause-fits : goal.returns-clause-fits
returns-clause-fits c = λ t. record { local = c.index-local.result.now; is_local = c.index-local.ensures; room = (let n = c.len.ensures.len in grind (arith, nat_tests)) }

pub returns-clause-idle : goal.returns-clause-idle
returns-clause-idle c = λ f word mask value n.
    store_cannot (config c.args.site.now) c.args.site.now.cluster.0 c.args.hart mask value word (shown c.args.parts.now) c.index-local.result.now c.requires.hart c.index-local.ensures n (let n = c.len.ensures.len in grind (arith, nat_tests))
