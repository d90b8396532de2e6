use Rattle.unit_rows.specs.Shown.{config, shown}
use Rattle.unit_rows.proofs.LockSends.{ask_cannot, flipped, flipped_back}
use Rattle.unit_rows.proofs.lock_instructions.fits_ask.Goals as goal

pub returns-clause-fits : goal.returns-clause-fits
returns-clause-fits c = λ t. record { local = c.index.result.now; is_local = c.index.ensures; unsent = flipped c.index.result.now.asked t }

pub returns-clause-idle : goal.returns-clause-idle
returns-clause-idle c = λ f word value n. ask_cannot (config c.args.site.now) c.args.site.now.cluster.0 c.args.hart value word (shown c.args.parts.now) c.index.result.now c.requires.hart c.index.ensures n (flipped_back c.index.result.now.asked f)
