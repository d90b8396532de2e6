use Rattle.hart_core.proofs.Needed.{store_has_byte}
use Rattle.hart_core.proofs.laws.store_has_byte.Goals as goal

pub returns : goal.returns
returns c = store_has_byte
