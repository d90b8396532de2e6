use Rattle.dash_model.proofs.BufferFacts.{buffers_hold_uncommitted_stores}
use Rattle.dash_model.proofs.laws.buffers_hold_uncommitted_stores.Goals as goal

pub returns : goal.returns
returns c = buffers_hold_uncommitted_stores
