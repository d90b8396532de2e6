use Rattle.dash_model.proofs.TableAccesses.{rows_of_accesses}
use Rattle.dash_model.proofs.laws.rows_of_accesses.Goals as goal

pub returns : goal.returns
returns c = rows_of_accesses
