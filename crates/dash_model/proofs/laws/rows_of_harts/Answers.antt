use Rattle.dash_model.proofs.TableHarts.{rows_of_harts}
use Rattle.dash_model.proofs.laws.rows_of_harts.Goals as goal

pub returns : goal.returns
returns c = rows_of_harts
