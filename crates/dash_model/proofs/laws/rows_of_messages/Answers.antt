use Rattle.dash_model.proofs.TableMessages.{rows_of_messages}
use Rattle.dash_model.proofs.laws.rows_of_messages.Goals as goal

pub returns : goal.returns
returns c = rows_of_messages
