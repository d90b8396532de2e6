use Rattle.dash_run.proofs.Records.{accesses_of-records_of}
use Rattle.dash_run.proofs.laws.printed_accesses_are_the_records.Goals as goal

pub returns : goal.returns
returns c = accesses_of-records_of
