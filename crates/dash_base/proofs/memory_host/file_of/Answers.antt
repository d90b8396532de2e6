use Rattle.std.proofs.Common.{arith}
use Rattle.std.proofs.lemmas.Grind.{common_steps}
use Rattle.dash_base.proofs.Files.{file_at-files_of}
use Rattle.dash_base.proofs.memory_host.file_of.Goals as goal

pub returns-in-Some-clause-found : goal.returns-in-Some-clause-found
returns-in-Some-clause-found c = rw file_at-files_of (grind (arith, common_steps))

pub returns-in-None-clause-absent : goal.returns-in-None-clause-absent
returns-in-None-clause-absent c = rw file_at-files_of (grind (arith, common_steps))
