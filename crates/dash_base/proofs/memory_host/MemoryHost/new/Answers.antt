use Rattle.std.proofs.Common.{Some}
use Rattle.dash_base.proofs.Files.{file_at-files_of}
use Rattle.dash_base.proofs.memory_host.MemoryHost.new.Goals as goal

pub returns-clause-files : goal.returns-clause-files
returns-clause-files c = λ i. Some (λ name. file_at-files_of c.args.files name i)
