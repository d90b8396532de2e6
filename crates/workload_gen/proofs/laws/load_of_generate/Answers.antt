use Rattle.std.proofs.Common.{refl}
use Rattle.workload_gen.proofs.Loaded.{answer_refused, small}
use Rattle.workload_gen.proofs.laws.load_of_generate.Goals as goal

pub load_of_write_elf-requires-clause-small : goal.load_of_write_elf-requires-clause-small
load_of_write_elf-requires-clause-small c = small _ c.args.seed c.in_ok-program.ensures

pub returns-clause-refusal : goal.returns-clause-refusal
returns-clause-refusal c =
    answer_refused c.args.seed _ _ c.load_of_write_elf.result c.in_ok-program.ensures refl refl c.load_of_write_elf.ensures.late c.load_of_write_elf.ensures.refusal
