-- The refused ranges are those with a byte in a segment that may not be written.
use Rattle.std.proofs.Common.{rules}
use Rattle.elf_load.specs.Image.{is_writable}
use Rattle.elf_load.proofs.ReadOnly.{refused_read_only}
use Rattle.elf_load.proofs.image.Image.writable.Goals as goal

pub returns-clause-refused : goal.returns-clause-refused
unfolding is_writable
returns-clause-refused c =
    refused_read_only _ c.args.self.now c.args.address c.args.len (search rules)
