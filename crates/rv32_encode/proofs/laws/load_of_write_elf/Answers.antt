-- What holds of the file that was written holds of what the loader answers.
use Rattle.std.proofs.Common.{◌∙◌}
use Rattle.rv32_encode.proofs.WrittenFiles.{answer-image, answer-late}
use Rattle.rv32_encode.proofs.laws.load_of_write_elf.Goals as goal

pub returns-clause-image : goal.returns-clause-image
returns-clause-image c =
    let written = c.in_ok-file.ensures in answer-image _ c.args.map _ _ written.writable (c.deref.ensures.value ∙ written.bytes) c.load.ensures.ok

pub returns-clause-late : goal.returns-clause-late
returns-clause-late c =
    let written = c.in_ok-file.ensures in answer-late _ c.args.map _ _ written.writable (c.deref.ensures.value ∙ written.bytes) c.load.ensures.err
