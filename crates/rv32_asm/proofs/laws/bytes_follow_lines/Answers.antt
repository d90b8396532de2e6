use Rattle.rv32_asm.proofs.Contents.{bytes_follow}
use Rattle.rv32_asm.proofs.laws.bytes_follow_lines.Goals as goal

pub returns : goal.returns
returns c = bytes_follow
