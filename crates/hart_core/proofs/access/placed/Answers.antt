use Rattle.hart_core.proofs.Shifts.{byte_placed, half_placed}
use Rattle.hart_core.proofs.access.placed.Goals as goal

pub returns-in-Byte : goal.returns-in-Byte
returns-in-Byte c = rw c.in-Byte.is (byte_placed _ _)

pub returns-in-Half : goal.returns-in-Half
returns-in-Half c = let even = rw c.in-Half.is at c.requires in rw c.in-Half.is (half_placed _ _ even)
