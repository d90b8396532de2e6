use Rattle.hart_core.proofs.Shifts.{byte_mask, half_mask, byte_mask_fits, half_mask_fits, place_small, place_even}
use Rattle.hart_core.proofs.access.mask_of.Goals as goal

pub new-requires : goal.new-requires
new-requires c = rw (byte_mask _) (byte_mask_fits _ (place_small _))

pub new-requires-in-Half : goal.new-requires-in-Half
new-requires-in-Half c =
    let even = rw c.in-Half.is at c.requires in rw (half_mask _ even) (half_mask_fits _ (place_small _) (place_even _ even))
