-- The two ends of a lane as contracts see them.
use Rattle.std.specs.Prelude.{ℕ, List, ◌-◌, ◌++◌, [], ◌∷◌}
use denote.RawPtr.{Ptr}
use Rattle.dash_msg.specs.declared.parcel.Parcel.{Parcel}

-- which lane an end is of. Nothing is said of it but whether two ends are of one lane
pub record LaneName : Type 0 where
  pub words : Ptr
  pub slots : Ptr
  pub names : ℕ × (ℕ × ℕ)

-- the sending end
pub record OutletView : Type 0 where
  pub lane : LaneName
  -- every parcel that was sent, the oldest first
  pub sent : List Parcel
  -- the last of these, which wait for room in the ring
  pub spool : List Parcel
  -- how much room in the ring this end knows of
  pub free : ℕ
  -- how many parcels can be sent before memory has to be taken
  pub spare : ℕ

-- the receiving end
pub record InletView : Type 0 where
  pub lane : LaneName
  -- every parcel that was taken, the oldest first
  pub received : List Parcel
  -- the parcels in the ring that this end knows of: they are taken next, in this order
  pub known : List Parcel

-- a parcel was sent
abbrev pub with_sent : OutletView → Parcel → OutletView
with_sent v p = record v { sent = v.sent ++ p ∷ []; spool = v.spool ++ p ∷ []; spare = v.spare - 1 }
