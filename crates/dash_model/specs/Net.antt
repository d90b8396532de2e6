-- The messages on their way, in the order in which they were sent. A lane is the part with one source, one target and one class.
use Rattle.std.specs.Prelude.{ℕ, ◌==◌, ◌&&◌, Bool, true, false, cond, Option, None, Some, List, [], ◌∷◌, ◌++◌, map}
use Rattle.dash_msg.specs.Classes.{class_of}
use Rattle.dash_msg.specs.declared.classes.Class.{Class}
use Rattle.dash_msg.specs.declared.classes.Class.TheVariants.{Request, Reply}
use Rattle.dash_msg.specs.declared.msg.Msg.{Msg}
use Rattle.dash_msg.specs.declared.parcel.Sent.{Sent}
use Rattle.dash_model.specs.Config.{cluster_id}

-- a message on its way, with the stamp of the event that sent it
pub record Packet : Type 0 where
  pub src : ℕ
  pub dst : ℕ
  pub msg : Msg
  pub stamp : ℕ

-- whether two classes are one
abbrev pub same_class : Class → Class → Bool
same_class Request Request = true
same_class Reply Reply = true
same_class _ _ = false

-- whether a packet is in the lane from a to b of a class
abbrev pub in_lane : ℕ → ℕ → Class → Packet → Bool
in_lane a b k p = (p.src == a) && (p.dst == b) && same_class (class_of p.msg) k

-- a lane: its packets, the oldest first
unfoldable pub lane : ℕ → ℕ → Class → List Packet → List Packet
lane a b k [] = []
lane a b k (p ∷ ps) = cond (in_lane a b k p) (p ∷ lane a b k ps) (lane a b k ps)

-- the first packet of a lane
unfoldable pub head : ℕ → ℕ → Class → List Packet → Option Packet
head a b k [] = None
head a b k (p ∷ ps) = cond (in_lane a b k p) (Some p) (head a b k ps)

-- all but the first packet of a lane
unfoldable pub tail : ℕ → ℕ → Class → List Packet → List Packet
tail a b k [] = []
tail a b k (p ∷ ps) = cond (in_lane a b k p) ps (p ∷ tail a b k ps)

-- the first of a list, and all others
abbrev pub first : List Packet → Option Packet
first [] = None
first (p ∷ ps) = Some p

-- all but the first
abbrev pub rest : List Packet → List Packet
rest [] = []
rest (p ∷ ps) = ps

-- a message to a cluster
abbrev pub to : ℕ → Msg → Sent
to n m = record { to = cluster_id n; msg = m }

-- what cluster a sends, as a packet
abbrev pub packet : ℕ → ℕ → Sent → Packet
packet stamp a s = record { src = a; dst = s.to.0; msg = s.msg; stamp = stamp }

-- with messages that cluster a sends
unfoldable pub send : List Packet → ℕ → ℕ → List Sent → List Packet
send net stamp a ss = net ++ map (packet stamp a) ss

-- a packet from a to b with the stamp u
abbrev pub parcel : ℕ → ℕ → Msg → ℕ → Packet
parcel a b m u = record { src = a; dst = b; msg = m; stamp = u }
