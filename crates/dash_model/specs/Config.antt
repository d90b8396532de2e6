-- What a machine is made from, and its numbers: harts, lines and their homes, lock words, and request slots.
use Rattle.std.specs.Prelude.{ℕ, ◌+◌, ◌-◌, ◌*◌, ◌/◌, ◌%◌, ◌==◌, ◌&&◌, Bool, [], ◌∷◌}
use Rattle.dash_base.specs.declared.id.ClusterId.{ClusterId}
use Rattle.dash_base.specs.declared.id.HartId.{HartId}
use Rattle.dash_base.specs.declared.id.LineId.{LineId}
use Rattle.dash_base.specs.declared.line.Line.{Line}
use Rattle.dash_base.specs.declared.topology.Topology.{Topology}
use Rattle.dash_base.specs.Places.{hart_count, cluster_of as hart_cluster, line_count, line_of, address_of, lock_number, home_among}
use Rattle.dash_base.specs.Places as places
use Rattle.elf_load.specs.Image.{ImageView, opening_word}
use Rattle.hart_core.specs.Access.{in_locks}

-- what a run is of: an image, and a topology
pub record Config : Type 0 where
  pub image : ImageView
  pub top : Topology

-- numbers as names of clusters, lines and harts
abbrev pub cluster_id : ℕ → ClusterId
cluster_id n = record { 0 = n }

abbrev pub line_id : ℕ → LineId
line_id n = record { 0 = n }

abbrev pub hart_id : ℕ → HartId
hart_id n = record { 0 = n }

-- how many harts the machine has
abbrev pub all_harts : Config → ℕ
all_harts w = hart_count w.top

-- the cluster of a hart
abbrev pub cluster_of : Config → ℕ → ℕ
cluster_of w h = (hart_cluster w.top (hart_id h)).0

-- how many lines memory has
abbrev pub lines : Config → ℕ
lines w = line_count w.top

-- the home of a line
abbrev pub home_of : Config → ℕ → ℕ
home_of w l = home_among w.top.clusters l

-- the line of an address
abbrev pub line_at : Config → ℕ → ℕ
line_at w address = (line_of w.top (record { 0 = address })).0

-- the place of an address's word in its line
abbrev pub place_of : Config → ℕ → ℕ
place_of w address = (address - w.top.base) % 16 / 4

-- the content that a line opens with, at version 0
abbrev pub opening_line : Config → ℕ → Line
opening_line w l = record {
  words = opening_word w.image (address_of w.top l) ∷ opening_word w.image (address_of w.top l + 4) ∷ opening_word w.image (address_of w.top l + 8) ∷ opening_word w.image (address_of w.top l + 12) ∷ [];
  version = 0;
}

-- whether an address is that of a lock word
abbrev pub is_lock : Config → ℕ → Bool
is_lock w address = in_locks w.top address && (address % 4 == 0)

-- the number of the lock word at an address
abbrev pub lock_at : Config → ℕ → ℕ
lock_at w address = lock_number w.top address

-- the home of a lock word
abbrev pub lock_home : Config → ℕ → ℕ
lock_home w i = home_among w.top.clusters i

-- the slots of a cluster by their numbers: a front slot for each of its harts, for loads and atomic operations; then a store slot for each; then the prefetch slots
abbrev pub front_slot : Config → ℕ → ℕ → ℕ
front_slot w c h = h - c * w.top.harts

-- the store slot of hart h of cluster c
abbrev pub store_slot : Config → ℕ → ℕ → ℕ
store_slot w c h = h - c * w.top.harts + w.top.harts

-- the first prefetch slot, and the number after the last
abbrev pub first_prefetch : Config → ℕ
first_prefetch w = places.first_prefetch w.top.harts

abbrev pub end_prefetch : Config → ℕ
end_prefetch w = places.first_prefetch w.top.harts + w.top.prefetch
