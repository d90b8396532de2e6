-- Where things stand in the machine: harts in clusters, words in lines of 16 bytes, lines and lock words at their homes, and a cluster's request slots.
use Rattle.std.specs.Prelude.{ℕ, ◌+◌, ◌-◌, ◌*◌, ◌/◌, ◌%◌}
use Rattle.dash_base.specs.declared.id.ClusterId.{ClusterId}
use Rattle.dash_base.specs.declared.id.HartId.{HartId}
use Rattle.dash_base.specs.declared.id.LineId.{LineId}
use Rattle.dash_base.specs.declared.id.WordAddr.{WordAddr}
use Rattle.dash_base.specs.declared.topology.Topology.{Topology}

-- how many harts the machine has
abbrev pub hart_count : Topology → ℕ
hart_count t = t.clusters * t.harts

-- the cluster that a hart stands in
abbrev pub cluster_of : Topology → HartId → ClusterId
cluster_of t hart = record { 0 = hart.0 / t.harts }

-- how many lines memory has
abbrev pub line_count : Topology → ℕ
line_count t = t.memory / 16

-- the line that a word of memory is in
abbrev pub line_of : Topology → WordAddr → LineId
line_of t word = record { 0 = (word.0 - t.base) / 16 }

-- the address at which a line begins
abbrev pub address_of : Topology → ℕ → ℕ
address_of t line = t.base + 16 * line

-- the number of the lock word at an address of the lock region, which follows memory
abbrev pub lock_number : Topology → ℕ → ℕ
lock_number t address = (address - (t.base + t.memory)) / 4

-- the home of the line, or of the lock word, with a number: both go round the clusters
abbrev pub home_among : ℕ → ℕ → ℕ
home_among clusters number = number % clusters

-- the first slot for prefetches in a cluster of so many harts: a slot for each hart's loads and atomic operations, and one for each hart's stores, stand before it
abbrev pub first_prefetch : ℕ → ℕ
first_prefetch harts = 2 * harts
