-- The names of the keys of a topology.
use Rattle.std.specs.Prelude.{ℕ, List, codes}
use Rattle.dash_base.specs.declared.topology.Key.{Key}
use Rattle.dash_base.specs.declared.topology.Key.TheVariants as key

-- the name of a key
abbrev pub key_name : Key → List ℕ
key_name key.Clusters = codes "clusters"
key_name key.Harts = codes "harts"
key_name key.Budget = codes "budget"
key_name key.Memory = codes "memory"
key_name key.Locks = codes "locks"
key_name key.Base = codes "base"
key_name key.L2 = codes "l2"
key_name key.L1 = codes "l1"
key_name key.Buffer = codes "buffer"
key_name key.Acks = codes "acks"
key_name key.Prefetch = codes "prefetch"
key_name key.Stack = codes "stack"
