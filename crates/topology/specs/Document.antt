-- What a document gives each key of a topology, and which topology or refusal comes of a text.
use Rattle.std.specs.Prelude.{◌≡◌, ℕ, ◌^◌, Bool, true, false, nat_eq, nat_lt, if◌then◌else◌, List, [], ◌∷◌, Option, Some, None, is_none, ℤ, pos, negsuc}
use Rattle.std.specs.Cmp.Lexicographic.{slice_cmp}
use lib.Pointwise.{pointwise}
use Rattle.std.specs.List.{find, list_any}
use Rattle.std.specs.Ordering.{nat_cmp, match_ordering}
use Rattle.std.specs.Str.{IsUtf8}
use Rattle.dash_base.specs.Names.{key_name}
use Rattle.dash_base.specs.Sizes.{default_stack, simple_sizes, all_keys, fits, refused_for, sizes_refusal}
use Rattle.dash_base.specs.Topology.{HasSizes}
use Rattle.dash_base.specs.declared.sizes.Sizes.{Sizes}
use Rattle.dash_base.specs.declared.topology.Key.{Key}
use Rattle.dash_base.specs.declared.topology.Key.TheVariants as key
use Rattle.dash_base.specs.declared.topology.Topology.{Topology}
use Rattle.dash_base.specs.declared.topology.TopoRefusal.{TopoRefusal}
use Rattle.dash_base.specs.declared.topology.TopoRefusal.TheVariants as topo
use Rattle.toml.specs.Data.{Data, integer, Members, no_members, member, get_member}
use Rattle.toml.specs.Parse.{parse_document}

-- the greatest number of 32 bits, which is out of every key's bounds
abbrev pub no_size : ℕ
no_size = 4294967295

-- what an integer stands for: itself where it is a number of 32 bits, else what is out of every key's bounds
abbrev pub size_of_integer : ℤ → ℕ
size_of_integer (pos n) = if nat_lt n (2 ^ 32) then n else no_size
size_of_integer (negsuc n) = no_size

-- what a value stands for; one that is no integer stands for what is out of every key's bounds
abbrev pub size_of : Data → ℕ
size_of (integer z) = size_of_integer z
size_of _ = no_size

-- what a value stands for, or the default where there is none
abbrev pub given_or : Option Data → ℕ → ℕ
given_or (Some d) usual = size_of d
given_or None usual = usual

-- the size that a document gives a key, or the default where the key isn't there
abbrev pub size_or : Members → Key → ℕ → ℕ
size_or ms k usual = given_or (get_member (key_name k) ms) usual

-- all sizes that a document gives; the three required keys have no default, and are there wherever the sizes are looked at
abbrev pub sizes_of : Members → Sizes
sizes_of ms =
    let usual = simple_sizes (size_or ms key.Clusters 0) (size_or ms key.Harts 0) (size_or ms key.Budget 0) in
    let memory = size_or ms key.Memory usual.memory in
    record {
      clusters = usual.clusters;
      harts = usual.harts;
      budget = usual.budget;
      memory = memory;
      locks = size_or ms key.Locks usual.locks;
      base = size_or ms key.Base usual.base;
      l2 = size_or ms key.L2 usual.l2;
      l1 = size_or ms key.L1 usual.l1;
      buffer = size_or ms key.Buffer usual.buffer;
      acks = size_or ms key.Acks usual.acks;
      prefetch = size_or ms key.Prefetch usual.prefetch;
      stack = size_or ms key.Stack (default_stack usual.clusters usual.harts memory);
    }

-- the first required key that isn't there
abbrev pub first_missing : Members → Option Key
first_missing ms = find (λ k. is_none (get_member (key_name k) ms)) (key.Clusters ∷ key.Harts ∷ key.Budget ∷ [])

-- whether a name is that of a key
abbrev pub is_key : List ℕ → Bool
is_key name = list_any (λ k. pointwise nat_eq (key_name k) name) all_keys

-- the lesser of two names by bytes, where there is a second one
abbrev pub lesser : List ℕ → Option (List ℕ) → List ℕ
lesser name None = name
lesser name (Some other) = match_ordering (slice_cmp nat_cmp name other) name name other

-- the least name by bytes that is there and is that of no key
abbrev pub least_unknown : Members → Option (List ℕ)
least_unknown no_members = None
least_unknown (member name d ms) = if is_key name then least_unknown ms else Some (lesser name (least_unknown ms))

-- what follows where no name is unknown
abbrev pub refused_unknown : Option (List ℕ) → Option TopoRefusal → Option TopoRefusal
refused_unknown (Some name) later = Some (topo.Unknown name)
refused_unknown None later = later

-- why a document is refused, where it is
abbrev pub document_refusal : Members → Option TopoRefusal
document_refusal ms = refused_for topo.Missing (first_missing ms) (refused_unknown (least_unknown ms) (sizes_refusal (sizes_of ms)))

-- the bytes are a TOML document with these members
pub record IsDocument (bytes : List ℕ) (ms : Members) : Type 0 where
  pub utf8 : IsUtf8 bytes
  pub parsed : parse_document bytes ≡ Some ms

-- the members are accepted, as this topology
pub record IsAcceptedAs (ms : Members) (t : Topology) : Type 0 where
  pub accepted : document_refusal ms ≡ None
  pub sizes : HasSizes (sizes_of ms) t

-- the bytes are a document that is accepted, as this topology
pub record IsReadAs (bytes : List ℕ) (t : Topology) : Type 0 where
  pub members : Members
  pub is_document : IsDocument bytes members
  pub is_accepted : IsAcceptedAs members t

-- the bytes are a document that is refused for this cause
pub record IsRefusedDocument (bytes : List ℕ) (refusal : TopoRefusal) : Type 0 where
  pub members : Members
  pub is_document : IsDocument bytes members
  pub refused : document_refusal members ≡ Some refusal

-- the cause of a refusal: bytes that are no document, or the document's; nothing is said of want of memory
abbrev pub IsRefused : List ℕ → TopoRefusal → Type 0
IsRefused bytes topo.OutOfMemory = Unit {0}
IsRefused bytes topo.Syntax = (ms : Members) → IsDocument bytes ms → ⊥
IsRefused bytes (topo.Missing k) = IsRefusedDocument bytes (topo.Missing k)
IsRefused bytes (topo.Unknown name) = IsRefusedDocument bytes (topo.Unknown name)
IsRefused bytes (topo.Range k) = IsRefusedDocument bytes (topo.Range k)
IsRefused bytes (topo.NotPower k) = IsRefusedDocument bytes (topo.NotPower k)
IsRefused bytes topo.TooMuch = IsRefusedDocument bytes topo.TooMuch

-- why members are refused; nothing is said of want of memory
abbrev pub IsRefusalOf : Members → TopoRefusal → Type 0
IsRefusalOf ms topo.OutOfMemory = Unit {0}
IsRefusalOf ms refusal = document_refusal ms ≡ Some refusal

-- the refusal of this name, or want of memory
abbrev pub IsUnknown : List ℕ → TopoRefusal → Type 0
IsUnknown name topo.OutOfMemory = Unit {0}
IsUnknown name refusal = refusal ≡ topo.Unknown name

-- the size of a key
abbrev pub size_at : Sizes → Key → ℕ
size_at s key.Clusters = s.clusters
size_at s key.Harts = s.harts
size_at s key.Budget = s.budget
size_at s key.Memory = s.memory
size_at s key.Locks = s.locks
size_at s key.Base = s.base
size_at s key.L2 = s.l2
size_at s key.L1 = s.l1
size_at s key.Buffer = s.buffer
size_at s key.Acks = s.acks
size_at s key.Prefetch = s.prefetch
size_at s key.Stack = s.stack

-- what stands for a value that is no number of 32 bits is out of the bounds of its key; for l1, whose bound is l2, where l2 is within its own
abbrev pub NoSizeIsOutOfBounds : Type 0
NoSizeIsOutOfBounds =
    (s : Sizes) (k : Key) → size_at s k ≡ no_size → (k ≡ key.L1 → fits s key.L2 ≡ true) → fits s k ≡ false
