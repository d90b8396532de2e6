-- Whether a topology and an image are accepted: the machine that inputs make, and why they are refused.
use Rattle.std.specs.Prelude.{◌≡◌, ℕ, List, Some, None}
use Rattle.dash_base.specs.Topology.{IsSimple, simple_refusal}
use Rattle.dash_base.specs.declared.topology.Topology.{Topology}
use Rattle.dash_base.specs.declared.topology.TopoRefusal.{TopoRefusal}
use Rattle.dash_base.specs.declared.topology.TopoRefusal.TheVariants as topo
use Rattle.elf_load.specs.Loader.{image_of}
use Rattle.elf_load.specs.Refusal.{IsFirstRefusal}
use Rattle.elf_load.specs.declared.memory_map.MemoryMap.{MemoryMap}
use Rattle.elf_load.specs.declared.refusal.LoadRefusal.{LoadRefusal}
use Rattle.topology.specs.Document as document
use Rattle.dash_model.specs.Config.{Config}
use Rattle.dash_run.specs.Inputs.{Source, Numbers, Text, Inputs}

-- the topology of three numbers, every other key at its default, which is accepted
pub record IsSimpleTopology (c h b : ℕ) (t : Topology) : Type 0 where
  pub simple : IsSimple c h b t
  pub accepted : simple_refusal c h b ≡ None

-- the topology that a source gives, accepted: of numbers, or of a text as a topology is read
abbrev pub IsTopologyOf : Source → Topology → Type 0
IsTopologyOf (Numbers c h b) t = IsSimpleTopology c h b t
IsTopologyOf (Text bytes) t = document.IsReadAs bytes t

-- a text is refused as a topology, for this cause
pub record IsRefusedText (bytes : List ℕ) (refusal : TopoRefusal) : Type 0 where
  pub cause : document.IsRefused bytes refusal
  pub is_cause : refusal ≡ topo.OutOfMemory → ⊥

-- a source is refused, for this cause
abbrev pub IsRefusedSource : Source → TopoRefusal → Type 0
IsRefusedSource (Numbers c h b) refusal = simple_refusal c h b ≡ Some refusal
IsRefusedSource (Text bytes) refusal = IsRefusedText bytes refusal

-- the topology of inputs is refused, for this cause
abbrev pub IsRefusedTopology : Inputs → TopoRefusal → Type 0
IsRefusedTopology inputs refusal = IsRefusedSource inputs.source refusal

-- the machine that inputs make, and the range of its memory
pub record IsMachine (inputs : Inputs) (t : Topology) (map : MemoryMap) : Type 0 where
  pub topology : IsTopologyOf inputs.source t
  pub base : map.base ≡ t.base
  pub size : map.size ≡ t.memory

-- the topology is accepted and the image refused, for this cause
pub record IsRefused (inputs : Inputs) (refusal : LoadRefusal) : Type 0 where
  pub machine : Topology
  pub map : MemoryMap
  pub is_machine : IsMachine inputs machine map
  pub refused : IsFirstRefusal inputs.image map refusal

-- the topology is accepted, and no refusal applies to the image
pub record IsAccepted (inputs : Inputs) : Type 0 where
  pub topology : (refusal : TopoRefusal) → IsRefusedTopology inputs refusal → ⊥
  pub image : (refusal : LoadRefusal) → IsRefused inputs refusal → ⊥

-- what a run is of: the image of a file, on a topology
abbrev pub config_of : List ℕ → Topology → Config
config_of bytes t = record { image = image_of bytes; top = t }
