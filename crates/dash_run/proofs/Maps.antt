-- The map of the machine's memory is one.
use Rattle.std.proofs.Common.{◌≡◌, ◌+◌, ◌%◌, ◌^◌, ◌≤◌, sym, ◌∙◌, ap}
use mathlib.Core.HLevel.{is_prop→PathP}
use Rattle.std.proofs.Props.{props}
use Rattle.elf_load.specs.declared.memory_map.MemoryMap.{MemoryMap}
use Rattle.dash_base.specs.declared.topology.Topology.{Topology}
use Rattle.dash_run.specs.Inputs.{Inputs}
use Rattle.dash_run.specs.Accepted.{IsMachine}
use Rattle.dash_run.proofs.Sources.{one_topology}

pub same_map : (a b : MemoryMap) → a.base ≡ b.base → a.size ≡ b.size → a ≡ b
same_map a b base size = λ i. record {
  base = base i;
  size = size i;
  in_range = is_prop→PathP (λ j. base j + size j ≤ 2 ^ 32) (λ j. hlevel props) a.in_range b.in_range i;
  base_aligned = is_prop→PathP (λ j. base j % 4 ≡ 0) (λ j. hlevel props) a.base_aligned b.base_aligned i;
  size_aligned = is_prop→PathP (λ j. size j % 4 ≡ 0) (λ j. hlevel props) a.size_aligned b.size_aligned i;
}

-- the map of the machine that inputs make is one
pub one_map : (inputs : Inputs) (t u : Topology) (a b : MemoryMap) → IsMachine inputs t a → IsMachine inputs u b → a ≡ b
one_map inputs t u a b first second =
    let same : t ≡ u = one_topology inputs.source t u first.topology second.topology in
    same_map a b
    (first.base ∙ ap (λ (x : Topology). x.base) same ∙ sym second.base)
    (first.size ∙ ap (λ (x : Topology). x.memory) same ∙ sym second.size)
