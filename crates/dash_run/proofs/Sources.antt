-- What a source gives is one: a topology, or a refusal.
use Rattle.std.proofs.Common.{◌≡◌, ℕ, List, Some, refl, sym, ◌∙◌, subst}
use Rattle.dash_base.specs.Sizes.{simple_sizes}
use Rattle.dash_base.specs.Topology.{HasSizes, simple_refusal}
use Rattle.dash_base.specs.declared.topology.Topology.{Topology}
use Rattle.dash_base.specs.declared.topology.TopoRefusal.{TopoRefusal}
use Rattle.dash_base.specs.declared.topology.TopoRefusal.TheVariants as topo
use Rattle.toml.specs.Data.{Members}
use Rattle.topology.specs.Document.{sizes_of, document_refusal, IsDocument, IsReadAs, IsRefused, IsRefusedDocument}
use Rattle.dash_run.specs.Inputs.{Source, Numbers, Text}
use Rattle.dash_run.specs.Accepted.{IsTopologyOf, IsRefusedSource}
use Rattle.dash_run.proofs.Options.{some_injective, none_is_none}
use Rattle.dash_run.proofs.Topologies.{one_of_sizes}

one_document : (bytes : List ℕ) (ms ns : Members) → IsDocument bytes ms → IsDocument bytes ns → ms ≡ ns
one_document bytes ms ns first second = some_injective ms ns (sym first.parsed ∙ second.parsed)

one_read : (bytes : List ℕ) (t u : Topology) → IsReadAs bytes t → IsReadAs bytes u → t ≡ u
one_read bytes t u first second =
    let members : first.members ≡ second.members = one_document bytes first.members second.members first.is_document second.is_document in
    one_of_sizes (sizes_of second.members) t u (subst (λ (ms : Members). HasSizes (sizes_of ms) t) members first.is_accepted.sizes) second.is_accepted.sizes

pub one_topology : (s : Source) (t u : Topology) → IsTopologyOf s t → IsTopologyOf s u → t ≡ u
one_topology (Numbers c h b) t u first second = one_of_sizes (simple_sizes c h b) t u first.simple second.simple
one_topology (Text bytes) t u first second = one_read bytes t u first second

document_not_refused : (bytes : List ℕ) (t : Topology) (refusal : TopoRefusal) → IsReadAs bytes t → IsRefusedDocument bytes refusal → ⊥
document_not_refused bytes t refusal read refused =
    let same : refused.members ≡ read.members = one_document bytes refused.members read.members refused.is_document read.is_document in
    none_is_none (document_refusal read.members) refusal read.is_accepted.accepted
    (subst (λ (ms : Members). document_refusal ms ≡ Some refusal) same refused.refused)

text_not_refused : (bytes : List ℕ) (t : Topology) (refusal : TopoRefusal) → IsReadAs bytes t → IsRefused bytes refusal → (refusal ≡ topo.OutOfMemory → ⊥) → ⊥
text_not_refused bytes t topo.OutOfMemory read refused is_cause = is_cause refl
text_not_refused bytes t topo.Syntax read refused is_cause = refused read.members read.is_document
text_not_refused bytes t (topo.Missing k) read refused is_cause = document_not_refused bytes t (topo.Missing k) read refused
text_not_refused bytes t (topo.Unknown name) read refused is_cause = document_not_refused bytes t (topo.Unknown name) read refused
text_not_refused bytes t (topo.Range k) read refused is_cause = document_not_refused bytes t (topo.Range k) read refused
text_not_refused bytes t (topo.NotPower k) read refused is_cause = document_not_refused bytes t (topo.NotPower k) read refused
text_not_refused bytes t topo.TooMuch read refused is_cause = document_not_refused bytes t topo.TooMuch read refused

-- a source that is accepted is not refused
pub not_refused : (s : Source) (t : Topology) (refusal : TopoRefusal) → IsTopologyOf s t → IsRefusedSource s refusal → ⊥
not_refused (Numbers c h b) t refusal accepted refused = none_is_none (simple_refusal c h b) refusal accepted.accepted refused
not_refused (Text bytes) t refusal accepted refused = text_not_refused bytes t refusal accepted refused.cause refused.is_cause
