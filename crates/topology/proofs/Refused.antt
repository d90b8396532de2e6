-- From the refusal of a document's members to that of its bytes.
use Rattle.std.proofs.Common.{◌≡◌, ℕ, Bool, true, false, if◌then◌else◌, List, Option, Some, None, IfErr}
use Rattle.std.proofs.Common.{Result, Ok, Err}
use Rattle.dash_base.specs.Sizes.{first_out_of_bounds, first_no_power, is_too_much, refused_for}
use Rattle.dash_base.specs.declared.topology.Key.{Key}
use Rattle.dash_base.specs.declared.topology.Topology.{Topology}
use Rattle.dash_base.specs.declared.topology.TopoRefusal.{TopoRefusal}
use Rattle.dash_base.specs.declared.topology.TopoRefusal.TheVariants as topo
use Rattle.toml.specs.Data.{Members}
use Rattle.topology.specs.Document.{sizes_of, first_missing, least_unknown, refused_unknown, document_refusal, IsDocument, IsRefusalOf, IsRefused}

after_key : (cause : Key → TopoRefusal) (o : Option Key) (later : Option TopoRefusal) → ((k : Key) → cause k ≡ topo.Syntax → ⊥) → refused_for cause o later ≡ Some topo.Syntax
    → later ≡ Some topo.Syntax
after_key cause (Some k) later never is = let same : cause k ≡ topo.Syntax = cc in absurd (never k same)
after_key cause None later never is = is

after_name : (o : Option (List ℕ)) (later : Option TopoRefusal) → refused_unknown o later ≡ Some topo.Syntax → later ≡ Some topo.Syntax
after_name (Some name) later is = cc
after_name None later is = is

work_is_no_syntax : (b : Bool) → (if b then Some topo.TooMuch else None) ≡ Some topo.Syntax → ⊥
work_is_no_syntax true is = cc
work_is_no_syntax false is = cc

-- a document is not refused for its syntax
never_syntax : (ms : Members) → document_refusal ms ≡ Some topo.Syntax → ⊥
never_syntax ms is =
    let s = sizes_of ms in
    let named = after_key topo.Missing (first_missing ms) _ (λ k e. cc) is in
    let sized = after_name (least_unknown ms) _ named in
    let powers = after_key topo.Range (first_out_of_bounds s) _ (λ k e. cc) sized in
    work_is_no_syntax (is_too_much s) (after_key topo.NotPower (first_no_power s) _ (λ k e. cc) powers)

module _ (bytes : List ℕ) (ms : Members) (document : IsDocument bytes ms) where
  refused_bytes : (refusal : TopoRefusal) → IsRefusalOf ms refusal → IsRefused bytes refusal
  refused_bytes topo.OutOfMemory refused = tt
  refused_bytes topo.Syntax refused = absurd (never_syntax ms refused)
  refused_bytes (topo.Missing k) refused = record { members = ms; is_document = document; refused = refused }
  refused_bytes (topo.Unknown name) refused = record { members = ms; is_document = document; refused = refused }
  refused_bytes (topo.Range k) refused = record { members = ms; is_document = document; refused = refused }
  refused_bytes (topo.NotPower k) refused = record { members = ms; is_document = document; refused = refused }
  refused_bytes topo.TooMuch refused = record { members = ms; is_document = document; refused = refused }

  pub refused_result : (r : Result Topology TopoRefusal) → IfErr r (IsRefusalOf ms) → IfErr r (IsRefused bytes)
  refused_result (Ok t) refused = tt
  refused_result (Err refusal) refused = refused_bytes refusal refused
