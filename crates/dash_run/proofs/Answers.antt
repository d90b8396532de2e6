-- The output for a file, from what the loader and the run say of it.
use Rattle.std.proofs.Common.{◌≡◌, ℕ, Bool, inr, List, Result, Ok, Err, IfErr, refl, subst}
use Rattle.topology.specs.Document.{IsRefused}
use Rattle.dash_base.specs.declared.topology.TopoRefusal.{TopoRefusal}
use Rattle.dash_base.specs.declared.topology.TopoRefusal.TheVariants as topo
use Rattle.dash_base.specs.declared.topology.Topology.{Topology}
use Rattle.elf_load.specs.Image.{ImageView}
use Rattle.elf_load.specs.Loader.{image_of, Refuses}
use Rattle.elf_load.specs.Refusal.{IsFirstRefusal, IsLoadable}
use Rattle.elf_load.specs.declared.memory_map.MemoryMap.{MemoryMap}
use Rattle.elf_load.specs.declared.refusal.LoadRefusal.{LoadRefusal}
use Rattle.elf_load.specs.declared.refusal.LoadRefusal.TheVariants as load_refusal
use Rattle.dash_run.specs.declared.output.Output.{Output}
use Rattle.dash_run.specs.declared.output.Output.TheVariants.{Usage, Line, Report, Summary}
use Rattle.dash_run.specs.Inputs.{Inputs}
use Rattle.dash_run.specs.Accepted.{IsTopologyOf, IsRefusedText}
use Rattle.dash_run.specs.Ran.{Ran}
use Rattle.dash_run.specs.Output.{IsAnswer, IsAnswerOn, IsReport}

pub report_on : (with_log : Bool) (bytes : List ℕ) (image : ImageView) (t : Topology) (m : MemoryMap) (output : Output) (ran : Ran)
    → m.base ≡ t.base → m.size ≡ t.memory → IsLoadable bytes m → image ≡ image_of bytes → IsReport with_log (record { image = image; top = t }) output ran → IsAnswerOn with_log t bytes output ran
report_on with_log bytes image t m Usage ran base size accepted same report = report
report_on with_log bytes image t m (Line status text) ran base size accepted same report = absurd report
report_on with_log bytes image t m (Report status sections) ran base size accepted same report = record {
  map = m;
  base = base;
  size = size;
  accepted = accepted;
  report = let for_image : ImageView → Type 0 = λ i. IsReport with_log (record { image = i; top = t }) (Report status sections) ran in subst for_image same report;
}
report_on with_log bytes image t m (Summary text) ran base size accepted same report = absurd report

-- a refusal for another cause than memory is the one that applies
pub refusal_applies : (bytes : List ℕ) (map : MemoryMap) (refusal : LoadRefusal) → (refusal ≡ load_refusal.OutOfMemory → ⊥) → Refuses bytes map refusal → IsFirstRefusal bytes map refusal
refusal_applies bytes map load_refusal.OutOfMemory other refuses = absurd (other refl)
refusal_applies bytes map refusal other refuses = refuses

-- the output on the topology of inputs is the output
pub answer_of : (with_log : Bool) (inputs : Inputs) (t : Topology) (output : Output) (ran : Ran)
    → IsTopologyOf inputs.source t → IsAnswerOn with_log t inputs.image output ran → IsAnswer with_log inputs output ran
answer_of with_log inputs t Usage ran topology answer = answer
answer_of with_log inputs t (Line status text) ran topology (answer, none) = (
  inr (record {
    refusal = answer.refusal;
    refused = record {
      machine = t;
      map = answer.map;
      is_machine = record { topology = topology; base = answer.base; size = answer.size };
      refused = answer.refused;
    };
    status_is = answer.status_is;
    text_is = answer.text_is;
  }),
  none,
)
answer_of with_log inputs t (Report status sections) ran topology answer = record {
  machine = t;
  map = answer.map;
  is_machine = record { topology = topology; base = answer.base; size = answer.size };
  accepted = answer.accepted;
  cause = (answer.report).cause;
  run = (answer.report).run;
  is_status = (answer.report).is_status;
  is_report = (answer.report).is_report;
  log_fits = (answer.report).log_fits;
}
answer_of with_log inputs t (Summary text) ran topology answer = absurd answer

-- a refusal for another cause than memory, of a text as it is read
pub text_refused : (bytes : List ℕ) (refusal : TopoRefusal) → IsRefused bytes refusal → (refusal ≡ topo.OutOfMemory → ⊥) → IsRefusedText bytes refusal
text_refused bytes refusal cause is_cause = record { cause = cause; is_cause = is_cause }

pub refused_text_of : (bytes : List ℕ) (r : Result Topology TopoRefusal) → IfErr r (IsRefused bytes) → IfErr r (λ refusal. (refusal ≡ topo.OutOfMemory → ⊥) → IsRefusedText bytes refusal)
refused_text_of bytes (Ok t) cause = tt
refused_text_of bytes (Err refusal) cause = λ is_cause. text_refused bytes refusal cause is_cause
