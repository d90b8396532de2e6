-- Each cause has its status, but for running out of memory.
use Rattle.std.proofs.Common.{◌≡◌, ℕ, Bool, ◌<◌, ◌⊎◌, inl, inr, List, length, Option, Some, refl, subst, arith}
use Rattle.dash_base.specs.Outside.{Files, Printed, Rose, Call}
use Rattle.dash_base.specs.declared.host.Stream.{Stream}
use Rattle.dash_base.specs.declared.topology.TopoRefusal.{TopoRefusal}
use Rattle.elf_load.specs.declared.refusal.LoadRefusal.{LoadRefusal}
use Rattle.elf_load.specs.Refusal.{IsFirstRefusal}
use Rattle.elf_load.specs.declared.memory_map.MemoryMap.{MemoryMap}
use Rattle.dash_run.specs.CommandLine.{Request, Asks, for_image, for_seed, IsUsageError}
use Rattle.dash_run.specs.Inputs.{NamedFile, IsFileOf, Inputs, IsGiven, AreGiven, AreSmall, IsReached}
use Rattle.dash_run.specs.Accepted.{IsTopologyOf, IsRefusedTopology, IsRefused, IsAccepted}
use Rattle.dash_run.specs.Ran.{Ran}
use Rattle.dash_run.specs.Outcome.{IsFaultLine, failed, large, IsOutput, usage, no_file, bad_topology, refused, reported, generated, Ends, printed_all, print_failed, out_of_memory, Change, IsReported, IsRunStatus, IsSteady, IsFaultless, IsClean}
use Rattle.dash_run.proofs.Given.{one_inputs, given_there, not_large, not_given, reached_named}
use Rattle.dash_run.proofs.Sources.{not_refused}
use Rattle.dash_run.proofs.Maps.{one_map}
use Rattle.dash_run.proofs.Requests.{one_request, not_both, begun_asked}
use Rattle.dash_run.proofs.Causes.{reported_status}

pub not_steady : (count : Change ℕ) → IsSteady count → Rose count.old count.new → ⊥
not_steady count steady (inl rose) = let same = steady.same in omega arith
not_steady count steady (inr last) = let below = steady.below in omega arith

-- the inputs that were given are those that are there
pub same_inputs : (words : List (List ℕ)) (files : Option Files) (loads prints : Change ℕ) (q r : Request) (inputs other : Inputs)
    → IsClean words files loads prints q inputs → Asks words r → AreGiven files r other → other ≡ inputs
same_inputs words files loads prints q r inputs other clean asks given =
    let same : r ≡ q = one_request words r q asks clean.faultless.asked in
    let for_request : Request → Type 0 = λ x. AreGiven files x other in
    one_inputs (IsGiven files) (λ file bytes. clean.file_at file.name ≡ Some bytes) (given_there files clean.file_at clean.faultless.told) q other inputs (subst for_request same given) clean.there

-- what is said of inputs that were given is said of those that are there
moved : (P : Inputs → Type 0) (words : List (List ℕ)) (files : Option Files) (loads prints : Change ℕ) (q r : Request) (inputs other : Inputs)
    → IsClean words files loads prints q inputs → Asks words r → AreGiven files r other → P other → P inputs
moved P words files loads prints q r inputs other clean asks given holds =
    subst P (same_inputs words files loads prints q r inputs other clean asks given) holds

-- a file of one request is one of the other
named_in : (words : List (List ℕ)) (q r : Request) (file : NamedFile) → Asks words q → Asks words r → IsFileOf r file → IsFileOf q file
named_in words q r file asks other named = subst (λ (x : Request). IsFileOf x file) (one_request words r q other asks) named

-- no image is both refused and reported
pub one_answer : (with_log : Bool) (inputs : Inputs) (refusal : LoadRefusal) (status : ℕ) (texts : List (List ℕ)) (ran : Ran) → IsRefused inputs refusal → IsReported with_log inputs status texts ran → ⊥
one_answer with_log inputs refusal status texts ran is report =
    let same = one_map inputs is.machine report.machine is.map report.map is.is_machine report.is_machine in
    let first : IsFirstRefusal inputs.image report.map refusal = subst (λ (m : MemoryMap). IsFirstRefusal inputs.image m refusal) same is.refused in
    report.accepted refusal first.applies

-- a file that was not given, where each is there and within its limit, and no fault was counted
no_fault : (words : List (List ℕ)) (files : Option Files) (loads prints : Change ℕ) (q r : Request) (inputs : Inputs) (file : NamedFile) (loaded : List Call) (text : List ℕ)
    → IsClean words files loads prints q inputs → AreSmall q inputs → Asks words r → IsReached files r file loaded → IsFaultLine files loads.old loads.new file text → ⊥
no_fault words files loads prints q r inputs file loaded _ clean small asks reached (failed rose) = not_steady loads clean.faultless.loads_steady rose
no_fault words files loads prints q r inputs file loaded _ clean small asks reached (large size is same) =
    not_large files clean.file_at q inputs file size clean.faultless.told clean.there small
    (named_in words q r file clean.faultless.asked asks (reached_named files r file loaded reached)) is

-- ---- no form

output_no_form : (words : List (List ℕ)) (files : Option Files) (before after : ℕ) (loaded : List Call) (status : ℕ) (to : Stream) (texts : List (List ℕ)) (ran : Ran)
    → IsOutput words files before after loaded status to texts ran → IsUsageError words → status ≡ 2
output_no_form words files before after _ _ _ _ _ (usage none same) usage_error = refl
output_no_form words files before after _ _ _ _ _ (no_file q file loaded text asks reached fault) usage_error = absurd (usage_error (for_image q asks))
output_no_form words files before after _ _ _ _ _ (bad_topology q inputs refusal asks given is same) usage_error = absurd (usage_error (for_image q asks))
output_no_form words files before after _ _ _ _ _ (refused q inputs refusal asks given is same) usage_error = absurd (usage_error (for_image q asks))
output_no_form words files before after _ _ _ _ _ (reported q inputs s t l asks given is same) usage_error = absurd (usage_error (for_image q asks))
output_no_form words files before after _ _ _ _ _ (generated seed text ran asks is same) usage_error = absurd (usage_error (for_seed seed asks))

pub no_form_status : (words : List (List ℕ)) (files : Option Files) (loads prints : Change ℕ) (printed : Change (Option Printed)) (calls : Change (Option (List Call))) (status : ℕ) (ran : Ran)
    → Ends words files loads prints printed calls status ran → IsUsageError words → (status ≡ 2) ⊎ ((status ≡ 5) × Rose prints.old prints.new)
no_form_status words files loads prints printed calls status ran (printed_all loaded s to texts l is_output steady follows made) usage_error = inl (output_no_form _ _ _ _ _ _ _ _ _ is_output usage_error)
no_form_status words files loads prints printed calls status ran (print_failed loaded s to texts l is_output rose follows made) usage_error = inr (refl, rose)
no_form_status words files loads prints printed calls status ran (out_of_memory loaded begun steady same made) usage_error = absurd (usage_error (begun_asked words loaded begun))

-- ---- faults

output_fault : (words : List (List ℕ)) (files : Option Files) (before after : ℕ) (loaded : List Call) (status : ℕ) (to : Stream) (texts : List (List ℕ)) (ran : Ran)
    → IsOutput words files before after loaded status to texts ran → before < after → status ≡ 5
output_fault words files before after _ _ _ _ _ (usage none same) up = absurd (omega arith)
output_fault words files before after _ _ _ _ _ (no_file q file loaded text asks reached fault) up = refl
output_fault words files before after _ _ _ _ _ (bad_topology q inputs refusal asks given is same) up = absurd (omega arith)
output_fault words files before after _ _ _ _ _ (refused q inputs refusal asks given is same) up = absurd (omega arith)
output_fault words files before after _ _ _ _ _ (reported q inputs s t l asks given is same) up = absurd (omega arith)
output_fault words files before after _ _ _ _ _ (generated seed text ran asks is same) up = absurd (omega arith)

pub load_fault_status : (words : List (List ℕ)) (files : Option Files) (loads prints : Change ℕ) (printed : Change (Option Printed)) (calls : Change (Option (List Call))) (status : ℕ) (ran : Ran)
    → Ends words files loads prints printed calls status ran → loads.old < loads.new → (status ≡ 5) ⊎ (status ≡ 6)
load_fault_status words files loads prints printed calls status ran (printed_all loaded s to texts l is_output steady follows made) up = inl (output_fault _ _ _ _ _ _ _ _ _ is_output up)
load_fault_status words files loads prints printed calls status ran (print_failed loaded s to texts l is_output rose follows made) up = inl refl
load_fault_status words files loads prints printed calls status ran (out_of_memory loaded begun steady same made) up = inr refl

pub print_fault_status : (words : List (List ℕ)) (files : Option Files) (loads prints : Change ℕ) (printed : Change (Option Printed)) (calls : Change (Option (List Call))) (status : ℕ) (ran : Ran)
    → Ends words files loads prints printed calls status ran → prints.old < prints.new → status ≡ 5
print_fault_status words files loads prints printed calls status ran (printed_all loaded s to texts l is_output steady follows made) up = absurd (omega arith)
print_fault_status words files loads prints printed calls status ran (print_failed loaded s to texts l is_output rose follows made) up = refl
print_fault_status words files loads prints printed calls status ran (out_of_memory loaded begun steady same made) up = absurd (omega arith)

-- ---- files

pub output_accepted : (words : List (List ℕ)) (files : Option Files) (loads prints : Change ℕ) (loaded : List Call) (status : ℕ) (to : Stream) (texts : List (List ℕ)) (ran : Ran) (r : Request) (inputs : Inputs)
    → IsOutput words files loads.old loads.new loaded status to texts ran → IsClean words files loads prints r inputs → AreSmall r inputs → IsAccepted inputs → IsRunStatus status
output_accepted words files loads prints _ _ _ _ _ r inputs (usage none same) clean small accepted = absurd (none (for_image r clean.faultless.asked))
output_accepted words files loads prints _ _ _ _ _ r inputs (no_file q file before text asks reached fault) clean small accepted = absurd (no_fault words files loads prints r q inputs file before text clean small asks reached fault)
output_accepted words files loads prints _ _ _ _ _ r inputs (bad_topology q other refusal asks given is same) clean small accepted = absurd (accepted.topology refusal (moved (λ x. IsRefusedTopology x refusal) words files loads prints r q inputs other clean asks given is))
output_accepted words files loads prints _ _ _ _ _ r inputs (refused q other refusal asks given is same) clean small accepted = absurd (accepted.image refusal (moved (λ x. IsRefused x refusal) words files loads prints r q inputs other clean asks given is))
output_accepted words files loads prints _ _ _ _ _ r inputs (reported q other s t l asks given is same) clean small accepted = reported_status q.log other s t l is
output_accepted words files loads prints _ _ _ _ _ r inputs (generated seed text ran asks is same) clean small accepted = absurd (not_both words r seed clean.faultless.asked asks)

output_no_topology : (words : List (List ℕ)) (files : Option Files) (loads prints : Change ℕ) (loaded : List Call) (status : ℕ) (to : Stream) (texts : List (List ℕ)) (ran : Ran) (r : Request) (inputs : Inputs)
    → IsOutput words files loads.old loads.new loaded status to texts ran → IsClean words files loads prints r inputs → AreSmall r inputs → (why : TopoRefusal) → IsRefusedTopology inputs why → status ≡ 4
output_no_topology words files loads prints _ _ _ _ _ r inputs (usage none same) clean small why first = absurd (none (for_image r clean.faultless.asked))
output_no_topology words files loads prints _ _ _ _ _ r inputs (no_file q file before text asks reached fault) clean small why first = absurd (no_fault words files loads prints r q inputs file before text clean small asks reached fault)
output_no_topology words files loads prints _ _ _ _ _ r inputs (bad_topology q other refusal asks given is same) clean small why first = refl
output_no_topology words files loads prints _ _ _ _ _ r inputs (refused q other refusal asks given is same) clean small why first = absurd (not_refused inputs.source _ why (moved (λ x. IsTopologyOf x.source is.machine) words files loads prints r q inputs other clean asks given is.is_machine.topology) first)
output_no_topology words files loads prints _ _ _ _ _ r inputs (reported q other s t l asks given is same) clean small why first = absurd (not_refused inputs.source _ why (moved (λ x. IsTopologyOf x.source is.machine) words files loads prints r q inputs other clean asks given is.is_machine.topology) first)
output_no_topology words files loads prints _ _ _ _ _ r inputs (generated seed text ran asks is same) clean small why first = absurd (not_both words r seed clean.faultless.asked asks)

output_no_image : (words : List (List ℕ)) (files : Option Files) (loads prints : Change ℕ) (loaded : List Call) (status : ℕ) (to : Stream) (texts : List (List ℕ)) (ran : Ran) (r : Request) (inputs : Inputs)
    → IsOutput words files loads.old loads.new loaded status to texts ran → IsClean words files loads prints r inputs → AreSmall r inputs → (why : LoadRefusal) → IsRefused inputs why → status ≡ 3
output_no_image words files loads prints _ _ _ _ _ r inputs (usage none same) clean small why first = absurd (none (for_image r clean.faultless.asked))
output_no_image words files loads prints _ _ _ _ _ r inputs (no_file q file before text asks reached fault) clean small why first = absurd (no_fault words files loads prints r q inputs file before text clean small asks reached fault)
output_no_image words files loads prints _ _ _ _ _ r inputs (bad_topology q other refusal asks given is same) clean small why first = absurd (not_refused inputs.source first.machine refusal first.is_machine.topology (moved (λ x. IsRefusedTopology x refusal) words files loads prints r q inputs other clean asks given is))
output_no_image words files loads prints _ _ _ _ _ r inputs (refused q other refusal asks given is same) clean small why first = refl
output_no_image words files loads prints _ _ _ _ _ r inputs (reported q other s t l asks given is same) clean small why first = absurd (one_answer q.log inputs why s t l first (moved (λ x. IsReported q.log x s t l) words files loads prints r q inputs other clean asks given is))
output_no_image words files loads prints _ _ _ _ _ r inputs (generated seed text ran asks is same) clean small why first = absurd (not_both words r seed clean.faultless.asked asks)

output_large : (words : List (List ℕ)) (files : Option Files) (loads prints : Change ℕ) (file_at : Files) (loaded : List Call) (status : ℕ) (to : Stream) (texts : List (List ℕ)) (ran : Ran) (r : Request) (file : NamedFile) (bytes : List ℕ)
    → IsOutput words files loads.old loads.new loaded status to texts ran → IsFaultless words files loads prints r file_at → IsFileOf r file → file_at file.name ≡ Some bytes → file.limit < length bytes → status ≡ 5
output_large words files loads prints file_at _ _ _ _ _ r file bytes (usage none same) faultless named there above = absurd (none (for_image r faultless.asked))
output_large words files loads prints file_at _ _ _ _ _ r file bytes (no_file q failing before text asks reached fault) faultless named there above = refl
output_large words files loads prints file_at _ _ _ _ _ r file bytes (bad_topology q other refusal asks given is same) faultless named there above = absurd (not_given files file_at q other file bytes faultless.told given (named_in words q r file asks faultless.asked named) there above)
output_large words files loads prints file_at _ _ _ _ _ r file bytes (refused q other refusal asks given is same) faultless named there above = absurd (not_given files file_at q other file bytes faultless.told given (named_in words q r file asks faultless.asked named) there above)
output_large words files loads prints file_at _ _ _ _ _ r file bytes (reported q other s t l asks given is same) faultless named there above = absurd (not_given files file_at q other file bytes faultless.told given (named_in words q r file asks faultless.asked named) there above)
output_large words files loads prints file_at _ _ _ _ _ r file bytes (generated seed text ran asks is same) faultless named there above = absurd (not_both words r seed faultless.asked asks)

pub accepted_status : (words : List (List ℕ)) (files : Option Files) (loads prints : Change ℕ) (printed : Change (Option Printed)) (calls : Change (Option (List Call))) (status : ℕ) (ran : Ran) (r : Request) (inputs : Inputs)
    → Ends words files loads prints printed calls status ran → IsClean words files loads prints r inputs → AreSmall r inputs → IsAccepted inputs → IsRunStatus status ⊎ (status ≡ 6)
accepted_status words files loads prints printed calls _ _ r inputs (printed_all loaded s to texts l is_output steady follows made) clean small accepted = inl (output_accepted words files loads prints loaded s to texts l r inputs is_output clean small accepted)
accepted_status words files loads prints printed calls _ _ r inputs (print_failed loaded s to texts l is_output rose follows made) clean small accepted = absurd (not_steady prints clean.faultless.prints_steady rose)
accepted_status words files loads prints printed calls _ _ r inputs (out_of_memory loaded begun steady same made) clean small accepted = inr refl

pub no_topology_status : (words : List (List ℕ)) (files : Option Files) (loads prints : Change ℕ) (printed : Change (Option Printed)) (calls : Change (Option (List Call))) (status : ℕ) (ran : Ran) (r : Request) (inputs : Inputs)
    → Ends words files loads prints printed calls status ran → IsClean words files loads prints r inputs → AreSmall r inputs → (why : TopoRefusal) → IsRefusedTopology inputs why → (status ≡ 4) ⊎ (status ≡ 6)
no_topology_status words files loads prints printed calls _ _ r inputs (printed_all loaded s to texts l is_output steady follows made) clean small why first = inl (output_no_topology words files loads prints loaded s to texts l r inputs is_output clean small why first)
no_topology_status words files loads prints printed calls _ _ r inputs (print_failed loaded s to texts l is_output rose follows made) clean small why first = absurd (not_steady prints clean.faultless.prints_steady rose)
no_topology_status words files loads prints printed calls _ _ r inputs (out_of_memory loaded begun steady same made) clean small why first = inr refl

pub no_image_status : (words : List (List ℕ)) (files : Option Files) (loads prints : Change ℕ) (printed : Change (Option Printed)) (calls : Change (Option (List Call))) (status : ℕ) (ran : Ran) (r : Request) (inputs : Inputs)
    → Ends words files loads prints printed calls status ran → IsClean words files loads prints r inputs → AreSmall r inputs → (why : LoadRefusal) → IsRefused inputs why → (status ≡ 3) ⊎ (status ≡ 6)
no_image_status words files loads prints printed calls _ _ r inputs (printed_all loaded s to texts l is_output steady follows made) clean small why first = inl (output_no_image words files loads prints loaded s to texts l r inputs is_output clean small why first)
no_image_status words files loads prints printed calls _ _ r inputs (print_failed loaded s to texts l is_output rose follows made) clean small why first = absurd (not_steady prints clean.faultless.prints_steady rose)
no_image_status words files loads prints printed calls _ _ r inputs (out_of_memory loaded begun steady same made) clean small why first = inr refl

pub large_status : (words : List (List ℕ)) (files : Option Files) (loads prints : Change ℕ) (printed : Change (Option Printed)) (calls : Change (Option (List Call))) (status : ℕ) (ran : Ran) (r : Request) (file_at : Files) (file : NamedFile) (bytes : List ℕ)
    → Ends words files loads prints printed calls status ran → IsFaultless words files loads prints r file_at → IsFileOf r file → file_at file.name ≡ Some bytes → file.limit < length bytes → (status ≡ 5) ⊎ (status ≡ 6)
large_status words files loads prints printed calls _ _ r file_at file bytes (printed_all loaded s to texts l is_output steady follows made) faultless named there above = inl (output_large words files loads prints file_at loaded s to texts l r file bytes is_output faultless named there above)
large_status words files loads prints printed calls _ _ r file_at file bytes (print_failed loaded s to texts l is_output rose follows made) faultless named there above = inl refl
large_status words files loads prints printed calls _ _ r file_at file bytes (out_of_memory loaded begun steady same made) faultless named there above = inr refl
