-- What follows of a call that made a run from how it ended.
use Rattle.std.proofs.Common.{◌≡◌, ℕ, Bool, ◌⊎◌, inl, inr, List, [], ◌∷◌, Option, Some, refl, sym, ◌∙◌, ap, subst}
use Rattle.dash_base.specs.Outside.{Files, Printed, Appends, AppendsPart, Follows, Call}
use Rattle.dash_base.specs.declared.host.Stream.{Stream}
use Rattle.dash_base.specs.declared.host.Stream.TheVariants as stream
use Rattle.dash_event.specs.declared.event.Event.{Event}
use Rattle.elf_load.specs.Loader.{image_of}
use Rattle.dash_model.specs.Config.{Config}
use Rattle.dash_model.specs.Machine.{IsRun}
use Rattle.dash_model.specs.Complete.{IsCompleteRun, IsStatus}
use Rattle.dash_run.specs.CommandLine.{Request, Asks, AsksSeed}
use Rattle.dash_run.specs.Generated.{IsGenerated}
use Rattle.round_run.specs.declared.finished.Cause.TheVariants.{Exited}
use Rattle.workload_gen.specs.Program as workload_image
use Rattle.workload_gen.specs.Workload as workload_sizes
use Rattle.workload_runs.specs.Runs.{workload, whole_summary}
use Rattle.dash_run.specs.Ran.{Ran}
use Rattle.dash_run.specs.Report.{report_of}
use Rattle.dash_run.specs.Inputs.{Inputs, IsGiven, AreGiven}
use Rattle.dash_run.specs.Accepted.{IsTopologyOf, config_of}
use Rattle.dash_run.specs.Outcome.{IsOutput, usage, no_file, bad_topology, refused, reported, generated, Ends, printed_all, print_failed, out_of_memory, Change, IsReported, IsRunStatus, joined}
use Rattle.dash_run.specs.Theorem.{MadeRun, IsOfFiles, IsOfSeed, IsAskedFor, of_files, of_seed, OfMachine, IsWholeRun, whole_report, part_of_report, all_of_it, part_of_it, HasPrinted, as_report, as_summary, HasCause, run_ended, no_form, image_refused, topology_refused, had_fault, had_no_memory}
use Rattle.dash_run.proofs.Causes.{reported_status, no_run_status, fault_of}
use Rattle.dash_run.proofs.Runs.{not_empty}
use Rattle.dash_run.proofs.Requests.{one_request, one_seed, not_both, begun_asked}
use Rattle.dash_run.proofs.Sources.{one_topology}
use Rattle.dash_run.proofs.Topologies.{one_of_sizes}
use Rattle.dash_run.proofs.Given.{one_inputs}
use Rattle.dash_run.proofs.Options.{some_injective}

-- the words ask for a run with this report, which stands ready for a stream
record HasReport (words : List (List ℕ)) (files : Option Files) (status : ℕ) (to : Stream) (texts : List (List ℕ)) (ran : Ran) : Type 0 where
  pub request : Request
  pub asked : Asks words request
  pub inputs : Inputs
  pub given : AreGiven files request inputs
  pub report : IsReported request.log inputs status texts ran
  pub on_out : to ≡ stream.Out

-- or for a seed, whose summary does
data HasMade (words : List (List ℕ)) (files : Option Files) : ℕ → Stream → List (List ℕ) → Ran → Type 0 where
  a_report : (status : ℕ) (to : Stream) (texts : List (List ℕ)) (ran : Ran) → HasReport words files status to texts ran → HasMade words files status to texts ran
  a_summary : (seed : ℕ) (text : List ℕ) (ran : Ran) → AsksSeed words seed → IsGenerated seed text ran → HasMade words files 0 stream.Out (text ∷ []) ran

-- the machine of a report
asked_for : (words : List (List ℕ)) (files : Option Files) (status : ℕ) (to : Stream) (texts : List (List ℕ)) (ran : Ran) → (r : HasReport words files status to texts ran)
    → IsAskedFor words files (config_of r.inputs.image r.report.machine)
asked_for words files status to texts ran r = of_files (record {
  request = r.request;
  asked = r.asked;
  inputs = r.inputs;
  given = r.given;
  map = (r.report).map;
  is_machine = (r.report).is_machine;
  accepted = (r.report).accepted;
  image = refl;
})

-- the machine of a seed
asked_by : (words : List (List ℕ)) (files : Option Files) (seed : ℕ) (text : List ℕ) (ran : Ran) → AsksSeed words seed → (g : IsGenerated seed text ran) → IsAskedFor words files (workload seed g.topology)
asked_by words files seed text ran asks g = of_seed (record { seed = seed; asked = asks; image = refl; topology = g.is_machine })

-- an output that leaves no run
none_left : (status : ℕ) → (status ≡ 2) ⊎ (status ≡ 3) ⊎ (status ≡ 4) ⊎ (status ≡ 5) ⊎ (status ≡ 6) → MadeRun status [] → ⊥
none_left status other (inl run) = no_run_status status other run
none_left status other (inr some) = some refl

output_made : (words : List (List ℕ)) (files : Option Files) (before after : ℕ) (loaded : List Call) (status : ℕ) (to : Stream) (texts : List (List ℕ)) (ran : Ran)
    → IsOutput words files before after loaded status to texts ran → MadeRun status ran.log → HasMade words files status to texts ran
output_made words files before after _ _ _ _ _ (usage none same) made = absurd (none_left 2 (inl refl) made)
output_made words files before after _ _ _ _ _ (no_file q file loaded text asks reached fault) made = absurd (none_left 5 (inr (inr (inr (inl refl)))) made)
output_made words files before after _ _ _ _ _ (bad_topology q inputs refusal asks given is same) made = absurd (none_left 4 (inr (inr (inl refl))) made)
output_made words files before after _ _ _ _ _ (refused q inputs refusal asks given is same) made = absurd (none_left 3 (inr (inl refl)) made)
output_made words files before after _ _ _ _ _ (reported q inputs s t ran asks given is same) made =
    a_report s stream.Out t ran (record { request = q; asked = asks; inputs = inputs; given = given; report = is; on_out = refl })
output_made words files before after _ _ _ _ _ (generated seed text ran asks is same) made = a_summary seed text ran asks is

-- where a print failed, the output was made with a status of its own
other_made : (status : ℕ) (ran : Ran) → MadeRun 5 ran.log → MadeRun status ran.log
other_made status ran (inl run) = absurd (no_run_status 5 (inr (inr (inr (inl refl)))) run)
other_made status ran (inr some) = inr some

-- ---- the machine

whole_of : (words : List (List ℕ)) (files : Option Files) (status : ℕ) (to : Stream) (texts : List (List ℕ)) (ran : Ran) → HasMade words files status to texts ran
    → OfMachine words files (IsWholeRun ran)
whole_of words files _ _ _ _ (a_report status to texts ran r) = record {
  machine = config_of r.inputs.image r.report.machine;
  asked = asked_for words files status to texts ran r;
  holds = record { cause = (r.report).cause; run = (r.report).run };
}
whole_of words files _ _ _ _ (a_summary seed text ran asks g) = record {
  machine = workload seed g.topology;
  asked = asked_by words files seed text ran asks g;
  holds = record { cause = Exited; run = g.run };
}

pub whole_run : (words : List (List ℕ)) (files : Option Files) (loads prints : Change ℕ) (printed : Change (Option Printed)) (calls : Change (Option (List Call))) (status : ℕ) (ran : Ran)
    → Ends words files loads prints printed calls status ran → MadeRun status ran.log → OfMachine words files (IsWholeRun ran)
whole_run words files loads prints printed calls _ _ (printed_all loaded s to texts ran is_output steady follows calls_made) made =
    whole_of words files s to texts ran (output_made _ _ _ _ _ _ _ _ _ is_output made)
whole_run words files loads prints printed calls _ _ (print_failed loaded s to texts ran is_output rose follows calls_made) made =
    whole_of words files s to texts ran (output_made _ _ _ _ _ _ _ _ _ is_output (other_made s ran made))
whole_run words files loads prints printed calls _ _ (out_of_memory loaded begun steady same calls_made) made = absurd (none_left 6 (inr (inr (inr (inr refl)))) made)

-- ---- nothing is left

-- the units and the rounds of no run
abbrev pub IsNone : Ran → Type 0
IsNone ran = (ran.units ≡ []) × (ran.rounds ≡ 0)

report_none : (with_log : Bool) (inputs : Inputs) (status : ℕ) (texts : List (List ℕ)) (ran : Ran) → IsReported with_log inputs status texts ran → ran.log ≡ [] → ⊥
report_none with_log inputs status texts ran report none =
    let w = config_of inputs.image report.machine in
    let run : IsCompleteRun w ran.log = record { end = report.run.finished.end; reaches = report.run.finished.reaches; complete = report.run.finished.complete } in
    not_empty w (subst (λ (l : List Event). IsCompleteRun w l) none run)

summary_none : (seed : ℕ) (text : List ℕ) (ran : Ran) → IsGenerated seed text ran → ran.log ≡ [] → ⊥
summary_none seed text ran g none =
    let w = workload seed g.topology in
    let run : IsCompleteRun w ran.log = record { end = g.run.finished.end; reaches = g.run.finished.reaches; complete = g.run.finished.complete } in
    not_empty w (subst (λ (l : List Event). IsCompleteRun w l) none run)

made_none : (words : List (List ℕ)) (files : Option Files) (status : ℕ) (to : Stream) (texts : List (List ℕ)) (ran : Ran) → HasMade words files status to texts ran → ran.log ≡ [] → ⊥
made_none words files _ _ _ _ (a_report status to texts ran r) none = report_none r.request.log r.inputs status texts ran r.report none
made_none words files _ _ _ _ (a_summary seed text ran asks g) none = summary_none seed text ran g none

output_none : (words : List (List ℕ)) (files : Option Files) (before after : ℕ) (loaded : List Call) (status : ℕ) (to : Stream) (texts : List (List ℕ)) (ran : Ran)
    → IsOutput words files before after loaded status to texts ran → ran.log ≡ [] → IsNone ran
output_none words files before after _ _ _ _ _ (usage none same) empty = (refl, refl)
output_none words files before after _ _ _ _ _ (no_file q file loaded text asks reached fault) empty = (refl, refl)
output_none words files before after _ _ _ _ _ (bad_topology q inputs refusal asks given is same) empty = (refl, refl)
output_none words files before after _ _ _ _ _ (refused q inputs refusal asks given is same) empty = (refl, refl)
output_none words files before after _ _ _ _ _ (reported q inputs s t ran asks given is same) empty = absurd (report_none q.log inputs s t ran is empty)
output_none words files before after _ _ _ _ _ (generated seed text ran asks is same) empty = absurd (summary_none seed text ran is empty)

-- an output with the status of a run leaves its log
pub output_left : (words : List (List ℕ)) (files : Option Files) (before after : ℕ) (loaded : List Call) (status : ℕ) (to : Stream) (texts : List (List ℕ)) (ran : Ran)
    → IsOutput words files before after loaded status to texts ran → IsRunStatus status → ran.log ≡ [] → ⊥
output_left words files before after loaded status to texts ran is_output run =
    made_none words files status to texts ran (output_made words files before after loaded status to texts ran is_output (inl run))

pub none_of : (words : List (List ℕ)) (files : Option Files) (loads prints : Change ℕ) (printed : Change (Option Printed)) (calls : Change (Option (List Call))) (status : ℕ) (ran : Ran)
    → Ends words files loads prints printed calls status ran → ran.log ≡ [] → IsNone ran
none_of words files loads prints printed calls _ _ (printed_all loaded s to texts ran is_output steady follows calls_made) empty = output_none _ _ _ _ _ _ _ _ _ is_output empty
none_of words files loads prints printed calls _ _ (print_failed loaded s to texts ran is_output rose follows calls_made) empty = output_none _ _ _ _ _ _ _ _ _ is_output empty
none_of words files loads prints printed calls _ _ (out_of_memory loaded begun steady same calls_made) empty = (refl, refl)

-- ---- what is printed

-- the exit status of a report is that of its run
status_in : (with_log : Bool) (inputs : Inputs) (status : ℕ) (texts : List (List ℕ)) (ran : Ran) → (report : IsReported with_log inputs status texts ran)
    → IsStatus (config_of inputs.image report.machine) report.run.finished.end status
status_in with_log inputs status texts ran report =
    subst (λ (s : ℕ). IsStatus (config_of inputs.image report.machine) report.run.finished.end s) (sym report.is_status) report.run.finished.status

printed_of : (words : List (List ℕ)) (files : Option Files) (status : ℕ) (to : Stream) (texts : List (List ℕ)) (ran : Ran) (printed : Change (Option Printed))
    → HasReport words files status to texts ran → Follows (Appends to (joined texts)) printed.old printed.new → OfMachine words files (HasPrinted words ran.log status printed)
printed_of words files status to texts ran printed r follows =
    let report = r.report in
    let w = config_of r.inputs.image report.machine in
    let end = report.run.finished.end in
    let on_out : Follows (Appends stream.Out (joined texts)) printed.old printed.new = subst (λ (s : Stream). Follows (Appends s (joined texts)) printed.old printed.new) r.on_out follows in
    let of_report : Follows (Appends stream.Out (joined (report_of r.request.log w end status ran.log))) printed.old printed.new =
    subst (λ (ts : List (List ℕ)). Follows (Appends stream.Out (joined ts)) printed.old printed.new) report.is_report on_out in
    record {
      machine = w;
      asked = asked_for words files status to texts ran r;
      holds = as_report (record { end = end; reaches = report.run.finished.reaches; request = r.request; asks = r.asked; gained = whole_report status (status_in _ _ _ _ _ report) of_report });
    }

part_of : (words : List (List ℕ)) (files : Option Files) (status : ℕ) (to : Stream) (texts : List (List ℕ)) (ran : Ran) (printed : Change (Option Printed))
    → HasReport words files status to texts ran → Follows (AppendsPart to (joined texts)) printed.old printed.new → OfMachine words files (HasPrinted words ran.log 5 printed)
part_of words files status to texts ran printed r follows =
    let report = r.report in
    let w = config_of r.inputs.image report.machine in
    let end = report.run.finished.end in
    let on_out : Follows (AppendsPart stream.Out (joined texts)) printed.old printed.new = subst (λ (s : Stream). Follows (AppendsPart s (joined texts)) printed.old printed.new) r.on_out follows in
    let of_report : Follows (AppendsPart stream.Out (joined (report_of r.request.log w end status ran.log))) printed.old printed.new =
    subst (λ (ts : List (List ℕ)). Follows (AppendsPart stream.Out (joined ts)) printed.old printed.new) report.is_report on_out in
    record {
      machine = w;
      asked = asked_for words files status to texts ran r;
      holds = as_report (record { end = end; reaches = report.run.finished.reaches; request = r.request; asks = r.asked; gained = part_of_report status (status_in _ _ _ _ _ report) of_report });
    }

-- the text of a summary is that of its seed
summary_follows : (seed : ℕ) (text : List ℕ) (ran : Ran) (P : List ℕ → Type 0) → IsGenerated seed text ran → P text → P (whole_summary seed)
summary_follows seed text ran P g holds = subst P g.is_summary holds

made_printed : (words : List (List ℕ)) (files : Option Files) (status : ℕ) (to : Stream) (texts : List (List ℕ)) (ran : Ran) (printed : Change (Option Printed))
    → HasMade words files status to texts ran → Follows (Appends to (joined texts)) printed.old printed.new → OfMachine words files (HasPrinted words ran.log status printed)
made_printed words files _ _ _ _ printed (a_report status to texts ran r) follows = printed_of words files status to texts ran printed r follows
made_printed words files _ _ _ _ printed (a_summary seed text ran asks g) follows = record {
  machine = workload seed g.topology;
  asked = asked_by words files seed text ran asks g;
  holds = as_summary (record { seed = seed; asks = asks; gained = all_of_it (summary_follows seed text ran (λ t. Follows (Appends stream.Out t) printed.old printed.new) g follows) });
}

made_part : (words : List (List ℕ)) (files : Option Files) (status : ℕ) (to : Stream) (texts : List (List ℕ)) (ran : Ran) (printed : Change (Option Printed))
    → HasMade words files status to texts ran → Follows (AppendsPart to (joined texts)) printed.old printed.new → OfMachine words files (HasPrinted words ran.log 5 printed)
made_part words files _ _ _ _ printed (a_report status to texts ran r) follows = part_of words files status to texts ran printed r follows
made_part words files _ _ _ _ printed (a_summary seed text ran asks g) follows = record {
  machine = workload seed g.topology;
  asked = asked_by words files seed text ran asks g;
  holds = as_summary (record { seed = seed; asks = asks; gained = part_of_it (summary_follows seed text ran (λ t. Follows (AppendsPart stream.Out t) printed.old printed.new) g follows) });
}

pub report_printed : (words : List (List ℕ)) (files : Option Files) (loads prints : Change ℕ) (printed : Change (Option Printed)) (calls : Change (Option (List Call))) (status : ℕ) (ran : Ran)
    → Ends words files loads prints printed calls status ran → MadeRun status ran.log → OfMachine words files (HasPrinted words ran.log status printed)
report_printed words files loads prints printed calls _ _ (printed_all loaded s to texts ran is_output steady follows calls_made) made =
    made_printed words files s to texts ran printed (output_made _ _ _ _ _ _ _ _ _ is_output made) follows
report_printed words files loads prints printed calls _ _ (print_failed loaded s to texts ran is_output rose follows calls_made) made =
    made_part words files s to texts ran printed (output_made _ _ _ _ _ _ _ _ _ is_output (other_made s ran made)) follows
report_printed words files loads prints printed calls _ _ (out_of_memory loaded begun steady same calls_made) made = absurd (none_left 6 (inr (inr (inr (inr refl)))) made)

-- ---- what is so of each run

pub of_run : (words : List (List ℕ)) (files : Option Files) (ran : Ran) (P : Config → Type 0) → ((w : Config) → IsRun w ran.log → P w) → OfMachine words files (IsWholeRun ran) → OfMachine words files P
of_run words files ran P holds whole =
    record { machine = whole.machine; asked = whole.asked; holds = holds whole.machine whole.holds.run.finished.reaches.run }

-- ---- the cause of each status

output_cause : (words : List (List ℕ)) (files : Option Files) (loads prints : Change ℕ) (loaded : List Call) (status : ℕ) (to : Stream) (texts : List (List ℕ)) (ran : Ran)
    → IsOutput words files loads.old loads.new loaded status to texts ran → HasCause words files loads prints ran.log status
output_cause words files loads prints _ _ _ _ _ (usage none same) = no_form none
output_cause words files loads prints _ _ _ _ _ (no_file q file loaded text asks reached fault) = had_fault (fault_of words files loads prints q file loaded text asks reached fault)
output_cause words files loads prints _ _ _ _ _ (bad_topology q inputs refusal asks given is same) =
    topology_refused (record { request = q; asked = asks; inputs = inputs; given = given; refusal = refusal; refused = is })
output_cause words files loads prints _ _ _ _ _ (refused q inputs refusal asks given is same) =
    image_refused (record { request = q; asked = asks; inputs = inputs; given = given; refusal = refusal; refused = is })
output_cause words files loads prints _ _ _ _ _ (reported q inputs s t ran asks given is same) = run_ended s (reported_status q.log inputs s t ran is) (record {
  machine = config_of inputs.image is.machine;
  asked = asked_for words files s stream.Out t ran (record { request = q; asked = asks; inputs = inputs; given = given; report = is; on_out = refl });
  holds = record { end = is.run.finished.end; reaches = is.run.finished.reaches; complete = is.run.finished.complete; is_status = status_in q.log inputs s t ran is };
})
output_cause words files loads prints _ _ _ _ _ (generated seed text ran asks g same) = run_ended 0 (inl refl) (record {
  machine = workload seed g.topology;
  asked = asked_by words files seed text ran asks g;
  holds = record { end = g.run.finished.end; reaches = g.run.finished.reaches; complete = g.run.finished.complete; is_status = g.run.finished.status };
})

pub has_cause : (words : List (List ℕ)) (files : Option Files) (loads prints : Change ℕ) (printed : Change (Option Printed)) (calls : Change (Option (List Call))) (status : ℕ) (ran : Ran)
    → Ends words files loads prints printed calls status ran → HasCause words files loads prints ran.log status
has_cause words files loads prints printed calls _ _ (printed_all loaded s to texts ran is_output steady follows calls_made) = output_cause _ _ _ _ _ _ _ _ _ is_output
has_cause words files loads prints printed calls _ _ (print_failed loaded s to texts ran is_output rose follows calls_made) = had_fault (inr (inl rose))
has_cause words files loads prints printed calls _ _ (out_of_memory loaded begun steady same calls_made) = had_no_memory (begun_asked words loaded begun)

-- ---- the machine that the words ask for is one

one_of_files : (words : List (List ℕ)) (file_at : Files) (w w' : Config) → IsOfFiles words (Some file_at) w → IsOfFiles words (Some file_at) w' → w ≡ w'
one_of_files words file_at w w' a b =
    let request : a.request ≡ b.request = one_request words a.request b.request a.asked b.asked in
    let for_request : Request → Type 0 = λ q. AreGiven (Some file_at) q a.inputs in
    let inputs : a.inputs ≡ b.inputs =
    one_inputs (IsGiven (Some file_at)) (IsGiven (Some file_at)) (λ file x y first second. some_injective x y (sym first.told ∙ second.told)) b.request a.inputs b.inputs (subst for_request request a.given) b.given in
    let image : w.image ≡ w'.image = a.image ∙ ap (λ (i : Inputs). image_of i.image) inputs ∙ sym b.image in
    let top : w.top ≡ w'.top =
    one_topology b.inputs.source w.top w'.top (subst (λ (i : Inputs). IsTopologyOf i.source w.top) inputs a.is_machine.topology) b.is_machine.topology in
    λ i. record { image = image i; top = top i }

one_of_seed : (words : List (List ℕ)) (w w' : Config) → IsOfSeed words w → IsOfSeed words w' → w ≡ w'
one_of_seed words w w' a b =
    let seed : a.seed ≡ b.seed = one_seed words a.seed b.seed a.asked b.asked in
    let image : w.image ≡ w'.image = a.image ∙ ap workload_image.image_of seed ∙ sym b.image in
    let top : w.top ≡ w'.top = one_of_sizes workload_sizes.sizes w.top w'.top a.topology b.topology in
    λ i. record { image = image i; top = top i }

pub one_asked : (words : List (List ℕ)) (file_at : Files) (w w' : Config) → IsAskedFor words (Some file_at) w → IsAskedFor words (Some file_at) w' → w ≡ w'
one_asked words file_at w w' (of_files a) (of_files b) = one_of_files words file_at w w' a b
one_asked words file_at w w' (of_files a) (of_seed b) = absurd (not_both words a.request b.seed a.asked b.asked)
one_asked words file_at w w' (of_seed a) (of_files b) = absurd (not_both words b.request a.seed b.asked a.asked)
one_asked words file_at w w' (of_seed a) (of_seed b) = one_of_seed words w w' a b
