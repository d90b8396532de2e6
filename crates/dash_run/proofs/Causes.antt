-- The cause of each status, from how a call may end.
use Rattle.std.proofs.Common.{◌≡◌, ℕ, Bool, ◌⊎◌, inl, inr, List, Option, refl, sym, ◌∙◌, subst, arith}
use Rattle.dash_base.specs.Outside.{Files, Printed, Call}
use Rattle.dash_base.specs.declared.host.Stream.{Stream}
use Rattle.round_run.specs.Finished.{status_of}
use Rattle.round_run.specs.declared.finished.Cause.{Cause}
use Rattle.round_run.specs.declared.finished.Cause.TheVariants.{Exited, Budget, Trapped, Deadlock}
use Rattle.dash_run.specs.CommandLine.{Request, Asks, IsUsageError}
use Rattle.dash_run.specs.Inputs.{NamedFile, Inputs, IsReached}
use Rattle.dash_run.proofs.Given.{reached_named}
use Rattle.dash_run.specs.Ran.{Ran}
use Rattle.dash_run.specs.Outcome.{IsFaultLine, failed, large, IsOutput, usage, no_file, bad_topology, refused, reported, generated, Ends, printed_all, print_failed, out_of_memory, Change, IsReported, IsRunStatus, IsFault, NamesBadTopology, NamesRefused, NamesRun, runs_image, runs_seed}

-- ---- the statuses of a run

cause_status : (cause : Cause) → IsRunStatus (status_of cause)
cause_status Exited = inl refl
cause_status Budget = inr (inl refl)
cause_status Trapped = inr (inr (inl refl))
cause_status Deadlock = inr (inr (inr refl))

pub reported_status : (with_log : Bool) (inputs : Inputs) (status : ℕ) (texts : List (List ℕ)) (ran : Ran) → IsReported with_log inputs status texts ran → IsRunStatus status
reported_status with_log inputs status texts ran report = subst IsRunStatus (sym report.is_status) (cause_status report.cause)

-- no run ends with the status of something else
pub other_status : (status other : ℕ) → IsRunStatus status → status ≡ other → (other ≡ 0 → ⊥) → (other ≡ 10 → ⊥) → (other ≡ 11 → ⊥) → (other ≡ 12 → ⊥) → ⊥
other_status status other (inl zero) same not0 not10 not11 not12 = not0 (sym same ∙ zero)
other_status status other (inr (inl ten)) same not0 not10 not11 not12 = not10 (sym same ∙ ten)
other_status status other (inr (inr (inl eleven))) same not0 not10 not11 not12 = not11 (sym same ∙ eleven)
other_status status other (inr (inr (inr twelve))) same not0 not10 not11 not12 = not12 (sym same ∙ twelve)

pub no_run_status : (status : ℕ) → (status ≡ 2) ⊎ (status ≡ 3) ⊎ (status ≡ 4) ⊎ (status ≡ 5) ⊎ (status ≡ 6) → IsRunStatus status → ⊥
no_run_status status other run = omega arith

-- ---- the output with a status

pub output_two : (words : List (List ℕ)) (files : Option Files) (before after : ℕ) (loaded : List Call) (status : ℕ) (to : Stream) (texts : List (List ℕ)) (ran : Ran)
    → IsOutput words files before after loaded status to texts ran → status ≡ 2 → IsUsageError words
output_two words files before after _ _ _ _ _ (usage none same) eq = none
output_two words files before after _ _ _ _ _ (no_file q file loaded text asks reached fault) eq = absurd (omega arith)
output_two words files before after _ _ _ _ _ (bad_topology q inputs refusal asks given is same) eq = absurd (omega arith)
output_two words files before after _ _ _ _ _ (refused q inputs refusal asks given is same) eq = absurd (omega arith)
output_two words files before after _ _ _ _ _ (reported q inputs s t l asks given is same) eq = absurd (other_status s 2 (reported_status q.log inputs s t l is) eq (λ e. omega arith) (λ e. omega arith) (λ e. omega arith) (λ e. omega arith))
output_two words files before after _ _ _ _ _ (generated seed text ran asks is same) eq = absurd (omega arith)

pub output_three : (words : List (List ℕ)) (files : Option Files) (before after : ℕ) (loaded : List Call) (status : ℕ) (to : Stream) (texts : List (List ℕ)) (ran : Ran)
    → IsOutput words files before after loaded status to texts ran → status ≡ 3 → NamesRefused words files
output_three words files before after _ _ _ _ _ (usage none same) eq = absurd (omega arith)
output_three words files before after _ _ _ _ _ (no_file q file loaded text asks reached fault) eq = absurd (omega arith)
output_three words files before after _ _ _ _ _ (bad_topology q inputs refusal asks given is same) eq = absurd (omega arith)
output_three words files before after _ _ _ _ _ (refused q inputs refusal asks given is same) eq = record { request = q; asked = asks; inputs = inputs; given = given; refusal = refusal; refused = is }
output_three words files before after _ _ _ _ _ (reported q inputs s t l asks given is same) eq = absurd (other_status s 3 (reported_status q.log inputs s t l is) eq (λ e. omega arith) (λ e. omega arith) (λ e. omega arith) (λ e. omega arith))
output_three words files before after _ _ _ _ _ (generated seed text ran asks is same) eq = absurd (omega arith)

pub output_four : (words : List (List ℕ)) (files : Option Files) (before after : ℕ) (loaded : List Call) (status : ℕ) (to : Stream) (texts : List (List ℕ)) (ran : Ran)
    → IsOutput words files before after loaded status to texts ran → status ≡ 4 → NamesBadTopology words files
output_four words files before after _ _ _ _ _ (usage none same) eq = absurd (omega arith)
output_four words files before after _ _ _ _ _ (no_file q file loaded text asks reached fault) eq = absurd (omega arith)
output_four words files before after _ _ _ _ _ (bad_topology q inputs refusal asks given is same) eq = record { request = q; asked = asks; inputs = inputs; given = given; refusal = refusal; refused = is }
output_four words files before after _ _ _ _ _ (refused q inputs refusal asks given is same) eq = absurd (omega arith)
output_four words files before after _ _ _ _ _ (reported q inputs s t l asks given is same) eq = absurd (other_status s 4 (reported_status q.log inputs s t l is) eq (λ e. omega arith) (λ e. omega arith) (λ e. omega arith) (λ e. omega arith))
output_four words files before after _ _ _ _ _ (generated seed text ran asks is same) eq = absurd (omega arith)

pub fault_of : (words : List (List ℕ)) (files : Option Files) (loads prints : Change ℕ) (q : Request) (file : NamedFile) (loaded : List Call) (text : List ℕ)
    → Asks words q → IsReached files q file loaded → IsFaultLine files loads.old loads.new file text → IsFault words files loads prints
fault_of words files loads prints q file loaded _ asks reached (failed rose) = inl rose
fault_of words files loads prints q file loaded _ asks reached (large size is same) =
    inr (inr (record { request = q; asked = asks; file = file; named = reached_named files q file loaded reached; size = size; large = is }))

pub output_five : (words : List (List ℕ)) (files : Option Files) (loads prints : Change ℕ) (loaded : List Call) (status : ℕ) (to : Stream) (texts : List (List ℕ)) (ran : Ran)
    → IsOutput words files loads.old loads.new loaded status to texts ran → status ≡ 5 → IsFault words files loads prints
output_five words files loads prints _ _ _ _ _ (usage none same) eq = absurd (omega arith)
output_five words files loads prints _ _ _ _ _ (no_file q file loaded text asks reached fault) eq = fault_of words files loads prints q file loaded text asks reached fault
output_five words files loads prints _ _ _ _ _ (bad_topology q inputs refusal asks given is same) eq = absurd (omega arith)
output_five words files loads prints _ _ _ _ _ (refused q inputs refusal asks given is same) eq = absurd (omega arith)
output_five words files loads prints _ _ _ _ _ (reported q inputs s t l asks given is same) eq = absurd (other_status s 5 (reported_status q.log inputs s t l is) eq (λ e. omega arith) (λ e. omega arith) (λ e. omega arith) (λ e. omega arith))
output_five words files loads prints _ _ _ _ _ (generated seed text ran asks is same) eq = absurd (omega arith)

pub output_six : (words : List (List ℕ)) (files : Option Files) (before after : ℕ) (loaded : List Call) (status : ℕ) (to : Stream) (texts : List (List ℕ)) (ran : Ran)
    → IsOutput words files before after loaded status to texts ran → status ≡ 6 → ⊥
output_six words files before after _ _ _ _ _ (usage none same) eq = omega arith
output_six words files before after _ _ _ _ _ (no_file q file loaded text asks reached fault) eq = omega arith
output_six words files before after _ _ _ _ _ (bad_topology q inputs refusal asks given is same) eq = omega arith
output_six words files before after _ _ _ _ _ (refused q inputs refusal asks given is same) eq = omega arith
output_six words files before after _ _ _ _ _ (reported q inputs s t l asks given is same) eq = (other_status s 6 (reported_status q.log inputs s t l is) eq (λ e. omega arith) (λ e. omega arith) (λ e. omega arith) (λ e. omega arith))
output_six words files before after _ _ _ _ _ (generated seed text ran asks is same) eq = omega arith

pub output_run : (words : List (List ℕ)) (files : Option Files) (before after : ℕ) (loaded : List Call) (status : ℕ) (to : Stream) (texts : List (List ℕ)) (ran : Ran)
    → IsOutput words files before after loaded status to texts ran → IsRunStatus status → NamesRun words files status ran
output_run words files before after _ _ _ _ _ (usage none same) run = absurd (no_run_status _ (inl refl) run)
output_run words files before after _ _ _ _ _ (no_file q file loaded text asks reached fault) run = absurd (no_run_status _ (inr (inr (inr (inl refl)))) run)
output_run words files before after _ _ _ _ _ (bad_topology q inputs refusal asks given is same) run = absurd (no_run_status _ (inr (inr (inl refl))) run)
output_run words files before after _ _ _ _ _ (refused q inputs refusal asks given is same) run = absurd (no_run_status _ (inr (inl refl)) run)
output_run words files before after _ _ _ _ _ (reported q inputs s t l asks given is same) run = runs_image s l (record { request = q; asked = asks; inputs = inputs; given = given; texts = t; reported = is })
output_run words files before after _ _ _ _ _ (generated seed text ran asks is same) run = runs_seed ran (record { seed = seed; asked = asks; text = text; generated = is })

-- ---- the cause of each status

pub usage_cause : (words : List (List ℕ)) (files : Option Files) (loads prints : Change ℕ) (printed : Change (Option Printed)) (calls : Change (Option (List Call))) (status : ℕ) (ran : Ran)
    → Ends words files loads prints printed calls status ran → status ≡ 2 → IsUsageError words
usage_cause words files loads prints printed calls status ran (printed_all loaded s to texts l is_output steady follows made) eq = output_two _ _ _ _ _ _ _ _ _ is_output eq
usage_cause words files loads prints printed calls status ran (print_failed loaded s to texts l is_output rose follows made) eq = absurd (omega arith)
usage_cause words files loads prints printed calls status ran (out_of_memory loaded begun steady same made) eq = absurd (omega arith)

pub refused_cause : (words : List (List ℕ)) (files : Option Files) (loads prints : Change ℕ) (printed : Change (Option Printed)) (calls : Change (Option (List Call))) (status : ℕ) (ran : Ran)
    → Ends words files loads prints printed calls status ran → status ≡ 3 → NamesRefused words files
refused_cause words files loads prints printed calls status ran (printed_all loaded s to texts l is_output steady follows made) eq = output_three _ _ _ _ _ _ _ _ _ is_output eq
refused_cause words files loads prints printed calls status ran (print_failed loaded s to texts l is_output rose follows made) eq = absurd (omega arith)
refused_cause words files loads prints printed calls status ran (out_of_memory loaded begun steady same made) eq = absurd (omega arith)

pub bad_topology_cause : (words : List (List ℕ)) (files : Option Files) (loads prints : Change ℕ) (printed : Change (Option Printed)) (calls : Change (Option (List Call))) (status : ℕ) (ran : Ran)
    → Ends words files loads prints printed calls status ran → status ≡ 4 → NamesBadTopology words files
bad_topology_cause words files loads prints printed calls status ran (printed_all loaded s to texts l is_output steady follows made) eq = output_four _ _ _ _ _ _ _ _ _ is_output eq
bad_topology_cause words files loads prints printed calls status ran (print_failed loaded s to texts l is_output rose follows made) eq = absurd (omega arith)
bad_topology_cause words files loads prints printed calls status ran (out_of_memory loaded begun steady same made) eq = absurd (omega arith)

pub fault_cause : (words : List (List ℕ)) (files : Option Files) (loads prints : Change ℕ) (printed : Change (Option Printed)) (calls : Change (Option (List Call))) (status : ℕ) (ran : Ran)
    → Ends words files loads prints printed calls status ran → status ≡ 5 → IsFault words files loads prints
fault_cause words files loads prints printed calls status ran (printed_all loaded s to texts l is_output steady follows made) eq = output_five words files loads prints _ _ _ _ _ is_output eq
fault_cause words files loads prints printed calls status ran (print_failed loaded s to texts l is_output rose follows made) eq = inr (inl rose)
fault_cause words files loads prints printed calls status ran (out_of_memory loaded begun steady same made) eq = absurd (omega arith)

pub run_cause : (words : List (List ℕ)) (files : Option Files) (loads prints : Change ℕ) (printed : Change (Option Printed)) (calls : Change (Option (List Call))) (status : ℕ) (ran : Ran)
    → Ends words files loads prints printed calls status ran → IsRunStatus status → NamesRun words files status ran
run_cause words files loads prints printed calls status ran (printed_all loaded s to texts l is_output steady follows made) run = output_run _ _ _ _ _ _ _ _ _ is_output run
run_cause words files loads prints printed calls status ran (print_failed loaded s to texts l is_output rose follows made) run = absurd (no_run_status _ (inr (inr (inr (inl refl)))) run)
run_cause words files loads prints printed calls status ran (out_of_memory loaded begun steady same made) run = absurd (no_run_status _ (inr (inr (inr (inr refl)))) run)

pub memory_quiet : (words : List (List ℕ)) (files : Option Files) (loads prints : Change ℕ) (printed : Change (Option Printed)) (calls : Change (Option (List Call))) (status : ℕ) (ran : Ran)
    → Ends words files loads prints printed calls status ran → status ≡ 6 → printed.new ≡ printed.old
memory_quiet words files loads prints printed calls status ran (printed_all loaded s to texts l is_output steady follows made) eq = absurd (output_six _ _ _ _ _ _ _ _ _ is_output eq)
memory_quiet words files loads prints printed calls status ran (print_failed loaded s to texts l is_output rose follows made) eq = absurd (omega arith)
memory_quiet words files loads prints printed calls status ran (out_of_memory loaded begun steady same made) eq = same
