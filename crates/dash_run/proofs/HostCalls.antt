-- The calls of the host, from how a call of the program ended.
use Rattle.std.proofs.Common.{◌≡◌, ℕ, ◌<◌, inl, inr, List, [], ◌∷◌, ◌++◌, map, Option, refl, ◌∙◌, ap, arith}
use Rattle.dash_base.specs.Outside.{Files, Printed, Call, print_on, with_calls}
use Rattle.dash_base.specs.declared.host.Stream.{Stream}
use Rattle.dash_base.specs.declared.host.Stream.TheVariants as stream
use Rattle.dash_run.specs.Inputs.{loads_of, all_files}
use Rattle.dash_run.specs.Ran.{Ran}
use Rattle.dash_run.specs.Outcome.{IsOutput, usage, no_file, bad_topology, refused, reported, generated, Ends, printed_all, print_failed, out_of_memory, Change, LoadsOf, no_load, some_loads, by_files, by_seed, PrintsAll, IsRunStatus, usage_line}
use Rattle.dash_run.specs.Statuses.{TopCall, MakesRunCalls, for_report, for_summary, StopsAtPrint}
use Rattle.dash_run.proofs.Causes.{reported_status, other_status, no_run_status}
use Rattle.dash_run.proofs.Given.{reached_loading}

-- the loads of an output are those that the words name
output_loads : (words : List (List ℕ)) (files : Option Files) (before after : ℕ) (loaded : List Call) (status : ℕ) (to : Stream) (texts : List (List ℕ)) (ran : Ran)
    → IsOutput words files before after loaded status to texts ran → LoadsOf words loaded
output_loads words files before after _ _ _ _ _ (usage none same) = no_load none
output_loads words files before after _ _ _ _ _ (no_file q file loaded text asks reached fault) = some_loads loaded (by_files q loaded asks (reached_loading files q file loaded reached))
output_loads words files before after _ _ _ _ _ (bad_topology q inputs refusal asks given is same) = some_loads (loads_of q) (by_files q (loads_of q) asks all_files)
output_loads words files before after _ _ _ _ _ (refused q inputs refusal asks given is same) = some_loads (loads_of q) (by_files q (loads_of q) asks all_files)
output_loads words files before after _ _ _ _ _ (reported q inputs s t l asks given is same) = some_loads (loads_of q) (by_files q (loads_of q) asks all_files)
output_loads words files before after _ _ _ _ _ (generated seed text ran asks is same) = some_loads [] (by_seed seed asks)

-- the whole output was printed: the output with status 2 is the usage line
usage_texts : (words : List (List ℕ)) (files : Option Files) (before after : ℕ) (loaded : List Call) (status : ℕ) (to : Stream) (texts : List (List ℕ)) (ran : Ran)
    → IsOutput words files before after loaded status to texts ran → status ≡ 2 → loaded ++ map (print_on to) texts ≡ print_on stream.Err usage_line ∷ []
usage_texts words files before after _ _ _ _ _ (usage none same) eq = refl
usage_texts words files before after _ _ _ _ _ (no_file q file loaded text asks reached fault) eq = absurd (omega arith)
usage_texts words files before after _ _ _ _ _ (bad_topology q inputs refusal asks given is same) eq = absurd (omega arith)
usage_texts words files before after _ _ _ _ _ (refused q inputs refusal asks given is same) eq = absurd (omega arith)
usage_texts words files before after _ _ _ _ _ (reported q inputs s t l asks given is same) eq = absurd (other_status s 2 (reported_status q.log inputs s t l is) eq (λ e. omega arith) (λ e. omega arith) (λ e. omega arith) (λ e. omega arith))
usage_texts words files before after _ _ _ _ _ (generated seed text ran asks is same) eq = absurd (omega arith)

usage_made : (words : List (List ℕ)) (files : Option Files) (loads prints : Change ℕ) (printed : Change (Option Printed)) (calls : Change (Option (List Call))) (status : ℕ) (ran : Ran)
    → Ends words files loads prints printed calls status ran → status ≡ 2 → calls.new ≡ with_calls calls.old (print_on stream.Err usage_line ∷ [])
usage_made words files loads prints printed calls status ran (printed_all loaded s to texts l is_output steady follows made) eq =
    made.made ∙ ap (with_calls calls.old) (usage_texts _ _ _ _ _ _ _ _ _ is_output eq)
usage_made words files loads prints printed calls status ran (print_failed loaded s to texts l is_output rose follows made) eq = absurd (omega arith)
usage_made words files loads prints printed calls status ran (out_of_memory loaded begun steady same made) eq = absurd (omega arith)

pub usage_calls : (c : TopCall) → c.status ≡ 2 → c.calls.new ≡ with_calls c.calls.old (print_on stream.Err usage_line ∷ [])
usage_calls c eq = usage_made _ _ _ _ _ _ _ _ c.ends eq

-- the output with the status of a run are its sections, on standard output
output_run_texts : (words : List (List ℕ)) (files : Option Files) (calls : Change (Option (List Call))) (before after : ℕ) (loaded : List Call) (status : ℕ) (to : Stream) (texts : List (List ℕ)) (ran : Ran)
    → IsOutput words files before after loaded status to texts ran → IsRunStatus status → PrintsAll loaded to texts calls → MakesRunCalls words files calls status ran
output_run_texts words files calls before after _ _ _ _ _ (usage none same) run made = absurd (no_run_status _ (inl refl) run)
output_run_texts words files calls before after _ _ _ _ _ (no_file q file loaded text asks reached fault) run made = absurd (no_run_status _ (inr (inr (inr (inl refl)))) run)
output_run_texts words files calls before after _ _ _ _ _ (bad_topology q inputs refusal asks given is same) run made = absurd (no_run_status _ (inr (inr (inl refl))) run)
output_run_texts words files calls before after _ _ _ _ _ (refused q inputs refusal asks given is same) run made = absurd (no_run_status _ (inr (inl refl)) run)
output_run_texts words files calls before after _ _ _ _ _ (reported q inputs s texts l asks given is same) run made = for_report s l (record {
  request = q;
  asked = asks;
  inputs = inputs;
  given = given;
  texts = texts;
  reported = is;
  made = made.made;
})
output_run_texts words files calls before after _ _ _ _ _ (generated seed text ran asks is same) run made = for_summary ran (record { seed = seed; asked = asks; text = text; generated = is; made = made.made })

run_made : (words : List (List ℕ)) (files : Option Files) (loads prints : Change ℕ) (printed : Change (Option Printed)) (calls : Change (Option (List Call))) (status : ℕ) (ran : Ran)
    → Ends words files loads prints printed calls status ran → IsRunStatus status → MakesRunCalls words files calls status ran
run_made words files loads prints printed calls status ran (printed_all loaded s to texts l is_output steady follows made) run = output_run_texts words files calls _ _ _ _ _ _ _ is_output run made
run_made words files loads prints printed calls status ran (print_failed loaded s to texts l is_output rose follows made) run = absurd (no_run_status _ (inr (inr (inr (inl refl)))) run)
run_made words files loads prints printed calls status ran (out_of_memory loaded begun steady same made) run = absurd (no_run_status _ (inr (inr (inr (inr refl)))) run)

pub run_calls : (c : TopCall) → IsRunStatus c.status → MakesRunCalls c.words c.files c.calls c.status c.ran
run_calls c run = run_made _ _ _ _ _ _ _ _ c.ends run

stopped : (words : List (List ℕ)) (files : Option Files) (loads prints : Change ℕ) (printed : Change (Option Printed)) (calls : Change (Option (List Call))) (status : ℕ) (ran : Ran)
    → Ends words files loads prints printed calls status ran → prints.old < prints.new → StopsAtPrint words calls
stopped words files loads prints printed calls status ran (printed_all loaded s to texts l is_output steady follows made) up = absurd (omega arith)
stopped words files loads prints printed calls status ran (print_failed loaded s to texts l is_output rose follows made) up = record { loaded = loaded; are_loads = output_loads _ _ _ _ _ _ _ _ _ is_output; to = to; texts = texts; prints_part = made }
stopped words files loads prints printed calls status ran (out_of_memory loaded begun steady same made) up = absurd (omega arith)

pub stops_at_print : (c : TopCall) → c.prints.old < c.prints.new → StopsAtPrint c.words c.calls
stops_at_print c up = stopped _ _ _ _ _ _ _ _ c.ends up
