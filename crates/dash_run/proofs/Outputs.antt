-- The output of a call, from what it has ready; and how it ends.
use Rattle.std.proofs.Common.{◌≡◌, ℕ, inl, inr, List, [], ◌∷◌, map, Option, refl, ap, sym, ◌∙◌, subst}
use Rattle.dash_base.specs.Outside.{Files, Printed, Appends, AppendsPart, Follows, Rose, Call, print_on, with_calls}
use Rattle.dash_base.specs.declared.host.Stream.{Stream}
use Rattle.dash_base.specs.declared.host.Stream.TheVariants as stream
use Rattle.dash_run.proofs.Printing.{with_calls_twice, with_no_calls}
use Rattle.dash_run.specs.declared.output.Output.{Output}
use Rattle.dash_run.specs.declared.output.Output.TheVariants.{Usage, Line, Report, Summary}
use Rattle.dash_run.specs.CommandLine.{Request, Asks, AsksSeed, IsUsageError}
use Rattle.dash_run.specs.Generated.{IsGenerated}
use Rattle.dash_run.specs.Inputs.{Inputs, AreGiven, loads_of, all_files}
use Rattle.dash_run.specs.Ran.{Ran, no_run}
use Rattle.dash_run.specs.Outcome.{IsOutput, usage, no_file, bad_topology, refused, reported, generated, by_files, by_seed, Ends, printed_all, print_failed, out_of_memory, joined, usage_line}
use Rattle.dash_run.specs.Output.{IsAnswer, output_status, output_stream, output_texts, HasInputs, HasFault, HasBegun, HasTried, IsShort, IsReady}

-- an output that leaves no run, of what was left
leaves_none : (words : List (List ℕ)) (files : Option Files) (before after : ℕ) (loaded : List Call) (status : ℕ) (to : Stream) (texts : List (List ℕ)) (ran : Ran)
    → ran ≡ no_run → IsOutput words files before after loaded status to texts no_run → IsOutput words files before after loaded status to texts ran
leaves_none words files before after loaded status to texts ran same is = subst (λ (r : Ran). IsOutput words files before after loaded status to texts r) (sym same) is

pub answer_output : (words : List (List ℕ)) (files : Option Files) (before after : ℕ) (q : Request) (inputs : Inputs) (output : Output) (ran : Ran)
    → Asks words q → AreGiven files q inputs → after ≡ before → IsAnswer q.log inputs output ran
    → IsOutput words files before after (loads_of q) (output_status output) (output_stream output) (output_texts output) ran
answer_output words files before after q inputs Usage ran asks given same answer = absurd answer
answer_output words files before after q inputs (Line status text) ran asks given same (inl line, none) =
    rw (line.status_is, line.text_is, none) (bad_topology q inputs line.refusal asks given line.refused same)
answer_output words files before after q inputs (Line status text) ran asks given same (inr line, none) =
    rw (line.status_is, line.text_is, none) (refused q inputs line.refusal asks given line.refused same)
answer_output words files before after q inputs (Report status sections) ran asks given same answer = reported q inputs status sections ran asks given answer same
answer_output words files before after q inputs (Summary text) ran asks given same answer = absurd answer

-- the output for inputs that were given stands ready
pub answer_ready : (words : List (List ℕ)) (files : Option Files) (before after : ℕ) (old new : Option (List Call)) (q : Request) (inputs : Inputs) (output : Output) (ran : Ran)
    → Asks words q → HasInputs files before after old new q inputs → IsAnswer q.log inputs output ran
    → IsReady words files before after old new (output_status output) (output_stream output) (output_texts output) ran
answer_ready words files before after old new q inputs output ran asks has answer = record {
  loaded = loads_of q;
  output = answer_output words files before after q inputs output ran asks has.given has.same answer;
  made = has.made;
}

-- and so does the line for a file that was not given
pub line_ready : (words : List (List ℕ)) (files : Option Files) (before after : ℕ) (old new : Option (List Call)) (q : Request) (text : List ℕ) (ran : Ran)
    → Asks words q → HasFault files before after old new q text → ran ≡ no_run
    → IsReady words files before after old new 5 stream.Err (text ∷ []) ran
line_ready words files before after old new q text ran asks has none = record {
  loaded = has.loaded;
  output = leaves_none words files before after has.loaded 5 stream.Err (text ∷ []) ran none (no_file q has.file has.loaded text asks has.reached has.fault);
  made = has.made;
}

-- and the usage line
pub usage_ready : (words : List (List ℕ)) (files : Option Files) (before : ℕ) (told : Option (List Call)) (ran : Ran)
    → IsUsageError words → ran ≡ no_run → IsReady words files before before told told 2 stream.Err (usage_line ∷ []) ran
usage_ready words files before told ran usage_error none = record {
  loaded = [];
  output = leaves_none words files before before [] 2 stream.Err (usage_line ∷ []) ran none (usage usage_error refl);
  made = with_no_calls told;
}

-- where inputs were given and there was no memory then
pub inputs_short : (words : List (List ℕ)) (files : Option Files) (before after : ℕ) (old new : Option (List Call)) (q : Request) (inputs : Inputs)
    → Asks words q → HasInputs files before after old new q inputs → IsShort words old new
inputs_short words files before after old new q inputs asks has = record {
  loaded = loads_of q;
  begun = by_files q (loads_of q) asks all_files;
  made = has.made;
}

-- where there was none while they were loaded
pub begun_short : (words : List (List ℕ)) (old new : Option (List Call)) (q : Request) → Asks words q → HasBegun q old new → IsShort words old new
begun_short words old new q asks has = record { loaded = has.loaded; begun = by_files q has.loaded asks has.loading; made = has.made }

-- the summary of a seed's workload stands ready, without a load
pub summary_ready : (words : List (List ℕ)) (files : Option Files) (before : ℕ) (told : Option (List Call)) (seed : ℕ) (text : List ℕ) (ran : Ran)
    → AsksSeed words seed → IsGenerated seed text ran → IsReady words files before before told told 0 stream.Out (text ∷ []) ran
summary_ready words files before told seed text ran asks is = record { loaded = []; output = generated seed text ran asks is refl; made = with_no_calls told }

-- there was no memory for it
pub seed_short : (words : List (List ℕ)) (told : Option (List Call)) (seed : ℕ) → AsksSeed words seed → IsShort words told told
seed_short words told seed asks = record { loaded = []; begun = by_seed seed asks; made = with_no_calls told }

-- how a call ends that printed its whole output
pub ends_all : (words : List (List ℕ)) (files : Option Files) (l0 l1 l2 p0 p1 p2 : ℕ) (q0 q1 q2 : Option Printed) (c0 c1 c2 : Option (List Call)) (status : ℕ) (to : Stream) (texts : List (List ℕ)) (ran : Ran)
    → IsReady words files l0 l1 c0 c1 status to texts ran
    → l2 ≡ l1 → p1 ≡ p0 → p2 ≡ p1 → q1 ≡ q0 → Follows (Appends to (joined texts)) q1 q2 → c2 ≡ with_calls c1 (map (print_on to) texts)
    → Ends words files (record { old = l0; new = l2 }) (record { old = p0; new = p2 }) (record { old = q0; new = q2 }) (record { old = c0; new = c2 }) status ran
ends_all words files l0 l1 l2 p0 p1 p2 q0 q1 q2 c0 c1 c2 status to texts ran ready loads before steady kept follows printed =
    printed_all ready.loaded status to texts ran
    (let from : ℕ → Type 0 = λ l. IsOutput words files l0 l ready.loaded status to texts ran in subst from (sym loads) ready.output)
    (steady ∙ before)
    (let from : Option Printed → Type 0 = λ q. Follows (Appends to (joined texts)) q q2 in subst from kept follows)
    (record {
      made = printed ∙ ap (λ c. with_calls c (map (print_on to) texts)) ready.made ∙ with_calls_twice c0 ready.loaded (map (print_on to) texts);
    })

-- and one whose print failed
pub ends_part : (words : List (List ℕ)) (files : Option Files) (l0 l1 l2 p0 p1 p2 : ℕ) (q0 q1 q2 : Option Printed) (c0 c1 c2 : Option (List Call)) (status : ℕ) (to : Stream) (texts : List (List ℕ)) (ran : Ran)
    → IsReady words files l0 l1 c0 c1 status to texts ran
    → l2 ≡ l1 → p1 ≡ p0 → Rose p1 p2 → q1 ≡ q0 → Follows (AppendsPart to (joined texts)) q1 q2 → HasTried to texts c1 c2
    → Ends words files (record { old = l0; new = l2 }) (record { old = p0; new = p2 }) (record { old = q0; new = q2 }) (record { old = c0; new = c2 }) 5 ran
ends_part words files l0 l1 l2 p0 p1 p2 q0 q1 q2 c0 c1 c2 status to texts ran ready loads before rose kept follows tried =
    print_failed ready.loaded status to texts ran
    (let from : ℕ → Type 0 = λ l. IsOutput words files l0 l ready.loaded status to texts ran in subst from (sym loads) ready.output)
    (let from : ℕ → Type 0 = λ p. Rose p p2 in subst from before rose)
    (let from : Option Printed → Type 0 = λ q. Follows (AppendsPart to (joined texts)) q q2 in subst from kept follows)
    (record {
      tried = tried.calls;
      breaks_off = tried.breaks_off;
      made = tried.made ∙ ap (λ c. with_calls c tried.calls) ready.made ∙ with_calls_twice c0 ready.loaded tried.calls;
    })

-- and one that had no memory
pub ends_early : (words : List (List ℕ)) (files : Option Files) (l0 l1 p0 p1 : ℕ) (q0 q1 : Option Printed) (c0 c1 : Option (List Call))
    → IsShort words c0 c1 → p1 ≡ p0 → q1 ≡ q0
    → Ends words files (record { old = l0; new = l1 }) (record { old = p0; new = p1 }) (record { old = q0; new = q1 }) (record { old = c0; new = c1 }) 6 no_run
ends_early words files l0 l1 p0 p1 q0 q1 c0 c1 short faults printed =
    out_of_memory short.loaded short.begun faults printed short.made
