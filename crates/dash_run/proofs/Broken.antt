-- A report that could not be printed leaves its run.
use Rattle.std.proofs.Common.{◌≡◌, ℕ, inl, inr, List, Option, refl, arith}
use Rattle.dash_base.specs.Outside.{Files, Printed, Rose, Call}
use Rattle.dash_base.specs.declared.host.Stream.{Stream}
use Rattle.dash_run.specs.CommandLine.{Request}
use Rattle.dash_run.specs.Ran.{Ran}
use Rattle.dash_run.specs.Inputs.{Inputs}
use Rattle.dash_run.specs.Accepted.{IsAccepted}
use Rattle.dash_run.specs.Outcome.{IsOutput, Ends, printed_all, print_failed, out_of_memory, Change, IsRunStatus, IsClean}
use Rattle.dash_run.specs.Statuses.{IsLoaded}
use Rattle.dash_run.specs.Theorem.{MadeRun}
use Rattle.dash_run.proofs.Causes.{no_run_status}
use Rattle.dash_run.proofs.Converses.{output_accepted}
use Rattle.dash_run.proofs.Theorem.{output_left}

-- prints that were not made
abbrev no_prints : Change ℕ
no_prints = record { old = 0; new = 0 }

clean_of : (words : List (List ℕ)) (files : Option Files) (loads : Change ℕ) (q : Request) (inputs : Inputs) → IsLoaded words files loads q inputs → IsClean words files loads no_prints q inputs
clean_of words files loads q inputs loaded = record {
  file_at = loaded.file_at;
  faultless = record {
    asked = loaded.asked;
    told = loaded.told;
    loads_steady = loaded.loads_steady;
    prints_steady = record { same = refl; below = omega arith };
  };
  there = loaded.there;
}

-- an image that is accepted has the output of a run
run_output : (words : List (List ℕ)) (files : Option Files) (loads : Change ℕ) (made : List Call) (status : ℕ) (to : Stream) (texts : List (List ℕ)) (ran : Ran) (q : Request) (inputs : Inputs)
    → IsOutput words files loads.old loads.new made status to texts ran → IsLoaded words files loads q inputs → IsAccepted inputs → IsRunStatus status
run_output words files loads made status to texts ran q inputs is_output loaded accepted =
    output_accepted words files loads no_prints made status to texts ran q inputs is_output (clean_of words files loads q inputs loaded) loaded.small accepted

pub failed_report : (words : List (List ℕ)) (files : Option Files) (loads prints : Change ℕ) (printed : Change (Option Printed)) (calls : Change (Option (List Call))) (status : ℕ) (ran : Ran) (q : Request) (inputs : Inputs)
    → Ends words files loads prints printed calls status ran → IsLoaded words files loads q inputs → IsAccepted inputs → status ≡ 5 → Rose prints.old prints.new × MadeRun status ran.log
failed_report words files loads prints printed calls _ _ q inputs (printed_all first s to texts ran is_output steady follows made) loaded accepted is_five =
    absurd (no_run_status s (inr (inr (inr (inl is_five)))) (run_output words files loads first s to texts ran q inputs is_output loaded accepted))
failed_report words files loads prints printed calls _ _ q inputs (print_failed first s to texts ran is_output rose follows made) loaded accepted is_five =
    (rose, inr (output_left words files loads.old loads.new first s to texts ran is_output (run_output words files loads first s to texts ran q inputs is_output loaded accepted)))
failed_report words files loads prints printed calls _ _ q inputs (out_of_memory first begun steady same made) loaded accepted is_five = absurd (omega arith)
