-- How a call for a seed ends.
use Rattle.std.proofs.Common.{◌≡◌, ℕ, List, [], ◌∷◌, ◌++◌, length, get_or, map, Option, sym, ◌∙◌, ap, subst, arith}
use Rattle.std.proofs.lemmas.List.{length-append}
use Rattle.dash_base.specs.Outside.{Files, Printed, Appends, AppendsPart, Follows, Rose, Call, print_on, failed_print_on, with_calls}
use Rattle.dash_base.specs.declared.host.Stream.{Stream}
use Rattle.dash_base.specs.declared.host.Stream.TheVariants as stream
use Rattle.workload_runs.specs.Runs.{whole_summary}
use Rattle.dash_run.specs.CommandLine.{AsksSeed, for_seed}
use Rattle.dash_run.specs.Generated.{IsGenerated}
use Rattle.dash_run.specs.Outcome.{IsOutput, usage, no_file, bad_topology, refused, reported, generated, Ends, printed_all, print_failed, out_of_memory, IsBegun, by_files, by_seed, Change, PrintsAll, PrintsPart, joined}
use Rattle.dash_run.specs.Ran.{Ran}
use Rattle.dash_run.specs.Theorem.{EndsSummed, summed_up, broke_off, had_none}
use Rattle.dash_run.proofs.Printing.{with_no_calls}
use Rattle.dash_run.proofs.Requests.{one_seed, not_both}

-- where one text was to be printed, the print of it failed
one_broken : (to : Stream) (text : List ℕ) (before : List (List ℕ)) (t : List ℕ) (after : List (List ℕ)) (tried : List Call)
    → text ∷ [] ≡ before ++ t ∷ after → tried ≡ map (print_on to) before ++ failed_print_on to t ∷ [] → tried ≡ failed_print_on to text ∷ []
one_broken to text [] t after tried split made = made ∙ ap (λ (xs : List (List ℕ)). failed_print_on to (get_or xs 0 []) ∷ []) (sym split)
one_broken to text (b ∷ bs) t after tried split made =
    let count = ap length split in
    let more = length-append bs (t ∷ after) in
    absurd (omega arith)

-- the text of a summary is that of the seed that is asked for
is_summary : (words : List (List ℕ)) (seed other : ℕ) (text : List ℕ) (ran : Ran) → AsksSeed words seed → AsksSeed words other → IsGenerated other text ran → text ≡ whole_summary seed
is_summary words seed other text ran asks asked g = g.is_summary ∙ ap whole_summary (one_seed words other seed asked asks)

module _ (words : List (List ℕ)) (files : Option Files) (seed : ℕ) (asks : AsksSeed words seed) where
  all_printed : (before after : ℕ) (prints : Change ℕ) (printed : Change (Option Printed)) (calls : Change (Option (List Call))) (loaded : List Call) (status : ℕ) (to : Stream) (texts : List (List ℕ)) (ran : Ran)
      → IsOutput words files before after loaded status to texts ran → prints.new ≡ prints.old → Follows (Appends to (joined texts)) printed.old printed.new → PrintsAll loaded to texts calls
      → EndsSummed seed prints printed calls status
  all_printed before after prints printed calls _ _ _ _ _ (usage none same) steady follows made = absurd (none (for_seed seed asks))
  all_printed before after prints printed calls _ _ _ _ _ (no_file q file loaded text asked reached fault) steady follows made = absurd (not_both words q seed asked asks)
  all_printed before after prints printed calls _ _ _ _ _ (bad_topology q inputs refusal asked given is same) steady follows made = absurd (not_both words q seed asked asks)
  all_printed before after prints printed calls _ _ _ _ _ (refused q inputs refusal asked given is same) steady follows made = absurd (not_both words q seed asked asks)
  all_printed before after prints printed calls _ _ _ _ _ (reported q inputs s t l asked given is same) steady follows made = absurd (not_both words q seed asked asks)
  all_printed before after prints printed calls _ _ _ _ _ (generated other text ran asked g same) steady follows made =
      let text_is = is_summary words seed other text ran asks asked g in
      summed_up steady (subst (λ (t : List ℕ). Follows (Appends stream.Out t) printed.old printed.new) text_is follows)
      (made.made ∙ ap (λ (t : List ℕ). with_calls calls.old (print_on stream.Out t ∷ [])) text_is)

  part_printed : (before after : ℕ) (prints : Change ℕ) (printed : Change (Option Printed)) (calls : Change (Option (List Call))) (loaded : List Call) (status : ℕ) (to : Stream) (texts : List (List ℕ)) (ran : Ran)
      → IsOutput words files before after loaded status to texts ran → Rose prints.old prints.new → Follows (AppendsPart to (joined texts)) printed.old printed.new → PrintsPart loaded to texts calls
      → EndsSummed seed prints printed calls 5
  part_printed before after prints printed calls _ _ _ _ _ (usage none same) rose follows made = absurd (none (for_seed seed asks))
  part_printed before after prints printed calls _ _ _ _ _ (no_file q file loaded text asked reached fault) rose follows made = absurd (not_both words q seed asked asks)
  part_printed before after prints printed calls _ _ _ _ _ (bad_topology q inputs refusal asked given is same) rose follows made = absurd (not_both words q seed asked asks)
  part_printed before after prints printed calls _ _ _ _ _ (refused q inputs refusal asked given is same) rose follows made = absurd (not_both words q seed asked asks)
  part_printed before after prints printed calls _ _ _ _ _ (reported q inputs s t l asked given is same) rose follows made = absurd (not_both words q seed asked asks)
  part_printed before after prints printed calls _ _ _ _ _ (generated other text ran asked g same) rose follows made =
      let text_is = is_summary words seed other text ran asks asked g in
      let parts = made.breaks_off in
      let tried = one_broken stream.Out text parts.before parts.text parts.after made.tried parts.split parts.made_is in
      broke_off rose (subst (λ (t : List ℕ). Follows (AppendsPart stream.Out t) printed.old printed.new) text_is follows)
      (made.made ∙ ap (with_calls calls.old) tried ∙ ap (λ (t : List ℕ). with_calls calls.old (failed_print_on stream.Out t ∷ [])) text_is)

  none_printed : (prints : Change ℕ) (printed : Change (Option Printed)) (calls : Change (Option (List Call))) (loaded : List Call) → IsBegun words loaded
      → prints.new ≡ prints.old → printed.new ≡ printed.old → calls.new ≡ with_calls calls.old loaded → EndsSummed seed prints printed calls 6
  none_printed prints printed calls _ (by_files q loaded asked loading) steady same made = absurd (not_both words q seed asked asks)
  none_printed prints printed calls _ (by_seed other asked) steady same made = had_none steady same (made ∙ sym (with_no_calls calls.old))

pub ends_summed : (words : List (List ℕ)) (files : Option Files) (loads prints : Change ℕ) (printed : Change (Option Printed)) (calls : Change (Option (List Call))) (status : ℕ) (ran : Ran) (seed : ℕ)
    → Ends words files loads prints printed calls status ran → AsksSeed words seed → EndsSummed seed prints printed calls status
ends_summed words files loads prints printed calls _ _ seed (printed_all loaded s to texts ran is_output steady follows made) asks =
    all_printed words files seed asks loads.old loads.new prints printed calls loaded s to texts ran is_output steady follows made
ends_summed words files loads prints printed calls _ _ seed (print_failed loaded s to texts ran is_output rose follows made) asks =
    part_printed words files seed asks loads.old loads.new prints printed calls loaded s to texts ran is_output rose follows made
ends_summed words files loads prints printed calls _ _ seed (out_of_memory loaded begun steady same made) asks =
    none_printed words files seed asks prints printed calls loaded begun steady same made
