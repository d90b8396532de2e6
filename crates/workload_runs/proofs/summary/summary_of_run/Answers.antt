use Rattle.std.proofs.Common.{rules, ◌∙◌, ◌≡◌}
use Rattle.std.proofs.lemmas.Result.{IfOk-weaker}
use Rattle.workload_runs.specs.Runs.{run_summary, whole_summary}
use Rattle.workload_runs.proofs.summary.summary_of_run.Goals as goal

pub returns-clause-whole : goal.returns-clause-whole
returns-clause-whole c =
    λ t m run are. IfOk-weaker c.summary_of.result (λ text. text.items ≡ run_summary c.args.seed c.args.retired.now c.args.log.now) (λ text. text.items ≡ whole_summary c.args.seed)
    (λ text is. is ∙ c.summaries_are_of_the_totals.ensures c.args.seed t c.args.log.now m c.args.retired.now run are)
    (search rules)
