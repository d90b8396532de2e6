use Rattle.std.proofs.Common.{ap, ◌∙◌, Err}
use Rattle.dash_base.specs.declared.host.LoadFault.TheVariants.{TooLarge}
use Rattle.dash_run.proofs.Loading.{told_size}
use Rattle.dash_run.specs.Outcome.{failed, large}
use Rattle.dash_run.proofs.files.load_file.Goals as goal

pub returns-in_ok-too_large-in-Err-TooLarge-clause-file : goal.returns-in_ok-too_large-in-Err-TooLarge-clause-file
returns-in_ok-too_large-in-Err-TooLarge-clause-file g c =
    let is = c.in-Err-TooLarge.is ∙ ap Err c.in-Err-TooLarge.field-0-is in
    let counted = rw c.in-Err-TooLarge.field-0-is at c.in-Err-TooLarge.ensures.counted in
    rw c.in_ok-too_large-in-Err-TooLarge.ensures
    (large c.in-Err-TooLarge.size (record {
      large = c.load.ensures.large c.in-Err-TooLarge.size is;
      told = told_size _ _ (λ s. Err (TooLarge s)) _ _ c.load.ensures.size is;
    }) counted)

pub returns-in_ok-failed-in-Err-Failed-clause-file : goal.returns-in_ok-failed-in-Err-Failed-clause-file
returns-in_ok-failed-in-Err-Failed-clause-file g c =
    let counted = rw c.in-Err-Failed.field-0-is at c.in-Err-Failed.ensures.counted in
    rw c.in_ok-failed-in-Err-Failed.ensures (failed counted)
