use Rattle.dash_run.proofs.Printing.{first_part, second_part, on_err, tried_first, tried_after}
use Rattle.std.proofs.Common.{[], ◌∷◌}
use Rattle.dash_run.proofs.top.print_both.Goals as goal

pub returns-in_err-print-clause-err : goal.returns-in_err-print-clause-err
returns-in_err-print-clause-err g c = on_err _ (first_part _ _ _ _ _ c.in_err-print.ensures.err)

pub returns-in_err-print-2-clause-err : goal.returns-in_err-print-2-clause-err
returns-in_err-print-2-clause-err g c =
    on_err _ (second_part _ _ _ _ _ _ c.in_ok-print.ensures.ok c.in_err-print-2.ensures.err)

pub returns-in_err-print-clause-broke_off : goal.returns-in_err-print-clause-broke_off
returns-in_err-print-clause-broke_off g c = on_err _ (tried_first _ _ _ _ _ c.in_err-print.ensures.calls)

pub returns-in_err-print-2-clause-broke_off : goal.returns-in_err-print-2-clause-broke_off
returns-in_err-print-2-clause-broke_off g c =
    on_err _ (tried_after _ (c.args.first.now ∷ []) _ _ _ _ c.in_ok-print.ensures.calls c.in_err-print-2.ensures.calls)
