use Rattle.dash_run.proofs.Printing.{first_part, second_part, on_err, tried_before, tried_after}
use Rattle.std.proofs.Common.{[], ◌∷◌}
use Rattle.dash_run.proofs.top.print_four.Goals as goal

pub returns-in_err-print_three-clause-err : goal.returns-in_err-print_three-clause-err
returns-in_err-print_three-clause-err g c = on_err _ (first_part _ _ _ _ _ c.in_err-print_three.ensures.err)

pub returns-in_err-print-clause-err : goal.returns-in_err-print-clause-err
returns-in_err-print-clause-err g c =
    on_err _ (second_part _ _ _ _ _ _ c.in_ok-print_three.ensures.ok c.in_err-print.ensures.err)

pub returns-in_err-print_three-clause-broke_off : goal.returns-in_err-print_three-clause-broke_off
returns-in_err-print_three-clause-broke_off g c =
    on_err _ (tried_before _ (c.args.first.now ∷ c.args.second.now ∷ c.args.third.now ∷ []) (c.args.fourth.now ∷ []) _ _ c.in_err-print_three.ensures.broke_off)

pub returns-in_err-print-clause-broke_off : goal.returns-in_err-print-clause-broke_off
returns-in_err-print-clause-broke_off g c =
    on_err _ (tried_after _ (c.args.first.now ∷ c.args.second.now ∷ c.args.third.now ∷ []) _ _ _ _ c.in_ok-print_three.ensures.printed_all c.in_err-print.ensures.calls)
