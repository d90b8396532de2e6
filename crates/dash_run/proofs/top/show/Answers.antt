use Rattle.std.proofs.Common.{◌∙◌}
use Rattle.dash_run.proofs.Printing.{tried_one}
use Rattle.dash_run.proofs.top.show.Goals as goal

pub returns-in-Usage-clause-broke_off : goal.returns-in-Usage-clause-broke_off
returns-in-Usage-clause-broke_off g c =
    let made = rw (c.as_bytes.ensures.value ∙ c.usage.ensures) at c.print.ensures.calls in
    rw c.in-Usage.is (tried_one c.print.result _ _ _ _ made)

pub returns-in-Line-clause-broke_off : goal.returns-in-Line-clause-broke_off
returns-in-Line-clause-broke_off g c =
    let made = rw c.as_bytes-in-Line.ensures.value at c.print-in-Line.ensures.calls in
    rw c.in-Line.is (tried_one c.print-in-Line.result _ _ _ _ made)

pub returns-in-Summary-clause-broke_off : goal.returns-in-Summary-clause-broke_off
returns-in-Summary-clause-broke_off g c =
    let made = rw c.as_slice.ensures.value at c.print-in-Summary.ensures.calls in
    rw c.in-Summary.is (tried_one c.print-in-Summary.result _ _ _ _ made)
