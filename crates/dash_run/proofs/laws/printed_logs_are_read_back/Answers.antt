use Rattle.std.proofs.Common.{refl}
use Rattle.dash_run.proofs.laws.printed_logs_are_read_back.Goals as goal

pub returns : goal.returns
returns c = λ inputs status texts ran report read is_text.
    c.reading_gives_back.ensures _ ran.log read (record { is = refl; fit = report.log_fits refl }) is_text
