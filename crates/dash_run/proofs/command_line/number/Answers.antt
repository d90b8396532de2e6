use Rattle.std.proofs.Common.{◌≡◌, false, Ok, Err, sym, ◌∙◌, ap, decimal, arith}
use Rattle.std.proofs.lemmas.Fmt.{parse-decimal}
use Rattle.std.specs.Result.{result_unwrap_or}
use Rattle.std.specs.Str.{bytes_eq}
use Rattle.dash_run.proofs.Words.{not_equal}
use Rattle.dash_run.proofs.command_line.number.Goals as goal

pub returns-in_default-clause-none : goal.returns-in_default-clause-none
returns-in_default-clause-none c = λ n small spelled.
    let parsed : c.parse.result ≡ Ok n = parse-decimal 32 n c.args.word.now c.parse.result small (omega arith) (sym spelled) c.parse.ensures.value.0 in
    let same : c.in-Ok.number ≡ n = ap (λ r. result_unwrap_or r 0) (sym c.in-Ok.is ∙ parsed) in
    let text : c.format.result.now ≡ c.args.word.now = c.format.ensures.text ∙ ap decimal same ∙ spelled in
    let differs : bytes_eq c.format.result.now c.args.word.now ≡ false = sym c.eq.ensures ∙ c.if-eq.false in
    not_equal c.format.result.now c.args.word.now differs text

pub returns-in_default-2-clause-none : goal.returns-in_default-2-clause-none
returns-in_default-2-clause-none c = λ n small spelled.
    let parsed : c.parse.result ≡ Ok n = parse-decimal 32 n c.args.word.now c.parse.result small (omega arith) (sym spelled) c.parse.ensures.value.0 in
    let both : Ok n ≡ Err c.in_default.field-0 = sym parsed ∙ c.in_default.is in
    cc
