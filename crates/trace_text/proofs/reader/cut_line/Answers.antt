use Rattle.std.proofs.Common.{ℕ, ◌+◌, List, take, drop, sym, subst, ap, ◌∙◌, add_comm, arith}
use Rattle.std.specs.List.{position_or_len}
use Rattle.trace_text.specs.Reading.{is_newline, IsFirstLine}
use Rattle.trace_text.proofs.Cuts.{place_is}
use Rattle.trace_text.proofs.Texts.{line_at, newline_within}
use Rattle.trace_text.proofs.reader.cut_line.Goals as goal

pub split_at-requires : goal.split_at-requires
split_at-requires c =
    let at = c.body_len.ensures ∙ place_is is_newline c.args.lines.now in
    let within = newline_within c.args.lines.now c.requires.some c.requires.whole in
    omega arith

pub returns : goal.returns
returns c =
    let at = c.body_len.ensures ∙ place_is is_newline c.args.lines.now in
    let behind = ap (λ n. n + 1) at ∙ add_comm (position_or_len is_newline c.args.lines.now) 1 in
    let line = c.split_at.ensures.front ∙ ap (λ n. take n c.args.lines.now) behind in
    let rest = c.split_at.ensures.back ∙ ap (λ n. drop n c.args.lines.now) behind in
    subst (λ (l : List ℕ). IsFirstLine c.args.lines.now l c.split_at.result.1.now) (sym line)
    (subst (λ (r : List ℕ). IsFirstLine c.args.lines.now (take (1 + position_or_len is_newline c.args.lines.now) c.args.lines.now) r) (sym rest)
    (line_at c.args.lines.now c.requires.some c.requires.whole))
