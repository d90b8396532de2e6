use Rattle.std.proofs.Common.{drop, take, ap, sym, ◌∙◌, arith}
use Rattle.trace_text.specs.Words.{is_mark, words}
use Rattle.trace_text.proofs.Cuts.{first_is, behind_is, at_most, place_is, none_behind, all_behind}
use Rattle.trace_text.proofs.words.cut.Goals as goal

pub split_at-requires : goal.split_at-requires
split_at-requires c =
    let most = at_most is_mark c.args.text.now in
    let at = c.word_len.ensures ∙ place_is is_mark c.args.text.now in
    omega arith

pub returns-in-empty-clause-word : goal.returns-in-empty-clause-word
returns-in-empty-clause-word c =
    let at = c.word_len.ensures ∙ place_is is_mark c.args.text.now in
    c.split_at.ensures.front ∙ ap (λ n. take n c.args.text.now) at ∙ first_is c.args.text.now

pub returns-in-empty-clause-rest : goal.returns-in-empty-clause-rest
returns-in-empty-clause-rest c =
    let at = c.word_len.ensures ∙ place_is is_mark c.args.text.now in
    ap words (sym (none_behind c.split_at.result.1.now (omega arith)))
    ∙ ap (λ rest. words (drop 1 rest)) (c.split_at.ensures.back ∙ ap (λ n. drop n c.args.text.now) at)
    ∙ behind_is c.args.text.now

pub returns-in-len1-up-clause-word : goal.returns-in-len1-up-clause-word
returns-in-len1-up-clause-word c =
    let at = c.word_len.ensures ∙ place_is is_mark c.args.text.now in
    c.split_at.ensures.front ∙ ap (λ n. take n c.args.text.now) at ∙ first_is c.args.text.now

pub returns-in-len1-up-clause-rest : goal.returns-in-len1-up-clause-rest
returns-in-len1-up-clause-rest c =
    let at = c.word_len.ensures ∙ place_is is_mark c.args.text.now in
    ap words (all_behind c.split_at.result.1.now)
    ∙ ap (λ rest. words (drop 1 rest)) (c.split_at.ensures.back ∙ ap (λ n. drop n c.args.text.now) at)
    ∙ behind_is c.args.text.now
