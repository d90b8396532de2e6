use Rattle.std.proofs.Common.{ℕ, List, ◌++◌, ap, ◌∙◌}
use Rattle.trace_text.specs.LogText.{event_line}
use Rattle.trace_text.proofs.Again.{happened}
use Rattle.trace_text.proofs.Lines.{made, read_other, read_same}
use Rattle.trace_text.proofs.read_line.read_event.Goals as goal

pub returns-then-ne : goal.returns-then-ne
unfolding happened
returns-then-ne c =
    read_other c.args.line.now c.as_bytes.result.now (happened c.long.result c.cluster.result c.take_kind.result) c.ne.result
    (made c.args.line.now c.of-words.result c.long.new.self c.cluster.new.self _ _ _
    c.of-words.ensures c.long.ensures.value c.long.ensures.rest c.cluster.ensures.value c.cluster.ensures.rest c.take_kind.ensures)
    (c.as_bytes.ensures.value ∙ c.in_ok-push_event.ensures.text ∙ ap (λ (bs : List ℕ). bs ++ event_line (happened c.long.result c.cluster.result c.take_kind.result)) c.clear.ensures.bytes)
    c.ne.ensures c.if-ne.true

pub returns : goal.returns
unfolding happened
returns c =
    let written = happened c.long.result c.cluster.result c.take_kind.result in record {
      event = written;
      of =
          read_same c.args.line.now c.as_bytes.result.now written c.ne.result c.in_ok-push_event.ensures.fits
          (c.as_bytes.ensures.value ∙ c.in_ok-push_event.ensures.text ∙ ap (λ (bs : List ℕ). bs ++ event_line written) c.clear.ensures.bytes)
          c.ne.ensures c.if-ne.false;
      is = c.in_ok-push.ensures.items;
    }
