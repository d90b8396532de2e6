use Rattle.std.proofs.Common.{◌≡◌, ◌<◌, ◌∷◌, [], length, map, take, sym, ◌∙◌, subst, rules}
use Rattle.std.specs.List.{AllByRecursion as Each}
use Rattle.std.proofs.lemmas.List.{length-map}
use Rattle.trace_merge.specs.Settled.{StartsMerge, IsSettled}
use Rattle.trace_merge.specs.Taking.{AreTaken, AllTaken, IsFirst, taken_with}
use Rattle.trace_merge.proofs.Takings.{room_for, left_in, left_with, count_with, are_taken_with, starts_with, all_settled, none_settled, kept_more}
use Rattle.trace_merge.proofs.Recursion.{each_append}
use Rattle.trace_merge.proofs.taking.take_settled.Goals as goal

pub take_one-requires-clause-room : goal.take_one-requires-clause-room
take_one-requires-clause-room g c =
    let logs = map g.L.Logged.log c.args.logs.now in
    let es = c.loop-event.done.items in
    let ts = c.loop-event.taken.items in
    let many = length-map c.args.logs.now g.L.Logged.log in
    let count = c.loop-event.invariant.0 ∙ sym many in
    let taken = c.loop-event.invariant.1.0 in
    let starts = c.loop-event.invariant.1.1.0 in
    let e = c.in-Some.event in
    let first = subst (λ n. IsFirst logs ts n e) (sym many) (subst (λ t. IsFirst logs t (length c.args.logs.now) e) c.deref.ensures.value c.in-Some.ensures) in
    room_for logs c.requires.logs es ts taken count starts e first

pub loop-event-smaller : goal.loop-event-smaller
loop-event-smaller g c =
    let logs = map g.L.Logged.log c.args.logs.now in
    let es = c.loop-event.done.items in
    let ts = c.loop-event.taken.items in
    let many = length-map c.args.logs.now g.L.Logged.log in
    let count = c.loop-event.invariant.0 ∙ sym many in
    let taken = c.loop-event.invariant.1.0 in
    let starts = c.loop-event.invariant.1.1.0 in
    let e = c.in-Some.event in
    let first = subst (λ n. IsFirst logs ts n e) (sym many) (subst (λ t. IsFirst logs t (length c.args.logs.now) e) c.deref.ensures.value c.in-Some.ensures) in
    subst (λ t. left_in logs t < left_in logs ts) (sym c.in_ok-take_one.ensures.taken) (left_with logs c.requires.logs es ts taken count starts e first)

pub loop-event-preserved : goal.loop-event-preserved
loop-event-preserved g c =
    let logs = map g.L.Logged.log c.args.logs.now in
    let es = c.loop-event.done.items in
    let ts = c.loop-event.taken.items in
    let many = length-map c.args.logs.now g.L.Logged.log in
    let count = c.loop-event.invariant.0 ∙ sym many in
    let taken = c.loop-event.invariant.1.0 in
    let starts = c.loop-event.invariant.1.1.0 in
    let e = c.in-Some.event in
    let first = subst (λ n. IsFirst logs ts n e) (sym many) (subst (λ t. IsFirst logs t (length c.args.logs.now) e) c.deref.ensures.value c.in-Some.ensures) in
    let now = sym c.in_ok-take_one.ensures.taken in
    let more = sym c.in_ok-take_one.ensures.done in
    let settled = c.is_settled.ensures.yes (search rules) in (
      subst (λ t. length t ≡ length c.args.logs.now) now (count_with logs c.requires.logs es ts taken count starts e first ∙ many),
      (
        subst (λ t. AreTaken c.take_one.new.done.items t) now (subst (λ l. AreTaken l (taken_with ts e)) more (are_taken_with logs c.requires.logs es ts taken count starts e first)),
        (
          subst (StartsMerge logs) more (starts_with logs c.requires.logs es ts taken count starts e first),
          (
            subst (Each (IsSettled logs)) more (each_append (IsSettled logs) es (e ∷ []) c.loop-event.invariant.1.1.1.0 (settled, tt)),
            subst (λ l. take (length c.args.done.now.items) l ≡ c.args.done.now.items) more (kept_more c.args.done.now.items es (e ∷ []) c.loop-event.invariant.1.1.1.1),
          ),
        ),
      ),
    )

pub returns-then-not-is_settled-clause-settled : goal.returns-then-not-is_settled-clause-settled
returns-then-not-is_settled-clause-settled g c =
    let logs = map g.L.Logged.log c.args.logs.now in
    let es = c.loop-event.done.items in
    let ts = c.loop-event.taken.items in
    let many = length-map c.args.logs.now g.L.Logged.log in
    let count = c.loop-event.invariant.0 ∙ sym many in
    let taken = c.loop-event.invariant.1.0 in
    let starts = c.loop-event.invariant.1.1.0 in
    let e = c.in-Some.event in
    let first = subst (λ n. IsFirst logs ts n e) (sym many) (subst (λ t. IsFirst logs t (length c.args.logs.now) e) c.deref.ensures.value c.in-Some.ensures) in
    none_settled logs c.requires.logs es ts taken count starts e first c.loop-event.invariant.1.1.1.0 (c.is_settled.ensures.no (search rules))

pub returns-clause-settled : goal.returns-clause-settled
returns-clause-settled g c =
    let logs = map g.L.Logged.log c.args.logs.now in
    let es = c.loop-event.done.items in
    let ts = c.loop-event.taken.items in
    let many = length-map c.args.logs.now g.L.Logged.log in
    let count = c.loop-event.invariant.0 ∙ sym many in
    let taken = c.loop-event.invariant.1.0 in
    let starts = c.loop-event.invariant.1.1.0 in
    let all = subst (AllTaken logs ts) (sym many) (subst (λ t. AllTaken logs t (length c.args.logs.now)) c.deref.ensures.value c.in_default.ensures) in
    all_settled logs c.requires.logs es ts taken count starts all c.loop-event.invariant.1.1.1.0
