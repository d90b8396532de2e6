use Rattle.std.proofs.Common.{◌≡◌, ◌∙◌, sym, subst, [], false, None, nat_lt, tests, rules}
use Rattle.queue_lock.specs.View.{LocksView, waiting}
use Rattle.dash_model.specs.Ranges.{has_hart}
use Rattle.queue_lock.specs.Steps.{asked}
use Rattle.queue_lock.specs.View.{lock_at}
use Rattle.dash_msg.specs.declared.msg.Msg.TheVariants.{LockAsk}
use Rattle.unit_rows.specs.Shown.{config, shown, AreSized}
use Rattle.unit_rows.specs.LockWords.{own_number}
use Rattle.unit_rows.specs.Takes.{Takes}
use Rattle.unit_rows.proofs.LockWords.{with_locks, takes_ask, ask_no_hart, ask_no_word, ask_no_room, sized_locks}
use Rattle.unit_rows.proofs.lock_words.ask.Goals as goal

pub returns-then-not-has_hart-clause-took : goal.returns-then-not-has_hart-clause-took
returns-then-not-has_hart-clause-took c =
    let none : has_hart (config c.args.site.now) c.args.waiter.hart ≡ false = sym c.has_hart.ensures ∙ search (rules, tests) in
    λ from. ask_no_hart (config c.args.site.now) c.args.site.now.cluster.0 (shown c.args.parts.now) from c.args.waiter c.args.word c.requires none

pub returns-in_default-clause-took : goal.returns-in_default-clause-took
returns-in_default-clause-took c =
    let none : own_number (config c.args.site.now) c.args.site.now.cluster.0 c.args.word ≡ None = search rules in
    λ from. ask_no_word (config c.args.site.now) c.args.site.now.cluster.0 (shown c.args.parts.now) from c.args.waiter c.args.word c.requires none

pub returns-then-not-has_room-clause-took : goal.returns-then-not-has_room-clause-took
returns-then-not-has_room-clause-took c =
    let none : nat_lt (waiting c.args.parts.now.locks) c.args.parts.now.locks.harts ≡ false = sym c.has_room.ensures ∙ search (rules, tests) in
    λ from. ask_no_room (config c.args.site.now) c.args.site.now.cluster.0 (shown c.args.parts.now) from c.args.waiter c.args.word c.requires none

pub returns-clause-took : goal.returns-clause-took
returns-clause-took c =
    let w = config c.args.site.now in
    let v = shown c.args.parts.now in
    λ from. subst (λ (x : LocksView). Takes w c.args.site.now.cluster.0 from (LockAsk c.args.waiter.hart c.args.waiter.number c.args.word c.args.waiter.value) v (with_locks v x) []) (sym c.ask.ensures)
    (takes_ask w c.args.site.now.cluster.0 v from c.args.waiter c.args.word c.in-Some.number c.requires (sym c.has_hart.ensures ∙ c.if-not-has_hart.false) (sym c.own_number.ensures ∙ c.in-Some.is) (sym c.has_room.ensures ∙ c.if-not-has_room.false))

pub returns-clause-sized : goal.returns-clause-sized
returns-clause-sized c =
    let w = config c.args.site.now in
    subst (λ (x : LocksView). AreSized w c.args.site.now.cluster.0 (with_locks (shown c.args.parts.now) x)) (sym c.ask.ensures) (sized_locks w c.args.site.now.cluster.0 (shown c.args.parts.now) _ (asked c.args.waiter (lock_at c.args.parts.now.locks _)) c.requires)
