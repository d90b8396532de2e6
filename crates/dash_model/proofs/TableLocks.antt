-- The rows of the table for lock words.
use Rattle.std.proofs.Common.{◌≡◌, ℕ, Option, None, Some, List, [], ◌∷◌, refl, ap, arith}
use Rattle.dash_event.specs.declared.access.Access.{Access}
use Rattle.dash_event.specs.declared.access.Seen.TheVariants as seen
use Rattle.dash_base.specs.declared.need.Need.TheVariants as needed
use Rattle.dash_model.specs.Maps.{total}
use Rattle.dash_model.specs.Part.{Waiter}
use Rattle.dash_model.specs.Row.{row}
use Rattle.dash_model.specs.Guard.{Guard}
use Rattle.dash_model.specs.TableParts.{at}
use Rattle.dash_model.specs.TableLocks.{first, second, RowsOfGrant, RowsOfFree, RowsOfLockAsk, RowsOfUnlock, RowsOfLockAnswers, RowsOfLocks}
use Rattle.dash_model.proofs.TableCode as code
use Rattle.dash_model.proofs.TableCode.{doing, read_of, written_of, apart}

-- fields of an access
abbrev hart_of : Option Access → ℕ
hart_of None = 0
hart_of (Some a) = a.hart.0

one_count : (a b : ℕ) → seen.Lock a ≡ seen.Lock b → a ≡ b
one_count a b e = cc

one_waiter : (a b : Waiter) (xs ys : List Waiter) → a ∷ xs ≡ b ∷ ys → b ≡ a
one_waiter a b xs ys e = cc

grant : RowsOfGrant
unfolding row Guard
grant = record {
  it_may_happen = (code.nothing, record { mine = refl; is_zero = refl; waiter = first; others = second ∷ []; queue = refl; access = record { made = refl; seen_is = refl } });
  the_first_leaves_and_the_word_is_what_it_asked_for = λ d. refl;
  a_count_stays_at_its_greatest = λ d. refl;
  never_of_a_word_that_is_not_0 = λ d g. let e = g.is_zero in omega arith;
  never_where_nobody_waits = λ d g. let e = g.queue in cc;
  never_to_the_second = λ d g. let e = ap hart_of g.access.made in let f = ap (λ x. x.hart) (one_waiter first g.waiter _ _ g.queue) in omega arith;
  never_with_another_value = λ d g. let f = ap (λ x. x.value) (one_waiter first g.waiter _ _ g.queue) in apart 9 g.waiter.value (ap written_of g.access.made) (λ e. omega arith);
  never_with_another_count = λ d g. let e = one_count 9 8 g.access.seen_is in omega arith;
  never_away_from_the_home = λ d g. let e = g.mine in cc;
}

free : RowsOfFree
unfolding row Guard
free = record {
  it_may_happen = (code.nothing, record { serves = refl; access = record { made = refl; seen_is = refl } });
  the_word_is_0_and_its_hart_is_told_what_it_was = λ d. refl;
  a_count_stays_at_its_greatest = λ d. refl;
  also_of_a_word_that_is_0 = (code.nothing, record { serves = refl; access = record { made = refl; seen_is = refl } });
  never_of_a_hart_that_is_not_there = λ d g. let e = g.serves in cc;
  never_of_a_word_outside_the_lock_region = λ d g. let e = g.serves in cc;
  never_of_an_address_within_a_word = λ d g. let e = g.serves in cc;
  never_away_from_the_home = λ d g. let e = g.serves in cc;
  never_with_another_value = λ d g. apart 4 3 (ap read_of g.access.made) (λ e. omega arith);
  never_with_another_count = λ d g. let e = one_count 9 8 g.access.seen_is in omega arith;
}

lock_ask : RowsOfLockAsk
unfolding row total
lock_ask = record {
  it_waits_behind_the_others = λ d. refl;
  the_last_for_whom_there_is_room = λ d. refl;
  nothing_where_as_many_wait_as_there_are_harts = λ d. refl;
  nothing_of_a_hart_that_is_not_there = λ d. refl;
  nothing_of_a_word_outside_the_lock_region = λ d. refl;
  nothing_of_an_address_within_a_word = λ d. refl;
  nothing_away_from_the_home = λ d. refl;
}

unlock : RowsOfUnlock
unfolding row Guard
unlock = record {
  never_where_it_can_be_freed = λ d g. cc;
  of_a_hart_that_is_not_there = (code.nothing, refl);
  of_a_word_that_is_none = (code.nothing, refl);
  away_from_its_home = (code.nothing, refl);
  then_nothing_happens = λ d. refl;
  nor_away_from_its_home = λ d. refl;
}

lock_answers : RowsOfLockAnswers
unfolding row Guard
lock_answers = record {
  a_grant_may_be_taken = (doing code.lock (needed.Ask (at 65536) 7) 0, code.does_lock 0);
  then_the_hart_retires = λ d. refl;
  nothing_where_none_was_sent = λ d. refl;
  nothing_of_a_hart_of_another_cluster = λ d. refl;
  an_answer_to_an_unlock_may_be_taken = (doing code.unlock (needed.Unlock (at 65536)) 3, code.does_unlock 3);
  then_its_hart_retires = λ d. refl;
  nothing_of_an_unlock_where_none_was_sent = λ d. refl;
  nothing_of_an_unlock_of_another_cluster = λ d. refl;
}

pub rows_of_locks : RowsOfLocks
rows_of_locks = record { grant = grant; free = free; lock_ask = lock_ask; unlock = unlock; lock_answers = lock_answers }
