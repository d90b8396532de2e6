-- The rows of the table for the instructions that access memory.
use Rattle.std.proofs.Common.{◌≡◌, ◌∙◌, ℕ, ◌==◌, Bool, true, false, None, Some, List, [], ◌∷◌, refl, ap, subst, arith}
use Rattle.dash_base.specs.Words.{merged}
use Rattle.dash_base.specs.declared.id.WordAddr.{WordAddr}
use Rattle.dash_base.specs.declared.instr.Labels.{Labels}
use Rattle.dash_base.specs.declared.ops.AmoOp.{AmoOp}
use Rattle.dash_base.specs.declared.ops.AmoOp.TheVariants as amo
use Rattle.dash_event.specs.Records.{unseen}
use Rattle.dash_event.specs.declared.access.Access.{Access}
use Rattle.dash_event.specs.declared.access.Op.TheVariants as op
use Rattle.dash_event.specs.declared.access.Seen.TheVariants as seen
use Rattle.dash_event.specs.Offered.{offered}
use Rattle.hart_core.specs.Meaning.{Needs}
use Rattle.dash_base.specs.declared.need.Need.{Need}
use Rattle.dash_base.specs.declared.need.Need.TheVariants as needed
use Rattle.write_buffer.specs.Look.{newest_of}
use Rattle.write_buffer.specs.declared.entry.Entry.{Entry as Stored}
use Rattle.dash_model.specs.Maps.{member, with_member}
use Rattle.dash_model.specs.Config.{Config, line_at}
use Rattle.dash_model.specs.Part.{Part}
use Rattle.dash_model.specs.Words.{owes, numbered}
use Rattle.dash_model.specs.HartRows.{HartEffect}
use Rattle.dash_model.specs.HartGuards.{Drained, RmwFits, HasReserved}
use Rattle.dash_model.specs.Row.{row}
use Rattle.dash_model.specs.Guard.{Guard}
use Rattle.dash_model.specs.TableParts.{at, config_of}
use Rattle.dash_model.specs.TableCode as word
use Rattle.dash_model.specs.TableCode.{plain, release, half, far_away}
use Rattle.dash_model.specs.TableAccesses.{RowsOfLoad, RowsOfStore, RowsOfCommit, RowsOfRmw, RowsOfScFail, RowsOfAccesses}
use Rattle.dash_model.proofs.TableCode as code
use Rattle.dash_model.proofs.TableCode.{doing, need_of, need_known, read_of, written_of, apart}
use Rattle.dash_model.proofs.TableCells.{chosen}

-- what an access reads and writes
reads_as : (a : Access) (h number old : ℕ) (b : Bool) (need known : Need) → need ≡ known → Some (unseen a) ≡ offered h number need old b → a.read ≡ read_of (offered h number known old b)
reads_as a h number old b need known e made = ap read_of (made ∙ ap (λ n. offered h number n old b) e)

writes_as : (a : Access) (h number old : ℕ) (b : Bool) (need known : Need) → need ≡ known → Some (unseen a) ≡ offered h number need old b → a.written ≡ written_of (offered h number known old b)
writes_as a h number old b need known e made = ap written_of (made ∙ ap (λ n. offered h number n old b) e)

one_version : (a b : ℕ) → seen.Line a ≡ seen.Line b → a ≡ b
one_version a b e = cc

lr_reserves : (word : WordAddr) (labels : Labels) (reserve : Bool) → needed.Load word 15 labels reserve ≡ needed.Load (at 100) 15 plain true → reserve ≡ false → ⊥
lr_reserves word labels reserve e f = let t : reserve ≡ true = cc in cc

load : RowsOfLoad
unfolding row Guard newest_of merged member
load = record {
  from_the_copy = (doing code.lw (needed.Load (at 100) 15 plain false) 2, record { labels = plain; reserve = false; next = record { mine = refl; need_is = refl; does = code.does_lw 2 }; from = record { holder = refl; level_is = refl; access = record { made = refl; seen_is = refl } } });
  then_the_line_enters_L1 = λ d. refl;
  at_level_1_where_L1_has_it = (doing code.lw (needed.Load (at 100) 15 plain false) 2, record { labels = plain; reserve = false; next = record { mine = refl; need_is = refl; does = code.does_lw 2 }; from = record { holder = refl; level_is = refl; access = record { made = refl; seen_is = refl } } });
  never_at_level_2_then = λ d g. let e = g.from.level_is in omega arith;
  never_at_level_1_else = λ d g. let e = g.from.level_is in omega arith;
  never_of_what_another_hart_holds = λ d g. let e = g.from.holder in cc;
  never_of_another_value = λ d g. apart 3 2 (reads_as (word.access op.Load plain (Some 3) None (seen.Line 7)) _ _ _ _ _ _ (need_known g.next code.needs_lw) g.from.access.made) (λ e. omega arith);
  never_of_another_version = λ d g. let e = one_version 6 7 g.from.access.seen_is in omega arith;
  from_a_store_that_has_the_bytes = (doing code.lw (needed.Load (at 100) 15 plain false) 9, record { labels = plain; reserve = false; next = record { mine = refl; need_is = refl; does = code.does_lw 9 }; from = record { plain = refl; level_is = refl; access = record { made = refl; seen_is = refl } } });
  from_the_newest_one = (doing code.lw (needed.Load (at 100) 15 plain false) 9, record { labels = plain; reserve = false; next = record { mine = refl; need_is = refl; does = code.does_lw 9 }; from = record { plain = refl; level_is = refl; access = record { made = refl; seen_is = refl } } });
  also_where_it_is_no_holder = (doing code.lw (needed.Load (at 100) 15 plain false) 9, record { labels = plain; reserve = false; next = record { mine = refl; need_is = refl; does = code.does_lw 9 }; from = record { plain = refl; level_is = refl; access = record { made = refl; seen_is = refl } } });
  then_L1_stays_as_it_is = λ d. refl;
  never_from_the_copy_past_a_store = λ d g. let e = g.from.level_is in omega arith;
  never_while_a_store_has_some_of_the_bytes = λ level value shown d g. g.from;
  past_a_store_to_another_word = (doing code.lw (needed.Load (at 100) 15 plain false) 2, record { labels = plain; reserve = false; next = record { mine = refl; need_is = refl; does = code.does_lw 2 }; from = record { holder = refl; level_is = refl; access = record { made = refl; seen_is = refl } } });
  never_of_a_hart_of_another_cluster = λ d g. let e = g.next.mine in omega arith;
  never_of_an_addition = λ d g. let e = need_of g.next code.needs_addi in cc;
  an_lr_from_the_copy = (doing code.lr (needed.Load (at 100) 15 plain true) 2, record { labels = plain; reserve = true; next = record { mine = refl; need_is = refl; does = code.does_lr 2 }; from = record { holder = refl; level_is = refl; access = record { made = refl; seen_is = refl } } });
  then_the_word_is_reserved = λ d. refl;
  an_lr_never_from_a_store = λ d g. lr_reserves _ _ _ (need_of g.next code.needs_lr) g.from.plain;
  an_lr_never_past_a_store = λ d g. let e = g.from.level_is in omega arith;
  an_lr_never_of_what_another_hart_holds = λ d g. let e = g.from.holder in cc;
}

store : RowsOfStore
unfolding row Guard
store = record {
  it_may_happen = (doing code.sw (needed.Store (at 100) 15 7) 0, record { value = 7; next = record { mine = refl; need_is = refl; does = code.does_sw 0 }; access = record { made = refl; seen_is = refl }; room = omega arith });
  it_waits_behind_the_others = λ d. refl;
  never_into_a_full_buffer = λ d g. let e = g.room in omega arith;
  never_of_another_value = λ d g. apart 8 7 (writes_as (word.access op.Store plain None (Some 8) seen.Nothing) _ _ _ _ _ _ (need_known g.next code.needs_sw) g.access.made) (λ e. omega arith);
  never_of_a_hart_of_another_cluster = λ d g. let e = g.next.mine in omega arith;
  never_of_an_addition = λ d g. let e = need_of g.next code.needs_addi in cc;
}

-- the oldest store is the first of the buffer
oldest_is : (a b : Stored) (xs ys : List Stored) → a ∷ xs ≡ b ∷ ys → a ≡ b
oldest_is a b xs ys e = cc

commit : RowsOfCommit
unfolding row Guard merged member with_member
commit = record {
  it_may_happen = (code.nothing, record { mine = refl; oldest = half; others = far_away ∷ []; buffer = refl; number_is = refl; line = refl; owner = refl; version_is = refl });
  the_next_version_has_the_store = λ d. refl;
  it_may_happen_while_the_line_is_pending = (code.nothing, record { mine = refl; oldest = half; others = far_away ∷ []; buffer = refl; number_is = refl; line = refl; owner = refl; version_is = refl });
  then_it_is_owed_the_acknowledgements = λ d. refl;
  also_where_it_is_not_known_how_many_come = λ d. refl;
  a_version_stays_at_its_greatest = λ d. refl;
  never_without_an_owner = λ d g. let e = g.owner in cc;
  never_beside_another_holder = λ d g. let e = g.owner in cc;
  never_where_another_hart_owns = λ d g. let e = g.owner in cc;
  never_where_no_store_waits = λ d g. let e = g.buffer in cc;
  never_of_a_store_that_is_not_the_oldest = λ d g. let e = ap (λ x. x.number) (oldest_is far_away g.oldest _ _ g.buffer) in let n = g.number_is in omega arith;
  never_of_a_store_in_another_line = λ d g. let e = ap (λ x. line_at (config_of word.addi) x.word.0) (oldest_is far_away g.oldest _ _ g.buffer) in let n = g.line in omega arith;
  never_with_another_number = λ d g. let e = ap (λ x. x.number) (oldest_is half g.oldest _ _ g.buffer) in let n = g.number_is in omega arith;
  never_as_another_version = λ d g. let e = g.version_is in omega arith;
  never_of_a_hart_of_another_cluster = λ d g. let e = g.mine in omega arith;
}

no_release : plain.rl ≡ true → ⊥
no_release e = cc

one_labels : (w v : WordAddr) (a b : AmoOp) (x y : ℕ) (k l : Labels) → needed.Rmw w a x k ≡ needed.Rmw v b y l → k ≡ l
one_labels w v a b x y k l e = cc

one_op : (w v : WordAddr) (a b : AmoOp) (x y : ℕ) (k l : Labels) → needed.Rmw w a x k ≡ needed.Rmw v b y l → a ≡ b
one_op w v a b x y k l e = cc

-- a release needs that its hart is drained, and an SC its reservation
drained_for : {w : Config} {c l v y : ℕ} {a : Access} {b : AmoOp} {d : HartEffect} {p : Part} {at : WordAddr} → RmwFits w c a l v d p → Needs w.image w.top (p.harts a.hart.0).core (needed.Rmw at b y release) → Drained a.hart.0 p
drained_for g n = g.release (ap (λ k. k.rl) (one_labels _ _ _ _ _ _ _ _ (need_of g.next n)))

reserved_for : {w : Config} {c l v y : ℕ} {a : Access} {k : Labels} {d : HartEffect} {p : Part} {at : WordAddr} → RmwFits w c a l v d p → Needs w.image w.top (p.harts a.hart.0).core (needed.Rmw at amo.Sc y k) → (p.harts a.hart.0).reserved ≡ Some a.word.0
reserved_for {a = a} {p = p} g n = subst (λ o. HasReserved o a.word.0 (p.harts a.hart.0).reserved) (one_op _ _ _ _ _ _ _ _ (need_of g.next n)) g.reserved

rmw : RowsOfRmw
unfolding row Guard newest_of merged member with_member
rmw = record {
  it_may_happen = (doing code.amoadd (needed.Rmw (at 100) amo.Add 7 plain) 2, record { op = amo.Add; operand = 7; labels = plain; next = record { mine = refl; need_is = refl; does = code.does_amoadd 2 }; line = refl; owner = refl; not_pending = refl; unbuffered = refl; release = λ e. absurd (no_release e); reserved = tt; access = record { made = refl; seen_is = refl }; version_is = refl });
  the_next_version_has_the_sum = λ d. refl;
  past_a_store_to_another_word = (doing code.amoadd (needed.Rmw (at 100) amo.Add 7 plain) 2, record { op = amo.Add; operand = 7; labels = plain; next = record { mine = refl; need_is = refl; does = code.does_amoadd 2 }; line = refl; owner = refl; not_pending = refl; unbuffered = refl; release = λ e. absurd (no_release e); reserved = tt; access = record { made = refl; seen_is = refl }; version_is = refl });
  also_while_it_is_owed_an_acknowledgement = (doing code.amoadd (needed.Rmw (at 100) amo.Add 7 plain) 2, record { op = amo.Add; operand = 7; labels = plain; next = record { mine = refl; need_is = refl; does = code.does_amoadd 2 }; line = refl; owner = refl; not_pending = refl; unbuffered = refl; release = λ e. absurd (no_release e); reserved = tt; access = record { made = refl; seen_is = refl }; version_is = refl });
  never_without_an_owner = λ d g. let e = g.owner in cc;
  never_beside_another_holder = λ d g. let e = g.owner in cc;
  never_of_a_pending_line = λ d g. let e = g.not_pending in cc;
  never_past_a_store_to_the_word = λ d g. let e = g.unbuffered in cc;
  never_as_a_commit_of_another_line = λ d g. let e = g.line in omega arith;
  never_of_another_value = λ d g. apart 3 2 (reads_as (word.access op.Amo plain (Some 3) (Some 10) (seen.Line 7)) _ _ _ _ _ _ (need_known g.next code.needs_amoadd) g.access.made) (λ e. omega arith);
  never_as_another_version = λ d g. let e = g.version_is in omega arith;
  never_of_a_hart_of_another_cluster = λ d g. let e = g.next.mine in omega arith;
  never_of_an_addition = λ d g. let e = need_of g.next code.needs_addi in cc;
  a_release_may_happen = (doing code.amoadd_rl (needed.Rmw (at 100) amo.Add 7 release) 2, record { op = amo.Add; operand = 7; labels = release; next = record { mine = refl; need_is = refl; does = code.does_amoadd_rl 2 }; line = refl; owner = refl; not_pending = refl; unbuffered = refl; release = λ e. record { buffer = refl; unowed = λ l. chosen (λ x. owes 2 x.acks) (l == 6) (l == 22) (l == 7) _ _ _ _ _ refl refl refl refl }; reserved = tt; access = record { made = refl; seen_is = refl }; version_is = refl });
  a_release_where_another_hart_is_owed = (doing code.amoadd_rl (needed.Rmw (at 100) amo.Add 7 release) 2, record { op = amo.Add; operand = 7; labels = release; next = record { mine = refl; need_is = refl; does = code.does_amoadd_rl 2 }; line = refl; owner = refl; not_pending = refl; unbuffered = refl; release = λ e. record { buffer = refl; unowed = λ l. chosen (λ x. owes 2 x.acks) (l == 6) (l == 22) (l == 7) _ _ _ _ _ refl refl refl refl }; reserved = tt; access = record { made = refl; seen_is = refl }; version_is = refl });
  a_release_never_while_a_store_waits = λ d g. let e = (drained_for g code.needs_amoadd_rl).buffer in cc;
  a_release_never_while_it_is_owed_an_acknowledgement = λ d g. let e = (drained_for g code.needs_amoadd_rl).unowed 22 in cc;
  an_sc_on_its_reservation = (doing code.sc (needed.Rmw (at 100) amo.Sc 7 plain) 0, record { op = amo.Sc; operand = 7; labels = plain; next = record { mine = refl; need_is = refl; does = code.does_sc 0 }; line = refl; owner = refl; not_pending = refl; unbuffered = refl; release = λ e. absurd (no_release e); reserved = refl; access = record { made = refl; seen_is = refl }; version_is = refl });
  then_the_reservation_is_gone = λ d. refl;
  an_sc_never_without_one = λ d g. let e = reserved_for g code.needs_sc in cc;
  an_sc_never_on_another_word = λ d g. apart 104 100 (reserved_for g code.needs_sc) (λ e. omega arith);
}

sc_fail : RowsOfScFail
unfolding row Guard
sc_fail = record {
  without_a_reservation = (doing code.sc (needed.Rmw (at 100) amo.Sc 7 plain) 1, record { operand = 7; labels = plain; next = record { mine = refl; need_is = refl; does = code.does_sc 1 }; unreserved = λ e. cc; front = λ l. chosen (λ x. numbered 0 x.slot) (l == 6) (l == 22) (l == 7) _ _ _ _ _ refl refl refl refl; access = record { made = refl; seen_is = refl } });
  with_one_of_another_word = (doing code.sc (needed.Rmw (at 100) amo.Sc 7 plain) 1, record { operand = 7; labels = plain; next = record { mine = refl; need_is = refl; does = code.does_sc 1 }; unreserved = λ e. apart 104 100 e (λ m. omega arith); front = λ l. chosen (λ x. numbered 0 x.slot) (l == 6) (l == 22) (l == 7) _ _ _ _ _ refl refl refl refl; access = record { made = refl; seen_is = refl } });
  the_reservation_is_cleared = λ d. refl;
  never_with_its_reservation = λ d g. g.unreserved refl;
  never_while_its_front_slot_is_open = λ d g. let e = g.front 6 in cc;
  never_while_that_slot_has_another_line = λ d g. let e = g.front 22 in cc;
  also_while_another_slot_is_open = (doing code.sc (needed.Rmw (at 100) amo.Sc 7 plain) 1, record { operand = 7; labels = plain; next = record { mine = refl; need_is = refl; does = code.does_sc 1 }; unreserved = λ e. cc; front = λ l. chosen (λ x. numbered 0 x.slot) (l == 6) (l == 22) (l == 7) _ _ _ _ _ refl refl refl refl; access = record { made = refl; seen_is = refl } });
  never_with_a_value = λ d g. let e = writes_as (word.access op.Cond plain None (Some 7) seen.Nothing) _ _ _ _ _ _ (need_known g.next code.needs_sc) g.access.made in cc;
  never_of_another_atomic_operation = λ d g. let e = need_of g.next code.needs_amoadd in cc;
  never_of_a_hart_of_another_cluster = λ d g. let e = g.next.mine in omega arith;
}

pub rows_of_accesses : RowsOfAccesses
rows_of_accesses = record { load = load; store = store; commit = commit; rmw = rmw; sc_fail = sc_fail }
