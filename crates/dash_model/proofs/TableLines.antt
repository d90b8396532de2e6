-- The rows of the table for what a cluster does to a line by itself.
use Rattle.dash_model.proofs.TableCode.{apart}
use Rattle.std.proofs.Common.{◌≡◌, ◌⊎◌, inl, inr, ℕ, ◌==◌, Bool, true, false, refl, subst, arith}
use Rattle.dash_base.specs.declared.ops.AmoOp.TheVariants as amo
use Rattle.hart_core.specs.Meaning.{Needs}
use Rattle.dash_base.specs.declared.need.Need.{Need}
use Rattle.dash_base.specs.declared.need.Need.TheVariants as needed
use Rattle.hart_core.proofs.LawsOffered.{one_need}
use Rattle.write_buffer.specs.Look.{newest_of}
use Rattle.dash_model.specs.Maps.{member, without, with_member}
use Rattle.dash_model.specs.Config.{Config, front_slot, store_slot}
use Rattle.dash_model.specs.LineEffect.{has_copy, has_owner}
use Rattle.dash_model.specs.Part.{Part}
use Rattle.dash_model.specs.Words.{held_by, numbered, AcksHaveRoom}
use Rattle.dash_model.specs.Wants.{LoadsFrom, NeedsCopy, WritesTo, FrontNeed, StoreNeed, CameFor, Wants, ToInstall, ToRead, ToOwn, AsksFor, FrontReads, FrontOwns, StoreOwns}
use Rattle.dash_model.specs.Row.{row}
use Rattle.dash_model.specs.Guard.{Guard}
use Rattle.dash_model.specs.TableParts.{at}
use Rattle.dash_model.specs.TableCode.{plain}
use Rattle.dash_model.specs.TableLines.{RowsOfBusRead, RowsOfBusOwn, RowsOfEvict, RowsOfAsk, RowsOfAgain, RowsOfInstall, RowsOfLines}
use Rattle.dash_model.proofs.TableCode as code
use Rattle.dash_model.proofs.TableCells.{chosen, beside, beside_of_index, came_beside, came_of_index, nothing_pending, room_for_acks, no_room_for_acks}

-- what a hart that needs a copy loads, and what one that needs to own writes, is what its instruction says
loads_of : {w : Config} {h l : ℕ} {p : Part} {need : Need} → NeedsCopy w h l p → Needs w.image w.top (p.harts h).core need → LoadsFrom w l (p.harts h) need
loads_of {w = w} {h = h} {l = l} {p = p} g n = subst (λ x. LoadsFrom w l (p.harts h) x) (one_need _ _ _ _ _ g.needs n) g.loads

writes_of : {w : Config} {h l : ℕ} {p : Part} {need : Need} → FrontNeed w h l p → Needs w.image w.top (p.harts h).core need → WritesTo w l (p.harts h) need
writes_of {w = w} {h = h} {l = l} {p = p} g n = subst (λ x. WritesTo w l (p.harts h) x) (one_need _ _ _ _ _ g.needs n) g.writes

bus_read : RowsOfBusRead
unfolding row Guard newest_of member with_member
bus_read = record {
  it_may_happen = (code.nothing, record { mine = refl; need = record { need = needed.Load (at 100) 15 plain false; needs = code.needs_lw; loads = (refl, refl); lacks = refl }; copy = refl; room = λ k n m. beside (λ x. held_by 2 x.copy) k _ _ _ _ _ n refl refl refl });
  it_is_a_holder_too = λ d. refl;
  also_beside_an_owner_who_stays_the_owner = λ d. refl;
  also_with_a_line_of_another_index = (code.nothing, record { mine = refl; need = record { need = needed.Load (at 100) 15 plain false; needs = code.needs_lw; loads = (refl, refl); lacks = refl }; copy = refl; room = λ k n m. beside_of_index (λ x. held_by 2 x.copy) k _ _ _ _ _ n m refl refl });
  an_lr_may_too = (code.nothing, record { mine = refl; need = record { need = needed.Load (at 100) 15 plain true; needs = code.needs_lr; loads = (refl, refl); lacks = refl }; copy = refl; room = λ k n m. beside (λ x. held_by 2 x.copy) k _ _ _ _ _ n refl refl refl });
  never_where_it_is_a_holder = λ d g. let e = g.need.lacks in cc;
  never_where_the_cluster_has_no_copy = λ d g. let e = g.copy in cc;
  never_without_room = λ d g. let e = g.room 22 (λ e. omega arith) refl in cc;
  never_where_a_store_has_the_bytes = λ d g. let e = (loads_of g.need code.needs_lw).1 in cc;
  never_where_a_store_has_some_of_them = λ d g. let e = (loads_of g.need code.needs_lw).1 in cc;
  an_lr_never_past_a_store_to_its_word = λ d g. let e = (loads_of g.need code.needs_lr).1 in cc;
  never_for_a_load_of_another_line = λ d g. let e = (loads_of g.need code.needs_lw_other).0 in omega arith;
  never_for_an_atomic_operation = λ d g. loads_of g.need code.needs_amoadd;
  never_at_another_cluster = λ d g. let e = g.mine in omega arith;
}

bus_own : RowsOfBusOwn
unfolding row Guard member
bus_own = record {
  for_an_atomic_operation = (code.nothing, record { mine = refl; need = inl (record { need = needed.Rmw (at 100) amo.Add 7 plain; needs = code.needs_amoadd; writes = refl; lacks = refl }); owner = refl; room = λ k n m. beside (λ x. held_by 2 x.copy) k _ _ _ _ _ n refl refl refl });
  for_an_sc_on_its_reservation = (code.nothing, record { mine = refl; need = inl (record { need = needed.Rmw (at 100) amo.Sc 7 plain; needs = code.needs_sc; writes = (refl, refl); lacks = refl }); owner = refl; room = λ k n m. beside (λ x. held_by 2 x.copy) k _ _ _ _ _ n refl refl refl });
  for_the_oldest_store = (code.nothing, record { mine = refl; need = inr (record { oldest = refl; lacks = refl }); owner = refl; room = λ k n m. beside (λ x. held_by 2 x.copy) k _ _ _ _ _ n refl refl refl });
  also_where_it_owns_beside_another_holder = (code.nothing, record { mine = refl; need = inl (record { need = needed.Rmw (at 100) amo.Add 7 plain; needs = code.needs_amoadd; writes = refl; lacks = refl }); owner = refl; room = λ k n m. beside (λ x. held_by 2 x.copy) k _ _ _ _ _ n refl refl refl });
  it_is_the_only_holder_and_every_other_is_cleared = λ d. refl;
  a_reservation_in_another_line_stays = λ d. refl;
  never_in_state_M = λ d g. elim g.need [ inl f ↦ let e = f.lacks in cc | inr s ↦ let e = s.lacks in cc ];
  never_where_the_cluster_has_no_owner = λ d g. let e = g.owner in cc;
  never_without_room = λ d g. let e = g.room 22 (λ e. omega arith) refl in cc;
  never_for_an_sc_without_its_reservation = λ d g. elim g.need [ inl f ↦ apart 104 100 (writes_of f code.needs_sc).1 (λ e. omega arith) | inr s ↦ s.oldest ];
  never_for_a_load = λ d g. elim g.need [ inl f ↦ writes_of f code.needs_lw | inr s ↦ s.oldest ];
  never_for_a_store_that_is_not_the_oldest = λ d g. elim g.need [ inl f ↦ writes_of f code.needs_addi | inr s ↦ let e = s.oldest in omega arith ];
  never_at_another_cluster = λ d g. let e = g.mine in omega arith;
}

both : (b : Bool) → b ≡ false → b ≡ true → ⊥
both b e f = cc

-- why a hart would want a line: it came, or its instruction or its oldest store needs what its cluster has
unwanted : {w : Config} {h l : ℕ} {p : Part} → Wants w h l p → (CameFor h (p.cells l).slot → ⊥) → (NeedsCopy w h l p → has_copy (p.cells l).copy ≡ true → ⊥) → (FrontNeed w h l p → has_owner (p.cells l).copy ≡ true → ⊥) → (StoreNeed w h l p → has_owner (p.cells l).copy ≡ true → ⊥) → ⊥
unwanted (ToInstall c) a r f s = a c
unwanted (ToRead n h) a r f s = r n h
unwanted (ToOwn n h) a r f s = elim n [ inl x ↦ f x h | inr x ↦ s x h ]

evict : RowsOfEvict
unfolding row Guard newest_of member without
evict = record {
  a_holder_for_a_line_that_came = (code.nothing, record { mine = refl; holder = refl; other = 22; differs = λ e. omega arith; index = refl; wants = ToInstall refl; may_leave = inl refl });
  a_holder_for_a_line_to_read_in_its_cluster = (code.nothing, record { mine = refl; holder = refl; other = 22; differs = λ e. omega arith; index = refl; wants = ToRead (record { need = needed.Load (at 352) 15 plain false; needs = code.needs_lw_other; loads = (refl, refl); lacks = refl }) refl; may_leave = inl refl });
  an_owner_may_too = (code.nothing, record { mine = refl; holder = refl; other = 22; differs = λ e. omega arith; index = refl; wants = ToInstall refl; may_leave = inl refl });
  a_holder_beside_an_owner_while_the_line_is_pending = (code.nothing, record { mine = refl; holder = refl; other = 22; differs = λ e. omega arith; index = refl; wants = ToInstall refl; may_leave = inr refl });
  an_owner_never_while_the_line_is_pending = λ d g. elim g.may_leave [ inl e ↦ cc | inr e ↦ cc ];
  never_where_it_is_no_holder = λ d g. let e = g.holder in cc;
  never_where_nothing_is_wanted = λ d g. unwanted g.wants (came_beside _ 2 _ _ _ g.differs (λ m. m) (λ m. m)) (λ r h. loads_of r code.needs_addi) (λ f h. writes_of f code.needs_addi) (λ s h. s.oldest);
  never_for_what_another_hart_wants = λ d g. unwanted g.wants (came_beside _ 2 _ _ _ g.differs (λ m. omega arith) (λ m. m)) (λ r h. loads_of r code.needs_addi) (λ f h. writes_of f code.needs_addi) (λ s h. s.oldest);
  never_for_a_line_that_has_not_come = λ d g. unwanted g.wants (came_beside _ 2 _ _ _ g.differs (λ m. m) (λ m. m)) (λ r h. loads_of r code.needs_addi) (λ f h. writes_of f code.needs_addi) (λ s h. s.oldest);
  never_for_a_line_to_read_that_its_cluster_has_not_got = λ d g. unwanted g.wants (came_beside _ 2 _ _ _ g.differs (λ m. m) (λ m. m)) (λ r h. both (has_copy _) (beside (λ x. has_copy x.copy) g.other false _ _ _ _ g.differs refl refl refl) h) (λ f h. writes_of f code.needs_lw_other) (λ s h. s.oldest);
  never_for_a_line_of_another_index = λ d g. unwanted g.wants (came_of_index _ 2 _ _ _ g.differs g.index (λ m. m)) (λ r h. loads_of r code.needs_addi) (λ f h. writes_of f code.needs_addi) (λ s h. s.oldest);
  never_for_the_line_itself = λ d g. unwanted g.wants (came_beside _ 2 _ _ _ g.differs (λ m. m) (λ m. m)) (λ r h. loads_of r code.needs_addi) (λ f h. writes_of f code.needs_addi) (λ s h. s.oldest);
  never_at_another_cluster = λ d g. let e = g.mine in omega arith;
  the_owner_leaves_no_copy_and_writes_back = λ d. refl;
  a_holder_leaves_the_others = λ d. refl;
  a_holder_leaves_the_owner = λ d. refl;
  the_last_holder_leaves_no_copy = λ d. refl;
}

-- why a slot asks to read
pub record Reading (w : Config) (c n h l : ℕ) (p : Part) : Type 0 where
  pub slot : n ≡ front_slot w c h
  pub need : NeedsCopy w h l p
  pub lacks : has_copy (p.cells l).copy ≡ false

read_cause : {w : Config} {c n h l : ℕ} {p : Part} → AsksFor w c n h l p false → Reading w c n h l p
read_cause (FrontReads s n e) = record { slot = s; need = n; lacks = e }

-- and to own, for this need
pub record Owning (w : Config) (slot n l : ℕ) (need : Type 0) (p : Part) : Type 0 where
  pub slot_is : n ≡ slot
  pub need_is : need
  pub lacks : has_owner (p.cells l).copy ≡ false
  pub room : AcksHaveRoom w p

own_cause : {w : Config} {c n h l : ℕ} {p : Part} → AsksFor w c n h l p true → Owning w (front_slot w c h) n l (FrontNeed w h l p) p ⊎ Owning w (store_slot w c h) n l (StoreNeed w h l p) p
own_cause (FrontOwns s n e r) = inl (record { slot_is = s; need_is = n; lacks = e; room = r })
own_cause (StoreOwns s n e r) = inr (record { slot_is = s; need_is = n; lacks = e; room = r })

ask : RowsOfAsk
unfolding row Guard newest_of member
ask = record {
  the_front_slot_to_read = (code.nothing, record { mine = refl; may = record { empty = λ l. chosen (λ x. numbered 0 x.slot) (l == 6) (l == 22) (l == 7) _ _ _ _ _ refl refl refl refl; lone = refl; cause = FrontReads refl (record { need = needed.Load (at 100) 15 plain false; needs = code.needs_lw; loads = (refl, refl); lacks = refl }) refl } });
  it_asks_the_home = λ d. refl;
  it_needs_no_room_for_acknowledgements = (code.nothing, record { mine = refl; may = record { empty = λ l. chosen (λ x. numbered 0 x.slot) (l == 6) (l == 22) (l == 7) _ _ _ _ _ refl refl refl refl; lone = refl; cause = FrontReads refl (record { need = needed.Load (at 100) 15 plain false; needs = code.needs_lw; loads = (refl, refl); lacks = refl }) refl } });
  never_to_read_what_the_cluster_has = λ d g. let e = (read_cause g.may.cause).lacks in cc;
  never_to_read_for_nothing = λ d g. loads_of (read_cause g.may.cause).need code.needs_addi;
  never_to_read_by_the_store_slot = λ d g. let e = (read_cause g.may.cause).slot in omega arith;
  never_by_a_slot_that_is_not_empty = λ d g. let e = g.may.empty 22 in cc;
  never_for_a_line_in_a_slot = λ d g. let e = g.may.lone in cc;
  never_at_another_cluster = λ d g. let e = g.mine in omega arith;
  the_front_slot_to_own = (code.nothing, record { mine = refl; may = record { empty = λ l. chosen (λ x. numbered 0 x.slot) (l == 6) (l == 22) (l == 7) _ _ _ _ _ refl refl refl refl; lone = refl; cause = FrontOwns refl (record { need = needed.Rmw (at 100) amo.Add 7 plain; needs = code.needs_amoadd; writes = refl; lacks = refl }) refl (room_for_acks _ _ (λ l. nothing_pending (l == 6) (l == 22) (l == 7) _ _ _ refl refl refl)) } });
  an_entry_of_acknowledgements_begins = λ d. refl;
  never_to_own_what_the_cluster_owns = λ d g. elim (own_cause g.may.cause) [ inl f ↦ let e = f.lacks in cc | inr s ↦ let e = s.lacks in cc ];
  never_to_own_without_room_for_acknowledgements = λ d g. elim (own_cause g.may.cause) [ inl f ↦ no_room_for_acks _ _ 22 (omega arith) (omega arith) f.room | inr s ↦ no_room_for_acks _ _ 22 (omega arith) (omega arith) s.room ];
  never_to_own_for_a_load = λ d g. elim (own_cause g.may.cause) [ inl f ↦ writes_of f.need_is code.needs_lw | inr s ↦ s.need_is.oldest ];
  never_to_own_for_an_sc_without_its_reservation = λ d g. elim (own_cause g.may.cause) [ inl f ↦ let e = (writes_of f.need_is code.needs_sc).1 in cc | inr s ↦ s.need_is.oldest ];
  the_store_slot_to_own = (code.nothing, record { mine = refl; may = record { empty = λ l. chosen (λ x. numbered 2 x.slot) (l == 6) (l == 22) (l == 7) _ _ _ _ _ refl refl refl refl; lone = refl; cause = StoreOwns refl (record { oldest = refl; lacks = refl }) refl (room_for_acks _ _ (λ l. nothing_pending (l == 6) (l == 22) (l == 7) _ _ _ refl refl refl)) } });
  never_for_a_store_by_the_front_slot = λ d g. elim (own_cause g.may.cause) [ inl f ↦ writes_of f.need_is code.needs_addi | inr s ↦ let e = s.slot_is in omega arith ];
  never_for_a_store_that_is_not_the_oldest = λ d g. elim (own_cause g.may.cause) [ inl f ↦ writes_of f.need_is code.needs_addi | inr s ↦ let e = s.need_is.oldest in omega arith ];
  never_for_a_store_where_the_cluster_owns = λ d g. elim (own_cause g.may.cause) [ inl f ↦ let e = f.lacks in cc | inr s ↦ let e = s.lacks in cc ];
  never_for_a_store_without_room_for_acknowledgements = λ d g. elim (own_cause g.may.cause) [ inl f ↦ no_room_for_acks _ _ 22 (omega arith) (omega arith) f.room | inr s ↦ no_room_for_acks _ _ 22 (omega arith) (omega arith) s.room ];
}

again : RowsOfAgain
unfolding row Guard
again = record {
  it_may_happen = (code.nothing, refl);
  a_read_goes_to_the_home = λ d. refl;
  one_to_own_goes_there_too = λ d. refl;
  never_where_it_asked = λ d g. g;
  never_where_it_is_poisoned = λ d g. g;
  never_where_it_came = λ d g. g;
  never_by_another_slot = λ d g. omega arith;
  never_by_no_slot = λ d g. g;
}

install : RowsOfInstall
unfolding row Guard member
install = record {
  a_line_to_read = (code.nothing, record { mine = refl; came = (refl, refl); room = λ k n m. beside (λ x. held_by 2 x.copy) k _ _ _ _ _ n refl refl refl });
  the_hart_is_the_only_holder = λ d. refl;
  a_line_to_own = (code.nothing, record { mine = refl; came = (refl, refl); room = λ k n m. beside (λ x. held_by 2 x.copy) k _ _ _ _ _ n refl refl refl });
  the_hart_is_the_owner = λ d. refl;
  every_other_holder_is_cleared = λ d. refl;
  a_stranger_keeps_no_reservation_in_the_line = λ d. refl;
  but_one_in_another_line = λ d. refl;
  never_where_it_has_not_come = λ d g. g.came;
  never_for_another_slot = λ d g. let e = g.came.0 in omega arith;
  never_for_another_hart = λ d g. let e = g.came.1 in omega arith;
  never_without_room = λ d g. let e = g.room 22 (λ e. omega arith) refl in cc;
  never_at_another_cluster = λ d g. let e = g.mine in omega arith;
}

pub rows_of_lines : RowsOfLines
rows_of_lines = record { bus_read = bus_read; bus_own = bus_own; evict = evict; ask = ask; again = again; install = install }
