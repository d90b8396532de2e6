-- A call of a bus that lends the caches of all its harts, from what the call knows of the bus as a value.
use Rattle.std.proofs.Common.{◌≡◌, ◌≢◌, ℕ, ◌<◌, Bool, true, List, length, get_or, set, Option, Some, None, sym, ap, ◌∙◌, arith, subst}
use Rattle.std.specs.Prelude.{IsSome, Vec}
use Rattle.std.specs.Vec.{with_items}
use Rattle.std.proofs.lemmas.List.{with_items_is}
use Rattle.dash_base.specs.declared.line.Line.{Line}
use Rattle.cache_array.specs.View.{has_line}
use Rattle.snoop_bus.specs.Caches.{CachesView, caches_shared, caches_without, caches_written}
use Rattle.snoop_bus.specs.Holding.{Holding, alone, holders_in, owner_in, copy_in, joined_by, owned_by, held_by, rewritten, left_by, disowned}
use Rattle.snoop_bus.specs.View.{BusView, harts, holding_at, holders_at, owner_at, copy_of, changed, nobody, everybody, only, all_but, HasHartRoom, after_bus_read, after_bus_own, after_commit, after_install, after_drop, after_clear, after_downgrade}
use Rattle.snoop_bus.specs.Shared.{gathered, gathered_copy, bus_of, AreOneMap}
use Rattle.snoop_bus.specs.Changes.{EachBecomes, HasRoomAt, joined, taken, dropped}
use Rattle.snoop_bus.proofs.Table.{holding_at-bus_of}
use Rattle.snoop_bus.proofs.Steps.{Step, clears, takes, disowns, drops, writes, holder_has}
use Rattle.snoop_bus.proofs.OnBus.{low_hart, set_becomes, room_at, copy-gathered, owned-gathered, joins_held, takes_owned, some_of}

-- the caches of all harts are one map, as this bus has it
pub record IsBus (hs : List CachesView) (b : BusView) : Type 0 where
  pub one : AreOneMap hs
  pub bus : bus_of hs ≡ b

-- a step of the harts' caches is one of the bus
bus_step : (hs new : List CachesView) (b : BusView) (p : ℕ → Bool) (line : ℕ) (g : Option Holding → Option Holding) → bus_of hs ≡ b → Step hs new p line (g (gathered hs line)) → IsBus new (changed b p line (g (holding_at b line)))
bus_step hs new b p line g is s = record {
  one = s.one;
  bus = s.bus ∙ ap (λ o. changed (bus_of hs) p line (g o)) (sym (holding_at-bus_of hs line)) ∙ ap (λ (c : BusView). changed c p line (g (holding_at c line))) is;
}

module _ {Z : Type 0} (v : Vec CachesView Z) (b : BusView) (line : ℕ) (one : AreOneMap v.items) (is : bus_of v.items ≡ b) where
  held_there : copy_of b line ≢ None → gathered_copy v.items line ≢ None
  held_there held none = held (sym (ap (λ (c : BusView). copy_of c line) is) ∙ ap copy_in (holding_at-bus_of v.items line) ∙ copy-gathered v.items line ∙ none)

  owned_there : owner_at b line ≢ None → gathered_copy v.items line ≢ None
  owned_there owned = owned-gathered v.items line (λ none. owned (sym (ap (λ (c : BusView). owner_at c line) is) ∙ ap owner_in (holding_at-bus_of v.items line) ∙ none))

  owner_there : (hart : ℕ) → owner_at b line ≡ Some hart → owner_in (gathered v.items line) ≡ Some hart
  owner_there hart owner = sym (ap owner_in (holding_at-bus_of v.items line)) ∙ ap (λ (c : BusView). owner_at c line) is ∙ owner

  only_there : (hart : ℕ) → holders_at b line ≡ alone hart → holders_in (gathered v.items line) ≡ alone hart
  only_there hart holders = sym (ap holders_in (holding_at-bus_of v.items line)) ∙ ap (λ (c : BusView). holders_at c line) is ∙ holders

  -- the copy that is found where the line has an owner
  pub found_copy : (seen : List CachesView) (r : Option Line) → seen ≡ v.items → r ≡ gathered_copy seen line → owner_at b line ≢ None → IsSome r
  found_copy seen r seen_is found owned = some_of r (λ none. owned_there owned (ap (λ xs. gathered_copy xs line) (sym seen_is) ∙ sym found ∙ none))

  -- a hart that is the owner and the only holder writes the line
  pub has_owned : (hart : ℕ) (x : CachesView) → hart < harts b → owner_at b line ≡ Some hart → holders_at b line ≡ alone hart → x ≡ get_or v.items hart x → has_line x.levels.l2 line ≡ true
  has_owned hart x low owner only here =
      ap (λ (y : CachesView). has_line y.levels.l2 line) here ∙ holder_has v.items hart line x one (low_hart v.items b hart is low) (owner_there hart owner) (only_there hart only)

  pub commits : (hart : ℕ) (x y : CachesView) (copy : Line) → hart < harts b → owner_at b line ≡ Some hart → holders_at b line ≡ alone hart → x ≡ get_or v.items hart x → y ≡ caches_written x line copy
      → IsBus (set v.items hart y) (after_commit b line copy)
  commits hart x y copy low owner only here written =
      bus_step v.items _ b nobody line (rewritten copy) is
      (writes v.items _ hart line copy one (owner_there hart owner) (only_there hart only) (set_becomes (λ h. caches_written h line copy) v.items hart x y (low_hart v.items b hart is low) here written))

  module _ (lent : List CachesView) (lent_is : lent ≡ v.items) where
    pub low_lent : (hart : ℕ) → hart < harts b → hart < length lent
    low_lent hart low = let here = low_hart v.items b hart is low in omega (arith, here, ap length lent_is)

    pub room_lent : (hart : ℕ) → HasHartRoom b hart line → HasRoomAt lent hart line
    room_lent hart room = subst (λ (xs : List CachesView). HasRoomAt xs hart line) (sym lent_is) (room_at v.items b hart line one is room)

    pub held_lent : copy_of b line ≢ None → gathered_copy lent line ≢ None
    held_lent held none = held_there held (ap (λ xs. gathered_copy xs line) (sym lent_is) ∙ none)

    -- what was lent comes back with a step made of it
    back : (new : List CachesView) (f : List CachesView → ℕ → CachesView → CachesView) (p : ℕ → Bool) (g : Option Holding → Option Holding) → EachBecomes (f lent) lent new
        → (EachBecomes (f v.items) v.items new → Step v.items new p line (g (gathered v.items line))) → IsBus (with_items v new).items (changed b p line (g (holding_at b line)))
    back new f p g becomes step =
        let there = subst (λ (old : List CachesView). EachBecomes (f old) old new) lent_is becomes in
        let whole = with_items_is v new (omega (arith, there.as_many)) in
        subst (λ (xs : List CachesView). IsBus xs (changed b p line (g (holding_at b line)))) (sym whole) (bus_step v.items new b p line g is (step there))

    pub bus_reads : (new : List CachesView) (hart : ℕ) → hart < harts b → HasHartRoom b hart line → copy_of b line ≢ None → EachBecomes (joined lent hart line) lent new
        → IsBus (with_items v new).items (after_bus_read b hart line)
    bus_reads new hart low room held becomes =
        back new (λ hs. joined hs hart line) nobody (joined_by hart) becomes
        (joins_held v.items new hart line one (low_hart v.items b hart is low) (room_at v.items b hart line one is room) (held_there held))

    pub bus_owns : (new seen : List CachesView) (hart : ℕ) (r : Option Line) (copy : Line) → hart < harts b → HasHartRoom b hart line → seen ≡ v.items → r ≡ gathered_copy seen line → r ≡ Some copy
        → EachBecomes (taken hart line copy true) lent new → IsBus (with_items v new).items (after_bus_own b hart line)
    bus_owns new seen hart r copy low room seen_is found some becomes =
        back new (λ hs. taken hart line copy true) (all_but hart) (owned_by hart) becomes
        (takes_owned v.items new hart line copy one (low_hart v.items b hart is low) (room_at v.items b hart line one is room) (ap (λ xs. gathered_copy xs line) (sym seen_is) ∙ sym found ∙ some))

    pub installs : (new : List CachesView) (hart : ℕ) (copy : Line) (own : Bool) → hart < harts b → HasHartRoom b hart line → EachBecomes (taken hart line copy own) lent new
        → IsBus (with_items v new).items (after_install b hart line copy own)
    installs new hart copy own low room becomes =
        back new (λ hs. taken hart line copy own) (all_but hart) (λ o. held_by hart copy own) becomes
        (takes v.items new hart line copy own one (low_hart v.items b hart is low) (room_at v.items b hart line one is room))

    pub leaves : (new : List CachesView) (hart : ℕ) → hart < harts b → EachBecomes (dropped hart line) lent new → IsBus (with_items v new).items (after_drop b hart line)
    leaves new hart low becomes = back new (λ hs. dropped hart line) (only hart) (left_by hart) becomes (drops v.items new hart line one (low_hart v.items b hart is low))

    pub clears_all : (new : List CachesView) → EachBecomes (λ k h. caches_without h line) lent new → IsBus (with_items v new).items (after_clear b line)
    clears_all new becomes = back new (λ hs k h. caches_without h line) everybody (λ o. None) becomes (clears v.items new line one)

    pub downgrades : (new : List CachesView) → EachBecomes (λ k h. caches_shared h line) lent new → IsBus (with_items v new).items (after_downgrade b line)
    downgrades new becomes = back new (λ hs k h. caches_shared h line) nobody disowned becomes (disowns v.items new line one)
