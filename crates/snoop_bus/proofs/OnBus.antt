-- The steps of a bus, from what its calls know of it as a value.
use Rattle.std.proofs.Common.{◌≡◌, ◌≢◌, ℕ, ◌<◌, ◌≤◌, Bool, true, false, cond, List, length, get_or, set, replicate, Option, Some, None, option_map, refl, sym, ap, ◌∙◌, arith, subst, length-set, ◌%◌, zero, suc}
use Rattle.std.specs.Prelude.{◌==◌, MatchOption, IsSome}
use Rattle.std.proofs.lemmas.List.{get_or-set_same, get_or-set_other, get_or_default, get_or-replicate, length-replicate}
use Rattle.std.proofs.lemmas.Bool.Decides.{nat_tests}
use Rattle.dash_base.specs.declared.line.Line.{Line}
use Rattle.dash_base.specs.declared.id.LineId.{LineId}
use Rattle.cache_array.specs.View.{copy_at, has_line, HasRoom, IsOther, empty_array}
use Rattle.cache_array.proofs.LawsOffered.{copy_at-empty_array, lines-empty_array, one_per_index-empty_array}
use Rattle.cache_levels.specs.View.{in_l1, IsPartOfL2}
use Rattle.cache_levels.proofs.LawsOffered.{l2-empty_levels, l1_lines-empty_levels, in_l1-empty_levels, part-empty_levels}
use Rattle.snoop_bus.specs.Caches.{CachesView, owns, no_caches}
use Rattle.snoop_bus.specs.Holding.{holders_in, owner_in, copy_in, joined_by, owned_by}
use Rattle.snoop_bus.specs.View.{BusView, harts, nobody, all_but, HasHartRoom, IsHartOther, empty_bus}
use Rattle.snoop_bus.specs.Shared.{hart_copy, gathered, gathered_holders, gathered_owner, gathered_copy, first_l1_lines, first_l2_lines, bus_of, IsSpread, IsHartOf, AreOneMap}
use Rattle.snoop_bus.specs.Changes.{EachBecomes, HasRoomAt, joined, taken}
use Rattle.snoop_bus.proofs.CachesLines.{levels-no_caches, owns-no_caches}
use Rattle.snoop_bus.proofs.Gathered.{any_caches, gather, none_gathered, some_owner}
use Rattle.snoop_bus.proofs.Table.{holding_at-bus_of}
use Rattle.snoop_bus.proofs.BusLines.{same_bus, holding_at-empty_bus, in_hart_l1-empty_bus, harts-empty_bus, l1_lines-empty_bus, l2_lines-empty_bus}
use Rattle.snoop_bus.proofs.Becomes.{harts-bus_of, l1_lines-bus_of, l2_lines-bus_of, in_hart_l1-bus_of, is_holder-bus_of, room_of_bus, room_of_hart}
use Rattle.snoop_bus.proofs.Steps.{Step, joins, takes, gathered_there, owned_is_held}

-- a hart of the bus is one of the list
pub low_hart : (hs : List CachesView) (b : BusView) (hart : ℕ) → bus_of hs ≡ b → hart < harts b → hart < length hs
low_hart hs b hart is low = let many = harts-bus_of hs in let same = ap harts is in omega (arith, many, same)

-- a write of one hart's caches
pub set_becomes : (f : CachesView → CachesView) (hs : List CachesView) (hart : ℕ) (x y : CachesView) → hart < length hs → x ≡ get_or hs hart x → y ≡ f x → EachBecomes (λ k h. cond (k == hart) (f h) h) hs (set hs hart y)
set_becomes f hs hart x y low is fx = record {
  as_many = length-set hs hart y;
  each = λ k d klow. at k d (k == hart) refl klow;
}
  where
    at : (k : ℕ) (d : CachesView) (b : Bool) → (k == hart) ≡ b → k < length hs → get_or (set hs hart y) k d ≡ cond b (f (get_or hs k d)) (get_or hs k d)
    at k d true e klow =
        let same : hart ≡ k = grind (arith, nat_tests) in
        subst (λ j. get_or (set hs hart y) j d ≡ f (get_or hs j d)) same (get_or-set_same hs hart y d low ∙ fx ∙ ap f (is ∙ get_or_default hs hart x d low))
    at k d false e klow = let other : k ≢ hart = λ same. grind (arith, nat_tests) in get_or-set_other hs hart k y d other

-- the parts of a holding that is gathered
pub copy-gathered : (hs : List CachesView) (line : ℕ) → copy_in (gathered hs line) ≡ gathered_copy hs line
unfolding gathered
copy-gathered hs line = elim (gathered_copy hs line) as (λ r. copy_in (option_map (λ copy. record { holders = gathered_holders hs line; owner = gathered_owner 0 hs line; copy = copy }) r) ≡ r) [ None ↦ refl | Some c ↦ refl ]

holders_some : (hs : List CachesView) (line : ℕ) (r : Option Line) → AreOneMap hs → gathered_copy hs line ≡ r → gathered_holders hs line ≡ holders_in (option_map (λ copy. record { holders = gathered_holders hs line; owner = gathered_owner 0 hs line; copy = copy }) r)
holders_some hs line None one e = none_gathered hs line e
holders_some hs line (Some c) one e = refl

pub holders-gathered : (hs : List CachesView) (line : ℕ) → AreOneMap hs → holders_in (gathered hs line) ≡ gathered_holders hs line
unfolding gathered
holders-gathered hs line one = sym (holders_some hs line (gathered_copy hs line) one refl)

owner_none_held : (hs : List CachesView) (line : ℕ) (r : Option ℕ) → IsSpread hs line None → gathered_owner 0 hs line ≡ r → r ≡ None
owner_none_held hs line None s e = refl
owner_none_held hs line (Some o) s e =
    let found = some_owner 0 hs line o e in
    let has = s.owners found.hart any_caches found.low in
    grind (arith, has, found.owns_it any_caches)

owner_some : (hs : List CachesView) (line : ℕ) (r : Option Line) → AreOneMap hs → gathered_copy hs line ≡ r → IsSpread hs line (option_map (λ copy. record { holders = gathered_holders hs line; owner = gathered_owner 0 hs line; copy = copy }) r) → gathered_owner 0 hs line ≡ owner_in (option_map (λ copy. record { holders = gathered_holders hs line; owner = gathered_owner 0 hs line; copy = copy }) r)
owner_some hs line None one e s = owner_none_held hs line (gathered_owner 0 hs line) s refl
owner_some hs line (Some c) one e s = refl

pub owner-gathered : (hs : List CachesView) (line : ℕ) → AreOneMap hs → owner_in (gathered hs line) ≡ gathered_owner 0 hs line
unfolding gathered
owner-gathered hs line one = sym (owner_some hs line (gathered_copy hs line) one refl (one.spread line))

pub owned-gathered : (hs : List CachesView) (line : ℕ) → owner_in (gathered hs line) ≢ None → gathered_copy hs line ≢ None
unfolding gathered
owned-gathered hs line owned none = owned (ap (λ r. owner_in (option_map (λ copy. record { holders = gathered_holders hs line; owner = gathered_owner 0 hs line; copy = copy }) r)) none)

-- room, by the bus and by the hart
pub room_at : (hs : List CachesView) (b : BusView) (hart line : ℕ) → AreOneMap hs → bus_of hs ≡ b → HasHartRoom b hart line → HasRoomAt hs hart line
room_at hs b hart line one is room = record {
  room = λ d low.
      subst (λ x. HasRoom x.levels.l2 line) (get_or_default hs hart any_caches d low) (room_of_bus hs hart line one low (subst (λ c. HasHartRoom c hart line) (sym is) room));
}

-- one hart more holds a line
joins_from : (hs new : List CachesView) (hart line : ℕ) (r : Option Line) → AreOneMap hs → hart < length hs → HasRoomAt hs hart line → gathered_copy hs line ≡ r → r ≢ None → EachBecomes (joined hs hart line) hs new → Step hs new nobody line (joined_by hart (gathered hs line))
joins_from hs new hart line None one low room is held e = absurd (held refl)
joins_from hs new hart line (Some c) one low room is held e =
    let there = gathered_there hs line c is in
    subst (λ o. Step hs new nobody line (joined_by hart o)) (sym there.1) (joins hs new hart line there.0 one low room there.1 (is ∙ ap Some (sym there.2)) e)

pub joins_held : (hs new : List CachesView) (hart line : ℕ) → AreOneMap hs → hart < length hs → HasRoomAt hs hart line → gathered_copy hs line ≢ None → EachBecomes (joined hs hart line) hs new → Step hs new nobody line (joined_by hart (gathered hs line))
joins_held hs new hart line one low room held e = joins_from hs new hart line (gathered_copy hs line) one low room refl held e

-- a hart becomes the owner of the copy that is there
pub takes_owned : (hs new : List CachesView) (hart line : ℕ) (c : Line) → AreOneMap hs → hart < length hs → HasRoomAt hs hart line → gathered_copy hs line ≡ Some c → EachBecomes (taken hart line c true) hs new → Step hs new (all_but hart) line (owned_by hart (gathered hs line))
takes_owned hs new hart line c one low room is e =
    let there = gathered_there hs line c is in
    subst (λ o. Step hs new (all_but hart) line o) (sym (owned_is_held (gathered hs line) hart there.0 c there.1 there.2)) (takes hs new hart line c true one low room e)

-- the other line at an index, by the bus
pub other_of_bus : (hs : List CachesView) (hart line : ℕ) (r : Option LineId) → AreOneMap hs → hart < length hs → MatchOption r (HasRoom (get_or hs hart any_caches).levels.l2 line) (λ other. IsOther (get_or hs hart any_caches).levels.l2 line other.0) → MatchOption r (HasHartRoom (bus_of hs) hart line) (λ other. IsHartOther (bus_of hs) hart line other.0)
other_of_bus hs hart line None one low m = room_of_hart hs hart line one low m
other_of_bus hs hart line (Some other) one low m =
    let size : (get_or hs hart any_caches).levels.l2.lines ≡ (bus_of hs).l2_lines = (one.each hart any_caches low).l2_is ∙ sym (l2_lines-bus_of hs) in
    record {
      held = is_holder-bus_of hs hart other.0 one low ∙ m.held;
      apart = m.apart;
      index = subst (λ n. other.0 % n ≡ line % n) size m.index;
    }

-- new caches
module _ (n l1 l2 : ℕ) where
  abbrev fresh : List CachesView
  fresh = replicate n (no_caches l1 l2)

  fresh_at : (h : ℕ) (d : CachesView) → h < length fresh → get_or fresh h d ≡ no_caches l1 l2
  fresh_at h d low = get_or-replicate n h (no_caches l1 l2) d (omega (arith, length-replicate n (no_caches l1 l2)))

  no_copy_fresh : (q : ℕ) → hart_copy (no_caches l1 l2) q ≡ None
  no_copy_fresh q = ap (λ v. copy_at v.l2 q) (levels-no_caches l1 l2) ∙ ap (λ a. copy_at a q) (l2-empty_levels l1 l2) ∙ copy_at-empty_array l2 q

  spread_fresh : (q : ℕ) → IsSpread fresh q None
  spread_fresh q = record {
    proper = tt;
    copies = λ h d low. ap (λ x. hart_copy x q) (fresh_at h d low) ∙ no_copy_fresh q;
    owners = λ h d low. ap (λ x. owns x q) (fresh_at h d low) ∙ owns-no_caches l1 l2 q;
  }

  gathered_fresh : (q : ℕ) → gathered fresh q ≡ None
  gathered_fresh q = gather fresh q None (spread_fresh q)

  sound_fresh : IsHartOf l1 l2 (no_caches l1 l2)
  sound_fresh =
      let levels = levels-no_caches l1 l2 in
      let below = ap (λ v. v.l2) levels ∙ l2-empty_levels l1 l2 in
      record {
        l1_is = ap (λ v. v.l1_lines) levels ∙ l1_lines-empty_levels l1 l2;
        l2_is = ap (λ a. a.lines) below ∙ lines-empty_array l2;
        one = subst (λ a. Rattle.cache_array.specs.View.IsOnePerIndex a) (sym below) (one_per_index-empty_array l2);
        part = subst (λ v. IsPartOfL2 v) (sym levels) (part-empty_levels l1 l2);
      }

first_fresh : (n l1 l2 : ℕ) → 0 < n → (first_l1_lines (replicate n (no_caches l1 l2)) ≡ l1) × (first_l2_lines (replicate n (no_caches l1 l2)) ≡ l2)
first_fresh zero l1 l2 some = absurd (omega arith)
first_fresh (suc n) l1 l2 some = ((sound_fresh (suc n) l1 l2).l1_is, (sound_fresh (suc n) l1 l2).l2_is)

pub fresh_one_map : (n l1 l2 : ℕ) → 0 < n → n ≤ 4 → AreOneMap (replicate n (no_caches l1 l2))
fresh_one_map n l1 l2 some few =
    let first = first_fresh n l1 l2 some in
    record {
      few = omega (arith, length-replicate n (no_caches l1 l2));
      each = λ h d low. subst (λ x. IsHartOf (first_l1_lines (fresh n l1 l2)) (first_l2_lines (fresh n l1 l2)) x) (sym (fresh_at n l1 l2 h d low))
          (subst (λ a. IsHartOf a (first_l2_lines (fresh n l1 l2)) (no_caches l1 l2)) (sym first.0) (subst (λ b. IsHartOf l1 b (no_caches l1 l2)) (sym first.1) (sound_fresh n l1 l2)));
      spread = λ q. subst (λ o. IsSpread (fresh n l1 l2) q o) (sym (gathered_fresh n l1 l2 q)) (spread_fresh n l1 l2 q);
    }

pub fresh_bus : (n l1 l2 : ℕ) → 0 < n → bus_of (replicate n (no_caches l1 l2)) ≡ empty_bus n l1 l2
fresh_bus n l1 l2 some =
    let first = first_fresh n l1 l2 some in
    let many = length-replicate n (no_caches l1 l2) in
    same_bus _ _
    (l1_lines-bus_of (fresh n l1 l2) ∙ first.0 ∙ sym (l1_lines-empty_bus n l1 l2))
    (l2_lines-bus_of (fresh n l1 l2) ∙ first.1 ∙ sym (l2_lines-empty_bus n l1 l2))
    (harts-bus_of (fresh n l1 l2) ∙ many ∙ sym (harts-empty_bus n l1 l2))
    (λ q. holding_at-bus_of (fresh n l1 l2) q ∙ gathered_fresh n l1 l2 q ∙ sym (holding_at-empty_bus n l1 l2 q))
    (λ h q l. let low : h < length (fresh n l1 l2) = omega (arith, harts-bus_of (fresh n l1 l2)) in
    in_hart_l1-bus_of (fresh n l1 l2) h q low
    ∙ ap (λ (x : CachesView). in_l1 x.levels q) (fresh_at n l1 l2 h any_caches low)
    ∙ ap (λ v. in_l1 v q) (levels-no_caches l1 l2)
    ∙ in_l1-empty_levels l1 l2 q
    ∙ sym (in_hart_l1-empty_bus n l1 l2 h q))

-- what is not nothing is there
pub some_of : (o : Option Line) → o ≢ None → IsSome o
some_of None apart = absurd (apart refl)
some_of (Some c) apart = refl
