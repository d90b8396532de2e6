-- Each change of the bus: what becomes of each hart, and that the arrays of all harts stay one map.
use Rattle.std.proofs.Common.{◌≡◌, ◌≢◌, ℕ, ◌<◌, ◌≤◌, Bool, true, false, cond, not, ◌&&◌, ◌||◌, List, [], length, get_or, Option, Some, None, is_some, refl, sym, ap, ◌∙◌, arith, subst, option_map}
use Rattle.std.specs.Prelude.{◌==◌}
use Rattle.std.proofs.lemmas.Bool.Decides.{nat_tests}
use Rattle.dash_base.specs.declared.line.Line.{Line}
use Rattle.cache_array.specs.View.{has_line, HasRoom, IsOnePerIndex}
use Rattle.cache_levels.specs.View.{IsPartOfL2}
use Rattle.snoop_bus.specs.Caches.{CachesView, owns, caches_with, caches_written, caches_without, caches_shared}
use Rattle.snoop_bus.specs.Holding.{Holding, has_hart, alone, without_hart, is_owner, holders_in, owner_in, joined_by, owned_by, held_by, rewritten, left_by, disowned, IsProper, IsProperHolding}
use Rattle.snoop_bus.specs.View.{changed, nobody, everybody, only, all_but}
use Rattle.snoop_bus.specs.Shared.{hart_copy, gathered, gathered_copy, bus_of, share_of_copy, share_of_owner, IsSpread, AreOneMap}
use Rattle.snoop_bus.specs.Changes.{EachBecomes, HasRoomAt, given, joined, taken, dropped}
use Rattle.snoop_bus.proofs.Bits.{has_hart-alone, has_hart-with_hart, has_hart-without_hart, has_hart-without_hart_only, has_hart-zero}
use Rattle.snoop_bus.proofs.Becomes.{HartBecomes, stays_one_map, becomes_changed}
use Rattle.snoop_bus.proofs.Hart.{becomes-without, becomes-same, becomes-with, becomes-written, becomes-shared}

-- a change of the bus
pub record Step (hs new : List CachesView) (p : ℕ → Bool) (line : ℕ) (o : Option Holding) : Type 0 where
  pub one : AreOneMap new
  pub bus : bus_of new ≡ changed (bus_of hs) p line o

step : (hs new : List CachesView) (f : ℕ → CachesView → CachesView) (p : ℕ → Bool) (line : ℕ) (o : Option Holding) → AreOneMap hs → EachBecomes f hs new → IsProper (length hs) o → ((h : ℕ) (d : CachesView) → h < length hs → HartBecomes p line o h (get_or hs h d) (f h (get_or hs h d))) → Step hs new p line o
step hs new f p line o one e proper each = record {
  one = stays_one_map hs new f p line o one e proper each;
  bus = becomes_changed hs new f p line o one e proper each;
}

-- no hart has the line
pub clears : (hs new : List CachesView) (line : ℕ) → AreOneMap hs → EachBecomes (λ k h. caches_without h line) hs new → Step hs new everybody line None
clears hs new line one e =
    step hs new (λ k h. caches_without h line) everybody line None one e tt
    (λ h d low. becomes-without everybody line None h (get_or hs h d) refl refl refl (one.each h d low).one (one.each h d low).part)

-- one hart alone has the line
alone_some : (hart n : ℕ) → n ≡ alone hart → n ≢ 0
alone_some hart n e zero =
    let bit = has_hart-alone hart hart in
    let none = has_hart-zero hart in
    grind (arith, nat_tests, bit, none)

owner_if : (own : Bool) (hart k : ℕ) → is_owner (cond own (Some hart) None) k ≡ (own && (hart == k))
owner_if true hart k = refl
owner_if false hart k = refl

held_proper : (n hart : ℕ) (c : Line) (own : Bool) → hart < n → IsProper n (held_by hart c own)
held_proper n hart c own low = record {
  held = alone_some hart (alone hart) refl;
  within = λ k has. grind (arith, nat_tests, has_hart-alone hart k);
  owner = λ k is. grind (arith, nat_tests, has_hart-alone hart k, owner_if own hart k);
}

taken_share : (hart : ℕ) (c : Line) (own : Bool) (k : ℕ) (b : Bool) → (k == hart) ≡ b → (share_of_copy (held_by hart c own) k ≡ cond b (Some c) None) × (share_of_owner (held_by hart c own) k ≡ cond b own false)
taken_share hart c own k b is =
    (ap (λ t. cond t (Some c) None) (has_hart-alone hart k ∙ is), grind (arith, nat_tests, owner_if own hart k))

takes_at : (hart line : ℕ) (c : Line) (own : Bool) (k : ℕ) (x : CachesView) (b : Bool) → (k == hart) ≡ b → (b ≡ true → HasRoom x.levels.l2 line) → IsOnePerIndex x.levels.l2 → IsPartOfL2 x.levels → HartBecomes (all_but hart) line (held_by hart c own) k x (cond b (caches_with x line c own) (caches_without x line))
takes_at hart line c own k x true is room one part =
    let shares = taken_share hart c own k true is in
    becomes-with (all_but hart) line (held_by hart c own) k x c own (ap not is) shares.0 shares.1 (room refl) one part
takes_at hart line c own k x false is room one part =
    let shares = taken_share hart c own k false is in
    becomes-without (all_but hart) line (held_by hart c own) k x (ap not is) shares.0 shares.1 one part

room_here : (hs : List CachesView) (hart line k : ℕ) (d : CachesView) → HasRoomAt hs hart line → k < length hs → (k == hart) ≡ true → HasRoom (get_or hs k d).levels.l2 line
room_here hs hart line k d room low is =
    let same : hart ≡ k = grind (arith, nat_tests) in
    subst (λ j. HasRoom (get_or hs j d).levels.l2 line) same (room.room d (subst (λ j. j < length hs) (sym same) low))

pub takes : (hs new : List CachesView) (hart line : ℕ) (c : Line) (own : Bool) → AreOneMap hs → hart < length hs → HasRoomAt hs hart line → EachBecomes (taken hart line c own) hs new → Step hs new (all_but hart) line (held_by hart c own)
takes hs new hart line c own one low room e =
    step hs new (taken hart line c own) (all_but hart) line (held_by hart c own) one e (held_proper (length hs) hart c own low)
    (λ k d l. takes_at hart line c own k (get_or hs k d) (k == hart) refl (room_here hs hart line k d room l) (one.each k d l).one (one.each k d l).part)

-- a holding that is there, and its copy
pub gathered_there : (hs : List CachesView) (line : ℕ) (c : Line) → gathered_copy hs line ≡ Some c → (g : Holding) × (gathered hs line ≡ Some g) × (g.copy ≡ c)
unfolding gathered
gathered_there hs line c e = (_, ap (option_map _) e, refl)

pub owned_is_held : (o : Option Holding) (hart : ℕ) (g : Holding) (c : Line) → o ≡ Some g → g.copy ≡ c → owned_by hart o ≡ held_by hart c true
owned_is_held None hart g c e same = cc
owned_is_held (Some x) hart g c e same =
    let copy : x.copy ≡ c = cc in
    λ i. Some (record { holders = alone hart; owner = Some hart; copy = copy i })

-- a line that one hart more holds
joined_share : (hart : ℕ) (g : Holding) (k : ℕ) (b : Bool) → (k == hart) ≡ b → share_of_copy (joined_by hart (Some g)) k ≡ cond (b || has_hart g.holders k) (Some g.copy) None
joined_share hart g k b is = ap (λ t. cond t (Some g.copy) None) (has_hart-with_hart g.holders hart k ∙ ap (λ t. t || has_hart g.holders k) is)

shared_some : (t : Bool) (c : Line) (o : Option Line) → o ≡ cond t (Some c) None → is_some o ≡ true → Some c ≡ o
shared_some true c o e some = sym e
shared_some false c o e some = grind arith

shared_none : (t : Bool) (c : Line) (o : Option Line) → o ≡ cond t (Some c) None → is_some o ≡ false → t ≡ false
shared_none true c o e some = grind arith
shared_none false c o e some = refl

not_owner : (n : ℕ) (g : Holding) (k : ℕ) (b : Bool) → IsProperHolding n g → has_hart g.holders k ≡ false → is_owner g.owner k ≡ b → b ≡ false
not_owner n g k true p lacks is = sym (p.owner k is) ∙ lacks
not_owner n g k false p lacks is = refl

joins_here : (n hart line : ℕ) (g : Holding) (k : ℕ) (x : CachesView) (t : Bool) → (k == hart) ≡ true → hart_copy x line ≡ share_of_copy (Some g) k → owns x line ≡ share_of_owner (Some g) k → IsProperHolding n g → HasRoom x.levels.l2 line → IsOnePerIndex x.levels.l2 → IsPartOfL2 x.levels → has_line x.levels.l2 line ≡ t → HartBecomes nobody line (joined_by hart (Some g)) k x (cond t x (caches_with x line g.copy false))
joins_here n hart line g k x true is copy own p room one part held =
    becomes-same nobody line (joined_by hart (Some g)) k x refl (joined_share hart g k true is ∙ shared_some (has_hart g.holders k) g.copy (hart_copy x line) copy held) (sym own) one part
joins_here n hart line g k x false is copy own p room one part held =
    becomes-with nobody line (joined_by hart (Some g)) k x g.copy false refl (joined_share hart g k true is) (not_owner n g k _ p (shared_none (has_hart g.holders k) g.copy (hart_copy x line) copy held) refl) room one part

joins_at : (n hart line : ℕ) (g : Holding) (k : ℕ) (x : CachesView) (b : Bool) → (k == hart) ≡ b → hart_copy x line ≡ share_of_copy (Some g) k → owns x line ≡ share_of_owner (Some g) k → IsProperHolding n g → (b ≡ true → HasRoom x.levels.l2 line) → IsOnePerIndex x.levels.l2 → IsPartOfL2 x.levels → HartBecomes nobody line (joined_by hart (Some g)) k x (cond b (given (Some g.copy) line x) x)
joins_at n hart line g k x true is copy own p room one part =
    joins_here n hart line g k x (has_line x.levels.l2 line) is copy own p (room refl) one part refl
joins_at n hart line g k x false is copy own p room one part =
    becomes-same nobody line (joined_by hart (Some g)) k x refl (joined_share hart g k false is ∙ sym copy) (sym own) one part

joined_proper : (n hart : ℕ) (g : Holding) → hart < n → IsProperHolding n g → IsProper n (joined_by hart (Some g))
joined_proper n hart g low p = record {
  held = λ zero. let bit = has_hart-with_hart g.holders hart hart in let none = has_hart-zero hart in grind (arith, nat_tests, bit, none);
  within = λ k has. grind (arith, nat_tests, has_hart-with_hart g.holders hart k, p.within k);
  owner = λ k is. grind (arith, nat_tests, has_hart-with_hart g.holders hart k, p.owner k is);
}

pub joins : (hs new : List CachesView) (hart line : ℕ) (g : Holding) → AreOneMap hs → hart < length hs → HasRoomAt hs hart line → gathered hs line ≡ Some g → gathered_copy hs line ≡ Some g.copy → EachBecomes (joined hs hart line) hs new → Step hs new nobody line (joined_by hart (Some g))
joins hs new hart line g one low room is copy e =
    let s = subst (λ o. IsSpread hs line o) is (one.spread line) in
    step hs new (joined hs hart line) nobody line (joined_by hart (Some g)) one e (joined_proper (length hs) hart g low s.proper)
    (λ k d l. subst (λ o. HartBecomes nobody line (joined_by hart (Some g)) k (get_or hs k d) (cond (k == hart) (given o line (get_or hs k d)) (get_or hs k d))) (sym copy)
    (joins_at (length hs) hart line g k (get_or hs k d) (k == hart) refl (s.copies k d l) (s.owners k d l) s.proper (room_here hs hart line k d room l) (one.each k d l).one (one.each k d l).part))

-- a line that no hart owns any more
disowned_share : (o : Option Holding) (k : ℕ) → share_of_copy (disowned o) k ≡ share_of_copy o k
disowned_share None k = refl
disowned_share (Some g) k = refl

disowned_owner : (o : Option Holding) (k : ℕ) → share_of_owner (disowned o) k ≡ false
disowned_owner None k = refl
disowned_owner (Some g) k = refl

disowned_proper : (n : ℕ) (o : Option Holding) → IsProper n o → IsProper n (disowned o)
disowned_proper n None p = tt
disowned_proper n (Some g) p = record { held = p.held; within = p.within; owner = λ k is. cc }

pub disowns : (hs new : List CachesView) (line : ℕ) → AreOneMap hs → EachBecomes (λ k h. caches_shared h line) hs new → Step hs new nobody line (disowned (gathered hs line))
disowns hs new line one e =
    let s = one.spread line in
    step hs new (λ k h. caches_shared h line) nobody line (disowned (gathered hs line)) one e (disowned_proper (length hs) (gathered hs line) s.proper)
    (λ k d l. becomes-shared nobody line (disowned (gathered hs line)) k (get_or hs k d) refl (disowned_share (gathered hs line) k ∙ sym (s.copies k d l)) (disowned_owner (gathered hs line) k) (one.each k d l).one (one.each k d l).part)

-- a line that its only holder writes
abbrev pub written_at : ℕ → ℕ → Line → ℕ → CachesView → CachesView
written_at hart line c k h = cond (k == hart) (caches_written h line c) h

written_proper : (n : ℕ) (o : Option Holding) (c : Line) → IsProper n o → IsProper n (rewritten c o)
written_proper n None c p = tt
written_proper n (Some g) c p = record { held = p.held; within = p.within; owner = p.owner }

written_owner : (o : Option Holding) (c : Line) (k : ℕ) → share_of_owner (rewritten c o) k ≡ share_of_owner o k
written_owner None c k = refl
written_owner (Some g) c k = refl

only_here : (hart k holders : ℕ) (b : Bool) → holders ≡ alone hart → (k == hart) ≡ b → has_hart holders k ≡ b
only_here hart k holders b only is = ap (λ n. has_hart n k) only ∙ has_hart-alone hart k ∙ is

written_share : (o : Option Holding) (hart : ℕ) (c : Line) (k : ℕ) (b : Bool) → owner_in o ≡ Some hart → holders_in o ≡ alone hart → (k == hart) ≡ b → (share_of_copy (rewritten c o) k ≡ cond b (Some c) None) × (is_some (share_of_copy o k) ≡ b)
written_share None hart c k b owner only is = cc
written_share (Some g) hart c k true owner only is =
    let here = only_here hart k g.holders true only is in
    (ap (λ t. cond t (Some c) None) here, ap (λ t. is_some (cond t (Some g.copy) None)) here)
written_share (Some g) hart c k false owner only is =
    let here = only_here hart k g.holders false only is in
    (ap (λ t. cond t (Some c) None) here, ap (λ t. is_some (cond t (Some g.copy) None)) here)

none_of : (o : Option Line) → is_some o ≡ false → o ≡ None
none_of None e = refl
none_of (Some c) e = grind arith

writes_at : (hart line : ℕ) (c : Line) (o : Option Holding) (k : ℕ) (x : CachesView) (b : Bool) → (k == hart) ≡ b → owner_in o ≡ Some hart → holders_in o ≡ alone hart → hart_copy x line ≡ share_of_copy o k → owns x line ≡ share_of_owner o k → IsOnePerIndex x.levels.l2 → IsPartOfL2 x.levels → HartBecomes nobody line (rewritten c o) k x (cond b (caches_written x line c) x)
writes_at hart line c o k x true is owner only copy own one part =
    let shares = written_share o hart c k true owner only is in
    becomes-written nobody line (rewritten c o) k x c refl shares.0 (written_owner o c k ∙ sym own) (ap is_some copy ∙ shares.1) one part
writes_at hart line c o k x false is owner only copy own one part =
    let shares = written_share o hart c k false owner only is in
    becomes-same nobody line (rewritten c o) k x refl (shares.0 ∙ sym (copy ∙ none_of (share_of_copy o k) shares.1)) (written_owner o c k ∙ sym own) one part

pub writes : (hs new : List CachesView) (hart line : ℕ) (c : Line) → AreOneMap hs → owner_in (gathered hs line) ≡ Some hart → holders_in (gathered hs line) ≡ alone hart → EachBecomes (written_at hart line c) hs new → Step hs new nobody line (rewritten c (gathered hs line))
writes hs new hart line c one owner only e =
    let s = one.spread line in
    step hs new (written_at hart line c) nobody line (rewritten c (gathered hs line)) one e (written_proper (length hs) (gathered hs line) c s.proper)
    (λ k d l. writes_at hart line c (gathered hs line) k (get_or hs k d) (k == hart) refl owner only (s.copies k d l) (s.owners k d l) (one.each k d l).one (one.each k d l).part)

-- the only holder has the line
pub holder_has : (hs : List CachesView) (hart line : ℕ) (d : CachesView) → AreOneMap hs → hart < length hs → owner_in (gathered hs line) ≡ Some hart → holders_in (gathered hs line) ≡ alone hart → has_line (get_or hs hart d).levels.l2 line ≡ true
holder_has hs hart line d one low owner only =
    ap is_some ((one.spread line).copies hart d low) ∙ (written_share (gathered hs line) hart (record { words = []; version = 0 }) hart true owner only (grind (arith, nat_tests))).1

-- a line that one hart drops: the rest of a holding, by whether any holder is left
abbrev rest_of : Bool → ℕ → Holding → Option Holding
rest_of z hart g = cond z None (Some (record { holders = without_hart g.holders hart; owner = cond (is_owner g.owner hart) None g.owner; copy = g.copy }))

other_owner : (o : Option ℕ) (hart k : ℕ) (t : Bool) → is_owner o hart ≡ t → is_owner (cond t None o) k ≡ (not (k == hart) && is_owner o k)
other_owner None hart k true is = grind (arith, nat_tests)
other_owner None hart k false is = grind (arith, nat_tests)
other_owner (Some o) hart k true is = grind (arith, nat_tests)
other_owner (Some o) hart k false is = grind (arith, nat_tests)

rest_copy : (hart : ℕ) (g : Holding) (k : ℕ) (z : Bool) → hart < 32 → k < 32 → (without_hart g.holders hart == 0) ≡ z → share_of_copy (rest_of z hart g) k ≡ cond (not (k == hart) && has_hart g.holders k) (Some g.copy) None
rest_copy hart g k true low klow is =
    let none : without_hart g.holders hart ≡ 0 = grind (arith, nat_tests) in
    ap (λ t. cond t (Some g.copy) None) (sym (has_hart-zero k) ∙ ap (λ n. has_hart n k) (sym none) ∙ has_hart-without_hart g.holders hart k low klow)
rest_copy hart g k false low klow is = ap (λ t. cond t (Some g.copy) None) (has_hart-without_hart g.holders hart k low klow)

no_rest_owner : (n hart : ℕ) (g : Holding) (k : ℕ) (b t : Bool) → IsProperHolding n g → without_hart g.holders hart ≡ 0 → hart < 32 → k < 32 → (k == hart) ≡ b → is_owner g.owner k ≡ t → false ≡ (not b && t)
no_rest_owner n hart g k true t p none low klow kis is = refl
no_rest_owner n hart g k false false p none low klow kis is = refl
no_rest_owner n hart g k false true p none low klow kis is =
    let has = p.owner k is in
    let bit = has_hart-without_hart g.holders hart k low klow in
    let zero = ap (λ n. has_hart n k) none ∙ has_hart-zero k in
    grind (arith, nat_tests, has, bit, zero)

rest_owner : (n hart : ℕ) (g : Holding) (k : ℕ) (z : Bool) → IsProperHolding n g → hart < 32 → k < 32 → (without_hart g.holders hart == 0) ≡ z → share_of_owner (rest_of z hart g) k ≡ (not (k == hart) && is_owner g.owner k)
rest_owner n hart g k true p low klow is =
    let none : without_hart g.holders hart ≡ 0 = grind (arith, nat_tests) in
    no_rest_owner n hart g k (k == hart) _ p none low klow refl refl
rest_owner n hart g k false p low klow is = other_owner g.owner hart k _ refl

rest_proper : (n hart : ℕ) (g : Holding) (z : Bool) → IsProperHolding n g → hart < 32 → n ≤ 32 → (without_hart g.holders hart == 0) ≡ z → IsProper n (rest_of z hart g)
rest_proper n hart g true p low few is = tt
rest_proper n hart g false p low few is = record {
  held = λ zero. grind (arith, nat_tests);
  within = λ k has. p.within k (has_hart-without_hart_only g.holders hart k has);
  owner = λ k owner.
      let both : (not (k == hart) && is_owner g.owner k) ≡ true = sym (other_owner g.owner hart k _ refl) ∙ owner in
      rest_owner_holds n hart g k (k == hart) _ p low few refl refl both;
}
  where
    rest_owner_holds : (n hart : ℕ) (g : Holding) (k : ℕ) (b t : Bool) → IsProperHolding n g → hart < 32 → n ≤ 32 → (k == hart) ≡ b → is_owner g.owner k ≡ t → (not b && t) ≡ true → has_hart (without_hart g.holders hart) k ≡ true
    rest_owner_holds n hart g k true t p low few kis is both = grind arith
    rest_owner_holds n hart g k false false p low few kis is both = grind arith
    rest_owner_holds n hart g k false true p low few kis is both =
        let has = p.owner k is in
        let klow = p.within k has in
        has_hart-without_hart g.holders hart k low (omega arith) ∙ ap (λ b. not b && has_hart g.holders k) kis ∙ has

left_copy : (o : Option Holding) (hart k : ℕ) → hart < 32 → k < 32 → (b : Bool) → (k == hart) ≡ b → share_of_copy (left_by hart o) k ≡ cond b None (share_of_copy o k)
left_copy None hart k low klow true is = refl
left_copy None hart k low klow false is = refl
left_copy (Some g) hart k low klow true is = rest_copy hart g k _ low klow refl ∙ ap (λ b. cond (not b && has_hart g.holders k) (Some g.copy) None) is
left_copy (Some g) hart k low klow false is = rest_copy hart g k _ low klow refl ∙ ap (λ b. cond (not b && has_hart g.holders k) (Some g.copy) None) is

left_owner : (n : ℕ) (o : Option Holding) (hart k : ℕ) → IsProper n o → hart < 32 → k < 32 → (b : Bool) → (k == hart) ≡ b → share_of_owner (left_by hart o) k ≡ cond b false (share_of_owner o k)
left_owner n None hart k p low klow true is = refl
left_owner n None hart k p low klow false is = refl
left_owner n (Some g) hart k p low klow true is = rest_owner n hart g k _ p low klow refl ∙ ap (λ b. not b && is_owner g.owner k) is
left_owner n (Some g) hart k p low klow false is = rest_owner n hart g k _ p low klow refl ∙ ap (λ b. not b && is_owner g.owner k) is

left_proper : (n : ℕ) (o : Option Holding) (hart : ℕ) → IsProper n o → hart < 32 → n ≤ 32 → IsProper n (left_by hart o)
left_proper n None hart p low few = tt
left_proper n (Some g) hart p low few = rest_proper n hart g _ p low few refl

drops_at : (n hart line : ℕ) (o : Option Holding) (k : ℕ) (x : CachesView) (b : Bool) → (k == hart) ≡ b → IsProper n o → hart < 32 → k < 32 → hart_copy x line ≡ share_of_copy o k → owns x line ≡ share_of_owner o k → IsOnePerIndex x.levels.l2 → IsPartOfL2 x.levels → HartBecomes (only hart) line (left_by hart o) k x (cond b (caches_without x line) x)
drops_at n hart line o k x true is p low klow copy own one part =
    becomes-without (only hart) line (left_by hart o) k x is (left_copy o hart k low klow true is) (left_owner n o hart k p low klow true is) one part
drops_at n hart line o k x false is p low klow copy own one part =
    becomes-same (only hart) line (left_by hart o) k x is (left_copy o hart k low klow false is ∙ sym copy) (left_owner n o hart k p low klow false is ∙ sym own) one part

pub drops : (hs new : List CachesView) (hart line : ℕ) → AreOneMap hs → hart < length hs → EachBecomes (dropped hart line) hs new → Step hs new (only hart) line (left_by hart (gathered hs line))
drops hs new hart line one low e =
    let s = one.spread line in
    let hart_low : hart < 32 = omega (arith, one.few) in
    let few : length hs ≤ 32 = omega (arith, one.few) in
    step hs new (dropped hart line) (only hart) line (left_by hart (gathered hs line)) one e (left_proper (length hs) (gathered hs line) hart s.proper hart_low few)
    (λ k d l. drops_at (length hs) hart line (gathered hs line) k (get_or hs k d) (k == hart) refl s.proper hart_low (omega arith) (s.copies k d l) (s.owners k d l) (one.each k d l).one (one.each k d l).part)
