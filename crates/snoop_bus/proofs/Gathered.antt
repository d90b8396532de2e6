-- What is gathered from harts that each have their share of one holding is that holding.
use Rattle.std.proofs.Common.{◌≡◌, ℕ, zero, suc, ◌+◌, ◌<◌, ◌≤◌, Bool, true, false, cond, List, [], ◌∷◌, length, get_or, Option, Some, None, is_some, refl, sym, ap, ◌∙◌, arith, ◌⊎◌, inl, inr, option_map, zero-add}
use Rattle.std.proofs.lemmas.Bool.Decides.{nat_tests}
use Rattle.dash_base.specs.declared.line.Line.{Line}
use Rattle.cache_array.specs.View.{has_line}
use Rattle.snoop_bus.specs.Caches.{CachesView, owns, no_caches}
use Rattle.snoop_bus.specs.Holding.{Holding, has_hart, is_owner, IsProperHolding}
use Rattle.snoop_bus.specs.Shared.{hart_copy, gathered_holders, gathered_owner, gathered_copy, gathered, IsSpread}
use Rattle.snoop_bus.proofs.Bits.{has_hart-first, has_hart-later, has_hart-zero, same_holders}

-- holders, bit by bit
pub has_hart-gathered : (hs : List CachesView) (q h : ℕ) (d : CachesView) → h < length hs → has_hart (gathered_holders hs q) h ≡ has_line (get_or hs h d).levels.l2 q
has_hart-gathered [] q h d low = absurd (omega arith)
has_hart-gathered (x ∷ hs) q zero d low = has_hart-first (has_line x.levels.l2 q) (gathered_holders hs q)
has_hart-gathered (x ∷ hs) q (suc h) d low =
    has_hart-later (has_line x.levels.l2 q) (gathered_holders hs q) h ∙ has_hart-gathered hs q h d (omega arith)

pub has_hart-gathered_above : (hs : List CachesView) (q h : ℕ) → length hs ≤ h → has_hart (gathered_holders hs q) h ≡ false
has_hart-gathered_above [] q h high = has_hart-zero h
has_hart-gathered_above (x ∷ hs) q zero high = absurd (omega arith)
has_hart-gathered_above (x ∷ hs) q (suc h) high =
    has_hart-later (has_line x.levels.l2 q) (gathered_holders hs q) h ∙ has_hart-gathered_above hs q h (omega arith)

-- no copy is gathered where no hart has one, and else that of some hart
pub no_copy : (hs : List CachesView) (q : ℕ) → gathered_copy hs q ≡ None → (h : ℕ) (d : CachesView) → h < length hs → has_line (get_or hs h d).levels.l2 q ≡ false
no_copy [] q e h d low = absurd (omega arith)
no_copy (x ∷ hs) q e zero d low = no_first_copy (has_line x.levels.l2 q) (hart_copy x q) (gathered_copy hs q) refl e
  where
    no_first_copy : (b : Bool) (o r : Option Line) → b ≡ is_some o → cond b o r ≡ None → b ≡ false
    no_first_copy true None r i e = cc
    no_first_copy true (Some c) r i e = cc
    no_first_copy false o r i e = refl
no_copy (x ∷ hs) q e (suc h) d low = no_copy hs q (no_later_copy (has_line x.levels.l2 q) (hart_copy x q) (gathered_copy hs q) refl e) h d (omega arith)
  where
    no_later_copy : (b : Bool) (o r : Option Line) → b ≡ is_some o → cond b o r ≡ None → r ≡ None
    no_later_copy true None r i e = cc
    no_later_copy true (Some c) r i e = cc
    no_later_copy false o r i e = e

pub record HasCopy (hs : List CachesView) (q : ℕ) (c : Line) : Type 0 where
  pub hart : ℕ
  pub low : hart < length hs
  pub copy : (d : CachesView) → hart_copy (get_or hs hart d) q ≡ Some c

pub some_copy : (hs : List CachesView) (q : ℕ) (c : Line) → gathered_copy hs q ≡ Some c → HasCopy hs q c
some_copy [] q c e = cc
some_copy (x ∷ hs) q c e =
    elim (has_line x.levels.l2 q) as (λ b. cond b (hart_copy x q) (gathered_copy hs q) ≡ Some c → HasCopy (x ∷ hs) q c) [
      | true ↦ λ e. record { hart = 0; low = omega arith; copy = λ d. e }
      | false ↦ λ e. let rest = some_copy hs q c e in record { hart = suc rest.hart; low = omega (arith, rest.low); copy = λ d. rest.copy d }
    ] e

-- no owner is gathered where no hart owns the line, and else one that does
pub no_owner : (from : ℕ) (hs : List CachesView) (q : ℕ) → gathered_owner from hs q ≡ None → (h : ℕ) (d : CachesView) → h < length hs → owns (get_or hs h d) q ≡ false
no_owner from [] q e h d low = absurd (omega arith)
no_owner from (x ∷ hs) q e zero d low = no_first_owner (owns x q) from (gathered_owner (from + 1) hs q) e
  where
    no_first_owner : (b : Bool) (n : ℕ) (r : Option ℕ) → cond b (Some n) r ≡ None → b ≡ false
    no_first_owner true n r e = cc
    no_first_owner false n r e = refl
no_owner from (x ∷ hs) q e (suc h) d low = no_owner (from + 1) hs q (no_later_owner (owns x q) from (gathered_owner (from + 1) hs q) e) h d (omega arith)
  where
    no_later_owner : (b : Bool) (n : ℕ) (r : Option ℕ) → cond b (Some n) r ≡ None → r ≡ None
    no_later_owner true n r e = cc
    no_later_owner false n r e = e

pub record HasOwner (from : ℕ) (hs : List CachesView) (q owner : ℕ) : Type 0 where
  pub hart : ℕ
  pub is : owner ≡ from + hart
  pub low : hart < length hs
  pub owns_it : (d : CachesView) → owns (get_or hs hart d) q ≡ true

pub some_owner : (from : ℕ) (hs : List CachesView) (q o : ℕ) → gathered_owner from hs q ≡ Some o → HasOwner from hs q o
some_owner from [] q o e = cc
some_owner from (x ∷ hs) q o e =
    elim (owns x q) as (λ b. owns x q ≡ b → cond b (Some from) (gathered_owner (from + 1) hs q) ≡ Some o → HasOwner from (x ∷ hs) q o) [
      | true ↦ λ t e. let same : from ≡ o = cc in record { hart = 0; is = omega arith; low = omega arith; owns_it = λ d. t }
      | false ↦ λ t e. let rest = some_owner (from + 1) hs q o e in record { hart = suc rest.hart; is = omega (arith, rest.is); low = omega (arith, rest.low); owns_it = λ d. rest.owns_it d }
    ] refl e

-- any caches, as a default
abbrev pub any_caches : CachesView
any_caches = no_caches 0 0

-- one holding from its shares
share_bit : (b : Bool) (c : Line) (o : Option Line) → o ≡ cond b (Some c) None → is_some o ≡ b
share_bit true c o e = ap is_some e
share_bit false c o e = ap is_some e

spread_bit : (hs : List CachesView) (q : ℕ) (x : Holding) → IsSpread hs q (Some x) → (h : ℕ) (d : CachesView) → h < length hs → has_line (get_or hs h d).levels.l2 q ≡ has_hart x.holders h
spread_bit hs q x s h d low = share_bit (has_hart x.holders h) x.copy (hart_copy (get_or hs h d) q) (s.copies h d low)

shared_copy : (b : Bool) (x c : Line) (o : Option Line) → o ≡ cond b (Some x) None → o ≡ Some c → c ≡ x
shared_copy true x c o e is = cc
shared_copy false x c o e is = cc

-- the holders that are gathered
above : (n : ℕ) (x : Holding) (h : ℕ) → IsProperHolding n x → n ≤ h → (b : Bool) → has_hart x.holders h ≡ b → b ≡ false
above n x h p high true e = let low = p.within h e in absurd (omega arith)
above n x h p high false e = refl

place : (n h : ℕ) → (h < n) ⊎ (n ≤ h)
place n h = grind arith

gathered_bits : (hs : List CachesView) (q : ℕ) (x : Holding) → IsSpread hs q (Some x) → (h : ℕ) → (h < length hs) ⊎ (length hs ≤ h) → has_hart (gathered_holders hs q) h ≡ has_hart x.holders h
gathered_bits hs q x s h (inl low) = has_hart-gathered hs q h any_caches low ∙ spread_bit hs q x s h any_caches low
gathered_bits hs q x s h (inr high) = has_hart-gathered_above hs q h high ∙ sym (above (length hs) x h s.proper high _ refl)

pub gathered_all : (hs : List CachesView) (q : ℕ) (x : Holding) → IsSpread hs q (Some x) → gathered_holders hs q ≡ x.holders
gathered_all hs q x s = same_holders _ _ (λ h. gathered_bits hs q x s h (place (length hs) h))

none_held : (hs : List CachesView) (q : ℕ) (x : Holding) → IsSpread hs q (Some x) → gathered_copy hs q ≡ None → (h : ℕ) → (h < length hs) ⊎ (length hs ≤ h) → has_hart x.holders h ≡ has_hart 0 h
none_held hs q x s e h (inl low) = sym (spread_bit hs q x s h any_caches low) ∙ no_copy hs q e h any_caches low ∙ sym (has_hart-zero h)
none_held hs q x s e h (inr high) = above (length hs) x h s.proper high _ refl ∙ sym (has_hart-zero h)

-- the owner that is gathered
owner_only : (o : Option ℕ) (h : ℕ) → is_owner o h ≡ true → o ≡ Some h
owner_only None h e = cc
owner_only (Some o) h e = let same : o ≡ h = grind (arith, nat_tests) in ap Some same

owner_itself : (o : Option ℕ) (h : ℕ) → o ≡ Some h → is_owner o h ≡ true
owner_itself None h e = cc
owner_itself (Some o) h e = let same : o ≡ h = cc in grind (arith, nat_tests)

gathered_owned : (hs : List CachesView) (q : ℕ) (x : Holding) → IsSpread hs q (Some x) → (r : Option ℕ) → gathered_owner 0 hs q ≡ r → (o : Option ℕ) → x.owner ≡ o → r ≡ o
gathered_owned hs q x s None e None is = refl
gathered_owned hs q x s None e (Some o) is =
    let owns_it = owner_itself x.owner o is in
    let low = s.proper.within o (s.proper.owner o owns_it) in
    let lacks = no_owner 0 hs q e o any_caches low in
    let has = s.owners o any_caches low in
    grind (arith, lacks, has, owns_it)
gathered_owned hs q x s (Some r) e o is =
    let found = some_owner 0 hs q r e in
    let has : is_owner x.owner found.hart ≡ true = sym (s.owners found.hart any_caches found.low) ∙ found.owns_it any_caches in
    let same : r ≡ found.hart = found.is ∙ zero-add found.hart in
    ap Some same ∙ sym (owner_only x.owner found.hart has) ∙ is

gathered_none : (hs : List CachesView) (q : ℕ) (r : Option Line) → gathered_copy hs q ≡ r → IsSpread hs q None → r ≡ None
gathered_none hs q None e s = refl
gathered_none hs q (Some c) e s = let has = some_copy hs q c e in sym (has.copy any_caches) ∙ s.copies has.hart any_caches has.low

gathered_some : (hs : List CachesView) (q : ℕ) (x : Holding) (r : Option Line) → gathered_copy hs q ≡ r → IsSpread hs q (Some x) → r ≡ Some x.copy
gathered_some hs q x None e s = absurd (s.proper.held (same_holders _ _ (λ h. none_held hs q x s e h (place (length hs) h))))
gathered_some hs q x (Some c) e s =
    let has = some_copy hs q c e in
    ap Some (shared_copy (has_hart x.holders has.hart) x.copy c (hart_copy (get_or hs has.hart any_caches) q) (s.copies has.hart any_caches has.low) (has.copy any_caches))

pub gather : (hs : List CachesView) (q : ℕ) (o : Option Holding) → IsSpread hs q o → gathered hs q ≡ o
unfolding gathered
gather hs q None s =
    ap (option_map (λ copy. record { holders = gathered_holders hs q; owner = gathered_owner 0 hs q; copy = copy })) (gathered_none hs q _ refl s)
gather hs q (Some x) s =
    let all = gathered_all hs q x s in
    let own = gathered_owned hs q x s _ refl _ refl in
    ap (option_map (λ copy. record { holders = gathered_holders hs q; owner = gathered_owner 0 hs q; copy = copy })) (gathered_some hs q x _ refl s)
    ∙ (λ i. Some (record { holders = all i; owner = own i; copy = x.copy }))

-- no holder is gathered where no copy is
none_bits : (hs : List CachesView) (q h : ℕ) → gathered_copy hs q ≡ None → (h < length hs) ⊎ (length hs ≤ h) → has_hart (gathered_holders hs q) h ≡ has_hart 0 h
none_bits hs q h e (inl low) = has_hart-gathered hs q h any_caches low ∙ no_copy hs q e h any_caches low ∙ sym (has_hart-zero h)
none_bits hs q h e (inr high) = has_hart-gathered_above hs q h high ∙ sym (has_hart-zero h)

pub none_gathered : (hs : List CachesView) (q : ℕ) → gathered_copy hs q ≡ None → gathered_holders hs q ≡ 0
none_gathered hs q e = same_holders _ _ (λ h. none_bits hs q h e (place (length hs) h))
