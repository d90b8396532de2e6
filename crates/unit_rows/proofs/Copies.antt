-- A line's copy, from bits to lists: holders, the owner, and what is left of them.
use Rattle.std.proofs.Common.{◌≡◌, ℕ, ◌-◌, ◌*◌, ◌<◌, ◌==◌, ◌&&◌, ◌||◌, Bool, true, false, Option, None, Some, List, [], ◌∷◌, refl, sym, ap, ap₂, ◌∙◌, is_some, nat_lt, arith}
use Rattle.std.proofs.lemmas.Bool.Decides.{nat_tests}
use Rattle.dash_base.specs.declared.line.Line.{Line}
use Rattle.snoop_bus.specs.Holding.{Holding, has_hart, alone, with_hart, holders_in, owner_in, IsProperHolding}
use Rattle.snoop_bus.specs.Holding as bus
use Rattle.snoop_bus.proofs.LawsOffered.{has_hart-alone, has_hart-with_hart, has_hart-zero, same_holders}
use Rattle.dash_model.specs.Maps.{member, with_member}
use Rattle.dash_model.specs.Config.{Config}
use Rattle.dash_model.specs.Cell.{Held}
use Rattle.dash_model.specs.LineEffect.{has_copy, has_owner, is_owner}
use Rattle.dash_model.specs.Words.{held_by, in_m}
use Rattle.unit_rows.specs.Shown.{hart_at, harts_by, owner_by, copy_by}
use Rattle.unit_rows.proofs.Same.{test_same}
use Rattle.unit_rows.proofs.Lists.{picked-same, picked-none, picked-alone, member-picked, with_member-picked}

-- the number in its cluster of a hart
pub local_of : (w : Config) (c k : ℕ) → hart_at w c k - c * w.top.harts ≡ k
local_of w c k = omega arith

pub member-harts_by : (w : Config) (c k : ℕ) (p : ℕ → Bool) → k < w.top.harts → member (hart_at w c k) (harts_by w c p) ≡ p k
unfolding harts_by
member-harts_by w c k p low = member-picked (λ h. p (h - c * w.top.harts)) (hart_at w c k) (c * w.top.harts) w.top.harts (omega arith) (omega arith) ∙ ap p (local_of w c k)

pub harts_by-same : (w : Config) (c : ℕ) (p q : ℕ → Bool) → ((k : ℕ) → k < w.top.harts → p k ≡ q k) → harts_by w c p ≡ harts_by w c q
unfolding harts_by
harts_by-same w c p q e = picked-same (λ h. p (h - c * w.top.harts)) (λ h. q (h - c * w.top.harts)) (c * w.top.harts) w.top.harts (λ h low high. e (h - c * w.top.harts) (omega arith))

pub harts_by-none : (w : Config) (c : ℕ) (p : ℕ → Bool) → ((k : ℕ) → k < w.top.harts → p k ≡ false) → harts_by w c p ≡ []
unfolding harts_by
harts_by-none w c p e = picked-none (λ h. p (h - c * w.top.harts)) (c * w.top.harts) w.top.harts (λ h low high. e (h - c * w.top.harts) (omega arith))

pub harts_by-alone : (w : Config) (c k : ℕ) (p : ℕ → Bool) → k < w.top.harts → ((j : ℕ) → j < w.top.harts → p j ≡ (j == k)) → harts_by w c p ≡ hart_at w c k ∷ []
unfolding harts_by
harts_by-alone w c k p low e = picked-alone (λ h. p (h - c * w.top.harts)) (hart_at w c k) (c * w.top.harts) w.top.harts (omega arith) (omega arith) (λ h below above. e (h - c * w.top.harts) (omega arith) ∙ (let t : (h - c * w.top.harts == k) ≡ (h == hart_at w c k) = grind (arith, nat_tests) in t))

pub with_member-harts_by : (w : Config) (c k : ℕ) (p : ℕ → Bool) → k < w.top.harts → with_member (hart_at w c k) (harts_by w c p) ≡ harts_by w c (λ j. (j == k) || p j)
unfolding harts_by
with_member-harts_by w c k p low = with_member-picked (λ h. p (h - c * w.top.harts)) (hart_at w c k) (c * w.top.harts) w.top.harts (omega arith) (omega arith) ∙ picked-same (λ h. (h == hart_at w c k) || p (h - c * w.top.harts)) (λ h. (h - c * w.top.harts == k) || p (h - c * w.top.harts)) (c * w.top.harts) w.top.harts (λ h below above. ap (λ b. b || p (h - c * w.top.harts)) (let t : (h == hart_at w c k) ≡ (h - c * w.top.harts == k) = grind (arith, nat_tests) in t))

-- one hart, and one hart more
pub harts_alone : (w : Config) (c k : ℕ) → k < w.top.harts → harts_by w c (has_hart (alone k)) ≡ hart_at w c k ∷ []
harts_alone w c k low = harts_by-alone w c k (has_hart (alone k)) low (λ j below. has_hart-alone k j)

pub harts_with : (w : Config) (c k n : ℕ) → k < w.top.harts → harts_by w c (has_hart (with_hart n k)) ≡ with_member (hart_at w c k) (harts_by w c (has_hart n))
harts_with w c k n low = harts_by-same w c (has_hart (with_hart n k)) (λ j. (j == k) || has_hart n j) (λ j below. has_hart-with_hart n k j) ∙ sym (with_member-harts_by w c k (has_hart n) low)

-- what is asked of a copy: whether a hart is a holder, and the owner; whether there is a copy, and an owner
pub held-copy_by : (w : Config) (c k : ℕ) (o : Option Holding) → k < w.top.harts → held_by (hart_at w c k) (copy_by w c o) ≡ has_hart (holders_in o) k
held-copy_by w c k None low = sym (has_hart-zero k)
held-copy_by w c k (Some h) low = member-harts_by w c k (has_hart h.holders) low

pub has-copy_by : (w : Config) (c : ℕ) (o : Option Holding) → has_copy (copy_by w c o) ≡ is_some o
has-copy_by w c None = refl
has-copy_by w c (Some h) = refl

owner_part : (w : Config) (c : ℕ) (hs : List ℕ) (d : Line) (o : Option ℕ) → has_owner (Held hs (owner_by w c o) d) ≡ is_some o
owner_part w c hs d None = refl
owner_part w c hs d (Some k) = refl

pub has_owner-copy_by : (w : Config) (c : ℕ) (o : Option Holding) → has_owner (copy_by w c o) ≡ is_some (owner_in o)
has_owner-copy_by w c None = refl
has_owner-copy_by w c (Some h) = owner_part w c (harts_by w c (has_hart h.holders)) h.copy h.owner

is_owner_part : (w : Config) (c k : ℕ) (hs : List ℕ) (d : Line) (o : Option ℕ) → is_owner (hart_at w c k) (Held hs (owner_by w c o) d) ≡ bus.is_owner o k
is_owner_part w c k hs d None = refl
is_owner_part w c k hs d (Some j) = grind (arith, nat_tests)

pub is_owner-copy_by : (w : Config) (c k : ℕ) (o : Option Holding) → is_owner (hart_at w c k) (copy_by w c o) ≡ bus.is_owner (owner_in o) k
is_owner-copy_by w c k None = refl
is_owner-copy_by w c k (Some h) = is_owner_part w c k (harts_by w c (has_hart h.holders)) h.copy h.owner

-- state M: the owner, and the only holder
both_true : (a b : Bool) → a ≡ true → b ≡ true → a && b ≡ true
both_true true b e f = f
both_true false b e f = absurd (cc)

pub in_m-alone : (w : Config) (c k : ℕ) (h : Holding) → k < w.top.harts → h.owner ≡ Some k → h.holders ≡ alone k → in_m (hart_at w c k) (copy_by w c (Some h)) ≡ true
in_m-alone w c k h low owner only =
    let list : harts_by w c (has_hart h.holders) ≡ hart_at w c k ∷ [] = ap (λ n. harts_by w c (has_hart n)) only ∙ harts_alone w c k low in
    ap₂ (λ hs o. in_m (hart_at w c k) (Held hs (owner_by w c o) h.copy)) list owner ∙ both_true (hart_at w c k == hart_at w c k) (hart_at w c k == hart_at w c k) (test_same (hart_at w c k)) (test_same (hart_at w c k))

-- and back
m_owner : (x : ℕ) (hs : List ℕ) (o : Option ℕ) (d : Line) → in_m x (Held hs o d) ≡ true → (hs ≡ x ∷ []) × (o ≡ Some x)
m_owner x (y ∷ []) (Some o) d e = let i : y ≡ x = grind (arith, nat_tests) in let j : o ≡ x = grind (arith, nat_tests) in (ap (λ z. z ∷ []) i, ap Some j)
m_owner x (y ∷ []) None d e = absurd (cc)
m_owner x [] o d e = absurd (cc)
m_owner x (y ∷ z ∷ zs) o d e = absurd (cc)

owner_back : (w : Config) (c k : ℕ) (o : Option ℕ) → owner_by w c o ≡ Some (hart_at w c k) → o ≡ Some k
owner_back w c k None e = absurd (cc)
owner_back w c k (Some j) e = let i : hart_at w c j ≡ hart_at w c k = cc in ap Some (let q : j ≡ k = omega arith in q)

or_false : (b : Bool) → b || false ≡ b
or_false true = refl
or_false false = refl

one_member : (x y : ℕ) → member y (x ∷ []) ≡ (x == y)
unfolding member
one_member x y = or_false (x == y)

not_there : (h : Holding) (j n : ℕ) → IsProperHolding n h → (b : Bool) → has_hart h.holders j ≡ b → nat_lt j n ≡ false → has_hart h.holders j ≡ false
not_there h j n proper true is above = let low = proper.within j is in absurd (let t : nat_lt j n ≡ true = grind (arith, nat_tests) in cc)
not_there h j n proper false is above = is

bit_at : (w : Config) (c k : ℕ) (h : Holding) → k < w.top.harts → IsProperHolding w.top.harts h → harts_by w c (has_hart h.holders) ≡ hart_at w c k ∷ [] → (j : ℕ) (b : Bool) → nat_lt j w.top.harts ≡ b → has_hart h.holders j ≡ has_hart (alone k) j
bit_at w c k h low proper list j true below =
    let small : j < w.top.harts = grind (arith, nat_tests) in
    sym (member-harts_by w c j (has_hart h.holders) small) ∙ ap (member (hart_at w c j)) list ∙ one_member (hart_at w c k) (hart_at w c j) ∙ (let t : (hart_at w c k == hart_at w c j) ≡ (j == k) = grind (arith, nat_tests) in t) ∙ sym (has_hart-alone k j)
bit_at w c k h low proper list j false above =
    let none : has_hart h.holders j ≡ false = not_there h j w.top.harts proper (has_hart h.holders j) refl above in
    none ∙ sym (has_hart-alone k j ∙ (let t : (j == k) ≡ false = grind (arith, nat_tests) in t))

pub alone-in_m : (w : Config) (c k : ℕ) (h : Holding) → k < w.top.harts → IsProperHolding w.top.harts h → in_m (hart_at w c k) (copy_by w c (Some h)) ≡ true → (h.owner ≡ Some k) × (h.holders ≡ alone k)
alone-in_m w c k h low proper e =
    let m = m_owner (hart_at w c k) (harts_by w c (has_hart h.holders)) (owner_by w c h.owner) h.copy e in
    let bit : (j : ℕ) → has_hart h.holders j ≡ has_hart (alone k) j = λ j. bit_at w c k h low proper m.0 j (nat_lt j w.top.harts) refl in
    (owner_back w c k h.owner m.1, same_holders h.holders (alone k) bit)
