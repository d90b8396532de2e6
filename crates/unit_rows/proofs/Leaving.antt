-- A holder that is not the owner leaves a line, from bits to lists.
use Rattle.std.proofs.Common.{◌≡◌, ◌≢◌, ℕ, ◌-◌, ◌*◌, ◌<◌, ◌≤◌, ◌==◌, ◌&&◌, Bool, true, false, not, cond, Option, None, Some, List, [], ◌∷◌, nat_lt, refl, sym, ap, ap₂, ◌∙◌, arith}
use Rattle.std.proofs.lemmas.Bool.Decides.{nat_tests}
use Rattle.dash_base.specs.declared.line.Line.{Line}
use Rattle.snoop_bus.specs.Holding.{Holding, has_hart, without_hart, left_by, is_owner, IsProperHolding}
use Rattle.snoop_bus.proofs.LawsOffered.{has_hart-without_hart, has_hart-without_hart_only, has_hart-zero, same_holders}
use Rattle.dash_model.specs.Maps.{member, without}
use Rattle.dash_model.specs.Config.{Config}
use Rattle.dash_model.specs.Cell.{Held}
use Rattle.dash_model.specs.Acts.{drop_hart, shrunk}
use Rattle.unit_rows.specs.Shown.{hart_at, harts_by, owner_by, copy_by}
use Rattle.unit_rows.proofs.Same.{test_same, is_same}
use Rattle.unit_rows.proofs.Lists.{without-picked, picked-same}
use Rattle.unit_rows.proofs.Copies.{harts_by-none, member-harts_by}

and_swap : (a b : Bool) → a && not b ≡ not b && a
and_swap true true = refl
and_swap true false = refl
and_swap false true = refl
and_swap false false = refl

pub harts_without : (w : Config) (c k n : ℕ) → k < w.top.harts → w.top.harts ≤ 4 → without (hart_at w c k) (harts_by w c (has_hart n)) ≡ harts_by w c (has_hart (without_hart n k))
unfolding harts_by
harts_without w c k n low few =
    without-picked (hart_at w c k) (λ h. has_hart n (h - c * w.top.harts)) (c * w.top.harts) w.top.harts
    ∙ picked-same (λ h. has_hart n (h - c * w.top.harts) && not (h == hart_at w c k)) (λ h. has_hart (without_hart n k) (h - c * w.top.harts)) (c * w.top.harts) w.top.harts (λ h below above.
    and_swap (has_hart n (h - c * w.top.harts)) (h == hart_at w c k)
    ∙ ap (λ b. not b && has_hart n (h - c * w.top.harts)) (let t : (h == hart_at w c k) ≡ (h - c * w.top.harts == k) = grind (arith, nat_tests) in t)
    ∙ sym (has_hart-without_hart n k (h - c * w.top.harts) (omega arith) (omega arith)))

-- who is left
no_member : (y : ℕ) → member y [] ≡ false
unfolding member
no_member y = refl

stays_below : (w : Config) (k j : ℕ) (h : Holding) → k < w.top.harts → w.top.harts ≤ 4 → IsProperHolding w.top.harts h → (b : Bool) → nat_lt j w.top.harts ≡ b → has_hart (without_hart h.holders k) j ≡ true → b ≡ true
stays_below w k j h low few proper true below has = refl
stays_below w k j h low few proper false above has =
    let in_range = proper.within j (has_hart-without_hart_only h.holders k j has) in
    absurd (let t : nat_lt j w.top.harts ≡ true = grind (arith, nat_tests) in cc)

none_by : (w : Config) (c k j : ℕ) (h : Holding) → k < w.top.harts → w.top.harts ≤ 4 → IsProperHolding w.top.harts h → harts_by w c (has_hart (without_hart h.holders k)) ≡ [] → (b : Bool) → has_hart (without_hart h.holders k) j ≡ b → b ≡ false
none_by w c k j h low few proper list false is = refl
none_by w c k j h low few proper list true is =
    let t = stays_below w k j h low few proper (nat_lt j w.top.harts) refl is in
    let below : j < w.top.harts = grind (arith, nat_tests) in
    absurd (let f : true ≡ false = sym is ∙ sym (member-harts_by w c j (has_hart (without_hart h.holders k)) below) ∙ ap (member (hart_at w c j)) list ∙ no_member (hart_at w c j) in cc)

empty_then_zero : (w : Config) (c k : ℕ) (h : Holding) → k < w.top.harts → w.top.harts ≤ 4 → IsProperHolding w.top.harts h → harts_by w c (has_hart (without_hart h.holders k)) ≡ [] → without_hart h.holders k ≡ 0
empty_then_zero w c k h low few proper list = same_holders (without_hart h.holders k) 0 (λ j. none_by w c k j h low few proper list (has_hart (without_hart h.holders k) j) refl ∙ sym (has_hart-zero j))

shrunk_some : (hs : List ℕ) (d : Line) → hs ≢ [] → shrunk hs d ≡ Held hs None d
shrunk_some [] d apart = absurd (apart refl)
shrunk_some (x ∷ xs) d apart = refl

owner_stays : (w : Config) (k j : ℕ) (h : Holding) → k < w.top.harts → w.top.harts ≤ 4 → IsProperHolding w.top.harts h → h.owner ≡ Some j → is_owner h.owner k ≡ false → has_hart (without_hart h.holders k) j ≡ true
owner_stays w k j h low few proper owner apart =
    let holder : has_hart h.holders j ≡ true = proper.owner j (ap (λ o. is_owner o j) owner ∙ test_same j) in
    let below : j < w.top.harts = proper.within j holder in
    let differ : (j == k) ≡ false = sym (ap (λ o. is_owner o k) owner) ∙ apart in
    has_hart-without_hart h.holders k j (omega arith) (omega arith) ∙ ap₂ (λ a b. not a && b) differ holder

left_of : (o : Option ℕ) (n k : ℕ) (d : Line) (b : Bool) → Option Holding
left_of o n k d b = cond b None (Some (record { holders = n; owner = cond (is_owner o k) None o; copy = d }))

by_owner : (w : Config) (c k : ℕ) (h : Holding) (o : Option ℕ) (b : Bool) → k < w.top.harts → w.top.harts ≤ 4 → IsProperHolding w.top.harts h → h.owner ≡ o → is_owner o k ≡ false → (without_hart h.holders k == 0) ≡ b
    → drop_hart (hart_at w c k) (Held (harts_by w c (has_hart h.holders)) (owner_by w c o) h.copy) ≡ copy_by w c (left_of o (without_hart h.holders k) k h.copy b)
unfolding left_of
by_owner w c k h None true low few proper owner apart zero_is =
    let none : without_hart h.holders k ≡ 0 = is_same (without_hart h.holders k) 0 zero_is in
    ap (λ hs. shrunk hs h.copy) (harts_without w c k h.holders low few ∙ harts_by-none w c (has_hart (without_hart h.holders k)) (λ j below. ap (λ n. has_hart n j) none ∙ has_hart-zero j))
by_owner w c k h None false low few proper owner apart zero_is =
    ap (λ hs. shrunk hs h.copy) (harts_without w c k h.holders low few)
    ∙ shrunk_some (harts_by w c (has_hart (without_hart h.holders k))) h.copy (λ list. let z : without_hart h.holders k ≡ 0 = empty_then_zero w c k h low few proper list in let t : (without_hart h.holders k == 0) ≡ true = ap (λ n. n == 0) z ∙ test_same 0 in absurd (cc))
by_owner w c k h (Some j) true low few proper owner apart zero_is =
    let none : without_hart h.holders k ≡ 0 = is_same (without_hart h.holders k) 0 zero_is in
    absurd (let f : true ≡ false = sym (owner_stays w k j h low few proper owner (ap (λ o. is_owner o k) owner ∙ apart)) ∙ ap (λ n. has_hart n j) none ∙ has_hart-zero j in cc)
by_owner w c k h (Some j) false low few proper owner apart zero_is =
    ap (λ hs. Held hs (Some (hart_at w c j)) h.copy) (harts_without w c k h.holders low few)
    ∙ sym (ap (λ b. copy_by w c (Some (record { holders = without_hart h.holders k; owner = cond b None (Some j); copy = h.copy }))) apart)

pub left-copy_by : (w : Config) (c k : ℕ) (h : Holding) → k < w.top.harts → w.top.harts ≤ 4 → IsProperHolding w.top.harts h → is_owner h.owner k ≡ false → drop_hart (hart_at w c k) (copy_by w c (Some h)) ≡ copy_by w c (left_by k (Some h))
unfolding left_of
left-copy_by w c k h low few proper apart = by_owner w c k h h.owner (without_hart h.holders k == 0) low few proper refl apart refl
