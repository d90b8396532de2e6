-- Segments of which each begins where the one before it ends, or behind: no two share an address.
use Rattle.std.proofs.Common.{◌≡◌, ◌≤◌, ◌<◌, ◌+◌, ℕ, zero, suc, inl, inr, Bool, true, false, ◌&&◌, not, nat_lt, List, [], ◌∷◌, Option, Some, None, length, get_or, find, refl, sym, ◌∙◌, ap, subst, arith}
use Rattle.std.specs.List.{Contains}
use Rattle.std.specs.Option.{option_map, option_and_then}
use Rattle.std.specs.List.Sorted.{IsPermutation}
use Rattle.std.proofs.lemmas.Bool.Decides.{nat_tests}
use Rattle.std.proofs.lemmas.List.Sorted.{Contains-permutation}
use Rattle.elf_load.specs.Table.{Among, clashes, has_clash, first_overlap, rises_from}
use Rattle.elf_load.specs.declared.segment_table.Numbered.{Numbered}
use Rattle.elf_load.proofs.Among.{find_some, any_passing}
use Rattle.elf_load.proofs.SegmentRows.{clash_numbers, clash_back}

both : (s t : Bool) → (s && t) ≡ true → (s ≡ true) × (t ≡ true)
both true t e = (refl, e)
both false t e = absurd cc

-- all of them begin at the address or behind it
begins_behind : (reach : ℕ) (segments : List Numbered) (x : Numbered) → rises_from reach segments ≡ true → Among x segments → reach ≤ (x.header).p_vaddr
begins_behind reach [] x rises among = absurd among
begins_behind reach (s ∷ segments) x rises (inl same) =
    let here = (both (not (nat_lt (s.header).p_vaddr reach)) (rises_from ((s.header).p_vaddr + (s.header).p_memsz) segments) rises).0 in
    let low : reach ≤ (s.header).p_vaddr = grind (arith, nat_tests) in
    subst (λ (y : Numbered). reach ≤ (y.header).p_vaddr) (sym same) low
begins_behind reach (s ∷ segments) x rises (inr later) =
    let tests = both (not (nat_lt (s.header).p_vaddr reach)) (rises_from ((s.header).p_vaddr + (s.header).p_memsz) segments) rises in
    let here = tests.0 in
    let low : reach ≤ (s.header).p_vaddr = grind (arith, nat_tests) in
    let behind = begins_behind ((s.header).p_vaddr + (s.header).p_memsz) segments x tests.1 later in omega arith

-- one that begins where another ends shares no address with it
no_clash : (a b : Numbered) → (a.header).p_vaddr + (a.header).p_memsz ≤ (b.header).p_vaddr → clashes a b ≡ true → ⊥
no_clash a b behind e = grind (arith, nat_tests)

pub apart : (reach : ℕ) (segments : List Numbered) (x y : Numbered) → rises_from reach segments ≡ true → Among x segments → Among y segments → clashes x y ≡ true → ⊥
apart reach [] x y rises in_x in_y clash = in_x
apart reach (s ∷ segments) x y rises (inl first) (inl second) clash =
    clash_numbers x y clash (ap (λ (z : Numbered). z.number) (first ∙ sym second))
apart reach (s ∷ segments) x y rises (inl first) (inr later) clash =
    let rest = (both (not (nat_lt (s.header).p_vaddr reach)) (rises_from ((s.header).p_vaddr + (s.header).p_memsz) segments) rises).1 in
    let behind = begins_behind ((s.header).p_vaddr + (s.header).p_memsz) segments y rest later in
    no_clash s y behind (sym (ap (λ (z : Numbered). clashes z y) first) ∙ clash)
apart reach (s ∷ segments) x y rises (inr later) (inl second) clash =
    let rest = (both (not (nat_lt (s.header).p_vaddr reach)) (rises_from ((s.header).p_vaddr + (s.header).p_memsz) segments) rises).1 in
    let behind = begins_behind ((s.header).p_vaddr + (s.header).p_memsz) segments x rest later in
    no_clash s x behind (sym (ap (λ (z : Numbered). clashes z x) second) ∙ clash_back x y clash)
apart reach (s ∷ segments) x y rises (inr first) (inr second) clash =
    let rest = (both (not (nat_lt (s.header).p_vaddr reach)) (rises_from ((s.header).p_vaddr + (s.header).p_memsz) segments) rises).1 in
    apart ((s.header).p_vaddr + (s.header).p_memsz) segments x y rest first second clash

-- where no two share an address none is found
no_overlap : (segments : List Numbered) (o : Option Numbered) → find (has_clash segments) segments ≡ o → ((x y : Numbered) → Among x segments → Among y segments → clashes x y ≡ true → ⊥) → first_overlap segments ≡ None
no_overlap segments None found none = ap (λ o. option_and_then {U = ℕ × ℕ} (λ a. option_map {U = ℕ × ℕ} (λ (b : Numbered). (a.number, b.number)) (find (clashes a) segments)) o) found
no_overlap segments (Some a) found none =
    let here = find_some (has_clash segments) segments a found in
    let other = any_passing (clashes a) segments here.1 in
    absurd (none a other.element here.0 other.among other.passes)

pub rising_apart : (segments : List Numbered) → rises_from 0 segments ≡ true → None ≡ first_overlap segments
rising_apart segments rises = sym (no_overlap segments (find (has_clash segments) segments) refl (λ x y in_x in_y clash. apart 0 segments x y rises in_x in_y clash))

-- an element by its place
place_of : (xs : List Numbered) (x : Numbered) → Among x xs → Contains xs x
place_of [] x among = absurd among
place_of (y ∷ ys) x (inl same) = (0, omega arith, sym same)
place_of (y ∷ ys) x (inr later) =
    let there = place_of ys x later in
    let below = there.1 in (suc there.0, omega arith, there.2)

at_place : (xs : List Numbered) (x d : Numbered) (k : ℕ) → k < length xs → get_or xs k d ≡ x → Among x xs
at_place [] x d k below same = absurd (omega arith)
at_place (y ∷ ys) x d zero below same = inl (sym same)
at_place (y ∷ ys) x d (suc k) below same = inr (at_place ys x d k (omega arith) same)

-- another order has the same elements
pub among_permutation : (xs ys : List Numbered) (x : Numbered) → IsPermutation xs ys → Among x xs → Among x ys
among_permutation xs ys x moved among =
    let there = Contains-permutation xs ys x moved (place_of xs x among) in
    at_place ys x x there.0 there.1 there.2
