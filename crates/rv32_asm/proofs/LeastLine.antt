-- The first refusal is that of the least line.
use Rattle.std.proofs.Common.{◌≡◌, ℕ, suc, ◌+◌, List, [], ◌∷◌, ◌++◌, length, Option, Some, None, refl, ap, sym, subst, ◌∙◌, arith}
use Rattle.rv32_asm.specs.Causes.{Definitions, cause_of, first_refusal, next, refused_or}
use Rattle.rv32_asm.specs.Least.{behind_lines, IsLeastRefused, NoLineIsRefused, Stands}
use Rattle.rv32_asm.specs.Lines.{reading}
use Rattle.rv32_asm.specs.declared.here.Here.{Here}
use Rattle.rv32_asm.specs.declared.refusal.AsmCause.{AsmCause}
use Rattle.rv32_asm.specs.declared.refusal.AsmRefusal.{AsmRefusal}
use Rattle.rv32_asm.specs.declared.refusal.AsmRefusal.TheVariants.{At}
use Rattle.rv32_asm.proofs.Contents.{accepted, rest_accepted}

head_is : (l m : List ℕ) (ls ms : List (List ℕ)) → l ∷ ls ≡ m ∷ ms → l ≡ m
head_is l m ls ms e = cc

tail_is : (l m : List ℕ) (ls ms : List (List ℕ)) → l ∷ ls ≡ m ∷ ms → ls ≡ ms
tail_is l m ls ms e = cc

-- nothing stands among no lines
nothing : (before : List (List ℕ)) (line : List ℕ) → Stands [] before line → ⊥
nothing [] line s = let e : [] ≡ line ∷ s.rest = s.is in cc
nothing (b ∷ bs) line s = let e : [] ≡ b ∷ (bs ++ line ∷ s.rest) = s.is in cc

in_turn : (labels : Definitions) (here : Here) (l : List ℕ) (ls : List (List ℕ)) → cause_of labels here (reading l) ≡ None
    → NoLineIsRefused labels (next here (reading l)) ls
    → (before : List (List ℕ)) (line : List ℕ) → Stands (l ∷ ls) before line → cause_of labels (behind_lines here before) (reading line) ≡ None
unfolding behind_lines
in_turn labels here l ls none others [] line s =
    ap (λ m. cause_of labels here (reading m)) (sym (head_is l line ls s.rest s.is)) ∙ none
in_turn labels here l ls none others (b ∷ bs) line s =
    let e : l ∷ ls ≡ b ∷ (bs ++ line ∷ s.rest) = s.is in
    let first = head_is l b ls (bs ++ line ∷ s.rest) e in
    ap (λ m. cause_of labels (behind_lines (next here (reading m)) bs) (reading line)) (sym first)
    ∙ others bs line (record { rest = s.rest; is = tail_is l b ls (bs ++ line ∷ s.rest) e })

-- one line more in front
one_more : (labels : Definitions) (here : Here) (l : List ℕ) (ls : List (List ℕ)) → cause_of labels here (reading l) ≡ None
    → NoLineIsRefused labels (next here (reading l)) ls → NoLineIsRefused labels here (l ∷ ls)
unfolding behind_lines
one_more labels here l ls none others = λ before line s. in_turn labels here l ls none others before line s

pub no_line : (labels : Definitions) (ls : List (List ℕ)) (here : Here) → first_refusal labels here ls ≡ None → NoLineIsRefused labels here ls
unfolding first_refusal
no_line labels [] here e = λ before line s. absurd (nothing before line s)
no_line labels (l ∷ ls) here e =
    one_more labels here l ls (accepted here.line (cause_of labels here (reading l)) (first_refusal labels (next here (reading l)) ls) e)
    (no_line labels ls (next here (reading l)) (rest_accepted here.line (cause_of labels here (reading l)) (first_refusal labels (next here (reading l)) ls) e))

-- the first line is refused
at_once : (labels : Definitions) (here : Here) (l : List ℕ) (ls : List (List ℕ)) (cause : AsmCause) → cause_of labels here (reading l) ≡ Some cause
    → IsLeastRefused labels here (l ∷ ls) here.line cause
unfolding behind_lines
at_once labels here l ls cause e = record {
  before = [];
  line = l;
  stands = record { rest = ls; is = refl };
  accepted = λ before line s. absurd (nothing before line s);
  refused = e;
  counted = omega arith;
}

-- or a later one
later_on : (labels : Definitions) (here : Here) (l : List ℕ) (ls : List (List ℕ)) (number : ℕ) (cause : AsmCause) → cause_of labels here (reading l) ≡ None
    → IsLeastRefused labels (next here (reading l)) ls number cause → IsLeastRefused labels here (l ∷ ls) number cause
unfolding behind_lines
later_on labels here l ls number cause none r = record {
  before = l ∷ r.before;
  line = r.line;
  stands = record { rest = r.stands.rest; is = ap (λ ms. l ∷ ms) r.stands.is };
  accepted = one_more labels here l r.before none r.accepted;
  refused = r.refused;
  counted = let counted = r.counted in omega arith;
}

by_cause : (labels : Definitions) (here : Here) (l : List ℕ) (ls : List (List ℕ)) (number : ℕ) (cause : AsmCause) (found : Option AsmCause)
    → cause_of labels here (reading l) ≡ found
    → refused_or here.line found (first_refusal labels (next here (reading l)) ls) ≡ Some (At number cause)
    → (first_refusal labels (next here (reading l)) ls ≡ Some (At number cause) → IsLeastRefused labels (next here (reading l)) ls number cause)
    → IsLeastRefused labels here (l ∷ ls) number cause
by_cause labels here l ls number cause (Some c) is e induct =
    let same_number : here.line ≡ number = cc in
    let same_cause : c ≡ cause = cc in
    subst (λ (n : ℕ). IsLeastRefused labels here (l ∷ ls) n cause) same_number
    (at_once labels here l ls cause (is ∙ ap Some same_cause))
by_cause labels here l ls number cause None is e induct = later_on labels here l ls number cause is (induct e)

pub least_line : (labels : Definitions) (ls : List (List ℕ)) (here : Here) (number : ℕ) (cause : AsmCause)
    → first_refusal labels here ls ≡ Some (At number cause) → IsLeastRefused labels here ls number cause
unfolding first_refusal
least_line labels [] here number cause e = absurd (cc)
least_line labels (l ∷ ls) here number cause e =
    by_cause labels here l ls number cause (cause_of labels here (reading l)) refl e (least_line labels ls (next here (reading l)) number cause)
