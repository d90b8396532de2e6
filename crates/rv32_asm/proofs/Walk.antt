-- The lines of a source, one after the other.
use Rattle.std.proofs.Common.{◌≡◌, ℕ, ◌+◌, ◌*◌, ◌^◌, ◌<◌, ◌≤◌, Bool, true, false, eqb, length, drop, List, [], ◌∷◌, Option, Some, None, unwrap_or, if◌then◌else◌, nat_lt, refl, ap, sym, subst, ◌∙◌, arith, length-drop}
use Rattle.std.specs.List.{position_or_len}
use Rattle.std.proofs.lemmas.Bool.Decides.{nat_tests}
use Rattle.asm_words.proofs.Cutting.{before_cons, behind_cons, before_nil, behind_nil}
use Rattle.asm_words.specs.Cuts.{before, behind, is_mark}
use Rattle.asm_words.specs.Mnemonics.{either}
use Rattle.rv32_asm.specs.Labels.{longer, in_front, lines, moved, defined_by, definition_in, definitions}
use Rattle.rv32_asm.specs.Lines.{reading}
use Rattle.rv32_asm.specs.Rows.{Reading}
use Rattle.rv32_asm.specs.declared.labels.Definition.{Definition}

-- the lines that are left; none behind the last
abbrev pub left : Option (List ℕ) → List (List ℕ)
left None = []
left (Some text) = lines text

-- more than what is left has bytes
abbrev pub room : Option (List ℕ) → ℕ
room None = 0
room (Some text) = length text + 1

longer_left : (c : ℕ) (front : List ℕ) (ls : List (List ℕ)) → longer c (front ∷ ls) ≡ (c ∷ front) ∷ ls
longer_left c front ls = refl

pick : (b : Bool) (c : ℕ) (cs : List ℕ) → lines cs ≡ before (is_mark 10) cs ∷ left (behind (is_mark 10) cs)
    → in_front b c (lines cs) ≡ (if b then [] else c ∷ before (is_mark 10) cs) ∷ left (if b then Some cs else behind (is_mark 10) cs)
pick true c cs e = refl
pick false c cs e = ap (longer c) e

-- a text's first line, and those behind it
pub left_step : (text : List ℕ) → lines text ≡ before (is_mark 10) text ∷ left (behind (is_mark 10) text)
unfolding lines
left_step [] = rw (before_nil (is_mark 10), behind_nil (is_mark 10)) refl
left_step (c ∷ cs) = rw (before_cons (is_mark 10) c cs, behind_cons (is_mark 10) c cs) (pick (eqb c 10) c cs (left_step cs))

room_step : (b : Bool) (k : ℕ) (text : List ℕ) → nat_lt k (length text) ≡ b → room (if b then Some (drop (k + 1) text) else None) ≤ length text
room_step true k text e = let less : k < length text = grind (arith, nat_tests) in omega (arith, length-drop (k + 1) text)
room_step false k text e = omega arith

pub room_less : (text : List ℕ) → room (behind (is_mark 10) text) ≤ length text
unfolding behind
room_less text = room_step _ (position_or_len (is_mark 10) text) text refl

either_either : (a b c : Option Definition) → either a (either b c) ≡ either (either a b) c
either_either (Some a) b c = refl
either_either None b c = refl

-- one line more is read
pub defined_step : (place : Option ℕ) (number : ℕ) (line : List ℕ) (rest : List (List ℕ)) (name : List ℕ) (old : Option Definition)
    → either old (definition_in place number (line ∷ rest) name)
    ≡ either (either old (defined_by place number (reading line) name)) (definition_in (moved place (reading line)) (number + 1) rest name)
unfolding definition_in
defined_step place number line rest name old =
    either_either old (defined_by place number (reading line) name) (definition_in (moved place (reading line)) (number + 1) rest name)

pub nothing_left : (place : Option ℕ) (number : ℕ) (name : List ℕ) → definition_in place number [] name ≡ None
unfolding definition_in
nothing_left place number name = refl

-- the labels are collected up to a line
pub record Collects (source : List ℕ) (found : List ℕ → Option Definition) (place : Option ℕ) (line : ℕ) (rest : Option (List ℕ)) : Type 0 where
  pub labels : (q : List ℕ) → either (found q) (definition_in place line (left rest) q) ≡ definitions source q
  pub near : unwrap_or place 0 ≤ 2 ^ 32 * line
  pub counted : line + room rest ≤ length source + 2

pub collect_start : (source : List ℕ) (found : List ℕ → Option Definition) → ((q : List ℕ) → found q ≡ None)
    → Collects source found None 1 (Some source)
collect_start source found none = record {
  labels = λ q. ap (λ o. either o (definition_in None 1 (lines source) q)) (none q);
  near = omega arith;
  counted = omega arith;
}

pub collect_next : (source text : List ℕ) (old new : List ℕ → Option Definition) (place after : Option ℕ) (line : ℕ)
    → Collects source old place line (Some text)
    → after ≡ moved place (reading (before (is_mark 10) text)) → unwrap_or after 0 ≤ unwrap_or place 0 + 2 ^ 32
    → ((q : List ℕ) → new q ≡ either (old q) (defined_by place line (reading (before (is_mark 10) text)) q))
    → Collects source new after (line + 1) (behind (is_mark 10) text)
collect_next source text old new place after line sofar is bound added = record {
  labels = λ q.
      ap (λ o. either o (definition_in after (line + 1) (left (behind (is_mark 10) text)) q)) (added q)
      ∙ ap (λ a. either (either (old q) (defined_by place line (reading (before (is_mark 10) text)) q)) (definition_in a (line + 1) (left (behind (is_mark 10) text)) q)) is
      ∙ sym (defined_step place line (before (is_mark 10) text) (left (behind (is_mark 10) text)) q (old q))
      ∙ ap (λ ls. either (old q) (definition_in place line ls q)) (sym (left_step text))
      ∙ sofar.labels q;
  near = let near = sofar.near in omega arith;
  counted = let less = room_less text in let counted = sofar.counted in omega arith;
}

either_nothing : (o : Option Definition) → either o None ≡ o
either_nothing (Some d) = refl
either_nothing None = refl

pub collect_end : (source : List ℕ) (found : List ℕ → Option Definition) (place : Option ℕ) (line : ℕ)
    → Collects source found place line None → (q : List ℕ) → found q ≡ definitions source q
collect_end source found place line sofar q =
    sym (either_nothing (found q)) ∙ ap (either (found q)) (sym (nothing_left place line q)) ∙ sofar.labels q

-- the same from what the calls of a turn answer
pub collect_turn : (source text front behind_it line_text : List ℕ) (said : Reading) (rest next_rest : Option (List ℕ))
    (old new : List ℕ → Option Definition) (place after : Option ℕ) (line : ℕ)
    → rest ≡ Some text → front ≡ text → line_text ≡ before (is_mark 10) front → said ≡ reading line_text
    → behind_it ≡ text → next_rest ≡ behind (is_mark 10) behind_it
    → Collects source old place line rest
    → after ≡ moved place said → unwrap_or after 0 ≤ unwrap_or place 0 + 2 ^ 32
    → ((q : List ℕ) → new q ≡ either (old q) (defined_by place line said q))
    → Collects source new after (line + 1) next_rest
collect_turn source text front behind_it line_text said rest next_rest old new place after line some fronts lines_is reads behinds next_is sofar is bound added =
    let says : said ≡ reading (before (is_mark 10) text) = reads ∙ ap reading (lines_is ∙ ap (before (is_mark 10)) fronts) in
    let here = subst (λ (r : Option (List ℕ)). Collects source old place line r) some sofar in
    subst (λ (r : Option (List ℕ)). Collects source new after (line + 1) r) (sym (next_is ∙ ap (behind (is_mark 10)) behinds))
    (collect_next source text old new place after line here (is ∙ ap (moved place) says) bound
    (λ q. added q ∙ ap (λ s. either (old q) (defined_by place line s q)) says))

pub room_turn : (text behind_it : List ℕ) (rest next_rest : Option (List ℕ))
    → rest ≡ Some text → behind_it ≡ text → next_rest ≡ behind (is_mark 10) behind_it → room next_rest < room rest
room_turn text behind_it rest next_rest some behinds next_is =
    let less = room_less text in
    let same : room next_rest ≡ room (behind (is_mark 10) text) = ap room (next_is ∙ ap (behind (is_mark 10)) behinds) in
    let whole : room rest ≡ length text + 1 = ap room some in
    omega arith

-- functions of equal answers are equal
pub same_labels : (f g : List ℕ → Option Definition) → ((q : List ℕ) → f q ≡ g q) → f ≡ g
same_labels f g same = λ i q. same q i
