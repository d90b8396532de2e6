-- Texts whose words and marks are known are cut at the marks.
use Rattle.std.proofs.Common.{◌≡◌, ℕ, zero, suc, ◌+◌, ◌-◌, ◌<◌, ◌≤◌, Bool, true, false, not, cond, ◌&&◌, ltb, eqb, nat_lt, if◌then◌else◌, length, take, drop, reverse, slice_index, List, [], ◌∷◌, ◌++◌, Option, Some, None, refl, ap, sym, ◌∙◌, append_assoc, arith}
use Rattle.std.specs.List.{position_or_len}
use Rattle.std.proofs.Math.Seq.{take-length}
use Rattle.std.proofs.lemmas.Bool.Decides.{nat_tests}
use Rattle.std.proofs.lemmas.List.{reverse-append, append-nil}
use Rattle.std.proofs.lemmas.Grind.{common_steps}
use Rattle.asm_words.specs.Cuts.{before, behind, from_first, is_blank, is_mark, is_solid, trimmed, without_end}
use Rattle.asm_words.specs.Operands.{comma, closed, first, keyword_of, listed_in, operands_of, place_of, second, statement_of, third}
use Rattle.asm_words.specs.declared.operands.Operands.{Operands}
use Rattle.asm_words.specs.declared.operands.Operands.TheVariants.{Nothing, One, Two, Three}
use Rattle.asm_words.specs.declared.operands.Place.{Place}
use Rattle.rv32_text.proofs.Words.{is_word}
use Rattle.asm_words.proofs.Cutting.{before_cons, behind_cons, from_first_cons, before_nil, behind_nil, from_first_nil}

-- no byte passes
abbrev pub free : (ℕ → Bool) → List ℕ → Bool
free p [] = true
free p (c ∷ cs) = not (p c) && free p cs

left_of : (a b : Bool) → not a && b ≡ true → a ≡ false
left_of true b e = absurd (cc)
left_of false b e = refl

right_of : (a b : Bool) → a && b ≡ true → b ≡ true
right_of true b e = e
right_of false b e = absurd (cc)

pub free_append : (p : ℕ → Bool) (v w : List ℕ) → free p v ≡ true → free p w ≡ true → free p (v ++ w) ≡ true
free_append p [] w one two = two
free_append p (c ∷ cs) w one two =
    ap (λ b. not b && free p (cs ++ w)) (left_of (p c) (free p cs) one) ∙ free_append p cs w (right_of (not (p c)) (free p cs) one) two

-- a test that passes no byte of a word
pub free_word : (p : ℕ → Bool) → ((c : ℕ) → ltb c 45 ≡ false → p c ≡ false) → (w : List ℕ) → is_word w ≡ true → free p w ≡ true
unfolding is_word
free_word p high [] word = refl
free_word p high (c ∷ cs) word =
    ap (λ b. not b && free p cs) (high c (left_of (ltb c 45) (is_word cs) word)) ∙ free_word p high cs (right_of (not (ltb c 45)) (is_word cs) word)

pub before_free : (p : ℕ → Bool) (w rest : List ℕ) → free p w ≡ true → before p (w ++ rest) ≡ w ++ before p rest
before_free p [] rest e = refl
before_free p (c ∷ cs) rest e =
    before_cons p c (cs ++ rest)
    ∙ ap (λ b. if b then [] else c ∷ before p (cs ++ rest)) (left_of (p c) (free p cs) e)
    ∙ ap (λ xs. c ∷ xs) (before_free p cs rest (right_of (not (p c)) (free p cs) e))

pub behind_free : (p : ℕ → Bool) (w rest : List ℕ) → free p w ≡ true → behind p (w ++ rest) ≡ behind p rest
behind_free p [] rest e = refl
behind_free p (c ∷ cs) rest e =
    behind_cons p c (cs ++ rest)
    ∙ ap (λ b. if b then Some (cs ++ rest) else behind p (cs ++ rest)) (left_of (p c) (free p cs) e)
    ∙ behind_free p cs rest (right_of (not (p c)) (free p cs) e)

pub from_free : (p : ℕ → Bool) (w rest : List ℕ) → free p w ≡ true → from_first p (w ++ rest) ≡ from_first p rest
from_free p [] rest e = refl
from_free p (c ∷ cs) rest e =
    from_first_cons p c (cs ++ rest)
    ∙ ap (λ b. if b then c ∷ (cs ++ rest) else from_first p (cs ++ rest)) (left_of (p c) (free p cs) e)
    ∙ from_free p cs rest (right_of (not (p c)) (free p cs) e)

-- at a byte that passes
pub before_at : (p : ℕ → Bool) (w : List ℕ) (c : ℕ) (rest : List ℕ) → free p w ≡ true → p c ≡ true → before p (w ++ c ∷ rest) ≡ w
before_at p w c rest e at =
    before_free p w (c ∷ rest) e
    ∙ ap (λ xs. w ++ xs) (before_cons p c rest ∙ ap (λ b. if b then [] else c ∷ before p rest) at)
    ∙ append-nil w

pub behind_at : (p : ℕ → Bool) (w : List ℕ) (c : ℕ) (rest : List ℕ) → free p w ≡ true → p c ≡ true → behind p (w ++ c ∷ rest) ≡ Some rest
behind_at p w c rest e at =
    behind_free p w (c ∷ rest) e ∙ behind_cons p c rest ∙ ap (λ b. if b then Some rest else behind p rest) at

pub from_at : (p : ℕ → Bool) (w : List ℕ) (c : ℕ) (rest : List ℕ) → free p w ≡ true → p c ≡ true → from_first p (w ++ c ∷ rest) ≡ c ∷ rest
from_at p w c rest e at =
    from_free p w (c ∷ rest) e ∙ from_first_cons p c rest ∙ ap (λ b. if b then c ∷ rest else from_first p rest) at

-- where none passes
pub before_alone : (p : ℕ → Bool) (w : List ℕ) → free p w ≡ true → before p w ≡ w
before_alone p w e =
    ap (before p) (sym (append-nil w)) ∙ before_free p w [] e ∙ ap (λ xs. w ++ xs) (before_nil p) ∙ append-nil w

pub behind_alone : (p : ℕ → Bool) (w : List ℕ) → free p w ≡ true → behind p w ≡ None
behind_alone p w e = ap (behind p) (sym (append-nil w)) ∙ behind_free p w [] e ∙ behind_nil p

pub from_alone : (p : ℕ → Bool) (w : List ℕ) → free p w ≡ true → from_first p w ≡ []
from_alone p w e = ap (from_first p) (sym (append-nil w)) ∙ from_free p w [] e ∙ from_first_nil p

-- a text that ends with a byte that is no blank has no blanks at its end
solid_end : (front : List ℕ) (c : ℕ) → is_solid c ≡ true → position_or_len is_solid (reverse (front ++ c ∷ [])) ≡ 0
solid_end front c solid =
    ap (position_or_len is_solid) (reverse-append front (c ∷ []))
    ∙ ap (λ b. cond (not b) (1 + position_or_len is_solid (reverse front)) 0) solid

whole : (xs : List ℕ) → take (length xs - 0) xs ≡ xs
whole xs = let e : length xs - 0 ≡ length xs = omega arith in ap (λ n. take n xs) e ∙ take-length xs

pub ends : (front : List ℕ) (c : ℕ) → is_solid c ≡ true → without_end (front ++ c ∷ []) ≡ front ++ c ∷ []
unfolding without_end
ends front c solid =
    ap (λ n. take (length (front ++ c ∷ []) - n) (front ++ c ∷ [])) (solid_end front c solid)
    ∙ whole (front ++ c ∷ [])

-- a text that begins so has none at its front
pub begins : (c : ℕ) (rest : List ℕ) → is_solid c ≡ true → from_first is_solid (c ∷ rest) ≡ c ∷ rest
begins c rest solid = from_first_cons is_solid c rest ∙ ap (λ b. if b then c ∷ rest else from_first is_solid rest) solid

-- a text that begins and ends with bytes that are no blanks
pub record Solid (w : List ℕ) : Type 0 where
  pub first : ℕ
  pub rest : List ℕ
  pub body : List ℕ
  pub last : ℕ
  pub begin_is : w ≡ first ∷ rest
  pub end_is : w ≡ body ++ last ∷ []
  pub begin_solid : is_solid first ≡ true
  pub end_solid : is_solid last ≡ true

pub trimmed_solid : (w : List ℕ) → Solid w → trimmed w ≡ w
trimmed_solid w s =
    ap without_end (ap (from_first is_solid) s.begin_is ∙ begins s.first s.rest s.begin_solid ∙ sym s.begin_is)
    ∙ ap without_end s.end_is ∙ ends s.body s.last s.end_solid ∙ sym s.end_is

-- behind a blank the same
pub trimmed_behind : (w : List ℕ) → Solid w → trimmed (32 ∷ w) ≡ w
trimmed_behind w s = ap without_end (from_first_cons is_solid 32 w ∙ ap (from_first is_solid) s.begin_is ∙ begins s.first s.rest s.begin_solid ∙ sym s.begin_is)
    ∙ ap without_end s.end_is ∙ ends s.body s.last s.end_solid ∙ sym s.end_is

-- a text in front of one
pub solid_append : (v w : List ℕ) → Solid v → Solid w → Solid (v ++ w)
solid_append v w s t = record {
  first = s.first;
  rest = s.rest ++ w;
  body = v ++ t.body;
  last = t.last;
  begin_is = ap (λ xs. xs ++ w) s.begin_is;
  end_is = ap (λ xs. v ++ xs) t.end_is ∙ sym (append_assoc v t.body (t.last ∷ []));
  begin_solid = s.begin_solid;
  end_solid = t.end_solid;
}

-- with a byte between
pub solid_joined : (v : List ℕ) (c : ℕ) (w : List ℕ) → Solid v → Solid w → Solid (v ++ c ∷ w)
solid_joined v c w s t = record {
  first = s.first;
  rest = s.rest ++ c ∷ w;
  body = v ++ c ∷ t.body;
  last = t.last;
  begin_is = ap (λ xs. xs ++ c ∷ w) s.begin_is;
  end_is = ap (λ xs. v ++ c ∷ xs) t.end_is ∙ sym (append_assoc v (c ∷ t.body) (t.last ∷ []));
  begin_solid = s.begin_solid;
  end_solid = t.end_solid;
}

-- one byte
pub solid_byte : (c : ℕ) → is_solid c ≡ true → Solid (c ∷ [])
solid_byte c solid = record { first = c; rest = []; body = []; last = c; begin_is = refl; end_is = refl; begin_solid = solid; end_solid = solid }

-- a word with a byte at least
high_solid : (c : ℕ) → ltb c 45 ≡ false → is_solid c ≡ true
high_solid c high = grind (arith, nat_tests)

pub solid_word : (w : List ℕ) → is_word w ≡ true → 0 < length w → Solid w
unfolding is_word
solid_word [] word some = absurd (omega arith)
solid_word (c ∷ []) word some = solid_byte c (high_solid c (left_of (ltb c 45) true word))
solid_word (c ∷ d ∷ cs) word some =
    solid_append (c ∷ []) (d ∷ cs) (solid_byte c (high_solid c (left_of (ltb c 45) (is_word (d ∷ cs)) word)))
    (solid_word (d ∷ cs) (right_of (not (ltb c 45)) (is_word (d ∷ cs)) word) (omega arith))

-- the operands of a text
pub one_operand : (a : List ℕ) → Solid a → free comma a ≡ true → operands_of a ≡ One a
unfolding operands_of
one_operand [] s f = absurd (let e : [] ≡ s.first ∷ s.rest = s.begin_is in cc)
one_operand (c ∷ cs) s f =
    ap (λ xs. first xs (behind comma (c ∷ cs))) (before_alone comma (c ∷ cs) f)
    ∙ ap (first (c ∷ cs)) (behind_alone comma (c ∷ cs) f)
    ∙ ap One (trimmed_solid (c ∷ cs) s)

nonempty : (c : ℕ) (a rest : List ℕ) → Solid a → operands_of (a ++ rest) ≡ first (before comma (a ++ rest)) (behind comma (a ++ rest))
unfolding operands_of
nonempty c [] rest s = absurd (let e : [] ≡ s.first ∷ s.rest = s.begin_is in cc)
nonempty c (d ∷ ds) rest s = refl

cut_first : (a rest : List ℕ) → Solid a → free comma a ≡ true → operands_of (a ++ 44 ∷ rest) ≡ second a (before comma rest) (behind comma rest)
cut_first a rest s f =
    nonempty 0 a (44 ∷ rest) s
    ∙ ap (λ xs. first xs (behind comma (a ++ 44 ∷ rest))) (before_at comma a 44 rest f refl)
    ∙ ap (first a) (behind_at comma a 44 rest f refl)

three_equal : (a b c x y z : List ℕ) → a ≡ x → b ≡ y → c ≡ z → Three a b c ≡ Three x y z
three_equal a b c x y z p q r = cc

two_equal : (a b x y : List ℕ) → a ≡ x → b ≡ y → Two a b ≡ Two x y
two_equal a b x y p q = cc

pub two_operands : (a b : List ℕ) → Solid a → Solid b → free comma a ≡ true → free comma b ≡ true → operands_of (a ++ 44 ∷ b) ≡ Two a b
two_operands a b s t f g =
    cut_first a b s f
    ∙ ap (λ xs. second a xs (behind comma b)) (before_alone comma b g)
    ∙ ap (second a b) (behind_alone comma b g)
    ∙ two_equal _ _ _ _ (trimmed_solid a s) (trimmed_solid b t)

pub three_operands : (a b c : List ℕ) → Solid a → Solid b → Solid c → free comma a ≡ true → free comma b ≡ true → free comma c ≡ true
    → operands_of (a ++ 44 ∷ (b ++ 44 ∷ c)) ≡ Three a b c
three_operands a b c s t u f g h =
    cut_first a (b ++ 44 ∷ c) s f
    ∙ ap (λ xs. second a xs (behind comma (b ++ 44 ∷ c))) (before_at comma b 44 c g refl)
    ∙ ap (second a b) (behind_at comma b 44 c g refl)
    ∙ ap (λ xs. third a b xs (behind comma c)) (before_alone comma c h)
    ∙ ap (third a b c) (behind_alone comma c h)
    ∙ three_equal _ _ _ _ _ _ (trimmed_solid a s) (trimmed_solid b t) (trimmed_solid c u)

-- `OFFSET(BASE)`
last_is : (xs : List ℕ) → eqb (slice_index (xs ++ 41 ∷ []) (length (xs ++ 41 ∷ []) - 1)) 41 ≡ true
last_is xs = grind (arith, common_steps)

front_is : (xs : List ℕ) → take (length (xs ++ 41 ∷ []) - 1) (xs ++ 41 ∷ []) ≡ xs
front_is xs = grind (arith, common_steps)

pub place_is : (n r : List ℕ) → free (is_mark 40) n ≡ true → place_of (n ++ 40 ∷ (r ++ 41 ∷ [])) ≡ Some (record { offset = n; base = r })
unfolding place_of
place_is n r f =
    ap (λ xs. closed xs (behind (is_mark 40) (n ++ 40 ∷ (r ++ 41 ∷ [])))) (before_at (is_mark 40) n 40 (r ++ 41 ∷ []) f refl)
    ∙ ap (closed n) (behind_at (is_mark 40) n 40 (r ++ 41 ∷ []) f refl)
    ∙ rw (last_is r, front_is r) refl

-- a line with a first word and operands
pub statement_is : (t : List ℕ) → Solid t → free (is_mark 35) t ≡ true → statement_of t ≡ t
unfolding statement_of
statement_is t s f = ap trimmed (before_alone (is_mark 35) t f) ∙ trimmed_solid t s

pub keyword_is : (name ops : List ℕ) → free is_blank name ≡ true → keyword_of (name ++ 32 ∷ ops) ≡ name
unfolding keyword_of
keyword_is name ops f = before_at is_blank name 32 ops f refl

pub listed_is : (name ops : List ℕ) → free is_blank name ≡ true → Solid ops → listed_in (name ++ 32 ∷ ops) ≡ operands_of ops
unfolding listed_in
listed_is name ops f s = ap (λ xs. operands_of (trimmed xs)) (from_at is_blank name 32 ops f refl) ∙ ap operands_of (trimmed_behind ops s)

pub keyword_alone : (name : List ℕ) → free is_blank name ≡ true → keyword_of name ≡ name
unfolding keyword_of
keyword_alone name f = before_alone is_blank name f

no_text : trimmed [] ≡ []
unfolding without_end
no_text = ap without_end (from_first_nil is_solid)

pub listed_alone : (name : List ℕ) → free is_blank name ≡ true → listed_in name ≡ Nothing
unfolding listed_in operands_of
listed_alone name f = ap (λ xs. operands_of (trimmed xs)) (from_alone is_blank name f) ∙ ap operands_of no_text

-- no mark is a byte of a word
pub no_blank : (c : ℕ) → ltb c 45 ≡ false → is_blank c ≡ false
no_blank c high = grind (arith, nat_tests)

pub no_comma : (c : ℕ) → ltb c 45 ≡ false → comma c ≡ false
no_comma c high = grind (arith, nat_tests)

pub no_hash : (c : ℕ) → ltb c 45 ≡ false → is_mark 35 c ≡ false
no_hash c high = grind (arith, nat_tests)

pub no_paren : (c : ℕ) → ltb c 45 ≡ false → is_mark 40 c ≡ false
no_paren c high = grind (arith, nat_tests)
