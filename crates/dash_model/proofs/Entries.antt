-- The stores of a write buffer whose numbers rise, and the newest one of a word among them.
use Rattle.std.proofs.Common.{◌≡◌, ℕ, ◌≤◌, ◌<◌, ◌==◌, Bool, true, false, cond, Option, None, Some, List, [], ◌∷◌, ◌++◌, ◌⊎◌, inl, inr, refl, sym, ap, ◌∙◌, subst, arith}
use Rattle.std.specs.Option.{option_or}
use Rattle.write_buffer.specs.declared.entry.Entry.{Entry as Stored}
use Rattle.write_buffer.specs.Look.{has_word, newest_of}
use Rattle.write_buffer.proofs.LawsOffered.{newest_of-nil, newest_of-cons}
use Rattle.dash_model.proofs.Tests.{same, is_same}

-- a store is one of these
abbrev pub IsIn : Stored → List Stored → Type 0
IsIn x [] = ⊥
IsIn x (y ∷ ys) = (y ≡ x) ⊎ IsIn x ys

pub in_first : (x : Stored) (ys zs : List Stored) → IsIn x ys → IsIn x (ys ++ zs)
in_first x [] zs i = absurd i
in_first x (y ∷ ys) zs (inl e) = inl e
in_first x (y ∷ ys) zs (inr i) = inr (in_first x ys zs i)

pub in_last : (x : Stored) (ys : List Stored) → IsIn x (ys ++ x ∷ [])
in_last x [] = inl refl
in_last x (y ∷ ys) = inr (in_last x ys)

pub in_more : (x y : Stored) (ys : List Stored) → IsIn x (ys ++ y ∷ []) → IsIn x ys ⊎ (y ≡ x)
in_more x y [] (inl e) = inr e
in_more x y [] (inr i) = absurd i
in_more x y (z ∷ zs) (inl e) = inl (inl e)
in_more x y (z ∷ zs) (inr i) = elim (in_more x y zs i) [ inl j ↦ inl (inr j) | inr e ↦ inr e ]

-- their numbers rise
abbrev pub NumbersRise : List Stored → Type 0
NumbersRise [] = Unit {0}
NumbersRise (x ∷ xs) = ((y : Stored) → IsIn y xs → x.number < y.number) × NumbersRise xs

pub rise_more : (ys : List Stored) (x : Stored) → ((y : Stored) → IsIn y ys → y.number < x.number) → NumbersRise ys → NumbersRise (ys ++ x ∷ [])
rise_more [] x low rise = (λ y i. absurd i, tt)
rise_more (z ∷ zs) x low rise = (λ y i. elim (in_more y x zs i) [ inl j ↦ rise.0 y j | inr e ↦ subst (λ v. z.number < v.number) e (low z (inl refl)) ], rise_more zs x (λ y i. low y (inr i)) rise.1)

-- where no store of a word is the newest, there is none
some_or : (x : Stored) (o : Option Stored) → option_or o (Some x) ≡ None → ⊥
some_or x None e = absurd (cc)
some_or x (Some y) e = absurd (cc)

none_rest : (o p : Option Stored) → option_or o p ≡ None → o ≡ None
none_rest None p e = refl
none_rest (Some y) p e = absurd (cc)

pub no_newest : (w : ℕ) (es : List Stored) (x : Stored) → newest_of w es ≡ None → IsIn x es → x.word.0 ≡ w → ⊥
no_newest w [] x none i is = absurd i
no_newest w (e ∷ es) x none (inl here) is =
    let test : has_word w e ≡ true = subst (λ v. has_word w v ≡ true) (sym here) (subst (λ n. (n == w) ≡ true) (sym is) (same w)) in
    some_or e (newest_of w es) (sym (newest_of-cons w e es ∙ ap (λ b. option_or (newest_of w es) (cond b (Some e) None)) test) ∙ none)
no_newest w (e ∷ es) x none (inr i) is = no_newest w es x (none_rest (newest_of w es) (cond (has_word w e) (Some e) None) (sym (newest_of-cons w e es) ∙ none)) i is

-- the newest store of a word is one of them, has the word, and no other one of the word has a greater number
pub record IsNewest (w : ℕ) (es : List Stored) (e : Stored) : Type 0 where
  pub inside : IsIn e es
  pub word : e.word.0 ≡ w
  pub least : (x : Stored) → IsIn x es → x.word.0 ≡ w → x.number ≤ e.number

head_newest : (w : ℕ) (z : Stored) (es : List Stored) (e : Stored) (b : Bool) → has_word w z ≡ b → newest_of w es ≡ None → cond b (Some z) None ≡ Some e → IsNewest w (z ∷ es) e
head_newest w z es e true is none q =
    let here : z ≡ e = cc in
    subst (IsNewest w (z ∷ es)) here (record {
      inside = inl refl;
      word = is_same z.word.0 w is;
      least = λ x i word. elim i [ inl at ↦ subst (λ v. v.number ≤ z.number) at (omega arith) | inr j ↦ absurd (no_newest w es x none j word) ];
    })
head_newest w z es e false is none q = absurd (cc)

newest_by : (w : ℕ) (z : Stored) (es : List Stored) (e : Stored) (o : Option Stored) → newest_of w es ≡ o → option_or o (cond (has_word w z) (Some z) None) ≡ Some e → ((y : Stored) → IsIn y es → z.number < y.number) → ((y : Stored) → newest_of w es ≡ Some y → IsNewest w es y) → IsNewest w (z ∷ es) e
newest_by w z es e None none q low rest = head_newest w z es e (has_word w z) refl none q
newest_by w z es e (Some y) some q low rest =
    let here : y ≡ e = cc in
    let k = rest y some in
    subst (IsNewest w (z ∷ es)) here (record {
      inside = inr k.inside;
      word = k.word;
      least = λ x i word. elim i [ inl at ↦ (let less = low y k.inside in subst (λ v. v.number ≤ y.number) at (omega arith)) | inr j ↦ k.least x j word ];
    })

pub newest : (w : ℕ) (es : List Stored) (e : Stored) → NumbersRise es → newest_of w es ≡ Some e → IsNewest w es e
newest w [] e rise is = absurd (let none = newest_of-nil w in cc)
newest w (z ∷ es) e rise is = newest_by w z es e (newest_of w es) refl (sym (newest_of-cons w z es) ∙ is) rise.0 (λ y q. newest w es y rise.1 q)
