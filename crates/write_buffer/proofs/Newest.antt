-- The newest entry of a word: after a store, and as a search from the back finds it.
use Rattle.std.proofs.Common.{◌≡◌, ℕ, Bool, true, false, cond, List, [], ◌∷◌, ◌++◌, Option, Some, None, option_map, find, reverse, is_some, ◌||◌, refl, sym, ap, ◌∙◌, subst, Bor}
use Rattle.std.specs.Prelude.{MatchOption, ⊤}
use Rattle.std.specs.Fn.{CalledAt}
use Rattle.std.specs.List.{FoldsTo, list_any}
use Rattle.std.specs.Option.{option_or}
use Rattle.std.specs.Iterator.{YieldsThen}
use Rattle.std.specs.Map.Iter.{TakesLast, deref}
use Rattle.std.proofs.lemmas.List.{reverse-append}
use Rattle.std.proofs.lemmas.List.Folds.{find-append}
use Rattle.std.proofs.lemmas.Grind.{reverse_onto}
use denote.Param.Members.{Mut}
use Rattle.write_buffer.specs.declared.entry.Entry.{Entry}
use Rattle.write_buffer.specs.Look.{has_word, newest_of}

pub newest_of-nil : (w : ℕ) → newest_of w [] ≡ None
unfolding newest_of
newest_of-nil w = refl

pub newest_of-push : (w : ℕ) (es : List Entry) (e : Entry) → newest_of w (es ++ e ∷ []) ≡ cond (has_word w e) (Some e) (newest_of w es)
unfolding newest_of
newest_of-push w es e = ap (find (has_word w)) (reverse-append es (e ∷ []))

module _ {F : Type 0} (g : Mut F (Bor (Bor Entry) × Unit {0}) Bool) (w : ℕ) (f : F)
    (tells : (x : Bor Entry) (b : Bool) (q : F) → CalledAt g f x b q → (q ≡ f) × (b ≡ has_word w x.now)) where
  ends : (s : List Entry) (r : Option (Bor Entry)) (u : List Entry) → TakesLast deref s r u → MatchOption r ⊤ (λ x. (h : F) × CalledAt g f x true h) → option_map deref r ≡ newest_of w s
  ends s None u t k = sym (ap (newest_of w) t.0 ∙ newest_of-nil w)
  ends s (Some x) u t k =
      sym (ap (newest_of w) t ∙ newest_of-push w u x.now ∙ ap (λ b. cond b (Some x.now) (newest_of w u)) (sym (tells x true k.0 k.1).1))

  -- a search from the back whose test tells whether an entry has the word
  pub found_from_back : (xs : List (Bor Entry)) (s : List Entry) (r : Option (Bor Entry)) (u : List Entry) (j : F)
      → YieldsThen (TakesLast deref) s xs r u → FoldsTo (λ p x q. CalledAt g p x false q) f xs j → MatchOption r ⊤ (λ x. (h : F) × CalledAt g j x true h) → option_map deref r ≡ newest_of w s
  found_from_back [] s r u j y k m =
      subst (λ t. option_map deref r ≡ newest_of w t) (sym y.1) (ends y.0 r u y.2 (subst (λ i. MatchOption r ⊤ (λ x. (h : F) × CalledAt g i x true h)) (sym k) m))
  found_from_back (x ∷ xs) s r u j y k m =
      let told = tells x false k.0 k.1 in
      let rest = found_from_back xs y.1.0 r u j (y.0, y.1.2, y.2) (subst (λ i. FoldsTo (λ p x q. CalledAt g p x false q) i xs j) told.0 k.2) m in
      rest ∙ sym (ap (newest_of w) y.1.1 ∙ newest_of-push w y.1.0 x.now ∙ ap (λ b. cond b (Some x.now) (newest_of w y.1.0)) (sym told.1))

-- once the head has left
pub newest_of-cons : (w : ℕ) (e : Entry) (es : List Entry) → newest_of w (e ∷ es) ≡ option_or (newest_of w es) (cond (has_word w e) (Some e) None)
unfolding newest_of
newest_of-cons w e es = ap (find (has_word w)) (reverse_onto es e []) ∙ find-append (has_word w) (reverse es) (e ∷ [])

-- there is a newest entry just where an entry has the word
pub is_some-newest_of : (w : ℕ) (es : List Entry) → is_some (newest_of w es) ≡ list_any (has_word w) es
is_some-newest_of w [] = ap is_some (newest_of-nil w)
is_some-newest_of w (e ∷ es) = ap is_some (newest_of-cons w e es) ∙ either (newest_of w es) (has_word w e) ∙ ap (λ b. has_word w e || b) (is_some-newest_of w es)
  where
    either : (o : Option Entry) (b : Bool) → is_some (option_or o (cond b (Some e) None)) ≡ (b || is_some o)
    either None true = refl
    either None false = refl
    either (Some x) true = refl
    either (Some x) false = refl
