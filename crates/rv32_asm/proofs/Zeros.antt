-- Zeros, one more at a time; the bytes of two words.
use Rattle.std.proofs.Common.{◌≡◌, ℕ, zero, suc, ◌+◌, List, [], ◌∷◌, ◌++◌, refl, ap, sym, subst, ◌∙◌, append_assoc, add-one, arith}
use Rattle.std.specs.List.{repeat}
use Rattle.std.proofs.lemmas.Grind.{flat_map-append}
use Rattle.rv32_encode.specs.Elf.{words}
use Rattle.rv32_asm.specs.Assembling.{Adds, with_more}
use Rattle.rv32_asm.specs.declared.assembly.Assembly.{Assembly}

zeros_suc : (n : ℕ) → repeat {A = ℕ} (suc n) (0 ∷ []) ≡ repeat {A = ℕ} n (0 ∷ []) ++ (0 ∷ [])
zeros_suc zero = refl
zeros_suc (suc n) = ap (λ zs. 0 ∷ zs) (zeros_suc n)

again : (xs : List ℕ) (n : ℕ) → (xs ++ repeat {A = ℕ} n (0 ∷ [])) ++ (0 ∷ []) ≡ xs ++ repeat {A = ℕ} (suc n) (0 ∷ [])
again xs n = append_assoc xs (repeat {A = ℕ} n (0 ∷ [])) (0 ∷ []) ∙ ap (λ zs. xs ++ zs) (sym (zeros_suc n))

pub zeros_more : (xs : List ℕ) (n : ℕ) → (xs ++ repeat {A = ℕ} n (0 ∷ [])) ++ (0 ∷ []) ≡ xs ++ repeat {A = ℕ} (n + 1) (0 ∷ [])
zeros_more xs n = let e : n + 1 ≡ suc n = omega arith in again xs n ∙ ap (λ k. xs ++ repeat {A = ℕ} k (0 ∷ [])) (sym e)

pub two_words : (a b : ℕ) → words (a ∷ b ∷ []) ≡ words (a ∷ []) ++ words (b ∷ [])
unfolding words
two_words a b = refl

pub no_words : words [] ≡ []
unfolding words
no_words = refl

-- bytes behind bytes
pub adds_both : (first second : List ℕ) (old mid new : Assembly) → Adds first old mid → Adds second mid new → Adds (first ++ second) old new
adds_both first second old mid new one two = λ more later.
    two more later ∙ one (second ++ more) later ∙ ap (λ bytes. with_more old bytes later) (sym (append_assoc first second more))

pub adds_pair : (a b : ℕ) (old mid new : Assembly) → Adds (words (a ∷ [])) old mid → Adds (words (b ∷ [])) mid new → Adds (words (a ∷ b ∷ [])) old new
adds_pair a b old mid new one two =
    subst (λ (bytes : List ℕ). Adds bytes old new) (sym (two_words a b)) (adds_both (words (a ∷ [])) (words (b ∷ [])) old mid new one two)

pub adds_equal : (a b x y : ℕ) (old mid new : Assembly) → a ≡ x → b ≡ y → Adds (words (a ∷ [])) old mid → Adds (words (b ∷ [])) mid new
    → Adds (words (x ∷ y ∷ [])) old new
adds_equal a b x y old mid new first second one two =
    subst (λ (n : ℕ). Adds (words (n ∷ y ∷ [])) old new) first
    (subst (λ (n : ℕ). Adds (words (a ∷ n ∷ [])) old new) second (adds_pair a b old mid new one two))
