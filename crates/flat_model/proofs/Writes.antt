-- What a step leaves in a byte of memory.
use Rattle.std.proofs.Common.{◌≡◌, ◌⊎◌, inl, inr, ◌<◌, ℕ, Bool, true, false, Option, Some, None, refl, sym, ◌∙◌, ap, arith}
use Rattle.std.proofs.lemmas.Bool.Decides.{nat_tests}
use Rattle.std.specs.Prelude.{if◌then◌else◌, ◌==◌, ◌&&◌}
use Rattle.dash_base.specs.Words.{has_byte, byte_of_word}
use Rattle.dash_event.specs.declared.access.Access.{Access}
use Rattle.dash_event.specs.declared.step_record.StepRecord.{StepRecord}
use Rattle.dash_event.specs.declared.step_record.StepRecord.TheVariants as step
use Rattle.dash_event.specs.Effects.{is_of_memory, written_over, word_after}
use Rattle.flat_model.specs.LastBefore.{WritesByte}
use Rattle.flat_model.proofs.Numbers.{byte-merged_in, byte-merged_out}
use Rattle.flat_model.proofs.Values.{Leaves, Keeps}

-- the byte that a write of it leaves
abbrev pub left_byte : (address k : ℕ) (a : Access) → WritesByte address k a → ℕ
left_byte address k a w = byte_of_word k w.value

-- two records of one access
pub same_access : (a b : Access) → step.Access a ≡ step.Access b → a ≡ b
same_access a b e = cc

-- a step writes the byte, or keeps it
abbrev pub WritesOrKeeps : ℕ → ℕ → ℕ → StepRecord → Type 0
WritesOrKeeps address k old r =
    Leaves (WritesByte address k) ℕ (left_byte address k) r (byte_of_word k (word_after address r old))
    ⊎ Keeps (WritesByte address k) ℕ r (byte_of_word k old) (byte_of_word k (word_after address r old))

module _ (address k old : ℕ) (below : k < 4) (a : Access) where
  word_is : (memory same : Bool) (written : Option ℕ) → is_of_memory a.op ≡ memory → (a.word.0 == address) ≡ same → a.written ≡ written
      → word_after address (step.Access a) old ≡ (if memory && same then written_over old a.mask written else old)
  word_is memory same written m s w = λ i. if m i && s i then written_over old a.mask (w i) else old

  writes_or_keeps : (memory same : Bool) (written : Option ℕ) (has : Bool) → is_of_memory a.op ≡ memory → (a.word.0 == address) ≡ same → a.written ≡ written → has_byte a.mask k ≡ has
      → WritesOrKeeps address k old (step.Access a)
  writes_or_keeps true true (Some x) true m s w h =
      let word : a.word.0 ≡ address = grind (arith, nat_tests) in
      inl (record {
        access = a;
        is = refl;
        has = record { of_memory = m; same_word = word; in_mask = h; value = x; written = w };
        value_is = ap (byte_of_word k) (word_is true true (Some x) m s w) ∙ byte-merged_in k old a.mask x below h;
      })
  writes_or_keeps true true (Some x) false m s w h = inr (record {
    none = λ b is writes. (let no : false ≡ true = sym h ∙ ap (λ c. has_byte c.mask k) (same_access a b is) ∙ writes.in_mask in cc);
    same = ap (byte_of_word k) (word_is true true (Some x) m s w) ∙ byte-merged_out k old a.mask x below h;
  })
  writes_or_keeps true true None has m s w h = inr (record {
    none = λ b is writes. (let no : None ≡ Some writes.value = sym w ∙ ap (λ c. c.written) (same_access a b is) ∙ writes.written in cc);
    same = ap (byte_of_word k) (word_is true true None m s w);
  })
  writes_or_keeps true false written has m s w h = inr (record {
    none = λ b is writes. (let word : a.word.0 ≡ address = ap (λ c. c.word.0) (same_access a b is) ∙ writes.same_word in absurd (grind (arith, nat_tests)));
    same = ap (byte_of_word k) (word_is true false written m s w);
  })
  writes_or_keeps false same written has m s w h = inr (record {
    none = λ b is writes. (let no : false ≡ true = sym m ∙ ap (λ c. is_of_memory c.op) (same_access a b is) ∙ writes.of_memory in cc);
    same = ap (byte_of_word k) (word_is false same written m s w);
  })

-- each record writes the byte or keeps it
pub byte_after : (address k old : ℕ) → k < 4 → (r : StepRecord) → WritesOrKeeps address k old r
byte_after address k old below (step.Access a) =
    writes_or_keeps address k old below a (is_of_memory a.op) (a.word.0 == address) a.written (has_byte a.mask k) refl refl refl refl
byte_after address k old below r = inr (record { none = λ b is writes. (cc); same = refl })
