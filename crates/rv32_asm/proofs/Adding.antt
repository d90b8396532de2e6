-- A definition that is added where there is none.
use Rattle.std.proofs.Common.{◌≡◌, ℕ, List, Bool, true, false, cond, Option, Some, None, is_some, if◌then◌else◌, refl, arith}
use Rattle.std.specs.Str.{bytes_eq}
use Rattle.std.proofs.lemmas.Slice.Eq.{bytes_eq-Decides}
use Rattle.asm_words.specs.Mnemonics.{either}
use Rattle.rv32_asm.specs.declared.labels.Definition.{Definition}

pub either_none : (o : Option Definition) → o ≡ either o None
either_none (Some d) = refl
either_none None = refl

pub no_definition : (o : Option Definition) → is_some o ≡ false → o ≡ None
no_definition (Some d) e = absurd (cc)
no_definition None e = refl

pub add_step : (b : Bool) (old : Option Definition) (d : Definition) → (b ≡ true → old ≡ None)
    → cond b (Some d) old ≡ either old (if b then Some d else None)
add_step true old d absent = rw (absent refl) refl
add_step false old d absent = either_none old

pub same_name : (a b : List ℕ) → bytes_eq a b ≡ true → a ≡ b
same_name a b e = (bytes_eq-Decides a b).0 e
