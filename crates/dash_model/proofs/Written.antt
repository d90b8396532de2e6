-- What a write makes of each word of its line.
use Rattle.std.proofs.Common.{◌≡◌, ◌≢◌, ℕ, ◌<◌, ◌==◌, ◌&&◌, Bool, true, false, Option, Some, None, if◌then◌else◌, length, unwrap_or, refl, sym, ap, ◌∙◌, subst, arith}
use Rattle.std.proofs.lemmas.Bool.Decides.{nat_tests}
use Rattle.std.proofs.lemmas.List.{get_or-set_same, get_or-set_other, length-set}
use Rattle.dash_base.specs.Words.{merged}
use Rattle.dash_base.specs.declared.line.Line.{Line}
use Rattle.dash_event.specs.declared.access.Access.{Access}
use Rattle.dash_event.specs.declared.step_record.StepRecord.TheVariants as step
use Rattle.hart_core.specs.Access.{IsInMemory}
use Rattle.dash_event.specs.Effects.{is_of_memory, written_over, word_after}
use Rattle.dash_model.specs.Config.{Config, line_at, place_of}
use Rattle.dash_model.specs.Words.{word_in, written_in}

-- an access that writes a word of memory
pub record IsWrite (w : Config) (a : Access) : Type 0 where
  pub of_memory : is_of_memory a.op ≡ true
  pub inside : IsInMemory w.top a.word.0 4
  pub value : ℕ
  pub written : a.written ≡ Some value

pub place_below : (w : Config) (address : ℕ) → place_of w address < 4
place_below w address = omega arith

-- two words of a line at one place are one word
same_word : (w : Config) (a b : ℕ) → IsInMemory w.top a 4 → IsInMemory w.top b 4 → line_at w a ≡ line_at w b → place_of w a ≡ place_of w b → a ≡ b
same_word w a b i j e f =
    let pages = w.top.base_in_pages in
    let aligned_a = i.aligned in
    let aligned_b = j.aligned in
    let above_a = i.above in
    let above_b = j.above in
    omega arith

merged_word : (a : Access) (old : ℕ) (o : Option ℕ) (value : ℕ) → o ≡ Some value → merged old a.mask (unwrap_or o 0) ≡ written_over old a.mask o
merged_word a old (Some x) value e = refl
merged_word a old None value e = absurd (cc)

written_by : (w : Config) (a : Access) (d : Line) (address : ℕ) (b : Bool) → (a.word.0 == address) ≡ b → IsWrite w a → length d.words ≡ 4 → IsInMemory w.top address 4 → line_at w address ≡ line_at w a.word.0 → word_in w address (written_in w a.word.0 a.mask (unwrap_or a.written 0) d) ≡ (if b then written_over (word_in w address d) a.mask a.written else word_in w address d)
written_by w a d address true is k four inside line =
    let same : a.word.0 ≡ address = grind (arith, nat_tests) in
    let low : place_of w a.word.0 < 4 = place_below w a.word.0 in
    let there : place_of w a.word.0 < length d.words = omega (arith, low, four) in
    let set : word_in w a.word.0 (written_in w a.word.0 a.mask (unwrap_or a.written 0) d) ≡ merged (word_in w a.word.0 d) a.mask (unwrap_or a.written 0) = get_or-set_same d.words (place_of w a.word.0) (merged (word_in w a.word.0 d) a.mask (unwrap_or a.written 0)) 0 there in
    subst (λ z. word_in w z (written_in w a.word.0 a.mask (unwrap_or a.written 0) d) ≡ written_over (word_in w z d) a.mask a.written) same (set ∙ merged_word a (word_in w a.word.0 d) a.written k.value k.written)
written_by w a d address false is k four inside line =
    let differs : place_of w address ≢ place_of w a.word.0 = λ e. (let same : address ≡ a.word.0 = same_word w address a.word.0 inside k.inside line e in let yes : (a.word.0 == address) ≡ true = grind (arith, nat_tests) in absurd (cc)) in
    get_or-set_other d.words (place_of w a.word.0) (place_of w address) (merged (word_in w a.word.0 d) a.mask (unwrap_or a.written 0)) 0 differs

-- each word of the line is what a step with this access makes of it
pub word_written : (w : Config) (a : Access) (d : Line) (address : ℕ) → IsWrite w a → length d.words ≡ 4 → IsInMemory w.top address 4 → line_at w address ≡ line_at w a.word.0 → word_in w address (written_in w a.word.0 a.mask (unwrap_or a.written 0) d) ≡ word_after address (step.Access a) (word_in w address d)
word_written w a d address k four inside line = written_by w a d address (a.word.0 == address) refl k four inside line ∙ ap (λ b. if b && (a.word.0 == address) then written_over (word_in w address d) a.mask a.written else word_in w address d) (sym k.of_memory)

pub four_written : (w : Config) (address mask value : ℕ) (d : Line) → length d.words ≡ 4 → length (written_in w address mask value d).words ≡ 4
four_written w address mask value d four = length-set d.words (place_of w address) (merged (word_in w address d) mask value) ∙ four
