-- What a hart finds is one, so what it needs is one, and an answer makes one hart of it.
use Rattle.std.proofs.Common.{◌≡◌, ◌∙◌, ℕ, Option, Some, None, ap, sym, refl, true}
use Rattle.dash_base.specs.declared.topology.Topology.{Topology}
use Rattle.elf_load.specs.Image.{ImageView}
use Rattle.rv32_decode.specs.Layout.{word_of}
use Rattle.rv32_decode.proofs.LawsOffered.{one_word}
use Rattle.hart_core.specs.declared.found.Found.{Found}
use Rattle.hart_core.specs.declared.found.Found.TheVariants.{NoWord, NoInstr, This}
use Rattle.dash_base.specs.declared.need.Need.{Need}
use Rattle.hart_core.specs.HartState.{HartState, can_go_on}
use Rattle.hart_core.specs.Meaning.{IsFound, need_at, after_need, Needs, Does, IsNext}

same_value : (a b : ℕ) → Some a ≡ Some b → a ≡ b
same_value a b e = cc

no_value : (a : ℕ) (o : Option ℕ) → o ≡ None → o ≡ Some a → ⊥
no_value a o none some = cc

pub one_found : (image : ImageView) (pc : ℕ) (a b : Found) → IsFound image pc a → IsFound image pc b → a ≡ b
one_found image pc NoWord NoWord f g = refl
one_found image pc NoWord (NoInstr v) f g = absurd (no_value v _ f g.0)
one_found image pc NoWord (This j) f g = absurd (no_value (word_of j) _ f g)
one_found image pc (NoInstr w) NoWord f g = absurd (no_value w _ g f.0)
one_found image pc (NoInstr w) (NoInstr v) f g = ap NoInstr (same_value w v (sym f.0 ∙ g.0))
one_found image pc (NoInstr w) (This j) f g = absurd (f.1 j (same_value (word_of j) w (sym g ∙ f.0)))
one_found image pc (This i) NoWord f g = absurd (no_value (word_of i) _ g f)
one_found image pc (This i) (NoInstr v) f g = absurd (g.1 i (same_value (word_of i) v (sym f ∙ g.0)))
one_found image pc (This i) (This j) f g = ap This (one_word i j (same_value (word_of i) (word_of j) (sym f ∙ g)))

-- two needs of a hart are one
pub one_need : (image : ImageView) (t : Topology) (h : HartState) (a b : Need) → Needs image t h a → Needs image t h b → a ≡ b
one_need image t h a b f g =
    f.needs ∙ ap (λ x. need_at image t h x) (one_found image h.pc f.found g.found f.is_found g.is_found) ∙ sym g.needs

pub needs_of : (image : ImageView) (t : Topology) (h k : HartState) (need : Need) (x : ℕ) → Does image t h need x k → Needs image t h need
needs_of image t h k need x d = record { goes = d.goes; found = d.found; is_found = d.is_found; needs = d.needs }

-- a hart that does what it found does what it needs
pub does_next : (image : ImageView) (t : Topology) (h k : HartState) (found : Found) (x : ℕ) → can_go_on t h ≡ true
    → IsFound image h.pc found → k ≡ after_need h found (need_at image t h found) x
    → (need : Need) → IsNext image t h need → Does image t h need x k
does_next image t h k found x goes is_found after need next =
    let needs : Needs image t h need = rw goes at next in
    let same : found ≡ needs.found = one_found image h.pc found needs.found is_found needs.is_found in
    let is : need ≡ need_at image t h found = needs.needs ∙ ap (λ f. need_at image t h f) (sym same) in
    record {
      goes = goes;
      found = found;
      is_found = is_found;
      needs = is;
      after = after ∙ ap (λ n. after_need h found n x) (sym is);
    }

-- with another answer the hart becomes another one
pub any_answer : (image : ImageView) (t : Topology) (h k : HartState) (need : Need) (x y : ℕ) → Does image t h need x k
    → (j : HartState) × Does image t h need y j
any_answer image t h k need x y does = (
  after_need h does.found need y,
  record {
    goes = does.goes;
    found = does.found;
    is_found = does.is_found;
    needs = does.needs;
    after = refl;
  },
)

-- an answer makes one hart of it
pub one_after : (image : ImageView) (t : Topology) (h j k : HartState) (need : Need) (x : ℕ) → Does image t h need x j → Does image t h need x k → j ≡ k
one_after image t h j k need x f g =
    f.after ∙ ap (λ found. after_need h found need x) (one_found image h.pc f.found g.found f.is_found g.is_found) ∙ sym g.after
