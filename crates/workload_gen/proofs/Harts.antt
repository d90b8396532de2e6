-- Harts of the workload by their registers, and what an instruction makes of one.
use Rattle.std.proofs.Common.{List, [], ap, ℕ, ◌∙◌, ◌∷◌, ◌≡◌}
use Rattle.dash_base.specs.declared.end.End.TheVariants.{Running}
use Rattle.dash_base.specs.declared.instr.Instr.{Instr}
use Rattle.dash_base.specs.declared.need.Need.{Need}
use Rattle.dash_base.specs.declared.topology.Topology.{Topology}
use Rattle.elf_load.specs.Image.{ImageView}
use Rattle.hart_core.proofs.LawsOffered.{one_found}
use Rattle.hart_core.specs.HartState.{HartState}
use Rattle.hart_core.specs.Meaning.{Does, IsFound, after_need, instr_need, need_at}
use Rattle.hart_core.specs.declared.found.Found.TheVariants.{This}

-- the registers that the program uses
pub record Registers : Type 0 where
  pub sp : ℕ
  pub t0 : ℕ
  pub t1 : ℕ
  pub t2 : ℕ
  pub s1 : ℕ
  pub a0 : ℕ
  pub a1 : ℕ
  pub a7 : ℕ
  pub s2 : ℕ
  pub s3 : ℕ
  pub s4 : ℕ
  pub s5 : ℕ
  pub s6 : ℕ
  pub s7 : ℕ
  pub t3 : ℕ
  pub t4 : ℕ
  pub t5 : ℕ
  pub t6 : ℕ

-- in their places among all 32
abbrev pub file : Registers → List ℕ
file r =
    0 ∷ 0 ∷ r.sp ∷ 0 ∷ 0 ∷ r.t0 ∷ r.t1 ∷ r.t2 ∷ 0 ∷ r.s1 ∷ r.a0 ∷ r.a1 ∷ 0 ∷ 0 ∷ 0 ∷ 0
    ∷ 0 ∷ r.a7 ∷ r.s2 ∷ r.s3 ∷ r.s4 ∷ r.s5 ∷ r.s6 ∷ r.s7 ∷ 0 ∷ 0 ∷ 0 ∷ 0 ∷ r.t3 ∷ r.t4 ∷ r.t5 ∷ r.t6 ∷ []

-- a hart that runs
abbrev pub hart : ℕ → Registers → ℕ → HartState
hart pc r n = record { pc = pc; registers = file r; retired = n; end = Running }

-- a hart needs this for its next instruction, and becomes that of the answer
pub record Makes (image : ImageView) (t : Topology) (s : HartState) (need : Need) (after : ℕ → HartState) : Type 0 where
  pub needs : (other : Need) (answer : ℕ) (k : HartState) → Does image t s other answer k → other ≡ need
  pub gives : (other : Need) (answer : ℕ) (k : HartState) → Does image t s other answer k → k ≡ after answer

-- where this instruction stands at its pc
pub makes : (image : ImageView) (t : Topology) (s : HartState) (i : Instr) (need : Need) (after : ℕ → HartState) → IsFound image s.pc (This i) → instr_need image t s i ≡ need
    → ((answer : ℕ) → after_need s (This i) need answer ≡ after answer) → Makes image t s need after
makes image t s i need after found is result = record {
  needs = λ other answer k d. needed other answer k d;
  gives = λ other answer k d. d.after ∙ (λ j. after_need s (here other answer k d j) (needed other answer k d j) answer) ∙ result answer;
}
  where
    here : (other : Need) (answer : ℕ) (k : HartState) (d : Does image t s other answer k) → d.found ≡ This i
    here other answer k d = one_found image s.pc d.found (This i) d.is_found found

    needed : (other : Need) (answer : ℕ) (k : HartState) → Does image t s other answer k → other ≡ need
    needed other answer k d = d.needs ∙ ap (need_at image t s) (here other answer k d) ∙ is
