-- What each change of one hart's caches is, as its share of a new holding.
use Rattle.std.proofs.Common.{◌≡◌, ℕ, Bool, true, false, cond, not, ◌&&◌, Option, Some, None, refl, sym, ap, ◌∙◌, arith, subst}
use Rattle.std.specs.Prelude.{◌==◌}
use Rattle.std.proofs.lemmas.Bool.Decides.{nat_tests}
use Rattle.dash_base.specs.declared.line.Line.{Line}
use Rattle.cache_array.specs.View.{copy_at, has_line, with_copy, without_line, HasRoom, IsOnePerIndex}
use Rattle.cache_array.proofs.LawsOffered.{copy_at-with_copy, copy_at-without_line, lines-with_copy, lines-without_line, one_per_index-with_copy, one_per_index-without_line}
use Rattle.cache_levels.specs.View.{LevelsView, in_l1, IsPartOfL2}
use Rattle.cache_levels.proofs.LawsOffered.{in_l1-with_level_copy, in_l1-without_level_line, l2-with_level_copy, l2-without_level_line, l1_lines-with_level_copy, l1_lines-without_level_line, part-with_level_copy, part-without_level_line}
use Rattle.snoop_bus.specs.Caches.{CachesView, owns, caches_with, caches_written, caches_without, caches_shared}
use Rattle.snoop_bus.specs.Holding.{Holding}
use Rattle.snoop_bus.specs.Shared.{hart_copy, share_of_copy, share_of_owner}
use Rattle.snoop_bus.proofs.CachesLines.{levels-caches_with, levels-caches_written, levels-caches_without, levels-caches_shared, owns-caches_with, owns-caches_written, owns-caches_without, owns-caches_shared}
use Rattle.snoop_bus.proofs.Becomes.{HartBecomes}

-- a choice by whether two lines are one
at_line : {A : Type 0} (f : ℕ → A) (l q : ℕ) (v : A) → v ≡ f l → f q ≡ cond (q == l) v (f q)
at_line f l q v e = picked (q == l) refl
  where
    picked : (b : Bool) → (q == l) ≡ b → f q ≡ cond b v (f q)
    picked true is = let same : q ≡ l = grind (arith, nat_tests) in ap f same ∙ sym e
    picked false is = refl

-- a line that leaves a hart
pub becomes-without : (p : ℕ → Bool) (l : ℕ) (o : Option Holding) (h : ℕ) (x : CachesView) → p h ≡ true → share_of_copy o h ≡ None → share_of_owner o h ≡ false → IsOnePerIndex x.levels.l2 → IsPartOfL2 x.levels → HartBecomes p l o h x (caches_without x l)
becomes-without p l o h x passes none apart one part =
    let levels = levels-caches_without x l in
    let below : (caches_without x l).levels.l2 ≡ without_line x.levels.l2 l = ap (λ (v : LevelsView). v.l2) levels ∙ l2-without_level_line x.levels l in
    record {
      l1_lines = ap (λ (v : LevelsView). v.l1_lines) levels ∙ l1_lines-without_level_line x.levels l;
      l2_lines = ap (λ a. a.lines) below ∙ lines-without_line x.levels.l2 l;
      copies = λ q. ap (λ a. copy_at a q) below ∙ copy_at-without_line x.levels.l2 l q ∙ ap (λ c. cond (q == l) c (hart_copy x q)) (sym none);
      owners = λ q. owns-caches_without x l q ∙ grind (arith, apart);
      l1 = λ q. ap (λ v. in_l1 v q) levels ∙ in_l1-without_level_line x.levels l q ∙ ap (λ b. not (b && (q == l)) && in_l1 x.levels q) (sym passes);
      one = subst (λ a. IsOnePerIndex a) (sym below) (one_per_index-without_line x.levels.l2 l one);
      part = subst (λ v. IsPartOfL2 v) (sym levels) (part-without_level_line x.levels l part);
    }

-- caches that stay
pub becomes-same : (p : ℕ → Bool) (l : ℕ) (o : Option Holding) (h : ℕ) (x : CachesView) → p h ≡ false → share_of_copy o h ≡ hart_copy x l → share_of_owner o h ≡ owns x l → IsOnePerIndex x.levels.l2 → IsPartOfL2 x.levels → HartBecomes p l o h x x
becomes-same p l o h x passes copy own one part =
    record {
      l1_lines = refl;
      l2_lines = refl;
      copies = λ q. at_line (hart_copy x) l q (share_of_copy o h) copy;
      owners = λ q. at_line (owns x) l q (share_of_owner o h) own;
      l1 = λ q. ap (λ b. not (b && (q == l)) && in_l1 x.levels q) (sym passes);
      one = one;
      part = part;
    }

-- a copy that a hart gets, as the owner or not
pub becomes-with : (p : ℕ → Bool) (l : ℕ) (o : Option Holding) (h : ℕ) (x : CachesView) (c : Line) (own : Bool) → p h ≡ false → share_of_copy o h ≡ Some c → share_of_owner o h ≡ own → HasRoom x.levels.l2 l → IsOnePerIndex x.levels.l2 → IsPartOfL2 x.levels → HartBecomes p l o h x (caches_with x l c own)
becomes-with p l o h x c own passes copy owner room one part =
    let levels = levels-caches_with x l c own in
    let below : (caches_with x l c own).levels.l2 ≡ with_copy x.levels.l2 l c = ap (λ (v : LevelsView). v.l2) levels ∙ l2-with_level_copy x.levels l c in
    record {
      l1_lines = ap (λ (v : LevelsView). v.l1_lines) levels ∙ l1_lines-with_level_copy x.levels l c;
      l2_lines = ap (λ a. a.lines) below ∙ lines-with_copy x.levels.l2 l c;
      copies = λ q. ap (λ a. copy_at a q) below ∙ copy_at-with_copy x.levels.l2 l c q ∙ ap (λ v. cond (q == l) v (hart_copy x q)) (sym copy);
      owners = λ q. owns-caches_with x l c own q ∙ ap (λ b. cond (q == l) b (owns x q)) (sym owner);
      l1 = λ q. ap (λ v. in_l1 v q) levels ∙ in_l1-with_level_copy x.levels l c q ∙ ap (λ b. not (b && (q == l)) && in_l1 x.levels q) (sym passes);
      one = subst (λ a. IsOnePerIndex a) (sym below) (one_per_index-with_copy x.levels.l2 l c one room);
      part = subst (λ v. IsPartOfL2 v) (sym levels) (part-with_level_copy x.levels l c part);
    }

-- a copy that is written
pub becomes-written : (p : ℕ → Bool) (l : ℕ) (o : Option Holding) (h : ℕ) (x : CachesView) (c : Line) → p h ≡ false → share_of_copy o h ≡ Some c → share_of_owner o h ≡ owns x l → has_line x.levels.l2 l ≡ true → IsOnePerIndex x.levels.l2 → IsPartOfL2 x.levels → HartBecomes p l o h x (caches_written x l c)
becomes-written p l o h x c passes copy owner held one part =
    let levels = levels-caches_written x l c in
    let below : (caches_written x l c).levels.l2 ≡ with_copy x.levels.l2 l c = ap (λ (v : LevelsView). v.l2) levels ∙ l2-with_level_copy x.levels l c in
    record {
      l1_lines = ap (λ (v : LevelsView). v.l1_lines) levels ∙ l1_lines-with_level_copy x.levels l c;
      l2_lines = ap (λ a. a.lines) below ∙ lines-with_copy x.levels.l2 l c;
      copies = λ q. ap (λ a. copy_at a q) below ∙ copy_at-with_copy x.levels.l2 l c q ∙ ap (λ v. cond (q == l) v (hart_copy x q)) (sym copy);
      owners = λ q. owns-caches_written x l c q ∙ at_line (owns x) l q (share_of_owner o h) owner;
      l1 = λ q. ap (λ v. in_l1 v q) levels ∙ in_l1-with_level_copy x.levels l c q ∙ ap (λ b. not (b && (q == l)) && in_l1 x.levels q) (sym passes);
      one = subst (λ a. IsOnePerIndex a) (sym below) (one_per_index-with_copy x.levels.l2 l c one (one.one l held));
      part = subst (λ v. IsPartOfL2 v) (sym levels) (part-with_level_copy x.levels l c part);
    }

-- an ownership that is given up
pub becomes-shared : (p : ℕ → Bool) (l : ℕ) (o : Option Holding) (h : ℕ) (x : CachesView) → p h ≡ false → share_of_copy o h ≡ hart_copy x l → share_of_owner o h ≡ false → IsOnePerIndex x.levels.l2 → IsPartOfL2 x.levels → HartBecomes p l o h x (caches_shared x l)
becomes-shared p l o h x passes copy apart one part =
    let levels = levels-caches_shared x l in
    record {
      l1_lines = ap (λ (v : LevelsView). v.l1_lines) levels;
      l2_lines = ap (λ (v : LevelsView). v.l2.lines) levels;
      copies = λ q. ap (λ (v : LevelsView). copy_at v.l2 q) levels ∙ at_line (hart_copy x) l q (share_of_copy o h) copy;
      owners = λ q. owns-caches_shared x l q ∙ grind (arith, apart);
      l1 = λ q. ap (λ v. in_l1 v q) levels ∙ ap (λ b. not (b && (q == l)) && in_l1 x.levels q) (sym passes);
      one = subst (λ (v : LevelsView). IsOnePerIndex v.l2) (sym levels) one;
      part = subst (λ v. IsPartOfL2 v) (sym levels) part;
    }
