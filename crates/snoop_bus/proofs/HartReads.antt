-- A read by one hart: what it answers, and which line enters its L1.
use Rattle.std.proofs.Common.{◌≡◌, ℕ, ◌<◌, ◌%◌, Bool, true, false, cond, not, ◌&&◌, ◌||◌, List, length, get_or, Option, Some, None, option_map, refl, sym, ap, ◌∙◌, arith, subst}
use Rattle.std.specs.Prelude.{◌==◌}
use Rattle.std.proofs.lemmas.Bool.Decides.{nat_tests}
use Rattle.dash_base.specs.declared.line.Line.{Line}
use Rattle.cache_array.specs.View.{copy_at, has_line, IsOnePerIndex}
use Rattle.cache_levels.specs.View.{LevelsView, in_l1, IsPartOfL2, read_of}
use Rattle.cache_levels.proofs.LawsOffered.{l2-after_read, l1_lines-after_read, in_l1-after_read, part-after_read}
use Rattle.snoop_bus.specs.Caches.{CachesView, owns, caches_read}
use Rattle.snoop_bus.specs.Holding.{Holding, has_hart, holders_in, copy_in}
use Rattle.snoop_bus.specs.View.{is_holder, in_hart_l1, hart_read_of, after_hart_read}
use Rattle.snoop_bus.specs.Shared.{hart_copy, gathered, first_l1_lines, bus_of, share_of_copy, IsSpread, AreOneMap}
use Rattle.snoop_bus.specs.Changes.{EachBecomes}
use Rattle.snoop_bus.proofs.CachesLines.{levels-caches_read, owns-caches_read}
use Rattle.snoop_bus.proofs.Gathered.{any_caches, gather}
use Rattle.snoop_bus.proofs.Table.{holding_at-bus_of}
use Rattle.snoop_bus.proofs.BusLines.{holding_at-after_hart_read, harts-after_hart_read, l1_lines-after_hart_read, l2_lines-after_hart_read, in_hart_l1-after_hart_read, same_bus}
use Rattle.snoop_bus.proofs.Becomes.{first_l1_same, first_l2_same, harts-bus_of, l1_lines-bus_of, l2_lines-bus_of, in_hart_l1-bus_of, is_holder-bus_of}

-- one hart has read a line
abbrev pub read_at : ℕ → ℕ → ℕ → CachesView → CachesView
read_at hart line k h = cond (k == hart) (caches_read h line) h

-- what a read by a hart leaves of its caches
record Kept (x y : CachesView) : Type 0 where
  l1_lines : y.levels.l1_lines ≡ x.levels.l1_lines
  l2_lines : y.levels.l2.lines ≡ x.levels.l2.lines
  copies : (q : ℕ) → hart_copy y q ≡ hart_copy x q
  owners : (q : ℕ) → owns y q ≡ owns x q
  one : IsOnePerIndex y.levels.l2
  part : IsPartOfL2 y.levels

kept_at : (line : ℕ) (x : CachesView) (b : Bool) → IsOnePerIndex x.levels.l2 → IsPartOfL2 x.levels → Kept x (cond b (caches_read x line) x)
kept_at line x true one part =
    let levels = levels-caches_read x line in
    let below : (caches_read x line).levels.l2 ≡ x.levels.l2 = ap (λ (v : LevelsView). v.l2) levels ∙ l2-after_read x.levels line in
    record {
      l1_lines = ap (λ (v : LevelsView). v.l1_lines) levels ∙ l1_lines-after_read x.levels line;
      l2_lines = ap (λ a. a.lines) below;
      copies = λ q. ap (λ a. copy_at a q) below;
      owners = λ q. owns-caches_read x line q;
      one = subst (λ a. IsOnePerIndex a) (sym below) one;
      part = subst (λ v. IsPartOfL2 v) (sym levels) (part-after_read x.levels line part);
    }
kept_at line x false one part = record {
  l1_lines = refl;
  l2_lines = refl;
  copies = λ q. refl;
  owners = λ q. refl;
  one = one;
  part = part;
}

-- the lines in the L1 of a hart that reads, and of another
read_l1 : (line : ℕ) (x : CachesView) (n q : ℕ) (b has : Bool) → x.levels.l1_lines ≡ n → has_line x.levels.l2 line ≡ has → in_l1 (cond b (caches_read x line) x).levels q ≡ cond (b && (has && not (in_l1 x.levels line))) ((q == line) || (in_l1 x.levels q && not (q % n == line % n))) (in_l1 x.levels q)
read_l1 line x n q true has lines held =
    ap (λ v. in_l1 v q) (levels-caches_read x line)
    ∙ in_l1-after_read x.levels line q
    ∙ ap (λ t. cond (t && not (in_l1 x.levels line)) ((q == line) || (in_l1 x.levels q && not (q % x.levels.l1_lines == line % x.levels.l1_lines))) (in_l1 x.levels q)) held
    ∙ ap (λ m. cond (has && not (in_l1 x.levels line)) ((q == line) || (in_l1 x.levels q && not (q % m == line % m))) (in_l1 x.levels q)) lines
read_l1 line x n q false has lines held = refl

module _ (hs new : List CachesView) (hart line : ℕ) (one : AreOneMap hs) (low : hart < length hs) (e : EachBecomes (read_at hart line) hs new) where
  low_of : (h : ℕ) → h < length new → h < length hs
  low_of h l = omega (arith, e.as_many)

  kept : (h : ℕ) (d : CachesView) → h < length hs → Kept (get_or hs h d) (get_or new h d)
  kept h d l = subst (λ y. Kept (get_or hs h d) y) (sym (e.each h d l)) (kept_at line (get_or hs h d) (h == hart) (one.each h d l).one (one.each h d l).part)

  kept_each : (h : ℕ) (d : CachesView) → h < length hs → Kept (get_or hs h d) (read_at hart line h (get_or hs h d))
  kept_each h d l = kept_at line (get_or hs h d) (h == hart) (one.each h d l).one (one.each h d l).part

  spread : (q : ℕ) → IsSpread new q (gathered hs q)
  spread q = record {
    proper = subst (λ n. Rattle.snoop_bus.specs.Holding.IsProper n (gathered hs q)) (sym e.as_many) (one.spread q).proper;
    copies = λ h d l. (kept h d (low_of h l)).copies q ∙ (one.spread q).copies h d (low_of h l);
    owners = λ h d l. (kept h d (low_of h l)).owners q ∙ (one.spread q).owners h d (low_of h l);
  }

  gathered_new : (q : ℕ) → gathered new q ≡ gathered hs q
  gathered_new q = gather new q (gathered hs q) (spread q)

  l1_same : first_l1_lines new ≡ first_l1_lines hs
  l1_same = first_l1_same (read_at hart line) hs new e (λ h d l. (kept_each h d l).l1_lines)

  l2_same : Rattle.snoop_bus.specs.Shared.first_l2_lines new ≡ Rattle.snoop_bus.specs.Shared.first_l2_lines hs
  l2_same = first_l2_same (read_at hart line) hs new e (λ h d l. (kept_each h d l).l2_lines)

  pub reads_one_map : AreOneMap new
  reads_one_map = record {
    few = omega (arith, one.few, e.as_many);
    each = λ h d l. let old = one.each h d (low_of h l) in let here = kept h d (low_of h l) in record {
      l1_is = here.l1_lines ∙ old.l1_is ∙ sym l1_same;
      l2_is = here.l2_lines ∙ old.l2_is ∙ sym l2_same;
      one = here.one;
      part = here.part;
    };
    spread = λ q. subst (λ g. IsSpread new q g) (sym (gathered_new q)) (spread q);
  }

  near_new : (h q : ℕ) → h < length hs → (b : Bool) → (h == hart) ≡ b → in_l1 (get_or new h any_caches).levels q ≡ cond (b && (is_holder (bus_of hs) hart line && not (in_hart_l1 (bus_of hs) hart line))) ((q == line) || (in_hart_l1 (bus_of hs) h q && not (q % (bus_of hs).l1_lines == line % (bus_of hs).l1_lines))) (in_hart_l1 (bus_of hs) h q)
  near_new h q l true is =
      let same : h ≡ hart = grind (arith, nat_tests) in
      ap (λ (y : CachesView). in_l1 y.levels q) (e.each h any_caches l)
      ∙ read_l1 line (get_or hs h any_caches) (bus_of hs).l1_lines q (h == hart) (is_holder (bus_of hs) hart line) ((one.each h any_caches l).l1_is ∙ sym (l1_lines-bus_of hs)) (ap (λ k. has_line (get_or hs k any_caches).levels.l2 line) same ∙ sym (is_holder-bus_of hs hart line one low))
      ∙ ap (λ b. cond (b && (is_holder (bus_of hs) hart line && not (in_l1 (get_or hs h any_caches).levels line))) ((q == line) || (in_l1 (get_or hs h any_caches).levels q && not (q % (bus_of hs).l1_lines == line % (bus_of hs).l1_lines))) (in_l1 (get_or hs h any_caches).levels q)) is
      ∙ ap (λ t. cond (is_holder (bus_of hs) hart line && not t) ((q == line) || (in_l1 (get_or hs h any_caches).levels q && not (q % (bus_of hs).l1_lines == line % (bus_of hs).l1_lines))) (in_l1 (get_or hs h any_caches).levels q)) (ap (λ k. in_l1 (get_or hs k any_caches).levels line) same ∙ sym (in_hart_l1-bus_of hs hart line low))
      ∙ ap (λ t. cond (is_holder (bus_of hs) hart line && not (in_hart_l1 (bus_of hs) hart line)) ((q == line) || (t && not (q % (bus_of hs).l1_lines == line % (bus_of hs).l1_lines))) t) (sym (in_hart_l1-bus_of hs h q l))
  near_new h q l false is =
      ap (λ (y : CachesView). in_l1 y.levels q) (e.each h any_caches l)
      ∙ ap (λ b. in_l1 (cond b (caches_read (get_or hs h any_caches) line) (get_or hs h any_caches)).levels q) is
      ∙ sym (in_hart_l1-bus_of hs h q l)

  pub reads_bus : bus_of new ≡ after_hart_read (bus_of hs) hart line
  reads_bus =
      let many = harts-bus_of hs in
      same_bus _ _
      (l1_lines-bus_of new ∙ l1_same ∙ sym (l1_lines-after_hart_read (bus_of hs) hart line ∙ l1_lines-bus_of hs))
      (l2_lines-bus_of new ∙ l2_same ∙ sym (l2_lines-after_hart_read (bus_of hs) hart line ∙ l2_lines-bus_of hs))
      (harts-bus_of new ∙ e.as_many ∙ sym (harts-after_hart_read (bus_of hs) hart line ∙ harts-bus_of hs))
      (λ q. holding_at-bus_of new q ∙ gathered_new q ∙ sym (holding_at-after_hart_read (bus_of hs) hart line q ∙ holding_at-bus_of hs q))
      (λ h q l. let many_new = harts-bus_of new in let old : h < length hs = omega (arith, e.as_many, many_new) in
      in_hart_l1-bus_of new h q (omega (arith, many_new))
      ∙ near_new h q old (h == hart) refl
      ∙ sym (in_hart_l1-after_hart_read (bus_of hs) hart line h q (omega (arith, many))))

answered : (b t : Bool) (c : Line) → option_map {U = Line × ℕ} (λ d. (d, cond t 1 2)) (cond b (Some c) None) ≡ cond b (Some (c, cond t 1 2)) None
answered true t c = refl
answered false t c = refl

nothing : (b : Bool) → ◌≡◌ {A = Option (Line × ℕ)} None (cond b None None)
nothing true = refl
nothing false = refl

answer_of : (o : Option Holding) (hart : ℕ) (c : Option Line) → c ≡ share_of_copy o hart → (t : Bool) → option_map {U = Line × ℕ} (λ d. (d, cond t 1 2)) c ≡ cond (has_hart (holders_in o) hart) (option_map {U = Line × ℕ} (λ d. (d, cond t 1 2)) (copy_in o)) None
answer_of None hart c is t = ap (option_map {U = Line × ℕ} (λ d. (d, cond t 1 2))) is ∙ nothing (has_hart 0 hart)
answer_of (Some g) hart c is t = ap (option_map {U = Line × ℕ} (λ d. (d, cond t 1 2))) is ∙ answered (has_hart g.holders hart) t g.copy

-- what the read answers
pub reads_answer : (hs : List CachesView) (hart line : ℕ) → AreOneMap hs → hart < length hs → read_of (get_or hs hart any_caches).levels line ≡ hart_read_of (bus_of hs) hart line
unfolding read_of hart_read_of
reads_answer hs hart line one low =
    let x = get_or hs hart any_caches in
    let copy = (one.spread line).copies hart any_caches low in
    answer_of (gathered hs line) hart (hart_copy x line) copy (in_l1 x.levels line)
    ∙ ap (λ t. cond (has_hart (holders_in (gathered hs line)) hart) (option_map {U = Line × ℕ} (λ c. (c, cond t 1 2)) (copy_in (gathered hs line))) None) (sym (in_hart_l1-bus_of hs hart line low))
    ∙ ap (λ o. cond (has_hart (holders_in o) hart) (option_map {U = Line × ℕ} (λ c. (c, cond (in_hart_l1 (bus_of hs) hart line) 1 2)) (copy_in o)) None) (sym (holding_at-bus_of hs line))
