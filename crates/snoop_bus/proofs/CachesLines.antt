-- Each change of one hart's caches, read at any line; and caches that read alike are equal.
use Rattle.std.proofs.Common.{◌≡◌, ℕ, Bool, true, false, cond, not, ◌&&◌, ◌||◌, refl, ◌∙◌}
use Rattle.std.specs.Prelude.{◌==◌}
use Rattle.std.specs.Ordering.{nat_cmp}
use Rattle.std.specs.FinSet.{FinSet, contains, insert, remove, contains-empty}
use Rattle.dash_base.specs.declared.line.Line.{Line}
use Rattle.cache_levels.specs.View.{empty_levels, with_level_copy, without_level_line, after_read}
use Rattle.cache_levels.proofs.LawsOffered.{contains-insert_nat, contains-remove_nat, same_nat_set}
use Rattle.snoop_bus.specs.Caches.{CachesView, owns, no_caches, caches_with, caches_written, caches_without, caches_shared, caches_read}

pub levels-no_caches : (m n : ℕ) → (no_caches m n).levels ≡ empty_levels m n
unfolding no_caches
levels-no_caches m n = refl

pub levels-caches_with : (h : CachesView) (l : ℕ) (c : Line) (own : Bool) → (caches_with h l c own).levels ≡ with_level_copy h.levels l c
unfolding caches_with
levels-caches_with h l c own = refl

pub levels-caches_written : (h : CachesView) (l : ℕ) (c : Line) → (caches_written h l c).levels ≡ with_level_copy h.levels l c
unfolding caches_written
levels-caches_written h l c = refl

pub levels-caches_without : (h : CachesView) (l : ℕ) → (caches_without h l).levels ≡ without_level_line h.levels l
unfolding caches_without
levels-caches_without h l = refl

pub levels-caches_shared : (h : CachesView) (l : ℕ) → (caches_shared h l).levels ≡ h.levels
unfolding caches_shared
levels-caches_shared h l = refl

pub levels-caches_read : (h : CachesView) (l : ℕ) → (caches_read h l).levels ≡ after_read h.levels l
unfolding caches_read
levels-caches_read h l = refl

pub owns-no_caches : (m n q : ℕ) → owns (no_caches m n) q ≡ false
unfolding owns no_caches
owns-no_caches m n q = contains-empty nat_cmp q

with_or_without : (s : FinSet nat_cmp) (l : ℕ) (own : Bool) (q : ℕ) → contains (cond own (insert s l) (remove s l)) q ≡ cond (q == l) own (contains s q)
with_or_without s l true q = contains-insert_nat s l q ∙ elim (q == l) as (λ b. (b || contains s q) ≡ cond b true (contains s q)) [ true ↦ refl | false ↦ refl ]
with_or_without s l false q = contains-remove_nat s l q ∙ elim (q == l) as (λ b. (not b && contains s q) ≡ cond b false (contains s q)) [ true ↦ refl | false ↦ refl ]

pub owns-caches_with : (h : CachesView) (l : ℕ) (c : Line) (own : Bool) (q : ℕ) → owns (caches_with h l c own) q ≡ cond (q == l) own (owns h q)
unfolding owns caches_with
owns-caches_with h l c own q = with_or_without h.owned l own q

pub owns-caches_written : (h : CachesView) (l : ℕ) (c : Line) (q : ℕ) → owns (caches_written h l c) q ≡ owns h q
unfolding owns caches_written
owns-caches_written h l c q = refl

pub owns-caches_without : (h : CachesView) (l q : ℕ) → owns (caches_without h l) q ≡ (not (q == l) && owns h q)
unfolding owns caches_without
owns-caches_without h l q = contains-remove_nat h.owned l q

pub owns-caches_shared : (h : CachesView) (l q : ℕ) → owns (caches_shared h l) q ≡ (not (q == l) && owns h q)
unfolding owns caches_shared
owns-caches_shared h l q = contains-remove_nat h.owned l q

pub owns-caches_read : (h : CachesView) (l q : ℕ) → owns (caches_read h l) q ≡ owns h q
unfolding owns caches_read
owns-caches_read h l q = refl

pub same_caches : (h k : CachesView) → h.levels ≡ k.levels → ((q : ℕ) → owns h q ≡ owns k q) → h ≡ k
unfolding owns
same_caches h k levels marks =
    let same = same_nat_set h.owned k.owned marks in
    λ i. record { levels = levels i; owned = same i }
