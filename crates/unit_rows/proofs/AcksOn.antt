-- An entry of acknowledgements that changes, seen from the lines: the entry of its line, and that of each other line.
use Rattle.std.proofs.Common.{◌≡◌, ◌≢◌, ℕ, ◌<◌, ◌==◌, ◌||◌, true, false, cond, Option, None, Some, [], is_some, option_and_then, refl, sym, ap, ◌∙◌, subst, inl, inr}
use Rattle.ack_counter.specs.View.{Counted, TableView, entry_at, owes, owes_if}
use Rattle.ack_counter.specs.Steps.{fresh, also_owed, begun, owing}
use Rattle.ack_counter.proofs.LawsOffered.{entry_at-with_entry, entry_at-changed, capacity-changed, owes-fresh, owes-also_owed}
use Rattle.dash_model.specs.Maps.{with_member}
use Rattle.dash_model.specs.Config.{Config}
use Rattle.dash_model.specs.Cell.{NoAcks, Counting, Expects}
use Rattle.dash_model.specs.Words.{owes as is_owed}
use Rattle.dash_model.specs.Acts.{owe}
use Rattle.unit_rows.specs.Shown.{hart_at, harts_by, counted_by, acks_by}
use Rattle.unit_rows.proofs.Same.{test_same, test_differ, same_or_not}
use Rattle.unit_rows.proofs.Copies.{harts_by-same, harts_by-none, member-harts_by, with_member-harts_by}

-- an entry that begins
pub begun-acks : (w : Config) (c : ℕ) (t : TableView) (l : ℕ) → acks_by w c (entry_at (begun t l) l) ≡ Counting 0 []
unfolding fresh
begun-acks w c t l =
    ap (acks_by w c) (entry_at-with_entry t l fresh l ∙ ap (λ b. cond b (Some fresh) (entry_at t l)) (test_same l))
    ∙ ap (Counting 0) (harts_by-none w c (owes fresh) (λ k low. owes-fresh k))

pub begun-elsewhere : (t : TableView) (l q : ℕ) → q ≢ l → entry_at (begun t l) q ≡ entry_at t q
begun-elsewhere t l q apart = entry_at-with_entry t l fresh q ∙ ap (λ b. cond b (Some fresh) (entry_at t q)) (test_differ q l apart)

pub begun_in_range : (t : TableView) (l n : ℕ) → l < n → ((q : ℕ) (e : Counted) → entry_at t q ≡ Some e → q < n) → (q : ℕ) (e : Counted) → entry_at (begun t l) q ≡ Some e → q < n
begun_in_range t l n low in_range q e is = elim (same_or_not q l) [
  | inl s ↦ subst (λ y. y < n) (sym s) low
  | inr apart ↦ in_range q e (sym (begun-elsewhere t l q apart) ∙ is)
]

-- an entry that is owed to a hart too
more_owed : (w : Config) (c k : ℕ) (e : Counted) → k < w.top.harts → with_member (hart_at w c k) (harts_by w c (owes e)) ≡ harts_by w c (owes (also_owed k e))
more_owed w c k e low = with_member-harts_by w c k (owes e) low ∙ sym (harts_by-same w c (owes (also_owed k e)) (λ j. (j == k) || owes e j) (λ j below. owes-also_owed e k j))

owed_by : (w : Config) (c k : ℕ) (e : Counted) (n : Option ℕ) → k < w.top.harts → owe (hart_at w c k) (counted_by w c e n) ≡ counted_by w c (also_owed k e) n
unfolding also_owed
owed_by w c k e None low = ap (Counting e.got) (more_owed w c k e low)
owed_by w c k e (Some n) low = ap (Expects n e.got) (more_owed w c k e low)

owed_entry : (w : Config) (c k : ℕ) (o : Option Counted) → k < w.top.harts → owe (hart_at w c k) (acks_by w c o) ≡ acks_by w c (option_and_then (λ e. Some (also_owed k e)) o)
unfolding also_owed
owed_entry w c k None low = refl
owed_entry w c k (Some e) low = owed_by w c k e e.expected low

pub owing-acks : (w : Config) (c k : ℕ) (t : TableView) (l : ℕ) → k < w.top.harts → owe (hart_at w c k) (acks_by w c (entry_at t l)) ≡ acks_by w c (entry_at (owing t l k) l)
owing-acks w c k t l low =
    owed_entry w c k (entry_at t l) low
    ∙ ap (acks_by w c) (sym (entry_at-changed t l (λ e. Some (also_owed k e)) l ∙ ap (λ b. cond b (option_and_then (λ e. Some (also_owed k e)) (entry_at t l)) (entry_at t l)) (test_same l)))

pub owing-elsewhere : (t : TableView) (l k q : ℕ) → q ≢ l → entry_at (owing t l k) q ≡ entry_at t q
owing-elsewhere t l k q apart = entry_at-changed t l (λ e. Some (also_owed k e)) q ∙ ap (λ b. cond b (option_and_then (λ e. Some (also_owed k e)) (entry_at t l)) (entry_at t q)) (test_differ q l apart)

-- whether a line is pending
none_counted : (w : Config) (c : ℕ) (e : Counted) (n : Option ℕ) → counted_by w c e n ≡ NoAcks → ⊥
none_counted w c e None i = absurd (cc)
none_counted w c e (Some n) i = absurd (cc)

pub not_pending : (w : Config) (c : ℕ) (o : Option Counted) → is_some o ≡ false → acks_by w c o ≡ NoAcks
not_pending w c None e = refl
not_pending w c (Some x) e = absurd (cc)

pub pending_not : (w : Config) (c : ℕ) (o : Option Counted) → acks_by w c o ≡ NoAcks → is_some o ≡ false
pending_not w c None e = refl
pending_not w c (Some x) e = absurd (none_counted w c x x.expected e)

-- whether a line's acknowledgements are owed to a hart
owed_part : (w : Config) (c k : ℕ) (e : Counted) (n : Option ℕ) → k < w.top.harts → is_owed (hart_at w c k) (counted_by w c e n) ≡ owes e k
owed_part w c k e None low = member-harts_by w c k (owes e) low
owed_part w c k e (Some n) low = member-harts_by w c k (owes e) low

pub owed-acks_by : (w : Config) (c k : ℕ) (o : Option Counted) → k < w.top.harts → is_owed (hart_at w c k) (acks_by w c o) ≡ owes_if o k
owed-acks_by w c k None low = refl
owed-acks_by w c k (Some e) low = owed_part w c k e e.expected low

-- the lines of a table stay in range
was_there : (f : Counted → Counted) (o : Option Counted) (e : Counted) → option_and_then (λ x. Some (f x)) o ≡ Some e → is_some o ≡ true
was_there f None e is = absurd (cc)
was_there f (Some x) e is = refl

there : (t : TableView) (q n : ℕ) (o : Option Counted) → entry_at t q ≡ o → ((e : Counted) → entry_at t q ≡ Some e → q < n) → is_some o ≡ true → q < n
there t q n None is low some = absurd (cc)
there t q n (Some e) is low some = low e is

pub owing_range : (t : TableView) (l k n : ℕ) → ((q : ℕ) (e : Counted) → entry_at t q ≡ Some e → q < n) → (q : ℕ) (e : Counted) → entry_at (owing t l k) q ≡ Some e → q < n
owing_range t l k n low q e is = elim (same_or_not q l) [
  | inl s ↦
      let here : option_and_then (λ x. Some (also_owed k x)) (entry_at t l) ≡ Some e =
      sym (entry_at-changed t l (λ x. Some (also_owed k x)) q ∙ ap (λ b. cond b (option_and_then (λ x. Some (also_owed k x)) (entry_at t l)) (entry_at t q)) (ap (λ y. y == l) s ∙ test_same l)) ∙ is in
      subst (λ y. y < n) (sym s) (there t l n (entry_at t l) refl (low l) (was_there (also_owed k) (entry_at t l) e here))
  | inr apart ↦ low q e (sym (owing-elsewhere t l k q apart) ∙ is)
]

pub owing_capacity : (t : TableView) (l k : ℕ) → (owing t l k).capacity ≡ t.capacity
owing_capacity t l k = capacity-changed t l (λ e. Some (also_owed k e)) (entry_at t l)
