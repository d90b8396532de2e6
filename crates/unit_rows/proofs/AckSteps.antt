-- A line's entry of acknowledgements that expects so many, for which one more came, or that goes: seen from the lines.
use Rattle.std.proofs.Common.{◌≡◌, ◌≢◌, ℕ, ◌+◌, ◌<◌, ◌==◌, Bool, true, false, cond, Option, None, Some, option_and_then, refl, sym, ap, ap₂, ◌∙◌, subst, inl, inr, arith}
use Rattle.std.proofs.lemmas.Bool.Decides.{nat_tests}
use Rattle.dash_base.specs.Places.{line_count}
use Rattle.ack_counter.specs.View.{Counted, TableView, entry_at, owes}
use Rattle.ack_counter.specs.Steps.{changed, granted, acked, cancelled, counting}
use Rattle.ack_counter.specs.Steps as table
use Rattle.ack_counter.proofs.LawsOffered.{entry_at-changed, entry_at-without_entry, capacity-changed, capacity-without_entry}
use Rattle.dash_model.specs.Config.{Config}
use Rattle.dash_model.specs.Cell.{Acks, NoAcks, Counting, Expects}
use Rattle.dash_model.specs.Replies.{expecting, counted}
use Rattle.unit_rows.specs.Shown.{harts_by, counted_by, acks_by}
use Rattle.unit_rows.proofs.Same.{same_or_not, test_same, test_differ}

-- the table has room for as many, and entries of lines of memory
pub record AcksFit (w : Config) (old new : TableView) : Type 0 where
  pub capacity : new.capacity ≡ old.capacity
  pub in_range : (q : ℕ) (e : Counted) → entry_at new q ≡ Some e → q < line_count w.top

-- what a row makes of the line's entry
pub record AcksTurn (w : Config) (c : ℕ) (old new : TableView) (l : ℕ) (a : Acks) : Type 0 where
  pub here : a ≡ acks_by w c (entry_at new l)
  pub there : (q : ℕ) → q ≢ l → entry_at new q ≡ entry_at old q
  pub fit : AcksFit w old new

abbrev pub EntriesInRange : Config → TableView → Type 0
EntriesInRange w t = (q : ℕ) (e : Counted) → entry_at t q ≡ Some e → q < line_count w.top

pub acks_stay : (w : Config) (c : ℕ) (t : TableView) (l : ℕ) (a : Acks) → EntriesInRange w t → a ≡ acks_by w c (entry_at t l) → AcksTurn w c t t l a
acks_stay w c t l a range is = record { here = is; there = λ q apart. refl; fit = record { capacity = refl; in_range = range } }

-- a change of one line's entry
changed_here : (t : TableView) (l : ℕ) (f : Counted → Option Counted) → entry_at (changed t l f (entry_at t l)) l ≡ option_and_then f (entry_at t l)
changed_here t l f = entry_at-changed t l f l ∙ ap (λ b. cond b (option_and_then f (entry_at t l)) (entry_at t l)) (test_same l)

changed_there : (t : TableView) (l : ℕ) (f : Counted → Option Counted) (q : ℕ) → q ≢ l → entry_at (changed t l f (entry_at t l)) q ≡ entry_at t q
changed_there t l f q apart = entry_at-changed t l f q ∙ ap (λ b. cond b (option_and_then f (entry_at t l)) (entry_at t q)) (test_differ q l apart)

acks_turn : (w : Config) (c : ℕ) (t : TableView) (l : ℕ) (f : Counted → Option Counted) (a : Acks) → EntriesInRange w t → l < line_count w.top → a ≡ acks_by w c (option_and_then f (entry_at t l)) → AcksTurn w c t (changed t l f (entry_at t l)) l a
acks_turn w c t l f a range low is = record {
  here = is ∙ ap (acks_by w c) (sym (changed_here t l f));
  there = changed_there t l f;
  fit = record {
    capacity = capacity-changed t l f (entry_at t l);
    in_range = λ q e at. elim (same_or_not q l) [
      | inl s ↦ subst (λ x. x < line_count w.top) (sym s) low
      | inr n ↦ range q e (sym (changed_there t l f q n) ∙ at)
    ];
  };
}

-- so many are expected
other_way : (a b : ℕ) → (a == b) ≡ (b == a)
other_way a b = grind (arith, nat_tests)

closed_if : (w : Config) (c : ℕ) (e : Counted) (b : Bool) → cond b NoAcks (acks_by w c (Some e)) ≡ acks_by w c (cond b None (Some e))
closed_if w c e true = refl
closed_if w c e false = refl

owed_same : (w : Config) (c : ℕ) (e : Counted) (n : Option ℕ) (g : ℕ) → harts_by w c (owes e) ≡ harts_by w c (owes (record { expected = n; got = g; owed = e.owed }))
unfolding owes
owed_same w c e n g = refl

expecting_by : (w : Config) (c n : ℕ) (e : Counted) (x : Option ℕ) → expecting n (counted_by w c e x) ≡ acks_by w c (table.expecting n e)
expecting_by w c n e None = ap₂ (λ b o. cond b NoAcks (Expects n e.got o)) (other_way e.got n) (owed_same w c e (Some n) e.got) ∙ closed_if w c (record e { expected = Some n }) (n == e.got)
expecting_by w c n e (Some m) = ap₂ (λ b o. cond b NoAcks (Expects n e.got o)) (other_way e.got n) (owed_same w c e (Some n) e.got) ∙ closed_if w c (record e { expected = Some n }) (n == e.got)

expecting_entry : (w : Config) (c n : ℕ) (o : Option Counted) → expecting n (acks_by w c o) ≡ acks_by w c (option_and_then (table.expecting n) o)
expecting_entry w c n None = refl
expecting_entry w c n (Some e) = expecting_by w c n e e.expected

pub granted_turn : (w : Config) (c : ℕ) (t : TableView) (l n : ℕ) → EntriesInRange w t → l < line_count w.top → AcksTurn w c t (granted t l n) l (expecting n (acks_by w c (entry_at t l)))
granted_turn w c t l n range low = acks_turn w c t l (table.expecting n) (expecting n (acks_by w c (entry_at t l))) range low (expecting_entry w c n (entry_at t l))

-- one more came
counted_by_one : (w : Config) (c : ℕ) (e : Counted) (x : Option ℕ) → e.expected ≡ x → counted (counted_by w c e x) ≡ acks_by w c (table.unless_all (record { expected = x; got = e.got + 1; owed = e.owed }))
counted_by_one w c e None is = ap (Counting (e.got + 1)) (owed_same w c e None (e.got + 1))
counted_by_one w c e (Some n) is = ap₂ (λ b o. cond b NoAcks (Expects n (e.got + 1) o)) (other_way (e.got + 1) n) (owed_same w c e (Some n) (e.got + 1)) ∙ closed_if w c (record { expected = Some n; got = e.got + 1; owed = e.owed }) (n == e.got + 1)

counted_entry : (w : Config) (c : ℕ) (o : Option Counted) → counted (acks_by w c o) ≡ acks_by w c (option_and_then counting o)
counted_entry w c None = refl
counted_entry w c (Some e) = counted_by_one w c e e.expected refl

pub acked_turn : (w : Config) (c : ℕ) (t : TableView) (l : ℕ) → EntriesInRange w t → l < line_count w.top → AcksTurn w c t (acked t l) l (counted (acks_by w c (entry_at t l)))
acked_turn w c t l range low = acks_turn w c t l counting (counted (acks_by w c (entry_at t l))) range low (counted_entry w c (entry_at t l))

-- the entry goes
pub cancelled_turn : (w : Config) (c : ℕ) (t : TableView) (l : ℕ) → EntriesInRange w t → AcksTurn w c t (cancelled t l) l NoAcks
cancelled_turn w c t l range =
    let there : (q : ℕ) → q ≢ l → entry_at (cancelled t l) q ≡ entry_at t q = λ q apart. entry_at-without_entry t l q ∙ ap (λ b. cond b None (entry_at t q)) (test_differ q l apart) in
    let gone : entry_at (cancelled t l) l ≡ None = entry_at-without_entry t l l ∙ ap (λ b. cond b None (entry_at t l)) (test_same l) in
    record {
      here = sym (ap (acks_by w c) gone);
      there = there;
      fit = record {
        capacity = capacity-without_entry t l;
        in_range = λ q e at. elim (same_or_not q l) [
          | inl s ↦ absurd (no_entry e (sym gone ∙ ap (entry_at (cancelled t l)) (sym s) ∙ at))
          | inr n ↦ range q e (sym (there q n) ∙ at)
        ];
      };
    }
  where
    no_entry : (e : Counted) → None ≡ Some e → ⊥
    no_entry e i = cc
