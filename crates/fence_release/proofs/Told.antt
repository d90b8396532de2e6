-- What the conditions of a buffer and a table tell, by the entries of each, and what makes them hold.
use Rattle.std.proofs.Common.{◌≡◌, ℕ, ◌==◌, ◌&&◌, ◌||◌, Bool, true, false, not, List, [], ◌∷◌, length, Option, None, Some, is_some, refl, sym, ap, ◌∙◌, arith}
use Rattle.std.specs.List.{list_any}
use Rattle.std.proofs.lemmas.Bool.Decides.{nat_tests}
use Rattle.write_buffer.specs.declared.entry.Entry.{Entry}
use Rattle.write_buffer.specs.View.{BufferView}
use Rattle.write_buffer.specs.Look.{has_word, newest_of}
use Rattle.write_buffer.proofs.LawsOffered.{is_some-newest_of}
use Rattle.ack_counter.specs.View.{TableView, entry_at, is_pending, owes_at, owed_to}
use Rattle.ack_counter.proofs.LawsOffered.{owed_is_by_line}
use Rattle.fence_release.specs.Conditions.{is_drained, is_free_to_commit}

-- a hart is drained: no store waits in its buffer, and no line's acknowledgements are owed to it
pub record Drained (hart : ℕ) (b : BufferView) (t : TableView) : Type 0 where
  pub empty : b.items ≡ []
  pub unowed : (line : ℕ) → owes_at t line hart ≡ false

none_left : (es : List Entry) → length es ≡ 0 → es ≡ []
none_left [] e = refl
none_left (x ∷ es) e = absurd (omega arith)

both : (a b : Bool) → (a && b) ≡ true → (a ≡ true) × (b ≡ true)
both true true e = (refl, refl)
both true false e = absurd (cc)
both false b e = absurd (cc)

zero_test : (n : ℕ) → (n == 0) ≡ true → n ≡ 0
zero_test n e = grind (arith, nat_tests)

pub drained_tells : (hart : ℕ) (b : BufferView) (t : TableView) → is_drained hart b t ≡ true → Drained hart b t
drained_tells hart b t e =
    let parts = both (length b.items == 0) (owed_to t hart == 0) e in
    record { empty = none_left b.items (zero_test (length b.items) parts.0); unowed = owed_is_by_line.none t hart (zero_test (owed_to t hart) parts.1) }

is_zero : (n : ℕ) → n ≡ 0 → (n == 0) ≡ true
is_zero n e = grind (arith, nat_tests)

and_true : (a b : Bool) → a ≡ true → b ≡ true → (a && b) ≡ true
and_true true b e f = f
and_true false b e f = e

pub drained_holds : (hart : ℕ) (b : BufferView) (t : TableView) → Drained hart b t → is_drained hart b t ≡ true
drained_holds hart b t d = and_true (length b.items == 0) (owed_to t hart == 0) (is_zero (length b.items) (ap length d.empty)) (is_zero (owed_to t hart) (owed_is_by_line.all t hart d.unowed))

-- an atomic operation may commit: its line is not pending, no store to its word waits, and as a release its hart is drained
pub record MayCommit (release : Bool) (word line hart : ℕ) (b : BufferView) (t : TableView) : Type 0 where
  pub not_pending : entry_at t line ≡ None
  pub unbuffered : newest_of word b.items ≡ None
  pub drained : release ≡ true → Drained hart b t

no_entry : {A : Type 0} (o : Option A) → not (is_some o) ≡ true → o ≡ None
no_entry None e = refl
no_entry (Some x) e = absurd (cc)

released : (r d : Bool) → (not r || d) ≡ true → r ≡ true → d ≡ true
released true d e f = e
released false d e f = absurd (cc)

pub commit_tells : (release : Bool) (word line hart : ℕ) (b : BufferView) (t : TableView) → is_free_to_commit release word line hart b t ≡ true → MayCommit release word line hart b t
commit_tells release word line hart b t e =
    let first = both (not (is_pending t line)) (not (list_any (has_word word) b.items) && (not release || is_drained hart b t)) e in
    let second = both (not (list_any (has_word word) b.items)) (not release || is_drained hart b t) first.1 in
    record {
      not_pending = no_entry (entry_at t line) first.0;
      unbuffered = no_entry (newest_of word b.items) (ap not (is_some-newest_of word b.items) ∙ second.0);
      drained = λ r. drained_tells hart b t (released release (is_drained hart b t) second.1 r);
    }

waits_or_not : (r d : Bool) → (r ≡ true → d ≡ true) → (not r || d) ≡ true
waits_or_not true d f = f refl
waits_or_not false d f = refl

pub commit_holds : (release : Bool) (word line hart : ℕ) (b : BufferView) (t : TableView) → MayCommit release word line hart b t → is_free_to_commit release word line hart b t ≡ true
commit_holds release word line hart b t m =
    and_true (not (is_pending t line)) (not (list_any (has_word word) b.items) && (not release || is_drained hart b t)) (ap (λ o. not (is_some o)) m.not_pending)
    (and_true (not (list_any (has_word word) b.items)) (not release || is_drained hart b t) (sym (ap not (is_some-newest_of word b.items)) ∙ ap (λ o. not (is_some o)) m.unbuffered) (waits_or_not release (is_drained hart b t) (λ r. drained_holds hart b t (m.drained r))))
