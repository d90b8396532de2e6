-- What entries show as a whole table.
use Rattle.std.proofs.Common.{◌≡◌, ℕ, ◌<◌, true, false, cond, List, [], ◌∷◌, ◌++◌, length, count_by, Option, Some, None, option_map, find, refl, sym, ap, ◌∙◌, arith, length-append, subst}
use Rattle.ack_counter.specs.declared.entries.Entry.{Entry}
use Rattle.ack_counter.specs.View.{Counted, TableView, entry_at, count, owed_to}
use Rattle.ack_counter.specs.Steps.{fresh, unless_all, also_owed, with_entry, without_entry, set_entry, changed}
use Rattle.ack_counter.specs.Entries.{is_of, is_owed, is_complete, others, kept_entry, counted_in, fresh_entry, entry_owing, map_of, are_apart, AreKept}
use Rattle.dash_base.specs.declared.id.LineId.{LineId}
use Rattle.ack_counter.proofs.Finds.{found, found_line, gone, length-others, shorter, apart-others, apart-push}
use Rattle.ack_counter.proofs.Harts.{harts_of-set, harts_of-none}
use Rattle.ack_counter.proofs.Maps.{get-map_of, map_of-others, map_of-put, len-map_of, owed-map_of}

-- the table of entries
abbrev pub table_of : ℕ → List Entry → TableView
table_of n es = record { capacity = n; entries = map_of es }

pub entry_at-table_of : (n : ℕ) (es : List Entry) (q : ℕ) → entry_at (table_of n es) q ≡ found es q
unfolding entry_at
entry_at-table_of n es q = get-map_of es q

pub count-table_of : (n : ℕ) (es : List Entry) → are_apart es ≡ true → count (table_of n es) ≡ length es
unfolding count
count-table_of n es apart = len-map_of es apart

pub owed_to-table_of : (n : ℕ) (es : List Entry) (hart : ℕ) → hart < 4 → are_apart es ≡ true → owed_to (table_of n es) hart ≡ count_by (is_owed hart) es
unfolding owed_to
owed_to-table_of n es hart low apart = owed-map_of es hart low apart

pub table_of-others : (n : ℕ) (es : List Entry) (l : ℕ) → table_of n (others l es) ≡ without_entry (table_of n es) l
unfolding without_entry
table_of-others n es l = λ i. record { capacity = n; entries = map_of-others es l i }

pub table_of-put : (n : ℕ) (es : List Entry) (e : Entry) → table_of n (others e.line.0 es ++ e ∷ []) ≡ with_entry (table_of n es) e.line.0 (counted_in e)
unfolding with_entry
table_of-put n es e = λ i. record { capacity = n; entries = map_of-put es e i }

append_none : (es : List Entry) → es ++ [] ≡ es
append_none [] = refl
append_none (e ∷ es) = ap (λ rest. e ∷ rest) (append_none es)

pub table_of-settle : (n : ℕ) (es : List Entry) (e : Entry) → table_of n (others e.line.0 es ++ kept_entry e) ≡ set_entry (table_of n es) e.line.0 (unless_all (counted_in e))
table_of-settle n es e =
    elim (is_complete e) as (λ b. table_of n (others e.line.0 es ++ cond b [] (e ∷ [])) ≡ set_entry (table_of n es) e.line.0 (cond b None (Some (counted_in e)))) [
      | true ↦ ap (table_of n) (append_none (others e.line.0 es)) ∙ table_of-others n es e.line.0
      | false ↦ table_of-put n es e
    ]

there : (n : ℕ) (es : List Entry) (l : ℕ) (e : Entry) → find (is_of l) es ≡ Some e → entry_at (table_of n es) l ≡ Some (counted_in e)
there n es l e is = entry_at-table_of n es l ∙ ap (option_map counted_in) is

-- an entry that is settled, or put, in place of the one that was found
pub settled : (n : ℕ) (es : List Entry) (l : ℕ) (e new : Entry) (f : Counted → Option Counted) → find (is_of l) es ≡ Some e → new.line.0 ≡ e.line.0 → unless_all (counted_in new) ≡ f (counted_in e)
    → table_of n (others new.line.0 es ++ kept_entry new) ≡ changed (table_of n es) l f (entry_at (table_of n es) l)
settled n es l e new f is same becomes =
    table_of-settle n es new
    ∙ ap (λ k. set_entry (table_of n es) k (unless_all (counted_in new))) (same ∙ found_line es l e is)
    ∙ ap (set_entry (table_of n es) l) becomes
    ∙ sym (ap (changed (table_of n es) l f) (there n es l e is))

pub replaced : (n : ℕ) (es : List Entry) (l : ℕ) (e new : Entry) (f : Counted → Option Counted) → find (is_of l) es ≡ Some e → new.line.0 ≡ e.line.0 → Some (counted_in new) ≡ f (counted_in e)
    → table_of n (others new.line.0 es ++ new ∷ []) ≡ changed (table_of n es) l f (entry_at (table_of n es) l)
replaced n es l e new f is same becomes =
    table_of-put n es new
    ∙ ap (λ k. with_entry (table_of n es) k (counted_in new)) (same ∙ found_line es l e is)
    ∙ ap (set_entry (table_of n es) l) becomes
    ∙ sym (ap (changed (table_of n es) l f) (there n es l e is))

-- a line without an entry
pub unchanged : (n : ℕ) (es : List Entry) (l : ℕ) (f : Counted → Option Counted) → find (is_of l) es ≡ None → table_of n es ≡ changed (table_of n es) l f (entry_at (table_of n es) l)
unchanged n es l f none =
    sym (ap (changed (table_of n es) l f) (entry_at-table_of n es l ∙ ap (option_map counted_in) none))

pub counted_in-fresh : (l : LineId) → counted_in (fresh_entry l) ≡ fresh
unfolding fresh
counted_in-fresh l = λ i. record { expected = None; got = 0; owed = harts_of-none i }

pub counted_in-owing : (hart : ℕ) (e : Entry) → hart < 4 → length e.owed ≡ 4 → counted_in (entry_owing hart e) ≡ also_owed hart (counted_in e)
unfolding also_owed
counted_in-owing hart e low marks = λ i. record { expected = e.expected; got = e.got; owed = harts_of-set e.owed hart low marks i }

-- what every table keeps
pub kept-others : (n : ℕ) (es : List Entry) (l : ℕ) → AreKept n es → AreKept n (others l es)
kept-others n es l kept = record {
  bounded = kept.bounded;
  few = omega (arith, kept.few, length-others es l);
  apart = apart-others es l kept.apart;
}

pub kept-put : (n : ℕ) (es : List Entry) (e : Entry) → AreKept n es → length (others e.line.0 es) < n → AreKept n (others e.line.0 es ++ e ∷ [])
kept-put n es e kept room = record {
  bounded = kept.bounded;
  few = omega (arith, length-append (others e.line.0 es) (e ∷ []));
  apart = apart-push (others e.line.0 es) e (apart-others es e.line.0 kept.apart) (gone es e.line.0);
}

pub kept-settle : (n : ℕ) (es : List Entry) (e : Entry) → AreKept n es → length (others e.line.0 es) < n → AreKept n (others e.line.0 es ++ kept_entry e)
kept-settle n es e kept room =
    elim (is_complete e) as (λ b. AreKept n (others e.line.0 es ++ cond b [] (e ∷ []))) [
      | true ↦ subst (AreKept n) (sym (append_none (others e.line.0 es))) (kept-others n es e.line.0 kept)
      | false ↦ kept-put n es e kept room
    ]

-- there is room in place of an entry that is found
pub room_in_place : (n : ℕ) (es : List Entry) (l : ℕ) (e new : Entry) → AreKept n es → find (is_of l) es ≡ Some e → new.line.0 ≡ e.line.0 → length (others new.line.0 es) < n
room_in_place n es l e new kept is same =
    subst (λ k. length (others k es) < n) (sym (same ∙ found_line es l e is)) (omega (arith, kept.few, shorter es l e is))
