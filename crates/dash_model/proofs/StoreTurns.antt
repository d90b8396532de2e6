-- What an event does to the stores of one hart: it leaves them, commits the oldest that waits, or adds one, whose number is that of the hart's instruction.
use Rattle.std.proofs.Common.{◌≡◌, ℕ, ◌+◌, ◌≤◌, ◌==◌, Bool, true, false, cond, [], ◌∷◌, ◌++◌, if◌then◌else◌, refl, sym, ap, ◌∙◌, arith}
use Rattle.std.proofs.lemmas.Bool.Decides.{nat_tests}
use Rattle.dash_base.specs.declared.id.HartId.{HartId}
use Rattle.dash_base.specs.declared.id.LineId.{LineId}
use Rattle.dash_event.specs.declared.access.Access.{Access}
use Rattle.dash_event.specs.declared.event.Kind.{Kind}
use Rattle.dash_event.specs.declared.event.Kind.TheVariants as kind
use Rattle.dash_event.specs.Effects.{reply}
use Rattle.write_buffer.specs.declared.entry.Entry.{Entry as Stored}
use Rattle.dash_model.specs.Config.{Config}
use Rattle.dash_model.specs.Part.{Processor, Part}
use Rattle.dash_model.specs.HartRows.{HartEffect, entry_of}
use Rattle.dash_model.specs.HartGuards.{number_of}
use Rattle.dash_model.specs.Guard.{Guard}
use Rattle.dash_model.specs.Row.{row}
use Rattle.dash_model.specs.BufferFacts.{store_by, commit_by}
use Rattle.dash_model.proofs.Tests.{is_same}
use Rattle.dash_model.proofs.Buffers.{buffer_is, kept_else, number_is, store_retires}
use Rattle.dash_model.proofs.Stores.{rises}
use Rattle.dash_model.proofs.BufferFacts.{Effect, Same, Gone, More, effect}

pub data Turn (e : Kind) (h : ℕ) (s t : Processor) : Type 0 where
  Idles : store_by h e ≡ [] → commit_by h e ≡ [] → t.buffer ≡ s.buffer → s.core.retired ≤ t.core.retired → Turn e h s t
  Leaves : (x : Stored) (g : HartId) (n : ℕ) (k : LineId) (v : ℕ) → e ≡ kind.Commit g n k v → g.0 ≡ h → n ≡ x.number → s.buffer ≡ x ∷ t.buffer → s.core.retired ≤ t.core.retired → Turn e h s t
  Joins : (a : Access) → e ≡ kind.Store a → a.hart.0 ≡ h → a.number ≡ s.core.retired + 1 → t.buffer ≡ s.buffer ++ entry_of a ∷ [] → t.core.retired ≡ s.core.retired + 1 → Turn e h s t

store_turn : (w : Config) (c : ℕ) (a : Access) (d : HartEffect) (p : Part) (h : ℕ) (b : Bool) → (a.hart.0 == h) ≡ b → Guard w c (kind.Store a) d p → Turn (kind.Store a) h (p.harts h) ((row w c (kind.Store a) d p).part.harts h)
unfolding row Guard
store_turn w c a d p h true is can =
    let mine : a.hart.0 ≡ h = is_same a.hart.0 h is in
    let test : (h == a.hart.0) ≡ true = grind (arith, nat_tests) in
    let next = record (p.harts a.hart.0) { core = d.next; buffer = (p.harts a.hart.0).buffer ++ entry_of a ∷ [] } in
    Joins a refl mine
    (number_is a.hart.0 (number_of a.hart.0 p) d.need a a.word a.mask can.value 0 false can.next.need_is can.access.made ∙ ap (λ z. (p.harts z).core.retired + 1) mine)
    (ap (λ b. (cond b next (p.harts h)).buffer) test ∙ ap (λ z. (p.harts z).buffer ++ entry_of a ∷ []) mine)
    (ap (λ b. (cond b next (p.harts h)).core.retired) test ∙ store_retires w (p.harts a.hart.0).core d.next d.need (reply a.read a.written) a.word a.mask can.value can.next.need_is can.next.does ∙ ap (λ z. (p.harts z).core.retired + 1) mine)
store_turn w c a d p h false is can =
    let test : (h == a.hart.0) ≡ false = grind (arith, nat_tests) in
    let next = record (p.harts a.hart.0) { core = d.next; buffer = (p.harts a.hart.0).buffer ++ entry_of a ∷ [] } in
    let still : (cond (h == a.hart.0) next (p.harts h)).core.retired ≡ (p.harts h).core.retired = ap (λ b. (cond b next (p.harts h)).core.retired) test in
    Idles (ap (λ b. if b then a ∷ [] else []) is) refl (ap (λ b. (cond b next (p.harts h)).buffer) test) (omega arith)

commit_turn : (g : HartId) (n : ℕ) (k : LineId) (v h : ℕ) (s t : Processor) (b : Bool) → (g.0 == h) ≡ b → s.core.retired ≤ t.core.retired → Effect (kind.Commit g n k v) h s.buffer t.buffer → Turn (kind.Commit g n k v) h s t
commit_turn g n k v h s t true is r (Same none still same) =
    let one : commit_by h (kind.Commit g n k v) ≡ n ∷ [] = ap (λ b. if b then n ∷ [] else []) is in
    absurd (let z : n ∷ [] ≡ [] = sym one ∙ still in cc)
commit_turn g n k v h s t true is r (Gone x none one gone) =
    let here : commit_by h (kind.Commit g n k v) ≡ n ∷ [] = ap (λ b. if b then n ∷ [] else []) is in
    Leaves x g n k v refl (is_same g.0 h is) (let z : n ∷ [] ≡ x.number ∷ [] = sym here ∙ one in cc) gone r
commit_turn g n k v h s t false is r (Same none still same) = Idles none still same r
commit_turn g n k v h s t false is r (Gone x none one gone) =
    let here : commit_by h (kind.Commit g n k v) ≡ [] = ap (λ b. if b then n ∷ [] else []) is in
    absurd (let z : [] ≡ x.number ∷ [] = sym here ∙ one in cc)
commit_turn g n k v h s t b is r (More a one still more) = absurd (cc)

pub turn : (w : Config) (c : ℕ) (e : Kind) (d : HartEffect) (p : Part) (h : ℕ) → Guard w c e d p → Turn e h (p.harts h) ((row w c e d p).part.harts h)
turn w c (kind.Store a) d p h can = store_turn w c a d p h (a.hart.0 == h) refl can
turn w c (kind.Commit g n k v) d p h can =
    let t = (row w c (kind.Commit g n k v) d p).part.harts h in
    commit_turn g n k v h (p.harts h) t (g.0 == h) refl (rises (kind.Commit g n k v) h (p.harts h) t (buffer_is w c (kind.Commit g n k v) d p h can)) (effect w c (kind.Commit g n k v) d p h can)
turn w c e d p h can =
    let t = (row w c e d p).part.harts h in
    let buffer = buffer_is w c e d p h can in
    Idles refl refl (kept_else e h (p.harts h) t buffer (λ a q. absurd (cc)) (λ g n k v q. absurd (cc))) (rises e h (p.harts h) t buffer)
