-- Where a cluster has a line to own and waits for no acknowledgement of it, nothing but the current content is there to read.
use Rattle.std.proofs.Common.{Bool, List, None, Some, [], ap, arith, cond, false, inl, inr, refl, subst, sym, true, ℕ, ◌+◌, ◌==◌, ◌∙◌, ◌∷◌, ◌≡◌, ◌≤◌}
use Rattle.std.proofs.lemmas.Bool.Decides.{nat_tests}
use Rattle.dash_base.specs.declared.line.Line.{Line}
use Rattle.dash_model.proofs.Contents.{off_not}
use Rattle.dash_model.proofs.Facts.{At, Contents, Counted, NoneToRead, Place, asked, counting, datas_weight, datas_weight_msg, holds, other, read_weight, shared_weight}
use Rattle.dash_model.proofs.LineState.{State}
use Rattle.dash_model.proofs.OwedEntry.{some_entry}
use Rattle.dash_model.proofs.PendingFacts.{holds_most}
use Rattle.dash_model.proofs.Steps.{Invariant}
use Rattle.dash_model.proofs.Tests.{one_same}
use Rattle.dash_model.proofs.Weigh.{weigh-only}
use Rattle.dash_model.specs.Cell.{Asked, Came, Copy, Held, NoAcks, NoCopy, Reads, Slot, Cell}
use Rattle.dash_model.specs.Maps.{weigh}
use Rattle.dash_model.specs.Net.{Packet}
use Rattle.dash_model.specs.OnLine.{invals, invals_msg, invals_at, invals_at_msg, came_own, owned, counts_to, one}
use Rattle.dash_msg.specs.declared.msg.Msg.TheVariants.{Data, Inval}
use Rattle.dash_msg.specs.declared.msg.Msg.{Msg}

-- an invalidation on its way to a cluster is on behalf of some cluster
none_sent : (x a b : ℕ) (m : Msg) → ((r : ℕ) → invals_msg r a b m ≡ 0) → invals_at_msg x a b m ≡ 0
none_sent x a b (Inval l r) f = absurd (let e = f r.0 in let o = one_same r.0 in omega arith)
none_sent x a b _ f = refl

none_anywhere : (x : ℕ) (net : List Packet) → ((r : ℕ) → weigh (invals r) net ≡ 0) → weigh (invals_at x) net ≡ 0
unfolding weigh
none_anywhere x [] f = refl
none_anywhere x (p ∷ ps) f =
    let here : invals_at x p ≡ 0 = none_sent x p.src p.dst p.msg (λ r. (let e = f r in omega arith)) in
    let there = none_anywhere x ps (λ r. (let e = f r in omega arith)) in
    omega arith

-- what has no weight has no other weight that is at most as great
module _ (a b : Line → ℕ) (less : (d : Line) → a d ≡ 0 → b d ≡ 0) where
  shared_less : (k : Copy) → shared_weight a k ≡ 0 → shared_weight b k ≡ 0
  shared_less (Held hs None d) e = less d e
  shared_less (Held hs (Some o) d) e = refl
  shared_less NoCopy e = refl

  read_less : (s : Slot) → read_weight a s ≡ 0 → read_weight b s ≡ 0
  read_less (Reads n t (Came d)) e = less d e
  read_less _ e = refl

  data_less : (d : Line) (i : Bool) → cond i (a d) 0 ≡ 0 → cond i (b d) 0 ≡ 0
  data_less d true e = less d e
  data_less d false e = refl

  datas_less : (x i j : ℕ) (m : Msg) → datas_weight_msg a x i j m ≡ 0 → datas_weight_msg b x i j m ≡ 0
  datas_less x i j (Data l d) e = data_less d (j == x) e
  datas_less x i j _ e = refl

  asked_less : (s : Slot) (m n : ℕ) → (m ≡ 0 → n ≡ 0) → asked s m ≡ 0 → asked s n ≡ 0
  asked_less (Reads i t Asked) m n f e = f e
  asked_less _ m n f e = refl

  none_less : (s : State) (x : ℕ) → NoneToRead a s x → NoneToRead b s x
  none_less s x none =
      let here = shared_less (s.cells x).copy (omega arith) in
      let came = read_less (s.cells x).slot (omega arith) in
      let coming = asked_less (s.cells x).slot (weigh (datas_weight a x) s.net) (weigh (datas_weight b x) s.net) (weigh-only (datas_weight a x) (datas_weight b x) (λ q. datas_less x q.src q.dst q.msg) s.net) (omega arith) in
      omega arith

-- what no invalidation goes to has the current content alone to read
fresh_reads : (b : Line → ℕ) (v : Line) (s : State) (p : Place) (x : ℕ) → b v ≡ 0 → weigh (invals_at x) s.net ≡ 0 → Contents s p v x → NoneToRead b s x
fresh_reads b v s p x z none k = elim k.fresh [ inl some ↦ absurd (omega arith) | inr old ↦ none_less (other v) b (λ d e. ap b (off_not v d e) ∙ z) s x old ]

-- the token is at one cluster
at_one : (p : Place) (c r : ℕ) → holds p c ≡ 1 → p ≡ At r → r ≡ c
at_one p c r here is = let e : one r c ≡ 1 = ap (λ q. holds q c) (sym is) ∙ here in grind (arith, nat_tests)

-- how many tokens a cluster has
abbrev pub tokens : Cell → ℕ
tokens a = owned a.copy + came_own a.slot

pub settled : (h : ℕ) (v : Line) (s : State) (inv : Invariant h v s) (c : ℕ) → 1 ≤ tokens (s.cells c) → (s.cells c).acks ≡ NoAcks → (b : Line → ℕ) → b v ≡ 0 → (x : ℕ) → NoneToRead b s x
settled h v s inv c has clear b z x =
    let p = inv.place in
    let k = (inv.known c).facts in
    let token = k.tokens.token in
    let most = holds_most p c in
    let here : holds p c ≡ 1 = omega arith in
    let counts = some_entry (s.cells c).slot (counting c s) (weigh (counts_to c) s.net) (holds p c) (subst (λ a. Counted (s.cells c).slot a (counting c s) (weigh (counts_to c) s.net) (holds p c)) clear k.counts) in
    let own : weigh (invals c) s.net ≡ 0 = omega arith in
    let none = λ (r : ℕ). elim (inv.known r).facts.epoch.one_owner as (λ y. weigh (invals r) s.net ≡ 0) [ inl e ↦ e | inr e ↦ subst (λ y. weigh (invals y) s.net ≡ 0) (sym (at_one p c r here e)) own ] in
    fresh_reads b v s p x z (none_anywhere x s.net none) (inv.known x).contents
