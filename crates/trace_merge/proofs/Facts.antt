-- What an admissible log says of its accesses: numbers rise, stores are ordinary, and each is found again by its hart and number.
use Rattle.std.proofs.Common.{◌≡◌, ◌≢◌, ◌⊎◌, inl, inr, ◌<◌, ◌≤◌, ℕ, zero, suc, ◌+◌, Bool, true, false, List, [], ◌∷◌, length, Option, Some, None, refl, sym, ◌∙◌, ap, subst, arith, eq-eqb}
use Rattle.std.proofs.lemmas.Bool.Decides.{nat_tests}
use Rattle.std.proofs.lemmas.Option.{slice_get_within}
use Rattle.std.specs.Prelude.{slice_get, option_map, ◌==◌, ◌&&◌, if◌then◌else◌}
use Rattle.dash_base.specs.declared.id.HartId.{HartId}
use Rattle.dash_base.specs.declared.topology.Topology.{Topology}
use Rattle.elf_load.specs.Image.{ImageView}
use Rattle.hart_core.specs.Meaning.{HasByte, Needs}
use Rattle.dash_base.specs.declared.need.Need.{Need}
use Rattle.hart_core.proofs.LawsOffered.{needs_of, store_has_byte}
use Rattle.dash_event.specs.Records.{unseen}
use Rattle.dash_event.specs.declared.access.Access.{Access}
use Rattle.dash_event.specs.declared.access.Op.TheVariants as op
use Rattle.dash_event.specs.declared.event.Event.{Event}
use Rattle.dash_event.specs.declared.event.Kind.{Kind}
use Rattle.dash_event.specs.declared.event.Kind.TheVariants as kind
use Rattle.flat_model.proofs.LawsOffered.{number_is, retires_no_less, access_retires}
use Rattle.dash_model.specs.Log.{IsEventAt}
use Rattle.dash_model.specs.LineContent.{store_in, store_of}
use Rattle.dash_model.specs.Replay.{Harts, Moves, Accesses, Replays}
use Rattle.dash_model.specs.Admissible.{IsAdmissible}
use Rattle.trace_merge.proofs.Places.{IsSmall, small_if, upto, from_place, at_place, upto_all}
use Rattle.trace_merge.proofs.Offers.{IsPlainStore, has_shape, store_need, HasShape}

-- what stands at one position is one
pub one_event : (log : List Event) (i : ℕ) (k k' : Kind) → IsEventAt log i k → IsEventAt log i k' → k ≡ k'
one_event log i k k' at at' = let same : Some k ≡ Some k' = sym at ∙ at' in cc

pub some_element : {A : Type 0} (xs : List A) (i : ℕ) → i < length xs → (x : A) × (slice_get xs i ≡ Some x)
some_element [] i below = absurd (omega arith)
some_element (x ∷ xs) zero below = (x, refl)
some_element (x ∷ xs) (suc i) below = some_element xs i (omega arith)

within : (o : Option Event) (k : Kind) → option_map (λ e. e.kind) o ≡ Some k → (e : Event) × (o ≡ Some e)
within None k at = absurd cc
within (Some e) k at = (e, refl)

pub event_within : (log : List Event) (i : ℕ) (k : Kind) → IsEventAt log i k → i < length log
event_within log i k at = let e = within (slice_get log i) k at in slice_get_within log i e.0 e.1

pub some_event : (log : List Event) (i : ℕ) → i < length log → (k : Kind) × IsEventAt log i k
some_event log i below = let e = some_element log i below in (e.0.kind, ap (option_map (λ x. x.kind)) e.1)

pub three : (i j : ℕ) → (i < j) ⊎ ((i ≡ j) ⊎ (j < i))
three i j = grind arith

pub same_or_not : (g h : ℕ) → (g ≡ h) ⊎ (g ≢ h)
same_or_not g h = grind arith

-- no hart takes back what it retired
moves_on : (image : ImageView) (t : Topology) (old new : Harts) (hart : HartId) (need : Need) (x g : ℕ) → Moves image t old new hart need x
    → (g ≡ hart.0) ⊎ (g ≢ hart.0) → (old g).retired ≤ (new g).retired
moves_on image t old new hart need x g m (inl same) =
    subst (λ i. (old i).retired ≤ (new i).retired) (sym same) (retires_no_less image t (old hart.0) (new hart.0) need x m.does)
moves_on image t old new hart need x g m (inr other) = let e : (new g).retired ≡ (old g).retired = ap (λ s. s.retired) (m.others g other) in omega arith

stays_on : (old new : Harts) (g : ℕ) → new g ≡ old g → (old g).retired ≤ (new g).retired
stays_on old new g same = let e : (new g).retired ≡ (old g).retired = ap (λ s. s.retired) same in omega arith

retired_on : (image : ImageView) (t : Topology) (old new : Harts) (k : Kind) (g : ℕ) → Replays image t old k new → (old g).retired ≤ (new g).retired
retired_on image t old new (kind.Alu h pc) g r = moves_on image t old new h _ _ g r.moves (same_or_not g h.0)
retired_on image t old new (kind.Fence h pc) g r = moves_on image t old new h _ _ g r.next.moves (same_or_not g h.0)
retired_on image t old new (kind.Hint h pc s) g r = moves_on image t old new h _ _ g r.next.moves (same_or_not g h.0)
retired_on image t old new (kind.Put h pc b) g r = moves_on image t old new h _ _ g r.moves (same_or_not g h.0)
retired_on image t old new (kind.Stop h pc e) g r = moves_on image t old new h _ _ g r.moves (same_or_not g h.0)
retired_on image t old new (kind.Load a l) g r = moves_on image t old new a.hart _ _ g r.0.moves (same_or_not g a.hart.0)
retired_on image t old new (kind.Store a) g r = moves_on image t old new a.hart _ _ g r.0.moves (same_or_not g a.hart.0)
retired_on image t old new (kind.Rmw a l v) g r = moves_on image t old new a.hart _ _ g r.0.moves (same_or_not g a.hart.0)
retired_on image t old new (kind.ScFail a) g r = moves_on image t old new a.hart _ _ g r.0.moves (same_or_not g a.hart.0)
retired_on image t old new (kind.Grant a) g r = moves_on image t old new a.hart _ _ g r.0.moves (same_or_not g a.hart.0)
retired_on image t old new (kind.Free f a) g r = moves_on image t old new a.hart _ _ g r.0.moves (same_or_not g a.hart.0)
retired_on image t old new k g r = stays_on old new g (r.stays g)

small_stores : (hart : HartId) (number : ℕ) (k : Kind) → IsSmall (store_in hart number k)
small_stores hart number (kind.Store a) = small_if ((a.hart.0 == hart.0) && (a.number == number)) a
small_stores hart number k = tt

pub both : (x y : Bool) → (x && y) ≡ true → (x ≡ true) × (y ≡ true)
both true y e = (refl, e)
both false y e = absurd cc

-- the store that was found
record IsThatStore (hart : HartId) (number : ℕ) (k : Kind) (b : Access) : Type 0 where
  is : k ≡ kind.Store b
  of_hart : b.hart ≡ hart
  of_number : b.number ≡ number

that_by : (hart : HartId) (number : ℕ) (a b : Access) (x : Bool) → ((a.hart.0 == hart.0) && (a.number == number)) ≡ x → (if x then a ∷ [] else []) ≡ b ∷ [] → IsThatStore hart number (kind.Store a) b
that_by hart number a b true test is =
    let same : a ≡ b = cc in
    let parts = both (a.hart.0 == hart.0) (a.number == number) test in
    let h_test : (a.hart.0 == hart.0) ≡ true = parts.0 in
    let n_test : (a.number == number) ≡ true = parts.1 in
    let h : a.hart.0 ≡ hart.0 = grind (arith, nat_tests) in
    let n : a.number ≡ number = grind (arith, nat_tests) in
    record { is = ap kind.Store same; of_hart = ap (λ x. x.hart) (sym same) ∙ (λ i. record { 0 = h i }); of_number = ap (λ x. x.number) (sym same) ∙ n }
that_by hart number a b false test is = absurd cc

that_store : (hart : HartId) (number : ℕ) (k : Kind) (b : Access) → store_in hart number k ≡ b ∷ [] → IsThatStore hart number k b
that_store hart number (kind.Store a) b is = that_by hart number a b ((a.hart.0 == hart.0) && (a.number == number)) refl is
that_store hart number k b is = absurd cc

is_stored : (a : Access) → store_in a.hart a.number (kind.Store a) ≡ a ∷ []
is_stored a = λ i. if eq-eqb a.hart.0 a.hart.0 refl i && eq-eqb a.number a.number refl i then a ∷ [] else []

first_of : {A : Type 0} (xs : List A) (p : ℕ) (x : A) → slice_get xs p ≡ Some x → (y : A) × (slice_get xs 0 ≡ Some y)
first_of [] p x at = absurd cc
first_of (y ∷ xs) p x at = (y, refl)

module _ (image : ImageView) (t : Topology) (log : List Event) (f : IsAdmissible image t log) where
  pub replays : (n : ℕ) (k : Kind) → IsEventAt log n k → Replays image t (f.harts n) k (f.harts (suc n))
  replays n k at = let next : n + 1 ≡ suc n = omega arith in subst (λ m. Replays image t (f.harts n) k (f.harts m)) next (f.replay.moves n k at)

  pub store_accesses : (i : ℕ) (a : Access) → IsEventAt log i (kind.Store a) → Accesses image t (f.harts i) (f.harts (suc i)) a
  store_accesses i a at = (replays i (kind.Store a) at).0

  pub store_op : (i : ℕ) (a : Access) → IsEventAt log i (kind.Store a) → a.op ≡ op.Store
  store_op i a at = (replays i (kind.Store a) at).1

  pub plain_store : (i : ℕ) (a : Access) → IsEventAt log i (kind.Store a) → IsPlainStore (unseen a)
  plain_store i a at =
      let s = store_accesses i a at in
      subst (λ o. HasShape o (unseen a)) (store_op i a at) (has_shape a.hart.0 _ s.need s.content s.succeeds (unseen a) s.is_offered)

  pub store_has : (i : ℕ) (a : Access) → IsEventAt log i (kind.Store a) → HasByte a.mask
  store_has i a at =
      let s = store_accesses i a at in
      let n = store_need a.hart.0 _ s.need s.content s.succeeds (unseen a) s.is_offered (store_op i a at) in
      store_has_byte image t (f.harts i a.hart.0) a.word a.mask n.0
      (subst (λ need. Needs image t (f.harts i a.hart.0) need) n.1 (needs_of image t (f.harts i a.hart.0) (f.harts (suc i) a.hart.0) s.need _ s.moves.does))

  retired_grows : (i j g : ℕ) → i ≤ j → j ≤ length log → (f.harts i g).retired ≤ (f.harts j g).retired
  retired_grows i zero g le within = let e : i ≡ 0 = omega arith in subst (λ m. (f.harts m g).retired ≤ (f.harts 0 g).retired) (sym e) (omega arith)
  retired_grows i (suc j) g le within = grows_by (grind arith) (retired_grows i j g)
    where
      next : (f.harts j g).retired ≤ (f.harts (suc j) g).retired
      next = let e = some_event log j (omega arith) in retired_on image t (f.harts j) (f.harts (suc j)) e.0 g (replays j e.0 e.1)

      grows_by : (i ≤ j) ⊎ (i ≡ suc j) → (i ≤ j → j ≤ length log → (f.harts i g).retired ≤ (f.harts j g).retired) → (f.harts i g).retired ≤ (f.harts (suc j) g).retired
      grows_by (inl b) shorter = let s = shorter b (omega arith) in let m = next in omega arith
      grows_by (inr e) shorter = subst (λ m. (f.harts i g).retired ≤ (f.harts m g).retired) e (omega arith)

  -- the numbers of a hart's stores rise
  pub numbers_rise : (i j : ℕ) (a b : Access) → IsEventAt log i (kind.Store a) → IsEventAt log j (kind.Store b) → a.hart ≡ b.hart → i < j → a.number < b.number
  numbers_rise i j a b at_i at_j hart before =
      let s = store_accesses i a at_i in
      let s' = store_accesses j b at_j in
      let below = event_within log j (kind.Store b) at_j in
      let h : a.hart.0 ≡ b.hart.0 = ap (λ x. x.0) hart in
      let first : (f.harts i a.hart.0).retired + 1 ≡ a.number = number_is a.hart.0 _ s.need s.content s.succeeds (unseen a) s.is_offered in
      let second : (f.harts j b.hart.0).retired + 1 ≡ b.number = number_is b.hart.0 _ s'.need s'.content s'.succeeds (unseen b) s'.is_offered in
      let after : (f.harts (suc i) a.hart.0).retired ≡ (f.harts i a.hart.0).retired + 1 =
      access_retires image t (f.harts i a.hart.0) (f.harts (suc i) a.hart.0) s.need _ a.hart.0 _ s.content s.succeeds (unseen a) s.moves.does s.is_offered in
      let between : (f.harts (suc i) a.hart.0).retired ≤ (f.harts j a.hart.0).retired = retired_grows (suc i) j a.hart.0 (omega arith) (omega arith) in
      let same : (f.harts j a.hart.0).retired ≡ (f.harts j b.hart.0).retired = ap (λ g. (f.harts j g).retired) h in
      omega arith

  -- a hart has one store of a number
  pub one_store : (i j : ℕ) (a b : Access) → IsEventAt log i (kind.Store a) → IsEventAt log j (kind.Store b) → a.hart ≡ b.hart → a.number ≡ b.number → i ≡ j
  one_store i j a b at_i at_j hart number = one_by (three i j)
    where
      one_by : (i < j) ⊎ ((i ≡ j) ⊎ (j < i)) → i ≡ j
      one_by (inl before) = absurd (let r = numbers_rise i j a b at_i at_j hart before in omega arith)
      one_by (inr (inl same)) = same
      one_by (inr (inr after)) = absurd (let r = numbers_rise j i b a at_j at_i (sym hart) after in omega arith)

  -- the store that a commit means is the one of its hart and number
  pub store_found : (i : ℕ) (a : Access) → IsEventAt log i (kind.Store a) → store_of log a.hart a.number ≡ Some a
  store_found i a at =
      let g = store_in a.hart a.number in
      let all = upto_all g log in
      let placed = at_place g (small_stores a.hart a.number) log i (length log) (kind.Store a) a at (is_stored a) (event_within log i (kind.Store a) at) in
      let first = first_of (upto g log (length log)) (length (upto g log i)) a placed in
      let o = from_place g (small_stores a.hart a.number) log (length log) 0 first.0 first.1 in
      let that = that_store a.hart a.number o.kind first.0 o.makes in
      let at_b : IsEventAt log o.at (kind.Store first.0) = o.is_at ∙ ap Some that.is in
      let same : o.at ≡ i = one_store o.at i first.0 a at_b at that.of_hart that.of_number in
      let kinds : kind.Store first.0 ≡ kind.Store a = one_event log i (kind.Store first.0) (kind.Store a) (subst (λ m. IsEventAt log m (kind.Store first.0)) same at_b) at in
      let is : first.0 ≡ a = cc in
      ap (λ xs. slice_get xs 0) (sym all) ∙ first.1 ∙ ap Some is
