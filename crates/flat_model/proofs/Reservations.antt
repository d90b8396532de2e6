-- Reservations along a run.
use Rattle.std.proofs.Common.{◌≡◌, ◌≢◌, ◌⊎◌, inl, inr, ◌<◌, ℕ, ◌+◌, Bool, true, false, List, length, Option, Some, None, refl, sym, ◌∙◌, ap, subst, arith, eq-eqb}
use Rattle.std.proofs.lemmas.Bool.Decides.{nat_tests}
use Rattle.std.specs.Prelude.{if◌then◌else◌, ◌==◌, ◌&&◌, is_some, IsSome, unwrap_or, slice_get}
use Rattle.dash_base.specs.declared.id.WordAddr.{WordAddr}
use Rattle.dash_base.specs.declared.ops.AmoOp.TheVariants.{Sc}
use Rattle.dash_base.specs.declared.topology.Topology.{Topology}
use Rattle.elf_load.specs.Image.{ImageView}
use Rattle.dash_event.specs.declared.access.Access.{Access}
use Rattle.dash_event.specs.declared.access.Op.{Op}
use Rattle.dash_event.specs.declared.access.Op.TheVariants as op
use Rattle.dash_event.specs.declared.step_record.StepRecord.{StepRecord}
use Rattle.dash_event.specs.declared.step_record.StepRecord.TheVariants as step
use Rattle.dash_base.specs.declared.need.Need.{Need}
use Rattle.dash_base.specs.declared.need.Need.TheVariants.{Load, Store, Rmw, Ask, Unlock}
use Rattle.dash_event.specs.Offered.{offered}
use Rattle.flat_model.specs.State.{FlatState, opening_state}
use Rattle.flat_model.specs.Step.{own_reservation, unless_of, reservation_after, IsPossible, IsFlatStep, content, record_of, flat_state_after}
use Rattle.dash_event.specs.Effects.{hart_of, is_of_memory, answer_of}
use Rattle.flat_model.specs.Run.{RunsTo, IsSequentialRun}
use Rattle.flat_model.specs.Order.{IsAccessAt}
use Rattle.flat_model.specs.LastBefore.{LastBefore}
use Rattle.flat_model.specs.Reserved.{IsReserved}
use Rattle.hart_core.proofs.LawsOffered.{any_answer}
use Rattle.flat_model.proofs.Steps.{of_its_hart}
use Rattle.flat_model.proofs.Offers.{is_offered}
use Rattle.flat_model.proofs.Values.{Leaves, Keeps, IsLeft, IsFirst, at_position, at_end}
use Rattle.flat_model.proofs.Writes.{same_access}

abbrev is_reserve : Op → Bool
is_reserve op.Reserve = true
is_reserve kind = false

abbrev is_lr_or_sc : Op → Bool
is_lr_or_sc op.Reserve = true
is_lr_or_sc op.Cond = true
is_lr_or_sc kind = false

-- whether a reservation is of a word
abbrev reserves : Option ℕ → ℕ → Bool
reserves None w = false
reserves (Some v) w = v == w

-- the reservation of a hart after an access, by whether the access is its own
abbrev after_by : Bool → Op → Option ℕ → WordAddr → Option ℕ → Option ℕ
after_by mine kind written word old =
    if mine then own_reservation kind word old
    else (if is_of_memory kind && is_some written then unless_of word old else old)

-- whether an access sets a reservation or may take one of word w away
abbrev changes_by : Bool → Op → Option ℕ → WordAddr → ℕ → Bool
changes_by mine kind written word w =
    if mine then is_lr_or_sc kind else (is_of_memory kind && is_some written) && (word.0 == w)

-- whether it sets one of word w
abbrev sets_by : Bool → Op → WordAddr → ℕ → Bool
sets_by mine kind word w = mine && (is_reserve kind && (word.0 == w))

-- what becomes of the reservation of word w
abbrev SetsOrKeeps : Bool → Op → Option ℕ → WordAddr → ℕ → Option ℕ → Type 0
SetsOrKeeps mine kind written word w old =
    ((changes_by mine kind written word w ≡ true) × (reserves (after_by mine kind written word old) w ≡ sets_by mine kind word w))
    ⊎ ((changes_by mine kind written word w ≡ false) × (reserves (after_by mine kind written word old) w ≡ reserves old w))

-- a write of a word takes the reservations of it away, and no other
write_takes : (word : WordAddr) (w v : ℕ) (same taken : Bool) → (word.0 == w) ≡ same → (v == word.0) ≡ taken
    → (((word.0 == w) ≡ true) × (reserves (unless_of word (Some v)) w ≡ false)) ⊎ (((word.0 == w) ≡ false) × (reserves (unless_of word (Some v)) w ≡ (v == w)))
write_takes word w v true true e f = inl (e, ap (λ b. reserves (if b then None else Some v) w) f)
write_takes word w v true false e f =
    let other : (v == w) ≡ false = grind (arith, nat_tests) in
    inl (e, ap (λ b. reserves (if b then None else Some v) w) f ∙ other)
write_takes word w v false true e f =
    let other : (v == w) ≡ false = grind (arith, nat_tests) in
    inr (e, ap (λ b. reserves (if b then None else Some v) w) f ∙ sym other)
write_takes word w v false false e f = inr (e, ap (λ b. reserves (if b then None else Some v) w) f)

none_takes : (word : WordAddr) (w : ℕ) (same : Bool) → (word.0 == w) ≡ same
    → (((word.0 == w) ≡ true) × (false ≡ false)) ⊎ (((word.0 == w) ≡ false) × (false ≡ false))
none_takes word w true e = inl (e, refl)
none_takes word w false e = inr (e, refl)

sets_or_keeps : (mine : Bool) (kind : Op) (written : Option ℕ) (word : WordAddr) (w : ℕ) (old : Option ℕ) → SetsOrKeeps mine kind written word w old
sets_or_keeps true op.Reserve written word w old = inl (refl, refl)
sets_or_keeps true op.Cond written word w old = inl (refl, refl)
sets_or_keeps true kind written word w old = inr (refl, refl)
sets_or_keeps false op.Ask written word w old = inr (refl, refl)
sets_or_keeps false op.Unlock written word w old = inr (refl, refl)
sets_or_keeps false kind None word w old = inr (refl, refl)
sets_or_keeps false kind (Some x) word w None = none_takes word w (word.0 == w) refl
sets_or_keeps false kind (Some x) word w (Some v) = write_takes word w v (word.0 == w) (v == word.0) refl refl

-- the same for hart g
abbrev Changes : ℕ → ℕ → Access → Type 0
Changes g w a = changes_by (g == a.hart.0) a.op a.written a.word w ≡ true

abbrev sets : (g w : ℕ) (a : Access) → Changes g w a → Bool
sets g w a changed = sets_by (g == a.hart.0) a.op a.word w

abbrev Follows : ℕ → ℕ → StepRecord → Bool → Bool → Type 0
Follows g w r old new = Leaves (Changes g w) Bool (sets g w) r new ⊎ Keeps (Changes g w) Bool r old new

follows_access : (g w : ℕ) (a : Access) (old : Option ℕ) → SetsOrKeeps (g == a.hart.0) a.op a.written a.word w old
    → Follows g w (step.Access a) (reserves old w) (reserves (reservation_after g (step.Access a) old) w)
follows_access g w a old (inl e) = inl (record { access = a; is = refl; has = e.0; value_is = e.1 })
follows_access g w a old (inr e) = inr (record {
  none = λ b is changes. (let no : false ≡ true = sym e.0 ∙ ap (λ c. changes_by (g == c.hart.0) c.op c.written c.word w) (same_access a b is) ∙ changes in cc);
  same = e.1;
})

follows : (g w : ℕ) (r : StepRecord) (old : Option ℕ) → Follows g w r (reserves old w) (reserves (reservation_after g r old) w)
follows g w (step.Access a) old = follows_access g w a old (sets_or_keeps (g == a.hart.0) a.op a.written a.word w old)
follows g w r old = inr (record { none = λ b is changes. (cc); same = refl })

abbrev reserved_in : ℕ → ℕ → FlatState → Bool
reserved_in g w s = reserves (s.reservations g) w

follows_on : (image : ImageView) (t : Topology) (g w : ℕ) (old : FlatState) (r : StepRecord) (new : FlatState)
    → IsFlatStep image t old (hart_of r).0 r new → Follows g w r (reserved_in g w old) (reserved_in g w new)
follows_on image t g w old r new s =
    subst (λ x. Follows g w r (reserved_in g w old) (reserved_in g w x)) (sym s.after) (follows g w r (old.reservations g))

-- an SC that succeeds finds its word reserved
pub cond_finds : (s : FlatState) (h n : ℕ) (need : Need) (old : ℕ) (ok : Bool) (a : Access)
    → IsPossible s h need ok → offered h n need old ok ≡ Some a → a.op ≡ op.Cond → IsSome a.written → s.reservations h ≡ Some a.word.0
cond_finds s h n (Load w m l true) old ok a possible is cond_op wrote = absurd (let kind : op.Reserve ≡ a.op = ap (λ o. (unwrap_or o a).op) is in cc)
cond_finds s h n (Load w m l false) old ok a possible is cond_op wrote = absurd (let kind : op.Load ≡ a.op = ap (λ o. (unwrap_or o a).op) is in cc)
cond_finds s h n (Store w m x) old ok a possible is cond_op wrote = absurd (let kind : op.Store ≡ a.op = ap (λ o. (unwrap_or o a).op) is in cc)
cond_finds s h n (Rmw w Sc x l) old true a possible is cond_op wrote = possible ∙ ap (λ o. Some (unwrap_or o a).word.0) is
cond_finds s h n (Rmw w Sc x l) old false a possible is cond_op wrote =
    absurd (let no : false ≡ true = ap (λ o. is_some (unwrap_or o a).written) is ∙ wrote in cc)
cond_finds s h n (Rmw w amo x l) old ok a possible is cond_op wrote = absurd (let kind : op.Amo ≡ a.op = ap (λ o. (unwrap_or o a).op) is in cc)
cond_finds s h n (Ask w x) old ok a possible is cond_op wrote = absurd (let kind : op.Ask ≡ a.op = ap (λ o. (unwrap_or o a).op) is in cc)
cond_finds s h n (Unlock w) old ok a possible is cond_op wrote = absurd (let kind : op.Unlock ≡ a.op = ap (λ o. (unwrap_or o a).op) is in cc)
cond_finds s h n _ old ok a possible is cond_op wrote = absurd cc

-- an access that sets a reservation is an LR of its hart and word
record IsSet (a b : Access) : Type 0 where
  is_reserve : b.op ≡ op.Reserve
  same_hart : b.hart ≡ a.hart
  same_word : b.word ≡ a.word

reserve_only : (kind : Op) → is_reserve kind ≡ true → kind ≡ op.Reserve
reserve_only op.Reserve e = refl
reserve_only kind e = cc

set_by : (a b : Access) (hart reserve word : Bool) → (a.hart.0 == b.hart.0) ≡ hart → is_reserve b.op ≡ reserve → (b.word.0 == a.word.0) ≡ word
    → (hart && (reserve && word)) ≡ true → IsSet a b
set_by a b true true true h r w e =
    let hart : b.hart.0 ≡ a.hart.0 = grind (arith, nat_tests) in
    let word : b.word.0 ≡ a.word.0 = grind (arith, nat_tests) in
    record { is_reserve = reserve_only b.op r; same_hart = λ i. record { 0 = hart i }; same_word = λ i. record { 0 = word i } }
set_by a b true true false h r w e = absurd cc
set_by a b true false word h r w e = absurd cc
set_by a b false reserve word h r w e = absurd cc

-- an access of another hart
other_hart : (a b : Access) (same : Bool) → (a.hart.0 == b.hart.0) ≡ same → b.hart ≢ a.hart → same ≡ false
other_hart a b true e differ =
    absurd (let hart : b.hart.0 ≡ a.hart.0 = grind (arith, nat_tests) in differ (λ i. record { 0 = hart i }))
other_hart a b false e differ = refl

reserved : (rs : List StepRecord) (i : ℕ) (a : Access) (l : LastBefore rs i (Changes a.hart.0 a.word.0)) → IsSet a l.access → IsReserved rs i a
reserved rs i a l set = record {
  at = l.at;
  reserve = l.access;
  is_at = l.is_at;
  before = l.before;
  is_reserve = set.is_reserve;
  same_hart = set.same_hart;
  same_word = set.same_word;
  no_reserve = λ j b at after before same kind. l.last j b at
      (ap (λ x. changes_by x b.op b.written b.word a.word.0) (eq-eqb a.hart.0 b.hart.0 (sym (ap (λ x. x.0) same))) ∙ ap is_lr_or_sc kind) after before;
  no_cond = λ j b at after before same kind. l.last j b at
      (ap (λ x. changes_by x b.op b.written b.word a.word.0) (eq-eqb a.hart.0 b.hart.0 (sym (ap (λ x. x.0) same))) ∙ ap is_lr_or_sc kind) after before;
  no_write = λ j b at after before differ word memory wrote. l.last j b at
      (ap (λ x. changes_by x b.op b.written b.word a.word.0) (other_hart a b (a.hart.0 == b.hart.0) refl differ)
      ∙ (λ k. (memory k && wrote k) && eq-eqb b.word.0 a.word.0 (ap (λ x. x.0) word) k)) after before;
}

reserved_by : (rs : List StepRecord) (i : ℕ) (a : Access) (seen : Bool) → seen ≡ true
    → IsLeft (Changes a.hart.0 a.word.0) Bool (sets a.hart.0 a.word.0) rs i seen ⊎ IsFirst (Changes a.hart.0 a.word.0) Bool rs i false seen
    → IsReserved rs i a
reserved_by rs i a seen is (inl l) =
    let b = l.access.access in
    reserved rs i a l.access (set_by a b (a.hart.0 == b.hart.0) (is_reserve b.op) (b.word.0 == a.word.0) refl refl refl (sym l.value_is ∙ is))
reserved_by rs i a seen is (inr f) = absurd (let no : false ≡ true = sym f.same ∙ is in cc)

pub conds_reserved : (image : ImageView) (t : Topology) (rs : List StepRecord) → IsSequentialRun image t rs
    → (i : ℕ) (a : Access) → IsAccessAt rs i a → a.op ≡ op.Cond → IsSome a.written → IsReserved rs i a
conds_reserved image t rs run i a at cond_op wrote =
    let g = a.hart.0 in
    let w = a.word.0 in
    let found = at_position image t (Changes g w) Bool (sets g w) (reserved_in g w) (follows_on image t g w) (opening_state image t) rs run.final run.runs i (step.Access a) at in
    let s = found.0.is_step in
    let finds = cond_finds found.0.old g _ s.need _ s.succeeds a s.possible (is_offered g s.need _ a s.recorded) cond_op wrote in
    let is : reserved_in g w found.0.old ≡ true = ap (λ o. reserves o w) finds ∙ eq-eqb w w refl in
    reserved_by rs i a (reserved_in g w found.0.old) is found.1

-- both parts of a conjunction
both_parts : (x y : Bool) → (x && y) ≡ true → (x ≡ true) × (y ≡ true)
both_parts true y e = (refl, e)
both_parts false y e = absurd cc

same_word_of : (x y : ℕ) → (x == y) ≡ true → x ≡ y
same_word_of x y e = grind (arith, nat_tests)

own_undisturbed : (kind : Op) → is_lr_or_sc kind ≡ true → ¬ (kind ≡ op.Reserve) → ¬ (kind ≡ op.Cond) → ⊥
own_undisturbed op.Reserve e no_reserve no_cond = no_reserve refl
own_undisturbed op.Cond e no_reserve no_cond = no_cond refl
own_undisturbed kind e no_reserve no_cond = cc

three : (x y : ℕ) → (x < y) ⊎ ((x ≡ y) ⊎ (y < x))
three x y = grind arith

-- an LR of the hart changes its reservation, and sets it
reserve_changes : (a b : Access) → b.op ≡ op.Reserve → b.hart ≡ a.hart → Changes a.hart.0 a.word.0 b
reserve_changes a b kind same =
    ap (λ x. changes_by x b.op b.written b.word a.word.0) (eq-eqb a.hart.0 b.hart.0 (sym (ap (λ x. x.0) same))) ∙ ap is_lr_or_sc kind

reserve_sets : (a b : Access) → b.op ≡ op.Reserve → b.hart ≡ a.hart → b.word ≡ a.word → sets_by (a.hart.0 == b.hart.0) b.op b.word a.word.0 ≡ true
reserve_sets a b kind same word =
    (λ i. sets_by (eq-eqb a.hart.0 b.hart.0 (sym (ap (λ x. x.0) same)) i) (kind i) b.word a.word.0) ∙ eq-eqb b.word.0 a.word.0 (ap (λ x. x.0) word)

-- an access that changes the reservation of a word for hart g is its LR or SC, or a write of another hart
not_disturbed : (rs : List StepRecord) (i : ℕ) (a : Access) (r : IsReserved rs i a) (j : ℕ) (b : Access) → IsAccessAt rs j b → r.at < j → j < i
    → (mine : Bool) → (a.hart.0 == b.hart.0) ≡ mine → (kind : Op) → b.op ≡ kind → ¬ (changes_by mine kind b.written b.word a.word.0 ≡ true)
not_disturbed rs i a r j b at after before true e kind k changes =
    let hart : b.hart.0 ≡ a.hart.0 = grind (arith, nat_tests) in
    own_undisturbed kind changes (λ reserve. r.no_reserve j b at after before (λ n. record { 0 = hart n }) (k ∙ reserve)) (λ other. r.no_cond j b at after before (λ n. record { 0 = hart n }) (k ∙ other))
not_disturbed rs i a r j b at after before false e kind k changes =
    let parts = both_parts (is_of_memory kind && is_some b.written) (b.word.0 == a.word.0) changes in
    let wrote = both_parts (is_of_memory kind) (is_some b.written) parts.0 in
    let word : b.word.0 ≡ a.word.0 = same_word_of b.word.0 a.word.0 parts.1 in
    r.no_write j b at after before (λ same. (let own : (a.hart.0 == b.hart.0) ≡ true = eq-eqb a.hart.0 b.hart.0 (sym (ap (λ x. x.0) same)) in cc)) (λ n. record { 0 = word n }) (ap is_of_memory k ∙ wrote.0) wrote.1

-- the last change before the SC is that LR
set_at_reserve : (rs : List StepRecord) (i : ℕ) (a : Access) (r : IsReserved rs i a) (l : LastBefore rs i (Changes a.hart.0 a.word.0))
    → (l.at < r.at) ⊎ ((l.at ≡ r.at) ⊎ (r.at < l.at)) → sets_by (a.hart.0 == l.access.hart.0) l.access.op l.access.word a.word.0 ≡ true
set_at_reserve rs i a r l (inl earlier) =
    absurd (l.last r.at r.reserve r.is_at (reserve_changes a r.reserve r.is_reserve r.same_hart) earlier r.before)
set_at_reserve rs i a r l (inr (inl same)) =
    let found : Some (step.Access r.reserve) ≡ Some (step.Access l.access) = sym r.is_at ∙ ap (slice_get rs) (sym same) ∙ l.is_at in
    let is : r.reserve ≡ l.access = cc in
    subst (λ b. sets_by (a.hart.0 == b.hart.0) b.op b.word a.word.0 ≡ true) is (reserve_sets a r.reserve r.is_reserve r.same_hart r.same_word)
set_at_reserve rs i a r l (inr (inr later)) =
    absurd (not_disturbed rs i a r l.at l.access l.is_at later l.before (a.hart.0 == l.access.hart.0) refl l.access.op refl l.has)

-- where an SC is reserved, its hart has reserved the word
reserved_value : (rs : List StepRecord) (i : ℕ) (a : Access) (seen : Bool) → IsReserved rs i a
    → IsLeft (Changes a.hart.0 a.word.0) Bool (sets a.hart.0 a.word.0) rs i seen ⊎ IsFirst (Changes a.hart.0 a.word.0) Bool rs i false seen
    → seen ≡ true
reserved_value rs i a seen r (inr f) = absurd (f.none.none r.at r.reserve r.is_at (reserve_changes a r.reserve r.is_reserve r.same_hart) r.before)
reserved_value rs i a seen r (inl l) =
    l.value_is ∙ set_at_reserve rs i a r l.access (three l.access.at r.at)

reserves_word : (o : Option ℕ) (w : ℕ) → reserves o w ≡ true → o ≡ Some w
reserves_word None w e = absurd cc
reserves_word (Some v) w e = ap Some (same_word_of v w e)

-- an SC that is done, with the reservation that it needs, can succeed
record Succeeds (s : FlatState) (h n : ℕ) (need : Need) (a : Access) : Type 0 where
  value : ℕ
  possible : IsPossible s h need true
  is : offered h n need (content s need) true ≡ Some (record a { written = Some value })

succeeds : (s : FlatState) (h n : ℕ) (need : Need) (ok : Bool) (a : Access) → offered h n need (content s need) ok ≡ Some a → a.op ≡ op.Cond
    → s.reservations h ≡ Some a.word.0 → Succeeds s h n need a
succeeds s h n (Load w m l true) ok a is cond_op has = absurd (let kind : op.Reserve ≡ a.op = ap (λ o. (unwrap_or o a).op) is in cc)
succeeds s h n (Load w m l false) ok a is cond_op has = absurd (let kind : op.Load ≡ a.op = ap (λ o. (unwrap_or o a).op) is in cc)
succeeds s h n (Store w m x) ok a is cond_op has = absurd (let kind : op.Store ≡ a.op = ap (λ o. (unwrap_or o a).op) is in cc)
succeeds s h n (Rmw w Sc x l) ok a is cond_op has = record {
  value = x;
  possible = has ∙ sym (ap (λ o. Some (unwrap_or o a).word.0) is);
  is = ap (λ o. Some (record (unwrap_or o a) { written = Some x })) is;
}
succeeds s h n (Rmw w amo x l) ok a is cond_op has = absurd (let kind : op.Amo ≡ a.op = ap (λ o. (unwrap_or o a).op) is in cc)
succeeds s h n (Ask w x) ok a is cond_op has = absurd (let kind : op.Ask ≡ a.op = ap (λ o. (unwrap_or o a).op) is in cc)
succeeds s h n (Unlock w) ok a is cond_op has = absurd (let kind : op.Unlock ≡ a.op = ap (λ o. (unwrap_or o a).op) is in cc)
succeeds s h n _ ok a is cond_op has = absurd cc

pub cond_may_succeed : (image : ImageView) (t : Topology) (rs : List StepRecord) (old : FlatState) → RunsTo image t rs old
    → (h : ℕ) (a : Access) (new : FlatState) → IsFlatStep image t old h (step.Access a) new → a.op ≡ op.Cond → IsReserved rs (length rs) a
    → (value : ℕ) × (other : FlatState) × IsFlatStep image t old h (step.Access (record a { written = Some value })) other
cond_may_succeed image t rs old run h a new s cond_op reserve =
    let g = a.hart.0 in
    let w = a.word.0 in
    let end = at_end image t (Changes g w) Bool (sets g w) (reserved_in g w) (follows_on image t g w) (opening_state image t) rs old run in
    let has = reserves_word (old.reservations g) w (reserved_value rs (length rs) a (reserved_in g w old) reserve end) in
    let own : g ≡ h = of_its_hart image t old h (step.Access a) new s in
    let f = succeeds old h ((old.harts h).retired + 1) s.need s.succeeds a (is_offered h s.need _ a s.recorded) cond_op (subst (λ x. old.reservations x ≡ Some w) own has) in
    let r : StepRecord = step.Access (record a { written = Some f.value }) in
    let k = any_answer image t (old.harts h) s.next s.need _ (answer_of r) s.does in (
      f.value,
      flat_state_after old r k.0,
      record {
        in_range = s.in_range;
        need = s.need;
        succeeds = true;
        possible = f.possible;
        recorded = ap (record_of h s.need) (sym f.is);
        next = k.0;
        does = k.1;
        after = refl;
      },
    )
