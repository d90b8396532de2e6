-- The fields of an access that is offered.
use Rattle.std.proofs.Common.{◌≡◌, ◌<◌, ℕ, Bool, true, false, Option, Some, None, refl, ◌∙◌, ap, subst}
use Rattle.std.specs.Prelude.{unwrap_or}
use Rattle.dash_base.specs.declared.ops.AmoOp.TheVariants.{Sc}
use Rattle.dash_base.specs.Words.{has_byte, byte_of_word}
use Rattle.dash_event.specs.declared.access.Access.{Access}
use Rattle.dash_event.specs.declared.access.Op.TheVariants as op
use Rattle.dash_event.specs.declared.step_record.StepRecord.TheVariants as step
use Rattle.dash_base.specs.declared.need.Need.{Need}
use Rattle.dash_base.specs.declared.need.Need.TheVariants.{Put, Stop, Load, Store, Rmw, Ask, Unlock}
use Rattle.dash_event.specs.Offered.{all_bytes, bytes_under, bare_access, load_op, offered}
use Rattle.flat_model.specs.State.{FlatState}
use Rattle.flat_model.specs.Step.{record_of, content, IsFlatStep}
use Rattle.dash_event.specs.Effects.{hart_of, is_of_memory}
use Rattle.dash_base.specs.declared.topology.Topology.{Topology}
use Rattle.elf_load.specs.Image.{ImageView}
use Rattle.dash_event.specs.declared.access.Seen.TheVariants.{Nothing}
use Rattle.flat_model.specs.ReadLaws.{HasValues}
use Rattle.flat_model.proofs.Numbers.{byte-merged_in}

-- a record with an access is of one that is offered
pub is_offered : (h : ℕ) (need : Need) (o : Option Access) (a : Access) → step.Access a ≡ record_of h need o → o ≡ Some a
is_offered h need (Some b) a same = cc
is_offered h (Put byte) None a same = cc
is_offered h (Stop end) None a same = cc
is_offered h need None a same = cc

-- the record of a step is of its hart
pub hart_of-record_of : (h n : ℕ) (need : Need) (old : ℕ) (ok : Bool) → (hart_of (record_of h need (offered h n need old ok))).0 ≡ h
hart_of-record_of h n (Rmw w Sc x l) old ok = refl
hart_of-record_of h n (Rmw w amo x l) old ok = refl
hart_of-record_of h n _ old ok = refl

-- its number is the instruction's
pub number_is : (h n : ℕ) (need : Need) (old : ℕ) (ok : Bool) (a : Access) → offered h n need old ok ≡ Some a → n ≡ a.number
number_is h n (Load w m l r) old ok a is = ap (λ o. (unwrap_or o a).number) is
number_is h n (Store w m x) old ok a is = ap (λ o. (unwrap_or o a).number) is
number_is h n (Rmw w Sc x l) old ok a is = ap (λ o. (unwrap_or o a).number) is
number_is h n (Rmw w amo x l) old ok a is = ap (λ o. (unwrap_or o a).number) is
number_is h n (Ask w x) old ok a is = ap (λ o. (unwrap_or o a).number) is
number_is h n (Unlock w) old ok a is = ap (λ o. (unwrap_or o a).number) is
number_is h n _ old ok a is = cc

-- what it reads of memory is the content of the word
pub read_is : (s : FlatState) (h n : ℕ) (need : Need) (ok : Bool) (a : Access) (value k : ℕ)
    → offered h n need (content s need) ok ≡ Some a → is_of_memory a.op ≡ true → a.read ≡ Some value
    → k < 4 → has_byte a.mask k ≡ true → byte_of_word k value ≡ byte_of_word k (s.memory a.word.0)
read_is s h n (Load w m l r) ok a value k is memory read below has =
    let same : record (bare_access h n (load_op r) w) { labels = l; mask = m; read = Some (bytes_under m (s.memory w.0)) } ≡ a = cc in
    let mask : m ≡ a.mask = ap (λ x. x.mask) same in
    let word : w.0 ≡ a.word.0 = ap (λ x. x.word.0) same in
    let bytes : Some (bytes_under m (s.memory w.0)) ≡ a.read = ap (λ x. x.read) same in
    let value_is : value ≡ bytes_under m (s.memory w.0) = cc in
    let in_mask : has_byte m k ≡ true = ap (λ x. has_byte x k) mask ∙ has in
    ap (byte_of_word k) value_is ∙ byte-merged_in k 0 m (s.memory w.0) below in_mask ∙ ap (λ x. byte_of_word k (s.memory x)) word
read_is s h n (Store w m x) ok a value k is memory read below has =
    let none : None ≡ a.read = ap (λ o. (unwrap_or o a).read) is in cc
read_is s h n (Rmw w Sc x l) ok a value k is memory read below has =
    let none : None ≡ a.read = ap (λ o. (unwrap_or o a).read) is in cc
read_is s h n (Rmw w amo x l) ok a value k is memory read below has =
    let word : w.0 ≡ a.word.0 = ap (λ o. (unwrap_or o a).word.0) is in
    let mask : all_bytes ≡ a.mask = ap (λ o. (unwrap_or o a).mask) is in
    let bytes : Some (bytes_under all_bytes (s.memory w.0)) ≡ a.read = ap (λ o. (unwrap_or o a).read) is in
    let value_is : value ≡ bytes_under all_bytes (s.memory w.0) = cc in
    let in_mask : has_byte all_bytes k ≡ true = ap (λ x. has_byte x k) mask ∙ has in
    ap (byte_of_word k) value_is ∙ byte-merged_in k 0 all_bytes (s.memory w.0) below in_mask ∙ ap (λ x. byte_of_word k (s.memory x)) word
read_is s h n (Ask w x) ok a value k is memory read below has =
    let kind : op.Ask ≡ a.op = ap (λ o. (unwrap_or o a).op) is in
    let no : false ≡ true = ap is_of_memory kind ∙ memory in cc
read_is s h n (Unlock w) ok a value k is memory read below has =
    let kind : op.Unlock ≡ a.op = ap (λ o. (unwrap_or o a).op) is in
    let no : false ≡ true = ap is_of_memory kind ∙ memory in cc
read_is s h n _ ok a value k is memory read below has = cc

abbrev HasFields : Access → Type 0
HasFields a = HasValues a.op a.read a.written × (a.seen ≡ Nothing)

-- its values are those of its operation
has_values : (h n : ℕ) (need : Need) (old : ℕ) (ok : Bool) (a : Access) → offered h n need old ok ≡ Some a → HasFields a
has_values h n (Load w m l true) old ok a is = subst (λ o. HasFields (unwrap_or o a)) is ((refl, refl), refl)
has_values h n (Load w m l false) old ok a is = subst (λ o. HasFields (unwrap_or o a)) is ((refl, refl), refl)
has_values h n (Store w m x) old ok a is = subst (λ o. HasFields (unwrap_or o a)) is ((refl, refl), refl)
has_values h n (Rmw w Sc x l) old ok a is = subst (λ o. HasFields (unwrap_or o a)) is (refl, refl)
has_values h n (Rmw w amo x l) old ok a is = subst (λ o. HasFields (unwrap_or o a)) is ((refl, refl), refl)
has_values h n (Ask w x) old ok a is = subst (λ o. HasFields (unwrap_or o a)) is ((refl, refl), refl)
has_values h n (Unlock w) old ok a is = subst (λ o. HasFields (unwrap_or o a)) is ((refl, refl), refl)
has_values h n _ old ok a is = absurd cc

pub step_has_values : (image : ImageView) (t : Topology) (old : FlatState) (h : ℕ) (a : Access) (new : FlatState)
    → IsFlatStep image t old h (step.Access a) new → HasValues a.op a.read a.written × (a.seen ≡ Nothing)
step_has_values image t old h a new s = has_values h _ s.need _ s.succeeds a (is_offered h s.need _ a s.recorded)
