-- The access that an event carries is the one that the sequential machine does, where what it read stands in memory; and another of the same bytes is always possible.
use Rattle.std.proofs.Common.{◌≡◌, ℕ, Bool, true, false, Option, Some, None, refl, sym, ◌∙◌, ap, subst}
use Rattle.std.specs.Prelude.{unwrap_or, is_some, IsSome}
use Rattle.dash_base.specs.declared.id.WordAddr.{WordAddr}
use Rattle.dash_base.specs.declared.instr.Labels.{Labels}
use Rattle.dash_base.specs.declared.ops.AmoOp.{AmoOp}
use Rattle.dash_base.specs.declared.ops.AmoOp.TheVariants.{Sc}
use Rattle.rv32_alu.specs.Arithmetic.{amo_value}
use Rattle.dash_event.specs.declared.access.Access.{Access}
use Rattle.dash_event.specs.declared.access.Op.{Op}
use Rattle.dash_event.specs.declared.access.Op.TheVariants as op
use Rattle.dash_base.specs.declared.need.Need.{Need}
use Rattle.dash_base.specs.declared.need.Need.TheVariants.{Load, Rmw, Unlock}
use Rattle.dash_event.specs.Offered.{all_bytes, bytes_under, bare_access, offered}
use Rattle.flat_model.specs.State.{FlatState}
use Rattle.flat_model.specs.Step.{IsPossible, content}
use Rattle.dash_event.specs.Effects.{is_of_memory}
use Rattle.trace_merge.proofs.Offers.{IsAmo, IsOffer, a_load, a_reserve, a_store, a_cond, an_amo, an_ask, an_unlock, is_offer, amo_access, amo_offered}

-- on a state a hart with a need can do an access as its instruction of a number
pub record CanDo (s : FlatState) (h n : ℕ) (need : Need) (a : Access) : Type 0 where
  pub succeeds : Bool
  pub possible : IsPossible s h need succeeds
  pub is : offered h n need (content s need) succeeds ≡ Some a

-- loads, LR among them
abbrev pub is_load : Op → Bool
is_load op.Load = true
is_load op.Reserve = true
is_load kind = false

-- with what it read replaced
reread : (a : Access) (value : ℕ) (o : Option Access) → o ≡ Some a → a.read ≡ Some value → Some (record (unwrap_or o a) { read = Some value }) ≡ Some a
reread a value o is read = ap (λ x. Some (record (unwrap_or x a) { read = Some value })) is ∙ ap (λ x. Some (record a { read = x })) (sym read)

module _ (s : FlatState) (h n : ℕ) where
  possible_amo : (w : WordAddr) (amo : AmoOp) (x : ℕ) (l : Labels) (ok : Bool) → IsAmo amo → IsPossible s h (Rmw w amo x l) ok
  possible_amo w Sc x l ok other = elim other [ ]
  possible_amo w amo x l ok other = tt

  pub can_store : (need : Need) (old : ℕ) (ok : Bool) (a : Access) → offered h n need old ok ≡ Some a → a.op ≡ op.Store → CanDo s h n need a
  can_store need old ok a is kind = by_offer need (subst (IsOffer need) kind (is_offer h n need old ok a is)) is
    where
      by_offer : (need : Need) → IsOffer need op.Store → offered h n need old ok ≡ Some a → CanDo s h n need a
      by_offer need (a_store w m x) is = record { succeeds = ok; possible = tt; is = is }

  pub can_fail : (need : Need) (old : ℕ) (ok : Bool) (a : Access) → offered h n need old ok ≡ Some a → a.op ≡ op.Cond → a.written ≡ None → CanDo s h n need a
  can_fail need old ok a is kind none = by_offer need ok (subst (IsOffer need) kind (is_offer h n need old ok a is)) is
    where
      by_offer : (need : Need) (ok : Bool) → IsOffer need op.Cond → offered h n need old ok ≡ Some a → CanDo s h n need a
      by_offer need true (a_cond w x l) is = absurd (let k : Some x ≡ a.written = ap (λ o. (unwrap_or o a).written) is in cc)
      by_offer need false (a_cond w x l) is = record { succeeds = false; possible = tt; is = is }

  pub can_succeed : (need : Need) (old : ℕ) (ok : Bool) (a : Access) → offered h n need old ok ≡ Some a → a.op ≡ op.Cond → IsSome a.written
      → s.reservations h ≡ Some a.word.0 → CanDo s h n need a
  can_succeed need old ok a is kind wrote has = by_offer need ok (subst (IsOffer need) kind (is_offer h n need old ok a is)) is
    where
      by_offer : (need : Need) (ok : Bool) → IsOffer need op.Cond → offered h n need old ok ≡ Some a → CanDo s h n need a
      by_offer need true (a_cond w x l) is = record { succeeds = true; possible = has ∙ sym (ap (λ o. Some (unwrap_or o a).word.0) is); is = is }
      by_offer need false (a_cond w x l) is = absurd (let no : false ≡ true = ap (λ o. is_some (unwrap_or o a).written) is ∙ wrote in cc)

  pub can_ask : (need : Need) (old : ℕ) (ok : Bool) (a : Access) → offered h n need old ok ≡ Some a → a.op ≡ op.Ask → s.locks a.word.0 ≡ 0 → CanDo s h n need a
  can_ask need old ok a is kind free = by_offer need (subst (IsOffer need) kind (is_offer h n need old ok a is)) is
    where
      by_offer : (need : Need) → IsOffer need op.Ask → offered h n need old ok ≡ Some a → CanDo s h n need a
      by_offer need (an_ask w x) is = record { succeeds = ok; possible = ap (λ o. s.locks (unwrap_or o a).word.0) is ∙ free; is = is }

  pub can_unlock : (need : Need) (old : ℕ) (ok : Bool) (a : Access) → offered h n need old ok ≡ Some a → a.op ≡ op.Unlock → a.read ≡ Some (s.locks a.word.0) → CanDo s h n need a
  can_unlock need old ok a is kind read = by_offer need (subst (IsOffer need) kind (is_offer h n need old ok a is)) is
    where
      by_offer : (need : Need) → IsOffer need op.Unlock → offered h n need old ok ≡ Some a → CanDo s h n need a
      by_offer need (an_unlock w) is = record {
        succeeds = ok;
        possible = tt;
        is = reread a (s.locks w.0) (offered h n (Unlock w) old ok) is (read ∙ sym (ap (λ o. Some (s.locks (unwrap_or o a).word.0)) is));
      }

  -- what an access of memory reads stands in it
  abbrev pub ReadsMemory : Access → Type 0
  ReadsMemory a = a.read ≡ Some (bytes_under a.mask (s.memory a.word.0))

  loaded_again : (a : Access) (w m : ℕ) → ReadsMemory a → w ≡ a.word.0 → m ≡ a.mask → a.read ≡ Some (bytes_under m (s.memory w))
  loaded_again a w m reads word mask = reads ∙ (λ i. Some (bytes_under (sym mask i) (s.memory (sym word i))))

  pub can_load : (need : Need) (old : ℕ) (ok : Bool) (a : Access) → offered h n need old ok ≡ Some a → is_load a.op ≡ true → ReadsMemory a → CanDo s h n need a
  can_load need old ok a is kind reads = by_offer need a.op (is_offer h n need old ok a is) kind is
    where
      again : (w : WordAddr) (m : ℕ) (l : Labels) (r : Bool) → offered h n (Load w m l r) old ok ≡ Some a → CanDo s h n (Load w m l r) a
      again w m l r is = record {
        succeeds = ok;
        possible = tt;
        is = reread a (bytes_under m (s.memory w.0)) (offered h n (Load w m l r) old ok) is (loaded_again a w.0 m reads (ap (λ o. (unwrap_or o a).word.0) is) (ap (λ o. (unwrap_or o a).mask) is));
      }

      by_offer : (need : Need) (o : Op) → IsOffer need o → is_load o ≡ true → offered h n need old ok ≡ Some a → CanDo s h n need a
      by_offer need o (a_load w m l) load is = again w m l false is
      by_offer need o (a_reserve w m l) load is = again w m l true is
      by_offer need o _ load is = absurd cc

  -- an atomic operation that reads the same makes the same of it
  same_amo : (w : WordAddr) (amo : AmoOp) (x : ℕ) (l : Labels) (p q : ℕ) → bytes_under all_bytes p ≡ bytes_under all_bytes q → amo_access h n w amo x l q ≡ amo_access h n w amo x l p
  same_amo w amo x l p q same = λ i. record (record (bare_access h n op.Amo w) { labels = l }) { op = op.Amo; read = Some (sym same i); written = Some (amo_value amo (sym same i) x) }

  found_again : (old w : ℕ) (a : Access) → Some (bytes_under all_bytes old) ≡ a.read → ReadsMemory a → w ≡ a.word.0 → all_bytes ≡ a.mask → bytes_under all_bytes old ≡ bytes_under all_bytes (s.memory w)
  found_again old w a was reads word mask =
      let e : Some (bytes_under all_bytes old) ≡ Some (bytes_under all_bytes (s.memory w)) = was ∙ loaded_again a w all_bytes reads word mask in cc

  pub can_amo : (need : Need) (old : ℕ) (ok : Bool) (a : Access) → offered h n need old ok ≡ Some a → a.op ≡ op.Amo → ReadsMemory a → CanDo s h n need a
  can_amo need old ok a is kind reads = by_offer need (subst (IsOffer need) kind (is_offer h n need old ok a is)) is
    where
      by_offer : (need : Need) → IsOffer need op.Amo → offered h n need old ok ≡ Some a → CanDo s h n need a
      by_offer need (an_amo w amo x l other) is =
          let e : Some (amo_access h n w amo x l old) ≡ Some a = sym (amo_offered h n w amo x l old ok other) ∙ is in
          let found = found_again old w.0 a (ap (λ o. (unwrap_or o a).read) e) reads (ap (λ o. (unwrap_or o a).word.0) e) (ap (λ o. (unwrap_or o a).mask) e) in
          record { succeeds = ok; possible = possible_amo w amo x l ok other; is = amo_offered h n w amo x l (s.memory w.0) ok other ∙ ap Some (same_amo w amo x l old (s.memory w.0) found) ∙ e }

  -- an access of the same hart, word and bytes that can be done at once: an SC fails
  pub record CanDoOther (need : Need) (a : Access) : Type 0 where
    pub access : Access
    pub can : CanDo s h n need access
    pub same_hart : access.hart ≡ a.hart
    pub same_word : access.word ≡ a.word
    pub same_mask : access.mask ≡ a.mask
    pub same_op : access.op ≡ a.op

  pub can_do_other : (need : Need) (old : ℕ) (ok : Bool) (a : Access) → offered h n need old ok ≡ Some a → is_of_memory a.op ≡ true → CanDoOther need a
  can_do_other need old ok a is memory = by_offer need a.op (is_offer h n need old ok a is) memory is
    where
      -- what the need offers where the word holds what memory does
      anew : (need : Need) (b c : Access) → CanDo s h n need b → c.hart ≡ b.hart → c.word ≡ b.word → c.mask ≡ b.mask → c.op ≡ b.op → Some c ≡ Some a → CanDoOther need a
      anew need b c can hart word mask kind same = record {
        access = b;
        can = can;
        same_hart = sym hart ∙ ap (λ o. (unwrap_or o a).hart) same;
        same_word = sym word ∙ ap (λ o. (unwrap_or o a).word) same;
        same_mask = sym mask ∙ ap (λ o. (unwrap_or o a).mask) same;
        same_op = sym kind ∙ ap (λ o. (unwrap_or o a).op) same;
      }

      by_offer : (need : Need) (o : Op) → IsOffer need o → is_of_memory o ≡ true → offered h n need old ok ≡ Some a → CanDoOther need a
      by_offer need o (a_load w m l) memory is = anew _ _ _ (record { succeeds = false; possible = tt; is = refl }) refl refl refl refl is
      by_offer need o (a_reserve w m l) memory is = anew _ _ _ (record { succeeds = false; possible = tt; is = refl }) refl refl refl refl is
      by_offer need o (a_store w m x) memory is = anew _ _ _ (record { succeeds = false; possible = tt; is = refl }) refl refl refl refl is
      by_offer need o (a_cond w x l) memory is = anew _ _ (unwrap_or (offered h n (Rmw w Sc x l) old ok) a) (record { succeeds = false; possible = tt; is = refl }) refl refl refl refl is
      by_offer need o (an_amo w amo x l other) memory is =
          anew _ (amo_access h n w amo x l (s.memory w.0)) (amo_access h n w amo x l old) (record { succeeds = false; possible = possible_amo w amo x l false other; is = amo_offered h n w amo x l (s.memory w.0) false other }) refl refl refl refl (sym (amo_offered h n w amo x l old ok other) ∙ is)
      by_offer need o _ memory is = absurd cc
