-- A lock word that is granted, or freed: what the event needs, and what it makes of the word.
use Rattle.std.proofs.Common.{◌≡◌, ℕ, suc, ◌+◌, ◌-◌, ◌*◌, ◌/◌, ◌%◌, ◌<◌, ◌==◌, ◌&&◌, Bool, true, false, not, nat_lt, nat_le, Some, List, [], ◌∷◌, length, drop, map, slice_get, refl, sym, ap, ap₂, ◌∙◌, subst, arith}
use Rattle.std.specs.Prelude.{unwrap_or}
use Rattle.std.proofs.lemmas.Bool.Decides.{nat_tests}
use Rattle.dash_base.specs.declared.id.ClusterId.{ClusterId}
use Rattle.dash_base.specs.declared.id.HartId.{HartId}
use Rattle.dash_base.specs.declared.id.WordAddr.{WordAddr}
use Rattle.dash_base.specs.Places as places
use Rattle.dash_base.specs.declared.need.Need.{Need}
use Rattle.dash_base.specs.declared.need.Need.TheVariants as needed
use Rattle.dash_msg.specs.declared.classes.Class.TheVariants.{Request}
use Rattle.dash_msg.specs.declared.msg.Msg.TheVariants.{LockGrant, UnlockAck, Unlock}
use Rattle.dash_event.specs.Offered.{offered}
use Rattle.dash_event.specs.Records.{unseen}
use Rattle.dash_event.specs.declared.access.Access.{Access}
use Rattle.dash_event.specs.declared.access.Seen.TheVariants as seen
use Rattle.dash_event.specs.declared.event.Kind.{Kind}
use Rattle.dash_event.specs.declared.event.Kind.TheVariants as kind
use Rattle.queue_lock.specs.declared.waiter.Waiter.{Waiter as Asker}
use Rattle.queue_lock.specs.View.{LocksView, is_own, is_ready, is_empty, lock_at, Lock as LockView}
use Rattle.queue_lock.specs.Steps.{granted, freed, after_grant, after_free}
use Rattle.dash_model.specs.Maps.{upd, raised, most}
use Rattle.dash_model.specs.Config.{Config, hart_id, cluster_of, is_lock, lock_home}
use Rattle.dash_model.specs.Config as config
use Rattle.dash_model.specs.Net.{to, parcel}
use Rattle.dash_model.specs.Part.{Waiter, Lock, Part}
use Rattle.dash_model.specs.LockRows.{grant_row, free_row}
use Rattle.dash_model.specs.HartRows.{PartEffect, HartEffect}
use Rattle.dash_model.specs.HartGuards.{IsAccess}
use Rattle.dash_model.specs.Row.{row}
use Rattle.dash_model.specs.Ranges.{own_lock}
use Rattle.dash_model.specs.Guard.{GrantFits, FreeFits, frees, Guard}
use Rattle.unit_rows.specs.declared.choice.Choice.TheVariants.{Grant, Take}
use Rattle.unit_rows.specs.Choices.{IsOf}
use Rattle.unit_rows.specs.Shown.{PartsView, waiter_by, lock_by, Shows, AreSized}
use Rattle.unit_rows.specs.LockWords.{address, IsAskOf, IsUnlockOf, Freed}
use Rattle.unit_rows.specs.Rows.{Happens, DoesChoice, Cannot}
use Rattle.unit_rows.proofs.LineTakes.{idle}
use Rattle.unit_rows.proofs.LockWords.{with_locks, shows_lock, own_of, own_is}

-- an access of a lock word: what it was shown is written beside what was offered
shown_access : (h number : ℕ) (need : Need) (old : ℕ) (o a : Access) (count : ℕ) → Some o ≡ offered h number need old true → o ≡ unseen o → a ≡ record o { seen = seen.Lock count } → IsAccess h number need old true (seen.Lock count) a
shown_access h number need old o a count made bare is = record {
  made = ap (λ x. Some (unseen x)) is ∙ ap Some (sym bare) ∙ made;
  seen_is = ap (λ (x : Access). x.seen) is;
}

same_access : (o b : Access) → Some o ≡ Some b → o ≡ b
same_access o b e = ap (λ x. unwrap_or x o) e

-- an Ask's, and an Unlock's
abbrev counted : ℕ → Access → Access
counted count o = record o { seen = seen.Lock count }

pub ask_access : (x : Asker) (word : WordAddr) (count : ℕ) (o a : Access) → Some o ≡ offered x.hart.0 x.number (needed.Ask word x.value) 0 true → a ≡ counted count o → IsAskOf x word count a
ask_access x word count o a made is =
    let e = same_access o _ made in
    record {
      access = shown_access x.hart.0 x.number (needed.Ask word x.value) 0 o a count made (e ∙ sym (ap unseen e)) is;
      word_is = ap (λ (y : Access). y.word) (is ∙ ap (counted count) e);
    }

pub unlock_access : (h : HartId) (number : ℕ) (word : WordAddr) (old count : ℕ) (o a : Access) → Some o ≡ offered h.0 number (needed.Unlock word) old true → a ≡ counted count o → IsUnlockOf h number word old count a
unlock_access h number word old count o a made is =
    let e = same_access o _ made in
    record {
      access = shown_access h.0 number (needed.Unlock word) old o a count made (e ∙ sym (ap unseen e)) is;
      hart_is = ap (λ (y : Access). y.hart) (is ∙ ap (counted count) e);
      number_is = ap (λ (y : Access). y.number) (is ∙ ap (counted count) e);
      word_is = ap (λ (y : Access). y.word) (is ∙ ap (counted count) e);
    }

-- the lock word of a number
pub number_back : (start i : ℕ) → (start + 4 * i - start) / 4 ≡ i
number_back start i = omega arith

in_region : (start i n : ℕ) → start % 4 ≡ 0 → i < n → (nat_le start (start + 4 * i) && nat_lt (start + 4 * i) (start + 4 * n)) && ((start + 4 * i) % 4 == 0) ≡ true
in_region start i n even low =
    let whole : (start + 4 * i) % 4 ≡ 0 = omega arith in
    grind (arith, nat_tests)

aligned : (a b : ℕ) → a % 65536 ≡ 0 → b % 65536 ≡ 0 → (a + b) % 4 ≡ 0
aligned a b e f = omega arith

pub number_at : (w : Config) (i : ℕ) → config.lock_at w (address w i) ≡ i
number_at w i = number_back (w.top.base + w.top.memory) i

left_true : (a b : Bool) → a && b ≡ true → a ≡ true
left_true true b e = refl
left_true false b e = absurd (cc)

right_true : (a b : Bool) → a && b ≡ true → b ≡ true
right_true true b e = e
right_true false b e = absurd (cc)

below : (a b : ℕ) → nat_lt a b ≡ true → a < b
below a b e = grind (arith, nat_tests)

pub own_word : (w : Config) (c : ℕ) (v : PartsView) (i : ℕ) (word : WordAddr) → AreSized w c v → is_own v.locks i ≡ true → word.0 ≡ address w i → own_lock w c word ≡ true
own_word w c v i word s own at =
    let is : nat_lt i w.top.locks && (lock_home w i == c) ≡ true = sym (own_is w c v i s) ∙ own in
    ap₂ (λ a b. a && b)
    (ap (is_lock w) at ∙ in_region (w.top.base + w.top.memory) i w.top.locks (aligned w.top.base w.top.memory w.top.base_in_pages w.top.memory_in_pages) (below i w.top.locks (left_true _ _ is)))
    (ap (λ n. lock_home w n == c) (ap (config.lock_at w) at ∙ number_back (w.top.base + w.top.memory) i) ∙ right_true _ _ is)

-- the first waiter
first_of : (x : Asker) (q : List Asker) → slice_get q 0 ≡ Some x → q ≡ x ∷ drop 1 q
first_of x [] e = absurd (cc)
first_of x (y ∷ q) e = let same : y ≡ x = cc in ap (λ z. z ∷ q) same

ready_zero : (l : LockView) → is_ready l ≡ true → l.value ≡ 0
ready_zero l e = is_zero (left_true _ _ e)
  where
    is_zero : (l.value == 0) ≡ true → l.value ≡ 0
    is_zero t = grind (arith, nat_tests)

-- Grant
abbrev grant_effect : Config → Part → Asker → List Waiter → ℕ → Lock → PartEffect
grant_effect w p x xs j m = record { part = record p { locks = upd p.locks j (record { value = x.value; count = raised most m.count; queue = xs }) }; sent = to (cluster_of w x.hart.0) (LockGrant x.hart) ∷ [] }

module _ (w : Config) (c : ℕ) (v : PartsView) (i : ℕ) (x : Asker) (a : Access) (sized : AreSized w c v) (own : is_own v.locks i ≡ true) (ready : is_ready (lock_at v.locks i) ≡ true) (first : slice_get (lock_at v.locks i).queue 0 ≡ Some x) (at : a.word.0 ≡ address w i) (access : IsAccess x.hart.0 x.number (needed.Ask a.word x.value) 0 true (seen.Lock (lock_at v.locks i).count) a) where
  numbered : config.lock_at w a.word.0 ≡ i
  numbered = ap (config.lock_at w) at ∙ number_at w i

  lock_is : (p : Part) → Shows w c v p → p.locks (config.lock_at w a.word.0) ≡ lock_by (lock_at v.locks i)
  lock_is p s = ap p.locks numbered ∙ s.locks i own

  queue_is : (p : Part) → Shows w c v p → (p.locks (config.lock_at w a.word.0)).queue ≡ waiter_by x ∷ map waiter_by (drop 1 (lock_at v.locks i).queue)
  queue_is p s = ap (λ (y : Lock). y.queue) (lock_is p s) ∙ ap (map waiter_by) (first_of x (lock_at v.locks i).queue first)

  fits : (p : Part) → Shows w c v p → GrantFits w c a p
  fits p s = record {
    mine = own_word w c v i a.word sized own at;
    is_zero = ap (λ (y : Lock). y.value) (lock_is p s) ∙ ready_zero (lock_at v.locks i) ready;
    waiter = waiter_by x;
    others = map waiter_by (drop 1 (lock_at v.locks i).queue);
    queue = queue_is p s;
    access = subst (λ (y : Lock). IsAccess x.hart.0 x.number (needed.Ask a.word x.value) 0 true (seen.Lock y.count) a) (sym (lock_is p s)) access;
  }

  becomes : (p : Part) → Shows w c v p → grant_row w (config.lock_at w a.word.0) (p.locks (config.lock_at w a.word.0)).queue p ≡ record { part = record p { locks = upd p.locks i (lock_by (granted x (lock_at v.locks i))) }; sent = to (cluster_of w x.hart.0) (LockGrant x.hart) ∷ [] }
  becomes p s =
      ap (λ q. grant_row w (config.lock_at w a.word.0) q p) (queue_is p s)
      ∙ ap₂ (grant_effect w p x (map waiter_by (drop 1 (lock_at v.locks i).queue))) numbered (lock_is p s)

  happens_grant : (p : Part) → Shows w c v p → Happens w c (kind.Grant a) (idle w) (with_locks v (after_grant v.locks i x)) (to (cluster_of w x.hart.0) (LockGrant x.hart) ∷ []) p
  unfolding Guard row
  happens_grant p s = record {
    guard = fits p s;
    shows = subst (λ (y : PartEffect). Shows w c (with_locks v (after_grant v.locks i x)) y.part) (sym (becomes p s)) (shows_lock w c v p i (granted x (lock_at v.locks i)) s);
    sent_is = ap (λ (y : PartEffect). y.sent) (becomes p s);
  }

  pub grants : DoesChoice w c (Grant i) (kind.Grant a) v (with_locks v (after_grant v.locks i x)) (to (cluster_of w x.hart.0) (LockGrant x.hart) ∷ [])
  grants = record { is_of = numbered; does = record { done = idle w; happens = happens_grant } }

-- where the word is none of this home, is not 0, or nobody waits, none is granted
record ByGrant (w : Config) (c i : ℕ) (p : Part) : Type 0 where
  access : Access
  number : config.lock_at w access.word.0 ≡ i
  fits : GrantFits w c access p

by_grant : (w : Config) (c i : ℕ) (e : Kind) (d : HartEffect) (p : Part) → IsOf w c (Grant i) e → Guard w c e d p → ByGrant w c i p
unfolding Guard
by_grant w c i (kind.Grant a) d p is g = record { access = a; number = is; fits = g }
by_grant w c i e d p is g = absurd is

none_empty : (q : List Asker) (x : Waiter) (xs : List Waiter) → map waiter_by q ≡ x ∷ xs → not (is_empty q) ≡ true
none_empty [] x xs e = absurd (cc)
none_empty (y ∷ q) x xs e = let some : (suc (length q) == 0) ≡ false = grind (arith, nat_tests) in ap not some

zero_test : (n : ℕ) → n ≡ 0 → (n == 0) ≡ true
zero_test n e = grind (arith, nat_tests)

pub not_own : (w : Config) (c : ℕ) (v : PartsView) (i : ℕ) → AreSized w c v → is_own v.locks i ≡ false → Cannot w c v (Grant i)
not_own w c v i sized none p s can =
    let b = by_grant w c i can.event can.done p can.is_of can.guard in
    let own : is_own v.locks i ≡ true = subst (λ j. is_own v.locks j ≡ true) b.number (own_of w c v b.access.word sized b.fits.mine) in
    let t : true ≡ false = sym own ∙ none in
    absurd (cc)

pub not_ready : (w : Config) (c : ℕ) (v : PartsView) (i : ℕ) → AreSized w c v → is_own v.locks i ≡ true → is_ready (lock_at v.locks i) ≡ false → Cannot w c v (Grant i)
not_ready w c v i sized own none p s can =
    let b = by_grant w c i can.event can.done p can.is_of can.guard in
    let lock : p.locks (config.lock_at w b.access.word.0) ≡ lock_by (lock_at v.locks i) = ap p.locks b.number ∙ s.locks i own in
    let value : (lock_at v.locks i).value ≡ 0 = sym (ap (λ (y : Lock). y.value) lock) ∙ b.fits.is_zero in
    let queue : map waiter_by (lock_at v.locks i).queue ≡ b.fits.waiter ∷ b.fits.others = sym (ap (λ (y : Lock). y.queue) lock) ∙ b.fits.queue in
    let t : is_ready (lock_at v.locks i) ≡ true = ap₂ (λ x y. x && y) (zero_test (lock_at v.locks i).value value) (none_empty (lock_at v.locks i).queue b.fits.waiter b.fits.others queue) in
    absurd (let f : true ≡ false = sym t ∙ none in cc)

-- Free
abbrev free_effect : Config → Part → HartId → ℕ → Lock → PartEffect
free_effect w p h j m = record { part = record p { locks = upd p.locks j (record { value = 0; count = raised most m.count; queue = m.queue }) }; sent = to (cluster_of w h.0) (UnlockAck h m.value) ∷ [] }

module _ (w : Config) (c : ℕ) (v : PartsView) (from : ClusterId) (i : ℕ) (h : HartId) (a : Access) (sized : AreSized w c v) (serves : frees w c a.hart a.word ≡ true) (number : config.lock_at w a.word.0 ≡ i) (hart : a.hart ≡ h) (access : IsAccess a.hart.0 a.number (needed.Unlock a.word) (lock_at v.locks i).value true (seen.Lock (lock_at v.locks i).count) a) where
  mine : is_own v.locks i ≡ true
  mine = subst (λ j. is_own v.locks j ≡ true) number (own_of w c v a.word sized (right_true _ _ serves))

  freed_is : (p : Part) → Shows w c v p → p.locks (config.lock_at w a.word.0) ≡ lock_by (lock_at v.locks i)
  freed_is p s = ap p.locks number ∙ s.locks i mine

  frees_word : (p : Part) → Shows w c v p → FreeFits w c a p
  frees_word p s = record {
    serves = serves;
    access = subst (λ (y : Lock). IsAccess a.hart.0 a.number (needed.Unlock a.word) y.value true (seen.Lock y.count) a) (sym (freed_is p s)) access;
  }

  makes : (p : Part) → Shows w c v p → free_row w (config.lock_at w a.word.0) a.hart p ≡ record { part = record p { locks = upd p.locks i (lock_by (freed (lock_at v.locks i))) }; sent = to (cluster_of w h.0) (UnlockAck h (lock_at v.locks i).value) ∷ [] }
  makes p s = ap (λ g. free_row w (config.lock_at w a.word.0) g p) hart ∙ ap₂ (free_effect w p h) number (freed_is p s)

  happens_free : (p : Part) → Shows w c v p → Happens w c (kind.Free from a) (idle w) (with_locks v (after_free v.locks i)) (to (cluster_of w h.0) (UnlockAck h (lock_at v.locks i).value) ∷ []) p
  unfolding Guard row
  happens_free p s = record {
    guard = frees_word p s;
    shows = subst (λ (y : PartEffect). Shows w c (with_locks v (after_free v.locks i)) y.part) (sym (makes p s)) (shows_lock w c v p i (freed (lock_at v.locks i)) s);
    sent_is = ap (λ (y : PartEffect). y.sent) (makes p s);
  }

  pub frees_choice : DoesChoice w c (Take from Request) (kind.Free from a) v (with_locks v (after_free v.locks i)) (to (cluster_of w h.0) (UnlockAck h (lock_at v.locks i).value) ∷ [])
  frees_choice = record { is_of = (refl, refl); does = record { done = idle w; happens = happens_free } }

-- both, from what the calls tell
pub granted_with : (w : Config) (c : ℕ) (v : PartsView) (i : ℕ) (x : Asker) (word : WordAddr) (count : ℕ) (a : Access) (z : LocksView) (t : ClusterId) → AreSized w c v → is_own v.locks i ≡ true → is_ready (lock_at v.locks i) ≡ true → slice_get (lock_at v.locks i).queue 0 ≡ Some x → word.0 ≡ address w i → count ≡ (lock_at v.locks i).count → IsAskOf x word count a → z ≡ after_grant v.locks i x → t ≡ places.cluster_of w.top x.hart → DoesChoice w c (Grant i) (kind.Grant a) v (with_locks v z) (record { to = t; msg = LockGrant x.hart } ∷ [])
granted_with w c v i x word count a z t sized own ready first at count_is asks z_is t_is =
    let access : IsAccess x.hart.0 x.number (needed.Ask a.word x.value) 0 true (seen.Lock (lock_at v.locks i).count) a = subst (λ y. IsAccess x.hart.0 x.number (needed.Ask y x.value) 0 true (seen.Lock (lock_at v.locks i).count) a) (sym asks.word_is) (subst (λ n. IsAccess x.hart.0 x.number (needed.Ask word x.value) 0 true (seen.Lock n) a) count_is asks.access) in
    subst (λ y. DoesChoice w c (Grant i) (kind.Grant a) v (with_locks v z) (record { to = y; msg = LockGrant x.hart } ∷ [])) (sym t_is)
    (subst (λ y. DoesChoice w c (Grant i) (kind.Grant a) v (with_locks v y) (to (cluster_of w x.hart.0) (LockGrant x.hart) ∷ [])) (sym z_is)
    (grants w c v i x a sized own ready first (ap (λ (y : WordAddr). y.0) asks.word_is ∙ at) access))

pub freed_with : (w : Config) (c : ℕ) (v : PartsView) (from : ClusterId) (h : HartId) (number : ℕ) (word : WordAddr) (i old count : ℕ) (a : Access) (z : LocksView) (t : ClusterId) → AreSized w c v → frees w c h word ≡ true → config.lock_at w word.0 ≡ i → old ≡ (lock_at v.locks i).value → count ≡ (lock_at v.locks i).count → IsUnlockOf h number word old count a → z ≡ after_free v.locks i → t ≡ places.cluster_of w.top h → Freed w c from h number word v (with_locks v z) (kind.Free from a, record { to = t; msg = UnlockAck h old })
freed_with w c v from h number word i old count a z t sized serves at old_is count_is u z_is t_is =
    let word_is : config.lock_at w a.word.0 ≡ i = ap (λ (y : WordAddr). config.lock_at w y.0) u.word_is ∙ at in
    let mine : frees w c a.hart a.word ≡ true = ap₂ (frees w c) u.hart_is u.word_is ∙ serves in
    let by_message : IsAccess a.hart.0 a.number (needed.Unlock a.word) old true (seen.Lock count) a = subst (λ y. IsAccess a.hart.0 a.number (needed.Unlock y) old true (seen.Lock count) a) (sym u.word_is) (subst (λ n. IsAccess a.hart.0 n (needed.Unlock word) old true (seen.Lock count) a) (sym u.number_is) (subst (λ (y : HartId). IsAccess y.0 number (needed.Unlock word) old true (seen.Lock count) a) (sym u.hart_is) u.access)) in
    let access : IsAccess a.hart.0 a.number (needed.Unlock a.word) (lock_at v.locks i).value true (seen.Lock (lock_at v.locks i).count) a = subst (λ n. IsAccess a.hart.0 a.number (needed.Unlock a.word) (lock_at v.locks i).value true (seen.Lock n) a) count_is (subst (λ n. IsAccess a.hart.0 a.number (needed.Unlock a.word) n true (seen.Lock count) a) old_is by_message) in
    record {
      does = subst (λ y. DoesChoice w c (Take from Request) (kind.Free from a) v (with_locks v z) (record { to = y; msg = UnlockAck h old } ∷ [])) (sym t_is)
          (subst (λ n. DoesChoice w c (Take from Request) (kind.Free from a) v (with_locks v z) (to (cluster_of w h.0) (UnlockAck h n) ∷ [])) (sym old_is)
          (subst (λ y. DoesChoice w c (Take from Request) (kind.Free from a) v (with_locks v y) (to (cluster_of w h.0) (UnlockAck h (lock_at v.locks i).value) ∷ [])) (sym z_is)
          (frees_choice w c v from i h a sized mine word_is u.hart_is access)));
      takes = λ n. ap (λ (x : Access). parcel from.0 c (Unlock x.hart x.number x.word) n ∷ []) (fields h number word a u);
    }
  where
    fields : (h : HartId) (number : ℕ) (word : WordAddr) (a : Access) → IsUnlockOf h number word old count a → a ≡ record a { hart = h; number = number; word = word }
    fields h number word a u = ap₂ (λ x y. record a { hart = x; number = y }) u.hart_is u.number_is ∙ ap (λ x. record a { hart = h; number = number; word = x }) u.word_is
