-- What each event adds to the answers on their way to a hart, and to the count of a lock word.
use Rattle.std.proofs.Common.{◌≡◌, ◌≢◌, ℕ, zero, suc, ◌+◌, ◌%◌, ◌≤◌, ◌==◌, Bool, true, false, cond, List, [], ◌∷◌, ◌++◌, refl, sym, ap, ◌∙◌, subst, arith}
use Rattle.std.proofs.lemmas.Bool.Decides.{nat_tests}
use Rattle.dash_base.specs.declared.id.ClusterId.{ClusterId}
use Rattle.dash_base.specs.declared.id.WordAddr.{WordAddr}
use Rattle.dash_msg.specs.declared.msg.Msg.{Msg}
use Rattle.dash_msg.specs.declared.msg.Msg.TheVariants.{LockGrant, UnlockAck}
use Rattle.dash_msg.specs.declared.parcel.Sent.{Sent}
use Rattle.dash_event.specs.declared.access.Access.{Access}
use Rattle.dash_event.specs.declared.event.Kind.{Kind}
use Rattle.dash_event.specs.declared.event.Kind.TheVariants as kind
use Rattle.dash_base.specs.declared.need.Need.{Need}
use Rattle.dash_base.specs.declared.need.Need.TheVariants as needed
use Rattle.dash_model.specs.Maps.{upd, weigh, raised, most}
use Rattle.dash_model.specs.Config.{Config, hart_id, cluster_of, is_lock, lock_at, lock_home}
use Rattle.dash_model.specs.Net.{to}
use Rattle.dash_model.specs.Part.{Waiter, Lock, Part}
use Rattle.dash_model.specs.HartRows.{PartEffect, HartEffect, lock_target}
use Rattle.dash_model.specs.HartGuards.{LockSends}
use Rattle.dash_model.specs.Guard.{Guard}
use Rattle.dash_model.specs.LockRows.{grant_row, free_row}
use Rattle.dash_model.specs.Ranges.{has_hart, own_lock}
use Rattle.dash_model.specs.Row.{row}
use Rattle.dash_model.specs.OnLine.{is_of, one}
use Rattle.dash_model.specs.Coherent.{lock_uses}
use Rattle.dash_model.proofs.Tests.{same, is_same, differ, both_left, both_right}
use Rattle.dash_model.proofs.Along.{AllAre}
use Rattle.dash_model.proofs.LockViews.{IsPlain, LockView, Plain, Sends, Grants, Frees, Waits, Granted, Freed, Drops, lock_view}

-- 1 where the event grants or frees a lock word for hart h
abbrev pub serves : Kind → ℕ → ℕ
serves (kind.Grant a) h = one a.hart.0 h
serves (kind.Free f a) h = one a.hart.0 h
serves e h = 0

-- 1 where a message answers a lock instruction of hart h
abbrev pub answer_msg : ℕ → Msg → ℕ
answer_msg h (LockGrant t) = one t.0 h
answer_msg h (UnlockAck t old) = one t.0 h
answer_msg h m = 0

abbrev pub sent_answers : ℕ → List Sent → ℕ
sent_answers h ss = weigh (λ (s : Sent). answer_msg h s.msg) ss

-- as many more, which stops at the greatest value
abbrev pub raised_by : ℕ → ℕ → ℕ
raised_by zero n = n
raised_by (suc k) n = raised most n

-- an answer is sent to whom the event serves, and the count of its word goes up
pub record Serves (w : Config) (e : Kind) (h : ℕ) (word : WordAddr) (p : Part) (d : PartEffect) : Type 0 where
  pub sent : sent_answers h d.sent ≡ serves e h
  pub count : is_lock w word.0 ≡ true → (d.part.locks (lock_at w word.0)).count ≡ raised_by (lock_uses word e) (p.locks (lock_at w word.0)).count

line_none : (h k : ℕ) (m : Msg) → is_of k m ≡ true → answer_msg h m ≡ 0
line_none h k (LockGrant t) e = absurd (cc)
line_none h k (UnlockAck t old) e = absurd (cc)
line_none h k _ e = refl

lines_none : (h k : ℕ) (ss : List Sent) → AllAre k true ss → sent_answers h ss ≡ 0
unfolding weigh
lines_none h k [] a = refl
lines_none h k (s ∷ ss) a =
    let here = line_none h k s.msg a.0 in
    let rest = lines_none h k ss a.1 in
    omega arith

sent_none : (h : ℕ) → sent_answers h [] ≡ 0
unfolding weigh
sent_none h = refl

sent_one : (h : ℕ) (s : Sent) → sent_answers h (s ∷ []) ≡ answer_msg h s.msg
unfolding weigh
sent_one h s = omega arith

-- an event that has nothing to do with lock words
plain_none : (e : Kind) (h : ℕ) (word : WordAddr) → IsPlain e → (serves e h ≡ 0) × (lock_uses word e ≡ 0)
plain_none (kind.Grant a) h word i = absurd i
plain_none (kind.Free f a) h word i = absurd i
plain_none _ h word i = (refl, refl)

queued_by : (w : Config) (word : WordAddr) (k : ℕ) (x : Waiter) (p : Part) (b : Bool) → (cond b (record (p.locks k) { queue = (p.locks k).queue ++ x ∷ [] }) (p.locks (lock_at w word.0))).count ≡ cond b (p.locks k).count (p.locks (lock_at w word.0)).count
queued_by w word k x p true = refl
queued_by w word k x p false = refl

same_count : (k i : ℕ) (p : Part) (b : Bool) → (i == k) ≡ b → cond b (p.locks k).count (p.locks i).count ≡ (p.locks i).count
same_count k i p true e = ap (λ y. (p.locks y).count) (sym (is_same i k e))
same_count k i p false e = refl

-- two lock words of one number are one
pub one_lock : (w : Config) (a b : ℕ) → is_lock w a ≡ true → is_lock w b ≡ true → lock_at w a ≡ lock_at w b → a ≡ b
one_lock w a b i j e =
    let base = w.top.base_in_pages in
    let memory = w.top.memory_in_pages in
    let above_a : w.top.base + w.top.memory ≤ a = grind (arith, nat_tests) in
    let above_b : w.top.base + w.top.memory ≤ b = grind (arith, nat_tests) in
    let aligned_a : a % 4 ≡ 0 = grind (arith, nat_tests) in
    let aligned_b : b % 4 ≡ 0 = grind (arith, nat_tests) in
    omega arith

-- the word of the event counts one more, and another word does not
counted : (w : Config) (a word : WordAddr) (p : Part) (x : Lock) (b : Bool) → (a.0 == word.0) ≡ b → is_lock w a.0 ≡ true → is_lock w word.0 ≡ true → x.count ≡ raised most (p.locks (lock_at w a.0)).count
    → (upd p.locks (lock_at w a.0) x (lock_at w word.0)).count ≡ raised_by (cond b 1 0) (p.locks (lock_at w word.0)).count
counted w a word p x true is i j n =
    let e : lock_at w word.0 ≡ lock_at w a.0 = ap (lock_at w) (sym (is_same a.0 word.0 is)) in
    let hit : (lock_at w word.0 == lock_at w a.0) ≡ true = subst (λ y. (y == lock_at w a.0) ≡ true) (sym e) (same (lock_at w a.0)) in
    ap (λ z. (cond z x (p.locks (lock_at w word.0))).count) hit ∙ n ∙ ap (λ y. raised most (p.locks y).count) (sym e)
counted w a word p x false is i j n =
    let d : lock_at w word.0 ≢ lock_at w a.0 = λ e. (let s = one_lock w word.0 a.0 j i e in let t : (a.0 == word.0) ≡ true = grind (arith, nat_tests) in absurd (cc)) in
    ap (λ z. (cond z x (p.locks (lock_at w word.0))).count) (differ (lock_at w word.0) (lock_at w a.0) d)

granted : (w : Config) (a : Access) (h : ℕ) (word : WordAddr) (p : Part) (x : Waiter) (xs : List Waiter) → a.hart.0 ≡ x.hart → is_lock w a.word.0 ≡ true
    → Serves w (kind.Grant a) h word p (grant_row w (lock_at w a.word.0) (x ∷ xs) p)
granted w a h word p x xs mine i = record {
  sent = sent_one h (to (cluster_of w x.hart) (LockGrant (hart_id x.hart))) ∙ ap (λ y. one y h) (sym mine);
  count = λ j. counted w a.word word p (record { value = x.value; count = raised most (p.locks (lock_at w a.word.0)).count; queue = xs }) (a.word.0 == word.0) refl i j refl;
}

freed : (w : Config) (f : ClusterId) (a : Access) (h : ℕ) (word : WordAddr) (p : Part) → is_lock w a.word.0 ≡ true → Serves w (kind.Free f a) h word p (free_row w (lock_at w a.word.0) a.hart p)
freed w f a h word p i = record {
  sent = sent_one h (to (cluster_of w a.hart.0) (UnlockAck a.hart (p.locks (lock_at w a.word.0)).value));
  count = λ j. counted w a.word word p (record { value = 0; count = raised most (p.locks (lock_at w a.word.0)).count; queue = (p.locks (lock_at w a.word.0)).queue }) (a.word.0 == word.0) refl i j refl;
}

lock_msg : (g h : ℕ) (m : Msg) (need : Need) (p : Part) → LockSends g m need p → answer_msg h m ≡ 0
lock_msg g h m (needed.Ask word value) p e = ap (answer_msg h) e
lock_msg g h m (needed.Unlock word) p e = ap (answer_msg h) e.0
lock_msg g h m _ p e = absurd e

word_of_lock : (w : Config) (c : ℕ) (word : WordAddr) → own_lock w c word ≡ true → is_lock w word.0 ≡ true
word_of_lock w c word e = both_left (is_lock w word.0) (lock_home w (lock_at w word.0) == c) e

view_serves : (w : Config) (c : ℕ) (p : Part) (e : Kind) (r : PartEffect) (h : ℕ) (word : WordAddr) → LockView w c p e r → Serves w e h word p r
view_serves w c p _ _ h word (Plain e r k) =
    let none = plain_none e h word k.plain in
    record {
      sent = lines_none h k.line r.sent k.sent ∙ sym none.0;
      count = λ j. ap (λ (f : ℕ → Lock). (f (lock_at w word.0)).count) k.locks ∙ sym (ap (λ x. raised_by x (p.locks (lock_at w word.0)).count) none.1);
    }
view_serves w c p _ _ h word (Sends g m need z mine needs sends l) = record { sent = sent_one h (to (lock_target w m) m) ∙ lock_msg g.0 h m need p sends; count = λ j. ap (λ (f : ℕ → Lock). (f (lock_at w word.0)).count) l }
view_serves w c p _ _ h word (Grants a x xs own is mine) = granted w a h word p x xs mine (word_of_lock w c a.word own)
view_serves w c p _ _ h word (Frees f a s) = freed w f a h word p (word_of_lock w c a.word (both_right (has_hart w a.hart) (own_lock w c a.word) s))
view_serves w c p _ _ h word (Waits f t n a v range) =
    let x : Waiter = record { hart = t.0; number = n; value = v } in
    record { sent = sent_none h; count = λ j. queued_by w word (lock_at w a.0) x p (lock_at w word.0 == lock_at w a.0) ∙ same_count (lock_at w a.0) (lock_at w word.0) p (lock_at w word.0 == lock_at w a.0) refl }
view_serves w c p _ _ h word (Granted f t z l) = record { sent = sent_none h; count = λ j. ap (λ (f : ℕ → Lock). (f (lock_at w word.0)).count) l }
view_serves w c p _ _ h word (Freed f t old z l) = record { sent = sent_none h; count = λ j. ap (λ (f : ℕ → Lock). (f (lock_at w word.0)).count) l }
view_serves w c p _ _ h word (Drops f m none) = record { sent = sent_none h; count = λ j. refl }

-- each event
pub served : (w : Config) (c : ℕ) (e : Kind) (d : HartEffect) (p : Part) (h : ℕ) (word : WordAddr) → Guard w c e d p → Serves w e h word p (row w c e d p)
served w c e d p h word can = view_serves w c p e (row w c e d p) h word (lock_view w c e d p can)
