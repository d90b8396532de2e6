-- A commit keeps contents: the token's is current, and what is older is about to be invalidated.
use Rattle.std.proofs.Common.{◌≡◌, ◌≢◌, ◌⊎◌, ℕ, ◌+◌, ◌≤◌, ◌==◌, Bool, true, false, cond, None, Some, List, [], refl, sym, ap, ◌∙◌, ap₂, subst, inl, inr, arith}
use Rattle.std.proofs.lemmas.Bool.Decides.{nat_tests}
use Rattle.dash_base.specs.declared.line.Line.{Line}
use Rattle.dash_msg.specs.declared.msg.Msg.{Msg}
use Rattle.dash_msg.specs.declared.msg.Msg.TheVariants.{WriteBack, SharingBack, Data, DataEx}
use Rattle.dash_model.specs.Maps.{weigh}
use Rattle.dash_model.specs.Net.{Packet}
use Rattle.dash_model.specs.Cell.{Copy, NoCopy, Held, Asked, Poisoned, Came, Refused, Slot, NoSlot, Reads, Owns, Entry, Uncached, SharedBy, Dirty, Cell}
use Rattle.dash_model.specs.Acts.{Commit}
use Rattle.dash_model.specs.OnLine.{owned, came_own, clean, one, shares, shares_msg, invals_at, datas_msg, brings_msg, gives_back_msg, datas, brings, gives_back}
use Rattle.dash_model.proofs.LineState.{State, Where, Acts, apply, after}
use Rattle.dash_model.proofs.Weigh.{weigh-only}
use Rattle.dash_model.specs.Acts.{owe, commit_copy}
use Rattle.dash_model.proofs.LineState.{IsNext}
use Rattle.dash_model.proofs.SameLine.{same_line, same-self, same-is}
use Rattle.dash_model.proofs.Weigh.{send-none}
use Rattle.dash_model.proofs.Facts.{Place, AtHome, At, Back, Moving, Facts, Cover, Contents, other, at_home, returns, is_back, held, is_reading, came_read, asked, owner_off, came_off, marked, back_any, back_any_msg, holds, datas_weight_msg, datas_weight, old_brings_msg, old_backs_msg, old_brings, old_backs, shared_weight, read_weight}

old_brings_msg_only : (v : Line) (x a b : ℕ) (m : Msg) → brings_msg x a b m ≡ 0 → old_brings_msg v x a b m ≡ 0
old_brings_msg_only v x a b (DataEx l d n) e = grind (arith, nat_tests)
old_brings_msg_only v x a b _ e = refl

old_backs_msg_only : (v : Line) (x a b : ℕ) (m : Msg) → gives_back_msg x a b m ≡ 0 → old_backs_msg v x a b m ≡ 0
old_backs_msg_only v x a b (WriteBack l d) e = grind (arith, nat_tests)
old_backs_msg_only v x a b (SharingBack l d r) e = grind (arith, nat_tests)
old_backs_msg_only v x a b _ e = refl

old_brings_only : (v : Line) (x : ℕ) (p : Packet) → brings x p ≡ 0 → old_brings v x p ≡ 0
old_brings_only v x p e = old_brings_msg_only v x p.src p.dst p.msg e

old_backs_only : (v : Line) (x : ℕ) (p : Packet) → gives_back x p ≡ 0 → old_backs v x p ≡ 0
old_backs_only v x p e = old_backs_msg_only v x p.src p.dst p.msg e

datas_weight_msg_only : (b : Line → ℕ) (x a c : ℕ) (m : Msg) → datas_msg x a c m ≡ 0 → datas_weight_msg b x a c m ≡ 0
datas_weight_msg_only b x a c (Data l d) e = grind (arith, nat_tests)
datas_weight_msg_only b x a c _ e = refl

pub datas_weight_only : (b : Line → ℕ) (x : ℕ) (p : Packet) → datas x p ≡ 0 → datas_weight b x p ≡ 0
datas_weight_only b x p e = datas_weight_msg_only b x p.src p.dst p.msg e

-- the token is at a cluster, so it is nowhere else, nor at home or on its way there
pub record OnlyAt (p : Place) (c x : ℕ) : Type 0 where
  pub here : holds p x ≡ one c x
  pub away : at_home p ≡ 0
  pub stays : returns p x ≡ 0

only_at : (p : Place) (c x : ℕ) → holds p c ≡ 1 → OnlyAt p c x
only_at AtHome c x e = absurd (omega arith)
only_at (At o) c x e = grind (arith, nat_tests)
only_at (Back o) c x e = absurd (omega arith)
only_at (Moving o r) c x e = grind (arith, nat_tests)

holds_most : (p : Place) (x : ℕ) → holds p x ≤ 1
holds_most AtHome x = grind (arith, nat_tests)
holds_most (At o) x = grind (arith, nat_tests)
holds_most (Back o) x = grind (arith, nat_tests)
holds_most (Moving o r) x = grind (arith, nat_tests)

off_by : (v d : Line) (b : Bool) → same_line v d ≡ b → cond {A = ℕ} b 0 1 ≡ 0 → d ≡ v
off_by v d true e f = sym (same-is v d e)
off_by v d false e f = absurd (omega arith)

pub off_not : (v d : Line) → other v d ≡ 0 → d ≡ v
off_not v d e = off_by v d (same_line v d) refl e

-- what the home has while it has the token weighs as little as the current content
pub home_weighs : (b : Line → ℕ) (v d : Line) (p : Place) → b v ≡ 0 → at_home p ≡ 1 → (at_home p ≡ 0) ⊎ (other v d ≡ 0) → b d ≡ 0
home_weighs b v d p z one (inl e) = absurd (omega arith)
home_weighs b v d p z one (inr e) = ap b (off_not v d e) ∙ z

pub owner_current : (hs : List ℕ) (o : ℕ) (e : Line) (k : Copy) (m : Line) (r : ℕ) → k ≡ Held hs (Some o) e → owner_off k m + r ≡ 0 → e ≡ m
owner_current hs o e k m r f g = let q : owner_off (Held hs (Some o) e) m + r ≡ 0 = subst (λ k. owner_off k m + r ≡ 0) f g in off_not m e (omega arith)

not_reading : (k : Copy) (b : Slot) (hs : List ℕ) (o : ℕ) (e : Line) → k ≡ Held hs (Some o) e → is_reading b + held k ≤ 1 → is_reading b ≡ 0
not_reading k b hs o e f g = grind (arith, nat_tests)

own_fresh : (b : Slot) (v : Line) (n : ℕ) → is_reading b ≡ 0 → 0 + read_weight (other v) b + asked b n ≡ 0
own_fresh (Reads n t phase) v k e = absurd (omega arith)
own_fresh NoSlot v k e = omega arith
own_fresh (Owns n t phase) v k e = omega arith

-- nothing to read from is nothing old
none_old : (k : Copy) (b : Slot) (v : Line) (n o : ℕ) → held k + came_read b + asked b n ≡ 0 → (n ≡ 0 → o ≡ 0) → shared_weight (other v) k + read_weight (other v) b + asked b o ≡ 0
none_old NoCopy NoSlot v n o e f = omega arith
none_old NoCopy (Reads i t Asked) v n o e f = let z : o ≡ 0 = f (omega arith) in omega arith
none_old NoCopy (Reads i t Poisoned) v n o e f = omega arith
none_old NoCopy (Reads i t Refused) v n o e f = omega arith
none_old NoCopy (Reads i t (Came d)) v n o e f = absurd (omega arith)
none_old NoCopy (Owns i t phase) v n o e f = omega arith
none_old (Held hs q d) b v n o e f = absurd (omega arith)

none_owned : (k : Copy) (v : Line) → owned k ≡ 0 → owner_off k v ≡ 0
none_owned NoCopy v e = refl
none_owned (Held hs None d) v e = refl
none_owned (Held hs (Some o) d) v e = absurd (omega arith)

none_came : (b : Slot) (v : Line) → came_own b ≡ 0 → came_off b v ≡ 0
none_came (Owns n t (Came d)) v e = absurd (omega arith)
none_came _ v e = refl

-- another cluster has what it had
of_other : (P : Cell → Type 0) (a b : Cell) (x c : ℕ) → x ≢ c → P b → P (cond (x == c) a b)
of_other P a b x c n h = let e : (x == c) ≡ false = grind (arith, nat_tests) in subst (λ i. P (cond i a b)) (sym e) h

of_same : (P : Cell → Type 0) (a b : Cell) (c : ℕ) → P a → P (cond (c == c) a b)
of_same P a b c h = let e : (c == c) ≡ true = grind (arith, nat_tests) in subst (λ i. P (cond i a b)) (sym e) h

sum_none : (a b c h : ℕ) → a + b + c ≡ h → h ≡ 0 → (a ≡ 0) × (b ≡ 0) × (c ≡ 0)
sum_none a b c h e z = (omega arith, omega arith, omega arith)

sum_one : (b c h : ℕ) → 1 + b + c ≡ h → h ≤ 1 → (b ≡ 0) × (c ≡ 0)
sum_one b c h e l = (omega arith, omega arith)

abbrev pub Fresh : Line → ℕ → State → Cell → Type 0
Fresh v x s a = (1 ≤ weigh (invals_at x) s.net) ⊎ (shared_weight (other v) a.copy + read_weight (other v) a.slot + asked a.slot (weigh (datas_weight (other v) x) s.net) ≡ 0)

covered_fresh : (s : State) (p : Place) (v : Line) (x : ℕ) → holds p x ≡ 0 → marked x s.home.entry ≡ 0 → weigh (shares x) s.net ≡ 0 → (weigh (datas x) s.net ≡ 0 → weigh (datas_weight (other v) x) s.net ≡ 0) → Cover s p x → Fresh v x s (s.cells x)
covered_fresh s p v x h mk sh f (inl one_here) = absurd (omega arith)
covered_fresh s p v x h mk sh f (inr (inl nothing)) = inr (none_old (s.cells x).copy (s.cells x).slot v (weigh (datas x) s.net) (weigh (datas_weight (other v) x) s.net) nothing f)
covered_fresh s p v x h mk sh f (inr (inr some)) = inl (omega arith)

shares_only_msg : (x a b : ℕ) (m : Msg) → back_any_msg m ≡ 0 → shares_msg x a b m ≡ 0
shares_only_msg x a b (SharingBack l d r) e = absurd (omega arith)
shares_only_msg x a b _ e = refl

shares_only : (x : ℕ) (p : Packet) → back_any p ≡ 0 → shares x p ≡ 0
shares_only x p e = shares_only_msg x p.src p.dst p.msg e

none_marked : (x : ℕ) (e : Entry) (p : Place) → clean e ≡ at_home p → at_home p ≡ 0 → marked x e ≡ 0
none_marked x Uncached p e h = refl
none_marked x (SharedBy cs) p e h = absurd (omega arith)
none_marked x (Dirty o) p e h = refl

-- cluster c has this cell
abbrev pub written : State → ℕ → ℕ → Cell → State
written s i c a = apply i c (record { cell = a; home = s.home; sent = [] }) s.net s

one_other : (c x : ℕ) → x ≢ c → one c x ≡ 0
one_other c x n = grind (arith, nat_tests)

none_back : (p : Place) (c x : ℕ) → holds p c ≡ 1 → is_back p ≡ 0
none_back AtHome c x e = refl
none_back (At o) c x e = refl
none_back (Back o) c x e = absurd (omega arith)
none_back (Moving o r) c x e = refl

same_content : (d : Line) → other d d ≡ 0
same_content d = ap (λ b. cond {A = ℕ} b 0 1) (same-self d)

owner_holds : (k : Copy) (hs : List ℕ) (o : ℕ) (f : Line) (b c h : ℕ) → k ≡ Held hs (Some o) f → owned k + b + c ≡ h → h ≤ 1 → h ≡ 1
owner_holds k hs o f b c h e g l = let q : 1 + b + c ≡ h = subst (λ k. owned k + b + c ≡ h) e g in omega arith

fresh_sent : (s : State) (i c x : ℕ) (v : Line) (a b : Cell) → Fresh v x s b → Fresh v x (written s i c a) b
fresh_sent s i c x v a b (inl e) = inl (let f = send-none (invals_at x) s.net i c in omega arith)
fresh_sent s i c x v a b (inr e) = inr (ap (λ n. shared_weight (other v) b.copy + read_weight (other v) b.slot + asked b.slot n) (send-none (datas_weight (other v) x) s.net i c) ∙ e)

commit_other : (s : State) (p : Place) (h i c x : ℕ) (v : Line) (a : Cell) → x ≢ c → holds p c ≡ 1 → Facts h s p x → Cover s p x → Contents (written s i c a) p v x
commit_other s p h i c x v a n hold k cover =
    let only = only_at p c x hold in
    let here : holds p x ≡ 0 = only.here ∙ one_other c x n in
    let none = sum_none (owned (s.cells x).copy) (came_own (s.cells x).slot) (weigh (brings x) s.net) (holds p x) k.tokens.token here in
    let fresh = covered_fresh s p v x here (none_marked x s.home.entry p k.tokens.home only.away) (weigh-only back_any (shares x) (shares_only x) s.net (k.tokens.backs ∙ none_back p c x hold)) (weigh-only (datas x) (datas_weight (other v) x) (datas_weight_only (other v) x) s.net) cover in
    record {
      brought = send-none (old_brings v x) s.net i c ∙ weigh-only (brings x) (old_brings v x) (old_brings_only v x) s.net none.2;
      given = send-none (old_backs v x) s.net i c ∙ weigh-only (gives_back x) (old_backs v x) (old_backs_only v x) s.net (k.tokens.back ∙ only.stays);
      owner = of_other (λ b. owner_off b.copy v + came_off b.slot v ≡ 0) a (s.cells x) x c n (ap₂ (λ y z. y + z) (none_owned (s.cells x).copy v none.0) (none_came (s.cells x).slot v none.1));
      mem = inl only.away;
      fresh = of_other (λ b. Fresh v x (written s i c a) b) a (s.cells x) x c n (fresh_sent s i c x v a (s.cells x) fresh);
    }

commit_own : (s : State) (p : Place) (h i c : ℕ) (a : Cell) (hs : List ℕ) (o : ℕ) (d e : Line) → (s.cells c).copy ≡ Held hs (Some o) e → a.copy ≡ Held hs (Some o) d → a.slot ≡ (s.cells c).slot → holds p c ≡ 1 → Facts h s p c → Contents (written s i c a) p d c
commit_own s p h i c a hs o d e was is slot_is hold k =
    let only = only_at p c c hold in
    let token : 1 + came_own (s.cells c).slot + weigh (brings c) s.net ≡ holds p c = subst (λ y. owned y + came_own (s.cells c).slot + weigh (brings c) s.net ≡ holds p c) was k.tokens.token in
    let none = sum_one (came_own (s.cells c).slot) (weigh (brings c) s.net) (holds p c) token (holds_most p c) in
    let reading = not_reading (s.cells c).copy (s.cells c).slot hs o e was k.requests.reading in
    record {
      brought = send-none (old_brings d c) s.net i c ∙ weigh-only (brings c) (old_brings d c) (old_brings_only d c) s.net none.1;
      given = send-none (old_backs d c) s.net i c ∙ weigh-only (gives_back c) (old_backs d c) (old_backs_only d c) s.net (k.tokens.back ∙ only.stays);
      owner = of_same (λ b. owner_off b.copy d + came_off b.slot d ≡ 0) a (s.cells c) c (ap₂ (λ y z. y + z) (ap (λ y. owner_off y d) is ∙ same_content d) (ap (λ y. came_off y d) slot_is ∙ none_came (s.cells c).slot d none.0));
      mem = inl only.away;
      fresh = of_same (λ b. Fresh d c (written s i c a) b) a (s.cells c) c (inr (ap₂ (λ y z. shared_weight (other d) y + read_weight (other d) z + asked z (weigh (datas_weight (other d) c) (written s i c a).net)) is slot_is ∙ own_fresh (s.cells c).slot d (weigh (datas_weight (other d) c) (written s i c a).net) reading));
    }

same_cluster : (x c : ℕ) → (x ≡ c) ⊎ (x ≢ c)
same_cluster x c = grind (arith, nat_tests)

commit_by : (w : Where) (s : State) (p : Place) (i c t x : ℕ) (d : Line) (k : Copy) → (s.cells c).copy ≡ k → IsNext d k → Facts w.home s p x → Facts w.home s p c → Cover s p x → Contents (written s i c (record (s.cells c) { copy = commit_copy d k; acks = owe t (s.cells c).acks })) p d x
commit_by w s p i c t x d NoCopy e next k kc cover = absurd next
commit_by w s p i c t x d (Held hs None f) e next k kc cover = absurd next
commit_by w s p i c t x d (Held hs (Some o) f) e next k kc cover =
    let hold : holds p c ≡ 1 = owner_holds (s.cells c).copy hs o f (came_own (s.cells c).slot) (weigh (brings c) s.net) (holds p c) e kc.tokens.token (holds_most p c) in
    elim (same_cluster x c) [
      | inl q ↦ subst (λ y. Contents (written s i c (record (s.cells c) { copy = Held hs (Some o) d; acks = owe t (s.cells c).acks })) p d y) (sym q) (commit_own s p w.home i c (record (s.cells c) { copy = Held hs (Some o) d; acks = owe t (s.cells c).acks }) hs o d f e refl refl hold kc)
      | inr n ↦ commit_other s p w.home i c x d (record (s.cells c) { copy = Held hs (Some o) d; acks = owe t (s.cells c).acks }) n hold k cover
    ]

pub commit : (w : Where) (s : State) (p : Place) (i c t x : ℕ) (d : Line) → IsNext d (s.cells c).copy → Facts w.home s p x → Facts w.home s p c → Cover s p x → Contents (after w s (Acts i c (Commit t d))) p d x
commit w s p i c t x d next k kc cover = commit_by w s p i c t x d (s.cells c).copy refl next k kc cover
