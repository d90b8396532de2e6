-- What a step does to a line's entry at its cluster.
use Rattle.std.proofs.Common.{◌≡◌, ℕ, ◌<◌, ◌==◌, Bool, true, false, cond, None, Some, List, [], ◌∷◌, unwrap_or, refl, sym, ap, ◌∙◌, subst, inl, inr, arith}
use Rattle.dash_base.specs.declared.id.ClusterId.{ClusterId}
use Rattle.dash_base.specs.declared.id.HartId.{HartId}
use Rattle.dash_base.specs.declared.id.LineId.{LineId}
use Rattle.dash_base.specs.declared.line.Line.{Line}
use Rattle.dash_msg.specs.Classes.{class_of}
use Rattle.dash_msg.specs.declared.msg.Msg.{Msg}
use Rattle.dash_msg.specs.declared.msg.Msg.TheVariants.{DataEx}
use Rattle.dash_msg.specs.declared.parcel.Sent.{Sent}
use Rattle.dash_event.specs.declared.event.Kind.{Kind}
use Rattle.dash_event.specs.declared.event.Kind.TheVariants as kind
use Rattle.write_buffer.specs.declared.entry.Entry.{Entry as Stored}
use Rattle.dash_model.specs.Maps.{weigh}
use Rattle.dash_model.specs.Config.{Config, line_id, lines, home_of, first_prefetch, cluster_of}
use Rattle.dash_model.specs.Net.{parcel, head}
use Rattle.dash_model.specs.Cell.{Copy, NoCopy, Held, Slot, NoSlot, Reads, Owns, Counting, Cell}
use Rattle.dash_model.specs.Part.{Part}
use Rattle.dash_model.specs.OnLine.{is_of, owned, counts_to}
use Rattle.dash_model.specs.Words.{in_m, content, written_in}
use Rattle.dash_model.specs.Acts.{Act, Commit, act_row}
use Rattle.dash_model.specs.HartRows.{HartEffect, commit_row}
use Rattle.dash_model.specs.Guard.{Guard}
use Rattle.dash_model.specs.Row.{msg_row_if, row}
use Rattle.dash_model.specs.Ranges.{applies}
use Rattle.dash_model.specs.Log.{Commits}
use Rattle.dash_model.specs.Owed.{announced_by, acknowledged_by, taken_in}
use Rattle.dash_model.specs.Machine.{Machine, taken, AtHead}
use Rattle.dash_model.proofs.LineState.{content_after}
use Rattle.dash_model.proofs.Along.{along, on-head, same_or_not}
use Rattle.dash_model.proofs.Facts.{Place, holds, Counted, counting, Facts}
use Rattle.dash_model.proofs.Views.{ActsOn, View, Still, Does, content_by, IsNoTake, view}
use Rattle.dash_model.proofs.Taken.{take_off_if, take_on_if, case_applies}
use Rattle.dash_model.proofs.Lift.{Holds}
use Rattle.dash_model.proofs.Tests.{same, is_same, not_same, differ}
use Rattle.dash_model.proofs.Alone.{is_owns, Alone, commit_owned, act_alone, take_alone}
use Rattle.dash_model.proofs.OwedEntry.{IsSilent, Entered, Stays, Owes, plain_act, silent_off, take_entry}

-- what a step makes of the line at its cluster
pub record CellStep (w : Config) (c l : ℕ) (e : Kind) (a b : Cell) : Type 0 where
  pub entered : Entered w c l e a.acks b.acks
  pub alone : Alone b

-- an event that takes nothing and commits nothing
abbrev pub IsPlain : Kind → Type 0
IsPlain (kind.Commit h n k v) = ⊥
IsPlain (kind.Rmw a k v) = ⊥
IsPlain (kind.Take f m) = ⊥
IsPlain e = Unit {0}

silent_plain : (l : ℕ) (e : Kind) → IsPlain e → IsSilent l e
silent_plain l (kind.Commit h n k v) t = absurd t
silent_plain l (kind.Rmw a k v) t = absurd t
silent_plain l (kind.Take f m) t = absurd t
silent_plain l _ t = record { announces = refl; acknowledges = refl; commits = λ h v x. x; gives = λ f d n e. absurd (cc) }

plain_content : (w : Config) (p : Part) (k : ℕ) (d : Line) (e : Kind) → IsPlain e → content_by w p k d e ≡ d
plain_content w p k d (kind.Commit h n j v) t = absurd t
plain_content w p k d (kind.Rmw a j v) t = absurd t
plain_content w p k d _ t = refl

plain_no_take : (e : Kind) → IsPlain e → IsNoTake e
plain_no_take (kind.Take f m) t = absurd t
plain_no_take _ t = tt

-- an act of the cluster on the line
act_entry : (w : Config) (c l : ℕ) (e : Kind) (m : Machine) (pl : Place) (q : Part) (ss : List Sent) (a : Act) → ActsOn w e (m.parts c) q ss l a → IsPlain e → Facts (home_of w l) (along w l m) pl c → Alone ((m.parts c).cells l) → CellStep w c l e ((m.parts c).cells l) (q.cells l)
act_entry w c l e m pl q ss a d t f k =
    let p = m.parts c in
    let keeps : (x : Line) → content_after x a ≡ x = λ x. sym (ap (λ b. cond b (content_after x a) x) (same l)) ∙ sym (d.writes l x) ∙ plain_content w p l x e t in
    let is : q.cells l ≡ (act_row (line_id l) (home_of w l) a (p.cells l) (p.homes l)).cell = d.cells l ∙ ap (λ i. cond i (act_row (line_id l) (home_of w l) a (p.cells l) (p.homes l)).cell (p.cells l)) (same l) in
    subst (CellStep w c l e (p.cells l)) (sym is) (record {
      entered = plain_act w c l e (line_id l) (home_of w l) a (along w l m) pl (p.homes l) d.may keeps (silent_plain l e t) f;
      alone = act_alone (line_id l) (home_of w l) a (p.cells l) (p.homes l) d.may k;
    })

view_entry : (w : Config) (c l : ℕ) (e : Kind) (m : Machine) (pl : Place) (q : Part) (ss : List Sent) → View w e (m.parts c) q ss → IsPlain e → Facts (home_of w l) (along w l m) pl c → Alone ((m.parts c).cells l) → CellStep w c l e ((m.parts c).cells l) (q.cells l)
view_entry w c l e m pl q ss (Still s) t f k = subst (CellStep w c l e ((m.parts c).cells l)) (sym (s.cells l)) (record { entered = Stays refl (silent_plain l e t); alone = k })
view_entry w c l e m pl q ss (Does j a d) t f k =
    elim (same_or_not l j) [
      | inl i ↦ act_entry w c l e m pl q ss a (subst (λ y. ActsOn w e (m.parts c) q ss y a) (sym i) d) t f k
      | inr o ↦ subst (CellStep w c l e ((m.parts c).cells l)) (sym (d.cells l ∙ ap (λ i. cond i (act_row (line_id j) (home_of w j) a ((m.parts c).cells j) ((m.parts c).homes j)).cell ((m.parts c).cells l)) (differ l j o))) (record { entered = Stays refl (silent_plain l e t); alone = k })
    ]

-- a commit
record IsCommit (e : Kind) (h : HartId) (k : LineId) (v : ℕ) : Type 0 where
  pub is : Commits e h k v
  pub only : (g : HartId) (j : LineId) (u : ℕ) → Commits e g j u → (g ≡ h) × (j ≡ k)
  pub announces : (l : ℕ) → taken_in (announced_by (line_id l)) e ≡ 0
  pub acknowledges : (l : ℕ) → taken_in (acknowledged_by (line_id l)) e ≡ 0
  pub takes : (f : ClusterId) (m : Msg) → e ≡ kind.Take f m → ⊥

m_owned : (h : ℕ) (c : Copy) → in_m h c ≡ true → owned c ≡ 1
m_owned h (Held (x ∷ []) (Some o) d) e = refl
m_owned h (Held (x ∷ []) None d) e = absurd (cc)
m_owned h (Held [] o d) e = absurd (cc)
m_owned h (Held (x ∷ y ∷ ys) o d) e = absurd (cc)
m_owned h NoCopy e = absurd (cc)

counting_owns : (s : Slot) (n d h g : ℕ) (o : List ℕ) → Counted s (Counting g o) n d h → is_owns s ≡ 1
counting_owns (Owns i t p) n d h g o k = refl
counting_owns (Reads i t p) n d h g o k = absurd k
counting_owns NoSlot n d h g o k = absurd k

-- an owner's entry knows its number
pub owner_told : (h : ℕ) (w : Config) (c l : ℕ) (m : Machine) (pl : Place) (i : ℕ) → Facts h (along w l m) pl c → Alone ((m.parts c).cells l) → in_m i ((m.parts c).cells l).copy ≡ true → (g : ℕ) (o : List ℕ) → ((m.parts c).cells l).acks ≡ Counting g o → ⊥
owner_told h w c l m pl i f k e g o is =
    let s = along w l m in
    let one = m_owned i ((m.parts c).cells l).copy e in
    let own = counting_owns ((m.parts c).cells l).slot (counting c s) (weigh (counts_to c) s.net) (holds pl c) g o (subst (λ x. Counted ((m.parts c).cells l).slot x (counting c s) (weigh (counts_to c) s.net) (holds pl c)) is f.counts) in
    omega arith

commit_if : (w : Config) (c l : ℕ) (e : Kind) (h : HartId) (v : ℕ) (k : LineId) (x : Line) (m : Machine) (pl : Place) (i : Bool) → (l == k.0) ≡ i → IsCommit e h k v → cluster_of w h.0 ≡ c → in_m h.0 ((m.parts c).cells k.0).copy ≡ true → Facts (home_of w l) (along w l m) pl c → Alone ((m.parts c).cells l) → CellStep w c l e ((m.parts c).cells l) (cond i (act_row (line_id k.0) (home_of w k.0) (Commit h.0 x) ((m.parts c).cells k.0) ((m.parts c).homes k.0)).cell ((m.parts c).cells l))
commit_if w c l e h v k x m pl true i is mine owner f a =
    let s : l ≡ k.0 = is_same l k.0 i in
    let line : k ≡ line_id l = (λ j. record { 0 = sym s j }) in
    let here : in_m h.0 ((m.parts c).cells l).copy ≡ true = subst (λ y. in_m h.0 ((m.parts c).cells y).copy ≡ true) (sym s) owner in
    let same_owned = commit_owned x ((m.parts c).cells l).copy in
    subst (λ y. CellStep w c l e ((m.parts c).cells l) (act_row (line_id y) (home_of w y) (Commit h.0 x) ((m.parts c).cells y) ((m.parts c).homes y)).cell) s (record {
      entered = Owes h v mine (subst (λ y. Commits e h y v) line is.is) (λ g u y. (is.only g (line_id l) u y).0) (is.announces l) (is.acknowledges l) is.takes (owner_told (home_of w l) w c l m pl h.0 f a here) refl;
      alone = omega arith;
    })
commit_if w c l e h v k x m pl false i is mine owner f a =
    let n = not_same l k.0 i in
    record {
      entered = Stays refl (record { announces = is.announces l; acknowledges = is.acknowledges l; commits = λ g u y. n (ap (λ (z : LineId). z.0) (is.only g (line_id l) u y).1); gives = λ g d j y. is.takes g (DataEx (line_id l) d j) y });
      alone = a;
    }

store_entry : (w : Config) (c l : ℕ) (h : HartId) (n v : ℕ) (k : LineId) (m : Machine) (pl : Place) (b : List Stored) (s : Stored) (ss : List Stored) → b ≡ s ∷ ss → cluster_of w h.0 ≡ c → in_m h.0 ((m.parts c).cells k.0).copy ≡ true → Facts (home_of w l) (along w l m) pl c → Alone ((m.parts c).cells l) → CellStep w c l (kind.Commit h n k v) ((m.parts c).cells l) ((commit_row w h.0 k.0 b (m.parts c)).part.cells l)
store_entry w c l h n v k m pl b s ss e mine owner f a =
    subst (λ y. CellStep w c l (kind.Commit h n k v) ((m.parts c).cells l) ((commit_row w h.0 k.0 y (m.parts c)).part.cells l)) (sym e) (commit_if w c l (kind.Commit h n k v) h v k (written_in w s.word.0 s.mask s.value (content ((m.parts c).cells k.0).copy)) m pl (l == k.0) refl (record { is = (refl, refl, refl); only = λ g j u y. (sym y.0, sym y.1); announces = λ i. refl; acknowledges = λ i. refl; takes = λ g x q. absurd (cc) }) mine owner f a)

-- a message that is taken
message_entry : (w : Config) (l : ℕ) (v : Line) (m : Machine) (c u : ℕ) (f : ClusterId) (x : Msg) (d : HartEffect) (b o : Bool) → applies w c x (m.parts c) ≡ b → is_of l x ≡ o → l < lines w → head f.0 c (class_of x) m.net ≡ Some (parcel f.0 c x u) → Holds w l v m → Alone ((m.parts c).cells l) → CellStep w c l (kind.Take f x) ((m.parts c).cells l) ((msg_row_if b w c f.0 x d (m.parts c)).part.cells l)
message_entry w l v m c u f x d b true e i j h k a =
    let p = m.parts c in
    let first = on-head l f.0 c (class_of x) (parcel f.0 c x u) m.net i h in
    let applied = sym e ∙ case_applies w l v c f.0 u x p (along w l m) j i first refl k.invariant k.bounded in
    let r = take_on_if w c f.0 x d p l b applied i in
    subst (CellStep w c l (kind.Take f x) (p.cells l)) (sym r.cells) (record {
      entered = take_entry w c l (first_prefetch w) (home_of w l) (home_of w l) f u x (along w l m) k.invariant.place (p.homes l) i first (k.invariant.known c).facts;
      alone = take_alone (first_prefetch w) (home_of w l) c f.0 x (p.cells l) (p.homes l) a;
    })
message_entry w l v m c u f x d b false e i j h k a =
    subst (CellStep w c l (kind.Take f x) ((m.parts c).cells l)) (sym (take_off_if w c f.0 x d (m.parts c) l b i).cells) (record { entered = Stays refl (silent_off l f x i); alone = a })

pub cell_step : (w : Config) (l : ℕ) (v : Line) (m : Machine) (c u : ℕ) (e : Kind) (d : HartEffect) → l < lines w → Guard w c e d (m.parts c) → AtHead (taken c u e) m.net → Holds w l v m → Alone ((m.parts c).cells l) → CellStep w c l e ((m.parts c).cells l) ((row w c e d (m.parts c)).part.cells l)
unfolding row Guard
cell_step w l v m c u (kind.Take f x) d i can h k a = message_entry w l v m c u f x d (applies w c x (m.parts c)) (is_of l x) refl refl i h k a
cell_step w l v m c u (kind.Commit g n j z) d i can h k a = store_entry w c l g n z j m k.invariant.place ((m.parts c).harts g.0).buffer can.oldest can.others can.buffer can.mine can.owner (k.invariant.known c).facts a
cell_step w l v m c u (kind.Rmw x j z) d i can h k a = commit_if w c l (kind.Rmw x j z) x.hart z j (written_in w x.word.0 x.mask (unwrap_or x.written 0) (content ((m.parts c).cells j.0).copy)) m k.invariant.place (l == j.0) refl (record { is = (refl, refl, refl); only = λ g i u y. (sym y.0, sym y.1); announces = λ i. refl; acknowledges = λ i. refl; takes = λ g y q. absurd (cc) }) can.next.mine can.owner (k.invariant.known c).facts a
cell_step w l v m c u _ d i can h k a = view_entry w c l _ m k.invariant.place _ _ (view w c _ d (m.parts c) tt can) tt (k.invariant.known c).facts a
