-- The weights of the invalidations that a home sends at once.
use Rattle.std.proofs.Common.{◌≡◌, ◌≢◌, ℕ, ◌+◌, ◌≤◌, ◌==◌, ◌||◌, Bool, true, false, not, cond, List, [], ◌∷◌, ◌++◌, length, map, refl, ap, arith}
use Rattle.std.proofs.lemmas.Bool.Decides.{nat_tests}
use Rattle.dash_base.specs.declared.id.LineId.{LineId}
use Rattle.dash_base.specs.declared.line.Line.{Line}
use Rattle.dash_msg.specs.declared.msg.Msg.TheVariants.{Inval}
use Rattle.dash_msg.specs.declared.parcel.Sent.{Sent}
use Rattle.dash_model.specs.Maps.{weigh, member, without}
use Rattle.dash_model.specs.Config.{cluster_id}
use Rattle.dash_model.specs.Net.{Packet, packet, send, to}
use Rattle.dash_model.specs.Requests.{invals_to}
use Rattle.dash_model.specs.OnLine.{reads, datas, wants, brings, naks, gives_back, leaves, gains, acks_to, counts_to, shares, invals, invals_at}
use Rattle.dash_model.proofs.Weigh.{weigh-append}
use Rattle.dash_model.proofs.Facts.{misrouted, back_any, own_invals, old_brings, old_backs, datas_weight}

-- invalidations for r to these clusters, as packets of cluster a
unfoldable pub burst : LineId → ℕ → ℕ → ℕ → List ℕ → List Packet
burst l t a r cs = map (packet t a) (invals_to l r cs)

append_map : (t a : ℕ) (xs ys : List Sent) → map (packet t a) (xs ++ ys) ≡ map (packet t a) xs ++ map (packet t a) ys
append_map t a [] ys = refl
append_map t a (x ∷ xs) ys = ap (λ zs. packet t a x ∷ zs) (append_map t a xs ys)

pub send-burst : (w : Packet → ℕ) (net : List Packet) (l : LineId) (t a r : ℕ) (cs : List ℕ) (m : Sent)
    → weigh w (send net t a (invals_to l r cs ++ (m ∷ []))) ≡ weigh w net + weigh w (burst l t a r cs) + w (packet t a m)
unfolding send weigh burst
send-burst w net l t a r cs m =
    let e = weigh-append w net (map (packet t a) (invals_to l r cs ++ (m ∷ []))) in
    let f : weigh w (map (packet t a) (invals_to l r cs ++ (m ∷ []))) ≡ weigh w (map (packet t a) (invals_to l r cs) ++ (packet t a m ∷ [])) =
    ap (weigh w) (append_map t a (invals_to l r cs) (m ∷ [])) in
    let g = weigh-append w (map (packet t a) (invals_to l r cs)) (packet t a m ∷ []) in
    omega arith

-- a weight that no invalidation has
weightless : (w : Packet → ℕ) (l : LineId) (t a r : ℕ) → ((c : ℕ) → w (packet t a (to c (Inval l (cluster_id r)))) ≡ 0) → (cs : List ℕ)
    → weigh w (burst l t a r cs) ≡ 0
unfolding burst weigh invals_to
weightless w l t a r f [] = refl
weightless w l t a r f (c ∷ cs) =
    let e = f c in
    let ih = weightless w l t a r f cs in
    omega arith

pub reads-burst : (x : ℕ) (l : LineId) (t a r : ℕ) (cs : List ℕ) → weigh (reads x) (burst l t a r cs) ≡ 0
reads-burst x l t a r cs = weightless (reads x) l t a r (λ c. refl) cs

pub datas-burst : (x : ℕ) (l : LineId) (t a r : ℕ) (cs : List ℕ) → weigh (datas x) (burst l t a r cs) ≡ 0
datas-burst x l t a r cs = weightless (datas x) l t a r (λ c. refl) cs

pub wants-burst : (x : ℕ) (l : LineId) (t a r : ℕ) (cs : List ℕ) → weigh (wants x) (burst l t a r cs) ≡ 0
wants-burst x l t a r cs = weightless (wants x) l t a r (λ c. refl) cs

pub brings-burst : (x : ℕ) (l : LineId) (t a r : ℕ) (cs : List ℕ) → weigh (brings x) (burst l t a r cs) ≡ 0
brings-burst x l t a r cs = weightless (brings x) l t a r (λ c. refl) cs

pub naks-burst : (x : ℕ) (l : LineId) (t a r : ℕ) (cs : List ℕ) → weigh (naks x) (burst l t a r cs) ≡ 0
naks-burst x l t a r cs = weightless (naks x) l t a r (λ c. refl) cs

pub gives_back-burst : (x : ℕ) (l : LineId) (t a r : ℕ) (cs : List ℕ) → weigh (gives_back x) (burst l t a r cs) ≡ 0
gives_back-burst x l t a r cs = weightless (gives_back x) l t a r (λ c. refl) cs

pub leaves-burst : (x : ℕ) (l : LineId) (t a r : ℕ) (cs : List ℕ) → weigh (leaves x) (burst l t a r cs) ≡ 0
leaves-burst x l t a r cs = weightless (leaves x) l t a r (λ c. refl) cs

pub gains-burst : (x : ℕ) (l : LineId) (t a r : ℕ) (cs : List ℕ) → weigh (gains x) (burst l t a r cs) ≡ 0
gains-burst x l t a r cs = weightless (gains x) l t a r (λ c. refl) cs

pub acks_to-burst : (x : ℕ) (l : LineId) (t a r : ℕ) (cs : List ℕ) → weigh (acks_to x) (burst l t a r cs) ≡ 0
acks_to-burst x l t a r cs = weightless (acks_to x) l t a r (λ c. refl) cs

pub counts_to-burst : (x : ℕ) (l : LineId) (t a r : ℕ) (cs : List ℕ) → weigh (counts_to x) (burst l t a r cs) ≡ 0
counts_to-burst x l t a r cs = weightless (counts_to x) l t a r (λ c. refl) cs

pub shares-burst : (x : ℕ) (l : LineId) (t a r : ℕ) (cs : List ℕ) → weigh (shares x) (burst l t a r cs) ≡ 0
shares-burst x l t a r cs = weightless (shares x) l t a r (λ c. refl) cs

pub misrouted-burst : (h : ℕ) (l : LineId) (t r : ℕ) (cs : List ℕ) → weigh (misrouted h) (burst l t h r cs) ≡ 0
misrouted-burst h l t r cs = weightless (misrouted h) l t h r (λ c. let e : (h == h) ≡ true = grind (arith, nat_tests) in ap (λ b. cond {A = ℕ} b 0 1) e) cs

pub back_any-burst : (l : LineId) (t a r : ℕ) (cs : List ℕ) → weigh back_any (burst l t a r cs) ≡ 0
back_any-burst l t a r cs = weightless back_any l t a r (λ c. refl) cs

pub invals-burst : (x : ℕ) (l : LineId) (t a r : ℕ) (cs : List ℕ) → weigh (invals x) (burst l t a r cs) ≡ cond (r == x) (length cs) 0
unfolding burst weigh invals_to
invals-burst x l t a r [] = grind (arith, nat_tests)
invals-burst x l t a r (c ∷ cs) =
    let ih = invals-burst x l t a r cs in
    grind (arith, nat_tests)

own_tail : (x : ℕ) (l : LineId) (t a r c : ℕ) (cs : List ℕ) (i : Bool) → (c == r) ≡ i → weigh (own_invals x) (burst l t a r cs) ≡ 0
    → weigh (own_invals x) (burst l t a r (cond (not i) (c ∷ cs) cs)) ≡ 0
unfolding burst weigh invals_to
own_tail x l t a r c cs true e ih = ih
own_tail x l t a r c cs false e ih = grind (arith, nat_tests)

pub own_invals-burst : (x : ℕ) (l : LineId) (t a r : ℕ) (cs : List ℕ) → weigh (own_invals x) (burst l t a r (without r cs)) ≡ 0
unfolding burst weigh invals_to without
own_invals-burst x l t a r [] = refl
own_invals-burst x l t a r (c ∷ cs) = own_tail x l t a r c (without r cs) (c == r) refl (own_invals-burst x l t a r cs)

at_tail : (x : ℕ) (l : LineId) (t a r c : ℕ) (cs : List ℕ) (i j : Bool) → (c == r) ≡ i → (c == x) ≡ j → x ≢ r → j || member x cs ≡ true
    → (member x cs ≡ true → 1 ≤ weigh (invals_at x) (burst l t a r (without r cs)))
    → 1 ≤ weigh (invals_at x) (burst l t a r (cond (not i) (c ∷ without r cs) (without r cs)))
unfolding burst weigh invals_to
at_tail x l t a r c cs true true e f n m ih = grind (arith, nat_tests)
at_tail x l t a r c cs true false e f n m ih = ih m
at_tail x l t a r c cs false true e f n m ih = grind (arith, nat_tests)
at_tail x l t a r c cs false false e f n m ih = let k = ih m in grind (arith, nat_tests)

-- each sharer but r is sent one
pub invals_at-burst : (x : ℕ) (l : LineId) (t a r : ℕ) (cs : List ℕ) → x ≢ r → member x cs ≡ true
    → 1 ≤ weigh (invals_at x) (burst l t a r (without r cs))
unfolding burst weigh invals_to without member
invals_at-burst x l t a r [] n m = absurd (cc)
invals_at-burst x l t a r (c ∷ cs) n m = at_tail x l t a r c cs (c == r) (c == x) refl refl n m (λ k. invals_at-burst x l t a r cs n k)

pub old_brings-burst : (v : Line) (x : ℕ) (l : LineId) (t a r : ℕ) (cs : List ℕ) → weigh (old_brings v x) (burst l t a r cs) ≡ 0
old_brings-burst v x l t a r cs = weightless (old_brings v x) l t a r (λ c. refl) cs

pub old_backs-burst : (v : Line) (x : ℕ) (l : LineId) (t a r : ℕ) (cs : List ℕ) → weigh (old_backs v x) (burst l t a r cs) ≡ 0
old_backs-burst v x l t a r cs = weightless (old_backs v x) l t a r (λ c. refl) cs

pub datas_weight-burst : (b : Line → ℕ) (x : ℕ) (l : LineId) (t a r : ℕ) (cs : List ℕ) → weigh (datas_weight b x) (burst l t a r cs) ≡ 0
datas_weight-burst b x l t a r cs = weightless (datas_weight b x) l t a r (λ c. refl) cs

pub ruleset vbursts = (send-burst, old_brings-burst, old_backs-burst, datas_weight-burst)

pub ruleset bursts =
    (send-burst, reads-burst, datas-burst, wants-burst, brings-burst, naks-burst, gives_back-burst, leaves-burst, gains-burst, acks_to-burst, counts_to-burst, shares-burst, misrouted-burst, back_any-burst, invals-burst, own_invals-burst)
