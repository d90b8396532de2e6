-- The spool while its parcels go into the ring, and a parcel that the ring must have.
use Rattle.std.proofs.Common.{◌≡◌, ℕ, ◌+◌, ◌-◌, ◌<◌, ◌≤◌, List, length, drop, ◌++◌, ap, sym, ◌∙◌, arith}
use Rattle.std.proofs.lemmas.List.{drop-drop, length-drop, length-append}
use Rattle.dash_msg.specs.declared.parcel.Parcel.{Parcel}
use Rattle.mesh_lanes.specs.View.{OutletView, InletView}

-- from o to v some of the spool's first parcels went into the ring
pub record IsFlushing (o v : OutletView) : Type 0 where
  pub lane : v.lane ≡ o.lane
  pub sent : v.sent ≡ o.sent
  pub fewer : length v.spool ≤ length o.spool
  pub last : v.spool ≡ drop (length o.spool - length v.spool) o.spool
  pub room : o.free + length v.spool ≤ v.free + length o.spool
  pub spare : v.spare + length v.spool ≡ o.spare + length o.spool

one_less : (n : ℕ) (xs ys : List Parcel) → 0 < length ys → length ys ≤ n → ys ≡ drop (n - length ys) xs → drop 1 ys ≡ drop (n - length (drop 1 ys)) xs
one_less n xs ys p q e =
    let k : n - length ys + 1 ≡ n - length (drop 1 ys) = omega (arith, length-drop 1 ys, p, q) in
    ap (drop 1) e ∙ drop-drop 1 (n - length ys) xs ∙ ap (λ i. drop i xs) k

-- the spool's first parcel leaves, where f is the room that the ring turned out to have
pub one_more : (o v : OutletView) (f : ℕ) → v.free ≤ f → 0 < length v.spool → 0 < f → IsFlushing o v
    → IsFlushing o (record v { spool = drop 1 v.spool; free = f - 1; spare = v.spare + 1 })
one_more o v f more some free h = record {
  lane = h.lane;
  sent = h.sent;
  fewer = omega (arith, length-drop 1 v.spool, h.fewer);
  last = one_less (length o.spool) o.spool v.spool some h.fewer h.last;
  room = omega (arith, length-drop 1 v.spool, h.room, more, some, free);
  spare = omega (arith, length-drop 1 v.spool, h.spare, some);
}

-- what a lane has, in numbers
pub counts : (o : OutletView) (i : InletView) → (i.received ++ i.known) ++ o.spool ≡ o.sent → length i.received + length i.known + length o.spool ≡ length o.sent
counts o i e =
    ap (λ n. n + length o.spool) (sym (length-append i.received i.known)) ∙ sym (length-append (i.received ++ i.known) o.spool) ∙ ap length e
