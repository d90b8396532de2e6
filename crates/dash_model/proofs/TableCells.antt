-- What holds of each line of a scene: of lines 6, 22 and 7, and of a line of which the cluster has nothing.
use Rattle.std.proofs.Common.{◌≡◌, ◌≢◌, ◌⊎◌, inl, inr, ℕ, zero, suc, ◌%◌, ◌≤◌, ◌<◌, ◌==◌, Bool, true, false, cond, refl, ap, arith}
use Rattle.std.proofs.lemmas.Bool.Decides.{nat_tests}
use Rattle.dash_model.specs.Maps.{total}
use Rattle.dash_model.specs.Cell.{Cell}
use Rattle.dash_model.specs.Words.{one_pending}
use Rattle.dash_model.specs.Wants.{CameFor}
use Rattle.dash_model.specs.TableParts.{empty}

-- a test that says the same of four cells, at the cell that is chosen
pub chosen : (f : Cell → Bool) (b c d v : Bool) (x y z u : Cell) → f x ≡ v → f y ≡ v → f z ≡ v → f u ≡ v → f (cond b x (cond c y (cond d z u))) ≡ v
chosen f true c d v x y z u p q r s = p
chosen f false true d v x y z u p q r s = q
chosen f false false true v x y z u p q r s = r
chosen f false false false v x y z u p q r s = s

not_6 : (k : ℕ) → k ≢ 6 → (k == 6) ≡ false
not_6 k n = grind (arith, nat_tests)

-- the same of each line but line 6
pub beside : (f : Cell → Bool) (k : ℕ) (v : Bool) (x y z u : Cell) → k ≢ 6 → f y ≡ v → f z ≡ v → f u ≡ v → f (cond (k == 6) x (cond (k == 22) y (cond (k == 7) z u))) ≡ v
beside f k v x y z u n q r s = rw not_6 (chosen f false (k == 22) (k == 7) v y y z u q q r s)

other_index : (k : ℕ) → k % 16 ≡ 6 → (k == 7) ≡ false
other_index k m = grind (arith, nat_tests)

-- the same of each line of the same index as line 6
pub beside_of_index : (f : Cell → Bool) (k : ℕ) (v : Bool) (x y z u : Cell) → k ≢ 6 → k % 16 ≡ 6 → f y ≡ v → f u ≡ v → f (cond (k == 6) x (cond (k == 22) y (cond (k == 7) z u))) ≡ v
beside_of_index f k v x y z u n m q s =
    rw (not_6, other_index) (chosen f false (k == 22) false v y y u u q q s s)

came_to : (c d : Bool) (h : ℕ) (y z : Cell) → (CameFor h y.slot → ⊥) → (CameFor h z.slot → ⊥) → CameFor h (cond c y (cond d z empty)).slot → ⊥
came_to true d h y z p q m = p m
came_to false true h y z p q m = q m
came_to false false h y z p q m = m

-- nothing came for the hart but perhaps line 6
pub came_beside : (k h : ℕ) (x y z : Cell) → k ≢ 6 → (CameFor h y.slot → ⊥) → (CameFor h z.slot → ⊥) → CameFor h (cond (k == 6) x (cond (k == 22) y (cond (k == 7) z empty))).slot → ⊥
came_beside k h x y z n p q m = came_to (k == 22) (k == 7) h y z p q (rw not_6 at m)

-- nor but a line of another index
pub came_of_index : (k h : ℕ) (x y z : Cell) → k ≢ 6 → k % 16 ≡ 6 → (CameFor h y.slot → ⊥) → CameFor h (cond (k == 6) x (cond (k == 22) y (cond (k == 7) z empty))).slot → ⊥
came_of_index k h x y z n i p m = came_to (k == 22) false h y empty p (λ e. e) (rw (not_6, other_index) at m)

zeros : (f : ℕ → ℕ) → ((l : ℕ) → f l ≡ 0) → (n : ℕ) → total f n ≡ 0
unfolding total
zeros f h zero = refl
zeros f h (suc n) = let a = h n in let b = zeros f h n in grind (arith)

pub nothing_pending : (b c d : Bool) (x y z : Cell) → one_pending x.acks ≡ 0 → one_pending y.acks ≡ 0 → one_pending z.acks ≡ 0 → one_pending (cond b x (cond c y (cond d z empty))).acks ≡ 0
nothing_pending true c d x y z p q r = p
nothing_pending false true d x y z p q r = q
nothing_pending false false true x y z p q r = r
nothing_pending false false false x y z p q r = refl

-- where nothing is pending, the acknowledgements have room
pub room_for_acks : (f : ℕ → ℕ) (n : ℕ) → ((l : ℕ) → f l ≡ 0) → total f n < 1
room_for_acks f n h = let e = zeros f h n in omega arith

pub nearer : (k n : ℕ) → k < suc n → (k < n) ⊎ (k ≡ n)
nearer k n h = grind arith

one_of_total : (f : ℕ → ℕ) (n k : ℕ) → k < n → f k ≤ total f n
unfolding total
one_of_total f zero k h = absurd (omega arith)
one_of_total f (suc n) k h =
    elim (nearer k n h) [ inl l ↦ let e = one_of_total f n k l in omega arith | inr e ↦ let g : f k ≡ f n = ap f e in omega arith ]

-- where a line is pending, one entry has no room
pub no_room_for_acks : (f : ℕ → ℕ) (n k : ℕ) → k < n → 1 ≤ f k → total f n < 1 → ⊥
no_room_for_acks f n k h one room = let e = one_of_total f n k h in omega arith
