-- The choices to take a message: just those whose lane shows one, each once, in their order.
use Rattle.std.proofs.Common.{◌≡◌, ◌⊎◌, ℕ, suc, zero, ◌<◌, ◌≤◌, nat_lt, Bool, true, false, List, [], ◌∷◌, ◌++◌, length, slice_index_or, slice_get, refl, sym, subst, inl, inr, arith}
use Rattle.std.proofs.lemmas.List.Elements.{Contains-append_left, Contains-append_right, Contains-append_cases}
use Rattle.std.proofs.lemmas.Bool.Decides.{nat_tests}
use Rattle.std.proofs.lemmas.List.{get_or_default}
use Rattle.std.specs.List.{Contains}
use Rattle.dash_msg.specs.declared.classes.Class.{Class}
use Rattle.dash_msg.specs.declared.classes.Class.TheVariants.{Request, Reply}
use Rattle.mesh_lanes.specs.View.{InletView}
use Rattle.dash_model.specs.Config.{Config, cluster_id}
use Rattle.dash_model.specs.Part.{Part}
use Rattle.unit_rows.specs.declared.choice.Choice.{Choice}
use Rattle.unit_rows.specs.declared.choice.Choice.TheVariants.{Take}
use Rattle.cluster_unit.specs.Enabling.{is_take}
use Rattle.cluster_unit.specs.Ends.{place, knows}
use Rattle.cluster_unit.specs.Takes.{take_if, takes_from, takes_of}
use Rattle.cluster_unit.specs.Order.{kind_place, IsBefore, IsBeforeAll, AreInOrder}

-- a choice to take a message from one of the first n clusters, whose lane shows one
pub record IsTakeOf (xs : List InletView) (n : ℕ) (x : Choice) : Type 0 where
  pub from : ℕ
  pub class : Class
  pub below : from < n
  pub is : x ≡ Take (cluster_id from) class
  pub shows : knows (slice_get xs (place from class)) ≡ true

one_there : (x y : Choice) → Contains (y ∷ []) x → x ≡ y
one_there x y (zero, low, e) = sym e
one_there x y (suc k, low, e) = absurd (let f : k < 0 = grind arith in grind arith)

pub none_there : (x : Choice) → Contains [] x → ⊥
none_there x (k, low, e) = grind arith

there_if : (xs : List InletView) (f n : ℕ) (k : Class) (b : Bool) (x : Choice) → f < n → knows (slice_get xs (place f k)) ≡ b → Contains (take_if b f k) x → IsTakeOf xs n x
there_if xs f n k true x low is there = record { from = f; class = k; below = low; is = one_there x (Take (cluster_id f) k) there; shows = is }
there_if xs f n k false x low is there = absurd (none_there x there)

from_just : (xs : List InletView) (f n : ℕ) (x : Choice) → f < n → Contains (takes_from xs f) x → IsTakeOf xs n x
from_just xs f n x low there = by_case (Contains-append_cases (take_if (knows (slice_get xs (place f Request))) f Request) (take_if (knows (slice_get xs (place f Reply))) f Reply) x there)
  where
    by_case : Contains (take_if (knows (slice_get xs (place f Request))) f Request) x ⊎ Contains (take_if (knows (slice_get xs (place f Reply))) f Reply) x → IsTakeOf xs n x
    by_case (inl c) = there_if xs f n Request (knows (slice_get xs (place f Request))) x low refl c
    by_case (inr c) = there_if xs f n Reply (knows (slice_get xs (place f Reply))) x low refl c

later : (xs : List InletView) (n : ℕ) (x : Choice) → IsTakeOf xs n x → IsTakeOf xs (suc n) x
later xs n x t = record { from = t.from; class = t.class; below = (let l = t.below in grind arith); is = t.is; shows = t.shows }

pub takes_just : (xs : List InletView) (n : ℕ) (x : Choice) → Contains (takes_of xs n) x → IsTakeOf xs n x
unfolding takes_of
takes_just xs zero x there = absurd (none_there x there)
takes_just xs (suc n) x there = by_half xs n x (Contains-append_cases (takes_of xs n) (takes_from xs n) x there) (takes_just xs n x)
  where
    by_half : (xs : List InletView) (n : ℕ) (x : Choice) → Contains (takes_of xs n) x ⊎ Contains (takes_from xs n) x → (Contains (takes_of xs n) x → IsTakeOf xs n x) → IsTakeOf xs (suc n) x
    by_half xs n x (inl c) before = later xs n x (before c)
    by_half xs n x (inr c) before = from_just xs n (suc n) x (grind arith) c

whole_if : (f : ℕ) (k : Class) (b : Bool) → b ≡ true → Contains (take_if b f k) (Take (cluster_id f) k)
whole_if f k true e = (0, grind arith, refl)
whole_if f k false e = absurd (cc)

from_whole : (xs : List InletView) (f : ℕ) (k : Class) → knows (slice_get xs (place f k)) ≡ true → Contains (takes_from xs f) (Take (cluster_id f) k)
from_whole xs f Request e = Contains-append_left (take_if (knows (slice_get xs (place f Request))) f Request) (take_if (knows (slice_get xs (place f Reply))) f Reply) (Take (cluster_id f) Request) (whole_if f Request (knows (slice_get xs (place f Request))) e)
from_whole xs f Reply e = Contains-append_right (take_if (knows (slice_get xs (place f Request))) f Request) (take_if (knows (slice_get xs (place f Reply))) f Reply) (Take (cluster_id f) Reply) (whole_if f Reply (knows (slice_get xs (place f Reply))) e)

last_or_before : (f n : ℕ) → f < suc n → (f < n) ⊎ (f ≡ n)
last_or_before f n low = by_test (nat_lt f n) refl
  where
    by_test : (b : Bool) → nat_lt f n ≡ b → (f < n) ⊎ (f ≡ n)
    by_test true e = inl (grind (arith, nat_tests))
    by_test false e = inr (let g : n ≤ f = grind (arith, nat_tests) in grind arith)

pub takes_whole : (xs : List InletView) (n f : ℕ) (k : Class) → f < n → knows (slice_get xs (place f k)) ≡ true → Contains (takes_of xs n) (Take (cluster_id f) k)
unfolding takes_of
takes_whole xs zero f k low shows = absurd (grind arith)
takes_whole xs (suc n) f k low shows = by_last xs n f k shows (last_or_before f n low) (λ below. takes_whole xs n f k below shows)
  where
    by_last : (xs : List InletView) (n f : ℕ) (k : Class) → knows (slice_get xs (place f k)) ≡ true → (f < n) ⊎ (f ≡ n) → (f < n → Contains (takes_of xs n) (Take (cluster_id f) k)) → Contains (takes_of xs n ++ takes_from xs n) (Take (cluster_id f) k)
    by_last xs n f k shows (inl below) before = Contains-append_left (takes_of xs n) (takes_from xs n) (Take (cluster_id f) k) (before below)
    by_last xs n f k shows (inr is) before = Contains-append_right (takes_of xs n) (takes_from xs n) (Take (cluster_id f) k) (subst (λ m. Contains (takes_from xs m) (Take (cluster_id f) k)) is (from_whole xs f k shows))

-- two lists in order, where each of the one stands before all of the other
before_append : (w : Config) (c : ℕ) (p : Part) (x : Choice) (ys zs : List Choice) → IsBeforeAll w c p x ys → IsBeforeAll w c p x zs → IsBeforeAll w c p x (ys ++ zs)
before_append w c p x [] zs a b = b
before_append w c p x (y ∷ ys) zs a b = (a.0, before_append w c p x ys zs a.1 b)

pub order_append : (w : Config) (c : ℕ) (p : Part) (xs ys : List Choice) → AreInOrder w c p xs → AreInOrder w c p ys → ((k : ℕ) (d : Choice) → k < length xs → IsBeforeAll w c p (slice_index_or xs k d) ys) → AreInOrder w c p (xs ++ ys)
order_append w c p [] ys a b between = b
order_append w c p (x ∷ xs) ys a b between =
    (before_append w c p x xs ys a.0 (between 0 x (grind arith)), order_append w c p xs ys a.1 b (λ k d low. between (suc k) d (grind arith)))

-- what stands before each of a list stands before all
pub before_each : (w : Config) (c : ℕ) (p : Part) (x : Choice) (ys : List Choice) → ((y : Choice) → Contains ys y → IsBefore w c p x y) → IsBeforeAll w c p x ys
before_each w c p x [] each = tt
before_each w c p x (y ∷ ys) each = (each y (0, grind arith, refl), before_each w c p x ys (λ z there. each z (suc there.0, (let l = there.1 in grind arith), there.2)))

pub itself_there : (xs : List Choice) (k : ℕ) (d : Choice) → k < length xs → Contains xs (slice_index_or xs k d)
itself_there xs k d low = (k, low, get_or_default xs k (slice_index_or xs k d) d low)

from_ordered : (w : Config) (c : ℕ) (p : Part) (f : ℕ) (a b : Bool) → AreInOrder w c p (take_if a f Request ++ take_if b f Reply)
from_ordered w c p f true true = ((inr (refl, inr (refl, tt)), tt), (tt, tt))
from_ordered w c p f true false = (tt, tt)
from_ordered w c p f false true = (tt, tt)
from_ordered w c p f false false = tt

take_before : (w : Config) (c : ℕ) (p : Part) (f g : ℕ) (j k : Class) (x y : Choice) → f < g → x ≡ Take (cluster_id f) j → y ≡ Take (cluster_id g) k → IsBefore w c p x y
take_before w c p f g j k x y low x_is y_is = subst (λ u. IsBefore w c p u y) (sym x_is) (subst (λ v. IsBefore w c p (Take (cluster_id f) j) v) (sym y_is) (inr (refl, inl low)))

at_from : (xs : List InletView) (n : ℕ) (x : Choice) → Contains (takes_from xs n) x → (k : Class) × (x ≡ Take (cluster_id n) k)
at_from xs n x there = by_case (Contains-append_cases (take_if (knows (slice_get xs (place n Request))) n Request) (take_if (knows (slice_get xs (place n Reply))) n Reply) x there)
  where
    of_if : (b : Bool) (k : Class) → Contains (take_if b n k) x → x ≡ Take (cluster_id n) k
    of_if true k there = one_there x (Take (cluster_id n) k) there
    of_if false k there = absurd (none_there x there)

    by_case : Contains (take_if (knows (slice_get xs (place n Request))) n Request) x ⊎ Contains (take_if (knows (slice_get xs (place n Reply))) n Reply) x → (k : Class) × (x ≡ Take (cluster_id n) k)
    by_case (inl c) = (Request, of_if (knows (slice_get xs (place n Request))) Request c)
    by_case (inr c) = (Reply, of_if (knows (slice_get xs (place n Reply))) Reply c)

pub takes_ordered : (w : Config) (c : ℕ) (p : Part) (xs : List InletView) (n : ℕ) → AreInOrder w c p (takes_of xs n)
unfolding takes_of
takes_ordered w c p xs zero = tt
takes_ordered w c p xs (suc n) =
    order_append w c p (takes_of xs n) (takes_from xs n) (takes_ordered w c p xs n) (from_ordered w c p n (knows (slice_get xs (place n Request))) (knows (slice_get xs (place n Reply))))
    (λ k d low. before_each w c p (slice_index_or (takes_of xs n) k d) (takes_from xs n)
    (λ y there. let t = takes_just xs n (slice_index_or (takes_of xs n) k d) (itself_there (takes_of xs n) k d low) in let u = at_from xs n y there in take_before w c p t.from n t.class u.0 (slice_index_or (takes_of xs n) k d) y t.below t.is u.1))

-- the kind of a choice to take a message is the last one
pub before_take : (w : Config) (c : ℕ) (p : Part) (x : Choice) (f : ℕ) (k : Class) → is_take x ≡ false → IsBefore w c p x (Take (cluster_id f) k)
before_take w c p x f k own = inl (sooner x own)
  where
    sooner : (x : Choice) → is_take x ≡ false → kind_place x < 9
    sooner (Take g j) own = absurd (cc)
    sooner x own = grind arith
