-- Which lock words may be granted: those of this home for which someone waits.
use Rattle.std.proofs.Common.{◌≡◌, inl, inr, ℕ, ◌+◌, ◌<◌, true, false, List, [], ◌∷◌, length, map, refl, sym, ap, ◌∙◌, arith}
use Rattle.dash_event.specs.declared.event.Kind.{Kind}
use Rattle.dash_event.specs.declared.event.Kind.TheVariants as kind
use Rattle.queue_lock.specs.View.{is_own, lock_at, waiting}
use Rattle.queue_lock.specs.declared.waiter.Waiter.{Waiter as Asker}
use Rattle.queue_lock.proofs.LawsOffered.{queue_within}
use Rattle.dash_model.specs.Config as config
use Rattle.dash_model.specs.Config.{Config}
use Rattle.dash_model.specs.Part.{Part, Waiter, Lock}
use Rattle.dash_model.specs.HartRows.{HartEffect}
use Rattle.dash_model.specs.Guard.{Guard}
use Rattle.unit_rows.specs.declared.choice.Choice.{Choice}
use Rattle.unit_rows.specs.declared.choice.Choice.TheVariants as choice
use Rattle.unit_rows.specs.Shown.{PartsView, waiter_by, Shows, AreSized}
use Rattle.unit_rows.specs.Choices.{IsOf}
use Rattle.unit_rows.specs.Rows.{Enabled}
use Rattle.unit_rows.proofs.LawsOffered.{own_of}
use Rattle.cluster_unit.specs.Order.{kind_place, number_in}
use Rattle.cluster_unit.specs.Listing.{Offers, LeftOut, HasListed, IsBelow}
use Rattle.cluster_unit.proofs.Offering.{regraded, one_alone}
use Rattle.cluster_unit.proofs.InRange.{grants_own}

some_wait : (xs : List Asker) (y : Waiter) (ys : List Waiter) → map waiter_by xs ≡ y ∷ ys → 0 < length xs
some_wait [] y ys e = absurd (cc)
some_wait (x ∷ xs) y ys e = omega arith

word_waits : (w : Config) (c i : ℕ) (v : PartsView) (p : Part) (y : Waiter) (ys : List Waiter) → Shows w c v p → is_own v.locks i ≡ true → (p.locks i).queue ≡ y ∷ ys → 0 < waiting v.locks
word_waits w c i v p y ys shows own e =
    let some = some_wait (lock_at v.locks i).queue y ys (sym (ap (λ (l : Lock). l.queue) (shows.locks i own)) ∙ e) in
    let few = queue_within v.locks i own in
    omega (arith, some, few)

grant_waits : (w : Config) (c i : ℕ) (v : PartsView) (p : Part) (e : Kind) (d : HartEffect) → AreSized w c v → Shows w c v p → IsOf w c (choice.Grant i) e → Guard w c e d p → 0 < waiting v.locks
unfolding Guard
grant_waits w c i v p (kind.Grant a) d sized shows is guard = word_waits w c (config.lock_at w a.word.0) v p guard.waiter guard.others shows (own_of w c v a.word sized guard.mine) guard.queue
grant_waits w c i v p e d sized shows is guard = absurd is

pub no_grant : (w : Config) (c : ℕ) (v : PartsView) (p : Part) (y : Choice) → AreSized w c v → waiting v.locks ≡ 0 → Shows w c v p → Enabled w c y p → kind_place y ≡ 8 → ⊥
no_grant w c v p (choice.Grant i) sized none shows able at = let some = grant_waits w c i v p able.event able.done sized shows able.is_of able.guard in omega (arith, some, none)
no_grant w c v p y sized none shows able at = omega (arith, at)

less_than_none : (n : ℕ) (y : Choice) → IsBelow 8 0 y → IsBelow 8 n y
less_than_none n y (inl e) = inl e
less_than_none n y (inr e) = let low = e.1 in absurd (omega (arith, low))

of_others : (w : Config) (c n : ℕ) (v : PartsView) (p : Part) (y : Choice) → AreSized w c v → waiting v.locks ≡ 0 → Shows w c v p → Enabled w c y p → IsBelow 8 n y → IsBelow 8 0 y
of_others w c n v p y sized none shows able (inl e) = inl e
of_others w c n v p y sized none shows able (inr e) = absurd (no_grant w c v p y sized none shows able e.0)

-- where nobody waits
pub none_wait : (w : Config) (c n : ℕ) (v : PartsView) (xs : List Choice) → AreSized w c v → waiting v.locks ≡ 0 → HasListed w c v (IsBelow 8 0) xs → HasListed w c v (IsBelow 8 n) xs
none_wait w c n v xs sized none had = regraded w c v (IsBelow 8 0) (IsBelow 8 n) xs had (λ y d. less_than_none n y d) (λ y p shows own able e. of_others w c n v p y sized none shows able e)

-- a lock word of another home
pub not_own : (w : Config) (c i : ℕ) (v : PartsView) (xs : List Choice) → AreSized w c v → is_own v.locks i ≡ false → Offers w c v (choice.Grant i) xs xs
not_own w c i v xs sized other = LeftOut (λ p shows able. let t : true ≡ false = sym (grants_own w c i v p sized able) ∙ other in absurd (cc)) refl

grant_alone : (i : ℕ) (y : Choice) → kind_place y ≡ 8 → number_in y ≡ i → y ≡ choice.Grant i
grant_alone i (choice.Grant k) e f = ap choice.Grant f
grant_alone i y e f = absurd (omega (arith, e))

pub one_grant : (w : Config) (c i : ℕ) (v : PartsView) (old new : List Choice) → HasListed w c v (IsBelow 8 i) old → Offers w c v (choice.Grant i) old new → HasListed w c v (IsBelow 8 (i + 1)) new
one_grant w c i v old new had offers = one_alone w c v 8 i (choice.Grant i) old new refl refl (grant_alone i) had offers
