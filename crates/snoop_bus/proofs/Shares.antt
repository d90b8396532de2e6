-- What one hart is to a line, by its own caches: a holder of it, and its owner.
use Rattle.std.proofs.Common.{◌≡◌, ℕ, ◌<◌, ◌≤◌, ◌&&◌, Bool, true, false, List, length, get_or, Option, None, Some, refl, sym, ap, ◌∙◌, arith}
use Rattle.std.proofs.lemmas.List.{get_or_default}
use Rattle.cache_array.specs.View.{has_line}
use Rattle.snoop_bus.specs.Caches.{CachesView, owns}
use Rattle.snoop_bus.specs.Holding.{Holding, has_hart, is_owner, holders_in, owner_in, IsProper}
use Rattle.snoop_bus.specs.View.{BusView, is_holder, owner_at}
use Rattle.snoop_bus.specs.Shared.{gathered, bus_of, share_of_owner, AreOneMap}
use Rattle.snoop_bus.proofs.Gathered.{any_caches, has_hart-gathered_above}
use Rattle.snoop_bus.proofs.Table.{holding_at-bus_of}
use Rattle.snoop_bus.proofs.Becomes.{is_holder-bus_of}
use Rattle.snoop_bus.proofs.OnBus.{holders-gathered}

pub holder_here : (hs : List CachesView) (b : BusView) (h q : ℕ) (x : CachesView) → AreOneMap hs → bus_of hs ≡ b → h < length hs → x ≡ get_or hs h x → has_line x.levels.l2 q ≡ is_holder b h q
holder_here hs b h q x one is low here =
    ap (λ (y : CachesView). has_line y.levels.l2 q) (here ∙ get_or_default hs h x any_caches low)
    ∙ sym (is_holder-bus_of hs h q one low)
    ∙ ap (λ (c : BusView). is_holder c h q) is

pub no_holder_here : (hs : List CachesView) (b : BusView) (h q : ℕ) → AreOneMap hs → bus_of hs ≡ b → length hs ≤ h → false ≡ is_holder b h q
no_holder_here hs b h q one is high =
    sym (has_hart-gathered_above hs q h high)
    ∙ ap (λ n. has_hart n h) (sym (holders-gathered hs q one))
    ∙ ap (λ o. has_hart (holders_in o) h) (sym (holding_at-bus_of hs q))
    ∙ ap (λ (c : BusView). is_holder c h q) is

owner_share : (o : Option Holding) (h : ℕ) → share_of_owner o h ≡ is_owner (owner_in o) h
owner_share None h = refl
owner_share (Some x) h = refl

pub owner_here : (hs : List CachesView) (b : BusView) (h q : ℕ) (x : CachesView) → AreOneMap hs → bus_of hs ≡ b → h < length hs → x ≡ get_or hs h x → owns x q ≡ is_owner (owner_at b q) h
owner_here hs b h q x one is low here =
    ap (λ (y : CachesView). owns y q) here
    ∙ (one.spread q).owners h x low
    ∙ owner_share (gathered hs q) h
    ∙ ap (λ o. is_owner (owner_in o) h) (sym (holding_at-bus_of hs q))
    ∙ ap (λ (c : BusView). is_owner (owner_at c q) h) is

no_owner_above : (n h : ℕ) (o : Option Holding) (t : Bool) → IsProper n o → n ≤ h → is_owner (owner_in o) h ≡ t → false ≡ t
no_owner_above n h None t proper high e = e
no_owner_above n h (Some x) false proper high e = refl
no_owner_above n h (Some x) true proper high e = let low = proper.within h (proper.owner h e) in absurd (omega (arith, low, high))

pub no_owner_here : (hs : List CachesView) (b : BusView) (h q : ℕ) → AreOneMap hs → bus_of hs ≡ b → length hs ≤ h → false ≡ is_owner (owner_at b q) h
no_owner_here hs b h q one is high =
    no_owner_above (length hs) h (gathered hs q) _ (one.spread q).proper high refl
    ∙ ap (λ o. is_owner (owner_in o) h) (sym (holding_at-bus_of hs q))
    ∙ ap (λ (c : BusView). is_owner (owner_at c q) h) is

-- the owner, and the only holder, by two tests
pub fails_left : (a b : Bool) → a ≡ false → false ≡ (a && b)
fails_left true b e = absurd (cc)
fails_left false b e = refl

pub holds_left : (a b : Bool) → a ≡ true → b ≡ (a && b)
holds_left true b e = refl
holds_left false b e = absurd (cc)
