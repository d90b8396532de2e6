-- A log leads to one part, and sends one list of messages.
use Rattle.std.proofs.Common.{◌≡◌, ℕ, List, [], ◌∷◌, ◌++◌, map, refl, sym, ap, ap₂, ◌∙◌, subst}
use Rattle.dash_event.specs.declared.event.Event.{Event}
use Rattle.dash_model.specs.Config.{Config}
use Rattle.dash_model.specs.Net.{packet}
use Rattle.dash_model.specs.Part.{Part}
use Rattle.dash_model.specs.HartRows.{HartEffect, PartEffect}
use Rattle.dash_model.specs.Guard.{Guard}
use Rattle.dash_model.specs.Machine.{Step, event_of, part_after, sends}
use Rattle.dash_model.specs.LocalRun.{IsLocalRun, part_at, sent_in}
use Rattle.dash_model.proofs.LawsOffered.{row_same}

-- two steps of one event make the same part
after_one : (w : Config) (c : ℕ) (p : Part) (e f : Event) (u v : ℕ) (d g : HartEffect) → e ≡ f → Guard w c e.kind d p → Guard w c f.kind g p
    → part_after w c (record { event = e; stamp = u; done = d }) p ≡ part_after w c (record { event = f; stamp = v; done = g }) p
after_one w c p e f u v d g is a b =
    subst (λ (y : Event). part_after w c (record { event = e; stamp = u; done = d }) p ≡ part_after w c (record { event = y; stamp = v; done = g }) p) is
    (ap (λ (r : PartEffect). record r.part { last = e.stamp }) (row_same w c e.kind d g p a (subst (λ (y : Event). Guard w c y.kind g p) (sym is) b)))

pub first_is : (e f : Event) (es fs : List Event) → e ∷ es ≡ f ∷ fs → e ≡ f
first_is e f es fs is = cc

pub rest_is : (e f : Event) (es fs : List Event) → e ∷ es ≡ f ∷ fs → es ≡ fs
rest_is e f es fs is = cc

pub same_part : (w : Config) (c : ℕ) (p : Part) (gs hs : List Step) → map event_of gs ≡ map event_of hs → IsLocalRun w c p gs → IsLocalRun w c p hs → part_at w c p gs ≡ part_at w c p hs
same_part w c p [] [] is r s = refl
same_part w c p [] (h ∷ hs) is r s = absurd (cc)
same_part w c p (g ∷ gs) [] is r s = absurd (cc)
same_part w c p (g ∷ gs) (h ∷ hs) is r s =
    let next : part_after w c g p ≡ part_after w c h p = after_one w c p g.event h.event g.stamp h.stamp g.done h.done (first_is g.event h.event (map event_of gs) (map event_of hs) is) r.0.guard s.0.guard in
    same_part w c (part_after w c g p) gs hs (rest_is g.event h.event (map event_of gs) (map event_of hs) is) r.1 (subst (λ y. IsLocalRun w c y hs) (sym next) s.1)
    ∙ ap (λ y. part_at w c y hs) next

-- and they send the same
sends_one : (w : Config) (c : ℕ) (p : Part) (e f : Event) (u v : ℕ) (d g : HartEffect) → e ≡ f → Guard w c e.kind d p → Guard w c f.kind g p
    → sends w c (record { event = e; stamp = u; done = d }) p ≡ sends w c (record { event = f; stamp = v; done = g }) p
sends_one w c p e f u v d g is a b =
    subst (λ (y : Event). sends w c (record { event = e; stamp = u; done = d }) p ≡ sends w c (record { event = y; stamp = v; done = g }) p) is
    (ap (λ (r : PartEffect). map (packet e.stamp c) r.sent) (row_same w c e.kind d g p a (subst (λ (y : Event). Guard w c y.kind g p) (sym is) b)))

pub same_sent : (w : Config) (c : ℕ) (p : Part) (gs hs : List Step) → map event_of gs ≡ map event_of hs → IsLocalRun w c p gs → IsLocalRun w c p hs → sent_in w c p gs ≡ sent_in w c p hs
unfolding sent_in
same_sent w c p [] [] is r s = refl
same_sent w c p [] (h ∷ hs) is r s = absurd (cc)
same_sent w c p (g ∷ gs) [] is r s = absurd (cc)
same_sent w c p (g ∷ gs) (h ∷ hs) is r s =
    let first = first_is g.event h.event (map event_of gs) (map event_of hs) is in
    let next : part_after w c g p ≡ part_after w c h p = after_one w c p g.event h.event g.stamp h.stamp g.done h.done first r.0.guard s.0.guard in
    ap₂ (λ xs ys. xs ++ ys)
    (sends_one w c p g.event h.event g.stamp h.stamp g.done h.done first r.0.guard s.0.guard)
    (same_sent w c (part_after w c g p) gs hs (rest_is g.event h.event (map event_of gs) (map event_of hs) is) r.1 (subst (λ y. IsLocalRun w c y hs) (sym next) s.1)
    ∙ ap (λ y. sent_in w c y hs) next)
