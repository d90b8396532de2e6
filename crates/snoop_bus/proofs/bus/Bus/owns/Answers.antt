use Rattle.std.proofs.Common.{◌<◌, ◌≤◌, ◌∙◌, length, get_or, ap, subst}
use Rattle.snoop_bus.proofs.Shares.{owner_here, no_owner_here}
use Rattle.snoop_bus.proofs.bus.Bus.owns.Goals as goal

pub returns-in-Some : goal.returns-in-Some
returns-in-Some c =
    let found = c.in-Some.ensures.lookup in
    let all = c.deref.ensures.value in
    let low = subst (λ hs. c.args.hart < length hs) all found.3.0 in
    let here = found.1 ∙ ap (λ hs. get_or hs c.args.hart c.in-Some.caches.now) all in
    c.owns.ensures ∙ owner_here c.self.inside.harts.items c.args.self.now c.args.hart c.args.line.0 c.in-Some.caches.now c.self.invariant c.self.view_is low here

pub returns-in-None : goal.returns-in-None
returns-in-None c =
    let found = c.in-None.ensures.lookup in
    no_owner_here c.self.inside.harts.items c.args.self.now c.args.hart c.args.line.0 c.self.invariant c.self.view_is (subst (λ hs. length hs ≤ c.args.hart) c.deref.ensures.value found.3)
