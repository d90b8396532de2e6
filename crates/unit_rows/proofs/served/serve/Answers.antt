use Rattle.std.proofs.Common.{◌≡◌, ◌∙◌, sym, subst, true, false, tests, rules}
use Rattle.directory.specs.View.{HomeView, is_served, sent_by}
use Rattle.unit_rows.specs.Shown.{config, shown, AreSized}
use Rattle.unit_rows.specs.Takes.{Takes}
use Rattle.unit_rows.proofs.Homes.{with_home, takes_served, takes_unserved, sized_home}
use Rattle.unit_rows.proofs.served.serve.Goals as goal

pub returns-then-not-serves-clause-took : goal.returns-then-not-serves-clause-took
returns-then-not-serves-clause-took c =
    let w = config c.args.site.now in
    let v = shown c.args.parts.now in
    let no : is_served c.args.parts.now.home c.args.from c.args.msg.now ≡ false = sym c.serves.ensures ∙ search (rules, tests) in
    subst (λ xs. Takes w c.args.site.now.cluster.0 c.args.from c.args.msg.now v v xs) (sym c.new.ensures) (takes_unserved w c.args.site.now.cluster.0 v c.args.from c.args.msg.now c.args.line c.requires.sized c.requires.from c.requires.line no)

pub returns-clause-took : goal.returns-clause-took
returns-clause-took c =
    let w = config c.args.site.now in
    let v = shown c.args.parts.now in
    let yes : is_served c.args.parts.now.home c.args.from c.args.msg.now ≡ true = sym c.serves.ensures ∙ search (rules, tests) in
    let done = takes_served w c.args.site.now.cluster.0 v c.args.from c.args.msg.now c.args.line c.requires.sized c.requires.from c.requires.line yes in
    subst (λ xs. Takes w c.args.site.now.cluster.0 c.args.from c.args.msg.now v (with_home v c.serve.new.self) xs) (sym c.serve.ensures.sent)
    (subst (λ (h : HomeView). Takes w c.args.site.now.cluster.0 c.args.from c.args.msg.now v (with_home v h) (sent_by v.home c.args.from c.args.msg.now)) (sym c.serve.ensures.after) done)

pub returns-clause-sized : goal.returns-clause-sized
returns-clause-sized c =
    subst (λ (h : HomeView). AreSized (config c.args.site.now) c.args.site.now.cluster.0 (with_home (shown c.args.parts.now) h)) (sym c.serve.ensures.after) (sized_home (config c.args.site.now) c.args.site.now.cluster.0 (shown c.args.parts.now) c.args.from c.args.msg.now c.requires.sized)
