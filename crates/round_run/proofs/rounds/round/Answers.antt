use Rattle.std.proofs.Common.{OnOk, length, sym, ap, ◌∙◌, subst}
use Rattle.round_run.specs.Units.{seen, NoneGrants}
use Rattle.round_run.proofs.RoundsCounted.{returned}
use Rattle.round_run.proofs.rounds.round.Goals as goal

pub returns-clause-granted : goal.returns-clause-granted
returns-clause-granted g c =
    let whole = returned c.args.units.now.len c.round_of.new.units c.args.units.now.items (c.round_of.ensures.same.count ∙ ap length c.as_mut_slice.ensures.value) (sym c.args.units.now.ok.0) in
    subst (λ l. OnOk c.round_of.result (NoneGrants (λ u. seen u.core u.turns u.steps u.ahead) l)) (sym whole) c.round_of.ensures.granted
