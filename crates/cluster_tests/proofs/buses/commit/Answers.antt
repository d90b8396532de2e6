use Rattle.std.proofs.Common.{◌∙◌, sym}
use Rattle.snoop_bus.proofs.LawsOffered.{alone_shifted}
use Rattle.cluster_tests.proofs.buses.commit.Goals as goal

pub commit-requires-clause-only_holder : goal.commit-requires-clause-only_holder
commit-requires-clause-only_holder c =
    sym c.holders.ensures ∙ c.if-holders-hart.true ∙ alone_shifted c.args.hart c.if-hart-ge32.false
