use Rattle.cluster_unit.proofs.unit_core.Core.list_after.Goals as goal

pub list_arrived-requires-clause-rests : goal.list_arrived-requires-clause-rests
list_arrived-requires-clause-rests c = c.requires.rests c.in-Idle.is
