use Rattle.std.proofs.Common.{rules}
use Rattle.trace_merge.proofs.Firsts.{last_is}
use Rattle.trace_merge.proofs.taking.last_stamp.Goals as goal

pub returns-in-Some : goal.returns-in-Some
returns-in-Some c = last_is c.args.log.now c.in-Some.event.now (search rules)
