use Rattle.cluster_unit.proofs.InTheWay.{put_in}
use Rattle.cluster_unit.proofs.victims.add_line.Goals as goal

pub returns-clause-rising : goal.returns-clause-rising
returns-clause-rising c = (put_in c.args.lines.now.items c.as_slice.result.now c.insert.new.self.items c.args.line c.in-Err.place c.as_slice.ensures.value c.requires.rising c.in-Err.ensures.position c.insert.ensures.items).0

pub returns-clause-keeps : goal.returns-clause-keeps
returns-clause-keeps c = (put_in c.args.lines.now.items c.as_slice.result.now c.insert.new.self.items c.args.line c.in-Err.place c.as_slice.ensures.value c.requires.rising c.in-Err.ensures.position c.insert.ensures.items).1
