use Rattle.std.proofs.Common.{◌∙◌, arith}
use Rattle.directory.proofs.Serving.{is_for_home, place_of_line, sent_is, after_is}
use Rattle.directory.proofs.home.Home.serve.Goals as goal

pub index_mut-kept-requires : goal.index_mut-kept-requires
index_mut-kept-requires c =
    let low = place_of_line _ _ _ _ c.self.invariant _ c.self.view_is c.args.from c.args.msg.now _ c.in-Some.line c.line_of.ensures c.in-Some.is (is_for_home c.args.self.now c.args.from c.args.msg.now c.requires) in
    omega (arith, low)

pub returns-in-Some-clause-sent : goal.returns-in-Some-clause-sent
returns-in-Some-clause-sent c =
    c.serve.ensures.sent
    ∙ sent_is _ _ _ _ c.self.invariant _ c.self.view_is c.args.from c.args.msg.now _ c.in-Some.line c.line_of.ensures c.in-Some.is (is_for_home c.args.self.now c.args.from c.args.msg.now c.requires) _ c.index_mut-kept.ensures.value

pub returns-in-Some-clause-after : goal.returns-in-Some-clause-after
returns-in-Some-clause-after c =
    after_is _ _ _ _ c.self.invariant _ c.self.view_is c.args.from c.args.msg.now _ c.in-Some.line c.line_of.ensures c.in-Some.is (is_for_home c.args.self.now c.args.from c.args.msg.now c.requires) _ _ c.index_mut-kept.ensures.value c.serve.ensures.kept
