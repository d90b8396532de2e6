use Rattle.std.proofs.Common.{◌==◌, ◌∙◌, sym, ap₂}
use Rattle.snoop_bus.specs.Holding.{alone, is_owner}
use Rattle.snoop_bus.specs.View.{holders_at, owner_at}
use Rattle.snoop_bus.proofs.Bits.{alone_shifted}
use Rattle.snoop_bus.proofs.Shares.{fails_left, holds_left}
use Rattle.snoop_bus.proofs.bus.Bus.owns_alone.Goals as goal

pub returns-then-not-owns : goal.returns-then-not-owns
returns-then-not-owns c =
    fails_left (is_owner (owner_at c.args.self.now c.args.line.0) c.args.hart) (holders_at c.args.self.now c.args.line.0 == alone c.args.hart) (sym c.owns.ensures ∙ c.if-not-owns.true)

pub returns : goal.returns
returns c =
    ap₂ (λ x y. x == y) c.holders.ensures (alone_shifted c.args.hart c.requires)
    ∙ holds_left (is_owner (owner_at c.args.self.now c.args.line.0) c.args.hart) (holders_at c.args.self.now c.args.line.0 == alone c.args.hart) (sym c.owns.ensures ∙ c.if-not-owns.false)
