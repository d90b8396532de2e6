use Rattle.std.proofs.Common.{◌≡◌, false, sym, ◌∙◌}
use Rattle.dash_base.specs.MemoryHost.{fails_load}
use Rattle.dash_base.proofs.Files.{load_served}
use Rattle.dash_base.proofs.memory_host.MemoryHostHost.load.Goals as goal

pub returns-in-Some-clause-fails : goal.returns-in-Some-clause-fails
returns-in-Some-clause-fails c =
    let served : fails_load c.args.name.now c.args.self.now ≡ false =
    load_served c.args.self.now c.args.name.now c.in-Some.bytes.now
    (rw (← c.self.view_is) (sym c.is_among-fails.ensures ∙ c.if-fails.false))
    (rw (← c.self.view_is) c.in-Some.ensures.found) in
    (λ failed. absurd (c.copy_within.ensures.failed failed), λ fails. cc)
