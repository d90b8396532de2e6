-- The pair that is answered is that of the first segment which shares an address with another.
use Rattle.std.proofs.Common.{rules, None, ◌∙◌, ap}
use Rattle.elf_load.specs.Table.{least_clashing_from}
use Rattle.elf_load.proofs.Apart.{rising_apart}
use Rattle.elf_load.proofs.Scanned.{pair_is}
use Rattle.elf_load.proofs.overlap.first_overlap.Goals as goal

pub returns-then-rises : goal.returns-then-rises
returns-then-rises c = rising_apart c.args.segments.now (search rules)

pub returns : goal.returns
returns c =
    c.pair.ensures
    ∙ pair_is c.args.segments.now c.in_ok-sorted.sorted.items c.least_clashing-first.result c.requires c.in_ok-sorted.ensures.same c.in_ok-sorted.ensures.order
    (c.least_clashing-first.ensures ∙ ap (least_clashing_from 0 None) c.as_slice.ensures.value)
