-- What an event that does no instruction has of one: nothing that its row looks at.
use Rattle.dash_base.specs.declared.need.Need.TheVariants.{Rest}
use Rattle.hart_core.specs.Opening.{opening_hart}
use Rattle.dash_model.specs.Config.{Config}
use Rattle.dash_model.specs.HartRows.{HartEffect}

abbrev pub no_instruction : Config → HartEffect
no_instruction w = record { need = Rest; next = opening_hart w.image w.top 0 }
