-- The lemmas that the crates above use. Nothing else of these proofs is imported across crates.
pub use Rattle.snoop_bus.proofs.Bits.{has_hart-alone, has_hart-with_hart, has_hart-without_hart, has_hart-zero, same_holders, alone_shifted}
pub use Rattle.snoop_bus.proofs.BusLines.{holding_at-changed, in_hart_l1-changed, harts-changed, holding_at-empty_bus, in_hart_l1-empty_bus, harts-empty_bus, holding_at-after_hart_read, in_hart_l1-after_hart_read, harts-after_hart_read, l1_lines-after_hart_read, l2_lines-after_hart_read}
pub use Rattle.snoop_bus.proofs.Bits.{has_hart-alone, has_hart-with_hart, has_hart-without_hart, has_hart-without_hart_only, has_hart-zero, same_holders, alone_shifted}
pub use Rattle.snoop_bus.proofs.BusLines.{holding_at-changed, in_hart_l1-changed, harts-changed, holding_at-empty_bus, in_hart_l1-empty_bus, harts-empty_bus, holding_at-after_hart_read, in_hart_l1-after_hart_read, harts-after_hart_read}
