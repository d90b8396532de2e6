use Rattle.std.proofs.Common.{arith, ℤ, ◌≤ℤ◌}
use Rattle.std.proofs.lemmas.Int.{ints}
use Rattle.rv32_asm.proofs.Immediate.{fits_immediate}
use Rattle.rv32_asm.proofs.immediates.immediate_of.Goals as goal

pub invariant_of-instr : goal.invariant_of-instr
invariant_of-instr c =
    let low : c.least_of.result ≤ℤ c.number_field-imm.result.value = omega (arith, ints) in
    let high : c.number_field-imm.result.value ≤ℤ c.greatest_of.result = omega (arith, ints) in
    record {
      has_form = c.requires;
      rd_in_range = c.number.ensures.in_range;
      rs1_in_range = c.number-2.ensures.in_range;
      imm_in_range = fits_immediate c.args.op _ c.number_field-imm.result.value c.least_of.result c.greatest_of.result (omega (arith, ints)) c.least_of.ensures.value c.greatest_of.ensures.value low high;
    }
