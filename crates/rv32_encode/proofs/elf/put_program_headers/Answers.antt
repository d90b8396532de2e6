-- Each turn of the loop appends the header of the next segment, and the place of its bytes stays below all of them.
use Rattle.std.proofs.Common.{rules, ◌≡◌, length, arith}
use Rattle.rv32_encode.proofs.Append.{all-headers, fits-more, next-header, size-within}
use Rattle.rv32_encode.proofs.elf.put_program_headers.Goals as goal

-- src/elf.rt:68:20
pub overflow_cast-size : goal.overflow_cast-size
overflow_cast-size c =
    let size : c.len-size.result ≡ length c.segment-item.result.bytes = search rules in
    let within = size-within _ _ _ _ _ _ c.loop-segment-test.true c.segment-item.is size c.loop-segment.invariant.1 in
    let few = c.requires.few in
    let small = c.requires.small in
    omega arith

-- src/elf.rt:70:9
pub overflow_add-offset-in-loop-segment : goal.overflow_add-offset-in-loop-segment
overflow_add-offset-in-loop-segment c =
    let size : c.len-size.result ≡ length c.segment-item.result.bytes = search rules in
    let within = size-within _ _ _ _ _ _ c.loop-segment-test.true c.segment-item.is size c.loop-segment.invariant.1 in
    let few = c.requires.few in
    let small = c.requires.small in
    omega arith

pub loop-segment-preserved : goal.loop-segment-preserved
loop-segment-preserved c =
    let size : c.len-size.result ≡ length c.segment-item.result.bytes = search rules in
    let put = c.in_ok-put_program_header.ensures in
    let next = next-header _ _ _ _ _ _ _ _ _ c.loop-segment-test.true c.segment-item.is size c.loop-segment.invariant.0 c.loop-segment.invariant.1 put.bytes in
    (next.0, next.1, fits-more _ _ _ c.loop-segment-test.true c.segment-item.is put.fits c.loop-segment.invariant.2)

pub returns-clause-bytes : goal.returns-clause-bytes
returns-clause-bytes c = all-headers _ _ _ _ _ c.loop-segment-test.false c.loop-segment.invariant.0

pub returns-clause-fit : goal.returns-clause-fit
returns-clause-fit c = let over = c.loop-segment-test.false in λ k d inside. c.loop-segment.invariant.2 k d (omega arith)
