use Rattle.mothra_cli.proofs.Common.{◌≡◌, rules, ◌≤◌, ◌++◌, length, arith, take, ◌+◌, length-append, length-take-le}
use Rattle.std.proofs.KnownBytes.{Consumes-trans}
use Rattle.mothra_cli.proofs.input.read_input.Goals as goal

-- the bytes of the last read are lost with the others
pub returns-then-is_err-clause-taken : goal.returns-then-is_err-clause-taken
returns-then-is_err-clause-taken g c =
    let done = c.loop-chunk.bytes.items in
    let more = take c.in-Ok.count c.read.new.buf in
    let front : length more ≡ c.in-Ok.count = length-take-le c.in-Ok.count c.read.new.buf (search rules) in
    let few : c.loop-chunk.bytes.len + c.in-Ok.count ≤ 1048577 = search rules in (
      done ++ more,
      omega (arith, length-append done more, c.loop-chunk.bytes.ok.0, few, front),
      Consumes-trans _ _ _ _ _ c.loop-chunk.invariant.consumed c.in-Ok.ensures.bytes.0,
    )
