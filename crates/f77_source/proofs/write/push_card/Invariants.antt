use Rattle.f77_source.proofs.Common.{◌≡◌, ◌++◌, string_bytes, flat_map, range_with_len, continuation_line, initial_line}
use Rattle.f77_source.proofs.write.push_card.Given as goal

abbrev pub invariant-loop-index : goal.invariant-loop-index
invariant-loop-index l =
    string_bytes l.out ≡ string_bytes l.fn.out ++ (initial_line l.card ++ flat_map (continuation_line l.card.text) (range_with_len 1 l.index))
