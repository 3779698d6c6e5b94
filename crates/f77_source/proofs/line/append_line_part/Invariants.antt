use Rattle.f77_source.proofs.Common.{◌≡◌, ◌++◌, take, map, string_bytes, to_ascii_uppercase}
use Rattle.f77_source.proofs.Columns.{dense}
use Rattle.f77_source.proofs.line.append_line_part.Given as goal

abbrev pub invariant-loop-c : goal.invariant-loop-c
invariant-loop-c l = string_bytes l.text ≡ string_bytes l.initial.text ++ map to_ascii_uppercase (dense (take l.c-index l.c-items))
