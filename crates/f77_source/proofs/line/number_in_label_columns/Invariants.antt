use Rattle.f77_source.proofs.Common.{◌≡◌, ◌<◌, take, ◌^◌, digits_value}
use Rattle.f77_source.proofs.Columns.{dense}
use Rattle.f77_source.proofs.line.number_in_label_columns.Given as goal

abbrev pub invariant-loop-c : goal.invariant-loop-c
invariant-loop-c l = (l.number ≡ digits_value 10 (dense (take l.c-index l.c-items))) × (l.number < 10 ^ l.c-index)
