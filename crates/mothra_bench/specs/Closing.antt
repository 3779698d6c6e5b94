-- How an operator is closed.
use Rattle.std.specs.Prelude.{ℕ, slice_index}
use Rattle.mothra_codes.specs.declared.op.Op.{Op}
use Rattle.mothra_codes.specs.Op.{index}
use Rattle.mothra_exchange.specs.declared.view.View.{View}
use Rattle.mothra_exchange.specs.declared.word.Word.{Word}
use Rattle.mothra_exchange.specs.View.{look_at}

-- how many tickets the operator has, and the word of it that the pass saw last
abbrev pub count_of : View → Op → ℕ
count_of view op = slice_index view.counts (index op)

abbrev pub seen_of : View → Op → Word
seen_of view op = (look_at view (index op)).seen
