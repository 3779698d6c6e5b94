-- A change of one statement that is judged by that statement alone.
use Rattle.f77_legal.proofs.Common.{◌≡◌, List, ℕ, option_map, Symbol, IsLegal, HaveOneFrame, clause_fault, IsStock, first_clause, first_fault, StandsAlone}
use Rattle.f77_legal.proofs.Common.{replaced, LineFields, Statement}
use Rattle.f77_legal.proofs.Changed.{changed_fault}
use Rattle.f77_legal.proofs.FrameNames.{is_real_same, is_twice_same, elements_same, is_array_same}
use Rattle.f77_legal.proofs.PatchNames.{replaced_among}
use Rattle.f77_legal.proofs.Replaced.{replaced_frame}
use Rattle.f77_legal.proofs.Stocks.{stock_kept}

module _ (names : List Symbol) (p : List LineFields) (i : ℕ) (s : Statement) (alone : StandsAlone names p i s) where
  pub alone_frame : HaveOneFrame (replaced p i s) p
  alone_frame = replaced_frame p i alone.line s alone.at alone.frame

  pub alone_stock : IsStock names p → IsStock names (replaced p i s)
  alone_stock stock =
      stock_kept names p stock (replaced p i s)
      (is_real_same (replaced p i s) p alone_frame) (is_twice_same (replaced p i s) p alone_frame)
      (elements_same (replaced p i s) p alone_frame) (is_array_same (replaced p i s) p alone_frame)
      (replaced_among names p i s stock.covers alone.among)

  -- the first fault of the changed program is of the first clause that the changed statement breaks
  pub alone_fault : IsLegal p → IsStock names p → first_fault (replaced p i s) ≡ option_map (λ c. clause_fault c alone.line.line) (first_clause p i s)
  alone_fault legal stock = changed_fault p i alone.line s names alone.at legal alone.frame alone.ends (alone_stock stock)
