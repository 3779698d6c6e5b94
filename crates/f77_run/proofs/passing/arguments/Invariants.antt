use Rattle.f77_run.proofs.Common.{◌≡◌, length, List, Some, map, ◌++◌, drop, zip, AreFitting, values_in, size_of, span, AllHold, AreWithin, Arg}
use Rattle.f77_run.proofs.passing.arguments.Given as goal

-- the arguments so far, with the other ones
abbrev pub invariant-loop-shape : goal.invariant-loop-shape
invariant-loop-shape l = record {
  within : AreWithin (length l.cells) (zip (drop (length l.yielded) l.shapes) (drop (length l.yielded) l.dummies));
  hold : AllHold l.cells (zip (drop (length l.yielded) l.shapes) (drop (length l.yielded) l.dummies));
  fitting : (rest : List Arg) → AreFitting (drop (length l.yielded) l.shapes) rest → AreFitting l.shapes (l.arguments.items ++ rest);
  values : map (λ argument. map (λ v. Some v) (values_in argument)) l.arguments.items
      ++ map (λ pair. span pair.1 (size_of pair.0) l.cells) (zip (drop (length l.yielded) l.shapes) (drop (length l.yielded) l.dummies))
      ≡ map (λ pair. span pair.1 (size_of pair.0) l.cells) (zip l.shapes l.dummies);
}
