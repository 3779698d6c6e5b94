use Rattle.mothra_job.proofs.Common.{◌≡◌, Some, ◌∙◌, List, [], sym, ◌∷◌, refl, length, false, true≢false, ℤ, ◌==◌, each, integer, array_of_items, items_view}
use Rattle.mothra_job.proofs.Common.{Value}
use Rattle.f77_meaning.specs.declared.argument.Arg.TheVariants.{Ints}
use Rattle.mothra_job.proofs.suite.elements.Goals as goal

all_numbers : (values : List Value) (zs : List ℤ) → (length values == 0) ≡ false → each integer (items_view values) ≡ Some zs
    → Some (Ints zs) ≡ array_of_items (items_view values)
all_numbers [] zs some are = absurd (true≢false some)
all_numbers (value ∷ values) zs some are = rw are refl

pub returns-in-Some : goal.returns-in-Some
returns-in-Some c =
    all_numbers c.args.values.now c.in-Some.numbers (sym c.is_empty.ensures ∙ c.if-is_empty.false) (sym c.in_ok-numbers.ensures ∙ c.in-Some.is)
