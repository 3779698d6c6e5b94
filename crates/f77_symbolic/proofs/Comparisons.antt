-- What comparisons of places and of steps tell, and checked operations.
use Rattle.f77_symbolic.proofs.Common.{rules, ◌≡◌, true, Option, Some, sym, ap, subst, SomeIff, Place, Execute, Increment, Step}
use Rattle.std.proofs.lemmas.Bool.Decides.{Decides-eqb}
use Rattle.f77_code.specs.contracts.control.PlacePartialEq.TheImpl as places
use denote.Enum.Bare.{same_true}
use Rattle.f77_symbolic.specs.contracts.sides.Step.{the_type}
use Rattle.f77_symbolic.specs.contracts.sides.StepPartialEq.TheImpl as steps

pub same_place : (a b : Place) → places.ghosts.eq a b ≡ true → b ≡ a
same_place (Execute i) (Execute j) e = ap (λ n. Execute n) (sym ((Decides-eqb i j).0 e))
same_place (Execute i) (Increment j) e = absurd (cc (e))
same_place (Increment i) (Execute j) e = absurd (cc (e))
same_place (Increment i) (Increment j) e = ap (λ n. Increment n) (sym ((Decides-eqb i j).0 e))

pub same_step : (a b : Step) → steps.ghosts.eq a b ≡ true → a ≡ b
same_step a b e = same_true the_type (search rules) a b e

-- what is given is this
pub some_so : {X : Type 0} (o : Option X) (P : Type 0) (n x : X) → SomeIff o P n → o ≡ Some x → x ≡ n
some_so o P n x is told = (subst (λ o. SomeIff o P n) told is).1
