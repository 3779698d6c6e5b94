-- Which mutants of the program of a job are named, and the text that names them.
use Rattle.std.specs.Prelude.{◌≡◌, List, Ok}
use Rattle.equivalents_app.specs.Prelude.{Arg, Found, Inquiry, JobFields, Outcome, Promise, InTurn}
use Rattle.equivalents_app.specs.Prelude.{IsPlanned, of_mutants, PlanFields}
use Rattle.equivalents_app.specs.Room.{AreNamedMutants}
use Rattle.equivalents_app.specs.Rendering.{written_text}
use Rattle.equivalents_app.specs.Words.{equivalents_line}
use Rattle.mothra_equivalents.specs.Equivalents.{AreUnprovedFor}

-- The text names mutants of the plan, for each of which the tests leave room under the limit on
-- steps; where rows are asked for, it has rows of others, and tells where their proofs were given
-- up; and it says how many were left at the bound on work. Which others, which rows, and whether
-- they kill, is left open.
pub record IsNamedIn (tests : List (List Arg)) (i : Inquiry) (plan : PlanFields)
    (outcome : Outcome) : Type 0 where
  pub found : Found
  pub are : AreNamedMutants plan tests i.steps found.list.items
  pub are_others : AreUnprovedFor plan found.list.items i.rows found.others.items
  pub is : outcome ≡ Ok (written_text plan found i.json)

-- the outcome of an inquiry for a job: the text that names equivalent mutants of the plan; or the
-- first fault. Which equivalent mutants are named is left open, but only such are named.
abbrev pub IsFound : Inquiry → JobFields → Outcome → Type 0
IsFound i job = InTurn (IsPlanned job.source i.operators i.every) (IsNamedIn job.suite i)

-- Rule: what `equivalents` writes
abbrev pub equivalents_promise : Promise Inquiry
equivalents_promise = record {
  line = equivalents_line;
  IsOutcome = IsFound;
  faults = λ i. of_mutants;
}
