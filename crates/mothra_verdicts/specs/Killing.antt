-- What is kept of the runs of the program on the tests, so that a
-- mutant is run from where it diverges from the program.
use Rattle.std.specs.Prelude.{ℕ, List}
use Rattle.std.specs.List.{AllZip}
use Rattle.f77_check.specs.Checked.{CheckedFields}
use Rattle.f77_run.specs.Visits.{IsFollowed}
use Rattle.f77_meaning.specs.declared.argument.Arg.{Arg}
use Rattle.f77_run.specs.declared.visits.Visits.{Visits}

-- for each test, where control came in the run of the program
abbrev pub AreFollowedOn : CheckedFields → ℕ → List (List Arg) → List Visits → Type 0
AreFollowedOn checked steps tests visits =
    AllZip (λ arguments visits. IsFollowed checked arguments steps visits) tests visits
