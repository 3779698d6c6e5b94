-- Lines of a report as examples: every second mutant of ABS, for SUBROUTINE ADD(I,J,K), K=I+J, END and a test with the values 2, 3 and 0.
use Rattle.mothra_bench.proofs.Common.{◌≡◌, List, refl, [], ℕ, true, ◌∷◌, Some, Bool, false, codes, counts, operator_line, counts_line, mutant_line, score_line}
use Rattle.mothra_bench.proofs.Common.{score_of, survivor_line, wrong_line, bits_of, score_text, Entry, ticket, Abs, PlanFields}
use Rattle.std.specs.Fmt.{digits}
use Rattle.f77_check.specs.Checked.{CheckedFields}

abbrev plan_of : CheckedFields → PlanFields
plan_of checked = record { checked = checked; every = 2; lists = [] }

abbrev entry : ℕ → List Bool → Bool → Entry
entry number kills declared = record { ticket = ticket Abs number; kills = kills; declared = declared }

abbrev entries : List Entry
entries =
    entry 1 (false ∷ []) false
    ∷ entry 2 (false ∷ []) false
    ∷ entry 3 (true ∷ []) false
    ∷ entry 4 (false ∷ []) false
    ∷ entry 5 (false ∷ []) false
    ∷ []

operator : operator_line entries Abs ≡ codes "ABS 5 1 0\n"
unfolding digits
operator = refl

total : counts_line (codes "TOTAL") (counts entries) ≡ codes "TOTAL 5 1 0\n"
unfolding digits
total = refl

score : score_line (score_of (counts entries)) ≡ codes "SCORE 20.00\n"
unfolding digits
score = refl

no_score : score_line (score_of (counts [])) ≡ codes "SCORE NONE\n"
no_score = refl

two_thirds : score_text (Some 6666) ≡ codes "66.66"
unfolding digits
two_thirds = refl

below_one : score_text (Some 5) ≡ codes "0.05"
unfolding digits
below_one = refl

all_killed : score_text (Some 10000) ≡ codes "100.00"
unfolding digits
all_killed = refl

bits : bits_of (true ∷ false ∷ true ∷ []) ≡ codes "101"
bits = refl

no_bits : bits_of [] ≡ codes "-"
no_bits = refl

killed : (checked : CheckedFields) → mutant_line (plan_of checked) (entry 3 (true ∷ []) false) ≡ codes "MUTANT ABS 3 5 K 1\n"
unfolding digits
killed checked = refl

survived : (checked : CheckedFields) → mutant_line (plan_of checked) (entry 2 (false ∷ []) false) ≡ codes "MUTANT ABS 2 3 S 0\n"
unfolding digits
survived checked = refl

equivalent : (checked : CheckedFields) → mutant_line (plan_of checked) (entry 2 (false ∷ []) true) ≡ codes "MUTANT ABS 2 3 E 0\n"
unfolding digits
equivalent checked = refl

wrongly_declared : (checked : CheckedFields) → mutant_line (plan_of checked) (entry 3 (true ∷ []) true) ≡ codes "MUTANT ABS 3 5 W 1\n"
unfolding digits
wrongly_declared checked = refl

wrong : (checked : CheckedFields) → wrong_line (plan_of checked) (entry 3 (true ∷ []) true) ≡ codes "WRONG ABS 3 5\n"
unfolding digits
wrong checked = refl

no_survivor : (checked : CheckedFields) → survivor_line (plan_of checked) (entry 3 (true ∷ []) false) ≡ []
no_survivor checked = refl
