-- The program is run on the tests of a bench in order.
use Rattle.mothra_verdicts.proofs.Common.{◌≡◌, subst, List, sym, ◌∙◌, ap, map, arith, length, take, ℕ, All, None, Bool, [], ◌<◌, ◌∷◌, take_all, true, ◌++◌}
use Rattle.mothra_verdicts.proofs.Common.{false, get_or, true≢false, ◌+◌, IsTrue, drop, length-take-le, ◌↔◌, ◌≤◌, take-append-drop, All-nil, All-push, All-cons}
use Rattle.mothra_verdicts.proofs.Common.{All-get_or, All-head, All-more, All-tail, all_zipped_more, CheckedFields, IsOutcomeOf, refusal, Arg, Outcome, line_of}
use Rattle.mothra_verdicts.proofs.Common.{LineFields, IsFollowed, AreOutcomes, EndsOn, IsEnd, IsFirstNot, AreTraces}
use Rattle.std.proofs.lemmas.List.{take_more, drop_more}
use Rattle.f77_check.specs.declared.checked.Shape.{Shape}
use Rattle.f77_run.specs.declared.visits.Visits.{Visits}

-- a list, cut at an item
pub cut_at : {X : Type 0} (xs : List X) (i : ℕ) (x : X) → i < length xs → x ≡ get_or xs i x → xs ≡ take i xs ++ x ∷ drop (i + 1) xs
cut_at xs i x within is =
    sym (take-append-drop i xs) ∙ ap (λ rest. take i xs ++ rest) (drop_more xs i x within ∙ ap (λ y. y ∷ drop (i + 1) xs) (sym is))

-- the first items of a list, with one item more
pub next_taken : {X : Type 0} (xs : List X) (i : ℕ) (x : X) → i < length xs → x ≡ get_or xs i x → take (i + 1) xs ≡ take i xs ++ x ∷ []
next_taken xs i x within is = take_more xs i x within ∙ ap (λ y. take i xs ++ y ∷ []) (sym is)

-- the first item of which the property does not hold
pub first_not : {X : Type 0} (P : X → Type 0) (xs : List X) (i : ℕ) (x : X) → i < length xs → x ≡ get_or xs i x → All P (take i xs) → ¬ (P x)
    → IsFirstNot P xs (i + 1)
first_not P xs i x within is hold fails = record {
  before = take i xs;
  item = x;
  after = drop (i + 1) xs;
  cut = cut_at xs i x within is;
  number = ap (λ n. n + 1) (sym (length-take-le i xs (omega (arith, within))));
  hold = hold;
  fails = fails;
}

-- one more item of which the property holds
pub one_more : {X : Type 0} (P : X → Type 0) (xs : List X) (i : ℕ) (x : X) → i < length xs → x ≡ get_or xs i x → All P (take i xs) → P x
    → All P (take (i + 1) xs)
one_more P xs i x within is hold holds = All-more P xs i x within hold (subst P is holds)

-- the property holds of all items, once none is left
pub none_left : {X : Type 0} (P : X → Type 0) (xs : List X) (i : ℕ) → length xs ≤ i → All P (take i xs) → All P xs
none_left P xs i end hold = subst (All P) (take_all i xs end) hold

-- the runs of a program on one test more
pub trace_more : (checked : CheckedFields) (steps : ℕ) (tests : List (List Arg)) (outcomes : List Outcome) (visits : List Visits) (i : ℕ) (test : List Arg)
    (outcome : Outcome) (noted : Visits) → i < length tests → test ≡ get_or tests i test → AreTraces checked steps (take i tests) outcomes visits
    → IsOutcomeOf (map line_of checked.program) test steps outcome → IsEnd outcome → IsFollowed checked test steps noted
    → AreTraces checked steps (take (i + 1) tests) (outcomes ++ outcome ∷ []) (visits ++ noted ∷ [])
trace_more checked steps tests outcomes visits i test outcome noted within is are one end follows =
    subst (λ (taken : List (List Arg)). AreTraces checked steps taken (outcomes ++ outcome ∷ []) (visits ++ noted ∷ []))
    (sym (next_taken tests i test within is))
    (record {
      outcomes = all_zipped_more (λ arguments outcome. IsOutcomeOf (map line_of checked.program) arguments steps outcome) (take i tests) outcomes test outcome are.outcomes one;
      end = All-push IsEnd outcomes outcome are.end end;
      visits = all_zipped_more (λ arguments visits. IsFollowed checked arguments steps visits) (take i tests) visits test noted are.visits follows;
    })

pub traces_all : (checked : CheckedFields) (steps : ℕ) (tests : List (List Arg)) (outcomes : List Outcome) (visits : List Visits) (i : ℕ) → length tests ≤ i
    → AreTraces checked steps (take i tests) outcomes visits → AreTraces checked steps tests outcomes visits
traces_all checked steps tests outcomes visits i end are =
    subst (λ (taken : List (List Arg)). AreTraces checked steps taken outcomes visits) (take_all i tests end) are

-- the arguments of a test fit where those of all tests do
pub test_fits : (shapes : List Shape) (tests : List (List Arg)) (i : ℕ) (test : List Arg) → i < length tests → test ≡ get_or tests i test
    → All (λ arguments. refusal shapes arguments ≡ None) tests → refusal shapes test ≡ None
test_fits shapes tests i test within is all =
    subst (λ arguments. refusal shapes arguments ≡ None) (sym is) (All-get_or (λ arguments. refusal shapes arguments ≡ None) tests i test within all)

-- where all outcomes are ends, the program ends on each test
pub ends_all : (program : List LineFields) (steps : ℕ) (tests : List (List Arg)) (outcomes : List Outcome) → AreOutcomes program steps tests outcomes
    → All IsEnd outcomes → All (EndsOn program steps) tests
ends_all program steps [] [] are end = All-nil (EndsOn program steps)
ends_all program steps [] (outcome ∷ outcomes) are end = absurd are
ends_all program steps (test ∷ tests) [] are end = absurd are
ends_all program steps (test ∷ tests) (outcome ∷ outcomes) are end =
    All-cons (EndsOn program steps) test tests (outcome, are.0, All-head IsEnd outcome outcomes end)
    (ends_all program steps tests outcomes are.1 (All-tail IsEnd outcome outcomes end))

-- where the only outcome is no end, the program does not end on the test
pub never_ends : (program : List LineFields) (steps : ℕ) (test : List Arg) (outcome : Outcome)
    → ((other : Outcome) → IsOutcomeOf program test steps other → other ≡ outcome) → ¬ (IsEnd outcome) → ¬ (EndsOn program steps test)
never_ends program steps test outcome only other ends = other (subst IsEnd (only ends.0 ends.1) ends.2)

-- where a truth value says whether P holds, P holds if it is true
pub passed : {P : Type 0} (answer : Bool) → (IsTrue answer ↔ P) → answer ≡ true → P
passed answer decides is = decides.0 is

pub failed : {P : Type 0} (answer : Bool) → (IsTrue answer ↔ P) → answer ≡ false → ¬ P
failed answer decides is holds = true≢false (sym (decides.1 holds) ∙ is)
