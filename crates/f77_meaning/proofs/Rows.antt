-- Worked runs, computed by the definitions.
use Rattle.f77_meaning.proofs.Common.{List, ℕ, ◌≡◌, refl, Some, None, [], ◌∷◌, Option, option_map, ℤ, pos, negsuc, map, position, codes, option_and_then}
use Rattle.f77_meaning.proofs.Common.{ZeroStep, BadSubscript, DivideByZero, Overflow, Undefined, ZeroPower, Finish, StepLimit, Failed, Returned, Value}
use Rattle.f77_meaning.proofs.Common.{start_values, argument_values, config, Execute, LineFields, Statement, is_executable_statement, Tree, Trees, Mod, Integer}
use Rattle.f77_tree.specs.declared.operator.Operator.TheVariants.{Add, Divide, Power, Less}
use Rattle.f77_actions.specs.declared.value.Value.TheVariants as held
use Rattle.f77_meaning.proofs.Stepping.{run}

abbrev line : ℕ → Statement → LineFields
line n s = record { label = None; stmt = s; line = n }

abbrev labelled : ℕ → ℕ → Statement → LineFields
labelled l n s = record { label = Some l; stmt = s; line = n }

abbrev name : List ℕ → Tree
name x = Tree.Reference x Trees.None

abbrev sets : List ℕ → Tree → Statement
sets x t = Statement.Assign x Trees.None t

abbrev i : List ℕ
i = codes "I"

abbrev j : List ℕ
j = codes "J"

abbrev k : List ℕ
k = codes "K"

abbrev l : List ℕ
l = codes "L"

abbrev m : List ℕ
m = codes "M"

abbrev n : List ℕ
n = codes "N"

-- the end of a run with these arguments, and what the dummy arguments hold then
abbrev answer : List LineFields → ℕ → List (List Value) → Option (Finish × List (List (Option Value)))
answer p limit given =
    option_and_then
    (λ at. option_map (λ r. (r.0, argument_values p r.1)) (run p limit (config (Execute at) (start_values p given) (λ d. None))))
    (position (λ x. is_executable_statement x.stmt) p)

abbrev numbers : List ℤ → List (List Value)
numbers zs = map (λ z. held.Number z ∷ []) zs

abbrev returned : List ℤ → Option (Finish × List (List (Option Value)))
returned zs = Some (Returned, map (λ z. Some (held.Number z) ∷ []) zs)

abbrev failed_with : Option (Finish × List (List (Option Value))) → Option Finish
failed_with o = option_map (λ r. r.0) o

abbrev trip : List LineFields
trip =
    line 1 (Statement.Subroutine (codes "TRIP") (m ∷ (n ∷ (l ∷ (i ∷ [])))))
    ∷ (line 2 (Statement.Loop 10 i (name m) (name n) (Some (name l)))
    ∷ (labelled 10 3 Statement.Continue
    ∷ (line 4 Statement.End ∷ [])))

no_pass : answer trip 100 (numbers (pos 1 ∷ (pos 0 ∷ (pos 1 ∷ (pos 9 ∷ []))))) ≡ returned (pos 1 ∷ (pos 0 ∷ (pos 1 ∷ (pos 1 ∷ []))))
no_pass = refl

three_passes : answer trip 100 (numbers (pos 1 ∷ (pos 3 ∷ (pos 1 ∷ (pos 9 ∷ []))))) ≡ returned (pos 1 ∷ (pos 3 ∷ (pos 1 ∷ (pos 4 ∷ []))))
three_passes = refl

downward : answer trip 100 (numbers (pos 5 ∷ (pos 1 ∷ (negsuc 1 ∷ (pos 0 ∷ []))))) ≡ returned (pos 5 ∷ (pos 1 ∷ (negsuc 1 ∷ (negsuc 0 ∷ []))))
downward = refl

zero_step : failed_with (answer trip 100 (numbers (pos 1 ∷ (pos 3 ∷ (pos 0 ∷ (pos 9 ∷ [])))))) ≡ Some (Failed ZeroStep)
zero_step = refl

past_the_range : failed_with (answer trip 100 (numbers (pos 2147483647 ∷ (pos 2147483647 ∷ (pos 1 ∷ (pos 9 ∷ [])))))) ≡ Some (Failed Overflow)
past_the_range = refl

abbrev summed : List LineFields
summed =
    line 1 (Statement.Subroutine (codes "LOOP") (n ∷ (k ∷ [])))
    ∷ (line 2 (sets k (Tree.Number 0))
    ∷ (line 3 (Statement.LogicalIf (Tree.Binary Less (name n) (Tree.Number 0)) (Statement.Goto 20))
    ∷ (line 4 (Statement.Loop 10 i (Tree.Number 1) (name n) None)
    ∷ (labelled 10 5 (sets k (Tree.Binary Add (name k) (name i)))
    ∷ (labelled 20 6 (sets k (Tree.Binary Add (name k) (Tree.Number 1)))
    ∷ (labelled 30 7 Statement.Return
    ∷ (line 8 Statement.End ∷ [])))))))

eleven_steps : answer summed 11 (numbers (pos 3 ∷ (pos 0 ∷ []))) ≡ returned (pos 3 ∷ (pos 7 ∷ []))
eleven_steps = refl

ten_steps : failed_with (answer summed 10 (numbers (pos 3 ∷ (pos 0 ∷ [])))) ≡ Some StepLimit
ten_steps = refl

five_steps : answer summed 5 (numbers (pos 0 ∷ (pos 0 ∷ []))) ≡ returned (pos 0 ∷ (pos 1 ∷ []))
five_steps = refl

four_steps : failed_with (answer summed 4 (numbers (pos 0 ∷ (pos 0 ∷ [])))) ≡ Some StepLimit
four_steps = refl

abbrev add : Tree → List LineFields
add t =
    line 1 (Statement.Subroutine (codes "ADD") (i ∷ (j ∷ (k ∷ []))))
    ∷ (line 2 (sets k t)
    ∷ (line 3 Statement.End ∷ []))

truncated : answer (add (Tree.Binary Divide (name i) (name j))) 100 (numbers (negsuc 6 ∷ (pos 2 ∷ (pos 0 ∷ [])))) ≡ returned (negsuc 6 ∷ (pos 2 ∷ (negsuc 2 ∷ [])))
truncated = refl

divided_by_zero : failed_with (answer (add (Tree.Binary Divide (name i) (name j))) 100 (numbers (pos 1 ∷ (pos 0 ∷ (pos 0 ∷ []))))) ≡ Some (Failed DivideByZero)
divided_by_zero = refl

least_by_minus_one : failed_with (answer (add (Tree.Binary Divide (name i) (name j))) 100 (numbers (negsuc 2147483647 ∷ (negsuc 0 ∷ (pos 0 ∷ []))))) ≡ Some (Failed Overflow)
least_by_minus_one = refl

remainder : answer (add (Tree.Call Mod (Trees.Then (name i) (Trees.Then (name j) Trees.None)))) 100 (numbers (negsuc 6 ∷ (pos 2 ∷ (pos 0 ∷ [])))) ≡ returned (negsuc 6 ∷ (pos 2 ∷ (negsuc 0 ∷ [])))
remainder = refl

zero_power : failed_with (answer (add (Tree.Binary Power (name i) (name j))) 100 (numbers (pos 0 ∷ (pos 0 ∷ (pos 0 ∷ []))))) ≡ Some (Failed ZeroPower)
zero_power = refl

half : answer (add (Tree.Binary Power (name i) (name j))) 100 (numbers (pos 2 ∷ (negsuc 0 ∷ (pos 9 ∷ [])))) ≡ returned (pos 2 ∷ (negsuc 0 ∷ (pos 0 ∷ [])))
half = refl

minus_one : answer (add (Tree.Binary Power (name i) (name j))) 100 (numbers (negsuc 0 ∷ (negsuc 2 ∷ (pos 9 ∷ [])))) ≡ returned (negsuc 0 ∷ (negsuc 2 ∷ (negsuc 0 ∷ [])))
minus_one = refl

too_large : failed_with (answer (add (Tree.Binary Power (name i) (name j))) 100 (numbers (pos 2 ∷ (pos 31 ∷ (pos 0 ∷ []))))) ≡ Some (Failed Overflow)
too_large = refl

least : answer (add (Tree.Binary Power (name i) (name j))) 100 (numbers (negsuc 1 ∷ (pos 31 ∷ (pos 0 ∷ [])))) ≡ returned (negsuc 1 ∷ (pos 31 ∷ (negsuc 2147483647 ∷ [])))
least = refl

no_value : failed_with (answer (add (name l)) 100 (numbers (pos 1 ∷ (pos 1 ∷ (pos 1 ∷ []))))) ≡ Some (Failed Undefined)
no_value = refl

abbrev pick : List LineFields
pick =
    line 1 (Statement.Subroutine (codes "PICK") (m ∷ (i ∷ (k ∷ []))))
    ∷ (line 2 (Statement.Declare Integer (record { name = m; bounds = 3 ∷ [] } ∷ []))
    ∷ (line 3 (sets k (Tree.Reference m (Trees.Then (name i) Trees.None)))
    ∷ (line 4 Statement.End ∷ [])))

abbrev elements : List Value
elements = held.Number (pos 4) ∷ (held.Number (pos 5) ∷ (held.Number (pos 6) ∷ []))

below_the_first : failed_with (answer pick 100 (elements ∷ (numbers (pos 0 ∷ (pos 9 ∷ []))))) ≡ Some (Failed BadSubscript)
below_the_first = refl

the_third : answer pick 100 (elements ∷ (numbers (pos 3 ∷ (pos 9 ∷ [])))) ≡ Some (Returned, map (λ v. Some v) elements ∷ ((Some (held.Number (pos 3)) ∷ []) ∷ ((Some (held.Number (pos 6)) ∷ []) ∷ [])))
the_third = refl
