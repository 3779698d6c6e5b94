-- Operations that stand for actions do what the machine over slots does.
use Rattle.f77_code.proofs.Common.{◌≡◌, ◌∙◌, ap, sym, ℕ, refl, subst, true, List, Some, slice_get, false, [], suc, ◌∷◌, zero, Bool, ℤ, pos, None, Ok, Option}
use Rattle.f77_code.proofs.Common.{Result, Err, if◌then◌else◌, negsuc, MatchOption, map, unwrap_or, option_map_or, truth_number, of_truth, is_same, both}
use Rattle.f77_code.proofs.Common.{Action, LogicalIf', AssignNumber, AssignTruth, ArithmeticIf, ComputedGoto, Declaration, Jump, Condition, Related, Number}
use Rattle.f77_code.proofs.Common.{Relation, Fault, Resolved, point, Plan, onward, ran, term_value, Cells, HoldsRegisters, IsTerm, IsMove, TurnList, Comparing}
use Rattle.f77_code.proofs.Common.{HoldsCounters, IsOperation, Move, Tests, comparing, related_number, are_active, by_sign, item_chosen, go_on, number_in}
use Rattle.f77_code.proofs.Common.{compared, truth_in, acted, is_executed, jump_chosen, jump_to, Turn, Operation, When', IfTrue, Continue, Goto, Return, Select}
use Rattle.f77_code.proofs.Common.{Sign, Stop, Trap}
use Rattle.f77_actions.specs.declared.action.Action as action
use Rattle.f77_code.specs.Moves as moves
use Rattle.f77_code.proofs.Simulated.{go_on_simulated, used_simulated, truth_simulated, branched, jumped}
use Rattle.f77_code.proofs.Assigned.{number_assigned, truth_assigned}
use Rattle.f77_code.proofs.SameValue.{same_term, same_test}
use Rattle.f77_code.proofs.Shorter.{comparing_is}

-- a relation of numbers is a truth value
relation_truth : (op : Relation) (r q : Result ℤ Fault) → both (related_number op) r q ≡ of_truth (both (λ a b. Ok (compared op a b)) r q)
relation_truth op (Ok a) (Ok b) = refl
relation_truth op (Ok a) (Err f) = refl
relation_truth op (Err f) q = refl

module _ (plan : Plan) (statements : List Resolved) (registers : List ℤ) (counters : List Turn) (cells : Cells) (holds : HoldsRegisters plan registers cells) (next : ℕ) where
  compares : (x y : Number) (op : Relation) (there : ℕ) (o : Operation) (taken other : Move) → IsMove plan statements (point there registers counters) taken
      → IsMove plan statements (point next registers counters) other → (v : Option Comparing) → comparing o ≡ v
      → MatchOption v ⊥ (λ c. (c.there ≡ there) × (op ≡ c.relation) × IsTerm plan x c.left × IsTerm plan y c.right)
      → IsMove plan statements (ran o next registers counters) (moves.used (truth_in cells (Related op x y)) cells (λ b. jump_chosen b taken other))
  compares x y op there o taken other t f None is h = absurd h
  compares x y op there o taken other t f (Some c) is h =
      subst (λ p. IsMove plan statements p (moves.used (truth_in cells (Related op x y)) cells (λ b. jump_chosen b taken other)))
      (sym (comparing_is next registers counters o c is))
      (branched plan statements registers counters cells holds (both (related_number c.relation) (term_value registers c.left) (term_value registers c.right))
      (truth_in cells (Related op x y)) same c.there next taken other
      (subst (λ q. IsMove plan statements (point q registers counters) taken) (sym h.0) t) f)
    where
      left : term_value registers c.left ≡ number_in cells x
      left = same_term plan registers cells holds x c.left h.2

      right : term_value registers c.right ≡ number_in cells y
      right = same_term plan registers cells holds y c.right h.3

      same : both (related_number c.relation) (term_value registers c.left) (term_value registers c.right) ≡ of_truth (truth_in cells (Related op x y))
      same = ap (λ op. both (related_number op) (term_value registers c.left) (term_value registers c.right)) (sym h.1)
          ∙ (λ i. both (related_number op) (left i) (right i))
          ∙ relation_truth op (number_in cells x) (number_in cells y)

  -- a test goes where its condition leads
  pub tests : (x : Condition) (there : ℕ) (o : Operation) (taken other : Move) → IsMove plan statements (point there registers counters) taken
      → IsMove plan statements (point next registers counters) other → Tests plan x there o
      → IsMove plan statements (ran o next registers counters) (moves.used (truth_in cells x) cells (λ b. jump_chosen b taken other))
  tests x there (IfTrue place term) taken other t f h =
      branched plan statements registers counters cells holds (term_value registers term.value) (truth_in cells x) (same_test plan registers cells holds x term.value h.1)
      place next taken other (subst (λ q. IsMove plan statements (point q registers counters) taken) (sym h.0) t) f
  tests (Related op x y) there o taken other t f h = compares x y op there o taken other t f (comparing o) refl h
  tests _ there _ taken other t f h = absurd h

  module _ (turns : TurnList) (counts : HoldsCounters statements counters turns) (r : Resolved) (all : are_active turns r.ends.items ≡ true)
      (is : next ≡ onward statements r.ends.items r.next) (i : ℕ) where
    goes : IsMove plan statements (point next registers counters) (go_on r cells turns)
    goes = go_on_simulated plan statements counters turns counts r next all is registers cells holds

    jumps : (jump : Jump) (p : ℕ) → p ≡ jump.target → IsMove plan statements (point p registers counters) (jump_to jump cells turns)
    jumps jump p e = jumped plan statements registers counters cells holds turns counts jump p e

    signed : (z : ℤ) (a b c : Jump) (negative middle positive : ℕ) → negative ≡ a.target → middle ≡ b.target → positive ≡ c.target
        → IsMove plan statements (point (by_sign z negative middle positive) registers counters) (jump_to (by_sign z a b c) cells turns)
    signed (negsuc n) a b c negative middle positive e f g = jumps a negative e
    signed (pos zero) a b c negative middle positive e f g = jumps b middle f
    signed (pos (suc n)) a b c negative middle positive e f g = jumps c positive g

    item : (js : List Jump) (n : ℕ)
        → IsMove plan statements (point (unwrap_or (slice_get (map (λ jump. jump.target) js) n) next) registers counters)
        (option_map_or (λ jump. jump_to jump cells turns) (slice_get js n) (go_on r cells turns))
    item [] n = goes
    item (j ∷ js) zero = jumps j j.target refl
    item (j ∷ js) (suc n) = item js n

    selected : (js : List Jump) (z : ℤ)
        → IsMove plan statements (point (unwrap_or (item_chosen (map (λ jump. jump.target) js) z) next) registers counters)
        (option_map_or (λ jump. jump_to jump cells turns) (item_chosen js z) (go_on r cells turns))
    selected js (negsuc n) = goes
    selected js (pos zero) = goes
    selected js (pos (suc n)) = item js n

    -- what a logical IF executes, or nothing
    either : (o : Operation) (inner : Move) → IsMove plan statements (ran o next registers counters) inner → (c : Bool)
        → IsMove plan statements (if is_same (truth_number c) (pos 0) then point next registers counters else ran o next registers counters) (jump_chosen c inner (go_on r cells turns))
    either o inner did true = did
    either o inner did false = goes

    pub performed : (act : Action) (o : Operation) → is_executed act ≡ true → IsOperation plan act o
        → IsMove plan statements (ran o next registers counters) (acted statements i r act cells turns)
    performed Declaration o e h = absurd (cc (e))
    performed (AssignNumber v x) o e h = number_assigned plan statements registers counters cells holds next turns counts r all is x v o h
    performed (AssignTruth v x) o e h = truth_assigned plan statements registers counters cells holds next turns counts r all is x v o h
    performed (action.Goto jump) (Goto there) e h = jumps jump there h
    performed (ComputedGoto x js) (Select term places) e h =
        used_simulated plan statements registers counters cells holds (term_value registers term.value) (number_in cells x) (same_term plan registers cells holds x term.value h.0)
        (λ z. point (unwrap_or (item_chosen places.items z) next) registers counters)
        (λ z. option_map_or (λ jump. jump_to jump cells turns) (item_chosen js.items z) (go_on r cells turns))
        (λ z v. subst (λ ps. IsMove plan statements (point (unwrap_or (item_chosen ps z) next) registers counters)
        (option_map_or (λ jump. jump_to jump cells turns) (item_chosen js.items z) (go_on r cells turns))) (sym h.1) (selected js.items z))
    performed (ArithmeticIf x a b c) (Sign negative middle positive term) e h =
        used_simulated plan statements registers counters cells holds (term_value registers term.value) (number_in cells x) (same_term plan registers cells holds x term.value h.0)
        (λ z. point (by_sign z negative middle positive) registers counters) (λ z. jump_to (by_sign z a b c) cells turns)
        (λ z v. signed z a b c negative middle positive h.1 h.2 h.3)
    performed (LogicalIf' x b inner) (When' term q o) e h =
        truth_simulated plan statements registers counters cells holds (term_value registers term.value) (truth_in cells x) (same_test plan registers cells holds x term.value h.0)
        (λ z. if is_same z (pos 0) then point next registers counters else ran o next registers counters)
        (λ c. jump_chosen c (acted statements i r inner cells turns) (go_on r cells turns))
        (either o (acted statements i r inner cells turns) (performed inner o e h.1))
    performed (LogicalIf' x b (action.Goto jump)) o e h =
        tests x jump.target o (jump_to jump cells turns) (go_on r cells turns) (jumps jump jump.target refl) goes h
    performed action.Continue Continue e h = goes
    performed action.Return Return e h = (refl, holds)
    performed action.Stop Stop e h = (refl, holds)
    performed action.Trap Trap e h = (refl, holds)
    performed _ _ e h = absurd h
