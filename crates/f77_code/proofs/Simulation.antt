-- One instruction does what one move of the machine over slots does.
use Rattle.f77_code.proofs.Common.{◌≡◌, ◌∙◌, ap, sym, arith, ℕ, refl, subst, length, true, ◌+◌, List, Some, ◌<◌, slice_get, false, [], suc, ◌∷◌, zero, Bool, ℤ}
use Rattle.f77_code.proofs.Common.{None, Option, if◌then◌else◌, slice_get_within, option_map_or, option_and_then, Action, Loop, Branch, Number, Resolved, Plan}
use Rattle.f77_code.proofs.Common.{Point, do_rank, is_loop, onward, ran, term_value, Cells, HoldsRegisters, one, StandsForIncrement, IsMove, TurnList}
use Rattle.f77_code.proofs.Common.{is_loop_at, HoldsCounters, Move, StandsForStatement, AreCode, Beginning, are_active, BeginsDo, Goes, go_on, number_in}
use Rattle.f77_code.proofs.Common.{turn_at, moved, registers_for, acted, is_executed, place_at, state, IsNested, MayLeave, MovesSimulated, incremented, Execute}
use Rattle.f77_code.proofs.Common.{Increment, Turn, Instruction, Operation, Next, Count, Do}
use Rattle.std.proofs.Common.{option_map}
use Rattle.f77_code.specs.declared.control.Place.{Place}
use Rattle.f77_code.specs.Moves as moves
use Rattle.f77_code.specs.Operation as code
use Rattle.f77_code.proofs.Simulated.{fits_of, go_on_simulated, used_simulated}
use Rattle.f77_code.proofs.Counters.{rank_below}
use Rattle.f77_code.proofs.Passes.{begun_simulated, incremented_simulated}
use Rattle.f77_code.proofs.Performed.{performed, tests}
use Rattle.f77_code.proofs.Fitting.{term_fits}
use Rattle.f77_code.proofs.SameValue.{same_term}

pub there_is : {X : Type 0} (xs : List X) (k : ℕ) → k < length xs → (x : X) × (slice_get xs k ≡ Some x)
there_is [] k below = absurd (omega arith)
there_is (x ∷ xs) zero below = (x, refl)
there_is (x ∷ xs) (suc k) below = there_is xs k (omega arith)

module _ (plan : Plan) (statements : List Resolved) (registers : List ℤ) (counters : List Turn) (cells : Cells) (turns : TurnList)
    (holds : HoldsRegisters plan registers cells) (counts : HoldsCounters statements counters turns) where
  -- a DO that begins
  begins : (i : ℕ) (r : Resolved) (slot : ℕ) (first last step : Number) (t next : ℕ) (begun : Beginning) → is_loop_at statements i ≡ true
      → MayLeave statements i (Loop slot first last step t) turns → BeginsDo plan statements i slot first last step t next begun
      → IsMove plan statements
      (code.begun_with begun.variable begun.counter begun.body next (term_value registers begun.parameters.first) (term_value registers begun.parameters.last)
      (term_value registers begun.parameters.step) registers counters) (acted statements i r (Loop slot first last step t) cells turns)
  begins i r slot first last step t next begun loop may h =
      let terms = begun.parameters in
      let stand = h.parameters in
      subst (λ p. IsMove plan statements p (acted statements i r (Loop slot first last step t) cells turns)) (sym named)
      (used_simulated plan statements registers counters cells holds (term_value registers terms.first) (number_in cells first)
      (same_term plan registers cells holds first terms.first stand.first)
      (λ a. code.used_in_code (term_value registers terms.last) registers counters
      (λ b. code.used_in_code (term_value registers terms.step) registers counters
      (λ c. code.begun_in_code slot (do_rank statements i) (i + 1) next a b c registers counters)))
      (λ a. moves.used (number_in cells last) cells
      (λ b. moves.used (number_in cells step) cells (λ c. moves.begun statements i slot t a b c cells turns)))
      (λ a is. used_simulated plan statements registers counters cells holds (term_value registers terms.last) (number_in cells last)
      (same_term plan registers cells holds last terms.last stand.last)
      (λ b. code.used_in_code (term_value registers terms.step) registers counters
      (λ c. code.begun_in_code slot (do_rank statements i) (i + 1) next a b c registers counters))
      (λ b. moves.used (number_in cells step) cells (λ c. moves.begun statements i slot t a b c cells turns))
      (λ b has. used_simulated plan statements registers counters cells holds (term_value registers terms.step) (number_in cells step)
      (same_term plan registers cells holds step terms.step stand.step)
      (λ c. code.begun_in_code slot (do_rank statements i) (i + 1) next a b c registers counters)
      (λ c. moves.begun statements i slot t a b c cells turns)
      (λ c to. begun_simulated plan statements counters turns counts i t next loop h.left may registers cells holds slot h.slot a b c
      (fits_of (term_value registers terms.first) a (term_fits registers holds.held terms.first) is)))))
    where
      named : code.begun_with begun.variable begun.counter begun.body next (term_value registers begun.parameters.first)
          (term_value registers begun.parameters.last) (term_value registers begun.parameters.step) registers counters
          ≡ code.begun_with slot (do_rank statements i) (i + 1) next (term_value registers begun.parameters.first)
          (term_value registers begun.parameters.last) (term_value registers begun.parameters.step) registers counters
      named = λ j. code.begun_with (h.variable j) (h.counter j) (h.body j) next (term_value registers begun.parameters.first)
          (term_value registers begun.parameters.last) (term_value registers begun.parameters.step) registers counters

  -- a statement that is executed
  performs : (i : ℕ) (r : Resolved) (act : Action) (o : Operation) (next : ℕ) → is_loop_at statements i ≡ is_loop act → is_executed act ≡ true
      → are_active turns r.ends.items ≡ true → MayLeave statements i act turns → StandsForStatement plan statements i r act o next
      → IsMove plan statements (ran o next registers counters) (acted statements i r act cells turns)
  performs i r (Branch x otherwise) o next loop e all may h =
      tests plan statements registers counters cells holds next x (onward statements r.ends.items r.next) o (go_on r cells turns)
      (Goes (state (Execute otherwise) cells turns))
      (go_on_simulated plan statements counters turns counts r (onward statements r.ends.items r.next) all refl registers cells holds)
      (record { place = h.1; holds = holds; counts = counts }) h.0
  performs i r (Loop slot first last step t) (Do variable counter body parameters) next loop e all may h =
      begins i r slot first last step t next (record { variable = variable; counter = counter; body = body; parameters = parameters.value }) loop may h
  performs i r (Loop slot first last step t) (Count variable counter body x y z) next loop e all may h =
      begins i r slot first last step t next (record { variable = variable; counter = counter; body = body; parameters = registers_for x y z }) loop may h
  performs i r (Loop slot first last step t) _ next loop e all may h = absurd h
  performs i r act o next loop e all may h = performed plan statements registers counters cells holds next turns counts r all h.1 i act o e h.0

  -- a DO that is incremented
  increments : (d : ℕ) (act : Action) (o : Operation) (next : ℕ) → is_loop_at statements d ≡ true → is_loop act ≡ true → MayLeave statements d act turns
      → StandsForIncrement plan statements d act o next → (turn : Turn) → turn_at turns d ≡ Some turn
      → IsMove plan statements (ran o next registers counters) (incremented statements d act turn cells turns)
  increments d (Loop slot first last step t) (Next variable counter body) next loop e may h turn at =
      subst (λ p. IsMove plan statements p (incremented statements d (Loop slot first last step t) turn cells turns)) (sym named)
      (incremented_simulated plan statements counters turns counts d t next loop h.4 may registers cells holds slot h.1 turn at first last step)
    where
      named : ran (Next variable counter body) next registers counters ≡ ran (Next slot (do_rank statements d) (d + 1)) next registers counters
      named = λ j. ran (Next (h.0 j) (h.2 j) (h.3 j)) next registers counters
  increments d (Loop slot first last step t) _ next loop e may h turn at = absurd h
  increments d _ o next loop e may h turn at = absurd (cc (e))

module _ (plan : Plan) (statements : List Resolved) (code : List Instruction) (are : AreCode plan statements code) (p : Point) (cells : Cells) (turns : TurnList)
    (holds : HoldsRegisters plan p.registers cells) (counts : HoldsCounters statements p.turns turns) (move : Move) where
  -- the code makes this move, if the instruction where it stands does
  makes : (instruction : Instruction) → slice_get code p.place ≡ Some instruction
      → IsMove plan statements (ran instruction.operation instruction.next p.registers p.turns) move → IsMove plan statements (one code p) move
  makes instruction e did =
      subst (λ q. IsMove plan statements q move)
      (sym (ap (λ o. option_map_or (λ instruction. ran instruction.operation instruction.next p.registers p.turns) o p) e)) did

  executes : (i : ℕ) → p.place ≡ i → IsNested statements (state (Execute i) cells turns) → (r : Resolved) → slice_get statements i ≡ Some r
      → (b : Bool) → is_executed r.action ≡ b → (if b then Some (acted statements i r r.action cells turns) else None) ≡ Some move
      → IsMove plan statements (one code p) move
  executes i at nested r known false e is = absurd (cc (is))
  executes i at nested r known true e is =
      let below : i < length statements = slice_get_within statements i r known in
      let count = are.count in
      let found = there_is code i (omega (arith, below, count)) in
      let loop : is_loop_at statements i ≡ is_loop r.action = ap (λ o. option_map_or (λ r. is_loop r.action) o false) known in
      let here = nested r known in
      let same : acted statements i r r.action cells turns ≡ move = cc (is) in
      makes found.0 (ap (slice_get code) at ∙ found.1)
      (subst (λ m. IsMove plan statements (ran found.0.operation found.0.next p.registers p.turns) m) same
      (performs plan statements p.registers p.turns cells turns holds counts i r r.action found.0.operation found.0.next loop e here.0 here.1
      (are.executed i r found.0 known found.1)))

  goes_on : (d : ℕ) → p.place ≡ length statements + do_rank statements d → IsNested statements (state (Increment d) cells turns) → (r : Resolved)
      → slice_get statements d ≡ Some r → (b : Bool) → is_loop r.action ≡ b → (o : Option Turn) → turn_at turns d ≡ o
      → (if b then option_map (λ turn. incremented statements d r.action turn cells turns) o else None) ≡ Some move
      → IsMove plan statements (one code p) move
  goes_on d at nested r known false e o active is = absurd (cc (is))
  goes_on d at nested r known true e None active is = absurd (cc (is))
  goes_on d at nested r known true e (Some turn) active is =
      let loop : is_loop_at statements d ≡ true = ap (λ o. option_map_or (λ r. is_loop r.action) o false) known ∙ e in
      let below = rank_below statements d loop in
      let count = are.count in
      let found = there_is code (length statements + do_rank statements d) (omega (arith, below, count)) in
      let same : incremented statements d r.action turn cells turns ≡ move = cc (is) in
      makes found.0 (ap (slice_get code) at ∙ found.1)
      (subst (λ m. IsMove plan statements (ran found.0.operation found.0.next p.registers p.turns) m) same
      (increments plan statements p.registers p.turns cells turns holds counts d r.action found.0.operation found.0.next loop e (nested r known)
      (are.incremented d r found.0 known found.1) turn active))

  by_statement : (place : Place) → p.place ≡ place_at statements place → IsNested statements (state place cells turns)
      → moved statements (state place cells turns) ≡ Some move → IsMove plan statements (one code p) move
  by_statement (Execute i) at nested is = by (slice_get statements i) refl is
    where
      by : (o : Option Resolved) → slice_get statements i ≡ o
          → option_and_then (λ r. if is_executed r.action then Some (acted statements i r r.action cells turns) else None) o ≡ Some move
          → IsMove plan statements (one code p) move
      by None known is = absurd (cc (is))
      by (Some r) known is = executes i at nested r known (is_executed r.action) refl is
  by_statement (Increment d) at nested is = by (slice_get statements d) refl is
    where
      by : (o : Option Resolved) → slice_get statements d ≡ o
          → option_and_then (λ r. if is_loop r.action then option_map (λ turn. incremented statements d r.action turn cells turns) (turn_at turns d) else None) o ≡ Some move
          → IsMove plan statements (one code p) move
      by None known is = absurd (cc (is))
      by (Some r) known is = goes_on d at nested r known (is_loop r.action) refl (turn_at turns d) refl is

pub moves_simulated : MovesSimulated
moves_simulated plan statements code p s move are nested at is =
    by_statement plan statements code are p s.cells s.turns at.holds at.counts move s.place at.place nested is
