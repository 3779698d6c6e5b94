-- Instructions one after another, and moves.
use Rattle.f77_code.proofs.Common.{◌≡◌, ◌∙◌, ap, sym, arith, ℕ, refl, subst, length, true, ◌+◌, List, Some, ◌<◌, slice_get, [], suc, ◌∷◌, zero, ◌≤◌, None}
use Rattle.f77_code.proofs.Common.{Option, inl, inr, ◌*◌, ◌⊎◌, ◌-◌, ◌^◌, zero-add, and_parts, slice_get_past, option_map_or, option_and_then, Failed, Returned}
use Rattle.f77_code.proofs.Common.{StepLimit, Stopped, Resolved, Plan, Point, code_after, ran, one, IsMove, Move, ended_point, AreCode, Goes, code_within}
use Rattle.f77_code.proofs.Common.{operation_within, Ends, moved, AreStatesNested, IsAt, State, moved_by, then_moved, BlocksSimulated, CodeComesBack}
use Rattle.f77_code.proofs.Common.{Instruction}
use Rattle.f77_actions.specs.declared.finish.Finish.{Finish}
use Rattle.f77_code.proofs.Listed.{last_or_below}
use Rattle.f77_code.proofs.Simulation.{moves_simulated, there_is}

pub one_within : (n loops : ℕ) (code : List Instruction) (k : ℕ) (instruction : Instruction) → code_within n loops code ≡ true → slice_get code k ≡ Some instruction
    → operation_within n loops instruction.operation ≡ true
one_within n loops [] k instruction all at = absurd (cc (at))
one_within n loops (x ∷ xs) zero instruction all at =
    let same : x ≡ instruction = cc (at) in
    subst (λ i. operation_within n loops i.operation ≡ true) same (and_parts (operation_within n loops x.operation) (code_within n loops xs) all).0
one_within n loops (x ∷ xs) (suc k) instruction all at =
    one_within n loops xs k instruction (and_parts (operation_within n loops x.operation) (code_within n loops xs) all).1 at

-- where there is no instruction nothing happens
pub stays : (code : List Instruction) (n : ℕ) (p : Point) → slice_get code p.place ≡ None → code_after code n p ≡ p
stays code zero p none = refl
stays code (suc n) p none =
    let same : one code p ≡ p = ap (λ o. option_map_or (λ instruction. ran instruction.operation instruction.next p.registers p.turns) o p) none in
    ap (code_after code n) same ∙ stays code n p none

-- a instructions and then b are a + b instructions
pub after_more : (code : List Instruction) (a b : ℕ) (p : Point) → code_after code (a + b) p ≡ code_after code b (code_after code a p)
after_more code zero b p = ap (λ n. code_after code n p) (zero-add b)
after_more code (suc a) b p = let more : suc a + b ≡ suc (a + b) = omega arith in ap (λ n. code_after code n p) more ∙ after_more code a b (one code p)

pub after_last : (code : List Instruction) (n : ℕ) (p : Point) → code_after code (n + 1) p ≡ one code (code_after code n p)
after_last code zero p = refl
after_last code (suc n) p = let more : suc n + 1 ≡ suc (n + 1) = omega arith in ap (λ k. code_after code k p) more ∙ after_last code n (one code p)

-- one instruction more
pub made_more : (code : List Instruction) (made : ℕ) (p q r : Point) (instruction : Instruction) → code_after code made p ≡ q → slice_get code q.place ≡ Some instruction
    → r ≡ ran instruction.operation instruction.next q.registers q.turns → code_after code (made + 1) p ≡ r
made_more code made p q r instruction stands at is =
    after_last code made p ∙ ap (one code) stands ∙ ap (λ o. option_map_or (λ instruction. ran instruction.operation instruction.next q.registers q.turns) o q) at
    ∙ sym is

-- code that was at an instruction and is at none has made some
pub made_some : (code : List Instruction) (p q : Point) (made : ℕ) → p.place < length code → length code ≤ q.place → code_after code made p ≡ q → 0 < made
made_some code p q zero there out is =
    let here : p.place ≡ q.place = ap (λ (q : Point). q.place) is in
    absurd (omega (arith, here, out, there))
made_some code p q (suc made) there out is = omega arith

-- each instruction so far was there, and so is the next
pub there_more : (code : List Instruction) (made n : ℕ) (p q : Point) → code_after code made p ≡ q → q.place < n → ((k : ℕ) → k < made → (code_after code k p).place < n)
    → (k : ℕ) → k < made + 1 → (code_after code k p).place < n
there_more code made n p q stands here each k below = by (last_or_below k made below)
  where
    by : (k < made) ⊎ (k ≡ made) → (code_after code k p).place < n
    by (inl h) = each k h
    by (inr e) = subst (λ k. (code_after code k p).place < n) (sym e) (subst (λ q. q.place < n) (sym stands) here)

-- code that stands where there is no instruction has come as far as it can
pub rests : (code : List Instruction) (steps made : ℕ) (p q : Point) → made ≤ steps → code_after code made p ≡ q → slice_get code q.place ≡ None → q ≡ code_after code steps p
rests code steps made p q within stands none =
    let whole : made + (steps - made) ≡ steps = omega arith in
    sym (ap (λ n. code_after code n p) (sym whole) ∙ after_more code made (steps - made) p ∙ ap (code_after code (steps - made)) stands ∙ stays code (steps - made) q none)

end_beyond : (finish : Finish) → 2 ^ 32 ≤ ended_point finish
end_beyond Returned = omega arith
end_beyond Stopped = omega arith
end_beyond (Failed fault) = omega arith
end_beyond StepLimit = omega arith

module _ (plan : Plan) (statements : List Resolved) (code : List Instruction) (are : AreCode plan statements code) where
  -- where the code has ended it stays
  pub ends : (n : ℕ) (p : Point) (finish : Finish) → p.place ≡ ended_point finish → code_after code n p ≡ p
  ends n p finish at =
      let far = end_beyond finish in
      let few = are.few in
      stays code n p (slice_get_past code p.place (omega (arith, far, few, at)))

  -- what is known of a state holds of those behind its first move
  pub nested_on : (n : ℕ) (s t : State) → moved statements s ≡ Some (Goes t) → AreStatesNested statements (suc n) s → AreStatesNested statements n t
  nested_on n s t e nested = λ k u below is.
      nested (suc k) u (omega arith) (ap (λ o. option_and_then (then_moved (moved_by statements k)) o) e ∙ is)

  simulated : (n : ℕ) (p : Point) (s : State) (move : Move) → IsAt plan statements p s → AreStatesNested statements n s → moved_by statements n s ≡ Some move
      → IsMove plan statements (code_after code n p) move
  simulated zero p s move at nested is = let same : Goes s ≡ move = cc (is) in subst (λ m. IsMove plan statements p m) same at
  simulated (suc n) p s move at nested is = by (λ q t. simulated n q t move) (moved statements s) refl is
    where
      first : (m : Move) → moved statements s ≡ Some m → IsMove plan statements (one code p) m
      first m e = moves_simulated plan statements code p s m are (nested 0 s (omega arith) refl) at e

      by : ((q : Point) (t : State) → IsAt plan statements q t → AreStatesNested statements n t → moved_by statements n t ≡ Some move → IsMove plan statements (code_after code n q) move)
          → (o : Option Move) → moved statements s ≡ o → option_and_then (then_moved (moved_by statements n)) o ≡ Some move
          → IsMove plan statements (code_after code n (one code p)) move
      by rest None e h = absurd (cc (h))
      by rest (Some (Goes t)) e h = rest (one code p) t (first (Goes t) e) (nested_on n s t e nested) h
      by rest (Some (Ends finish cells)) e h =
          let same : Ends finish cells ≡ move = cc (h) in
          let did = first (Ends finish cells) e in
          subst (λ q. IsMove plan statements q move) (sym (ends n (one code p) finish did.0)) (subst (λ m. IsMove plan statements (one code p) m) same did)

pub blocks_simulated : BlocksSimulated
blocks_simulated plan statements code p s n move are at nested is = simulated plan statements code are n p s move at nested is

round_again : (code : List Instruction) (n m : ℕ) (p : Point) → code_after code n p ≡ p → code_after code (m * n) p ≡ p
round_again code n zero p back = let none : 0 * n ≡ 0 = omega arith in ap (λ k. code_after code k p) none
round_again code n (suc m) p back =
    let more : suc m * n ≡ n + m * n = omega arith in
    ap (λ k. code_after code k p) more ∙ after_more code n (m * n) p ∙ ap (code_after code (m * n)) back ∙ round_again code n m p back

-- code that comes back to where it stood is never where there is no instruction
pub goes_round : (code : List Instruction) (n m : ℕ) (p : Point) → code_after code (suc n) p ≡ p → slice_get code (code_after code m p).place ≡ None → slice_get code p.place ≡ None
goes_round code n m p back none =
    let far : m + m * n ≡ m * suc n = omega arith in
    let here : code_after code m p ≡ p =
    sym (stays code (m * n) (code_after code m p) none) ∙ sym (after_more code m (m * n) p) ∙ ap (λ k. code_after code k p) far ∙ round_again code (suc n) m p back in
    ap (λ q. slice_get code q.place) (sym here) ∙ none

pub comes_back : CodeComesBack
comes_back plan statements code p s n m finish cells are at here back nested = λ is.
    let did = blocks_simulated plan statements code p s m (Ends finish cells) are at nested is in
    let far = end_beyond finish in
    let few = are.few in
    let place = did.0 in
    let past : slice_get code (code_after code m p).place ≡ None = slice_get_past code (code_after code m p).place (omega (arith, far, few, place)) in
    let none = goes_round code n m p back past in
    let found = there_is code p.place here in
    absurd (cc (none, found.1))
