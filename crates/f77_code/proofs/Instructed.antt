-- Instructions stand for statements when their operations do.
use Rattle.f77_code.proofs.Common.{◌≡◌, ◌∙◌, ap, sym, ℕ, refl, subst, ◌+◌, List, Some, slice_get, false, same_Some, Action, Loop, Branch, Condition, Number}
use Rattle.f77_code.proofs.Common.{Resolved, Plan, do_rank, is_loop, onward, StandsForIncrement, IsOperation, StandsForStatement, Beginning, IsIncrement}
use Rattle.f77_code.proofs.Common.{IsInstruction, IsLeftDone, BeginsPlan, HasAction, beginning, GrowsPlan, IsNumberTerm, IsTestTerm, IsCompiled, IsTesting}
use Rattle.f77_code.proofs.Common.{Constants, Instruction, Operation, Next, Term}
use Rattle.f77_code.proofs.Operations.{term_tests}
use Rattle.f77_code.proofs.Terms.{begins_before}

-- what an instruction of this operation needs, where the statement i is known
pub instructed : (t : Constants) (statements : List Resolved) (i : ℕ) (r : Resolved) (operation : Operation) (next : ℕ) → slice_get statements i ≡ Some r
    → ((plan : Plan) → BeginsPlan plan t → HasAction plan r.action → StandsForStatement plan statements i r r.action operation next)
    → IsInstruction t statements i (record { operation = operation; next = next })
instructed t statements i r operation next at h =
    record {
      stands = λ plan s b is has.
          let same : r ≡ s = same_Some _ _ (sym at ∙ is) in
          subst (λ s. StandsForStatement plan statements i s s.action operation next) same (h plan b (subst (λ s. HasAction plan s.action) (sym same) has));
    }

pub branch_stands : (t : Constants) (statements : List Resolved) (i : ℕ) (r : Resolved) (x : Condition) (otherwise there next : ℕ) (term : Term)
    (operation : Operation) → slice_get statements i ≡ Some r → r.action ≡ Branch x otherwise → there ≡ onward statements r.ends.items r.next
    → next ≡ otherwise → IsTestTerm t x term → IsTesting there term operation
    → IsInstruction t statements i (record { operation = operation; next = next })
branch_stands t statements i r x otherwise there next term operation at is on other h tests =
    instructed t statements i r operation next at
    (λ plan b.
    subst (λ act. HasAction plan act → StandsForStatement plan statements i r act operation next) (sym is)
    (λ has. (term_tests plan x term (onward statements r.ends.items r.next) operation (subst (λ n. IsTesting n term operation) on tests) (h.tests plan b has), other)))

pub do_stands : (t : Constants) (statements : List Resolved) (i : ℕ) (r : Resolved) (slot : ℕ) (x y z : Number) (end next : ℕ) (begun : Beginning)
    (operation : Operation) → slice_get statements i ≡ Some r → r.action ≡ Loop slot x y z end → beginning operation ≡ Some begun → begun.variable ≡ slot
    → begun.counter ≡ do_rank statements i → begun.body ≡ i + 1 → IsNumberTerm t x begun.parameters.first → IsNumberTerm t y begun.parameters.last
    → IsNumberTerm t z begun.parameters.step → IsLeftDone statements i end next
    → IsInstruction t statements i (record { operation = operation; next = next })
do_stands t statements i r slot x y z end next begun operation at is begins same ranked body first last step left =
    instructed t statements i r operation next at
    (λ plan b.
    subst (λ act. HasAction plan act → StandsForStatement plan statements i r act operation next) (sym is)
    (λ has. rw begins (record {
      variable = same;
      slot = has.0;
      counter = ranked;
      body = body;
      parameters = record { first = first.stands plan b has.1; last = last.stands plan b has.2; step = step.stands plan b has.3 };
      left = left;
    })))

-- any other action
plain_stands : (plan : Plan) (statements : List Resolved) (i : ℕ) (r : Resolved) (operation : Operation) (next : ℕ) → next ≡ onward statements r.ends.items r.next
    → (act : Action) → IsOperation plan act operation → StandsForStatement plan statements i r act operation next
plain_stands plan statements i r operation next on (Branch x otherwise) h = absurd h
plain_stands plan statements i r operation next on (Loop slot x y z end) h = absurd h
plain_stands plan statements i r operation next on _ h = (h, on)

pub other_stands : (t : Constants) (statements : List Resolved) (i : ℕ) (r : Resolved) (operation : Operation) (next : ℕ) → slice_get statements i ≡ Some r
    → next ≡ onward statements r.ends.items r.next → IsCompiled t r.action operation
    → IsInstruction t statements i (record { operation = operation; next = next })
other_stands t statements i r operation next at on h =
    instructed t statements i r operation next at (λ plan b has. plain_stands plan statements i r operation next on r.action (h.stands plan b has))

-- what increments a DO
pub increment_stands : (statements : List Resolved) (d : ℕ) (r : Resolved) (slot variable counter end next : ℕ) (x y z : Number) → slice_get statements d ≡ Some r
    → r.action ≡ Loop slot x y z end → variable ≡ slot → counter ≡ do_rank statements d → IsLeftDone statements d end next
    → IsIncrement statements d (record { operation = Next variable counter (d + 1); next = next })
increment_stands statements d r slot variable counter end next x y z at is same ranked left =
    record {
      increments = λ plan s found has.
          let one : r ≡ s = same_Some _ _ (sym at ∙ found) in
          let action : s.action ≡ Loop slot x y z end = sym (ap (λ r. r.action) one) ∙ is in
          let there = subst (HasAction plan) action has in
          subst (λ act. StandsForIncrement plan statements d act (Next variable counter (d + 1)) next) (sym action) (same, there.0, ranked, refl, left);
    }

-- what stands for a statement by one table does so by a later one
pub instruction_later : (t u : Constants) (statements : List Resolved) (i : ℕ) (instruction : Instruction) → GrowsPlan t u → IsInstruction t statements i instruction
    → IsInstruction u statements i instruction
instruction_later t u statements i instruction g h = record { stands = λ plan r b at has. h.stands plan r (begins_before t u plan g b) at has }

-- what is no DO
pub no_loop : (act : Action) → ((slot : ℕ) (x y z : Number) (end : ℕ) → act ≡ Loop slot x y z end → ⊥) → is_loop act ≡ false
no_loop (Loop slot x y z end) h = absurd (h slot x y z end refl)
no_loop _ h = refl
