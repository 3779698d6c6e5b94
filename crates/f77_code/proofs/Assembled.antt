-- The instructions of a program, one after another.
use Rattle.f77_code.proofs.Common.{◌≡◌, ◌∙◌, ap, sym, arith, ℕ, refl, subst, length, true, ◌+◌, List, Some, ◌<◌, slice_get, false, [], ◌∷◌, inl, inr}
use Rattle.f77_code.proofs.Common.{if◌then◌else◌, take, ◌++◌, ◌⊎◌, length-append, same_Some, slice_get_within, Action, Loop, Resolved, Plan, do_rank, is_loop}
use Rattle.f77_code.proofs.Common.{StandsForIncrement, is_loop_at, AreCode, loop_count, AreCompiled, IsIncrement, IsInstruction, BeginsPlan, GrowsPlan}
use Rattle.f77_code.proofs.Common.{AreExecuted, AreFollowed, HaveActions, Constants, Instruction, Operation}
use Rattle.f77_code.proofs.Instructed.{instruction_later}
use Rattle.f77_code.proofs.Counters.{rank_rises}
use Rattle.f77_code.proofs.Listed.{pushed, get_left, get_behind, rank_more, count_le, loop_is, last_or_below}

pub executed_more : (t u : Constants) (statements : List Resolved) (n : ℕ) (list : List Instruction) (x : Instruction) → GrowsPlan t u
    → AreExecuted t statements n list → IsInstruction u statements n x → AreExecuted u statements (n + 1) (list ++ (x ∷ []))
executed_more t u statements n list x g are next = record {
  count = length-append list (x ∷ []) ∙ ap (λ k. k + 1) are.count;
  each = pushed (IsInstruction u statements) list x (λ i y is. instruction_later t u statements i y g (are.each i y is))
      (subst (λ k. IsInstruction u statements k x) (sym are.count) next);
}

all_taken : (rs : List Resolved) → take (length rs) rs ≡ rs
all_taken [] = refl
all_taken (r ∷ rs) = ap (λ rs. r ∷ rs) (all_taken rs)

pub all_ranked : (rs : List Resolved) → do_rank rs (length rs) ≡ loop_count rs
all_ranked rs = ap loop_count (all_taken rs)

-- the statement n is no DO
pub followed_still : (t : Constants) (statements : List Resolved) (n : ℕ) (r : Resolved) (list : List Instruction) → slice_get statements n ≡ Some r
    → is_loop r.action ≡ false → AreFollowed t statements n list → AreFollowed t statements (n + 1) list
followed_still t statements n r list at other are =
    let same : do_rank statements (n + 1) ≡ do_rank statements n
    = rank_more statements n r at ∙ ap (λ b. if b then do_rank statements n + 1 else do_rank statements n) other in
    record {
      count = are.count ∙ ap (λ k. length statements + k) (sym same);
      executed = are.executed;
      incremented = λ d x below loop is. by d x below loop is (last_or_below d n below);
    }
  where
    by : (d : ℕ) (x : Instruction) → d < n + 1 → is_loop_at statements d ≡ true → slice_get list (length statements + do_rank statements d) ≡ Some x
        → (d < n) ⊎ (d ≡ n) → IsIncrement statements d x
    by d x below loop is (inl h) = are.incremented d x h loop is
    by d x below loop is (inr e) =
        let here : is_loop_at statements n ≡ true = subst (λ d. is_loop_at statements d ≡ true) e loop in
        let none : is_loop_at statements n ≡ false = loop_is statements n r at ∙ other in
        absurd (cc)

-- the statement n is a DO, and its incrementation follows
pub followed_more : (t : Constants) (statements : List Resolved) (n : ℕ) (r : Resolved) (list : List Instruction) (x : Instruction)
    → slice_get statements n ≡ Some r → is_loop r.action ≡ true → IsIncrement statements n x → AreFollowed t statements n list
    → AreFollowed t statements (n + 1) (list ++ (x ∷ []))
followed_more t statements n r list x at loops next are =
    record {
      count = length-append list (x ∷ []) ∙ omega (arith, are.count, more);
      executed = λ i y below is. are.executed i y below (sym (get_left list (x ∷ []) i (omega (arith, below, are.count))) ∙ is);
      incremented = λ d y below loop is. by d y loop is (last_or_below d n below);
    }
  where
    more : do_rank statements (n + 1) ≡ do_rank statements n + 1
    more = rank_more statements n r at ∙ ap (λ b. if b then do_rank statements n + 1 else do_rank statements n) loops

    by : (d : ℕ) (y : Instruction) → is_loop_at statements d ≡ true → slice_get (list ++ (x ∷ [])) (length statements + do_rank statements d) ≡ Some y
        → (d < n) ⊎ (d ≡ n) → IsIncrement statements d y
    by d y loop is (inl h) =
        are.incremented d y h loop
        (sym (get_left list (x ∷ []) (length statements + do_rank statements d) (omega (arith, rank_rises statements d n h loop, are.count))) ∙ is)
    by d y loop is (inr e) =
        let place : length statements + do_rank statements d ≡ length list + 0
        = ap (λ d. length statements + do_rank statements d) e ∙ omega (arith, are.count) in
        let there : slice_get (x ∷ []) 0 ≡ Some y
        = sym (get_behind list (x ∷ []) 0) ∙ ap (slice_get (list ++ (x ∷ []))) (sym place) ∙ is in
        let same : x ≡ y = same_Some _ _ there in
        subst (λ d. IsIncrement statements d y) (sym e) (subst (IsIncrement statements n) same next)

-- what is no DO has no incrementation
increments_if : (plan : Plan) (statements : List Resolved) (d : ℕ) (operation : Operation) (next : ℕ) (act : Action)
    → (is_loop act ≡ true → StandsForIncrement plan statements d act operation next) → StandsForIncrement plan statements d act operation next
increments_if plan statements d operation next (Loop slot first last step t) h = h refl
increments_if plan statements d operation next _ h = tt

-- compiled statements are code in each plan that begins with the constants, where the slots that the statements name are there
pub code_stands : (plan : Plan) (table : Constants) (statements : List Resolved) (code : List Instruction) → AreCompiled table statements code
    → length statements < 2147483648 → BeginsPlan plan table → HaveActions plan statements → AreCode plan statements code
code_stands plan table statements code are few begins have = record {
  count = are.count;
  few = omega (arith, are.count, few, count_le statements);
  executed = λ i r x at is. (are.executed i x (slice_get_within statements i r at) is).stands plan r begins at (have i r at);
  incremented = λ d r x at is.
      increments_if plan statements d x.operation x.next r.action
      (λ loops. (are.incremented d x (loop_is statements d r at ∙ loops) is).increments plan r at (have d r at));
}
