-- A step and a run are determined.
use Rattle.f77_meaning.proofs.Common.{List, ℕ, ◌≡◌, Some, true, ap, arith, ◌∙◌, None, false, sym, Bool, Option, suc, zero, ◌<◌, inr, inl, subst, ℤ, pos, Err}
use Rattle.f77_meaning.proofs.Common.{Ok, Result, negsuc, ◌-◌, IsSome, ◌+ℤ◌, MatchOption, in_range, trip_count, Fault, item_chosen, by_sign, nth_statement}
use Rattle.f77_meaning.proofs.Common.{Symbol, bounds_of, kind_of, Store, store_with, place, number, truth, value, IsOutcome, OneOutcome, OneSuccessor, config}
use Rattle.f77_meaning.proofs.Common.{Execute, Next, Goes, GoesOn, Turns, with_turn, Begins, Increment, Increments, Passes, Place, Turn, With, step_number}
use Rattle.f77_meaning.proofs.Common.{Either, Executes, Jumps, StepAt, Skips, left_behind, IsInnermost, LineFields, Statement, Tree, Trees}
use Rattle.f77_actions.specs.declared.value.Value.TheVariants as held

none_is_not_some : {A : Type 0} (o : Option A) → o ≡ None → IsSome o → ⊥
none_is_not_some None e h = cc
none_is_not_some (Some x) e h = cc

one_innermost : (p : List LineFields) (active : Turns) (t d e : ℕ) → IsInnermost p active t d → IsInnermost p active t e → d ≡ e
one_innermost p active t d e f g =
    let below : d < e → ⊥ = λ lt. none_is_not_some (active e) (f.inner e lt g.ends) g.turns in
    let above : e < d → ⊥ = λ lt. none_is_not_some (active d) (g.inner d lt f.ends) f.turns in
    omega (arith, below, above)

-- two numbers that one option gives
one_of : (o : Option ℕ) (j k : ℕ) → o ≡ Some j → o ≡ Some k → j ≡ k
one_of o j k f g = cc (f, g)

one_on : (p : List LineFields) (t : ℕ) (s : Store) (active : Turns) (m n : Next) → GoesOn p t s active m → GoesOn p t s active n → m ≡ n
one_on p t s active m n (inl f) (inl g) = let e = one_innermost p active t f.0 g.0 f.1 g.1 in f.2 ∙ ap (λ d. Goes (config (Increment d) s active)) e ∙ sym g.2
one_on p t s active m n (inl f) (inr g) = absurd (none_is_not_some (active f.0) (g.0 f.0 f.1.ends) f.1.turns)
one_on p t s active m n (inr f) (inl g) = absurd (none_is_not_some (active g.0) (f.0 g.0 g.1.ends) g.1.turns)
one_on p t s active m n (inr f) (inr g) = f.3 ∙ ap (λ j. Goes (config (Execute j) s active)) (one_of _ f.1 g.1 f.2 g.2) ∙ sym g.3

one_jump : (p : List LineFields) (i label : ℕ) (s : Store) (active : Turns) (m n : Next) → Jumps p i label s active m → Jumps p i label s active n → m ≡ n
one_jump p i label s active m n f g =
    f.2 ∙ ap (λ j. Goes (config (Execute j) s (left_behind p i j active))) (one_of _ f.0 g.0 f.1 g.1) ∙ sym g.2

one_skip : (p : List LineFields) (i : ℕ) (s : Store) (active : Turns) (m n : Next) → Skips p i s active m → Skips p i s active n → m ≡ n
one_skip p i s active m n f g = f.2 ∙ ap (λ j. Goes (config (Execute j) s active)) (one_of _ f.0 g.0 f.1 g.1) ∙ sym g.2

one_passes : (p : List LineFields) (d k : ℕ) (z : ℤ) (s : Store) (active : Turns) (m n : Next) → Passes p d k z s active m → Passes p d k z s active n → m ≡ n
one_passes p d zero z s active m n f g =
    one_on p g.0 s (with_turn active d None) m n (subst (λ t. GoesOn p t s (with_turn active d None) m) (one_of _ f.0 g.0 f.1 g.1) f.2) g.2
one_passes p d (suc k) z s active m n f g = f ∙ sym g

one_begins : (p : List LineFields) (d : ℕ) (x : Symbol) (first last step : ℤ) (s : Store) (active : Turns) (m n : Next)
    → Begins p d x first last step s active m → Begins p d x first last step s active n → m ≡ n
one_begins p d x first last (pos zero) s active m n f g = f ∙ sym g
one_begins p d x first last (pos (suc k)) s active m n f g =
    one_passes p d (trip_count first last (pos (suc k))) (pos (suc k)) (store_with s x 0 (held.Number first)) active m n f g
one_begins p d x first last (negsuc k) s active m n f g =
    one_passes p d (trip_count first last (negsuc k)) (negsuc k) (store_with s x 0 (held.Number first)) active m n f g

one_with : {A : Type 0} (r : Result A Fault) (s : Store) (m n : Next) (P Q : A → Type 0) → ((v : A) → P v → Q v → m ≡ n) → With r s m P → With r s n Q → m ≡ n
one_with (Ok v) s m n P Q each f g = each v f g
one_with (Err e) s m n P Q each f g = f ∙ sym g

one_choice : (b : Bool) (m n : Next) (P P' Q Q' : Type 0) → (P → P' → m ≡ n) → (Q → Q' → m ≡ n) → Either b P Q → Either b P' Q' → m ≡ n
one_choice true m n P P' Q Q' first second f g = first f g
one_choice false m n P P' Q Q' first second f g = second f g

one_jump_or_on : (p : List LineFields) (i : ℕ) (s : Store) (active : Turns) (m n : Next) (o : Option ℕ)
    → MatchOption o (GoesOn p i s active m) (λ label. Jumps p i label s active m)
    → MatchOption o (GoesOn p i s active n) (λ label. Jumps p i label s active n) → m ≡ n
one_jump_or_on p i s active m n None f g = one_on p i s active m n f g
one_jump_or_on p i s active m n (Some label) f g = one_jump p i label s active m n f g

one_executes : (p : List LineFields) (i : ℕ) (stmt : Statement) (s : Store) (active : Turns) (m n : Next)
    → Executes p i stmt s active m → Executes p i stmt s active n → m ≡ n
one_executes p i (Statement.Assign name items t) s active m n f g =
    one_with (place (bounds_of p) s name items) s m n _ _
    (λ k. one_with (value (kind_of p name) (bounds_of p) s t) s m n _ _ (λ v. one_on p i (store_with s name k v) active m n)) f g
one_executes p i (Statement.Goto label) s active m n f g = one_jump p i label s active m n f g
one_executes p i (Statement.ComputedGoto labels t) s active m n f g =
    one_with (number (bounds_of p) s t) s m n _ _ (λ z. one_jump_or_on p i s active m n (item_chosen labels z)) f g
one_executes p i (Statement.ArithIf t l e r) s active m n f g =
    one_with (number (bounds_of p) s t) s m n _ _ (λ z. one_jump p i (by_sign z l e r) s active m n) f g
one_executes p i (Statement.LogicalIf t inner) s active m n f g =
    one_with (truth (bounds_of p) s t) s m n _ _ (λ b. one_choice b m n _ _ _ _ (one_executes p i inner s active m n) (one_on p i s active m n)) f g
one_executes p i (Statement.BlockIf t) s active m n f g =
    one_with (truth (bounds_of p) s t) s m n _ _ (λ b. one_choice b m n _ _ _ _ (one_on p i s active m n) (one_skip p i s active m n)) f g
one_executes p i (Statement.ElseIf t) s active m n f g =
    one_with (truth (bounds_of p) s t) s m n _ _ (λ b. one_choice b m n _ _ _ _ (one_on p i s active m n) (one_skip p i s active m n)) f g
one_executes p i Statement.Else s active m n f g = one_on p i s active m n f g
one_executes p i Statement.EndIf s active m n f g = one_on p i s active m n f g
one_executes p i (Statement.Loop label name a b c) s active m n f g =
    one_with (number (bounds_of p) s a) s m n _ _
    (λ first. one_with (number (bounds_of p) s b) s m n _ _
    (λ last. one_with (step_number (bounds_of p) s c) s m n _ _ (λ step. one_begins p i name first last step s active m n))) f g
one_executes p i Statement.Continue s active m n f g = one_on p i s active m n f g
one_executes p i Statement.Return s active m n f g = f ∙ sym g
one_executes p i Statement.Stop s active m n f g = f ∙ sym g
one_executes p i Statement.Trap s active m n f g = f ∙ sym g
one_executes p i Statement.End s active m n f g = f ∙ sym g
one_executes p i _ s active m n f g = absurd f

one_increments : (p : List LineFields) (d : ℕ) (stmt : Statement) (turn : Turn) (s : Store) (active : Turns) (m n : Next)
    → Increments p d stmt turn s active m → Increments p d stmt turn s active n → m ≡ n
one_increments p d (Statement.Loop label name a b c) turn s active m n f g =
    one_with (number (bounds_of p) s (Tree.Reference name Trees.None)) s m n _ _
    (λ z. one_with (in_range (z +ℤ turn.step)) s m n _ _ (λ next. one_passes p d (turn.passes - 1) turn.step (store_with s name 0 (held.Number next)) active m n)) f g
one_increments p d _ turn s active m n f g = absurd f

one_of_option : {A : Type 0} (o : Option A) (m n : Next) (P Q : A → Type 0) → ((x : A) → P x → Q x → m ≡ n) → MatchOption o ⊥ P → MatchOption o ⊥ Q → m ≡ n
one_of_option None m n P Q each f g = absurd f
one_of_option (Some x) m n P Q each f g = each x f g

one_step_at : (p : List LineFields) (at : Place) (s : Store) (active : Turns) (m n : Next) → StepAt p at s active m → StepAt p at s active n → m ≡ n
one_step_at p (Execute i) s active m n f g =
    one_of_option (nth_statement p i) m n _ _ (λ stmt. one_executes p i stmt s active m n) f g
one_step_at p (Increment d) s active m n f g =
    one_of_option (nth_statement p d) m n _ _ (λ stmt. one_of_option (active d) m n _ _ (λ turn. one_increments p d stmt turn s active m n)) f g

pub one_successor : OneSuccessor
one_successor p c m n f g = one_step_at p c.place c.values c.active m n f g

pub one_outcome : OneOutcome
one_outcome p zero c o q s t f g = (f.0 ∙ sym g.0, f.1 ∙ sym g.1)
one_outcome p (suc n) c o q s t (inl f) (inl g) = let e = one_successor p c _ _ f g in (cc, cc)
one_outcome p (suc n) c o q s t (inl f) (inr g) = let e = one_successor p c _ _ f g.1 in absurd (cc)
one_outcome p (suc n) c o q s t (inr f) (inl g) = let e = one_successor p c _ _ f.1 g in absurd (cc)
one_outcome p (suc n) c o q s t (inr f) (inr g) =
    let e = one_successor p c _ _ f.1 g.1 in
    let same : f.0 ≡ g.0 = cc in
    one_outcome p n g.0 o q s t (subst (λ b. IsOutcome p n b o s) same f.2) g.2
