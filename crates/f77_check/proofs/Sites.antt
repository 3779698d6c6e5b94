-- The statements of a legal program can be resolved by its tables.
use Rattle.f77_check.proofs.Common.{◌≡◌, ap, ◌∙◌, sym, subst, List, refl, ℕ, [], arith, length, ◌∷◌, Some, ◌++◌, ◌+◌, true, suc, zero, ◌==◌, length-append}
use Rattle.f77_check.proofs.Common.{IsSome, inl, inr, or_right, nat_tests, same_Some, list_any, slice_get, Resolved, CanResolve, IsResolved, IsAction, AreFound}
use Rattle.f77_check.proofs.Common.{CanBeResolved, HasEnd, Does, Resolver, some_branch, some_place, some_terminal, statement_behind, dimensions_fit}
use Rattle.f77_check.proofs.Common.{kinds_agree, nth_statement, label_place, array_bounds, Symbol, bounds_of, kind_of, LineFields, Statement, jumps_of, keys}
use Rattle.f77_legal.specs.declared.clause.Clause.TheVariants.{Kinds, Bounds}
use Rattle.f77_legal.specs.Loops.{loops_ending}
use Rattle.f77_legal.proofs.Actions.{inner_acts}
use Rattle.f77_legal.proofs.LegalGives.{kept_by, clause_kept, not_false}
use Rattle.f77_check.proofs.KeptNames.{all_kept, dimensions_two}

module _ (r : Resolver) (p : List LineFields) (can : CanResolve r p) (i : ℕ) where
  pub ready_at : (s : Statement) → nth_statement p i ≡ Some s → CanBeResolved r s
  ready_at s at = record {
    names = record { table = can.slots; flat = dimensions_two r.tables.names p can.tables.bounds can.legal };
    kinds = subst (λ kinds. kinds_agree kinds s ≡ true) (sym can.tables.kinds)
        (not_false _ (clause_kept Kinds p (kept_by p can.legal).kinds i s at));
    bounds = subst (λ bounds. dimensions_fit bounds s ≡ true) (sym can.tables.bounds)
        (not_false _ (clause_kept Bounds p (kept_by p can.legal).bounds i s at));
    kept = all_kept r.tables.names p can.names.covers i s at;
  }

  pub ends_at : (s : Statement) → nth_statement p i ≡ Some s → HasEnd p i s
  ends_at (Statement.LogicalIf t s) at = inner_acts p can.formed i t s at
  ends_at (Statement.BlockIf t) at = let end = some_branch p can.legal i t (inl at) in record { place = end.0; found = end.1; ends = end.2 }
  ends_at (Statement.ElseIf t) at = let end = some_branch p can.legal i t (inr at) in record { place = end.0; found = end.1; ends = end.2 }
  ends_at (Statement.Loop label name a b c) at = some_terminal p can.legal i _ at refl
  ends_at _ at = tt

-- labels that stand on statements, each by itself
all_found : (p : List LineFields) (labels : List ℕ) → ((label : ℕ) → list_any (λ l. l == label) labels ≡ true → IsSome (label_place p label)) → AreFound p labels
all_found p [] found = tt
all_found p (label ∷ labels) found = (found label (grind (arith, nat_tests)), all_found p labels (λ l among. found l (or_right (label == l) _ among)))

pub found_at : (r : Resolver) (p : List LineFields) → CanResolve r p → (i : ℕ) (s : Statement) → nth_statement p i ≡ Some s → AreFound p (jumps_of s)
found_at r p can i s at = all_found p (jumps_of s) (λ label among. some_place p can.legal i s label at among)

-- what the functions of a statement found is its resolved form
pub resolved_at : (r : Resolver) (p : List LineFields) → CanResolve r p → (i : ℕ) (s t : Statement) → nth_statement p i ≡ Some s → (x : Resolved)
    → Does r p i s x.action → statement_behind p i ≡ Some x.next → x.ends.items ≡ loops_ending p i → nth_statement p i ≡ Some t → IsResolved p (keys r.tables.names.facts) i t x
resolved_at r p can i s t at x does next ends also =
    let same : s ≡ t = same_Some _ _ (sym at ∙ also) in
    let kinds : IsAction (kind_of p) (array_bounds r.tables.names) (keys r.tables.names.facts) p i s x.action
    = subst (λ kinds. IsAction kinds (array_bounds r.tables.names) (keys r.tables.names.facts) p i s x.action) can.tables.kinds does in
    let bounds : IsAction (kind_of p) (bounds_of p) (keys r.tables.names.facts) p i s x.action
    = subst (λ bounds. IsAction (kind_of p) bounds (keys r.tables.names.facts) p i s x.action) can.tables.bounds kinds in
    record {
      action = subst (λ s. IsAction (kind_of p) (bounds_of p) (keys r.tables.names.facts) p i s x.action) same bounds;
      next = next;
      ends = ends;
    }

-- a statement that is resolved, where it is known which one it is
pub resolved_here : (p : List LineFields) (names : List Symbol) (i : ℕ) (s : Statement) → nth_statement p i ≡ Some s → (x : Resolved) → IsResolved p names i s x
    → (t : Statement) → nth_statement p i ≡ Some t → IsResolved p names i t x
resolved_here p names i s at x is t also = subst (λ t. IsResolved p names i t x) (same_Some _ _ (sym at ∙ also)) is

-- the first n statements, resolved
pub record AreFirst (p : List LineFields) (names : List Symbol) (n : ℕ) (list : List Resolved) : Type 0 where
  pub count : length list ≡ n
  pub each : (i : ℕ) (s : Statement) (r : Resolved) → nth_statement p i ≡ Some s → slice_get list i ≡ Some r → IsResolved p names i s r

-- what is so of the members of a list, by their numbers, and of one more is so of all
pushed : (Q : ℕ → Resolved → Type 0) (xs : List Resolved) (x : Resolved) → ((i : ℕ) (r : Resolved) → slice_get xs i ≡ Some r → Q i r) → Q (length xs) x
    → (i : ℕ) (r : Resolved) → slice_get (xs ++ (x ∷ [])) i ≡ Some r → Q i r
pushed Q [] x each last zero r is = let same : x ≡ r = same_Some _ _ is in subst (Q 0) same last
pushed Q [] x each last (suc i) r is = absurd (cc (is))
pushed Q (y ∷ xs) x each last zero r is = each zero r is
pushed Q (y ∷ xs) x each last (suc i) r is = pushed (λ i. Q (suc i)) xs x (λ i r is. each (suc i) r is) last i r is

pub one_more : (p : List LineFields) (names : List Symbol) (n : ℕ) (list : List Resolved) (x : Resolved) → AreFirst p names n list
    → ((s : Statement) → nth_statement p n ≡ Some s → IsResolved p names n s x) → AreFirst p names (n + 1) (list ++ (x ∷ []))
one_more p names n list x first next = record {
  count = length-append list (x ∷ []) ∙ ap (λ k. k + 1) first.count;
  each = λ i s r at is.
      pushed (λ i r. (s : Statement) → nth_statement p i ≡ Some s → IsResolved p names i s r) list x (λ i r is s at. first.each i s r at is)
      (subst (λ k. (s : Statement) → nth_statement p k ≡ Some s → IsResolved p names k s x) (sym first.count) next) i r is s at;
}

pub none_yet : (p : List LineFields) (names : List Symbol) → AreFirst p names 0 []
none_yet p names = record { count = refl; each = λ i s r at is. absurd (cc (is)) }
