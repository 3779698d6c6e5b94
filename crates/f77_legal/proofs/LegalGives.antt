-- What the clauses of a legal program give: no statement breaks one, and each block and each branch has its END IF.
use Rattle.f77_legal.proofs.Common.{◌≡◌, ◌∙◌, ap, map, sym, List, refl, ℕ, [], false, ◌∷◌, Bool, arith, true, Some, None, ◌++◌, ◌+◌, filter, ◌||◌, suc, Option}
use Rattle.f77_legal.proofs.Common.{◌&&◌, ◌<◌, not, cond, option_map, zero, nat_lt, ◌==◌, is_some, slice_get, eqb-true, IsSome, or_parts, and_parts, nat_tests}
use Rattle.f77_legal.proofs.Common.{list_any, enumerate_from, option_map_or, nth_statement, breaks, is_block_if, IsLegal, is_alternative, block_end}
use Rattle.f77_legal.proofs.Common.{clause_fault, has_at, lines_where, too_large_faults, clause_faults, control_clauses, expression_clauses, is_in_block}
use Rattle.f77_legal.proofs.Common.{label_faults, name_faults, statement_numbers, data_faults, breaks_block, ends_else, faults_of, Clause, Bounds, Kinds}
use Rattle.f77_legal.proofs.Common.{NamedLabels, Nests, Jumps, Targets, Terminals, Variables, LineFields, Statement, Tree}
use Rattle.f77_legal.proofs.Branches.{branch_closes}

-- no fault of a clause
pub none_before : {X : Type 0} (xs ys : List X) → xs ++ ys ≡ [] → xs ≡ []
none_before [] ys e = refl
none_before (x ∷ xs) ys e = absurd (cc (e))

pub none_behind : {X : Type 0} (xs ys : List X) → xs ++ ys ≡ [] → ys ≡ []
none_behind [] ys e = e
none_behind (x ∷ xs) ys e = absurd (cc (e))

pub map_none : {X A : Type 0} (f : X → A) (xs : List X) → map f xs ≡ [] → xs ≡ []
map_none f [] e = refl
map_none f (x ∷ xs) e = absurd (cc (e))

filtered : (q : ℕ × LineFields → Bool) (k : ℕ) (xs : List LineFields) (i : ℕ) (x : LineFields) → filter q (enumerate_from k xs) ≡ [] → slice_get xs i ≡ Some x → q (k + i, x) ≡ false
filtered q k [] i x e at = absurd (cc (at))
filtered q k (y ∷ ys) i x e at = by (q (k, y)) refl i at (filtered q (k + 1) ys)
  where
    by : (b : Bool) → q (k, y) ≡ b → (i : ℕ) → slice_get (y ∷ ys) i ≡ Some x
        → ((i : ℕ) (x : LineFields) → filter q (enumerate_from (k + 1) ys) ≡ [] → slice_get ys i ≡ Some x → q (k + 1 + i, x) ≡ false) → q (k + i, x) ≡ false
    by true t i at later = let whole : filter q (enumerate_from k (y ∷ ys)) ≡ (k, y) ∷ filter q (enumerate_from (k + 1) ys) =
        ap (λ b. cond b ((k, y) ∷ filter q (enumerate_from (k + 1) ys)) (filter q (enumerate_from (k + 1) ys))) t in absurd (cc (whole, e))
    by false t zero at later =
        let same : y ≡ x = cc (at) in
        let n : k + zero ≡ k = omega arith in
        ap q (λ j. (n j, sym same j)) ∙ t
    by false t (suc m) at later =
        let whole : filter q (enumerate_from k (y ∷ ys)) ≡ filter q (enumerate_from (k + 1) ys) =
        ap (λ b. cond b ((k, y) ∷ filter q (enumerate_from (k + 1) ys)) (filter q (enumerate_from (k + 1) ys))) t in
        let n : k + suc m ≡ k + 1 + m = omega arith in
        ap (λ c. q (c, x)) n ∙ later m x (sym whole ∙ e) at

-- where no line passes a test, no statement does
pub test_kept : (test : ℕ → Statement → Bool) (p : List LineFields) → lines_where test p ≡ [] → (i : ℕ) (s : Statement) → nth_statement p i ≡ Some s → test i s ≡ false
test_kept test p none i s at = by (slice_get p i) refl at
  where
    empty : filter (λ numbered. test numbered.0 numbered.1.stmt) (enumerate_from 0 p) ≡ []
    empty = map_none _ _ none

    by : (o : Option LineFields) → slice_get p i ≡ o → option_map (λ line. line.stmt) o ≡ Some s → test i s ≡ false
    by None is at = absurd (cc (at))
    by (Some line) is at =
        let same : line.stmt ≡ s = cc (at) in
        let n : 0 + i ≡ i = omega arith in
        sym (ap (test i) same) ∙ sym (ap (λ k. test k line.stmt) n) ∙ filtered (λ numbered. test numbered.0 numbered.1.stmt) 0 p i line empty is

pub clause_kept : (c : Clause) (p : List LineFields) → faults_of c p ≡ [] → (i : ℕ) (s : Statement) → nth_statement p i ≡ Some s → breaks c p i s ≡ false
clause_kept c p none = test_kept (breaks c p) p (map_none (clause_fault c) (lines_where (breaks c p) p) none)

-- what a legal program keeps
pub record Kept (p : List LineFields) : Type 0 where
  pub names : name_faults p ≡ []
  pub kinds : faults_of Kinds p ≡ []
  pub bounds : faults_of Bounds p ≡ []
  pub doubles : label_faults p ≡ []
  pub labels : faults_of NamedLabels p ≡ []
  pub targets : faults_of Targets p ≡ []
  pub terminals : faults_of Terminals p ≡ []
  pub nests : faults_of Nests p ≡ []
  pub jumps : faults_of Jumps p ≡ []
  pub variables : faults_of Variables p ≡ []
  pub initial_values : data_faults p ≡ []
  pub sizes : too_large_faults p ≡ []

pub kept_by : (p : List LineFields) → IsLegal p → Kept p
kept_by p legal =
    let expressions = none_behind (name_faults p) (clause_faults expression_clauses p ++ (label_faults p ++ (clause_faults control_clauses p ++ (data_faults p ++ too_large_faults p)))) legal in
    let labels = none_behind (clause_faults expression_clauses p) (label_faults p ++ (clause_faults control_clauses p ++ (data_faults p ++ too_large_faults p))) expressions in
    let control = none_behind (label_faults p) (clause_faults control_clauses p ++ (data_faults p ++ too_large_faults p)) labels in
    let all = none_before (clause_faults control_clauses p) (data_faults p ++ too_large_faults p) control in
    let first = none_behind (faults_of NamedLabels p) (clause_faults (Targets ∷ (Terminals ∷ (Nests ∷ (Jumps ∷ (Variables ∷ []))))) p) all in
    let second = none_behind (faults_of Targets p) (clause_faults (Terminals ∷ (Nests ∷ (Jumps ∷ (Variables ∷ [])))) p) first in
    let third = none_behind (faults_of Terminals p) (clause_faults (Nests ∷ (Jumps ∷ (Variables ∷ []))) p) second in
    let fourth = none_behind (faults_of Nests p) (clause_faults (Jumps ∷ (Variables ∷ [])) p) third in
    let fifth = none_behind (faults_of Jumps p) (clause_faults (Variables ∷ []) p) fourth in
    let last = none_behind (clause_faults control_clauses p) (data_faults p ++ too_large_faults p) control in
    let own = none_before (clause_faults expression_clauses p) (label_faults p ++ (clause_faults control_clauses p ++ (data_faults p ++ too_large_faults p))) expressions in
    record {
      names = none_before (name_faults p) (clause_faults expression_clauses p ++ (label_faults p ++ (clause_faults control_clauses p ++ (data_faults p ++ too_large_faults p)))) legal;
      kinds = none_before (faults_of Kinds p) (clause_faults (Bounds ∷ []) p) own;
      bounds = none_before (faults_of Bounds p) (clause_faults [] p) (none_behind (faults_of Kinds p) (clause_faults (Bounds ∷ []) p) own);
      doubles = none_before (label_faults p) (clause_faults control_clauses p ++ (data_faults p ++ too_large_faults p)) labels;
      labels = none_before (faults_of NamedLabels p) (clause_faults (Targets ∷ (Terminals ∷ (Nests ∷ (Jumps ∷ (Variables ∷ []))))) p) all;
      targets = none_before (faults_of Targets p) (clause_faults (Terminals ∷ (Nests ∷ (Jumps ∷ (Variables ∷ [])))) p) first;
      terminals = none_before (faults_of Terminals p) (clause_faults (Nests ∷ (Jumps ∷ (Variables ∷ []))) p) second;
      nests = none_before (faults_of Nests p) (clause_faults (Jumps ∷ (Variables ∷ [])) p) third;
      jumps = none_before (faults_of Jumps p) (clause_faults (Variables ∷ []) p) fourth;
      variables = none_before (faults_of Variables p) (clause_faults [] p) fifth;
      initial_values = none_before (data_faults p) (too_large_faults p) last;
      sizes = none_behind (data_faults p) (too_large_faults p) last;
    }

-- where no number of a list passes, none of its members does
pub any_false : (q : ℕ → Bool) (xs : List ℕ) (label : ℕ) → list_any q xs ≡ false → list_any (λ x. x == label) xs ≡ true → q label ≡ false
any_false q [] label none among = absurd (cc (among))
any_false q (x ∷ xs) label none among = by (x == label) refl among (any_false q xs label)
  where
    by : (b : Bool) → (x == label) ≡ b → list_any (λ x. x == label) (x ∷ xs) ≡ true → (list_any q xs ≡ false → list_any (λ x. x == label) xs ≡ true → q label ≡ false) → q label ≡ false
    by true e among later = ap q (sym (eqb-true x label e)) ∙ (or_parts (q x) (list_any q xs) none).0
    by false e among later = later (or_parts (q x) (list_any q xs) none).1 (sym (ap (λ b. b || list_any (λ x. x == label) xs) e) ∙ among)

any_true : (q : ℕ → Bool) (xs : List ℕ) → list_any q xs ≡ true → (x : ℕ) × (q x ≡ true)
any_true q [] h = absurd (cc (h))
any_true q (x ∷ xs) h = by (q x) refl (any_true q xs)
  where
    by : (b : Bool) → q x ≡ b → (list_any q xs ≡ true → (x : ℕ) × (q x ≡ true)) → (x : ℕ) × (q x ≡ true)
    by true e later = (x, e)
    by false e later = later (sym (ap (λ b. b || list_any q xs) e) ∙ h)

other_false : (a b : Bool) → (a && b) ≡ false → a ≡ true → b ≡ false
other_false true b h e = h
other_false false b h e = absurd (cc (e))

pub not_false : (b : Bool) → not b ≡ false → b ≡ true
not_false true h = refl
not_false false h = absurd (cc (h))

some_above : (o : Option ℕ) (i : ℕ) → option_map_or (nat_lt i) o false ≡ true → (e : ℕ) × (o ≡ Some e) × (i < e)
some_above None i h = absurd (cc (h))
some_above (Some e) i h = (e, refl, grind (arith, nat_tests))

pub some_of : {A : Type 0} (o : Option A) → IsSome o → (x : A) × (o ≡ Some x)
some_of None h = absurd (cc (h))
some_of (Some x) h = (x, refl)

pub is_some_of : {A : Type 0} (o : Option A) → not (is_some o) ≡ false → IsSome o
is_some_of None h = absurd (cc (h))
is_some_of (Some x) h = refl

-- no block breaks the nesting
pub nested : (p : List LineFields) → Kept p → (i : ℕ) (s : Statement) → nth_statement p i ≡ Some s → breaks_block p i ≡ false
nested p kept i s at = (or_parts _ _ (clause_kept Nests p kept.nests i s at)).0

is_below : (b i : ℕ) → nat_lt b i ≡ true → b < i
is_below b i h = grind (arith, nat_tests)

-- a further branch stands in a block, and has its END IF
pub alternative_in_block : (p : List LineFields) → Kept p → (i : ℕ) → has_at is_alternative p i ≡ true → is_in_block p i ≡ true
alternative_in_block p kept i alternative = by (nth_statement p i) refl alternative
  where
    by : (o : Option Statement) → nth_statement p i ≡ o → option_map_or is_alternative o false ≡ true → is_in_block p i ≡ true
    by None at is = absurd (cc (is))
    by (Some s) at is =
        let third : (has_at is_alternative p i && (not (is_in_block p i) || ends_else p i)) ≡ false = (or_parts _ _ (or_parts _ _ (nested p kept i s at)).1).1 in
        not_false (is_in_block p i) (or_parts _ _ (other_false (has_at is_alternative p i) _ third alternative)).0

pub alternative_closes : (p : List LineFields) → Kept p → (i : ℕ) → has_at is_alternative p i ≡ true → IsSome (block_end p i)
alternative_closes p kept i alternative =
    let b = any_true _ (statement_numbers p) (alternative_in_block p kept i alternative) in
    let parts = and_parts (has_at is_block_if p b.0) _ b.1 in
    let more = and_parts (nat_lt b.0 i) _ parts.1 in
    let e = some_above (block_end p b.0) i more.1 in
    branch_closes p b.0 i e.0 e.1 (is_below b.0 i more.0) e.2 alternative

pub block_closes : (p : List LineFields) → Kept p → (i : ℕ) (t : Tree) → nth_statement p i ≡ Some (Statement.BlockIf t) → IsSome (block_end p i)
block_closes p kept i t at =
    let first = (or_parts _ _ (nested p kept i (Statement.BlockIf t) at)).0 in
    is_some_of (block_end p i) (other_false (has_at is_block_if p i) _ first (ap (λ o. option_map_or is_block_if o false) at))
