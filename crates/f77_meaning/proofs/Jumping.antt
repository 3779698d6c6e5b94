-- A jump of a legal program goes into no range from outside of it.
use Rattle.f77_meaning.proofs.Common.{List, ℕ, ◌≡◌, Some, true, ap, ◌∙◌, false, sym, length, inr, inl, ◌==◌, ◌||◌, or_left, or_parts, and_left, or_cases}
use Rattle.f77_meaning.proofs.Common.{not-true, list_any, starts_with, option_map_or, kept_by, clause_kept, not_false, any_false, branch_holds, nth_statement}
use Rattle.f77_meaning.proofs.Common.{label_place, IsLegal, range_holds, enclosing, goes_in, LineFields, Statement, jumps_of}
use Rattle.f77_legal.specs.declared.clause.Clause.TheVariants.{Jumps}
use Rattle.f77_legal.proofs.Prefixes.{begins_is}
use Rattle.f77_meaning.proofs.Nested.{in_range, begins_no_branch, none_left_out}
use Rattle.f77_meaning.proofs.Stepping.{within}

-- a jump comes from inside of each range that holds its target
pub jump_from : (p : List LineFields) → IsLegal p → (i : ℕ) (s : Statement) (label j : ℕ) → nth_statement p i ≡ Some s
    → list_any (λ l. l == label) (jumps_of s) ≡ true → label_place p label ≡ Some j → (d : ℕ) → range_holds p d j ≡ true → range_holds p d i ≡ true
jump_from p legal i s label j at among found d holds =
    let goes : goes_in p i j ≡ false
    = sym (ap (λ o. option_map_or (goes_in p i) o false) found)
    ∙ any_false (λ label. option_map_or (goes_in p i) (label_place p label) false) (jumps_of s) label (clause_kept Jumps p (kept_by p legal).jumps i s at) among in
    let begins : starts_with (λ a b. a == b) (enclosing p i) (enclosing p j) ≡ true = not_false _ goes in
    let none =
    or_parts _ _
    (not-true _ (sym (begins_is (λ k. range_holds p k i || branch_holds p k i) (λ k. range_holds p k j || branch_holds p k j) (length p)) ∙ begins)) in
    let is = in_range p d j holds in
    let either =
    none_left_out (λ k. range_holds p k j || branch_holds p k j) (λ k. range_holds p k i || branch_holds p k i) (length p) d none.0
    (within p d is.last is.ends) (or_left (range_holds p d j) (branch_holds p d j) holds) in
    elim (or_cases (range_holds p d i) (branch_holds p d i) either) [
      | inl range ↦ range
      | inr branch ↦ absurd (cc (branch, and_left _ _ (begins_no_branch p d is.last is.ends)))
    ]
