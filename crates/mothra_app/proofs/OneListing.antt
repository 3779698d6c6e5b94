-- There is at most one list of an operator's mutants, or it is too long.
use Rattle.mothra_app.proofs.Common.{◌≡◌, sym, ℕ, subst, List, ◌∙◌, ap, inr, ◌⊎◌, arith, inl, length, ◌≤◌, ◌<◌, LineFields, index, Op, IsList, IsTooLong}
use Rattle.mothra_app.proofs.Common.{most_edits, most_whole, thinned, IsFirstTooLong, Edit}
use Rattle.std.proofs.lemmas.Bool.{cases_order}
use Rattle.mothra_codes.proofs.Operators.{same_op}
use Rattle.mothra_app.proofs.OneProgram.{Laws}

pub one_of : {op : Op} {program : List LineFields} {every : ℕ} {edits others : List Edit} → Laws → IsList op program every edits → IsList op program every others
    → edits ≡ others
one_of {op} {program} {every} laws one two =
    one.is ∙ ap (thinned every) (laws.one_edit_list op program one.whole two.whole one.lists two.lists) ∙ sym two.is

pub never_long : {op : Op} {program : List LineFields} {every : ℕ} {edits : List Edit} {A : Type 0} → Laws → 1 ≤ every → IsTooLong op program every
    → IsList op program every edits → A
never_long {op} {program} {every} {edits} {A} laws some long list = go (laws.too_long op program every list.whole some long list.lists)
  where
    few : length (thinned every list.whole) ≤ most_edits
    few = subst (λ e. length e ≤ most_edits) list.is list.few

    go : (most_edits < length (thinned every list.whole)) ⊎ (most_whole < length list.whole) → A
    go (inl many) = absurd (omega (arith, few, many))
    go (inr many) = absurd (omega (arith, list.few_whole, many))

-- two operators are the same, or one stands before the other
same_index : (a b : Op) → (a ≡ b) ⊎ ((index a < index b) ⊎ (index b < index a))
same_index a b = elim (cases_order (index a) (index b)) [
  | inl same ↦ inl (same_op a b same)
  | inr apart ↦ inr apart
]

-- only one operator is the first whose list is too long
pub one_first : {ops : List Op} {program : List LineFields} {every : ℕ} (op other : Op) → Laws → 1 ≤ every → IsFirstTooLong ops program every op
    → IsFirstTooLong ops program every other → op ≡ other
one_first op other laws some first also = go (same_index op other)
  where
    go : (op ≡ other) ⊎ ((index op < index other) ⊎ (index other < index op)) → op ≡ other
    go (inl same) = same
    go (inr (inl before)) = never_long laws some first.long (also.others op first.asked before).1
    go (inr (inr before)) = never_long laws some also.long (first.others other also.asked before).1
