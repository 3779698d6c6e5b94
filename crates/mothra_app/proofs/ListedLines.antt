-- The lines of a list are written one by one.
use Rattle.mothra_app.proofs.Common.{◌≡◌, sym, ℕ, List, ◌∙◌, ap, refl, [], ◌++◌, inr, arith, inl, map, Some, length, ◌∷◌, ◌≤◌, false, true, ◌+◌, ◌<◌}
use Rattle.mothra_app.proofs.Common.{append_assoc, codes, suc, drop, filter, flat_map, get_or, cond, sum, add-one, drop-cons, drop_all}
use Rattle.mothra_app.proofs.Common.{enumerate_from, listed_line, plan_lines, all_ops, op_at, Op, program_of}
use Rattle.mothra_app.proofs.Common.{edit_text, mutant_text, PlanFields, asked, edits_of, Edit}
use Rattle.std.proofs.Common.{slice_get}
use Rattle.std.proofs.lemmas.List.Sums.{sum_by-cons, sum-map}
use Rattle.std.proofs.lemmas.Option.{slice_get_cases}

-- one more part of a text is written
pub part_more : (old new part rest after all : List ℕ) → new ≡ old ++ part → rest ≡ part ++ after → old ++ rest ≡ all → new ++ after ≡ all
part_more old new part rest after all is front so_far =
    ap (λ t. t ++ after) is ∙ append_assoc old part after ∙ ap (λ t. old ++ t) (sym front) ∙ so_far

-- ---- mutants

-- the lines of the mutants after the first i
abbrev pub lines_behind : PlanFields → Op → ℕ → List ℕ
lines_behind plan op i = flat_map (listed_line (program_of plan) plan.every op) (enumerate_from (i + 1) (drop i (edits_of plan op)))

split : (edits : List Edit) (i : ℕ) (edit : Edit) → i < length edits → get_or edits i edit ≡ edit → drop i edits ≡ edit ∷ drop (i + 1) edits
split edits i edit within at = rw add-one (drop-cons edits i edit within ∙ ap (λ e. e ∷ drop (suc i) edits) at)

-- the lines from a mutant on are its own line and the lines after it
own_line : (plan : PlanFields) (op : Op) (i : ℕ) (edit : Edit) → slice_get (edits_of plan op) i ≡ Some edit → drop i (edits_of plan op) ≡ edit ∷ drop (i + 1) (edits_of plan op)
    → lines_behind plan op i ≡ (mutant_text plan op (i + 1) ++ codes "\n") ++ lines_behind plan op (i + 1)
own_line plan op i edit is front =
    let own : mutant_text plan op (i + 1) ≡ edit_text (program_of plan) plan.every op (i + 1) edit = rw (add-one, is) refl in
    rw (front, own) refl

pub mutant_more : (plan : PlanFields) (op : Op) (i : ℕ) → i < length (edits_of plan op)
    → lines_behind plan op i ≡ (mutant_text plan op (i + 1) ++ codes "\n") ++ lines_behind plan op (i + 1)
mutant_more plan op i within = elim (slice_get_cases (edits_of plan op) i).1 [
  | inl some ↦ own_line plan op i some.0 some.2 (split (edits_of plan op) i some.0 some.1 some.3)
  | inr none ↦ absurd (omega (arith, within, none.0))
]

pub no_mutant_more : (plan : PlanFields) (op : Op) (i : ℕ) → length (edits_of plan op) ≤ i → lines_behind plan op i ≡ []
no_mutant_more plan op i over = ap (λ edits. flat_map (listed_line (program_of plan) plan.every op) (enumerate_from (i + 1) edits)) (drop_all i (edits_of plan op) over)

-- ---- operators

-- the operators after the first i that were asked for
abbrev pub asked_behind : PlanFields → ℕ → List Op
asked_behind plan i = filter (asked plan) (drop i all_ops)

abbrev pub operators_behind : PlanFields → ℕ → List ℕ
operators_behind plan i = flat_map (plan_lines plan) (asked_behind plan i)

abbrev pub count_behind : PlanFields → ℕ → ℕ
count_behind plan i = sum (map (λ op. length (edits_of plan op)) (asked_behind plan i))

behind : (plan : PlanFields) (i : ℕ) → i < 22 → asked_behind plan i ≡ cond (asked plan (op_at i)) (op_at i ∷ asked_behind plan (i + 1)) (asked_behind plan (i + 1))
behind plan i within = rw (add-one, drop-cons all_ops i (op_at 0) within) refl

operator_asked : (plan : PlanFields) (i : ℕ) → i < 22 → asked plan (op_at i) ≡ true → asked_behind plan i ≡ op_at i ∷ asked_behind plan (i + 1)
operator_asked plan i within is = behind plan i within ∙ ap (λ b. cond b (op_at i ∷ asked_behind plan (i + 1)) (asked_behind plan (i + 1))) is

operator_passed : (plan : PlanFields) (i : ℕ) → i < 22 → asked plan (op_at i) ≡ false → asked_behind plan i ≡ asked_behind plan (i + 1)
operator_passed plan i within is = behind plan i within ∙ ap (λ b. cond b (op_at i ∷ asked_behind plan (i + 1)) (asked_behind plan (i + 1))) is

-- where the operator at place i was asked for, its lines and its count come next
pub lines_more : (plan : PlanFields) (i : ℕ) → i < 22 → asked plan (op_at i) ≡ true
    → operators_behind plan i ≡ plan_lines plan (op_at i) ++ operators_behind plan (i + 1)
lines_more plan i within is = ap (flat_map (plan_lines plan)) (operator_asked plan i within is)

pub counts_more : (plan : PlanFields) (i : ℕ) → i < 22 → asked plan (op_at i) ≡ true
    → count_behind plan i ≡ length (edits_of plan (op_at i)) + count_behind plan (i + 1)
counts_more plan i within is =
    let count : Op → ℕ = λ op. length (edits_of plan op) in
    let rest = asked_behind plan (i + 1) in
    ap (λ ops. sum (map count ops)) (operator_asked plan i within is)
    ∙ sum-map count (op_at i ∷ rest)
    ∙ sum_by-cons count (op_at i) rest
    ∙ ap (λ n. count (op_at i) + n) (sym (sum-map count rest))

-- where the operator at place i was not asked for, nothing of it comes
pub lines_as_before : (plan : PlanFields) (i : ℕ) → i < 22 → asked plan (op_at i) ≡ false → operators_behind plan i ≡ operators_behind plan (i + 1)
lines_as_before plan i within is = ap (flat_map (plan_lines plan)) (operator_passed plan i within is)

pub counts_as_before : (plan : PlanFields) (i : ℕ) → i < 22 → asked plan (op_at i) ≡ false → count_behind plan i ≡ count_behind plan (i + 1)
counts_as_before plan i within is = ap (λ ops. sum (map (λ op. length (edits_of plan op)) ops)) (operator_passed plan i within is)
