-- Two plans of one program, for the same operators, have the same lists.
use Rattle.mothra_app.proofs.Common.{◌≡◌, sym, ℕ, subst, List, ◌∙◌, ap, refl, [], Contains, length, false, true, None, Some, Bool, Option, ◌↔◌, IsTrue, ◌≤◌}
use Rattle.mothra_app.proofs.Common.{◌++◌, filter, flat_map, map, sum, Ok, true≢false, is_some, LineFields, IsLegalProgramOf, IsListed, IsFirstTooLong, IsListOf, IsPlanIn, IsPlanOf, IsPlanned, Op}
use Rattle.mothra_app.proofs.Common.{IsCountedList, program_of, PlanFields, asked, edits_of, ListFields, Ops, all_ops, list_of_operator, whole_of, Edit}
use Rattle.mothra_app.proofs.Common.{JobFields, listing_lines, plan_text, total_line}
use Rattle.std.specs.Option.{option_map_or}
use Rattle.mothra_replacements.specs.declared.fault.OpsFault.TheVariants.{TooMany}
use Rattle.mothra_app.proofs.Stages.{One, Same, one_in_turn, one_then, one_value}
use Rattle.mothra_app.proofs.OneListing.{never_long, one_first, one_of}
use Rattle.mothra_app.proofs.OneProgram.{Laws, one_legal}

-- the two plans have the same lists of the same program
pub record AreEqualPlans (one other : PlanFields) : Type 0 where
  pub program : program_of one ≡ program_of other
  pub every : one.every ≡ other.every
  pub same_asked : (op : Op) → asked one op ≡ asked other op
  pub same_edits : (op : Op) → edits_of one op ≡ edits_of other op
  pub same_whole : (op : Op) → whole_of one op ≡ whole_of other op

pub turned : (one other : PlanFields) → AreEqualPlans one other → AreEqualPlans other one
turned one other equal = record {
  program = sym equal.program;
  every = sym equal.every;
  same_asked = λ op. sym (equal.same_asked op);
  same_edits = λ op. sym (equal.same_edits op);
  same_whole = λ op. sym (equal.same_whole op);
}

same_flag : (S : Type 0) (one other : Bool) → IsTrue one ↔ S → IsTrue other ↔ S → one ≡ other
same_flag S true true p q = refl
same_flag S false false p q = refl
same_flag S true false p q = sym (q.1 (p.0 refl))
same_flag S false true p q = p.1 (q.0 refl)

-- an operator that was not asked for has no list
no_edits : (list : Option ListFields) → is_some list ≡ false → option_map_or (λ (l : ListFields). l.edits) list [] ≡ []
no_edits None none = refl
no_edits (Some l) none = absurd (true≢false none)

no_whole : (list : Option ListFields) → is_some list ≡ false → option_map_or (λ (l : ListFields). l.whole) list 0 ≡ 0
no_whole None none = refl
no_whole (Some l) none = absurd (true≢false none)

-- an operator that was asked for has its counted list
pub counted : {program : List LineFields} {ops : List Op} {every : ℕ} (plan : PlanFields) → IsPlanOf program ops every plan → (op : Op)
    → asked plan op ≡ true → IsCountedList op program every (edits_of plan op) (whole_of plan op)
counted {program} {ops} {every} plan is op of =
    subst (λ p. IsCountedList op p every (edits_of plan op) (whole_of plan op)) is.own
    (subst (λ q. IsCountedList op (program_of plan) q (edits_of plan op) (whole_of plan op)) is.kept (is.is.lists op of))

same_counted : {op : Op} {program : List LineFields} {every : ℕ} {edits others : List Edit} {count number : ℕ} → Laws
    → IsCountedList op program every edits count → IsCountedList op program every others number → (edits ≡ others) × (count ≡ number)
same_counted {op} {program} laws one two = (
  one_of laws one.list two.list,
  one.counted ∙ ap length (laws.one_edit_list op program one.list.whole two.list.whole one.list.lists two.list.lists) ∙ sym two.counted,
)

same_lists : {program : List LineFields} {ops : List Op} {every : ℕ} (one other : PlanFields) → Laws → IsPlanOf program ops every one
    → IsPlanOf program ops every other → (op : Op) (b : Bool) → asked one op ≡ b → asked other op ≡ b
    → (edits_of one op ≡ edits_of other op) × (whole_of one op ≡ whole_of other op)
same_lists one other laws p q op true is also = same_counted laws (counted one p op is) (counted other q op also)
same_lists one other laws p q op false is also = (
  no_edits (list_of_operator one op) is ∙ sym (no_edits (list_of_operator other op) also),
  no_whole (list_of_operator one op) is ∙ sym (no_whole (list_of_operator other op) also),
)

pub equal_plans : {program : List LineFields} {ops : List Op} {every : ℕ} (one other : PlanFields) → Laws → IsPlanOf program ops every one
    → IsPlanOf program ops every other → AreEqualPlans one other
equal_plans {program} {ops} {every} one other laws p q = record {
  program = p.own ∙ sym q.own;
  every = p.kept ∙ sym q.kept;
  same_asked = asks;
  same_edits = λ op. (lists op).0;
  same_whole = λ op. (lists op).1;
}
  where
    asks : (op : Op) → asked one op ≡ asked other op
    asks op = same_flag (Contains ops op) (asked one op) (asked other op) (p.asked op) (q.asked op)

    lists : (op : Op) → (edits_of one op ≡ edits_of other op) × (whole_of one op ≡ whole_of other op)
    lists op = same_lists one other laws p q op (asked other op) (asks op) refl

-- ---- at most one plan, but for what its lists do not show

module _ (laws : Laws) (ops : List Op) (every : ℕ) (some : 1 ≤ every) where
  -- where a list is too long there is no plan
  no_plan : {program : List LineFields} {op : Op} {A : Type 0} (plan : PlanFields) → IsPlanOf program ops every plan
      → IsFirstTooLong ops program every op → A
  no_plan {op = op} plan is first =
      never_long laws some first.long (counted plan is op ((is.asked op).1 first.asked)).list

  one_plan : (program : List LineFields) → One AreEqualPlans (IsPlanIn ops every program)
  one_plan program x y (IsPlanIn.too_many {op = op} first) (IsPlanIn.too_many {op = other} also) =
      ap (λ o. Ops (TooMany o)) (one_first op other laws some first also)
  one_plan program x y (IsPlanIn.too_many first) (IsPlanIn.made {plan = plan} is) = no_plan plan is first
  one_plan program x y (IsPlanIn.made {plan = plan} is) (IsPlanIn.too_many first) = no_plan plan is first
  one_plan program x y (IsPlanIn.made {plan = one} is) (IsPlanIn.made {plan = other} also) = equal_plans one other laws is also

  pub one_planned : (source : List ℕ) → One AreEqualPlans (IsPlanned source ops every)
  one_planned source = one_then AreEqualPlans (IsLegalProgramOf source) (IsPlanIn ops every) (one_legal laws source) one_plan

  -- the text of a list depends on the program and the lists of a plan alone
  same_text : (one other : PlanFields) → AreEqualPlans one other → plan_text one ≡ plan_text other
  same_text one other plans = λ i.
      flat_map (λ op. listing_lines (plans.program i) (plans.every i) op (plans.same_edits op i)) (filter (λ op. plans.same_asked op i) all_ops)
      ++ total_line (sum (map (λ op. length (plans.same_edits op i)) (filter (λ op. plans.same_asked op i) all_ops)))

  pub one_listed : (job : JobFields) → One Same (IsListed job ops every)
  one_listed job = one_in_turn Same (IsPlanned job.source ops every) IsListOf AreEqualPlans (one_planned job.source)
      (λ one other equal x y is also. one_value (Ok (plan_text other)) x y (is ∙ ap (λ t. Ok t) (same_text one other equal)) also)
