use Rattle.mothra_ops.proofs.Common.{◌≡◌, ◌∙◌, ap, sym, List, map, arith, subst, ℕ, [], ◌+◌, ◌∷◌, ◌++◌, rules, nat_eq, not_from_Decides, All-nil, All-cons}
use Rattle.mothra_ops.proofs.Common.{All-append, Decides-contains, contains_decides, All, CheckedFields, line_of, Op, IsMadeMutant, copied, edits_in, IsNoList}
use Rattle.mothra_ops.proofs.Common.{IsCountedList, AreMade, IsMadeList, IsNoPlan, lines_of, Edit, OpsFault}
use Rattle.mothra_codes.specs.contracts.op.OpPartialEq.TheImpl.{ghosts}
use Rattle.mothra_codes.specs.Op.{index}
use Rattle.mothra_codes.specs.code.Op.{op_at}
use Rattle.mothra_codes.proofs.Operators.{index-op_at}
use Rattle.mothra_ops.specs.declared.original.Original.{Original}
use Rattle.mothra_ops.proofs.Plans.{HasLists, no_lists, one_more_listed, none_more, one_op, no_plan, is_asked, was_asked, is_plan}
use Rattle.mothra_ops.proofs.plan.lists.Goals.{then-contains+in_ok-listing+in_ok-push, else-contains}
use Rattle.mothra_ops.proofs.plan.lists.Goals as goal

same_answer : (a b : Op) → ghosts.eq a b ≡ nat_eq (index a) (index b)
same_answer a b = grind (arith)

-- the lists that the original gives are those of the program
counted_list : (original : Original) (checked : CheckedFields) (op : Op) (every : ℕ) (edits : List Edit) (whole : ℕ) → original.checked.now ≡ checked
    → IsCountedList op (lines_of original) every edits whole → IsCountedList op (map line_of checked.program) every edits whole
counted_list original checked op every edits whole same list =
    subst (λ (x : CheckedFields). IsCountedList op (map line_of x.program) every edits whole) same list

no_list : (original : Original) (checked : CheckedFields) (op : Op) (every : ℕ) (fault : OpsFault) → original.checked.now ≡ checked
    → IsNoList op (lines_of original) every fault → IsNoList op (map line_of checked.program) every fault
no_list original checked op every fault same none =
    subst (λ (x : CheckedFields). IsNoList op (map line_of x.program) every fault) same none

pub loop-op-init : goal.loop-op-init
loop-op-init c = record {
  copies = c.in_ok-copies.ensures.copies;
  made = subst (AreMade c.args.checked.now) (sym c.new-lists.ensures.items) (All-nil (IsMadeList c.args.checked.now));
  lists = subst (HasLists c.args.ops.now (map line_of c.args.checked.now.program) c.args.every 0) (sym c.new-lists.ensures.items)
      (no_lists c.args.ops.now (map line_of c.args.checked.now.program) c.args.every);
}

pub returns-in_err-listing-clause-refused : goal.returns-in_err-listing-clause-refused
returns-in_err-listing-clause-refused c =
    let decided = Decides-contains c.args.ops.now (op_at c.loop-op.op-index) c.contains.result
    (contains_decides ghosts.eq (λ a b. one_op a b (ghosts.eq a b) (same_answer a b)) c.args.ops.now (op_at c.loop-op.op-index) c.contains.result c.contains.ensures.cases) in
    let none : IsNoPlan c.args.ops.now (map line_of c.args.checked.now.program) c.args.every c.in_err-listing.field-0.0 =
    no_plan c.args.ops.now (map line_of c.args.checked.now.program) c.args.every c.loop-op.op-index c.loop-op.lists.items (op_at c.loop-op.op-index) c.in_err-listing.field-0.0
    (index-op_at c.loop-op.op-index c.loop-op-test.true) c.loop-op.invariant.lists (decided.0 c.if-contains.true)
    (no_list c.in_ok-original.original c.args.checked.now (op_at c.loop-op.op-index) c.args.every c.in_err-listing.field-0.0
    c.in_ok-original.ensures.program c.in_err-listing.ensures.refused) in
    search rules

pub loop-op-preserved : goal.loop-op-preserved
loop-op-preserved c = elim c.if-contains.branch [
  | then-contains+in_ok-listing+in_ok-push w ↦
      let decided = Decides-contains c.args.ops.now (op_at c.loop-op.op-index) c.contains.result
      (contains_decides ghosts.eq (λ a b. one_op a b (ghosts.eq a b) (same_answer a b)) c.args.ops.now (op_at c.loop-op.op-index) c.contains.result c.contains.ensures.cases) in
      let own : w.in_ok-listing.field-0.op ≡ op_at c.loop-op.op-index = search rules in
      let counted : IsCountedList (op_at c.loop-op.op-index) (map line_of c.args.checked.now.program) c.args.every (edits_in w.in_ok-listing.field-0) w.in_ok-listing.field-0.whole
      = counted_list c.in_ok-original.original c.args.checked.now (op_at c.loop-op.op-index) c.args.every (edits_in w.in_ok-listing.field-0) w.in_ok-listing.field-0.whole
      c.in_ok-original.ensures.program w.in_ok-listing.ensures.list in
      let items : c.if-contains.lists.items ≡ c.loop-op.lists.items ++ w.in_ok-listing.field-0 ∷ [] = search rules in
      record {
        copies = ap copied w.copies-is ∙ w.in_ok-listing.ensures.copies ∙ c.loop-op.invariant.copies;
        made = subst (AreMade c.args.checked.now) (sym items)
            (All-append (IsMadeList c.args.checked.now) c.loop-op.lists.items (w.in_ok-listing.field-0 ∷ []) c.loop-op.invariant.made
            (All-cons (IsMadeList c.args.checked.now) w.in_ok-listing.field-0 []
            (subst (λ (x : CheckedFields). All (IsMadeMutant x) w.in_ok-listing.field-0.mutants.items) c.in_ok-original.ensures.program w.in_ok-listing.ensures.made)
            (All-nil (IsMadeList c.args.checked.now))));
        lists = subst (HasLists c.args.ops.now (map line_of c.args.checked.now.program) c.args.every (c.loop-op.op-index + 1)) (sym items)
            (one_more_listed c.args.ops.now (map line_of c.args.checked.now.program) c.args.every c.loop-op.op-index c.loop-op.lists.items w.in_ok-listing.field-0 (op_at c.loop-op.op-index)
            (index-op_at c.loop-op.op-index c.loop-op-test.true) own c.loop-op.invariant.lists (decided.0 w.if-contains.true) counted);
      }
  | else-contains w ↦
      let decided = Decides-contains c.args.ops.now (op_at c.loop-op.op-index) c.contains.result
      (contains_decides ghosts.eq (λ a b. one_op a b (ghosts.eq a b) (same_answer a b)) c.args.ops.now (op_at c.loop-op.op-index) c.contains.result c.contains.ensures.cases) in
      let items : c.if-contains.lists.items ≡ c.loop-op.lists.items = search rules in
      record {
        copies = ap copied w.copies-is ∙ c.loop-op.invariant.copies;
        made = subst (AreMade c.args.checked.now) (sym items) c.loop-op.invariant.made;
        lists = subst (HasLists c.args.ops.now (map line_of c.args.checked.now.program) c.args.every (c.loop-op.op-index + 1)) (sym items)
            (none_more c.args.ops.now (map line_of c.args.checked.now.program) c.args.every c.loop-op.op-index c.loop-op.lists.items (op_at c.loop-op.op-index)
            (index-op_at c.loop-op.op-index c.loop-op-test.true) (not_from_Decides c.contains.result decided w.if-contains.false) c.loop-op.invariant.lists);
      }
]

pub returns-clause-lists : goal.returns-clause-lists
returns-clause-lists c =
    let end : c.loop-op.op-index ≡ 22 = omega (arith, c.loop-op-test.false, c.loop-op.auto.op-index-end) in
    is_plan c.args.ops.now c.args.checked.now c.args.every c.loop-op.lists.items c.requires
    (subst (λ (k : ℕ). HasLists c.args.ops.now (map line_of c.args.checked.now.program) c.args.every k c.loop-op.lists.items) end c.loop-op.invariant.lists)

pub returns-clause-asked : goal.returns-clause-asked
returns-clause-asked c op =
    let end : c.loop-op.op-index ≡ 22 = omega (arith, c.loop-op-test.false, c.loop-op.auto.op-index-end) in
    let has = subst (λ (k : ℕ). HasLists c.args.ops.now (map line_of c.args.checked.now.program) c.args.every k c.loop-op.lists.items) end c.loop-op.invariant.lists in (
      was_asked c.args.ops.now (map line_of c.args.checked.now.program) c.args.every c.loop-op.lists.items has op,
      is_asked c.args.ops.now (map line_of c.args.checked.now.program) c.args.every c.loop-op.lists.items has op,
    )
