use Rattle.f77_check.proofs.Common.{◌≡◌, ap, ◌∙◌, sym, arith, length, ◌+◌, ◌<◌, ◌-◌, suc, rules, common_steps, HoldsNumber, takes}
use Rattle.f77_tree.specs.declared.intrinsic.Intrinsic.TheVariants.{Min0, Max0}
use Rattle.f77_check.proofs.Deepest.{most_at}
use Rattle.f77_check.proofs.Items.{some_items, items_ready, item_ready}
use Rattle.f77_check.proofs.Chosen.{chosen_last, chosen_more}
use Rattle.f77_check.proofs.Resolving.{vector_element, matrix_element, modulus_number, absolute_number, negated_number, pushed_number, binary_number}
use Rattle.f77_check.proofs.resolve.Resolver.+numbers.Goals as goal

pub call-returns-in_ok-boxed-in-Iabs-len1 : goal.call-returns-in_ok-boxed-in-Iabs-len1
call-returns-in_ok-boxed-in-Iabs-len1 t c =
    absolute_number _ _ c.args.function c.args.arguments.now _ _ (search rules) (search rules) (search rules) c.operand-item.is c.in_ok-boxed-in-Iabs-len1.ensures

pub call-returns-in_ok-boxed-in-Mod-len2-2 : goal.call-returns-in_ok-boxed-in-Mod-len2-2
call-returns-in_ok-boxed-in-Mod-len2-2 t c =
    modulus_number _ _ c.args.function c.args.arguments.now _ _ _ _ (search rules) (search rules) (search rules) c.left-item.is c.right-item.is c.in_ok-boxed-in-Mod-len2.ensures
    c.in_ok-boxed-in-Mod-len2-2.ensures

pub number-returns-in_ok-boxed-in-Binary-2 : goal.number-returns-in_ok-boxed-in-Binary-2
number-returns-in_ok-boxed-in-Binary-2 t c =
    binary_number _ _ _ _ _ _ _ _ _ _ _ c.in-Binary.is c.deref-in-Binary.ensures c.deref-in-Binary-2.ensures (sym c.of.ensures ∙ c.unwrap.ensures)
    c.in_ok-boxed-in-Binary.ensures c.in_ok-boxed-in-Binary-2.ensures

pub number-returns-in_ok-boxed-in-ZeroPush : goal.number-returns-in_ok-boxed-in-ZeroPush
number-returns-in_ok-boxed-in-ZeroPush t c =
    pushed_number _ _ _ _ _ _ c.in-ZeroPush.is c.deref-in-ZeroPush.ensures c.in_ok-boxed-in-ZeroPush.ensures

pub number-returns-in_ok-boxed-in-Minus : goal.number-returns-in_ok-boxed-in-Minus
number-returns-in_ok-boxed-in-Minus t c =
    negated_number _ _ _ _ _ _ _ c.in-Signed.is c.in-Minus.is c.deref-in-Minus.ensures c.in_ok-boxed-in-Minus.ensures

pub element-returns-in_ok-boxed-in-len1-len1 : goal.element-returns-in_ok-boxed-in-len1-len1
element-returns-in_ok-boxed-in-len1-len1 t c =
    vector_element _ _ c.args.name.now c.bounds.result.now _ c.args.subscripts.now _ _ c.bounds.ensures (search rules) (search rules) (search rules) (search rules)
    c.subscript-item.is c.first-first.ensures c.in_ok-boxed-in-len1-len1.ensures

pub element-returns-in_ok-boxed-in-len2-len2-2 : goal.element-returns-in_ok-boxed-in-len2-len2-2
element-returns-in_ok-boxed-in-len2-len2-2 t c =
    matrix_element _ _ c.args.name.now c.bounds.result.now _ c.args.subscripts.now _ _ _ _ c.bounds.ensures (search rules) (search rules) (search rules) (search rules)
    c.row-item.is c.column-item.is c.first-first.ensures c.in_ok-boxed-in-len2-len2.ensures c.in_ok-boxed-in-len2-len2-2.ensures

pub chosen-loop-i-init : goal.chosen-loop-i-init
chosen-loop-i-init t c = chosen_last _ _ c.args.operation c.args.items.now _ _ c.requires.some c.index-items-last.is c.in_ok-chosen.ensures

pub chosen-loop-i-preserved : goal.chosen-loop-i-preserved
unfolding HoldsNumber
chosen-loop-i-preserved t c =
    let next : suc (c.loop-i.i - 1) ≡ c.loop-i.i = omega (arith, c.loop-i-test.true) in
    let below : (c.loop-i.i - 1) + 1 < length c.args.items.now = search rules in
    chosen_more _ _ c.args.operation c.args.items.now _ _ _ _ _ _ below c.index-items-i.is c.in_ok-number.ensures (rw (next, c.in_ok-new.ensures.ok) c.loop-i.invariant)

pub chosen-number-requires : goal.chosen-number-requires
chosen-number-requires t c =
    let below : length c.args.items.now - 1 < length c.args.items.now = omega (arith, c.requires.some) in
    (grind (arith, common_steps, most_at), item_ready _ _ _ _ below c.index-items-last.is c.requires.ready)

pub chosen-boxed-requires : goal.chosen-boxed-requires
chosen-boxed-requires t c =
    let below : c.loop-i.i - 1 < length c.args.items.now = search rules in
    (grind (arith, common_steps, most_at), item_ready _ _ _ _ below c.index-items-i.is c.requires.ready)

pub call-chosen-requires : goal.call-chosen-requires
call-chosen-requires t c =
    let is : c.args.function ≡ Min0 = search rules in (
      first_of (search rules, grind (arith, common_steps)),
      (some_items _ _ _ (ap (λ f. takes f 0) is) c.requires, items_ready _ _ _ c.requires),
    )

pub call-chosen-requires-in-Max0-default : goal.call-chosen-requires-in-Max0-default
call-chosen-requires-in-Max0-default t c =
    let is : c.args.function ≡ Max0 = search rules in (
      first_of (search rules, grind (arith, common_steps)),
      (some_items _ _ _ (ap (λ f. takes f 0) is) c.requires, items_ready _ _ _ c.requires),
    )
