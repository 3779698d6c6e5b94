use Rattle.f77_run.proofs.Common.{◌≡◌, length, sym, ◌∙◌, ap, subst, List, arith, ℕ, true, ℤ, drop, Vec, with_items_is, code_within, point, are_held, Turn}
use Rattle.std.specs.declared.alloc.Global.{Global}
use Rattle.std.specs.Vec.{with_items}
use Rattle.f77_code.specs.declared.noting.Passed.{Passed}
use Rattle.f77_code.proofs.KeptSteps.{held_behind}
use Rattle.f77_run.proofs.Alongside.{as_run, kept_within, leads, never_there, same_run, shown, sizes, slots_room, same_outcome, within_image}
use Rattle.f77_run.proofs.diverging.end_beside.Goals as goal

-- what the registers of a state are where all that is written back through slices of all of them
written : (items : Vec ℤ Global) (counters : Vec Turn Global) (registers : List ℤ) (turns : List Turn) (next : ℕ) → length registers ≡ length items.items
    → length turns ≡ length counters.items
    → point next (with_items items registers).items (with_items counters turns).items ≡ point next registers turns
written items counters registers turns next many count =
    λ i. point next (with_items_is items registers (many ∙ sym items.ok.0) i) (with_items_is counters turns (count ∙ sym counters.ok.0) i)

-- behind the slots the registers are those at the start
loads : (slots : List ℤ) (count : ℕ) → count ≡ length slots → (registers image : List ℤ) → drop count registers ≡ drop count image → (list : List ℤ) → list ≡ registers
    → drop (length slots) list ≡ drop (length slots) image
loads slots count counted registers image same list is = ap (drop (length slots)) is ∙ subst (λ n. drop n registers ≡ drop n image) counted same

pub end_of-requires : goal.end_of-requires
end_of-requires g c = record {
  image = c.requires.0.begins;
  runs = (g.divergence.run, c.requires.0.statements, c.requires.0.compiled, c.requires.0.checked_is, c.requires.1.1.1.0);
}

pub returns-in_default-clause-shows : goal.returns-in_default-clause-shows
returns-in_default-clause-shows g c =
    (c.in_ok-end.ensures.ends g.divergence.run c.requires.0.statements c.requires.0.compiled c.requires.0.checked_is c.requires.1.1.1.0).shows

pub returns-then-not-passed-clause-same : goal.returns-then-not-passed-clause-same
returns-then-not-passed-clause-same g c =
    let is = as_run g.divergence c.args.checked.now c.args.code.now c.args.space.now.image c.requires.0 in
    let passed = sym c.requires.1.1.0 in
    same_outcome g.divergence c.args.code.now c.args.space.now.image is
    (never_there g.divergence c.args.code.now c.args.space.now.image is
    (ap (λ (passed : Passed). passed.first) passed ∙ c.in_default.is) (ap (λ (passed : Passed). passed.more) passed ∙ c.if-not-passed.true))
    c.args.checked.now c.requires.0.checked_is c.args.steps c.requires.1.1.1.1

pub copy_behind-requires : goal.copy_behind-requires
copy_behind-requires g c =
    let is = as_run g.divergence c.args.checked.now c.args.code.now c.args.space.now.image c.requires.0 in
    let first = ap (λ (passed : Passed). passed.first) (sym c.requires.1.1.0) ∙ c.in-Some.is in
    let long = (sizes g.divergence c.args.code.now c.args.space.now.image is c.in-Some.kept first).before in
    let there = slots_room g.divergence c.args.code.now c.args.space.now.image is in
    let count = c.len.ensures ∙ c.in-Some.kept.slots.ok.0 in
    omega (arith, long, there, count)

pub first_step-requires-clause-behind : goal.first_step-requires-clause-behind
first_step-requires-clause-behind g c =
    let slots = c.in-Some.kept.slots.items in
    let image = c.args.space.now.image.items.items in
    subst (λ list. are_held list ≡ true)
    (sym (loads slots c.len.result (c.len.ensures ∙ c.in-Some.kept.slots.ok.0) c.copy_behind.new.self.items.items image c.in_ok-copy_behind.ensures.behind
    c.deref_mut.result.now c.deref_mut.ensures.value))
    (held_behind (length slots) image c.requires.0.begins.registers.held)

pub first_step-requires-clause-within : goal.first_step-requires-clause-within
first_step-requires-clause-within g c =
    let is = as_run g.divergence c.args.checked.now c.args.code.now c.args.space.now.image c.requires.0 in
    let loaded = ap length c.deref_mut.ensures.value ∙ c.in_ok-copy_behind.ensures.many in
    let counted = ap length c.deref_mut-2.ensures.value ∙ c.in_ok-copy_behind.ensures.counters in
    (λ i. code_within (loaded i) (counted i) (c.instructions-list.ensures i)) ∙ within_image g.divergence c.args.code.now c.args.space.now.image is

pub first_step-requires-clause-slots : goal.first_step-requires-clause-slots
first_step-requires-clause-slots g c =
    let is = as_run g.divergence c.args.checked.now c.args.code.now c.args.space.now.image c.requires.0 in
    let first = ap (λ (passed : Passed). passed.first) (sym c.requires.1.1.0) ∙ c.in-Some.is in
    let long = (sizes g.divergence c.args.code.now c.args.space.now.image is c.in-Some.kept first).before in
    let there = slots_room g.divergence c.args.code.now c.args.space.now.image is in
    let same = ap length c.deref_mut.ensures.value ∙ c.in_ok-copy_behind.ensures.many in
    omega (arith, long, there, same)

pub returns-in_default-first_step-clause-same : goal.returns-in_default-first_step-clause-same
returns-in_default-first_step-clause-same g c =
    let first = ap (λ (passed : Passed). passed.first) (sym c.requires.1.1.0) ∙ c.in-Some.is in
    let once = ap (λ (passed : Passed). passed.more) (sym c.requires.1.1.0) in
    let behind = loads c.in-Some.kept.slots.items c.len.result (c.len.ensures ∙ c.in-Some.kept.slots.ok.0) c.copy_behind.new.self.items.items
    c.args.space.now.image.items.items c.in_ok-copy_behind.ensures.behind c.deref_mut.result.now c.deref_mut.ensures.value in
    let is = as_run g.divergence c.args.checked.now c.args.code.now c.args.space.now.image c.requires.0 in
    same_outcome g.divergence c.args.code.now c.args.space.now.image is
    (same_run g.divergence c.args.code.now c.args.space.now.image is c.in-Some.kept c.args.passed.now.more first once c.args.change.now.place c.requires.1.0 c.deref_mut.result.now
    behind c.instructions-list.result.now c.instructions-list.ensures c.in_default-first_step.ensures.same)
    c.args.checked.now c.requires.0.checked_is c.args.steps c.requires.1.1.1.1

pub advance-requires-clause-within : goal.advance-requires-clause-within
advance-requires-clause-within g c =
    let is = as_run g.divergence c.args.checked.now c.args.code.now c.args.space.now.image c.requires.0 in
    let loaded = ap length c.deref_mut.ensures.value ∙ c.in_ok-copy_behind.ensures.many in
    let counted = ap length c.deref_mut-2.ensures.value ∙ c.in_ok-copy_behind.ensures.counters in
    let same = written c.copy_behind.new.self.items c.copy_behind.new.self.counters c.first_step.new.registers c.first_step.new.turns c.in-Some-first_step.next
    (c.first_step.auto.registers ∙ ap length c.deref_mut.ensures.value) (c.first_step.auto.turns ∙ ap length c.deref_mut-2.ensures.value) in
    (λ i. code_within (length (same i).registers) (length (same i).turns) (c.instructions-list.ensures i))
    ∙ (λ i. code_within ((c.first_step.auto.registers ∙ loaded) i) ((c.first_step.auto.turns ∙ counted) i) c.args.code.now.instructions.items)
    ∙ within_image g.divergence c.args.code.now c.args.space.now.image is

pub returns-clause-shows : goal.returns-clause-shows
returns-clause-shows g c =
    let first = ap (λ (passed : Passed). passed.first) (sym c.requires.1.1.0) ∙ c.in-Some.is in
    let once = ap (λ (passed : Passed). passed.more) (sym c.requires.1.1.0) in
    let behind = loads c.in-Some.kept.slots.items c.len.result (c.len.ensures ∙ c.in-Some.kept.slots.ok.0) c.copy_behind.new.self.items.items
    c.args.space.now.image.items.items c.in_ok-copy_behind.ensures.behind c.deref_mut.result.now c.deref_mut.ensures.value in
    let code = c.args.code.now in
    let image = c.args.space.now.image in
    let kept = c.in-Some.kept in
    let is = as_run g.divergence c.args.checked.now code image c.requires.0 in
    shown g.divergence code image is kept.made (kept_within g.divergence code image is kept first)
    (point c.in-Some-first_step.next c.first_step.new.registers c.first_step.new.turns)
    (point c.in-Some-first_step.next (with_items c.copy_behind.new.self.items c.first_step.new.registers).items (with_items c.copy_behind.new.self.counters c.first_step.new.turns).items)
    (written c.copy_behind.new.self.items c.copy_behind.new.self.counters c.first_step.new.registers c.first_step.new.turns c.in-Some-first_step.next
    (c.first_step.auto.registers ∙ ap length c.deref_mut.ensures.value) (c.first_step.auto.turns ∙ ap length c.deref_mut-2.ensures.value))
    c.instructions-list.result.now c.instructions-list.ensures
    (leads g.divergence code image is kept c.args.passed.now.more first once c.args.change.now.place c.requires.1.0 c.deref_mut.result.now
    behind c.instructions-list.result.now c.instructions-list.ensures
    (point c.in-Some-first_step.next c.first_step.new.registers c.first_step.new.turns) c.in-Some-first_step.ensures.other)
    c.args.steps c.requires.1.1.1.1 c.in_ok-stand.stand.made c.in_ok-stand.stand.place c.advance.new.registers.items.items c.advance.new.registers.counters.items
    c.in_ok-stand.ensures.stands c.in_ok-stand.ensures.made c.in_ok-stand.ensures.ends
    c.finish_at.result c.finish_at.ensures.ended c.finish_at.ensures.limit c.in_ok-stand.ensures.held
