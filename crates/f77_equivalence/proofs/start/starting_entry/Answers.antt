use Rattle.f77_equivalence.proofs.Common.{◌≡◌, ◌∙◌, length, ap, subst, sym, map, option_map, replicate, Execute, Inactive, AreFitting, AreLeft}
use Rattle.f77_equivalence.proofs.Common.{start_turns, constant_value}
use Rattle.f77_check.specs.declared.start.Start.{Start}
use Rattle.f77_equivalence.proofs.Starting.{kind_each, start_left}
use Rattle.f77_equivalence.proofs.start.starting_entry.Goals as goal

pub initial_facts-requires : goal.initial_facts-requires
initial_facts-requires c = rw c.start-start.ensures.start (kind_each c.args.checked.now c.start-start.ensures.checked)

pub returns : goal.returns
returns c =
    let checked = c.args.checked.now in
    let start = c.start-start.ensures.start in
    let loops : c.in_ok-vec.field-0.items ≡ replicate (length checked.program) Inactive
    = c.in_ok-vec.ensures.items_if_clones_equal (λ y is. is) ∙ ap (λ n. replicate n Inactive) c.count.ensures in
    record {
      there = ap (λ (s : Start). Execute s.entry) start;
      inside = λ arguments fits storable.
          let given = c.give_arguments.ensures (map (option_map constant_value) c.start-start.result.now.initial.items) arguments c.in_ok-facts.ensures
          (subst (λ shapes. AreFitting shapes arguments) (sym c.arguments.ensures) fits) storable in
          rw (← start) (rw c.deref.ensures.value at given);
      left = subst (λ list. AreLeft list (start_turns checked)) (sym loops) (start_left (length checked.program));
    }
