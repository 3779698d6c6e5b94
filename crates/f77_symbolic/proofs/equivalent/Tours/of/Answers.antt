use Rattle.f77_symbolic.proofs.Common.{◌≡◌, ◌∙◌, Ok, true, ap, rules, subst, sym, All, list_any, All-push, IsTourOf, is_same_place, Vec, Visits}
use Rattle.std.specs.declared.alloc.Global.{Global}
use Rattle.f77_check.specs.declared.start.Start.{Start}
use Rattle.f77_code.specs.declared.control.Place.TheVariants as place
use Rattle.f77_equivalence.specs.Start.{HoldsStart}
use Rattle.f77_symbolic.proofs.equivalent.Tours.of.Goals as goal
use Rattle.f77_symbolic.proofs.equivalent.Tours.of.Goals.{in-Some-2+in_ok-push, in_default}

pub loop-joins-preserved : goal.loop-joins-preserved
loop-joins-preserved c =
    let checked = c.args.checked.now in
    let entries = c.args.entries.now in
    let places = c.in_ok-cuts.cuts.items in
    let Toured = λ (tour : Vec Visits Global). IsTourOf checked tour.items in
    elim c.match-branch-4.branch [
      | in-Some-2+in_ok-push w ↦
          let tour = w.in-Some-2.tour in
          let answer : c.tour_of.result ≡ Ok tour = rw w.in-Some-2.is at c.in_ok-tour.ensures in
          let toured = rw (answer, c.deref.ensures.value, c.statements-statements.ensures.statements) at c.tour_of.ensures in
          let starts : HoldsStart checked entries = search rules in
          let start : list_any (λ other. is_same_place other (place.Execute checked.start.entry)) places ≡ true =
          subst (λ (begin : Start). list_any (λ other. is_same_place other (place.Execute begin.entry)) places ≡ true) c.start.ensures.start c.in_ok-cuts.ensures in
          let of : IsTourOf checked tour.items = record { places = places; entries = entries; starts = starts; start = start; visits = toured } in
          subst (All Toured) (sym (ap (λ (list : Vec (Vec Visits Global) Global). list.items) w.list-is ∙ w.in_ok-push.ensures.items))
          (All-push Toured c.loop-joins.list.items tour c.loop-joins.invariant of)
      | in_default w ↦ subst (λ (list : Vec (Vec Visits Global) Global). All Toured list.items) (sym w.list-is) c.loop-joins.invariant
    ]

pub invariant_of-result-2 : goal.invariant_of-result-2
invariant_of-result-2 c = c.loop-joins.invariant
