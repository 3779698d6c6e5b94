use Rattle.f77_symbolic.proofs.Common.{◌≡◌, ◌≤◌, ◌∙◌, ◌++◌, ◌∷◌, [], ap, arith, false, length, length-append, get_or_append_left, subst, sym, true, List, All, Any, Vec, take_all, IsToured}
use Rattle.f77_symbolic.proofs.Common.{Entry, Visits}
use Rattle.std.specs.declared.alloc.Global.{Global}
use Rattle.std.proofs.lemmas.List.Quantifiers.{Any-push}
use Rattle.f77_facts.specs.Entries.{GrowsEntries}
use Rattle.f77_symbolic.proofs.Tours.{IsWalked, all_next}
use Rattle.f77_symbolic.proofs.visiting.tour_of.Goals as goal
use Rattle.f77_symbolic.proofs.visiting.tour_of.Goals.{then-is_cut+in_ok-visits+in_ok-unless_unknown+in_ok-push, else-is_cut}

-- what is there is there with one more behind it
any_before : (P : Visits → Type 0) (xs : List Visits) (y : Visits) → Any P xs → Any P (xs ++ y ∷ [])
any_before P xs y there =
    let below = there.2 in
    (there.0, there.1, omega (arith, length-append xs (y ∷ []), below), get_or_append_left xs (y ∷ []) there.1 there.0 below ∙ there.3, there.4)

pub loop-entry-preserved : goal.loop-entry-preserved
loop-entry-preserved c =
    let entries = c.args.entries.now in
    let entry = c.entry-item.result in
    let old = c.loop-entry.tour.items in
    let new = c.if-is_cut.tour.items in
    let Walked : Entry → Visits → Type 0 = IsWalked c.args.statements.now c.args.cuts.now entries in
    let Toured : List Visits → Entry → Type 0 = IsToured c.args.statements.now c.args.cuts.now entries in
    let it : ((other : Entry) → Toured old other → Toured new other) × Toured new entry = elim c.if-is_cut.branch [
      | then-is_cut+in_ok-visits+in_ok-unless_unknown+in_ok-push w ↦
          let visits = w.in_ok-visits.visits in
          let same : new ≡ old ++ visits ∷ [] = ap (λ (list : Vec Visits Global). list.items) w.tour-is ∙ w.in_ok-push.ensures.items in
          let grows = subst (λ list. GrowsEntries list entries) w.deref.ensures.value (w.are_covered.ensures w.in_ok-unless_unknown.ensures) in (
            (λ other there cut. subst (Any (Walked other)) (sym same) (any_before (Walked other) old visits (there cut))),
            (λ cut. subst (Any (Walked entry)) (sym same) (Any-push (Walked entry) old visits (w.in_ok-visits.ensures, grows))),
          )
      | else-is_cut w ↦ (
        (λ other there. subst (λ list. Toured list other) (sym (ap (λ (list : Vec Visits Global). list.items) w.tour-is)) there),
        (λ cut. let e : true ≡ false = sym cut ∙ sym c.is_cut.ensures ∙ w.if-is_cut.false in absurd (cc (e))),
      )
    ] in
    all_next (Toured old) (Toured new) entries c.loop-entry.entry-index entry (omega arith) c.entry-item.is it.0 c.loop-entry.invariant it.1

pub returns : goal.returns
returns c =
    let entries = c.args.entries.now in
    let all : length entries ≤ c.loop-entry.entry-index = omega arith in
    subst (All (IsToured c.args.statements.now c.args.cuts.now entries c.loop-entry.tour.items)) (take_all c.loop-entry.entry-index entries all) c.loop-entry.invariant
