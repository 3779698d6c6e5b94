use Rattle.mothra_bench.proofs.Common.{◌≡◌, ◌∙◌, List, subst, sym, All, rules, AllPairs, IsKnown, AreCollected, IsNoMatrix, tickets_of, AreNoEntries, Before}
use Rattle.mothra_bench.proofs.Common.{Ticket}
use Rattle.mothra_bench.proofs.CollectMatrix.{collected, no_matrix}
use Rattle.mothra_ops.proofs.TicketLists.{tickets_ordered}
use Rattle.mothra_bench.proofs.collecting.collect.Goals as goal

pub entries_of-requires : goal.entries_of-requires
entries_of-requires c =
    let is : c.deref-2.result.now ≡ tickets_of c.args.bench.now.plan = search rules in
    subst (AllPairs Before) (sym is) (tickets_ordered c.args.bench.now.plan)

pub returns-in_err-entries-clause-refused : goal.returns-in_err-entries-clause-refused
returns-in_err-entries-clause-refused c =
    let bench = c.args.bench.now in
    let words = c.args.tally.now in
    let fault = c.in_err-entries.field-0.0 in
    let is : c.deref-2.result.now ≡ tickets_of bench.plan = search rules in
    let known : All (IsKnown bench) c.args.rows.items = subst (All (IsKnown bench)) c.deref.ensures.value c.in_default.ensures in
    let none : AreNoEntries words c.in_ok-map.map c.deref-2.result.now fault = search rules in
    let no : IsNoMatrix bench words c.args.rows.items fault =
    no_matrix bench words c.in_ok-map.map c.args.rows.items c.in_ok-map.ensures.rows known fault (subst (λ (l : List Ticket). AreNoEntries words c.in_ok-map.map l fault) is none) in
    search rules

pub returns-clause-matrix : goal.returns-clause-matrix
returns-clause-matrix c =
    let bench = c.args.bench.now in
    let words = c.args.tally.now in
    let is : c.deref-2.result.now ≡ tickets_of bench.plan = search rules in
    let known : All (IsKnown bench) c.args.rows.items = subst (All (IsKnown bench)) c.deref.ensures.value c.in_default.ensures in
    subst (AreCollected bench words c.args.rows.items) (sym c.new.ensures)
    (collected bench words c.in_ok-map.map c.args.rows.items c.in_ok-entries.entries.items c.in_ok-map.ensures.rows known
    (c.in_ok-entries.ensures.tickets ∙ is) c.in_ok-entries.ensures.entries)
