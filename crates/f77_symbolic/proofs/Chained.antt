-- From the visits of a tour to the states in which a run comes to the changed statement.
use Rattle.f77_symbolic.proofs.Common.{arith, ◌≡◌, ◌≤◌, ◌-◌, ◌∙◌, ℕ, List, length, refl, sym, ap, subst, All, map, slice_set}
use Rattle.f77_symbolic.proofs.Common.{All-contains, Resolved, CheckedFields, State, IsChange, Lies, line_of, Valuation, Visits, Atoms, Pair}
use Rattle.f77_symbolic.proofs.Common.{FitsTable, AreTurnNumbers, IsTourOf, IsReady, FollowsThere, FollowsVisit}
use Rattle.f77_symbolic.proofs.Common.{Extends, HavePairs, IsBehindBy}
use Rattle.f77_symbolic.specs.code.{AreSettled}
use Rattle.f77_terms.specs.Atoms.{Numbers}
use Rattle.f77_check.specs.Patching.{IsInPlace}
use Rattle.f77_equivalence.specs.Equivalent.{IsEquivalentWithin}
use Rattle.f77_equivalence.specs.Alike.{site}
use Rattle.f77_equivalence.specs.Start.{start_state}
use Rattle.f77_equivalence.proofs.InPlace.{change_in_place}
use Rattle.f77_legal.specs.Legal.{IsLegal}
use Rattle.f77_program.specs.Patching.{patched}
use Rattle.f77_tree.specs.Statement.{Statement}
use Rattle.f77_symbolic.specs.declared.change.Change.{Change}
use Rattle.f77_symbolic.proofs.Following.{equivalent_where_followed}
use Rattle.f77_symbolic.proofs.Starting.{interprets_there, numbers_of, start_of, turn_numbers}
use Rattle.f77_symbolic.proofs.Tours.{IsOnTour, along, entry_of, walked}

-- where the pairs of these visits are settled, it follows from each state of the walk at the statement
pub behind_by : (change : Change) (behind : ℕ) (visits : Visits) (pairs : List Pair) (atoms : Atoms) → HavePairs change.place pairs visits.walk.list.items
    → AreSettled atoms change behind pairs → Extends visits.known.atoms atoms → Lies visits.known.atoms.facts.items atoms.facts.items
    → ((held : Numbers) → (v : Valuation) × FitsTable held v atoms.table) → IsBehindBy change behind visits
behind_by change behind visits pairs atoms have settled extends lies law spare checked places entry first s n within ready are of leads here =
    let count = length checked.statements in
    let start = start_of first count in
    let it = law (numbers_of first count) in
    let v = it.0 in
    let is = interprets_there first count atoms v (lies first.cells (are.facts first.cells of.inside)) it.1 in
    let numbers : AreTurnNumbers (length entry.facts.items) count first.turns start
    = subst (λ k. AreTurnNumbers k count first.turns start) of.inside.count (turn_numbers first count) in
    let noted = are.noted first s n start v refl (extends.back start v is) numbers of leads in
    All-contains (FollowsVisit spare checked change start v change.place) visits.walk.list.items noted.1
    (have spare checked change start v (settled spare checked start v ready is within)) (noted.0, noted.2, noted.3)
    (ap (λ (t : State). site t.place) noted.4.is ∙ here) s noted.4

-- by more steps it is behind at most too
pub behind_more : (change : Change) (behind most : ℕ) → behind ≤ most → (visits : Visits) → IsBehindBy change behind visits → IsBehindBy change most visits
behind_more change behind most less visits follows spare checked places entry first s n within =
    follows spare checked places entry first s n (omega (arith, less, within))

-- where it follows on all walks of a tour, it does from all states in which a run comes there
pub tour_followed : (change : Change) (most : ℕ) (tour : List Visits) → All (IsBehindBy change most) tour → (checked : CheckedFields)
    → IsTourOf checked tour → FollowsThere checked change most
tour_followed change most tour all checked of s ready (a, (arguments, fits, storable, is), n, leads) here =
    let OnTour = IsOnTour checked.statements of.places of.entries in
    let start = start_state checked arguments in
    let first : OnTour start = record { first = start; known = of.starts arguments fits storable; cut = of.start; steps = 0; leads = refl } in
    let on = along checked.statements of.places of.entries tour of.visits n a s (subst OnTour (sym is) first) leads in
    let from = walked checked.statements of.places of.entries tour of.visits on.first on.known on.cut in
    All-contains (IsBehindBy change most) tour from.1 all (from.0, from.2, from.3) most checked of.places on.known.entry on.first s on.steps (omega arith)
    ready from.4.0 (entry_of of.entries on.first on.known) on.leads here

-- a program whose changed statement is followed from wherever it is come to is equivalent within so many steps
pub equivalent_by : (checked : CheckedFields) (number : ℕ) (statement : Statement) (new : Resolved) (change : Change) (spare : ℕ)
    → IsLegal (patched (map line_of checked.program) number statement) → IsInPlace checked number statement new → IsReady checked change
    → change.place ≡ number - 1 → change.statements.items ≡ slice_set checked.statements (number - 1) new → FollowsThere checked change spare
    → IsEquivalentWithin spare (map line_of checked.program) (patched (map line_of checked.program) number statement)
equivalent_by checked number statement new change spare legal in_place ready place statements follows =
    let program = patched (map line_of checked.program) number statement in
    let is : IsChange checked change.place program change.statements.items
    = subst (λ k. IsChange checked k program change.statements.items) (sym place)
    (subst (λ list. IsChange checked (number - 1) program list) (sym statements)
    (change_in_place checked number statement new ready.formed legal in_place)) in
    equivalent_where_followed checked change.place program change.statements.items spare is ready.agree ready.pass
    (λ s reached here. follows s ready reached here)
