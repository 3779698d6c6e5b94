use Rattle.f77_symbolic.proofs.Common.{◌≡◌, ◌∙◌, ◌-◌, ℕ, Ok, ap, subst, sym, All, map, ok_then, slice_set, IfSome_then, CheckedFields, line_of, IsReady, FollowsThere}
use Rattle.f77_symbolic.proofs.Common.{IsTourOf, Vec, Visits}
use Rattle.std.specs.declared.alloc.Global.{Global}
use Rattle.f77_equivalence.specs.Equivalent.{IsEquivalentWithin}
use Rattle.f77_program.specs.Patching.{patched}
use Rattle.f77_tree.specs.Statement.{statement_of}
use Rattle.f77_symbolic.proofs.Chained.{equivalent_by}
use Rattle.f77_symbolic.proofs.equivalent.Tours.steps_to_spare.Goals as goal
use Rattle.f77_symbolic.proofs.equivalent.Tours.steps_to_spare.Goals.{After-drop-change-3}

within : (c : After-drop-change-3) (spare : ℕ) → ((checked : CheckedFields) → All (λ tour. IsTourOf checked tour.items) c.deref.result.now → FollowsThere checked c.in-Some.change spare)
    → IsEquivalentWithin spare (map line_of c.args.self.now.program) (patched (map line_of c.args.self.now.program) c.args.number (statement_of c.args.stmt.now))
within c spare follows =
    let checked = c.self.inside.checked.now in
    let own : checked ≡ c.args.self.now = c.self.view_is in
    let answer : c.change_of.result ≡ Ok c.in-Some.change = rw c.in-Some.is at c.in_ok-change.ensures in
    let ready = rw answer at c.change_of.ensures.ready in
    let there = rw answer at c.change_of.ensures.place in
    let statements = rw answer at c.change_of.ensures.statements in
    let tours = subst (All (λ (tour : Vec Visits Global). IsTourOf checked tour.items)) (sym c.deref.ensures.value) c.self.invariant in
    equivalent_by c.args.self.now c.args.number (statement_of c.args.stmt.now) c.args.resolved.now c.in-Some.change spare c.requires.legal c.requires.in_place
    (subst (λ k. IsReady k c.in-Some.change) own ready) there
    (statements ∙ ap (λ (k : CheckedFields). slice_set k.statements (c.args.number - 1) c.args.resolved.now) own)
    (subst (λ k. FollowsThere k c.in-Some.change spare) own (follows checked tours))

pub returns : goal.returns
returns c = ok_then c.fewest_behind.result c.fewest_behind.ensures (λ found held. IfSome_then found held (within c))
