use Rattle.f77_check.proofs.Common.{◌≡◌, ap, ◌∙◌, sym, map, subst, refl, None, CanResolve, IsChecked, shapes, checked_fields, shape_at, Resolver, IsLegal}
use Rattle.f77_check.proofs.Common.{AreTables, line_of, IsProgram}
use Rattle.f77_check.proofs.Arguments.{shapes_are}
use Rattle.f77_check.proofs.CheckedParts.{own_tables_resolve, checked_of}
use Rattle.f77_check.proofs.checking.checked_by.Goals as goal

pub all-requires : goal.all-requires
all-requires c =
    let same = ap (map line_of) c.lines-lines.ensures.lines in (
      refl,
      own_tables_resolve (record { tables = c.args.tables; slots = c.in_ok-slots.slots }) (map line_of c.lines-lines.result.now)
          (subst (IsProgram None) (sym same) c.lines-lines.ensures.program)
          (subst IsLegal (sym same) c.requires.legal) (subst (AreTables c.args.tables) (sym same) c.requires.tables) c.in_ok-slots.ensures,
    )

pub start-requires : goal.start-requires
start-requires c =
    let same = ap (map line_of) c.lines-lines.ensures.lines in
    own_tables_resolve (record { tables = c.args.tables; slots = c.in_ok-slots.slots }) (map line_of c.lines-lines.result.now)
    (subst (IsProgram None) (sym same) c.lines-lines.ensures.program)
    (subst IsLegal (sym same) c.requires.legal) (subst (AreTables c.args.tables) (sym same) c.requires.tables) c.in_ok-slots.ensures

pub invariant_of-result : goal.invariant_of-result
invariant_of-result c =
    let p = map line_of c.lines-lines.result.now in
    let as_given = ap (map line_of) c.lines-lines.ensures.lines in
    let legal : IsLegal p = subst IsLegal (sym as_given) c.requires.legal in
    let tables : AreTables c.args.tables p = subst (AreTables c.args.tables) (sym as_given) c.requires.tables in
    let r : Resolver = record { tables = c.args.tables; slots = c.in_ok-slots.slots } in
    let can : CanResolve r p = own_tables_resolve r p (subst (IsProgram None) (sym as_given) c.lines-lines.ensures.program) legal tables c.in_ok-slots.ensures in
    let arguments : c.in_ok-new.field-0.items ≡ shapes p =
    ap (λ list. list.items) c.in_ok-new.ensures
    ∙ (c.in_ok-arguments.ensures
    ∙ (ap (map (shape_at c.args.tables.names)) c.arguments.ensures
    ∙ shapes_are c.args.tables.names p tables.names legal)) in
    let same = c.in_ok-clone.ensures.cases ∙ sym as_given in
    let both : IsChecked (checked_fields c.in_ok-clone.field-0 c.in_ok-new.field-0.items c.in_ok-new-2.field-0 c.in_ok-statements.statements.items c.in_ok-new-3.field-0)
    × CanResolve c.in_ok-new-2.field-0 (map line_of c.in_ok-clone.field-0) =
    subst (λ (r : Resolver). IsChecked (checked_fields c.in_ok-clone.field-0 c.in_ok-new.field-0.items r c.in_ok-statements.statements.items c.in_ok-new-3.field-0)
    × CanResolve r (map line_of c.in_ok-clone.field-0)) (sym c.in_ok-new-2.ensures)
    (subst (λ start. IsChecked (checked_fields c.in_ok-clone.field-0 c.in_ok-new.field-0.items r c.in_ok-statements.statements.items start)
    × CanResolve r (map line_of c.in_ok-clone.field-0)) (sym c.in_ok-new-3.ensures)
    (checked_of c.in_ok-clone.field-0 p c.in_ok-new.field-0.items r c.in_ok-statements.statements.items c.in_ok-start.start same can arguments
    c.in_ok-statements.ensures c.in_ok-start.ensures)) in
    both

pub returns-clause-arguments : goal.returns-clause-arguments
returns-clause-arguments c =
    let p = map line_of c.lines-lines.result.now in
    let as_given = ap (map line_of) c.lines-lines.ensures.lines in
    ap (λ list. list.items) c.in_ok-new.ensures
    ∙ (c.in_ok-arguments.ensures
    ∙ (ap (map (shape_at c.args.tables.names)) c.arguments.ensures
    ∙ (shapes_are c.args.tables.names p (subst (AreTables c.args.tables) (sym as_given) c.requires.tables).names (subst IsLegal (sym as_given) c.requires.legal)
    ∙ ap shapes as_given)))
