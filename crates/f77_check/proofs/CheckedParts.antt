-- What the parts of a checked program are together.
use Rattle.f77_check.proofs.Common.{◌≡◌, ap, ◌∙◌, sym, map, subst, List, arith, None, ◌≤◌, Resolved, CanResolve, IsChecked, slot_count, CheckedFields, shapes}
use Rattle.f77_check.proofs.Common.{AreResolved, checked_fields, IsStartOf, most_slots, IsSlotTable, Resolver, Start, IsLegal, AreTables, LineFields, line_of}
use Rattle.f77_check.proofs.Common.{IsProgram, Line, keys}
use Rattle.f77_legal.proofs.Served.{own_tables_serve}
use Rattle.f77_check.specs.declared.checked.Shape.{Shape}
use Rattle.f77_check.proofs.SlotCounts.{stock_slots}
use Rattle.f77_check.proofs.SlotTables.{keys_stock}

-- the tables of a legal program
pub own_tables_resolve : (r : Resolver) (p : List LineFields) → IsProgram None p → IsLegal p → AreTables r.tables p → IsSlotTable r.slots r.tables.names → CanResolve r p
own_tables_resolve r p formed legal tables slots = record {
  tables = own_tables_serve r.tables p tables;
  names = keys_stock r.tables.names p tables.names legal;
  slots = slots;
  formed = formed;
  legal = legal;
}

-- what is so of the lines of a program is so of the program
pub checked_of : (program : List Line) (p : List LineFields) (arguments : List Shape) (r : Resolver) (statements : List Resolved) (start : Start)
    → map line_of program ≡ p → CanResolve r p → arguments ≡ shapes p → AreResolved p (keys r.tables.names.facts) statements
    → IsStartOf p (keys r.tables.names.facts) start → IsChecked (checked_fields program arguments r statements start) × CanResolve r (map line_of program)
checked_of program p arguments r statements start same can is_shapes resolved starts =
    let there : CanResolve r (map line_of program) = subst (CanResolve r) (sym same) can in (
      record {
        formed = there.formed;
        legal = there.legal;
        arguments = is_shapes ∙ ap shapes (sym same);
        names = there.names;
        slots = can.slots.count ∙ ap (λ bounds. slot_count bounds (keys r.tables.names.facts)) there.tables.bounds;
        statements = subst (λ (p : List LineFields). AreResolved p (keys r.tables.names.facts) statements) (sym same) resolved;
        start = subst (λ (p : List LineFields). IsStartOf p (keys r.tables.names.facts) start) (sym same) starts;
      },
      there,
    )

pub checked_few : (checked : CheckedFields) → IsChecked checked → checked.slots ≤ most_slots
checked_few checked is =
    let few = stock_slots checked.names (map line_of checked.program) is.names in
    let counted = is.slots in
    omega (arith, few, counted)
