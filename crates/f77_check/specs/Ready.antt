-- What the tables need, so that the names and labels of a legal program can be looked up.
use Rattle.std.specs.Prelude.{List, None}
use Rattle.indexmap.specs.IndexMap.{keys}
use Rattle.f77_program.specs.Program.{LineFields, IsProgram}
use Rattle.f77_legal.specs.Legal.{IsLegal}
use Rattle.f77_check.specs.SlotTable.{IsSlotTable}
use Rattle.f77_legal.specs.Patches.{IsStock}
use Rattle.f77_legal.specs.Tables.{Serve}
use Rattle.f77_check.specs.declared.resolve.Resolver.{Resolver}

-- the tables serve this legal program, and have its names
pub record CanResolve (resolver : Resolver) (program : List LineFields) : Type 0 where
  pub tables : Serve resolver.tables program
  pub names : IsStock (keys resolver.tables.names.facts) program
  pub slots : IsSlotTable resolver.slots resolver.tables.names
  pub formed : IsProgram None program
  pub legal : IsLegal program
