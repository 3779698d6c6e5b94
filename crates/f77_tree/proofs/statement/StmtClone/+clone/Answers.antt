use Rattle.f77_tree.proofs.Common.{refl, rules}
use Rattle.std.proofs.lemmas.List.Elements.{same_from_all_zip}
use Rattle.f77_tree.proofs.Copies.{same_subroutine, same_computed_goto}
use Rattle.f77_tree.proofs.statement.StmtClone.+clone.Goals as goal

pub returns-in_ok-clone-in-Subroutine : goal.returns-in_ok-clone-in-Subroutine
returns-in_ok-clone-in-Subroutine t c =
    record {
      cases = same_subroutine c.args.self.now c.in-Subroutine.name c.in-Subroutine.name c.in-Subroutine.arguments c.in_ok-clone-in-Subroutine.field-0
          c.in-Subroutine.is refl (search (rules, same_from_all_zip));
    }

pub returns-in_ok-clone-in-ComputedGoto-2 : goal.returns-in_ok-clone-in-ComputedGoto-2
returns-in_ok-clone-in-ComputedGoto-2 t c =
    record {
      cases = same_computed_goto c.args.self.now c.in-ComputedGoto.labels c.in_ok-clone-in-ComputedGoto.field-0 c.in-ComputedGoto.value
          c.in_ok-clone-in-ComputedGoto-2.field-0 c.in-ComputedGoto.is (search (rules, same_from_all_zip)) (search rules);
    }
