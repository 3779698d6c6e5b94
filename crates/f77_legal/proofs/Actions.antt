-- What stands in a logical IF of a program.
use Rattle.f77_legal.proofs.Common.{◌≡◌, List, refl, ℕ, Bool, true, Some, None, suc, Option, zero, subst, nth_statement, LineFields, IsProgram, Statement, Tree}
use Rattle.f77_program.specs.Formed.{is_action}
use Rattle.f77_program.specs.Group.{group_of}
use Rattle.f77_tree.specs.StatementGrammar.{SpellsAction, SpellsStatement, IsFormed, in_text}
use Rattle.f77_program.specs.declared.group.Group.{Group}

spelled_acts : {text : List ℕ} {s : Statement} → SpellsAction text s → is_action s ≡ true
spelled_acts (SpellsAction.assign a b) = refl
spelled_acts (SpellsAction.go_to row a) = refl
spelled_acts (SpellsAction.computed_go_to comma a b) = refl
spelled_acts (SpellsAction.arithmetic_if l m n a b c d) = refl
spelled_acts SpellsAction.go_on = refl
spelled_acts SpellsAction.return = refl
spelled_acts SpellsAction.stop = refl

abbrev holds_action : Statement → Bool
holds_action (Statement.LogicalIf t s) = is_action s
holds_action _ = true

action_holds : (s : Statement) → is_action s ≡ true → holds_action s ≡ true
action_holds (Statement.LogicalIf t s) h = absurd (cc (h))
action_holds _ h = refl

spelled_holds : {text : List ℕ} {s : Statement} → SpellsStatement text s → holds_action s ≡ true
spelled_holds (SpellsStatement.action {s = s} a) = action_holds s (spelled_acts a)
spelled_holds (SpellsStatement.logical_if a b) = spelled_acts b
spelled_holds _ = refl

text_acts : (s : Statement) → is_action (in_text s) ≡ true → is_action s ≡ true
text_acts (Statement.Assign name items t) h = refl
text_acts (Statement.Goto label) h = refl
text_acts (Statement.ComputedGoto labels t) h = refl
text_acts (Statement.ArithIf t l m n) h = refl
text_acts Statement.Continue h = refl
text_acts Statement.Return h = refl
text_acts Statement.Stop h = refl
text_acts Statement.Trap h = refl
text_acts _ h = absurd (cc (h))

formed_at : (before : Option Group) (p : List LineFields) → IsProgram before p → (i : ℕ) (s : Statement) → nth_statement p i ≡ Some s → IsFormed s
formed_at before p IsProgram.finished i s at = absurd (cc (at))
formed_at before p (IsProgram.next {line = line} may rest) zero s at = let same : line.stmt ≡ s = cc (at) in subst IsFormed same may.1
formed_at before p (IsProgram.next {line = line} {lines = lines} may rest) (suc i) s at = formed_at (Some (group_of line.stmt)) lines rest i s at

pub inner_acts : (p : List LineFields) → IsProgram None p → (i : ℕ) (t : Tree) (s : Statement) → nth_statement p i ≡ Some (Statement.LogicalIf t s) → is_action s ≡ true
inner_acts p program i t s at = let formed = formed_at None p program i (Statement.LogicalIf t s) at in text_acts s (spelled_holds formed.1)
