-- What is formed of symbolic names is formed of names that have six characters at most.
use Rattle.f77_program.proofs.Common.{◌≡◌, [], List, ◌∷◌, refl, ℕ, true, Bool, false, None, ◌&&◌, Option, Some, not, list_all, is_action, all_formed, formed}
use Rattle.f77_program.proofs.Common.{declaration_formed, statement_formed, value_formed, is_decl, is_group, is_reference, is_some_list, any_value, all_bounded}
use Rattle.f77_program.proofs.Common.{is_name, is_call, has_items, is_symbolic, is_short, of_value, statement_names, all_short_names, decl_name}
use Rattle.f77_program.proofs.Common.{declaration_names, has_short_group_names, short_names, Statement, Tree, Trees, DeclFields, GroupFields, some_all}

-- a test is the conjunction of two tests, also over what is joined by AND
pub record Twice (both one other : Bool) : Type 0 where
  pub is : both ≡ (one && other)

yes : Twice true true true
yes = record { is = refl }

joined : {a b c d e f : Bool} → Twice a b c → Twice d e f → Twice (a && d) (b && e) (c && f)
joined {b = b} {c = c} {e = e} {f = f} p q = record { is = rw (p.is, q.is) (by b c e f) }
  where
    by : (b c e f : Bool) → ((b && c) && (e && f)) ≡ ((b && e) && (c && f))
    by true true e f = refl
    by true false true f = refl
    by true false false f = refl
    by false c e f = refl

behind : (a : Bool) {d e f : Bool} → Twice d e f → Twice (a && d) (a && e) f
behind true p = p
behind false p = record { is = refl }

before : {a b c : Bool} (d : Bool) → Twice a b c → Twice (a && d) (b && d) c
before {b = b} {c = c} d p = record { is = rw p.is (by b c d) }
  where
    by : (b c d : Bool) → ((b && c) && d) ≡ ((b && d) && c)
    by true true true = refl
    by true true false = refl
    by true false true = refl
    by true false false = refl
    by false c d = refl

each : {X : Type 0} (both one other : X → Bool) → ((x : X) → Twice (both x) (one x) (other x)) → (xs : List X)
    → Twice (list_all both xs) (list_all one xs) (list_all other xs)
each both one other is [] = yes
each both one other is (x ∷ xs) = joined (is x) (each both one other is xs)

some : {X : Type 0} (both one other : X → Bool) → ((x : X) → Twice (both x) (one x) (other x)) → (xs : List X)
    → Twice (some_all both xs) (some_all one xs) (list_all other xs)
some both one other is [] = record { is = refl }
some both one other is (x ∷ xs) = each both one other is (x ∷ xs)

symbolic_name : (name : List ℕ) → Twice (is_symbolic name) (is_name name) (is_short name)
symbolic_name name = record { is = refl }

symbolic_reference : (name : List ℕ) (items : Trees) → Twice (is_reference is_symbolic name items) (is_reference is_name name items) (is_short name)
unfolding is_reference
symbolic_reference name items = before (not (is_call name items)) (symbolic_name name)

mutual
  symbolic_tree : (t : Tree) → Twice (formed is_symbolic t) (formed is_name t) (short_names t)
  symbolic_tree (Tree.Number n) = yes
  symbolic_tree (Tree.Truth b) = yes
  symbolic_tree (Tree.Reference name items) = joined (symbolic_reference name items) (symbolic_trees items)
  symbolic_tree (Tree.Call f items) = behind (is_some_list items) (symbolic_trees items)
  symbolic_tree (Tree.Signed sign t) = symbolic_tree t
  symbolic_tree (Tree.Not t) = symbolic_tree t
  symbolic_tree (Tree.Binary op a b) = joined (symbolic_tree a) (symbolic_tree b)
  symbolic_tree (Tree.ZeroPush t) = symbolic_tree t

  symbolic_trees : (ts : Trees) → Twice (all_formed is_symbolic ts) (all_formed is_name ts) (all_short_names ts)
  symbolic_trees Trees.None = yes
  symbolic_trees (Trees.Then t ts) = joined (symbolic_tree t) (symbolic_trees ts)

symbolic_value : (value : Option Tree) → Twice (value_formed is_symbolic value) (value_formed is_name value) (of_value short_names value)
symbolic_value None = yes
symbolic_value (Some t) = symbolic_tree t

symbolic_declaration : (ds : List DeclFields) → Twice (declaration_formed is_symbolic ds) (declaration_formed is_name ds) (declaration_names ds)
symbolic_declaration ds = some (is_decl is_symbolic) (is_decl is_name) decl_name (λ d. symbolic_name d.name) ds

symbolic_group : (g : GroupFields) → Twice (is_group is_symbolic g) (is_group is_name g) (has_short_group_names g)
symbolic_group g = before (some_all any_value g.values) (some is_symbolic is_name is_short symbolic_name g.names)

pub symbolic_statement : (s : Statement) → Twice (statement_formed is_symbolic s) (statement_formed is_name s) (statement_names s)
symbolic_statement (Statement.Subroutine name names) = joined (symbolic_name name) (each is_symbolic is_name is_short symbolic_name names)
symbolic_statement (Statement.Declare kind ds) = symbolic_declaration ds
symbolic_statement (Statement.Dimension ds) = before (all_bounded ds) (symbolic_declaration ds)
symbolic_statement (Statement.Preset gs) = some (is_group is_symbolic) (is_group is_name) has_short_group_names symbolic_group gs
symbolic_statement (Statement.Assign name items t) = joined (symbolic_name name) (joined (symbolic_trees items) (symbolic_tree t))
symbolic_statement (Statement.Goto label) = yes
symbolic_statement (Statement.ComputedGoto labels t) = behind (has_items labels) (symbolic_tree t)
symbolic_statement (Statement.ArithIf t l m n) = symbolic_tree t
symbolic_statement (Statement.LogicalIf t s) = joined (symbolic_tree t) (behind (is_action s) (symbolic_statement s))
symbolic_statement (Statement.BlockIf t) = symbolic_tree t
symbolic_statement (Statement.ElseIf t) = symbolic_tree t
symbolic_statement (Statement.Loop label name a b c) =
    joined (symbolic_name name) (joined (symbolic_tree a) (joined (symbolic_tree b) (symbolic_value c)))
symbolic_statement _ = yes
