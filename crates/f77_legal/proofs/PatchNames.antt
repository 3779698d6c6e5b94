-- The names of a program with one statement changed, and a walk over the trees of a statement that tests each of its names.
use Rattle.f77_legal.proofs.Common.{◌≡◌, ◌∙◌, ap, map, sym, List, refl, ℕ, [], false, ◌∷◌, Bool, true, Some, None, ◌++◌, suc, Option, ◌&&◌, zero, is_some}
use Rattle.f77_legal.proofs.Common.{filter_map, and-true, map-append, filter_map-append, list_all-append, list_all-map, AllPass-from_list_all}
use Rattle.f77_legal.proofs.Common.{list_all-from_AllPass, All, list_all, bytes_eq, Symbol, NameUse, name_in, symbols, uses, uses_of, is_name_among, items_pass}
use Rattle.f77_legal.proofs.Common.{names_pass, tree_passes, value_passes, NamesAmong, Names, replaced, LineFields, names_of, NodeOf, node_name, all_parts}
use Rattle.f77_legal.proofs.Common.{nodes_of, parts, tree_nodes, value_nodes, Statement, Tree, Trees, keys, get}
use Rattle.std.proofs.lemmas.List.Concat.{flat_map-cons}
use Rattle.std.proofs.lemmas.Map.Made.{is_some-lookup}
use Rattle.f77_program.specs.Formed.{is_action}
use Rattle.f77_program.specs.code.Formed.{statement_formed, formed}
use Rattle.f77_program.specs.Group.{group_of}
use Rattle.f77_tree.specs.Grammar.{is_name}
use Rattle.f77_tree.specs.StatementGrammar.{IsFormed}
use Rattle.f77_program.specs.declared.group.Group.TheVariants.{Executable}
use Rattle.f77_program.proofs.StatementForming.{is_formed}
use Rattle.f77_tree.proofs.Tests.{and_true}
use Rattle.f77_legal.proofs.Among.{all_once, once_all}

-- each use of a name in the changed program is one in another line or in the statement
module _ (test : NameUse → Bool) where
  apart : (line : LineFields) (program : List LineFields) → list_all test (uses (line ∷ program)) ≡ (list_all test (uses_of line.stmt) && list_all test (uses program))
  apart line program =
      ap (list_all test) (flat_map-cons (λ (line : LineFields). uses_of line.stmt) line program)
      ∙ list_all-append test (uses_of line.stmt) (uses program)

  pub replaced_pass : (program : List LineFields) (i : ℕ) (s : Statement) → list_all test (uses program) ≡ true → list_all test (uses_of s) ≡ true
      → list_all test (uses (replaced program i s)) ≡ true
  replaced_pass [] i s all new = refl
  replaced_pass (line ∷ program) zero s all new =
      let both = and_true (list_all test (uses_of line.stmt)) (list_all test (uses program)) (sym (apart line program) ∙ all) in
      apart (record (line) { stmt = s }) program ∙ (λ i. new i && both.1 i)
  replaced_pass (line ∷ program) (suc n) s all new =
      let both = and_true (list_all test (uses_of line.stmt)) (list_all test (uses program)) (sym (apart line program) ∙ all) in
      let rest = replaced_pass program n s both.1 new in
      apart line (replaced program n s) ∙ (λ i. both.0 i && rest i)

-- names among others, said of each use
module _ (names : List Symbol) where
  abbrev use_among : NameUse → Bool
  use_among name_use = is_name_among names (name_in name_use)

  pub symbols_pass : (program : List LineFields) → All (λ name. is_name_among names name ≡ true) (symbols program) → list_all use_among (uses program) ≡ true
  symbols_pass program all =
      sym (list_all-map (is_name_among names) name_in (uses program))
      ∙ list_all-from_AllPass (is_name_among names) (map name_in (uses program)) (once_all (λ name. is_name_among names name ≡ true) (map name_in (uses program)) all)

  pub pass_symbols : (program : List LineFields) → list_all use_among (uses program) ≡ true → All (λ name. is_name_among names name ≡ true) (symbols program)
  pass_symbols program all =
      all_once (λ name. is_name_among names name ≡ true) (map name_in (uses program))
      (AllPass-from_list_all (is_name_among names) (map name_in (uses program)) (list_all-map (is_name_among names) name_in (uses program) ∙ all))

  pub replaced_among : (program : List LineFields) (i : ℕ) (s : Statement) → All (λ name. is_name_among names name ≡ true) (symbols program) → NamesAmong names s
      → All (λ name. is_name_among names name ≡ true) (symbols (replaced program i s))
  replaced_among program i s all new = pass_symbols (replaced program i s) (replaced_pass use_among program i s (symbols_pass program all) new)

-- a name of the table
pub among_keys : (names : Names) (name : Symbol) → is_name_among (keys names.facts) name ≡ is_some (get bytes_eq names.facts name)
among_keys names name = sym (is_some-lookup (bytes_eq name) names.facts.entries)

-- the statement is executable, and so is what it has inside
abbrev pub is_executed : Statement → Bool
is_executed (Statement.Subroutine name names) = false
is_executed (Statement.Declare kind declarations) = false
is_executed (Statement.Dimension declarations) = false
is_executed (Statement.Preset groups) = false
is_executed (Statement.LogicalIf tree statement) = is_executed statement
is_executed _ = true

action_executed : (s : Statement) → is_action s ≡ true → is_executed s ≡ true
action_executed (Statement.Subroutine name names) h = absurd (cc (h))
action_executed (Statement.Declare kind declarations) h = absurd (cc (h))
action_executed (Statement.Dimension declarations) h = absurd (cc (h))
action_executed (Statement.Preset groups) h = absurd (cc (h))
action_executed (Statement.LogicalIf tree statement) h = absurd (cc (h))
action_executed _ h = refl

group_executed : (s : Statement) → statement_formed is_name s ≡ true → group_of s ≡ Executable → is_executed s ≡ true
group_executed (Statement.Subroutine name names) h e = absurd (cc (e))
group_executed (Statement.Declare kind declarations) h e = absurd (cc (e))
group_executed (Statement.Dimension declarations) h e = absurd (cc (e))
group_executed (Statement.Preset groups) h e = absurd (cc (e))
group_executed (Statement.LogicalIf tree statement) h e =
    action_executed statement (and_true (is_action statement) (statement_formed is_name statement) (and_true (formed is_name tree) (is_action statement && statement_formed is_name statement) h).1).0
group_executed _ h e = refl

pub executed : (s : Statement) → IsFormed s → group_of s ≡ Executable → is_executed s ≡ true
executed s h = group_executed s (is_formed s h)

-- the names of the nodes pass where those of the trees do
module _ (test : Symbol → Bool) where
  abbrev nodes_pass : List NodeOf → Bool
  nodes_pass nodes = list_all test (filter_map node_name nodes)

  pass_append : (xs ys : List NodeOf) → nodes_pass (xs ++ ys) ≡ (nodes_pass xs && nodes_pass ys)
  pass_append xs ys = ap (list_all test) (filter_map-append node_name xs ys) ∙ list_all-append test (filter_map node_name xs) (filter_map node_name ys)

  parts_append : (xs ys : List Tree) → nodes_pass (map NodeOf.Part (xs ++ ys)) ≡ (nodes_pass (map NodeOf.Part xs) && nodes_pass (map NodeOf.Part ys))
  parts_append xs ys = ap nodes_pass (map-append NodeOf.Part xs ys) ∙ pass_append (map NodeOf.Part xs) (map NodeOf.Part ys)

  mutual
    tree_is : (t : Tree) → nodes_pass (map NodeOf.Part (parts t)) ≡ tree_passes test t
    tree_is (Tree.Number n) = refl
    tree_is (Tree.Truth b) = refl
    tree_is (Tree.Reference name items) = ap (λ b. test name && b) (items_are items)
    tree_is (Tree.Call f items) = items_are items
    tree_is (Tree.Signed sign t) = tree_is t
    tree_is (Tree.Not t) = tree_is t
    tree_is (Tree.Binary op a b) = parts_append (parts a) (parts b) ∙ (λ i. tree_is a i && tree_is b i)
    tree_is (Tree.ZeroPush t) = tree_is t

    items_are : (ts : Trees) → nodes_pass (map NodeOf.Part (all_parts ts)) ≡ items_pass test ts
    items_are Trees.None = refl
    items_are (Trees.Then t ts) = parts_append (parts t) (all_parts ts) ∙ (λ i. tree_is t i && items_are ts i)

  step_is : (step : Option Tree) → nodes_pass (value_nodes step) ≡ value_passes test step
  step_is None = refl
  step_is (Some t) = tree_is t

  -- labels have no name
  labels_pass : (labels : List ℕ) (nodes : List NodeOf) → nodes_pass (map NodeOf.Labelled labels ++ nodes) ≡ nodes_pass nodes
  labels_pass [] nodes = refl
  labels_pass (label ∷ labels) nodes = labels_pass labels nodes

  statement_is : (s : Statement) → is_executed s ≡ true → nodes_pass (nodes_of s) ≡ names_pass test s
  statement_is (Statement.Subroutine name names) h = absurd (cc (h))
  statement_is (Statement.Declare kind declarations) h = absurd (cc (h))
  statement_is (Statement.Dimension declarations) h = absurd (cc (h))
  statement_is (Statement.Preset groups) h = absurd (cc (h))
  statement_is (Statement.Assign name items t) h =
      ap (λ b. test name && b) (pass_append (map NodeOf.Part (all_parts items)) (tree_nodes t) ∙ (λ i. items_are items i && tree_is t i))
  statement_is (Statement.ComputedGoto labels t) h = labels_pass labels (tree_nodes t) ∙ tree_is t
  statement_is (Statement.ArithIf t l m n) h = pass_append (tree_nodes t) _ ∙ and-true (nodes_pass (tree_nodes t)) ∙ tree_is t
  statement_is (Statement.LogicalIf t s) h = pass_append (tree_nodes t) (nodes_of s) ∙ (λ i. tree_is t i && statement_is s h i)
  statement_is (Statement.BlockIf t) h = tree_is t
  statement_is (Statement.ElseIf t) h = tree_is t
  statement_is (Statement.Loop label name a b c) h =
      ap (λ z. test name && z)
      (pass_append (tree_nodes a) (tree_nodes b ++ value_nodes c)
      ∙ (λ i. tree_is a i && (pass_append (tree_nodes b) (value_nodes c) ∙ (λ j. tree_is b j && step_is c j)) i))
  statement_is _ h = refl

  plain_is : (xs : List Symbol) → list_all test (map name_in (map NameUse.Plain xs)) ≡ list_all test xs
  plain_is [] = refl
  plain_is (x ∷ xs) = ap (λ b. test x && b) (plain_is xs)

  -- each name of a statement passes where the walk over its trees finds none that fails
  pub names_tested : (s : Statement) → is_executed s ≡ true → list_all test (map name_in (uses_of s)) ≡ names_pass test s
  names_tested (Statement.Subroutine name names) h = absurd (cc (h))
  names_tested (Statement.Declare kind declarations) h = absurd (cc (h))
  names_tested (Statement.Dimension declarations) h = absurd (cc (h))
  names_tested s h = plain_is (names_of s) ∙ statement_is s h

-- the walk finds whether the names are among others
pub among_tested : (names : List Symbol) (s : Statement) → is_executed s ≡ true → names_pass (is_name_among names) s ≡ true → NamesAmong names s
among_tested names s h pass = sym (list_all-map (is_name_among names) name_in (uses_of s)) ∙ names_tested (is_name_among names) s h ∙ pass

pub among_kept : (names : Names) (s : Statement) → is_executed s ≡ true → names_pass (λ name. is_some (get bytes_eq names.facts name)) s ≡ true
    → NamesAmong (keys names.facts) s
among_kept names s h pass = among_tested (keys names.facts) s h ((λ i. names_pass (λ name. among_keys names name i) s) ∙ pass)
