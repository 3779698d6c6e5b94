-- Each form of statement with a node behind its own swapped for another.
use Rattle.f77_tree.proofs.Common.{map, refl, ◌≡◌, ℕ, sym, ◌∙◌, ap, arith, ◌++◌, List, Bool, false, length, Vec, Option, ◌-◌, length-map, Global, NodeOf}
use Rattle.f77_tree.proofs.Common.{tree_sites, decl_of, label_sites, Tree, group_sites, sites_behind, GroupFields, Site, list_sites, site_within, step_sites}
use Rattle.f77_tree.proofs.Common.{name_sites, Statement, statement_of, Sought, Decl, Stmt, Kind}
use Rattle.f77_tree.specs.declared.statement.Stmt.TheVariants as forms
use Rattle.f77_tree.proofs.Views.{subroutine_view, declare_view, dimension_view}
use Rattle.f77_tree.proofs.Passes.{sought_one, passed_fixed, pair_sites, within_pair}
use Rattle.f77_tree.proofs.SwappedExpressions.{seen_as}

-- the parts of a statement from left to right, each with those behind it
abbrev pub three_labels : ℕ × (ℕ × ℕ) → List (Site (ℕ × (ℕ × ℕ)))
three_labels = pair_sites label_sites (pair_sites label_sites label_sites)

abbrev pub limit_and_step : Tree × Option Tree → List (Site (Tree × Option Tree))
limit_and_step = pair_sites tree_sites step_sites

abbrev pub parameters : Tree × (Tree × Option Tree) → List (Site (Tree × (Tree × Option Tree)))
parameters = pair_sites tree_sites limit_and_step

abbrev pub control : List ℕ × (Tree × (Tree × Option Tree)) → List (Site (List ℕ × (Tree × (Tree × Option Tree))))
control = pair_sites name_sites parameters

module _ (answer : Bool) (k j : ℕ) (a b : NodeOf) where
  abbrev Behind : Statement → Statement → Type 0
  Behind s s' = Sought sites_behind answer k j a b s s'

  pub in_preset : (gs gs' : List GroupFields) → Sought (list_sites group_sites) answer k j a b gs gs' → Behind (Statement.Preset gs) (Statement.Preset gs')
  in_preset = sought_one (list_sites group_sites) sites_behind Statement.Preset (λ x. refl) answer k j a b

  pub in_block_if : (t t' : Tree) → Sought tree_sites answer k j a b t t' → Behind (Statement.BlockIf t) (Statement.BlockIf t')
  in_block_if = sought_one tree_sites sites_behind Statement.BlockIf (λ x. refl) answer k j a b

  pub in_else_if : (t t' : Tree) → Sought tree_sites answer k j a b t t' → Behind (Statement.ElseIf t) (Statement.ElseIf t')
  in_else_if = sought_one tree_sites sites_behind Statement.ElseIf (λ x. refl) answer k j a b

  pub in_arithmetic : (t t' : Tree) (l l' m m' n n' : ℕ) → Sought (pair_sites tree_sites three_labels) answer k j a b (t, (l, (m, n))) (t', (l', (m', n')))
      → Behind (Statement.ArithIf t l m n) (Statement.ArithIf t' l' m' n')
  in_arithmetic t t' l l' m m' n n' =
      let whole : Tree × (ℕ × (ℕ × ℕ)) → Statement = λ x. Statement.ArithIf x.0 x.1.0 x.1.1.0 x.1.1.1 in
      let path : (x : Tree × (ℕ × (ℕ × ℕ))) → map (site_within whole) (pair_sites tree_sites three_labels x) ≡ sites_behind (whole x) =
      λ x. within_pair tree_sites three_labels whole x.0 x.1
      ∙ ap (λ z. map (site_within (λ u. Statement.ArithIf u x.1.0 x.1.1.0 x.1.1.1)) (tree_sites x.0) ++ z)
      (within_pair label_sites (pair_sites label_sites label_sites) (λ v. whole (x.0, v)) x.1.0 x.1.1
      ∙ ap (λ z. map (site_within (λ u. Statement.ArithIf x.0 u x.1.1.0 x.1.1.1)) (label_sites x.1.0) ++ z)
      (within_pair label_sites label_sites (λ v. whole (x.0, (x.1.0, v))) x.1.1.0 x.1.1.1)) in
      sought_one (pair_sites tree_sites three_labels) sites_behind whole (λ x. sym (path x)) answer k j a b (t, (l, (m, n))) (t', (l', (m', n')))

  pub in_loop : (l l' : ℕ) (n n' : List ℕ) (first first' last last' : Tree) (step step' : Option Tree)
      → Sought (pair_sites label_sites control) answer k j a b (l, (n, (first, (last, step)))) (l', (n', (first', (last', step'))))
      → Behind (Statement.Loop l n first last step) (Statement.Loop l' n' first' last' step')
  in_loop l l' n n' first first' last last' step step' =
      let whole : ℕ × (List ℕ × (Tree × (Tree × Option Tree))) → Statement = λ x. Statement.Loop x.0 x.1.0 x.1.1.0 x.1.1.1.0 x.1.1.1.1 in
      let path : (x : ℕ × (List ℕ × (Tree × (Tree × Option Tree)))) → map (site_within whole) (pair_sites label_sites control x) ≡ sites_behind (whole x) =
      λ x. within_pair label_sites control whole x.0 x.1
      ∙ ap (λ z. map (site_within (λ u. whole (u, x.1))) (label_sites x.0) ++ z)
      (within_pair name_sites parameters (λ v. whole (x.0, v)) x.1.0 x.1.1
      ∙ ap (λ z. map (site_within (λ u. whole (x.0, (u, x.1.1)))) (name_sites x.1.0) ++ z)
      (within_pair tree_sites limit_and_step (λ v. whole (x.0, (x.1.0, v))) x.1.1.0 x.1.1.1
      ∙ ap (λ z. map (site_within (λ u. whole (x.0, (x.1.0, (u, x.1.1.1))))) (tree_sites x.1.1.0) ++ z)
      (within_pair tree_sites step_sites (λ v. whole (x.0, (x.1.0, (x.1.1.0, v)))) x.1.1.1.0 x.1.1.1.1))) in
      sought_one (pair_sites label_sites control) sites_behind whole (λ x. sym (path x)) answer k j a b (l, (n, (first, (last, step)))) (l', (n', (first', (last', step'))))

-- dummy arguments and declared names are passed by
module _ (answer : Bool) (k j : ℕ) (a : NodeOf) (answer_false : answer ≡ false) where
  abbrev Passes : Stmt → Type 0
  Passes s = Sought sites_behind answer k j a a (statement_of s) (statement_of s)

  pub past_subroutine : (name : List ℕ) (names : Vec (List ℕ) Global) → j ≡ k - length names.items → Passes (forms.Subroutine name names)
  past_subroutine name names falls =
      let s : Statement = Statement.Subroutine name names.items in
      seen_as sites_behind answer k j a a _ _ s s (subroutine_view name names) (subroutine_view name names)
      (passed_fixed sites_behind NodeOf.Named names.items answer k j a s refl answer_false falls)

  pub past_declared : (kind : Kind) (items : Vec Decl Global) → j ≡ k - length items.items → Passes (forms.Declare kind items)
  past_declared kind items falls =
      let s : Statement = Statement.Declare kind (map decl_of items.items) in
      seen_as sites_behind answer k j a a _ _ s s (declare_view kind items) (declare_view kind items)
      (passed_fixed sites_behind NodeOf.Declared (map decl_of items.items) answer k j a s refl answer_false (omega (arith, falls, length-map items.items decl_of)))

  pub past_dimension : (items : Vec Decl Global) → j ≡ k - length items.items → Passes (forms.Dimension items)
  past_dimension items falls =
      let s : Statement = Statement.Dimension (map decl_of items.items) in
      seen_as sites_behind answer k j a a _ _ s s (dimension_view items) (dimension_view items)
      (passed_fixed sites_behind NodeOf.Declared (map decl_of items.items) answer k j a s refl answer_false (omega (arith, falls, length-map items.items decl_of)))
