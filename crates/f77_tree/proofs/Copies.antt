-- Lists that are copied item by item, and what holds such a list.
use Rattle.f77_tree.proofs.Common.{map, refl, ◌≡◌, ℕ, sym, ◌∙◌, ap, List, [], ◌∷◌, Vec, AllZip, Global, tree_of, data_group_of, decl_of, Statement}
use Rattle.f77_tree.proofs.Common.{statement_of, DataGroup, Decl, Stmt, Expr, Kind}
use Rattle.f77_tree.specs.declared.statement.Stmt.TheVariants as forms
use Rattle.f77_tree.proofs.Views.{subroutine_view, declare_view, dimension_view, preset_view, computed_view}

same_views : {X A : Type 0} (view : X → A) (xs ys : List X) → AllZip (λ x y. view y ≡ view x) xs ys → map view ys ≡ map view xs
same_views view [] [] all = refl
same_views view [] (y ∷ ys) all = absurd all
same_views view (x ∷ xs) [] all = absurd all
same_views view (x ∷ xs) (y ∷ ys) all = rw (all.0, same_views view xs ys all.1) refl

pub same_subroutine : (stmt : Stmt) (name copy : List ℕ) (names copies : Vec (List ℕ) Global) → stmt ≡ forms.Subroutine name names → copy ≡ name
    → copies.items ≡ names.items → statement_of (forms.Subroutine copy copies) ≡ statement_of stmt
same_subroutine stmt name copy names copies is named same =
    rw (is, named) (subroutine_view name copies ∙ ap (Statement.Subroutine name) same ∙ sym (subroutine_view name names))

pub same_declaration : (stmt : Stmt) (kind : Kind) (items copies : Vec Decl Global) → stmt ≡ forms.Declare kind items
    → AllZip (λ x y. decl_of y ≡ decl_of x) items.items copies.items → statement_of (forms.Declare kind copies) ≡ statement_of stmt
same_declaration stmt kind items copies is all =
    rw is (declare_view kind copies ∙ ap (Statement.Declare kind) (same_views decl_of items.items copies.items all) ∙ sym (declare_view kind items))

pub same_dimension : (stmt : Stmt) (items copies : Vec Decl Global) → stmt ≡ forms.Dimension items
    → AllZip (λ x y. decl_of y ≡ decl_of x) items.items copies.items → statement_of (forms.Dimension copies) ≡ statement_of stmt
same_dimension stmt items copies is all =
    rw is (dimension_view copies ∙ ap Statement.Dimension (same_views decl_of items.items copies.items all) ∙ sym (dimension_view items))

pub same_preset : (stmt : Stmt) (groups copies : Vec DataGroup Global) → stmt ≡ forms.Preset groups
    → AllZip (λ x y. data_group_of y ≡ data_group_of x) groups.items copies.items → statement_of (forms.Preset copies) ≡ statement_of stmt
same_preset stmt groups copies is all =
    rw is (preset_view copies ∙ ap Statement.Preset (same_views data_group_of groups.items copies.items all) ∙ sym (preset_view groups))

pub same_computed_goto : (stmt : Stmt) (labels copies : Vec ℕ Global) (value copy : Expr) → stmt ≡ forms.ComputedGoto labels value → copies.items ≡ labels.items
    → tree_of copy ≡ tree_of value → statement_of (forms.ComputedGoto copies copy) ≡ statement_of stmt
same_computed_goto stmt labels copies value copy is same kept =
    rw is (computed_view copies copy ∙ rw (same, kept) refl ∙ sym (computed_view labels value))
