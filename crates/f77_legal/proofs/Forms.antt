-- What a statement that is not of a form does not have.
use Rattle.f77_legal.proofs.Common.{◌≡◌, ap, map, sym, List, refl, ℕ, [], None, Option, subst, ◌≢◌, Vec, groups_of, terminal_label, uses_of, do_variable_of}
use Rattle.f77_legal.proofs.Common.{Plain, unit_name_of, dummies_of, names_of, Statement, statement_of, stmt_step, Expr, Kind}
use Rattle.std.specs.declared.alloc.Global.{Global}
use Rattle.f77_tree.specs.declared.data.DataGroup.{DataGroup}
use Rattle.f77_tree.specs.declared.declaration.Decl.{Decl}
use Rattle.f77_tree.specs.declared.statement.Stmt.{Stmt, Subroutine, Declare, Dimension, Preset, Loop}
use Rattle.f77_tree.specs.declared.statement.Stmt.TheFolds.{fold_out-Stmt}
use Rattle.f77_tree.specs.declared.statement.Stmt.TheViews as boxed

abbrev pub IsNoSubroutine : Stmt → Type 0
IsNoSubroutine s = (name : List ℕ) (arguments : Vec (List ℕ) Global) → s ≢ Subroutine name arguments

abbrev pub IsNoPreset : Stmt → Type 0
IsNoPreset s = (groups : Vec DataGroup Global) → s ≢ Preset groups

abbrev pub IsNoLoop : Stmt → Type 0
IsNoLoop s = (label : ℕ) (variable : List ℕ) (first last : Expr) (step : Option Expr) → s ≢ Loop label variable first last step

pub no_unit_name : (s : Stmt) → IsNoSubroutine s → unit_name_of (statement_of s) ≡ None
unfolding boxed.out-Stmt denote.Hole.Carrier.out
no_unit_name (Subroutine name arguments) other = absurd (other name arguments refl)
no_unit_name s other = ap unit_name_of (fold_out-Stmt Statement stmt_step s)

pub no_dummies : (s : Stmt) → IsNoSubroutine s → dummies_of (statement_of s) ≡ []
unfolding boxed.out-Stmt denote.Hole.Carrier.out
no_dummies (Subroutine name arguments) other = absurd (other name arguments refl)
no_dummies s other = ap dummies_of (fold_out-Stmt Statement stmt_step s)

pub no_groups : (s : Stmt) → IsNoPreset s → groups_of (statement_of s) ≡ []
unfolding boxed.out-Stmt denote.Hole.Carrier.out
no_groups (Preset groups) other = absurd (other groups refl)
no_groups s other = ap groups_of (fold_out-Stmt Statement stmt_step s)

pub no_terminal : (s : Stmt) → IsNoLoop s → terminal_label (statement_of s) ≡ None
unfolding boxed.out-Stmt denote.Hole.Carrier.out
no_terminal (Loop label variable first last step) other = absurd (other label variable first last step refl)
no_terminal s other = ap terminal_label (fold_out-Stmt Statement stmt_step s)

pub no_variable : (s : Stmt) → IsNoLoop s → do_variable_of (statement_of s) ≡ None
unfolding boxed.out-Stmt denote.Hole.Carrier.out
no_variable (Loop label variable first last step) other = absurd (other label variable first last step refl)
no_variable s other = ap do_variable_of (fold_out-Stmt Statement stmt_step s)

pub plain_uses : (s : Stmt) → IsNoSubroutine s → ((kind : Kind) (items : Vec Decl Global) → s ≢ Declare kind items)
    → ((items : Vec Decl Global) → s ≢ Dimension items) → uses_of (statement_of s) ≡ map Plain (names_of (statement_of s))
unfolding boxed.out-Stmt denote.Hole.Carrier.out
plain_uses (Subroutine name arguments) no_subroutine no_declaration no_dimension = absurd (no_subroutine name arguments refl)
plain_uses (Declare kind items) no_subroutine no_declaration no_dimension = absurd (no_declaration kind items refl)
plain_uses (Dimension items) no_subroutine no_declaration no_dimension = absurd (no_dimension items refl)
plain_uses s no_subroutine no_declaration no_dimension =
    subst (λ other. uses_of other ≡ map Plain (names_of other)) (sym (fold_out-Stmt Statement stmt_step s)) refl
