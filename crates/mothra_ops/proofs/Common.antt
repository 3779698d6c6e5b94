-- The names that most proofs cite, passed on from one place. It declares nothing.
pub use Rattle.std.proofs.Common.{◌≡◌, ◌∙◌, ap, sym, List, map, arith, refl, Some, length, subst, ℕ, ◌≤◌, None, [], ◌+◌, ◌-◌, suc, ◌<◌, inr, slice_get, zero}
pub use Rattle.std.proofs.Common.{◌∷◌, Option, inl, ◌⊎◌, option_map, IfSome, ◌++◌, get_or, true, Bool, false, cond, filter, take, true≢false, Contains, IfNone}
pub use Rattle.std.proofs.Common.{drop, is_some, ltb-false, rules, set, ◌%◌, IfOk, Vec, append-nil, if◌then◌else◌, nat_eq, take_all, ◌==◌, ◌≢◌, AllPairs, Err}
pub use Rattle.std.proofs.Common.{Ok, Result, drop-drop, drop-set-lt, eqb, length-set, ltb, ltb-true, not, slice_set, tests, ◌&&◌, ◌*◌, ◌^◌, ◌↔◌}
pub use Rattle.std.proofs.lemmas.Bool.{cases_lt}
pub use Rattle.std.proofs.lemmas.Bool.Decides.{nat_tests, not_from_Decides}
pub use Rattle.std.proofs.lemmas.List.{length-map, map-append, length_push, map-set, get_or_append_left, get_or_default, get_or_push}
pub use Rattle.std.proofs.lemmas.List.Elements.{All-nil, All-cons, All-push, filter-append, All-append, All-head, All-tail, Decides-contains, contains_decides}
pub use Rattle.std.proofs.lemmas.List.Elements.{filter_map-append, filter_more}
pub use Rattle.std.proofs.lemmas.Option.{same_Some, none-some, slice_get-map, slice_get_read, slice_get_past, slice_get_cases, slice_get_within}
pub use Rattle.std.proofs.lemmas.Option.{option_and_then_some, get_or_from_slice_get}
pub use Rattle.std.proofs.lemmas.Result.{err_from_is_err_and}
pub use Rattle.std.specs.Borrow.{Bor}
pub use Rattle.std.specs.List.{All, enumerate_from, filter_map, find}
pub use Rattle.std.specs.Option.{option_and_then, option_map_or, option_or}
pub use Rattle.f77_check.specs.Checked.{CheckedFields, IsChecked, shapes}
pub use Rattle.f77_legal.specs.Alone.{StandsAlone}
pub use Rattle.f77_legal.specs.Legal.{IsLegal}
pub use Rattle.f77_program.specs.Patching.{Fits, patched, replaced}
pub use Rattle.f77_program.specs.Program.{line_of, LineFields, line_at, IsProgram}
pub use Rattle.f77_program.specs.declared.program.Line.{Line}
pub use Rattle.f77_tree.specs.Node.{NodeOf, nodes_of, node_of, names_of}
pub use Rattle.f77_tree.specs.Replacement.{replacement_of}
pub use Rattle.f77_tree.specs.Sites.{changed, Site, sites, node_at, put_node, sites_behind, statement_or}
pub use Rattle.f77_tree.specs.Statement.{statement_of, Statement, form_of, is_executable_statement, same_statement}
pub use Rattle.f77_tree.specs.declared.node.Node.{Node}
pub use Rattle.f77_tree.specs.declared.replacement.Replacement.{Replacement}
pub use Rattle.f77_tree.specs.declared.statement.Stmt.{Stmt}
pub use Rattle.mothra_codes.specs.declared.op.Op.{Op}
pub use Rattle.mothra_codes.specs.declared.op.Op.TheVariants.{Aar, Der, Dsa, Glr, Rsr, San, Sdl}
pub use Rattle.mothra_ops.specs.{numbered, IsMadeMutant, made, IsMutant, IsMember, copied, edits_in, thinned, IsNoList, IsTooLong, Lists, statements_in}
pub use Rattle.mothra_ops.specs.{IsCountedList, list_fields, AreMade, BeforeEdit, IsList, IsMadeList, IsNoPlan, ListFields, PlanFields, changed_at}
pub use Rattle.mothra_ops.specs.{list_of_operator, most_edits, most_whole, mutant_fields, Below, HoldsEdits, IsPlan, MakesLegal, asked, edits_of, longest}
pub use Rattle.mothra_ops.specs.{mutant_made, mutant_of, plan_fields, program_of}
unfoldable pub use Rattle.mothra_ops.specs.{HasOneEach}
pub use Rattle.mothra_ops.specs.code.{lines_of, HasStatement, HasCome, StandsAt, AreNodesOf, IsMadeBy, nodes_at, So, candidates_at}
pub use Rattle.mothra_ops.specs.declared.edit.Edit.{Edit}
pub use Rattle.mothra_ops.specs.declared.listing.Listing.{Listing}
pub use Rattle.mothra_ops.specs.declared.mutant.Mutant.{Mutant}
pub use Rattle.mothra_replacements.specs.Pools.{pools_of, PoolFields, pool_fields}
pub use Rattle.mothra_replacements.specs.Replacements.{gives, replacements, stands_in, acts_or_continues, is_replaceable_action, new_statement}
pub use Rattle.mothra_replacements.specs.declared.fault.OpsFault.{OpsFault}
pub use Rattle.mothra_replacements.specs.declared.fault.OpsFault.TheVariants.{Memory, TooMany, NotASite}
