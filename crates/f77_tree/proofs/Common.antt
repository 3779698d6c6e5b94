-- The names that most proofs cite, passed on from one place. It declares nothing.
pub use Rattle.std.proofs.Common.{map, refl, ◌≡◌, drop, ℕ, sym, ◌∙◌, ap, arith, ◌++◌, List, [], ◌∷◌, Bool, true, take, false, length, Vec, ◌<◌, Option, ◌+◌}
pub use Rattle.std.proofs.Common.{◌≢◌, Some, subst, suc, ◌&&◌, ◌-◌, ◌≤◌, None, get_or, Box, IsUtf8, append-nil, append_assoc, inl, inr, nat_le, option_map}
pub use Rattle.std.proofs.Common.{slice_get, slice_index_or, take_all, true≢false, zero, IsTrue, add-one, cond, drop-cons, drop-set-lt, get_or-set_other}
pub use Rattle.std.proofs.Common.{length-append, length-set, min, nat_eq, not, replicate, rules, set, ◌*◌, ◌↔◌}
pub use Rattle.std.proofs.lemmas.List.{map-append, with_items_is, drop_all, drop_more, length-map, drop-replicate, get_or_default, map_push, set_split}
pub use Rattle.std.proofs.lemmas.List.{take_more_set}
pub use Rattle.std.specs.List.{list_all, flat_map, AllZip}
pub use Rattle.std.specs.declared.alloc.Global.{Global}
pub use Rattle.f77_tree.specs.{NodeOf, node_of, tree_sites, tree_of, data_group_of, decl_of, label_sites, trees, group_sites, sites_behind, word}
pub use Rattle.f77_tree.specs.Tree.{Tree, GroupFields, Trees, DeclFields}
pub use Rattle.f77_tree.specs.{Site, all_parts, group_nodes, list_sites, replacement_of, site_within, value_sites, item_sites, parts}
pub use Rattle.f77_tree.specs.{step_sites, target_sites, tree_nodes, IsPadded, cut, expr_step, fixed, is_letter, is_name, is_small_node, is_word, label_nodes}
pub use Rattle.f77_tree.specs.{name_sites, nodes_of, past_word, ref_step, same_trees, sites, value_nodes, has_bounds, is_label, largest_integer}
pub use Rattle.f77_tree.specs.{node_at, nodes_behind, of_value, padded, parameter_nodes, part_or, parts_behind, put_node, reference_fields, same_decl}
pub use Rattle.f77_tree.specs.{same_group, same_tree, statement_constants, target_nodes, target_or}
pub use Rattle.f77_tree.specs.Statement.{Statement, statement_of, jumps_of, stmt_step, has_labels}
pub use Rattle.f77_tree.specs.code.{Sought, PassedBy, Swapped, assigned_reference, assignment, put_number}
pub use Rattle.f77_tree.specs.declared.data.DataGroup.{DataGroup}
pub use Rattle.f77_tree.specs.declared.data.Value.{Value}
pub use Rattle.f77_tree.specs.declared.declaration.Decl.{Decl}
pub use Rattle.f77_tree.specs.declared.statement.Stmt.{Stmt, ComputedGoto}
pub use Rattle.f77_tree.specs.declared.tree.Expr.{Expr}
pub use Rattle.f77_tree.specs.declared.tree.Expr.TheVariants.{Number, Truth, outs-Binary, outs-Call, outs-Not, outs-Reference, outs-Signed, outs-ZeroPush}
pub use Rattle.f77_tree.specs.declared.tree.Expr.TheVariants.{rolls-Binary, rolls-Call, rolls-Not, rolls-Number, rolls-Reference, rolls-Signed, rolls-Truth}
pub use Rattle.f77_tree.specs.declared.tree.Expr.TheVariants.{rolls-ZeroPush}
pub use Rattle.f77_tree.specs.declared.tree.Kind.{Kind}
