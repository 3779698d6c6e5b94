use Rattle.mothra_ops.proofs.Common.{◌≡◌, ◌∙◌, ap, sym, List, map, arith, refl, Some, length, ◌≤◌, None, ◌-◌, slice_get, option_map, ltb-false, Vec}
use Rattle.mothra_ops.proofs.Common.{slice_get_read, slice_get_past, line_of, Line, node_of, Node, nodes_at}
use Rattle.std.specs.declared.alloc.Global.{Global}
use Rattle.mothra_ops.proofs.NodeLists.{list_found}
use Rattle.mothra_ops.proofs.node_lists.NodeLists.at.Goals as goal

pub returns-in-Some : goal.returns-in-Some
returns-in-Some c =
    let number = c.args.number in
    let lists = c.self.inside.lists.items in
    let list = c.in-Some.list.now in
    let low : 1 ≤ number = omega (arith, c.if-number-eq0.false) in
    let there : slice_get lists (number - 1) ≡ Some list =
    sym (ap (λ (xs : List (Vec Node Global)). slice_get xs (number - 1)) c.deref.ensures.value)
    ∙ slice_get_read c.deref.result.now _ (number - 1) list refl c.in-Some.ensures.lookup.3.0 c.in-Some.ensures.lookup.1 in
    ap (λ (ns : List Node). Some (map node_of ns)) c.deref-in-Some.ensures.value
    ∙ sym (ap (option_map (λ (x : Vec Node Global). map node_of x.items)) there)
    ∙ list_found (map line_of c.self.inside.lines.now) lists number c.self.invariant low
    ∙ ap (λ (ls : List Line). nodes_at (map line_of ls) number) c.self.view_is

pub returns-in-None : goal.returns-in-None
returns-in-None c =
    let number = c.args.number in
    let lists = c.self.inside.lists.items in
    let low : 1 ≤ number = omega (arith, c.if-number-eq0.false) in
    let outside : length c.deref.result.now ≤ number - 1 = ltb-false (number - 1) (length c.deref.result.now) (sym c.in-None.ensures.lookup.0) in
    let nowhere : slice_get lists (number - 1) ≡ None =
    sym (ap (λ (xs : List (Vec Node Global)). slice_get xs (number - 1)) c.deref.ensures.value) ∙ slice_get_past c.deref.result.now (number - 1) outside in
    sym (ap (option_map (λ (x : Vec Node Global). map node_of x.items)) nowhere)
    ∙ list_found (map line_of c.self.inside.lines.now) lists number c.self.invariant low
    ∙ ap (λ (ls : List Line). nodes_at (map line_of ls) number) c.self.view_is
