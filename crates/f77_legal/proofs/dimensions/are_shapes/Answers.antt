use Rattle.f77_legal.proofs.Common.{◌≡◌, ◌∙◌, ap, map, List, refl, [], ◌∷◌, ◌&&◌, rules, tests, YieldsList-from_slice, all_from_yields_List, list_all, is_shape}
use Rattle.f77_legal.proofs.Common.{decl_of}
use Rattle.f77_tree.specs.declared.declaration.Decl.{Decl}
use Rattle.f77_legal.proofs.dimensions.are_shapes.Goals as goal

each : (items : List Decl) → list_all (λ item. is_shape (decl_of item)) items ≡ list_all is_shape (map decl_of items)
each [] = refl
each (item ∷ items) = ap (λ b. is_shape (decl_of item) && b) (each items)

pub returns : goal.returns
returns c =
    all_from_yields_List (λ item. is_shape (decl_of item)) _ _ _ c.all.ensures.ran (YieldsList-from_slice c.args.items.now c.iter.ensures.rest) (λ x b q k. search (rules, tests))
    ∙ each c.args.items.now
