-- What the copies of references are, and what sets array references apart from scalars.
use Rattle.mothra_replacements.proofs.Common.{◌≡◌, map, List, ap, refl, ◌∙◌, [], sym, ◌∷◌, true, false, length, ◌<◌, arith, AllZip, Symbol, Tree, Trees}
use Rattle.mothra_replacements.proofs.Common.{tree_of, reference_fields, trees, are_some}
use Rattle.f77_tree.specs.declared.tree.Expr.{Expr}
use Rattle.f77_tree.specs.declared.tree.Ref.{Ref}
use Rattle.f77_tree.proofs.Views.{ref_view, reference_view}
use Rattle.f77_tree.specs.declared.tree.Expr.TheViews as views

some_element : (xs : List Expr) → 0 < length xs → are_some (trees (map tree_of xs)) ≡ true
some_element [] h = absurd (omega arith)
some_element (x ∷ xs) h = refl

none_element : (xs : List Expr) → length xs ≡ 0 → are_some (trees (map tree_of xs)) ≡ false
none_element [] h = refl
none_element (x ∷ xs) h = absurd (omega (arith, h))

pub with_some : (r : Ref) → 0 < length r.subscripts.items → are_some (trees (reference_fields r).1) ≡ true
with_some r h = ap (λ (place : Symbol × List Tree). are_some (trees place.1)) (ref_view r) ∙ some_element r.subscripts.items h

pub with_none : (r : Ref) → length r.subscripts.items ≡ 0 → are_some (trees (reference_fields r).1) ≡ false
with_none r h = ap (λ (place : Symbol × List Tree). are_some (trees place.1)) (ref_view r) ∙ none_element r.subscripts.items h

copied : (xs ys : List Expr) → AllZip (λ x y. tree_of y ≡ tree_of x) xs ys → map tree_of ys ≡ map tree_of xs
copied [] [] all = refl
copied [] (y ∷ ys) all = absurd all
copied (x ∷ xs) [] all = absurd all
copied (x ∷ xs) (y ∷ ys) all = rw (all.0, copied xs ys all.1) refl

-- a copy of the subscripts of one reference behind the name of another
pub renamed : (r own : Ref) → AllZip (λ x y. tree_of y ≡ tree_of x) own.subscripts.items r.subscripts.items
    → tree_of (views.Reference r) ≡ Tree.Reference r.name (trees (reference_fields own).1)
renamed r own all =
    reference_view r
    ∙ ap (λ (ts : List Tree). Tree.Reference r.name (trees ts))
    (copied own.subscripts.items r.subscripts.items all ∙ sym (ap (λ (place : Symbol × List Tree). place.1) (ref_view own)))

-- a reference as an expression, and its name
pub as_expression : (r : Ref) → tree_of (views.Reference r) ≡ Tree.Reference (reference_fields r).0 (trees (reference_fields r).1)
as_expression r = reference_view r ∙ sym (ap (λ (place : Symbol × List Tree). Tree.Reference place.0 (trees place.1)) (ref_view r))

pub named : (r : Ref) → (reference_fields r).0 ≡ r.name
named r = ap (λ (place : Symbol × List Tree). place.0) (ref_view r)

-- a reference without subscripts
pub without : (r : Ref) → r.subscripts.items ≡ [] → tree_of (views.Reference r) ≡ Tree.Reference r.name Trees.None
without r none = reference_view r ∙ ap (λ (xs : List Expr). Tree.Reference r.name (trees (map tree_of xs))) none
