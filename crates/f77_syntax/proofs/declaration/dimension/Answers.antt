use Rattle.f77_syntax.proofs.Common.{refl, ◌∙◌, sym, ap, ◌≡◌, true, false, map, dimension_view, all_bounded, decl_of, Statement}
use Rattle.f77_syntax.proofs.Clip.{all_bounded_clip}
use Rattle.f77_syntax.proofs.declaration.dimension.Goals as goal

pub returns-then-not-all_bounded : goal.returns-then-not-all_bounded
returns-then-not-all_bounded c =
    let (ds, read, same) = c.in_ok-items.ensures in
    let bare : all_bounded (map decl_of c.in_ok-items.items.items) ≡ false = cc in
    let known : all_bounded ds ≡ false = sym (all_bounded_clip ds) ∙ ap all_bounded (sym same) ∙ bare in
    rw (read, known) refl

pub returns : goal.returns
returns c =
    let (ds, read, same) = c.in_ok-items.ensures in
    let bounded : all_bounded (map decl_of c.in_ok-items.items.items) ≡ true = cc in
    let known : all_bounded ds ≡ true = sym (all_bounded_clip ds) ∙ ap all_bounded (sym same) ∙ bounded in
    (Statement.Dimension ds, rw (read, known) refl, dimension_view c.in_ok-items.items ∙ ap Statement.Dimension same)
