-- The labels of statements, line by line.
use Rattle.f77_check.proofs.Common.{◌≡◌, ap, ◌∙◌, map, List, ℕ, [], length, ◌∷◌, Some, ◌++◌, take, ◌+◌, ◌<◌, None, get_or, append-nil, map-append}
use Rattle.f77_check.proofs.Common.{filter_map-append, cons_option, one_more, labels, LineFields, line_of, Line}

-- the labels of the statements before one, and of it
module _ (lines : List Line) (i : ℕ) (line : Line) (lt : i < length lines) (at : line ≡ get_or lines i line) where
  labels_more : labels (map line_of (take (i + 1) lines)) ≡ labels (map line_of (take i lines)) ++ labels (line_of line ∷ [])
  labels_more =
      ap (λ z. labels (map line_of z)) (one_more lines i line lt at)
      ∙ ap labels (map-append line_of (take i lines) (line ∷ []))
      ∙ filter_map-append (λ (l : LineFields). l.label) (map line_of (take i lines)) (line_of line ∷ [])

  pub unlabelled : line.label ≡ None → labels (map line_of (take (i + 1) lines)) ≡ labels (map line_of (take i lines))
  unlabelled none = labels_more ∙ (ap (λ o. labels (map line_of (take i lines)) ++ cons_option o []) none ∙ append-nil (labels (map line_of (take i lines))))

  pub one_label : (label : ℕ) → line.label ≡ Some label → labels (map line_of (take (i + 1) lines)) ≡ labels (map line_of (take i lines)) ++ label ∷ []
  one_label label some = labels_more ∙ ap (λ o. labels (map line_of (take i lines)) ++ cons_option o []) some
