-- A list in parentheses, written in three steps.
use Rattle.f77_program.proofs.Common.{◌≡◌, [], ◌++◌, ap, ◌∙◌, List, map, ◌∷◌, ℕ, true, Bool, arith, codes, false, length, append_assoc, ◌==◌, eqb-true}
use Rattle.f77_program.proofs.Common.{list_text, name_text, rest_text, statement_text, separated, Statement, tree_of, trees}
use Rattle.f77_tree.specs.declared.tree.Expr.{Expr}

pub list_whole : (old mid new : List ℕ) (items : List Expr) (b : Bool) → b ≡ (length items == 0) → b ≡ false
    → mid ≡ old ++ rest_text 40 (trees (map tree_of items)) → new ≡ mid ++ 41 ∷ [] → new ≡ old ++ list_text (trees (map tree_of items))
list_whole old mid new [] b is some e f = cc
list_whole old mid new (x ∷ items) b is some e f =
    f ∙ ap (λ z. z ++ 41 ∷ []) e ∙ append_assoc old (rest_text 40 (trees (map tree_of (x ∷ items)))) (41 ∷ [])

pub no_arguments : (old mid new name : List ℕ) (arguments : List (List ℕ)) (b : Bool) → b ≡ (length arguments == 0) → b ≡ true
    → mid ≡ old ++ codes "SUBROUTINE " → new ≡ mid ++ name → new ≡ old ++ statement_text (Statement.Subroutine name arguments)
no_arguments old mid new name [] b is none e f = f ∙ ap (λ z. z ++ name) e ∙ append_assoc old (codes "SUBROUTINE ") name
no_arguments old mid new name (n ∷ arguments) b is none e f =
    absurd (let h : (length (n ∷ arguments) == 0) ≡ true = cc in let k = eqb-true (length (n ∷ arguments)) 0 h in omega arith)

pub some_arguments : (old mid named list new name : List ℕ) (arguments : List (List ℕ)) (b : Bool) → b ≡ (length arguments == 0) → b ≡ false
    → mid ≡ old ++ codes "SUBROUTINE " → named ≡ mid ++ name → list ≡ named ++ separated name_text (codes "(") arguments → new ≡ list ++ 41 ∷ []
    → new ≡ old ++ statement_text (Statement.Subroutine name arguments)
some_arguments old mid named list new name [] b is some e f g h = cc
some_arguments old mid named list new name (n ∷ arguments) b is some e f g h =
    h ∙ ap (λ z. z ++ 41 ∷ []) (g ∙ ap (λ z. z ++ separated name_text (codes "(") (n ∷ arguments)) (f ∙ ap (λ z. z ++ name) e ∙ append_assoc old (codes "SUBROUTINE ") name))
    ∙ append_assoc (old ++ (codes "SUBROUTINE " ++ name)) (separated name_text (codes "(") (n ∷ arguments)) (41 ∷ [])
    ∙ append_assoc old (codes "SUBROUTINE " ++ name) (separated name_text (codes "(") (n ∷ arguments) ++ 41 ∷ [])
    ∙ ap (λ z. old ++ z) (append_assoc (codes "SUBROUTINE ") name (separated name_text (codes "(") (n ∷ arguments) ++ 41 ∷ []))

-- one part behind another
pub before_rest : (new v w part rest : List ℕ) → new ≡ w ++ rest → w ≡ v ++ part → new ≡ v ++ (part ++ rest)
before_rest new v w part rest e f = e ∙ ap (λ z. z ++ rest) f ∙ append_assoc v part rest
