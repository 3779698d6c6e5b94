-- What reading leaves of the canonical text of a statement.
use Rattle.f77_program.proofs.Common.{◌≡◌, [], ◌++◌, ap, ◌∙◌, List, sym, ◌∷◌, refl, subst, ℕ, true, codes, None, ◌&&◌, Option, Some, not, append_assoc, decimal}
use Rattle.f77_program.proofs.Common.{list_all, list_text, name_text, is_action, statement_text, text_of, declarations_text, groups_text, step_text, all_formed}
use Rattle.f77_program.proofs.Common.{formed, declaration_formed, statement_formed, value_formed, squeezed, is_printable, piece, decided_by_part, and_true}
use Rattle.f77_program.proofs.Common.{not_true, all_bounded, is_name, is_letter, is_word, separated, has_items, statement_constants, Statement, SpellsStatement}
use Rattle.f77_program.proofs.Common.{IsFormed, kind_keyword, IsUnmutated, Tree, Trees}
use Rattle.f77_source.specs.Line.{is_blank}
use Rattle.f77_tree.specs.declared.tree.Kind.{Kind}
use Rattle.f77_tree.specs.declared.tree.Kind.TheVariants.{Integer, Logical}
use Rattle.f77_program.proofs.StatementForming.{is_formed}
use Rattle.f77_program.proofs.StatementBack.{bare_text, back_statement}
use Rattle.f77_program.proofs.Plain.{IsPlain, both, plain_letter, plain_name, plain_decimal, plain_text, plain_list, not_blank, squeezed_plain, printable_plain}
use Rattle.f77_program.proofs.Plain.{behind_plain, printable_both}
use Rattle.f77_program.proofs.JoinedForms.{plain_separated}
use Rattle.f77_program.proofs.DeclarationForms.{any_size, any_sizes, plain_declaration}
use Rattle.f77_program.proofs.DataForms.{plain_data}

-- what stands behind the keyword SUBROUTINE
abbrev pub behind : List ℕ → List (List ℕ) → List ℕ
behind name [] = name
behind name (n ∷ names) = name ++ (separated name_text (codes "(") (n ∷ names) ++ 41 ∷ [])

pub plain_behind : (name : List ℕ) (names : List (List ℕ)) → is_name name ≡ true → list_all is_name names ≡ true → IsPlain (behind name names)
plain_behind name [] h f = plain_name name h
plain_behind name (n ∷ names) h f =
    let list = separated name_text (codes "(") (n ∷ names) in
    both name (list ++ 41 ∷ []) (plain_name name h) (both list (41 ∷ []) (plain_separated is_name name_text plain_name (codes "(") refl (n ∷ names) f) refl)

pub plain_assign : (name : List ℕ) (items : Trees) (t : Tree) → statement_formed is_name (Statement.Assign name items t) ≡ true
    → IsPlain (statement_text (Statement.Assign name items t))
plain_assign name items t f =
    let (is, rest) = and_true (is_name name) (all_formed is_name items && formed is_name t) f in
    let (all, value) = and_true (all_formed is_name items) (formed is_name t) rest in
    both (name ++ list_text items) (61 ∷ text_of t) (both name (list_text items) (plain_name name is) (plain_list items all)) (plain_text t value)

-- what stands behind the keyword of a computed GO TO
abbrev selection : List ℕ → Tree → List ℕ
selection labels t = separated decimal (codes "(") labels ++ (codes ")," ++ text_of t)

plain_selection : (labels : List ℕ) (t : Tree) → statement_formed is_name (Statement.ComputedGoto labels t) ≡ true → IsPlain (selection labels t)
plain_selection labels t f =
    both (separated decimal (codes "(") labels) (codes ")," ++ text_of t)
    (plain_separated any_size decimal (λ n h. plain_decimal n) (codes "(") refl labels (any_sizes labels))
    (plain_text t (and_true (has_items labels) (formed is_name t) f).1)

plain_labels : (l m n : ℕ) → IsPlain (decimal l ++ (44 ∷ (decimal m ++ (44 ∷ decimal n))))
plain_labels l m n =
    both (decimal l) (44 ∷ (decimal m ++ (44 ∷ decimal n))) (plain_decimal l) (both (decimal m) (44 ∷ decimal n) (plain_decimal m) (plain_decimal n))

plain_step : (c : Option Tree) → value_formed is_name c ≡ true → IsPlain (step_text c)
plain_step None f = refl
plain_step (Some t) f = plain_text t f

-- the DO variable and the parameters
plain_range : (name : List ℕ) (a b : Tree) (c : Option Tree) → (is_name name && (formed is_name a && (formed is_name b && value_formed is_name c))) ≡ true
    → IsPlain (name ++ (61 ∷ (text_of a ++ (44 ∷ (text_of b ++ step_text c)))))
plain_range name a b c f =
    let (is, rest) = and_true (is_name name) (formed is_name a && (formed is_name b && value_formed is_name c)) f in
    let (first, others) = and_true (formed is_name a) (formed is_name b && value_formed is_name c) rest in
    let (second, third) = and_true (formed is_name b) (value_formed is_name c) others in
    both name (61 ∷ (text_of a ++ (44 ∷ (text_of b ++ step_text c)))) (plain_name name is)
    (both (text_of a) (44 ∷ (text_of b ++ step_text c)) (plain_text a first) (both (text_of b) (step_text c) (plain_text b second) (plain_step c third)))

-- type statements
squeezed_kind : (kind : Kind) (text : List ℕ) → IsPlain text → squeezed (kind_keyword kind ++ (32 ∷ text)) ≡ kind_keyword kind ++ text
squeezed_kind Integer text h = ap (λ z. codes "INTEGER" ++ z) (squeezed_plain text h)
squeezed_kind Logical text h = ap (λ z. codes "LOGICAL" ++ z) (squeezed_plain text h)

printable_kind : (kind : Kind) (text : List ℕ) → IsPlain text → list_all is_printable (kind_keyword kind ++ (32 ∷ text)) ≡ true
printable_kind Integer text h = printable_plain text h
printable_kind Logical text h = printable_plain text h

kind_starts : (kind : Kind) (text : List ℕ) → not (list_all is_blank (piece (kind_keyword kind ++ (32 ∷ text)) 0)) ≡ true
kind_starts Integer text = refl
kind_starts Logical text = refl

-- a statement's text without its blanks
pub squeezed_statement : (s : Statement) → statement_formed is_name s ≡ true → squeezed (statement_text s) ≡ bare_text s
squeezed_statement (Statement.Subroutine name []) f =
    ap (λ z. codes "SUBROUTINE" ++ z) (squeezed_plain name (plain_name name (and_true (is_name name) true f).0))
squeezed_statement (Statement.Subroutine name (n ∷ names)) f =
    let (is, all) = and_true (is_name name) (list_all is_name (n ∷ names)) f in
    ap (λ z. codes "SUBROUTINE" ++ z) (squeezed_plain (behind name (n ∷ names)) (plain_behind name (n ∷ names) is all))
squeezed_statement (Statement.Declare kind ds) f = squeezed_kind kind (declarations_text ds) (plain_declaration ds f)
squeezed_statement (Statement.Dimension ds) f =
    ap (λ z. codes "DIMENSION" ++ z) (squeezed_plain (declarations_text ds) (plain_declaration ds (and_true (declaration_formed is_name ds) (all_bounded ds) f).0))
squeezed_statement (Statement.Preset gs) f = ap (λ z. codes "DATA" ++ z) (squeezed_plain (groups_text gs) (plain_data gs f))
squeezed_statement (Statement.Assign name items t) f = squeezed_plain (statement_text (Statement.Assign name items t)) (plain_assign name items t f)
squeezed_statement (Statement.Goto label) f = ap (λ z. codes "GOTO" ++ z) (squeezed_plain (decimal label) (plain_decimal label))
squeezed_statement (Statement.ComputedGoto labels t) f = ap (λ z. codes "GOTO" ++ z) (squeezed_plain (selection labels t) (plain_selection labels t f))
squeezed_statement (Statement.ArithIf t l m n) f =
    ap (λ z. codes "IF(" ++ z) (behind_plain (text_of t) (codes ") " ++ (decimal l ++ (44 ∷ (decimal m ++ (44 ∷ decimal n))))) _ (plain_text t f)
    (ap (λ z. 41 ∷ z) (squeezed_plain (decimal l ++ (44 ∷ (decimal m ++ (44 ∷ decimal n)))) (plain_labels l m n))))
squeezed_statement (Statement.LogicalIf t s) f =
    let (test, rest) = and_true (formed is_name t) (is_action s && statement_formed is_name s) f in
    let (is, inner) = and_true (is_action s) (statement_formed is_name s) rest in
    ap (λ z. codes "IF(" ++ z) (behind_plain (text_of t) (codes ") " ++ statement_text s) _ (plain_text t test) (ap (λ z. 41 ∷ z) (squeezed_statement s inner)))
squeezed_statement (Statement.BlockIf t) f = ap (λ z. codes "IF(" ++ z) (behind_plain (text_of t) (codes ") THEN") (codes ")THEN") (plain_text t f) refl)
squeezed_statement (Statement.ElseIf t) f = ap (λ z. codes "ELSEIF(" ++ z) (behind_plain (text_of t) (codes ") THEN") (codes ")THEN") (plain_text t f) refl)
squeezed_statement (Statement.Loop label name a b c) f =
    ap (λ z. codes "DO" ++ z) (behind_plain (decimal label) (32 ∷ (name ++ (61 ∷ (text_of a ++ (44 ∷ (text_of b ++ step_text c)))))) _ (plain_decimal label)
    (squeezed_plain (name ++ (61 ∷ (text_of a ++ (44 ∷ (text_of b ++ step_text c))))) (plain_range name a b c f)))
squeezed_statement _ f = refl

pub printable_statement : (s : Statement) → statement_formed is_name s ≡ true → list_all is_printable (statement_text s) ≡ true
printable_statement (Statement.Subroutine name []) f = printable_plain name (plain_name name (and_true (is_name name) true f).0)
printable_statement (Statement.Subroutine name (n ∷ names)) f =
    let (is, all) = and_true (is_name name) (list_all is_name (n ∷ names)) f in
    printable_plain (behind name (n ∷ names)) (plain_behind name (n ∷ names) is all)
printable_statement (Statement.Declare kind ds) f = printable_kind kind (declarations_text ds) (plain_declaration ds f)
printable_statement (Statement.Dimension ds) f = printable_plain (declarations_text ds) (plain_declaration ds (and_true (declaration_formed is_name ds) (all_bounded ds) f).0)
printable_statement (Statement.Preset gs) f = printable_plain (groups_text gs) (plain_data gs f)
printable_statement (Statement.Assign name items t) f = printable_plain (statement_text (Statement.Assign name items t)) (plain_assign name items t f)
printable_statement (Statement.Goto label) f = printable_plain (decimal label) (plain_decimal label)
printable_statement (Statement.ComputedGoto labels t) f = printable_plain (selection labels t) (plain_selection labels t f)
printable_statement (Statement.ArithIf t l m n) f =
    printable_both (text_of t) (codes ") " ++ (decimal l ++ (44 ∷ (decimal m ++ (44 ∷ decimal n))))) (printable_plain (text_of t) (plain_text t f))
    (printable_plain (decimal l ++ (44 ∷ (decimal m ++ (44 ∷ decimal n)))) (plain_labels l m n))
printable_statement (Statement.LogicalIf t s) f =
    let (test, rest) = and_true (formed is_name t) (is_action s && statement_formed is_name s) f in
    let (is, inner) = and_true (is_action s) (statement_formed is_name s) rest in
    printable_both (text_of t) (codes ") " ++ statement_text s) (printable_plain (text_of t) (plain_text t test)) (printable_statement s inner)
printable_statement (Statement.BlockIf t) f = printable_both (text_of t) (codes ") THEN") (printable_plain (text_of t) (plain_text t f)) refl
printable_statement (Statement.ElseIf t) f = printable_both (text_of t) (codes ") THEN") (printable_plain (text_of t) (plain_text t f)) refl
printable_statement (Statement.Loop label name a b c) f =
    printable_both (decimal label) (32 ∷ (name ++ (61 ∷ (text_of a ++ (44 ∷ (text_of b ++ step_text c)))))) (printable_plain (decimal label) (plain_decimal label))
    (printable_plain (name ++ (61 ∷ (text_of a ++ (44 ∷ (text_of b ++ step_text c))))) (plain_range name a b c f))
printable_statement _ f = refl

-- the first piece of a text is not blank where its first character is not
starts : (c : ℕ) (text : List ℕ) → not (is_blank c) ≡ true → not (list_all is_blank (piece (c ∷ text) 0)) ≡ true
starts c text h = rw (not_true (is_blank c) h) refl

starts_named : (name rest : List ℕ) → is_name name ≡ true → not (list_all is_blank (piece (name ++ rest) 0)) ≡ true
starts_named [] rest h = cc
starts_named (c ∷ text) rest h = starts c (text ++ rest) (not_blank c (plain_letter c (and_true (is_letter c) (list_all is_word text) h).0))

pub statement_starts : (s : Statement) → statement_formed is_name s ≡ true → not (list_all is_blank (piece (statement_text s) 0)) ≡ true
statement_starts (Statement.Subroutine name []) f = refl
statement_starts (Statement.Subroutine name (n ∷ names)) f = refl
statement_starts (Statement.Declare kind ds) f = kind_starts kind (declarations_text ds)
statement_starts (Statement.Dimension ds) f = refl
statement_starts (Statement.Preset gs) f = refl
statement_starts (Statement.Assign name items t) f =
    let (is, rest) = and_true (is_name name) (all_formed is_name items && formed is_name t) f in
    rw (append_assoc name (list_text items) (61 ∷ text_of t)) (starts_named name (list_text items ++ (61 ∷ text_of t)) is)
statement_starts (Statement.Goto label) f = refl
statement_starts (Statement.ComputedGoto labels t) f = refl
statement_starts (Statement.ArithIf t l m n) f = refl
statement_starts (Statement.LogicalIf t s) f = refl
statement_starts (Statement.BlockIf t) f = refl
statement_starts (Statement.ElseIf t) f = refl
statement_starts (Statement.Loop label name a b c) f = refl
statement_starts _ f = refl

pub reads_back : (s : Statement) → IsFormed s → IsUnmutated s → statement_constants s ≡ true → SpellsStatement (squeezed (statement_text s)) s
reads_back s f u k =
    let formed = is_formed s f in
    subst (λ z. SpellsStatement z s) (sym (squeezed_statement s formed)) (back_statement s u formed (sym (decided_by_part s) ∙ k))
