-- The canonical text of a statement spells it.
use Rattle.f77_program.proofs.Common.{◌≡◌, [], ◌++◌, ap, List, sym, ◌∷◌, refl, subst, ℕ, true, arith, codes, false, None, length, ◌&&◌, Option, Some}
use Rattle.f77_program.proofs.Common.{append-nil, nat_le, option_map, ◌≤◌, leb-true, le-leb, length-decimal-le, decimal, list_all, join_with_byte, list_text}
use Rattle.f77_program.proofs.Common.{name_text, is_action, text_of, declarations_text, groups_text, step_text, all_formed, formed, declaration_formed}
use Rattle.f77_program.proofs.Common.{statement_formed, value_formed, all_small_constants, small_constants, by_part, and_true, all_bounded, is_name, is_number}
use Rattle.f77_program.proofs.Common.{Spells, separated, has_items, is_label, of_value, Statement, SpellsStatement, tree_in_text, kind_keyword, trees_in_text}
use Rattle.f77_program.proofs.Common.{IsUnmutated, SpellsAction, SpellsLabel, in_text, label_number, Tree}
use Rattle.f77_program.proofs.Back.{decimal_number, own_low, small, back, back_reference}
use Rattle.f77_program.proofs.JoinedForms.{joined_back}
use Rattle.f77_program.proofs.DeclarationForms.{declaration_back}
use Rattle.f77_program.proofs.DataForms.{data_back}

-- names joined by commas
joined : (n : List ℕ) (names : List (List ℕ)) → join_with_byte 44 (n ∷ names) ≡ n ++ separated name_text (codes ",") names
joined n [] = sym (append-nil n)
joined n (m ∷ names) = ap (λ z. n ++ 44 ∷ z) (joined m names)

-- labels
module _ (n : ℕ) (h : is_label n ≡ true) where
  label_small : (1 ≤ n) × (n ≤ 99999)
  label_small = let (low, high) = and_true (nat_le 1 n) (nat_le n 99999) h in (leb-true 1 n low, leb-true n 99999 high)

  pub label_row : is_number (decimal n) ≡ true
  label_row = let s = label_small in (decimal_number n (omega arith)).0

  pub label_back : label_number (decimal n) ≡ n
  unfolding label_number
  label_back =
      let s = label_small in
      let short : nat_le (length (decimal n)) 5 ≡ true = le-leb (length (decimal n)) 5 (length-decimal-le 5 n (omega arith) (omega arith) (omega arith)) in
      rw short (decimal_number n (omega arith)).1

spelled_back : (n : ℕ) → is_label n ≡ true → SpellsLabel (decimal n) n
spelled_back n h = subst (SpellsLabel (decimal n)) (label_back n h) (SpellsLabel.digits (decimal n) (label_row n h))

-- the canonical text of a statement without its blanks
abbrev pub bare_text : Statement → List ℕ
bare_text (Statement.Subroutine name []) = codes "SUBROUTINE" ++ name
bare_text (Statement.Subroutine name (n ∷ names)) = codes "SUBROUTINE" ++ (name ++ (separated name_text (codes "(") (n ∷ names) ++ 41 ∷ []))
bare_text (Statement.Declare kind ds) = kind_keyword kind ++ declarations_text ds
bare_text (Statement.Dimension ds) = codes "DIMENSION" ++ declarations_text ds
bare_text (Statement.Preset gs) = codes "DATA" ++ groups_text gs
bare_text (Statement.Assign name items t) = (name ++ list_text items) ++ (61 ∷ text_of t)
bare_text (Statement.Goto label) = codes "GOTO" ++ decimal label
bare_text (Statement.ComputedGoto labels t) = codes "GOTO" ++ (separated decimal (codes "(") labels ++ (codes ")," ++ text_of t))
bare_text (Statement.ArithIf t l m n) = codes "IF(" ++ (text_of t ++ (41 ∷ (decimal l ++ (44 ∷ (decimal m ++ (44 ∷ decimal n))))))
bare_text (Statement.LogicalIf t s) = codes "IF(" ++ (text_of t ++ (41 ∷ bare_text s))
bare_text (Statement.BlockIf t) = codes "IF(" ++ (text_of t ++ codes ")THEN")
bare_text (Statement.ElseIf t) = codes "ELSEIF(" ++ (text_of t ++ codes ")THEN")
bare_text Statement.Else = codes "ELSE"
bare_text Statement.EndIf = codes "ENDIF"
bare_text (Statement.Loop label name a b c) = codes "DO" ++ (decimal label ++ (name ++ (61 ∷ (text_of a ++ (44 ∷ (text_of b ++ step_text c))))))
bare_text Statement.Continue = codes "CONTINUE"
bare_text Statement.Return = codes "RETURN"
bare_text Statement.Stop = codes "STOP"
bare_text Statement.Trap = codes "TRAP"
bare_text Statement.End = codes "END"

back_small : (t : Tree) → tree_in_text t ≡ t → formed is_name t ≡ true → small_constants t ≡ true → Spells 1 (text_of t) t
back_small t u f k = back t u f k 1 (own_low t)

back_computed : (labels : List ℕ) (t : Tree) → has_items labels ≡ true → list_all is_label labels ≡ true → Spells 1 (text_of t) t
    → SpellsAction (bare_text (Statement.ComputedGoto labels t)) (Statement.ComputedGoto labels t)
back_computed [] t h k p = cc
back_computed (n ∷ labels) t h k p = SpellsAction.computed_go_to true (joined_back is_label decimal spelled_back n labels k) p

back_action : (s : Statement) → IsUnmutated s → is_action s ≡ true → statement_formed is_name s ≡ true → by_part s ≡ true → SpellsAction (bare_text s) s
back_action (Statement.Subroutine name names) u i f k = cc
back_action (Statement.Declare kind ds) u i f k = cc
back_action (Statement.Dimension ds) u i f k = cc
back_action (Statement.Preset gs) u i f k = cc
back_action (Statement.Assign name items t) u i f k =
    let (is, rest) = and_true (is_name name) (all_formed is_name items && formed is_name t) f in
    let (all, value) = and_true (all_formed is_name items) (formed is_name t) rest in
    let (small_all, small_value) = and_true (all_small_constants items) (small_constants t) k in
    let one : trees_in_text items ≡ items = cc in
    let two : tree_in_text t ≡ t = cc in
    SpellsAction.assign (back_reference items name one is all small_all) (back_small t two value small_value)
back_action (Statement.Goto label) u i f k =
    subst (λ n. SpellsAction (codes "GOTO" ++ decimal label) (Statement.Goto n)) (label_back label k) (SpellsAction.go_to (decimal label) (label_row label k))
back_action (Statement.ComputedGoto labels t) u i f k =
    let (some, value) = and_true (has_items labels) (formed is_name t) f in
    let (all, small_value) = and_true (list_all is_label labels) (small_constants t) k in
    let same : tree_in_text t ≡ t = cc in
    back_computed labels t some all (back_small t same value small_value)
back_action (Statement.ArithIf t l m n) u i f k =
    let (value, labels) = and_true (small_constants t) (is_label l && (is_label m && is_label n)) k in
    let (first, others) = and_true (is_label l) (is_label m && is_label n) labels in
    let (second, third) = and_true (is_label m) (is_label n) others in
    let same : tree_in_text t ≡ t = cc in
    let p = SpellsAction.arithmetic_if (decimal l) (decimal m) (decimal n) (back_small t same f value) (label_row l first) (label_row m second) (label_row n third) in
    rw (label_back l first, label_back m second, label_back n third) at p
back_action (Statement.LogicalIf t s) u i f k = cc
back_action (Statement.BlockIf t) u i f k = cc
back_action (Statement.ElseIf t) u i f k = cc
back_action Statement.Else u i f k = cc
back_action Statement.EndIf u i f k = cc
back_action (Statement.Loop label name a b c) u i f k = cc
back_action Statement.Continue u i f k = SpellsAction.go_on
back_action Statement.Return u i f k = SpellsAction.return
back_action Statement.Stop u i f k = SpellsAction.stop
back_action Statement.Trap u i f k = cc
back_action Statement.End u i f k = cc

back_loop : (label : ℕ) (name : List ℕ) (a b : Tree) (c : Option Tree) → is_label label ≡ true → is_name name ≡ true → Spells 1 (text_of a) a → Spells 1 (text_of b) b
    → option_map tree_in_text c ≡ c → value_formed is_name c ≡ true → of_value small_constants c ≡ true
    → SpellsStatement (bare_text (Statement.Loop label name a b c)) (Statement.Loop label name a b c)
back_loop label name a b None l n p q u f k =
    let r = SpellsStatement.loop {name = name} (decimal label) false (label_row label l) n p q in
    let e : text_of b ++ [] ≡ text_of b = append-nil (text_of b) in
    rw e (rw (label_back label l) at r)
back_loop label name a b (Some c) l n p q u f k =
    let same : tree_in_text c ≡ c = cc in
    let r = SpellsStatement.loop_by {name = name} (decimal label) false (label_row label l) n p q (back_small c same f k) in rw (label_back label l) at r

pub back_statement : (s : Statement) → IsUnmutated s → statement_formed is_name s ≡ true → by_part s ≡ true → SpellsStatement (bare_text s) s
back_statement (Statement.Subroutine name []) u f k = SpellsStatement.subroutine (and_true (is_name name) true f).0
back_statement (Statement.Subroutine name (n ∷ names)) u f k =
    let (first, others) = and_true (is_name name) (list_all is_name (n ∷ names)) f in
    subst (λ z. SpellsStatement (codes "SUBROUTINE" ++ (name ++ (40 ∷ (z ++ 41 ∷ [])))) (Statement.Subroutine name (n ∷ names))) (joined n names)
    (SpellsStatement.subroutine_of (n ∷ names) first others)
back_statement (Statement.Declare kind ds) u f k = SpellsStatement.declare kind (declaration_back ds f k)
back_statement (Statement.Dimension ds) u f k =
    let (formed, bounded) = and_true (declaration_formed is_name ds) (all_bounded ds) f in SpellsStatement.dimension (declaration_back ds formed k) bounded
back_statement (Statement.Preset gs) u f k = SpellsStatement.preset (data_back gs f k)
back_statement (Statement.Assign name items t) u f k = SpellsStatement.action (back_action (Statement.Assign name items t) u refl f k)
back_statement (Statement.Goto label) u f k = SpellsStatement.action (back_action (Statement.Goto label) u refl f k)
back_statement (Statement.ComputedGoto labels t) u f k = SpellsStatement.action (back_action (Statement.ComputedGoto labels t) u refl f k)
back_statement (Statement.ArithIf t l m n) u f k = SpellsStatement.action (back_action (Statement.ArithIf t l m n) u refl f k)
back_statement (Statement.LogicalIf t s) u f k =
    let (test, rest) = and_true (formed is_name t) (is_action s && statement_formed is_name s) f in
    let (is, inner) = and_true (is_action s) (statement_formed is_name s) rest in
    let (small_test, small_inner) = and_true (small_constants t) (by_part s) k in
    let unmutated : in_text s ≡ s = cc in
    let same : tree_in_text t ≡ t = cc in
    SpellsStatement.logical_if (back_small t same test small_test) (back_action s unmutated is inner small_inner)
back_statement (Statement.BlockIf t) u f k = let same : tree_in_text t ≡ t = cc in SpellsStatement.block_if (back_small t same f k)
back_statement (Statement.ElseIf t) u f k = let same : tree_in_text t ≡ t = cc in SpellsStatement.else_if (back_small t same f k)
back_statement Statement.Else u f k = SpellsStatement.otherwise
back_statement Statement.EndIf u f k = SpellsStatement.end_if
back_statement (Statement.Loop label name a b c) u f k =
    let (is, rest) = and_true (is_name name) (formed is_name a && (formed is_name b && value_formed is_name c)) f in
    let (first, others) = and_true (formed is_name a) (formed is_name b && value_formed is_name c) rest in
    let (second, third) = and_true (formed is_name b) (value_formed is_name c) others in
    let (one, small) = and_true (is_label label) (small_constants a && (small_constants b && of_value small_constants c)) k in
    let (small_first, small_others) = and_true (small_constants a) (small_constants b && of_value small_constants c) small in
    let (small_second, small_third) = and_true (small_constants b) (of_value small_constants c) small_others in
    let u_first : tree_in_text a ≡ a = cc in
    let u_second : tree_in_text b ≡ b = cc in
    let u_third : option_map tree_in_text c ≡ c = cc in
    back_loop label name a b c one is (back_small a u_first first small_first) (back_small b u_second second small_second) u_third third small_third
back_statement Statement.Continue u f k = SpellsStatement.action SpellsAction.go_on
back_statement Statement.Return u f k = SpellsStatement.action SpellsAction.return
back_statement Statement.Stop u f k = SpellsStatement.action SpellsAction.stop
back_statement Statement.Trap u f k = cc
back_statement Statement.End u f k = SpellsStatement.end
