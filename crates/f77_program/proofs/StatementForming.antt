-- Some text spells a statement exactly where the statement is formed.
use Rattle.f77_program.proofs.Common.{◌≡◌, [], ◌++◌, ◌∙◌, List, map, sym, ◌∷◌, refl, subst, ℕ, true, Bool, arith, codes, false, None, length, ◌&&◌, Option}
use Rattle.f77_program.proofs.Common.{Some, nat_le, option_map, ◌≤◌, leb-true, true≢false, le-leb, length-decimal-le, decimal, list_all, is_action, all_formed}
use Rattle.f77_program.proofs.Common.{formed, declaration_formed, statement_formed, value_formed, and_true, all_bounded, is_name, is_number, has_items, Joined}
use Rattle.f77_program.proofs.Common.{is_symbolic, statement_names, Statement, SpellsStatement, tree_in_text, IsFormed, kind_keyword, SpellsAction, SpellsLabel}
use Rattle.f77_program.proofs.Common.{in_text, label_number, label_in_text, Tree, Trees}
use Rattle.f77_program.proofs.Back.{own_low, decimal_number}
use Rattle.f77_program.proofs.Forming.{tree_formed, reference_name, reference_items, tree_in_text_formed, trees_in_text_formed, text_for, reference_for}
use Rattle.f77_program.proofs.DeclarationForms.{declaration_is_formed, declaration_spelled}
use Rattle.f77_program.proofs.DataForms.{data_is_formed, data_spelled}
use Rattle.f77_program.proofs.SymbolicNames.{symbolic_statement}

spelled_items : {A : Type 0} {SpellsItem : List ℕ → A → Type 0} {text : List ℕ} {xs : List A} → Joined SpellsItem text xs → has_items xs ≡ true
spelled_items (Joined.last h) = refl
spelled_items (Joined.more h k) = refl

spelled_action : {text : List ℕ} {s : Statement} → SpellsAction text s → (is_action s ≡ true) × (statement_formed is_name s ≡ true)
spelled_action (SpellsAction.assign r p) = (refl, rw (reference_name r, reference_items r, tree_formed p) refl)
spelled_action (SpellsAction.go_to row n) = (refl, refl)
spelled_action (SpellsAction.computed_go_to comma p q) = (refl, rw (spelled_items p, tree_formed q) refl)
spelled_action (SpellsAction.arithmetic_if l m n p h i j) = (refl, tree_formed p)
spelled_action SpellsAction.go_on = (refl, refl)
spelled_action SpellsAction.return = (refl, refl)
spelled_action SpellsAction.stop = (refl, refl)

spelled_formed : {text : List ℕ} {s : Statement} → SpellsStatement text s → statement_formed is_name s ≡ true
spelled_formed (SpellsStatement.action p) = (spelled_action p).1
spelled_formed (SpellsStatement.subroutine n) = rw n refl
spelled_formed (SpellsStatement.subroutine_of names n h) = rw (n, h) refl
spelled_formed (SpellsStatement.declare kind p) = declaration_is_formed p
spelled_formed (SpellsStatement.dimension p h) = rw (declaration_is_formed p, h) refl
spelled_formed (SpellsStatement.preset p) = data_is_formed p
spelled_formed (SpellsStatement.logical_if p q) = let (is, inner) = spelled_action q in rw (tree_formed p, is, inner) refl
spelled_formed (SpellsStatement.block_if p) = tree_formed p
spelled_formed (SpellsStatement.else_if p) = tree_formed p
spelled_formed SpellsStatement.otherwise = refl
spelled_formed SpellsStatement.end_if = refl
spelled_formed (SpellsStatement.loop row comma h n p q) = rw (n, tree_formed p, tree_formed q) refl
spelled_formed (SpellsStatement.loop_by row comma h n p q r) = rw (n, tree_formed p, tree_formed q, tree_formed r) refl
spelled_formed SpellsStatement.end = refl

step_in_text_formed : (c : Option Tree) → value_formed is_name (option_map tree_in_text c) ≡ value_formed is_name c
step_in_text_formed None = refl
step_in_text_formed (Some t) = tree_in_text_formed t

in_text_action : (s : Statement) → is_action (in_text s) ≡ is_action s
in_text_action (Statement.Subroutine name names) = refl
in_text_action (Statement.Declare kind ds) = refl
in_text_action (Statement.Dimension ds) = refl
in_text_action (Statement.Preset gs) = refl
in_text_action (Statement.Assign name items t) = refl
in_text_action (Statement.Goto label) = refl
in_text_action (Statement.ComputedGoto labels t) = refl
in_text_action (Statement.ArithIf t l m n) = refl
in_text_action (Statement.LogicalIf t s) = refl
in_text_action (Statement.BlockIf t) = refl
in_text_action (Statement.ElseIf t) = refl
in_text_action Statement.Else = refl
in_text_action Statement.EndIf = refl
in_text_action (Statement.Loop label name a b c) = refl
in_text_action Statement.Continue = refl
in_text_action Statement.Return = refl
in_text_action Statement.Stop = refl
in_text_action Statement.Trap = refl
in_text_action Statement.End = refl

in_text_items : (labels : List ℕ) → has_items (map label_in_text labels) ≡ has_items labels
in_text_items [] = refl
in_text_items (label ∷ labels) = refl

in_text_formed : (s : Statement) → statement_formed is_name (in_text s) ≡ statement_formed is_name s
in_text_formed (Statement.Subroutine name names) = refl
in_text_formed (Statement.Declare kind ds) = refl
in_text_formed (Statement.Dimension ds) = refl
in_text_formed (Statement.Preset gs) = refl
in_text_formed (Statement.Assign name items t) = rw (trees_in_text_formed items, tree_in_text_formed t) refl
in_text_formed (Statement.Goto label) = refl
in_text_formed (Statement.ComputedGoto labels t) = rw (in_text_items labels, tree_in_text_formed t) refl
in_text_formed (Statement.ArithIf t l m n) = tree_in_text_formed t
in_text_formed (Statement.LogicalIf t s) = rw (tree_in_text_formed t, in_text_action s, in_text_formed s) refl
in_text_formed (Statement.BlockIf t) = tree_in_text_formed t
in_text_formed (Statement.ElseIf t) = tree_in_text_formed t
in_text_formed (Statement.Loop label name a b c) = rw (tree_in_text_formed a, tree_in_text_formed b, step_in_text_formed c) refl
in_text_formed _ = refl

-- digits for any label
abbrev pub Row : ℕ → Type 0
Row n = (row : List ℕ) × (is_number row ≡ true) × (label_number row ≡ label_in_text n)

small_label : (n : ℕ) → n ≤ 99999 → Row n
unfolding label_number
small_label n h =
    let short : nat_le (length (decimal n)) 5 ≡ true = le-leb (length (decimal n)) 5 (length-decimal-le 5 n (omega arith) (omega arith) (omega arith)) in
    let d = decimal_number n (omega arith) in
    (decimal n, d.0, rw (short, le-leb n 99999 h) d.1)

large_label : (n : ℕ) → nat_le n 99999 ≡ false → Row n
unfolding label_number
large_label n h = (codes "000000", refl, rw h refl)

label_for : (n : ℕ) → Row n
label_for n = step (nat_le n 99999) refl
  where
    step : (b : Bool) → nat_le n 99999 ≡ b → Row n
    step true e = small_label n (leb-true n 99999 e)
    step false e = large_label n e

spelled_label : (n : ℕ) (r : Row n) → SpellsLabel r.0 (label_in_text n)
spelled_label n (row, is, e) = subst (SpellsLabel row) e (SpellsLabel.digits row is)

-- digits for each of the labels
labels_for : (labels : List ℕ) → has_items labels ≡ true → (text : List ℕ) × Joined SpellsLabel text (map label_in_text labels)
labels_for [] h = cc
labels_for (n ∷ []) h = let r = label_for n in (r.0, Joined.last (spelled_label n r))
labels_for (n ∷ m ∷ labels) h =
    let r = label_for n in let (rest, p) = labels_for (m ∷ labels) refl in (r.0 ++ (44 ∷ rest), Joined.more (spelled_label n r) p)

abbrev pub IsAction : Statement → Type 0
IsAction s = (text : List ℕ) × SpellsAction text s

goto_for : (label : ℕ) → IsAction (Statement.Goto (label_in_text label))
goto_for label = let (row, is, e) = label_for label in (codes "GOTO" ++ row, subst (λ z. SpellsAction (codes "GOTO" ++ row) (Statement.Goto z)) e (SpellsAction.go_to row is))

computed_for : (labels : List ℕ) (t : Tree) → statement_formed is_name (Statement.ComputedGoto labels t) ≡ true → IsAction (in_text (Statement.ComputedGoto labels t))
computed_for labels t f =
    let (some, value) = and_true (has_items labels) (formed is_name t) f in
    let (x, p) = labels_for labels some in
    let (y, q) = text_for t value in
    (codes "GOTO(" ++ (x ++ (41 ∷ (44 ∷ y))), SpellsAction.computed_go_to true p (q 1 (own_low (tree_in_text t))))

assign_for : (name : List ℕ) (items : Trees) (t : Tree) → statement_formed is_name (Statement.Assign name items t) ≡ true → IsAction (in_text (Statement.Assign name items t))
assign_for name items t f =
    let (is, rest) = and_true (is_name name) (all_formed is_name items && formed is_name t) f in
    let (all, value) = and_true (all_formed is_name items) (formed is_name t) rest in
    let (x, p) = reference_for items name is all in
    let (y, q) = text_for t value in
    (x ++ (61 ∷ y), SpellsAction.assign p (q 1 (own_low (tree_in_text t))))

arithmetic_for : (t : Tree) (l m n : ℕ) → formed is_name t ≡ true → IsAction (in_text (Statement.ArithIf t l m n))
arithmetic_for t l m n f =
    let (x, p) = text_for t f in
    let (i, one, first) = label_for l in
    let (j, two, second) = label_for m in
    let (k, three, third) = label_for n in
    let r = SpellsAction.arithmetic_if i j k (p 1 (own_low (tree_in_text t))) one two three in
    (codes "IF(" ++ (x ++ (41 ∷ (i ++ (44 ∷ (j ++ (44 ∷ k)))))), rw (first, second, third) at r)

action_for : (s : Statement) → is_action s ≡ true → statement_formed is_name s ≡ true → IsAction (in_text s)
action_for (Statement.Subroutine name names) i f = cc
action_for (Statement.Declare kind ds) i f = cc
action_for (Statement.Dimension ds) i f = cc
action_for (Statement.Preset gs) i f = cc
action_for (Statement.Assign name items t) i f = assign_for name items t f
action_for (Statement.Goto label) i f = goto_for label
action_for (Statement.ComputedGoto labels t) i f = computed_for labels t f
action_for (Statement.ArithIf t l m n) i f = arithmetic_for t l m n f
action_for (Statement.LogicalIf t s) i f = cc
action_for (Statement.BlockIf t) i f = cc
action_for (Statement.ElseIf t) i f = cc
action_for Statement.Else i f = cc
action_for Statement.EndIf i f = cc
action_for (Statement.Loop label name a b c) i f = cc
action_for Statement.Continue i f = (codes "CONTINUE", SpellsAction.go_on)
action_for Statement.Return i f = (codes "RETURN", SpellsAction.return)
action_for Statement.Stop i f = (codes "STOP", SpellsAction.stop)
action_for Statement.Trap i f = (codes "CONTINUE", SpellsAction.go_on)
action_for Statement.End i f = cc

as_statement : (s : Statement) → IsAction s → (text : List ℕ) × SpellsStatement text s
as_statement s p = (p.0, SpellsStatement.action p.1)

-- some text spells the statement, where names may have any length
abbrev IsSpelled : Statement → Type 0
IsSpelled s = (text : List ℕ) × SpellsStatement text (in_text s)

loop_for : (label : ℕ) (name : List ℕ) (a b : Tree) (c : Option Tree) → is_name name ≡ true → formed is_name a ≡ true → formed is_name b ≡ true → value_formed is_name c ≡ true
    → IsSpelled (Statement.Loop label name a b c)
loop_for label name a b None n f g h =
    let (x, p) = text_for a f in
    let (y, q) = text_for b g in
    let (row, is, e) = label_for label in
    let r = SpellsStatement.loop {name = name} row false is n (p 1 (own_low (tree_in_text a))) (q 1 (own_low (tree_in_text b))) in
    (codes "DO" ++ (row ++ (name ++ (61 ∷ (x ++ (44 ∷ y))))), rw e at r)
loop_for label name a b (Some c) n f g h =
    let (x, p) = text_for a f in
    let (y, q) = text_for b g in
    let (z, r) = text_for c h in
    let (row, is, e) = label_for label in
    let s = SpellsStatement.loop_by {name = name} row false is n (p 1 (own_low (tree_in_text a))) (q 1 (own_low (tree_in_text b))) (r 1 (own_low (tree_in_text c))) in
    (codes "DO" ++ (row ++ (name ++ (61 ∷ (x ++ (44 ∷ (y ++ (44 ∷ z))))))), rw e at s)

named_spelled : (s : Statement) → statement_formed is_name s ≡ true → IsSpelled s
named_spelled (Statement.Subroutine name []) f = (codes "SUBROUTINE" ++ name, SpellsStatement.subroutine (and_true (is_name name) true f).0)
named_spelled (Statement.Subroutine name (n ∷ names)) f =
    let (first, others) = and_true (is_name name) (list_all is_name (n ∷ names)) f in (_, SpellsStatement.subroutine_of (n ∷ names) first others)
named_spelled (Statement.Declare kind ds) f = let (text, p) = declaration_spelled ds f in (kind_keyword kind ++ text, SpellsStatement.declare kind p)
named_spelled (Statement.Dimension ds) f =
    let (formed, bounded) = and_true (declaration_formed is_name ds) (all_bounded ds) f in
    let (text, p) = declaration_spelled ds formed in
    (codes "DIMENSION" ++ text, SpellsStatement.dimension p bounded)
named_spelled (Statement.Preset gs) f = let (text, p) = data_spelled gs f in (codes "DATA" ++ text, SpellsStatement.preset p)
named_spelled (Statement.Assign name items t) f = as_statement (in_text (Statement.Assign name items t)) (assign_for name items t f)
named_spelled (Statement.Goto label) f = as_statement (Statement.Goto (label_in_text label)) (goto_for label)
named_spelled (Statement.ComputedGoto labels t) f = as_statement (in_text (Statement.ComputedGoto labels t)) (computed_for labels t f)
named_spelled (Statement.ArithIf t l m n) f = as_statement (in_text (Statement.ArithIf t l m n)) (arithmetic_for t l m n f)
named_spelled (Statement.LogicalIf t s) f =
    let (test, rest) = and_true (formed is_name t) (is_action s && statement_formed is_name s) f in
    let (is, inner) = and_true (is_action s) (statement_formed is_name s) rest in
    let (x, p) = text_for t test in
    let (y, q) = action_for s is inner in
    (codes "IF(" ++ (x ++ (41 ∷ y)), SpellsStatement.logical_if (p 1 (own_low (tree_in_text t))) q)
named_spelled (Statement.BlockIf t) f = let (x, p) = text_for t f in (codes "IF(" ++ (x ++ codes ")THEN"), SpellsStatement.block_if (p 1 (own_low (tree_in_text t))))
named_spelled (Statement.ElseIf t) f = let (x, p) = text_for t f in (codes "ELSEIF(" ++ (x ++ codes ")THEN"), SpellsStatement.else_if (p 1 (own_low (tree_in_text t))))
named_spelled Statement.Else f = (codes "ELSE", SpellsStatement.otherwise)
named_spelled Statement.EndIf f = (codes "ENDIF", SpellsStatement.end_if)
named_spelled (Statement.Loop label name a b c) f =
    let (is, rest) = and_true (is_name name) (formed is_name a && (formed is_name b && value_formed is_name c)) f in
    let (first, others) = and_true (formed is_name a) (formed is_name b && value_formed is_name c) rest in
    let (second, third) = and_true (formed is_name b) (value_formed is_name c) others in
    loop_for label name a b c is first second third
named_spelled Statement.Continue f = (codes "CONTINUE", SpellsStatement.action SpellsAction.go_on)
named_spelled Statement.Return f = (codes "RETURN", SpellsStatement.action SpellsAction.return)
named_spelled Statement.Stop f = (codes "STOP", SpellsStatement.action SpellsAction.stop)
named_spelled Statement.Trap f = (codes "CONTINUE", SpellsStatement.action SpellsAction.go_on)
named_spelled Statement.End f = (codes "END", SpellsStatement.end)

pub formed_spelled : (s : Statement) → statement_formed is_symbolic s ≡ true → IsFormed s
formed_spelled s f =
    let (named, short) = and_true (statement_formed is_name s) (statement_names s) (sym (symbolic_statement s).is ∙ f) in
    let (text, spells) = named_spelled s named in (text, spells, short)

-- a statement that some text spells is formed, where names may have any length
pub is_formed : (s : Statement) → IsFormed s → statement_formed is_name s ≡ true
is_formed s f = sym (in_text_formed s) ∙ spelled_formed f.1

pub is_symbolic_formed : (s : Statement) → IsFormed s → statement_formed is_symbolic s ≡ true
is_symbolic_formed s f = rw ((symbolic_statement s).is, is_formed s f, f.2) refl

pub spelled_is_formed : {text : List ℕ} {s : Statement} → SpellsStatement text s → statement_names s ≡ true → IsFormed s
spelled_is_formed {s = s} p n = formed_spelled s (rw ((symbolic_statement s).is, spelled_formed p, n) refl)

pub not_formed : (s : Statement) → statement_formed is_symbolic s ≡ false → ¬ (IsFormed s)
not_formed s e f = true≢false (sym (is_symbolic_formed s f) ∙ e)
