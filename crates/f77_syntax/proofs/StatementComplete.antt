-- A statement that is spelled is read so, and a text spells at most one statement.
use Rattle.f77_syntax.proofs.Common.{refl, ◌∙◌, sym, ap, ◌≡◌, List, ℕ, true, [], ◌∷◌, Some, None, false, length, arith, subst, ◌++◌, Bool, ◌==◌, append_assoc}
use Rattle.f77_syntax.proofs.Common.{codes, inr, inl, append-nil, nat_tests, list_any-append, none-some, same_Some, bytes_eq-Decides, list_all, list_any}
use Rattle.f77_syntax.proofs.Common.{join_with_byte, bytes_eq, class_of, begins_if, begins_with, statement_class, tree_after, reading, name_at, past_comma}
use Rattle.f77_syntax.proofs.Common.{names_at, reference_at, simple_action_at, statement_at, word_statement, action_at, arithmetic_at, assign_at, begins_digit}
use Rattle.f77_syntax.proofs.Common.{branch_at, condition_at, control_at, dummies_at, else_at, loop_at, simple_at, step_at, subroutine_at, keyword_at}
use Rattle.f77_syntax.proofs.Common.{parameters_at, Keyword, and_true, name_words, SpellsGroups, SpellsName, all_bounded, SpellsDecls, is_name, is_number}
use Rattle.f77_syntax.proofs.Common.{is_digit, Spells, SpellsReference, is_word, is_letter, Joined, Statement, label_number, SpellsStatement, optional_comma}
use Rattle.f77_syntax.proofs.Common.{SpellsAction, kind_keyword, Tree, Trees, GroupFields, DeclFields}
use Rattle.f77_tree.specs.declared.tree.Kind.{Kind}
use Rattle.f77_tree.specs.declared.tree.Kind.TheVariants.{Integer, Logical}
use Rattle.f77_syntax.proofs.JoinedTexts.{items_read, joined_no_equals}
use Rattle.f77_syntax.proofs.Complete.{complete, complete_all, operand_read, ends_item, whole, whole_read}
use Rattle.f77_syntax.proofs.Outside.{pass, no_equals_sign, if_class, assign_class, loop_class, keyword_class, equals_other}
use Rattle.f77_syntax.proofs.WordTexts.{is_equals, words_no_equals, BeginsLetter, name_begins, names_begin, letter_no_comma}
use Rattle.f77_syntax.proofs.Steps.{name_found}
use Rattle.f77_syntax.proofs.LabelTexts.{EndsDigits, label_read, last_label_read, label_comma_read}
use Rattle.f77_syntax.proofs.GotoTexts.{goto_read, goto_class, computed_read, computed_class}
use Rattle.f77_syntax.proofs.DeclarationTexts.{name_read, name_no_equals, declarations_read, declaration_no_equals}
use Rattle.f77_syntax.proofs.DataTexts.{groups_read, data_no_equals}

-- names joined by commas
names_spelled : (n : List ℕ) (names : List (List ℕ)) → list_all is_name (n ∷ names) ≡ true → Joined SpellsName (join_with_byte 44 (n ∷ names)) (n ∷ names)
names_spelled n [] h = Joined.last (SpellsName.named (and_true (is_name n) true h).0)
names_spelled n (m ∷ names) h =
    let (first, others) = and_true (is_name n) (list_all is_name (m ∷ names)) h in Joined.more (SpellsName.named first) (names_spelled m names others)

names_no_equals : (names : List (List ℕ)) → list_all is_name names ≡ true → list_any is_equals (join_with_byte 44 names) ≡ false
names_no_equals [] h = refl
names_no_equals (n ∷ names) h = joined_no_equals name_no_equals (names_spelled n names h)

not_close : (s : List ℕ) → BeginsLetter s → tree_after 41 s ≡ None
not_close [] l = absurd l
not_close (c ∷ s) l = let other : (c == 41) ≡ false = grind (arith, nat_tests) in rw other refl

dummies_read : (names : List (List ℕ)) → list_all is_name names ≡ true → dummies_at (join_with_byte 44 names ++ 41 ∷ []) ≡ Some (names, [])
unfolding dummies_at names_at
dummies_read [] h = refl
dummies_read (n ∷ names) h =
    let p = names_spelled n names h in
    rw (not_close (join_with_byte 44 (n ∷ names) ++ 41 ∷ []) (names_begin p (41 ∷ [])), items_read name_at name_read p (41 ∷ []) refl refl) refl

not_empty : (c : ℕ) (s : List ℕ) → (length (c ∷ s) == 0) ≡ false
not_empty c s = grind (arith, nat_tests)

-- a name at the front
subroutine_read : (name : List ℕ) → is_name name ≡ true → subroutine_at name ≡ Some (Statement.Subroutine name [])
unfolding subroutine_at
subroutine_read name n =
    let read : name_at name ≡ Some (name, []) = ap name_at (sym (append-nil name)) ∙ name_found name [] n tt in rw read refl

subroutine_of_read : (name : List ℕ) (names : List (List ℕ)) → is_name name ≡ true → list_all is_name names ≡ true
    → subroutine_at (name ++ (40 ∷ (join_with_byte 44 names ++ 41 ∷ []))) ≡ Some (Statement.Subroutine name names)
unfolding subroutine_at
subroutine_of_read name names n all =
    rw (name_found name (40 ∷ (join_with_byte 44 names ++ 41 ∷ [])) n refl, not_empty 40 (join_with_byte 44 names ++ 41 ∷ []), dummies_read names all) refl

-- a reference before an equals sign
reference_read : {x name : List ℕ} {items : Trees} → SpellsReference x name items → (y : List ℕ) → reference_at (x ++ (61 ∷ y)) ≡ Some (name, items, 61 ∷ y)
unfolding reference_at
reference_read (SpellsReference.scalar {name = name} n) y =
    rw (name_found name (61 ∷ y) n refl) refl
reference_read (SpellsReference.element {name = name} {text = text} {items = items} n l) y =
    let shape : (name ++ (40 ∷ (text ++ 41 ∷ []))) ++ (61 ∷ y) ≡ name ++ (40 ∷ (text ++ (41 ∷ (61 ∷ y)))) =
    append_assoc name (40 ∷ (text ++ 41 ∷ [])) (61 ∷ y) ∙ ap (λ z. name ++ (40 ∷ z)) (append_assoc text (41 ∷ []) (61 ∷ y)) in
    rw (shape, name_found name (40 ∷ (text ++ (41 ∷ (61 ∷ y)))) n refl, complete_all l (61 ∷ y)) refl

assign_read : {x name : List ℕ} {items : Trees} → SpellsReference x name items → {y : List ℕ} {t : Tree} → Spells 1 y t → assign_at (x ++ (61 ∷ y)) ≡ Some (Statement.Assign name items t)
unfolding assign_at
assign_read r {y = y} p = rw (reference_read r y, whole p) refl

-- labels
arithmetic_read : (t : Tree) (l m n : List ℕ) → is_number l ≡ true → is_number m ≡ true → is_number n ≡ true
    → arithmetic_at t (l ++ (44 ∷ (m ++ (44 ∷ n)))) ≡ Some (Statement.ArithIf t (label_number l) (label_number m) (label_number n))
unfolding arithmetic_at
arithmetic_read t l m n h i j = rw (label_comma_read l (m ++ (44 ∷ n)) h, label_comma_read m n i, last_label_read n j) refl

-- conditions
condition_read : {x : List ℕ} {t : Tree} → Spells 1 x t → (rest : List ℕ) → condition_at (codes "IF(" ++ (x ++ (41 ∷ rest))) ≡ Some (t, rest)
unfolding condition_at
condition_read p rest = rw (operand_read 1 (complete (omega arith) p) (41 ∷ rest) (ends_item 41 rest (inl refl))) refl

-- a row of digits begins with no equals sign
row_begins : (row rest : List ℕ) → is_number row ≡ true → (begins_with 61 (row ++ rest) ≡ false) × (begins_digit (row ++ rest) ≡ true)
row_begins [] rest n = cc
row_begins (c ∷ row) rest n =
    let (first, others) = and_true (is_digit c) (list_all is_digit row) n in
    let other : (c == 61) ≡ false = grind (arith, nat_tests) in
    (other, first)

-- a statement that may stand in a logical IF begins with a letter
reference_begins : {x name : List ℕ} {items : Trees} → SpellsReference x name items → (rest : List ℕ) → BeginsLetter (x ++ rest)
reference_begins (SpellsReference.scalar {name = name} n) rest = name_begins name rest n
reference_begins (SpellsReference.element {name = name} {text = text} n l) rest =
    subst BeginsLetter (sym (append_assoc name (40 ∷ (text ++ 41 ∷ [])) rest)) (name_begins name ((40 ∷ (text ++ 41 ∷ [])) ++ rest) n)

action_begins : {s : List ℕ} {u : Statement} → SpellsAction s u → BeginsLetter s
action_begins (SpellsAction.assign {y = y} r p) = reference_begins r (61 ∷ y)
action_begins _ = refl

letter_begins : (s : List ℕ) → BeginsLetter s → (begins_with 61 s ≡ false) × (begins_digit s ≡ false)
letter_begins [] l = absurd l
letter_begins (c ∷ s) l = (grind (arith, nat_tests), grind (arith, nat_tests))

action_read : {s : List ℕ} {u : Statement} → SpellsAction s u → action_at s ≡ Some u
unfolding action_at simple_action_at class_of begins_if simple_at word_statement
action_read (SpellsAction.assign r p) = rw (assign_class r p) (assign_read r p)
action_read (SpellsAction.go_to row n) = rw (goto_class row n, goto_read row n) refl
action_read (SpellsAction.computed_go_to comma l p) = rw (computed_class comma l p, computed_read comma l p) refl
action_read (SpellsAction.arithmetic_if l m n p h i j) =
    rw (if_class p (l ++ (44 ∷ (m ++ (44 ∷ n)))) (row_begins l (44 ∷ (m ++ (44 ∷ n))) h).0, condition_read p (l ++ (44 ∷ (m ++ (44 ∷ n))))) (arithmetic_read _ l m n h i j)
action_read SpellsAction.go_on = refl
action_read SpellsAction.return = refl
action_read SpellsAction.stop = refl

-- no statement that may stand in a logical IF is the word THEN
then_none : action_at (codes "THEN") ≡ None
unfolding action_at simple_action_at class_of begins_if simple_at word_statement
then_none = refl

not_then : {s : List ℕ} {u : Statement} → SpellsAction s u → bytes_eq s (codes "THEN") ≡ false
not_then {s = s} {u = u} p = step (bytes_eq s (codes "THEN")) refl
  where
    step : (b : Bool) → bytes_eq s (codes "THEN") ≡ b → b ≡ false
    step false e = refl
    step true e =
        let same : s ≡ codes "THEN" = (bytes_eq-Decides s (codes "THEN")).0 e in
        absurd (none-some u (sym then_none ∙ ap action_at (sym same) ∙ action_read p))

logical_read : {s : List ℕ} {u : Statement} (t : Tree) → SpellsAction s u → branch_at t s ≡ Some (Statement.LogicalIf t u)
unfolding branch_at
logical_read {s = s} t p = rw (not_then p, (letter_begins s (action_begins p)).1, action_read p) refl

arithmetic_branch : (t : Tree) (l m n : List ℕ) → is_number l ≡ true → is_number m ≡ true → is_number n ≡ true
    → branch_at t (l ++ (44 ∷ (m ++ (44 ∷ n)))) ≡ Some (Statement.ArithIf t (label_number l) (label_number m) (label_number n))
unfolding branch_at
arithmetic_branch t l m n h i j =
    let begins = (row_begins l (44 ∷ (m ++ (44 ∷ n))) h).1 in
    rw (step (bytes_eq (l ++ (44 ∷ (m ++ (44 ∷ n)))) (codes "THEN")) refl, begins) (arithmetic_read t l m n h i j)
  where
    step : (b : Bool) → bytes_eq (l ++ (44 ∷ (m ++ (44 ∷ n)))) (codes "THEN") ≡ b → b ≡ false
    step false e = refl
    step true e =
        let same : l ++ (44 ∷ (m ++ (44 ∷ n))) ≡ codes "THEN" = (bytes_eq-Decides (l ++ (44 ∷ (m ++ (44 ∷ n)))) (codes "THEN")).0 e in
        let wrong : begins_digit (codes "THEN") ≡ true = ap begins_digit (sym same) ∙ (row_begins l (44 ∷ (m ++ (44 ∷ n))) h).1 in cc

-- ELSE IF
else_if_read : {x : List ℕ} {t : Tree} → Spells 1 x t → statement_at (codes "ELSEIF(" ++ (x ++ codes ")THEN")) ≡ Some (Statement.ElseIf t)
unfolding statement_at keyword_at else_at
else_if_read {x = x} p =
    let class : class_of (codes "ELSEIF(" ++ (x ++ codes ")THEN")) ≡ Keyword = keyword_class (codes "ELSEIF(" ++ (x ++ codes ")THEN")) refl (pass 61 refl equals_other p (codes ")THEN") 1) in
    rw (class, not_empty 73 (codes "F(" ++ (x ++ codes ")THEN")), condition_read p (codes "THEN")) refl

-- DO
past_optional : (comma : Bool) (name rest : List ℕ) → is_name name ≡ true → past_comma (optional_comma comma ++ (name ++ rest)) ≡ name ++ rest
past_optional true name rest n = refl
past_optional false name rest n = rw (letter_no_comma (name ++ rest) (name_begins name rest n)) refl

ends_row : (comma : Bool) (name rest : List ℕ) → is_name name ≡ true → EndsDigits (optional_comma comma ++ (name ++ rest))
ends_row true name rest n = refl
ends_row false [] rest n = cc
ends_row false (c ∷ name) rest n = let l = (and_true (is_letter c) (list_all is_word name) n).0 in grind (arith, nat_tests)

control_read : (row name rest : List ℕ) (comma : Bool) → is_number row ≡ true → is_name name ≡ true
    → control_at (row ++ (optional_comma comma ++ (name ++ (61 ∷ rest)))) ≡ Some (label_number row, name, rest)
unfolding control_at
control_read row name rest comma n m =
    rw (
      label_read row (optional_comma comma ++ (name ++ (61 ∷ rest))) n (ends_row comma name (61 ∷ rest) m),
      past_optional comma name (61 ∷ rest) m,
      name_found name (61 ∷ rest) m refl,
    ) refl

before_comma : {x : List ℕ} {t : Tree} → Spells 1 x t → (rest : List ℕ) → reading.expr 1 (x ++ (44 ∷ rest)) ≡ Some (t, 44 ∷ rest)
before_comma p rest = operand_read 1 (complete (omega arith) p) (44 ∷ rest) (ends_item 44 rest (inr refl))

parameters_read : {x y : List ℕ} {a b : Tree} (label : ℕ) (name : List ℕ) → Spells 1 x a → Spells 1 y b → parameters_at label name (x ++ (44 ∷ y)) ≡ Some (Statement.Loop label name a b None)
unfolding step_at
parameters_read {y = y} label name p q = rw (before_comma p y, whole_read q) refl

parameters_by : {x y z : List ℕ} {a b c : Tree} (label : ℕ) (name : List ℕ) → Spells 1 x a → Spells 1 y b → Spells 1 z c
    → parameters_at label name (x ++ (44 ∷ (y ++ (44 ∷ z)))) ≡ Some (Statement.Loop label name a b (Some c))
unfolding step_at
parameters_by {y = y} {z = z} label name p q r = rw (before_comma p (y ++ (44 ∷ z)), before_comma q z, not_empty 44 z, whole r) refl

loop_read : {x y : List ℕ} {a b : Tree} (row name : List ℕ) (comma : Bool) → is_number row ≡ true → is_name name ≡ true → Spells 1 x a → Spells 1 y b
    → statement_at (codes "DO" ++ (row ++ (optional_comma comma ++ (name ++ (61 ∷ (x ++ (44 ∷ y))))))) ≡ Some (Statement.Loop (label_number row) name a b None)
unfolding statement_at loop_at
loop_read {x = x} {y = y} row name comma n m p q =
    rw (loop_class row name y comma n m p, control_read row name (x ++ (44 ∷ y)) comma n m) (parameters_read (label_number row) name p q)

loop_by_read : {x y z : List ℕ} {a b c : Tree} (row name : List ℕ) (comma : Bool) → is_number row ≡ true → is_name name ≡ true → Spells 1 x a → Spells 1 y b → Spells 1 z c
    → statement_at (codes "DO" ++ (row ++ (optional_comma comma ++ (name ++ (61 ∷ (x ++ (44 ∷ (y ++ (44 ∷ z))))))))) ≡ Some (Statement.Loop (label_number row) name a b (Some c))
unfolding statement_at loop_at
loop_by_read {x = x} {y = y} {z = z} row name comma n m p q r =
    rw (loop_class row name (y ++ (44 ∷ z)) comma n m p, control_read row name (x ++ (44 ∷ (y ++ (44 ∷ z)))) comma n m) (parameters_by (label_number row) name p q r)

-- SUBROUTINE
subroutine_whole_read : (s : List ℕ) (u : Statement) → list_any is_equals s ≡ false → subroutine_at s ≡ Some u → statement_at (codes "SUBROUTINE" ++ s) ≡ Some u
unfolding statement_at keyword_at
subroutine_whole_read s u h e =
    let class : class_of (codes "SUBROUTINE" ++ s) ≡ Keyword = keyword_class (codes "SUBROUTINE" ++ s) refl (no_equals_sign (codes "SUBROUTINE" ++ s) 0 h) in
    rw class e

arguments_no_equals : (name : List ℕ) (names : List (List ℕ)) → is_name name ≡ true → list_all is_name names ≡ true
    → list_any is_equals (name ++ (40 ∷ (join_with_byte 44 names ++ 41 ∷ []))) ≡ false
arguments_no_equals name names n all =
    list_any-append is_equals name (40 ∷ (join_with_byte 44 names ++ 41 ∷ []))
    ∙ rw (words_no_equals name (name_words name n), list_any-append is_equals (join_with_byte 44 names) (41 ∷ []), names_no_equals names all) refl

-- declarations and DATA
declare_class : (kind : Kind) {text : List ℕ} {ds : List DeclFields} → SpellsDecls text ds → class_of (kind_keyword kind ++ text) ≡ Keyword
declare_class Integer {text = text} p = keyword_class (codes "INTEGER" ++ text) refl (no_equals_sign (codes "INTEGER" ++ text) 0 (declaration_no_equals p))
declare_class Logical {text = text} p = keyword_class (codes "LOGICAL" ++ text) refl (no_equals_sign (codes "LOGICAL" ++ text) 0 (declaration_no_equals p))

dimension_class : {text : List ℕ} {ds : List DeclFields} → SpellsDecls text ds → class_of (codes "DIMENSION" ++ text) ≡ Keyword
dimension_class {text = text} p = keyword_class (codes "DIMENSION" ++ text) refl (no_equals_sign (codes "DIMENSION" ++ text) 0 (declaration_no_equals p))

preset_class : {text : List ℕ} {gs : List GroupFields} → SpellsGroups text gs → class_of (codes "DATA" ++ text) ≡ Keyword
preset_class {text = text} p = keyword_class (codes "DATA" ++ text) refl (no_equals_sign (codes "DATA" ++ text) 0 (data_no_equals p))

declare_read : (kind : Kind) {text : List ℕ} {ds : List DeclFields} → SpellsDecls text ds → statement_at (kind_keyword kind ++ text) ≡ Some (Statement.Declare kind ds)
unfolding statement_at keyword_at
declare_read Integer p = rw (declare_class Integer p, declarations_read p) refl
declare_read Logical p = rw (declare_class Logical p, declarations_read p) refl

dimension_read : {text : List ℕ} {ds : List DeclFields} → SpellsDecls text ds → all_bounded ds ≡ true → statement_at (codes "DIMENSION" ++ text) ≡ Some (Statement.Dimension ds)
unfolding statement_at keyword_at
dimension_read p h = rw (dimension_class p, declarations_read p, h) refl

preset_read : {text : List ℕ} {gs : List GroupFields} → SpellsGroups text gs → statement_at (codes "DATA" ++ text) ≡ Some (Statement.Preset gs)
unfolding statement_at keyword_at
preset_read p = rw (preset_class p, groups_read p) refl

-- a statement that may stand in a logical IF, by itself
alone_read : {s : List ℕ} {u : Statement} → SpellsAction s u → statement_at s ≡ Some u
unfolding statement_at keyword_at class_of begins_if simple_at word_statement
alone_read (SpellsAction.assign r p) = rw (assign_class r p) (assign_read r p)
alone_read (SpellsAction.go_to row n) = rw (goto_class row n, goto_read row n) refl
alone_read (SpellsAction.computed_go_to comma l p) = rw (computed_class comma l p, computed_read comma l p) refl
alone_read (SpellsAction.arithmetic_if l m n p h i j) =
    rw (if_class p (l ++ (44 ∷ (m ++ (44 ∷ n)))) (row_begins l (44 ∷ (m ++ (44 ∷ n))) h).0, condition_read p (l ++ (44 ∷ (m ++ (44 ∷ n))))) (arithmetic_branch _ l m n h i j)
alone_read SpellsAction.go_on = refl
alone_read SpellsAction.return = refl
alone_read SpellsAction.stop = refl

-- what is spelled is read
pub statement_read : {s : List ℕ} {u : Statement} → SpellsStatement s u → statement_at s ≡ Some u
unfolding statement_at keyword_at else_at class_of begins_if simple_at word_statement branch_at
statement_read (SpellsStatement.action p) = alone_read p
statement_read (SpellsStatement.subroutine {name = name} n) =
    subroutine_whole_read name (Statement.Subroutine name []) (words_no_equals name (name_words name n)) (subroutine_read name n)
statement_read (SpellsStatement.subroutine_of {name = name} names n all) =
    subroutine_whole_read (name ++ (40 ∷ (join_with_byte 44 names ++ 41 ∷ []))) (Statement.Subroutine name names) (arguments_no_equals name names n all) (subroutine_of_read name names n all)
statement_read (SpellsStatement.declare kind p) = declare_read kind p
statement_read (SpellsStatement.dimension p h) = dimension_read p h
statement_read (SpellsStatement.preset p) = preset_read p
statement_read (SpellsStatement.logical_if {y = y} {t = t} p q) = rw (if_class p y (letter_begins y (action_begins q)).0, condition_read p y) (logical_read t q)
statement_read (SpellsStatement.block_if p) = rw (if_class p (codes "THEN") refl, condition_read p (codes "THEN")) refl
statement_read (SpellsStatement.else_if p) = else_if_read p
statement_read SpellsStatement.otherwise = refl
statement_read SpellsStatement.end_if = refl
statement_read (SpellsStatement.loop {name = name} row comma n m p q) = loop_read row name comma n m p q
statement_read (SpellsStatement.loop_by {name = name} row comma n m p q r) = loop_by_read row name comma n m p q r
statement_read SpellsStatement.end = refl

-- a text spells at most one statement
pub one_statement : {s : List ℕ} {t u : Statement} → SpellsStatement s t → SpellsStatement s u → t ≡ u
one_statement {t = t} {u = u} p q = same_Some t u (sym (statement_read p) ∙ statement_read q)

-- the class of a text is that of the statement that it spells
action_class : {s : List ℕ} {u : Statement} → SpellsAction s u → class_of s ≡ statement_class u
unfolding class_of begins_if
action_class (SpellsAction.assign r p) = assign_class r p
action_class (SpellsAction.go_to row n) = goto_class row n
action_class (SpellsAction.computed_go_to comma l p) = computed_class comma l p
action_class (SpellsAction.arithmetic_if l m n p h i j) = if_class p (l ++ (44 ∷ (m ++ (44 ∷ n)))) (row_begins l (44 ∷ (m ++ (44 ∷ n))) h).0
action_class SpellsAction.go_on = refl
action_class SpellsAction.return = refl
action_class SpellsAction.stop = refl

pub class_agrees : {s : List ℕ} {u : Statement} → SpellsStatement s u → class_of s ≡ statement_class u
unfolding class_of begins_if
class_agrees (SpellsStatement.action p) = action_class p
class_agrees (SpellsStatement.subroutine {name = name} n) =
    keyword_class (codes "SUBROUTINE" ++ name) refl (no_equals_sign (codes "SUBROUTINE" ++ name) 0 (words_no_equals name (name_words name n)))
class_agrees (SpellsStatement.subroutine_of {name = name} names n all) =
    keyword_class (codes "SUBROUTINE" ++ (name ++ (40 ∷ (join_with_byte 44 names ++ 41 ∷ [])))) refl
    (no_equals_sign (codes "SUBROUTINE" ++ (name ++ (40 ∷ (join_with_byte 44 names ++ 41 ∷ [])))) 0 (arguments_no_equals name names n all))
class_agrees (SpellsStatement.declare kind p) = declare_class kind p
class_agrees (SpellsStatement.dimension p h) = dimension_class p
class_agrees (SpellsStatement.preset p) = preset_class p
class_agrees (SpellsStatement.logical_if {y = y} p q) = if_class p y (letter_begins y (action_begins q)).0
class_agrees (SpellsStatement.block_if p) = if_class p (codes "THEN") refl
class_agrees (SpellsStatement.else_if {x = x} p) = keyword_class (codes "ELSEIF(" ++ (x ++ codes ")THEN")) refl (pass 61 refl equals_other p (codes ")THEN") 1)
class_agrees SpellsStatement.otherwise = refl
class_agrees SpellsStatement.end_if = refl
class_agrees (SpellsStatement.loop {name = name} {y = y} row comma n m p q) = loop_class row name y comma n m p
class_agrees (SpellsStatement.loop_by {name = name} {y = y} {z = z} row comma n m p q r) = loop_class row name (y ++ (44 ∷ z)) comma n m p
class_agrees SpellsStatement.end = refl
