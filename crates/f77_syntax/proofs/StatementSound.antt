-- A statement that is read is spelled so.
use Rattle.f77_syntax.proofs.Common.{refl, ◌∙◌, sym, ap, ◌≡◌, List, ℕ, true, [], ◌∷◌, Some, None, length, subst, Option, ◌++◌, Bool, ◌==◌, codes, inr, cond}
use Rattle.f77_syntax.proofs.Common.{inl, append-nil, ◌⊎◌, eqb-true, nil_from_length, none-some, same_Some, bytes_eq-Decides, list_all, join_with_byte}
use Rattle.f77_syntax.proofs.Common.{bytes_eq, is_action, ◌>>=◌, strip, class_of, tree_after, reading, value_ended, name_at, close_at, past_comma, label_at}
use Rattle.f77_syntax.proofs.Common.{names_at, whole_at, simple_action_at, statement_at, word_statement, action_at, arithmetic_at, begins_digit, branch_at}
use Rattle.f77_syntax.proofs.Common.{condition_at, control_at, declarations_at, dummies_at, else_at, goto_at, groups_at, label_comma, last_label, loop_at}
use Rattle.f77_syntax.proofs.Common.{simple_at, step_at, subroutine_at, behind, keyword_at, parameters_at, action_by, actions_only, arguments_at, data_at}
use Rattle.f77_syntax.proofs.Common.{declared_at, dimension_at, statement_by, Keyword, Assignment, If, Loop, SpellsName, all_bounded, is_name, is_number}
use Rattle.f77_syntax.proofs.Common.{Spells, Joined, Statement, label_number, SpellsStatement, optional_comma, SpellsAction, kind_keyword, Tree}
use Rattle.f77_tree.specs.code.Joined.{some_all}
use Rattle.f77_program.proofs.JoinedForms.{joined_all}
use Rattle.f77_tree.specs.declared.tree.Kind.{Kind}
use Rattle.f77_tree.specs.declared.tree.Kind.TheVariants.{Integer, Logical}
use Rattle.f77_syntax.specs.declared.classification.Class.{Class}
use Rattle.f77_syntax.proofs.Steps.{along, bind_ok, behind_is, chosen, guarded, strip_is, after_is, ended_is, name_front}
use Rattle.f77_syntax.proofs.Sound.{sound_reading, whole_is}
use Rattle.f77_syntax.proofs.LabelTexts.{label_is, last_label_is, label_comma_is, past_comma_is}
use Rattle.f77_syntax.proofs.GotoTexts.{goto_is}
use Rattle.f77_syntax.proofs.DeclarationTexts.{names_is, declarations_is}
use Rattle.f77_syntax.proofs.DataTexts.{groups_is}
use Rattle.f77_syntax.proofs.AssignmentSound.{assign_is}

-- names joined by commas
named : (text name : List ℕ) → SpellsName text name → is_name name ≡ true
named text name (SpellsName.named h) = h

comma_before : (n : List ℕ) (names : List (List ℕ)) → some_all is_name names ≡ true → n ++ (44 ∷ join_with_byte 44 names) ≡ join_with_byte 44 (n ∷ names)
comma_before n [] h = cc
comma_before n (m ∷ names) h = refl

joined_names : {text : List ℕ} {names : List (List ℕ)} → Joined SpellsName text names → (text ≡ join_with_byte 44 names) × (list_all is_name names ≡ true)
joined_names (Joined.last (SpellsName.named h)) = (refl, rw h refl)
joined_names (Joined.more {xs = names} (SpellsName.named {text = n} h) p) =
    let (is, all) = joined_names p in (ap (λ z. n ++ (44 ∷ z)) is ∙ comma_before n names (joined_all is_name named p), rw h all)

dummies_is : (s : List ℕ) (x : List (List ℕ) × List ℕ) → dummies_at s ≡ Some x → (s ≡ join_with_byte 44 x.0 ++ (41 ∷ x.1)) × (list_all is_name x.0 ≡ true)
unfolding dummies_at
dummies_is s x = behind_is (Named x) (tree_after 41 s) (λ r. Some ([], r)) _ x (λ r is e. along Named ([], r) x e (after_is 41 s r is, refl)) some
  where
    Named : List (List ℕ) × List ℕ → Type 0
    Named x = (s ≡ join_with_byte 44 x.0 ++ (41 ∷ x.1)) × (list_all is_name x.0 ≡ true)

    some : (names_at s >>= λ y. close_at y.1 >>= λ r. Some (y.0, r)) ≡ Some x → Named x
    some e =
        let (y, read, more) = bind_ok (names_at s) (λ y. close_at y.1 >>= λ r. Some (y.0, r)) x e in
        let (r, close, end) = bind_ok (close_at y.1) (λ r. Some (y.0, r)) x more in
        let f = names_is s y read in
        let (is, all) = joined_names f.spells in
        along Named (y.0, r) x end (f.is ∙ ap (λ v. v ++ y.1) is ∙ ap (λ v. join_with_byte 44 y.0 ++ v) (after_is 41 y.1 r close), all)

arguments_is : (name s : List ℕ) (u : Statement) → is_name name ≡ true → arguments_at name s ≡ Some u → SpellsStatement (codes "SUBROUTINE" ++ (name ++ s)) u
arguments_is name s u n e = elim (chosen (length s == 0) (Some (Statement.Subroutine name [])) _ (Some u) e) [
  | inl p ↦
      let none : s ≡ [] = nil_from_length s (eqb-true (length s) 0 p.0) in
      along (SpellsStatement (codes "SUBROUTINE" ++ (name ++ s))) (Statement.Subroutine name []) u p.1
      (subst (λ z. SpellsStatement (codes "SUBROUTINE" ++ (name ++ z)) (Statement.Subroutine name [])) (sym none) (rw (append-nil name) (SpellsStatement.subroutine n)))
  | inr p ↦
      let (r, open_at, more) = bind_ok (tree_after 40 s) (λ r. dummies_at r >>= λ x. value_ended (Statement.Subroutine name x.0) x.1) u p.1 in
      let (x, found, end) = bind_ok (dummies_at r) (λ x. value_ended (Statement.Subroutine name x.0) x.1) u more in
      let (same, none) = ended_is (Statement.Subroutine name x.0) x.1 u end in
      let (is, all) = dummies_is r x found in
      let whole : s ≡ 40 ∷ (join_with_byte 44 x.0 ++ 41 ∷ []) = after_is 40 s r open_at ∙ ap (λ v. 40 ∷ v) (is ∙ ap (λ v. join_with_byte 44 x.0 ++ (41 ∷ v)) none) in
      subst (SpellsStatement (codes "SUBROUTINE" ++ (name ++ s))) same
      (subst (λ z. SpellsStatement (codes "SUBROUTINE" ++ (name ++ z)) (Statement.Subroutine name x.0)) (sym whole) (SpellsStatement.subroutine_of x.0 n all))
]

subroutine_is : (s : List ℕ) (u : Statement) → subroutine_at s ≡ Some u → SpellsStatement (codes "SUBROUTINE" ++ s) u
unfolding subroutine_at
subroutine_is s u e =
    let (x, read, rest) = bind_ok (name_at s) (λ x. arguments_at x.0 x.1) u e in
    let (is, n) = name_front s x read in
    subst (λ z. SpellsStatement (codes "SUBROUTINE" ++ z) u) (sym is) (arguments_is x.0 x.1 u n rest)

-- what an arithmetic IF has behind its parentheses
arithmetic_is : (x s : List ℕ) (t : Tree) (u : Statement) → Spells 1 x t → arithmetic_at t s ≡ Some u → SpellsAction (codes "IF(" ++ (x ++ (41 ∷ s))) u
unfolding arithmetic_at
arithmetic_is x s t u p e =
    let (a, first, more) = bind_ok (label_comma s) (λ a. label_comma a.1 >>= λ b. last_label b.1 >>= λ n. Some (Statement.ArithIf t a.0 b.0 n)) u e in
    let (b, second, rest) = bind_ok (label_comma a.1) (λ b. last_label b.1 >>= λ n. Some (Statement.ArithIf t a.0 b.0 n)) u more in
    let (n, third, end) = bind_ok (last_label b.1) (λ n. Some (Statement.ArithIf t a.0 b.0 n)) u rest in
    let f = label_comma_is s a first in
    let g = label_comma_is a.1 b second in
    let h = last_label_is b.1 n third in
    let last : b.1 ≡ h.row = h.is ∙ append-nil h.row in
    let is : s ≡ f.row ++ (44 ∷ (g.row ++ (44 ∷ h.row))) = f.is ∙ ap (λ z. f.row ++ (44 ∷ z)) (g.is ∙ ap (λ z. g.row ++ (44 ∷ z)) last) in
    let made = SpellsAction.arithmetic_if f.row g.row h.row p f.number g.number h.number in
    along (SpellsAction (codes "IF(" ++ (x ++ (41 ∷ s)))) (Statement.ArithIf t a.0 b.0 n) u end
    (subst (λ z. SpellsAction (codes "IF(" ++ (x ++ (41 ∷ z))) (Statement.ArithIf t a.0 b.0 n)) (sym is) (rw (f.value, g.value, h.value) at made))

-- the condition of an IF
pub record FrontsCondition (s : List ℕ) (t : Tree) (rest : List ℕ) : Type 0 where
  pub text : List ℕ
  pub is : s ≡ codes "IF(" ++ (text ++ (41 ∷ rest))
  pub spells : Spells 1 text t

condition_is : (s : List ℕ) (x : Tree × List ℕ) → condition_at s ≡ Some x → FrontsCondition s x.0 x.1
unfolding condition_at
condition_is s x e =
    let (r, front, more) = bind_ok (strip (codes "IF(") s) (λ r. reading.expr 1 r >>= λ y. close_at y.1 >>= λ z. Some (y.0, z)) x e in
    let (y, read, rest) = bind_ok (reading.expr 1 r) (λ y. close_at y.1 >>= λ z. Some (y.0, z)) x more in
    let (z, close, end) = bind_ok (close_at y.1) (λ z. Some (y.0, z)) x rest in
    let f = sound_reading.expr 1 r y read in
    along (λ w. FrontsCondition s w.0 w.1) (y.0, z) x end (record {
      text = f.text;
      is = strip_is (codes "IF(") s r front ∙ ap (λ v. codes "IF(" ++ v) (f.is ∙ ap (λ v. f.text ++ v) (after_is 41 y.1 z close));
      spells = f.spells;
    })

-- statements of one keyword alone
words_are : (s : List ℕ) (word : List ℕ) (t : Statement) (other : Option Statement) (u : Statement) → SpellsStatement word t
    → (other ≡ Some u → SpellsStatement s u) → cond (bytes_eq s word) (Some t) other ≡ Some u → SpellsStatement s u
words_are s word t other u p more e = elim (chosen (bytes_eq s word) (Some t) other (Some u) e) [
  | inl q ↦ along (SpellsStatement s) t u q.1 (subst (λ z. SpellsStatement z t) (sym ((bytes_eq-Decides s word).0 q.0)) p)
  | inr q ↦ more q.1
]

word_statement_is : (s : List ℕ) (u : Statement) → word_statement s ≡ Some u → SpellsStatement s u
unfolding word_statement
word_statement_is s u =
    words_are s (codes "CONTINUE") Statement.Continue _ u (SpellsStatement.action SpellsAction.go_on)
    (words_are s (codes "RETURN") Statement.Return _ u (SpellsStatement.action SpellsAction.return)
    (words_are s (codes "STOP") Statement.Stop _ u (SpellsStatement.action SpellsAction.stop)
    (words_are s (codes "ENDIF") Statement.EndIf _ u SpellsStatement.end_if
    (words_are s (codes "END") Statement.End None u SpellsStatement.end (λ e. absurd (none-some u e))))))

-- a statement by what stands behind a keyword, or else another
behind_word_is : (word s : List ℕ) (read : List ℕ → Option Statement) (other : Option Statement) (u : Statement) → ((r : List ℕ) → read r ≡ Some u → SpellsStatement (word ++ r) u)
    → (other ≡ Some u → SpellsStatement s u) → behind (strip word s) read other ≡ Some u → SpellsStatement s u
behind_word_is word s read other u spelled =
    behind_is (SpellsStatement s u) (strip word s) read other u (λ r is e. subst (λ z. SpellsStatement z u) (sym (strip_is word s r is)) (spelled r e))

simple_is : (s : List ℕ) (u : Statement) → simple_at s ≡ Some u → SpellsStatement s u
unfolding simple_at
simple_is s u = behind_word_is (codes "GOTO") s goto_at (word_statement s) u (λ r e. SpellsStatement.action (goto_is r u e)) (word_statement_is s u)

-- a statement that may stand in a logical IF
action_from : {s : List ℕ} {u : Statement} → SpellsStatement s u → is_action u ≡ true → SpellsAction s u
action_from (SpellsStatement.action p) h = p
action_from _ h = cc

action_is : (s : List ℕ) (u : Statement) → action_at s ≡ Some u → SpellsAction s u
unfolding action_at simple_action_at
action_is s u e = by_class (class_of s) e
  where
    by_class : (c : Class) → action_by c s ≡ Some u → SpellsAction s u
    by_class If e =
        let (x, found, rest) = bind_ok (condition_at s) (λ x. arithmetic_at x.0 x.1) u e in
        let f = condition_is s x found in
        subst (λ z. SpellsAction z u) (sym f.is) (arithmetic_is f.text x.1 x.0 u f.spells rest)
    by_class Loop e = absurd (none-some u e)
    by_class Assignment e = assign_is s u e
    by_class Keyword e =
        let (v, found, rest) = bind_ok (simple_at s) actions_only u e in
        let (is, same) = guarded (is_action v) (Some v) u rest in
        along (SpellsAction s) v u same (action_from (simple_is s v found) is)

branch_is : (x s : List ℕ) (t : Tree) (u : Statement) → Spells 1 x t → branch_at t s ≡ Some u → SpellsStatement (codes "IF(" ++ (x ++ (41 ∷ s))) u
unfolding branch_at
branch_is x s t u p e = elim (chosen (bytes_eq s (codes "THEN")) (Some (Statement.BlockIf t)) _ (Some u) e) [
  | inl q ↦
      along (SpellsStatement (codes "IF(" ++ (x ++ (41 ∷ s)))) (Statement.BlockIf t) u q.1
      (subst (λ z. SpellsStatement (codes "IF(" ++ (x ++ (41 ∷ z))) (Statement.BlockIf t)) (sym ((bytes_eq-Decides s (codes "THEN")).0 q.0)) (SpellsStatement.block_if p))
  | inr q ↦ elim (chosen (begins_digit s) (arithmetic_at t s) (action_at s >>= λ a. Some (Statement.LogicalIf t a)) (Some u) q.1) [
    | inl r ↦ SpellsStatement.action (arithmetic_is x s t u p r.1)
    | inr r ↦
        let (a, found, end) = bind_ok (action_at s) (λ a. Some (Statement.LogicalIf t a)) u r.1 in
        along (SpellsStatement (codes "IF(" ++ (x ++ (41 ∷ s)))) (Statement.LogicalIf t a) u end (SpellsStatement.logical_if p (action_is s a found))
  ]
]

else_is : (s : List ℕ) (u : Statement) → else_at s ≡ Some u → SpellsStatement (codes "ELSE" ++ s) u
unfolding else_at
else_is s u e = elim (chosen (length s == 0) (Some Statement.Else) _ (Some u) e) [
  | inl q ↦
      let none : s ≡ [] = nil_from_length s (eqb-true (length s) 0 q.0) in
      along (SpellsStatement (codes "ELSE" ++ s)) Statement.Else u q.1 (subst (λ z. SpellsStatement (codes "ELSE" ++ z) Statement.Else) (sym none) SpellsStatement.otherwise)
  | inr q ↦
      let (x, found, rest) = bind_ok (condition_at s) (λ x. cond (bytes_eq x.1 (codes "THEN")) (Some (Statement.ElseIf x.0)) None) u q.1 in
      let (is, same) = guarded (bytes_eq x.1 (codes "THEN")) (Some (Statement.ElseIf x.0)) u rest in
      let f = condition_is s x found in
      let whole : s ≡ codes "IF(" ++ (f.text ++ codes ")THEN") = f.is ∙ ap (λ z. codes "IF(" ++ (f.text ++ (41 ∷ z))) ((bytes_eq-Decides x.1 (codes "THEN")).0 is) in
      along (SpellsStatement (codes "ELSE" ++ s)) (Statement.ElseIf x.0) u same
      (subst (λ z. SpellsStatement (codes "ELSE" ++ z) (Statement.ElseIf x.0)) (sym whole) (SpellsStatement.else_if f.spells))
]

-- declarations and DATA
declared_is : (kind : Kind) (s : List ℕ) (u : Statement) → declared_at kind s ≡ Some u → SpellsStatement (kind_keyword kind ++ s) u
declared_is kind s u e =
    let (ds, found, end) = bind_ok (declarations_at s) (λ ds. Some (Statement.Declare kind ds)) u e in
    along (SpellsStatement (kind_keyword kind ++ s)) (Statement.Declare kind ds) u end (SpellsStatement.declare kind (declarations_is s ds found))

dimension_is : (s : List ℕ) (u : Statement) → dimension_at s ≡ Some u → SpellsStatement (codes "DIMENSION" ++ s) u
dimension_is s u e =
    let (ds, found, rest) = bind_ok (declarations_at s) (λ ds. cond (all_bounded ds) (Some (Statement.Dimension ds)) None) u e in
    let (bounded, end) = guarded (all_bounded ds) (Some (Statement.Dimension ds)) u rest in
    along (SpellsStatement (codes "DIMENSION" ++ s)) (Statement.Dimension ds) u end (SpellsStatement.dimension (declarations_is s ds found) bounded)

preset_is : (s : List ℕ) (u : Statement) → data_at s ≡ Some u → SpellsStatement (codes "DATA" ++ s) u
preset_is s u e =
    let (gs, found, end) = bind_ok (groups_at s) (λ gs. Some (Statement.Preset gs)) u e in
    along (SpellsStatement (codes "DATA" ++ s)) (Statement.Preset gs) u end (SpellsStatement.preset (groups_is s gs found))

keyword_is : (s : List ℕ) (u : Statement) → keyword_at s ≡ Some u → SpellsStatement s u
unfolding keyword_at
keyword_is s u =
    behind_word_is (codes "SUBROUTINE") s subroutine_at _ u (λ r. subroutine_is r u)
    (behind_word_is (codes "ELSE") s else_at _ u (λ r. else_is r u)
    (behind_word_is (codes "INTEGER") s (declared_at Integer) _ u (λ r. declared_is Integer r u)
    (behind_word_is (codes "LOGICAL") s (declared_at Logical) _ u (λ r. declared_is Logical r u)
    (behind_word_is (codes "DIMENSION") s dimension_at _ u (λ r. dimension_is r u)
    (behind_word_is (codes "DATA") s data_at _ u (λ r. preset_is r u) (simple_is s u))))))

-- the label and the DO variable of a DO
pub record FrontsControl (s : List ℕ) (label : ℕ) (name rest : List ℕ) : Type 0 where
  pub row : List ℕ
  pub comma : Bool
  pub is : s ≡ row ++ (optional_comma comma ++ (name ++ (61 ∷ rest)))
  pub number : is_number row ≡ true
  pub value : label_number row ≡ label
  pub named : is_name name ≡ true

control_is : (s : List ℕ) (x : ℕ × List ℕ × List ℕ) → control_at s ≡ Some x → FrontsControl s x.0 x.1 x.2
unfolding control_at
control_is s x e =
    let (y, found, more) = bind_ok (label_at s) (λ y. name_at (past_comma y.1) >>= λ z. tree_after 61 z.1 >>= λ r. Some (y.0, z.0, r)) x e in
    let (z, read, rest) = bind_ok (name_at (past_comma y.1)) (λ z. tree_after 61 z.1 >>= λ r. Some (y.0, z.0, r)) x more in
    let (r, equals, end) = bind_ok (tree_after 61 z.1) (λ r. Some (y.0, z.0, r)) x rest in
    let f = label_is s y found in
    let (comma, behind) = past_comma_is y.1 in
    let (is, n) = name_front (past_comma y.1) z read in
    along (λ w. FrontsControl s w.0 w.1 w.2) (y.0, z.0, r) x end (record {
      row = f.row;
      comma = comma;
      is = f.is ∙ ap (λ v. f.row ++ v) (behind ∙ ap (λ v. optional_comma comma ++ v) (is ∙ ap (λ v. z.0 ++ v) (after_is 61 z.1 r equals)));
      number = f.number;
      value = f.value;
      named = n;
    })

-- the parameters of a DO
step_is : (s : List ℕ) (c : Option Tree) → step_at s ≡ Some c → ((s ≡ []) × (c ≡ None)) ⊎ ((z : List ℕ) × (t : Tree) × (s ≡ 44 ∷ z) × (c ≡ Some t) × Spells 1 z t)
unfolding step_at
step_is s c e = elim (chosen (length s == 0) (Some None) _ (Some c) e) [
  | inl p ↦ inl (nil_from_length s (eqb-true (length s) 0 p.0), sym (same_Some None c p.1))
  | inr p ↦
      let (r, comma, more) = bind_ok (tree_after 44 s) (λ r. whole_at r >>= λ t. Some (Some t)) c p.1 in
      let (t, read, end) = bind_ok (whole_at r) (λ t. Some (Some t)) c more in
      inr (r, t, after_is 44 s r comma, sym (same_Some (Some t) c end), whole_is r t read)
]

loop_whole : (s name rest : List ℕ) (label : ℕ) (u : Statement) → FrontsControl s label name rest → parameters_at label name rest ≡ Some u → SpellsStatement (codes "DO" ++ s) u
loop_whole s name rest label u f e =
    let (a, first, more) = bind_ok (reading.expr 1 rest) (λ a. tree_after 44 a.1 >>= λ r. reading.expr 1 r >>= λ b. step_at b.1 >>= λ c. Some (Statement.Loop label name a.0 b.0 c)) u e in
    let (r, comma, others) = bind_ok (tree_after 44 a.1) (λ r. reading.expr 1 r >>= λ b. step_at b.1 >>= λ c. Some (Statement.Loop label name a.0 b.0 c)) u more in
    let (b, second, last) = bind_ok (reading.expr 1 r) (λ b. step_at b.1 >>= λ c. Some (Statement.Loop label name a.0 b.0 c)) u others in
    let (c, third, end) = bind_ok (step_at b.1) (λ c. Some (Statement.Loop label name a.0 b.0 c)) u last in
    let p = sound_reading.expr 1 rest a first in
    let q = sound_reading.expr 1 r b second in
    let front : rest ≡ p.text ++ (44 ∷ r) = p.is ∙ ap (λ z. p.text ++ z) (after_is 44 a.1 r comma) in
    along (SpellsStatement (codes "DO" ++ s)) (Statement.Loop label name a.0 b.0 c) u end (
    elim (step_is b.1 c third) [
      | inl k ↦
          let whole : rest ≡ p.text ++ (44 ∷ q.text) = front ∙ ap (λ z. p.text ++ (44 ∷ z)) (q.is ∙ ap (λ z. q.text ++ z) k.0 ∙ append-nil q.text) in
          let is : s ≡ f.row ++ (optional_comma f.comma ++ (name ++ (61 ∷ (p.text ++ (44 ∷ q.text))))) = f.is ∙ ap (λ z. f.row ++ (optional_comma f.comma ++ (name ++ (61 ∷ z)))) whole in
          let made = SpellsStatement.loop {name = name} f.row f.comma f.number f.named p.spells q.spells in
          subst (λ z. SpellsStatement (codes "DO" ++ s) (Statement.Loop label name a.0 b.0 z)) (sym k.1)
          (subst (λ z. SpellsStatement (codes "DO" ++ z) (Statement.Loop label name a.0 b.0 None)) (sym is) (rw f.value at made))
      | inr k ↦
          let whole : rest ≡ p.text ++ (44 ∷ (q.text ++ (44 ∷ k.0))) = front ∙ ap (λ z. p.text ++ (44 ∷ z)) (q.is ∙ ap (λ z. q.text ++ z) k.2) in
          let is : s ≡ f.row ++ (optional_comma f.comma ++ (name ++ (61 ∷ (p.text ++ (44 ∷ (q.text ++ (44 ∷ k.0))))))) =
          f.is ∙ ap (λ z. f.row ++ (optional_comma f.comma ++ (name ++ (61 ∷ z)))) whole in
          let made = SpellsStatement.loop_by {name = name} f.row f.comma f.number f.named p.spells q.spells k.4 in
          subst (λ z. SpellsStatement (codes "DO" ++ s) (Statement.Loop label name a.0 b.0 z)) (sym k.3)
          (subst (λ z. SpellsStatement (codes "DO" ++ z) (Statement.Loop label name a.0 b.0 (Some k.1))) (sym is) (rw f.value at made))
    ]
    )

loop_is : (s : List ℕ) (u : Statement) → loop_at s ≡ Some u → SpellsStatement s u
unfolding loop_at
loop_is s u e =
    let (r, front, more) = bind_ok (strip (codes "DO") s) (λ r. control_at r >>= λ x. parameters_at x.0 x.1 x.2) u e in
    let (x, found, rest) = bind_ok (control_at r) (λ x. parameters_at x.0 x.1 x.2) u more in
    subst (λ z. SpellsStatement z u) (sym (strip_is (codes "DO") s r front)) (loop_whole r x.1 x.2 x.0 u (control_is r x found) rest)

pub statement_is : (s : List ℕ) (u : Statement) → statement_at s ≡ Some u → SpellsStatement s u
unfolding statement_at
statement_is s u e = by_class (class_of s) e
  where
    by_class : (c : Class) → statement_by c s ≡ Some u → SpellsStatement s u
    by_class If e =
        let (x, found, rest) = bind_ok (condition_at s) (λ x. branch_at x.0 x.1) u e in
        let f = condition_is s x found in
        subst (λ z. SpellsStatement z u) (sym f.is) (branch_is f.text x.1 x.0 u f.spells rest)
    by_class Loop e = loop_is s u e
    by_class Assignment e = SpellsStatement.action (assign_is s u e)
    by_class Keyword e = keyword_is s u e
