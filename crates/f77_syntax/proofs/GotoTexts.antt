-- GO TO statements: what is read is spelled so, what is spelled is read so, and their class.
use Rattle.f77_syntax.proofs.Common.{refl, ◌∙◌, sym, ap, ◌≡◌, List, ℕ, true, [], ◌∷◌, Some, None, false, arith, subst, Option, ◌++◌, Bool, ◌==◌, append_assoc}
use Rattle.f77_syntax.proofs.Common.{codes, cond, append-nil, eqb-true, unwrap_or, nat_tests, none-some, list_all, ◌>>=◌, behind_character, class_of}
use Rattle.f77_syntax.proofs.Common.{tree_after, close_at, items_at, past_comma, start_at, expr_at, label_at, whole_at, goto_at, last_label, computed_at}
use Rattle.f77_syntax.proofs.Common.{goto_by, Keyword, and_true, is_number, is_digit, Spells, Joined, Statement, label_number, optional_comma, SpellsAction}
use Rattle.f77_syntax.proofs.Common.{SpellsLabel, Tree}
use Rattle.f77_syntax.proofs.Steps.{along, bind_ok, after_is}
use Rattle.f77_syntax.proofs.Sound.{whole_is}
use Rattle.f77_syntax.proofs.Agree.{reading_expr}
use Rattle.f77_syntax.proofs.Complete.{whole}
use Rattle.f77_syntax.proofs.Outside.{pass, keyword_class, pass_quiet, quiet_number, equals_other}
use Rattle.f77_syntax.proofs.JoinedTexts.{items_is, items_read}
use Rattle.f77_syntax.proofs.LabelTexts.{label_spelled, each_label_read, last_label_is, last_label_read, past_comma_is}

-- GO TO statements that are read are spelled so
computed_is : (s : List ℕ) (u : Statement) → computed_at s ≡ Some u → SpellsAction (codes "GOTO(" ++ s) u
unfolding computed_at
computed_is s u e =
    let (x, found, more) = bind_ok (items_at label_at s) (λ x. close_at x.1 >>= λ r. whole_at (past_comma r) >>= λ v. Some (Statement.ComputedGoto x.0 v)) u e in
    let (r, close, rest) = bind_ok (close_at x.1) (λ r. whole_at (past_comma r) >>= λ v. Some (Statement.ComputedGoto x.0 v)) u more in
    let (v, read, end) = bind_ok (whole_at (past_comma r)) (λ v. Some (Statement.ComputedGoto x.0 v)) u rest in
    let f = items_is label_spelled s x found in
    let (comma, front) = past_comma_is r in
    let is : s ≡ f.text ++ (41 ∷ (optional_comma comma ++ past_comma r)) = f.is ∙ ap (λ z. f.text ++ z) (after_is 41 x.1 r close ∙ ap (λ z. 41 ∷ z) front) in
    along (SpellsAction (codes "GOTO(" ++ s)) (Statement.ComputedGoto x.0 v) u end
    (subst (λ z. SpellsAction (codes "GOTO(" ++ z) (Statement.ComputedGoto x.0 v)) (sym is) (SpellsAction.computed_go_to comma f.spells (whole_is (past_comma r) v read)))

unconditional_is : (s : List ℕ) (u : Statement) → (last_label s >>= λ l. Some (Statement.Goto l)) ≡ Some u → SpellsAction (codes "GOTO" ++ s) u
unconditional_is s u e =
    let (l, found, end) = bind_ok (last_label s) (λ l. Some (Statement.Goto l)) u e in
    let f = last_label_is s l found in
    let whole : s ≡ f.row = f.is ∙ append-nil f.row in
    along (SpellsAction (codes "GOTO" ++ s)) (Statement.Goto l) u end (subst (λ z. SpellsAction (codes "GOTO" ++ z) (Statement.Goto l)) (sym whole)
    (subst (λ z. SpellsAction (codes "GOTO" ++ f.row) (Statement.Goto z)) f.value (SpellsAction.go_to f.row f.number)))

pub goto_is : (s : List ℕ) (u : Statement) → goto_at s ≡ Some u → SpellsAction (codes "GOTO" ++ s) u
unfolding goto_at
goto_is s u e = by_open (tree_after 40 s) refl e
  where
    by_open : (o : Option (List ℕ)) → tree_after 40 s ≡ o → goto_by s o ≡ Some u → SpellsAction (codes "GOTO" ++ s) u
    by_open None is e = unconditional_is s u e
    by_open (Some r) is e = subst (λ z. SpellsAction (codes "GOTO" ++ z) u) (sym (after_is 40 s r is)) (computed_is r u e)

-- GO TO statements that are spelled are read so: no label begins with a parenthesis, and no expression with a comma
not_open : (row : List ℕ) → is_number row ≡ true → tree_after 40 row ≡ None
not_open [] n = refl
not_open (c ∷ row) n =
    let digit = (and_true (is_digit c) (list_all is_digit row) n).0 in
    let other : (c == 40) ≡ false = grind (arith, nat_tests) in
    rw other refl

pub goto_read : (row : List ℕ) → is_number row ≡ true → goto_at row ≡ Some (Statement.Goto (label_number row))
unfolding goto_at
goto_read row n = rw (not_open row n, last_label_read row n) refl

comma_none : (s : List ℕ) → whole_at (44 ∷ s) ≡ None
unfolding whole_at expr_at start_at
comma_none s = rw (reading_expr 1 (44 ∷ s)) refl

no_comma : (y : List ℕ) (t : Tree) → whole_at y ≡ Some t → past_comma y ≡ y
no_comma [] t e = refl
no_comma (c ∷ s) t e = by_test (c == 44) refl
  where
    by_test : (b : Bool) → (c == 44) ≡ b → unwrap_or (cond b (Some s) None) (c ∷ s) ≡ c ∷ s
    by_test false h = refl
    by_test true h =
        let at : whole_at (c ∷ s) ≡ whole_at (44 ∷ s) = ap (λ z. whole_at (z ∷ s)) (eqb-true c 44 h) in
        absurd (none-some t (sym (comma_none s) ∙ sym at ∙ e))

past_optional : (comma : Bool) {y : List ℕ} {t : Tree} → Spells 1 y t → past_comma (optional_comma comma ++ y) ≡ y
past_optional true p = refl
past_optional false {y = y} {t = t} p = no_comma y t (whole p)

pub computed_read : (comma : Bool) {x y labels : List ℕ} {t : Tree} → Joined SpellsLabel x labels → Spells 1 y t
    → goto_at (40 ∷ (x ++ (41 ∷ (optional_comma comma ++ y)))) ≡ Some (Statement.ComputedGoto labels t)
unfolding goto_at computed_at
computed_read comma {y = y} l p =
    rw (items_read label_at each_label_read l (41 ∷ (optional_comma comma ++ y)) refl refl, past_optional comma p, whole p) refl

-- the class of a GO TO: no equals sign stands in it
pub goto_class : (row : List ℕ) → is_number row ≡ true → class_of (codes "GOTO" ++ row) ≡ Keyword
goto_class row n =
    keyword_class (codes "GOTO" ++ row) refl (ap (behind_character 61 0) (sym (append-nil (codes "GOTO" ++ row))) ∙ pass_quiet 61 refl equals_other (codes "GOTO" ++ row) [] 0 (quiet_number row n))

labels_pass : {x labels : List ℕ} → Joined SpellsLabel x labels → (rest : List ℕ) → behind_character 61 1 (x ++ rest) ≡ behind_character 61 1 rest
labels_pass (Joined.last (SpellsLabel.digits row n)) rest = pass_quiet 61 refl equals_other row rest 1 (quiet_number row n)
labels_pass (Joined.more {rest = others} (SpellsLabel.digits row n) q) rest =
    ap (behind_character 61 1) (append_assoc row (44 ∷ others) rest)
    ∙ pass_quiet 61 refl equals_other row (44 ∷ (others ++ rest)) 1 (quiet_number row n) ∙ labels_pass q rest

selector_pass : (comma : Bool) {y : List ℕ} {t : Tree} → Spells 1 y t → behind_character 61 0 (optional_comma comma ++ y) ≡ None
selector_pass true {y = y} p = ap (behind_character 61 0) (sym (append-nil y)) ∙ pass 61 refl equals_other p [] 0
selector_pass false {y = y} p = ap (behind_character 61 0) (sym (append-nil y)) ∙ pass 61 refl equals_other p [] 0

pub computed_class : (comma : Bool) {x y labels : List ℕ} {t : Tree} → Joined SpellsLabel x labels → Spells 1 y t
    → class_of (codes "GOTO(" ++ (x ++ (41 ∷ (optional_comma comma ++ y)))) ≡ Keyword
computed_class comma {x = x} {y = y} l p =
    keyword_class (codes "GOTO(" ++ (x ++ (41 ∷ (optional_comma comma ++ y)))) refl
    (labels_pass l (41 ∷ (optional_comma comma ++ y)) ∙ selector_pass comma p)
