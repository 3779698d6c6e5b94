-- What stands outside parentheses. Expressions hide no equals sign and, outside parentheses, no comma, so the text of a statement decides its class.
use Rattle.f77_syntax.proofs.Common.{refl, ◌∙◌, sym, ap, ◌≡◌, List, ℕ, true, [], ◌∷◌, Some, None, false, arith, Option, ◌++◌, Bool, ◌==◌, append_assoc, codes}
use Rattle.f77_syntax.proofs.Common.{suc, append-nil, ◌&&◌, ◌-◌, not, nat_tests, list_all, list_any, ◌>>=◌, strip, behind_character, class_of, begins_if}
use Rattle.f77_syntax.proofs.Common.{begins_with, deeper, no_equals, Keyword, Assignment, If, Loop, and_true, name_words, past_word_front, is_name, is_number}
use Rattle.f77_syntax.proofs.Common.{past_word, Spells, SpellsReference, SpellsAll, is_word, truth_constant_text, function_name, symbol, sign_symbol}
use Rattle.f77_syntax.proofs.Common.{optional_comma, Tree, Trees, Intrinsic, Operator, Equivalent, Sign, Minus, Plus}
use Rattle.f77_tree.specs.declared.intrinsic.Intrinsic.TheVariants.{Mod}
use Rattle.f77_syntax.proofs.Steps.{strip_is}
use Rattle.f77_syntax.proofs.WordTexts.{number_words}

-- no parenthesis, no comma and no equals sign
abbrev pub is_quiet : ℕ → Bool
is_quiet c = not (c == 40) && (not (c == 41) && (not (c == 44) && not (c == 61)))

quiet_word : (c : ℕ) → is_word c ≡ true → is_quiet c ≡ true
quiet_word c h = grind (arith, nat_tests)

quiet_words : (text : List ℕ) → list_all is_word text ≡ true → list_all is_quiet text ≡ true
quiet_words [] h = refl
quiet_words (c ∷ text) h =
    let (first, others) = and_true (is_word c) (list_all is_word text) h in rw (quiet_word c first, quiet_words text others) refl

pub quiet_number : (text : List ℕ) → is_number text ≡ true → list_all is_quiet text ≡ true
quiet_number text h = quiet_words text (number_words text h)

quiet_symbol : (op : Operator) → list_all is_quiet (symbol op) ≡ true
quiet_symbol Equivalent = refl
quiet_symbol _ = refl

quiet_sign : (sign : Sign) → is_quiet (sign_symbol sign) ≡ true
quiet_sign Plus = refl
quiet_sign Minus = refl

quiet_truth : (b : Bool) → list_all is_quiet (truth_constant_text b) ≡ true
quiet_truth true = refl
quiet_truth false = refl

quiet_function : (f : Intrinsic) → list_all is_quiet (function_name f) ≡ true
quiet_function Mod = refl
quiet_function _ = refl

-- b is a closing parenthesis, a comma or an equals sign
module _ (b : ℕ) (open_other : (40 == b) ≡ false) (quiet_other : (c : ℕ) → is_quiet c ≡ true → (c == b) ≡ false) where
  same_depth : (d c : ℕ) → is_quiet c ≡ true → deeper d c ≡ d
  same_depth d c h = let p : (c == 40) ≡ false = grind (arith, nat_tests) in let q : (c == 41) ≡ false = grind (arith, nat_tests) in rw (p, q) refl

  not_here : (x : Bool) → (x && false) ≡ false
  not_here true = refl
  not_here false = refl

  pub pass_quiet : (text rest : List ℕ) (d : ℕ) → list_all is_quiet text ≡ true → behind_character b d (text ++ rest) ≡ behind_character b d rest
  pass_quiet [] rest d h = refl
  pass_quiet (c ∷ text) rest d h =
      let (first, others) = and_true (is_quiet c) (list_all is_quiet text) h in
      rw (quiet_other c first, not_here (d == 0), same_depth d c first) (pass_quiet text rest d others)

  pass_open : (rest : List ℕ) (d : ℕ) → behind_character b d (40 ∷ rest) ≡ behind_character b (suc d) rest
  pass_open rest d = rw (open_other, not_here (d == 0)) refl

  pass_close : (rest : List ℕ) (d : ℕ) → behind_character b (suc d) (41 ∷ rest) ≡ behind_character b d rest
  pass_close rest d = let z : (suc d == 0) ≡ false = grind (arith, nat_tests) in let e : suc d - 1 ≡ d = omega arith in rw (z, e) refl

  pass_comma : (rest : List ℕ) (d : ℕ) → behind_character b (suc d) (44 ∷ rest) ≡ behind_character b (suc d) rest
  pass_comma rest d = let z : (suc d == 0) ≡ false = grind (arith, nat_tests) in rw z refl

  -- a list in its parentheses
  in_parentheses : (text rest : List ℕ) (d : ℕ) → behind_character b (suc d) (text ++ (41 ∷ rest)) ≡ behind_character b (suc d) (41 ∷ rest)
      → behind_character b d ((40 ∷ (text ++ 41 ∷ [])) ++ rest) ≡ behind_character b d rest
  in_parentheses text rest d h =
      ap (λ z. behind_character b d (40 ∷ z)) (append_assoc text (41 ∷ []) rest) ∙ pass_open (text ++ (41 ∷ rest)) d ∙ h ∙ pass_close rest d

  mutual
    pub pass : {w : ℕ} {text : List ℕ} {t : Tree} → Spells w text t → (rest : List ℕ) (d : ℕ) → behind_character b d (text ++ rest) ≡ behind_character b d rest
    pass {text = text} (Spells.number n) rest d = pass_quiet text rest d (quiet_number text n)
    pass (Spells.truth v) rest d = pass_quiet (truth_constant_text v) rest d (quiet_truth v)
    pass (Spells.reference c p) rest d = pass_reference p rest d
    pass (Spells.call {text = text} f l) rest d =
        ap (behind_character b d) (append_assoc (function_name f) (40 ∷ (text ++ 41 ∷ [])) rest)
        ∙ pass_quiet (function_name f) ((40 ∷ (text ++ 41 ∷ [])) ++ rest) d (quiet_function f) ∙ in_parentheses text rest d (pass_all l (41 ∷ rest) d)
    pass (Spells.group {text = text} p) rest d =
        in_parentheses text rest d (pass p (41 ∷ rest) (suc d))
    pass (Spells.signed {text = text} sign h p) rest d =
        pass_quiet (sign_symbol sign ∷ []) (text ++ rest) d (rw (quiet_sign sign) refl) ∙ pass p rest d
    pass (Spells.negated {text = text} h p) rest d =
        ap (behind_character b d) (append_assoc (codes ".NOT.") text rest) ∙ pass_quiet (codes ".NOT.") (text ++ rest) d refl ∙ pass p rest d
    pass (Spells.binary {x = x} {y = y} op h p q) rest d =
        ap (behind_character b d) (append_assoc x (symbol op ++ y) rest ∙ ap (λ z. x ++ z) (append_assoc (symbol op) y rest))
        ∙ pass p (symbol op ++ (y ++ rest)) d ∙ pass_quiet (symbol op) (y ++ rest) d (quiet_symbol op) ∙ pass q rest d

    pub pass_reference : {text name : List ℕ} {items : Trees} → SpellsReference text name items → (rest : List ℕ) (d : ℕ) → behind_character b d (text ++ rest) ≡ behind_character b d rest
    pass_reference (SpellsReference.scalar {name = name} n) rest d = pass_quiet name rest d (quiet_words name (name_words name n))
    pass_reference (SpellsReference.element {name = name} {text = text} n l) rest d =
        ap (behind_character b d) (append_assoc name (40 ∷ (text ++ 41 ∷ [])) rest)
        ∙ pass_quiet name ((40 ∷ (text ++ 41 ∷ [])) ++ rest) d (quiet_words name (name_words name n)) ∙ in_parentheses text rest d (pass_all l (41 ∷ rest) d)

    pub pass_all : {text : List ℕ} {items : Trees} → SpellsAll text items → (rest : List ℕ) (d : ℕ) → behind_character b (suc d) (text ++ rest) ≡ behind_character b (suc d) rest
    pass_all (SpellsAll.last p) rest d = pass p rest (suc d)
    pass_all (SpellsAll.more {text = text} {rest = others} p q) rest d =
        ap (behind_character b (suc d)) (append_assoc text (44 ∷ others) rest) ∙ pass p (44 ∷ (others ++ rest)) (suc d) ∙ pass_comma (others ++ rest) d ∙ pass_all q rest d

-- the three characters that are looked for
close_other : (c : ℕ) → is_quiet c ≡ true → (c == 41) ≡ false
close_other c h = grind (arith, nat_tests)

comma_other : (c : ℕ) → is_quiet c ≡ true → (c == 44) ≡ false
comma_other c h = grind (arith, nat_tests)

pub equals_other : (c : ℕ) → is_quiet c ≡ true → (c == 61) ≡ false
equals_other c h = grind (arith, nat_tests)

-- a list outside parentheses, where no comma is looked for
list_close : {text : List ℕ} {items : Trees} → SpellsAll text items → (rest : List ℕ) → behind_character 41 0 (text ++ rest) ≡ behind_character 41 0 rest
list_close (SpellsAll.last p) rest = pass 41 refl close_other p rest 0
list_close (SpellsAll.more {text = text} {rest = others} p q) rest =
    ap (behind_character 41 0) (append_assoc text (44 ∷ others) rest) ∙ pass 41 refl close_other p (44 ∷ (others ++ rest)) 0 ∙ list_close q rest

-- a text without an equals sign
pub no_equals_sign : (text : List ℕ) (d : ℕ) → list_any (λ c. c == 61) text ≡ false → behind_character 61 d text ≡ None
no_equals_sign [] d h = refl
no_equals_sign (c ∷ text) d h = step (c == 61) refl (λ k. no_equals_sign text (deeper d c) k)
  where
    step : (v : Bool) → (c == 61) ≡ v → (list_any (λ c. c == 61) text ≡ false → behind_character 61 (deeper d c) text ≡ None) → behind_character 61 d (c ∷ text) ≡ None
    step true e more = let wrong : list_any (λ c. c == 61) (c ∷ text) ≡ true = rw e refl in cc
    step false e more =
        let others : list_any (λ c. c == 61) text ≡ false = rw e at h in
        rw (e, not_here 61 refl equals_other (d == 0)) (more others)

-- an IF: what follows the matching parenthesis begins with no equals sign
pub if_class : {x : List ℕ} {t : Tree} → Spells 1 x t → (rest : List ℕ) → begins_with 61 rest ≡ false → class_of (codes "IF(" ++ (x ++ (41 ∷ rest))) ≡ If
unfolding class_of begins_if
if_class p rest h = rw (pass 41 refl close_other p (41 ∷ rest) 0, h) refl

-- no IF: an element of an array of that name, or another beginning
pub no_if_strip : (text : List ℕ) → strip (codes "IF(") text ≡ None → begins_if text ≡ false
unfolding begins_if
no_if_strip text e = rw e refl

scalar_strip : (name rest : List ℕ) (c : ℕ) → is_name name ≡ true → (c == 40) ≡ false → is_word c ≡ false → strip (codes "IF(") (name ++ (c ∷ rest)) ≡ None
scalar_strip name rest c n other ends = step (strip (codes "IF(") (name ++ (c ∷ rest))) refl
  where
    step : (o : Option (List ℕ)) → strip (codes "IF(") (name ++ (c ∷ rest)) ≡ o → o ≡ None
    step None e = refl
    step (Some r) e =
        let one : past_word (name ++ (c ∷ rest)) ≡ c ∷ rest = past_word_front name (c ∷ rest) (name_words name n) ends in
        let two : past_word (name ++ (c ∷ rest)) ≡ 40 ∷ r = ap past_word (strip_is (codes "IF(") (name ++ (c ∷ rest)) r e) in
        let same : c ≡ 40 = cc in
        let wrong : (c == 40) ≡ true = rw same refl in cc

reference_no_if : {x name : List ℕ} {items : Trees} → SpellsReference x name items → (y : List ℕ) → begins_if (x ++ (61 ∷ y)) ≡ false
unfolding begins_if
reference_no_if (SpellsReference.scalar {name = name} n) y = rw (scalar_strip name y 61 n refl refl) refl
reference_no_if (SpellsReference.element {name = name} {text = text} n l) y = step (strip (codes "IF(") whole) refl
  where
    whole : List ℕ
    whole = (name ++ (40 ∷ (text ++ 41 ∷ []))) ++ (61 ∷ y)

    shape : whole ≡ name ++ (40 ∷ (text ++ (41 ∷ (61 ∷ y))))
    shape = append_assoc name (40 ∷ (text ++ 41 ∷ [])) (61 ∷ y) ∙ ap (λ z. name ++ (40 ∷ z)) (append_assoc text (41 ∷ []) (61 ∷ y))

    step : (o : Option (List ℕ)) → strip (codes "IF(") whole ≡ o → no_equals (o >>= behind_character 41 0) ≡ false
    step None e = refl
    step (Some r) e =
        let one : past_word whole ≡ 40 ∷ (text ++ (41 ∷ (61 ∷ y))) = ap past_word shape ∙ past_word_front name (40 ∷ (text ++ (41 ∷ (61 ∷ y)))) (name_words name n) refl in
        let two : past_word whole ≡ 40 ∷ r = ap past_word (strip_is (codes "IF(") whole r e) in
        let same : r ≡ text ++ (41 ∷ (61 ∷ y)) = cc in
        rw (same, list_close l (41 ∷ (61 ∷ y))) refl

pub assign_class : {x name y : List ℕ} {items : Trees} {t : Tree} → SpellsReference x name items → Spells 1 y t → class_of (x ++ (61 ∷ y)) ≡ Assignment
unfolding class_of
assign_class {y = y} r p =
    let none : behind_character 44 0 y ≡ None = ap (behind_character 44 0) (sym (append-nil y)) ∙ pass 44 refl comma_other p [] 0 in
    rw (reference_no_if r y, pass_reference 61 refl equals_other r (61 ∷ y) 0, none) refl

-- a DO: a comma follows the equals sign
pub loop_class : {x : List ℕ} {a : Tree} (row name rest : List ℕ) (comma : Bool) → is_number row ≡ true → is_name name ≡ true → Spells 1 x a
    → class_of (codes "DO" ++ (row ++ (optional_comma comma ++ (name ++ (61 ∷ (x ++ (44 ∷ rest))))))) ≡ Loop
unfolding class_of
loop_class {x = x} row name rest comma n m p =
    let none : begins_if (codes "DO" ++ (row ++ (optional_comma comma ++ (name ++ (61 ∷ (x ++ (44 ∷ rest))))))) ≡ false = no_if_strip _ refl in
    let front : behind_character 61 0 (codes "DO" ++ (row ++ (optional_comma comma ++ (name ++ (61 ∷ (x ++ (44 ∷ rest))))))) ≡ Some (x ++ (44 ∷ rest)) =
    pass_quiet 61 refl equals_other row (optional_comma comma ++ (name ++ (61 ∷ (x ++ (44 ∷ rest))))) 0 (quiet_number row n)
    ∙ past_optional comma (name ++ (61 ∷ (x ++ (44 ∷ rest))))
    ∙ pass_quiet 61 refl equals_other name (61 ∷ (x ++ (44 ∷ rest))) 0 (quiet_words name (name_words name m)) in
    rw (none, front, pass 44 refl comma_other p (44 ∷ rest) 0) refl
  where
    past_optional : (comma : Bool) (s : List ℕ) → behind_character 61 0 (optional_comma comma ++ s) ≡ behind_character 61 0 s
    past_optional true s = refl
    past_optional false s = refl

-- the rest by keywords
pub keyword_class : (text : List ℕ) → strip (codes "IF(") text ≡ None → behind_character 61 0 text ≡ None → class_of text ≡ Keyword
unfolding class_of
keyword_class text e f = rw (no_if_strip text e, f) refl
