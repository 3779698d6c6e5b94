-- What the readers of statements, of labels and of what stands behind a character give, from what they call.
use Rattle.f77_syntax.proofs.Common.{refl, ◌∙◌, sym, ap, ◌≡◌, List, ℕ, true, [], ◌∷◌, Some, None, false, length, arith, Option, Bool, ◌≤◌, ◌==◌, codes, ◌<◌}
use Rattle.f77_syntax.proofs.Common.{cond, ◌+◌, drop, take, option_map, ◌-◌, get_or, le-leb, ok_or, ◌^◌, nat_tests, drop_more, take_rest, none-some, list_all}
use Rattle.f77_syntax.proofs.Common.{bytes_eq, digits_value, AllDigits, is_action, behind_character, clipped, clip_statement, Gives, IsStatement}
use Rattle.f77_syntax.proofs.Common.{word_statement, Unknown, and_true, is_number, is_digit, Statement, statement_of, label_number}
use Rattle.std.specs.Char.{digit_value}
use Rattle.std.proofs.lemmas.Int.Digits.{digits_value-lt}
use Rattle.std.proofs.Math.Nat.{pow-le-pow_right}
use Rattle.f77_tree.specs.declared.statement.Stmt.{Stmt}
use Rattle.f77_syntax.proofs.Steps.{along}
use Rattle.f77_syntax.proofs.WordTexts.{number_digits}

-- an optional statement without constants as an answer
pub given : (o : Option Stmt) (p : Option Statement) → option_map statement_of o ≡ p → ((u : Statement) → p ≡ Some u → clip_statement u ≡ u) → Gives IsStatement (ok_or o Unknown) p
given None p e kept = sym e
given (Some t) p e kept = (statement_of t, sym e, sym (kept (statement_of t) (sym e)))

words_kept : (b : Bool) (t : Statement) (other : Option Statement) (u : Statement) → clip_statement t ≡ t → (other ≡ Some u → clip_statement u ≡ u)
    → cond b (Some t) other ≡ Some u → clip_statement u ≡ u
words_kept true t other u same more e = along (λ z. clip_statement z ≡ z) t u e same
words_kept false t other u same more e = more e

pub word_kept : (s : List ℕ) (u : Statement) → word_statement s ≡ Some u → clip_statement u ≡ u
unfolding word_statement
word_kept s u =
    words_kept (bytes_eq s (codes "CONTINUE")) Statement.Continue _ u refl
    (words_kept (bytes_eq s (codes "RETURN")) Statement.Return _ u refl
    (words_kept (bytes_eq s (codes "STOP")) Statement.Stop _ u refl
    (words_kept (bytes_eq s (codes "ENDIF")) Statement.EndIf _ u refl
    (words_kept (bytes_eq s (codes "END")) Statement.End None u refl (λ e. absurd (none-some u e))))))

pub action_clip : (u : Statement) → is_action (clip_statement u) ≡ is_action u
action_clip (Statement.LogicalIf t s) = refl
action_clip _ = refl

pub same_action : (t : Stmt) (u : Statement) → statement_of t ≡ clip_statement u → is_action u ≡ is_action (statement_of t)
same_action t u same = sym (action_clip u) ∙ ap is_action (sym same)

-- what follows a character that is found
pub behind_here : (b : ℕ) (text : List ℕ) (i d : ℕ) → behind_character b 0 text ≡ behind_character b d (drop i text) → i < length text
    → d ≡ 0 → get_or text i 0 ≡ b → Some (take (length text - (i + 1)) (drop (i + 1) text)) ≡ behind_character b 0 text
behind_here b text i d same here zero found =
    let rest : drop i text ≡ b ∷ drop (i + 1) text = drop_more text i 0 here ∙ ap (λ z. z ∷ drop (i + 1) text) found in
    let equal : (b == b) ≡ true = grind (arith, nat_tests) in
    let at : behind_character b d (b ∷ drop (i + 1) text) ≡ Some (drop (i + 1) text) = rw (zero, equal) refl in
    ap Some (take_rest text (i + 1)) ∙ sym (same ∙ ap (behind_character b d) rest ∙ at)

-- labels
all_digits : (row : List ℕ) → list_all is_digit row ≡ true → AllDigits 10 row
all_digits [] h = tt
all_digits (c ∷ row) h =
    let (first, others) = and_true (is_digit c) (list_all is_digit row) h in
    let small : digit_value c < 10 = grind (arith, nat_tests) in
    (small, all_digits row others)

pub short_label : (row : List ℕ) (n : ℕ) → is_number row ≡ true → length row ≤ 5 → n ≡ clipped (digits_value 10 row) → n ≡ label_number row
unfolding label_number
short_label row n is short e =
    let low : digits_value 10 row < 10 ^ length row = digits_value-lt 10 row (all_digits row (number_digits row is)) in
    let high : 10 ^ length row ≤ 10 ^ 5 = pow-le-pow_right (omega arith) short in
    let kept : n ≡ digits_value 10 row = omega arith in
    rw (le-leb (length row) 5 short) kept
