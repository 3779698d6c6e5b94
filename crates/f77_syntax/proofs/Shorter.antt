-- What follows an expression, an operator or a list is shorter than what it was read from.
use Rattle.f77_syntax.proofs.Common.{ap, ◌≡◌, List, ℕ, true, [], ◌∷◌, Some, false, length, arith, ◌++◌, ◌≤◌, codes, ◌<◌, length-append, operator_at, Readers}
use Rattle.f77_syntax.proofs.Common.{word_whole, is_name, is_number, past_word, word, Spells, SpellsReference, SpellsAll, function_name, symbol, Tree, Trees}
use Rattle.f77_syntax.proofs.Common.{Operator, Equivalent}
use Rattle.f77_syntax.proofs.Sound.{Sound, operator_is}

pub symbol_long : (op : Operator) → 0 < length (symbol op)
symbol_long Equivalent = omega arith
symbol_long _ = omega arith

pub name_long : (s : List ℕ) → is_name s ≡ true → 0 < length s
name_long [] e = cc
name_long (c ∷ s) e = omega arith

pub number_long : (s : List ℕ) → is_number s ≡ true → 0 < length s
number_long [] e = cc
number_long (c ∷ s) e = omega arith

pub reference_long : {text name : List ℕ} {items : Trees} → SpellsReference text name items → 0 < length text
reference_long (SpellsReference.scalar {name = name} n) = name_long name n
reference_long (SpellsReference.element {name = name} {text = text} n l) = omega (arith, length-append name (40 ∷ (text ++ 41 ∷ [])))

-- no text that spells a tree is empty
pub spelled_long : {w : ℕ} {text : List ℕ} {t : Tree} → Spells w text t → 0 < length text
spelled_long {text = text} (Spells.number n) = number_long text n
spelled_long (Spells.truth true) = omega arith
spelled_long (Spells.truth false) = omega arith
spelled_long (Spells.reference c r) = reference_long r
spelled_long (Spells.call {text = text} f l) = omega (arith, length-append (function_name f) (40 ∷ (text ++ 41 ∷ [])))
spelled_long (Spells.group p) = omega arith
spelled_long (Spells.signed sign k p) = omega arith
spelled_long (Spells.negated {text = text} k p) = omega (arith, length-append (codes ".NOT.") text)
spelled_long (Spells.binary {x = x} {y = y} op k p q) = omega (arith, length-append x (symbol op ++ y), length-append (symbol op) y, symbol_long op)

pub all_long : {text : List ℕ} {ts : Trees} → SpellsAll text ts → 0 < length text
all_long (SpellsAll.last p) = spelled_long p
all_long (SpellsAll.more {text = text} {rest = rest} p q) = omega (arith, length-append text (44 ∷ rest), spelled_long p)

pub operator_shorter : (s : List ℕ) (y : Operator × List ℕ) → operator_at s ≡ Some y → length y.1 < length s
operator_shorter s y e = omega (arith, ap length (operator_is s y e), length-append (symbol y.0) y.1, symbol_long y.0)

pub past_word_short : (s : List ℕ) → length (past_word s) ≤ length s
past_word_short s = omega (arith, ap length (word_whole s), length-append (word s) (past_word s))

-- each rest is shorter
pub record Shorter (R : Readers) : Type 0 where
  pub expr : (w : ℕ) (s : List ℕ) (x : Tree × List ℕ) → R.expr w s ≡ Some x → length x.1 < length s
  pub items : (s : List ℕ) (x : Trees × List ℕ) → R.items s ≡ Some x → length x.1 < length s

pub shorter : (R : Readers) → Sound R → Shorter R
shorter R sound = record {
  expr = λ w s x e. let f = sound.expr w s x e in omega (arith, ap length f.is, length-append f.text x.1, spelled_long f.spells);
  items = λ s x e. let f = sound.items s x e in omega (arith, ap length f.is, length-append f.text x.1, all_long f.spells);
}
