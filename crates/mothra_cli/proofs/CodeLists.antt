-- The pieces of a text between commas are read one by one, each as an operator's code.
use Rattle.mothra_cli.proofs.Common.{◌≡◌, ap, ◌∙◌, None, Some, refl, List, Option, false, true, ℕ, [], ◌++◌, Bool, bytes_eq, cond, sym, ◌∷◌, IfSome, find}
use Rattle.mothra_cli.proofs.Common.{is_some, option_map, append-nil, append_assoc, filter_map, lit<, ◌==◌, list_all, slice_split, Text, comma, operator_of}
use Rattle.mothra_cli.proofs.Common.{operators_of}
use Rattle.std.specs.Borrow.{Bor}
use Rattle.std.specs.Iterator.{AlwaysYields}
use Rattle.std.specs.Str.Iter.{split_has_more, split_pattern, split_steps, split_text}
use Rattle.std.specs.Str.Pattern.{FindsChar}
use Rattle.std.specs.declared.str.Split.{Split}
use Rattle.std.proofs.lemmas.Iterator.{YieldsList}
use Rattle.std.proofs.lemmas.Iterator.Splits.{YieldsList-from_str_split}
use Rattle.mothra_codes.specs.Op.{all_ops, code_of}
use Rattle.mothra_codes.specs.declared.op.Op.{Op}
use Rattle.mothra_codes.proofs.Codes.{op_found}
use Rattle.mothra_cli.proofs.OptionRows.{same_id}

-- ---- one code

find_passes : {X : Type 0} (p : X → Bool) (xs : List X) → IfSome (find p xs) (λ x. p x ≡ true)
find_passes p [] = tt
find_passes p (x ∷ xs) = go (p x) refl (find_passes p xs)
  where
    go : (b : Bool) → p x ≡ b → IfSome (find p xs) (λ y. p y ≡ true)
        → IfSome (cond b (Some x) (find p xs)) (λ y. p y ≡ true)
    go true here rest = here
    go false here rest = rest

some_code : (text : Text) (op : Op) → text ≡ code_of op → operator_of text ≡ Some op
some_code text op is = ap operator_of is ∙ op_found op

no_code : (text : Text) → ((op : Op) → text ≡ code_of op → ⊥) → operator_of text ≡ None
no_code text none = go (operator_of text) (find_passes (λ op. bytes_eq (code_of op) text) all_ops)
  where
    go : (o : Option Op) → IfSome o (λ op. bytes_eq (code_of op) text ≡ true) → o ≡ None
    go None passes = refl
    go (Some op) passes = absurd (none op (sym (same_id _ _ passes)))

-- ---- the pieces

abbrev of_pieces : List Text → Option (List Op)
of_pieces pieces =
    cond (list_all (λ piece. is_some (operator_of piece)) pieces) (Some (filter_map operator_of pieces)) None

abbrev before : List Op → Option (List Op) → Option (List Op)
before done ops = option_map (λ more. done ++ more) ops

piece_read : (done : List Op) (piece : Text) (left : List Text) (op : Op) → operator_of piece ≡ Some op
    → before (done ++ op ∷ []) (of_pieces left) ≡ before done (of_pieces (piece ∷ left))
piece_read done piece left op is = rw is (go (list_all (λ p. is_some (operator_of p)) left))
  where
    go : (b : Bool) → option_map (λ more. (done ++ op ∷ []) ++ more) (cond b (Some (filter_map operator_of left)) None)
        ≡ option_map (λ more. done ++ more) (cond b (Some (op ∷ filter_map operator_of left)) None)
    go true = ap Some (append_assoc done (op ∷ []) (filter_map operator_of left))
    go false = refl

piece_refused : (done : List Op) (piece : Text) (left : List Text) → operator_of piece ≡ None
    → before done (of_pieces (piece ∷ left)) ≡ None
piece_refused done piece left is = rw is refl

-- ---- the iterator over them

-- one call of the iterator
abbrev Gives : Split ℕ → Option (Bor Text) → Split ℕ → Type 0
Gives s r t = split_steps FindsChar (λ a b. b ≡ a) s r t

-- these operators were read from the text, and the iterator gives the pieces after them
pub record IsReadTo (text : Text) (done : List Op) (s : Split ℕ) : Type 0 where
  pub left : List Text
  pub yields : YieldsList Gives (λ piece. piece.now) s left
  pub same : before done (of_pieces left) ≡ operators_of text

same_before : (ops : Option (List Op)) → before [] ops ≡ ops
same_before None = refl
same_before (Some ops) = refl

pub starts : (text : Text) (s : Split ℕ) → split_text s ≡ text → split_has_more s ≡ true → split_pattern s ≡ comma
    → IsReadTo text [] s
starts text s whole more pattern = record {
  left = slice_split (λ b. b == comma) text;
  yields = YieldsList-from_str_split comma text (lit< tt) whole more pattern;
  same = same_before (operators_of text);
}

module _ (text : Text) (done : List Op) (s t : Split ℕ) (read : IsReadTo text done s) where
  -- the next piece is an operator's code
  pub goes_on : (op : Op) (piece : Bor Text) → Gives s (Some piece) t → piece.now ≡ code_of op
      → IsReadTo text (done ++ op ∷ []) t
  goes_on op piece step is = go read.left read.yields.runs read.same
    where
      go : (left : List Text) → AlwaysYields Gives (λ p. p.now) s left → before done (of_pieces left) ≡ operators_of text
          → IsReadTo text (done ++ op ∷ []) t
      go [] runs same = absurd (runs piece t step)
      go (first ∷ rest) runs same =
          let here = runs.1 piece t step in record {
            left = rest;
            yields = record { runs = here.1 };
            same = piece_read done first rest op (some_code first op (sym here.0 ∙ is)) ∙ same;
          }

  -- the next piece is no operator's code
  pub stops : (piece : Bor Text) → Gives s (Some piece) t → ((op : Op) → piece.now ≡ code_of op → ⊥)
      → None ≡ operators_of text
  stops piece step none = go read.left read.yields.runs read.same
    where
      go : (left : List Text) → AlwaysYields Gives (λ p. p.now) s left → before done (of_pieces left) ≡ operators_of text
          → None ≡ operators_of text
      go [] runs same = absurd (runs piece t step)
      go (first ∷ rest) runs same =
          let here = runs.1 piece t step in
          sym (piece_refused done first rest (no_code first (λ op is. none op (here.0 ∙ is)))) ∙ same

  -- no piece is left
  pub ends : Gives s None t → Some done ≡ operators_of text
  ends step = go read.left read.yields.runs read.same
    where
      go : (left : List Text) → AlwaysYields Gives (λ p. p.now) s left → before done (of_pieces left) ≡ operators_of text
          → Some done ≡ operators_of text
      go [] runs same = ap Some (sym (append-nil done)) ∙ same
      go (first ∷ rest) runs same = absurd (runs.0 t step)
