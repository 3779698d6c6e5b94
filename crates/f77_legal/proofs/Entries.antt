-- The ends of loops and branches as lists, one entry a statement.
use Rattle.f77_legal.proofs.Common.{◌≡◌, ◌∙◌, ap, map, sym, List, refl, ℕ, [], false, ◌∷◌, length, None, ◌++◌, ◌+◌, suc, take, Option, ◌&&◌, ◌<◌, get_or, zero}
use Rattle.f77_legal.proofs.Common.{nat_lt, map-append, length-map, take_more, option_map_or, option_and_then, nth_statement, label_place, terminal_label}
use Rattle.f77_legal.proofs.Common.{IsBlockTable, IsBranches, IsTerminals, terminal_of, Blocks, LineFields, line_of, Line, statement_of}
use Rattle.f77_legal.proofs.BlockTables.{branch_end_held, branch_holds_at}

entry_terminal : (program : List LineFields) (lines : List Line) (d : ℕ)
    → get_or (map (λ line. terminal_of program (statement_of line.stmt)) lines) d None
    ≡ option_and_then (label_place program) (option_and_then terminal_label (nth_statement (map line_of lines) d))
entry_terminal program [] d = refl
entry_terminal program (x ∷ lines) zero = refl
entry_terminal program (x ∷ lines) (suc d) = entry_terminal program lines d

pub are_terminals : (lines : List Line) (ends : List (Option ℕ)) → ends ≡ map (λ line. terminal_of (map line_of lines) (statement_of line.stmt)) lines
    → IsTerminals ends (map line_of lines)
are_terminals lines ends e d = rw e (entry_terminal (map line_of lines) lines d)

pub are_branches : (table : Blocks) (program : List LineFields) (ends : List (Option ℕ)) → IsBlockTable table program → ends ≡ table.branch_ends.items → IsBranches ends program
are_branches table program ends is same i k =
    ap (λ end. nat_lt i k && option_map_or (nat_lt k) end false) (ap (λ xs. get_or xs i None) same ∙ branch_end_held table program i is) ∙ branch_holds_at program i k

-- one more entry is pushed
pub pushed : {X A : Type 0} (f : X → A) (xs : List X) (i : ℕ) (x : X) (old new : List A) → x ≡ get_or xs i x → i < length xs
    → old ≡ map f (take i xs) → new ≡ old ++ f x ∷ [] → new ≡ map f (take (i + 1) xs)
pushed f xs i x old new at lt e n =
    let cut : take (i + 1) xs ≡ take i xs ++ x ∷ [] = take_more xs i x lt ∙ ap (λ y. take i xs ++ y ∷ []) (sym at) in
    n ∙ ap (λ ys. ys ++ f x ∷ []) e ∙ sym (ap (map f) cut ∙ map-append f (take i xs) (x ∷ []))

pub one_entry_each : {X A B : Type 0} (f : X → A) (g : X → B) (xs : List X) (ends : List A) → ends ≡ map f xs → length ends ≡ length (map g xs)
one_entry_each f g xs ends e = ap length e ∙ length-map xs f ∙ sym (length-map xs g)
