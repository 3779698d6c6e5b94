-- The table of a list of uses of names, made from one after another.
use Rattle.f77_legal.proofs.Common.{◌≡◌, ◌∙◌, ap, map, sym, List, refl, ℕ, [], false, ◌∷◌, length, Bool, true, ◌++◌, ◌+◌, take, ◌<◌, get_or, subst, append-nil}
use Rattle.f77_legal.proofs.Common.{append_assoc, map-append, fold-append, list_any, bytes_eq, Symbol, NameUse, name_in, uses, uses_of, FactsFields, facts_of}
use Rattle.f77_legal.proofs.Common.{names_once, Entries, table, with_uses, no_facts, with_fact, with_use, LineFields, line_of, Line, statement_of}
use Rattle.std.proofs.lemmas.List.Concat.{flat_map-append}
use Rattle.f77_legal.proofs.Digests.{facts_hit, facts_miss, facts_none}
use Rattle.f77_legal.proofs.Listing.{one_more}
use Rattle.f77_legal.proofs.Symbols.{or_false, same_symbol, symbol_refl, Apart, any_once, once_push, once_apart}

abbrev pub rows : (Symbol → FactsFields) → List Symbol → Entries
rows f xs = map (λ q. (q, f q)) xs

-- one more use, where it is known what it adds to its own name
module _ (m : NameUse) (f g : Symbol → FactsFields)
    (hit : (q : Symbol) → bytes_eq (name_in m) q ≡ true → g q ≡ with_fact (f q) m)
    (miss : (q : Symbol) → bytes_eq (name_in m) q ≡ false → g q ≡ f q) where
  same_rows : (xs : List Symbol) → list_any (bytes_eq (name_in m)) xs ≡ false → rows f xs ≡ rows g xs
  same_rows [] none = refl
  same_rows (x ∷ xs) none =
      let h = or_false (bytes_eq (name_in m) x) (list_any (bytes_eq (name_in m)) xs) none in
      λ i. (x, sym (miss x h.0) i) ∷ same_rows xs h.1 i

  row_here : (x : Symbol) (xs : List Symbol) (b : Bool) → bytes_eq (name_in m) x ≡ b → Apart (x ∷ xs) → list_any (bytes_eq (name_in m)) (x ∷ xs) ≡ true
      → (list_any (bytes_eq (name_in m)) xs ≡ true → with_use (rows f xs) m ≡ rows g xs) → with_use (rows f (x ∷ xs)) m ≡ rows g (x ∷ xs)
  row_here x xs true t apart some rest =
      let none = subst (λ z. list_any (bytes_eq z) xs ≡ false) (sym (same_symbol (name_in m) x t)) apart.0 in
      rw t (λ i. (x, sym (hit x t) i) ∷ same_rows xs none i)
  row_here x xs false t apart some rest = let later = rw t at some in rw t (λ i. (x, sym (miss x t) i) ∷ rest later i)

  pub row_there : (xs : List Symbol) → Apart xs → list_any (bytes_eq (name_in m)) xs ≡ true → with_use (rows f xs) m ≡ rows g xs
  row_there [] apart some = cc
  row_there (x ∷ xs) apart some = row_here x xs (bytes_eq (name_in m) x) refl apart some (row_there xs apart.1)

  pub row_new : (xs : List Symbol) → list_any (bytes_eq (name_in m)) xs ≡ false → g (name_in m) ≡ with_fact no_facts m
      → with_use (rows f xs) m ≡ rows g (xs ++ name_in m ∷ [])
  row_new [] none first = λ i. (name_in m, sym first i) ∷ []
  row_new (x ∷ xs) none first =
      let h = or_false (bytes_eq (name_in m) x) (list_any (bytes_eq (name_in m)) xs) none in
      let apart : bytes_eq (name_in m) x ≡ false = h.0 in
      rw apart (λ i. (x, sym (miss x apart) i) ∷ row_new xs h.1 first i)

table_push : (ms : List NameUse) (m : NameUse) → with_use (table ms) m ≡ table (ms ++ m ∷ [])
table_push ms m = by (list_any (bytes_eq (name_in m)) (map name_in ms)) refl
  where
    names : names_once (map name_in (ms ++ m ∷ [])) ≡ names_once (map name_in ms ++ name_in m ∷ [])
    names = ap names_once (map-append name_in ms (m ∷ []))

    by : (b : Bool) → list_any (bytes_eq (name_in m)) (map name_in ms) ≡ b → with_use (table ms) m ≡ table (ms ++ m ∷ [])
    by true e =
        row_there m (facts_of ms) (facts_of (ms ++ m ∷ [])) (facts_hit ms m) (facts_miss ms m) (names_once (map name_in ms))
        (once_apart (map name_in ms)) (any_once (name_in m) (map name_in ms) ∙ e)
        ∙ ap (rows (facts_of (ms ++ m ∷ []))) (sym (names ∙ once_push (map name_in ms) (name_in m) ∙ rw e refl))
    by false e =
        row_new m (facts_of ms) (facts_of (ms ++ m ∷ [])) (facts_hit ms m) (facts_miss ms m) (names_once (map name_in ms))
        (any_once (name_in m) (map name_in ms) ∙ e)
        (facts_hit ms m (name_in m) (symbol_refl (name_in m)) ∙ ap (λ z. with_fact z m) (facts_none ms (name_in m) e))
        ∙ ap (rows (facts_of (ms ++ m ∷ []))) (sym (names ∙ once_push (map name_in ms) (name_in m) ∙ rw e refl))

table_more : (ms ns : List NameUse) → with_uses (table ms) ns ≡ table (ms ++ ns)
table_more ms [] = ap table (sym (append-nil ms))
table_more ms (m ∷ ns) =
    ap (λ z. with_uses z ns) (table_push ms m)
    ∙ table_more (ms ++ m ∷ []) ns
    ∙ ap table (append_assoc ms (m ∷ []) ns)

-- the table that the lines make
abbrev pub noted : List Line → Entries
noted lines = with_uses [] (uses (map line_of lines))

pub noted_all : (lines : List Line) → noted lines ≡ table (uses (map line_of lines))
noted_all lines = table_more [] (uses (map line_of lines))

pub noted_more : (lines : List Line) (i : ℕ) (line : Line) → i < length lines → line ≡ get_or lines i line
    → noted (take (i + 1) lines) ≡ with_uses (noted (take i lines)) (uses_of (statement_of line.stmt))
noted_more lines i line here is =
    ap noted (one_more lines i line here is)
    ∙ ap (λ z. with_uses [] (uses z)) (map-append line_of (take i lines) (line ∷ []))
    ∙ ap (with_uses []) (flat_map-append (λ (l : LineFields). uses_of l.stmt) (map line_of (take i lines)) (line_of line ∷ []))
    ∙ fold-append with_use [] (uses (map line_of (take i lines))) (uses_of (statement_of line.stmt) ++ [])
    ∙ ap (with_uses (noted (take i lines))) (append-nil (uses_of (statement_of line.stmt)))
