-- The first line whose DATA statement breaks the clause.
use Rattle.f77_legal.proofs.Common.{◌≡◌, ◌∙◌, ap, map, sym, List, refl, ℕ, [], false, ◌∷◌, length, Bool, arith, true, Some, None, ◌++◌, ◌+◌, filter, ◌||◌, suc}
use Rattle.f77_legal.proofs.Common.{take, Option, ◌<◌, not, cond, drop, get_or, ◌≤◌, zero, append-nil, nat_le, add-one, append_assoc, drop-cons, if◌then◌else◌}
use Rattle.f77_legal.proofs.Common.{length-append, true≢false, flat_map-append, list_any, enumerate_from, bytes_eq, Symbol, array_bounds, kind_at, groups_of}
use Rattle.f77_legal.proofs.Common.{lines_where, bounds_of, has_bad_data, IsNameTable, is_dummy_name, kind_of, names_in_data, is_filled, dummy_at}
use Rattle.f77_legal.proofs.Common.{names_of_groups, breaks_data, Names, LineFields, line_of, Line, statement_of, Kind}
use Rattle.std.specs.List.{slice_get}
use Rattle.f77_legal.proofs.Lookups.{same_bounds, same_kinds, same_dummy_at}

-- the line of the first statement that breaks the clause on DATA, behind these names of DATA
abbrev pub first_bad : (Symbol → List ℕ) → (Symbol → Kind) → (Symbol → Bool) → List Symbol → List LineFields → Option ℕ
first_bad bounds kinds dummy before [] = None
first_bad bounds kinds dummy before (line ∷ rest) =
    if breaks_data bounds kinds dummy before line.stmt then Some line.line
    else first_bad bounds kinds dummy (before ++ names_of_groups (groups_of line.stmt)) rest

drop_all : (lines : List Line) (i : ℕ) → length lines ≤ i → drop i lines ≡ []
drop_all [] zero h = refl
drop_all [] (suc i) h = refl
drop_all (x ∷ xs) zero h = absurd (omega arith)
drop_all (x ∷ xs) (suc i) h = drop_all xs i (omega arith)

take_front : (before : List LineFields) (line : LineFields) (rest : List LineFields) → take (suc (length before)) (before ++ line ∷ rest) ≡ before ++ line ∷ []
take_front [] line rest = refl
take_front (b ∷ bs) line rest = ap (λ xs. b ∷ xs) (take_front bs line rest)

names_in_more : (before : List LineFields) (line : LineFields) → names_in_data (before ++ line ∷ []) ≡ names_in_data before ++ names_of_groups (groups_of line.stmt)
names_in_more before line =
    flat_map-append (λ line. names_of_groups (groups_of line.stmt)) before (line ∷ [])
    ∙ ap (λ xs. names_in_data before ++ xs) (append-nil (names_of_groups (groups_of line.stmt)))

badly_is : (p before : List LineFields) (line : LineFields) (rest : List LineFields) (i : ℕ) → p ≡ before ++ line ∷ rest → i ≡ length before
    → has_bad_data p i line.stmt ≡ breaks_data (bounds_of p) (kind_of p) (is_dummy_name p) (names_in_data before) line.stmt
badly_is p before line rest i e f =
    ap (λ all. list_any (λ name. is_dummy_name p name || nat_le 2 (length (filter (bytes_eq name) all))) (names_of_groups (groups_of line.stmt))
    || list_any (λ g. not (is_filled p g)) (groups_of line.stmt))
    (ap (λ n. names_in_data (take (suc n) p)) f ∙ ap (λ q. names_in_data (take (suc (length before)) q)) e ∙ ap names_in_data (take_front before line rest) ∙ names_in_more before line)

step : (b d : Bool) (n : ℕ) (line : LineFields) (x : Option ℕ) (others : List (ℕ × LineFields)) → d ≡ b → x ≡ slice_get (map (λ numbered. numbered.1.line) others) 0
    → cond b (Some line.line) x ≡ slice_get (map (λ numbered. numbered.1.line) (cond d ((n, line) ∷ others) others)) 0
step true true n line x others e f = refl
step false false n line x others e f = f
step true false n line x others e f = absurd (true≢false (sym e))
step false true n line x others e f = absurd (true≢false e)

first_from : (p before rest : List LineFields) (i : ℕ) → p ≡ before ++ rest → i ≡ length before
    → first_bad (bounds_of p) (kind_of p) (is_dummy_name p) (names_in_data before) rest
    ≡ slice_get (map (λ numbered. numbered.1.line) (filter (λ numbered. has_bad_data p numbered.0 numbered.1.stmt) (enumerate_from i rest))) 0
first_from p before [] i e f = refl
first_from p before (line ∷ rest) i e f =
    step (breaks_data (bounds_of p) (kind_of p) (is_dummy_name p) (names_in_data before) line.stmt) (has_bad_data p i line.stmt) i line _ _
    (badly_is p before line rest i e f)
    (ap (λ names. first_bad (bounds_of p) (kind_of p) (is_dummy_name p) names rest) (sym (names_in_more before line))
    ∙ first_from p (before ++ line ∷ []) rest (i + 1) (e ∙ sym (append_assoc before (line ∷ []) rest)) (omega (arith, length-append before (line ∷ []))))

pub first_is : (names : Names) (p : List LineFields) → IsNameTable names p
    → first_bad (array_bounds names) (kind_at names) (dummy_at names) [] p ≡ slice_get (lines_where (has_bad_data p) p) 0
first_is names p table =
    (λ j. first_bad (same_bounds names p table j) (same_kinds names p table j) (λ name. same_dummy_at names p table name j) [] p)
    ∙ first_from p [] p 0 refl refl

-- the first such line from line i on, by line i and those behind it
first_at : (bounds : Symbol → List ℕ) (kinds : Symbol → Kind) (dummy : Symbol → Bool) (before : List Symbol) (lines : List Line) (i : ℕ) (line : Line)
    → i < length lines → line ≡ get_or lines i line
    → first_bad bounds kinds dummy before (map line_of (drop i lines))
    ≡ (if breaks_data bounds kinds dummy before (statement_of line.stmt) then Some line.line
    else first_bad bounds kinds dummy (before ++ names_of_groups (groups_of (statement_of line.stmt))) (map line_of (drop (i + 1) lines)))
first_at bounds kinds dummy before lines i line p e =
    let s : drop i lines ≡ line ∷ drop (i + 1) lines = rw add-one (drop-cons lines i line p ∙ ap (λ x. x ∷ drop (suc i) lines) (sym e)) in
    ap (λ xs. first_bad bounds kinds dummy before (map line_of xs)) s

-- line i breaks the clause, or there is no line any more
module _ (bounds : Symbol → List ℕ) (kinds : Symbol → Kind) (dummy : Symbol → Bool) (before : List Symbol) (lines : List Line) (i : ℕ) where
  pub bad_here : (line : Line) (b : Bool) → i < length lines → line ≡ get_or lines i line → b ≡ breaks_data bounds kinds dummy before (statement_of line.stmt) → b ≡ true
      → first_bad bounds kinds dummy before (map line_of (drop i lines)) ≡ Some line.line
  bad_here line b p e f t =
      first_at bounds kinds dummy before lines i line p e
      ∙ ap (λ d. if d then Some line.line else first_bad bounds kinds dummy (before ++ names_of_groups (groups_of (statement_of line.stmt))) (map line_of (drop (i + 1) lines))) (sym f ∙ t)

  pub none_bad : length lines ≤ i → first_bad bounds kinds dummy before (map line_of (drop i lines)) ≡ None
  none_bad p = ap (λ xs. first_bad bounds kinds dummy before (map line_of xs)) (drop_all lines i p)
