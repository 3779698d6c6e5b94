-- A table of labels, as one more statement goes in, and what is read from it.
use Rattle.f77_legal.proofs.Common.{◌≡◌, ◌∙◌, ap, map, sym, List, refl, ℕ, [], false, ◌∷◌, length, Bool, true, Some, None, ◌++◌, filter, ◌||◌, suc, Option}
use Rattle.f77_legal.proofs.Common.{◌&&◌, ◌<◌, cond, get_or, option_map, ◌==◌, is_some, slice_get, append-nil, eqb-true, nat_eq, nat_eq_equiv, map-append}
use Rattle.f77_legal.proofs.Common.{filter_map-append, same_Some, slice_get-map, slice_get_read, list_any, find, cons_option, keys_of, option_map_or}
use Rattle.f77_legal.proofs.Common.{option_and_then, label_place, IsLabelTable, statement_with, distinct, is_double, labels, bears, place_in, noted, Labels}
use Rattle.f77_legal.proofs.Common.{LineFields, line_of, Line, statement_of, keys, IsUnique, get, insert_entry, Updates}
use Rattle.std.proofs.lemmas.Map.Entries.{lookup_from_place}
use Rattle.indexmap.proofs.CallerLemmas.{insert_entry-new, keys-insert_entry-present}
use Rattle.f77_legal.specs.declared.labels.Place.{Place}
use Rattle.f77_legal.proofs.DistinctLabels.{flipped, distinct-push, find_distinct, find_first}
use Rattle.f77_legal.proofs.Positions.{first_with, position-push, position_some, twice-push, twice_none}

abbrev at : ℕ → Bool → Place
at first again = record { first = first; again = again }

-- a label is among those of the program if a statement has it
borne_by : (own : Option ℕ) (label : ℕ) (rest : List ℕ) (b : Bool) → b ≡ list_any (nat_eq label) rest
    → (option_map_or (λ o. o == label) own false || b) ≡ list_any (nat_eq label) (cons_option own rest)
borne_by None label rest b h = h
borne_by (Some o) label rest b h = ap (λ x. x || b) (flipped o label) ∙ ap (λ x. nat_eq label o || x) h

borne : (program : List LineFields) (label : ℕ) → list_any (bears label) program ≡ list_any (nat_eq label) (labels program)
borne [] label = refl
borne (line ∷ program) label = borne_by line.label label (labels program) (list_any (bears label) program) (borne program label)

placed : (program : List LineFields) (label : ℕ) → is_some (label_place program label) ≡ list_any (nat_eq label) (labels program)
placed program label = position_some (bears label) program ∙ borne program label

-- The places, with one more statement.
place_by : (double here : Bool) (o : Option ℕ) (n : ℕ) → (o ≡ None → double ≡ false)
    → option_map (λ first. at first (double || (here && is_some o))) (first_with o n here)
    ≡ cond here (Some (noted (option_map (λ first. at first double) o) n)) (option_map (λ first. at first double) o)
place_by double false None n none = refl
place_by true false (Some j) n none = refl
place_by false false (Some j) n none = refl
place_by double true None n none = rw (none refl) refl
place_by true true (Some j) n none = refl
place_by false true (Some j) n none = refl

place_push : (program : List LineFields) (line : LineFields) (q : ℕ)
    → place_in (program ++ line ∷ []) q ≡ cond (bears q line) (Some (noted (place_in program q) (length program))) (place_in program q)
place_push program line q =
    ap (λ o. option_map (λ first. at first (is_double (program ++ line ∷ []) q)) o) (position-push (bears q) program line)
    ∙ ap (λ b. option_map (λ first. at first b) (first_with (label_place program q) (length program) (bears q line))) (twice-push (bears q) program line)
    ∙ place_by (is_double program q) (bears q line) (label_place program q) (length program) (twice_none (bears q) program)

-- a statement without a label leaves the table as it was
pub unlabelled : (table : Labels) (program : List LineFields) (line : LineFields) → line.label ≡ None → IsLabelTable table program → IsLabelTable table (program ++ line ∷ [])
unlabelled table program line none is =
    record {
      places = λ q.
          is.places q
          ∙ sym (place_push program line q ∙ ap (λ own. cond (option_map_or (λ o. o == q) own false) (Some (noted (place_in program q) (length program))) (place_in program q)) none);
      order =
          is.order
          ∙ ap distinct (sym (filter_map-append (λ l. l.label) program (line ∷ []) ∙ ap (λ own. labels program ++ cons_option own []) none ∙ append-nil (labels program)));
    }

-- a label is put into the table, or is noted as double
here_by : (label q n : ℕ) (b : Bool) (program : List LineFields) (old : Option Place) → nat_eq label q ≡ b → old ≡ place_in program label
    → cond b (Some (noted old n)) (place_in program q) ≡ cond b (Some (noted (place_in program q) n)) (place_in program q)
here_by label q n true program old same is = ap (λ o. Some (noted o n)) (is ∙ ap (place_in program) (eqb-true label q same))
here_by label q n false program old same is = refl

some_mapped : {A B : Type 0} (f : A → B) (o : Option A) → is_some (option_map f o) ≡ is_some o
some_mapped f None = refl
some_mapped f (Some x) = refl

keys_by : (old : Labels) (label : ℕ) (place : Place) (o : Option Place) → get nat_eq old.places label ≡ o
    → keys_of (insert_entry nat_eq old.places.entries label place) ≡ keys old.places ++ cond (is_some o) [] (label ∷ [])
keys_by old label place None e =
    ap keys_of (insert_entry-new nat_eq old.places label place e) ∙ map-append (λ e. e.0) old.places.entries ((label, place) ∷ [])
keys_by old label place (Some found) e =
    keys-insert_entry-present nat_eq old.places label place (ap is_some e) ∙ sym (append-nil (keys old.places))

pub labelled : (old new : Labels) (program : List LineFields) (line : LineFields) (i label : ℕ) (place : Place)
    → line.label ≡ Some label → IsLabelTable old program → length program ≡ i → place ≡ noted (get nat_eq old.places label) i
    → Updates nat_eq old.places new.places label (Some place)
    → new.places.entries ≡ insert_entry nat_eq old.places.entries label place
    → IsLabelTable new (program ++ line ∷ [])
labelled old new program line i label place has is long placed_at updates entries =
    let before = get nat_eq old.places label in
    let put : place ≡ noted before (length program) = placed_at ∙ ap (noted before) (sym long) in
    let own : is_some before ≡ list_any (nat_eq label) (labels program) = ap is_some (is.places label) ∙ some_mapped _ (label_place program label) ∙ placed program label in
    record {
      places = λ q.
          updates.0 q
          ∙ ap (λ v. cond (nat_eq label q) (Some v) (get nat_eq old.places q)) put
          ∙ ap (λ o. cond (nat_eq label q) (Some (noted before (length program))) o) (is.places q)
          ∙ here_by label q (length program) (nat_eq label q) program before refl (is.places label)
          ∙ sym (place_push program line q ∙ ap (λ x. cond (option_map_or (λ o. o == q) x false) (Some (noted (place_in program q) (length program))) (place_in program q)) has);
      order =
          ap keys_of entries
          ∙ keys_by old label place before refl
          ∙ ap (λ ks. ks ++ cond (is_some before) [] (label ∷ [])) is.order
          ∙ ap (λ b. distinct (labels program) ++ cond b [] (label ∷ [])) own
          ∙ sym (distinct-push (labels program) label)
          ∙ ap distinct (sym (filter_map-append (λ l. l.label) program (line ∷ []) ∙ ap (λ x. labels program ++ cons_option x []) has));
    }

-- the first double label, found in the entries
again_by : (o : Option ℕ) (double : Bool) (place : Place) → option_map (λ first. at first double) o ≡ Some place → place.again ≡ double
again_by None double place e = cc
again_by (Some j) double place e = ap (λ p. p.again) (sym (same_Some (at j double) place e))

find_keys : (p : ℕ → Bool) (entries : List (ℕ × Place)) → ((i : ℕ) (e : ℕ × Place) → slice_get entries i ≡ Some e → e.1.again ≡ p e.0)
    → option_map (λ e. e.0) (find (λ e. e.1.again) entries) ≡ find p (keys_of entries)
find_keys p [] each = refl
find_keys p (e ∷ es) each = by e.1.again (p e.0) (each 0 e refl) (find_keys p es (λ i. each (suc i)))
  where
    by : (a b : Bool) → a ≡ b → option_map (λ x. x.0) (find (λ x. x.1.again) es) ≡ find p (keys_of es)
        → option_map (λ x. x.0) (cond a (Some e) (find (λ x. x.1.again) es)) ≡ cond b (Some e.0) (find p (keys_of es))
    by true true same rest = refl
    by false false same rest = rest
    by true false same rest = cc
    by false true same rest = cc

pub first_double : (table : Labels) (program : List LineFields) → IsUnique nat_eq table.places → IsLabelTable table program
    → option_map (λ e. e.0) (find (λ e. e.1.again) table.places.entries) ≡ slice_get (filter (is_double program) (labels program)) 0
first_double table program unique is =
    find_keys (is_double program) table.places.entries double
    ∙ ap (find (is_double program)) is.order
    ∙ find_distinct (is_double program) (labels program)
    ∙ find_first (is_double program) (labels program)
  where
    double : (i : ℕ) (e : ℕ × Place) → slice_get table.places.entries i ≡ Some e → e.1.again ≡ is_double program e.0
    double i e there = again_by (label_place program e.0) (is_double program e.0) e.1 (sym (is.places e.0) ∙ lookup_from_place nat_eq_equiv table.places.entries i e.0 e.1 unique there)

-- the statement that a place gives
pub statement_found : (lines : List Line) (label : Option ℕ) (l p : ℕ) (line : Line) → label ≡ Some l → label_place (map line_of lines) l ≡ Some p
    → p < length lines → line ≡ get_or lines p line → Some (statement_of line.stmt) ≡ option_and_then (statement_with (map line_of lines)) label
statement_found lines label l p line named at within is =
    let here : slice_get lines p ≡ Some line = slice_get_read lines (length lines) p line refl within is in
    rw (named, at, slice_get-map line_of lines p, here) refl
