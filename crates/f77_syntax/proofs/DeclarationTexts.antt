-- Declared names: what is read is spelled so, and what is spelled is read so.
use Rattle.f77_syntax.proofs.Common.{refl, ◌∙◌, sym, ap, ◌≡◌, List, ℕ, true, [], ◌∷◌, Some, None, false, arith, subst, Option, ◌++◌, ◌==◌, append_assoc}
use Rattle.f77_syntax.proofs.Common.{append-nil, nat_tests, list_any-append, list_any, digits_value, ◌>>=◌, tree_after, value_ended, name_at, bound_at}
use Rattle.f77_syntax.proofs.Common.{close_at, items_at, names_at, decl_at, declarations_at, bounds_at, read_bounds, name_words, past_word_front, word_front}
use Rattle.f77_syntax.proofs.Common.{word_whole, EndsWord, SpellsName, SpellsDecls, SpellsNumber, SpellsDecl, is_name, is_number, past_word, word, Joined}
use Rattle.f77_syntax.proofs.Common.{DeclFields}
use Rattle.f77_syntax.proofs.Steps.{along, bind_ok, guarded, after_is, ended_is, name_front, name_found}
use Rattle.f77_syntax.proofs.JoinedTexts.{Fronts, IsSound, IsRead, Stops, items_is, items_read, joined_no_equals}
use Rattle.f77_syntax.proofs.WordTexts.{is_equals, words_no_equals, number_words}

-- declared names that are read are spelled so
pub name_is : IsSound SpellsName name_at
name_is s x e = let (is, n) = name_front s x e in record { text = x.0; is = is; spells = SpellsName.named n }

pub names_is : IsSound (Joined SpellsName) names_at
unfolding names_at
names_is = items_is name_is

pub number_is : IsSound SpellsNumber bound_at
number_is s x e =
    let (n, found) = guarded (is_number (word s)) (Some (digits_value 10 (word s), past_word s)) x e in
    along (Fronts SpellsNumber s) (digits_value 10 (word s), past_word s) x found (record { text = word s; is = word_whole s; spells = SpellsNumber.numeral n })

pub bounds_is : IsSound (Joined SpellsNumber) bounds_at
unfolding bounds_at
bounds_is = items_is number_is

with_bounds_is : (name rest : List ℕ) (o : Option (List ℕ)) (x : DeclFields × List ℕ) → is_name name ≡ true → tree_after 40 rest ≡ o → read_bounds name rest o ≡ Some x
    → Fronts SpellsDecl (name ++ rest) x
with_bounds_is name rest None x n at e =
    along (Fronts SpellsDecl (name ++ rest)) (record { name = name; bounds = [] }, rest) x e (record { text = name; is = refl; spells = SpellsDecl.scalar n })
with_bounds_is name rest (Some inner) x n at e =
    let (y, read, more) = bind_ok (bounds_at inner) (λ y. close_at y.1 >>= λ z. Some (record { name = name; bounds = y.0 }, z)) x e in
    let (z, close, end) = bind_ok (close_at y.1) (λ z. Some (record { name = name; bounds = y.0 }, z)) x more in
    let f = bounds_is inner y read in
    along (Fronts SpellsDecl (name ++ rest)) (record { name = name; bounds = y.0 }, z) x end (record {
      text = name ++ (40 ∷ (f.text ++ 41 ∷ []));
      is = ap (λ v. name ++ v) (after_is 40 rest inner at ∙ ap (λ v. 40 ∷ v) (f.is ∙ ap (λ v. f.text ++ v) (after_is 41 y.1 z close) ∙ sym (append_assoc f.text (41 ∷ []) z)))
          ∙ sym (append_assoc name (40 ∷ (f.text ++ 41 ∷ [])) z);
      spells = SpellsDecl.array n f.spells;
    })

pub decl_is : IsSound SpellsDecl decl_at
unfolding decl_at
decl_is s x e =
    let (y, named, rest) = bind_ok (name_at s) (λ y. read_bounds y.0 y.1 (tree_after 40 y.1)) x e in
    let (is, n) = name_front s y named in
    subst (λ v. Fronts SpellsDecl v x) (sym is) (with_bounds_is y.0 y.1 (tree_after 40 y.1) x n refl rest)

pub declarations_is : (s : List ℕ) (ds : List DeclFields) → declarations_at s ≡ Some ds → SpellsDecls s ds
unfolding declarations_at
declarations_is s ds e =
    let (x, read, end) = bind_ok (items_at decl_at s) (λ x. value_ended x.0 x.1) ds e in
    let f = items_is decl_is s x read in
    let (same, none) = ended_is x.0 x.1 ds end in
    let whole : s ≡ f.text = f.is ∙ ap (λ v. f.text ++ v) none ∙ append-nil f.text in
    subst (λ v. SpellsDecls v ds) (sym whole) (subst (λ v. SpellsDecls f.text v) same f.spells)

-- declared names that are spelled are read so
pub stops_word : (rest : List ℕ) → Stops rest → EndsWord rest
stops_word [] h = tt
stops_word (c ∷ s) h = grind (arith, nat_tests)

pub name_read : IsRead SpellsName name_at
name_read text x (SpellsName.named n) rest stops = name_found text rest n (stops_word rest stops)

pub number_read : IsRead SpellsNumber bound_at
number_read text x (SpellsNumber.numeral n) rest stops =
    rw (word_front text rest (number_words text n) (stops_word rest stops), past_word_front text rest (number_words text n) (stops_word rest stops), n) refl

no_list : (rest : List ℕ) → Stops rest → tree_after 40 rest ≡ None
no_list [] h = refl
no_list (c ∷ s) h = let other : (c == 40) ≡ false = grind (arith, nat_tests) in rw other refl

pub decl_read : IsRead SpellsDecl decl_at
unfolding decl_at bounds_at
decl_read text x (SpellsDecl.scalar n) rest stops = rw (name_found text rest n (stops_word rest stops), no_list rest stops) refl
decl_read text x (SpellsDecl.array {name = name} {text = inner} n p) rest stops =
    rw (
      append_assoc name (40 ∷ (inner ++ 41 ∷ [])) rest,
      append_assoc inner (41 ∷ []) rest,
      name_found name (40 ∷ (inner ++ (41 ∷ rest))) n refl,
      items_read bound_at number_read p (41 ∷ rest) refl refl,
    ) refl

pub declarations_read : {s : List ℕ} {ds : List DeclFields} → SpellsDecls s ds → declarations_at s ≡ Some ds
unfolding declarations_at
declarations_read {s = s} p =
    let e = items_read decl_at decl_read p [] tt refl in rw (sym (append-nil s)) (rw e refl)

pub name_no_equals : (text name : List ℕ) → SpellsName text name → list_any is_equals text ≡ false
name_no_equals text name (SpellsName.named h) = words_no_equals text (name_words text h)

number_no_equals : (text : List ℕ) (n : ℕ) → SpellsNumber text n → list_any is_equals text ≡ false
number_no_equals text n (SpellsNumber.numeral h) = words_no_equals text (number_words text h)

decl_no_equals : (text : List ℕ) (d : DeclFields) → SpellsDecl text d → list_any is_equals text ≡ false
decl_no_equals text d (SpellsDecl.scalar n) = words_no_equals text (name_words text n)
decl_no_equals text d (SpellsDecl.array {name = name} {text = inner} n p) =
    list_any-append is_equals name (40 ∷ (inner ++ 41 ∷ []))
    ∙ rw (words_no_equals name (name_words name n), list_any-append is_equals inner (41 ∷ []), joined_no_equals number_no_equals p) refl

pub declaration_no_equals : {text : List ℕ} {ds : List DeclFields} → SpellsDecls text ds → list_any is_equals text ≡ false
declaration_no_equals p = joined_no_equals decl_no_equals p
