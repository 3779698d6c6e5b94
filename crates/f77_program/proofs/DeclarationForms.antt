-- Declared names: which of them some text spells, and their canonical texts.
use Rattle.f77_program.proofs.Common.{◌≡◌, [], ◌++◌, List, sym, ◌∷◌, refl, subst, ℕ, true, Bool, arith, codes, ◌&&◌, append-nil, decimal, list_all}
use Rattle.f77_program.proofs.Common.{declarations_text, decl_text, bounds_text, declaration_formed, is_decl, decl_constants, declaration_constants}
use Rattle.f77_program.proofs.Common.{small_bound, and_true, SpellsNumber, SpellsDecl, SpellsDecls, is_name, separated, DeclFields}
use Rattle.f77_program.proofs.Back.{decimal_number, small}
use Rattle.f77_program.proofs.Forming.{numeral}
use Rattle.f77_program.proofs.Plain.{IsPlain, both, plain_name, plain_decimal}
use Rattle.f77_program.proofs.JoinedForms.{joined_all, joined_text, joined_back, plain_separated}

-- declared names: some text spells them exactly where they are formed
decl_formed : (text : List ℕ) (d : DeclFields) → SpellsDecl text d → is_decl is_name d ≡ true
decl_formed text d (SpellsDecl.scalar n) = n
decl_formed text d (SpellsDecl.array n p) = n

pub declaration_is_formed : {text : List ℕ} {ds : List DeclFields} → SpellsDecls text ds → declaration_formed is_name ds ≡ true
declaration_is_formed p = joined_all (is_decl is_name) decl_formed p

-- a number of any size
abbrev pub any_size : ℕ → Bool
any_size n = true

pub any_sizes : (ns : List ℕ) → list_all any_size ns ≡ true
any_sizes [] = refl
any_sizes (n ∷ ns) = any_sizes ns

pub number_for : (n : ℕ) → any_size n ≡ true → (text : List ℕ) × SpellsNumber text n
number_for n h = let (text, is, value) = numeral n n (omega arith) in (text, subst (SpellsNumber text) value (SpellsNumber.numeral is))

decl_for : (d : DeclFields) → is_decl is_name d ≡ true → (text : List ℕ) × SpellsDecl text d
decl_for d h = by_bounds d.bounds
  where
    by_bounds : (bounds : List ℕ) → (text : List ℕ) × SpellsDecl text (record { name = d.name; bounds = bounds })
    by_bounds [] = (d.name, SpellsDecl.scalar h)
    by_bounds (b ∷ bs) = let (text, p) = joined_text any_size number_for (b ∷ bs) (any_sizes bs) in (d.name ++ (40 ∷ (text ++ 41 ∷ [])), SpellsDecl.array h p)

pub declaration_spelled : (ds : List DeclFields) → declaration_formed is_name ds ≡ true → (text : List ℕ) × SpellsDecls text ds
declaration_spelled ds h = joined_text (is_decl is_name) decl_for ds h

-- declared names: the canonical text spells them
pub number_back : (n : ℕ) → small_bound n ≡ true → SpellsNumber (decimal n) n
number_back n h = let d = decimal_number n (small n h) in subst (SpellsNumber (decimal n)) d.1 (SpellsNumber.numeral d.0)

-- a name, and bounds that INTEGER has
abbrev is_written : DeclFields → Bool
is_written d = is_decl is_name d && decl_constants d

are_written : (ds : List DeclFields) → list_all (is_decl is_name) ds ≡ true → list_all decl_constants ds ≡ true → list_all is_written ds ≡ true
are_written [] h k = refl
are_written (d ∷ ds) h k =
    let (first, others) = and_true (is_decl is_name d) (list_all (is_decl is_name) ds) h in
    let (small_first, small_others) = and_true (decl_constants d) (list_all decl_constants ds) k in
    rw (first, small_first) (are_written ds others small_others)

decl_back : (d : DeclFields) → is_written d ≡ true → SpellsDecl (decl_text d) d
decl_back d h =
    let (is, fits) = and_true (is_decl is_name d) (decl_constants d) h in by_bounds d.bounds is fits
  where
    by_bounds : (bounds : List ℕ) → is_name d.name ≡ true → list_all small_bound bounds ≡ true → SpellsDecl (d.name ++ bounds_text bounds) (record { name = d.name; bounds = bounds })
    by_bounds [] is fits = subst (λ z. SpellsDecl z (record { name = d.name; bounds = [] })) (sym (append-nil d.name)) (SpellsDecl.scalar is)
    by_bounds (b ∷ bs) is fits = SpellsDecl.array is (joined_back small_bound decimal number_back b bs fits)

pub declaration_back : (ds : List DeclFields) → declaration_formed is_name ds ≡ true → declaration_constants ds ≡ true → SpellsDecls (declarations_text ds) ds
declaration_back [] h k = cc
declaration_back (d ∷ ds) h k = joined_back is_written decl_text decl_back d ds (are_written (d ∷ ds) h k)

-- the characters of these texts
plain_bounds : (bounds : List ℕ) → IsPlain (bounds_text bounds)
plain_bounds [] = refl
plain_bounds (b ∷ bs) =
    both (separated decimal (codes "(") (b ∷ bs)) (codes ")") (plain_separated any_size decimal (λ n h. plain_decimal n) (codes "(") refl (b ∷ bs) (any_sizes bs)) refl

plain_decl : (d : DeclFields) → is_decl is_name d ≡ true → IsPlain (decl_text d)
plain_decl d h = both d.name (bounds_text d.bounds) (plain_name d.name h) (plain_bounds d.bounds)

pub plain_declaration : (ds : List DeclFields) → declaration_formed is_name ds ≡ true → IsPlain (declarations_text ds)
plain_declaration [] h = cc
plain_declaration (d ∷ ds) h = plain_separated (is_decl is_name) decl_text plain_decl [] refl (d ∷ ds) h
