-- Valuations that fit tables of atoms.
use Rattle.f77_terms.proofs.Common.{arith, ◌≡◌, ◌<◌, ◌+◌, ℕ, zero, suc, List, [], ◌∷◌, ◌++◌, length, length-append, get_or, Some, ℤ, pos, refl, sym, ap, ◌∙◌}
use Rattle.f77_terms.proofs.Common.{◌+ℤ◌, ◌*ℤ◌, slice_get, get_or_append_left, get_or-append-add, Part, Valuation, parts_value}
use Rattle.f77_terms.proofs.Common.{sum_value, Numbers, AreOfAtomsBelow, IsOfAtomsBelow, IsOfEarlierAtoms, slot_behind, function_value, key_value}
use Rattle.f77_terms.specs.declared.atoms.Key.{Key}
use Rattle.f77_terms.specs.declared.atoms.Key.TheVariants as key
use Rattle.f77_terms.specs.declared.terms.Term.{Term}

-- valuations that agree on the atoms below a number agree on what has no others
module _ (n : ℕ) (v w : Valuation) (agree : (k : ℕ) → k < n → v k ≡ w k) where
  parts_agree : (parts : List Part) → AreOfAtomsBelow n parts → parts_value v parts ≡ parts_value w parts
  parts_agree [] within = refl
  parts_agree (p ∷ ps) within =
      ap (λ z. p.factor *ℤ z +ℤ parts_value v ps) (agree p.atom (within 0 p refl))
      ∙ ap (λ z. p.factor *ℤ w p.atom +ℤ z) (parts_agree ps (λ k part e. within (suc k) part e))

  terms_agree : (term : Term) → IsOfAtomsBelow n term → sum_value v term ≡ sum_value w term
  terms_agree term within = ap (λ z. term.constant +ℤ z) (parts_agree term.parts.items within)

  pub keys_agree : (held : Numbers) (key : Key) → IsOfEarlierAtoms n key → key_value held v key ≡ key_value held w key
  keys_agree held (key.Slot slot) order = refl
  keys_agree held (key.Element first index) order = ap (λ z. held (slot_behind first z)) (terms_agree index order)
  keys_agree held (key.Function f a b) order =
      ap (λ z. function_value f z (sum_value v b)) (terms_agree a order.0) ∙ ap (function_value f (sum_value w a)) (terms_agree b order.1)

-- the number of each atom in a list
abbrev pub number_of : List ℤ → Valuation
number_of zs = λ k. get_or zs k (pos 0)

-- the numbers of more atoms, by those before
abbrev pub numbers_of : Numbers → List ℤ → List Key → List ℤ
numbers_of held zs [] = zs
numbers_of held zs (key ∷ keys) = numbers_of held (zs ++ key_value held (number_of zs) key ∷ []) keys

number_kept : (held : Numbers) (zs : List ℤ) (keys : List Key) (k : ℕ) → k < length zs → number_of (numbers_of held zs keys) k ≡ number_of zs k
number_kept held zs [] k h = refl
number_kept held zs (key ∷ keys) k h =
    let z = key_value held (number_of zs) key in
    number_kept held (zs ++ z ∷ []) keys k (omega (arith, length-append zs (z ∷ []))) ∙ get_or_append_left zs (z ∷ []) (pos 0) k h

pub number_made : (held : Numbers) (zs : List ℤ) (keys : List Key) (j n : ℕ) (key : Key) → slice_get keys j ≡ Some key → n ≡ length zs + j → IsOfEarlierAtoms n key
    → number_of (numbers_of held zs keys) n ≡ key_value held (number_of (numbers_of held zs keys)) key
number_made held zs [] j n key is at order = absurd (cc)
number_made held zs (x ∷ xs) zero n key is at order =
    let same : x ≡ key = cc in
    let z = key_value held (number_of zs) x in
    let long = length-append zs (z ∷ []) in
    let kept = number_kept held (zs ++ z ∷ []) xs n (omega (arith, long)) in
    let here = ap (λ k. get_or (zs ++ z ∷ []) k (pos 0)) at ∙ get_or-append-add zs (z ∷ []) 0 (pos 0) in
    kept ∙ here ∙ ap (key_value held (number_of zs)) same
    ∙ keys_agree n (number_of zs) (number_of (numbers_of held (zs ++ z ∷ []) xs))
    (λ k h. sym (number_kept held (zs ++ z ∷ []) xs k (omega (arith, long, h, at)) ∙ get_or_append_left zs (z ∷ []) (pos 0) k (omega (arith, h, at)))) held key order
number_made held zs (x ∷ xs) (suc j) n key is at order =
    let z = key_value held (number_of zs) x in
    number_made held (zs ++ z ∷ []) xs j n key is (omega (arith, length-append zs (z ∷ []), at)) order
