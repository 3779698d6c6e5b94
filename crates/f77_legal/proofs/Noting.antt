-- The table as one use of a name after another is put into it.
use Rattle.f77_legal.proofs.Common.{◌≡◌, ◌∙◌, ap, map, sym, List, refl, ℕ, [], false, ◌∷◌, length, Bool, true, Some, None, ◌≢◌, same_Some, none-some, lookup}
use Rattle.f77_legal.proofs.Common.{set_value, bytes_eq, Symbol, NameUse, entry_of, name_in, FactsFields, facts_fields, no_facts, with_fact, with_use}
use Rattle.f77_legal.proofs.Common.{facts_with_bounds, use_of, with_shape, Facts, insert_entry}
use Rattle.f77_legal.specs.declared.uses.Said.{Said}
use Rattle.f77_legal.specs.declared.uses.Said.TheVariants as said

pub bounds_given : (f : FactsFields) (bounds : List ℕ) → length bounds ≢ 0 → facts_with_bounds f bounds ≡ with_shape f bounds
bounds_given f [] some = absurd (some refl)
bounds_given f (b ∷ bounds) some = refl

-- an entry that is there already, and one that is added
module _ (m : NameUse) (w : Facts) where
  there : (e : Symbol × Facts) (es : List (Symbol × Facts)) (v : Facts) (b : Bool) → bytes_eq (name_in m) e.0 ≡ b → lookup (bytes_eq (name_in m)) (e ∷ es) ≡ Some v
      → facts_fields w ≡ with_fact (facts_fields v) m
      → (lookup (bytes_eq (name_in m)) es ≡ Some v → map entry_of (set_value (bytes_eq (name_in m)) es w) ≡ with_use (map entry_of es) m)
      → map entry_of (set_value (bytes_eq (name_in m)) (e ∷ es) w) ≡ with_use (map entry_of (e ∷ es)) m
  there e es v true t found is rest =
      let here = same_Some v e.1 (sym (rw t at found)) in
      rw t (ap (λ z. (e.0, z) ∷ map entry_of es) (is ∙ ap (λ z. with_fact (facts_fields z) m) here))
  there e es v false t found is rest = let later = rw t at found in rw t (ap (λ z. entry_of e ∷ z) (rest later))

  pub noted_there : (es : List (Symbol × Facts)) (v : Facts) → lookup (bytes_eq (name_in m)) es ≡ Some v → facts_fields w ≡ with_fact (facts_fields v) m
      → map entry_of (set_value (bytes_eq (name_in m)) es w) ≡ with_use (map entry_of es) m
  noted_there [] v found is = absurd (none-some v found)
  noted_there (e ∷ es) v found is = there e es v (bytes_eq (name_in m) e.0) refl found is (λ later. noted_there es v later is)

  new : (e : Symbol × Facts) (es : List (Symbol × Facts)) (b : Bool) → bytes_eq (name_in m) e.0 ≡ b → lookup (bytes_eq (name_in m)) (e ∷ es) ≡ None
      → (lookup (bytes_eq (name_in m)) es ≡ None → map entry_of (insert_entry bytes_eq es (name_in m) w) ≡ with_use (map entry_of es) m)
      → map entry_of (insert_entry bytes_eq (e ∷ es) (name_in m) w) ≡ with_use (map entry_of (e ∷ es)) m
  new e es true t found rest = let here = rw t at found in absurd (none-some e.1 (sym here))
  new e es false t found rest = let later = rw t at found in rw t (ap (λ z. entry_of e ∷ z) (rest later))

  pub noted_new : (es : List (Symbol × Facts)) → lookup (bytes_eq (name_in m)) es ≡ None → facts_fields w ≡ with_fact no_facts m
      → map entry_of (insert_entry bytes_eq es (name_in m) w) ≡ with_use (map entry_of es) m
  noted_new [] found is = ap (λ z. (name_in m, z) ∷ []) is
  noted_new (e ∷ es) found is = new e es (bytes_eq (name_in m) e.0) refl found (λ later. noted_new es later is)

-- what is said of a name, where it is there and where it is new
module _ (name : Symbol) (w : Facts) (es : List (Symbol × Facts)) where
  pub said_there : (s : Said) (v : Facts) → lookup (bytes_eq name) es ≡ Some v → facts_fields w ≡ with_fact (facts_fields v) (use_of name s)
      → map entry_of (set_value (bytes_eq name) es w) ≡ with_use (map entry_of es) (use_of name s)
  said_there said.Dummy v found is = noted_there (use_of name said.Dummy) w es v found is
  said_there (said.Typed kind bounds) v found is = noted_there (use_of name (said.Typed kind bounds)) w es v found is
  said_there (said.Dimensioned bounds) v found is = noted_there (use_of name (said.Dimensioned bounds)) w es v found is
  said_there said.Plain v found is = noted_there (use_of name said.Plain) w es v found is

  pub said_new : (s : Said) → lookup (bytes_eq name) es ≡ None → facts_fields w ≡ with_fact no_facts (use_of name s)
      → map entry_of (insert_entry bytes_eq es name w) ≡ with_use (map entry_of es) (use_of name s)
  said_new said.Dummy found is = noted_new (use_of name said.Dummy) w es found is
  said_new (said.Typed kind bounds) found is = noted_new (use_of name (said.Typed kind bounds)) w es found is
  said_new (said.Dimensioned bounds) found is = noted_new (use_of name (said.Dimensioned bounds)) w es found is
  said_new said.Plain found is = noted_new (use_of name said.Plain) w es found is
