-- What a program says of its names follows from its frame: no executable statement says anything of a name.
use Rattle.f77_legal.proofs.Common.{◌≡◌, ◌∙◌, ap, sym, List, refl, ℕ, [], false, ◌∷◌, length, Bool, true, None, ◌++◌, filter, ◌||◌, suc, take, Option, ◌&&◌}
use Rattle.f77_legal.proofs.Common.{not, ◌==◌, is_some, nat_le, replicate, take-map, filter-append, pointwise, list_any, cons_option, flat_map, option_map_or}
use Rattle.f77_legal.proofs.Common.{bytes_eq, Symbol, NameUse, name_in, product, HaveOneFrame, groups_of, uses, uses_of, framed, is_real, is_twice, bounds_of}
use Rattle.f77_legal.proofs.Common.{element_count, has_bad_data, is_array, Plain, frame, framed_line, is_dummy_name, kind_of, some_items, Dimensioned, Dummy}
use Rattle.f77_legal.proofs.Common.{Typed, bounds_given, bounds_in, dummies_given, first_item_or, is_dummy, is_integer_name, kind_in, kinds_given}
use Rattle.f77_legal.proofs.Common.{names_in_data, dummies, given_kinds, is_twice_in_data, needed_kinds, unit_name, LineFields, same_kind, function_named}
use Rattle.f77_legal.proofs.Common.{Statement, GroupFields, Integer}
use Rattle.std.specs.List.{filter_map}
use Rattle.f77_legal.proofs.Frames.{declares, declared_in-framed, groups_of-framed, dummies_of-framed, unit_name_of-framed}

-- what follows from the frame is the same for two programs of one frame
pub by_frame : {X : Type 0} (f : List LineFields → X) → ((p : List LineFields) → f (frame p) ≡ f p) → (p q : List LineFields) → HaveOneFrame p q
    → f p ≡ f q
by_frame f kept p q same = sym (kept p) ∙ ap f same ∙ kept q

-- the uses of names in a program that say more of a name than that it is there
abbrev declared : List LineFields → List NameUse
declared p = filter declares (uses p)

declared-frame : (p : List LineFields) → declared (frame p) ≡ declared p
declared-frame [] = refl
declared-frame (line ∷ lines) =
    filter-append declares (uses_of (framed line.stmt)) (uses (frame lines))
    ∙ (λ k. declared_in-framed line.stmt k ++ declared-frame lines k)
    ∙ sym (filter-append declares (uses_of line.stmt) (uses lines))

-- two tests may be done in either order
either_first : {X : Type 0} (a b : X → Bool) (xs : List X) → filter a (filter b xs) ≡ filter b (filter a xs)
either_first a b [] = refl
either_first a b (x ∷ xs) = by (a x) (b x) refl refl (either_first a b xs)
  where
    by : (c d : Bool) → a x ≡ c → b x ≡ d → filter a (filter b xs) ≡ filter b (filter a xs) → filter a (filter b (x ∷ xs)) ≡ filter b (filter a (x ∷ xs))
    by true true e f rest = rw (f, e, f) (ap (λ ys. x ∷ ys) rest)
    by true false e f rest = rw (f, e, f) rest
    by false true e f rest = rw (f, e) rest
    by false false e f rest = rw (f, e) rest

-- a use that declares nothing gives nothing
given_by_declared : {Y : Type 0} (give : NameUse → Option Y) → ((name : Symbol) → give (Plain name) ≡ None) → (all : List NameUse)
    → filter_map give (filter declares all) ≡ filter_map give all
given_by_declared give plain [] = refl
given_by_declared give plain (Dummy name ∷ all) = ap (cons_option (give (Dummy name))) (given_by_declared give plain all)
given_by_declared give plain (Typed kind declaration ∷ all) = ap (cons_option (give (Typed kind declaration))) (given_by_declared give plain all)
given_by_declared give plain (Dimensioned declaration ∷ all) = ap (cons_option (give (Dimensioned declaration))) (given_by_declared give plain all)
given_by_declared give plain (Plain name ∷ all) =
    given_by_declared give plain all ∙ ap (λ o. cons_option o (filter_map give all)) (sym (plain name))

dummies_by_declared : (all : List NameUse) → filter is_dummy (filter declares all) ≡ filter is_dummy all
dummies_by_declared [] = refl
dummies_by_declared (Dummy name ∷ all) = ap (λ rest. Dummy name ∷ rest) (dummies_by_declared all)
dummies_by_declared (Typed kind declaration ∷ all) = dummies_by_declared all
dummies_by_declared (Dimensioned declaration ∷ all) = dummies_by_declared all
dummies_by_declared (Plain name ∷ all) = dummies_by_declared all

abbrev names_it : Symbol → NameUse → Bool
names_it name name_use = bytes_eq name (name_in name_use)

pub dummies_given-frame : (p : List LineFields) (name : Symbol) → dummies_given (uses (frame p)) name ≡ dummies_given (uses p) name
dummies_given-frame p name =
    of_declared (frame p) ∙ (λ k. filter is_dummy (filter (names_it name) (declared-frame p k))) ∙ sym (of_declared p)
  where
    of_declared : (p : List LineFields) → dummies_given (uses p) name ≡ filter is_dummy (filter (names_it name) (declared p))
    of_declared p =
        sym (dummies_by_declared (filter (names_it name) (uses p)))
        ∙ ap (filter is_dummy) (either_first declares (names_it name) (uses p))

-- what is given of a name
given-frame : {Y : Type 0} (give : NameUse → Option Y) → ((name : Symbol) → give (Plain name) ≡ None) → (p : List LineFields) (name : Symbol)
    → filter_map give (filter (names_it name) (uses (frame p))) ≡ filter_map give (filter (names_it name) (uses p))
given-frame give plain p name =
    of_declared (frame p) ∙ (λ k. filter_map give (filter (names_it name) (declared-frame p k))) ∙ sym (of_declared p)
  where
    of_declared : (p : List LineFields) → filter_map give (filter (names_it name) (uses p)) ≡ filter_map give (filter (names_it name) (declared p))
    of_declared p =
        sym (given_by_declared give plain (filter (names_it name) (uses p)))
        ∙ ap (filter_map give) (either_first declares (names_it name) (uses p))

pub kinds_given-frame : (p : List LineFields) (name : Symbol) → kinds_given (uses (frame p)) name ≡ kinds_given (uses p) name
kinds_given-frame = given-frame kind_in (λ name. refl)

pub bounds_given-frame : (p : List LineFields) (name : Symbol) → bounds_given (uses (frame p)) name ≡ bounds_given (uses p) name
bounds_given-frame = given-frame bounds_in (λ name. refl)

pub kind_of-frame : (p : List LineFields) (name : Symbol) → kind_of (frame p) name ≡ kind_of p name
kind_of-frame p name = ap (first_item_or Integer) (kinds_given-frame p name)

pub bounds_of-frame : (p : List LineFields) (name : Symbol) → bounds_of (frame p) name ≡ bounds_of p name
bounds_of-frame p name = ap (first_item_or []) (bounds_given-frame p name)

pub is_real-frame : (p : List LineFields) (name : Symbol) → is_real (frame p) name ≡ is_real p name
is_real-frame p name = λ k. (length (kinds_given-frame p name k) == 0) && not (is_integer_name name)

pub unit_name-frame : (p : List LineFields) → unit_name (frame p) ≡ unit_name p
unit_name-frame [] = refl
unit_name-frame (line ∷ lines) = unit_name_of-framed line.stmt

pub is_twice-frame : (p : List LineFields) (name : Symbol) → is_twice (frame p) name ≡ is_twice p name
is_twice-frame p name = λ k.
    nat_le 2 (length (kinds_given-frame p name k))
    || (nat_le 2 (length (bounds_given-frame p name k))
    || (nat_le 2 (length (dummies_given-frame p name k))
    || (option_map_or (bytes_eq name) (unit_name-frame p k) false || is_some (function_named name))))

pub is_dummy_name-frame : (p : List LineFields) (name : Symbol) → is_dummy_name (frame p) name ≡ is_dummy_name p name
is_dummy_name-frame p name = λ k. nat_le 1 (length (dummies_given-frame p name k))

pub is_array-frame : (p : List LineFields) (name : Symbol) → is_array (frame p) name ≡ is_array p name
is_array-frame p name = λ k. is_some (some_items (bounds_of-frame p name k))

pub elements-frame : (p : List LineFields) (name : Symbol) → element_count (frame p) name ≡ element_count p name
elements-frame p name = ap product (bounds_of-frame p name)

pub names_in_data-frame : (p : List LineFields) → names_in_data (frame p) ≡ names_in_data p
names_in_data-frame [] = refl
names_in_data-frame (line ∷ lines) = λ k. flat_map (λ (group : GroupFields). group.names) (groups_of-framed line.stmt k) ++ names_in_data-frame lines k

pub is_twice_in_data-frame : (p : List LineFields) (i : ℕ) (name : Symbol) → is_twice_in_data (frame p) i name ≡ is_twice_in_data p i name
is_twice_in_data-frame p i name =
    ap (λ names. nat_le 2 (length (filter (bytes_eq name) names))) (ap names_in_data (take-map framed_line (suc i) p) ∙ names_in_data-frame (take (suc i) p))

pub dummies-frame : (p : List LineFields) → dummies (frame p) ≡ dummies p
dummies-frame [] = refl
dummies-frame (line ∷ lines) = dummies_of-framed line.stmt

-- programs of one frame say the same of each name
module _ (p q : List LineFields) (same : HaveOneFrame p q) where
  pub kind_of_same : (name : Symbol) → kind_of p name ≡ kind_of q name
  kind_of_same name = by_frame (λ r. kind_of r name) (λ r. kind_of-frame r name) p q same

  pub bounds_of_same : (name : Symbol) → bounds_of p name ≡ bounds_of q name
  bounds_of_same name = by_frame (λ r. bounds_of r name) (λ r. bounds_of-frame r name) p q same

  pub is_real_same : (name : Symbol) → is_real p name ≡ is_real q name
  is_real_same name = by_frame (λ r. is_real r name) (λ r. is_real-frame r name) p q same

  pub is_twice_same : (name : Symbol) → is_twice p name ≡ is_twice q name
  is_twice_same name = by_frame (λ r. is_twice r name) (λ r. is_twice-frame r name) p q same

  pub is_dummy_name_same : (name : Symbol) → is_dummy_name p name ≡ is_dummy_name q name
  is_dummy_name_same name = by_frame (λ r. is_dummy_name r name) (λ r. is_dummy_name-frame r name) p q same

  pub is_array_same : (name : Symbol) → is_array p name ≡ is_array q name
  is_array_same name = by_frame (λ r. is_array r name) (λ r. is_array-frame r name) p q same

  pub elements_same : (name : Symbol) → element_count p name ≡ element_count q name
  elements_same name = by_frame (λ r. element_count r name) (λ r. elements-frame r name) p q same

  pub is_twice_in_data_same : (i : ℕ) (name : Symbol) → is_twice_in_data p i name ≡ is_twice_in_data q i name
  is_twice_in_data_same i name = by_frame (λ r. is_twice_in_data r i name) (λ r. is_twice_in_data-frame r i name) p q same

  pub dummies_same : dummies p ≡ dummies q
  dummies_same = by_frame dummies dummies-frame p q same

  -- DATA with the same groups
  pub has_bad_data_same : (i : ℕ) (s t : Statement) → groups_of s ≡ groups_of t → has_bad_data p i s ≡ has_bad_data q i t
  has_bad_data_same i s t groups = λ k.
      list_any (λ name. is_dummy_name_same name k || is_twice_in_data_same i name k) (flat_map (λ (group : GroupFields). group.names) (groups k))
      || list_any (λ group. not (pointwise same_kind (needed group k) (given_kinds group))) (groups k)
    where
      needed : (group : GroupFields) → needed_kinds p group ≡ needed_kinds q group
      needed group = λ k. flat_map (λ name. replicate (elements_same name k) (kind_of_same name k)) group.names
