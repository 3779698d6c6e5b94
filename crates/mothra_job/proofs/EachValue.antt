-- The values of a list are read one by one.
use Rattle.mothra_job.proofs.Common.{◌≡◌, Some, ◌++◌, ap, ◌∙◌, List, [], drop, sym, ◌∷◌, option_map, refl, Option, length, ℕ, None, ◌+◌, ◌≤◌, ◌<◌, suc, get_or}
use Rattle.mothra_job.proofs.Common.{add-one, append-nil, append_assoc, drop-cons, each, Data, items_view, view, Value}
use Rattle.std.proofs.lemmas.List.{drop_all}

-- the items that were read, followed by what the other values are
abbrev behind : {A : Type 0} → List A → (Data → Option A) → List Value → Option (List A)
behind before read values = option_map (λ xs. before ++ xs) (each read (items_view values))

joined : {A : Type 0} (before : List A) (x : A) (rest : Option (List A))
    → option_map (λ xs. (before ++ (x ∷ [])) ++ xs) rest ≡ option_map (λ xs. before ++ xs) (option_map (λ xs. x ∷ xs) rest)
joined before x None = refl
joined before x (Some xs) = ap Some (append_assoc before (x ∷ []) xs)

first : {A : Type 0} (read : Data → Option A) (before : List A) (x : A) (value : Value) (rest : List Value) → read (view value) ≡ Some x
    → behind (before ++ (x ∷ [])) read rest ≡ behind before read (value ∷ rest)
first read before x value rest is = rw is (joined before x (each read (items_view rest)))

none : {A : Type 0} (read : Data → Option A) (before : List A) (value : Value) (rest : List Value) → read (view value) ≡ None
    → None ≡ behind before read (value ∷ rest)
none read before value rest is = rw is refl

split : (values : List Value) (i : ℕ) (value : Value) → i < length values → value ≡ get_or values i value
    → drop i values ≡ value ∷ drop (i + 1) values
split values i value within at = rw add-one (drop-cons values i value within ∙ ap (λ v. v ∷ drop (suc i) values) (sym at))

-- one more value is read
pub each_more : {A : Type 0} (read : Data → Option A) (values : List Value) (i : ℕ) (value : Value) (before : List A) (x : A) {all : Option (List A)}
    → i < length values → value ≡ get_or values i value → read (view value) ≡ Some x
    → option_map (λ xs. before ++ xs) (each read (items_view (drop i values))) ≡ all
    → option_map (λ xs. (before ++ (x ∷ [])) ++ xs) (each read (items_view (drop (i + 1) values))) ≡ all
each_more read values i value before x within at is so_far =
    first read before x value (drop (i + 1) values) is ∙ ap (behind before read) (sym (split values i value within at)) ∙ so_far

-- a value that can not be read
pub each_stopped : {A : Type 0} (read : Data → Option A) (values : List Value) (i : ℕ) (value : Value) (before : List A) {all : Option (List A)}
    → i < length values → value ≡ get_or values i value → read (view value) ≡ None
    → option_map (λ xs. before ++ xs) (each read (items_view (drop i values))) ≡ all → None ≡ all
each_stopped read values i value before within at is so_far =
    none read before value (drop (i + 1) values) is ∙ ap (behind before read) (sym (split values i value within at)) ∙ so_far

-- all values are read
pub each_ended : {A : Type 0} (read : Data → Option A) (values : List Value) (i : ℕ) (before : List A) {all : Option (List A)}
    → length values ≤ i → option_map (λ xs. before ++ xs) (each read (items_view (drop i values))) ≡ all → Some before ≡ all
each_ended read values i before over so_far =
    ap Some (sym (append-nil before)) ∙ ap (behind before read) (sym (drop_all i values over)) ∙ so_far
