-- Items joined by commas: which of them some text spells, and their canonical texts.
use Rattle.f77_program.proofs.Common.{◌≡◌, [], ◌++◌, ap, ◌∙◌, List, map, sym, ◌∷◌, refl, subst, ℕ, true, Bool, arith, codes, false, length, drop, ◌<◌}
use Rattle.f77_program.proofs.Common.{append-nil, append_assoc, ◌==◌, eqb-true, ◌+◌, get_or, drop_more, list_all, and_true, separated, Joined, some_all}
use Rattle.f77_program.proofs.Plain.{IsPlain, both}

-- what holds of each item holds of all of them
joined_each : {A : Type 0} {SpellsItem : List ℕ → A → Type 0} (p : A → Bool) → ((text : List ℕ) (x : A) → SpellsItem text x → p x ≡ true)
    → {text : List ℕ} {xs : List A} → Joined SpellsItem text xs → list_all p xs ≡ true
joined_each p each (Joined.last h) = rw (each _ _ h) refl
joined_each p each (Joined.more h k) = rw (each _ _ h) (joined_each p each k)

pub joined_all : {A : Type 0} {SpellsItem : List ℕ → A → Type 0} (p : A → Bool) → ((text : List ℕ) (x : A) → SpellsItem text x → p x ≡ true)
    → {text : List ℕ} {xs : List A} → Joined SpellsItem text xs → some_all p xs ≡ true
joined_all p each (Joined.last h) = rw (each _ _ h) refl
joined_all p each (Joined.more h k) = rw (each _ _ h) (joined_each p each k)

-- a text for each item gives a text for all of them
pub joined_text : {A : Type 0} {SpellsItem : List ℕ → A → Type 0} (p : A → Bool) → ((x : A) → p x ≡ true → (text : List ℕ) × SpellsItem text x)
    → (xs : List A) → some_all p xs ≡ true → (text : List ℕ) × Joined SpellsItem text xs
joined_text p each [] h = cc
joined_text p each (x ∷ []) h = let (text, s) = each x (and_true (p x) true h).0 in (text, Joined.last s)
joined_text p each (x ∷ y ∷ xs) h =
    let (first, others) = and_true (p x) (list_all p (y ∷ xs)) h in
    let (text, s) = each x first in
    let (rest, t) = joined_text p each (y ∷ xs) others in (text ++ (44 ∷ rest), Joined.more s t)

-- the texts of items, joined by commas
pub joined_back : {A : Type 0} {SpellsItem : List ℕ → A → Type 0} (p : A → Bool) (text : A → List ℕ) → ((x : A) → p x ≡ true → SpellsItem (text x) x)
    → (x : A) (xs : List A) → list_all p (x ∷ xs) ≡ true → Joined SpellsItem (text x ++ separated text (codes ",") xs) (x ∷ xs)
joined_back {SpellsItem = SpellsItem} p text each x [] h =
    subst (λ z. Joined SpellsItem z (x ∷ [])) (sym (append-nil (text x))) (Joined.last (each x (and_true (p x) true h).0))
joined_back p text each x (y ∷ xs) h =
    let (first, others) = and_true (p x) (list_all p (y ∷ xs)) h in Joined.more (each x first) (joined_back p text each y xs others)

pub plain_separated : {A : Type 0} (p : A → Bool) (text : A → List ℕ) → ((x : A) → p x ≡ true → IsPlain (text x))
    → (before : List ℕ) → IsPlain before → (xs : List A) → list_all p xs ≡ true → IsPlain (separated text before xs)
plain_separated p text each before b [] h = refl
plain_separated p text each before b (x ∷ xs) h =
    let (first, others) = and_true (p x) (list_all p xs) h in
    both before (text x ++ separated text (codes ",") xs) b (both (text x) (separated text (codes ",") xs) (each x first) (plain_separated p text each (codes ",") refl xs others))

-- what the code finds of the items it keeps
pub some_seen : {X B : Type 0} (view : X → B) (p : B → Bool) (items : List X) → (length items == 0) ≡ false → list_all p (map view items) ≡ some_all p (map view items)
some_seen view p [] h = cc
some_seen view p (x ∷ items) h = refl

pub none_seen : {X B : Type 0} (view : X → B) (p : B → Bool) (items : List X) → (length items == 0) ≡ true → some_all p (map view items) ≡ false
none_seen view p [] h = refl
none_seen view p (x ∷ items) h = absurd (let k = eqb-true (length (x ∷ items)) 0 h in omega arith)

pub some_here : {B : Type 0} (p : B → Bool) (items : List B) → (length items == 0) ≡ false → list_all p items ≡ some_all p items
some_here p [] h = cc
some_here p (x ∷ items) h = refl

pub none_here : {B : Type 0} (p : B → Bool) (items : List B) → (length items == 0) ≡ true → some_all p items ≡ false
none_here p [] h = refl
none_here p (x ∷ items) h = absurd (let k = eqb-true (length (x ∷ items)) 0 h in omega arith)

-- the text of one more item
one_text : {B : Type 0} (text : B → List ℕ) (old mid new before whole : List ℕ) (x : B) (xs ys : List B) → ys ≡ x ∷ xs → old ++ separated text before ys ≡ whole
    → mid ≡ old ++ before → new ≡ mid ++ text x → new ++ separated text (codes ",") xs ≡ whole
one_text text old mid new before whole x xs ys first e f g =
    ap (λ z. z ++ separated text (codes ",") xs) (g ∙ ap (λ z. z ++ text x) f ∙ append_assoc old before (text x))
    ∙ append_assoc old (before ++ text x) (separated text (codes ",") xs)
    ∙ ap (λ z. old ++ z) (append_assoc before (text x) (separated text (codes ",") xs))
    ∙ sym (ap (λ z. old ++ separated text before z) first) ∙ e

pub separated_next : {B : Type 0} (text : B → List ℕ) (items : List B) (i : ℕ) (d : B) (old mid new before whole : List ℕ) → i < length items
    → old ++ separated text before (drop i items) ≡ whole → mid ≡ old ++ before → new ≡ mid ++ text (get_or items i d)
    → new ++ separated text (codes ",") (drop (i + 1) items) ≡ whole
separated_next text items i d old mid new before whole h e f g =
    one_text text old mid new before whole (get_or items i d) (drop (i + 1) items) (drop i items) (drop_more items i d h) e f g

pub separated_map : {X B : Type 0} (view : X → B) (text : B → List ℕ) (before : List ℕ) (items : List X)
    → separated (λ x. text (view x)) before items ≡ separated text before (map view items)
separated_map view text before [] = refl
separated_map view text before (x ∷ items) = ap (λ z. before ++ (text (view x) ++ z)) (separated_map view text (codes ",") items)
