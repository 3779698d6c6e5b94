-- Items joined by commas: what is read is spelled so, and what is spelled is read so.
use Rattle.f77_syntax.proofs.Common.{refl, ◌∙◌, sym, ap, ◌≡◌, List, ℕ, true, [], ◌∷◌, Some, None, false, length, arith, subst, Option, ◌++◌, Bool, ◌≤◌, ◌==◌}
use Rattle.f77_syntax.proofs.Common.{map, append_assoc, ◌<◌, suc, zero, length-append, ◌||◌, map-append, list_any-append, none-some, list_any, ◌>>=◌}
use Rattle.f77_syntax.proofs.Common.{tree_after, items_at, Fails, items_within, with_others, ReadError, Joined}
use Rattle.f77_syntax.proofs.WordTexts.{is_equals}
use Rattle.f77_syntax.proofs.Steps.{along, bind_ok, after_is}
use Rattle.f77_syntax.proofs.Gives.{fails_bind}

-- a front of s spells the item, and the rest follows it
pub record Fronts {A : Type 0} (SpellsItem : List ℕ → A → Type 0) (s : List ℕ) (x : A × List ℕ) : Type 0 where
  pub text : List ℕ
  pub is : s ≡ text ++ x.1
  pub spells : SpellsItem text x.0

-- a reader is sound: what it reads is spelled by a front of the text
abbrev pub IsSound : {A : Type 0} → (List ℕ → A → Type 0) → (List ℕ → Option (A × List ℕ)) → Type 0
IsSound {A = A} SpellsItem item = (s : List ℕ) (x : A × List ℕ) → item s ≡ Some x → Fronts SpellsItem s x

pub fronts_short : {A : Type 0} {SpellsItem : List ℕ → A → Type 0} {s : List ℕ} {x : A × List ℕ} → Fronts SpellsItem s x → length x.1 ≤ length s
fronts_short {x = x} f = omega (arith, ap length f.is, length-append f.text x.1)

behind_is : {A : Type 0} {SpellsItem : List ℕ → A → Type 0} (others : List ℕ → Option (List A × List ℕ)) → IsSound (Joined SpellsItem) others
    → (s : List ℕ) (y : A × List ℕ) (x : List A × List ℕ) → Fronts SpellsItem s y → (o : Option (List ℕ)) → tree_after 44 y.1 ≡ o
    → with_others others y.0 y.1 o ≡ Some x → Fronts (Joined SpellsItem) s x
behind_is {SpellsItem = SpellsItem} others sound s y x f None none e =
    along (Fronts (Joined SpellsItem) s) (y.0 ∷ [], y.1) x e (record { text = f.text; is = f.is; spells = Joined.last f.spells })
behind_is {SpellsItem = SpellsItem} others sound s y x f (Some r) comma e =
    let (z, read, end) = bind_ok (others r) (λ z. Some (y.0 ∷ z.0, z.1)) x e in
    let g = sound r z read in
    along (Fronts (Joined SpellsItem) s) (y.0 ∷ z.0, z.1) x end (record {
      text = f.text ++ (44 ∷ g.text);
      is = f.is ∙ ap (λ v. f.text ++ v) (after_is 44 y.1 r comma ∙ ap (λ v. 44 ∷ v) g.is) ∙ sym (append_assoc f.text (44 ∷ g.text) z.1);
      spells = Joined.more f.spells g.spells;
    })

within_is : {A : Type 0} {SpellsItem : List ℕ → A → Type 0} {item : List ℕ → Option (A × List ℕ)} → IsSound SpellsItem item → (n : ℕ) → IsSound (Joined SpellsItem) (items_within item n)
within_is sound zero s x e = absurd (none-some x e)
within_is {item = item} sound (suc n) s x e =
    let (y, first, others) = bind_ok (item s) (λ y. with_others (items_within item n) y.0 y.1 (tree_after 44 y.1)) x e in
    behind_is (items_within item n) (within_is sound n) s y x (sound s y first) (tree_after 44 y.1) refl others

pub items_is : {A : Type 0} {SpellsItem : List ℕ → A → Type 0} {item : List ℕ → Option (A × List ℕ)} → IsSound SpellsItem item → IsSound (Joined SpellsItem) (items_at item)
unfolding items_at
items_is sound s x e = within_is sound (suc (length s)) s x e

-- what may follow an item: nothing, a comma, a closing parenthesis or a slash
abbrev pub is_stop : ℕ → Bool
is_stop c = c == 44 || (c == 41 || c == 47)

abbrev pub Stops : List ℕ → Type 0
Stops [] = Unit {0}
Stops (c ∷ s) = is_stop c ≡ true

-- what is spelled is read, up to where an item stops
abbrev pub IsRead : {A : Type 0} → (List ℕ → A → Type 0) → (List ℕ → Option (A × List ℕ)) → Type 0
IsRead {A = A} SpellsItem item = (text : List ℕ) (x : A) → SpellsItem text x → (rest : List ℕ) → Stops rest → item (text ++ rest) ≡ Some (x, rest)

within_read : {A : Type 0} {SpellsItem : List ℕ → A → Type 0} (item : List ℕ → Option (A × List ℕ)) → IsRead SpellsItem item → {text : List ℕ} {xs : List A} → Joined SpellsItem text xs
    → (rest : List ℕ) → Stops rest → tree_after 44 rest ≡ None → (n : ℕ) → length text < n → items_within item n (text ++ rest) ≡ Some (xs, rest)
within_read item read p rest stops alone zero h = absurd (omega arith)
within_read item read (Joined.last p) rest stops alone (suc n) h = rw (read _ _ p rest stops, alone) refl
within_read item read (Joined.more {text = text} {rest = others} p q) rest stops alone (suc n) h =
    rw (append_assoc text (44 ∷ others) rest, read text _ p (44 ∷ (others ++ rest)) refl, within_read item read q rest stops alone n (omega (arith, length-append text (44 ∷ others)))) refl

pub items_read : {A : Type 0} {SpellsItem : List ℕ → A → Type 0} (item : List ℕ → Option (A × List ℕ)) → IsRead SpellsItem item → {text : List ℕ} {xs : List A} → Joined SpellsItem text xs
    → (rest : List ℕ) → Stops rest → tree_after 44 rest ≡ None → items_at item (text ++ rest) ≡ Some (xs, rest)
unfolding items_at
items_read item read {text = text} p rest stops alone = within_read item read p rest stops alone (suc (length (text ++ rest))) (omega (arith, length-append text rest))

-- The items so far, and then those that are read behind them.
pub record Listing {X A B : Type 0} (view : X → B) (kept : A → B) (item : List ℕ → Option (A × List ℕ)) (items : List X) (rest text : List ℕ) : Type 0 where
  pub front : List A
  pub same : map view items ≡ map kept front
  pub fuel : ℕ
  pub enough : length rest < fuel
  pub reads : (items_within item fuel rest >>= λ x. Some (front ++ x.0, x.1)) ≡ items_at item text

-- one more item, and the one that is kept of it
pub kept_more : {X A B : Type 0} (view : X → B) (kept : A → B) (items new : List X) (got : X) (front : List A) (x : A) → map view items ≡ map kept front → view got ≡ kept x
    → new ≡ items ++ got ∷ [] → map view new ≡ map kept (front ++ x ∷ [])
kept_more view kept items new got front x h k e =
    ap (map view) e ∙ map-append view items (got ∷ []) ∙ ap (λ z. z ++ (view got ∷ [])) h ∙ ap (λ z. map kept front ++ (z ∷ [])) k ∙ sym (map-append kept front (x ∷ []))

module _ {X A B : Type 0} (view : X → B) (kept : A → B) (item : List ℕ → Option (A × List ℕ)) where
  pub listing_starts : (text : List ℕ) → Listing view kept item [] text text
  unfolding items_at
  listing_starts text = record { front = []; same = refl; fuel = suc (length text); enough = omega arith; reads = whole (items_within item (suc (length text)) text) }
    where
      whole : (o : Option (List A × List ℕ)) → (o >>= λ x. Some ([] ++ x.0, x.1)) ≡ o
      whole None = refl
      whole (Some x) = refl

  -- where an item is not read, the reading ends
  first_fails : (n : ℕ) (s : List ℕ) (e : ReadError) → length s < n → Fails e (item s) → Fails e (items_within item n s)
  first_fails zero s e h f = absurd (omega arith)
  first_fails (suc n) s e h f = fails_bind e (item s) (λ x. with_others (items_within item n) x.0 x.1 (tree_after 44 x.1)) f

  pub listing_fails : (items : List X) (rest text : List ℕ) (e : ReadError) → Listing view kept item items rest text → Fails e (item rest) → Fails e (items_at item text)
  listing_fails items rest text e l f =
      subst (Fails e) l.reads (fails_bind e (items_within item l.fuel rest) (λ x. Some (l.front ++ x.0, x.1)) (first_fails l.fuel rest e l.enough f))

  pub listing_goes_on : (items new : List X) (got : X) (rest next text : List ℕ) (x : A × List ℕ) → Listing view kept item items rest text
      → item rest ≡ Some x → view got ≡ kept x.0 → tree_after 44 x.1 ≡ Some next → length x.1 ≤ length rest → new ≡ items ++ got ∷ [] → Listing view kept item new next text
  listing_goes_on items new got rest next text x l e same comma short added = by_fuel l.fuel l.enough l.reads
    where
      shown : List A → List A × List ℕ → Option (List A × List ℕ)
      shown front y = Some (front ++ y.0, y.1)

      step : (o : Option (List A × List ℕ)) → (o >>= shown (l.front ++ x.0 ∷ [])) ≡ ((o >>= λ y. Some (x.0 ∷ y.0, y.1)) >>= shown l.front)
      step None = refl
      step (Some y) = ap (λ z. Some (z, y.1)) (append_assoc l.front (x.0 ∷ []) y.0)

      by_fuel : (n : ℕ) → length rest < n → (items_within item n rest >>= shown l.front) ≡ items_at item text → Listing view kept item new next text
      by_fuel zero h reads = absurd (omega arith)
      by_fuel (suc n) h reads = record {
        front = l.front ++ x.0 ∷ [];
        same = kept_more view kept items new got l.front x.0 l.same same added;
        fuel = n;
        enough = omega (arith, ap length (after_is 44 x.1 next comma));
        reads = step (items_within item n next) ∙ ap (λ o. o >>= shown l.front) (sym (rw (e, comma) refl)) ∙ reads;
      }

  pub listing_ends : (items new : List X) (got : X) (rest text : List ℕ) (x : A × List ℕ) → Listing view kept item items rest text
      → item rest ≡ Some x → view got ≡ kept x.0 → tree_after 44 x.1 ≡ None → new ≡ items ++ got ∷ []
      → (xs : List A) × (items_at item text ≡ Some (xs, x.1)) × (map view new ≡ map kept xs)
  listing_ends items new got rest text x l e same alone added =
      (l.front ++ x.0 ∷ [], by_fuel l.fuel l.enough l.reads, kept_more view kept items new got l.front x.0 l.same same added)
    where
      shown : List A × List ℕ → Option (List A × List ℕ)
      shown y = Some (l.front ++ y.0, y.1)

      by_fuel : (n : ℕ) → length rest < n → (items_within item n rest >>= shown) ≡ items_at item text → items_at item text ≡ Some (l.front ++ x.0 ∷ [], x.1)
      by_fuel zero h reads = absurd (omega arith)
      by_fuel (suc n) h reads = sym reads ∙ rw (e, alone) refl

pub joined_no_equals : {A : Type 0} {SpellsItem : List ℕ → A → Type 0} → ((text : List ℕ) (x : A) → SpellsItem text x → list_any is_equals text ≡ false)
    → {text : List ℕ} {xs : List A} → Joined SpellsItem text xs → list_any is_equals text ≡ false
joined_no_equals each (Joined.last h) = each _ _ h
joined_no_equals each (Joined.more {text = text} {rest = rest} h k) =
    list_any-append is_equals text (44 ∷ rest) ∙ rw (each _ _ h) (joined_no_equals each k)
