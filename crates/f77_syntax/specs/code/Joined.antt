-- Items joined by commas: how they are read, and what a function gives that reads each of them by another function.
use Rattle.std.specs.Prelude.{ℕ, zero, suc, List, [], ◌∷◌, length, Option, Some, None, ◌≡◌, ◌≤◌, Result, Ok, Err}
use Rattle.f77_syntax.specs.Reading.{◌>>=◌}
use Rattle.f77_syntax.specs.code.Reading.{tree_after}
use Rattle.std.specs.Borrow.{Bor}
use Rattle.f77_syntax.specs.declared.fault.ReadError.{ReadError}
use Rattle.f77_syntax.specs.declared.fault.ReadError.TheVariants.{Memory}

-- an item has been read: what stands behind the comma that follows it is more items
abbrev pub with_others : {A : Type 0}
    → (List ℕ → Option (List A × List ℕ)) → A → List ℕ → Option (List ℕ) → Option (List A × List ℕ)
with_others others x rest None = Some (x ∷ [], rest)
with_others others x rest (Some behind) = others behind >>= λ y. Some (x ∷ y.0, y.1)

-- at most this many items, as long as commas join them
abbrev pub items_within : {A : Type 0} → (List ℕ → Option (A × List ℕ)) → ℕ → List ℕ → Option (List A × List ℕ)
items_within item zero s = None
items_within item (suc n) s = item s >>= λ x. with_others (items_within item n) x.0 x.1 (tree_after 44 x.1)

-- the items at the front, and the text behind them
unfoldable pub items_at : {A : Type 0} → (List ℕ → Option (A × List ℕ)) → List ℕ → Option (List A × List ℕ)
items_at item s = items_within item (suc (length s)) s

-- the answers that a function may give for a text: an item and the text behind it, or why there is none
abbrev pub Reads : Type 0 → Type 1
Reads T = Bor (List ℕ) → Result (T × Bor (List ℕ)) ReadError → Type 0

-- the text behind an item is no longer than the text
abbrev pub Shortens : {T : Type 0} → Reads T → Type 0
Shortens {T = T} R = (text : Bor (List ℕ)) (x : T × Bor (List ℕ)) → R text (Ok x) → length x.1.now ≤ length text.now

-- the text is read as these items, one behind each comma, and the text behind them
pub data JoinsItems {T : Type 0} (R : Reads T) : List ℕ → List T → List ℕ → Type 0 where
  last : {text : Bor (List ℕ)} {x : T × Bor (List ℕ)}
      → R text (Ok x) → tree_after 44 x.1.now ≡ None → JoinsItems R text.now (x.0 ∷ []) x.1.now
  more : {text : Bor (List ℕ)} {x : T × Bor (List ℕ)} {rest behind : List ℕ} {xs : List T} → R text (Ok x)
      → tree_after 44 x.1.now ≡ Some rest → JoinsItems R rest xs behind → JoinsItems R text.now (x.0 ∷ xs) behind

-- why no items are read: memory ran out, or an item has this fault
pub data Breaks {T : Type 0} (R : Reads T) : List ℕ → ReadError → Type 0 where
  memory : {text : List ℕ} → Breaks R text Memory
  here : {text : Bor (List ℕ)} {e : ReadError} → R text (Err e) → Breaks R text.now e
  later : {text : Bor (List ℕ)} {x : T × Bor (List ℕ)} {rest : List ℕ} {e : ReadError} → R text (Ok x)
      → tree_after 44 x.1.now ≡ Some rest → Breaks R rest e → Breaks R text.now e
