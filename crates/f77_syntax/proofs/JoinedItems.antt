-- What a function reads of items joined by commas is what the definition reads, where each item is.
use Rattle.f77_syntax.proofs.Common.{refl, ◌∙◌, sym, ap, ◌≡◌, List, ℕ, [], ◌∷◌, Some, length, subst, Option, ◌++◌, ◌≤◌, map, append_assoc, Err, Ok, MatchResult}
use Rattle.f77_syntax.proofs.Common.{Result, Vec, Bor, tree_after, items_at, Fails, Gives, Breaks, JoinsItems, Reads, Shortens, ReadError}
use Rattle.std.specs.declared.alloc.Global.{Global}
use Rattle.f77_syntax.proofs.JoinedTexts.{Listing, listing_starts, listing_fails, listing_goes_on, listing_ends}

module _ {X A B : Type 0} (view : X → B) (kept : A → B) (item : List ℕ → Option (A × List ℕ)) where
  -- an item as it is kept, and what follows it
  abbrev pub IsItem : X × Bor (List ℕ) → A × List ℕ → Type 0
  IsItem x a = (view x.0 ≡ kept a.0) × (x.1.now ≡ a.1)

  module _ (R : Reads X) (gives : (text : Bor (List ℕ)) (r : Result (X × Bor (List ℕ)) ReadError) → R text r → Gives IsItem r (item text.now)) (short : Shortens R) where
    ends : {rest behind : List ℕ} {xs : List X} (items : List X) (text : List ℕ) → Listing view kept item items rest text → JoinsItems R rest xs behind
        → (ys : List A) × (items_at item text ≡ Some (ys, behind)) × (map view (items ++ xs) ≡ map kept ys)
    ends items text l (JoinsItems.last {text = here} {x = x} r alone) =
        let (a, read, (same, end)) = gives here (Ok x) r in
        let (ys, all, are) = listing_ends view kept item items (items ++ x.0 ∷ []) x.0 here.now text a l read same (ap (tree_after 44) (sym end) ∙ alone) refl in
        (ys, all ∙ ap (λ z. Some (ys, z)) (sym end), are)
    ends items text l (JoinsItems.more {text = here} {x = x} {rest = next} {xs = xs} r comma others) =
        let (a, read, (same, end)) = gives here (Ok x) r in
        let on = listing_goes_on view kept item items (items ++ x.0 ∷ []) x.0 here.now next text a l read same (ap (tree_after 44) (sym end) ∙ comma)
        (subst (λ z. length z ≤ length here.now) end (short here x r)) refl in
        let (ys, all, are) = ends (items ++ x.0 ∷ []) text on others in
        (ys, all, ap (map view) (sym (append_assoc items (x.0 ∷ []) xs)) ∙ are)

    fails : {rest : List ℕ} {e : ReadError} (items : List X) (text : List ℕ) → Listing view kept item items rest text → Breaks R rest e → Fails e (items_at item text)
    fails items text l Breaks.memory = tt
    fails items text l (Breaks.here {text = here} {e = e} r) = listing_fails view kept item items here.now text e l (gives here (Err e) r)
    fails items text l (Breaks.later {text = here} {x = x} {rest = next} r comma others) =
        let (a, read, (same, end)) = gives here (Ok x) r in
        let on = listing_goes_on view kept item items (items ++ x.0 ∷ []) x.0 here.now next text a l read same (ap (tree_after 44) (sym end) ∙ comma)
        (subst (λ z. length z ≤ length here.now) end (short here x r)) refl in
        fails (items ++ x.0 ∷ []) text on others

    -- items as they are kept, and what follows them
    pub gives_items : (result : Result (Vec X Global × Bor (List ℕ)) ReadError) (text : List ℕ)
        → MatchResult result (λ x. JoinsItems R text x.0.items x.1.now) (λ e. Breaks R text e)
        → Gives (λ x (a : List A × List ℕ). (map view x.0.items ≡ map kept a.0) × (x.1.now ≡ a.1)) result (items_at item text)
    gives_items (Ok x) text p = let (ys, all, are) = ends [] text (listing_starts view kept item text) p in ((ys, x.1.now), all, (are, refl))
    gives_items (Err e) text p = fails [] text (listing_starts view kept item text) p

pub gives_as : {X A : Type 0} {P Q : X → A → Type 0} → ((x : X) (a : A) → P x a → Q x a) → (result : Result X ReadError) (o : Option A) → Gives P result o → Gives Q result o
gives_as into (Ok x) o (a, read, is) = (a, read, into x a is)
gives_as into (Err e) o fails = fails
