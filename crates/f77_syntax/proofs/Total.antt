-- Cards are the lines of a program, or have a first fault.
use Rattle.f77_syntax.proofs.Common.{refl, ◌∙◌, sym, ◌≡◌, List, ℕ, true, [], ◌∷◌, Some, None, false, length, arith, subst, Option, Bool, ◌≤◌, inr, suc, ◌+◌}
use Rattle.f77_syntax.proofs.Common.{inl, zero, take, ◌⊎◌, nat_le, nat_lt, ◌≢◌, take_all, nat_tests, may_stand, group_of, SyntaxFault, AfterEnd, BadName}
use Rattle.f77_syntax.proofs.Common.{BadConstant, TooDeep, TooLong, Group, End, CardFields, IsAdmitted, AreLines, IsCardRefused, IsFirstSyntaxFault}
use Rattle.f77_syntax.proofs.Common.{character_count, line_with, IsTooDeep, most_characters, most_open, open_behind, misplaced_statement, unfinished}
use Rattle.f77_syntax.proofs.Common.{HasLinesOrFault, statement_at, statement_constants, statement_nodes, most_nodes, statement_names, Statement}
use Rattle.f77_syntax.proofs.Common.{SpellsStatement}
use Rattle.f77_program.specs.declared.fault.SyntaxFault.TheVariants.{Unknown}
use Rattle.f77_syntax.proofs.Depths.{flat_none, flat_step}
use Rattle.f77_syntax.proofs.StatementComplete.{statement_read}
use Rattle.f77_syntax.proofs.StatementSound.{statement_is}

-- no more than 40 parentheses are open behind this beginning
abbrev IsFlatAt : List ℕ → ℕ → Type 0
IsFlatAt text n = open_behind (take n text) ≤ most_open

-- some beginning of at most this length is too deep, or none is
deep_within : (text : List ℕ) (k : ℕ) → IsTooDeep text ⊎ ((n : ℕ) → n ≤ k → IsFlatAt text n)
deep_within text zero = inr (flat_none text)
deep_within text (suc k) = go_on (deep_within text k)
  where
    by_test : (b : Bool) → nat_lt most_open (open_behind (take (k + 1) text)) ≡ b
        → ((n : ℕ) → n ≤ k → IsFlatAt text n) → IsTooDeep text ⊎ ((n : ℕ) → n ≤ suc k → IsFlatAt text n)
    by_test true e before = inl (k + 1, grind (arith, nat_tests))
    by_test false e before = inr (λ n h. flat_step text k before (grind (arith, nat_tests)) n (omega arith))

    go_on : IsTooDeep text ⊎ ((n : ℕ) → n ≤ k → IsFlatAt text n) → IsTooDeep text ⊎ ((n : ℕ) → n ≤ suc k → IsFlatAt text n)
    go_on (inl deep) = inl deep
    go_on (inr before) = by_test (nat_lt most_open (open_behind (take (k + 1) text))) refl before

-- all beginnings are, where those up to the whole text are
flat_everywhere : (text : List ℕ) → ((n : ℕ) → n ≤ length text → IsFlatAt text n) → (n : ℕ) → IsFlatAt text n
flat_everywhere text flat n = by_test (nat_le n (length text)) refl
  where
    by_test : (b : Bool) → nat_le n (length text) ≡ b → IsFlatAt text n
    by_test true e = flat n (grind (arith, nat_tests))
    by_test false e =
        let long : length text ≤ n = grind (arith, nat_tests) in
        let same : take (length text) text ≡ take n text = take_all (length text) text (omega arith) ∙ sym (take_all n text long) in
        subst (λ z. open_behind z ≤ most_open) same (flat (length text) (omega arith))

deep_or_flat : (text : List ℕ) → IsTooDeep text ⊎ (¬ (IsTooDeep text))
deep_or_flat text = by (deep_within text (length text))
  where
    by : IsTooDeep text ⊎ ((n : ℕ) → n ≤ length text → IsFlatAt text n) → IsTooDeep text ⊎ (¬ (IsTooDeep text))
    by (inl deep) = inl deep
    by (inr flat) = inr (λ deep. let h = flat_everywhere text flat deep.0 in let k = deep.1 in absurd (omega arith))

spelled_or_not : (text : List ℕ) → ((s : Statement) × SpellsStatement text s) ⊎ ((s : Statement) → ¬ (SpellsStatement text s))
spelled_or_not text = by (statement_at text) refl
  where
    by : (o : Option Statement) → statement_at text ≡ o → ((s : Statement) × SpellsStatement text s) ⊎ ((s : Statement) → ¬ (SpellsStatement text s))
    by (Some s) e = inl (s, statement_is text s e)
    by None e = inr (λ s p. let read = statement_read p in cc)

abbrev Answer : ℕ → List ℕ → Type 0
Answer line text = ((s : Statement) × IsAdmitted text s) ⊎ ((fault : SyntaxFault) × IsCardRefused line text fault)

-- a text within the limits on texts, which spells this statement
limited : (line : ℕ) (text : List ℕ) (s : Statement) → character_count text ≤ most_characters → ¬ (IsTooDeep text) → SpellsStatement text s
    → (names constants few : Bool) → statement_names s ≡ names → statement_constants s ≡ constants → nat_le (statement_nodes s) most_nodes ≡ few → Answer line text
limited line text s h flat p false constants few e f g = inr (BadName line, IsCardRefused.name h flat p e)
limited line text s h flat p true false few e f g = inr (BadConstant line, IsCardRefused.constant h flat p e f)
limited line text s h flat p true true false e f g = inr (TooLong line, IsCardRefused.nodes h flat p e f (grind (arith, nat_tests)))
limited line text s h flat p true true true e f g =
    inl (s, record { characters = h; flat = flat; spells = p; names = e; constants = f; nodes = grind (arith, nat_tests) })

admitted_or_refused : (line : ℕ) (text : List ℕ) → Answer line text
admitted_or_refused line text = by_length (nat_le (character_count text) most_characters) refl
  where
    by_spelling : character_count text ≤ most_characters → ¬ (IsTooDeep text)
        → ((s : Statement) × SpellsStatement text s) ⊎ ((s : Statement) → ¬ (SpellsStatement text s)) → Answer line text
    by_spelling h flat (inl x) =
        limited line text x.0 h flat x.1 (statement_names x.0) (statement_constants x.0) (nat_le (statement_nodes x.0) most_nodes) refl refl refl
    by_spelling h flat (inr none) = inr (Unknown line, IsCardRefused.unknown h flat none)

    by_depth : character_count text ≤ most_characters → IsTooDeep text ⊎ (¬ (IsTooDeep text)) → Answer line text
    by_depth h (inl deep) = inr (TooDeep line, IsCardRefused.parentheses h deep)
    by_depth h (inr flat) = by_spelling h flat (spelled_or_not text)

    by_length : (b : Bool) → nat_le (character_count text) most_characters ≡ b → Answer line text
    by_length true e = by_depth (grind (arith, nat_tests)) (deep_or_flat text)
    by_length false e = inr (TooLong line, IsCardRefused.characters (grind (arith, nat_tests)))

end_or_not : (before : Option Group) → (before ≡ Some End) ⊎ (before ≢ Some End)
end_or_not None = inr (λ e. cc)
end_or_not (Some End) = inl refl
end_or_not (Some _) = inr (λ e. cc)

no_cards : (before : Option Group) → (before ≡ Some End) ⊎ (before ≢ Some End) → HasLinesOrFault before []
no_cards before (inl e) = inl ([], rw e AreLines.finished)
no_cards before (inr h) = inr (unfinished before, IsFirstSyntaxFault.unended h)

-- a card whose statement is admitted, with what is known of the cards behind it
with_card : (before : Option Group) (card : CardFields) (cards : List CardFields) (s : Statement) → before ≢ Some End → IsAdmitted card.text s
    → HasLinesOrFault (Some (group_of s)) cards → (b : Bool) → may_stand before (group_of s) ≡ b → HasLinesOrFault before (card ∷ cards)
with_card before card cards s h p rest false e = inr (misplaced_statement before card.line, IsFirstSyntaxFault.out_of_place h p e)
with_card before card cards s h p (inl x) true e = inl (line_with card s ∷ x.0, AreLines.next s p e x.1)
with_card before card cards s h p (inr x) true e = inr (x.0, IsFirstSyntaxFault.later p e x.1)

-- one card more, where cards behind any statement are lines or have a first fault
one_more : (card : CardFields) (cards : List CardFields) (before : Option Group) → ((behind : Option Group) → HasLinesOrFault behind cards)
    → (before ≡ Some End) ⊎ (before ≢ Some End) → Answer card.line card.text → HasLinesOrFault before (card ∷ cards)
one_more card cards before rest (inl e) answer = inr (AfterEnd card.line, rw e IsFirstSyntaxFault.behind_end)
one_more card cards before rest (inr h) (inl x) =
    with_card before card cards x.0 h x.1 (rest (Some (group_of x.0))) (may_stand before (group_of x.0)) refl
one_more card cards before rest (inr h) (inr x) = inr (x.0, IsFirstSyntaxFault.refused h x.1)

pub lines_or_fault : (cards : List CardFields) (before : Option Group) → HasLinesOrFault before cards
lines_or_fault [] before = no_cards before (end_or_not before)
lines_or_fault (card ∷ cards) before =
    one_more card cards before (lines_or_fault cards) (end_or_not before) (admitted_or_refused card.line card.text)
