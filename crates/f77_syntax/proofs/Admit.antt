-- What the limits say of the text and of the statement that is kept, they say of the one that the text spells.
use Rattle.f77_syntax.proofs.Common.{refl, ◌∙◌, sym, ap, ◌≡◌, List, ℕ, true, subst, ◌≤◌, inr, ◌<◌, inl, ◌⊎◌, SyntaxFault, Memory, BadName, IsAdmitted}
use Rattle.f77_syntax.proofs.Common.{IsCardRefused, character_count, IsTooDeep, most_characters, clip_statement, IsOutside, statement_constants}
use Rattle.f77_syntax.proofs.Common.{statement_nodes, most_nodes, statement_names, Statement, SpellsStatement, IsFormed}
use Rattle.f77_program.specs.declared.fault.SyntaxFault.TheVariants.{Unknown}
use Rattle.f77_syntax.proofs.FormedClip.{formed_short, unformed_long}
use Rattle.f77_syntax.proofs.StatementClip.{statement_kept}
use Rattle.f77_syntax.proofs.NodeClip.{statement_constants_clip, statement_nodes_clip}

-- a text within the limits on texts, and the statement that was kept of it
pub record Kept (text : List ℕ) (got : Statement) : Type 0 where
  pub characters : character_count text ≤ most_characters
  pub flat : ¬ (IsTooDeep text)
  pub spells : (s : Statement) × SpellsStatement text s × (got ≡ clip_statement s)

pub kept_of : (text bytes : List ℕ) (got : Statement) → bytes ≡ text → character_count text ≤ most_characters → ¬ (IsTooDeep bytes)
    → (s : Statement) × SpellsStatement bytes s × (got ≡ clip_statement s) → Kept text got
kept_of text bytes got e few flat spells = subst (λ z. Kept z got) e (record { characters = subst (λ z. character_count z ≤ most_characters) (sym e) few; flat = flat; spells = spells })

pub bad_name : (line : ℕ) (text : List ℕ) (got : Statement) → Kept text got → ¬ (IsFormed got) → IsCardRefused line text (BadName line)
bad_name line text got k unformed =
    let (s, p, same) = k.spells in
    IsCardRefused.name k.characters k.flat p (unformed_long got s unformed p same)

-- a statement that is kept is outside the limits where the one that the text spells is
pub outside : (line : ℕ) (text : List ℕ) (got : Statement) {fault : SyntaxFault} → Kept text got → IsFormed got
    → IsOutside line got fault → (fault ≡ Memory) ⊎ IsCardRefused line text fault
outside line text got k f IsOutside.memory = inl refl
outside line text got k f (IsOutside.constant h) =
    let (s, p, same) = k.spells in
    inr (IsCardRefused.constant k.characters k.flat p (formed_short got s f same) (sym (statement_constants_clip s) ∙ ap statement_constants (sym same) ∙ h))
outside line text got k f (IsOutside.nodes h more) =
    let (s, p, same) = k.spells in
    let count : statement_nodes got ≡ statement_nodes s = ap statement_nodes same ∙ statement_nodes_clip s in
    inr (IsCardRefused.nodes k.characters k.flat p (formed_short got s f same)
    (sym (statement_constants_clip s) ∙ ap statement_constants (sym same) ∙ h) (subst (λ n. most_nodes < n) count more))

pub all_well : (text : List ℕ) (got : Statement) → Kept text got → IsFormed got → statement_constants got ≡ true → statement_nodes got ≤ most_nodes → IsAdmitted text got
all_well text got k f h few =
    let (s, p, same) = k.spells in
    let small : statement_constants s ≡ true = sym (statement_constants_clip s) ∙ ap statement_constants (sym same) ∙ h in
    let short = formed_short got s f same in
    let is : s ≡ got = sym (statement_kept s short small) ∙ sym same in
    record {
      characters = k.characters;
      flat = k.flat;
      spells = subst (λ z. SpellsStatement text z) is p;
      names = subst (λ z. statement_names z ≡ true) is short;
      constants = h;
      nodes = few;
    }

pub not_spelled : (line : ℕ) (text bytes : List ℕ) (fault : SyntaxFault) → bytes ≡ text → character_count text ≤ most_characters → ¬ (IsTooDeep bytes)
    → (fault ≡ Memory) ⊎ ((fault ≡ Unknown line) × ((s : Statement) → ¬ (SpellsStatement bytes s))) → (fault ≡ Memory) ⊎ IsCardRefused line text fault
not_spelled line text bytes fault e h flat (inl m) = inl m
not_spelled line text bytes fault e h flat (inr p) =
    inr (subst (λ f. IsCardRefused line text f) (sym p.0) (IsCardRefused.unknown h (subst (λ z. ¬ (IsTooDeep z)) e flat) (subst (λ z. (s : Statement) → ¬ (SpellsStatement z s)) e p.1)))
