-- Which cards are which program, and why cards are no program.
use Rattle.std.specs.Prelude.{◌≡◌, ◌≢◌, ℕ, ◌≤◌, ◌<◌, ◌⊎◌, true, false, List, [], ◌∷◌, Option, Some, None}
use Rattle.f77_source.specs.Card.{CardFields}
use Rattle.f77_tree.specs.StatementGrammar.{SpellsStatement}
use Rattle.f77_tree.specs.Statement.{Statement}
use Rattle.f77_tree.specs.Limits.{most_nodes, statement_constants, statement_nodes}
use Rattle.f77_tree.specs.Names.{statement_names}
use Rattle.f77_program.specs.Group.{group_of, may_stand}
use Rattle.f77_program.specs.Program.{LineFields}
use Rattle.f77_program.specs.declared.fault.SyntaxFault.{SyntaxFault}
use Rattle.f77_program.specs.declared.fault.SyntaxFault.TheVariants.{Unknown, BadName, BadConstant, TooDeep}
use Rattle.f77_program.specs.declared.fault.SyntaxFault.TheVariants.{TooLong, NoSubroutine, NoEnd, AfterEnd}
use Rattle.f77_program.specs.declared.group.Group.{Group}
use Rattle.f77_program.specs.declared.group.Group.TheVariants.{End}
use Rattle.f77_syntax.specs.TextLimits.{character_count, most_characters, IsTooDeep}

-- Rule: S2 to S9 (2.2, 3.5)
-- the text spells the statement within the limits
pub record IsAdmitted (text : List ℕ) (s : Statement) : Type 0 where
  pub characters : character_count text ≤ most_characters
  pub flat : ¬ (IsTooDeep text)
  pub spells : SpellsStatement text s
  pub names : statement_names s ≡ true
  pub constants : statement_constants s ≡ true
  pub nodes : statement_nodes s ≤ most_nodes

-- Rule: S2 to S9 (2.2, 3.5)
-- why the text of the card with this line number is refused
pub data IsCardRefused (line : ℕ) (text : List ℕ) : SyntaxFault → Type 0 where
  characters : most_characters < character_count text → IsCardRefused line text (TooLong line)
  parentheses : character_count text ≤ most_characters
      → IsTooDeep text → IsCardRefused line text (TooDeep line)
  unknown : character_count text ≤ most_characters
      → ¬ (IsTooDeep text) → ((s : Statement) → ¬ (SpellsStatement text s))
      → IsCardRefused line text (Unknown line)
  name : {s : Statement}
      → character_count text ≤ most_characters → ¬ (IsTooDeep text) → SpellsStatement text s
      → statement_names s ≡ false → IsCardRefused line text (BadName line)
  constant : {s : Statement}
      → character_count text ≤ most_characters → ¬ (IsTooDeep text) → SpellsStatement text s
      → statement_names s ≡ true
      → statement_constants s ≡ false → IsCardRefused line text (BadConstant line)
  nodes : {s : Statement}
      → character_count text ≤ most_characters → ¬ (IsTooDeep text) → SpellsStatement text s
      → statement_names s ≡ true → statement_constants s ≡ true → most_nodes < statement_nodes s
      → IsCardRefused line text (TooLong line)

-- the line of a card with this statement
abbrev pub line_with : CardFields → Statement → LineFields
line_with card s = record { label = card.label; stmt = s; line = card.line }

-- The cards are the lines to the end of a program, behind a statement of this group or from the
-- start on.
pub data AreLines : Option Group → List CardFields → List LineFields → Type 0 where
  finished : AreLines (Some End) [] []
  next : {before : Option Group} {card : CardFields} {cards : List CardFields}
      {lines : List LineFields} (s : Statement)
      → IsAdmitted card.text s → may_stand before (group_of s) ≡ true
      → AreLines (Some (group_of s)) cards lines
      → AreLines before (card ∷ cards) (line_with card s ∷ lines)

-- the fault of a statement that may not stand at its place (ANSI X3.9-1978, 3.5)
abbrev pub misplaced_statement : Option Group → ℕ → SyntaxFault
misplaced_statement None line = NoSubroutine
misplaced_statement (Some group) line = Unknown line

-- the fault where the cards end behind a statement of this group, which is not END, or where there
-- is no card (ANSI X3.9-1978, 3.5)
abbrev pub unfinished : Option Group → SyntaxFault
unfinished None = NoSubroutine
unfinished (Some group) = NoEnd

-- Rule: S2 to S9 (2.2, 3.5)
-- the first fault of the cards, behind a statement of this group or from the start on
pub data IsFirstSyntaxFault : Option Group → List CardFields → SyntaxFault → Type 0 where
  unended : {before : Option Group}
      → before ≢ Some End → IsFirstSyntaxFault before [] (unfinished before)
  behind_end : {card : CardFields} {cards : List CardFields}
      → IsFirstSyntaxFault (Some End) (card ∷ cards) (AfterEnd card.line)
  refused : {before : Option Group} {card : CardFields} {cards : List CardFields}
      {fault : SyntaxFault}
      → before ≢ Some End
      → IsCardRefused card.line card.text fault → IsFirstSyntaxFault before (card ∷ cards) fault
  out_of_place : {before : Option Group} {card : CardFields}
      {cards : List CardFields} {s : Statement}
      → before ≢ Some End → IsAdmitted card.text s → may_stand before (group_of s) ≡ false
      → IsFirstSyntaxFault before (card ∷ cards) (misplaced_statement before card.line)
  later : {before : Option Group} {card : CardFields} {cards : List CardFields} {s : Statement}
      {fault : SyntaxFault}
      → IsAdmitted card.text s
      → may_stand before (group_of s) ≡ true → IsFirstSyntaxFault (Some (group_of s)) cards fault
      → IsFirstSyntaxFault before (card ∷ cards) fault

-- the cards are the lines to the end of a program, or have a first fault
abbrev pub HasLinesOrFault : Option Group → List CardFields → Type 0
HasLinesOrFault before cards =
    ((lines : List LineFields) × AreLines before cards lines)
    ⊎ ((fault : SyntaxFault) × IsFirstSyntaxFault before cards fault)
