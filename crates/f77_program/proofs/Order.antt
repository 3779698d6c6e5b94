-- Lines that are tested one by one.
use Rattle.f77_program.proofs.Common.{◌≡◌, [], ap, ◌∙◌, List, map, sym, ◌∷◌, refl, subst, ℕ, None, length, drop, Option, Some, ◌<◌, ◌+◌, get_or, ◌≢◌, drop_more}
use Rattle.f77_program.proofs.Common.{line_of, IsProgram, LineFields, group_of, MayFollow, Group, Line}
use Rattle.f77_program.specs.declared.group.Group.TheVariants.{End}

first_follows : {before : Option Group} {line : LineFields} {lines : List LineFields} → IsProgram before (line ∷ lines) → MayFollow before line
first_follows (IsProgram.next may rest) = may

others_follow : {before : Option Group} {line : LineFields} {lines : List LineFields} → IsProgram before (line ∷ lines) → IsProgram (Some (group_of line.stmt)) lines
others_follow (IsProgram.next may rest) = rest

ends_with_end : {before : Option Group} → IsProgram before [] → before ≡ Some End
ends_with_end IsProgram.finished = refl

-- the lines from number i on, behind this group, are the end of a program exactly where all of them are a program
pub record Rests (all : List Line) (i : ℕ) (before : Option Group) : Type 0 where
  pub back : IsProgram before (map line_of (drop i all)) → IsProgram None (map line_of all)
  pub on : IsProgram None (map line_of all) → IsProgram before (map line_of (drop i all))

module _ (all : List Line) (i : ℕ) (before : Option Group) (line : Line) (here : i < length all) (is : line ≡ get_or all i line) where
  split : map line_of (drop i all) ≡ line_of line ∷ map line_of (drop (i + 1) all)
  split = ap (map line_of) (drop_more all i line here) ∙ ap (λ z. line_of z ∷ map line_of (drop (i + 1) all)) (sym is)

  pub rests_on : (g : Group) → g ≡ group_of (line_of line).stmt → MayFollow before (line_of line) → Rests all i before → Rests all (i + 1) (Some g)
  rests_on g same may r = record {
    back = λ p. r.back (subst (λ z. IsProgram before z) (sym split) (IsProgram.next may (subst (λ z. IsProgram (Some z) (map line_of (drop (i + 1) all))) same p)));
    on = λ p. subst (λ z. IsProgram (Some z) (map line_of (drop (i + 1) all))) (sym same) (others_follow (subst (λ z. IsProgram before z) split (r.on p)));
  }

  pub rests_no_more : ¬ (MayFollow before (line_of line)) → Rests all i before → ¬ (IsProgram None (map line_of all))
  rests_no_more other r p = other (first_follows (subst (λ z. IsProgram before z) split (r.on p)))

pub ends_well : (all : List Line) (i : ℕ) (before : Option Group) → drop i all ≡ [] → before ≡ Some End → Rests all i before → IsProgram None (map line_of all)
ends_well all i before none end r = r.back (rw (none, end) IsProgram.finished)

pub ends_badly : (all : List Line) (i : ℕ) (before : Option Group) → drop i all ≡ [] → before ≢ Some End → Rests all i before → ¬ (IsProgram None (map line_of all))
ends_badly all i before none other r p = other (ends_with_end (subst (λ z. IsProgram before (map line_of z)) none (r.on p)))
