use Rattle.f77_terms.proofs.Common.{Bool, List, sym, subst, All, IsBelow, HasCase, IsUnequal}
use Rattle.std.specs.List.Retain.{IsFiltered}
use Rattle.std.proofs.lemmas.Grind.{get_or_picked}
use Rattle.f77_terms.proofs.near.path_near.Goals as goal

-- what all have, those have that are kept
kept : {X F : Type 0} (R : F → X → Bool → F → Type 0) (P : X → Type 0) (f : F) (xs ys : List X) → IsFiltered R f xs ys → All P xs → All P ys
kept R P f xs ys filtered all =
    subst (All P) (sym filtered.4) (λ k d l. let at = get_or_picked filtered.0 xs k d l in subst P (sym at.1.2) (all at.1.0 d at.1.1))

pub returns : goal.returns
returns c v holds =
    let near = c.in_ok-near.ensures v holds in
    record {
      known = near.known;
      below = kept _ (IsBelow v) _ _ _ c.retain.ensures.filtered near.below;
      unequal = kept _ (IsUnequal v) _ _ _ c.retain-2.ensures.filtered near.unequal;
      choices = kept _ (HasCase v) _ _ _ c.retain-3.ensures.filtered near.choices;
    }
