use Rattle.f77_terms.proofs.Common.{sym, subst, ◌∙◌, All, AreBelow, AreKnown, HasCase, IsUnequal}
use Rattle.f77_terms.proofs.paths.copied_path.Goals as goal

pub returns : goal.returns
returns c v holds = record {
  known = subst (AreKnown v) (sym (c.in_ok-from_slice.ensures.items ∙ c.deref.ensures.value)) holds.known;
  below = c.in_ok-copied_terms.ensures.below v (subst (AreBelow v) (sym c.deref-2.ensures.value) holds.below);
  unequal = c.in_ok-copied_terms-2.ensures.unequal v (subst (All (IsUnequal v)) (sym c.deref-3.ensures.value) holds.unequal);
  choices = subst (All (HasCase v)) (sym (c.in_ok-to_vec.ensures.items_if_clones_equal (λ x y same. same) ∙ c.deref-4.ensures.value)) holds.choices;
}
