-- An assignment that is read is spelled so.
use Rattle.f77_syntax.proofs.Common.{refl, ◌∙◌, sym, ap, ◌≡◌, List, ℕ, true, [], ◌∷◌, Some, None, subst, Option, ◌++◌, append_assoc, ◌>>=◌, tree_after, reading}
use Rattle.f77_syntax.proofs.Common.{name_at, close_at, whole_at, reference_at, assign_at, reference_behind, is_name, SpellsReference, Statement, SpellsAction}
use Rattle.f77_syntax.proofs.Common.{Trees}
use Rattle.f77_syntax.proofs.Steps.{along, bind_ok, after_is, name_front}
use Rattle.f77_syntax.proofs.Sound.{sound_reading, whole_is}

-- a front of s spells the reference, and rest follows it
pub record FrontsReference (s : List ℕ) (x : List ℕ × Trees × List ℕ) : Type 0 where
  pub text : List ℕ
  pub is : s ≡ text ++ x.2
  pub spells : SpellsReference text x.0 x.1

reference_behind_is : (name r : List ℕ) (o : Option (List ℕ)) (x : List ℕ × Trees × List ℕ) → is_name name ≡ true → tree_after 40 r ≡ o → reference_behind name r o ≡ Some x
    → FrontsReference (name ++ r) x
reference_behind_is name r None x n at e =
    along (FrontsReference (name ++ r)) (name, Trees.None, r) x e (record { text = name; is = refl; spells = SpellsReference.scalar n })
reference_behind_is name r (Some inner) x n at e =
    let (y, read, more) = bind_ok (reading.items inner) (λ y. close_at y.1 >>= λ z. Some (name, y.0, z)) x e in
    let (z, close, end) = bind_ok (close_at y.1) (λ z. Some (name, y.0, z)) x more in
    let f = sound_reading.items inner y read in
    along (FrontsReference (name ++ r)) (name, y.0, z) x end (record {
      text = name ++ (40 ∷ (f.text ++ 41 ∷ []));
      is = ap (λ v. name ++ v) (after_is 40 r inner at ∙ ap (λ v. 40 ∷ v) (f.is ∙ ap (λ v. f.text ++ v) (after_is 41 y.1 z close) ∙ sym (append_assoc f.text (41 ∷ []) z)))
          ∙ sym (append_assoc name (40 ∷ (f.text ++ 41 ∷ [])) z);
      spells = SpellsReference.element n f.spells;
    })

reference_is : (s : List ℕ) (x : List ℕ × Trees × List ℕ) → reference_at s ≡ Some x → FrontsReference s x
unfolding reference_at
reference_is s x e =
    let (y, named, rest) = bind_ok (name_at s) (λ y. reference_behind y.0 y.1 (tree_after 40 y.1)) x e in
    let (is, n) = name_front s y named in
    subst (λ v. FrontsReference v x) (sym is) (reference_behind_is y.0 y.1 (tree_after 40 y.1) x n refl rest)

pub assign_is : (s : List ℕ) (t : Statement) → assign_at s ≡ Some t → SpellsAction s t
unfolding assign_at
assign_is s t e =
    let (x, found, more) = bind_ok (reference_at s) (λ x. tree_after 61 x.2 >>= λ y. whole_at y >>= λ v. Some (Statement.Assign x.0 x.1 v)) t e in
    let (y, equals, rest) = bind_ok (tree_after 61 x.2) (λ y. whole_at y >>= λ v. Some (Statement.Assign x.0 x.1 v)) t more in
    let (v, read, end) = bind_ok (whole_at y) (λ v. Some (Statement.Assign x.0 x.1 v)) t rest in
    let place = reference_is s x found in
    let is : s ≡ place.text ++ (61 ∷ y) = place.is ∙ ap (λ z. place.text ++ z) (after_is 61 x.2 y equals) in
    along (SpellsAction s) (Statement.Assign x.0 x.1 v) t end
    (subst (λ z. SpellsAction z (Statement.Assign x.0 x.1 v)) (sym is) (SpellsAction.assign place.spells (whole_is y v read)))
