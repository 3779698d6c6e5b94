-- Short operations are general ones.
use Rattle.f77_code.proofs.Common.{◌≡◌, ap, ℕ, List, Some, ℤ, both, Point, ran, term_value, Comparing, comparing, giving, related_number, branch}
use Rattle.f77_code.proofs.Common.{put_in_register, Giving, Turn, Operation, Add, IfCompared, IfRelated, Load, Multiply, Set, Subtract}
use Rattle.f77_code.specs.declared.instruction.Operation.{Move}

held : {A : Type 0} (a b : A) → Some a ≡ Some b → a ≡ b
held a b e = cc (e)

-- what an operation that gives a register a value does, and the others
abbrev pub given : Giving → ℕ → List ℤ → List Turn → Point
given g next registers turns = put_in_register g.to (term_value registers g.term) next registers turns

abbrev pub tested : Comparing → ℕ → List ℤ → List Turn → Point
tested c next registers turns = branch (both (related_number c.relation) (term_value registers c.left) (term_value registers c.right)) c.there next registers turns

module _ (next : ℕ) (registers : List ℤ) (turns : List Turn) where
  pub giving_is : (o : Operation) (g : Giving) → giving o ≡ Some g → ran o next registers turns ≡ given g next registers turns
  giving_is (Set to term) g e = ap (λ g. given g next registers turns) (held _ g e)
  giving_is (Move to from) g e = ap (λ g. given g next registers turns) (held _ g e)
  giving_is (Add to left right) g e = ap (λ g. given g next registers turns) (held _ g e)
  giving_is (Subtract to left right) g e = ap (λ g. given g next registers turns) (held _ g e)
  giving_is (Multiply to left right) g e = ap (λ g. given g next registers turns) (held _ g e)
  giving_is (Load to first bound subscript) g e = ap (λ g. given g next registers turns) (held _ g e)
  giving_is _ g e = absurd (cc (e))

  pub comparing_is : (o : Operation) (c : Comparing) → comparing o ≡ Some c → ran o next registers turns ≡ tested c next registers turns
  comparing_is (IfRelated relation there pair) c e = ap (λ c. tested c next registers turns) (held _ c e)
  comparing_is (IfCompared relation left right there) c e = ap (λ c. tested c next registers turns) (held _ c e)
  comparing_is _ c e = absurd (cc (e))
