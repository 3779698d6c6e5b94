-- Operations stand for actions when the terms in them stand for expressions.
use Rattle.f77_code.proofs.Common.{◌≡◌, ◌∙◌, sym, ℕ, refl, subst, Some, None, Option, MatchOption, Box, Action, LogicalIf', AssignNumber, AssignTruth, Jump}
use Rattle.f77_code.proofs.Common.{Condition, Related, Variable, Number, Relation, Plan, IsSlot, IsTerm, IsTest, Comparing, IsOperation, Tests, comparing}
use Rattle.f77_code.proofs.Common.{giving, StandsForAssignment, HasNumbers, GrowsPlan, IsNumberTerm, IsTestTerm, IsCompiled, IsRelationOf, IsTesting, ArePair}
use Rattle.f77_code.proofs.Common.{IsAssigning, IsConditional, IsLogicalIf, Constants, Operation, When', IfTrue, SetElement, SetMatrix, Term, Compared}
use Rattle.f77_code.proofs.Common.{Related', Register, Kind, Integer, Logical}
use Rattle.std.specs.declared.alloc.Global.{Global}
use Rattle.f77_actions.specs.declared.expression.Element.{Element, Vector', Matrix'}
use Rattle.f77_actions.specs.declared.action.Action as action
use Rattle.f77_actions.specs.declared.expression.Condition as condition
use Rattle.f77_actions.specs.declared.expression.Element.TheViews as views
use Rattle.f77_code.specs.declared.term.Pair.{Pair}
use Rattle.f77_code.proofs.Terms.{begins_before}

of_all : {A : Type 0} (P Q : A → Type 0) (o : Option A) → ((x : A) → P x → Q x) → MatchOption o ⊥ P → MatchOption o ⊥ Q
of_all P Q None each h = absurd h
of_all P Q (Some x) each h = each x h

-- an assignment of a term is one of what it stands for
assigns_as : (plan : Plan) (kind : Kind) (P : Term → Type 0) (term : Term) → P term → (e : Element) (operation : Operation)
    → StandsForAssignment plan kind (λ t. t ≡ term) e operation → StandsForAssignment plan kind P e operation
assigns_as plan kind P term p (Variable k) operation h =
    of_all (λ g. (g.to ≡ k) × IsSlot plan kind k × (g.term ≡ term)) (λ g. (g.to ≡ k) × IsSlot plan kind k × P g.term) (giving operation)
    (λ g at. (at.0, at.1, subst P (sym at.2) p)) h
assigns_as plan kind P term p (Vector' first bound q x) (SetElement start count pair) h = (h.0, h.1, h.2, h.3, subst P (sym h.4) p)
assigns_as plan kind P term p (Vector' first bound q x) _ h = absurd h
assigns_as plan kind P term p (Matrix' first rows columns q x r y) (SetMatrix start height width pair value) h =
    (h.0, h.1, h.2, h.3, h.4, h.5, subst P (sym h.6) p)
assigns_as plan kind P term p (Matrix' first rows columns q x r y) _ h = absurd h

pub matrix_assigned : (t : Constants) (e : Element) (first rows columns start : ℕ) (a b : Box Number Global) (x y : Number) (pair : Box Pair Global)
    (value : Box Term Global) (term : Term) → e ≡ views.Matrix first rows columns a b → x ≡ a.value → y ≡ b.value → start ≡ first
    → ArePair t x y pair.value → value.value ≡ term → IsAssigning t e term (SetMatrix start rows columns pair value)
matrix_assigned t e first rows columns start a b x y pair value term is row column same h at =
    rw is (record {
      assigns = λ plan kind begins has. (
        same,
        refl,
        refl,
        has.0,
        subst (λ x. IsTerm plan x pair.value.left) row (h.left.stands plan begins (subst (HasNumbers plan) (sym row) has.1)),
        subst (λ y. IsTerm plan y pair.value.right) column (h.right.stands plan begins (subst (HasNumbers plan) (sym column) has.2)),
        at,
      );
    })

pub number_assigned : (t u : Constants) (act : Action) (e : Element) (x : Number) (term : Term) (operation : Operation) → act ≡ AssignNumber e x
    → IsNumberTerm t x term → GrowsPlan t u → IsAssigning u e term operation → IsCompiled u act operation
number_assigned t u act e x term operation is h g a =
    rw is (record {
      stands = λ plan b has.
          assigns_as plan Integer (IsTerm plan x) term (h.stands plan (begins_before t u plan g b) has.1) e operation (a.assigns plan Integer b has.0);
    })

pub truth_assigned : (t u : Constants) (act : Action) (e : Element) (x : Condition) (term : Term) (operation : Operation) → act ≡ AssignTruth e x
    → IsTestTerm t x term → GrowsPlan t u → IsAssigning u e term operation → IsCompiled u act operation
truth_assigned t u act e x term operation is h g a =
    rw is (record {
      stands = λ plan b has.
          assigns_as plan Logical (IsTest plan x) term (h.tests plan (begins_before t u plan g b) has.1) e operation (a.assigns plan Logical b has.0);
    })

-- a term that is a relation stands for one
record AreRelated (plan : Plan) (x : Condition) (op : Relation) (l r : Term) : Type 0 where
  operator : Relation
  first : Number
  second : Number
  is : x ≡ Related operator first second
  same : operator ≡ op
  left : IsTerm plan first l
  right : IsTerm plan second r

compared_related : (plan : Plan) (x : Condition) (op : Relation) (i j : ℕ) → IsTest plan x (Compared op i j) → AreRelated plan x op (Register i) (Register j)
compared_related plan (Related o x y) op i j h = record { operator = o; first = x; second = y; is = refl; same = h.0; left = h.1; right = h.2 }
compared_related plan (condition.Element (Variable k)) op i j h = absurd h
compared_related plan (condition.Element (Vector' first bound p x)) op i j h = absurd h
compared_related plan (condition.Element (Matrix' first rows columns p x q y)) op i j h = absurd h
compared_related plan _ op i j h = absurd h

record AreCompared (plan : Plan) (x : Condition) (there : ℕ) (o : Option Comparing) : Type 0 where
  operator : Relation
  first : Number
  second : Number
  is : x ≡ Related operator first second
  compares : MatchOption o ⊥ (λ c. (c.there ≡ there) × (operator ≡ c.relation) × IsTerm plan first c.left × IsTerm plan second c.right)

module _ (plan : Plan) where
  related_related : (x : Condition) (t : Term) (op : Relation) (l r : Term) → IsRelationOf op l r t → IsTest plan x t → AreRelated plan x op l r
  related_related x (Compared o i j) op l r h stands =
      let w = compared_related plan x o i j stands in
      record {
        operator = w.operator;
        first = w.first;
        second = w.second;
        is = w.is;
        same = w.same ∙ sym h.0;
        left = subst (IsTerm plan w.first) (sym h.1) w.left;
        right = subst (IsTerm plan w.second) (sym h.2) w.right;
      }
  related_related (Related o x y) (Related' q p i j) op l r h stands =
      record {
        operator = o;
        first = x;
        second = y;
        is = refl;
        same = stands.0 ∙ sym h.0;
        left = subst (IsTerm plan x) (sym h.1) stands.1;
        right = subst (IsTerm plan y) (sym h.2) stands.2;
      }
  related_related (condition.Element (Variable k)) (Related' q p i j) op l r h stands = absurd stands
  related_related (condition.Element (Vector' first bound o x)) (Related' q p i j) op l r h stands = absurd stands
  related_related (condition.Element (Matrix' first rows columns o x n y)) (Related' q p i j) op l r h stands = absurd stands
  related_related _ (Related' q p i j) op l r h stands = absurd stands
  related_related x _ op l r h stands = absurd h

  all_compared : (x : Condition) (t : Term) (there : ℕ) (o : Option Comparing) → IsTest plan x t
      → MatchOption o ⊥ (λ c. (c.there ≡ there) × IsRelationOf c.relation c.left c.right t) → AreCompared plan x there o
  all_compared x t there None stands h = absurd h
  all_compared x t there (Some c) stands h =
      let w = related_related x t c.relation c.left c.right h.1 stands in
      record { operator = w.operator; first = w.first; second = w.second; is = w.is; compares = (h.0, w.same, w.left, w.right) }

  -- an operation that tests a term tests the condition that it stands for
  pub term_tests : (x : Condition) (t : Term) (there : ℕ) (operation : Operation) → IsTesting there t operation → IsTest plan x t → Tests plan x there operation
  term_tests x t there (IfTrue place term) h stands = (h.0, subst (IsTest plan x) (sym h.1) stands)
  term_tests x t there operation h stands =
      let w = all_compared x t there (comparing operation) stands h in
      subst (λ x. Tests plan x there operation) (sym w.is) w.compares

  -- a logical IF with a GO TO
  goto_stands : (whole : Action) (operation : Operation) (x : Condition) (jump : Jump) (t : Term) (there : ℕ) → IsLogicalIf x (action.Goto jump) whole
      → there ≡ jump.target → IsTesting there t operation → IsTest plan x t → IsOperation plan whole operation
  goto_stands (LogicalIf' y p inner) (When' term q operation) x jump t there is at h stands = absurd h
  goto_stands (LogicalIf' y p inner) operation x jump t there is at h stands =
      subst (λ z. IsOperation plan (LogicalIf' y p z) operation) is.1
      (subst (λ n. Tests plan y n operation) at (term_tests y t there operation h (subst (λ z. IsTest plan z t) is.0 stands)))
  goto_stands _ operation x jump t there is at h stands = absurd is

pub goto_conditional : (t : Constants) (x : Condition) (act : Action) (jump : Jump) (term : Term) (there : ℕ) (operation : Operation) → act ≡ action.Goto jump
    → there ≡ jump.target → IsTestTerm t x term → IsTesting there term operation → IsConditional t x act operation
goto_conditional t x act jump term there operation is at h goes =
    rw is (record {
      stands = λ plan whole b made has inner. goto_stands plan whole operation x jump term there made at goes (h.tests plan b has);
    })
