-- The definitions at worked rows.
use Rattle.f77_legal.proofs.Common.{◌≡◌, List, refl, ℕ, [], ◌∷◌, Some, None, codes, pos, ℤ, faults, first_fault, BadData, DoubleLabel, RealName, Twice}
use Rattle.f77_legal.proofs.Common.{BadTarget, BadTerminal, Dimensions, DoVariable, IntoBlock, Nesting, NoLabel, LineFields, function_named, Statement, Tree}
use Rattle.f77_legal.proofs.Common.{Trees, DeclFields, Integer}
use Rattle.f77_tree.specs.declared.data.Constant.TheVariants.{Number}
use Rattle.f77_tree.specs.declared.data.Value.{Value}
use Rattle.f77_tree.specs.declared.operator.Operator.TheVariants.{Greater}

abbrev line : ℕ → Statement → LineFields
line n s = record { label = None; stmt = s; line = n }

abbrev labelled : ℕ → ℕ → Statement → LineFields
labelled l n s = record { label = Some l; stmt = s; line = n }

abbrev name : List ℕ → Tree
name x = Tree.Reference x Trees.None

abbrev sets : List ℕ → Tree → Statement
sets x t = Statement.Assign x Trees.None t

abbrev heading : List ℕ → List (List ℕ) → LineFields
heading unit dummies = line 1 (Statement.Subroutine unit dummies)

abbrev decl : List ℕ → List ℕ → DeclFields
decl x bounds = record { name = x; bounds = bounds }

abbrev k : List ℕ
k = codes "K"

x1 : first_fault (heading (codes "X1") (k ∷ []) ∷ (line 2 (sets (codes "X") (name k)) ∷ (line 3 Statement.End ∷ []))) ≡ Some (RealName (codes "X"))
unfolding function_named
x1 = refl

x2 : first_fault (heading (codes "X2") (codes "I" ∷ (codes "I" ∷ [])) ∷ (line 2 Statement.End ∷ [])) ≡ Some (Twice (codes "I"))
unfolding function_named
x2 = refl

x3 : first_fault (heading (codes "X3") (k ∷ []) ∷ (line 2 (Statement.Declare Integer (decl (codes "MOD") [] ∷ [])) ∷ (line 3 Statement.End ∷ []))) ≡ Some (Twice (codes "MOD"))
unfolding function_named
x3 = refl

x4 : first_fault (heading (codes "X4") (codes "M" ∷ (k ∷ []))
    ∷ (line 2 (Statement.Declare Integer (decl (codes "M") (3 ∷ []) ∷ [])) ∷ (line 3 (sets k (name (codes "M"))) ∷ (line 4 Statement.End ∷ []))))
    ≡ Some (Dimensions 3)
unfolding function_named
x4 = refl

x5 : first_fault (heading (codes "X5") (k ∷ []) ∷ (labelled 10 2 (sets k (Tree.Number 1)) ∷ (labelled 20 3 (sets k (Tree.Number 1))
    ∷ (labelled 20 4 (sets k (Tree.Number 1)) ∷ (labelled 10 5 (sets k (Tree.Number 1)) ∷ (line 6 Statement.End ∷ []))))))
    ≡ Some (DoubleLabel 10)
unfolding function_named
x5 = refl

x6 : first_fault (heading (codes "X6") (k ∷ []) ∷ (line 2 (Statement.Goto 10) ∷ (line 3 Statement.End ∷ []))) ≡ Some (NoLabel 2)
unfolding function_named
x6 = refl

x7 : first_fault (heading (codes "X7") (k ∷ [])
    ∷ (labelled 10 2 (Statement.Declare Integer (decl (codes "J") [] ∷ [])) ∷ (line 3 (Statement.Goto 10) ∷ (line 4 Statement.End ∷ []))))
    ≡ Some (BadTarget 3)
unfolding function_named
x7 = refl

x8 : first_fault (heading (codes "X8") (k ∷ []) ∷ (line 2 (Statement.BlockIf (Tree.Binary Greater (name k) (Tree.Number 0))) ∷ (line 3 Statement.End ∷ []))) ≡ Some (Nesting 2)
unfolding function_named
x8 = refl

abbrev i : List ℕ
i = codes "I"

x9 : first_fault (heading (codes "X9") (i ∷ [])
    ∷ (line 2 (Statement.Loop 10 i (Tree.Number 1) (Tree.Number 3) None) ∷ (labelled 10 3 (sets i (Tree.Number 2)) ∷ (line 4 Statement.End ∷ []))))
    ≡ Some (DoVariable 3)
unfolding function_named
x9 = refl

abbrev one : ℤ → Value
one z = record { times = 1; constant = Number z }

xa : first_fault (heading (codes "XA") (k ∷ [])
    ∷ (line 2 (Statement.Preset (record { names = codes "J" ∷ []; values = one (pos 1) ∷ (one (pos 2) ∷ []) } ∷ [])) ∷ (line 3 Statement.End ∷ [])))
    ≡ Some (BadData 2)
unfolding function_named
xa = refl

bad : first_fault (heading (codes "BAD") (codes "N" ∷ []) ∷ (line 2 (Statement.Goto 10)
    ∷ (line 3 (Statement.Loop 10 i (Tree.Number 1) (name (codes "N")) None) ∷ (labelled 10 4 Statement.Continue ∷ (line 5 Statement.End ∷ [])))))
    ≡ Some (IntoBlock 2)
unfolding function_named
bad = refl

bad_return : first_fault (heading (codes "BAD") (codes "N" ∷ []) ∷ (line 2 (Statement.Goto 10)
    ∷ (line 3 (Statement.Loop 10 i (Tree.Number 1) (name (codes "N")) None) ∷ (labelled 10 4 Statement.Return ∷ (line 5 Statement.End ∷ [])))))
    ≡ Some (BadTerminal 3)
unfolding function_named
bad_return = refl

-- a block with all its branches, a DO in one of them, jumps to END IF and to END
abbrev condition : Tree
condition = Tree.Binary Greater (name k) (Tree.Number 0)

abbrev good : List LineFields
good =
    heading (codes "G") (k ∷ [])
    ∷ (line 2 (Statement.BlockIf condition)
    ∷ (line 3 (Statement.Goto 30)
    ∷ (line 4 (Statement.ElseIf condition)
    ∷ (line 5 (Statement.Loop 20 i (Tree.Number 1) (name k) None)
    ∷ (labelled 20 6 Statement.Continue
    ∷ (line 7 Statement.Else
    ∷ (line 8 (Statement.Goto 40)
    ∷ (labelled 30 9 Statement.EndIf
    ∷ (labelled 40 10 Statement.End ∷ [])))))))))

good_is_legal : faults good ≡ []
unfolding function_named
good_is_legal = refl

-- a second ELSE, a loop across a branch, a jump into a branch
second_else : faults (heading (codes "G") (k ∷ []) ∷ (line 2 (Statement.BlockIf condition)
    ∷ (line 3 Statement.Else ∷ (line 4 Statement.Else ∷ (line 5 Statement.EndIf ∷ (line 6 Statement.End ∷ [])))))) ≡ Nesting 4 ∷ []
unfolding function_named
second_else = refl

across : faults (heading (codes "G") (k ∷ []) ∷ (line 2 (Statement.Loop 10 i (Tree.Number 1) (name k) None)
    ∷ (line 3 (Statement.BlockIf condition) ∷ (labelled 10 4 Statement.Continue ∷ (line 5 Statement.EndIf ∷ (line 6 Statement.End ∷ []))))))
    ≡ Nesting 2 ∷ []
unfolding function_named
across = refl

into : faults (heading (codes "G") (k ∷ []) ∷ (line 2 (Statement.Goto 10)
    ∷ (line 3 (Statement.BlockIf condition) ∷ (labelled 10 4 Statement.Continue ∷ (line 5 Statement.EndIf ∷ (line 6 Statement.End ∷ []))))))
    ≡ IntoBlock 2 ∷ []
unfolding function_named
into = refl
