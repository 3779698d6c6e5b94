-- What each operator puts in the place of a node (King and Offutt 1991,
-- the operators of Mothra). A rank is a place in these lists, from 1.
use Rattle.std.specs.Prelude.{ℕ, zero, suc, ◌+◌, ◌==◌, ◌&&◌, ◌||◌, ◌+ℤ◌, ◌-ℤ◌, pos, nat_abs, Bool}
use Rattle.std.specs.Prelude.{true, false, not, nat_eq, nat_lt, nat_le, List, [], ◌∷◌, ◌++◌}
use Rattle.std.specs.Prelude.{length, map, filter, Option, Some, None, if◌then◌else◌}
use Rattle.std.specs.List.{filter_map, list_any}
use Rattle.std.specs.Str.{bytes_eq}
use Rattle.f77_tree.specs.Comparing.{same_tree, same_operator, same_kind}
use Rattle.f77_tree.specs.Statement.{same_statement, form_of, is_executable_statement, Statement}
use Rattle.f77_tree.specs.Limits.{largest_integer}
use Rattle.f77_tree.specs.Node.{NodeOf}
use Rattle.f77_tree.specs.Tree.{Tree, Trees}
use Rattle.f77_tree.specs.declared.data.Constant.{Constant}
use Rattle.f77_tree.specs.declared.data.Value.{Value}
use Rattle.f77_tree.specs.Form as forms
use Rattle.f77_tree.specs.declared.form.Form.{Form}
use Rattle.f77_tree.specs.declared.intrinsic.Intrinsic.TheVariants.{Iabs}
use Rattle.f77_tree.specs.declared.operator.Operator.{Operator}
use Rattle.f77_tree.specs.declared.operator.Operator.TheVariants as operator
use Rattle.f77_tree.specs.declared.operator.Sign.TheVariants.{Minus}
use Rattle.f77_tree.specs.declared.tree.Kind.{Kind}
use Rattle.f77_tree.specs.declared.tree.Kind.TheVariants.{Integer, Logical}
use Rattle.f77_legal.specs.Kinds.{result_kind}
use Rattle.f77_legal.specs.Names.{Symbol}
use Rattle.mothra_replacements.specs.Pools.{PoolFields, are_some, is_operand, pool, scalar}
use Rattle.mothra_replacements.specs.declared.operands.Operand.{Operand}
use Rattle.mothra_replacements.specs.declared.operands.Operand.TheVariants as operand
use Rattle.mothra_codes.specs.declared.op.Op.{Op}
use Rattle.mothra_codes.specs.declared.op.Op.TheVariants.{Aar, Abs, Acr, Aor, Asr, Car, Cnr, Crp, Csr, Der, Dsa}
use Rattle.mothra_codes.specs.declared.op.Op.TheVariants.{Glr, Lcr, Ror, Rsr, San, Sar, Scr, Sdl, Src, Svr, Uoi}

-- the kind of an expression, where the names have these kinds
abbrev pub kind_of_expression : (Symbol → Kind) → Tree → Kind
kind_of_expression kinds (Tree.Number n) = Integer
kind_of_expression kinds (Tree.Truth b) = Logical
kind_of_expression kinds (Tree.Reference name items) = kinds name
kind_of_expression kinds (Tree.Call function items) = Integer
kind_of_expression kinds (Tree.Signed sign t) = Integer
kind_of_expression kinds (Tree.Not t) = Logical
kind_of_expression kinds (Tree.Binary op a b) = result_kind op
kind_of_expression kinds (Tree.ZeroPush t) = Integer

-- each other expression of a pool, of the same kind
abbrev pub others : (Symbol → Kind) → List Tree → Tree → List Tree
others kinds list t = filter
    (λ u. same_kind (kind_of_expression kinds u) (kind_of_expression kinds t)
    && not (same_tree u t)) list

-- ACR, array reference for constant, and its kin: each other operand of the
-- first sort, of the same kind, for an operand of the second sort
abbrev pub drawn : PoolFields → Operand → Operand → Tree → List Tree
drawn pools new old t = if is_operand old t then others pools.kinds (pool pools new) t else []

-- another array of the same kind and number of bounds
abbrev pub is_comparable : PoolFields → Symbol → Symbol → Bool
is_comparable pools name other =
    same_kind (pools.kinds other) (pools.kinds name)
    && (length (pools.bounds other) == length (pools.bounds name) && not (bytes_eq other name))

-- these subscripts behind each such array
abbrev pub with_subscripts : PoolFields → Symbol → Trees → List Tree
with_subscripts pools name items =
    map (λ other. Tree.Reference other items) (filter (is_comparable pools name) pools.arrays)

-- CNR: each other array of the same kind and number of bounds, with the same subscripts
abbrev pub comparable : PoolFields → Tree → List Tree
comparable pools (Tree.Reference name items) =
    if are_some items then with_subscripts pools name items else []
comparable pools _ = []

-- IABS of an expression
abbrev pub absolute_value : Tree → Tree
absolute_value t = Tree.Call Iabs (Trees.Then t Trees.None)

-- ABS, of INTEGER and no constant: the absolute value, its negative, and ZPUSH, which
-- fails where the value is zero
abbrev pub absolute : (Symbol → Kind) → Tree → List Tree
absolute kinds t =
    if is_operand operand.Constant t || not (same_kind (kind_of_expression kinds t) Integer) then []
    else absolute_value t ∷ (Tree.Signed Minus (absolute_value t) ∷ (Tree.ZeroPush t ∷ []))

-- UOI, of no constant: of INTEGER the negative, plus 1 and minus 1; of LOGICAL the negation
abbrev pub unary_of : Kind → Tree → List Tree
unary_of Integer t =
    Tree.Signed Minus t ∷ (Tree.Binary operator.Add t (Tree.Number 1)
    ∷ (Tree.Binary operator.Subtract t (Tree.Number 1) ∷ []))
unary_of Logical t = Tree.Not t ∷ []

abbrev pub with_unary : (Symbol → Kind) → Tree → List Tree
with_unary kinds t =
    if is_operand operand.Constant t then [] else unary_of (kind_of_expression kinds t) t

-- AOR: the arithmetic operators (ANSI X3.9-1978, 6.1)
abbrev pub arithmetic_operators : List Operator
arithmetic_operators = operator.Add
    ∷ (operator.Subtract ∷ (operator.Multiply ∷ (operator.Divide ∷ (operator.Power ∷ []))))

-- ROR: the relational operators (ANSI X3.9-1978, 6.3)
abbrev pub relations : List Operator
relations =
    operator.Less ∷ (operator.LessOrEqual ∷ (operator.Equal
    ∷ (operator.NotEqual ∷ (operator.GreaterOrEqual ∷ (operator.Greater ∷ [])))))

-- LCR: the logical connectors (ANSI X3.9-1978, 6.4)
abbrev pub connectors : List Operator
connectors = operator.And ∷ (operator.Or ∷ (operator.Equivalent ∷ (operator.NotEquivalent ∷ [])))

-- an operator of the group
abbrev pub is_in : List Operator → Operator → Bool
is_in group op = list_any (λ o. same_operator o op) group

-- the other operators of the same group, in the order of the group
abbrev pub other_operations : List Operator → Operator → Tree → Tree → List Tree
other_operations group op a b =
    map (λ o. Tree.Binary o a b) (filter (λ o. not (same_operator o op)) group)

-- AOR, LCR and ROR: the operation with each other operator of its group,
-- then what `more` gives
abbrev pub with_group : List Operator → (Tree → Tree → List Tree) → Tree → List Tree
with_group group more (Tree.Binary op a b) =
    if is_in group op then other_operations group op a b ++ more a b else []
with_group group more _ = []

-- each operand alone
abbrev pub operands : Tree → Tree → List Tree
operands a b = a ∷ (b ∷ [])

-- the truth values
abbrev pub truths : List Tree
truths = Tree.Truth true ∷ (Tree.Truth false ∷ [])

-- the number plus one, unless that is above the largest INTEGER
abbrev pub raised : ℕ → List Tree
raised n = if nat_lt n largest_integer then Tree.Number (n + 1) ∷ [] else []

-- the number less one, unless that is above the largest INTEGER; of 0 it is a sign before 1
abbrev pub lowered : ℕ → List Tree
lowered zero = Tree.Signed Minus (Tree.Number 1) ∷ []
lowered (suc n) = if nat_le n largest_integer then Tree.Number n ∷ [] else []

-- CRP: the number plus one and less one, none above the largest INTEGER; the other truth value
abbrev pub altered : Tree → List Tree
altered (Tree.Number n) = raised n ++ lowered n
altered (Tree.Truth b) = Tree.Truth (not b) ∷ []
altered _ = []

-- what an operator puts in the place of an expression
abbrev pub in_expression : Op → PoolFields → Tree → List Tree
in_expression Aar pools t = drawn pools operand.ArrayReference operand.ArrayReference t
in_expression Abs pools t = absolute pools.kinds t
in_expression Acr pools t = drawn pools operand.ArrayReference operand.Constant t
in_expression Aor pools t = with_group arithmetic_operators operands t
in_expression Asr pools t = drawn pools operand.ArrayReference operand.Scalar t
in_expression Car pools t = drawn pools operand.Constant operand.ArrayReference t
in_expression Cnr pools t = comparable pools t
in_expression Crp pools t = altered t
in_expression Csr pools t = drawn pools operand.Constant operand.Scalar t
in_expression Lcr pools t = with_group connectors (λ a b. operands a b ++ truths) t
in_expression Ror pools t = with_group relations (λ a b. truths) t
in_expression Sar pools t = drawn pools operand.Scalar operand.ArrayReference t
in_expression Scr pools t = drawn pools operand.Scalar operand.Constant t
in_expression Src pools t = drawn pools operand.Constant operand.Constant t
in_expression Svr pools t = drawn pools operand.Scalar operand.Scalar t
in_expression Uoi pools t = with_unary pools.kinds t
in_expression _ pools t = []

-- an expression in the place of a node, where it may stand there: only a
-- reference is assigned to, and a DO variable is a scalar
abbrev pub placed : NodeOf → Tree → Option NodeOf
placed (NodeOf.Part old) t = Some (NodeOf.Part t)
placed (NodeOf.Target old olds) (Tree.Reference name items) = Some (NodeOf.Target name items)
placed (NodeOf.Named old) (Tree.Reference name items) =
    if are_some items then None else Some (NodeOf.Named name)
placed _ _ = None

-- DSA: the number plus one and less one, from -2147483647 to 2147483647; the other truth value
abbrev pub next_constants : Constant → List Constant
next_constants (Constant.Number z) = map Constant.Number
    (filter (λ w. nat_le (nat_abs w) largest_integer) ((z +ℤ pos 1) ∷ ((z -ℤ pos 1) ∷ [])))
next_constants (Constant.Truth b) = Constant.Truth (not b) ∷ []

-- DSA, for a value of DATA, with the same repetition
abbrev pub next_values : Value → List NodeOf
next_values value =
    map (λ constant. NodeOf.Initial (record { times = value.times; constant = constant }))
    (next_constants value.constant)

-- what an operator puts in the place of a value of DATA
abbrev pub in_value : Op → Value → List NodeOf
in_value Dsa value = next_values value
in_value _ value = []

-- GLR and DER: each other label
abbrev pub other_labels : List ℕ → ℕ → List NodeOf
other_labels labels label =
    map NodeOf.Labelled (filter (λ other. not (nat_eq other label)) labels)

-- what an operator puts in the place of a label
abbrev pub in_label : Op → PoolFields → ℕ → List NodeOf
in_label Der pools label = other_labels pools.labels label
in_label Glr pools label = other_labels pools.labels label
in_label _ pools label = []

-- SDL: an action that is no CONTINUE and no trap, or a logical IF
abbrev pub is_replaceable_action : Form → Bool
is_replaceable_action Form.LogicalIf = true
is_replaceable_action Form.Continue = false
is_replaceable_action Form.Trap = false
is_replaceable_action form = forms.acts form

-- RSR and SAN: a statement that SDL replaces, or a CONTINUE
abbrev pub acts_or_continues : Form → Bool
acts_or_continues Form.Continue = true
acts_or_continues form = is_replaceable_action form

-- a new statement for one of such a form, unless it is the same statement
abbrev pub new_statement : (Form → Bool) → Statement → Statement → List NodeOf
new_statement is_site new s =
    if is_site (form_of s) && not (same_statement new s) then NodeOf.Itself new ∷ [] else []

-- what an operator puts in the place of a statement
abbrev pub in_statement : Op → Statement → List NodeOf
in_statement Rsr s = new_statement acts_or_continues Statement.Return s
in_statement San s = new_statement acts_or_continues Statement.Trap s
in_statement Sdl s = new_statement is_replaceable_action Statement.Continue s
in_statement _ s = []

-- Rule: what an operator puts there
-- what each operator puts in the place of a node, in the order of its list
abbrev pub replacements : Op → PoolFields → NodeOf → List NodeOf
replacements op pools (NodeOf.Itself s) = in_statement op s
replacements op pools (NodeOf.Target name items) =
    filter_map (placed (NodeOf.Target name items))
    (in_expression op pools (Tree.Reference name items))
replacements op pools (NodeOf.Part t) =
    filter_map (placed (NodeOf.Part t)) (in_expression op pools t)
replacements op pools (NodeOf.Named name) =
    filter_map (placed (NodeOf.Named name)) (in_expression op pools (scalar name))
replacements op pools (NodeOf.Declared d) = []
replacements op pools (NodeOf.Labelled label) = in_label op pools label
replacements op pools (NodeOf.Initial value) = in_value op value

-- a DO
abbrev pub is_loop_form : Form → Bool
is_loop_form Form.Loop = true
is_loop_form _ = false

-- DATA
abbrev pub is_preset : Form → Bool
is_preset Form.Preset = true
is_preset _ = false

-- Rule: what an operator puts there
-- The statements in which an operator has sites: the DATA statements for DSA, the DOs
-- for DER, all other executable ones for GLR, and every executable one for the rest.
abbrev pub stands_in : Op → Statement → Bool
stands_in Der s = is_loop_form (form_of s)
stands_in Dsa s = is_preset (form_of s)
stands_in Glr s = is_executable_statement s && not (is_loop_form (form_of s))
stands_in _ s = is_executable_statement s

-- Rule: what an operator puts there
-- what an operator gives a node of a statement
abbrev pub gives : Op → PoolFields → Statement → NodeOf → List NodeOf
gives op pools s node = if stands_in op s then replacements op pools node else []
