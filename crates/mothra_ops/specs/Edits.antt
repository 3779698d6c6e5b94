-- The edits of an operator: what they make, which are members of its list, and the list.
use Rattle.std.specs.Prelude.{◌≡◌, ◌≢◌, ◌↔◌, ◌⊎◌, ◌<◌, ◌≤◌, ◌-◌, ◌==◌, ◌%◌, ⊤, ℕ, zero, suc, List, Option}
use Rattle.std.specs.Prelude.{Some, None, slice_get, All, AllPairs, Contains, length, map, filter}
use Rattle.std.specs.List.{enumerate_from}
use Rattle.std.specs.Option.{option_and_then}
use Rattle.f77_program.specs.Program.{LineFields}
use Rattle.f77_program.specs.Patching.{Fits, patched}
use Rattle.f77_tree.specs.Statement.{Statement}
use Rattle.f77_legal.specs.Labels.{nth_statement}
use Rattle.f77_legal.specs.Legal.{IsLegal}
use Rattle.mothra_replacements.specs.Pools.{PoolFields, pools_of}
use Rattle.mothra_replacements.specs.Replacements.{gives}
use Rattle.f77_tree.specs.Node.{NodeOf}
use Rattle.f77_tree.specs.Sites.{Site, sites, node_at, whole_with}
use Rattle.mothra_ops.specs.declared.edit.Edit.{Edit}
use Rattle.mothra_replacements.specs.declared.fault.OpsFault.{OpsFault}
use Rattle.mothra_replacements.specs.declared.fault.OpsFault.TheVariants.{Memory, NotASite, TooMany}
use Rattle.mothra_codes.specs.declared.op.Op.{Op}

-- the item with this number, counted from 1
abbrev pub numbered : {X : Type 0} → List X → ℕ → Option X
numbered xs zero = None
numbered xs (suc k) = slice_get xs k

-- the node that an edit puts in the place of the node at a site: of those
-- that its operator gives for that node, the one with the edit's rank
abbrev pub replacement_of_rank :
    PoolFields → Edit → Statement → Site Statement → Option NodeOf
replacement_of_rank pools edit statement site =
    numbered (gives edit.op pools statement (node_at site)) edit.rank

-- the statement that an edit makes of one, with the new node at the site of its position
abbrev pub edited : PoolFields → Edit → Statement → Option Statement
edited pools edit statement =
    option_and_then
    (λ site. option_and_then (λ node. Some (whole_with site node))
    (replacement_of_rank pools edit statement site))
    (slice_get (sites statement) edit.position)

-- the statement that an edit makes of the program's statement with its number
abbrev pub made : PoolFields → List LineFields → Edit → Option Statement
made pools program edit =
    option_and_then (λ line. edited pools edit line.stmt) (numbered program edit.statement)

-- Rule: a mutant, lists, O3
-- The program with this statement in the place of the one with this number
-- is a mutant: it is a program, it is legal, and it is another program.
pub record IsMutant (program : List LineFields) (number : ℕ) (statement : Statement) : Type 0 where
  pub fits : Fits program number statement
  pub legal : IsLegal (patched program number statement)
  pub differs : nth_statement program (number - 1) ≢ Some statement

-- Rule: a mutant, lists, O3
-- The edit is a member of the operator's list: what it makes is a mutant.
pub record IsMember (op : Op) (program : List LineFields) (edit : Edit) : Type 0 where
  pub own : edit.op ≡ op
  pub statement : Statement
  pub makes : made (pools_of program) program edit ≡ Some statement
  pub mutant : IsMutant program edit.statement statement

-- What the edit makes is legal, and another program. Whether the new statement may stand there is
-- not asked here.
pub record MakesLegal (op : Op) (program : List LineFields) (edit : Edit) : Type 0 where
  pub own : edit.op ≡ op
  pub statement : Statement
  pub makes : made (pools_of program) program edit ≡ Some statement
  pub legal : IsLegal (patched program edit.statement statement)
  pub differs : nth_statement program (edit.statement - 1) ≢ Some statement

-- the edit stands before this place, in the order of statement, position and rank
abbrev pub Below : ℕ → ℕ → ℕ → Edit → Type 0
Below statement position rank edit =
    (edit.statement < statement) ⊎ ((edit.statement ≡ statement)
    × ((edit.position < position) ⊎ ((edit.position ≡ position) × (edit.rank < rank))))

abbrev pub BeforeEdit : Edit → Edit → Type 0
BeforeEdit one other = Below other.statement other.position other.rank one

-- the edits with this property in order, each once
pub record Lists (P : Edit → Type 0) (edits : List Edit) : Type 0 where
  pub ordered : AllPairs BeforeEdit edits
  pub exactly : (edit : Edit) → Contains edits edit ↔ P edit

-- Rule: a mutant, lists, O3
-- each q-th item of a list, from the first: the items 1, q + 1, 2 q + 1 and so on
abbrev pub thinned : {X : Type 0} → ℕ → List X → List X
thinned q xs =
    map (λ numbered. numbered.1) (filter (λ numbered. numbered.0 % q == 0) (enumerate_from 0 xs))

-- the most items of a thinned list
abbrev pub most_edits : ℕ
most_edits = 1048575

-- the most items of a whole list, before it is thinned
abbrev pub most_whole : ℕ
most_whole = 4294967295

-- Rule: a mutant, lists, O3
-- the list is the whole list of the operator, thinned by q, and neither is too long
pub record IsList (op : Op) (program : List LineFields) (q : ℕ) (edits : List Edit) : Type 0 where
  pub whole : List Edit
  pub lists : Lists (IsMember op program) whole
  pub is : edits ≡ thinned q whole
  pub few : length edits ≤ most_edits
  pub few_whole : length whole ≤ most_whole

-- the operator's list is too long: some of its members, in order, are too many already
pub record IsTooLong (op : Op) (program : List LineFields) (q : ℕ) : Type 0 where
  pub some : List Edit
  pub ordered : AllPairs BeforeEdit some
  pub members : All (IsMember op program) some
  pub many : (most_edits < length (thinned q some)) ⊎ (most_whole < length some)

-- the operator's list, thinned by q, and the length of the whole list
pub record IsCountedList (op : Op) (program : List LineFields) (q : ℕ) (edits : List Edit)
    (count : ℕ) : Type 0 where
  pub list : IsList op program q edits
  pub counted : count ≡ length list.whole

-- Rule: a mutant, lists, O3
-- the faults for which there is no list
abbrev pub IsNoList : Op → List LineFields → ℕ → OpsFault → Type 0
IsNoList op program q Memory = ⊤
IsNoList op program q NotASite = ⊥
IsNoList op program q (TooMany other) = (other ≡ op) × IsTooLong op program q
