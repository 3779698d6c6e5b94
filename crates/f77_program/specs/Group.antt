-- The order of statements (ANSI X3.9-1978, 3.5).
use Rattle.std.specs.Prelude.{◌≡◌, ℕ, ◌==◌, ◌&&◌, nat_lt, nat_le, Bool, List}
use Rattle.std.specs.Prelude.{[], ◌∷◌, ◌++◌, replicate, Option, Some, None}
use Rattle.f77_program.specs.declared.group.Group.{Group}
use Rattle.f77_program.specs.declared.group.Group.TheVariants.{Subroutine, Declaration, Data, Executable, End}
use Rattle.f77_tree.specs.Statement.{form_of, Statement}
use Rattle.f77_tree.specs.declared.form.Form.{Form}

-- the group to which statements of a form belong
abbrev pub form_group : Form → Group
form_group Form.Subroutine = Subroutine
form_group Form.Declare = Declaration
form_group Form.Dimension = Declaration
form_group Form.Preset = Data
form_group Form.End = End
form_group _ = Executable

-- the group to which a statement belongs; it decides where the statement may stand (3.5)
abbrev pub group_of : Statement → Group
group_of statement = form_group (form_of statement)

-- the rank of a group in a subroutine, from 0
abbrev pub group_rank : Group → ℕ
group_rank Subroutine = 0
group_rank Declaration = 1
group_rank Data = 2
group_rank Executable = 3
group_rank End = 4

-- rank n may come behind the rank `before`: it is not lower, it is not that of SUBROUTINE, and
-- `before` is not that of END
abbrev pub comes_later : ℕ → ℕ → Bool
comes_later before n = nat_lt 0 n && (nat_le before n && nat_lt before 4)

-- Rule: the order of statements (3.5)
-- A statement of the second group may stand behind one of the first, or first of all. SUBROUTINE
-- stands once and first, then declarations, DATA and executable statements, and END once and last
-- (3.5).
abbrev pub may_stand : Option Group → Group → Bool
may_stand None group = group_rank group == 0
may_stand (Some before) group = comes_later (group_rank before) (group_rank group)

-- this many declarations, DATA and executable statements, and then END
abbrev pub behind_heading : ℕ → ℕ → ℕ → List Group
behind_heading declarations initial_values executables =
    replicate declarations Declaration
    ++ (replicate initial_values Data ++ (replicate executables Executable ++ (End ∷ [])))

-- Rule: the order of statements (3.5)
-- SUBROUTINE, then declarations, then DATA, then executable statements, any number of each, and END
abbrev pub AreInOrder : List Group → Type 0
AreInOrder groups =
    (declarations : ℕ) × (initial_values : ℕ) × (executables : ℕ)
    × (groups ≡ Subroutine ∷ behind_heading declarations initial_values executables)
