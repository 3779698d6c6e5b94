-- What the frame keeps of one statement: what it is to blocks, DOs, jumps, declarations and DATA.
use Rattle.f77_legal.proofs.Common.{◌≡◌, map, sym, List, refl, [], false, ◌∷◌, Bool, true, filter, true≢false, Symbol, NameUse, is_block_if, is_alternative}
use Rattle.f77_legal.proofs.Common.{groups_of, is_end_if, terminal_label, uses_of, do_variable_of, framed, is_else, Plain, is_target, unit_name_of, Dimensioned}
use Rattle.f77_legal.proofs.Common.{Dummy, Typed, dummies_of, is_framed_out, names_of, Statement, form_of}

pub framed_out : (s : Statement) → is_framed_out (form_of s) ≡ true → framed s ≡ Statement.Continue
framed_out (Statement.Assign name items tree) out = refl
framed_out (Statement.Goto label) out = refl
framed_out (Statement.ComputedGoto labels tree) out = refl
framed_out (Statement.ArithIf tree first second third) out = refl
framed_out (Statement.LogicalIf tree statement) out = refl
framed_out Statement.Continue out = refl
framed_out Statement.Return out = refl
framed_out Statement.Stop out = refl
framed_out Statement.Trap out = refl
framed_out _ out = absurd (true≢false (sym out))

pub is_block_if-framed : (s : Statement) → is_block_if (framed s) ≡ is_block_if s
is_block_if-framed (Statement.BlockIf tree) = refl
is_block_if-framed _ = refl

pub is_end_if-framed : (s : Statement) → is_end_if (framed s) ≡ is_end_if s
is_end_if-framed Statement.EndIf = refl
is_end_if-framed _ = refl

pub is_else-framed : (s : Statement) → is_else (framed s) ≡ is_else s
is_else-framed Statement.Else = refl
is_else-framed _ = refl

pub is_alternative-framed : (s : Statement) → is_alternative (framed s) ≡ is_alternative s
is_alternative-framed Statement.Else = refl
is_alternative-framed _ = refl

pub is_target-framed : (s : Statement) → is_target (framed s) ≡ is_target s
is_target-framed Statement.Else = refl
is_target-framed _ = refl

pub terminal_label-framed : (s : Statement) → terminal_label (framed s) ≡ terminal_label s
terminal_label-framed (Statement.Loop label name first last step) = refl
terminal_label-framed _ = refl

pub variable_of-framed : (s : Statement) → do_variable_of (framed s) ≡ do_variable_of s
variable_of-framed (Statement.Loop label name first last step) = refl
variable_of-framed _ = refl

pub groups_of-framed : (s : Statement) → groups_of (framed s) ≡ groups_of s
groups_of-framed (Statement.Preset groups) = refl
groups_of-framed _ = refl

pub dummies_of-framed : (s : Statement) → dummies_of (framed s) ≡ dummies_of s
dummies_of-framed (Statement.Subroutine name names) = refl
dummies_of-framed _ = refl

pub unit_name_of-framed : (s : Statement) → unit_name_of (framed s) ≡ unit_name_of s
unit_name_of-framed (Statement.Subroutine name names) = refl
unit_name_of-framed _ = refl

-- a use that says more of a name than that it is there
abbrev pub declares : NameUse → Bool
declares (Dummy name) = true
declares (Typed kind declaration) = true
declares (Dimensioned declaration) = true
declares (Plain name) = false

none_plain : (names : List Symbol) → filter declares (map Plain names) ≡ []
none_plain [] = refl
none_plain (name ∷ names) = none_plain names

pub declared_in-framed : (s : Statement) → filter declares (uses_of (framed s)) ≡ filter declares (uses_of s)
declared_in-framed (Statement.Subroutine name names) = refl
declared_in-framed (Statement.Declare kind declarations) = refl
declared_in-framed (Statement.Dimension declarations) = refl
declared_in-framed (Statement.Preset groups) = refl
declared_in-framed s = sym (none_plain (names_of s))
