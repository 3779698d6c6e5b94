-- What follows from the form of a statement alone.
use Rattle.std.specs.Prelude.{Bool, true, false}
use Rattle.f77_tree.specs.declared.form.Form.{Form}

-- statements of this form are executable (ANSI X3.9-1978, 7.1)
abbrev pub is_executable : Form → Bool
is_executable Form.Subroutine = false
is_executable Form.Declare = false
is_executable Form.Dimension = false
is_executable Form.Preset = false
is_executable _ = true

-- statements of this form may stand in a logical IF (ANSI X3.9-1978, 11.5): executable ones, but no
-- DO, block IF, ELSE IF, ELSE, END IF, END or other logical IF
abbrev pub acts : Form → Bool
acts Form.Subroutine = false
acts Form.Declare = false
acts Form.Dimension = false
acts Form.Preset = false
acts Form.LogicalIf = false
acts Form.BlockIf = false
acts Form.ElseIf = false
acts Form.Else = false
acts Form.EndIf = false
acts Form.Loop = false
acts Form.End = false
acts _ = true
