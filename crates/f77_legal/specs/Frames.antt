-- The frame of a program: what a change of one statement may leave as it was. In the frame every
-- executable statement has lost its expressions, references and jumps. The frame alone decides
-- declarations, DATA, labels, blocks and the ranges of DOs.
use Rattle.std.specs.Prelude.{◌≡◌, false, List, map, None}
use Rattle.f77_program.specs.Program.{LineFields}
use Rattle.f77_tree.specs.Tree.{Tree}
use Rattle.f77_tree.specs.Statement.{Statement}

-- the statement without its expressions, references and jumps: an action becomes CONTINUE, and a DO
-- keeps its label and its variable
abbrev pub framed : Statement → Statement
framed (Statement.Subroutine name names) = Statement.Subroutine name names
framed (Statement.Declare kind declarations) = Statement.Declare kind declarations
framed (Statement.Dimension declarations) = Statement.Dimension declarations
framed (Statement.Preset groups) = Statement.Preset groups
framed (Statement.BlockIf tree) = Statement.BlockIf (Tree.Truth false)
framed (Statement.ElseIf tree) = Statement.ElseIf (Tree.Truth false)
framed Statement.Else = Statement.Else
framed Statement.EndIf = Statement.EndIf
framed (Statement.Loop label name first last step) =
    Statement.Loop label name (Tree.Number 0) (Tree.Number 0) None
framed Statement.End = Statement.End
framed _ = Statement.Continue

abbrev pub framed_line : LineFields → LineFields
framed_line line = record (line) { stmt = framed line.stmt }

-- the frame of a program, line by line
abbrev pub frame : List LineFields → List LineFields
frame program = map framed_line program

-- two programs differ in expressions, references, jumps and actions alone
abbrev pub HaveOneFrame : List LineFields → List LineFields → Type 0
HaveOneFrame program other = frame program ≡ frame other
