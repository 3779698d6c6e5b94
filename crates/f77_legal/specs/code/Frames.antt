-- Which statements the frame of a program leaves out.
-- Private functions and proofs alone cite what stands here.
use Rattle.std.specs.Prelude.{Bool, true}
use Rattle.f77_tree.specs.Form.{acts}
use Rattle.f77_tree.specs.declared.form.Form.{Form}

-- the frame has CONTINUE in the place of a statement of this form: an action, or a logical IF
abbrev pub is_framed_out : Form → Bool
is_framed_out Form.LogicalIf = true
is_framed_out form = acts form
