use Rattle.f77_syntax.proofs.Common.{refl, ◌∙◌, ap, preset_view, Statement}
use Rattle.f77_syntax.proofs.data.preset.Goals as goal

pub returns : goal.returns
returns c = let (gs, read, same) = c.in_ok-groups.ensures in (Statement.Preset gs, rw read refl, preset_view c.in_ok-groups.groups ∙ ap Statement.Preset same)
