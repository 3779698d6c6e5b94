use Rattle.f77_check.proofs.Common.{sym, map, subst, refl, ◌-◌, IsChecked, IsResolved, patched, line_of, statement_of}
use Rattle.f77_program.proofs.Patches.{changed_program}
use Rattle.f77_check.proofs.Changes.{changed_in_place}
use Rattle.f77_check.proofs.checked.Checked.resolved.Goals as goal

pub resolved_for-requires : goal.resolved_for-requires
resolved_for-requires c =
    let checked = subst IsChecked c.self.view_is c.self.invariant.0 in (
      refl,
      (c.requires.alone, (changed_program c.args.self.now.program c.args.number _ c.requires.fits checked.formed, c.requires.legal)),
    )

pub returns : goal.returns
returns c = record {
  in_place =
      let self = c.args.self.now in
      let s = statement_of c.args.stmt.now in
      let checked = subst IsChecked c.self.view_is c.self.invariant.0 in
      changed_in_place self checked c.args.number s c.requires.alone (changed_program self.program c.args.number _ c.requires.fits checked.formed) c.in_ok-shared.shared
      (subst (λ new. IsResolved (patched (map line_of self.program) c.args.number s) self.names (c.args.number - 1) s new) (sym c.in_ok-shared.ensures) c.in_ok-resolved.ensures);
}
