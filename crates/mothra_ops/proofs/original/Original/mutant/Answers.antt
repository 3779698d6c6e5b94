use Rattle.mothra_ops.proofs.Common.{◌≡◌, arith, length, ◌≤◌, ◌<◌, inr, inl, ◌⊎◌, replacement_of, lines_of, pools_of, pool_fields}
use Rattle.mothra_ops.proofs.Applied.{mutant_found, none_made}
use Rattle.mothra_ops.proofs.CandidateMakes.{no_replacement, replacement_puts}
use Rattle.mothra_ops.proofs.original.Original.mutant.Goals.{then-edit-eq0-via-then-edit-eq0, then-edit-eq0-via-else-edit-eq0+then-edit-len}
use Rattle.mothra_ops.proofs.original.Original.mutant.Goals as goal

pub returns-then-edit-eq0-clause-made : goal.returns-then-edit-eq0-clause-made
returns-then-edit-eq0-clause-made c =
    let original = c.args.self.now in
    let edit = c.args.edit.now in
    let items = c.in_ok-candidates.candidates.items in
    let none : (edit.rank ≡ 0) ⊎ (length items < edit.rank) = elim c.then-edit-eq0.branch [
      | then-edit-eq0-via-then-edit-eq0 w ↦ inl (omega (arith, w.if-edit-eq0.true))
      | then-edit-eq0-via-else-edit-eq0+then-edit-len w ↦ inr (omega (arith, w.len.ensures, w.if-edit-len.true))
    ] in
    none_made (lines_of original) edit
    (no_replacement (pool_fields original.pools) (pools_of (lines_of original)) original.checked.now.program edit items c.requires.original c.in_ok-candidates.ensures.list none)

pub mutant_by-requires-clause-made : goal.mutant_by-requires-clause-made
mutant_by-requires-clause-made c =
    let original = c.args.self.now in
    let edit = c.args.edit.now in
    let low : 1 ≤ edit.rank = omega (arith, c.if-edit-eq0.false) in
    let high : edit.rank ≤ length c.in_ok-candidates.candidates.items = omega (arith, c.len.ensures, c.if-edit-len.false) in
    replacement_puts (pool_fields original.pools) (pools_of (lines_of original)) original.checked.now.program edit c.in_ok-candidates.candidates.items c.requires.original
    c.in_ok-candidates.ensures.list c.index_mut.result.now low high c.index_mut.ensures.value

pub returns-clause-made : goal.returns-clause-made
returns-clause-made c =
    let original = c.args.self.now in
    let edit = c.args.edit.now in
    let low : 1 ≤ edit.rank = omega (arith, c.if-edit-eq0.false) in
    let high : edit.rank ≤ length c.in_ok-candidates.candidates.items = omega (arith, c.len.ensures, c.if-edit-len.false) in
    mutant_found original.checked.now edit (replacement_of c.index_mut.result.now)
    (replacement_puts (pool_fields original.pools) (pools_of (lines_of original)) original.checked.now.program edit c.in_ok-candidates.candidates.items c.requires.original
    c.in_ok-candidates.ensures.list c.index_mut.result.now low high c.index_mut.ensures.value)
    c.mutant_by.result c.mutant_by.ensures.mutant c.mutant_by.ensures.none
