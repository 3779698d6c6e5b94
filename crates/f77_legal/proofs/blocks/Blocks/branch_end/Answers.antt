use Rattle.f77_legal.proofs.Common.{◌∙◌, ap, false, None, ◌&&◌, get_or, nat_lt, option_map_or}
use Rattle.f77_legal.proofs.BlockTables.{branch_end_held, branch_holds_at}
use Rattle.f77_legal.proofs.blocks.Blocks.branch_end.Goals as goal

pub returns-clause-value : goal.returns-clause-value
returns-clause-value c p table = c.end_in.ensures ∙ (ap (λ xs. get_or xs c.args.i None) c.deref.ensures.value ∙ branch_end_held c.args.self.now p c.args.i table)

pub returns-clause-holds : goal.returns-clause-holds
returns-clause-holds c p k table =
    ap (λ end. nat_lt c.args.i k && option_map_or (nat_lt k) end false)
    (c.end_in.ensures ∙ (ap (λ xs. get_or xs c.args.i None) c.deref.ensures.value ∙ branch_end_held c.args.self.now p c.args.i table))
    ∙ branch_holds_at p c.args.i k
