use Rattle.f77_run.proofs.Common.{length, sym, ◌∙◌, ap, subst, List, ◌<◌, map, Resolved, are_ready, have_places, line_of}
use Rattle.f77_run.proofs.Readiness.{few_statements, have_all_places, all_ready}
use Rattle.f77_run.proofs.workspace.prepared.Goals as goal

pub compiled-requires : goal.compiled-requires
compiled-requires c =
    let checked = c.args.checked.now in
    let program = map line_of checked.program in
    let is = c.statements.ensures.checked in
    let same = c.statements.ensures.statements in
    record {
      have = ap have_places same ∙ have_all_places program checked.names checked.statements is.legal is.statements;
      few = subst (λ (list : List Resolved). length list < 2147483648) (sym same)
          (few_statements program checked.names checked.statements is.legal is.statements);
      ready = ap (are_ready c.slots.result) same ∙ ap (λ n. are_ready n checked.statements) (c.slots.ensures.slots ∙ is.slots)
          ∙ all_ready program checked.names checked.statements is.legal is.statements is.formed;
    }
