use Rattle.mothra_equivalents.proofs.Common.{rules, ◌≡◌, ◌≢◌, All, List, AreFitting, Arg, Err, IfOk, Ok, Result, false, is_err, subst, true≢false}
use Rattle.std.proofs.lemmas.List.Elements.{All-push}
use Rattle.std.proofs.lemmas.List.Quantifiers.{all_pairs_push}
use Rattle.mothra_equivalents.proofs.unproved.rows_of.Goals as goal
use Rattle.mothra_equivalents.proofs.unproved.rows_of.Goals.{then-not-branch+in_ok-push, else-not-branch}

of_ok : {V E P : Type 0} (r : Result V E) → is_err r ≡ false → IfOk r (λ _. P) → P
of_ok (Ok v) fine holds = holds
of_ok (Err e) fine holds = absurd (true≢false fine)

pub loop-row-preserved : goal.loop-row-preserved
loop-row-preserved c =
    let before = c.loop-row.invariant in
    let killing = c.loop-row.killing.items in
    let test = c.in_ok-test.test in
    let fits : AreFitting c.args.checked.now.arguments test
    = rw (← c.as_slice.ensures, ← c.arguments-else-not-is_new.ensures) (of_ok c.fit.result (search rules) c.fit.ensures.fitting) in
    let new = subst (All (λ (other : List Arg). other ≢ test)) c.deref-in-loop-row.ensures.value (c.is_new.ensures (search rules)) in
    elim c.if-not-branch.branch [
      | then-not-branch+in_ok-push w ↦ rw (w.killing-is, w.in_ok-push.ensures.items) (record {
        fit = All-push (AreFitting c.args.checked.now.arguments) killing test before.fit fits;
        differ = all_pairs_push (λ (one other : List Arg). one ≢ other) killing test before.differ new;
        few = search rules;
      })
      | else-not-branch w ↦ rw w.killing-is before
    ]
