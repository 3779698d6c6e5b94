use Rattle.f77_legal.proofs.Common.{◌≡◌, ◌∙◌, map, sym, List, ℕ, [], ◌∷◌, length, arith, ◌++◌, ◌+◌, take, ◌≤◌, length-map, first_numbers, branch_end_at}
use Rattle.f77_legal.proofs.Common.{is_in_block, block_end_at, else_end_at, is_before_end, line_of, statement_of}
use Rattle.f77_legal.proofs.BlockTables.{block_at, else_at, branch_at, inside_at}
use Rattle.f77_legal.proofs.FirstNumbers.{table_more}
use Rattle.f77_legal.proofs.blocks.Blocks.of.Goals as goal

-- one more entry
more : {X : Type 0} (f : ℕ → X) (i : ℕ) (old new : List X) (x : X) → old ≡ map f (first_numbers i) → new ≡ old ++ x ∷ [] → x ≡ f i → new ≡ map f (first_numbers (i + 1))
more f i old new x e n same = n ∙ (λ k. e k ++ same k ∷ []) ∙ sym (table_more f i)

pub loop-i-preserved : goal.loop-i-preserved
loop-i-preserved c =
    let p = map line_of c.args.lines.now in
    let i = c.loop-i.i in
    let s = statement_of c.statement-stmt.result.now in
    let at = c.statement-stmt.ensures in
    let within : i ≤ length p = omega (arith, length-map c.args.lines.now line_of) in
    let end : c.end_if-end.result ≡ block_end_at p i = c.end_if-end.ensures ∙ block_at p i s at c.is_block_if.result c.is_block_if.ensures in
    let inside : is_before_end (take i c.deref.result.now) i ≡ is_in_block p i =
    inside_at p c.deref.result.now i i (c.deref.ensures.value ∙ c.loop-i.invariant.ends) (omega arith) within in
    record {
      ends = more (block_end_at p) i c.loop-i.ends.items _ _ c.loop-i.invariant.ends c.in_ok-push-3.ensures.items end;
      else_ends = more (else_end_at p) i c.loop-i.else_ends.items _ _ c.loop-i.invariant.else_ends c.in_ok-push.ensures.items
          (c.end_if.ensures ∙ else_at p i s at c.is_else.result c.is_else.ensures);
      branch_ends = more (branch_end_at p) i c.loop-i.branch_ends.items _ _ c.loop-i.invariant.branch_ends c.in_ok-push-2.ensures.items
          (c.end_if-in-loop-i.ensures ∙ branch_at p i s at c.begins_branch-begins.result c.end_if-end.result _ c.begins_branch-begins.ensures end inside);
    }
