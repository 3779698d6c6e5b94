use Rattle.mothra_cli.proofs.Common.{◌≡◌, ap, ◌∙◌, List, rules, ℕ, subst, ◌++◌, length, sym, take, ◌+◌, ◌-◌, drop, Appends}
use Rattle.std.proofs.lemmas.List.{take_rest}
use Rattle.std.proofs.Math.Seq.{take-add}
use Rattle.std.proofs.KnownBytes.{Appends-trans}
use Rattle.mothra_cli.proofs.output.write_whole.Goals as goal

-- what was written, then the front of the rest, is a front of the text
joined : (text : List ℕ) (n m : ℕ) → take n text ++ take m (take (length text - n) (drop n text)) ≡ take (n + m) text
joined text n m = ap (λ l. take n text ++ take m l) (take_rest text n) ∙ sym (take-add n m text)

pub loop-written-preserved : goal.loop-written-preserved
loop-written-preserved g c =
    let text = c.args.text.now in
    let n = c.loop-written.written in
    let m = c.in-Ok.count in
    record {
      written = subst (Appends _ _) (joined text n m) (Appends-trans _ _ _ _ _ c.loop-written.invariant.written c.in-Ok.ensures.bytes);
      within = search rules;
      sound = search rules;
    }
