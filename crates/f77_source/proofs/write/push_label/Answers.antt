use Rattle.f77_source.proofs.Common.{◌≡◌, ℕ, List, ap, ◌∙◌, ◌++◌, subst, string_bytes, rules, OnOk, styled_decimal, label_text}
use Rattle.f77_source.proofs.Pieces.{styled_label}
use Rattle.f77_source.proofs.write.push_label.Goals as goal

pub returns-in-None : goal.returns-in-None
unfolding label_text
returns-in-None c = rw c.in-None.is (search rules)

pub returns-in-Some : goal.returns-in-Some
unfolding label_text
returns-in-Some c =
    let e = ap (λ s. styled_decimal s c.in-Some.number) c.laid_out.ensures ∙ styled_label c.in-Some.number in
    rw c.in-Some.is (subst (λ (shown : List ℕ). OnOk c.write.result (string_bytes c.write.new.self ≡ string_bytes c.args.out.now ++ shown)) e c.write.ensures.bytes)
