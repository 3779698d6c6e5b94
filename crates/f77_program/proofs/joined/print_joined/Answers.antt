use Rattle.f77_program.proofs.Common.{[], ◌++◌, ap, ◌∙◌, sym, ◌∷◌, refl, string_bytes, append-nil, drop_all, separated}
use Rattle.f77_program.proofs.JoinedForms.{separated_next}
use Rattle.f77_program.proofs.joined.print_joined.Goals as goal

pub loop-item-preserved : goal.loop-item-preserved
unfolding lib.Utf8.encode
loop-item-preserved g c = record {
  letters = (44 ∷ [], (refl, refl));
  text = λ text writes. separated_next text c.args.items.now c.loop-item.item-index c.item-item.result _ _ _ _ _ c.loop-item-test.true
      (c.loop-item.invariant.text text writes) c.in_ok-push_str.ensures.bytes
      (writes _ _ _ _ c.in_ok-print.ensures ∙ ap (λ z. string_bytes c.push_str.new.self ++ text z) c.item-item.is);
}

pub returns : goal.returns
returns g c = λ text writes.
    sym (ap (λ z. string_bytes c.loop-item.out ++ separated text c.loop-item.before.now z)
    (drop_all c.loop-item.item-index c.args.items.now c.loop-item-test.false) ∙ append-nil (string_bytes c.loop-item.out))
    ∙ c.loop-item.invariant.text text writes
