use Rattle.std.proofs.Common.{rules, tests, ◌≡◌, ap, sym, ◌∙◌}
use Rattle.std.specs.List.{find}
use Rattle.std.specs.Option.{option_map}
use Rattle.std.specs.Str.{bytes_eq}
use Rattle.std.proofs.lemmas.Iterator.{YieldsList-from_slice}
use Rattle.std.proofs.lemmas.Iterator.Adapters.{option_map_id}
use Rattle.std.proofs.lemmas.Iterator.Consumers.{YieldsList-from_copied}
use Rattle.std.proofs.lemmas.Iterator.Search.{find_from_yields_List}
use Rattle.mothra_codes.specs.declared.op.Op.{Op}
use Rattle.mothra_codes.specs.Op.{all_ops, code_of}
use Rattle.mothra_codes.proofs.Codes.{op_found}
use Rattle.mothra_codes.proofs.op.Op.of.Goals as goal

pub returns-clause-known : goal.returns-clause-known
returns-clause-known c op e =
    let found : option_map (λ (x : Op). x) c.find.result ≡ find (λ x. bytes_eq (code_of x) c.args.text.now) all_ops =
    find_from_yields_List (λ x. bytes_eq (code_of x) c.args.text.now) _ _ c.find.result c.find.ensures.ran
    (YieldsList-from_copied (YieldsList-from_slice all_ops cc)) (λ x b q k. search (rules, tests)) in
    sym (option_map_id c.find.result) ∙ found ∙ ap (λ text. find (λ x. bytes_eq (code_of x) text) all_ops) e ∙ op_found op
