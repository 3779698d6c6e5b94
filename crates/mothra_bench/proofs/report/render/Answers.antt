use Rattle.mothra_bench.proofs.Common.{◌≡◌, subst, ◌++◌, rules, codes, string_bytes, counts, counts_line, score_line, score_of, entry_lines, heading, line}
use Rattle.mothra_bench.proofs.Common.{operator_lines, PlanFields}
use Rattle.mothra_bench.proofs.ReportTexts.{six_texts}
use Rattle.mothra_bench.proofs.report.render.Goals as goal

pub returns-clause-text : goal.returns-clause-text
returns-clause-text c =
    let plan = c.args.bench.now.plan in
    let entries = c.args.matrix.now in
    let first : string_bytes c.push_heading.new.text ≡ heading c.args.bench.now = search rules in
    let second : string_bytes c.push_operators.new.text ≡ string_bytes c.push_heading.new.text ++ operator_lines plan entries =
    subst (λ (p : PlanFields). string_bytes c.push_operators.new.text ≡ string_bytes c.push_heading.new.text ++ operator_lines p entries) c.plan.ensures.plan (search rules) in
    let third : string_bytes c.push_counts.new.text ≡ string_bytes c.push_operators.new.text ++ counts_line (codes "TOTAL") (counts entries) = search rules in
    let fourth : string_bytes c.push_score.new.text ≡ string_bytes c.push_counts.new.text ++ score_line (score_of (counts entries)) = search rules in
    let fifth : string_bytes c.push_entries.new.text ≡ string_bytes c.push_score.new.text ++ entry_lines plan entries = search rules in
    let sixth : string_bytes c.push_str.new.self ≡ string_bytes c.push_entries.new.text ++ line (codes "END") = search rules in
    six_texts (heading c.args.bench.now) (operator_lines plan entries) (counts_line (codes "TOTAL") (counts entries))
    (score_line (score_of (counts entries))) (entry_lines plan entries) (line (codes "END"))
    first second third fourth fifth sixth
