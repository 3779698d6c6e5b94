-- Each subcommand that the command line takes is a request, or has a bad list of operators.
use Rattle.mothra_cli.proofs.Common.{◌≡◌, ap, ◌∙◌, None, Some, List, Option, true, ℕ, ◌≤◌, [], subst, bytes_eq, codes, sym, is_some, true≢false}
use Rattle.mothra_cli.proofs.Common.{inl, inr, ◌⊎◌, option_map_or, built, Text, fault_of, subcommand_of, Row, mothra}
use Rattle.mothra_cli.proofs.Common.{list_meaning, mothra_line, operators_at, refused, run_meaning, subcommand_meaning}
use Rattle.clap.specs.Words.{Shape}
use Rattle.clap.proofs.OnLiterals.{clap_on_literals}
use Rattle.mothra_codes.specs.declared.op.Op.{Op}
use Rattle.mothra_cli.proofs.OptionRows.{Each, same_id}
use Rattle.mothra_cli.proofs.Accepted.{accepted_level, exec_numbers, list_number, run_numbers}
use Rattle.mothra_cli.proofs.Meanings.{IsAccepted}

abbrev IsCommand : Text → Type 0
IsCommand name = (name ≡ codes "print") ⊎ (name ≡ codes "exec") ⊎ (name ≡ codes "list") ⊎ (name ≡ codes "run")

each_command : (name : Text) → Each (λ (s : Shape). bytes_eq s.name name ≡ true → IsCommand name) (built mothra).subs
unfolding clap_on_literals mothra
each_command name = (
  λ e. inl (sym (same_id _ _ e)),
  (
    λ e. inr (inl (sym (same_id _ _ e))),
    (λ e. inr (inr (inl (sym (same_id _ _ e)))), (λ e. inr (inr (inr (sym (same_id _ _ e)))), tt)),
  ),
)

command_met : (words : List Text) (name : Text) (rows : List Row) → fault_of mothra words ≡ []
    → subcommand_of mothra words ≡ Some (name, rows) → IsCommand name
command_met words name rows taken is =
    (accepted_level mothra name (λ _. IsCommand name) (each_command name) words rows taken is).2

-- `exec` is a request, since it has both of its numbers
exec_asks : (words : List Text) (rows : List Row) → fault_of mothra words ≡ []
    → subcommand_of mothra words ≡ Some (codes "exec", rows)
    → IsAccepted mothra_line (subcommand_meaning (codes "exec", rows))
exec_asks words rows taken is =
    let numbers = exec_numbers words rows taken is in
    let test = numbers.0 in
    let steps = numbers.1 in
    rw (test.1, steps.1) (test.2, test.3, steps.2, steps.3)

-- `list` is a request, since it has its number
list_asks : (words : List Text) (rows : List Row) → fault_of mothra words ≡ []
    → subcommand_of mothra words ≡ Some (codes "list", rows)
    → IsAccepted mothra_line (subcommand_meaning (codes "list", rows))
list_asks words rows taken is =
    let every = list_number words rows taken is in
    rw every.1 (go (operators_at rows) every.0 every.2 every.3)
  where
    go : (o : Option (List Op)) (n : ℕ) → 1 ≤ n → n ≤ 1048575 → IsAccepted mothra_line (list_meaning o (Some n))
    go None n above below = tt
    go (Some ops) n above below = (above, below)

-- `run` is a request, since it has its three numbers
run_asks : (words : List Text) (rows : List Row) → fault_of mothra words ≡ []
    → subcommand_of mothra words ≡ Some (codes "run", rows)
    → IsAccepted mothra_line (subcommand_meaning (codes "run", rows))
run_asks words rows taken is =
    let numbers = run_numbers words rows taken is in
    let every = numbers.0 in
    let steps = numbers.1 in
    let workers = numbers.2 in
    rw (every.1, steps.1, workers.1)
    (go (operators_at rows) every.0 steps.0 workers.0 (every.2, every.3, steps.2, steps.3, workers.2, workers.3))
  where
    go : (o : Option (List Op)) (q n w : ℕ)
        → (1 ≤ q) × (q ≤ 1048575) × (1 ≤ n) × (n ≤ 1000000) × (1 ≤ w) × (w ≤ 32)
        → IsAccepted mothra_line (run_meaning o (Some q) (Some n) (Some w))
    go None q n w bounds = tt
    go (Some ops) q n w bounds = bounds

-- the subcommand that the words name is a request, or has a bad list of operators
pub accepted : (words : List Text) (met : Option (Text × List Row)) → fault_of mothra words ≡ []
    → met ≡ subcommand_of mothra words → is_some met ≡ true → IsAccepted mothra_line (option_map_or subcommand_meaning met refused)
accepted words None taken is some = absurd (true≢false (sym some))
accepted words (Some (name, rows)) taken is some = go (command_met words name rows taken (sym is))
  where
    renamed : (own : Text) → name ≡ own → subcommand_of mothra words ≡ Some (own, rows)
    renamed own named = sym is ∙ ap (λ n. Some (n, rows)) named

    at : (own : Text) → name ≡ own → IsAccepted mothra_line (subcommand_meaning (own, rows))
        → IsAccepted mothra_line (subcommand_meaning (name, rows))
    at own named = subst (λ n. IsAccepted mothra_line (subcommand_meaning (n, rows))) (sym named)

    go : IsCommand name → IsAccepted mothra_line (subcommand_meaning (name, rows))
    go (inl named) = at _ named tt
    go (inr (inl named)) = at _ named (exec_asks words rows taken (renamed _ named))
    go (inr (inr (inl named))) = at _ named (list_asks words rows taken (renamed _ named))
    go (inr (inr (inr named))) = at _ named (run_asks words rows taken (renamed _ named))
