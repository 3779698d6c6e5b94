-- Words that the command line takes are an inquiry, or have a bad list of operators.
use Rattle.equivalents_app.proofs.Common.{arith, ◌≡◌, ◌<◌, ◌^◌, ◌∙◌, ℕ, ap, sym, subst, true, false, true≢false, List, [], map, Option, Some, IsSome, codes, refl, list_any}
use Rattle.equivalents_app.proofs.Common.{Inquiry, Row, Text, fault_of, matches_of, equivalents, equivalents_line, flag_at, options_meaning}
use Rattle.clap.specs.Simple.{argument_words, built, label_of}
use Rattle.clap.specs.Walk.{nothing_held, rows_after}
use Rattle.clap.proofs.FaultLemmas.{leaf_fault}
use Rattle.clap.proofs.OnLiterals.{clap_on_literals}
use Rattle.mothra_cli.specs.Asking.{AsksFor, request}
use Rattle.mothra_cli.specs.Request.{operators_at}
use Rattle.mothra_cli.specs.Request as number
use Rattle.mothra_cli.proofs.Accepted.{default_number}
use Rattle.mothra_cli.proofs.Meanings.{IsAccepted, asks}
use Rattle.mothra_cli.proofs.OptionRows.{Each, HasNumber, Serves, has_default}

-- ---- the only level

no_subcommands : (built equivalents).subs ≡ []
unfolding clap_on_literals equivalents
no_subcommands = refl

apart : {X : Type 0} → false ≡ true → X
apart e = absurd (true≢false (sym e))

-- `--every` and `--steps` have defaults, and their numbers are within their bounds
serves_every : Each (Serves (codes "every") 1 1048575) (built equivalents).top.rules
unfolding clap_on_literals equivalents
serves_every = (apart, (λ f. record { action = refl; parser = refl; range = omega arith }, (apart, (apart, (apart, (apart, (apart, tt)))))))

serves_steps : Each (Serves (codes "steps") 1 1000000) (built equivalents).top.rules
unfolding clap_on_literals equivalents
serves_steps = (apart, (apart, (λ f. record { action = refl; parser = refl; range = omega arith }, (apart, (apart, (apart, (apart, tt)))))))

given_every : list_any (has_default (codes "every")) (built equivalents).top.rules ≡ true
unfolding clap_on_literals equivalents
given_every = refl

given_steps : list_any (has_default (codes "steps")) (built equivalents).top.rules ≡ true
unfolding clap_on_literals equivalents
given_steps = refl

-- words that are taken have a number for each option of a number
option_number : (id : Text) (low high : ℕ) → high < 2 ^ 32 → Each (Serves id low high) (built equivalents).top.rules
    → list_any (has_default id) (built equivalents).top.rules ≡ true
    → (words : List Text) → fault_of equivalents words ≡ [] → HasNumber id low high (matches_of equivalents words)
option_number id low high small serves given words taken =
    let rest = argument_words equivalents words in
    let top = (built equivalents).top in
    let level = sym (leaf_fault (built equivalents) nothing_held rest no_subcommands) ∙ taken in
    subst (λ names. HasNumber id low high (rows_after top.rules names rest)) (sym (ap (map label_of) no_subcommands))
    (default_number top rest id low high small serves given level)

-- ---- the meaning of the words

pub is_some : (o : Option ℕ) (n : ℕ) → o ≡ Some n → IsSome o
is_some o n is = rw is refl

module _ (words : List Text) (rows : List Row) (taken : fault_of equivalents words ≡ []) (is : rows ≡ matches_of equivalents words) where
  pub every : HasNumber (codes "every") 1 1048575 rows
  every = rw is (option_number (codes "every") 1 1048575 (omega arith) serves_every given_every words taken)

  pub steps : HasNumber (codes "steps") 1 1000000 rows
  steps = rw is (option_number (codes "steps") 1 1000000 (omega arith) serves_steps given_steps words taken)

  pub asked : (i : Inquiry) → operators_at rows ≡ Some i.operators → number.option_number (codes "every") rows ≡ Some i.every
      → number.option_number (codes "steps") rows ≡ Some i.steps → flag_at (codes "json") rows ≡ i.json
      → number.option_number (codes "rows") rows ≡ i.rows → AsksFor equivalents_line words i
  asked i operators few limit json more =
      let own : options_meaning rows ≡ request i = rw (operators, few, limit, json, more) refl in
      let same_every : every.0 ≡ i.every = let both : Some every.0 ≡ Some i.every = sym every.1 ∙ few in cc in
      let same_steps : steps.0 ≡ i.steps = let both : Some steps.0 ≡ Some i.steps = sym steps.1 ∙ limit in cc in
      asks equivalents_line words (options_meaning rows) taken (ap options_meaning (sym is))
      (subst (IsAccepted equivalents_line) (sym own) (rw (← same_every, ← same_steps) (every.2, every.3, steps.2, steps.3))) i (Some i) refl own
