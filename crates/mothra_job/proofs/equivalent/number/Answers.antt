use Rattle.mothra_job.proofs.Common.{◌≡◌, Some, ap, ◌∙◌, Ok, arith}
use Rattle.std.specs.Result.{result_ok}
use Rattle.std.proofs.lemmas.Str.Pattern.{starts_char}
use Rattle.mothra_job.proofs.Entries.{never_led_by, not_led_by, ok_is, read_back, written}
use Rattle.mothra_job.proofs.equivalent.number.Goals.{then-starts_with-via-then-starts_with, then-starts_with-via-else-starts_with+then-starts_with-2}
use Rattle.mothra_job.proofs.equivalent.number.Goals as goal

pub returns-then-starts_with-clause-known : goal.returns-then-starts_with-clause-known
returns-then-starts_with-clause-known c = λ n some few is.
    elim c.then-starts_with.branch [
      | then-starts_with-via-then-starts_with w ↦
          absurd
          (never_led_by c.args.digits.now n 43 c.starts_with.result (starts_char 43 _ _ c.starts_with.ensures.cases (omega arith) (omega arith))
          w.if-starts_with.true (omega arith) some few is)
      | then-starts_with-via-else-starts_with+then-starts_with-2 w ↦
          absurd
          (never_led_by c.args.digits.now n 48 w.starts_with-else-starts_with.result
          (starts_char 48 _ _ w.starts_with-else-starts_with.ensures.cases (omega arith) (omega arith))
          w.if-starts_with-2.true (omega arith) some few is)
    ]

pub returns-in_err-number-clause-known : goal.returns-in_err-number-clause-known
returns-in_err-number-clause-known c = λ n some few is.
    let back : c.parse.result ≡ Ok n = read_back c.args.digits.now c.parse.result n c.parse.ensures.value.0 few is in
    let read : c.ok.result ≡ Some n = c.ok.ensures.value ∙ ap result_ok back in
    cc (read, c.in_err-number.was)

pub returns-then-number-gt-MOST_MUTANTS-clause-known : goal.returns-then-number-gt-MOST_MUTANTS-clause-known
returns-then-number-gt-MOST_MUTANTS-clause-known c = λ n some few is.
    let back : c.parse.result ≡ Ok n = read_back c.args.digits.now c.parse.result n c.parse.ensures.value.0 few is in
    let read : c.ok.result ≡ Some n = c.ok.ensures.value ∙ ap result_ok back in
    let same : c.in_ok-number.number ≡ n = cc (read, c.in_ok-number.was) in
    absurd (omega (arith, same, few))

pub returns-clause-known : goal.returns-clause-known
returns-clause-known c = λ n some few is.
    let back : c.parse.result ≡ Ok n = read_back c.args.digits.now c.parse.result n c.parse.ensures.value.0 few is in
    let read : c.ok.result ≡ Some n = c.ok.ensures.value ∙ ap result_ok back in
    cc (read, c.in_ok-number.was)

pub returns-clause-only : goal.returns-clause-only
returns-clause-only c =
    let read : c.parse.result ≡ Ok c.in_ok-number.number = ok_is c.parse.result c.in_ok-number.number c.in_ok-number.ensures.value in
    let own = written c.args.digits.now c.in_ok-number.number c.parse.result read c.parse.ensures.value.0
    (not_led_by _ _ (starts_char 43 _ _ c.starts_with.ensures.cases (omega arith) (omega arith)) c.if-starts_with.false)
    (not_led_by _ _ (starts_char 48 _ _ c.starts_with-else-starts_with.ensures.cases (omega arith) (omega arith)) c.if-starts_with-2.false) in
    (own.0, own.1, omega arith)
