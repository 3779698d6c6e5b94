use Rattle.f77_syntax.proofs.Common.{subst, ◌≤◌, inr, err_from_is_err_and, IsCardRefused, character_count, IsTooDeep, most_characters, statement_of}
use Rattle.f77_syntax.proofs.Admit.{bad_name, outside, all_well, not_spelled, kept_of}
use Rattle.f77_syntax.proofs.parsing.admitted.Goals as goal

pub returns-then-character_count-gt-MOST_CHARACTERS : goal.returns-then-character_count-gt-MOST_CHARACTERS
returns-then-character_count-gt-MOST_CHARACTERS c = inr (IsCardRefused.characters (rw c.character_count.ensures at c.if-character_count-gt-MOST_CHARACTERS.true))

pub returns-then-is_too_deep : goal.returns-then-is_too_deep
returns-then-is_too_deep c =
    let few : character_count c.args.text.now ≤ most_characters = rw c.character_count.ensures at c.if-character_count-gt-MOST_CHARACTERS.false in
    inr (IsCardRefused.parentheses few (subst IsTooDeep c.as_bytes-bytes.ensures.value (c.is_too_deep.ensures.deep c.if-is_too_deep.true)))

pub returns-in_err-stmt : goal.returns-in_err-stmt
returns-in_err-stmt c =
    let p = err_from_is_err_and c.from_residual.result c.from_residual.ensures.1 in
    let few : character_count c.args.text.now ≤ most_characters = rw c.character_count.ensures at c.if-character_count-gt-MOST_CHARACTERS.false in
    rw (p.1, p.2) (not_spelled c.args.line c.args.text.now c.as_bytes-bytes.result.now c.in_err-stmt.field-0.0 c.as_bytes-bytes.ensures.value few
    (c.is_too_deep.ensures.flat c.if-is_too_deep.false) c.in_err-stmt.ensures)

pub returns-then-not-is_formed : goal.returns-then-not-is_formed
returns-then-not-is_formed c =
    let few : character_count c.args.text.now ≤ most_characters = rw c.character_count.ensures at c.if-character_count-gt-MOST_CHARACTERS.false in
    let k = kept_of c.args.text.now c.as_bytes-bytes.result.now (statement_of c.in_ok-stmt.stmt) c.as_bytes-bytes.ensures.value few
    (c.is_too_deep.ensures.flat c.if-is_too_deep.false) c.in_ok-stmt.ensures in
    inr (bad_name c.args.line c.args.text.now _ k (c.is_formed.ensures.unformed c.if-not-is_formed.true))

pub returns-in_err-within_limits : goal.returns-in_err-within_limits
returns-in_err-within_limits c =
    let few : character_count c.args.text.now ≤ most_characters = rw c.character_count.ensures at c.if-character_count-gt-MOST_CHARACTERS.false in
    let k = kept_of c.args.text.now c.as_bytes-bytes.result.now (statement_of c.in_ok-stmt.stmt) c.as_bytes-bytes.ensures.value few
    (c.is_too_deep.ensures.flat c.if-is_too_deep.false) c.in_ok-stmt.ensures in
    let p = err_from_is_err_and c.from_residual-in_err-within_limits.result c.from_residual-in_err-within_limits.ensures.1 in
    rw (p.1, p.2) (outside c.args.line c.args.text.now _ k (c.is_formed.ensures.formed c.if-not-is_formed.false) c.in_err-within_limits.ensures.refused)

pub returns : goal.returns
returns c =
    let few : character_count c.args.text.now ≤ most_characters = rw c.character_count.ensures at c.if-character_count-gt-MOST_CHARACTERS.false in
    let k = kept_of c.args.text.now c.as_bytes-bytes.result.now (statement_of c.in_ok-stmt.stmt) c.as_bytes-bytes.ensures.value few
    (c.is_too_deep.ensures.flat c.if-is_too_deep.false) c.in_ok-stmt.ensures in
    all_well c.args.text.now _ k (c.is_formed.ensures.formed c.if-not-is_formed.false) c.in_ok-within_limits.ensures.constants c.in_ok-within_limits.ensures.few
