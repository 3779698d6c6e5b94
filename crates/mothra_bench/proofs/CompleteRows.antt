-- Where every mutant of the plan was handed out once, its rows make a matrix.
use Rattle.mothra_bench.proofs.Common.{◌≡◌, ◌∙◌, ap, List, length, subst, ◌++◌, refl, [], arith, ℕ, true, All, ◌∷◌, ◌+◌, ◌≤◌, Bool, false, eqb, suc, ◌&&◌}
use Rattle.mothra_bench.proofs.Common.{nat_tests, map-append, AreVerdicts, tickets_in, IsOwn, is_row_of, rows_of, IsNoMatrix, AreComplete, IsFirstDouble}
use Rattle.mothra_bench.proofs.Common.{IsFirstMissing, IsFirstStranger, IsNoReport, index, ticket_times, one_if, once_up_to, is_ticket, Ticket, times-append}
use Rattle.mothra_bench.proofs.Common.{once_up_to-most, Word, program_of, PlanFields, edits_of, BenchFields, HasMutant, IsKill, mutated, BenchFault, Row}
use Rattle.std.proofs.lemmas.Slice.Zip.{AllZip-long}
use Rattle.f77_meaning.specs.declared.argument.Arg.{Arg}
use Rattle.mothra_verdicts.specs.declared.fault.BenchFault.TheVariants as fault

-- a ticket occurs among the tickets of the rows as often as it has rows
rows_times : (t : Ticket) (rows : List Row) → length (rows_of t rows) ≡ ticket_times (index t.op) t.number (tickets_in rows)
rows_times t [] = refl
rows_times t (row ∷ rows) = by_case (is_row_of t row) (rows_times t rows) refl
  where
    by_case : (b : Bool) → length (rows_of t rows) ≡ ticket_times (index t.op) t.number (tickets_in rows) → is_row_of t row ≡ b
        → length (rows_of t (row ∷ rows)) ≡ ticket_times (index t.op) t.number (tickets_in (row ∷ rows))
    by_case true h e = rw e (omega arith)
    by_case false h e = rw e (omega arith)

own_ticket : (t : Ticket) → is_ticket (index t.op) t.number t ≡ true
own_ticket t = same (index t.op) t.number
  where
    same : (i k : ℕ) → (eqb i i && eqb k k) ≡ true
    same i k = grind (arith, nat_tests)

times_cut : (t : Ticket) (before : List Row) (row : Row) (after : List Row) → row.ticket ≡ t
    → ticket_times (index t.op) t.number (tickets_in before) + 1 ≤ ticket_times (index t.op) t.number (tickets_in (before ++ row ∷ after))
times_cut t before row after is =
    let parts = ap (ticket_times (index t.op) t.number) (map-append (λ (r : Row). r.ticket) before (row ∷ after))
    ∙ times-append (index t.op) t.number (tickets_in before) (tickets_in (row ∷ after)) in
    let one = ap one_if (ap (is_ticket (index t.op) t.number) is ∙ own_ticket t) in
    omega arith

once_here : (n k : ℕ) → 1 ≤ once_up_to n k → (1 ≤ k) × (k ≤ n)
once_here n k h = (grind (arith, nat_tests), grind (arith, nat_tests))

once_of : (n k : ℕ) → 1 ≤ k → k ≤ n → once_up_to n k ≡ 1
once_of n k a b = grind (arith, nat_tests)

-- no row is of a mutant that the plan does not have
no_stranger : (bench : BenchFields) (words : List Word) (rows : List Row) (t : Ticket) → AreComplete bench.plan words (tickets_in rows) → AreVerdicts bench rows
    → IsFirstStranger bench rows t → ⊥
no_stranger bench words rows t complete verdicts first = first.unknown (record { has = has; tests = tests })
  where
    own : (l : List Row) → rows ≡ l → All (IsOwn bench) l
    own l e = subst (All (IsOwn bench)) e verdicts

    verdict : IsOwn bench first.row
    verdict = at_middle first.before (own (first.before ++ first.row ∷ first.after) first.cut)
      where
        at_middle : (xs : List Row) → All (IsOwn bench) (xs ++ first.row ∷ first.after) → IsOwn bench first.row
        at_middle [] h = h 0 first.row (omega arith)
        at_middle (x ∷ xs) h = at_middle xs (λ k d lt. h (suc k) d (omega arith))

    there : 1 ≤ once_up_to (length (edits_of bench.plan first.row.ticket.op)) first.row.ticket.number
    there =
        let more = times_cut first.row.ticket first.before first.row first.after refl in
        let same = ap (λ (l : List Row). ticket_times (index first.row.ticket.op) first.row.ticket.number (tickets_in l)) first.cut in
        let once = complete.once first.row.ticket.op first.row.ticket.number in
        omega arith

    has : HasMutant bench.plan first.row.ticket
    has = once_here (length (edits_of bench.plan first.row.ticket.op)) first.row.ticket.number there

    tests : length first.row.kills ≡ length bench.tests
    tests = AllZip-long (λ (arguments : List Arg) (kill : Bool). IsKill (program_of bench.plan) (mutated (program_of bench.plan) verdict.mutant) arguments bench.steps kill)
        bench.tests first.row.kills verdict.alone

-- no mutant has two rows
no_double : (plan : PlanFields) (words : List Word) (rows : List Row) (t : Ticket) → AreComplete plan words (tickets_in rows) → IsFirstDouble plan rows t → ⊥
no_double plan words rows t complete first =
    let more = times_cut t first.before first.row first.after first.own in
    let same = ap (λ (l : List Row). ticket_times (index t.op) t.number (tickets_in l)) first.cut in
    let once = complete.once t.op t.number in
    let most = once_up_to-most (length (edits_of plan t.op)) t.number in
    let one = first.there in
    let counted = rows_times t first.before in
    absurd (omega arith)

-- no mutant is without a row
no_missing : (plan : PlanFields) (words : List Word) (rows : List Row) (t : Ticket) → AreComplete plan words (tickets_in rows) → IsFirstMissing plan words rows t → ⊥
no_missing plan words rows t complete first =
    let n = length (edits_of plan t.op) in
    let counted = rows_times t rows in
    let once = complete.once t.op t.number in
    let one = once_of n t.number first.has.0 first.has.1 in
    let handed = ap (λ (w : Word). w.handed) (complete.ends t.op) in
    let below = first.has.1 in
    first.missing (record { row = omega arith; handed = omega arith })

-- where such rows give no matrix, the fault is `Memory`
pub matrix_report : (bench : BenchFields) (words : List Word) (rows : List Row) (e : BenchFault) → AreComplete bench.plan words (tickets_in rows) → AreVerdicts bench rows
    → IsNoMatrix bench words rows e → IsNoReport e
matrix_report bench words rows fault.Memory complete verdicts h = tt
matrix_report bench words rows (fault.Stranger t) complete verdicts h = absurd (no_stranger bench words rows t complete verdicts h)
matrix_report bench words rows (fault.Double t) complete verdicts h = absurd (no_double bench.plan words rows t complete h.1)
matrix_report bench words rows (fault.Missing t) complete verdicts h = absurd (no_missing bench.plan words rows t complete h.2)
matrix_report bench words rows fault.Thread complete verdicts h = absurd h
matrix_report bench words rows fault.Stalled complete verdicts h = absurd h
matrix_report bench words rows (fault.TestShape n) complete verdicts h = absurd h
matrix_report bench words rows (fault.OriginalFails n) complete verdicts h = absurd h
matrix_report bench words rows (fault.EquivalentUnknown n) complete verdicts h = absurd h
matrix_report bench words rows (fault.EquivalentTwice n) complete verdicts h = absurd h
