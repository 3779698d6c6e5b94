-- A report's entries are the verdicts of a bench, and it has one report at most.
use Rattle.mothra_bench.proofs.Common.{◌≡◌, ◌∙◌, ap, List, subst, sym, refl, [], arith, ℕ, true, All, ◌∷◌, Bool, false, get_or, map, drop, IsTrue, ◌↔◌}
use Rattle.mothra_bench.proofs.Common.{All-tail, All-filter, AreVerdicts, IsOwn, is_row_of, rows_of, AreCollected, IsReport, report_text, row_of, AreEntries}
use Rattle.mothra_bench.proofs.Common.{Entry, ticket, Ticket, Word, BenchFields, IsDeclared, IsVerdict, Row}
use Rattle.f77_meaning.specs.Interpreter.{OneAnswer}
use Rattle.mothra_verdicts.proofs.Kills.{one_verdict}

-- an entry is made of a verdict
entry_verdict : (bench : BenchFields) (rows : List Row) (entry : Entry) → AreVerdicts bench rows → rows_of entry.ticket rows ≡ row_of entry ∷ []
    → IsVerdict bench entry.ticket entry.kills
entry_verdict bench rows entry all own =
    let one : All (IsOwn bench) (row_of entry ∷ []) = subst (All (IsOwn bench)) own (All-filter (is_row_of entry.ticket) (IsOwn bench) rows all) in
    one 0 (row_of entry) (omega arith)

pub are_entries : (bench : BenchFields) (words : List Word) (rows : List Row) (entries : List Entry) → AreCollected bench words rows entries
    → AreVerdicts bench rows → AreEntries bench entries
are_entries bench words rows entries collected all = record {
  tickets = collected.tickets;
  verdicts = λ k d lt. entry_verdict bench rows (get_or entries k d) all (collected.own k d lt);
  declared = collected.declared;
}

-- two truth values that each say whether S holds are the same
same_flag : (S : Type 0) (one other : Bool) → IsTrue one ↔ S → IsTrue other ↔ S → one ≡ other
same_flag S true true p q = refl
same_flag S false false p q = refl
same_flag S true false p q = sym (q.1 (p.0 refl))
same_flag S false true p q = p.1 (q.0 refl)

same_entry : OneAnswer → (bench : BenchFields) (one other : Entry) → one.ticket ≡ other.ticket → IsVerdict bench one.ticket one.kills
    → IsVerdict bench other.ticket other.kills → IsTrue one.declared ↔ IsDeclared bench one.ticket → IsTrue other.declared ↔ IsDeclared bench other.ticket
    → one ≡ other
same_entry answer bench one other ticket is are own its =
    let kills = one_verdict answer bench one.ticket one.kills other.kills is (subst (λ (t : Ticket). IsVerdict bench t other.kills) (sym ticket) are) in
    let declared = same_flag (IsDeclared bench one.ticket) one.declared other.declared own
    (subst (λ (t : Ticket). IsTrue other.declared ↔ IsDeclared bench t) (sym ticket) its) in
    λ i. record { ticket = ticket i; kills = kills i; declared = declared i }

same_entries : OneAnswer → (bench : BenchFields) (ones others : List Entry) → map (λ (e : Entry). e.ticket) ones ≡ map (λ (e : Entry). e.ticket) others
    → All (λ (e : Entry). IsVerdict bench e.ticket e.kills) ones → All (λ (e : Entry). IsVerdict bench e.ticket e.kills) others
    → All (λ (e : Entry). IsTrue e.declared ↔ IsDeclared bench e.ticket) ones → All (λ (e : Entry). IsTrue e.declared ↔ IsDeclared bench e.ticket) others
    → ones ≡ others
same_entries answer bench [] [] tickets is are own its = refl
same_entries answer bench [] (y ∷ ys) tickets is are own its = cc
same_entries answer bench (x ∷ xs) [] tickets is are own its = cc
same_entries answer bench (x ∷ xs) (y ∷ ys) tickets is are own its =
    let here : x ≡ y = same_entry answer bench x y (ap (λ (l : List Ticket). get_or l 0 x.ticket) tickets) (is 0 x (omega arith)) (are 0 y (omega arith))
    (own 0 x (omega arith)) (its 0 y (omega arith)) in
    let rest : xs ≡ ys = same_entries answer bench xs ys (ap (λ (l : List Ticket). drop 1 l) tickets)
    (All-tail (λ (e : Entry). IsVerdict bench e.ticket e.kills) x xs is) (All-tail (λ (e : Entry). IsVerdict bench e.ticket e.kills) y ys are)
    (All-tail (λ (e : Entry). IsTrue e.declared ↔ IsDeclared bench e.ticket) x xs own)
    (All-tail (λ (e : Entry). IsTrue e.declared ↔ IsDeclared bench e.ticket) y ys its) in
    λ k. here k ∷ rest k

-- a bench has one report at most
pub one_report : OneAnswer → (bench : BenchFields) (one other : List ℕ) → IsReport bench one → IsReport bench other → one ≡ other
one_report answer bench one other p q =
    let same : p.entries ≡ q.entries = same_entries answer bench p.entries q.entries (p.are.tickets ∙ sym q.are.tickets) p.are.verdicts q.are.verdicts
    p.are.declared q.are.declared in
    p.is ∙ (ap (report_text bench) same ∙ sym q.is)
