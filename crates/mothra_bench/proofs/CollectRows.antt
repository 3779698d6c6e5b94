-- Rows are put into a map one by one.
use Rattle.mothra_bench.proofs.Common.{◌≡◌, ◌∙◌, ap, List, length, subst, sym, ◌++◌, refl, [], arith, ℕ, true, ◌∷◌, Some, ◌≤◌, Bool, false, None, Option, eqb}
use Rattle.mothra_bench.proofs.Common.{cond, ◌&&◌, append-nil, option_to_list, is_none, nat_tests, filter-append, is_row_of, rows_of, IsFirstDouble, NoDouble}
use Rattle.mothra_bench.proofs.Common.{ticket_row, HasRows, RowMap, same_op, index, ticket, Ticket, PlanFields, Row}

one_filter : (t : Ticket) (row : Row) (b : Bool) → is_row_of t row ≡ b → rows_of t (row ∷ []) ≡ cond b (row ∷ []) []
one_filter t row true e = rw e refl
one_filter t row false e = rw e refl

and_true : (a b : Bool) → (a && b) ≡ true → (a ≡ true) × (b ≡ true)
and_true true b e = (refl, e)
and_true false b e = absurd (cc)

eqb_true : (a b : ℕ) → eqb a b ≡ true → a ≡ b
eqb_true a b e = grind (arith, nat_tests)

one_ticket : (t u : Ticket) → t.op ≡ u.op → t.number ≡ u.number → t ≡ u
one_ticket t u e f = ap (λ op. ticket op t.number) e ∙ ap (ticket u.op) f

-- a row of a ticket bears that ticket
pub own_ticket : (t : Ticket) (row : Row) → is_row_of t row ≡ true → row.ticket ≡ t
own_ticket t row e =
    let h = and_true (eqb (index row.ticket.op) (index t.op)) (eqb row.ticket.number t.number) e in
    one_ticket row.ticket t (same_op row.ticket.op t.op (eqb_true (index row.ticket.op) (index t.op) h.0)) (eqb_true row.ticket.number t.number h.1)

none_listed : (row : Option Row) → is_none row ≡ true → option_to_list row ≡ []
none_listed None e = refl
none_listed (Some row) e = absurd (cc)

with_one : (map : RowMap) (rows : List Row) (row : Row) (t : Ticket) (b : Bool) → is_row_of t row ≡ b → is_none (ticket_row map row.ticket) ≡ true → HasRows map rows
    → option_to_list (cond b (Some row) (ticket_row map t)) ≡ rows_of t (rows ++ row ∷ [])
with_one map rows row t true e new has =
    let same : ticket_row map row.ticket ≡ ticket_row map t = ap (ticket_row map) (own_ticket t row e) in
    let none : rows_of t rows ≡ [] = sym (has t) ∙ none_listed (ticket_row map t) (subst (λ o. is_none o ≡ true) same new) in
    sym (filter-append (is_row_of t) rows (row ∷ []) ∙ (ap (λ l. l ++ rows_of t (row ∷ [])) none ∙ one_filter t row true e))
with_one map rows row t false e new has =
    has t ∙ sym (filter-append (is_row_of t) rows (row ∷ []) ∙ (ap (λ l. rows_of t rows ++ l) (one_filter t row false e) ∙ append-nil (rows_of t rows)))

-- a row whose ticket has no row yet is put into a map
pub has_more : (map new : RowMap) (rows : List Row) (row : Row) → is_none (ticket_row map row.ticket) ≡ true
    → ((t : Ticket) → ticket_row new t ≡ cond (is_row_of t row) (Some row) (ticket_row map t)) → HasRows map rows → HasRows new (rows ++ row ∷ [])
has_more map new rows row none is has = λ t. ap option_to_list (is t) ∙ with_one map rows row t (is_row_of t row) refl none has

at_most_one : (row : Option Row) → length (option_to_list row) ≤ 1
at_most_one None = omega arith
at_most_one (Some row) = omega arith

one_there : (row : Option Row) → is_none row ≡ false → length (option_to_list row) ≡ 1
one_there None e = absurd (cc)
one_there (Some row) e = refl

-- of the rows that a map has, no two are of one mutant
pub no_double : (map : RowMap) (rows : List Row) → HasRows map rows → (plan : PlanFields) → NoDouble plan rows
no_double map rows has plan t own = subst (λ l. length l ≤ 1) (has t) (at_most_one (ticket_row map t))

pub double_here : (map : RowMap) (all rows rest : List Row) (row : Row) → all ≡ rows ++ row ∷ rest → is_none (ticket_row map row.ticket) ≡ false → HasRows map rows
    → (plan : PlanFields) → IsFirstDouble plan all row.ticket
double_here map all rows rest row cut there has plan = record {
  before = rows;
  row = row;
  after = rest;
  cut = cut;
  own = refl;
  single = no_double map rows has plan;
  there = ap length (sym (has row.ticket)) ∙ one_there (ticket_row map row.ticket) there;
}
