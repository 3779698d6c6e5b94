-- Which passes belong to an exchange, and what holds between its steps.
use Rattle.std.specs.Prelude.{◌≡◌, ℕ, List}
use Rattle.atomic_table.specs.Table.{State}
use Rattle.mothra_exchange.specs.declared.view.View.{View}
use Rattle.mothra_exchange.specs.declared.table.Pass.{Pass}
use Rattle.mothra_exchange.specs.declared.table.TableExchange.{TableExchange}

abbrev pub view_of : Pass → View
view_of p = p.seat.me.0

-- the pass was made with the exchange, or split from such a pass
abbrev pub IsPassOf : {C : ℕ} → TableExchange C → Pass → Type 0
IsPassOf e p = p.seat.table_id ≡ e.table.shared.table_id

-- P holds of the words and the views of the exchange between any two of its steps: it follows
-- from `rule`, the rule of the table's type, which `atomic_table` keeps for the key of the table
abbrev pub BetweenStepsOf : {S : Type 0} {C : ℕ}
    → (List ℕ → State S View → Type 0) → TableExchange C → (List ℕ → List View → Type 0) → Type 0
BetweenStepsOf {S} rule e P = (s : State S View) → rule e.table.shared.key s → P s.words s.views
