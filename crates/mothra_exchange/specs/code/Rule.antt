-- What holds between any two steps, and what a step shows.
-- Only private functions and proofs cite these definitions.
use Rattle.std.specs.Prelude.{◌≡◌, ℕ, ◌≤◌, List}
use Rattle.atomic_table.specs.Table.{State, Step, Me}
use Rattle.mothra_codes.specs.declared.op.Op.{Op}
use Rattle.mothra_codes.specs.Op.{index}
use Rattle.mothra_exchange.specs.declared.word.Word.{Word}
use Rattle.mothra_exchange.specs.declared.view.View.{View}
use Rattle.mothra_exchange.specs.Word.{pack, InBounds}
use Rattle.mothra_codes.specs.Ticket.{ticket_times}
use Rattle.mothra_exchange.specs.View.{times_closed}
use Rattle.mothra_exchange.specs.code.View.{settled_view}
use Rattle.mothra_exchange.specs.View.{view_after_load}
use Rattle.mothra_exchange.specs.Rule.{Knows, IsSoundExchange, Loads}

-- the rule of the table: its words and views are those of a sound exchange
abbrev pub HoldsRule : {S : Type 0} → ℕ → List ℕ → State S View → Type 0
HoldsRule C counts s = IsSoundExchange C counts s.words s.views

-- what a load shows the pass that makes it
abbrev pub Looks : {S : Type 0} → ℕ → Step S → Me S View → ℕ → Me S View → Type 0
Looks C s me found new =
    (w : Word) × (found ≡ pack w) × Loads C me.0 s.word w × (new ≡ (view_after_load me.0 s.word w, me.1))

-- for the operator at the place i, whose word is w: neither the view nor the two that were
-- merged into it had seen more than w, and the view has no ticket or closing twice
pub record AgreesAt (C : ℕ) (i : ℕ) (v : View) (w : Word) : Type 0 where
  pub bounds : InBounds C w
  pub knows : Knows i v w
  pub taken : (k : ℕ) → ticket_times i k v.taken ≤ 1
  pub offered : (k : ℕ) → ticket_times i k v.offered ≤ 1
  pub closings : (k : ℕ) → times_closed i k v.closings ≤ 1

-- for each operator some word agrees with the view
abbrev pub AgreesWithViews : ℕ → View → Type 0
AgreesWithViews C v = (op : Op) → (w : Word) × AgreesAt C (index op) v w

-- what the load that ends a merge shows the pass
abbrev pub Settles : {S : Type 0} → ℕ → Step S → Me S View → ℕ → Me S View → Type 0
Settles C s me found new = AgreesWithViews C me.0 × (new ≡ (settled_view me.0, me.1))
