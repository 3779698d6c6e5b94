-- What a walk over a statement finds wrong, and the first clause that any statement breaks.
-- Private functions and proofs alone cite what stands here.
use Rattle.std.specs.Prelude.{◌≡◌, ◌||◌, ℕ, Bool, not, nat_lt, List, map, Option, Some, None, if◌then◌else◌}
use Rattle.std.specs.List.{flat_map, slice_get}
use Rattle.f77_program.specs.Program.{LineFields}
use Rattle.f77_tree.specs.Statement.{Statement}
use Rattle.f77_legal.specs.Clause.{breaks, lines_where}
use Rattle.f77_legal.specs.Legal.{clauses}
use Rattle.f77_legal.specs.declared.broken.Flaws.{Flaws}
use Rattle.f77_legal.specs.declared.clause.Clause.{Clause}
use Rattle.f77_legal.specs.declared.clause.Clause.TheVariants.{Kinds, Bounds, NamedLabels, Targets}
use Rattle.f77_legal.specs.declared.clause.Clause.TheVariants.{Terminals, Nests, Jumps, Variables}

-- The flaws after one more part of the statement was seen. The three truth values say whether its names are in the
-- table, whether its kinds agree, and whether its bounds are right.
pub record Adds (old new : Flaws) (named agree fit : Bool) : Type 0 where
  pub names : new.names ≡ (old.names || not named)
  pub kinds : new.kinds ≡ (old.kinds || not agree)
  pub bounds : new.bounds ≡ (old.bounds || not fit)

-- the place of a clause in the order of test, from 0
abbrev pub rank : Clause → ℕ
rank Kinds = 0
rank Bounds = 1
rank NamedLabels = 2
rank Targets = 3
rank Terminals = 4
rank Nests = 5
rank Jumps = 6
rank Variables = 7

-- each of these clauses with each line whose statement breaks it, clause by clause
abbrev pub breaches : (Clause → ℕ → Statement → Bool) → List LineFields → List Clause → List (Clause × ℕ)
breaches broken program clauses =
    flat_map (λ clause. map (λ line. (clause, line)) (lines_where (broken clause) program)) clauses

-- the first clause that some statement breaks, with the line of the first that breaks it
abbrev pub first_breach : List LineFields → Option (Clause × ℕ)
first_breach program = slice_get (breaches (λ clause. breaks clause program) program clauses) 0

-- the breach that was found first; or this clause on this line, if it is tested before that one
abbrev pub earlier : Option (Clause × ℕ) → Option Clause → ℕ → Option (Clause × ℕ)
earlier first None line = first
earlier None (Some clause) line = Some (clause, line)
earlier (Some found) (Some clause) line =
    if nat_lt (rank clause) (rank found.0) then Some (clause, line) else Some found
