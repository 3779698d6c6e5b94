use Rattle.f77_legal.proofs.Common.{◌≡◌, false, drop, enters, holds_by}
use Rattle.f77_legal.proofs.enclosing.Ranges.goes_in.Given as goal

-- the other numbers decide
abbrev pub invariant-loop-d : goal.invariant-loop-d
invariant-loop-d l =
    enters (holds_by l.self l.i) (holds_by l.self l.j) false l.self.heads.items
    ≡ enters (holds_by l.self l.i) (holds_by l.self l.j) l.left (drop l.d-index l.self.heads.items)
