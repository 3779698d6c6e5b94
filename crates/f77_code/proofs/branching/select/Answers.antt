use Rattle.f77_code.proofs.Common.{FitsSigned, w64, rules, unwrap_or, to_z-of_z, at_least, not_least, point, item_chosen}
use Rattle.f77_code.proofs.Points.{fails, goes}
use Rattle.f77_code.proofs.branching.select.Goals as goal

pub returns-then-x-ge-UNDEFINED : goal.returns-then-x-ge-UNDEFINED
returns-then-x-ge-UNDEFINED c = λ turns.
    let fx : FitsSigned w64 c.operand-x.result = search rules in
    fails c.failed.result c.args.registers.now turns c.operand-x.result (at_least c.operand-x.result fx c.if-x-ge-UNDEFINED.true)
    (λ f t. c.failed.ensures f (simp to_z-of_z t))
    (λ z. point (unwrap_or (item_chosen c.args.places.now z) c.args.next) c.args.registers.now turns) _ c.operand-x.ensures

pub returns : goal.returns
returns c = λ turns.
    let fx : FitsSigned w64 c.operand-x.result = search rules in
    let e = simp to_z-of_z at c.numbered.ensures in
    rw e
    (goes c.args.registers.now turns c.operand-x.result (not_least c.operand-x.result fx c.if-x-ge-UNDEFINED.false)
    (λ z. point (unwrap_or (item_chosen c.args.places.now z) c.args.next) c.args.registers.now turns) _ c.operand-x.ensures)
