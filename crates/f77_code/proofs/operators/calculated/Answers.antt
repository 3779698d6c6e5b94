use Rattle.f77_code.proofs.Common.{FitsSigned, w64, rules, to_z-of_z}
use Rattle.f77_code.proofs.operators.calculated.Goals as goal

pub returns-in-Add : goal.returns-in-Add
returns-in-Add c = λ r q a b.
    let fx = c.ranges.x in
    let fy = c.ranges.y in
    let s : FitsSigned w64 c.sum.result = search rules in
    rw c.in-Add.is (simp to_z-of_z (c.sum.ensures r q (simp to_z-of_z a) (simp to_z-of_z b)))

pub returns-in-Subtract : goal.returns-in-Subtract
returns-in-Subtract c = λ r q a b.
    let fx = c.ranges.x in
    let fy = c.ranges.y in
    let s : FitsSigned w64 c.difference.result = search rules in
    rw c.in-Subtract.is (simp to_z-of_z (c.difference.ensures r q (simp to_z-of_z a) (simp to_z-of_z b)))

pub returns-in-Multiply : goal.returns-in-Multiply
returns-in-Multiply c = λ r q a b.
    let fx = c.ranges.x in
    let fy = c.ranges.y in
    let s : FitsSigned w64 c.product.result = search rules in
    rw c.in-Multiply.is (simp to_z-of_z (c.product.ensures r q (simp to_z-of_z a) (simp to_z-of_z b)))

pub returns-in-Divide : goal.returns-in-Divide
returns-in-Divide c = λ r q a b.
    let fx = c.ranges.x in
    let fy = c.ranges.y in
    let s : FitsSigned w64 c.quotient.result = search rules in
    rw c.in-Divide.is (simp to_z-of_z (c.quotient.ensures r q (simp to_z-of_z a) (simp to_z-of_z b)))

pub returns-in-Power : goal.returns-in-Power
returns-in-Power c = λ r q a b.
    let fx = c.ranges.x in
    let fy = c.ranges.y in
    let s : FitsSigned w64 c.power.result = search rules in
    rw c.in-Power.is (simp to_z-of_z (c.power.ensures r q (simp to_z-of_z a) (simp to_z-of_z b)))

pub returns-in-Modulus : goal.returns-in-Modulus
returns-in-Modulus c = λ r q a b.
    let fx = c.ranges.x in
    let fy = c.ranges.y in
    let s : FitsSigned w64 c.modulus.result = search rules in
    rw c.in-Modulus.is (simp to_z-of_z (c.modulus.ensures r q (simp to_z-of_z a) (simp to_z-of_z b)))

pub returns-in-Least : goal.returns-in-Least
returns-in-Least c = λ r q a b.
    let fx = c.ranges.x in
    let fy = c.ranges.y in
    let s : FitsSigned w64 c.lesser.result = search rules in
    rw c.in-Least.is (simp to_z-of_z (c.lesser.ensures r q (simp to_z-of_z a) (simp to_z-of_z b)))

pub returns-in-Greatest : goal.returns-in-Greatest
returns-in-Greatest c = λ r q a b.
    let fx = c.ranges.x in
    let fy = c.ranges.y in
    let s : FitsSigned w64 c.greater.result = search rules in
    rw c.in-Greatest.is (simp to_z-of_z (c.greater.ensures r q (simp to_z-of_z a) (simp to_z-of_z b)))
