-- A term has at least one node.
use Rattle.std.proofs.Common.{◌≤◌, arith}
use Rattle.calculus.specs.Syntax.{Term, VA, ZE, SU, RE, LA, AP, TR, PA, FS, SN, AB, IL, IR, CA, QU, size}

pub size_some : (t : Term) → 1 ≤ size t
size_some (VA i) = omega arith
size_some ZE = omega arith
size_some (SU e) = omega arith
size_some (RE e a b) = omega arith
size_some (LA t b) = omega arith
size_some (AP f a) = omega arith
size_some TR = omega arith
size_some (PA a b) = omega arith
size_some (FS e) = omega arith
size_some (SN e) = omega arith
size_some (AB t e) = omega arith
size_some (IL t e) = omega arith
size_some (IR t e) = omega arith
size_some (CA e a b) = omega arith
size_some (QU q e) = omega arith
