-- Substitution for one variable, as it is usually defined with indices.
--   usual               a closed term for the variable d; each variable above d is one lower, since its binder is gone
--   SubstitutionUsual   for the body of a binder, all of whose other variables are bound inside, `put` does just that
-- Assumes nothing.
use Rattle.std.specs.Prelude.{◌≡◌, ℕ, suc, ◌-◌, cond, ◌==◌, nat_lt}
use Rattle.calculus.specs.Syntax.{Term, VA, ZE, SU, RE, LA, AP, TR, PA, FS, SN, AB, IL, IR, CA, QU, put, one, Scoped}

abbrev pub usual : ℕ → Term → Term → Term
usual d v (VA i) = cond (i == d) v (cond (nat_lt i d) (VA i) (VA (i - 1)))
usual d v ZE = ZE
usual d v (SU e) = SU (usual d v e)
usual d v (RE e a b) = RE (usual d v e) (usual d v a) (usual (suc d) v b)
usual d v (LA t b) = LA t (usual (suc d) v b)
usual d v (AP f a) = AP (usual d v f) (usual d v a)
usual d v TR = TR
usual d v (PA a b) = PA (usual d v a) (usual d v b)
usual d v (FS e) = FS (usual d v e)
usual d v (SN e) = SN (usual d v e)
usual d v (AB t e) = AB t (usual d v e)
usual d v (IL t e) = IL t (usual d v e)
usual d v (IR t e) = IR t (usual d v e)
usual d v (CA e a b) = CA (usual d v e) (usual (suc d) v a) (usual (suc d) v b)
usual d v (QU q e) = QU q (usual d v e)

abbrev pub SubstitutionUsual : Type 0
SubstitutionUsual = (v b : Term) → Scoped 1 b → put (one v) b ≡ usual 0 v b
