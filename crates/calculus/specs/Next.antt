-- The next term, computed. Safety states that it is the step relation.
--   number?   the number of a numeral
--   beta      what an application of values becomes
--   recur     what a rec of a value becomes
--   parts     what a projection of a value becomes
--   branch    what a case of a value becomes
--   ask       what a query of a number becomes
--   next      the next term, or none
-- Assumes nothing.
use Rattle.std.specs.Prelude.{ℕ, suc, cond, Some, None, Option}
use Rattle.std.specs.Option.{option_map}
use Rattle.calculus.specs.Syntax.{Term, VA, ZE, SU, RE, LA, AP, TR, PA, FS, SN, AB, IL, IR, CA, QU, put, one}
use Rattle.calculus.specs.Meanings.{Meaning, reply}
use Rattle.calculus.specs.Infer.{value?, and_then}

abbrev pub number? : Term → Option ℕ
number? (VA i) = None
number? ZE = Some 0
number? (SU e) = option_map suc (number? e)
number? (RE e a b) = None
number? (LA t b) = None
number? (AP f a) = None
number? TR = None
number? (PA a b) = None
number? (FS e) = None
number? (SN e) = None
number? (AB t e) = None
number? (IL t e) = None
number? (IR t e) = None
number? (CA e a b) = None
number? (QU q e) = None

abbrev pub beta : Term → Term → Option Term
beta (VA i) v = None
beta ZE v = None
beta (SU e) v = None
beta (RE e a b) v = None
beta (LA t b) v = Some (put (one v) b)
beta (AP f a) v = None
beta TR v = None
beta (PA a b) v = None
beta (FS e) v = None
beta (SN e) v = None
beta (AB t e) v = None
beta (IL t e) v = None
beta (IR t e) v = None
beta (CA e a b) v = None
beta (QU q e) v = None

abbrev pub recur : Term → Term → Term → Option Term
recur (VA i) a b = None
recur ZE a b = Some a
recur (SU e) a b = Some (AP (put (one e) b) (RE e a b))
recur (RE _ _ _) a b = None
recur (LA t _) a b = None
recur (AP _ _) a b = None
recur TR a b = None
recur (PA _ _) a b = None
recur (FS e) a b = None
recur (SN e) a b = None
recur (AB t e) a b = None
recur (IL t e) a b = None
recur (IR t e) a b = None
recur (CA _ _ _) a b = None
recur (QU q e) a b = None

abbrev pub parts : (Term → Term → Term) → Term → Option Term
parts k (VA i) = None
parts k ZE = None
parts k (SU e) = None
parts k (RE e a b) = None
parts k (LA t b) = None
parts k (AP f a) = None
parts k TR = None
parts k (PA a b) = Some (k a b)
parts k (FS e) = None
parts k (SN e) = None
parts k (AB t e) = None
parts k (IL t e) = None
parts k (IR t e) = None
parts k (CA e a b) = None
parts k (QU q e) = None

abbrev pub branch : Term → Term → Term → Option Term
branch (VA i) a b = None
branch ZE a b = None
branch (SU e) a b = None
branch (RE _ _ _) a b = None
branch (LA t _) a b = None
branch (AP _ _) a b = None
branch TR a b = None
branch (PA _ _) a b = None
branch (FS e) a b = None
branch (SN e) a b = None
branch (AB t e) a b = None
branch (IL t e) a b = Some (put (one e) a)
branch (IR t e) a b = Some (put (one e) b)
branch (CA _ _ _) a b = None
branch (QU q e) a b = None

abbrev pub ask : Meaning → ℕ → ℕ → Option Term
ask m q n = option_map reply (m.answer q n)

abbrev pub next : Meaning → Term → Option Term
next m (VA i) = None
next m ZE = None
next m (SU e) = option_map SU (next m e)
next m (RE e a b) = cond (value? e) (recur e a b) (option_map (λ x. RE x a b) (next m e))
next m (LA t b) = None
next m (AP f a) =
    cond (value? f) (cond (value? a) (beta f a) (option_map (AP f) (next m a))) (option_map (λ x. AP x a) (next m f))
next m TR = None
next m (PA a b) = cond (value? a) (option_map (PA a) (next m b)) (option_map (λ x. PA x b) (next m a))
next m (FS e) = cond (value? e) (parts (λ a b. a) e) (option_map FS (next m e))
next m (SN e) = cond (value? e) (parts (λ a b. b) e) (option_map SN (next m e))
next m (AB t e) = option_map (AB t) (next m e)
next m (IL t e) = option_map (IL t) (next m e)
next m (IR t e) = option_map (IR t) (next m e)
next m (CA e a b) = cond (value? e) (branch e a b) (option_map (λ x. CA x a b) (next m e))
next m (QU q e) = cond (value? e) (and_then (number? e) (ask m q)) (option_map (QU q) (next m e))
