-- Evaluation contexts: a term with a hole where evaluation goes on.
--   Context      the contexts, one case for each rule that evaluates a part of a term
--   plug         a context with a term in its hole
--   hole_place   how many nodes stand before the hole
-- Assumes nothing.
use Rattle.std.specs.Prelude.{ℕ, suc, ◌+◌}
use Rattle.calculus.specs.Syntax.{Term, SU, RE, AP, PA, FS, SN, AB, IL, IR, CA, QU, Value, size}

-- The parts before the hole of an application or a pair are values.
pub data Context : Type 0 where
  hole : Context
  in_s : Context → Context
  in_fapp_left : Context → Term → Context
  in_fapp_right : (f : Term) → Value f → Context → Context
  in_rec : Context → Term → Term → Context
  in_pair_left : Context → Term → Context
  in_pair_right : (a : Term) → Value a → Context → Context
  in_fst : Context → Context
  in_snd : Context → Context
  in_abort : ℕ → Context → Context
  in_inl : ℕ → Context → Context
  in_inr : ℕ → Context → Context
  in_case : Context → Term → Term → Context
  in_query : ℕ → Context → Context

abbrev pub plug : Context → Term → Term
plug hole e = e
plug (in_s E) e = SU (plug E e)
plug (in_fapp_left E a) e = AP (plug E e) a
plug (in_fapp_right f v E) e = AP f (plug E e)
plug (in_rec E a b) e = RE (plug E e) a b
plug (in_pair_left E b) e = PA (plug E e) b
plug (in_pair_right a v E) e = PA a (plug E e)
plug (in_fst E) e = FS (plug E e)
plug (in_snd E) e = SN (plug E e)
plug (in_abort t E) e = AB t (plug E e)
plug (in_inl t E) e = IL t (plug E e)
plug (in_inr t E) e = IR t (plug E e)
plug (in_case E a b) e = CA (plug E e) a b
plug (in_query q E) e = QU q (plug E e)

abbrev pub hole_place : Context → ℕ
hole_place hole = 0
hole_place (in_s E) = suc (hole_place E)
hole_place (in_fapp_left E a) = suc (hole_place E)
hole_place (in_fapp_right f v E) = suc (size f + hole_place E)
hole_place (in_rec E a b) = suc (hole_place E)
hole_place (in_pair_left E b) = suc (hole_place E)
hole_place (in_pair_right a v E) = suc (size a + hole_place E)
hole_place (in_fst E) = suc (hole_place E)
hole_place (in_snd E) = suc (hole_place E)
hole_place (in_abort t E) = suc (hole_place E)
hole_place (in_inl t E) = suc (hole_place E)
hole_place (in_inr t E) = suc (hole_place E)
hole_place (in_case E a b) = suc (hole_place E)
hole_place (in_query q E) = suc (hole_place E)
