-- Types and terms as trees, how terms are written, values and substitution.
--   Ty        a type
--   Term      a term; variables are de Bruijn indices, 0 is the innermost binder
--   onto      the nodes of a term, each before its children in order, put before a list
--   flat      the nodes of a term: its written form
--   size      the number of its nodes
--   numeral   the term of a number
--   Value     the terms that are values
--   up        a substitution taken under a binder
--   put       simultaneous substitution of closed terms for variables
--   one       the substitution that gives a term for the variable 0 alone
--   Scoped    which variables a term may have
--   Closed    a term without free variables
-- Assumes nothing.
use Rattle.std.specs.Prelude.{ℕ, zero, suc, ◌+◌, ◌<◌, List, [], ◌∷◌, Some, None, Option}
use Rattle.std.specs.Option.{unwrap_or}
use Rattle.calculus.specs.declared.kind.Kind.TheVariants.{Variable, Zero, Successor, Rec, Lambda, Apply, Triv, Pair, Fst, Snd, Abort, Inl, Inr, Case, Query}
use Rattle.calculus.specs.declared.node.Node.{Node}
use Rattle.calculus.specs.Kinds.{node}

pub data Ty : Type 0 where
  nat : Ty
  unit : Ty
  void : Ty
  fun : Ty → Ty → Ty
  prod : Ty → Ty → Ty
  sum : Ty → Ty → Ty
  deriving Discrete as Ty-discrete

-- The number of LA, AB, IL and IR is a type number, that of VA an index, that of QU a question. LA binds one variable in
-- its child, RE one in its third child, CA one in its second and one in its third.
pub data Term : Type 0 where
  VA : ℕ → Term
  ZE : Term
  SU : Term → Term
  RE : Term → Term → Term → Term
  LA : ℕ → Term → Term
  AP : Term → Term → Term
  TR : Term
  PA : Term → Term → Term
  FS : Term → Term
  SN : Term → Term
  AB : ℕ → Term → Term
  IL : ℕ → Term → Term
  IR : ℕ → Term → Term
  CA : Term → Term → Term → Term
  QU : ℕ → Term → Term

abbrev pub onto : Term → List Node → List Node
onto (VA i) ns = node Variable i ∷ ns
onto ZE ns = node Zero 0 ∷ ns
onto (SU e) ns = node Successor 0 ∷ onto e ns
onto (RE e a b) ns = node Rec 0 ∷ onto e (onto a (onto b ns))
onto (LA t b) ns = node Lambda t ∷ onto b ns
onto (AP f a) ns = node Apply 0 ∷ onto f (onto a ns)
onto TR ns = node Triv 0 ∷ ns
onto (PA a b) ns = node Pair 0 ∷ onto a (onto b ns)
onto (FS e) ns = node Fst 0 ∷ onto e ns
onto (SN e) ns = node Snd 0 ∷ onto e ns
onto (AB t e) ns = node Abort t ∷ onto e ns
onto (IL t e) ns = node Inl t ∷ onto e ns
onto (IR t e) ns = node Inr t ∷ onto e ns
onto (CA e a b) ns = node Case 0 ∷ onto e (onto a (onto b ns))
onto (QU q e) ns = node Query q ∷ onto e ns

abbrev pub flat : Term → List Node
flat t = onto t []

abbrev pub size : Term → ℕ
size (VA i) = 1
size ZE = 1
size (SU e) = suc (size e)
size (RE e a b) = suc (size e + (size a + size b))
size (LA t b) = suc (size b)
size (AP f a) = suc (size f + size a)
size TR = 1
size (PA a b) = suc (size a + size b)
size (FS e) = suc (size e)
size (SN e) = suc (size e)
size (AB t e) = suc (size e)
size (IL t e) = suc (size e)
size (IR t e) = suc (size e)
size (CA e a b) = suc (size e + (size a + size b))
size (QU q e) = suc (size e)

-- n successors over zero
abbrev pub numeral : ℕ → Term
numeral zero = ZE
numeral (suc n) = SU (numeral n)

pub data Value : Term → Type 0 where
  val_z : Value ZE
  val_s : {e : Term} → Value e → Value (SU e)
  val_abs : {t : ℕ} {b : Term} → Value (LA t b)
  val_null : Value TR
  val_prod : {a b : Term} → Value a → Value b → Value (PA a b)
  val_inl : {t : ℕ} {e : Term} → Value e → Value (IL t e)
  val_inr : {t : ℕ} {e : Term} → Value e → Value (IR t e)

-- A substitution gives a term for some of the variables. Under a binder the binder's own variable stays, and the variable
-- i from outside is i + 1.
abbrev pub up : (ℕ → Option Term) → ℕ → Option Term
up s zero = None
up s (suc i) = s i

-- `put s e`: e with the term that s gives for each variable, if it gives one. The terms that s gives are closed, so they
-- are put in as they stand.
abbrev pub put : (ℕ → Option Term) → Term → Term
put s (VA i) = unwrap_or (s i) (VA i)
put s ZE = ZE
put s (SU e) = SU (put s e)
put s (RE e a b) = RE (put s e) (put s a) (put (up s) b)
put s (LA t b) = LA t (put (up s) b)
put s (AP f a) = AP (put s f) (put s a)
put s TR = TR
put s (PA a b) = PA (put s a) (put s b)
put s (FS e) = FS (put s e)
put s (SN e) = SN (put s e)
put s (AB t e) = AB t (put s e)
put s (IL t e) = IL t (put s e)
put s (IR t e) = IR t (put s e)
put s (CA e a b) = CA (put s e) (put (up s) a) (put (up s) b)
put s (QU q e) = QU q (put s e)

abbrev pub one : Term → ℕ → Option Term
one v zero = Some v
one v (suc i) = None

-- `Scoped d e`: each variable of e is below d, or bound inside e.
pub data Scoped : ℕ → Term → Type 0 where
  scoped_var : {d i : ℕ} → i < d → Scoped d (VA i)
  scoped_z : {d : ℕ} → Scoped d ZE
  scoped_s : {d : ℕ} {e : Term} → Scoped d e → Scoped d (SU e)
  scoped_rec : {d : ℕ} {e a b : Term} → Scoped d e → Scoped d a → Scoped (suc d) b → Scoped d (RE e a b)
  scoped_abs : {d t : ℕ} {b : Term} → Scoped (suc d) b → Scoped d (LA t b)
  scoped_fapp : {d : ℕ} {f a : Term} → Scoped d f → Scoped d a → Scoped d (AP f a)
  scoped_null : {d : ℕ} → Scoped d TR
  scoped_pair : {d : ℕ} {a b : Term} → Scoped d a → Scoped d b → Scoped d (PA a b)
  scoped_fst : {d : ℕ} {e : Term} → Scoped d e → Scoped d (FS e)
  scoped_snd : {d : ℕ} {e : Term} → Scoped d e → Scoped d (SN e)
  scoped_abort : {d t : ℕ} {e : Term} → Scoped d e → Scoped d (AB t e)
  scoped_inl : {d t : ℕ} {e : Term} → Scoped d e → Scoped d (IL t e)
  scoped_inr : {d t : ℕ} {e : Term} → Scoped d e → Scoped d (IR t e)
  scoped_case : {d : ℕ} {e a b : Term} → Scoped d e → Scoped (suc d) a → Scoped (suc d) b → Scoped d (CA e a b)
  scoped_query : {d q : ℕ} {e : Term} → Scoped d e → Scoped d (QU q e)

abbrev pub Closed : Term → Type 0
Closed e = Scoped 0 e
