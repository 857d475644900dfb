-- Written forms of terms, one before another.
--   onto_append   a term before two lists
--   onto_flat     a term before a list is its written form and the list
use Rattle.std.proofs.Common.{◌≡◌, List, [], ◌++◌, refl}
use Rattle.calculus.specs.declared.node.Node.{Node}
use Rattle.calculus.specs.Syntax.{Term, VA, ZE, SU, RE, LA, AP, TR, PA, FS, SN, AB, IL, IR, CA, QU, onto, flat}

pub onto_append : (t : Term) (ns ms : List Node) → onto t (ns ++ ms) ≡ onto t ns ++ ms
onto_append (VA i) ns ms = refl
onto_append ZE ns ms = refl
onto_append (SU e) ns ms = rw (onto_append e ns ms)
onto_append (RE e a b) ns ms = rw (onto_append b ns ms, onto_append a (onto b ns) ms, onto_append e (onto a (onto b ns)) ms)
onto_append (LA t b) ns ms = rw (onto_append b ns ms)
onto_append (AP f a) ns ms = rw (onto_append a ns ms, onto_append f (onto a ns) ms)
onto_append TR ns ms = refl
onto_append (PA a b) ns ms = rw (onto_append b ns ms, onto_append a (onto b ns) ms)
onto_append (FS e) ns ms = rw (onto_append e ns ms)
onto_append (SN e) ns ms = rw (onto_append e ns ms)
onto_append (AB t e) ns ms = rw (onto_append e ns ms)
onto_append (IL t e) ns ms = rw (onto_append e ns ms)
onto_append (IR t e) ns ms = rw (onto_append e ns ms)
onto_append (CA e a b) ns ms = rw (onto_append b ns ms, onto_append a (onto b ns) ms, onto_append e (onto a (onto b ns)) ms)
onto_append (QU q e) ns ms = rw (onto_append e ns ms)

pub onto_flat : (t : Term) (ns : List Node) → onto t ns ≡ flat t ++ ns
onto_flat t ns = onto_append t [] ns
