-- The numeral that a list begins with, step by step and over trees.
--   numeral_more, numeral_here, numeral_other, numeral_none   a scan's next node, and its answers
--   numeral_onto    what is read at a term is its number, if it is a numeral
use Rattle.std.proofs.Common.{◌≡◌, ℕ, suc, ◌+◌, ◌<◌, ◌≤◌, false, List, length, get_or, drop, Some, None, Option, sym, refl, ap, ◌∙◌, add-zero}
use Rattle.std.proofs.lemmas.List.{drop_all}
use Rattle.std.specs.Option.{option_map}
use Rattle.calculus.specs.declared.kind.Kind.TheVariants.{Zero, Successor}
use Rattle.calculus.specs.declared.node.Node.{Node}
use Rattle.calculus.specs.Syntax.{Term, VA, ZE, SU, RE, LA, AP, TR, PA, FS, SN, AB, IL, IR, CA, QU, onto}
use Rattle.calculus.specs.Next.{number?}
use Rattle.terms.specs.Scan.{further, shift}
use Rattle.terms.proofs.Places.{shift_further, drop_read}
use Rattle.rewriter.specs.Searches.{same, numeral_in}

module _ (ns : List Node) (i : ℕ) (n : Node) (l : i < length ns) (is : n ≡ get_or ns i n) (goal : Option ℕ)
    (inv : goal ≡ shift i (numeral_in (drop i ns)))
  where
    pub numeral_more : n.kind ≡ Successor → goal ≡ shift (i + 1) (numeral_in (drop (i + 1) ns))
    numeral_more k = rw (← shift_further) (rw (drop_read ns i n l is, k) at inv)

    pub numeral_here : n.kind ≡ Zero → Some i ≡ goal
    numeral_here k = sym (rw (drop_read ns i n l is, k, add-zero) at inv)

    pub numeral_other : same n.kind Successor ≡ false → same n.kind Zero ≡ false → None ≡ goal
    numeral_other j k = sym (rw (drop_read ns i n l is, j, k) at inv)

pub numeral_none : (ns : List Node) (i : ℕ) (goal : Option ℕ) → length ns ≤ i → goal ≡ shift i (numeral_in (drop i ns)) → None ≡ goal
numeral_none ns i goal l inv = sym (rw (drop_all i ns l) at inv)

further_mapped : (o : Option ℕ) → further o ≡ option_map suc o
further_mapped None = refl
further_mapped (Some n) = refl

pub numeral_onto : (t : Term) (ns : List Node) → numeral_in (onto t ns) ≡ number? t
numeral_onto (VA i) ns = refl
numeral_onto ZE ns = refl
numeral_onto (SU e) ns = ap further (numeral_onto e ns) ∙ further_mapped (number? e)
numeral_onto (RE e a b) ns = refl
numeral_onto (LA t b) ns = refl
numeral_onto (AP f a) ns = refl
numeral_onto TR ns = refl
numeral_onto (PA a b) ns = refl
numeral_onto (FS e) ns = refl
numeral_onto (SN e) ns = refl
numeral_onto (AB t e) ns = refl
numeral_onto (IL t e) ns = refl
numeral_onto (IR t e) ns = refl
numeral_onto (CA e a b) ns = refl
numeral_onto (QU q e) ns = refl
