-- Terms at the front of a table.
--   take_onto      the term's own records
--   length_table   a term and blanks up to a length
use Rattle.std.proofs.Common.{◌≡◌, ℕ, ◌-◌, ◌≤◌, List, length, take, ap, ◌∙◌, arith}
use lib.ListN.{length-replicate}
use Rattle.std.proofs.lemmas.List.{take_at}
use Rattle.calculus.specs.declared.node.Node.{Node}
use Rattle.calculus.specs.Kinds.{blank}
use Rattle.calculus.specs.Syntax.{Term, onto, flat, size}
use Rattle.calculus.proofs.Reading.{length_onto, length_flat}
use Rattle.rewriter.proofs.Flats.{onto_flat}
use Rattle.evaluator.specs.OneCall.{blanks}

pub take_onto : (e : Term) (r : List Node) → take (size e) (onto e r) ≡ flat e
take_onto e r = ap (λ l. take (size e) l) (onto_flat e r) ∙ take_at (flat e) r (size e) (length_flat e)

pub length_table : (e : Term) (room : ℕ) → size e ≤ room → length (onto e (blanks (room - size e))) ≡ room
length_table e room h = omega (arith, length_onto e (blanks (room - size e)), length-replicate (room - size e) blank)
