-- Places that a scan finds or does not, `further` and `shift`, and what is read at one.
use Rattle.std.proofs.Common.{◌≡◌, ℕ, suc, ◌+◌, ◌<◌, List, ◌∷◌, length, get_or, drop, Some, None, Option, sym, refl, ap, ◌∙◌, arith}
use Rattle.std.proofs.lemmas.List.{drop_more}
use Rattle.calculus.specs.declared.node.Node.{Node}
use Rattle.terms.specs.Scan.{further, shift}

pub some_none : {A : Type 0} (x : A) → Some x ≡ None → ⊥
some_none x e = cc

pub further_none : (o : Option ℕ) → further o ≡ None → o ≡ None
further_none None e = refl
further_none (Some k) e = cc

pub further_some : (o : Option ℕ) (k : ℕ) → further o ≡ Some k → (j : ℕ) × (o ≡ Some j) × (k ≡ suc j)
further_some None k e = cc
further_some (Some j) k e = (j, refl, cc)

pub shift_some : (i : ℕ) (o : Option ℕ) (k : ℕ) → shift i o ≡ Some k → (j : ℕ) × (o ≡ Some j) × (k ≡ i + j)
shift_some i None k e = cc
shift_some i (Some j) k e = (j, refl, cc)

pub shift_zero : (o : Option ℕ) → shift 0 o ≡ o
shift_zero None = refl
shift_zero (Some k) = ap Some (omega arith)

pub further_shift : (i : ℕ) (o : Option ℕ) → further (shift i o) ≡ shift (suc i) o
further_shift i None = refl
further_shift i (Some k) = ap Some (omega arith)

pub shift_further : (i : ℕ) (o : Option ℕ) → shift i (further o) ≡ shift (i + 1) o
shift_further i None = refl
shift_further i (Some k) = ap Some (omega arith)

-- the node that is read at a place, and what follows it
pub drop_read : (ns : List Node) (i : ℕ) (n : Node)
    → i < length ns → n ≡ get_or ns i n → drop i ns ≡ n ∷ drop (i + 1) ns
drop_read ns i n l e = drop_more ns i n l ∙ ap (λ m. m ∷ drop (i + 1) ns) (sym e)
