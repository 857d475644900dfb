-- What stands at a place of a flat list, and what follows it.
--   NodeAt, node_at   a node
--   TermAt, term_at   a term
use Rattle.std.proofs.Common.{◌≡◌, ℕ, suc, ◌+◌, ◌<◌, ◌≤◌, List, ◌∷◌, ◌++◌, length, take, drop, sym, ap, ◌∙◌, arith, length-drop}
use Rattle.std.proofs.lemmas.List.{drop-drop, drop_at, take_at}
use Rattle.calculus.specs.declared.node.Node.{Node}
use Rattle.calculus.specs.Syntax.{Term, onto, flat, size}
use Rattle.calculus.proofs.Reading.{length_onto, length_flat}
use Rattle.rewriter.proofs.Flats.{onto_flat}
use Rattle.rewriter.proofs.Sizes.{size_some}

pub record NodeAt (ns : List Node) (j : ℕ) (l : List Node) : Type 0 where
  pub inside : j < length ns
  pub on : drop (j + 1) ns ≡ l

pub node_at : (ns : List Node) (j : ℕ) (n : Node) (l : List Node) → drop j ns ≡ n ∷ l → NodeAt ns j l
node_at ns j n l e =
    let q : length (drop j ns) ≡ suc (length l) = ap length e in
    record { inside = omega (arith, length-drop j ns); on = sym (drop-drop 1 j ns) ∙ ap (drop 1) e }

pub record TermAt (ns : List Node) (j : ℕ) (t : Term) (l : List Node) : Type 0 where
  pub on : drop (j + size t) ns ≡ l
  pub is : take (size t) (drop j ns) ≡ flat t
  pub inside : j + size t ≤ length ns

pub term_at : (ns : List Node) (j : ℕ) (t : Term) (l : List Node) → drop j ns ≡ onto t l → TermAt ns j t l
term_at ns j t l e =
    let f = length_flat t in
    let q : drop j ns ≡ flat t ++ l = e ∙ onto_flat t l in
    record {
      on = sym (drop-drop (size t) j ns) ∙ ap (drop (size t)) q ∙ drop_at (flat t) l (size t) f;
      is = ap (take (size t)) q ∙ take_at (flat t) l (size t) f;
      inside = omega (arith, length-drop j ns, ap length e, length_onto t l, size_some t);
    }
