-- Type tables that keep their first entries. Assumes nothing.
use Rattle.std.proofs.Common.{ℕ, ◌≤◌, List, length, take, sym, refl, ap, ◌∙◌, arith}
use Rattle.std.proofs.lemmas.List.{take-take}
use Rattle.calculus.specs.declared.entry.Entry.{Entry}
use Rattle.checker.specs.Machine.{Keeps}

pub same_keeps : (n : ℕ) (ts : List Entry) → n ≤ length ts → Keeps n n ts ts
same_keeps n ts h = record { low = omega arith; most = omega arith; front = refl }

pub keeps_on : (c d e : ℕ) (ts us vs : List Entry) → Keeps c d ts us → Keeps d e us vs → Keeps c e ts vs
keeps_on c d e ts us vs g h = record {
  low = omega (arith, g.low, h.low);
  most = h.most;
  front = sym (take-take c d vs g.low) ∙ ap (take c) h.front ∙ take-take c d us g.low ∙ g.front;
}
