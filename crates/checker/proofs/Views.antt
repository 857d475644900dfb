-- A term as a tree: its nodes, its size, and that it is whole. And nodes in range name types of the table. Assumes nothing.
use Rattle.std.proofs.Common.{◌≡◌, ℕ, zero, suc, ◌<◌, ◌≤◌, List, [], ◌∷◌, length, get_or, refl, ⊎_elim, arith}
use Rattle.std.proofs.lemmas.List.{get_or_past}
use Rattle.std.proofs.lemmas.Bool.{cases_lt}
use Rattle.calculus.specs.declared.entry.Entry.{Entry}
use Rattle.calculus.specs.declared.node.Node.{Node}
use Rattle.calculus.specs.Forms.{empty}
use Rattle.calculus.specs.Syntax.{Term, VA, ZE, SU, RE, LA, AP, TR, PA, FS, SN, AB, IL, IR, CA, QU, onto}
use Rattle.calculus.specs.Tables.{LaidDown}
use Rattle.calculus.proofs.Readings.{Placed, placed_nat, placed_unit, placed_void, placed_joined, placed}
use Rattle.terms.specs.Ranges.{AllInRange}
use Rattle.checker.specs.Trees.{tree_onto, Whole, view}
use Rattle.checker.proofs.Fits.{number_in, PartsIn}
use Rattle.checker.proofs.Tracks.{NumbersIn}

pub view_onto : (e : Term) (ns : List Node) → tree_onto (view e) ns ≡ onto e ns
view_onto (VA i) ns = refl
view_onto ZE ns = refl
view_onto (SU e) ns = rw (view_onto e ns)
view_onto (RE e a b) ns = rw (view_onto b ns, view_onto a (onto b ns), view_onto e (onto a (onto b ns)))
view_onto (LA t b) ns = rw (view_onto b ns)
view_onto (AP f a) ns = rw (view_onto a ns, view_onto f (onto a ns))
view_onto TR ns = refl
view_onto (PA a b) ns = rw (view_onto b ns, view_onto a (onto b ns))
view_onto (FS e) ns = rw (view_onto e ns)
view_onto (SN e) ns = rw (view_onto e ns)
view_onto (AB t e) ns = rw (view_onto e ns)
view_onto (IL t e) ns = rw (view_onto e ns)
view_onto (IR t e) ns = rw (view_onto e ns)
view_onto (CA e a b) ns = rw (view_onto b ns, view_onto a (onto b ns), view_onto e (onto a (onto b ns)))
view_onto (QU q e) ns = rw (view_onto e ns)

pub view_whole : (e : Term) → Whole (view e)
view_whole (VA i) = (refl, tt)
view_whole ZE = (refl, tt)
view_whole (SU e) = (refl, (view_whole e, tt))
view_whole (RE e a b) = (refl, (view_whole e, (view_whole a, (view_whole b, tt))))
view_whole (LA t b) = (refl, (view_whole b, tt))
view_whole (AP f a) = (refl, (view_whole f, (view_whole a, tt)))
view_whole TR = (refl, tt)
view_whole (PA a b) = (refl, (view_whole a, (view_whole b, tt)))
view_whole (FS e) = (refl, (view_whole e, tt))
view_whole (SN e) = (refl, (view_whole e, tt))
view_whole (AB t e) = (refl, (view_whole e, tt))
view_whole (IL t e) = (refl, (view_whole e, tt))
view_whole (IR t e) = (refl, (view_whole e, tt))
view_whole (CA e a b) = (refl, (view_whole e, (view_whole a, (view_whole b, tt))))
view_whole (QU q e) = (refl, (view_whole e, tt))

pub numbers_in : (C : ℕ) (N : List Node) → AllInRange C N → NumbersIn N C
numbers_in C [] a i h = absurd (omega arith)
numbers_in C (n ∷ N) a zero h = number_in n.kind n.number C a.0
numbers_in C (n ∷ N) a (suc i) h = numbers_in C N a.1 i (omega arith)

placed_in : (i C : ℕ) (x : Entry) → i < C → Placed i x → (x.left < C) × (x.right < C)
placed_in i C x h placed_nat = (omega arith, omega arith)
placed_in i C x h placed_unit = (omega arith, omega arith)
placed_in i C x h placed_void = (omega arith, omega arith)
placed_in i C x h (placed_joined j l r) = (omega arith, omega arith)

pub parts_in : (T : List Entry) → LaidDown T → 0 < length T → PartsIn T
parts_in T d z i =
    ⊎_elim (λ (h : i < length T). placed_in i (length T) (get_or T i empty) h (placed T d i h))
    (λ (h : length T ≤ i). let e = get_or_past T i empty h in rw e (z, z)) (cases_lt i (length T))
