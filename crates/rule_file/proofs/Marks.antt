-- The two letters of a mark. Assumes nothing.
use Rattle.std.proofs.Common.{◌≡◌, ℕ, List, ◌∷◌, ◌++◌, length, get_or, sym, refl, ap}
use Rattle.calculus.specs.declared.form.Form.{Form}
use Rattle.calculus.specs.declared.form.Form.TheVariants as form
use Rattle.calculus.specs.declared.kind.Kind.{Kind}
use Rattle.calculus.specs.declared.kind.Kind.TheVariants.{Blank, Variable, Zero, Successor, Rec, Lambda, Apply, Triv, Pair, Fst, Snd, Abort, Inl, Inr, Case, Query}
use Rattle.calculus.specs.Kinds.{kind_mark}
use Rattle.calculus.specs.Forms.{form_mark}
use Rattle.calculus.specs.declared.entry.Entry.{Entry}
use Rattle.calculus.specs.declared.node.Node.{Node}
use Rattle.rule_file.specs.Files.{low_high, entry_bytes, node_bytes}

pub kind_items : (k : Kind) (rest : List ℕ) → get_or (kind_mark k) 0 0 ∷ (get_or (kind_mark k) 1 0 ∷ rest) ≡ kind_mark k ++ rest
kind_items Blank rest = refl
kind_items Variable rest = refl
kind_items Zero rest = refl
kind_items Successor rest = refl
kind_items Rec rest = refl
kind_items Lambda rest = refl
kind_items Apply rest = refl
kind_items Triv rest = refl
kind_items Pair rest = refl
kind_items Fst rest = refl
kind_items Snd rest = refl
kind_items Abort rest = refl
kind_items Inl rest = refl
kind_items Inr rest = refl
kind_items Case rest = refl
kind_items Query rest = refl

pub form_items : (f : Form) (rest : List ℕ) → get_or (form_mark f) 0 0 ∷ (get_or (form_mark f) 1 0 ∷ rest) ≡ form_mark f ++ rest
form_items form.Blank rest = refl
form_items form.Nat rest = refl
form_items form.Unit rest = refl
form_items form.Void rest = refl
form_items form.Function rest = refl
form_items form.Product rest = refl
form_items form.Sum rest = refl

-- records have six bytes
pub entry_six : (e : Entry) → length (entry_bytes e) ≡ 6
entry_six e = ap length (sym (form_items e.form (low_high e.left ++ low_high e.right)))

pub node_six : (n : Node) → length (node_bytes n) ≡ 6
node_six n = ap length (sym (kind_items n.kind (low_high n.number ++ low_high 0)))
