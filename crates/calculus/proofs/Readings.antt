-- What type tables read: growing keeps readings, and an entry reads as its form over what its numbers read as.
use Rattle.std.proofs.Common.{◌≡◌, ℕ, zero, suc, ◌+◌, ◌<◌, ◌≤◌, true, List, [], ◌∷◌, ◌++◌, length, get_or, take, drop, sym, refl, ap, ◌∙◌, subst, ⊎_elim, arith, length-append, take-append-drop, length-take-le, get_or-take, ext_get_or}
use lib.Seq.{split_at, get_or_at}
use Rattle.std.proofs.lemmas.List.{get_or_append_left}
use Rattle.std.proofs.lemmas.Bool.{cases_lt}
use Rattle.calculus.specs.declared.entry.Entry.{Entry}
use Rattle.calculus.specs.declared.form.Form.{Form}
use Rattle.calculus.specs.declared.form.Form.TheVariants as form
use Rattle.calculus.specs.Forms.{joins, entry, empty}
use Rattle.calculus.specs.Syntax.{Ty, nat}
use Rattle.calculus.specs.Tables.{given_entries, LaidDown, join, tree, trees_after, trees, reading, given_types}
use Rattle.calculus.specs.Safety.{ReadsGiven}

length_trees_after : (ts : List Ty) (es : List Entry) → length (trees_after ts es) ≡ length ts + length es
length_trees_after ts [] = omega arith
length_trees_after ts (e ∷ es) =
    omega (arith, length_trees_after (ts ++ (tree ts e ∷ [])) es, length-append ts (tree ts e ∷ []))

pub length_trees : (es : List Entry) → length (trees es) ≡ length es
length_trees es = omega (arith, length_trees_after [] es)

get_or_trees_after : (ts : List Ty) (es : List Entry) (n : ℕ) → n < length ts → get_or (trees_after ts es) n nat ≡ get_or ts n nat
get_or_trees_after ts [] n h = refl
get_or_trees_after ts (e ∷ es) n h =
    get_or_trees_after (ts ++ (tree ts e ∷ [])) es n (omega (arith, length-append ts (tree ts e ∷ [])))
    ∙ get_or_append_left ts (tree ts e ∷ []) nat n h

trees_after_append : (ts : List Ty) (es more : List Entry) → trees_after ts (es ++ more) ≡ trees_after (trees_after ts es) more
trees_after_append ts [] more = refl
trees_after_append ts (e ∷ es) more = trees_after_append (ts ++ (tree ts e ∷ [])) es more

pub readings_kept : (es more : List Entry) (n : ℕ) → n < length es → reading (es ++ more) n ≡ reading es n
readings_kept es more n h =
    ap (λ (ts : List Ty). get_or ts n nat) (trees_after_append [] es more)
    ∙ get_or_trees_after (trees es) more n (omega (arith, length_trees es))

-- the reading of a beginning of a table
reading_take : (es : List Entry) (i n : ℕ) → n < i → i ≤ length es → reading (take i es) n ≡ reading es n
reading_take es i n h l =
    sym (readings_kept (take i es) (drop i es) n (omega (arith, length-take-le i es l)))
    ∙ ap (λ (x : List Entry). reading x n) (take-append-drop i es)

reading_seam : (fs : List Entry) (e : Entry) (more : List Entry) (n : ℕ) → length fs ≡ n
    → reading (fs ++ e ∷ more) n ≡ tree (trees fs) e
reading_seam fs e more n p =
    ap (λ (ts : List Ty). get_or ts n nat) (trees_after_append [] fs (e ∷ more))
    ∙ get_or_trees_after (trees fs ++ (tree (trees fs) e ∷ [])) more n
    (omega (arith, length-append (trees fs) (tree (trees fs) e ∷ []), length_trees fs))
    ∙ get_or_at (trees fs) (tree (trees fs) e) [] nat n (omega (arith, length_trees fs))

reading_at : (es : List Entry) (i : ℕ) → i < length es → reading es i ≡ tree (trees (take i es)) (get_or es i empty)
reading_at es i h =
    ap (λ (x : List Entry). reading x i) (split_at es i empty h)
    ∙ reading_seam (take i es) (get_or es i empty) (drop (suc i) es) i (length-take-le i es (omega arith))

-- what may stand at a place of a type table
pub data Placed (i : ℕ) : Entry → Type 0 where
  placed_nat : Placed i (entry form.Nat 0 0)
  placed_unit : Placed i (entry form.Unit 0 0)
  placed_void : Placed i (entry form.Void 0 0)
  placed_joined : {f : Form} {l r : ℕ} → joins f ≡ true → l < i → r < i → Placed i (entry f l r)

placed_given : (i : ℕ) → i < 6 → Placed i (get_or given_entries i empty)
placed_given zero h = placed_nat
placed_given (suc zero) h = placed_unit
placed_given (suc (suc zero)) h = placed_void
placed_given (suc (suc (suc zero))) h = placed_joined refl (omega arith) (omega arith)
placed_given (suc (suc (suc (suc zero)))) h = placed_joined refl (omega arith) (omega arith)
placed_given (suc (suc (suc (suc (suc zero))))) h = placed_joined refl (omega arith) (omega arith)
placed_given (suc (suc (suc (suc (suc (suc i)))))) h = absurd (omega arith)

pub placed : (es : List Entry) → LaidDown es → (i : ℕ) → i < length es → Placed i (get_or es i empty)
placed es d i h =
    ⊎_elim (λ (s : i < 6). subst (Placed i) (sym (d.begins i s h)) (placed_given i s))
    (λ (s : 6 ≤ i). let j = d.joined i s h in placed_joined j.0 j.1 j.2) (cases_lt i 6)

tree_joins : (es : List Entry) (i : ℕ) → i ≤ length es → (e : Entry) → Placed i e
    → tree (trees (take i es)) e ≡ join e.form (reading es e.left) (reading es e.right)
tree_joins es i h e placed_nat = refl
tree_joins es i h e placed_unit = refl
tree_joins es i h e placed_void = refl
tree_joins es i h e (placed_joined {f = f} {l = l} {r = r} j x y) =
    λ k. join f (reading_take es i l x h k) (reading_take es i r y h k)

pub entries_join : (es : List Entry) → LaidDown es → (i : ℕ) → i < length es
    → reading es i ≡ join (get_or es i empty).form (reading es (get_or es i empty).left) (reading es (get_or es i empty).right)
entries_join es d i h = reading_at es i h ∙ tree_joins es i (omega arith) (get_or es i empty) (placed es d i h)

read_given : (i : ℕ) → i < 6 → reading (take (suc i) given_entries) i ≡ get_or given_types i nat
read_given zero h = refl
read_given (suc zero) h = refl
read_given (suc (suc zero)) h = refl
read_given (suc (suc (suc zero))) h = refl
read_given (suc (suc (suc (suc zero)))) h = refl
read_given (suc (suc (suc (suc (suc zero))))) h = refl
read_given (suc (suc (suc (suc (suc (suc i)))))) h = absurd (omega arith)

begins_given : (es : List Entry) → LaidDown es → (n : ℕ) → n ≤ 6 → n ≤ length es → take n es ≡ take n given_entries
begins_given es d n s h =
    ext_get_or empty (take n es) (take n given_entries) (length-take-le n es h ∙ sym (length-take-le n given_entries s))
    (λ i l. let k : i < n = omega (arith, length-take-le n es h) in
    get_or-take n es i empty k ∙ d.begins i (omega arith) (omega arith) ∙ sym (get_or-take n given_entries i empty k))

pub given_readings : (es : List Entry) → LaidDown es → (i : ℕ) → i < 6 → i < length es
    → reading es i ≡ get_or given_types i nat
given_readings es d i s h =
    sym (reading_take es (suc i) i (omega arith) h)
    ∙ ap (λ (x : List Entry). reading x i) (begins_given es d (suc i) s h) ∙ read_given i s

pub answers_read : (es : List Entry) → LaidDown es → 6 ≤ length es → ReadsGiven (reading es)
answers_read es d h =
    (given_readings es d 0 (omega arith) (omega arith), given_readings es d 1 (omega arith) (omega arith))
