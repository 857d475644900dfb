-- The number of an entry, and the table with it. Assumes nothing.
use Rattle.std.proofs.Common.{◌≡◌, ℕ, zero, suc, ◌+◌, ◌<◌, ◌≤◌, Bool, true, false, cond, ◌||◌, List, [], ◌∷◌, ◌++◌, length, take, drop, set, Some, None, sym, refl, ap, ◌∙◌, add-one, arith}
use Rattle.std.proofs.lemmas.List.{append_assoc, length_push, length-take-le, set_split, take-append-drop}
use Rattle.std.proofs.lemmas.Bool.{cond-true, cond-false}
use Rattle.calculus.specs.declared.entry.Entry.{Entry}
use Rattle.calculus.specs.Tables.{same_entry, occurs}
use Rattle.calculus.proofs.Options.{some_injective}
use Rattle.types.specs.First.{Before, First}
use Rattle.types.specs.Adding.{index_of, with_entry}
use Rattle.types.proofs.Laid.{occurs_first}

-- what is before an index in a longer list is before it in the rest
before_rest : (k e : Entry) (es : List Entry) (i : ℕ) → Before (same_entry k) (e ∷ es) (suc i) → Before (same_entry k) es i
before_rest k e es i b j x h n = b (suc j) x (omega arith) n

pub index_found : (k : Entry) (es : List Entry) (i : ℕ) → First (same_entry k) es (Some i) → index_of k es ≡ i
index_found k [] i f = absurd (omega (arith, f.0))
index_found k (e ∷ es) zero f =
    cond-true (same_entry k e) 0 (suc (index_of k es)) (ap (same_entry k) (some_injective f.1.1) ∙ f.1.2)
index_found k (e ∷ es) (suc i) f =
    cond-false (same_entry k e) 0 (suc (index_of k es)) (f.2 0 e (omega arith) refl)
    ∙ ap suc (index_found k es i (omega (arith, f.0), (f.1.0, f.1.1, f.1.2), before_rest k e es i f.2))

pub index_missing : (k : Entry) (es : List Entry) → First (same_entry k) es None → index_of k es ≡ length es
index_missing k [] f = refl
index_missing k (e ∷ es) f =
    cond-false (same_entry k e) 0 (suc (index_of k es)) (f 0 e (omega arith) refl)
    ∙ ap suc (index_missing k es (before_rest k e es (length es) f))

pub with_found : (k : Entry) (es : List Entry) (i : ℕ) → First (same_entry k) es (Some i) → with_entry es k ≡ es
with_found k es i f = cond-true (occurs k es) es (es ++ (k ∷ [])) (occurs_first k es (Some i) f)

pub with_missing : (k : Entry) (es : List Entry) → First (same_entry k) es None → with_entry es k ≡ es ++ (k ∷ [])
with_missing k es f = cond-false (occurs k es) es (es ++ (k ∷ [])) (occurs_first k es None f)

-- what is left where the entry was found
pub kept_found : (k : Entry) (ts : List Entry) (count i : ℕ) → count < length ts → First (same_entry k) (take count ts) (Some i)
    → (count ≡ length (with_entry (take count ts) k)) × (ts ≡ with_entry (take count ts) k ++ drop count ts)
kept_found k ts count i h f =
    let w = with_found k (take count ts) i f in (
      sym (ap length w ∙ length-take-le count ts (omega arith)),
      sym (ap (λ l. l ++ drop count ts) w ∙ take-append-drop count ts),
    )

-- and where it was missing
pub set_missing : (k : Entry) (ts : List Entry) (count : ℕ) → count < length ts → First (same_entry k) (take count ts) None
    → (count + 1 ≡ length (with_entry (take count ts) k)) × (set ts count k ≡ with_entry (take count ts) k ++ drop (count + 1) ts)
set_missing k ts count h f =
    let w = with_missing k (take count ts) f in
    let n = length-take-le count ts (omega arith) in (
      sym (ap length w ∙ length_push (take count ts) k ∙ ap (λ m. m + 1) n),
      rw (add-one count, set_split ts count k h) (sym (ap (λ l. l ++ drop (suc count) ts) w ∙ append_assoc (take count ts) (k ∷ []) (drop (suc count) ts))),
    )

-- an entry that occurs has a number of the table, and one that does not has the next
pub index_in : (k : Entry) (es : List Entry) → occurs k es ≡ true → index_of k es < length es
index_in k [] o = cc
index_in k (e ∷ es) o = by (same_entry k e) (index_in k es) o
  where
    by : (b : Bool) → (occurs k es ≡ true → index_of k es < length es) → b || occurs k es ≡ true
        → cond b 0 (suc (index_of k es)) < suc (length es)
    by true rest p = omega arith
    by false rest p = omega (arith, rest p)

pub index_new : (k : Entry) (es : List Entry) → occurs k es ≡ false → index_of k es ≡ length es
index_new k [] o = refl
index_new k (e ∷ es) o = by (same_entry k e) (index_new k es) o
  where
    by : (b : Bool) → (occurs k es ≡ false → index_of k es ≡ length es) → b || occurs k es ≡ false
        → cond b 0 (suc (index_of k es)) ≡ suc (length es)
    by true rest p = cc
    by false rest p = ap suc (rest p)

-- the table grows by at most one entry, and has the entry's number
pub with_low : (es : List Entry) (k : Entry) → length es ≤ length (with_entry es k)
with_low es k =
    elim (occurs k es) as (λ b. length es ≤ length (cond b es (es ++ (k ∷ [])))) [ true ↦ omega arith | false ↦ omega (arith, length_push es k) ]

pub with_most : (es : List Entry) (k : Entry) → length (with_entry es k) ≤ length es + 1
with_most es k =
    elim (occurs k es) as (λ b. length (cond b es (es ++ (k ∷ []))) ≤ length es + 1) [ true ↦ omega arith | false ↦ omega (arith, length_push es k) ]

pub index_low : (es : List Entry) (k : Entry) → index_of k es < length (with_entry es k)
index_low es k = by (occurs k es) refl
  where
    by : (b : Bool) → occurs k es ≡ b → index_of k es < length (cond b es (es ++ (k ∷ [])))
    by true o = index_in k es o
    by false o = omega (arith, index_new k es o, length_push es k)
