-- Two numbers of a type table that read as one type are one number: by induction on the type, their entries are equal.
use Rattle.std.proofs.Common.{◌≡◌, ℕ, ◌<◌, true, List, length, get_or, sym, refl, ◌∙◌, subst, ⊎_elim, arith}
use mathlib.Core.Bool.{false≢true}
use Rattle.std.proofs.lemmas.Bool.{cases_order}
use Rattle.calculus.specs.declared.entry.Entry.{Entry}
use Rattle.calculus.specs.declared.form.Form.{Form}
use Rattle.calculus.specs.declared.form.Form.TheVariants as form
use Rattle.calculus.specs.Forms.{joins, entry, empty}
use Rattle.calculus.specs.Syntax.{Ty, nat, unit, void, fun, prod, sum}
use Rattle.calculus.specs.Tables.{LaidDown, join, reading}
use Rattle.calculus.proofs.Readings.{Placed, placed_nat, placed_unit, placed_void, placed_joined, placed, entries_join}

-- an entry at the place i that reads as the type, over what its two numbers read as
abbrev ReadAs : ℕ → Ty → Entry → Ty → Ty → Type 0
ReadAs i nat e a b = e ≡ entry form.Nat 0 0
ReadAs i unit e a b = e ≡ entry form.Unit 0 0
ReadAs i void e a b = e ≡ entry form.Void 0 0
ReadAs i (fun α β) e a b = (e.form ≡ form.Function) × (e.left < i) × (e.right < i) × (a ≡ α) × (b ≡ β)
ReadAs i (prod α β) e a b = (e.form ≡ form.Product) × (e.left < i) × (e.right < i) × (a ≡ α) × (b ≡ β)
ReadAs i (sum α β) e a b = (e.form ≡ form.Sum) × (e.left < i) × (e.right < i) × (a ≡ α) × (b ≡ β)

read_joined : (i : ℕ) (f : Form) (l r : ℕ) (a b : Ty) → joins f ≡ true → l < i → r < i → ReadAs i (join f a b) (entry f l r) a b
read_joined i form.Blank l r a b j x y = absurd (false≢true j)
read_joined i form.Nat l r a b j x y = absurd (false≢true j)
read_joined i form.Unit l r a b j x y = absurd (false≢true j)
read_joined i form.Void l r a b j x y = absurd (false≢true j)
read_joined i form.Function l r a b j x y = (refl, x, y, refl, refl)
read_joined i form.Product l r a b j x y = (refl, x, y, refl, refl)
read_joined i form.Sum l r a b j x y = (refl, x, y, refl, refl)

read_placed : (i : ℕ) (e : Entry) (a b : Ty) → Placed i e → ReadAs i (join e.form a b) e a b
read_placed i e a b placed_nat = refl
read_placed i e a b placed_unit = refl
read_placed i e a b placed_void = refl
read_placed i e a b (placed_joined {f = f} {l = l} {r = r} j x y) = read_joined i f l r a b j x y

same_parts : (d e : Entry) → d.form ≡ e.form → d.left ≡ e.left → d.right ≡ e.right → d ≡ e
same_parts d e p q r = λ k. record { form = p k; left = q k; right = r k; plain = tt }

module _ (es : List Entry) (d : LaidDown es) where
  read_as : (τ : Ty) (i : ℕ) → i < length es → reading es i ≡ τ
      → ReadAs i τ (get_or es i empty) (reading es (get_or es i empty).left) (reading es (get_or es i empty).right)
  read_as τ i h p =
      let e = get_or es i empty in
      subst (λ (σ : Ty). ReadAs i σ e (reading es e.left) (reading es e.right)) (sym (entries_join es d i h) ∙ p)
      (read_placed i e (reading es e.left) (reading es e.right) (placed es d i h))

  same_place : (i j : ℕ) → i < length es → j < length es → get_or es i empty ≡ get_or es j empty → i ≡ j
  same_place i j h k p =
      ⊎_elim (λ (x : i ≡ j). x)
      (⊎_elim (λ (x : i < j). absurd (d.apart i j x k p)) (λ (x : j < i). absurd (d.apart j i x h (sym p)))) (cases_order i j)

  same_joined : (i j : ℕ) → i < length es → j < length es → (get_or es i empty).form ≡ (get_or es j empty).form
      → (get_or es i empty).left ≡ (get_or es j empty).left → (get_or es i empty).right ≡ (get_or es j empty).right → i ≡ j
  same_joined i j h k p q r = same_place i j h k (same_parts (get_or es i empty) (get_or es j empty) p q r)

  same_number : (τ : Ty) (i j : ℕ) → i < length es → j < length es → reading es i ≡ τ → reading es j ≡ τ → i ≡ j
  same_number nat i j h k p q = same_place i j h k (read_as nat i h p ∙ sym (read_as nat j k q))
  same_number unit i j h k p q = same_place i j h k (read_as unit i h p ∙ sym (read_as unit j k q))
  same_number void i j h k p q = same_place i j h k (read_as void i h p ∙ sym (read_as void j k q))
  same_number (fun α β) i j h k p q =
      let x = read_as (fun α β) i h p in
      let y = read_as (fun α β) j k q in
      same_joined i j h k (x.0 ∙ sym y.0) (same_number α _ _ (omega arith) (omega arith) x.3 y.3)
      (same_number β _ _ (omega arith) (omega arith) x.4 y.4)
  same_number (prod α β) i j h k p q =
      let x = read_as (prod α β) i h p in
      let y = read_as (prod α β) j k q in
      same_joined i j h k (x.0 ∙ sym y.0) (same_number α _ _ (omega arith) (omega arith) x.3 y.3)
      (same_number β _ _ (omega arith) (omega arith) x.4 y.4)
  same_number (sum α β) i j h k p q =
      let x = read_as (sum α β) i h p in
      let y = read_as (sum α β) j k q in
      same_joined i j h k (x.0 ∙ sym y.0) (same_number α _ _ (omega arith) (omega arith) x.3 y.3)
      (same_number β _ _ (omega arith) (omega arith) x.4 y.4)

  pub readings_apart : (i j : ℕ) → i < length es → j < length es → reading es i ≡ reading es j → i ≡ j
  readings_apart i j h k p = same_number (reading es j) i j h k p refl
