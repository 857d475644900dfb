-- `value?` computes which terms are values, and `number?` which are numerals.
use Rattle.std.proofs.Common.{◌≡◌, ℕ, zero, suc, Bool, true, false, cond, Some, refl, ap, ◌∙◌}
use mathlib.Core.Bool.{false≢true}
use Rattle.std.specs.Option.{option_map}
use Rattle.calculus.specs.Syntax.{Term, VA, ZE, SU, RE, LA, AP, TR, PA, FS, SN, AB, IL, IR, CA, QU, numeral, Value, val_z, val_s, val_abs, val_null, val_prod, val_inl, val_inr}
use Rattle.calculus.specs.Infer.{value?}
use Rattle.calculus.specs.Next.{number?}
use Rattle.calculus.proofs.Options.{some_injective, mapped_some}

pub value_true : {e : Term} → Value e → value? e ≡ true
value_true val_z = refl
value_true (val_s v) = value_true v
value_true val_abs = refl
value_true val_null = refl
value_true (val_prod v w) = rw (value_true v) (value_true w)
value_true (val_inl v) = value_true v
value_true (val_inr v) = value_true v

no_value : {A : Type 0} → false ≡ true → A
no_value p = absurd (false≢true p)

both_true : (a b : Bool) → cond a b false ≡ true → (a ≡ true) × (b ≡ true)
both_true true b p = (refl, p)
both_true false b p = no_value p

pub true_value : (e : Term) → value? e ≡ true → Value e
true_value (VA i) p = no_value p
true_value ZE p = val_z
true_value (SU e) p = val_s (true_value e p)
true_value (RE e a b) p = no_value p
true_value (LA t b) p = val_abs
true_value (AP f a) p = no_value p
true_value TR p = val_null
true_value (PA a b) p = let h = both_true (value? a) (value? b) p in val_prod (true_value a h.0) (true_value b h.1)
true_value (FS e) p = no_value p
true_value (SN e) p = no_value p
true_value (AB t e) p = no_value p
true_value (IL t e) p = val_inl (true_value e p)
true_value (IR t e) p = val_inr (true_value e p)
true_value (CA e a b) p = no_value p
true_value (QU q e) p = no_value p

pub numeral_value : (n : ℕ) → Value (numeral n)
numeral_value zero = val_z
numeral_value (suc n) = val_s (numeral_value n)

pub numeral_injective : (m n : ℕ) → numeral m ≡ numeral n → m ≡ n
numeral_injective zero zero p = refl
numeral_injective zero (suc n) p = cc
numeral_injective (suc m) zero p = cc
numeral_injective (suc m) (suc n) p = ap suc (numeral_injective m n (cc))

pub number_numeral : (n : ℕ) → number? (numeral n) ≡ Some n
number_numeral zero = refl
number_numeral (suc n) = ap (option_map suc) (number_numeral n)

pub numeral_number : (e : Term) (n : ℕ) → number? e ≡ Some n → e ≡ numeral n
numeral_number (VA i) n p = cc
numeral_number ZE n p = ap numeral (some_injective p)
numeral_number (SU e) n p =
    let h = mapped_some suc (number? e) p in
    ap SU (numeral_number e h.0 h.1) ∙ ap numeral h.2
numeral_number (RE e a b) n p = cc
numeral_number (LA t b) n p = cc
numeral_number (AP f a) n p = cc
numeral_number TR n p = cc
numeral_number (PA a b) n p = cc
numeral_number (FS e) n p = cc
numeral_number (SN e) n p = cc
numeral_number (AB t e) n p = cc
numeral_number (IL t e) n p = cc
numeral_number (IR t e) n p = cc
numeral_number (CA e a b) n p = cc
numeral_number (QU q e) n p = cc
