-- What a computed `Some` says of the parts that it was computed from.
use Rattle.std.proofs.Common.{◌≡◌, Bool, true, false, cond, Some, None, Option, refl}
use Rattle.std.specs.Option.{option_map}
use Rattle.calculus.specs.Infer.{and_then, when}

pub some_injective : {A : Type 0} {x y : A} → Some x ≡ Some y → x ≡ y
some_injective p = cc

-- an option has at most one value
pub same_value : {A : Type 0} {o : Option A} {x y : A} → o ≡ Some x → o ≡ Some y → x ≡ y
same_value p q = cc

pub mapped_some : {A B : Type 0} (k : A → B) (o : Option A) {y : B} → option_map k o ≡ Some y
    → (x : A) × (o ≡ Some x) × (k x ≡ y)
mapped_some k None p = cc
mapped_some k (Some x) p = (x, refl, some_injective p)

pub and_then_some : {A B : Type 0} (o : Option A) (k : A → Option B) {y : B} → and_then o k ≡ Some y
    → (x : A) × (o ≡ Some x) × (k x ≡ Some y)
and_then_some None k p = cc
and_then_some (Some x) k p = (x, refl, p)

pub two_some : {A B C : Type 0} (o : Option A) (o' : Option B) (k : A → B → Option C) {z : C}
    → (and_then o λ x. and_then o' λ y. k x y) ≡ Some z
    → (x : A) × (y : B) × (o ≡ Some x) × (o' ≡ Some y) × (k x y ≡ Some z)
two_some None o' k p = cc
two_some (Some x) None k p = cc
two_some (Some x) (Some y) k p = (x, y, refl, refl, p)

pub when_some : {P A : Type 0} (d : Dec P) (o : Option A) {y : A} → when d o ≡ Some y → P × (o ≡ Some y)
when_some (yes h) o p = (h, p)
when_some (no h) o p = cc

pub when_holds : {P A : Type 0} (d : Dec P) (o : Option A) → P → when d o ≡ o
when_holds (yes h) o p = refl
when_holds (no h) o p = absurd (h p)

pub cond_some : {A : Type 0} (b : Bool) (o : Option A) {y : A} → cond b o None ≡ Some y → (b ≡ true) × (o ≡ Some y)
cond_some true o p = (refl, p)
cond_some false o p = cc
