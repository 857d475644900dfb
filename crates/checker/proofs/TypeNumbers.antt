-- Type numbers in a table that grows: what they read as, what the tests on them tell, and what adding an entry gives.
--   Longer    a table begins as another one
--   Table     a type table that begins as es
--   Reads     a number of a table reads as a type
--   Context   numbers that read as the types of a context
--   Shown     an entry with the top form of a type, over numbers that read as its parts
--   Built     a table after a type was added, and the number of that type
-- Assumes nothing.
use Rattle.std.proofs.Common.{◌≡◌, ℕ, zero, suc, ◌<◌, ◌≤◌, Bool, true, false, cond, ◌&&◌, ◌||◌, eqb, List, [], ◌∷◌, ◌++◌, length, get_or, Some, None, Option, sym, refl, ap, ◌∙◌, subst, suc-le-suc, zero-le, arith}
use mathlib.Core.Bool.{false≢true}
use Rattle.std.specs.List.{slice_get}
use Rattle.std.proofs.lemmas.List.{append_assoc, append-nil, get_or_push, length-append, length_push}
use Rattle.std.proofs.lemmas.Bool.{and_from, cond-false, eqb-false, eqb-true, le-ltb, lt-ltb, not_from_false}
use Rattle.calculus.specs.declared.entry.Entry.{Entry}
use Rattle.calculus.specs.declared.form.Form.{Form}
use Rattle.calculus.specs.declared.form.Form.TheVariants as form
use Rattle.calculus.specs.Forms.{form_number, joins, entry, empty}
use Rattle.calculus.specs.Syntax.{Ty, nat, unit, void, fun, prod, sum}
use Rattle.calculus.specs.Tables.{same_entry, occurs, laid, LaidDown, join, reading, given_types}
use Rattle.calculus.specs.declared.answer.Shape.{Shape}
use Rattle.calculus.specs.declared.answer.Shape.TheVariants as shape
use Rattle.calculus.specs.Typing.{shape_type}
use Rattle.calculus.proofs.Readings.{readings_kept, Placed, placed_nat, placed_unit, placed_void, placed_joined, placed, entries_join, given_readings}
use Rattle.calculus.proofs.ReadingsApart.{readings_apart}
use Rattle.types.specs.Adding.{index_of, with_entry}
use Rattle.types.proofs.Laid.{same_entry_is, laid_more}
use Rattle.checker.specs.Rules.{answer_number_lem, has_form}
use Rattle.checker.specs.Derivations.{Joined, there, added}

-- Tables that grow.

pub record Longer (T U : List Entry) : Type 0 where
  pub more : List Entry
  pub same : U ≡ T ++ more

pub longer_refl : (T : List Entry) → Longer T T
longer_refl T = record { more = []; same = sym (append-nil T) }

pub longer_on : {T U V : List Entry} → Longer T U → Longer U V → Longer T V
longer_on {T} a b = record {
  more = a.more ++ b.more;
  same = b.same ∙ ap (λ (l : List Entry). l ++ b.more) a.same ∙ append_assoc T a.more b.more;
}

pub longer_length : {T U : List Entry} → Longer T U → length T ≤ length U
longer_length {T} a = omega (arith, ap length a.same, length-append T a.more)

pub record Table (es T : List Entry) : Type 0 where
  pub laid_down : LaidDown T
  pub given : 6 ≤ length T
  pub from : Longer es T

-- What numbers read as.

pub record Reads (T : List Entry) (n : ℕ) (τ : Ty) : Type 0 where
  pub within : n < length T
  pub is : reading T n ≡ τ

pub reads_on : {T U : List Entry} {n : ℕ} {τ : Ty} → Longer T U → Reads T n τ → Reads U n τ
reads_on {T} {n = n} a r = record {
  within = omega (arith, longer_length a, r.within);
  is = ap (λ (l : List Entry). reading l n) a.same ∙ readings_kept T a.more n r.within ∙ r.is;
}

-- the numbers of es read as they do by es
pub named : {es T : List Entry} {n : ℕ} → Table es T → n < length es → Reads T n (reading es n)
named t h = reads_on t.from (record { within = h; is = refl })

pub given_reads : {es T : List Entry} → Table es T → (i : ℕ) → i < 6 → Reads T i (get_or given_types i nat)
given_reads {T = T} t i h =
    let l : i < length T = omega (arith, t.given) in
    record { within = l; is = given_readings T t.laid_down i h l }

pub answer_reads : {es T : List Entry} → Table es T → (s : Shape) → Reads T (answer_number_lem s) (shape_type s)
answer_reads t shape.Number = given_reads t 0 (omega arith)
answer_reads t shape.Flag = given_reads t 3 (omega arith)
answer_reads t shape.Maybe = given_reads t 4 (omega arith)
answer_reads t shape.Pair = given_reads t 5 (omega arith)

-- equal types have equal numbers, so a test of two numbers tells whether their types are equal
pub number_test : {T : List Entry} {i j : ℕ} {σ τ : Ty} → LaidDown T → Reads T i σ → Reads T j τ
    → (P : Bool → Type 0) → (σ ≡ τ → P true) → ((σ ≡ τ → ⊥) → P false) → P (eqb i j)
number_test {T} {i} {j} {σ} {τ} d a b P y n = go (eqb i j) refl
  where
    go : (t : Bool) → eqb i j ≡ t → P t
    go true e = y (sym a.is ∙ ap (reading T) (eqb-true i j e) ∙ b.is)
    go false e =
        n (λ q. eqb-false i j e (readings_apart T d i j a.within b.within (a.is ∙ q ∙ sym b.is)))

-- Contexts.

pub data Context (T : List Entry) : List ℕ → List Ty → Type 0 where
  no_binder : Context T [] []
  binder : {t : ℕ} {τ : Ty} {Γ : List ℕ} {Δ : List Ty} → Reads T t τ → Context T Γ Δ → Context T (t ∷ Γ) (τ ∷ Δ)

pub context_on : {T U : List Entry} {Γ : List ℕ} {Δ : List Ty} → Longer T U → Context T Γ Δ → Context U Γ Δ
context_on a no_binder = no_binder
context_on a (binder r c) = binder (reads_on a r) (context_on a c)

-- what stands at an index of a context
pub data At (T : List Entry) (Δ : List Ty) (i : ℕ) : Option ℕ → Type 0 where
  bound : {t : ℕ} {τ : Ty} → slice_get Δ i ≡ Some τ → Reads T t τ → At T Δ i (Some t)
  free : length Δ ≤ i → At T Δ i None

at_more : {T : List Entry} {Δ : List Ty} {i : ℕ} {o : Option ℕ} {τ : Ty} → At T Δ i o → At T (τ ∷ Δ) (suc i) o
at_more (bound p r) = bound p r
at_more (free h) = free (suc-le-suc h)

pub at_index : {T : List Entry} {Γ : List ℕ} {Δ : List Ty} → Context T Γ Δ → (i : ℕ) → At T Δ i (slice_get Γ i)
at_index no_binder i = free zero-le
at_index (binder r c) zero = bound refl r
at_index (binder r c) (suc i) = at_more (at_index c i)

-- The top form of a type.

pub data Shown (T : List Entry) : Entry → Ty → Type 0 where
  shown_nat : {l r : ℕ} → Shown T (entry form.Nat l r) nat
  shown_unit : {l r : ℕ} → Shown T (entry form.Unit l r) unit
  shown_void : {l r : ℕ} → Shown T (entry form.Void l r) void
  shown_fun : {l r : ℕ} {α β : Ty} → Reads T l α → Reads T r β → Shown T (entry form.Function l r) (fun α β)
  shown_prod : {l r : ℕ} {α β : Ty} → Reads T l α → Reads T r β → Shown T (entry form.Product l r) (prod α β)
  shown_sum : {l r : ℕ} {α β : Ty} → Reads T l α → Reads T r β → Shown T (entry form.Sum l r) (sum α β)

shown_joined : (T : List Entry) (f : Form) (l r : ℕ) (α β : Ty) → joins f ≡ true → Reads T l α → Reads T r β
    → Shown T (entry f l r) (join f α β)
shown_joined T form.Blank l r α β j a b = absurd (false≢true j)
shown_joined T form.Nat l r α β j a b = absurd (false≢true j)
shown_joined T form.Unit l r α β j a b = absurd (false≢true j)
shown_joined T form.Void l r α β j a b = absurd (false≢true j)
shown_joined T form.Function l r α β j a b = shown_fun a b
shown_joined T form.Product l r α β j a b = shown_prod a b
shown_joined T form.Sum l r α β j a b = shown_sum a b

shown_placed : (T : List Entry) (n : ℕ) (x : Entry) → n < length T → Placed n x
    → Shown T x (join x.form (reading T x.left) (reading T x.right))
shown_placed T n x h placed_nat = shown_nat
shown_placed T n x h placed_unit = shown_unit
shown_placed T n x h placed_void = shown_void
shown_placed T n x h (placed_joined {f = f} {l = l} {r = r} j u v) =
    shown_joined T f l r (reading T l) (reading T r) j (record { within = omega arith; is = refl })
    (record { within = omega arith; is = refl })

pub shown : {T : List Entry} {n : ℕ} {τ : Ty} → LaidDown T → Reads T n τ → Shown T (get_or T n empty) τ
shown {T} {n} d r =
    subst (λ (σ : Ty). Shown T (get_or T n empty) σ) (sym (entries_join T d n r.within) ∙ r.is)
    (shown_placed T n (get_or T n empty) r.within (placed T d n r.within))

abbrev top : Ty → ℕ
top nat = form_number form.Nat
top unit = form_number form.Unit
top void = form_number form.Void
top (fun α β) = form_number form.Function
top (prod α β) = form_number form.Product
top (sum α β) = form_number form.Sum

-- types with other top forms differ
pub tops_differ : {σ τ : Ty} → eqb (top σ) (top τ) ≡ false → σ ≡ τ → ⊥
tops_differ {σ} {τ} e q = eqb-false (top σ) (top τ) e (ap top q)

pub nat_test : {T : List Entry} {x : Entry} {τ : Ty} → Shown T x τ → (P : Bool → Type 0)
    → (τ ≡ nat → P true) → ((τ ≡ nat → ⊥) → P false) → P (has_form form.Nat x)
nat_test shown_nat P y n = y refl
nat_test shown_unit P y n = n (tops_differ refl)
nat_test shown_void P y n = n (tops_differ refl)
nat_test (shown_fun a b) P y n = n (tops_differ refl)
nat_test (shown_prod a b) P y n = n (tops_differ refl)
nat_test (shown_sum a b) P y n = n (tops_differ refl)

pub void_test : {T : List Entry} {x : Entry} {τ : Ty} → Shown T x τ → (P : Bool → Type 0)
    → (τ ≡ void → P true) → ((τ ≡ void → ⊥) → P false) → P (has_form form.Void x)
void_test shown_nat P y n = n (tops_differ refl)
void_test shown_unit P y n = n (tops_differ refl)
void_test shown_void P y n = y refl
void_test (shown_fun a b) P y n = n (tops_differ refl)
void_test (shown_prod a b) P y n = n (tops_differ refl)
void_test (shown_sum a b) P y n = n (tops_differ refl)

pub fun_test : {T : List Entry} {x : Entry} {τ : Ty} → Shown T x τ → (P : Bool → Type 0)
    → ((α β : Ty) → τ ≡ fun α β → Reads T x.left α → Reads T x.right β → P true)
    → (((α β : Ty) → τ ≡ fun α β → ⊥) → P false) → P (has_form form.Function x)
fun_test shown_nat P y n = n (λ α β. tops_differ refl)
fun_test shown_unit P y n = n (λ α β. tops_differ refl)
fun_test shown_void P y n = n (λ α β. tops_differ refl)
fun_test (shown_fun a b) P y n = y _ _ refl a b
fun_test (shown_prod a b) P y n = n (λ α β. tops_differ refl)
fun_test (shown_sum a b) P y n = n (λ α β. tops_differ refl)

pub prod_test : {T : List Entry} {x : Entry} {τ : Ty} → Shown T x τ → (P : Bool → Type 0)
    → ((α β : Ty) → τ ≡ prod α β → Reads T x.left α → Reads T x.right β → P true)
    → (((α β : Ty) → τ ≡ prod α β → ⊥) → P false) → P (has_form form.Product x)
prod_test shown_nat P y n = n (λ α β. tops_differ refl)
prod_test shown_unit P y n = n (λ α β. tops_differ refl)
prod_test shown_void P y n = n (λ α β. tops_differ refl)
prod_test (shown_fun a b) P y n = n (λ α β. tops_differ refl)
prod_test (shown_prod a b) P y n = y _ _ refl a b
prod_test (shown_sum a b) P y n = n (λ α β. tops_differ refl)

pub sum_test : {T : List Entry} {x : Entry} {τ : Ty} → Shown T x τ → (P : Bool → Type 0)
    → ((α β : Ty) → τ ≡ sum α β → Reads T x.left α → Reads T x.right β → P true)
    → (((α β : Ty) → τ ≡ sum α β → ⊥) → P false) → P (has_form form.Sum x)
sum_test shown_nat P y n = n (λ α β. tops_differ refl)
sum_test shown_unit P y n = n (λ α β. tops_differ refl)
sum_test shown_void P y n = n (λ α β. tops_differ refl)
sum_test (shown_fun a b) P y n = n (λ α β. tops_differ refl)
sum_test (shown_prod a b) P y n = n (λ α β. tops_differ refl)
sum_test (shown_sum a b) P y n = y _ _ refl a b

reads_as : {T : List Entry} {n : ℕ} {σ τ : Ty} → σ ≡ τ → Reads T n σ → Reads T n τ
reads_as q r = record { within = r.within; is = r.is ∙ q }

-- the parts of an entry that reads as a function, and as a sum
pub fun_parts : {T : List Entry} {x : Entry} {α β : Ty} → Shown T x (fun α β) → Reads T x.left α × Reads T x.right β
fun_parts {T} {x} {α} {β} s =
    fun_test s (λ _. Reads T x.left α × Reads T x.right β)
    (λ γ δ q a b. let p : γ ≡ α = cc in let r : δ ≡ β = cc in (reads_as p a, reads_as r b)) (λ n. absurd (n α β refl))

pub sum_parts : {T : List Entry} {x : Entry} {α β : Ty} → Shown T x (sum α β) → Reads T x.left α × Reads T x.right β
sum_parts {T} {x} {α} {β} s =
    sum_test s (λ _. Reads T x.left α × Reads T x.right β)
    (λ γ δ q a b. let p : γ ≡ α = cc in let r : δ ≡ β = cc in (reads_as p a, reads_as r b)) (λ n. absurd (n α β refl))

-- whether a type is a function from a type to itself
pub step_test : {T : List Entry} {x : Entry} {k : ℕ} {σ τ : Ty} → LaidDown T → Shown T x σ → Reads T k τ → (P : Bool → Type 0)
    → (σ ≡ fun τ τ → P true) → ((σ ≡ fun τ τ → ⊥) → P false)
    → P (has_form form.Function x && (eqb x.left k && eqb x.right k))
step_test {x = x} {k = k} {σ = σ} {τ = τ} d s r P y n =
    fun_test s (λ t. P (t && (eqb x.left k && eqb x.right k)))
    (λ α β q a b. number_test d a r (λ t. P (t && eqb x.right k))
    (λ l. number_test d b r P (λ m. let z : σ ≡ fun τ τ = cc in y z) (λ m. n (λ p. let z : β ≡ τ = cc in m z)))
    (λ l. n (λ p. let z : α ≡ τ = cc in l z)))
    (λ m. n (m τ τ))

-- One more entry.

pub record Built (es T : List Entry) (τ : Ty) (n : ℕ) (U : List Entry) : Type 0 where
  pub table : Table es U
  pub longer : Longer T U
  pub reads : Reads U n τ
  pub joined : Joined T τ U

-- where an entry stands that occurs
index_there : (x : Entry) (T : List Entry) → occurs x T ≡ true
    → (index_of x T < length T) × (get_or T (index_of x T) empty ≡ x)
index_there x [] o = absurd (false≢true o)
index_there x (e ∷ T) o = go (same_entry x e) refl (index_there x T) o
  where
    go : (b : Bool) → same_entry x e ≡ b
        → (occurs x T ≡ true → (index_of x T < length T) × (get_or T (index_of x T) empty ≡ x)) → (b || occurs x T) ≡ true
        → (cond b 0 (suc (index_of x T)) < suc (length T)) × (get_or (e ∷ T) (cond b 0 (suc (index_of x T))) empty ≡ x)
    go true s ih o = (omega arith, sym (same_entry_is x e s))
    go false s ih o = (suc-le-suc (ih o).0, (ih o).1)

-- and the number of one that does not
index_absent : (x : Entry) (T : List Entry) → occurs x T ≡ false → index_of x T ≡ length T
index_absent x [] o = refl
index_absent x (e ∷ T) o = go (same_entry x e) (index_absent x T) o
  where
    go : (b : Bool) → (occurs x T ≡ false → index_of x T ≡ length T) → (b || occurs x T) ≡ false
        → cond b 0 (suc (index_of x T)) ≡ suc (length T)
    go true ih o = absurd (false≢true (sym o))
    go false ih o = ap suc (ih o)

-- an entry reads as its form over what its two numbers read as
entry_reads : (T : List Entry) (n : ℕ) (x : Entry) (α β : Ty) → LaidDown T → n < length T → get_or T n empty ≡ x
    → Reads T x.left α → Reads T x.right β → Reads T n (join x.form α β)
entry_reads T n x α β d h e a b = record {
  within = h;
  is = entries_join T d n h
      ∙ ap (λ (y : Entry). join y.form (reading T y.left) (reading T y.right)) e
      ∙ (λ k. join x.form (a.is k) (b.is k));
}

laid_joined : (T : List Entry) (x : Entry) → 6 ≤ length T → joins x.form ≡ true → x.left < length T → x.right < length T
    → occurs x T ≡ false → laid T x ≡ true
laid_joined T x h j l r o =
    cond-false _ _ _ (le-ltb (length T) 6 h)
    ∙ and_from _ _ j (and_from _ _ (and_from _ _ (lt-ltb _ _ l) (lt-ltb _ _ r)) (not_from_false _ o))

module _ {es T : List Entry} (x : Entry) (α β : Ty) (t : Table es T) (j : joins x.form ≡ true) (a : Reads T x.left α)
    (b : Reads T x.right β) where
  built_there : occurs x T ≡ true → Built es T (join x.form α β) (index_of x T) T
  built_there o =
      let i = index_there x T o in
      let r = entry_reads T (index_of x T) x α β t.laid_down i.0 i.1 a b in
      record { table = t; longer = longer_refl T; reads = r; joined = there (index_of x T) r.within r.is }

  built_added : occurs x T ≡ false → Built es T (join x.form α β) (index_of x T) (T ++ (x ∷ []))
  built_added o =
      let U = T ++ (x ∷ []) in
      let l : Longer T U = record { more = x ∷ []; same = refl } in
      let d : LaidDown U = laid_more T x t.laid_down (laid_joined T x t.given j a.within b.within o) in
      let h : length T < length U = omega (arith, length_push T x) in
      let r = entry_reads U (length T) x α β d h (get_or_push T x empty (length T) refl) (reads_on l a) (reads_on l b) in
      record {
        table = record { laid_down = d; given = omega (arith, t.given); from = longer_on t.from l };
        longer = l;
        reads = subst (λ (n : ℕ). Reads U n (join x.form α β)) (sym (index_absent x T o)) r;
        joined = added x (λ i k p. new U l d r i k p) r.is;
      }
    where
      new : (U : List Entry) → Longer T U → LaidDown U → Reads U (length T) (join x.form α β)
          → (i : ℕ) → i < length T → reading T i ≡ join x.form α β → ⊥
      new U l d r i k p =
          let s : Reads U i (join x.form α β) = reads_on l (record { within = k; is = p }) in
          let q = readings_apart U d i (length T) s.within r.within (s.is ∙ sym r.is) in
          omega arith

  -- the table with an entry in it that joins two of its types
  pub built : Built es T (join x.form α β) (index_of x T) (with_entry T x)
  built = go (occurs x T) refl
    where
      go : (c : Bool) → occurs x T ≡ c → Built es T (join x.form α β) (index_of x T) (cond c T (T ++ (x ∷ [])))
      go true o = built_there o
      go false o = built_added o
