-- Forms of types.
--   form_number      the number of a form: 0 for a blank, and 1 to 6
--   form_mark        the two letters of a form
--   form_of_mark     the form with a mark that a file may have, or a blank
--   FormMarksAgree   what ties the last two together
--   joins            whether a form joins two types
--   entry, empty     entries of a type table
-- Assumes nothing.
use Rattle.std.specs.Prelude.{◌≡◌, ℕ, Bool, true, false, cond, List, [], ◌∷◌, ◌≢◌}
use Rattle.calculus.specs.declared.form.Form.{Form}
use Rattle.calculus.specs.declared.form.Form.TheVariants as form
use Rattle.calculus.specs.declared.entry.Entry.{Entry}
use Rattle.calculus.specs.Kinds.{is_mark}

abbrev pub form_number : Form → ℕ
form_number form.Blank = 0
form_number form.Nat = 1
form_number form.Unit = 2
form_number form.Void = 3
form_number form.Function = 4
form_number form.Product = 5
form_number form.Sum = 6

-- TN is 84 78, and so on; a blank's is two hyphens
abbrev pub form_mark : Form → List ℕ
form_mark form.Blank = 45 ∷ (45 ∷ [])
form_mark form.Nat = 84 ∷ (78 ∷ [])
form_mark form.Unit = 84 ∷ (85 ∷ [])
form_mark form.Void = 84 ∷ (86 ∷ [])
form_mark form.Function = 84 ∷ (70 ∷ [])
form_mark form.Product = 84 ∷ (80 ∷ [])
form_mark form.Sum = 84 ∷ (83 ∷ [])

abbrev pub joins : Form → Bool
joins form.Blank = false
joins form.Nat = false
joins form.Unit = false
joins form.Void = false
joins form.Function = true
joins form.Product = true
joins form.Sum = true

abbrev pub form_of_mark : ℕ → ℕ → Form
form_of_mark a b =
    cond (is_mark 84 70 a b) form.Function
    (cond (is_mark 84 80 a b) form.Product (cond (is_mark 84 83 a b) form.Sum form.Blank))

-- The form f is read from the mark a b: one that joins has just this mark, and a blank says that none that joins has it.
abbrev pub FormMarksAgree : ℕ → ℕ → Form → Type 0
FormMarksAgree a b f =
    ((f ≢ form.Blank) → (joins f ≡ true) × (form_mark f ≡ a ∷ (b ∷ [])))
    × ((g : Form) → joins g ≡ true → form_mark g ≡ a ∷ (b ∷ []) → g ≡ f)

abbrev pub entry : Form → ℕ → ℕ → Entry
entry f l r = record { form = f; left = l; right = r; plain = tt }

abbrev pub empty : Entry
empty = entry form.Blank 0 0
