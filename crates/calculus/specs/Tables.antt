-- Type tables.
--   given_entries   the six entries with which every type table begins
--   same_entry      whether two entries are equal
--   occurs          whether an entry is in a list
--   laid            whether an entry may stand after these
--   LaidDown        a type table, or the beginning of one: the given six; each later entry joins two lower ones; no two equal
--   TableJudged     a type table, or the first entry at fault: the entries before it are laid down, and with it they are not
--   join            the type that a form makes of two types
--   tree            the type of an entry over the types of the entries before it
--   trees_after     the types of entries, behind those of the entries before them
--   trees           the types of a table's entries, in order
--   reading         the type that a type number stands for, by a table
--   given_types     what the given six stand for
-- Assumes nothing.
use Rattle.std.specs.Prelude.{◌≡◌, ℕ, suc, ◌<◌, ◌≤◌, Bool, true, false, cond, not, ◌&&◌, ◌||◌, List, [], ◌∷◌, ◌++◌, length, get_or, take, Some, None, Option, ◌==◌, ◌≢◌, nat_lt, slice_index_or}
use Rattle.calculus.specs.declared.entry.Entry.{Entry}
use Rattle.calculus.specs.declared.form.Form.{Form}
use Rattle.calculus.specs.declared.form.Form.TheVariants as form
use Rattle.calculus.specs.Forms.{form_number, joins, entry, empty}
use Rattle.calculus.specs.Syntax.{Ty, nat, unit, void, fun, prod, sum}

abbrev pub given_entries : List Entry
given_entries =
    entry form.Nat 0 0 ∷ (entry form.Unit 0 0 ∷ (entry form.Void 0 0
    ∷ (entry form.Sum 1 1 ∷ (entry form.Sum 1 0 ∷ (entry form.Product 0 0 ∷ [])))))

abbrev pub same_entry : Entry → Entry → Bool
same_entry k e =
    (form_number e.form == form_number k.form) && (e.left == k.left && e.right == k.right)

abbrev pub occurs : Entry → List Entry → Bool
occurs k [] = false
occurs k (e ∷ es) = same_entry k e || occurs k es

abbrev pub laid : List Entry → Entry → Bool
laid earlier e =
    cond (nat_lt (length earlier) 6) (same_entry (slice_index_or given_entries (length earlier) empty) e)
    (joins e.form && ((nat_lt e.left (length earlier) && nat_lt e.right (length earlier)) && not (occurs e earlier)))

pub record LaidDown (es : List Entry) : Type 0 where
  pub begins : (i : ℕ) → i < 6 → i < length es → slice_index_or es i empty ≡ slice_index_or given_entries i empty
  pub joined : (i : ℕ) → 6 ≤ i → i < length es
      → (joins (get_or es i empty).form ≡ true) × ((get_or es i empty).left < i) × ((get_or es i empty).right < i)
  pub apart : (i j : ℕ) → i < j → j < length es → slice_index_or es i empty ≢ slice_index_or es j empty

abbrev pub TableJudged : List Entry → Option ℕ → Type 0
TableJudged es None = LaidDown es
TableJudged es (Some k) = (k < length es) × LaidDown (take k es) × (LaidDown (take (suc k) es) → ⊥)

-- A blank stands in no table that is laid down; it reads as nat.
abbrev pub join : Form → Ty → Ty → Ty
join form.Blank α β = nat
join form.Nat α β = nat
join form.Unit α β = unit
join form.Void α β = void
join form.Function α β = fun α β
join form.Product α β = prod α β
join form.Sum α β = sum α β

-- A number that is not lower, which no entry of a table that is laid down has, reads as nat.
abbrev pub tree : List Ty → Entry → Ty
tree earlier e = join e.form (slice_index_or earlier e.left nat) (slice_index_or earlier e.right nat)

-- Built from the front: each entry joins types that are already there.
abbrev pub trees_after : List Ty → List Entry → List Ty
trees_after earlier [] = earlier
trees_after earlier (e ∷ es) = trees_after (earlier ++ (tree earlier e ∷ [])) es

abbrev pub trees : List Entry → List Ty
trees es = trees_after [] es

-- A number past the end reads as nat.
abbrev pub reading : List Entry → ℕ → Ty
reading es n = slice_index_or (trees es) n nat

abbrev pub given_types : List Ty
given_types = nat ∷ (unit ∷ (void ∷ (sum unit unit ∷ (sum unit nat ∷ (prod nat nat ∷ [])))))
