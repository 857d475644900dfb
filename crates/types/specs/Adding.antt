-- Adding a type to a table.
--   index_of     the number of an entry: its place, or the table's length where it is missing
--   with_entry   the table with an entry in it: at its end, if it was missing
-- Assumes nothing.
use Rattle.std.specs.Prelude.{ℕ, suc, cond, List, [], ◌∷◌, ◌++◌}
use Rattle.calculus.specs.declared.entry.Entry.{Entry}
use Rattle.calculus.specs.Tables.{same_entry, occurs}

abbrev pub index_of : Entry → List Entry → ℕ
index_of k [] = 0
index_of k (e ∷ es) = cond (same_entry k e) 0 (suc (index_of k es))

abbrev pub with_entry : List Entry → Entry → List Entry
with_entry es k = cond (occurs k es) es (es ++ (k ∷ []))
