-- How many nodes and types a rule may have.
--   CountsFit   1 to 4,096 nodes, and a count of types from 6 to 1,030 and within the type table
-- Assumes nothing.
use Rattle.std.specs.Prelude.{ℕ, ◌≤◌}

-- by the number of nodes, the length of the type table, and the count
pub record CountsFit (nodes types count : ℕ) : Type 0 where
  pub some_nodes : 1 ≤ nodes
  pub few_nodes : nodes ≤ 4096
  pub given : 6 ≤ count
  pub few_types : count ≤ 1030
  pub within : count ≤ types
