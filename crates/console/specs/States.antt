-- The state of a script.
--   SameState   two states hold the same, whatever memory their tables have
-- Assumes nothing.
use Rattle.std.specs.Prelude.{◌≡◌}
use Rattle.console.specs.declared.session.Session.{Session}

pub record SameState (a b : Session) : Type 0 where
  pub file : b.file ≡ a.file
  pub nodes : b.nodes.items ≡ a.nodes.items
  pub types : b.types.items ≡ a.types.items
  pub scratch : b.scratch.items ≡ a.scratch.items
  pub bytes : b.bytes.items ≡ a.bytes.items
  pub rule : b.rule ≡ a.rule
  pub count : b.count ≡ a.count
  pub host : b.host ≡ a.host
