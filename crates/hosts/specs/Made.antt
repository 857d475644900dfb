-- How making a host refuses.
--   in_host   the refusal of a question in the layer of hosts
-- Assumes nothing.
use Rattle.refusals.specs.declared.Layer.TheVariants.{Host}
use Rattle.refusals.specs.declared.Question.{Question}
use Rattle.refusals.specs.declared.Refusal.{Refusal}

abbrev pub in_host : Question → Refusal
in_host q = record { layer = Host; question = q }
