use Rattle.calculus.proofs.laws.flat_lists.Goals as goal
use Rattle.calculus.proofs.Reading.{read_once, length_flat}

pub returns : goal.returns
returns c = record { once = read_once; length = length_flat }
