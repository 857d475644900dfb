use Rattle.calculus.proofs.laws.examples.Goals as goal
use Rattle.calculus.proofs.Examples.{worked}
use Rattle.calculus.proofs.EmptyListing.{empty_lawful}

pub returns : goal.returns
returns c = record { rules = worked; host = empty_lawful }
