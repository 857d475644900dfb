use Rattle.hosts.proofs.EmptyDays.{empty_days}
use Rattle.hosts.proofs.listing.Listing.empty.Goals as goal

pub returns : goal.returns
returns c = record { meaning = empty_days 0; every_day = empty_days }
