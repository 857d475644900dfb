use Rattle.calculus.proofs.laws.type_tables.Goals as goal
use Rattle.calculus.proofs.Readings.{readings_kept, given_readings, entries_join, answers_read}
use Rattle.calculus.proofs.ReadingsApart.{readings_apart}

pub returns : goal.returns
returns c = record {
  apart = readings_apart;
  kept = readings_kept;
  given = given_readings;
  joined = entries_join;
  answers = answers_read;
}
