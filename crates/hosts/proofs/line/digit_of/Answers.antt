use Rattle.hosts.proofs.Digits.{shifted_digit}
use Rattle.hosts.proofs.line.digit_of.Goals as goal

pub returns-then-question-lt8 : goal.returns-then-question-lt8
returns-then-question-lt8 c = record { value = shifted_digit c.args.profile c.args.question c.if-question-lt8.true }
