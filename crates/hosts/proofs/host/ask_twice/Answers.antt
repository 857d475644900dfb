use Rattle.std.proofs.Common.{inr, rules}
use Rattle.hosts.proofs.host.ask_twice.Goals as goal

pub returns : goal.returns
returns g c =
    let law = (g.H.Host.lawful c.args.host.now).missing c.args.question c.args.number in
    record { same = search rules; value = search rules; missing = λ h. let none = law.1 (inr h) in search rules; kept = search rules }
