use Rattle.std.proofs.Common.{sym, ap, ◌∙◌, rules}
use Rattle.std.specs.Result.{is_ok}
use Rattle.hosts.proofs.FirstLines.{legal_made}
use Rattle.hosts.proofs.OneFault.{exact_fault}
use Rattle.hosts.proofs.sheet.Sheet.make.Goals as goal

pub invariant_of-self : goal.invariant_of-self
invariant_of-self c =
    let ok = sym c.map_err.ensures.variant ∙ ap is_ok c.in_ok-map_err.was in
    record { fits = search rules; legal = ∣ legal_made _ _ _ ok c.sheet_fault.ensures.first ∣₁ }

pub returns-in_err-map_err-clause-exact : goal.returns-in_err-map_err-clause-exact
returns-in_err-map_err-clause-exact c = exact_fault c.args.profile c.args.lines.now

pub returns-clause-exact : goal.returns-clause-exact
returns-clause-exact c = exact_fault c.args.profile c.args.lines.now
