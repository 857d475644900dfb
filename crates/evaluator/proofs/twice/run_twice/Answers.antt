use Rattle.std.proofs.Common.{List, [], ◌∷◌, refl, subst}
use Rattle.calculus.specs.Meanings.{Meaning}
use Rattle.evaluator.specs.OneCall.{State}
use Rattle.evaluator.specs.Lists.{Call, run_call, Calls, none, call}
use Rattle.evaluator.specs.Safety.{Quiet}
use Rattle.evaluator.proofs.Slices.{closed_run}
use Rattle.evaluator.proofs.twice.run_twice.Goals as goal

pub returns : goal.returns
returns g c =
    let m = g.H.Host.meaning c.args.host.now in
    let next = c.run.new.host in
    let fuel = c.args.fuel in
    let a = c.args.acceptance.now in
    let before : State = record { run = c.start.result.0; front = c.start.new.front; back = c.start.new.back } in
    let middle : State = record { run = c.run.new.run; front = c.run.new.front; back = c.run.new.back } in
    let after : State = record { run = c.run-second.new.run; front = c.run-second.new.front; back = c.run-second.new.back } in
    let cs : List Call = run_call m fuel c.run.result ∷ (run_call (g.H.Host.meaning next) fuel c.run-second.result ∷ []) in
    let made : Calls before cs after =
    call {s' = middle} (g.H.Host.lawful c.args.host.now, c.run.ensures.call)
    (call (g.H.Host.lawful next, c.run-second.ensures.call) none) in
    record {
      quiet = λ rule p fits.
          subst (λ (x : Meaning). Quiet (run_call x fuel c.run-second.result)) c.run.ensures.kept
          (c.start.ensures.safe rule p fits after cs made).quiet.1.0;
      closed = λ rule p fits.
          closed_run m (c.start.ensures.safe rule p fits after cs made) (refl, (c.run.ensures.kept, tt)) c.close.result c.close.ensures.call;
    }
