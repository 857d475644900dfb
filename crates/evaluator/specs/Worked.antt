-- One run by hand: CA QU2 ZE ZE SU ZE over a listing without versions, in tables of 8.
--   rule, asked        the rule, and what it becomes in one step
--   silent             the meaning of a host without questions
--   state              a run of the rule with tables of 8 that holds a term
--   first, middle, last   its three states
--   calls              one step, a look, two refusals, the other step
--   Worked             the premises of the safety theorem can be met, and what follows
-- Assumes nothing.
use Rattle.std.specs.Prelude.{ℕ, ◌≤◌, List, [], ◌∷◌, Some, None, Ok, Err}
use Rattle.std.proofs.Common.{lit≤}
use Rattle.calculus.specs.declared.stop.StopCause.TheVariants as cause
use Rattle.calculus.specs.Syntax.{Term, ZE, SU, TR, IR, CA, QU, onto, flat}
use Rattle.calculus.specs.Meanings.{Meaning, Lawful}
use Rattle.calculus.specs.Accepted.{Accepted}
use Rattle.calculus.specs.Examples.{empty_listing}
use Rattle.refusals.specs.declared.Question.TheVariants as question
use Rattle.evaluator.specs.OneCall.{in_run, blanks, State, Started}
use Rattle.evaluator.specs.Lists.{Call, run_call, look_call, Calls}
use Rattle.evaluator.specs.Safety.{Safe}

abbrev pub rule : Term
rule = CA (QU 2 ZE) ZE (SU ZE)

abbrev pub asked : Term
asked = CA (IR 1 TR) ZE (SU ZE)

abbrev pub silent : Meaning
silent = record { profile = 0; answer = λ q n. None }

-- `state e count steps left`: after so many steps, at a term of `count` records, with `left` blanks behind it
abbrev pub state : (e : Term) (count steps left : ℕ) → count ≤ 8 → steps ≤ 1000000 → State
state e count steps left c s = record {
  run = record {
    held = Some (record {
      length = 8;
      count = count;
      steps = steps;
      type_number = 0;
      profile = 0x4231;
      within = c;
      bounded = lit≤ tt;
      allowed = s;
    });
  };
  front = onto e (blanks left);
  back = blanks 8;
}

abbrev pub first : State
first = state rule 6 0 2 (lit≤ tt) (lit≤ tt)

abbrev pub middle : State
middle = state asked 6 1 2 (lit≤ tt) (lit≤ tt)

abbrev pub last : State
last = state (SU ZE) 2 2 6 (lit≤ tt) (lit≤ tt)

abbrev pub calls : List Call
calls =
    run_call empty_listing 1 (Ok (record { cause = cause.Spent; made = 1; total = 1; records = 6 }))
    ∷ (look_call (Ok (flat asked))
    ∷ (run_call empty_listing 1000000 (Err (in_run question.FuelLeft))
    ∷ (run_call silent 9 (Err (in_run question.ProfileAccepted))
    ∷ (run_call empty_listing 9 (Ok (record { cause = cause.Value; made = 1; total = 2; records = 2 }))
    ∷ []))))

pub record Worked : Type 0 where
  pub lawful : Lawful empty_listing
  pub accepted : Accepted rule 0 0x4231
  pub started : Started rule 0 0x4231 8 first
  pub made : Calls first calls last
  pub safe : Safe rule 0 0x4231 8 calls last
