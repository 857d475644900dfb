-- The worked run meets every premise of the safety theorem.
use Rattle.std.proofs.Common.{◌≡◌, ℕ, zero, suc, ◌<◌, ◌≤◌, true, None, refl, inl, arith, lit<, lit≤}
use Rattle.calculus.specs.declared.answer.Answer.TheVariants as answer
use Rattle.calculus.specs.Syntax.{ZE, SU, val_z, val_s, val_null, scoped_z, scoped_s, scoped_case, scoped_query, scoped_inr, scoped_null}
use Rattle.calculus.specs.Tables.{given_entries}
use Rattle.calculus.specs.declared.answer.Shape.TheVariants as shape
use Rattle.calculus.specs.Meanings.{Lawful, digit, question_shape}
use Rattle.calculus.specs.Typing.{typing_z, typing_s, typing_case, typing_query}
use Rattle.calculus.specs.Steps.{Step, eval_case, eval_caser, eval_answer}
use Rattle.calculus.specs.Accepted.{Accepted}
use Rattle.calculus.specs.Examples.{empty_listing}
use Rattle.calculus.proofs.EmptyListing.{question_past, empty_lawful}
use Rattle.calculus.proofs.Walks.{stands, walks, stopped_value, stopped_spent}
use Rattle.types.proofs.Laid.{laid_given}
use Rattle.evaluator.specs.OneCall.{Holding, Started, no_fuel, no_profile}
use Rattle.evaluator.specs.Lists
use Rattle.evaluator.specs.Lists.{Calls, call}
use Rattle.evaluator.specs.Worked.{rule, asked, silent, first, middle, last, calls, Worked}
use Rattle.evaluator.proofs.Whole.{safe}

silent_digits : (k : ℕ) → k < 8 → digit 0 k ≤ 4
silent_digits zero h = lit≤ tt
silent_digits (suc zero) h = lit≤ tt
silent_digits (suc (suc zero)) h = lit≤ tt
silent_digits (suc (suc (suc zero))) h = lit≤ tt
silent_digits (suc (suc (suc (suc zero)))) h = lit≤ tt
silent_digits (suc (suc (suc (suc (suc zero))))) h = lit≤ tt
silent_digits (suc (suc (suc (suc (suc (suc zero)))))) h = lit≤ tt
silent_digits (suc (suc (suc (suc (suc (suc (suc zero))))))) h = lit≤ tt
silent_digits (suc (suc (suc (suc (suc (suc (suc (suc k)))))))) h = absurd (omega arith)

silent_shapes : (q : ℕ) → question_shape 0 q ≡ None
silent_shapes zero = refl
silent_shapes (suc zero) = refl
silent_shapes (suc (suc zero)) = refl
silent_shapes (suc (suc (suc zero))) = refl
silent_shapes (suc (suc (suc (suc zero)))) = refl
silent_shapes (suc (suc (suc (suc (suc zero))))) = refl
silent_shapes (suc (suc (suc (suc (suc (suc zero)))))) = refl
silent_shapes (suc (suc (suc (suc (suc (suc (suc zero))))))) = refl
silent_shapes (suc (suc (suc (suc (suc (suc (suc (suc q)))))))) = question_past 0 (suc (suc (suc (suc (suc (suc (suc (suc q)))))))) (omega arith)

silent_lawful : Lawful silent
silent_lawful = record {
  profile_fits = lit< tt;
  digits_low = silent_digits;
  missing = λ q n. (λ p. inl (silent_shapes q), λ p. refl);
  shaped = λ q n r e. cc;
  bounded = λ q n r e. cc;
}

rule_accepted : Accepted rule 0 0x4231
rule_accepted = ∣ (
  given_entries,
  record {
    table = laid_given;
    given = lit≤ tt;
    named = ((tt, tt, tt));
    within = lit< tt;
    typed = typing_case (typing_query {s = shape.Flag} refl typing_z) typing_z (typing_s typing_z);
  },
) ∣₁

step_one : Step empty_listing rule asked
step_one = eval_case (eval_answer {n = 0} {r = answer.Flag true} refl refl)

step_two : Step empty_listing asked (SU ZE)
step_two = eval_caser val_null

holds_first : Holding rule 0 0 0x4231 8 first
holds_first = record { note = _; run = refl; length_is = refl; count_is = refl; steps_are = refl; type_is = refl; profile_is = refl; fits = lit≤ tt; front = refl; back = refl }

holds_middle : Holding asked 1 0 0x4231 8 middle
holds_middle = record { note = _; run = refl; length_is = refl; count_is = refl; steps_are = refl; type_is = refl; profile_is = refl; fits = lit≤ tt; front = refl; back = refl }

holds_last : Holding (SU ZE) 2 0 0x4231 8 last
holds_last = record { note = _; run = refl; length_is = refl; count_is = refl; steps_are = refl; type_is = refl; profile_is = refl; fits = lit≤ tt; front = refl; back = refl }

rule_started : Started rule 0 0x4231 8 first
rule_started = record { bounded = lit≤ tt; narrow = (tt, tt, tt); holding = holds_first }

all_calls : Calls first calls last
all_calls =
    call (
      empty_lawful,
      record {
        note = _;
        tables = ((refl, refl), refl);
        fuel_left = lit≤ tt;
        profile_is = refl;
        from = rule;
        reads = (refl, (scoped_case (scoped_query scoped_z) scoped_z (scoped_s scoped_z), (refl, (refl, (refl, (refl, (refl, (refl, tt))))))));
        to = asked;
        stopped = stopped_spent empty_listing 8 (walks step_one (lit≤ tt) stands) refl step_two;
        holding = holds_middle;
        total = refl;
        records = refl;
      },
    )
    (call ((_, (refl, refl), refl), refl)
    (call (empty_lawful, ((_, refl, no_fuel ((refl, refl), refl) (λ h. omega (arith, h))), refl))
    (call (silent_lawful, ((_, refl, no_profile ((refl, refl), refl) (lit≤ tt) (λ h. omega (arith, h))), refl))
    (call (
      empty_lawful,
      record {
        note = _;
        tables = ((refl, refl), refl);
        fuel_left = lit≤ tt;
        profile_is = refl;
        from = asked;
        reads = (refl, (scoped_case (scoped_inr scoped_null) scoped_z (scoped_s scoped_z), (refl, (refl, (refl, (refl, (refl, (refl, tt))))))));
        to = SU ZE;
        stopped = stopped_value empty_listing 8 (walks step_two (lit≤ tt) stands) (lit≤ tt) (val_s val_z);
        holding = holds_last;
        total = refl;
        records = refl;
      },
    )
    Lists.none))))

pub worked : Worked
worked = record {
  lawful = empty_lawful;
  accepted = rule_accepted;
  started = rule_started;
  made = all_calls;
  safe = safe rule 0 0x4231 8 first rule_accepted rule_started last calls all_calls;
}
