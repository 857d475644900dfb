-- A listing without versions means the same on every day. Assumes nothing.
use Rattle.std.proofs.Common.{◌≡◌, ℕ, zero, suc, cond, leb, [], None, Option, refl, ap}
use mathlib.Core.Path.{fun_ext}
use Rattle.calculus.specs.declared.answer.Answer.{Answer}
use Rattle.calculus.specs.Meanings.{Meaning, largest_asked}
use Rattle.calculus.specs.Examples.{empty_answers}
use Rattle.hosts.specs.ListedLaw.{listed_four}
use Rattle.hosts.specs.Listed.{listed_answers, EmptyOnEveryDay}

same_answers : (today q n : ℕ) → listed_answers [] today q n ≡ empty_answers q
same_answers today zero n = refl
same_answers today (suc zero) n = refl
same_answers today (suc (suc zero)) n = refl
same_answers today (suc (suc (suc zero))) n = refl
same_answers today (suc (suc (suc (suc q)))) n = listed_four [] today q n

pub empty_days : EmptyOnEveryDay
empty_days today =
    let means : (ℕ → ℕ → Option Answer) → Meaning = λ f. record { profile = 0x4231; answer = f } in
    ap means
    (fun_ext λ q. fun_ext λ n. ap (λ o. cond (leb n largest_asked) o None) (same_answers today q n))
