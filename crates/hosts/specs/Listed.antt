-- What a listing means, by its versions and the day.
--   most_versions     the most versions of a listing
--   version_age       the days since a version was published, 0 to largest_number; absent without a version
--   version_gone      whether a version is withdrawn by a day; yes without a version
--   version_name      a version's line and patch; 0 and 0 without a version
--   listed_answers    what a listing answers to each question at a number
--   listed            the meaning of a listing
--   EmptyOnEveryDay   a listing without versions means the same on every day: the empty listing of the worked rules
-- Assumes nothing.
use Rattle.std.specs.Prelude.{◌≡◌, ℕ, ◌-◌, min, true, cond, not, ◌&&◌, List, [], length, Some, None, Option, ◌==◌, nat_le}
use Rattle.std.specs.List.{slice_get}
use Rattle.calculus.specs.declared.answer.Answer.{Answer}
use Rattle.calculus.specs.declared.answer.Answer.TheVariants.{Number, Flag, Maybe, Pair}
use Rattle.calculus.specs.Meanings.{Meaning, largest_number, largest_asked}
use Rattle.calculus.specs.Examples.{empty_listing}
use Rattle.hosts.specs.declared.version.Version.{Version}

abbrev pub most_versions : ℕ
most_versions = 200

abbrev pub version_age : ℕ → Option Version → Answer
version_age today None = Maybe None
version_age today (Some v) = Maybe (Some (min (today - v.published) largest_number))

-- withdrawn on a day that is neither 0, which is never, nor after today
abbrev pub version_gone : ℕ → Option Version → Answer
version_gone today None = Flag true
version_gone today (Some v) = Flag (not (v.withdrawn == 0) && nat_le v.withdrawn today)

abbrev pub version_name : Option Version → Answer
version_name None = Pair 0 0
version_name (Some v) = Pair v.line v.patch

abbrev pub listed_answers : List Version → ℕ → ℕ → ℕ → Option Answer
listed_answers vs today q n =
    cond (q == 0) (Some (Number (length vs)))
    (cond (q == 1) (Some (version_age today (slice_get vs n)))
    (cond (q == 2) (Some (version_gone today (slice_get vs n)))
    (cond (q == 3) (Some (version_name (slice_get vs n))) None)))

abbrev pub listed : List Version → ℕ → Meaning
listed vs today =
    record { profile = 0x4231; answer = λ q n. cond (nat_le n largest_asked) (listed_answers vs today q n) None }

abbrev pub EmptyOnEveryDay : Type 0
EmptyOnEveryDay = (today : ℕ) → listed [] today ≡ empty_listing
