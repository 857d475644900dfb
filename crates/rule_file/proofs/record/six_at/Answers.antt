-- The chunk at a place is the six bytes there.
use Rattle.std.proofs.Common.{◌≡◌, ℕ, ◌*◌, ◌/◌, ◌<◌, ◌≤◌, List, length, take, drop, Bor, MatchOption, Some, None, Option, ◌∙◌, arith, subst, rules}
use Rattle.std.proofs.lemmas.Bool.Decides.{nat_tests}
use Rattle.std.specs.Simd.{first_chunks}
use Rattle.std.specs.Slice.{IsItemAt}
use Rattle.rule_file.proofs.Pieces.{chunk_at, length_chunked}
use Rattle.rule_file.proofs.record.six_at.Goals as goal

abbrev SixAt : List ℕ → Option (Bor (List ℕ)) → ℕ → Type 0
SixAt file r place = MatchOption r (length file / 6 ≤ place) (λ six. six.now ≡ take 6 (drop (6 * place) file))

read_at : (file : List ℕ) (place : ℕ) (r : Option (Bor (List ℕ))) → IsItemAt (first_chunks 6 (length file / 6) file) place r
    → SixAt file r place
read_at file place None at = grind (arith, nat_tests, length_chunked)
read_at file place (Some six) at =
    let within : place < length file / 6 = grind (arith, nat_tests, length_chunked) in
    at.1 ∙ chunk_at _ _ file six.now within

-- that the index looked up is the place is left to search: the code may compute it in another way
pub returns : goal.returns
returns c = record {
  bytes = subst (SixAt c.args.file.now c.get.result) (search (rules, arith))
      (read_at _ _ _ (rw c.as_chunks.ensures.front at c.get.ensures.lookup));
}
