-- A table that is filled place by place with the nodes of a file, and with blanks past them. Assumes nothing.
use Rattle.std.proofs.Common.{◌≡◌, ℕ, zero, suc, ◌+◌, ◌-◌, ◌<◌, ◌≤◌, List, [], ◌∷◌, ◌++◌, map, length, get_or, take, set, replicate, Bor, MatchOption, Some, None, Option, sym, refl, ap, ◌∙◌, arith, length-append}
use lib.ListN.{length-map}
use Rattle.std.specs.Slice.{IsItemAt}
use Rattle.std.proofs.lemmas.List.{take_more, take_more_set, get_or-replicate, length-replicate}
use Rattle.std.proofs.lemmas.Bool.Decides.{nat_tests}
use Rattle.calculus.specs.declared.node.Node.{Node}
use Rattle.calculus.specs.Kinds.{blank}
use Rattle.rule_file.specs.Records.{node_of}
use Rattle.rule_file.specs.Loading.{filled}

module _ (k : ℕ) (d : Node) (e : List ℕ) where
  at_front : (rs : List (List ℕ)) (i : ℕ) → i < length rs → get_or (map node_of rs ++ replicate k blank) i d ≡ node_of (get_or rs i e)
  at_front [] i lt = absurd (omega arith)
  at_front (r ∷ rs) zero lt = refl
  at_front (r ∷ rs) (suc i) lt = at_front rs i (omega arith)

  past_them : (rs : List (List ℕ)) (i : ℕ) → length rs ≤ i → i < length rs + k → get_or (map node_of rs ++ replicate k blank) i d ≡ blank
  past_them [] i ge lt = get_or-replicate k i blank d (omega arith)
  past_them (r ∷ rs) zero ge lt = absurd (omega arith)
  past_them (r ∷ rs) (suc i) ge lt = past_them rs i (omega arith) (omega arith)

-- what is laid at a place, by the record there
laid_here : (rs : List (List ℕ)) (n i : ℕ) (v : Node) (r : Option (Bor (List ℕ))) → length rs ≤ n → i < n → IsItemAt rs i r
    → MatchOption r (v ≡ blank) (λ six. v ≡ node_of six.now) → v ≡ get_or (filled (map node_of rs) blank n) i v
laid_here rs n i v None fits lt item is =
    let past : length rs ≤ i = grind (arith, nat_tests) in
    is ∙ sym (past_them (n - length (map node_of rs)) v [] rs i past (omega (arith, length-map rs node_of)))
laid_here rs n i v (Some six) fits lt item is =
    let within : i < length rs = grind (arith, nat_tests) in
    is ∙ ap node_of item.1 ∙ sym (at_front (n - length (map node_of rs)) v six.now rs i within)

-- one place more
pub laid_more : (rs : List (List ℕ)) (ns : List Node) (n i : ℕ) (v : Node) (r : Option (Bor (List ℕ))) → length rs ≤ n → length ns ≡ n
    → i < n → IsItemAt rs i r → MatchOption r (v ≡ blank) (λ six. v ≡ node_of six.now)
    → take i ns ≡ take i (filled (map node_of rs) blank n) → take (i + 1) (set ns i v) ≡ take (i + 1) (filled (map node_of rs) blank n)
laid_more rs ns n i v r fits long lt item is inv =
    let all = filled (map node_of rs) blank n in
    let total : length all ≡ n = length-append (map node_of rs) (replicate (n - length (map node_of rs)) blank)
    ∙ omega (arith, length-map rs node_of, length-replicate (n - length (map node_of rs)) blank) in
    take_more_set ns i v (omega arith) ∙ ap (λ l. l ++ (v ∷ [])) inv
    ∙ ap (λ x. take i all ++ (x ∷ [])) (laid_here rs n i v r fits lt item is) ∙ sym (take_more all i v (omega arith))
