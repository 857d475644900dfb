-- Numerals as nodes, and terms written one after another. Assumes nothing.
use Rattle.std.proofs.Common.{◌≡◌, ℕ, zero, suc, ◌+◌, ◌-◌, ◌<◌, ◌≤◌, List, [], ◌∷◌, ◌++◌, length, get_or, take, drop, set, replicate, sym, refl, ap, ◌∙◌, append_assoc, arith, length-append, length-drop, length-set, length-take, append-nil}
use lib.ListN.{length-replicate}
use borrow.Rule.Slice.PartMut.{put_mid}
use Rattle.std.proofs.lemmas.List.{take_at, set_at, drop-drop, drop_more, drop_all, take_all, length-take-le}
use Rattle.std.proofs.lemmas.Slice.{drop-append-drop}
use Rattle.calculus.specs.declared.kind.Kind.TheVariants.{Zero, Successor, Pair}
use Rattle.calculus.specs.declared.node.Node.{Node}
use Rattle.calculus.specs.Kinds.{node, blank}
use Rattle.calculus.specs.Syntax.{IR, PA, onto, flat, size, numeral}
use Rattle.calculus.proofs.Reading.{length_flat}
use Rattle.calculus.proofs.Progress.{size_numeral}

-- a numeral is successors and a zero
pub numeral_onto : (n : ℕ) (r : List Node) → onto (numeral n) r ≡ replicate n (node Successor 0) ++ (node Zero 0 ∷ r)
numeral_onto zero r = refl
numeral_onto (suc n) r = ap (λ l. node Successor 0 ∷ l) (numeral_onto n r)

pub flat_numeral : (n : ℕ) → flat (numeral n) ≡ replicate n (node Successor 0) ++ (node Zero 0 ∷ [])
flat_numeral n = numeral_onto n []

-- the written form of a numeral before a list
numeral_before : (n : ℕ) (r : List Node) → onto (numeral n) r ≡ flat (numeral n) ++ r
numeral_before n r =
    numeral_onto n r ∙ sym (append_assoc (replicate n (node Successor 0)) (node Zero 0 ∷ []) r)
    ∙ ap (λ l. l ++ r) (sym (flat_numeral n))

numeral_length : (n : ℕ) → length (flat (numeral n)) ≡ suc n
numeral_length n = length_flat (numeral n) ∙ size_numeral n

-- w stands at the front of b in place of the first k nodes of a; then v is written behind it
wrote_more : (w v a b c : List Node) (k j : ℕ) → b ≡ w ++ drop k a → length w ≡ k → c ≡ take k b ++ (v ++ drop (k + j) b)
    → c ≡ (w ++ v) ++ drop (k + j) a
wrote_more w v a b c k j e long f =
    let t : take k b ≡ w = ap (take k) e ∙ take_at w (drop k a) k long in
    let d : drop (k + j) b ≡ drop (k + j) a = ap (drop (k + j)) e ∙ drop-append-drop k a w (k + j) (omega arith) long in
    f ∙ ap (λ l. l ++ (v ++ drop (k + j) b)) t ∙ ap (λ l. w ++ (v ++ l)) d ∙ sym (append_assoc w v (drop (k + j) a))

pub number_size : (n : ℕ) → size (numeral n) ≡ n + 1
number_size n = size_numeral n ∙ omega arith

pub present_size : (n : ℕ) → size (IR 1 (numeral n)) ≡ n + 2
present_size n = omega (arith, number_size n)

pub pair_size : (m n : ℕ) → size (PA (numeral m) (numeral n)) ≡ m + n + 3
pair_size m n = omega (arith, number_size m, number_size n)

-- the successors of a numeral filled in, and then its zero set
pub numeral_put : (out part : List Node) (x z : Node) (n m : ℕ) → m ≡ n → n < length out
    → x ≡ node Successor 0 → z ≡ node Zero 0 → part ≡ replicate (length (take m out)) x
    → set (part ++ drop m out) m z ≡ flat (numeral n) ++ drop (n + 1) out
numeral_put out part x z n m e lt s t f =
    let rest = drop (n + 1) out in
    let wide : length (take m out) ≡ n = length-take-le m out (omega arith) ∙ e in
    let filled : part ≡ replicate n (node Successor 0) = f ∙ ap (λ k. replicate k x) wide ∙ ap (replicate n) s in
    let long : length part ≡ n = ap length filled ∙ length-replicate n (node Successor 0) in
    rw (e, t)
    (ap (λ l. set (part ++ l) n (node Zero 0)) (drop_more out n blank lt)
    ∙ set_at part (get_or out n blank) rest (node Zero 0) n long
    ∙ ap (λ l. l ++ (node Zero 0 ∷ rest)) filled ∙ sym (numeral_onto n rest) ∙ numeral_before n rest)

head_put : (out : List Node) (x : Node) → 0 < length out → set out 0 x ≡ (x ∷ []) ++ drop 1 out
head_put [] x h = absurd (omega arith)
head_put (y ∷ ys) x h = refl

pair_parts : (out one two : List Node) (m n k : ℕ) → k ≡ m → m + n + 3 ≤ length out
    → one ≡ take 1 (set out 0 (node Pair 0)) ++ (flat (numeral m) ++ drop (1 + (m + 1)) (set out 0 (node Pair 0)))
    → two ≡ take (k + 2) one ++ (flat (numeral n) ++ drop ((k + 2) + (n + 1)) one)
    → two ≡ flat (PA (numeral m) (numeral n)) ++ drop (m + n + 3) out
pair_parts out one two m n k same room e f =
    let front = node Pair 0 ∷ flat (numeral m) in
    let first = wrote_more (node Pair 0 ∷ []) (flat (numeral m)) out _ one 1 (m + 1) (head_put out (node Pair 0) (omega arith)) refl e in
    let at : 1 + (m + 1) ≡ k + 2 = omega arith in
    let long : length front ≡ k + 2 = omega (arith, numeral_length m) in
    let end : (k + 2) + (n + 1) ≡ m + n + 3 = omega arith in
    wrote_more front (flat (numeral n)) out one two (k + 2) (n + 1) (first ∙ ap (λ j. front ++ drop j out) at) long f
    ∙ ap (λ l. (node Pair 0 ∷ l) ++ drop ((k + 2) + (n + 1)) out) (sym (numeral_before m (flat (numeral n))))
    ∙ ap (λ j. flat (PA (numeral m) (numeral n)) ++ drop j out) end

-- what is written to the rest of a list from k on
rest_put : (b new v : List Node) (k j : ℕ) → k ≤ length b → new ≡ v ++ drop j (take (length b - k) (drop k b))
    → put_mid k (length b - k) b new ≡ take k b ++ (v ++ drop (k + j) b)
rest_put b new v k j h e =
    let long = length-drop k b in
    let whole : take (length b - k) (drop k b) ≡ drop k b = take_all (length b - k) (drop k b) (omega arith) in
    let none : drop (length b - k) (drop k b) ≡ [] = drop_all (length b - k) (drop k b) (omega arith) in
    ap (λ l. take k b ++ (new ++ l)) none ∙ ap (λ l. take k b ++ l) (append-nil new ∙ e ∙ ap (λ l. v ++ drop j l) whole)
    ∙ ap (λ l. take k b ++ (v ++ l)) (drop-drop j k b)

pub pair_put : (out head one both two : List Node) (m n k : ℕ) → k ≡ m → m + n + 3 ≤ length out
    → head ≡ set out 0 (node Pair 0) → one ≡ flat (numeral m) ++ drop (m + 1) (take (length head - 1) (drop 1 head))
    → both ≡ put_mid 1 (length head - 1) head one
    → two ≡ flat (numeral n) ++ drop (n + 1) (take (length both - (k + 2)) (drop (k + 2) both))
    → put_mid (k + 2) (length both - (k + 2)) both two ≡ flat (PA (numeral m) (numeral n)) ++ drop (m + n + 3) out
pair_put out head one both two m n k same room h e b f =
    let wide : length head ≡ length out = ap length h ∙ length-set _ _ _ in
    let first : both ≡ take 1 head ++ (flat (numeral m) ++ drop (1 + (m + 1)) head) =
    b ∙ rest_put head one (flat (numeral m)) 1 (m + 1) (omega arith) e in
    let long : length both ≡ length out =
    ap length first ∙ simp (length-append, length-take, length-drop) (omega (arith, wide, numeral_length m)) in
    pair_parts out both _ m n k same room (rw h at first) (rest_put both two (flat (numeral n)) (k + 2) (n + 1) (omega arith) f)
