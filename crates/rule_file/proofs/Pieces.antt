-- Lists made of pieces of six: written one after the other, and cut again. Assumes nothing.
use Rattle.std.proofs.Common.{◌≡◌, ℕ, zero, suc, ◌+◌, ◌-◌, ◌*◌, ◌<◌, ◌≤◌, List, [], ◌∷◌, ◌++◌, map, length, get_or, take, drop, sym, refl, ap, ◌∙◌, suc-add, zero-add, arith, length-append, take-append-drop, append-nil}
use borrow.Rule.Slice.PartMut.{put_mid}
use Rattle.std.specs.List.{flat_map}
use Rattle.std.specs.Simd.{first_chunks}
use Rattle.std.proofs.lemmas.List.{append_assoc, take_more, take_at, drop_at, drop_all, take_all, drop-drop, length-take-le, length-drop, get_or-drop, flat_map_more}
use Rattle.rule_file.specs.Files.{Bytes}

-- a list that begins with p and is otherwise xs, once m is written behind p
pub put_next : {X : Type 0} (xs p m was part : List X) (n k : ℕ) → length p ≡ n → was ≡ p ++ drop n xs
    → part ≡ m ++ drop k (take (length was - n) (drop n was)) → put_mid n (length was - n) was part ≡ (p ++ m) ++ drop (n + k) xs
put_next xs p m was part n k l is wrote =
    let front : take n was ≡ p = ap (take n) is ∙ take_at p (drop n xs) n l in
    let past : take (length was - n) (drop n was) ≡ drop n xs =
    take_all (length was - n) (drop n was) (simp length-drop (omega arith)) ∙ ap (drop n) is ∙ drop_at p (drop n xs) n l in
    let none : drop (length was - n) (drop n was) ≡ [] = drop_all (length was - n) (drop n was) (simp length-drop (omega arith)) in
    ap (λ l. take n was ++ (part ++ l)) none ∙ ap (λ l. take n was ++ l) (append-nil part) ∙ ap (λ l. l ++ part) front
    ∙ ap (λ l. p ++ l) (wrote ∙ ap (λ l. m ++ drop k l) past ∙ ap (λ l. m ++ l) (drop-drop k n xs))
    ∙ sym (append_assoc p m (drop (n + k) xs))

module _ {X : Type 0} (f : X → List ℕ) (six : (x : X) → length (f x) ≡ 6) where
  pub length_joined : (xs : List X) → length (flat_map f xs) ≡ 6 * length xs
  length_joined [] = refl
  length_joined (x ∷ xs) = length-append (f x) (flat_map f xs) ∙ omega (arith, six x, length_joined xs)

  -- one piece more
  pub put_piece : (rs : List X) (i : ℕ) (x : X) (was bytes : List ℕ) (k : ℕ) → i < length rs → x ≡ get_or rs i x → k ≡ 6
      → bytes ≡ flat_map f (take i rs) ++ drop (6 * i) was
      → put_mid (6 * i) k bytes (f x) ≡ flat_map f (take (i + 1) rs) ++ drop (6 * (i + 1)) was
  put_piece rs i x was bytes k lt is e inv =
      let few : length (take i rs) ≡ i = length-take-le i rs (omega arith) in
      let front : length (flat_map f (take i rs)) ≡ 6 * i = length_joined (take i rs) ∙ ap (λ n. 6 * n) few in
      let t : take (6 * i) bytes ≡ flat_map f (take i rs) = ap (take (6 * i)) inv ∙ take_at _ _ _ front in
      let d : drop k (drop (6 * i) bytes) ≡ drop (6 * (i + 1)) was =
      ap (λ l. drop k (drop (6 * i) l)) inv ∙ ap (drop k) (drop_at _ _ _ front) ∙ drop-drop k (6 * i) was
      ∙ (let n : 6 * i + k ≡ 6 * (i + 1) = omega arith in ap (λ m. drop m was) n) in
      let j : flat_map f (take i rs) ++ f x ≡ flat_map f (take (i + 1) rs) =
      flat_map_more f [] (take i rs) x ∙ ap (flat_map f) (ap (λ y. take i rs ++ (y ∷ [])) is ∙ sym (take_more rs i x lt)) in
      ap (λ a. a ++ (f x ++ drop k (drop (6 * i) bytes))) t ∙ ap (λ a. flat_map f (take i rs) ++ (f x ++ a)) d
      ∙ sym (append_assoc (flat_map f (take i rs)) (f x) (drop (6 * (i + 1)) was))
      ∙ ap (λ a. a ++ drop (6 * (i + 1)) was) j

-- Lists cut into pieces of six.

abbrev pub itself : List ℕ → List ℕ
itself l = l

pub cut_join : (k : ℕ) (l : List ℕ) → length l ≡ 6 * k → flat_map itself (first_chunks 6 k l) ≡ l
cut_join zero [] e = refl
cut_join zero (x ∷ l) e = absurd (omega arith)
cut_join (suc k) l e =
    ap (λ m. take 6 l ++ m) (cut_join k (drop 6 l) (simp length-drop (omega arith))) ∙ take-append-drop 6 l

-- each piece has six bytes
abbrev pub Sixes : List (List ℕ) → Type 0
Sixes [] = Unit {0}
Sixes (r ∷ rs) = (length r ≡ 6) × Bytes r × Sixes rs

pub bytes_drop : (n : ℕ) (l : List ℕ) → Bytes l → Bytes (drop n l)
bytes_drop n l b i = simp get_or-drop (b (n + i))

pub bytes_take : (n : ℕ) (l : List ℕ) → Bytes l → Bytes (take n l)
bytes_take zero l b i = omega arith
bytes_take (suc n) [] b i = omega arith
bytes_take (suc n) (x ∷ l) b zero = b zero
bytes_take (suc n) (x ∷ l) b (suc i) = bytes_take n l (λ j. b (suc j)) i

pub cut_sixes : (k : ℕ) (l : List ℕ) → 6 * k ≤ length l → Bytes l → Sixes (first_chunks 6 k l)
cut_sixes zero l h b = tt
cut_sixes (suc k) l h b = (
  length-take-le 6 l (omega arith),
  bytes_take 6 l b,
  cut_sixes k (drop 6 l) (simp length-drop (omega arith)) (bytes_drop 6 l b),
)

pub sixes_drop : (n : ℕ) (rs : List (List ℕ)) → Sixes rs → Sixes (drop n rs)
sixes_drop zero rs s = s
sixes_drop (suc n) [] s = tt
sixes_drop (suc n) (r ∷ rs) s = sixes_drop n rs s.2

pub sixes_take : (n : ℕ) (rs : List (List ℕ)) → Sixes rs → Sixes (take n rs)
sixes_take zero rs s = tt
sixes_take (suc n) [] s = tt
sixes_take (suc n) (r ∷ rs) s = (s.0, s.1, sixes_take n rs s.2)

pub cut_pieces : {X : Type 0} (f : X → List ℕ) (six : (x : X) → length (f x) ≡ 6) (xs : List X) (k : ℕ) (rest : List ℕ)
    → first_chunks 6 (length xs + k) (flat_map f xs ++ rest) ≡ map f xs ++ first_chunks 6 k rest
cut_pieces f six [] k rest = ap (λ n. first_chunks 6 n rest) (zero-add k)
cut_pieces f six (x ∷ xs) k rest =
    ap (λ n. first_chunks 6 n ((f x ++ flat_map f xs) ++ rest)) (suc-add (length xs) k)
    ∙ ap (λ l. take 6 l ∷ first_chunks 6 (length xs + k) (drop 6 l)) (append_assoc (f x) (flat_map f xs) rest)
    ∙ ap (λ l. l ∷ first_chunks 6 (length xs + k) (drop 6 (f x ++ (flat_map f xs ++ rest)))) (take_at (f x) _ 6 (six x))
    ∙ ap (λ l. f x ∷ first_chunks 6 (length xs + k) l) (drop_at (f x) _ 6 (six x))
    ∙ ap (λ l. f x ∷ l) (cut_pieces f six xs k rest)

-- the chunk at a place
pub chunk_at : (k p : ℕ) (l d : List ℕ) → p < k → get_or (first_chunks 6 k l) p d ≡ take 6 (drop (6 * p) l)
chunk_at zero p l d lt = absurd (omega arith)
chunk_at (suc k) zero l d lt = refl
chunk_at (suc k) (suc p) l d lt =
    chunk_at k p (drop 6 l) d (omega arith) ∙ ap (take 6) (drop-drop (6 * p) 6 l)
    ∙ (let n : 6 + 6 * p ≡ 6 * suc p = omega arith in ap (λ m. take 6 (drop m l)) n)

pub length_chunked : (k : ℕ) (l : List ℕ) → length (first_chunks 6 k l) ≡ k
length_chunked zero l = refl
length_chunked (suc k) l = ap suc (length_chunked k (drop 6 l))
