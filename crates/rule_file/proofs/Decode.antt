-- Records and what they say: each is read back from its bytes, and its bytes from what it says. Assumes nothing.
use Rattle.std.proofs.Common.{◌≡◌, ℕ, ◌+◌, ◌*◌, ◌/◌, ◌%◌, ◌<◌, ◌≤◌, Bool, true, false, cond, List, [], ◌∷◌, ◌++◌, length, get_or, sym, refl, ap, ◌∙◌, arith}
use Rattle.std.proofs.lemmas.Bool.{true≢false, ltb-true, eqb-true}
use Rattle.std.proofs.lemmas.Bool.Decides.{nat_tests}
use Rattle.calculus.specs.declared.entry.Entry.{Entry}
use Rattle.calculus.specs.declared.form.Form.{Form}
use Rattle.calculus.specs.declared.form.Form.TheVariants as form
use Rattle.calculus.specs.declared.kind.Kind.{Kind}
use Rattle.calculus.specs.declared.kind.Kind.TheVariants.{Blank, Variable, Zero, Successor, Rec, Lambda, Apply, Triv, Pair, Fst, Snd, Abort, Inl, Inr, Case, Query}
use Rattle.calculus.specs.declared.node.Node.{Node}
use Rattle.calculus.specs.Kinds.{is_mark, kind_mark, kind_of_mark, node}
use Rattle.calculus.specs.Forms.{joins, form_mark, form_of_mark, entry}
use Rattle.terms.specs.Ranges.{number_in_range}
use Rattle.rule_file.specs.Files.{low_high, head_bytes, entry_bytes, node_bytes, Bytes}
use Rattle.rule_file.specs.Records.{Sort, head, type, node_record, unreadable, present, sort_of_mark, sort_by_mark, is_head, is_type, is_node, first_number_lem, second_number_lem, form_in, kind_in, entry_of, node_of}

-- Numbers.

pub number_low_high : (n : ℕ) → n < 65536 → n % 256 + n / 256 % 256 * 256 ≡ n
number_low_high n h = omega arith

low_of : (lo hi : ℕ) → lo < 256 → hi < 256 → (lo + hi * 256) % 256 ≡ lo
low_of lo hi l h = omega arith

high_of : (lo hi : ℕ) → lo < 256 → hi < 256 → (lo + hi * 256) / 256 % 256 ≡ hi
high_of lo hi l h = omega arith

low_high_number : (lo hi : ℕ) → lo < 256 → hi < 256 → low_high (lo + hi * 256) ≡ lo ∷ (hi ∷ [])
low_high_number lo hi l h = ap (λ x. x ∷ ((lo + hi * 256) / 256 % 256 ∷ [])) (low_of lo hi l h) ∙ ap (λ x. lo ∷ (x ∷ [])) (high_of lo hi l h)

-- Marks.

is_mark_parts : (x y a b : ℕ) → is_mark x y a b ≡ true → (a ≡ x) × (b ≡ y)
is_mark_parts x y a b t = grind (arith, nat_tests)

-- one more mark before the others
abbrev KindMark : ℕ → ℕ → Kind → Type 0
KindMark a b k = present k ≡ true → kind_mark k ≡ a ∷ (b ∷ [])

or_kind : (x y a b : ℕ) (k rest : Kind) → kind_mark k ≡ x ∷ (y ∷ []) → KindMark a b rest
    → (t : Bool) → is_mark x y a b ≡ t → KindMark a b (cond t k rest)
or_kind x y a b k rest m r true t = λ _. let p = is_mark_parts x y a b t in m ∙ ap (λ z. z ∷ (y ∷ [])) (sym p.0) ∙ ap (λ z. a ∷ (z ∷ [])) (sym p.1)
or_kind x y a b k rest m r false t = r

kind_mark_of : (a b : ℕ) → KindMark a b (kind_of_mark a b)
kind_mark_of a b =
    or_kind 86 65 a b Variable _ refl (or_kind 90 69 a b Zero _ refl (or_kind 83 85 a b Successor _ refl
    (or_kind 82 69 a b Rec _ refl (or_kind 76 65 a b Lambda _ refl (or_kind 65 80 a b Apply _ refl
    (or_kind 84 82 a b Triv _ refl (or_kind 80 65 a b Pair _ refl (or_kind 70 83 a b Fst _ refl
    (or_kind 83 78 a b Snd _ refl (or_kind 65 66 a b Abort _ refl (or_kind 73 76 a b Inl _ refl
    (or_kind 73 82 a b Inr _ refl (or_kind 67 65 a b Case _ refl (or_kind 81 85 a b Query _ refl
    (λ e. absurd (true≢false (sym e))) _ refl) _ refl) _ refl) _ refl) _ refl) _ refl) _ refl) _ refl) _ refl) _ refl) _ refl)
    _ refl) _ refl) _ refl) _ refl

abbrev FormMark : ℕ → ℕ → Form → Type 0
FormMark a b f = joins f ≡ true → form_mark f ≡ a ∷ (b ∷ [])

or_form : (x y a b : ℕ) (f rest : Form) → form_mark f ≡ x ∷ (y ∷ []) → FormMark a b rest
    → (t : Bool) → is_mark x y a b ≡ t → FormMark a b (cond t f rest)
or_form x y a b f rest m r true t = λ _. let p = is_mark_parts x y a b t in m ∙ ap (λ z. z ∷ (y ∷ [])) (sym p.0) ∙ ap (λ z. a ∷ (z ∷ [])) (sym p.1)
or_form x y a b f rest m r false t = r

form_mark_of : (a b : ℕ) → FormMark a b (form_of_mark a b)
form_mark_of a b =
    or_form 84 70 a b form.Function _ refl (or_form 84 80 a b form.Product _ refl (or_form 84 83 a b form.Sum _ refl
    (λ e. absurd (true≢false (sym e))) _ refl) _ refl) _ refl

-- what a record's sort says of its mark
abbrev SortSays : Sort → Bool → Bool → Bool → Type 0
SortSays s h t n = (is_head s ≡ true → h ≡ true) × (is_type s ≡ true → t ≡ true) × (is_node s ≡ true → n ≡ true)

sort_mark : (h t n : Bool) → SortSays (cond h head (cond t type (cond n node_record unreadable))) h t n
sort_mark true t n = (λ _. refl, λ q. absurd (true≢false (sym q)), λ q. absurd (true≢false (sym q)))
sort_mark false true n = (λ q. absurd (true≢false (sym q)), λ _. refl, λ q. absurd (true≢false (sym q)))
sort_mark false false true = (λ q. absurd (true≢false (sym q)), λ q. absurd (true≢false (sym q)), λ _. refl)
sort_mark false false false = (λ q. absurd (true≢false (sym q)), λ q. absurd (true≢false (sym q)), λ q. absurd (true≢false (sym q)))

sort_says : (six : List ℕ) → SortSays (sort_by_mark six) (is_mark 82 85 (get_or six 0 0) (get_or six 1 0)) (joins (form_in six)) (present (kind_in six))
unfolding sort_by_mark form_in kind_in
sort_says six = sort_mark (is_mark 82 85 (get_or six 0 0) (get_or six 1 0)) (joins (form_of_mark (get_or six 0 0) (get_or six 1 0))) (present (kind_of_mark (get_or six 0 0) (get_or six 1 0)))

-- From a record's bytes to what it says, and back.

abbrev items : List ℕ → List ℕ
items six = get_or six 0 0 ∷ (get_or six 1 0 ∷ (get_or six 2 0 ∷ (get_or six 3 0 ∷ (get_or six 4 0 ∷ (get_or six 5 0 ∷ [])))))

six_items : (six : List ℕ) → length six ≡ 6 → items six ≡ six
six_items [] e = absurd (omega arith)
six_items (a ∷ []) e = absurd (omega arith)
six_items (a ∷ (b ∷ [])) e = absurd (omega arith)
six_items (a ∷ (b ∷ (x ∷ []))) e = absurd (omega arith)
six_items (a ∷ (b ∷ (x ∷ (y ∷ [])))) e = absurd (omega arith)
six_items (a ∷ (b ∷ (x ∷ (y ∷ (z ∷ []))))) e = absurd (omega arith)
six_items (a ∷ (b ∷ (x ∷ (y ∷ (z ∷ (w ∷ [])))))) e = refl
six_items (a ∷ (b ∷ (x ∷ (y ∷ (z ∷ (w ∷ (v ∷ rest))))))) e = absurd (omega arith)

-- a mark and two numbers are the six bytes
parts : (six mark : List ℕ) → length six ≡ 6 → Bytes six → mark ≡ get_or six 0 0 ∷ (get_or six 1 0 ∷ [])
    → mark ++ (low_high (first_number_lem six) ++ low_high (second_number_lem six)) ≡ six
parts six mark l bytes m =
    ap (λ x. x ++ (low_high (first_number_lem six) ++ low_high (second_number_lem six))) m
    ∙ ap (λ x. (get_or six 0 0 ∷ (get_or six 1 0 ∷ [])) ++ (x ++ low_high (second_number_lem six))) (low_high_number _ _ (bytes 2) (bytes 3))
    ∙ ap (λ x. (get_or six 0 0 ∷ (get_or six 1 0 ∷ [])) ++ ((get_or six 2 0 ∷ (get_or six 3 0 ∷ [])) ++ x)) (low_high_number _ _ (bytes 4) (bytes 5))
    ∙ six_items six l

module _ (six : List ℕ) (l : length six ≡ 6) (bytes : Bytes six) where
  pub head_back : is_head (sort_by_mark six) ≡ true → head_bytes (first_number_lem six) (second_number_lem six) ≡ six
  head_back t =
      let p = is_mark_parts 82 85 _ _ ((sort_says six).0 t) in
      parts six (82 ∷ (85 ∷ [])) l bytes (ap (λ z. z ∷ (85 ∷ [])) (sym p.0) ∙ ap (λ z. get_or six 0 0 ∷ (z ∷ [])) (sym p.1))

  pub type_back : is_type (sort_by_mark six) ≡ true → entry_bytes (entry_of six) ≡ six
  unfolding form_in
  type_back t = parts six (form_mark (form_in six)) l bytes (form_mark_of _ _ ((sort_says six).1 t))

  pub node_back : is_node (sort_by_mark six) ≡ true → second_number_lem six ≡ 0 → node_bytes (node_of six) ≡ six
  unfolding kind_in
  node_back t z =
      ap (λ n. kind_mark (kind_in six) ++ (low_high (first_number_lem six) ++ low_high n)) (sym z)
      ∙ parts six (kind_mark (kind_in six)) l bytes (kind_mark_of _ _ ((sort_says six).2 t))

pub type_joins : (six : List ℕ) → is_type (sort_by_mark six) ≡ true → joins (form_in six) ≡ true
type_joins six t = (sort_says six).1 t

same_numbers : (f : Form) {l m r n : ℕ} → l ≡ m → r ≡ n → entry f l r ≡ entry f m n
same_numbers f p q = λ i. entry f (p i) (q i)

abbrev EntryForth : Entry → Type 0
EntryForth e = (is_type (sort_by_mark (entry_bytes e)) ≡ true) × (entry_of (entry_bytes e) ≡ e)

pub entry_forth : (f : Form) (l r : ℕ) → joins f ≡ true → l < 65536 → r < 65536 → EntryForth (entry f l r)
unfolding sort_by_mark form_in
entry_forth form.Blank l r j a b = absurd (true≢false (sym j))
entry_forth form.Nat l r j a b = absurd (true≢false (sym j))
entry_forth form.Unit l r j a b = absurd (true≢false (sym j))
entry_forth form.Void l r j a b = absurd (true≢false (sym j))
entry_forth form.Function l r j a b = (refl, same_numbers form.Function (number_low_high l a) (number_low_high r b))
entry_forth form.Product l r j a b = (refl, same_numbers form.Product (number_low_high l a) (number_low_high r b))
entry_forth form.Sum l r j a b = (refl, same_numbers form.Sum (number_low_high l a) (number_low_high r b))

abbrev NodeForth : Node → Type 0
NodeForth n = (is_node (sort_by_mark (node_bytes n)) ≡ true) × (node_of (node_bytes n) ≡ n) × (second_number_lem (node_bytes n) ≡ 0)

pub node_forth : (k : Kind) (n : ℕ) → present k ≡ true → n < 65536 → NodeForth (node k n)
unfolding sort_by_mark kind_in
node_forth Blank n p a = absurd (true≢false (sym p))
node_forth Variable n p a = (refl, ap (node Variable) (number_low_high n a), refl)
node_forth Zero n p a = (refl, ap (node Zero) (number_low_high n a), refl)
node_forth Successor n p a = (refl, ap (node Successor) (number_low_high n a), refl)
node_forth Rec n p a = (refl, ap (node Rec) (number_low_high n a), refl)
node_forth Lambda n p a = (refl, ap (node Lambda) (number_low_high n a), refl)
node_forth Apply n p a = (refl, ap (node Apply) (number_low_high n a), refl)
node_forth Triv n p a = (refl, ap (node Triv) (number_low_high n a), refl)
node_forth Pair n p a = (refl, ap (node Pair) (number_low_high n a), refl)
node_forth Fst n p a = (refl, ap (node Fst) (number_low_high n a), refl)
node_forth Snd n p a = (refl, ap (node Snd) (number_low_high n a), refl)
node_forth Abort n p a = (refl, ap (node Abort) (number_low_high n a), refl)
node_forth Inl n p a = (refl, ap (node Inl) (number_low_high n a), refl)
node_forth Inr n p a = (refl, ap (node Inr) (number_low_high n a), refl)
node_forth Case n p a = (refl, ap (node Case) (number_low_high n a), refl)
node_forth Query n p a = (refl, ap (node Query) (number_low_high n a), refl)

pub in_range_present : (types : ℕ) (k : Kind) (n : ℕ) → number_in_range types k n ≡ true → present k ≡ true
in_range_present types Blank n t = absurd (true≢false (sym t))
in_range_present types Variable n t = refl
in_range_present types Zero n t = refl
in_range_present types Successor n t = refl
in_range_present types Rec n t = refl
in_range_present types Lambda n t = refl
in_range_present types Apply n t = refl
in_range_present types Triv n t = refl
in_range_present types Pair n t = refl
in_range_present types Fst n t = refl
in_range_present types Snd n t = refl
in_range_present types Abort n t = refl
in_range_present types Inl n t = refl
in_range_present types Inr n t = refl
in_range_present types Case n t = refl
in_range_present types Query n t = refl

-- the number of a node in range fits 16 bits
pub in_range_fits : (types : ℕ) (k : Kind) (n : ℕ) → types ≤ 65536 → number_in_range types k n ≡ true → n < 65536
in_range_fits types Blank n few t = absurd (true≢false (sym t))
in_range_fits types Variable n few t = omega (arith, ltb-true n _ t)
in_range_fits types Zero n few t = omega (arith, eqb-true n 0 t)
in_range_fits types Successor n few t = omega (arith, eqb-true n 0 t)
in_range_fits types Rec n few t = omega (arith, eqb-true n 0 t)
in_range_fits types Lambda n few t = omega (arith, ltb-true n _ t)
in_range_fits types Apply n few t = omega (arith, eqb-true n 0 t)
in_range_fits types Triv n few t = omega (arith, eqb-true n 0 t)
in_range_fits types Pair n few t = omega (arith, eqb-true n 0 t)
in_range_fits types Fst n few t = omega (arith, eqb-true n 0 t)
in_range_fits types Snd n few t = omega (arith, eqb-true n 0 t)
in_range_fits types Abort n few t = omega (arith, ltb-true n _ t)
in_range_fits types Inl n few t = omega (arith, ltb-true n _ t)
in_range_fits types Inr n few t = omega (arith, ltb-true n _ t)
in_range_fits types Case n few t = omega (arith, eqb-true n 0 t)
in_range_fits types Query n few t = omega (arith, ltb-true n _ t)

-- the marks of types and nodes are of their sections
type_sort : (f : Form) → joins f ≡ true → is_type (sort_of_mark (get_or (form_mark f) 0 0) (get_or (form_mark f) 1 0)) ≡ true
type_sort form.Blank j = absurd (true≢false (sym j))
type_sort form.Nat j = absurd (true≢false (sym j))
type_sort form.Unit j = absurd (true≢false (sym j))
type_sort form.Void j = absurd (true≢false (sym j))
type_sort form.Function j = refl
type_sort form.Product j = refl
type_sort form.Sum j = refl

node_sort : (k : Kind) → present k ≡ true → is_node (sort_of_mark (get_or (kind_mark k) 0 0) (get_or (kind_mark k) 1 0)) ≡ true
node_sort Blank p = absurd (true≢false (sym p))
node_sort Variable p = refl
node_sort Zero p = refl
node_sort Successor p = refl
node_sort Rec p = refl
node_sort Lambda p = refl
node_sort Apply p = refl
node_sort Triv p = refl
node_sort Pair p = refl
node_sort Fst p = refl
node_sort Snd p = refl
node_sort Abort p = refl
node_sort Inl p = refl
node_sort Inr p = refl
node_sort Case p = refl
node_sort Query p = refl

pub joins_type : (six : List ℕ) → joins (form_in six) ≡ true → is_type (sort_by_mark six) ≡ true
unfolding sort_by_mark form_in
joins_type six j =
    ap (λ m. is_type (sort_of_mark (get_or m 0 0) (get_or m 1 0))) (sym (form_mark_of (get_or six 0 0) (get_or six 1 0) j))
    ∙ type_sort (form_of_mark (get_or six 0 0) (get_or six 1 0)) j

pub present_node : (six : List ℕ) → present (kind_in six) ≡ true → is_node (sort_by_mark six) ≡ true
unfolding sort_by_mark kind_in
present_node six p =
    ap (λ m. is_node (sort_of_mark (get_or m 0 0) (get_or m 1 0))) (sym (kind_mark_of (get_or six 0 0) (get_or six 1 0) p))
    ∙ node_sort (kind_of_mark (get_or six 0 0) (get_or six 1 0)) p
