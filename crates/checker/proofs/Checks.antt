-- What the outcome of the machine says of the rule, and exactly when a rule is accepted. Assumes nothing.
use Rattle.std.proofs.Common.{◌≡◌, ℕ, suc, ◌-◌, ◌≤◌, true, false, List, [], ◌++◌, length, take, drop, replicate, sym, refl, ap, ◌∙◌, subst, arith, ltb-true, Ok, Err, Result, zero, ◌∷◌, get_or}
use Rattle.std.specs.Result.{MatchResult, IsErrAnd}
use Rattle.std.proofs.lemmas.Result.{MatchResult-at_ok, MatchResult-at_err, err_from_is_err_and}
use Rattle.std.proofs.lemmas.List.{length-take-le, take_at, take-append-drop}
use Rattle.refusals.specs.declared.Question.{Question}
use Rattle.refusals.specs.declared.Refusal.{Refusal}
use Rattle.calculus.specs.declared.entry.Entry.{Entry}
use Rattle.calculus.specs.declared.node.Node.{Node}
use Rattle.calculus.specs.Forms.{empty}
use Rattle.calculus.specs.Syntax.{Term, VA, ZE, SU, RE, LA, AP, TR, PA, FS, SN, AB, IL, IR, CA, QU, onto, flat}
use Rattle.calculus.specs.Tables.{LaidDown, reading}
use Rattle.calculus.specs.Typing.{Typed, TypesBelow}
use Rattle.calculus.specs.Accepted.{Accepted}
use Rattle.calculus.proofs.Reading.{read_once}
use Rattle.terms.specs.Ranges.{AllInRange}
use Rattle.checker.specs.Judging.{typed, refused, judge_term}
use Rattle.checker.specs.Meaning.{Means}
use Rattle.types.proofs.Laid.{laid_front}
use Rattle.checker.specs.Checking.{Checkable, Uncheckable, counts_unfit, no_room, entry_at_fault, node_at_fault, in_check, zeros, AcceptCall, RejectCall, Exactly}
use Rattle.checker.proofs.OutcomeMeans.{judge_means}

-- where each place of a joined list reads 0, so does each place of its parts
get_or_front : (xs ys : List ℕ) (i : ℕ) → ((j : ℕ) → get_or (xs ++ ys) j 0 ≡ 0) → get_or xs i 0 ≡ 0
get_or_front [] ys i z = refl
get_or_front (x ∷ xs) ys zero z = z 0
get_or_front (x ∷ xs) ys (suc i) z = get_or_front xs ys i (λ j. z (suc j))

get_or_back : (xs ys : List ℕ) (i : ℕ) → ((j : ℕ) → get_or (xs ++ ys) j 0 ≡ 0) → get_or ys i 0 ≡ 0
get_or_back [] ys i z = z i
get_or_back (x ∷ xs) ys i z = get_or_back xs ys i (λ j. z (suc j))

-- the type numbers of a term whose nodes are in range
types_below : (C : ℕ) (t : Term) (ns : List Node) → AllInRange C (onto t ns) → TypesBelow C t × AllInRange C ns
types_below C (VA i) ns a = (tt, a.1)
types_below C ZE ns a = (tt, a.1)
types_below C (SU e) ns a = types_below C e ns a.1
types_below C (RE e x y) ns a =
    let p = types_below C e (onto x (onto y ns)) a.1 in
    let q = types_below C x (onto y ns) p.1 in
    let r = types_below C y ns q.1 in
    ((p.0, q.0, r.0), r.1)
types_below C (LA t b) ns a = let p = types_below C b ns a.1 in ((ltb-true t C a.0, p.0), p.1)
types_below C (AP f x) ns a =
    let p = types_below C f (onto x ns) a.1 in
    let q = types_below C x ns p.1 in
    ((p.0, q.0), q.1)
types_below C TR ns a = (tt, a.1)
types_below C (PA x y) ns a =
    let p = types_below C x (onto y ns) a.1 in
    let q = types_below C y ns p.1 in
    ((p.0, q.0), q.1)
types_below C (FS e) ns a = types_below C e ns a.1
types_below C (SN e) ns a = types_below C e ns a.1
types_below C (AB t e) ns a = let p = types_below C e ns a.1 in ((ltb-true t C a.0, p.0), p.1)
types_below C (IL t e) ns a = let p = types_below C e ns a.1 in ((ltb-true t C a.0, p.0), p.1)
types_below C (IR t e) ns a = let p = types_below C e ns a.1 in ((ltb-true t C a.0, p.0), p.1)
types_below C (CA e x y) ns a =
    let p = types_below C e (onto x (onto y ns)) a.1 in
    let q = types_below C x (onto y ns) p.1 in
    let r = types_below C y ns q.1 in
    ((p.0, q.0, r.0), r.1)
types_below C (QU q e) ns a = types_below C e ns a.1

module _ (nodes : List Node) (types : List Entry) (count words profile : ℕ) (ok : Checkable nodes types count words) where
  abbrev rule : Term
  rule = ok.term.0

  abbrev is : flat rule ≡ nodes
  is = ok.term.1

  long : length (take count types) ≡ count
  long = length-take-le count types ok.counts.within

  means : Means (take count types) profile rule (judge_term profile rule (take count types))
  means =
      judge_means (take count types) profile rule ok.table (omega (arith, long, ok.counts.given))
      (subst (λ C. TypesBelow C rule) (sym long) (types_below count rule [] (subst (AllInRange count) (sym is) ok.term.2)).0)

  pub accept_call : (number grown : ℕ) (us types' : List Entry) (scratch' : List ℕ) → length us ≡ length types → grown ≤ length us
      → ((t : Term) → flat t ≡ nodes → typed number (take grown us) ≡ judge_term profile t (take count types))
      → types' ≡ take grown us ++ replicate (length us - grown) empty → scratch' ≡ zeros words
      → AcceptCall nodes types count words profile number grown types' scratch'
  accept_call number grown us types' scratch' l h judged after cleared = record {
    checkable = ok;
    rule = rule;
    is = is;
    left = take grown us;
    judged = sym (judged rule is);
    accepts = subst (Means (take count types) profile rule) (sym (judged rule is)) means;
    count_after = sym (length-take-le grown us h);
    types_after = after ∙ ap (λ n. take grown us ++ replicate (n - grown) empty) l;
    scratch_after = cleared;
  }

  pub reject_call : (q : Question) (us types' : List Entry) (scratch' : List ℕ) → length us ≡ length types
      → ((t : Term) → flat t ≡ nodes → refused q ≡ judge_term profile t (take count types)) → take count us ≡ take count types
      → types' ≡ take count us ++ replicate (length us - count) empty → scratch' ≡ zeros words
      → RejectCall nodes types count words profile q types' scratch'
  reject_call q us types' scratch' l judged front after cleared = record {
    checkable = ok;
    rule = rule;
    is = is;
    judged = sym (judged rule is);
    refuses = subst (Means (take count types) profile rule) (sym (judged rule is)) means;
    types_after = after ∙ ap (λ T. T ++ replicate (length us - count) empty) front ∙ ap (λ n. take count types ++ replicate (n - count) empty) l;
    scratch_after = cleared;
  }

module _ (nodes : List Node) (types : List Entry) (count words profile : ℕ) where
  -- the table that an acceptance leaves
  table_left : (number count' : ℕ) (types' : List Entry) (scratch' : List ℕ) (a : AcceptCall nodes types count words profile number count' types' scratch')
      → take count' types' ≡ a.left
  table_left number count' types' scratch' a =
      ap (take count') a.types_after ∙ take_at a.left (replicate (length types - count') empty) count' (sym a.count_after)

  pub exactly_accepted : (number count' : ℕ) (types' : List Entry) (scratch' : List ℕ) → AcceptCall nodes types count words profile number count' types' scratch'
      → Exactly nodes types count words profile true (take count' types')
  exactly_accepted number count' types' scratch' a ok t e =
      let same : a.rule ≡ t = (read_once a.rule t [] [] (a.is ∙ sym e)).0 in
      let left = table_left number count' types' scratch' a in (
        λ _. (
          reading a.left number,
          subst (λ T. Typed (reading T) profile [] t (reading a.left number)) (sym left)
              (subst (λ u. Typed (reading a.left) profile [] u (reading a.left number)) same a.accepts.accepted.typed),
        ),
        λ _. refl,
      )

  pub exactly_rejected : (q : Question) (types' : List Entry) (scratch' : List ℕ) → RejectCall nodes types count words profile q types' scratch'
      → Exactly nodes types count words profile false (take count types')
  exactly_rejected q types' scratch' r ok t e =
      let same : r.rule ≡ t = (read_once r.rule t [] [] (r.is ∙ sym e)).0 in
      let long = length-take-le count types ok.counts.within in
      let left : take count types' ≡ take count types
      = ap (take count) r.types_after ∙ take_at (take count types) (replicate (length types - count) empty) count long in (
        λ f. absurd (let z : ◌≡◌ {A = ℕ} 0 1 = cc in omega arith),
        λ d. absurd (r.refuses.untyped d.0
            (subst (λ u. Typed (reading (take count types)) profile [] u d.0) (sym same) (subst (λ T. Typed (reading T) profile [] t d.0) left d.1))),
      )

  -- the invariant of an acceptance
  pub accepted_rule : (number count' : ℕ) (types' : List Entry) (scratch' : List ℕ) → AcceptCall nodes types count words profile number count' types' scratch'
      → ∥ ((t : Term) × (flat t ≡ nodes) × Accepted t number profile) ∥₁
  accepted_rule number count' types' scratch' a = ∣ (a.rule, a.is, ∣ (a.left, a.accepts.accepted) ∣₁) ∣₁

-- a rule that does not pass 10 to 13 is no rule past them
pub exactly_unchecked : (nodes : List Node) (types : List Entry) (count words profile : ℕ) (q : Question) (left : List Entry)
    → Uncheckable nodes types count words q → Exactly nodes types count words profile false left
exactly_unchecked nodes types count words profile q left u ok t e = absurd (never u)
  where
    never : {q : Question} → Uncheckable nodes types count words q → ⊥
    never (counts_unfit n) = n ok.counts
    never (no_room f n) = n ok.room
    never (entry_at_fault {k = k} f r j) =
        j.2 (laid_front (take (suc k) (take count types)) (drop (suc k) (take count types))
        (subst LaidDown (sym (take-append-drop (suc k) (take count types))) ok.table))
    never (node_at_fault f r l j) = j.3 ok.term

-- the same acceptance under equal numbers
pub same_accept : (nodes : List Node) (types : List Entry) (count words : ℕ) (types' : List Entry) (scratch' : List ℕ) {number n count' k profile p : ℕ}
    → n ≡ number → k ≡ count' → profile ≡ p → AcceptCall nodes types count words profile number count' types' scratch'
    → AcceptCall nodes types count words p n k types' scratch'
same_accept nodes types count words types' scratch' {number} {n} {count'} {k} {profile} {p} en ek ep a =
    subst (λ (x : ℕ). AcceptCall nodes types count words x n k types' scratch') ep
    (subst (λ (x : ℕ). AcceptCall nodes types count words profile x k types' scratch') (sym en)
    (subst (λ (x : ℕ). AcceptCall nodes types count words profile number x types' scratch') (sym ek) a))

-- of a result whose question became a refusal: the question of a refusal, and what an answer says
module _ {A : Type 0} (P : A → Type 0) (Q : Question → Type 0) where
  pub asked : (r : Result A Question) (s : Result A Refusal) (e : Refusal)
      → MatchResult r (λ x. s ≡ Ok x) (λ q. IsErrAnd s (λ d. d ≡ in_check q)) → MatchResult r P Q → s ≡ Err e
      → (q : Question) × (e ≡ in_check q) × Q q
  asked (Ok x) s e m h i =
      let f = MatchResult-at_ok {r = Ok x} (λ y. s ≡ Ok y) (λ q. IsErrAnd s (λ d. d ≡ in_check q)) x refl m in
      absurd (let z : ⊥ = cc in z)
  asked (Err q) s e m h i =
      let f = err_from_is_err_and s (MatchResult-at_err {r = Err q} (λ y. s ≡ Ok y) (λ k. IsErrAnd s (λ d. d ≡ in_check k)) q refl m) in
      let j = f.1 in
      let z : e ≡ f.0 = cc in
      (q, z ∙ f.2, MatchResult-at_err {r = Err q} P Q q refl h)

  pub answered : (r : Result A Question) (s : Result A Refusal) (y : A)
      → MatchResult r (λ x. s ≡ Ok x) (λ q. IsErrAnd s (λ d. d ≡ in_check q)) → MatchResult r P Q → s ≡ Ok y → P y
  answered (Ok x) s y m h i =
      let f = MatchResult-at_ok {r = Ok x} (λ y. s ≡ Ok y) (λ q. IsErrAnd s (λ d. d ≡ in_check q)) x refl m in
      let z : x ≡ y = cc in
      subst P z (MatchResult-at_ok {r = Ok x} P Q x refl h)
  answered (Err q) s y m h i =
      let f = err_from_is_err_and s (MatchResult-at_err {r = Err q} (λ y. s ≡ Ok y) (λ k. IsErrAnd s (λ d. d ≡ in_check k)) q refl m) in
      let j = f.1 in
      absurd (let z : ⊥ = cc in z)
