-- From where the search stops to the redex of the term.
--   found_value, found_variable   the term is a value, or waits for a variable
--   Place, place     an eliminator with its values, in a context
--   bounds, there    where it stands in the list
--   stuck, ready     what the choice of its rule says of the term
use Rattle.std.proofs.Common.{◌≡◌, ℕ, ◌+◌, ◌<◌, ◌≤◌, List, [], ◌++◌, length, drop, Some, None, Option, sym, refl, ap, ◌∙◌, subst, arith, length-append}
use Rattle.std.proofs.lemmas.List.{drop_at}
use Rattle.calculus.specs.declared.node.Node.{Node}
use Rattle.calculus.specs.Syntax.{Term, VA, onto, flat, size, Value}
use Rattle.calculus.specs.Meanings.{Meaning, LawfulUnder}
use Rattle.calculus.specs.Steps.{Step}
use Rattle.calculus.specs.Safety.{HasNext}
use Rattle.calculus.proofs.Reading.{length_onto}
use Rattle.rewriter.specs.declared.site.Rule.{Rule}
use Rattle.rewriter.specs.declared.focus.Focus.TheVariants as at
use Rattle.rewriter.specs.Contexts.{Context, plug, hole_place}
use Rattle.rewriter.specs.Redexes.{taken, RedexAt}
use Rattle.rewriter.specs.Searches.{focus, rule_in}
use Rattle.rewriter.proofs.Plugs.{before, behind, flat_plug, before_length, no_value, no_step, steps_at}
use Rattle.rewriter.proofs.Views.{Ready, ready_fapp, ready_rec, ready_fst, ready_snd, ready_abort, ready_case, ready_query, ready_no_value, View, is_value, at_variable, at_ready, view, at_nothing, focus_value, focus_ready, focus_variable}
use Rattle.rewriter.proofs.Decisions.{Decided, decided, contracts_step}
use Rattle.rewriter.proofs.Sizes.{size_some}

value_focus : {t : Term} → Value t → focus None 1 0 0 (flat t) ≡ at.Value
value_focus {t} v = focus_value v None 0 0 [] ∙ at_nothing None (0 + size t) []

value_of : {t : Term} → View t → at.Value ≡ focus None 1 0 0 (flat t) → Value t
value_of (is_value v) e = v
value_of (at_variable E i) e = let h = focus_variable E i in let z : ◌≡◌ {A = ℕ} 0 1 = cc in absurd (omega arith)
value_of (at_ready E r) e = let h = focus_ready E r in let z : ◌≡◌ {A = ℕ} 0 1 = cc in absurd (omega arith)

pub found_value : (ns : List Node) → at.Value ≡ focus None 1 0 0 ns → (t : Term) → flat t ≡ ns → Value t
found_value ns e t is = value_of (view t) (rw is e)

-- no value, and no next term under any meaning
abbrev pub Rests : Term → Type 0
Rests t = (Value t → ⊥) × ((m : Meaning) → HasNext m t → ⊥)

variable_of : {t : Term} → View t → at.Variable ≡ focus None 1 0 0 (flat t) → Rests t
variable_of (is_value v) e = let h = value_focus v in let z : ◌≡◌ {A = ℕ} 0 1 = cc in absurd (omega arith)
variable_of (at_variable E i) e =
    let n : Value (VA i) → ⊥ = λ v. elim v [ ] in
    (no_value E n, λ m (w, s). no_step m E n (λ w s. elim s [ ]) w s)
variable_of (at_ready E r) e = let h = focus_ready E r in let z : ◌≡◌ {A = ℕ} 0 1 = cc in absurd (omega arith)

pub found_variable : (ns : List Node) → at.Variable ≡ focus None 1 0 0 ns → (t : Term) → flat t ≡ ns → Rests t
found_variable ns e t is = variable_of (view t) (rw is e)

pub record Place (t : Term) (at upto : ℕ) : Type 0 where
  pub context : Context
  pub redex : Term
  pub ready : Ready redex
  pub whole : plug context redex ≡ t
  pub begins : at ≡ hole_place context
  pub values_end : upto ≡ at + taken redex

place_of : {t : Term} → View t → (i j : ℕ) → at.Eliminator i j ≡ focus None 1 0 0 (flat t) → Place t i j
place_of (is_value v) i j e = let h = value_focus v in let z : ◌≡◌ {A = ℕ} 0 1 = cc in absurd (omega arith)
place_of (at_variable E k) i j e = let h = focus_variable E k in let z : ◌≡◌ {A = ℕ} 0 1 = cc in absurd (omega arith)
place_of (at_ready E {e = r} q) i j e =
    let h = focus_ready E q in
    let a : i ≡ hole_place E = cc in
    let u : j ≡ hole_place E + taken r = cc in
    record { context = E; redex = r; ready = q; whole = refl; begins = a; values_end = omega arith }

ready_taken : {e : Term} → Ready e → (2 ≤ taken e) × (taken e ≤ size e)
ready_taken (ready_fapp {f} {a} u v) = (omega (arith, size_some f), omega arith)
ready_taken (ready_rec {e} v) = (omega (arith, size_some e), omega arith)
ready_taken (ready_fst {e} v) = (omega (arith, size_some e), omega arith)
ready_taken (ready_snd {e} v) = (omega (arith, size_some e), omega arith)
ready_taken (ready_abort {e = e} v) = (omega (arith, size_some e), omega arith)
ready_taken (ready_case {e} v) = (omega (arith, size_some e), omega arith)
ready_taken (ready_query {e = e} v) = (omega (arith, size_some e), omega arith)

module _ (ns : List Node) (i j : ℕ) (e : at.Eliminator i j ≡ focus None 1 0 0 ns) (t : Term) (is : flat t ≡ ns) where
  pub place : Place t i j
  place = place_of (view t) i j (rw is e)

  split : ns ≡ before place.context [] ++ onto place.redex (behind place.context [])
  split = sym is ∙ ap flat (sym place.whole) ∙ flat_plug place.context place.redex

  pub there : drop i ns ≡ onto place.redex (behind place.context [])
  there =
      ap (drop i) split
      ∙ drop_at (before place.context []) (onto place.redex (behind place.context [])) i (before_length place.context ∙ sym place.begins)

  inside : i + size place.redex ≤ length ns
  inside =
      let l = ap length split ∙ length-append (before place.context []) (onto place.redex (behind place.context [])) in
      omega (arith, l, place.begins, before_length place.context, length_onto place.redex (behind place.context []))

  pub bounds : (i + 1 < length ns) × (i < j) × (j ≤ length ns)
  bounds =
      let w = ready_taken place.ready in
      (omega (arith, inside), omega (arith, place.values_end), omega (arith, place.values_end, inside))

  module _ (profile : ℕ) where
    choice : (o : Option Rule) → o ≡ rule_in profile (drop i ns) → Decided profile place.redex o
    choice o c = subst (Decided profile place.redex) (sym (c ∙ ap (rule_in profile) there)) (decided profile place.ready (behind place.context []))

    not_value : Value t → ⊥
    not_value = subst (λ z. Value z → ⊥) place.whole (no_value place.context (ready_no_value place.ready))

    pub stuck : None ≡ rule_in profile (drop i ns) → (Value t → ⊥) × ((m : Meaning) → LawfulUnder profile m → HasNext m t → ⊥)
    stuck c = (
      not_value,
      λ m l (w, s).
          no_step m place.context (ready_no_value place.ready) (choice None c m l) w (rw place.whole s),
    )

    pub ready : (r : Rule) → Some r ≡ rule_in profile (drop i ns) → (Value t → ⊥) × ((m : Meaning) → LawfulUnder profile m → HasNext m t)
    ready r c = (
      not_value,
      λ m l.
          let (u, k) = choice (Some r) c m l in
          (plug place.context u, subst (λ z. Step m z (plug place.context u)) place.whole (steps_at m place.context (contracts_step k))),
    )

    pub redex_at : (r : Rule) (end : ℕ) → Some r ≡ rule_in profile (drop i ns)
        → ((e : Term) (rest : List Node) → drop i ns ≡ onto e rest → j ≡ i + taken e → end ≡ i + size e)
        → RedexAt profile ns (record { at = i; upto = j; end = end; rule = r })
    redex_at r end c f =
        let e = f place.redex (behind place.context []) there place.values_end in
        let w = ready_taken place.ready in
        record {
          context = place.context;
          redex = place.redex;
          whole = ap flat place.whole ∙ is;
          begins = place.begins;
          values_end = place.values_end;
          ends = e;
          places = (omega (arith, place.values_end), omega (arith, place.values_end), omega (arith, inside));
          contracts = choice (Some r) c;
        }
