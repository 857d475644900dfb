-- A term is a value, or a context with a variable in its hole, or one with an eliminator that has its values; and the
-- search finds out which.
--   Ready          an eliminator that has its values
--   View, view     the three cases
--   at_nothing       the search ends where nothing is wanted
--   focus_value, focus_variable, focus_ready   what the search comes to in each
use Rattle.std.proofs.Common.{◌≡◌, ℕ, suc, ◌+◌, List, [], ◌∷◌, Some, None, Option, sym, refl, ap, ◌∙◌, add-zero, zero-add, one-add, arith}
use Rattle.calculus.specs.declared.node.Node.{Node}
use Rattle.calculus.specs.Syntax.{Term, VA, ZE, SU, RE, LA, AP, TR, PA, FS, SN, AB, IL, IR, CA, QU, onto, size, Value, val_z, val_s, val_abs, val_null, val_prod, val_inl, val_inr}
use Rattle.calculus.proofs.Reading.{walk}
use Rattle.rewriter.specs.declared.focus.Focus.{Focus}
use Rattle.rewriter.specs.declared.focus.Focus.TheVariants as at
use Rattle.rewriter.specs.Contexts.{Context, hole, in_s, in_fapp_left, in_fapp_right, in_rec, in_pair_left, in_pair_right, in_fst, in_snd, in_abort, in_inl, in_inr, in_case, in_query, plug, hole_place}
use Rattle.rewriter.specs.Redexes.{taken}
use Rattle.rewriter.specs.Searches.{focused, focus}

pub data Ready : Term → Type 0 where
  ready_fapp : {f a : Term} → Value f → Value a → Ready (AP f a)
  ready_rec : {e a b : Term} → Value e → Ready (RE e a b)
  ready_fst : {e : Term} → Value e → Ready (FS e)
  ready_snd : {e : Term} → Value e → Ready (SN e)
  ready_abort : {t : ℕ} {e : Term} → Value e → Ready (AB t e)
  ready_case : {e a b : Term} → Value e → Ready (CA e a b)
  ready_query : {q : ℕ} {e : Term} → Value e → Ready (QU q e)

pub ready_no_value : {e : Term} → Ready e → Value e → ⊥
ready_no_value (ready_fapp u v) w = elim w [ ]
ready_no_value (ready_rec v) w = elim w [ ]
ready_no_value (ready_fst v) w = elim w [ ]
ready_no_value (ready_snd v) w = elim w [ ]
ready_no_value (ready_abort v) w = elim w [ ]
ready_no_value (ready_case v) w = elim w [ ]
ready_no_value (ready_query v) w = elim w [ ]

pub data View : Term → Type 0 where
  is_value : {t : Term} → Value t → View t
  at_variable : (E : Context) (i : ℕ) → View (plug E (VA i))
  at_ready : (E : Context) {e : Term} → Ready e → View (plug E e)

view_s : {e : Term} → View e → View (SU e)
view_s (is_value v) = is_value (val_s v)
view_s (at_variable E i) = at_variable (in_s E) i
view_s (at_ready E r) = at_ready (in_s E) r

view_inl : {e : Term} → View e → (t : ℕ) → View (IL t e)
view_inl (is_value v) t = is_value (val_inl v)
view_inl (at_variable E i) t = at_variable (in_inl t E) i
view_inl (at_ready E r) t = at_ready (in_inl t E) r

view_inr : {e : Term} → View e → (t : ℕ) → View (IR t e)
view_inr (is_value v) t = is_value (val_inr v)
view_inr (at_variable E i) t = at_variable (in_inr t E) i
view_inr (at_ready E r) t = at_ready (in_inr t E) r

view_fst : {e : Term} → View e → View (FS e)
view_fst (is_value v) = at_ready hole (ready_fst v)
view_fst (at_variable E i) = at_variable (in_fst E) i
view_fst (at_ready E r) = at_ready (in_fst E) r

view_snd : {e : Term} → View e → View (SN e)
view_snd (is_value v) = at_ready hole (ready_snd v)
view_snd (at_variable E i) = at_variable (in_snd E) i
view_snd (at_ready E r) = at_ready (in_snd E) r

view_abort : {e : Term} → View e → (t : ℕ) → View (AB t e)
view_abort (is_value v) t = at_ready hole (ready_abort v)
view_abort (at_variable E i) t = at_variable (in_abort t E) i
view_abort (at_ready E r) t = at_ready (in_abort t E) r

view_query : {e : Term} → View e → (q : ℕ) → View (QU q e)
view_query (is_value v) q = at_ready hole (ready_query v)
view_query (at_variable E i) q = at_variable (in_query q E) i
view_query (at_ready E r) q = at_ready (in_query q E) r

view_rec : {e : Term} → View e → (a b : Term) → View (RE e a b)
view_rec (is_value v) a b = at_ready hole (ready_rec v)
view_rec (at_variable E i) a b = at_variable (in_rec E a b) i
view_rec (at_ready E r) a b = at_ready (in_rec E a b) r

view_case : {e : Term} → View e → (a b : Term) → View (CA e a b)
view_case (is_value v) a b = at_ready hole (ready_case v)
view_case (at_variable E i) a b = at_variable (in_case E a b) i
view_case (at_ready E r) a b = at_ready (in_case E a b) r

view_right : {f a : Term} → Value f → View a → View (AP f a)
view_right u (is_value v) = at_ready hole (ready_fapp u v)
view_right {f} u (at_variable E i) = at_variable (in_fapp_right f u E) i
view_right {f} u (at_ready E r) = at_ready (in_fapp_right f u E) r

view_fapp : {f a : Term} → View f → View a → View (AP f a)
view_fapp (is_value u) y = view_right u y
view_fapp {a = a} (at_variable E i) y = at_variable (in_fapp_left E a) i
view_fapp {a = a} (at_ready E r) y = at_ready (in_fapp_left E a) r

view_second : {a b : Term} → Value a → View b → View (PA a b)
view_second u (is_value v) = is_value (val_prod u v)
view_second {a} u (at_variable E i) = at_variable (in_pair_right a u E) i
view_second {a} u (at_ready E r) = at_ready (in_pair_right a u E) r

view_pair : {a b : Term} → View a → View b → View (PA a b)
view_pair (is_value u) y = view_second u y
view_pair {b = b} (at_variable E i) y = at_variable (in_pair_left E b) i
view_pair {b = b} (at_ready E r) y = at_ready (in_pair_left E b) r

pub view : (t : Term) → View t
view (VA i) = at_variable hole i
view ZE = is_value val_z
view (SU e) = view_s (view e)
view (RE e a b) = view_rec (view e) a b
view (LA t b) = is_value val_abs
view (AP f a) = view_fapp (view f) (view a)
view TR = is_value val_null
view (PA a b) = view_pair (view a) (view b)
view (FS e) = view_fst (view e)
view (SN e) = view_snd (view e)
view (AB t e) = view_abort (view e) t
view (IL t e) = view_inl (view e) t
view (IR t e) = view_inr (view e) t
view (CA e a b) = view_case (view e) a b
view (QU q e) = view_query (view e) q

pub at_nothing : (last : Option ℕ) (i : ℕ) (ns : List Node) → focus last 0 0 i ns ≡ focused last i
at_nothing last i [] = refl
at_nothing last i (n ∷ ns) = refl

two_add : (p : ℕ) → 2 + p ≡ suc (suc p)
two_add p = omega arith

-- the search passes over a term
focus_pass : (last : Option ℕ) (k i : ℕ) (t : Term) (ns : List Node) → focus last k 1 i (onto t ns) ≡ focus last k 0 (i + size t) ns
focus_pass last k i t ns =
    let end = i + size t in
    let P : ℕ → ℕ → List Node → Type 0 = λ p j l. (h : ℕ) → h + j ≡ end → focus last k p h l ≡ focus last k 0 end ns in
    walk P (λ p j n l f h e. f (suc h) (omega arith)) t 0 0 ns (λ h e. ap (λ z. focus last k 0 z ns) (omega arith)) i (omega arith)

-- and over a value
pub focus_value : {t : Term} → Value t → (last : Option ℕ) (k i : ℕ) (ns : List Node)
    → focus last (suc k) 0 i (onto t ns) ≡ focus last k 0 (i + size t) ns
focus_value val_z last k i ns = ap (λ q. focus last q 0 (suc i) ns) (zero-add k) ∙ ap (λ j. focus last k 0 j ns) (omega arith)
focus_value (val_s {e} v) last k i ns =
    ap (λ q. focus last q 0 (suc i) (onto e ns)) (one-add k) ∙ focus_value v last k (suc i) ns
    ∙ ap (λ j. focus last k 0 j ns) (omega arith)
focus_value (val_abs {b = b}) last k i ns = focus_pass last k (suc i) b ns ∙ ap (λ j. focus last k 0 j ns) (omega arith)
focus_value val_null last k i ns = ap (λ q. focus last q 0 (suc i) ns) (zero-add k) ∙ ap (λ j. focus last k 0 j ns) (omega arith)
focus_value (val_prod {a} {b} u v) last k i ns =
    ap (λ q. focus last q 0 (suc i) (onto a (onto b ns))) (two_add k) ∙ focus_value u last (suc k) (suc i) (onto b ns)
    ∙ focus_value v last k (suc i + size a) ns ∙ ap (λ j. focus last k 0 j ns) (omega arith)
focus_value (val_inl {e = e} v) last k i ns =
    ap (λ q. focus last q 0 (suc i) (onto e ns)) (one-add k) ∙ focus_value v last k (suc i) ns
    ∙ ap (λ j. focus last k 0 j ns) (omega arith)
focus_value (val_inr {e = e} v) last k i ns =
    ap (λ q. focus last q 0 (suc i) (onto e ns)) (one-add k) ∙ focus_value v last k (suc i) ns
    ∙ ap (λ j. focus last k 0 j ns) (omega arith)

-- it stops at an eliminator that has its values
focus_one : {e : Term} → Value e → (i : ℕ) (ns : List Node) → focus (Some i) 1 0 (suc i) (onto e ns) ≡ at.Eliminator i (i + suc (size e))
focus_one {e} v i ns =
    focus_value v (Some i) 0 (suc i) ns ∙ at_nothing (Some i) (suc i + size e) ns ∙ ap (at.Eliminator i) (omega arith)

focus_here : {e : Term} → Ready e → (last : Option ℕ) (k i : ℕ) (ns : List Node)
    → focus last (suc k) 0 i (onto e ns) ≡ at.Eliminator i (i + taken e)
focus_here (ready_fapp {f} {a} u v) last k i ns =
    focus_value u (Some i) 1 (suc i) (onto a ns) ∙ focus_value v (Some i) 0 (suc i + size f) ns
    ∙ at_nothing (Some i) (suc i + size f + size a) ns ∙ ap (at.Eliminator i) (omega arith)
focus_here (ready_rec {e} {a} {b} v) last k i ns = focus_one v i (onto a (onto b ns))
focus_here (ready_fst v) last k i ns = focus_one v i ns
focus_here (ready_snd v) last k i ns = focus_one v i ns
focus_here (ready_abort v) last k i ns = focus_one v i ns
focus_here (ready_case {e} {a} {b} v) last k i ns = focus_one v i (onto a (onto b ns))
focus_here (ready_query v) last k i ns = focus_one v i ns

-- in a context the search comes to the hole: it is there with some eliminator seen and some values wanted
module _ (x : Term) (goal : ℕ → Focus)
    (here : (last : Option ℕ) (k i : ℕ) (ns : List Node) → focus last (suc k) 0 i (onto x ns) ≡ goal i)
  where
    pub focus_plug : (E : Context) (last : Option ℕ) (k i : ℕ) (ns : List Node)
        → focus last (suc k) 0 i (onto (plug E x) ns) ≡ goal (i + hole_place E)
    focus_plug hole last k i ns = here last k i ns ∙ ap goal (sym (add-zero i))
    focus_plug (in_s E) last k i ns =
        ap (λ y. focus last y 0 (suc i) (onto (plug E x) ns)) (one-add k) ∙ focus_plug E last k (suc i) ns ∙ ap goal (omega arith)
    focus_plug (in_fapp_left E a) last k i ns = focus_plug E (Some i) 1 (suc i) (onto a ns) ∙ ap goal (omega arith)
    focus_plug (in_fapp_right f v E) last k i ns =
        focus_value v (Some i) 1 (suc i) (onto (plug E x) ns) ∙ focus_plug E (Some i) 0 (suc i + size f) ns ∙ ap goal (omega arith)
    focus_plug (in_rec E a b) last k i ns = focus_plug E (Some i) 0 (suc i) (onto a (onto b ns)) ∙ ap goal (omega arith)
    focus_plug (in_pair_left E b) last k i ns =
        ap (λ y. focus last y 0 (suc i) (onto (plug E x) (onto b ns))) (two_add k)
        ∙ focus_plug E last (suc k) (suc i) (onto b ns) ∙ ap goal (omega arith)
    focus_plug (in_pair_right a v E) last k i ns =
        ap (λ y. focus last y 0 (suc i) (onto a (onto (plug E x) ns))) (two_add k)
        ∙ focus_value v last (suc k) (suc i) (onto (plug E x) ns) ∙ focus_plug E last k (suc i + size a) ns ∙ ap goal (omega arith)
    focus_plug (in_fst E) last k i ns = focus_plug E (Some i) 0 (suc i) ns ∙ ap goal (omega arith)
    focus_plug (in_snd E) last k i ns = focus_plug E (Some i) 0 (suc i) ns ∙ ap goal (omega arith)
    focus_plug (in_abort t E) last k i ns = focus_plug E (Some i) 0 (suc i) ns ∙ ap goal (omega arith)
    focus_plug (in_inl t E) last k i ns =
        ap (λ y. focus last y 0 (suc i) (onto (plug E x) ns)) (one-add k) ∙ focus_plug E last k (suc i) ns ∙ ap goal (omega arith)
    focus_plug (in_inr t E) last k i ns =
        ap (λ y. focus last y 0 (suc i) (onto (plug E x) ns)) (one-add k) ∙ focus_plug E last k (suc i) ns ∙ ap goal (omega arith)
    focus_plug (in_case E a b) last k i ns = focus_plug E (Some i) 0 (suc i) (onto a (onto b ns)) ∙ ap goal (omega arith)
    focus_plug (in_query q E) last k i ns = focus_plug E (Some i) 0 (suc i) ns ∙ ap goal (omega arith)

pub focus_ready : (E : Context) {e : Term} → Ready e
    → focus None 1 0 0 (onto (plug E e) []) ≡ at.Eliminator (hole_place E) (hole_place E + taken e)
focus_ready E {e} r =
    focus_plug e (λ i. at.Eliminator i (i + taken e)) (focus_here r) E None 0 0 []
    ∙ ap (λ i. at.Eliminator i (i + taken e)) (zero-add (hole_place E))

pub focus_variable : (E : Context) (i : ℕ) → focus None 1 0 0 (onto (plug E (VA i)) []) ≡ at.Variable
focus_variable E i = focus_plug (VA i) (λ _. at.Variable) (λ last k j ns. refl) E None 0 0 []
