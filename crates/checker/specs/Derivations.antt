-- What checking a term means, by the typing judgement: where a derivation cannot be, and how the type table grows. Type numbers
-- on nodes are read by ρ, and the host has this profile.
--   Reached      a subterm with its place and its context, where every child that comes before it has a derivation of a type
--                that its node can take
--   Fault        what is wrong at a node in a context, for each question: its earlier children have derivations, and the condition
--                of the question fails
--   Untyped      a term has no derivation in a context
--   FaultsDeny   a node at fault has no derivation
--   ReachedDeny  where a reached subterm has no derivation, the whole has none
--   Joined       a table with a type in it: the same table, if one of its numbers reads as that type; otherwise one more entry,
--                which reads so
--   Grows        how a table grows while a term is checked: in the order in which its nodes are finished, LA, PA, IL and IR add
--                their types, and no other node does
-- Assumes nothing.
use Rattle.std.specs.Prelude.{◌≡◌, ℕ, suc, ◌+◌, ◌<◌, ◌≤◌, List, [], ◌∷◌, ◌++◌, length, Some, None, ◌≢◌}
use Rattle.refusals.specs.declared.Question.{Question}
use Rattle.refusals.specs.declared.Question.TheVariants.{IndexBound, QuestionKnown, FirstChild, LaterChild, StepFunction}
use Rattle.calculus.specs.declared.entry.Entry.{Entry}
use Rattle.calculus.specs.Syntax.{Ty, nat, void, fun, prod, sum, Term, VA, ZE, SU, RE, LA, AP, TR, PA, FS, SN, AB, IL, IR, CA, QU, Value, size}
use Rattle.calculus.specs.Tables.{reading}
use Rattle.calculus.specs.declared.answer.Shape.{Shape}
use Rattle.calculus.specs.Meanings.{question_shape}
use Rattle.calculus.specs.Typing.{Typed}

-- `Reached ρ profile Γ e p Δ u k`: where e stands at the place p in the context Γ, its subterm u stands at k in Δ.
pub data Reached (ρ : ℕ → Ty) (profile : ℕ) : List Ty → Term → ℕ → List Ty → Term → ℕ → Type 0 where
  here : {Γ : List Ty} {e : Term} {p : ℕ} → Reached ρ profile Γ e p Γ e p
  in_s : {Γ Δ : List Ty} {e u : Term} {p k : ℕ} → Reached ρ profile Γ e (suc p) Δ u k → Reached ρ profile Γ (SU e) p Δ u k
  in_rec_1 : {Γ Δ : List Ty} {e a b u : Term} {p k : ℕ}
      → Reached ρ profile Γ e (suc p) Δ u k → Reached ρ profile Γ (RE e a b) p Δ u k
  in_rec_2 : {Γ Δ : List Ty} {e a b u : Term} {p k : ℕ} → Typed ρ profile Γ e nat
      → Reached ρ profile Γ a (suc p + size e) Δ u k → Reached ρ profile Γ (RE e a b) p Δ u k
  in_rec_3 : {Γ Δ : List Ty} {e a b u : Term} {p k : ℕ} {τ : Ty} → Typed ρ profile Γ e nat → Typed ρ profile Γ a τ
      → Reached ρ profile (nat ∷ Γ) b (suc p + size e + size a) Δ u k → Reached ρ profile Γ (RE e a b) p Δ u k
  in_abs : {Γ Δ : List Ty} {b u : Term} {t p k : ℕ}
      → Reached ρ profile (ρ t ∷ Γ) b (suc p) Δ u k → Reached ρ profile Γ (LA t b) p Δ u k
  in_fapp_1 : {Γ Δ : List Ty} {f a u : Term} {p k : ℕ}
      → Reached ρ profile Γ f (suc p) Δ u k → Reached ρ profile Γ (AP f a) p Δ u k
  in_fapp_2 : {Γ Δ : List Ty} {f a u : Term} {p k : ℕ} {α β : Ty} → Typed ρ profile Γ f (fun α β)
      → Reached ρ profile Γ a (suc p + size f) Δ u k → Reached ρ profile Γ (AP f a) p Δ u k
  in_pair_1 : {Γ Δ : List Ty} {a b u : Term} {p k : ℕ}
      → Reached ρ profile Γ a (suc p) Δ u k → Reached ρ profile Γ (PA a b) p Δ u k
  in_pair_2 : {Γ Δ : List Ty} {a b u : Term} {p k : ℕ} {τ : Ty} → Typed ρ profile Γ a τ
      → Reached ρ profile Γ b (suc p + size a) Δ u k → Reached ρ profile Γ (PA a b) p Δ u k
  in_fst : {Γ Δ : List Ty} {e u : Term} {p k : ℕ} → Reached ρ profile Γ e (suc p) Δ u k → Reached ρ profile Γ (FS e) p Δ u k
  in_snd : {Γ Δ : List Ty} {e u : Term} {p k : ℕ} → Reached ρ profile Γ e (suc p) Δ u k → Reached ρ profile Γ (SN e) p Δ u k
  in_abort : {Γ Δ : List Ty} {e u : Term} {t p k : ℕ}
      → Reached ρ profile Γ e (suc p) Δ u k → Reached ρ profile Γ (AB t e) p Δ u k
  in_inl : {Γ Δ : List Ty} {e u : Term} {t p k : ℕ}
      → Reached ρ profile Γ e (suc p) Δ u k → Reached ρ profile Γ (IL t e) p Δ u k
  in_inr : {Γ Δ : List Ty} {e u : Term} {t p k : ℕ}
      → Reached ρ profile Γ e (suc p) Δ u k → Reached ρ profile Γ (IR t e) p Δ u k
  in_case_1 : {Γ Δ : List Ty} {e a b u : Term} {p k : ℕ}
      → Reached ρ profile Γ e (suc p) Δ u k → Reached ρ profile Γ (CA e a b) p Δ u k
  in_case_2 : {Γ Δ : List Ty} {e a b u : Term} {p k : ℕ} {α β : Ty} → Typed ρ profile Γ e (sum α β)
      → Reached ρ profile (α ∷ Γ) a (suc p + size e) Δ u k → Reached ρ profile Γ (CA e a b) p Δ u k
  in_case_3 : {Γ Δ : List Ty} {e a b u : Term} {p k : ℕ} {α β τ : Ty} → Typed ρ profile Γ e (sum α β)
      → Typed ρ profile (α ∷ Γ) a τ
      → Reached ρ profile (β ∷ Γ) b (suc p + size e + size a) Δ u k → Reached ρ profile Γ (CA e a b) p Δ u k
  in_query : {Γ Δ : List Ty} {e u : Term} {q p k : ℕ} {s : Shape} → question_shape profile q ≡ Some s
      → Reached ρ profile Γ e (suc p) Δ u k → Reached ρ profile Γ (QU q e) p Δ u k

-- `Fault ρ profile Γ k e q`: the term e, at the place k in the context Γ, cannot have a type, for the question q.
pub data Fault (ρ : ℕ → Ty) (profile : ℕ) (Γ : List Ty) (k : ℕ) : Term → Question → Type 0 where
  -- 20: no binder around a variable has its index
  unbound : {i : ℕ} → length Γ ≤ i → Fault ρ profile Γ k (VA i) (IndexBound k)
  -- 21: the host has no such question
  unknown : {q : ℕ} {e : Term} → question_shape profile q ≡ None → Fault ρ profile Γ k (QU q e) (QuestionKnown k)
  -- 22: the first child has a type, and it is another than is needed
  s_no_nat : {e : Term} {τ : Ty} → Typed ρ profile Γ e τ → (τ ≢ nat) → Fault ρ profile Γ k (SU e) (FirstChild k)
  rec_no_nat : {e a b : Term} {τ : Ty} → Typed ρ profile Γ e τ → (τ ≢ nat) → Fault ρ profile Γ k (RE e a b) (FirstChild k)
  query_no_nat : {q : ℕ} {e : Term} {s : Shape} {τ : Ty} → question_shape profile q ≡ Some s
      → Typed ρ profile Γ e τ → (τ ≢ nat) → Fault ρ profile Γ k (QU q e) (FirstChild k)
  abort_no_void : {t : ℕ} {e : Term} {τ : Ty} → Typed ρ profile Γ e τ → (τ ≢ void) → Fault ρ profile Γ k (AB t e) (FirstChild k)
  fapp_no_function : {f a : Term} {τ : Ty} → Typed ρ profile Γ f τ → ((α β : Ty) → τ ≢ fun α β)
      → Fault ρ profile Γ k (AP f a) (FirstChild k)
  fst_no_product : {e : Term} {τ : Ty} → Typed ρ profile Γ e τ → ((α β : Ty) → τ ≢ prod α β)
      → Fault ρ profile Γ k (FS e) (FirstChild k)
  snd_no_product : {e : Term} {τ : Ty} → Typed ρ profile Γ e τ → ((α β : Ty) → τ ≢ prod α β)
      → Fault ρ profile Γ k (SN e) (FirstChild k)
  case_no_sum : {e a b : Term} {τ : Ty} → Typed ρ profile Γ e τ → ((α β : Ty) → τ ≢ sum α β)
      → Fault ρ profile Γ k (CA e a b) (FirstChild k)
  -- 23: a later child has a type, and it does not agree with those before it
  argument_differs : {f a : Term} {α β τ : Ty} → Typed ρ profile Γ f (fun α β) → Typed ρ profile Γ a τ → (τ ≢ α)
      → Fault ρ profile Γ k (AP f a) (LaterChild k 2)
  step_differs : {e a b : Term} {τ σ : Ty} → Typed ρ profile Γ e nat → Typed ρ profile Γ a τ
      → Typed ρ profile (nat ∷ Γ) b σ → (σ ≢ fun τ τ) → Fault ρ profile Γ k (RE e a b) (LaterChild k 3)
  branches_differ : {e a b : Term} {α β τ σ : Ty} → Typed ρ profile Γ e (sum α β) → Typed ρ profile (α ∷ Γ) a τ
      → Typed ρ profile (β ∷ Γ) b σ → (σ ≢ τ) → Fault ρ profile Γ k (CA e a b) (LaterChild k 3)
  -- 24: the third child of a recursion has the right type, and is no value as it stands
  step_no_value : {e a b : Term} {τ : Ty} → Typed ρ profile Γ e nat → Typed ρ profile Γ a τ
      → Typed ρ profile (nat ∷ Γ) b (fun τ τ) → (Value b → ⊥) → Fault ρ profile Γ k (RE e a b) (StepFunction k)

abbrev pub Untyped : (ℕ → Ty) → ℕ → List Ty → Term → Type 0
Untyped ρ profile Γ e = (τ : Ty) → Typed ρ profile Γ e τ → ⊥

abbrev pub FaultsDeny : Type 0
FaultsDeny = (ρ : ℕ → Ty) (profile : ℕ) (Γ : List Ty) (k : ℕ) (e : Term) (q : Question)
    → Fault ρ profile Γ k e q → Untyped ρ profile Γ e

abbrev pub ReachedDeny : Type 0
ReachedDeny = (ρ : ℕ → Ty) (profile : ℕ) (Γ Δ : List Ty) (e u : Term) (p k : ℕ)
    → Reached ρ profile Γ e p Δ u k → Untyped ρ profile Δ u → Untyped ρ profile Γ e

pub data Joined (T : List Entry) (τ : Ty) : List Entry → Type 0 where
  there : (i : ℕ) → i < length T → reading T i ≡ τ → Joined T τ T
  added : (x : Entry) → ((i : ℕ) → i < length T → reading T i ≢ τ) → reading (T ++ (x ∷ [])) (length T) ≡ τ
      → Joined T τ (T ++ (x ∷ []))

-- `Grows ρ profile Γ e T U`: checking e in the context Γ takes the table T to U.
pub data Grows (ρ : ℕ → Ty) (profile : ℕ) : List Ty → Term → List Entry → List Entry → Type 0 where
  grows_var : {Γ : List Ty} {i : ℕ} {T : List Entry} → Grows ρ profile Γ (VA i) T T
  grows_z : {Γ : List Ty} {T : List Entry} → Grows ρ profile Γ ZE T T
  grows_s : {Γ : List Ty} {e : Term} {T U : List Entry} → Grows ρ profile Γ e T U → Grows ρ profile Γ (SU e) T U
  grows_rec : {Γ : List Ty} {e a b : Term} {T U V W : List Entry} → Grows ρ profile Γ e T U → Grows ρ profile Γ a U V
      → Grows ρ profile (nat ∷ Γ) b V W → Grows ρ profile Γ (RE e a b) T W
  grows_abs : {Γ : List Ty} {t : ℕ} {b : Term} {τ : Ty} {T U V : List Entry} → Grows ρ profile (ρ t ∷ Γ) b T U
      → Typed ρ profile Γ (LA t b) τ → Joined U τ V → Grows ρ profile Γ (LA t b) T V
  grows_fapp : {Γ : List Ty} {f a : Term} {T U V : List Entry} → Grows ρ profile Γ f T U → Grows ρ profile Γ a U V
      → Grows ρ profile Γ (AP f a) T V
  grows_null : {Γ : List Ty} {T : List Entry} → Grows ρ profile Γ TR T T
  grows_pair : {Γ : List Ty} {a b : Term} {τ : Ty} {T U V W : List Entry} → Grows ρ profile Γ a T U → Grows ρ profile Γ b U V
      → Typed ρ profile Γ (PA a b) τ → Joined V τ W → Grows ρ profile Γ (PA a b) T W
  grows_fst : {Γ : List Ty} {e : Term} {T U : List Entry} → Grows ρ profile Γ e T U → Grows ρ profile Γ (FS e) T U
  grows_snd : {Γ : List Ty} {e : Term} {T U : List Entry} → Grows ρ profile Γ e T U → Grows ρ profile Γ (SN e) T U
  grows_abort : {Γ : List Ty} {t : ℕ} {e : Term} {T U : List Entry} → Grows ρ profile Γ e T U → Grows ρ profile Γ (AB t e) T U
  grows_inl : {Γ : List Ty} {t : ℕ} {e : Term} {τ : Ty} {T U V : List Entry} → Grows ρ profile Γ e T U
      → Typed ρ profile Γ (IL t e) τ → Joined U τ V → Grows ρ profile Γ (IL t e) T V
  grows_inr : {Γ : List Ty} {t : ℕ} {e : Term} {τ : Ty} {T U V : List Entry} → Grows ρ profile Γ e T U
      → Typed ρ profile Γ (IR t e) τ → Joined U τ V → Grows ρ profile Γ (IR t e) T V
  -- the two branches stand under the binders of their sides
  grows_case : {Γ : List Ty} {e a b : Term} {α β : Ty} {T U V W : List Entry} → Grows ρ profile Γ e T U
      → Typed ρ profile Γ e (sum α β) → Grows ρ profile (α ∷ Γ) a U V → Grows ρ profile (β ∷ Γ) b V W
      → Grows ρ profile Γ (CA e a b) T W
  grows_query : {Γ : List Ty} {q : ℕ} {e : Term} {T U : List Entry} → Grows ρ profile Γ e T U → Grows ρ profile Γ (QU q e) T U
