-- Frames in numbers. Assumes nothing.
use Rattle.std.proofs.Common.{◌≡◌, ℕ, zero, suc, ◌+◌, ◌-◌, ◌*◌, ◌/◌, ◌^◌, ◌<◌, ◌≤◌, Bool, true, false, List, ◌∷◌, length, get_or, set, sym, refl, ap, ◌∙◌, arith}
use Rattle.std.proofs.lemmas.List.{get_or-set_same, get_or-set_other, length-set}
use Rattle.checker.specs.declared.frame.Awaits.{Awaits}
use Rattle.checker.specs.declared.frame.Awaits.TheVariants.{First, Second, Third}
use Rattle.checker.specs.declared.frame.Frame.{Frame}
use Rattle.checker.specs.Awaiting.{code_of, kept_of, awaits_of, bound_of, frame}
use Rattle.checker.specs.Contexts.{Small}
use Rattle.checker.specs.Frames.{Stacked, frame_at, stack}
use Rattle.checker.proofs.Contexts.{small_more}

-- a list with a frame written
abbrev pub put_words_lem : List ℕ → ℕ → ℕ → ℕ → ℕ → List ℕ
put_words_lem words i place code kept = set (set (set words (3 * i) place) (3 * i + 1) code) (3 * i + 2) kept

abbrev pub put_frame_lem : List ℕ → ℕ → Frame → List ℕ
put_frame_lem words i f = put_words_lem words i f.place (code_of f.awaits f.bound) (kept_of f.awaits)

pub stack_step : (w : List ℕ) (d : ℕ) → 0 < d → stack w d ≡ frame_at w (d - 1) ∷ stack w (d - 1)
stack_step w zero h = absurd (omega arith)
stack_step w (suc d) h = let e : suc d - 1 ≡ d = omega arith in rw e

pub length_stack : (w : List ℕ) (d : ℕ) → length (stack w d) ≡ d
length_stack w zero = refl
length_stack w (suc d) = ap suc (length_stack w d)

-- the numbers of one frame, written
module _ (w : List ℕ) (i a b c : ℕ) where
  pub words_other : (k : ℕ) → (k ≡ 3 * i → ⊥) → (k ≡ 3 * i + 1 → ⊥) → (k ≡ 3 * i + 2 → ⊥) → get_or (put_words_lem w i a b c) k 0 ≡ get_or w k 0
  words_other k p q r = rw (get_or-set_other, get_or-set_other, get_or-set_other)

  module _ (h : 3 * i + 3 ≤ length w) where
    words_0 : get_or (put_words_lem w i a b c) (3 * i) 0 ≡ a
    words_0 =
        let p : 3 * i ≡ 3 * i + 1 → ⊥ = omega arith in
        let q : 3 * i ≡ 3 * i + 2 → ⊥ = omega arith in
        let t : 3 * i < length w = omega arith in
        rw (get_or-set_other, get_or-set_other, get_or-set_same)

    words_1 : get_or (put_words_lem w i a b c) (3 * i + 1) 0 ≡ b
    words_1 =
        let q : 3 * i + 1 ≡ 3 * i + 2 → ⊥ = omega arith in
        let t : 3 * i + 1 < length (set w (3 * i) a) = simp length-set (omega arith) in
        rw (get_or-set_other, get_or-set_same)

    words_2 : get_or (put_words_lem w i a b c) (3 * i + 2) 0 ≡ c
    words_2 =
        let t : 3 * i + 2 < length (set (set w (3 * i) a) (3 * i + 1) b) = simp length-set (omega arith) in
        rw get_or-set_same

    pub frame_written : frame_at (put_words_lem w i a b c) i ≡ frame a (awaits_of b c) (bound_of b)
    unfolding frame_at
    frame_written = rw (words_0, words_1, words_2)

    pub small_words : a < 2 ^ 16 → b < 2 ^ 16 → c < 2 ^ 16 → Small w (3 * i) → Small (put_words_lem w i a b c) (3 * (i + 1))
    small_words p q r s =
        small_more (set (set w (3 * i) a) (3 * i + 1) b) (3 * i + 2) c (3 * (i + 1)) (simp length-set (omega arith)) r (omega arith)
        (small_more (set w (3 * i) a) (3 * i + 1) b (3 * i + 2) (simp length-set (omega arith)) q (omega arith)
        (small_more w (3 * i) a (3 * i + 1) (omega arith) p (omega arith) s))

  pub frame_other : (j : ℕ) → j < i → frame_at (put_words_lem w i a b c) j ≡ frame_at w j
  unfolding frame_at
  frame_other j h =
      rw (
        words_other (3 * j) (omega arith) (omega arith) (omega arith),
        words_other (3 * j + 1) (omega arith) (omega arith) (omega arith),
        words_other (3 * j + 2) (omega arith) (omega arith) (omega arith),
      )

pub stack_other : (w : List ℕ) (i a b c d : ℕ) → d ≤ i → stack (put_words_lem w i a b c) d ≡ stack w d
stack_other w i a b c zero h = refl
stack_other w i a b c (suc d) h =
    let e = frame_other w i a b c d (omega arith) in
    let s = stack_other w i a b c d (omega arith) in
    cc

-- what is written is read
read_back : (p : ℕ) (a : Awaits) (b : Bool) → frame p (awaits_of (code_of a b) (kept_of a)) (bound_of (code_of a b)) ≡ frame p a b
read_back p First false = refl
read_back p First true = refl
read_back p (Second t) false = refl
read_back p (Second t) true = refl
read_back p (Third t) false = refl
read_back p (Third t) true = refl

-- a frame written on top of i others
pub stack_put : (w : List ℕ) (i : ℕ) (f : Frame) → 3 * i + 3 ≤ length w → stack (put_frame_lem w i f) (i + 1) ≡ f ∷ stack w i
stack_put w i f h =
    let e : i + 1 ≡ suc i = omega arith in
    let a = frame_written w i f.place (code_of f.awaits f.bound) (kept_of f.awaits) h in
    let b = read_back f.place f.awaits f.bound in
    let s = stack_other w i f.place (code_of f.awaits f.bound) (kept_of f.awaits) i (omega arith) in
    rw e (cc)

pub code_small : (a : Awaits) (b : Bool) → code_of a b < 2 ^ 16
code_small First false = omega arith
code_small First true = omega arith
code_small (Second t) false = omega arith
code_small (Second t) true = omega arith
code_small (Third t) false = omega arith
code_small (Third t) true = omega arith

-- Frames in lent numbers.
abbrev pub piled : List ℕ → ℕ → Stacked
piled w d = record { frames = stack w d; room = length w / 3 }

pub piled_length : (w : List ℕ) (d : ℕ) (v : Stacked) → piled w d ≡ v → (length v.frames ≡ d) × (length w / 3 ≡ v.room)
piled_length w d v e = (sym (ap (λ (u : Stacked). length u.frames) e) ∙ length_stack w d, ap (λ (u : Stacked). u.room) e)

pub pushed : (w : List ℕ) (d : ℕ) (f : Frame) (a b c : ℕ) (v : Stacked) → 3 * d + 3 ≤ length w
    → a ≡ f.place → b ≡ code_of f.awaits f.bound → c ≡ kept_of f.awaits → piled w d ≡ v
    → piled (put_words_lem w d a b c) (d + 1) ≡ record { frames = f ∷ v.frames; room = v.room }
pushed w d f a b c v h ea eb ec e =
    let s : stack (put_words_lem w d a b c) (d + 1) ≡ f ∷ stack w d = rw (ea, eb, ec) (stack_put w d f h) in
    let l : length (put_words_lem w d a b c) ≡ length w = simp length-set in
    rw (s, l) (ap (λ (u : Stacked). let x : Stacked = record { frames = f ∷ u.frames; room = u.room } in x) e)

pub popped : (w : List ℕ) (d : ℕ) (v : Stacked) → 0 < d → piled w d ≡ v → v.frames ≡ frame_at w (d - 1) ∷ stack w (d - 1)
popped w d v h e = sym (ap (λ (u : Stacked). u.frames) e) ∙ stack_step w d h
