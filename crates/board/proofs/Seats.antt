-- The handles and the states of the components of a graph, one after another.
use Rattle.std.proofs.Common.{◌≡◌, ℕ, zero, suc, ◌+◌, ◌∙◌, sym, ap, subst, refl, ◌≤◌, List, [], ◌∷◌, ◌++◌, length, length-append, map, take, slice_get, Option, Some, None, option_map, Ok, Err, arith}
use Rattle.std.proofs.lemmas.List.{take_all}
use Rattle.omx_types.specs.declared.handle.Handle.{Handle}
use Rattle.omx_types.specs.declared.state.State.{State}
use Rattle.omx_types.specs.declared.error.OmxError.{OmxError}
use Rattle.il_machine.specs.World.{Component, World}
use Rattle.il_machine.specs.Look.{look}
use Rattle.il_machine.specs.Answers.{looked}
use Rattle.il_machine.specs.Components.{handle_at, state_answer}
use Rattle.il_machine.specs.Sound.{Sound}
use Rattle.history_laws.proofs.Naming.{own_named}
use Rattle.state_words.specs.Shown.{States}
use Rattle.board.specs.Watching.{seat_of, AreFirstSeats, AreSeats, HasMore}

take_some : {X : Type 0} (xs : List X) (i : ℕ) (x : X) → slice_get xs i ≡ Some x → take (suc i) xs ≡ take i xs ++ x ∷ []
take_some [] i x e = absurd cc
take_some (y ∷ ys) zero x e = let s : y ≡ x = cc in ap (λ z. z ∷ []) s
take_some (y ∷ ys) (suc i) x e = ap (λ l. y ∷ l) (take_some ys i x e)

take_none : {X : Type 0} (xs : List X) (i : ℕ) → slice_get xs i ≡ None → take (suc i) xs ≡ take i xs
take_none [] zero e = refl
take_none [] (suc i) e = refl
take_none (y ∷ ys) zero e = absurd cc
take_none (y ∷ ys) (suc i) e = ap (λ l. y ∷ l) (take_none ys i e)

map_last : {X Y : Type 0} (f : X → Y) (xs : List X) (x : X) → map f (xs ++ x ∷ []) ≡ map f xs ++ f x ∷ []
map_last f [] x = refl
map_last f (y ∷ ys) x = ap (λ l. f y ∷ l) (map_last f ys x)

-- ---- one component

there_at : (o : Option Component) (h : Handle) → Some h ≡ option_map (λ c. c.handle) o → (c : Component) × (o ≡ Some c) × (h ≡ c.handle)
there_at None h e = absurd cc
there_at (Some c) h e = (c, refl, cc)

state_there : (w : World) (place : ℕ) (c : Component) → Sound w → slice_get w.components place ≡ Some c → state_answer c.handle (look w) ≡ Ok c.state
state_there w place c S at = ap (λ (o : Option Component). looked o (λ c. Ok c.state)) (own_named w place c S at)

pub seat_some : (w : World) (place : ℕ) (h : Handle) (state : State) → Sound w → Some h ≡ handle_at place (look w) → Ok state ≡ state_answer h (look w) → Some (h, state) ≡ option_map seat_of (slice_get w.components place)
seat_some w place h state S at is =
    let x = there_at (slice_get w.components place) h at in
    let a : Ok state ≡ Ok (x.0).state = is ∙ (ap (λ k. state_answer k (look w)) x.2 ∙ state_there w place x.0 S x.1) in
    let s : state ≡ (x.0).state = cc in
    (λ i. Some (x.2 i, s i)) ∙ sym (ap (option_map seat_of) x.1)

pub seat_none : (w : World) (place : ℕ) → None ≡ handle_at place (look w) → None ≡ option_map seat_of (slice_get w.components place)
seat_none w place e = at_none (slice_get w.components place) e
  where
    at_none : (o : Option Component) → None ≡ option_map (λ c. c.handle) o → None ≡ option_map seat_of o
    at_none None e = refl
    at_none (Some c) e = absurd cc

pub seat_there : (w : World) (place : ℕ) (h : Handle) (error : OmxError) → Sound w → Some h ≡ handle_at place (look w) → Err error ≡ state_answer h (look w) → ⊥
seat_there w place h error S at is =
    let x = there_at (slice_get w.components place) h at in
    let a : Err error ≡ Ok (x.0).state = is ∙ (ap (λ k. state_answer k (look w)) x.2 ∙ state_there w place x.0 S x.1) in
    absurd cc

-- ---- all of them

pub seats_none : (w : World) → AreFirstSeats 0 [] [] w
seats_none w = record { handles = refl; states = refl }

at_seat : (o : Option Component) (h : Handle) (state : State) → Some (h, state) ≡ option_map seat_of o → (c : Component) × (o ≡ Some c) × (h ≡ c.handle) × (state ≡ c.state)
at_seat None h state e = absurd cc
at_seat (Some c) h state e = let p : (h, state) ≡ seat_of c = cc in (c, refl, ap (λ (s : Handle × State). s.0) p, ap (λ (s : Handle × State). s.1) p)

pub seats_some : (w : World) (i : ℕ) (handles : List Handle) (states : States) (h : Handle) (state : State) → AreFirstSeats i handles states w → Some (h, state) ≡ option_map seat_of (slice_get w.components i) → AreFirstSeats (suc i) (handles ++ h ∷ []) (states ++ state ∷ []) w
seats_some w i handles states h state A e =
    let x = at_seat (slice_get w.components i) h state e in
    let t = take_some w.components i x.0 x.1 in record {
      handles = (λ k. A.handles k ++ x.2 k ∷ []) ∙ sym (ap (map (λ (c : Component). c.handle)) t ∙ map_last (λ (c : Component). c.handle) (take i w.components) x.0);
      states = (λ k. A.states k ++ x.3 k ∷ []) ∙ sym (ap (map (λ (c : Component). c.state)) t ∙ map_last (λ (c : Component). c.state) (take i w.components) x.0);
    }

pub seats_same : (w : World) (i : ℕ) (handles : List Handle) (states : States) → AreFirstSeats i handles states w → None ≡ option_map seat_of (slice_get w.components i) → AreFirstSeats (suc i) handles states w
seats_same w i handles states A e =
    let t = take_none w.components i (no_seat (slice_get w.components i) e) in record {
      handles = A.handles ∙ sym (ap (map (λ (c : Component). c.handle)) t);
      states = A.states ∙ sym (ap (map (λ (c : Component). c.state)) t);
    }
  where
    no_seat : (o : Option Component) → None ≡ option_map seat_of o → o ≡ None
    no_seat None e = refl
    no_seat (Some c) e = absurd cc

-- ---- one seat more

pub seats_next : (w : World) (i : ℕ) (o : Option (Handle × State)) (handles : List Handle) (states : States) (handles' : List Handle) (states' : States) → AreFirstSeats i handles states w → o ≡ option_map seat_of (slice_get w.components i)
    → HasMore o handles states handles' states' → AreFirstSeats (i + 1) handles' states' w
seats_next w i None handles states handles' states' A e M =
    let n : suc i ≡ i + 1 = omega arith in
    subst (λ m. AreFirstSeats m handles' states' w) n (subst (λ (x : List Handle × States). AreFirstSeats (suc i) x.0 x.1 w) (λ k. (sym M.0 k, sym M.1 k)) (seats_same w i handles states A e))
seats_next w i (Some s) handles states handles' states' A e M =
    let n : suc i ≡ i + 1 = omega arith in
    subst (λ m. AreFirstSeats m handles' states' w) n (subst (λ (x : List Handle × States). AreFirstSeats (suc i) x.0 x.1 w) (λ k. (sym M.0 k, sym M.1 k)) (seats_some w i handles states s.0 s.1 A e))

pub counts_next : (i : ℕ) (o : Option (Handle × State)) (handles : List Handle) (states : States) (handles' : List Handle) (states' : States) → length handles ≤ i → length states ≡ length handles
    → HasMore o handles states handles' states' → (length handles' ≤ i + 1) × (length states' ≡ length handles')
counts_next i None handles states handles' states' le same M =
    let a : length handles' ≡ length handles = ap (λ (l : List Handle). length l) M.0 in
    let b : length states' ≡ length states = ap (λ (l : States). length l) M.1 in
    (omega (arith, le, a), omega (arith, same, a, b))
counts_next i (Some s) handles states handles' states' le same M =
    let a : length handles' ≡ length handles + 1 = ap (λ (l : List Handle). length l) M.0 ∙ length-append handles (s.0 ∷ []) in
    let b : length states' ≡ length states + 1 = ap (λ (l : States). length l) M.1 ∙ length-append states (s.1 ∷ []) in
    (omega (arith, le, a), omega (arith, same, a, b))

-- ---- no more

pub seats_all : (w : World) (i : ℕ) (handles : List Handle) (states : States) → AreFirstSeats i handles states w → length w.components ≤ i → AreSeats handles states w
seats_all w i handles states A few =
    let t = take_all i w.components few in record {
      handles = A.handles ∙ ap (map (λ (c : Component). c.handle)) t;
      states = A.states ∙ ap (map (λ (c : Component). c.state)) t;
    }
