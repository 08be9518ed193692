-- A header goes on, or comes back, in a play's world: the model's two moves.
use Rattle.std.proofs.Common.{◌≡◌, ◌≢◌, inl, inr, ℕ, Bool, List, refl, eq-eqb, ne_eqb}
use Rattle.std.proofs.lemmas.Bool.{cases_eq}
use Rattle.il_machine.specs.World.{HeaderRecord}
use Rattle.play_model.specs.Network.{LinkState, Flow}
use Rattle.play_model.specs.Moves.{with_link}
use Rattle.play_world_laws.specs.View.{LinkEnds, link_view}

-- what one link's change does to a field that it keeps
pub kept_by : {A : Type 0} (f : LinkState → A) (change : LinkState → LinkState) (l : ℕ) (s : Flow) → f (change (s.link l)) ≡ f (s.link l) → (k : ℕ) → f ((with_link l change s).link k) ≡ f (s.link k)
kept_by f change l s h k = elim (cases_eq k l) [
  | inl e ↦ rw (e, eq-eqb l l refl) h
  | inr n ↦ rw (ne_eqb k l n) refl
]

pub changed_here : (change : LinkState → LinkState) (l : ℕ) (s : Flow) → (with_link l change s).link l ≡ change (s.link l)
changed_here change l s = rw (eq-eqb l l refl) refl

pub changed_else : (change : LinkState → LinkState) (l : ℕ) (s : Flow) (k : ℕ) → k ≢ l → (with_link l change s).link k ≡ s.link k
changed_else change l s k n = rw (ne_eqb k l n) refl

-- the view of a link that took as much and is as open
pub view_as : (y : LinkEnds) (taken : ℕ) (closed : Bool) (hs : List HeaderRecord) → taken ≡ y.taken → closed ≡ y.closed → link_view (record y { taken = taken; closed = closed }) hs ≡ link_view y hs
view_as y taken closed hs a b = λ i. link_view (record y { taken = a i; closed = b i }) hs
