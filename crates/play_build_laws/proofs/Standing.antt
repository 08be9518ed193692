-- The component that a handle names in a world of an assembly, and the world after one component has changed.
use Rattle.std.proofs.Common.{◌≡◌, ◌≢◌, ◌⊎◌, inl, inr, ℕ, zero, suc, ◌+◌, ◌<◌, ◌≤◌, Bool, nat_lt, List, length-set, set, slice_get, Option, Some, None, Result, Ok, Err, refl, sym, ◌∙◌, ap, subst, arith}
use Rattle.std.proofs.lemmas.Bool.{lt-ltb, le-ltb}
use Rattle.omx_types.specs.declared.handle.Handle.{Handle}
use Rattle.omx_types.specs.declared.error.OmxError.{OmxError}
use Rattle.il_machine.specs.Answers.{Answers}
use Rattle.il_machine.specs.World.{Component, World, number_of, place_of, port_of, with_component}
use Rattle.il_machine.specs.declared.port.Port.{Port}
use Rattle.il_machine.proofs.Joined.{port_there}
use Rattle.play_build_laws.specs.Assembly.{Assembly, component_at}
use Rattle.play_build_laws.specs.Stages.{AreBuilt, HasEnd, IsBuilt, IsBuiltAs, Progress, file_by, setting_by, state_by, stream_by}
use Rattle.play_build_laws.proofs.Accepted.{IsUnstarted}
use Rattle.play_build_laws.proofs.Places.{from_mapped, mapped_set, named}

pub record IsHeld (w : World) (c : ℕ) (h : Handle) : Type 0 where
  pub component : Component
  pub there : slice_get w.components c ≡ Some component
  pub handle : component.handle ≡ h
  pub names : place_of h w.components ≡ Some c

pub held_at : (s : Assembly) (p : Progress) (handles : List Handle) (w : World) → IsBuilt s p handles w → (c : ℕ) (h : Handle) → slice_get handles c ≡ Some h → IsHeld w c h
held_at s p handles w W c h e =
    let m = from_mapped (λ (a : Component). a.handle) w.components c h (ap (λ (hs : List Handle). slice_get hs c) W.handles_are ∙ e) in
    record { component = m.0; there = m.1; handle = m.2; names = ap (λ (g : Handle). place_of g w.components) (sym m.2) ∙ named s p w.components W.components c m.0 m.1 }

pub unstarted : (s : Assembly) (p : Progress) (c : ℕ) (a : Component) → IsBuiltAs s p c a → IsUnstarted a
unstarted s p c a B = record { loaded = ap (λ (y : Component). y.state) B.fresh_else; rests = ap (λ (y : Component). y.pending) B.fresh_else }

-- the port at an end of a link
pub record IsPortAt (s : Assembly) (p : Progress) (side : Bool) (l : ℕ) (a : Component) : Type 0 where
  pub port : Port
  pub there : port_of a (s.end side l).port ≡ Some port
  pub key : port.key ≡ s.end side l
  pub setting : port.setting ≡ setting_by s (p.set side l) side l
  pub state : port.state ≡ state_by s (p.joined side l) side l

pub port_at_end : (s : Assembly) (p : Progress) (side : Bool) (l : ℕ) (a : Component) → HasEnd s p side l a → number_of a ≡ component_at s side l → IsPortAt s p side l a
port_at_end s p side l a E n = record {
  port = record { key = record { component = number_of a; port = (s.end side l).port }; setting = setting_by s (p.set side l) side l; state = state_by s (p.joined side l) side l };
  there = port_there a (s.end side l).port _ _ E.setting E.state;
  key = λ i. record { component = n i; port = (s.end side l).port };
  setting = refl;
  state = refl;
}

-- what a call answers that isn't refused
pub answered : {T : Type 0} (refusal : Option OmxError) (result : Result T OmxError) (w v : World) (Accepted : T → Type 0) → refusal ≡ None → Answers refusal result w v Accepted → (x : T) × (result ≡ Ok x) × Accepted x
answered (Some error) result w v Accepted e h = absurd cc
answered None (Ok x) w v Accepted e h = (x, refl, h)
answered None (Err error) w v Accepted e h = absurd h

-- one component in place of another
pub built_with : (s : Assembly) (p q : Progress) (handles : List Handle) (w : World) (i : ℕ) (a b : Component) → IsBuilt s p handles w → slice_get w.components i ≡ Some a → b.handle ≡ a.handle → q.made ≡ p.made
    → ((c : ℕ) → q.filed c ≡ p.filed c) → AreBuilt s q (set w.components i b) → IsBuilt s q handles (with_component i b w)
built_with s p q handles w i a b W e h m f A = record {
  units = W.units;
  handles_are = mapped_set (λ (y : Component). y.handle) w.components i a b e h ∙ W.handles_are;
  many = length-set w.components i b ∙ (W.many ∙ sym m);
  numbered = W.numbered ∙ sym m;
  components = A;
  streams = λ c l. W.streams c (subst (λ (n : ℕ). c < n) m l) ∙ ap (λ (t : Bool). Some (stream_by (file_by s t c) c)) (sym (f c));
  headers = W.headers;
  unmade = W.unmade;
  unwaited = W.unwaited;
  given = W.given;
}

-- ---- numbers

pub next_else : (k l : ℕ) → k ≢ l → nat_lt k (l + 1) ≡ nat_lt k l
next_else k l n = elim (below_or k l) [
  | inl h ↦ lt-ltb k (l + 1) (omega arith) ∙ sym (lt-ltb k l h)
  | inr h ↦ le-ltb k (l + 1) (omega arith) ∙ sym (le-ltb k l h)
]
  where
    below_or : (i j : ℕ) → (i < j) ⊎ (j ≤ i)
    below_or zero zero = inr (omega arith)
    below_or zero (suc j) = inl (omega arith)
    below_or (suc i) zero = inr (omega arith)
    below_or (suc i) (suc j) = elim (below_or i j) [ inl h ↦ inl (omega arith) | inr h ↦ inr (omega arith) ]
