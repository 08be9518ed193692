-- The ports of a play's component by the links that they are ends of, and which of them give a header to its work.
use Rattle.std.proofs.Common.{◌≡◌, inl, inr, ℕ, zero, suc, ◌<◌, Bool, true, false, not, List, [], ◌∷◌, filter, map, slice_get, Some, None, option_map, refl, sym, ◌∙◌, ap}
use Rattle.std.proofs.lemmas.Option.{slice_get-map}
use Rattle.il_machine.specs.declared.port.PortKey.{PortKey}
use Rattle.il_machine.specs.declared.port.Port.{Port}
use Rattle.il_machine.specs.World.{Component, Picked, port_of}
use Rattle.machine_laws.proofs.Finding.{either}
use Rattle.machine_laws.proofs.Keys.{none_or_some}
use Rattle.play_model.specs.Network.{Network, IsInput, IsOutput}
use Rattle.play_world_laws.specs.Cast.{Cast, script_place, output_at, input_at}
use Rattle.play_world_laws.specs.Wiring.{IsEnd}

-- ---- lists

pub filter_in : {X : Type 0} (test : X → Bool) (xs : List X) (i : ℕ) (x : X) → slice_get xs i ≡ Some x → test x ≡ true → (j : ℕ) × (slice_get (filter test xs) j ≡ Some x)
filter_in test [] i x e t = absurd cc
filter_in test (y ∷ xs) zero x e t = let s : y ≡ x = cc in let u : test y ≡ true = ap test s ∙ t in rw u (0, e)
filter_in test (y ∷ xs) (suc i) x e t =
    let r = filter_in test xs i x e t in
    either (test y) (λ u. rw u (suc r.0, r.1)) (λ u. rw u r)

from_kept : {X : Type 0} (test : X → Bool) (y : X) (xs : List X) (x : X) → ((j : ℕ) → slice_get (filter test xs) j ≡ Some x → (test x ≡ true) × (i : ℕ) × (slice_get xs i ≡ Some x))
    → (j : ℕ) → test y ≡ true → slice_get (y ∷ filter test xs) j ≡ Some x → (test x ≡ true) × (i : ℕ) × (slice_get (y ∷ xs) i ≡ Some x)
from_kept test y xs x r zero u e = let s : y ≡ x = cc in (ap test (sym s) ∙ u, 0, e)
from_kept test y xs x r (suc j) u e = let k = r j e in (k.0, suc k.1, k.2)

pub filter_from : {X : Type 0} (test : X → Bool) (xs : List X) (j : ℕ) (x : X) → slice_get (filter test xs) j ≡ Some x → (test x ≡ true) × (i : ℕ) × (slice_get xs i ≡ Some x)
filter_from test [] j x e = absurd cc
filter_from test (y ∷ xs) j x e = either (test y)
    (λ u. from_kept test y xs x (λ k f. filter_from test xs k x f) j u (rw u at e))
    (λ u. let r = filter_from test xs j x (rw u at e) in (r.0, suc r.1, r.2))

-- ---- the ends of links

-- the end at the input, or at the output
abbrev pub end_at : Bool → Cast → ℕ → PortKey
end_at true x l = input_at x l
end_at false x l = output_at x l

abbrev pub IsLinkAt : Bool → Network → ℕ → ℕ → Type 0
IsLinkAt true net c l = IsInput net c l
IsLinkAt false net c l = IsOutput net c l

pub link_below : (input : Bool) (net : Network) (c l : ℕ) → IsLinkAt input net c l → l < net.links
link_below true net c l I = I.below
link_below false net c l I = I.below

pub end_place : (input : Bool) (x : Cast) (c l : ℕ) → IsLinkAt input (x.layout).network c l → (end_at input x l).component ≡ script_place x c
end_place true x c l I = ap (λ (k : ℕ). script_place x k) I.taken_by
end_place false x c l I = ap (λ (k : ℕ). script_place x k) I.given_by

-- a port of a component of a play
pub record IsPlayPort (x : Cast) (c : ℕ) (q : Port) : Type 0 where
  pub link : ℕ
  pub input : Bool
  pub of_link : IsLinkAt input (x.layout).network c link
  pub end : IsEnd x link (end_at input x link) (end_at (not input) x link) input q

-- the port of the component at that end
pub record HasPort (x : Cast) (l : ℕ) (input : Bool) (a : Component) : Type 0 where
  pub port : Port
  pub there : port_of a (end_at input x l).port ≡ Some port
  pub end : IsEnd x l (end_at input x l) (end_at (not input) x l) input port

-- ---- the headers of a work, by the wanted ports

module _ (ps : List Port) (xs : List Picked) (h : map (λ (y : Picked). y.port) xs ≡ map (λ (q : Port). q.key.port) ps) where
  pub pick_at : (j : ℕ) (q : Port) → slice_get ps j ≡ Some q → (y : Picked) × (slice_get xs j ≡ Some y) × (y.port ≡ q.key.port)
  pick_at j q e =
      let a = slice_get-map (λ (y : Picked). y.port) xs j in
      let b = slice_get-map (λ (q : Port). q.key.port) ps j in
      let s : option_map (λ (y : Picked). y.port) (slice_get xs j) ≡ Some q.key.port = sym a ∙ (ap (λ (l : List ℕ). slice_get l j) h ∙ (b ∙ rw e refl)) in
      elim (none_or_some (slice_get xs j)) [
        | inl n ↦ let z : None ≡ Some q.key.port = rw n at s in absurd cc
        | inr r ↦ let z : Some (r.0).port ≡ Some q.key.port = rw r.1 at s in (r.0, r.1, cc)
      ]

  pub pick_from : (j : ℕ) (y : Picked) → slice_get xs j ≡ Some y → (q : Port) × (slice_get ps j ≡ Some q) × (y.port ≡ q.key.port)
  pick_from j y e =
      let a = slice_get-map (λ (y : Picked). y.port) xs j in
      let b = slice_get-map (λ (q : Port). q.key.port) ps j in
      let s : option_map (λ (q : Port). q.key.port) (slice_get ps j) ≡ Some y.port = sym b ∙ (ap (λ (l : List ℕ). slice_get l j) (sym h) ∙ (a ∙ rw e refl)) in
      elim (none_or_some (slice_get ps j)) [
        | inl n ↦ let z : None ≡ Some y.port = rw n at s in absurd cc
        | inr r ↦ let z : Some (r.0).key.port ≡ Some y.port = rw r.1 at s in (r.0, r.1, cc)
      ]
