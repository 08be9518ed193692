-- A tunnel is set up.
use Rattle.std.proofs.Common.{◌≡◌, ◌≢◌, ◌⊎◌, inl, inr, ℕ, ◌<◌, Bool, true, false, not, ◌&&◌, ◌||◌, nat_eq, max, List, set, slice_get, Some, None, MatchOption, Result, Ok, refl, sym, ◌∙◌, ap, subst, eq-eqb, ne_eqb, arith}
use Rattle.std.proofs.lemmas.Bool.{cases_eq}
use Rattle.omx_types.specs.declared.handle.Handle.{Handle}
use Rattle.omx_types.specs.declared.error.OmxError.{OmxError}
use Rattle.omx_types.specs.declared.param.Supplier.{Supplier}
use Rattle.omx_types.specs.declared.param.Supplier.TheVariants.{Input, Unspecified}
use Rattle.il_machine.specs.declared.port.Port.{Port}
use Rattle.il_machine.specs.Answers.{Answers, Resolving, plain}
use Rattle.il_machine.specs.Due.{ClosesTo}
use Rattle.il_machine.specs.Headers.{seen}
use Rattle.il_machine.specs.Look.{look}
use Rattle.il_machine.specs.Tunnels.{BothPorts, SetupTunnel, agreed_of, both_joined, joined_to, setup_refusal, widened}
use Rattle.il_machine.specs.World.{Component, World, fresh_port, port_of, with_component}
use Rattle.machine_laws.proofs.Every.{set_else}
use Rattle.machine_laws.proofs.Keys.{at_there}
use Rattle.play_build_laws.specs.Assembly.{Assembly, IsLawful, component_at}
use Rattle.play_build_laws.specs.Stages.{AreBuilt, IsBuilt, Progress, id_at, setting_by, setting_of, state_by}
use Rattle.play_build_laws.proofs.Accepted.{tunnel_accepted}
use Rattle.play_build_laws.proofs.Calm.{built_closes}
use Rattle.play_build_laws.proofs.Changing.{IsOneEnd, end_put}
use Rattle.play_build_laws.proofs.Places.{resolved}
use Rattle.play_build_laws.proofs.Setting.{calm_state}
use Rattle.play_build_laws.proofs.Standing.{answered, built_with, held_at, port_at_end, unstarted}

-- the port of an end that is set and not joined
abbrev set_port : Assembly → Bool → ℕ → Port
set_port s side l = record { key = s.end side l; setting = setting_of s side l; state = fresh_port }

same_most : (n : ℕ) → max n n ≡ n
same_most n = omega arith

widened_so : (s : Assembly) (side other : Bool) (l : ℕ) → widened (set_port s side l) (set_port s other l) ≡ setting_of s side l
widened_so s side other l = λ i. record { definition = record { input = side; format = s.format l; count = same_most (s.count l) i; size = same_most (s.size l) i }; supplier = Unspecified }

-- its output alone is joined
abbrev half : Progress → ℕ → Progress
half p l = record p { joined = λ side k. (not side && nat_eq k l) || p.joined side k }

pub record IsJoinedOnce (s : Assembly) (p q : Progress) (l : ℕ) : Type 0 where
  pub factored : (c j : ℕ) → q.factored c j ≡ true → p.factored c j ≡ true
  pub filed : (c : ℕ) → q.filed c ≡ p.filed c
  pub made : q.made ≡ p.made
  pub set : (side : Bool) → p.set side l ≡ true
  pub same_set : (side : Bool) (k : ℕ) → q.set side k ≡ p.set side k
  pub unjoined : (side : Bool) → p.joined side l ≡ false
  pub joined : (side : Bool) → q.joined side l ≡ true
  pub others : (side : Bool) (k : ℕ) → k ≢ l → q.joined side k ≡ p.joined side k

module _ (s : Assembly) (p q : Progress) (l : ℕ) (O : IsJoinedOnce s p q l) where
  half_here : (half p l).joined false l ≡ true
  half_here = let e : nat_eq l l ≡ true = eq-eqb l l refl in rw e refl

  half_there : (side : Bool) (k : ℕ) → k ≢ l → (half p l).joined side k ≡ p.joined side k
  half_there true k n = refl
  half_there false k n = let e : nat_eq k l ≡ false = ne_eqb k l n in rw e refl

  first_half : IsOneEnd s p (half p l) false l
  first_half = record { factored = λ c j t. t; filed = λ c. refl; set = λ other k d. inr refl; joined = by_side }
    where
      by_side : (other : Bool) (k : ℕ) → k < s.links → ((other ≡ false) × (k ≡ l)) ⊎ ((half p l).joined other k ≡ p.joined other k)
      by_side true k d = inr refl
      by_side false k d = elim (cases_eq k l) [ inl e ↦ inl (refl, e) | inr n ↦ inr (half_there false k n) ]

  second_half : IsOneEnd s (half p l) q true l
  second_half = record { factored = O.factored; filed = O.filed; set = λ other k d. inr (O.same_set other k); joined = by_side }
    where
      by_side : (other : Bool) (k : ℕ) → k < s.links → ((other ≡ true) × (k ≡ l)) ⊎ (q.joined other k ≡ (half p l).joined other k)
      by_side true k d = elim (cases_eq k l) [ inl e ↦ inl (refl, e) | inr n ↦ inr (O.others true k n) ]
      by_side false k d = elim (cases_eq k l) [
        | inl e ↦ inr (ap (q.joined false) e ∙ (O.joined false ∙ (sym half_here ∙ ap ((half p l).joined false) (sym e))))
        | inr n ↦ inr (O.others false k n ∙ sym (half_there false k n))
      ]

-- the port at an end, where it is set and not joined
pub set_there_at : (s : Assembly) (p : Progress) (side : Bool) (l : ℕ) (b : l < s.links) (cs : List Component) (a : Component) → AreBuilt s p cs → slice_get cs (component_at s side l) ≡ Some a
    → p.set side l ≡ true → p.joined side l ≡ false → port_of a (s.end side l).port ≡ Some (set_port s side l)
set_there_at s p side l b cs a A e t u =
    let P = port_at_end s p side l a (A.ends side l a b e) (A.each (component_at s side l) a e).number in
    let setting : (P.port).setting ≡ setting_of s side l = P.setting ∙ ap (λ (x : Bool). setting_by s x side l) t in
    let state : (P.port).state ≡ fresh_port = P.state ∙ ap (λ (x : Bool). state_by s x side l) u in
    let same : P.port ≡ set_port s side l = λ i. record { key = P.key i; setting = setting i; state = state i } in
    P.there ∙ ap (λ (x : Port). Some x) same

pub tunnel_set : (s : Assembly) (L : IsLawful s) (p q : Progress) (handles : List Handle) (l : ℕ) (b : l < s.links) (O : IsJoinedOnce s p q l) (w v : World) (h g : Handle) (result : Result Supplier OmxError)
    → IsBuilt s p handles w → slice_get handles (component_at s false l) ≡ Some h → slice_get handles (component_at s true l) ≡ Some g → SetupTunnel w (id_at s false l h) (id_at s true l g) result v
    → (result ≡ Ok Input) × IsBuilt s q handles v
tunnel_set s L p q handles l b O w v h g result W e f r =
    let i : ℕ = component_at s false l in
    let j : ℕ = component_at s true l in
    let k : ℕ = (s.end false l).port in
    let m : ℕ = (s.end true l).port in
    let H = held_at s p handles w W i h e in
    let G = held_at s p handles w W j g f in
    let c : Component = H.component in
    let d : Component = G.component in
    let B = (W.components).each i c H.there in
    let D = (W.components).each j d G.there in
    let n = L.apart l b in
    let output = set_there_at s p false l b w.components c W.components H.there (O.set false) (O.unjoined false) in
    let input = set_there_at s p true l b w.components d W.components G.there (O.set true) (O.unjoined true) in
    let numbers : c.handle.generation ≢ d.handle.generation = λ z. n (sym B.number ∙ (z ∙ D.number)) in
    let accepted = tunnel_accepted c d (port_of c k) (port_of d m) (set_port s false l) (set_port s true l) (unstarted s p i c B) (unstarted s p j d D) output input refl refl numbers refl refl refl in
    let refusal : setup_refusal (look w).headers c d (port_of c k) (port_of d m) ≡ None = ap (λ hs. setup_refusal (seen hs) c d (port_of c k) (port_of d m)) W.headers ∙ accepted in
    let R = resolved plain w h result v (λ x y. Resolving plain w g result v (λ x' y'.
    Answers (setup_refusal (look w).headers y y' (port_of y k) (port_of y' m)) result w v (λ supplier. BothPorts (port_of y k) (port_of y' m) (λ a a'.
    (supplier ≡ agreed_of a a') × ClosesTo (both_joined supplier x y a x' y' a' w) v)))) i c H.names H.there r in
    let S = resolved plain w g result v (λ x' y'.
    Answers (setup_refusal (look w).headers c y' (port_of c k) (port_of y' m)) result w v (λ supplier. BothPorts (port_of c k) (port_of y' m) (λ a a'.
    (supplier ≡ agreed_of a a') × ClosesTo (both_joined supplier i c a x' y' a' w) v))) j d G.names G.there R in
    let T = answered (setup_refusal (look w).headers c d (port_of c k) (port_of d m)) result w v (λ supplier. BothPorts (port_of c k) (port_of d m) (λ a a'.
    (supplier ≡ agreed_of a a') × ClosesTo (both_joined supplier i c a j d a' w) v)) refusal S in
    let one = at_there (port_of c k) (λ a. MatchOption (port_of d m) ⊥ (λ a'. (T.0 ≡ agreed_of a a') × ClosesTo (both_joined T.0 i c a j d a' w) v)) (set_port s false l) output T.2 in
    let two = at_there (port_of d m) (λ a'. (T.0 ≡ agreed_of (set_port s false l) a') × ClosesTo (both_joined T.0 i c (set_port s false l) j d a' w) v) (set_port s true l) input one in
    let closes : ClosesTo (both_joined Input i c (set_port s false l) j d (set_port s true l) w) v = subst (λ (x : Supplier). ClosesTo (both_joined x i c (set_port s false l) j d (set_port s true l) w) v) two.0 two.1 in
    let c' : Component = joined_to (set_port s true l) Input (set_port s false l) c in
    let d' : Component = joined_to (set_port s false l) Input (set_port s true l) d in
    let A = end_put s L p (half p l) false l b (first_half s p q l O) w.components c W.components H.there (widened (set_port s false l) (set_port s true l)) (state_by s true false l)
    (widened_so s false true l ∙ ap (λ (x : Bool). setting_by s x false l) (sym (O.set false)))
    (ap (λ (x : Bool). state_by s x false l) (sym (half_here s p q l O))) (calm_state s true false l) in
    let W1 : IsBuilt s (half p l) handles (with_component i c' w) = built_with s p (half p l) handles w i c c' W H.there refl refl (λ x. refl) A in
    let there : slice_get (set w.components i c') j ≡ Some d = set_else w.components i j c' (λ z. n (sym z)) ∙ G.there in
    let A2 = end_put s L (half p l) q true l b (second_half s p q l O) (set w.components i c') d A there (widened (set_port s true l) (set_port s false l)) (state_by s true true l)
    (widened_so s true false l ∙ ap (λ (x : Bool). setting_by s x true l) (sym (O.same_set true l ∙ O.set true)))
    (ap (λ (x : Bool). state_by s x true l) (sym (O.joined true))) (calm_state s true true l) in
    let effect : World = with_component j d' (with_component i c' w) in
    let W2 : IsBuilt s q handles effect = built_with s (half p l) q handles (with_component i c' w) j d d' W1 there refl O.made O.filed A2 in
    (T.1 ∙ ap (λ (x : Supplier). Ok x) two.0, subst (IsBuilt s q handles) (sym (built_closes s q effect v A2 closes)) W2)
