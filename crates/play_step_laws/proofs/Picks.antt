-- The headers of a component's work by the links that they belong to.
use Rattle.std.proofs.Common.{◌≡◌, ◌≢◌, ◌⊎◌, inl, inr, ℕ, ◌<◌, Bool, true, false, ◌&&◌, List, map, slice_get, Some, refl, sym, ◌∙◌, ap, arith}
use Rattle.std.proofs.lemmas.Bool.{cases_eq}
use Rattle.il_machine.specs.declared.port.PortKey.{PortKey}
use Rattle.il_machine.specs.declared.port.Port.{Port}
use Rattle.il_machine.specs.World.{Component, Picked, World}
use Rattle.il_machine.specs.Claims.{wanted}
use Rattle.machine_laws.proofs.Finding.{either}
use Rattle.play_model.specs.Network.{IsInput}
use Rattle.play_model.specs.Play.{Play}
use Rattle.play_world_laws.specs.Cast.{Cast, links_of, giver_of, taker_of}
use Rattle.play_world_laws.specs.Worlds.{IsBeforeRest}
use Rattle.play_world_laws.proofs.Wanted.{IsLinkAt, pick_at, pick_from}
use Rattle.play_step_laws.proofs.Wanted.{wanted_at, wanted_from}
use Rattle.play_world_laws.proofs.Picks.{IsPick}
use Rattle.play_step_laws.proofs.Poised.{IsPoised}

module _ (x : Cast) (p : Play) (w : World) (c : ℕ) (a : Component) (U : IsPoised x p w c a) (B : IsBeforeRest p c)
    (xs : List Picked) (h : map (λ (y : Picked). y.port) xs ≡ map (λ (q : Port). q.key.port) (wanted a)) where
  pub pick_link : (j : ℕ) (y : Picked) → slice_get xs j ≡ Some y → (l : ℕ) × (input : Bool) × IsPick x p c xs j y l input
  pick_link j y f =
      let r = pick_from (wanted a) xs h j y f in
      let V = wanted_from x p w c a U j r.0 B r.1 in
      let P = V.0 in
      (P.link, P.input, record { there = f; of_link = P.of_link; port = r.2 ∙ ap (λ (z : PortKey). z.port) (P.end).key; open_ = V.1 })

  pub link_pick : (input : Bool) (l : ℕ) → IsLinkAt input (x.layout).network c l → (input && ((p.flow).link l).closed) ≡ false → (j : ℕ) × (y : Picked) × IsPick x p c xs j y l input
  link_pick input l I f =
      let V = wanted_at x p w c a U input l B I f in
      let r = pick_at (wanted a) xs h V.1 (V.0).port V.2 in
      (V.1, r.0, record { there = r.1; of_link = I; port = r.2 ∙ ap (λ (z : PortKey). z.port) ((V.0).end).key; open_ = f })

  -- some header of the work is the link's, or none
  pub link_picked : (k : ℕ) → k < links_of x → ((j : ℕ) × (y : Picked) × (input : Bool) × IsPick x p c xs j y k input)
      ⊎ ((j l : ℕ) (y : Picked) (input : Bool) → IsPick x p c xs j y l input → k ≢ l)
  link_picked k m = elim (cases_eq (taker_of x k) c) [
    | inl t ↦ either ((p.flow).link k).closed
        (λ f. inr (λ j l y input P s. closed_not j l y input k m (record { below = m; taken_by = t }) f P s))
        (λ f. let r = link_pick true k (record { below = m; taken_by = t }) f in inl (r.0, r.1, true, r.2))
    | inr n ↦ elim (cases_eq (giver_of x k) c) [
      | inl g ↦ let r = link_pick false k (record { below = m; given_by = g }) refl in inl (r.0, r.1, false, r.2)
      | inr o ↦ inr (λ j l y input P s. other_not input l k n o P.of_link s)
    ]
  ]
    where
      other_not : (input : Bool) (l k : ℕ) → taker_of x k ≢ c → giver_of x k ≢ c → IsLinkAt input (x.layout).network c l → k ≢ l
      other_not true l k n o I s = n (ap (taker_of x) s ∙ I.taken_by)
      other_not false l k n o I s = o (ap (giver_of x) s ∙ I.given_by)

      closed_by : (input : Bool) (l k : ℕ) → k < links_of x → IsInput (x.layout).network c k → IsLinkAt input (x.layout).network c l → k ≡ l → input ≡ true
      closed_by true l k m I K s = refl
      closed_by false l k m I K s =
          let o = (((U.cast).layout).network).order k m in
          let g : giver_of x k ≡ c = ap (giver_of x) s ∙ K.given_by in
          let t = I.taken_by in
          absurd (omega arith)

      closed_not : (j l : ℕ) (y : Picked) (input : Bool) (k : ℕ) → k < links_of x → IsInput (x.layout).network c k → ((p.flow).link k).closed ≡ true → IsPick x p c xs j y l input → k ≢ l
      closed_not j l y input k m I f P s =
          let i = closed_by input l k m I P.of_link s in
          let g : ((p.flow).link l).closed ≡ true = ap (λ (z : ℕ). ((p.flow).link z).closed) (sym s) ∙ f in
          let o : true ≡ false = sym (ap (λ (u : Bool). u && ((p.flow).link l).closed) i ∙ g) ∙ P.open_ in
          absurd cc
