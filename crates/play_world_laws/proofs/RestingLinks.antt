-- A link both of whose ends rest: no work of theirs has a header of it.
use Rattle.std.proofs.Common.{◌≡◌, ◌≢◌, ◌⊎◌, inl, inr, ℕ, ◌<◌, ◌≤◌, Bool, true, false, nat_le, [], slice_get, Some, None, refl, leb-true, leb-false, arith}
use Rattle.il_machine.specs.declared.port.PortKey.{PortKey}
use Rattle.il_machine.specs.World.{Component, World}
use Rattle.machine_laws.proofs.Finding.{either}
use Rattle.machine_laws.proofs.Keys.{none_or_some}
use Rattle.play_model.specs.Changes.{IsDisabling, port_at}
use Rattle.play_model.specs.Play.{Play, component_at}
use Rattle.play_world_laws.specs.Cast.{input_at, links_of, output_at}
use Rattle.play_world_laws.specs.Wiring.{work_in}
use Rattle.play_world_laws.specs.PlayWorlds.{IsPlayWorld, PlayCast}
use Rattle.play_world_laws.proofs.Turning.{half_of, no_work_at}
use Rattle.play_world_laws.proofs.Sides.{IsSide, side}

-- the components don't run, or the port at this side is disabling
abbrev pub IsResting : PlayCast → Play → ℕ → Bool → Type 0
IsResting x p l s = (p.phase ≢ 2) ⊎ ((((x.cast).layout).is_late l ≡ true) × IsDisabling (port_at s (p.change l)))

worked_none : (w : World) (key : PortKey) (i : ℕ) (a : Component) → key.component ≡ i → slice_get w.components i ≡ Some a → a.work ≡ None → work_in w.components key ≡ []
worked_none w key i a n e f = rw (n, e, f) refl

module _ (x : PlayCast) (recent : ℕ) (p : Play) (w : World) (W : IsPlayWorld x recent p w) (l : ℕ) (b : l < links_of x.cast) (s0 : Bool) where
  -- both ports are below Steady again where one is disabling
  pub low : (o : Bool) → ((x.cast).layout).is_late l ≡ true → IsDisabling (port_at s0 (p.change l)) → (port_at o (p.change l) < 7) × (3 ≤ (p.change l).step) × ((p.change l).step ≤ 4)
  low o t d =
      let K = (W.reached).changes l b in
      let h = half_of (p.change l) K.order s0 (omega arith) (omega arith) in
      let most : (p.change l).step ≤ 4 = either (nat_le (p.change l).step 4) (λ u. leb-true (p.change l).step 4 u) (λ u.
      let five = leb-false (p.change l).step 4 u in
      absurd (not_low s0 ((K.order).told (omega arith)) d)) in
      (waits o (let a = (K.order).output_waits (omega arith) in omega arith) (let a = (K.order).input_waits (omega arith) in omega arith), h.0, most)
    where
      not_low : (s : Bool) → (4 ≤ (p.change l).output) × (4 ≤ (p.change l).input) → IsDisabling (port_at s (p.change l)) → ⊥
      not_low true h e = let a = h.0 in omega arith
      not_low false h e = let a = h.1 in omega arith

      waits : (s : Bool) → (p.change l).output < 7 → (p.change l).input < 7 → port_at s (p.change l) < 7
      waits true g h = g
      waits false g h = h

  module _ (L : IsResting x p l s0) where
    side_free : (o : Bool) → (S : IsSide x recent p w l o) → (S.component).work ≡ None
    side_free o S = elim L [
      | inl other ↦ elim (none_or_some (S.component).work) [
        | inl n ↦ n
        | inr k ↦ absurd (other ((S.actor).work k.0 k.1).phase)
      ]
      | inr d ↦ let r = low o d.0 d.1 in no_work_at x recent p w W l b d.0 (component_at (x.cast).layout o l) o refl S.component S.there S.actor r.0 (let s = r.1 in omega arith)
    ]

    pub none_filling : work_in w.components (output_at x.cast l) ≡ []
    none_filling = let S = side x recent p w W l true b in worked_none w (output_at x.cast l) _ S.component refl S.there (side_free true S)

    pub none_draining : work_in w.components (input_at x.cast l) ≡ []
    none_draining = let S = side x recent p w W l false b in worked_none w (input_at x.cast l) _ S.component refl S.there (side_free false S)
