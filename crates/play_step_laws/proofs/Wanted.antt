-- Which ports of a component whose ports rest give a header to its work.
use Rattle.std.proofs.Common.{◌≡◌, ℕ, Bool, true, false, not, ◌&&◌, List, filter, slice_get, Some, refl, sym, ◌∙◌, ap}
use Rattle.il_machine.specs.declared.port.PortKey.{PortKey}
use Rattle.il_machine.specs.declared.port.Port.{Port}
use Rattle.il_machine.specs.World.{Component, World, ports_of, port_of}
use Rattle.il_machine.specs.Claims.{has_ended, gives_header, wanted}
use Rattle.machine_laws.proofs.Accepting.{is_not}
use Rattle.play_model.specs.Play.{Play}
use Rattle.play_world_laws.specs.Cast.{Cast}
use Rattle.play_world_laws.specs.Wiring.{IsEnd}
use Rattle.play_world_laws.specs.Worlds.{IsBeforeRest}
use Rattle.play_world_laws.proofs.Wanted.{HasPort, IsLinkAt, IsPlayPort, end_at, filter_from, filter_in}
use Rattle.play_step_laws.proofs.Poised.{IsPoised}

module _ (x : Cast) (p : Play) (w : World) (c : ℕ) (a : Component) (U : IsPoised x p w c a) where
  pub wanted_is : wanted a ≡ filter (gives_header a) (ports_of a)
  wanted_is = let n = U.silent in rw n refl

  -- an input that has ended gives none
  gives_by : (input : Bool) (l : ℕ) (q : Port) → IsBeforeRest p c → IsLinkAt input (x.layout).network c l → IsEnd x l (end_at input x l) (end_at (not input) x l) input q
      → gives_header a q ≡ not (input && ((p.flow).link l).closed)
  gives_by true l q B I E =
      let h : has_ended a q.key.port ≡ ((p.flow).link l).closed = ap (λ (z : PortKey). has_ended a z.port) E.key ∙ (U.part).inputs B l I in
      rw (E.direction, h) refl
  gives_by false l q B I E = rw E.direction refl

  -- a header of the link may go to the work
  pub wanted_at : (input : Bool) (l : ℕ) → IsBeforeRest p c → IsLinkAt input (x.layout).network c l → (input && ((p.flow).link l).closed) ≡ false
      → (H : HasPort x l input a) × (j : ℕ) × (slice_get (wanted a) j ≡ Some H.port)
  wanted_at input l B I f =
      let H = U.its input l I in
      let g : gives_header a H.port ≡ true = gives_by input l H.port B I H.end ∙ ap not f in
      let r = filter_in (gives_header a) (ports_of a) (end_at input x l).port H.port H.there g in
      (H, r.0, ap (λ (qs : List Port). slice_get qs r.0) wanted_is ∙ r.1)

  pub wanted_from : (j : ℕ) (q : Port) → IsBeforeRest p c → slice_get (wanted a) j ≡ Some q
      → (P : IsPlayPort x c q) × ((P.input && ((p.flow).link P.link).closed) ≡ false) × (i : ℕ) × (port_of a i ≡ Some q)
  wanted_from j q B f =
      let r = filter_from (gives_header a) (ports_of a) j q (ap (λ (qs : List Port). slice_get qs j) (sym wanted_is) ∙ f) in
      let P = U.ports r.1 q r.2 in
      let g = sym (gives_by P.input P.link q B P.of_link P.end) ∙ r.0 in
      (P, is_not _ g, r.1, r.2)
