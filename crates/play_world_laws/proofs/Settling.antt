-- Where all ports of a component are settled, every header of its links is at home, and where the model has it so they are settled.
use Rattle.std.proofs.Common.{◌≡◌, ◌≢◌, ℕ, ◌+◌, ◌<◌, Bool, true, false, not, ◌&&◌, List, [], ◌∷◌, ◌++◌, length, map, Some, refl, sym, ◌∙◌, ap, eqb-true, eq-eqb, arith}
use Rattle.il_machine.specs.declared.port.Port.{Port}
use Rattle.il_machine.specs.declared.port.PortKey.{PortKey}
use Rattle.il_machine.specs.Headers.{is_away, is_for, seen}
use Rattle.il_machine.specs.Ports.{is_supplied_by, settled}
use Rattle.il_machine.specs.Sound.{port_at}
use Rattle.il_machine.specs.World.{World}
use Rattle.machine_laws.proofs.Lookups.{port_at_is}
use Rattle.machine_laws.proofs.Parts.{parts_of, ports_in_list}
use Rattle.play_model.specs.Network.{LinkState}
use Rattle.play_model.specs.Play.{IsSettled, Play}
use Rattle.play_world_laws.specs.Tunnel.{IsTunnel, IsWorkedAt, Supplies}
use Rattle.play_world_laws.specs.View.{filled}
use Rattle.play_world_laws.proofs.Away.{away_in_lists}
use Rattle.play_world_laws.proofs.Counts.{to_input, to_output}
use Rattle.play_world_laws.specs.Cast.{giver_of, input_at, links_of, output_at, script_place, supplier_of, taker_of}
use Rattle.play_world_laws.specs.Wiring.{link_to, work_in}
use Rattle.play_world_laws.proofs.Counting.{count_same, same_tests}
use Rattle.play_world_laws.specs.PlayWorlds.{IsPlayWorld, PlayCast, end_of_link}
use Rattle.play_world_laws.proofs.Sides.{IsSide, home_supplies, link_of, side, supplies}
use Rattle.play_world_laws.proofs.CalmHappenings.{IsCalmEnd, joined, no_works}

pub no_length : {A : Type 0} (xs : List A) → length xs ≡ 0 → xs ≡ []
no_length [] e = refl
no_length (y ∷ xs) e = absurd (omega arith)

no_map : {A B : Type 0} (f : A → B) (xs : List A) → map f xs ≡ [] → xs ≡ []
no_map f [] e = refl
no_map f (y ∷ xs) e = absurd cc

pub twice : (s : Bool) → not (not s) ≡ s
twice true = refl
twice false = refl

module _ (x : PlayCast) (recent : ℕ) (p : Play) (w : World) (W : IsPlayWorld x recent p w) (n : p.phase ≢ 2) (l : ℕ) (b : l < links_of x.cast) where
  abbrev by : Bool
  by = ((x.cast).layout).by_output l

  abbrev at : (s : Bool) → IsSide x recent p w l s
  at s = side x recent p w W l s b

  has_tunnel : (s : Bool) → ((at s).its).port.state.link ≡ Some (link_to x.cast l (end_of_link x.cast (not s) l))
  has_tunnel s = link_of x recent p w W l (joined x recent p w W n l b) s ((at s).its).port (end_of_link x.cast s l) (end_of_link x.cast (not s) l) ((at s).its).end

  found : (s : Bool) → port_at (end_of_link x.cast s l) w.components ≡ Some ((at s).its).port
  found true = port_at_is w.numbered (script_place x.cast (giver_of x.cast l)) (output_at x.cast l) w.components (at true).component (W.sound).rising (at true).there ((at true).actor).number ∙ ((at true).its).there
  found false = port_at_is w.numbered (script_place x.cast (taker_of x.cast l)) (input_at x.cast l) w.components (at false).component (W.sound).rising (at false).there ((at false).actor).number ∙ ((at false).its).there

  apart : (s : Bool) → (end_of_link x.cast s l).component ≢ (end_of_link x.cast (not s) l).component
  apart true = (W.wired l b).apart
  apart false = λ e. (W.wired l b).apart (sym e)

  abbrev tunnel : (s : Bool) → IsTunnel (ports_in_list w.components) (end_of_link x.cast s l) (end_of_link x.cast (not s) l) (supplier_of x.cast l)
  tunnel s = record {
    one = ((at s).its).port;
    other = ((at (not s)).its).port;
    at_one = found s;
    at_other = found (not s);
    on = has_tunnel s;
    back = has_tunnel (not s) ∙ ap (λ (t : Bool). Some (link_to x.cast l (end_of_link x.cast t l))) (twice s);
    apart = apart s;
  }

  worked : (s : Bool) → IsWorkedAt w.components (end_of_link x.cast s l) (work_in w.components (end_of_link x.cast s l))
  worked true = let S = at true in record { place = script_place x.cast (giver_of x.cast l); component = S.component; there = S.there; named = (S.actor).number; numbers = let e = S.there in rw e refl }
  worked false = let S = at false in record { place = script_place x.cast (taker_of x.cast l); component = S.component; there = S.there; named = (S.actor).number; numbers = let e = S.there in rw e refl }

  -- the end by which the link is supplied makes the headers
  supplied : Supplies ((at by).its).port ((at (not by)).its).port
  supplied =
      let J = joined x recent p w W n l b in
      let one = supplies x recent p w W l J by ((at by).its).port (end_of_link x.cast by l) (end_of_link x.cast (not by) l) ((at by).its).end in
      let other = supplies x recent p w W l J (not by) ((at (not by)).its).port (end_of_link x.cast (not by) l) (end_of_link x.cast (not (not by)) l) ((at (not by)).its).end in
      record {
        one = one ∙ (home_supplies x.cast l (end_of_link x.cast (not by) l)).0;
        not_other = other ∙ (ap (λ (t : Bool). is_supplied_by t (link_to x.cast l (end_of_link x.cast (not (not by)) l))) (twice by) ∙ (home_supplies x.cast l (end_of_link x.cast (not (not by)) l)).1);
      }

  -- ---- the headers that are away

  abbrev away_at_end : Bool → ℕ
  away_at_end s = (seen w.headers).count (λ r. is_for (end_of_link x.cast s l) r && is_away r)

  -- they are with the other end
  with_other : away_at_end by ≡ length ((seen w.headers).todo (end_of_link x.cast (not by) l)) + length ((seen w.headers).done (end_of_link x.cast (not by) l))
  with_other =
      let c = away_in_lists w (end_of_link x.cast by l) (end_of_link x.cast (not by) l) (supplier_of x.cast l) (work_in w.components (end_of_link x.cast by l)) (work_in w.components (end_of_link x.cast (not by) l)) W.sound (tunnel by) supplied (worked by) (worked (not by)) in
      let u : length (work_in w.components (end_of_link x.cast by l)) ≡ 0 = ap length (no_works x recent p w W n (end_of_link x.cast by l)) in
      let v : length (work_in w.components (end_of_link x.cast (not by) l)) ≡ 0 = ap length (no_works x recent p w W n (end_of_link x.cast (not by) l)) in
      omega arith

  -- the tests of the two ends agree
  ends_agree : away_at_end true ≡ away_at_end false
  ends_agree =
      let P = parts_of w W.sound in
      let T = tunnel true in
      let ports = ports_in_list w.components in
      count_same (λ r. is_for (output_at x.cast l) r && is_away r) (λ r. is_for (input_at x.cast l) r && is_away r) w.headers P.once (λ n r f.
      let S = P.tied.placed n r f in
      ap (λ (t : Bool). t && is_away r.state) (same_tests (is_for (output_at x.cast l) r.state) (is_for (input_at x.cast l) r.state)
      (λ t. to_input ports w.headers (output_at x.cast l) (input_at x.cast l) (supplier_of x.cast l) P.tied T r.state S t)
      (λ t. to_output ports w.headers (output_at x.cast l) (input_at x.cast l) (supplier_of x.cast l) P.tied T r.state S t)))

  all_agree : (s t : Bool) → away_at_end s ≡ away_at_end t
  all_agree true true = refl
  all_agree true false = ends_agree
  all_agree false true = sym ends_agree
  all_agree false false = refl

  -- ---- a settled port

  -- the lists of the end that doesn't supply
  pub record IsEmptied : Type 0 where
    pub todo : (seen w.headers).todo (end_of_link x.cast (not by) l) ≡ []
    pub done : (seen w.headers).done (end_of_link x.cast (not by) l) ≡ []

  pub emptied : (s : Bool) (q : Port) → IsCalmEnd x p w l s q → settled (seen w.headers) q ≡ true → IsEmptied
  emptied s q E t =
      let z : away_at_end s ≡ 0 = ap (λ (k : PortKey). (seen w.headers).count (λ r. is_for k r && is_away r)) (sym E.key) ∙ eqb-true _ _ t in
      let c = with_other in
      let a = all_agree by s in
      record { todo = no_length _ (omega arith); done = no_length _ (omega arith) }

  pub settles : (s : Bool) (q : Port) → IsCalmEnd x p w l s q → IsEmptied → settled (seen w.headers) q ≡ true
  settles s q E N =
      let t : length ((seen w.headers).todo (end_of_link x.cast (not by) l)) ≡ 0 = ap length N.todo in
      let d : length ((seen w.headers).done (end_of_link x.cast (not by) l)) ≡ 0 = ap length N.done in
      let c = with_other in
      let a = all_agree by s in
      let k : (seen w.headers).count (λ r. is_for q.key r && is_away r) ≡ away_at_end s = ap (λ (k : PortKey). (seen w.headers).count (λ r. is_for k r && is_away r)) E.key in
      eq-eqb ((seen w.headers).count (λ r. is_for q.key r && is_away r)) 0 (omega arith)

  -- ---- as the model says it

  settled_by : (s : Bool) → (seen w.headers).todo (end_of_link x.cast (not s) l) ≡ [] → (seen w.headers).done (end_of_link x.cast (not s) l) ≡ [] → IsSettled s ((p.flow).link l)
  settled_by true t d =
      let V = W.viewed l b in
      let i = no_works x recent p w W n (input_at x.cast l) in
      (ap (λ (y : LinkState). y.held) V ∙ rw (i, t) refl, ap (λ (y : LinkState). y.spent) V ∙ ap length d)
  settled_by false t d =
      let V = W.viewed l b in
      let o = no_works x recent p w W n (output_at x.cast l) in
      (ap (λ (y : LinkState). y.ready) V ∙ rw (o, t) refl, ap (λ (y : LinkState). y.sent) V ∙ rw d refl)

  emptied_by : (s : Bool) → IsSettled s ((p.flow).link l) → ((seen w.headers).todo (end_of_link x.cast (not s) l) ≡ []) × ((seen w.headers).done (end_of_link x.cast (not s) l) ≡ [])
  emptied_by true S =
      let V = W.viewed l b in
      let i = no_works x recent p w W n (input_at x.cast l) in
      let f = filled ((x.cast).unit l) w.headers in
      let held : map f ((seen w.headers).todo (input_at x.cast l)) ≡ [] = ap (λ (ns : List ℕ). map f (ns ++ (seen w.headers).todo (input_at x.cast l))) (sym i) ∙ (sym (ap (λ (y : LinkState). y.held) V) ∙ S.0) in
      (no_map f ((seen w.headers).todo (input_at x.cast l)) held, no_length ((seen w.headers).done (input_at x.cast l)) (sym (ap (λ (y : LinkState). y.spent) V) ∙ S.1))
  emptied_by false S =
      let V = W.viewed l b in
      let o = no_works x recent p w W n (output_at x.cast l) in
      let f : length (work_in w.components (output_at x.cast l)) ≡ 0 = ap length o in
      let r : ((p.flow).link l).ready ≡ length (work_in w.components (output_at x.cast l)) + length ((seen w.headers).todo (output_at x.cast l)) = ap (λ (y : LinkState). y.ready) V in
      let g = S.0 in
      let ready : length ((seen w.headers).todo (output_at x.cast l)) ≡ 0 = omega arith in
      (no_length ((seen w.headers).todo (output_at x.cast l)) ready, no_map (filled ((x.cast).unit l) w.headers) ((seen w.headers).done (output_at x.cast l)) (sym (ap (λ (y : LinkState). y.sent) V) ∙ S.1))

  pub is_settled : IsEmptied → IsSettled by ((p.flow).link l)
  is_settled N = settled_by by N.todo N.done

  pub is_emptied : IsSettled by ((p.flow).link l) → IsEmptied
  is_emptied S = let r = emptied_by by S in record { todo = r.0; done = r.1 }
