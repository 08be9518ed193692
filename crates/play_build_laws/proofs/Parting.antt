-- A link is parted.
use Rattle.std.proofs.Common.{◌≡◌, ◌≢◌, ◌⊎◌, inl, inr, ℕ, ◌+◌, ◌<◌, ◌≤◌, Bool, true, false, not, ◌&&◌, ◌||◌, [], length, length-set, set, slice_get, Option, Some, None, is_some, MatchOption, Result, Ok, refl, sym, ◌∙◌, ap, subst, arith}
use Rattle.omx_types.specs.declared.handle.Handle.{Handle}
use Rattle.omx_types.specs.declared.error.OmxError.{OmxError}
use Rattle.il_machine.specs.declared.port.Link.{Link}
use Rattle.il_machine.specs.declared.port.Port.{Port}
use Rattle.il_machine.specs.declared.port.PortKey.{PortKey}
use Rattle.il_machine.specs.declared.port.PortState.{PortState}
use Rattle.il_machine.specs.Acts as acts
use Rattle.il_machine.specs.Answers.{Answers, Resolving, plain}
use Rattle.il_machine.specs.Due.{ClosesTo}
use Rattle.il_machine.specs.Headers.{same_key, seen}
use Rattle.il_machine.specs.Lists.{holds_at}
use Rattle.il_machine.specs.Look.{look}
use Rattle.il_machine.specs.Ports.{IsCalm, IsCalmPort}
use Rattle.il_machine.specs.Sound.{Sound}
use Rattle.il_machine.specs.States.{is_invalid, is_loaded}
use Rattle.il_machine.specs.Tunnels.{BothPorts, DropTunnel, are_output_and_input, both_parted, drop_refusal, is_joined_with, parted}
use Rattle.il_machine.specs.World.{Component, World, number_of, place_of, port_of}
use Rattle.il_machine.proofs.Joined.{port_there}
use Rattle.machine_laws.proofs.Every.{at_place, at_set, from_places, set_else}
use Rattle.machine_laws.proofs.Keys.{at_there, key_same}
use Rattle.machine_laws.proofs.Steps.{sound_step}
use Rattle.play_build_laws.proofs.Calm.{skips}
use Rattle.play_build_laws.proofs.Places.{get_there, resolved}
use Rattle.play_build_laws.proofs.Standing.{answered}
use Rattle.play_build_laws.specs.Dismantling.{AreLinks, HasEnd, IsParted, IsQuiet, IsResting, IsSameButPorts, IsSomeEnd, IsUnjoined}
use Rattle.play_build_laws.proofs.Resting.{calm_closes, is_none_where, resting_at}

abbrev loosened : PortState → PortState
loosened s = record s { link = None }

-- the other side's port is of another component
far : (end : Bool → ℕ → PortKey) (links l : ℕ) → AreLinks end links → l < links → (side other : Bool) → (end other l).component ≡ (end side l).component → other ≡ side
far end links l L b false false e = refl
far end links l L b true true e = refl
far end links l L b true false e = absurd (L.apart l b e)
far end links l L b false true e = absurd (L.apart l b (sym e))

-- what has become of the component at the place
record IsChanged (end : Bool → ℕ → PortKey) (l n : ℕ) (a b : Component) : Type 0 where
  same : b ≡ record a { ports = b.ports }
  from : (port : ℕ) (s : PortState) → slice_get b.ports port ≡ Some s
      → ((t : PortState) × (slice_get a.ports port ≡ Some t) × (s ≡ loosened t)) ⊎ (((side : Bool) → end side l ≢ record { component = n; port = port }) × (slice_get a.ports port ≡ Some s))
  still : (port : ℕ) (s : PortState) → slice_get a.ports port ≡ Some s → ((side : Bool) → end side l ≢ record { component = n; port = port }) → slice_get b.ports port ≡ Some s

module _ (end : Bool → ℕ → PortKey) (links l : ℕ) (L : AreLinks end links) (b : l < links) where
  -- a component that the link doesn't join
  unchanged : (n : ℕ) (a : Component) → ((side : Bool) → (end side l).component ≢ n) → IsChanged end l n a a
  unchanged n a else = record {
    same = refl;
    from = λ port s e. inr ((λ side q. else side (ap (λ (k : PortKey). k.component) q)), e);
    still = λ port s e h. e;
  }

  -- the one at this end
  loosens : (side : Bool) (a : Component) (t : PortState) → slice_get a.ports (end side l).port ≡ Some t → IsChanged end l (end side l).component a (record a { ports = set a.ports (end side l).port (loosened t) })
  loosens side a t there = record {
    same = refl;
    from = λ port s e. elim (at_set a.ports (end side l).port port (loosened t) s e) [
      | inl h ↦ inl (t, ap (slice_get a.ports) h.0 ∙ there, h.1)
      | inr h ↦
          inr (
            (λ other q.
                let c : other ≡ side = far end links l L b side other (ap (λ (k : PortKey). k.component) q) in
                h.0 (sym (ap (λ (k : PortKey). k.port) q) ∙ ap (λ (o : Bool). (end o l).port) c)),
            h.1,
          )
    ];
    still = λ port s e h. set_else a.ports (end side l).port port (loosened t) (λ q. h side (λ i. record { component = (end side l).component; port = sym q i })) ∙ e;
  }

  -- ---- the world with the link parted

  module _ (w : World) (P : IsParted end links l w) (c d : Component) (ci : slice_get w.components (end false l).component ≡ Some c) (dj : slice_get w.components (end true l).component ≡ Some d)
      (E : HasEnd end false l c) (F : HasEnd end true l d) where
    abbrev output : Port
    output = record { key = record { component = number_of c; port = (end false l).port }; setting = E.setting; state = E.state }

    abbrev input : Port
    input = record { key = record { component = number_of d; port = (end true l).port }; setting = F.setting; state = F.state }

    abbrev effect : World
    effect = both_parted (end false l).component c output (end true l).component d input w

    accepted : drop_refusal (look w).headers (port_of c (end false l).port) (port_of d (end true l).port) ≡ None
    accepted =
        let o : port_of c (end false l).port ≡ Some output = port_there c (end false l).port E.setting E.state E.set E.there in
        let i : port_of d (end true l).port ≡ Some input = port_there d (end true l).port F.setting F.state F.set F.there in
        let sides : are_output_and_input output input ≡ true = λ k. not (E.direction k) && F.direction k in
        let number : number_of d ≡ (end true l).component = P.quiet.numbered (end true l).component d dj in
        let key : input.key ≡ end true l = λ k. record { component = number k; port = (end true l).port } in
        let joined : is_joined_with output input ≡ true = ap (λ (x : Option Link). holds_at x (λ link. same_key link.peer input.key)) E.joined ∙ (ap (λ (k : PortKey). same_key k input.key) (E.peer ∙ sym key) ∙ key_same input.key) in
        ap (λ hs. drop_refusal (seen hs) (port_of c (end false l).port) (port_of d (end true l).port)) P.quiet.headers
        ∙ ((λ k. drop_refusal (seen []) (o k) (i k)) ∙ skips _ _ _ (ap not sides) (skips _ _ _ (ap not joined) refl))

    -- what stands at a place then
    stands_at : (n : ℕ) (y : Component) → slice_get effect.components n ≡ Some y → (a : Component) × (slice_get w.components n ≡ Some a) × IsChanged end l n a y
    stands_at n y e = elim (at_set (set w.components (end false l).component (parted output c)) (end true l).component n (parted input d) y e) [
      | inl h ↦
          (d, ap (slice_get w.components) h.0 ∙ dj, subst (λ (z : Component). IsChanged end l n d z) (sym h.1) (subst (λ (m : ℕ). IsChanged end l m d (parted input d)) (sym h.0) (loosens true d F.state F.there)))
      | inr h ↦ elim (at_set w.components (end false l).component n (parted output c) y h.1) [
        | inl k ↦
            (c, ap (slice_get w.components) k.0 ∙ ci, subst (λ (z : Component). IsChanged end l n c z) (sym k.1) (subst (λ (m : ℕ). IsChanged end l m c (parted output c)) (sym k.0) (loosens false c E.state E.there)))
        | inr k ↦ (y, k.1, unchanged n y (neither n h.0 k.0))
      ]
    ]
      where
        neither : (n : ℕ) → n ≢ (end true l).component → n ≢ (end false l).component → (side : Bool) → (end side l).component ≢ n
        neither n x z true q = x (sym q)
        neither n x z false q = z (sym q)

    many : length effect.components ≡ length w.components
    many = length-set (set w.components (end false l).component (parted output c)) (end true l).component (parted input d) ∙ length-set w.components (end false l).component (parted output c)

    loose_calm : (t : PortState) → IsCalmPort t → IsCalmPort (loosened t)
    loose_calm t C = record { steady = C.steady; quiet = C.quiet; unmarked = C.unmarked }

    -- it rests as it did
    rests : (n : ℕ) (a y : Component) → IsChanged end l n a y → IsResting a → IsResting y
    rests n a y C R = record {
      down = ap (λ (z : Component). is_loaded z.state || is_invalid z.state) C.same ∙ R.down;
      calm = record {
        resting = ap (λ (z : Component). z.pending) C.same ∙ R.calm.resting;
        ports = from_places IsCalmPort y.ports (λ port s e. elim (C.from port s e) [
          | inl h ↦ subst IsCalmPort (sym h.2) (loose_calm h.0 (at_place IsCalmPort a.ports port h.0 R.calm.ports h.1))
          | inr h ↦ at_place IsCalmPort a.ports port s R.calm.ports h.1
        ]);
      };
      work = ap (λ (z : Component). z.work) C.same ∙ R.work;
      client = ap (λ (z : Component). z.client_out) C.same ∙ R.client;
    }

    calm_then : (n : ℕ) (y : Component) → slice_get effect.components n ≡ Some y → IsCalm y
    calm_then n y e = let x = stands_at n y e in (rests n x.0 y x.2 (resting_at w P.quiet n x.0 x.1)).calm

    quiet_then : Sound effect → IsQuiet effect
    quiet_then S = record {
      sound = S;
      headers = P.quiet.headers;
      components = from_places IsResting effect.components (λ n y e. let x = stands_at n y e in rests n x.0 y x.2 (resting_at w P.quiet n x.0 x.1));
      numbered = λ n y e. let x = stands_at n y e in ap (λ (z : Component). number_of z) x.2.same ∙ P.quiet.numbered n x.0 x.1;
    }

    other_ends : (side : Bool) (k : ℕ) → l + 1 ≤ k → k < links → (other : Bool) → end other l ≢ end side k
    other_ends side k later below other q = let s = (L.one other side l k b below q).1 in absurd (omega (arith, later, s))

    joined_then : (side : Bool) (k : ℕ) (y : Component) → l + 1 ≤ k → k < links → slice_get effect.components (end side k).component ≡ Some y → HasEnd end side k y
    joined_then side k y later below e =
        let x = stands_at (end side k).component y e in
        let H = P.joined side k x.0 (omega (arith, later)) below x.1 in
        record {
          setting = H.setting;
          set = ap (λ (z : Component). slice_get z.settings.ports (end side k).port) x.2.same ∙ H.set;
          direction = H.direction;
          state = H.state;
          there = x.2.still (end side k).port H.state H.there (other_ends side k later below);
          link = H.link;
          joined = H.joined;
          peer = H.peer;
        }

    only_then : (n port : ℕ) (y : Component) (s : PortState) → slice_get effect.components n ≡ Some y → slice_get y.ports port ≡ Some s → is_some s.link ≡ true → IsSomeEnd end (l + 1) links (record { component = n; port = port })
    only_then n port y s e f t =
        let x = stands_at n y e in
        elim (x.2.from port s f) [
          | inl h ↦ let z : false ≡ true = ap (λ (u : PortState). is_some u.link) (sym h.2) ∙ t in absurd cc
          | inr h ↦
              let O = P.only n port x.0 s x.1 h.1 t in
              let other : O.number ≢ l = λ q. h.0 O.side (ap (end O.side) (sym q) ∙ O.is) in
              let later = O.later in
              record { side = O.side; number = O.number; later = omega (arith, later, other); below = O.below; is = O.is }
        ]

    parted_then : Sound effect → IsParted end links (l + 1) effect
    parted_then S = record {
      quiet = quiet_then S;
      inside = λ side k h. subst (λ (m : ℕ). (end side k).component < m) (sym many) (P.inside side k h);
      joined = joined_then;
      only = only_then;
    }

    same_then : IsSameButPorts w effect
    same_then = record { many = many; each = λ n y e. let x = stands_at n y e in (x.0, x.1, x.2.same) }

pub parts : (end : Bool → ℕ → PortKey) (links l : ℕ) (w v : World) (h g : Handle) (result : Result (Unit {0}) OmxError) → AreLinks end links → IsParted end links l w → l < links
    → place_of h w.components ≡ Some (end false l).component → place_of g w.components ≡ Some (end true l).component
    → DropTunnel w (record { handle = h; index = (end false l).port }) (record { handle = g; index = (end true l).port }) result v → (result ≡ Ok tt) × IsParted end links (l + 1) v × IsSameButPorts w v
parts end links l w v h g result L P b H G D =
    let i : ℕ = (end false l).component in
    let j : ℕ = (end true l).component in
    let k : ℕ = (end false l).port in
    let m : ℕ = (end true l).port in
    let ci = get_there w.components i (P.inside false l b) in
    let dj = get_there w.components j (P.inside true l b) in
    let c : Component = ci.0 in
    let d : Component = dj.0 in
    let E = P.joined false l c (omega arith) b ci.1 in
    let F = P.joined true l d (omega arith) b dj.1 in
    let o = port_there c k E.setting E.state E.set E.there in
    let q = port_there d m F.setting F.state F.set F.there in
    let R = resolved plain w h result v (λ x y. Resolving plain w g result v (λ x' y'.
    Answers (drop_refusal (look w).headers (port_of y k) (port_of y' m)) result w v (λ _. BothPorts (port_of y k) (port_of y' m) (λ a a'. ClosesTo (both_parted x y a x' y' a' w) v)))) i c H ci.1 D in
    let S = resolved plain w g result v (λ x' y'.
    Answers (drop_refusal (look w).headers (port_of c k) (port_of y' m)) result w v (λ _. BothPorts (port_of c k) (port_of y' m) (λ a a'. ClosesTo (both_parted i c a x' y' a' w) v))) j d G dj.1 R in
    let T = answered (drop_refusal (look w).headers (port_of c k) (port_of d m)) result w v (λ _. BothPorts (port_of c k) (port_of d m) (λ a a'. ClosesTo (both_parted i c a j d a' w) v)) (accepted end links l L b w P c d ci.1 dj.1 E F) S in
    let one = at_there (port_of c k) (λ a. MatchOption (port_of d m) ⊥ (λ a'. ClosesTo (both_parted i c a j d a' w) v)) (output end links l L b w P c d ci.1 dj.1 E F) o T.2 in
    let closes = at_there (port_of d m) (λ a'. ClosesTo (both_parted i c (output end links l L b w P c d ci.1 dj.1 E F) j d a' w) v) (input end links l L b w P c d ci.1 dj.1 E F) q one in
    let same : v ≡ effect end links l L b w P c d ci.1 dj.1 E F = calm_closes (effect end links l L b w P c d ci.1 dj.1 E F) v (calm_then end links l L b w P c d ci.1 dj.1 E F) closes in
    let sound : Sound v = sound_step w v (acts.DropTunnel (record { handle = h; index = k }) (record { handle = g; index = m })) (acts.Plain result) tt D P.quiet.sound in
    (T.1, subst (λ (y : World). IsParted end links (l + 1) y) (sym same) (parted_then end links l L b w P c d ci.1 dj.1 E F (subst Sound same sound)), subst (IsSameButPorts w) (sym same) (same_then end links l L b w P c d ci.1 dj.1 E F))

pub all_parted : (end : Bool → ℕ → PortKey) (links : ℕ) (w : World) → IsParted end links links w → IsUnjoined (length w.components) w
all_parted end links w P = record {
  quiet = P.quiet;
  many = refl;
  loose = λ i port a s e f. is_none_where s.link (λ t. let O = P.only i port a s e f t in let later = O.later in let below = O.below in absurd (omega (arith, later, below)));
}
