-- The change of a link has gone on at both its ends.
use Rattle.std.proofs.Common.{◌≡◌, ◌≢◌, ◌⊎◌, inl, inr, ℕ, ◌<◌, ◌≤◌, Bool, true, false, List, set, slice_get, sum_by, Option, Some, option_and_then, refl, sym, ◌∙◌, ap, subst}
use Rattle.std.proofs.lemmas.Bool.{cases_eq}
use Rattle.std.proofs.lemmas.List.{length-set}
use Rattle.il_machine.specs.declared.port.Port.{Port}
use Rattle.il_machine.specs.declared.port.PortKey.{PortKey}
use Rattle.il_machine.specs.Headers.{find_header, is_for}
use Rattle.il_machine.specs.Sound.{Sound}
use Rattle.il_machine.specs.Tunnels.{agreed}
use Rattle.il_machine.specs.Units.{need_of, units_of}
use Rattle.il_machine.specs.World.{Component, HeaderRecord, World, port_of}
use Rattle.machine_laws.proofs.Every.{at_set, set_else, set_there}
use Rattle.play_model.specs.Acts.{with_change}
use Rattle.play_model.specs.Changes.{Change, IsHalfChanged}
use Rattle.play_model.specs.Play.{Play, component_at}
use Rattle.play_model.specs.Reached.{IsReached}
use Rattle.play_world_laws.specs.View.{worked_at}
use Rattle.play_world_laws.specs.Cast.{components_of, giver_of, input_at, links_of, output_at, script_place, supplier_of, taker_of}
use Rattle.play_world_laws.specs.Wiring.{IsSomeEnd, port_in, work_in}
use Rattle.play_world_laws.proofs.Lists.{got_set, sum_same}
use Rattle.play_world_laws.specs.Changing.{is_joined_at}
use Rattle.play_world_laws.specs.PlayWorlds.{IsActorAt, IsEndAt, IsPlayWorld, IsWiredAt, PlayCast, end_of_link, left_to_make}
use Rattle.play_world_laws.proofs.Around.{IsLatest, IsQuiet, actor_beside, around, ends_differ}

module _ (x : PlayCast) (recent later : ℕ) (p : Play) (l : ℕ) (g : Change → Change) where
  abbrev q : Play
  q = with_change l g p

  abbrev k : Change
  k = p.change l

  abbrev i : ℕ
  i = script_place x.cast (giver_of x.cast l)

  abbrev j : ℕ
  j = script_place x.cast (taker_of x.cast l)

  -- the components at the ends, before and after, and their ports after
  pub record AreTurned (w : World) (a b c d : Component) (y z : Port) : Type 0 where
    pub below : l < links_of x.cast
    pub giver_inside : giver_of x.cast l < components_of x.cast
    pub taker_inside : taker_of x.cast l < components_of x.cast
    pub there : slice_get w.components i ≡ Some a
    pub input_there : slice_get w.components j ≡ Some c
    pub kind : b.settings.kind ≡ a.settings.kind
    pub input_kind : d.settings.kind ≡ c.settings.kind
    pub works : (port : ℕ) → worked_at b.work port ≡ worked_at a.work port
    pub input_works : (port : ℕ) → worked_at d.work port ≡ worked_at c.work port
    pub others : (n : ℕ) → n ≢ (x.cast).output_port l → port_of b n ≡ port_of a n
    pub input_others : (n : ℕ) → n ≢ (x.cast).input_port l → port_of d n ≡ port_of c n
    pub port : port_of b ((x.cast).output_port l) ≡ Some y
    pub input_port : port_of d ((x.cast).input_port l) ≡ Some z
    pub end : IsEndAt x q l true (output_at x.cast l) (input_at x.cast l) y
    pub input_end : IsEndAt x q l false (input_at x.cast l) (output_at x.cast l) z
    pub preferences : agreed y.setting.supplier z.setting.supplier ≡ supplier_of x.cast l
    pub fewer : left_to_make x.cast q l ≤ left_to_make x.cast p l
    pub joined : (n : ℕ) (r : HeaderRecord) (s : Bool) → find_header n w.headers ≡ Some r → is_for (end_of_link x.cast s l) r.state ≡ true → is_joined_at k.step ≡ true → is_joined_at (g k).step ≡ true
    pub half : (n : ℕ) → n < links_of x.cast → ((x.cast).layout).is_late n ≡ true → IsHalfChanged (q.change n) → n ≡ later

  port_is : (cs : List Component) (key : PortKey) (m n : ℕ) (u : Component) → key.component ≡ m → key.port ≡ n → slice_get cs m ≡ Some u → port_in cs key ≡ port_of u n
  port_is cs key m n u e f h = rw (e, f, h) refl

  module _ (w : World) (a b c d : Component) (y z : Port) (W : IsPlayWorld x recent p w) (T : AreTurned w a b c d y z) (latest : IsLatest recent later l k) where
    abbrev mid : List Component
    mid = set w.components i b

    abbrev pub v : World
    v = record w { components = set mid j d }

    apart : i ≢ j
    apart = (W.wired l T.below).apart

    mid_there : slice_get mid j ≡ Some c
    mid_there = set_else w.components i j b (λ e. apart (sym e)) ∙ T.input_there

    giver_now : slice_get v.components i ≡ Some b
    giver_now = set_else mid j i d apart ∙ set_there w.components i a b T.there

    taker_now : slice_get v.components j ≡ Some d
    taker_now = set_there mid j c d mid_there

    else_now : (n : ℕ) → n ≢ i → n ≢ j → slice_get v.components n ≡ slice_get w.components n
    else_now n e f = set_else mid j n d f ∙ set_else w.components i n b e

    ports_else : (key : PortKey) → key ≢ output_at x.cast l → key ≢ input_at x.cast l → port_in v.components key ≡ port_in w.components key
    ports_else key m n = elim (cases_eq key.component i) [
      | inl e ↦
          let s : key.port ≢ (x.cast).output_port l = λ f. m (λ t. record { component = e t; port = f t }) in
          port_is v.components key i key.port b e refl giver_now ∙ (T.others key.port s ∙ sym (port_is w.components key i key.port a e refl T.there))
      | inr u ↦ elim (cases_eq key.component j) [
        | inl e ↦
            let s : key.port ≢ (x.cast).input_port l = λ f. n (λ t. record { component = e t; port = f t }) in
            port_is v.components key j key.port d e refl taker_now ∙ (T.input_others key.port s ∙ sym (port_is w.components key j key.port c e refl T.input_there))
        | inr s ↦ ap (λ (r : Option Component). option_and_then (λ t. port_of t key.port) r) (else_now key.component u s)
      ]
    ]

    both_beside : (s : Bool) (n : ℕ) → n < links_of x.cast → n ≢ l → port_in v.components (end_of_link x.cast s n) ≡ port_in w.components (end_of_link x.cast s n)
    both_beside s n m e = ports_else (end_of_link x.cast s n) (ends_differ x.cast W.cast_is s true n l m T.below e) (ends_differ x.cast W.cast_is s false n l m T.below e)

    both_works : (key : PortKey) → work_in v.components key ≡ work_in w.components key
    both_works key = got_set (λ (r : Option Component). worked_at (option_and_then (λ u. u.work) r) key.port) mid j key.component c d mid_there (T.input_works key.port)
        ∙ got_set (λ (r : Option Component). worked_at (option_and_then (λ u. u.work) r) key.port) w.components i key.component a b T.there (T.works key.port)

    both_needs : sum_by need_of v.components ≡ sum_by need_of w.components
    both_needs = sum_same need_of mid j c d mid_there (ap units_of T.input_kind) ∙ sum_same need_of w.components i a b T.there (ap units_of T.kind)

    both_wired : IsWiredAt x q (port_in v.components) l
    both_wired = record {
      output = y;
      input = z;
      output_there = port_is v.components (output_at x.cast l) i ((x.cast).output_port l) b refl refl giver_now ∙ T.port;
      input_there = port_is v.components (input_at x.cast l) j ((x.cast).input_port l) d refl refl taker_now ∙ T.input_port;
      output_end = T.end;
      input_end = T.input_end;
      apart = apart;
      supplied = λ _. T.preferences;
    }

    -- what stands at a place
    at_both : (n : ℕ) (u : Component) → slice_get v.components n ≡ Some u → ((n ≡ i) × (u ≡ b)) ⊎ (((n ≡ j) × (u ≡ d)) ⊎ ((n ≢ i) × (n ≢ j) × (slice_get w.components n ≡ Some u)))
    at_both n u e = elim (at_set mid j n d u e) [
      | inl s ↦ inr (inl s)
      | inr s ↦ elim (at_set w.components i n b u s.1) [
        | inl t ↦ inl t
        | inr t ↦ inr (inr (t.0, s.0, t.1))
      ]
    ]

    both_actors : IsActorAt x later q v (giver_of x.cast l) b → IsActorAt x later q v (taker_of x.cast l) d
        → (n : ℕ) (u : Component) → n < components_of x.cast → slice_get v.components (script_place x.cast n) ≡ Some u → IsActorAt x later q v n u
    both_actors B D n u m e = elim (at_both (script_place x.cast n) u e) [
      | inl s ↦
          let same : giver_of x.cast l ≡ n = (W.cast_is).apart (giver_of x.cast l) n T.giver_inside m (sym s.0) in
          subst (λ (t : ℕ). IsActorAt x later q v t u) same (subst (λ (r : Component). IsActorAt x later q v (giver_of x.cast l) r) (sym s.1) B)
      | inr o ↦ elim o [
        | inl s ↦
            let same : taker_of x.cast l ≡ n = (W.cast_is).apart (taker_of x.cast l) n T.taker_inside m (sym s.0) in
            subst (λ (t : ℕ). IsActorAt x later q v t u) same (subst (λ (r : Component). IsActorAt x later q v (taker_of x.cast l) r) (sym s.1) D)
        | inr s ↦ actor_beside x recent later p l g latest n (neither n s.0 s.1) w v u refl refl (W.actors n u m s.2)
      ]
    ]
      where
        neither : (n : ℕ) → script_place x.cast n ≢ i → script_place x.cast n ≢ j → (s : Bool) → component_at (x.cast).layout s l ≡ n → IsQuiet s k (g k)
        neither n e f true h = absurd (e (ap (λ (t : ℕ). script_place x.cast t) (sym h)))
        neither n e f false h = absurd (f (ap (λ (t : ℕ). script_place x.cast t) (sym h)))

    both_ends : (n port : ℕ) (u : Component) (r : Port) → slice_get v.components n ≡ Some u → port_of u port ≡ Some r → IsSomeEnd x.cast r.key
    both_ends n port u r e f = elim (at_both n u e) [
      | inl s ↦
          let h : port_of b port ≡ Some r = subst (λ (t : Component). port_of t port ≡ Some r) s.1 f in
          elim (cases_eq port ((x.cast).output_port l)) [
            | inl t ↦
                let m : Some y ≡ Some r = sym T.port ∙ (ap (port_of b) (sym t) ∙ h) in
                let is : y ≡ r = cc in
                record { link = l; below = T.below; end = inl (ap (λ (q : Port). q.key) (sym is) ∙ (T.end).key) }
            | inr t ↦ W.ends i port a r T.there (sym (T.others port t) ∙ h)
          ]
      | inr o ↦ elim o [
        | inl s ↦
            let h : port_of d port ≡ Some r = subst (λ (t : Component). port_of t port ≡ Some r) s.1 f in
            elim (cases_eq port ((x.cast).input_port l)) [
              | inl t ↦
                  let m : Some z ≡ Some r = sym T.input_port ∙ (ap (port_of d) (sym t) ∙ h) in
                  let is : z ≡ r = cc in
                  record { link = l; below = T.below; end = inr (ap (λ (q : Port). q.key) (sym is) ∙ (T.input_end).key) }
              | inr t ↦ W.ends j port c r T.input_there (sym (T.input_others port t) ∙ h)
            ]
        | inr s ↦ W.ends n port u r s.2 f
      ]
    ]

    pub both_turned : IsReached (x.cast).layout q → Sound v → IsActorAt x later q v (giver_of x.cast l) b → IsActorAt x later q v (taker_of x.cast l) d → IsPlayWorld x later q v
    both_turned R S B D = around x recent later p l g latest w v W R S (record {
      below = T.below;
      headers = refl;
      made = refl;
      units = refl;
      many = length-set mid j d ∙ length-set w.components i b;
      needs = both_needs;
      works = both_works;
      beside = both_beside;
      its = both_wired;
      ends = both_ends;
      actors = both_actors B D;
      fewer = T.fewer;
      joined = T.joined;
      half = T.half;
    })
