-- A component's work is claimed in a play: for the play nothing has changed.
use Rattle.std.proofs.Common.{◌≡◌, ◌⊎◌, inl, inr, ℕ, ◌<◌, Bool, true, false, List, slice_get, Option, Some, None, option_and_then, is_some, Result, Ok, refl, sym, ◌∙◌, ap, subst, arith}
use Rattle.std.proofs.lemmas.Bool.{cases_eq}
use Rattle.std.proofs.lemmas.List.{length-set}
use Rattle.omx_types.specs.declared.error.OmxError.{OmxError}
use Rattle.omx_types.specs.declared.handle.Handle.{Handle}
use Rattle.il_machine.specs.declared.header.Owner.TheVariants as owners
use Rattle.il_machine.specs.declared.port.PortKey.{PortKey}
use Rattle.il_machine.specs.Answers.{plain}
use Rattle.il_machine.specs.Claims.{Claim, Claimed, ClaimedBusy, ClaimedWork, Claims, WorkSeen, claim_idle, must_announce, seen_work, with_work, work_of}
use Rattle.il_machine.specs.Headers.{Once, find_header, given_to, is_for, seen}
use Rattle.il_machine.specs.Look.{look}
use Rattle.il_machine.specs.Units.{need_of}
use Rattle.il_machine.specs.World.{Component, HeaderRecord, Picked, Work, World, number_of, port_of}
use Rattle.machine_laws.proofs.Claiming.{claim_passes}
use Rattle.machine_laws.proofs.Every.{at_set}
use Rattle.machine_laws.proofs.Finding.{either}
use Rattle.machine_laws.proofs.Keys.{none_or_some}
use Rattle.machine_laws.proofs.Listed.{first_in, todo_in}
use Rattle.machine_laws.proofs.Replacing.{replaced_changed}
use Rattle.play_model.specs.Acts.{Act, CanAct}
use Rattle.play_model.specs.Play.{HasPorts, Play}
use Rattle.play_world_laws.specs.Cast.{components_of, input_at, links_of, output_at, script_place}
use Rattle.play_world_laws.specs.Wiring.{port_in}
use Rattle.play_world_laws.specs.Worlds.{HasLink, Names}
use Rattle.play_world_laws.proofs.Claims.{claims_none, claims_some, first_is, never_work}
use Rattle.play_world_laws.proofs.Folds.{fold_stays}
use Rattle.play_world_laws.proofs.Lists.{got_set, resolved, sum_same}
use Rattle.play_world_laws.proofs.Picks.{pick_key}
use Rattle.play_world_laws.specs.Changing.{is_joined_at}
use Rattle.play_world_laws.specs.PlayWorlds.{IsActorAt, IsPlayWorld, IsWorkAt, PlayCast, end_of_link}
use Rattle.play_world_laws.specs.Leading.{PlayLeadsTo}
use Rattle.play_world_laws.proofs.Around.{wired_moves}
use Rattle.play_world_laws.proofs.Claiming.{claim_announces}
use Rattle.play_world_laws.proofs.ChangeEnds.{actor_there}
use Rattle.play_world_laws.proofs.Kept.{actor_kept}
use Rattle.play_step_laws.proofs.Claimable.{claim_can, claim_goes, step_can}
use Rattle.play_step_laws.proofs.Claims.{AreTwoPorts, IsFirst, can, claim_viewed, firsts, first_stays, goes_out, out_is, out_links, ports_are, sound}
use Rattle.play_step_laws.proofs.Poised.{IsPoised}
use Rattle.play_step_laws.proofs.Poising.{poised, ports_rest}

-- a header that goes out stays with its link
out_tunnelled : (x : PlayCast) (p : Play) (k : ℕ) (y : Picked) (hs : List HeaderRecord) → Once hs → (r : HeaderRecord) → find_header y.number hs ≡ Some r
    → ((n : ℕ) (s : HeaderRecord) (o : Bool) (l : ℕ) → find_header n hs ≡ Some s → l < links_of x.cast → ((x.cast).layout).is_late l ≡ true → is_for (end_of_link x.cast o l) s.state ≡ true → is_joined_at (p.change l).step ≡ true)
    → (n : ℕ) (s : HeaderRecord) (o : Bool) (l : ℕ) → find_header n (goes_out k y hs) ≡ Some s → l < links_of x.cast → ((x.cast).layout).is_late l ≡ true → is_for (end_of_link x.cast o l) s.state ≡ true → is_joined_at (p.change l).step ≡ true
out_tunnelled x p k y hs once r f all n s o l g b t h =
    let R = replaced_changed (given_to (owners.Work k)) (λ _. refl) y.number hs r once f in
    elim (cases_eq n y.number) [
      | inl z ↦
          let u : Some (given_to (owners.Work k) r) ≡ Some s = sym R.here ∙ (ap (λ (m : ℕ). find_header m (goes_out k y hs)) (sym z) ∙ g) in
          let is : given_to (owners.Work k) r ≡ s = cc in
          all y.number r o l f b t (ap (λ (q : HeaderRecord). is_for (end_of_link x.cast o l) q.state) is ∙ h)
      | inr d ↦ all n s o l (sym (R.others n d) ∙ g) b t h
    ]

module _ (x : PlayCast) (recent : ℕ) (p : Play) (w : World) (W : IsPlayWorld x recent p w) (c : ℕ) (b : c < components_of x.cast) (a : Component) (e : slice_get w.components (script_place x.cast c) ≡ Some a) (H : HasPorts (x.cast).layout p c) (free : a.work ≡ None) (idle : claim_idle (look w) a ≡ None) where
  abbrev A : IsActorAt x recent p w c a
  A = W.actors c a b e

  abbrev U : IsPoised x.cast p w c a
  U = poised x recent p w W c b a e A H

  abbrev i : ℕ
  i = script_place x.cast c

  abbrev work : Work
  work = work_of (seen w.headers) a

  abbrev d : Component
  d = record a { work = Some work }

  abbrev v : World
  v = with_work i a work w

  claim_actor : IsActorAt x recent p v c d
  claim_actor =
      let C = can x.cast p w c a U free idle in
      let B = A.heard_so in
      record {
        number = A.number;
        stands = ap (λ (z : Component). record z { work = Some work }) A.stands;
        set_for = A.set_for;
        roomy = A.roomy;
        source = A.source;
        sink = A.sink;
        late = A.late;
        late_format = A.late_format;
        file = A.file;
        notes = A.notes;
        heard_so = A.heard_so;
        out = A.out;
        part = A.part;
        done = A.done;
        work = λ u f.
            let s : work ≡ u = cc in
            subst (λ (z : Work). IsWorkAt x.cast p c d z) s (record {
              phase = C.1;
              stage = elim C.0 [ inl h ↦ h.1 | inr h ↦ let z = C.1 in absurd (omega (arith, h.0)) ];
              going = (C.2).going;
              gain = refl;
              weights = refl;
              which = inl (U.silent, H, ports_are x.cast p w c a U free idle);
            });
        running = A.running;
        over = A.over;
        unsteady = A.unsteady;
      }

  claim_actors : (k : ℕ) (y : Component) → k < components_of x.cast → slice_get v.components (script_place x.cast k) ≡ Some y → IsActorAt x recent p v k y
  claim_actors k y h f = elim (at_set w.components i (script_place x.cast k) d y f) [
    | inl s ↦
        let same : c ≡ k = (W.cast_is).apart c k b h (sym s.0) in
        subst (λ (j : ℕ). IsActorAt x recent p v j y) same (subst (λ (z : Component). IsActorAt x recent p v c z) (sym s.1) claim_actor)
    | inr s ↦ actor_kept x recent p p.stage p.told k refl refl w v y refl refl (W.actors k y h s.1)
  ]

  ports_stay : (key : PortKey) → port_in v.components key ≡ port_in w.components key
  ports_stay key = got_set (λ (o : Option Component). option_and_then (λ y. port_of y key.port) o) w.components i key.component a d e refl

  abbrev AreTunnelled : List HeaderRecord → Type 0
  AreTunnelled hs = (n : ℕ) (s : HeaderRecord) (o : Bool) (l : ℕ) → find_header n hs ≡ Some s → l < links_of x.cast → ((x.cast).layout).is_late l ≡ true → is_for (end_of_link x.cast o l) s.state ≡ true → is_joined_at (p.change l).step ≡ true

  abbrev AreLinked : List HeaderRecord → Type 0
  AreLinked hs = (n : ℕ) (r : HeaderRecord) → find_header n hs ≡ Some r → HasLink x.cast r

  linked : AreLinked v.headers
  linked = subst AreLinked (sym (out_is x.cast p w c a U free idle))
      (fold_stays (goes_out (number_of a)) (IsFirst x.cast c) AreTwoPorts (first_stays x.cast c (number_of a)) AreLinked work.headers w.headers
      (λ j y f ks r all.
      let F = first_in (pick_key x.cast c y) ks ((seen ks).todo (pick_key x.cast c y)) r.1 y.number (todo_in (pick_key x.cast c y) ks r.0) r.2 in
      out_links x.cast (number_of a) y ks r.0 F.header F.found all) (firsts x.cast p w c a U free idle) W.headers)

  tunnelled : AreTunnelled v.headers
  tunnelled = subst AreTunnelled (sym (out_is x.cast p w c a U free idle))
      (fold_stays (goes_out (number_of a)) (IsFirst x.cast c) AreTwoPorts (first_stays x.cast c (number_of a)) AreTunnelled work.headers w.headers
      (λ j y f ks r all.
      let F = first_in (pick_key x.cast c y) ks ((seen ks).todo (pick_key x.cast c y)) r.1 y.number (todo_in (pick_key x.cast c y) ks r.0) r.2 in
      out_tunnelled x p (number_of a) y ks r.0 F.header F.found all) (firsts x.cast p w c a U free idle) W.tunnelled)

  pub claim_plays : IsPlayWorld x recent p v
  claim_plays = record {
    cast_is = W.cast_is;
    formats = W.formats;
    reached = W.reached;
    sound = sound x.cast p w c a U free idle;
    many = length-set w.components i d ∙ W.many;
    actors = claim_actors;
    half = W.half;
    wired = λ k h. wired_moves x p p (port_in w.components) (port_in v.components) k refl (ports_stay (output_at x.cast k)) (ports_stay (input_at x.cast k)) (W.wired k h);
    ends = λ j port y q f g. elim (at_set w.components i j d y f) [
      | inl s ↦ W.ends i port a q e (subst (λ (n : Component). port_of n port ≡ Some q) s.1 g)
      | inr s ↦ W.ends j port y q s.1 g
    ];
    viewed = claim_viewed x.cast p w c a U free idle;
    headers = linked;
    tunnelled = tunnelled;
    units = let s = sum_same need_of w.components i a d e refl in let u = W.units in omega arith;
    numbers = W.numbers;
  }

-- ---- the call

claim_is : (x : PlayCast) (w : World) (c : ℕ) (h : Handle) (result : Result Claimed OmxError) (v : World) (a : Component) → Names x.cast w c h → slice_get w.components (script_place x.cast c) ≡ Some a → Claim w h result v
    → Claims (claim_idle (look w) a) (script_place x.cast c) a w result v
claim_is x w c h result v a N e K = resolved plain w h result v (λ i c. Claims (claim_idle (look w) c) i c w result v) (script_place x.cast c) a N e K

-- a work that doesn't announce
module _ (x : PlayCast) (recent : ℕ) (p : Play) (w : World) (c : ℕ) (h : Handle) (result : Result Claimed OmxError) (v : World) (a : Component) (W : IsPlayWorld x recent p w) (b : c < components_of x.cast) (N : Names x.cast w c h) (e : slice_get w.components (script_place x.cast c) ≡ Some a)
    (K : Claim w h result v) (n : claim_idle (look w) a ≡ None) (silent : must_announce a ≡ false) where
  rest : HasPorts (x.cast).layout p c
  rest = let C = claim_passes (look w) a n in ports_rest x recent p w W c a e C.opens silent C.held

  its : IsPoised x.cast p w c a
  its = poised x recent p w W c b a e (W.actors c a b e) rest

  pub works : PlayLeadsTo x recent p v
  works =
      let C = claim_passes (look w) a n in
      let r = claims_none (claim_idle (look w) a) (script_place x.cast c) a w result v n (claim_is x w c h result v a N e K) in
      record { effect = with_work (script_place x.cast c) a (work_of (seen w.headers) a) w; play = claim_plays x recent p w W c b a e rest C.free n; closes = r.1 }

  pub steps : (k : ℕ) × (last : Bool) × CanAct (x.cast).layout p (Act.Step c k last)
  steps =
      let C = claim_passes (look w) a n in
      let k = claim_can x.cast p w c a its C.free C in
      step_can x.cast p w c a its k.0 k.1 k.2

-- the answer to a claim, and whether its work announces
got_work : (x : PlayCast) (w : World) (c : ℕ) (h : Handle) (result : Result Claimed OmxError) (v : World) (a : Component) (work : WorkSeen) → Names x.cast w c h → slice_get w.components (script_place x.cast c) ≡ Some a → Claim w h result v → result ≡ Ok (ClaimedWork work)
    → (claim_idle (look w) a ≡ None) × (must_announce a ≡ work.announces)
got_work x w c h result v a work N e K s = elim (none_or_some (claim_idle (look w) a)) [
  | inr k ↦
      let t = (claims_some (claim_idle (look w) a) k.0 (script_place x.cast c) a w result v k.1 (claim_is x w c h result v a N e K)).0 in
      let z : Ok k.0 ≡ Ok (ClaimedWork work) = sym t ∙ s in
      let y : k.0 ≡ ClaimedWork work = cc in
      absurd (never_work (look w) a work (k.1 ∙ ap (λ (q : Claimed). Some q) y))
  | inl n ↦
      let r = claims_none (claim_idle (look w) a) (script_place x.cast c) a w result v n (claim_is x w c h result v a N e K) in
      let z : Ok (ClaimedWork (seen_work a (work_of (seen w.headers) a) w.headers)) ≡ Ok (ClaimedWork work) = sym r.0 ∙ s in
      let y : seen_work a (work_of (seen w.headers) a) w.headers ≡ work = cc in
      (n, ap (λ (u : WorkSeen). u.announces) y)
]

pub claim_taken : (x : PlayCast) (recent : ℕ) (p : Play) (w : World) (c : ℕ) (h : Handle) (result : Result Claimed OmxError) (v : World) → IsPlayWorld x recent p w → c < components_of x.cast → Names x.cast w c h → Claim w h result v → (v ≡ w) ⊎ PlayLeadsTo x recent p v
claim_taken x recent p w c h result v W b N K =
    let g = actor_there x recent p w c W b in
    let a : Component = g.0 in
    elim (none_or_some (claim_idle (look w) a)) [
      | inr k ↦ inl (claims_some (claim_idle (look w) a) k.0 (script_place x.cast c) a w result v k.1 (claim_is x w c h result v a N g.1 K)).1
      | inl n ↦ inr (either (must_announce a)
          (λ t.
          let r = claims_none (claim_idle (look w) a) (script_place x.cast c) a w result v n (claim_is x w c h result v a N g.1 K) in
          (claim_announces x recent p w c h result v (seen_work a (work_of (seen w.headers) a) w.headers) W b N K r.0 t).3)
          (λ f. works x recent p w c h result v a W b N g.1 K n f))
    ]

pub claim_accepted : (x : PlayCast) (recent : ℕ) (p : Play) (w : World) (c n : ℕ) (last : Bool) (h : Handle) (result : Result Claimed OmxError) (v : World) (a : Component) → IsPlayWorld x recent p w → CanAct (x.cast).layout p (Act.Step c n last) → Names x.cast w c h
    → slice_get w.components (script_place x.cast c) ≡ Some a → a.work ≡ None → Claim w h result v → (work : WorkSeen) × (result ≡ Ok (ClaimedWork work)) × (work.announces ≡ false) × PlayLeadsTo x recent p v
claim_accepted x recent p w c n last h result v a W C N e free K =
    let b = ((C.1).0).inside in
    let U = poised x recent p w W c b a e (W.actors c a b e) C.2 in
    let two : p.phase ≡ 2 = elim C.0 [
      | inl t ↦ t.0
      | inr t ↦ let z = (W.reached).ended (omega (arith, t.0)) c b in let g = ((C.1).0).going in absurd cc
    ] in
    let idle = claim_goes x.cast p w c a U free C.0 two (C.1).0 in
    let r = claims_none (claim_idle (look w) a) (script_place x.cast c) a w result v idle (claim_is x w c h result v a N e K) in
    (seen_work a (work_of (seen w.headers) a) w.headers, r.0, U.silent, works x recent p w c h result v a W b N e K idle U.silent)

pub claim_steps_can : (x : PlayCast) (recent : ℕ) (p : Play) (w : World) (c : ℕ) (h : Handle) (result : Result Claimed OmxError) (v : World) (work : WorkSeen) → IsPlayWorld x recent p w → c < components_of x.cast → Names x.cast w c h → Claim w h result v
    → result ≡ Ok (ClaimedWork work) → work.announces ≡ false → (n : ℕ) × (last : Bool) × CanAct (x.cast).layout p (Act.Step c n last)
claim_steps_can x recent p w c h result v work W b N K s says =
    let g = actor_there x recent p w c W b in
    let r = got_work x w c h result v g.0 work N g.1 K s in
    steps x recent p w c h result v g.0 W b N g.1 K r.0 (r.1 ∙ says)

pub claim_busy : (x : PlayCast) (recent : ℕ) (p : Play) (w : World) (c : ℕ) (h : Handle) (result : Result Claimed OmxError) (v : World) (a : Component) (work : Work) → IsPlayWorld x recent p w → c < components_of x.cast → Names x.cast w c h → slice_get w.components (script_place x.cast c) ≡ Some a
    → a.work ≡ Some work → Claim w h result v → (result ≡ Ok ClaimedBusy) × (v ≡ w)
claim_busy x recent p w c h result v a work W b N e f K = claims_some (claim_idle (look w) a) ClaimedBusy (script_place x.cast c) a w result v (busy a work f) (claim_is x w c h result v a N e K)
  where
    busy : (a : Component) (work : Work) → a.work ≡ Some work → claim_idle (look w) a ≡ Some ClaimedBusy
    busy a its f = first_is (is_some a.work) ClaimedBusy _ (ap is_some f)
