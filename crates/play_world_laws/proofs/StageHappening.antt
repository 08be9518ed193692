-- What happens in the close-out, in every phase; and that nothing is due in a closed world.
use Rattle.std.proofs.Common.{◌≡◌, ◌≢◌, inl, inr, ℕ, ◌<◌, ◌≤◌, true, ◌&&◌, is_none, slice_get, Option, Some, None, refl, sym, ◌∙◌, ap, subst, arith}
use Rattle.std.proofs.lemmas.Bool.{cases_eq}
use Rattle.std.proofs.lemmas.Option.{slice_get_within}
use Rattle.omx_types.specs.declared.state.State.TheVariants as states
use Rattle.il_machine.specs.Due.{Happens, IsClosed, Thing, Transition, due_in, each_port, happened, is_due_to, is_transition_due}
use Rattle.il_machine.specs.Headers.{Seen, seen}
use Rattle.il_machine.specs.Lists.{holds_at}
use Rattle.il_machine.specs.Ports.{settled}
use Rattle.il_machine.specs.Sound.{Sound}
use Rattle.il_machine.specs.World.{Component, Work, World, ports_of}
use Rattle.machine_laws.proofs.Accepting.{both_of}
use Rattle.machine_laws.proofs.Closing.{closed_rests}
use Rattle.machine_laws.proofs.Every.{all_pass}
use Rattle.machine_laws.proofs.Happening.{sound_happened}
use Rattle.play_loop.specs.Turns.{IsAtRest}
use Rattle.play_model.specs.Acts.{Act, CanAct, acted}
use Rattle.play_model.specs.Play.{IsDue, Play}
use Rattle.play_world_laws.specs.Cast.{components_of, script_place}
use Rattle.play_world_laws.specs.Standing.{before, pending_at, standing, target}
use Rattle.play_world_laws.proofs.Arrivals.{pending_of}
use Rattle.play_world_laws.proofs.Resting.{all_true, first_there}
use Rattle.play_world_laws.specs.PlayWorlds.{IsActorAt, IsPlayWorld, PlayCast, port_number}
use Rattle.play_world_laws.proofs.PortDue.{happens_at_port, port_rests}
use Rattle.play_world_laws.proofs.ChangeEnds.{actor_there}
use Rattle.play_world_laws.proofs.Calm.{stands_so}
use Rattle.play_world_laws.specs.Happenings.{IsHappening}
use Rattle.play_world_laws.specs.Waiting.{IsWaiting}
use Rattle.play_world_laws.proofs.Arriving.{comes}
use Rattle.play_world_laws.proofs.CalmHappenings.{at_link, free, its_end, its_port, link_at}
use Rattle.play_world_laws.proofs.StageDue.{due_calm, due_up, so_calm}
use Rattle.play_world_laws.proofs.StageRests.{rests}
use Rattle.play_world_laws.proofs.Settling.{emptied, is_emptied, is_settled, settles}

none_is : (o : Option Work) → is_none o ≡ true → o ≡ None
none_is None e = refl
none_is (Some work) e = absurd cc

rest_due : (headers : Seen) (a : Component) → a.state ≡ states.Executing → is_due_to headers a states.Idle ≡ true → (each_port a (settled headers) ≡ true) × (a.work ≡ None)
rest_due headers a s t =
    let u : (each_port a (settled headers) && (is_none a.work && true)) ≡ true = rw s at t in
    let f = both_of (each_port a (settled headers)) (is_none a.work && true) u in
    let g = both_of (is_none a.work) true f.1 in
    (f.0, none_is a.work g.0)

idle_due : (headers : Seen) (a : Component) → a.state ≡ states.Executing → each_port a (settled headers) ≡ true → a.work ≡ None → is_due_to headers a states.Idle ≡ true
idle_due headers a s t n = rw (s, t, n) refl

module _ (x : PlayCast) (recent : ℕ) (p : Play) (w : World) (W : IsPlayWorld x recent p w) (c : ℕ) (l : c < components_of x.cast) (a : Component) (e : slice_get w.components (script_place x.cast c) ≡ Some a) where
  abbrev A : IsActorAt x recent p w c a
  A = W.actors c a l e

  -- ---- the transition

  module _ (z : p.stage c ≡ 2) where
    stood : a ≡ standing p.phase 2 a
    stood = subst (λ (k : ℕ). a ≡ standing p.phase k a) z (stands_so x recent p w W c l a e A (λ h. omega arith))

    state : a.state ≡ before p.phase
    state = ap (λ (y : Component). y.state) stood

    -- the second Idle is due where all headers are at home
    rest_settled : p.phase ≡ 3 → each_port a (settled (seen w.headers)) ≡ true → IsDue (x.cast).layout p c
    rest_settled three all =
        let n : p.phase ≢ 2 = λ h. omega arith in
        record {
          up = λ h. absurd (omega arith);
          down = λ h k L.
              let r = at_link x c k L in
              let E = its_end x recent p w W n c a l e A k r.0 r.1 r.2 in
              is_settled x recent p w W n k r.1 (emptied x recent p w W n k r.1 r.0 E.port E.end (all_pass (settled (seen w.headers)) (ports_of a) (port_number x.cast r.0 k) E.port all E.there));
          unmade = λ h. absurd (omega arith);
        }

    settled_rest : p.phase ≡ 3 → IsDue (x.cast).layout p c → each_port a (settled (seen w.headers)) ≡ true
    settled_rest three D =
        let n : p.phase ≢ 2 = λ h. omega arith in
        all_true (settled (seen w.headers)) (ports_of a) (λ i q f.
        let P = its_port x recent p w W n c a l e A i q f in
        settles x recent p w W n P.link P.below P.side q P.end (is_emptied x recent p w W n P.link P.below (D.down three P.link (link_at x c P.link P.side P.below P.of_link))))

    executing : p.phase ≡ 3 → a.state ≡ states.Executing
    executing three = state ∙ ap before three

    pub due_so : is_due_to (seen w.headers) a (target p.phase) ≡ true → IsDue (x.cast).layout p c
    due_so t = elim (cases_eq p.phase 3) [
      | inl three ↦ rest_settled three (rest_due (seen w.headers) a (executing three) (subst (λ (k : ℕ). is_due_to (seen w.headers) a (target k) ≡ true) three t)).0
      | inr n ↦ elim (cases_eq p.phase 2) [
        | inl two ↦ due_up x p c two
        | inr k ↦ due_calm x recent p w W k c a l e A n state t
      ]
    ]

    pub so_due : 1 ≤ p.phase → IsDue (x.cast).layout p c → is_due_to (seen w.headers) a (target p.phase) ≡ true
    so_due i D = elim (cases_eq p.phase 3) [
      | inl three ↦
          let t = idle_due (seen w.headers) a (executing three) (settled_rest three D) (free x recent p w W (λ h. omega arith) c a A) in
          subst (λ (k : ℕ). is_due_to (seen w.headers) a (target k) ≡ true) (sym three) t
      | inr n ↦ elim (cases_eq p.phase 2) [
        | inl two ↦ subst (λ (k : ℕ). is_due_to (seen w.headers) a (target k) ≡ true) (sym two) refl
        | inr k ↦ so_calm x recent p w W k c a l e A i n state D
      ]
    ]

  pub happens_to : IsWaiting (x.cast).layout p → is_transition_due (seen w.headers) a ≡ true → Sound (happened (script_place x.cast c) a Transition w)
      → CanAct (x.cast).layout p (Act.Happen c) × IsPlayWorld x recent (acted (x.cast).layout (Act.Happen c) p) (happened (script_place x.cast c) a Transition w)
  happens_to V d S =
      let g : holds_at (pending_at p.phase (p.stage c)) (λ y. is_due_to (seen w.headers) a y.target) ≡ true = subst (λ o. holds_at o (λ y. is_due_to (seen w.headers) a y.target) ≡ true) (ap (λ (y : Component). y.pending) A.stands) d in
      let t = pending_of p.phase (p.stage c) (λ y. is_due_to (seen w.headers) a y.target) g in
      let z = t.0 in
      let C : CanAct (x.cast).layout p (Act.Happen c) = (l, z, due_so z t.1) in (
        C,
        elim (cases_eq p.phase 3) [
          | inl three ↦
              let r = rest_due (seen w.headers) a (executing z three) (subst (λ (k : ℕ). is_due_to (seen w.headers) a (target k) ≡ true) three t.1) in
              rests x recent p w W V c l a e A z three r.0 r.1 C S
          | inr n ↦ comes x recent p w W V c l a e A z n C S
        ],
      )

-- ---- what happens

pub one_happens : (x : PlayCast) (recent : ℕ) (p : Play) (w v : World) → IsPlayWorld x recent p w → IsWaiting (x.cast).layout p → Happens w v
    → (a : Act) × IsHappening a × CanAct (x.cast).layout p a × IsPlayWorld x recent (acted (x.cast).layout a p) v
one_happens x recent p w v W V H = elim (happens_at_port x recent p w W v H) [
  | inr h ↦ (Act.HappenPort h.0 h.1, tt, h.2, h.3)
  | inl d ↦
      let m = W.many in
      let i : ℕ = H.place in
      let a : Component = H.component in
      let s = slice_get_within w.components i a H.there in
      let k = (W.cast_is).each i (omega arith) in
      let c : ℕ = k.0 in
      let e : slice_get w.components (script_place x.cast c) ≡ Some a = subst (λ (j : ℕ). slice_get w.components j ≡ Some a) (sym k.2) H.there in
      let S : Sound (happened i a H.thing w) = sound_happened w i a H.thing W.sound H.there H.due in
      let T : Sound (happened (script_place x.cast c) a Transition w) = subst (λ (j : ℕ). Sound (happened j a Transition w)) (sym k.2) (subst (λ (y : Thing). Sound (happened i a y w)) d.0 S) in
      let P = happens_to x recent p w W c k.1 a e V d.1 T in
      let is : v ≡ happened (script_place x.cast c) a Transition w = H.after ∙ (ap (λ (y : Thing). happened i a y w) d.0 ∙ ap (λ (j : ℕ). happened j a Transition w) (sym k.2)) in
      (Act.Happen c, tt, P.0, subst (λ (y : World). IsPlayWorld x recent (acted (x.cast).layout (Act.Happen c) p) y) (sym is) P.1)
]

-- ---- a closed world

component_rests : (x : PlayCast) (recent : ℕ) (p : Play) (w : World) (c : ℕ) → IsPlayWorld x recent p w → IsClosed w → CanAct (x.cast).layout p (Act.Happen c) → ⊥
component_rests x recent p w c W Z C =
    let g = actor_there x recent p w c W C.0 in
    let a : Component = g.0 in
    let z = C.1 in
    let A = g.2 in
    let none : due_in (seen w.headers) a ≡ None = closed_rests w Z (script_place x.cast c) a g.1 in
    let stood : a ≡ standing p.phase 2 a = subst (λ (k : ℕ). a ≡ standing p.phase k a) z (stands_so x recent p w W c C.0 a g.1 A (λ h. omega arith)) in
    let begun : 1 ≤ p.phase = elim (cases_eq p.phase 0) [
      | inl s ↦ let f = (W.reached).first s c C.0 in absurd (omega arith)
      | inr s ↦ omega arith
    ] in
    let due = so_due x recent p w W c C.0 a g.1 z begun C.2 in
    let t : is_transition_due (seen w.headers) a ≡ true = ap (λ (y : Component). holds_at y.pending (λ o. is_due_to (seen w.headers) a o.target)) stood ∙ due in
    first_there (is_transition_due (seen w.headers) a) _ t none

pub none_due : (x : PlayCast) (recent : ℕ) (p : Play) (w : World) → IsPlayWorld x recent p w → IsClosed w → IsAtRest (x.cast).layout p
none_due x recent p w W Z = record { components = λ c C. component_rests x recent p w c W Z C; ports = λ l o C. port_rests x recent p w W l o Z C }
