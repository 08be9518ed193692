-- What is due at a port of a play: the end of its disable or enable, exactly where the model can.
use Rattle.std.proofs.Common.{◌≡◌, ◌⊎◌, inl, inr, ℕ, zero, suc, ◌<◌, ◌≤◌, Bool, true, false, not, ◌||◌, nat_eq, nat_le, if◌then◌else◌, List, [], ◌∷◌, slice_get, Option, Some, None, refl, sym, ◌∙◌, ap, subst, eqb-true, eq-eqb, le-leb, leb-true, leb-false, arith}
use Rattle.std.proofs.lemmas.Option.{slice_get_within}
use Rattle.il_machine.specs.declared.port.Link.{Link}
use Rattle.il_machine.specs.declared.port.Port.{Port}
use Rattle.il_machine.specs.declared.port.PortKey.{PortKey}
use Rattle.il_machine.specs.declared.port.PortState.{PortState}
use Rattle.il_machine.specs.Due.{Flush, Happens, IsClosed, PortMode, Thing, Transition, WaitingMark, at_port, due_in, happened, is_flush_due, is_mark_due, is_mode_due, is_transition_due, mode_happened, things_of}
use Rattle.il_machine.specs.Headers.{Seen, is_for, seen}
use Rattle.il_machine.specs.Lists.{first_of_these}
use Rattle.il_machine.specs.Ports.{has_no_header, is_populated}
use Rattle.il_machine.specs.States.{is_down}
use Rattle.il_machine.specs.World.{Component, World, port_of, ports_of}
use Rattle.machine_laws.proofs.Closing.{closed_rests}
use Rattle.machine_laws.proofs.Finding.{either}
use Rattle.machine_laws.proofs.Happening.{IsDueAt, due_where}
use Rattle.machine_laws.proofs.Lookups.{port_parts}
use Rattle.play_model.specs.Acts.{Act, CanAct, acted}
use Rattle.play_model.specs.Changes.{Change, IsInOrder, IsPortDue, port_at}
use Rattle.play_model.specs.Play.{Play, component_at, made}
use Rattle.play_model.specs.Reached.{IsChanging}
use Rattle.play_world_laws.specs.Cast.{links_of, script_place}
use Rattle.play_world_laws.specs.Standing.{state_at}
use Rattle.play_world_laws.specs.Wiring.{link_to}
use Rattle.play_world_laws.proofs.Arrivals.{unmade_by}
use Rattle.play_world_laws.proofs.Supplying.{populated_by}
use Rattle.play_world_laws.specs.Changing.{is_joined_at, mode_at, state_by}
use Rattle.play_world_laws.specs.PlayWorlds.{IsActorAt, IsEndAt, IsPlayWorld, PlayCast, end_of_link, port_number}
use Rattle.play_world_laws.proofs.ChangeCounts.{made_at_end}
use Rattle.play_world_laws.proofs.ChangeEnds.{actor_there, end_inside, end_there, port_end}
use Rattle.play_world_laws.proofs.PortHappening.{happen_plays, happened_is}
use Rattle.play_world_laws.proofs.Standing.{state_is}
use Rattle.play_world_laws.proofs.Turning.{all_told, half_of}

some_is : {X : Type 0} (a b : X) → Some a ≡ Some b → a ≡ b
some_is a b e = cc

not_both : {X : Type 0} → false ≡ true → X
not_both e = absurd cc

-- ---- the mode by the port's number

mode_due : (headers : Seen) (a : Component) (y : Port) (n : ℕ) → is_mode_due headers a y (mode_at n) ≡ true → ((n ≡ 2) × (has_no_header headers y ≡ true)) ⊎ ((n ≡ 6) × ((is_populated headers y || is_down a.state) ≡ true))
mode_due headers a y zero h = absurd cc
mode_due headers a y (suc zero) h = absurd cc
mode_due headers a y (suc (suc zero)) h = inl (refl, h)
mode_due headers a y (suc (suc (suc zero))) h = absurd cc
mode_due headers a y (suc (suc (suc (suc zero)))) h = absurd cc
mode_due headers a y (suc (suc (suc (suc (suc zero))))) h = absurd cc
mode_due headers a y (suc (suc (suc (suc (suc (suc zero)))))) h = inr (refl, h)
mode_due headers a y (suc (suc (suc (suc (suc (suc (suc n))))))) h = absurd cc

or_left : (b d : Bool) → (b || d) ≡ true → d ≡ false → b ≡ true
or_left true d h f = refl
or_left false d h f = let z : true ≡ false = sym h ∙ f in absurd cc

-- a port on its way belongs to a link that has its tunnel
on_its_way : (k : Change) → IsInOrder k → (o : Bool) → (port_at o k ≡ 2) ⊎ (port_at o k ≡ 6) → is_joined_at k.step ≡ true
on_its_way k O o (inl e) =
    let s : k.step ≤ 4 = either (nat_le k.step 4) (λ t. leb-true k.step 4 t) (λ f. let l = leb-false k.step 4 f in absurd (low o (O.told (omega arith)) e)) in
    let t : nat_le k.step 4 ≡ true = le-leb k.step 4 s in
    rw t refl
  where
    low : (o : Bool) → (4 ≤ k.output) × (4 ≤ k.input) → port_at o k ≡ 2 → ⊥
    low true h e = let a = h.0 in omega arith
    low false h e = let a = h.1 in omega arith
on_its_way k O o (inr e) =
    let t : nat_le 8 k.step ≡ true = either (nat_le 8 k.step) (λ t. t) (λ f. let l = leb-false 8 k.step f in absurd (high o (omega arith) e)) in
    or_true (nat_le k.step 4) (nat_le 8 k.step) t
  where
    high : (o : Bool) → k.step ≤ 7 → port_at o k ≡ 6 → ⊥
    high true h e = let a = O.output_waits (omega arith) in omega arith
    high false h e = let a = O.input_waits (omega arith) in omega arith

    or_true : (b d : Bool) → d ≡ true → (b || d) ≡ true
    or_true true d h = refl
    or_true false d h = h

-- ---- what is due

module _ (x : PlayCast) (recent : ℕ) (p : Play) (w : World) (W : IsPlayWorld x recent p w) where
  -- at a port of a link, in the model's numbers
  module _ (l : ℕ) (o : Bool) (b : l < links_of x.cast) (t : ((x.cast).layout).is_late l ≡ true) (y : Port) (E : IsEndAt x p l o (end_of_link x.cast o l) (end_of_link x.cast (not o) l) y) where
    abbrev k : Change
    k = p.change l

    ordered : IsInOrder k
    ordered = ((W.reached).changes l b).order

    made_there : (port_at o k ≡ 2) ⊎ (port_at o k ≡ 6) → (seen w.headers).count (is_for (end_of_link x.cast o l)) ≡ made p l
    made_there h = made_at_end x recent p w W l b (on_its_way k ordered o h) o

    unmade_is : port_at o k ≡ 2 → has_no_header (seen w.headers) y ≡ nat_eq (made p l) 0
    unmade_is h = unmade_by (seen w.headers) y (end_of_link x.cast o l) (made p l) E.key (made_there (inl h))

    full_is : port_at o k ≡ 6 → is_populated (seen w.headers) y ≡ nat_eq (made p l) ((((x.cast).layout).network).count l)
    full_is h = populated_by (seen w.headers) y (end_of_link x.cast o l) (made p l) ((((x.cast).layout).network).count l) E.key E.count (made_there (inr h))

    -- its component is up
    is_up : (a : Component) → IsActorAt x recent p w (component_at (x.cast).layout o l) a → 1 ≤ port_at o k → port_at o k < 8 → is_down a.state ≡ false
    is_up a A m n =
        let T = all_told x recent p w W l b t (half_of k ordered o m n) in
        let two = T.0 in
        let four = T.1 (component_at (x.cast).layout o l) (end_inside x recent p w W o l b) in
        ap is_down (state_is x recent p w (component_at (x.cast).layout o l) a A ∙ (λ i. state_at (two i) (four i)))

    pub due_is : (a : Component) → IsActorAt x recent p w (component_at (x.cast).layout o l) a → is_mode_due (seen w.headers) a y y.state.mode ≡ true → CanAct (x.cast).layout p (Act.HappenPort l o)
    due_is a A h =
        let m : is_mode_due (seen w.headers) a y (mode_at (port_at o k)) ≡ true = ap (λ (s : PortState). is_mode_due (seen w.headers) a y s.mode) (sym E.state) ∙ h in
        elim (mode_due (seen w.headers) a y (port_at o k) m) [
          | inl d ↦ (b, t, inl (d.0, eqb-true _ _ (sym (unmade_is d.0) ∙ d.1)))
          | inr d ↦
              let n = d.0 in
              (b, t, inr (d.0, eqb-true _ _ (sym (full_is d.0) ∙ or_left (is_populated (seen w.headers) y) (is_down a.state) d.1 (is_up a A (omega arith) (omega arith)))))
        ]

    pub is_due : (a : Component) → CanAct (x.cast).layout p (Act.HappenPort l o) → is_mode_due (seen w.headers) a y y.state.mode ≡ true
    is_due a C = ap (λ (s : PortState). is_mode_due (seen w.headers) a y s.mode) E.state ∙ by_number C.2
      where
        by_number : IsPortDue (made p l) ((((x.cast).layout).network).count l) (port_at o k) → is_mode_due (seen w.headers) a y (mode_at (port_at o k)) ≡ true
        by_number (inl d) = ap (λ m. is_mode_due (seen w.headers) a y (mode_at m)) d.0 ∙ (unmade_is d.0 ∙ eq-eqb _ _ d.1)
        by_number (inr d) =
            let f : is_populated (seen w.headers) y ≡ true = full_is d.0 ∙ eq-eqb _ _ d.1 in
            ap (λ m. is_mode_due (seen w.headers) a y (mode_at m)) d.0 ∙ rw f refl

  -- ---- what happens

  -- a link that isn't a late source's has no port on its way
  pub early_port : (l : ℕ) (o : Bool) → l < links_of x.cast → ((x.cast).layout).is_late l ≡ false → port_at o (p.change l) ≡ 0
  early_port l o b f = none o
    where
      K : IsChanging (x.cast).layout p l (p.change l)
      K = (W.reached).changes l b

      none : (s : Bool) → port_at s (p.change l) ≡ 0
      none true = (K.order).output_unsent (let z = K.fixed f in omega arith)
      none false = (K.order).input_unsent (let z = K.fixed f in omega arith)

  -- a port's disable or enable ends; nothing else is due at a port
  pub happens_at_port : (v : World) → (H : Happens w v) → ((H.thing ≡ Transition) × (is_transition_due (seen w.headers) H.component ≡ true))
      ⊎ ((l : ℕ) × (o : Bool) × CanAct (x.cast).layout p (Act.HappenPort l o) × IsPlayWorld x recent (acted (x.cast).layout (Act.HappenPort l o) p) v)
  happens_at_port v H =
      let m = W.many in
      let i : ℕ = H.place in
      let a : Component = H.component in
      let s = slice_get_within w.components i a H.there in
      let r = (W.cast_is).each i (omega arith) in
      let c : ℕ = r.0 in
      let e : slice_get w.components (script_place x.cast c) ≡ Some a = subst (λ (j : ℕ). slice_get w.components j ≡ Some a) (sym r.2) H.there in
      let A = W.actors c a r.1 e in
      elim (due_where (seen w.headers) a H.thing H.due) [
        | inl d ↦ inl d
        | inr d ↦
            let y : Port = d.port in
            let P = port_end x recent p w W c a r.1 e A d.place y d.there in
            let l : ℕ = P.link in
            let o : Bool = P.side in
            let link = link_to x.cast l (end_of_link x.cast (not o) l) in
            let key : d.place ≡ y.key.port = sym (ap (λ (z : PortKey). z.port) (port_parts a d.place y d.there).key) in
            let mode = at_thing a y H.thing P.side (p.change P.link) link (P.end).state d.due in
            let A1 : IsActorAt x recent p w (component_at (x.cast).layout o l) a = subst (λ (j : ℕ). IsActorAt x recent p w j a) (sym P.of_link) A in
            let e1 : slice_get w.components (script_place x.cast (component_at (x.cast).layout o l)) ≡ Some a = ap (λ (j : ℕ). slice_get w.components (script_place x.cast j)) P.of_link ∙ e in
            let late : ((x.cast).layout).is_late l ≡ true = either (((x.cast).layout).is_late l) (λ t. t) (λ f.
            let n = early_port l o P.below f in
            let z : is_mode_due (seen w.headers) a y (mode_at (port_at o (p.change l))) ≡ true = ap (λ (q : PortState). is_mode_due (seen w.headers) a y q.mode) (sym (P.end).state) ∙ mode.1 in
            not_both (sym (ap (λ n. is_mode_due (seen w.headers) a y (mode_at n)) n) ∙ z)) in
            let C = due_is l o P.below late y P.end a A1 mode.1 in
            let E = end_there x recent p w W o l (component_at (x.cast).layout o l) a C.0 refl e1 in
            let index : port_number x.cast o l ≡ d.place = by_key o l y (P.end).key ∙ sym key in
            let same : Some E.port ≡ Some y = sym E.there ∙ (ap (port_of a) index ∙ d.there) in
            let is : E.port ≡ y = some_is E.port y same in
            let place : i ≡ script_place x.cast (component_at (x.cast).layout o l) = sym r.2 ∙ ap (λ (j : ℕ). script_place x.cast j) (sym P.of_link) in
            let n : port_of a y.key.port ≡ Some y = ap (port_of a) (sym key) ∙ d.there in
            let after : v ≡ mode_happened (script_place x.cast (component_at (x.cast).layout o l)) a E.port w =
            H.after ∙ (ap (λ (z : Thing). happened i a z w) mode.0 ∙ (ap (λ (z : Option Port). at_port z (mode_happened i a) w) n ∙ (λ t. mode_happened (place t) a (sym is t) w)))
            in
            inr (l, o, C, subst (λ (z : World). IsPlayWorld x recent (acted (x.cast).layout (Act.HappenPort l o) p) z) (sym (after ∙ happened_is x recent p w W l o C a e1)) (happen_plays x recent p w W l o C a e1))
      ]
    where
      by_key : (o : Bool) (l : ℕ) (y : Port) → y.key ≡ end_of_link x.cast o l → port_number x.cast o l ≡ y.key.port
      by_key true l y h = sym (ap (λ (z : PortKey). z.port) h)
      by_key false l y h = sym (ap (λ (z : PortKey). z.port) h)

      at_thing : (a : Component) (y : Port) (thing : Thing) (s : Bool) (r : Change) (link : Link) → y.state ≡ state_by s r link → IsDueAt (seen w.headers) a y thing → (thing ≡ PortMode y.key.port) × (is_mode_due (seen w.headers) a y y.state.mode ≡ true)
      at_thing a y Transition s r link e h = absurd h
      at_thing a y (Flush n) s r link e h = let f : false ≡ true = rw e at h.1 in absurd cc
      at_thing a y (PortMode n) s r link e h = (ap (λ (m : ℕ). PortMode m) h.0, h.1)
      at_thing a y (WaitingMark n) s r link e h = let f : false ≡ true = rw e at h.1 in absurd cc

  -- ---- and nothing is due in a closed world

  pub port_rests : (l : ℕ) (o : Bool) → IsClosed w → CanAct (x.cast).layout p (Act.HappenPort l o) → ⊥
  port_rests l o Z C =
      let c : ℕ = component_at (x.cast).layout o l in
      let a = actor_there x recent p w c W (end_inside x recent p w W o l C.0) in
      let E = end_there x recent p w W o l c a.0 C.0 refl a.1 in
      let none : due_in (seen w.headers) a.0 ≡ None = closed_rests w Z (script_place x.cast c) a.0 a.1 in
      let due = is_due l o C.0 C.1 E.port E.end a.0 C in
      some_due (is_transition_due (seen w.headers) a.0) (ports_of a.0) (seen w.headers) a.0 (port_number x.cast o l) E.port E.there due none
    where
      things_due : (ps : List Port) (headers : Seen) (a : Component) (i : ℕ) (y : Port) → slice_get ps i ≡ Some y → is_mode_due headers a y y.state.mode ≡ true → first_of_these (things_of headers a ps) ≡ None → ⊥
      things_due [] headers a i y e d n = cc
      things_due (z ∷ ps) headers a zero y e d n =
          let s : z ≡ y = cc in
          let g : is_mode_due headers a z z.state.mode ≡ true = ap (λ (q : Port). is_mode_due headers a q q.state.mode) s ∙ d in
          either (is_flush_due headers a z)
          (λ f. let u : Some (Flush z.key.port) ≡ None = rw f at n in cc)
          (λ f. let u : Some (PortMode z.key.port) ≡ None = rw (f, g) at n in cc)
      things_due (z ∷ ps) headers a (suc i) y e d n = either (is_flush_due headers a z)
          (λ f. let u : Some (Flush z.key.port) ≡ None = rw f at n in cc)
          (λ f. either (is_mode_due headers a z z.state.mode)
          (λ g. let u : Some (PortMode z.key.port) ≡ None = rw (f, g) at n in cc)
          (λ g. either (is_mark_due headers z)
          (λ h. let u : Some (WaitingMark z.key.port) ≡ None = rw (f, g, h) at n in cc)
          (λ h. things_due ps headers a i y e d (rw (f, g, h) at n))))

      some_due : (t : Bool) (ps : List Port) (headers : Seen) (a : Component) (i : ℕ) (y : Port) → slice_get ps i ≡ Some y → is_mode_due headers a y y.state.mode ≡ true → (if t then Some Transition else first_of_these (things_of headers a ps)) ≡ None → ⊥
      some_due true ps headers a i y e d n = cc
      some_due false ps headers a i y e d n = things_due ps headers a i y e d n
