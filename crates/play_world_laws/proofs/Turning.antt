-- The component at the end of a link at which the change goes on: what is queued at it, what was heard of it, and its work.
use Rattle.std.proofs.Common.{◌≡◌, ◌≢◌, ◌⊎◌, inl, inr, ℕ, zero, suc, ◌+◌, ◌<◌, ◌≤◌, Bool, true, false, not, nat_le, is_some, List, [], slice_get, sum_by, Option, Some, None, refl, sym, ◌∙◌, ap, subst, leb-true, leb-false, arith}
use Rattle.std.proofs.lemmas.Bool.{cases_eq}
use Rattle.omx_types.specs.declared.command.Completion.{Completion}
use Rattle.omx_types.specs.declared.command.Note.{Note}
use Rattle.il_machine.specs.declared.answer.Progress.{Progress}
use Rattle.il_machine.specs.declared.port.Link.{Link}
use Rattle.il_machine.specs.declared.port.Port.{Port}
use Rattle.il_machine.specs.Room.{port_reserve}
use Rattle.il_machine.specs.World.{Component, World}
use Rattle.il_machine.specs.Kinds.{is_late}
use Rattle.machine_laws.proofs.Finding.{either}
use Rattle.machine_laws.proofs.Keys.{none_or_some}
use Rattle.play_model.specs.Network.{IsOutput}
use Rattle.play_model.specs.Acts.{with_change}
use Rattle.play_model.specs.Changes.{Change, IsHalfChanged, IsInOrder, port_at, port_on}
use Rattle.play_model.specs.Play.{HasPorts, Play, component_at}
use Rattle.play_world_laws.specs.Cast.{Cast, components_of, giver_of, links_of, script_place, taker_of}
use Rattle.play_world_laws.specs.Wiring.{link_to}
use Rattle.play_world_laws.proofs.Lists.{sum_none}
use Rattle.play_world_laws.proofs.Rooms.{port_of_state}
use Rattle.play_world_laws.specs.Changing.{at_links, commands_of_port, notes_of_port, state_by, told_of_port}
use Rattle.play_world_laws.specs.PlayWorlds.{HasHeard, IsActorAt, IsPlayWorld, PlayCast, announced_note, commands_of_end, end_of_link, notes_of_end, port_commands, port_notes, port_number, settings_notes, settings_of_end}
use Rattle.play_world_laws.proofs.Around.{IsLatest, change_else, change_here, none_told}
use Rattle.play_world_laws.proofs.Claiming.{late_reads}
use Rattle.play_world_laws.proofs.ChangeEnds.{IsPortAt, ends_apart, one_end, port_end, unbroken_port}
use Rattle.play_world_laws.proofs.QueuedLists.{links_none, links_one, links_same}

-- what is queued of a link's settings, by its change
abbrev pub settings_at : Cast → Bool → ℕ → Change → List Note
settings_at y true j r = announced_note r.step (y.output_port j)
settings_at y false j r = []

-- ---- over the change

module _ (x : PlayCast) (recent later : ℕ) (p : Play) (l : ℕ) (g : Change → Change) (c : ℕ) (o : Bool) (at : component_at (x.cast).layout o l ≡ c) (other : component_at (x.cast).layout (not o) l ≢ c) where
  abbrev q : Play
  q = with_change l g p

  abbrev k : Change
  k = p.change l

  -- an end of the component is this one, or of another link
  pub which : (s : Bool) (j : ℕ) → component_at (x.cast).layout s j ≡ c → ((j ≡ l) × (s ≡ o)) ⊎ (j ≢ l)
  which s j a = elim (cases_eq j l) [
    | inl e ↦ inl (e, side o s refl (subst (λ (i : ℕ). component_at (x.cast).layout s i ≡ c) e a))
    | inr n ↦ inr n
  ]
    where
      side : (t s : Bool) → o ≡ t → component_at (x.cast).layout s l ≡ c → s ≡ t
      side true true e a = refl
      side false false e a = refl
      side true false e a = absurd (other (subst (λ (u : Bool). component_at (x.cast).layout (not u) l ≡ c) (sym e) a))
      side false true e a = absurd (other (subst (λ (u : Bool). component_at (x.cast).layout (not u) l ≡ c) (sym e) a))

  -- what ends have of the play, by the change of their link
  lists_turned : {B : Type 0} (P : (Bool → ℕ → Change → List B)) → P o l (g k) ≡ P o l k → at_links (x.cast).layout (λ s j. P s j (q.change j)) c (links_of x.cast) ≡ at_links (x.cast).layout (λ s j. P s j (p.change j)) c (links_of x.cast)
  lists_turned P h = links_same (x.cast).layout (λ s j. P s j (q.change j)) (λ s j. P s j (p.change j)) c (links_of x.cast) (λ s j b t a. elim (which s j a) [
    | inl w ↦
        let now : P o l (q.change l) ≡ P o l (p.change l) = ap (P o l) (change_here l g p) ∙ h in
        let there : P s l (q.change l) ≡ P s l (p.change l) = subst (λ (u : Bool). P u l (q.change l) ≡ P u l (p.change l)) (sym w.1) now in
        subst (λ (i : ℕ). P s i (q.change i) ≡ P s i (p.change i)) (sym w.0) there
    | inr n ↦ ap (P s j) (change_else l g p j n)
  ])

  pub commands_turned : commands_of_port (port_at o (g k)) (port_number x.cast o l) ≡ commands_of_port (port_at o k) (port_number x.cast o l) → port_commands x.cast q c ≡ port_commands x.cast p c
  commands_turned h = lists_turned (λ s j r. commands_of_port (port_at s r) (port_number x.cast s j)) h

  pub notes_turned : notes_of_port (port_at o (g k)) (port_number x.cast o l) ≡ notes_of_port (port_at o k) (port_number x.cast o l) → port_notes x.cast q c ≡ port_notes x.cast p c
  notes_turned h = lists_turned (λ s j r. notes_of_port (port_at s r) (port_number x.cast s j)) h

  settings_are : (r : Play) → settings_notes x.cast r c ≡ at_links (x.cast).layout (λ s j. settings_at x.cast s j (r.change j)) c (links_of x.cast)
  settings_are r = links_same (x.cast).layout _ (λ s j. settings_at x.cast s j (r.change j)) c (links_of x.cast) (λ s j b t a. each s j)
    where
      each : (s : Bool) (j : ℕ) → settings_of_end x.cast r s j ≡ settings_at x.cast s j (r.change j)
      each true j = refl
      each false j = refl

  pub settings_turned : settings_at x.cast o l (g k) ≡ settings_at x.cast o l k → settings_notes x.cast q c ≡ settings_notes x.cast p c
  settings_turned h = settings_are q ∙ (lists_turned (settings_at x.cast) h ∙ sym (settings_are p))

  pub rises_turned : port_at o k ≤ port_at o (g k) → (s : Bool) (j : ℕ) → component_at (x.cast).layout s j ≡ c → port_at s (p.change j) ≤ port_at s (q.change j)
  rises_turned r s j a = elim (which s j a) [
    | inl w ↦
        let now : port_at o k ≤ port_at o (q.change l) = subst (λ (z : Change). port_at o k ≤ port_at o z) (sym (change_here l g p)) r in
        subst (λ (i : ℕ). port_at s (p.change i) ≤ port_at s (q.change i)) (sym w.0) (subst (λ (u : Bool). port_at u (p.change l) ≤ port_at u (q.change l)) (sym w.1) now)
    | inr n ↦ subst (λ (z : Change). port_at s (p.change j) ≤ port_at s z) (sym (change_else l g p j n)) (omega arith)
  ]

  pub heard_turned : IsLatest recent later l k → port_at o k ≤ port_at o (g k) → told_of_port (port_at o (g k)) (port_number x.cast o l) ≡ told_of_port (port_at o k) (port_number x.cast o l) → (o ≡ true → nat_le 2 (g k).step ≡ nat_le 2 k.step)
      → (h : Progress) → HasHeard x.cast recent p c h → HasHeard x.cast later q c h
  heard_turned latest more same two h H = record {
    state = H.state;
    eos = H.eos;
    error = H.error;
    settings = λ j O t. H.settings j O t ∙ sym (elim (which true j O.given_by) [
      | inl w ↦ subst (λ (i : ℕ). nat_le 2 (q.change i).step ≡ nat_le 2 (p.change i).step) (sym w.0) (ap (λ (z : Change). nat_le 2 z.step) (change_here l g p) ∙ two (sym w.1))
      | inr n ↦ ap (λ (z : Change). nat_le 2 z.step) (change_else l g p j n)
    ]);
    port = λ s b a t u.
        let told : Play → Bool → ℕ → Option Completion = λ r s j. told_of_port (port_at s (r.change j)) (port_number x.cast s j) in
        let e : told q s later ≡ told p s later = elim (which s later a) [
          | inl w ↦
              let there : told q s l ≡ told p s l = subst (λ (v : Bool). told q v l ≡ told p v l) (sym w.1) (ap (λ (z : Change). told_of_port (port_at o z) (port_number x.cast o l)) (change_here l g p) ∙ same) in
              subst (λ (i : ℕ). told q s i ≡ told p s i) (sym w.0) there
          | inr n ↦ ap (λ (z : Change). told_of_port (port_at s z) (port_number x.cast s later)) (change_else l g p later n)
        ] in
        let v : is_some (told p s later) ≡ true = sym (ap (λ (d : Option Completion). is_some d) e) ∙ u in
        elim latest [
          | inl n ↦
              let was = H.port s (subst (λ (i : ℕ). i < links_of x.cast) n b) (subst (λ (i : ℕ). component_at (x.cast).layout s i ≡ c) n a) (subst (λ (i : ℕ). ((x.cast).layout).is_late i ≡ true) n t)
              (subst (λ (i : ℕ). is_some (told p s i) ≡ true) n v) in
              was ∙ (ap (told p s) (sym n) ∙ sym e)
          | inr z ↦ absurd (none_told s k (port_number x.cast s l) z.1 z.2 (subst (λ (i : ℕ). is_some (told p s i) ≡ true) z.0 v))
        ];
    past = λ s j b a t.
        let m = rises_turned more s j a in
        let r = H.past s j b a t in
        (λ f. let n = r.0 f in omega arith, λ f. let n = r.1 f in omega arith);
    nothing = H.nothing;
  }

  pub ports_turned : port_at o k ≤ port_at o (g k) → HasPorts (x.cast).layout p c → HasPorts (x.cast).layout q c
  ports_turned h P = record { outputs = λ j O t. more true j O.given_by (P.outputs j O t); inputs = λ j I t. more false j I.taken_by (P.inputs j I t) }
    where
      more : (s : Bool) (j : ℕ) → component_at (x.cast).layout s j ≡ c → 7 ≤ port_at s (p.change j) → 7 ≤ port_at s (q.change j)
      more s j a m = elim (which s j a) [
        | inl w ↦
            let n : 7 ≤ port_at o k = subst (λ (u : Bool). 7 ≤ port_at u (p.change l)) w.1 (subst (λ (i : ℕ). 7 ≤ port_at s (p.change i)) w.0 m) in
            let now : 7 ≤ port_at o (q.change l) = subst (λ (z : Change). 7 ≤ port_at o z) (sym (change_here l g p)) (omega arith) in
            subst (λ (i : ℕ). 7 ≤ port_at s (q.change i)) (sym w.0) (subst (λ (u : Bool). 7 ≤ port_at u (q.change l)) (sym w.1) now)
        | inr n ↦ subst (λ (z : Change). 7 ≤ port_at s z) (sym (change_else l g p j n)) m
      ]

-- ---- an end of a link that isn't steady

reserve_none : (s : Bool) (k : Change) (link : Link) → (port_at s k ≡ 0) ⊎ (port_at s k ≡ 8) → port_reserve (state_by s k link) ≡ 0
reserve_none s k link (inl z) = rw z refl
reserve_none s k link (inr z) = rw z refl

module _ (x : PlayCast) (recent : ℕ) (p : Play) (w : World) (W : IsPlayWorld x recent p w) (l : ℕ) (b : l < links_of x.cast) (t : ((x.cast).layout).is_late l ≡ true) (c : ℕ) (o : Bool) (at : component_at (x.cast).layout o l ≡ c) (a : Component)
    (e : slice_get w.components (script_place x.cast c) ≡ Some a) (A : IsActorAt x recent p w c a) where
  -- what takes out of a link is no late source
  taker_not_late : o ≡ false → (m : ℕ) → IsOutput ((x.cast).layout).network c m → ((x.cast).layout).is_late m ≡ true → ⊥
  taker_not_late s m O u =
      let f : taker_of x.cast l ≡ c = subst (λ (v : Bool). component_at (x.cast).layout v l ≡ c) s at in
      let n : (((x.cast).layout).network).is_source c ≡ false = ap (λ (j : ℕ). (((x.cast).layout).network).is_source j) (sym f) ∙ (((W.cast_is).layout).network).unfed l b in
      let r : is_late a.settings.kind ≡ true = A.late m O ∙ u in
      let s : true ≡ false = sym (sym A.source ∙ late_reads a.settings.kind r) ∙ n in
      cc

  its_side : (s : Bool) → o ≡ s → (m : ℕ) → IsOutput ((x.cast).layout).network c m → ((x.cast).layout).is_late m ≡ true → (m ≡ l) × (o ≡ true)
  its_side true s m O u =
      let f : giver_of x.cast l ≡ c = subst (λ (v : Bool). component_at (x.cast).layout v l ≡ c) s at in
      ((one_end x recent p w W l b t c f a e A true m O.below O.given_by).0, s)
  its_side false s m O u = absurd (taker_not_late s m O u)

  -- a late link that it gives into is this one
  pub its_output : (m : ℕ) → IsOutput ((x.cast).layout).network c m → ((x.cast).layout).is_late m ≡ true → (m ≡ l) × (o ≡ true)
  its_output m O u = its_side o refl m O u

  -- no step of it is out, and no announcement once the settings were announced
  pub no_work_at : port_at o (p.change l) < 7 → 1 ≤ (p.change l).step → a.work ≡ None
  no_work_at n s = elim (none_or_some a.work) [
    | inl z ↦ z
    | inr r ↦ elim (A.work r.0 r.1).which [
      | inl h ↦ absurd (unsteady o refl h.1)
      | inr N ↦
          let m = its_output N.link N.output N.late in
          let z : (p.change l).step ≡ 0 = subst (λ (i : ℕ). (p.change i).step ≡ 0) m.0 N.unannounced in
          absurd (omega arith)
    ]
  ]
    where
      unsteady : (v : Bool) → o ≡ v → HasPorts (x.cast).layout p c → ⊥
      unsteady true z P =
          let m = P.outputs l (record { below = b; given_by = subst (λ (v : Bool). component_at (x.cast).layout v l ≡ c) z at }) t in
          let n1 : (p.change l).output < 7 = subst (λ (v : Bool). port_at v (p.change l) < 7) z n in
          omega arith
      unsteady false z P =
          let m = P.inputs l (record { below = b; taken_by = subst (λ (v : Bool). component_at (x.cast).layout v l ≡ c) z at }) t in
          let n1 : (p.change l).input < 7 = subst (λ (v : Bool). port_at v (p.change l) < 7) z n in
          omega arith

  -- ---- at other links of it nothing is queued, where none but this one may be half changed

  module _ (alone : (j : ℕ) → j < links_of x.cast → ((x.cast).layout).is_late j ≡ true → IsHalfChanged (p.change j) → j ≡ l) where
    pub rest_at : (s : Bool) (j : ℕ) → j < links_of x.cast → j ≢ l → ((x.cast).layout).is_late j ≡ true → (port_at s (p.change j) ≡ 0) ⊎ (port_at s (p.change j) ≡ 8)
    rest_at s j d n u = unbroken_port (p.change j) ((W.reached).changes j d).order (λ h. n (alone j d u h)) s

    apart : component_at (x.cast).layout (not o) l ≢ c
    apart h = ends_apart x recent p w W o l b (h ∙ sym at)

    -- no other port of it is on its way
    pub state_else : (y : Port) (P : IsPortAt x p c y) → P.link ≢ l → (port_at P.side (p.change P.link) ≡ 0) ⊎ (port_at P.side (p.change P.link) ≡ 8)
    state_else y P n = either (((x.cast).layout).is_late P.link)
        (λ u. rest_at P.side P.link P.below n u)
        (λ u.
        let K = (W.reached).changes P.link P.below in
        let z : (p.change P.link).step ≡ 0 = K.fixed u in
        inl (none P.side (p.change P.link) K.order z))
      where
        none : (s : Bool) (k : Change) → IsInOrder k → k.step ≡ 0 → port_at s k ≡ 0
        none true k O z = O.output_unsent (omega arith)
        none false k O z = O.input_unsent (omega arith)

    pub calm_ports : ((link : Link) → port_reserve (state_by o (p.change l) link) ≡ 0) → c < components_of x.cast → sum_by port_reserve a.ports ≡ 0
    calm_ports h d = sum_none port_reserve a.ports (λ i s f.
        let r = port_of_state w (script_place x.cast c) i a s W.sound e f in
        let P = port_end x recent p w W c a d e A i r.0 r.1 in
        let link = link_to x.cast P.link (end_of_link x.cast (not P.side) P.link) in
        ap port_reserve (sym r.2 ∙ (P.end).state) ∙ elim (cases_eq P.link l) [
          | inl z ↦
              let g : component_at (x.cast).layout P.side l ≡ c = subst (λ (j : ℕ). component_at (x.cast).layout P.side j ≡ c) z P.of_link in
              let side : P.side ≡ o = same_side P.side o refl g in
              subst (λ (j : ℕ). port_reserve (state_by P.side (p.change j) link) ≡ 0) (sym z) (subst (λ (v : Bool). port_reserve (state_by v (p.change l) link) ≡ 0) (sym side) (h link))
          | inr n ↦ reserve_none P.side (p.change P.link) link (state_else r.0 P n)
        ])
      where
        same_side : (s v : Bool) → o ≡ v → component_at (x.cast).layout s l ≡ c → s ≡ v
        same_side true true z g = refl
        same_side false false z g = refl
        same_side true false z g = absurd (apart (subst (λ (u : Bool). component_at (x.cast).layout (not u) l ≡ c) (sym z) g))
        same_side false true z g = absurd (apart (subst (λ (u : Bool). component_at (x.cast).layout (not u) l ≡ c) (sym z) g))

    -- once the change has gone on
    module _ (g : Change → Change) where
      rest_after : (s : Bool) (j : ℕ) → j < links_of x.cast → j ≢ l → ((x.cast).layout).is_late j ≡ true → (port_at s ((with_change l g p).change j) ≡ 0) ⊎ (port_at s ((with_change l g p).change j) ≡ 8)
      rest_after s j d n u = subst (λ (z : Change). (port_at s z ≡ 0) ⊎ (port_at s z ≡ 8)) (sym (change_else l g p j n)) (rest_at s j d n u)

      pub commands_after : port_commands x.cast (with_change l g p) c ≡ commands_of_port (port_at o (g (p.change l))) (port_number x.cast o l)
      commands_after = links_one (x.cast).layout (commands_of_end x.cast (with_change l g p)) c (links_of x.cast) l o b t at apart (λ s j d n u h. elim (rest_after s j d n u) [ inl z ↦ rw z refl | inr z ↦ rw z refl ])
          ∙ ap (λ (z : Change). commands_of_port (port_at o z) (port_number x.cast o l)) (change_here l g p)

      pub notes_after : port_notes x.cast (with_change l g p) c ≡ notes_of_port (port_at o (g (p.change l))) (port_number x.cast o l)
      notes_after = links_one (x.cast).layout (notes_of_end x.cast (with_change l g p)) c (links_of x.cast) l o b t at apart (λ s j d n u h. elim (rest_after s j d n u) [ inl z ↦ rw z refl | inr z ↦ rw z refl ])
          ∙ ap (λ (z : Change). notes_of_port (port_at o z) (port_number x.cast o l)) (change_here l g p)

    pub commands_here : port_commands x.cast p c ≡ commands_of_port (port_at o (p.change l)) (port_number x.cast o l)
    commands_here = links_one (x.cast).layout (commands_of_end x.cast p) c (links_of x.cast) l o b t at apart (λ s j d n u h. elim (rest_at s j d n u) [ inl z ↦ rw z refl | inr z ↦ rw z refl ])

    pub notes_here : port_notes x.cast p c ≡ notes_of_port (port_at o (p.change l)) (port_number x.cast o l)
    notes_here = links_one (x.cast).layout (notes_of_end x.cast p) c (links_of x.cast) l o b t at apart (λ s j d n u h. elim (rest_at s j d n u) [ inl z ↦ rw z refl | inr z ↦ rw z refl ])

  -- once they are told no settings are queued
  pub settings_here : 2 ≤ (p.change l).step → settings_notes x.cast p c ≡ []
  settings_here m = links_none (x.cast).layout (settings_of_end x.cast p) c (links_of x.cast) (λ s j d u h. each s j d u h)
    where
      told : (n port : ℕ) → 2 ≤ n → announced_note n port ≡ []
      told zero port l = absurd (omega arith)
      told (suc zero) port l = absurd (omega arith)
      told (suc (suc n)) port l = refl

      each : (s : Bool) (j : ℕ) → j < links_of x.cast → ((x.cast).layout).is_late j ≡ true → component_at (x.cast).layout s j ≡ c → settings_of_end x.cast p s j ≡ []
      each true j d u h =
          let z = its_output j (record { below = d; given_by = h }) u in
          told (p.change j).step ((x.cast).output_port j) (subst (λ (i : ℕ). 2 ≤ (p.change i).step) (sym z.0) m)
      each false j d u h = refl

-- ---- how a port goes on

pub port_next : (o : Bool) (k : Change) → port_at o (port_on o k) ≡ port_at o k + 1
port_next true k = refl
port_next false k = refl

pub port_other : (o : Bool) (k : Change) → port_at (not o) (port_on o k) ≡ port_at (not o) k
port_other true k = refl
port_other false k = refl

pub step_stays : (o : Bool) (k : Change) → (port_on o k).step ≡ k.step
step_stays true k = refl
step_stays false k = refl

-- what was sent to a port was sent by so many acts of the conductor
pub sent_step : (k : Change) → IsInOrder k → (o : Bool) → 1 ≤ port_at o k → 3 ≤ k.step
sent_step k O o n = either (nat_le 3 k.step) (λ t. leb-true 3 k.step t) (λ f. absurd (early o n (let l = leb-false 3 k.step f in omega arith)))
  where
    early : (o : Bool) → 1 ≤ port_at o k → k.step ≤ 2 → ⊥
    early true n l = let z = O.output_unsent l in omega arith
    early false n l = let z = O.input_unsent (omega arith) in omega arith

pub half_of : (k : Change) → IsInOrder k → (o : Bool) → 1 ≤ port_at o k → port_at o k < 8 → IsHalfChanged k
half_of k O true n m = (sent_step k O true n, inl m)
half_of k O false n m = (sent_step k O false n, inr m)

-- ---- the one link that is half changed

module _ (x : PlayCast) (recent : ℕ) (p : Play) (w : World) (W : IsPlayWorld x recent p w) (l : ℕ) (b : l < links_of x.cast) (t : ((x.cast).layout).is_late l ≡ true) (half : IsHalfChanged (p.change l)) where
  pub is_recent : l ≡ recent
  is_recent = W.half l b t half

  pub alone_half : (j : ℕ) → j < links_of x.cast → ((x.cast).layout).is_late j ≡ true → IsHalfChanged (p.change j) → j ≡ l
  alone_half j d u h = W.half j d u h ∙ sym is_recent

  pub all_told : (p.phase ≡ 2) × ((c : ℕ) → c < components_of x.cast → p.stage c ≡ 4)
  all_told = ((W.reached).changes l b).half half

  -- and it stays so
  pub half_stays : (g : Change → Change) (j : ℕ) → j < links_of x.cast → ((x.cast).layout).is_late j ≡ true → IsHalfChanged ((with_change l g p).change j) → j ≡ recent
  half_stays g j d u h = elim (cases_eq j l) [
    | inl s ↦ s ∙ is_recent
    | inr n ↦ W.half j d u (subst (λ (z : Change). IsHalfChanged z) (change_else l g p j n) h)
  ]
