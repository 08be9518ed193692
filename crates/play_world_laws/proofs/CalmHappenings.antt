-- But for the phase in which all run no link is being changed: each has its tunnel, its ports rest, and no work is out.
use Rattle.std.proofs.Common.{◌≡◌, ◌≢◌, ◌⊎◌, inl, inr, ℕ, ◌<◌, Bool, true, false, not, nat_le, if◌then◌else◌, [], slice_get, Option, Some, None, option_and_then, refl, sym, ◌∙◌, ap, subst, leb-true, leb-false, arith}
use Rattle.std.proofs.lemmas.Option.{slice_get_within}
use Rattle.il_machine.specs.declared.port.Link.{Link}
use Rattle.il_machine.specs.declared.port.Port.{Port}
use Rattle.il_machine.specs.declared.port.PortKey.{PortKey}
use Rattle.il_machine.specs.Headers.{is_for, seen}
use Rattle.il_machine.specs.Ports.{is_input_port}
use Rattle.il_machine.specs.World.{Component, World, port_of}
use Rattle.machine_laws.proofs.Finding.{either}
use Rattle.machine_laws.proofs.Keys.{none_or_some}
use Rattle.play_model.specs.Progress.{IsLinkOf}
use Rattle.play_model.specs.Changes.{Change, IsChanged}
use Rattle.play_model.specs.Play.{Play, component_at, made}
use Rattle.play_world_laws.specs.View.{worked_at}
use Rattle.play_world_laws.specs.Cast.{components_of, links_of, script_place}
use Rattle.play_world_laws.specs.Wiring.{joined_state, link_to, work_in}
use Rattle.play_world_laws.specs.Changing.{is_enabled_at, is_held_at, is_joined_at, mode_at, state_by}
use Rattle.play_world_laws.specs.PlayWorlds.{IsActorAt, IsEndAt, IsPlayWorld, PlayCast, end_of_link, port_number}
use Rattle.play_world_laws.proofs.ChangeCounts.{made_at_end}
use Rattle.play_world_laws.proofs.ChangeEnds.{end_there, port_end}

-- nothing of the change was done, or all of it
abbrev pub IsResting : Change → Type 0
IsResting k = ((k.step ≡ 0) × (k.output ≡ 0) × (k.input ≡ 0)) ⊎ IsChanged k

resting_state : (o : Bool) (k : Change) (link : Link) → IsResting k → state_by o k link ≡ joined_state link
resting_state true k link (inl h) = let s = h.0 in let e = h.1 in (λ i. record { enabled = is_enabled_at (e i); mode = mode_at (e i); flushing = false; held = is_held_at true (s i); waiting_mark = None; link = if is_joined_at (s i) then Some link else None })
resting_state false k link (inl h) = let s = h.0 in let e = h.2 in (λ i. record { enabled = is_enabled_at (e i); mode = mode_at (e i); flushing = false; held = is_held_at false (s i); waiting_mark = None; link = if is_joined_at (s i) then Some link else None })
resting_state true k link (inr h) = let s = h.0 in let e = h.1 in (λ i. record { enabled = is_enabled_at (e i); mode = mode_at (e i); flushing = false; held = is_held_at true (s i); waiting_mark = None; link = if is_joined_at (s i) then Some link else None })
resting_state false k link (inr h) = let s = h.0 in let e = h.2 in (λ i. record { enabled = is_enabled_at (e i); mode = mode_at (e i); flushing = false; held = is_held_at false (s i); waiting_mark = None; link = if is_joined_at (s i) then Some link else None })

resting_joined : (k : Change) → IsResting k → is_joined_at k.step ≡ true
resting_joined k (inl h) = ap is_joined_at h.0
resting_joined k (inr h) = ap is_joined_at h.0

-- an end of a link with its tunnel whose port rests
pub record IsCalmEnd (x : PlayCast) (p : Play) (w : World) (l : ℕ) (o : Bool) (q : Port) : Type 0 where
  pub key : q.key ≡ end_of_link x.cast o l
  pub state : q.state ≡ joined_state (link_to x.cast l (end_of_link x.cast (not o) l))
  pub direction : is_input_port q ≡ not o
  pub count : q.setting.definition.count ≡ (((x.cast).layout).network).count l
  pub many : (seen w.headers).count (is_for (end_of_link x.cast o l)) ≡ made p l

pub link_at : (x : PlayCast) (c l : ℕ) (o : Bool) → l < links_of x.cast → component_at (x.cast).layout o l ≡ c → IsLinkOf ((x.cast).layout).network c l
link_at x c l true b e = inr (record { below = b; given_by = e })
link_at x c l false b e = inl (record { below = b; taken_by = e })

pub at_link : (x : PlayCast) (c l : ℕ) → IsLinkOf ((x.cast).layout).network c l → (o : Bool) × (l < links_of x.cast) × (component_at (x.cast).layout o l ≡ c)
at_link x c l (inl I) = (false, I.below, I.taken_by)
at_link x c l (inr O) = (true, O.below, O.given_by)

module _ (x : PlayCast) (recent : ℕ) (p : Play) (w : World) (W : IsPlayWorld x recent p w) (n : p.phase ≢ 2) where
  pub resting : (l : ℕ) → l < links_of x.cast → IsResting (p.change l)
  resting l b =
      let K = (W.reached).changes l b in
      let none : (p.change l).step ≡ 0 → IsResting (p.change l) = λ z. inl (z, (K.order).output_unsent (omega arith), (K.order).input_unsent (omega arith)) in
      either (nat_le p.phase 1)
      (λ t. none (K.early (leb-true p.phase 1 t)))
      (λ f.
      let g = leb-false p.phase 1 f in
      either (((x.cast).layout).is_late l) (λ t. inr (K.over (omega arith) t)) (λ t. none (K.fixed t)))

  pub joined : (l : ℕ) → l < links_of x.cast → is_joined_at (p.change l).step ≡ true
  joined l b = resting_joined (p.change l) (resting l b)

  pub calm_end : (l : ℕ) (o : Bool) (q : Port) → l < links_of x.cast → IsEndAt x p l o (end_of_link x.cast o l) (end_of_link x.cast (not o) l) q → IsCalmEnd x p w l o q
  calm_end l o q b E = record {
    key = E.key;
    state = E.state ∙ resting_state o (p.change l) (link_to x.cast l (end_of_link x.cast (not o) l)) (resting l b);
    direction = E.direction;
    count = E.count;
    many = made_at_end x recent p w W l b (joined l b) o;
  }

  module _ (c : ℕ) (a : Component) (m : c < components_of x.cast) (e : slice_get w.components (script_place x.cast c) ≡ Some a) (A : IsActorAt x recent p w c a) where
    -- the port of the component at a link's end
    pub record HasCalmEnd (l : ℕ) (o : Bool) : Type 0 where
      pub port : Port
      pub there : port_of a (port_number x.cast o l) ≡ Some port
      pub end : IsCalmEnd x p w l o port

    pub its_end : (l : ℕ) (o : Bool) → l < links_of x.cast → component_at (x.cast).layout o l ≡ c → HasCalmEnd l o
    its_end l o b g = let E = end_there x recent p w W o l c a b g e in record { port = E.port; there = E.there; end = calm_end l o E.port b E.end }

    -- and the end of a link that a port of it is
    pub record IsCalmPort (q : Port) : Type 0 where
      pub link : ℕ
      pub below : link < links_of x.cast
      pub side : Bool
      pub of_link : component_at (x.cast).layout side link ≡ c
      pub end : IsCalmEnd x p w link side q

    pub its_port : (i : ℕ) (q : Port) → port_of a i ≡ Some q → IsCalmPort q
    its_port i q f = let P = port_end x recent p w W c a m e A i q f in record { link = P.link; below = P.below; side = P.side; of_link = P.of_link; end = calm_end P.link P.side q P.below P.end }

  no_work_at : (port i : ℕ) (r : Option Component) → slice_get w.components i ≡ r → worked_at (option_and_then (λ c. c.work) r) port ≡ []
  no_work_at port i None e = refl
  no_work_at port i (Some a) e =
      let m = W.many in
      let s = slice_get_within w.components i a e in
      let c = (W.cast_is).each i (omega arith) in
      let A = W.actors c.0 a c.1 (subst (λ (k : ℕ). slice_get w.components k ≡ Some a) (sym c.2) e) in
      elim (none_or_some a.work) [ inl z ↦ rw z refl | inr k ↦ absurd (n (A.work k.0 k.1).phase) ]

  pub no_works : (key : PortKey) → work_in w.components key ≡ []
  no_works key = no_work_at key.port key.component (slice_get w.components key.component) refl

  pub free : (c : ℕ) (a : Component) → IsActorAt x recent p w c a → a.work ≡ None
  free c a A = elim (none_or_some a.work) [ inl z ↦ z | inr k ↦ absurd (n (A.work k.0 k.1).phase) ]
