-- What nobody asks for is not refused at a component of the plan, and at a port that it has: the handle names it for ever, and each of its
-- ports is an end of a link.
use Rattle.std.proofs.Common.{◌≡◌, ℕ, ◌<◌, Bool, true, false, List, length, slice_get, Option, Some, None, option_and_then, Result, Ok, Err, refl, sym, ◌∙◌, ap, arith}
use Rattle.std.specs.Prelude.{MatchOption, if◌then◌else◌, is_err}
use Rattle.std.proofs.lemmas.Option.{slice_get_within}
use Rattle.omx_types.specs.declared.command.Note.{Note}
use Rattle.omx_types.specs.declared.command.Note.TheVariants.{EmptyDone, FillDone, Told}
use Rattle.omx_types.specs.declared.error.CallError.TheVariants.{Omx}
use Rattle.omx_types.specs.declared.error.OmxError.{OmxError}
use Rattle.omx_types.specs.declared.error.OmxError.TheVariants as errors
use Rattle.omx_types.specs.declared.handle.Handle.{Handle}
use Rattle.il_machine.specs.declared.answer.Acted.{Acted}
use Rattle.il_machine.specs.declared.answer.Why.{Why}
use Rattle.il_machine.specs.declared.port.Port.{Port}
use Rattle.il_machine.specs.declared.port.PortKey.{PortKey}
use Rattle.il_machine.specs.Acts.{Act, Reply}
use Rattle.il_machine.specs.Acts as acts
use Rattle.il_machine.specs.Answers.{Acts, component_named, looked, plain}
use Rattle.il_machine.specs.Claims.{Claimed, Claims, claim_idle}
use Rattle.il_machine.specs.Commands.{run_front, run_idle}
use Rattle.il_machine.specs.Components.{progress_of}
use Rattle.il_machine.specs.Flow.{OnPort, back_idle, front_unmade, handed_back, handed_over, in_port, over_idle, release_idle, supply_idle, with_supplied}
use Rattle.il_machine.specs.Headers.{find_header, seen}
use Rattle.il_machine.specs.Kinds.{ports_in}
use Rattle.il_machine.specs.Look.{look}
use Rattle.il_machine.specs.Notes.{TakeFrom, Took}
use Rattle.il_machine.specs.Run.{Step}
use Rattle.il_machine.specs.World.{Component, HeaderRecord, World, place_of, port_of, with_component}
use Rattle.play_build_laws.proofs.Places.{resolved}
use Rattle.play_forms.specs.Plans.{PlanValue}
use Rattle.play_world_laws.specs.Cast.{input_at, output_at}
use Rattle.play_world_laws.specs.PlayWorlds.{PlayCast}
use Rattle.play_world_laws.specs.Wiring.{port_in}
use Rattle.play_plan_laws.specs.Assemblies.{PlayFiles, end_of, kind_in, play_cast_of}
use Rattle.play_plan_laws.specs.Casting.{joint_of}
use Rattle.play_plan_laws.proofs.Lawful.{plan_lawful}
use Rattle.play_history_laws.proofs.StreamsKept.{read_there}
use Rattle.read_world_laws.specs.Inside.{taken_in}
use Rattle.read_world_laws.specs.Mended.{mended}
use Rattle.play_history_laws.specs.Order.{Cursor}
use Rattle.play_history_laws.specs.Askings.{IsPlanHistory, read_of}
use Rattle.play_history_laws.specs.Refused.{IsAtPart, IsPartHandle, IsPartPort, is_refused}
use Rattle.play_history_laws.specs.Requests.{is_request_act}
use Rattle.play_history_laws.proofs.Answered.{there}
use Rattle.play_history_laws.proofs.Askings.{come, link_is, many, named_now, read_is}

-- ---- a call that did something, or nothing

acts_err : {E : Type 0} (o : Option Why) (result : Result Acted E) (w e v : World) → Acts o result w e v → is_err result ≡ false
acts_err (Some why) result w e v A = ap is_err A.0
acts_err None result w e v A = ap is_err A.0

claims_err : (o : Option Claimed) (i : ℕ) (c : Component) (w : World) (result : Result Claimed OmxError) (v : World) → Claims o i c w result v → is_err result ≡ false
claims_err (Some idle) i c w result v C = ap is_err C.0
claims_err None i c w result v C = ap is_err C.0

at_header : {T : Type 0} (result : Result T OmxError) (o : Option HeaderRecord) (Then : HeaderRecord → Type 0) → ((r : HeaderRecord) → Then r → is_err result ≡ false) → MatchOption o ⊥ Then → is_err result ≡ false
at_header result None Then goes t = absurd t
at_header result (Some r) Then goes t = goes r t

takes_err : (w : World) (i : ℕ) (c : Component) (out : Bool) (o : Option Note) (result : Result Took OmxError) (v : World) → TakeFrom w i c out o result v → is_err result ≡ false
takes_err w i c true o result v T = ap is_err T.0
takes_err w i c false None result v T = ap is_err T.0
takes_err w i c false (Some (Told event)) result v T = ap is_err T.0
takes_err w i c false (Some (EmptyDone n)) result v T = at_header result (find_header n w.headers) _ (λ r t. ap is_err t.0) T
takes_err w i c false (Some (FillDone n)) result v T = at_header result (find_header n w.headers) _ (λ r t. ap is_err t.0) T

at_port : (N : Type 0) (o : Option Port) (Then : Port → Type 0) (p : Port) → o ≡ Some p → MatchOption o N Then → Then p
at_port N o Then p e h = rw e at h

-- The handles name components of the world, each of which has its ports.
record HasParts (plan : PlanValue) (handles : List Handle) (v : World) : Type 0 where
  named : (i : ℕ) (h : Handle) → slice_get handles i ≡ Some h → place_of h v.components ≡ Some i
  there : (i : ℕ) (h : Handle) → slice_get handles i ≡ Some h → (c : Component) × (slice_get v.components i ≡ Some c)
  ports : (i port : ℕ) (h : Handle) (c : Component) → slice_get handles i ≡ Some h → slice_get v.components i ≡ Some c → port < ports_in (kind_in (slice_get plan.parts i)) → (q : Port) × (port_of c port ≡ Some q)

module _ (plan : PlanValue) (handles : List Handle) (v : World) (S : HasParts plan handles v) where
  on_port : {T E : Type 0} (refuse : OmxError → E) (h : Handle) (port : ℕ) (result : Result T E) (u : World) (Then : ℕ → Component → Port → Type 0) → IsPartPort plan handles h port → OnPort refuse v h port result u Then
      → (i : ℕ) × (c : Component) × (q : Port) × Then i c q
  on_port refuse h port result u Then (i, e, b) s =
      let c = S.there i h e in
      let q = S.ports i port h c.0 e c.1 b in
      let R = resolved refuse v h result u (λ j d. MatchOption (port_of d port) ((result ≡ Err (refuse errors.BadPortIndex)) × (u ≡ v)) (λ p. Then j d p)) i c.0 (S.named i h e) c.1 s in
      (i, c.0, q.0, at_port _ (port_of c.0 port) (Then i c.0) q.0 q.1 R)

  at_component : {T : Type 0} (h : Handle) (result : Result T OmxError) (u : World) (Then : ℕ → Component → Type 0) → IsPartHandle handles h
      → MatchOption (place_of h v.components) ((result ≡ Err errors.InvalidComponent) × (u ≡ v)) (λ i. MatchOption (slice_get v.components i) ⊥ (λ c. Then i c))
      → (i : ℕ) × (c : Component) × Then i c
  at_component h result u Then (i, e) s =
      let c = S.there i h e in
      (i, c.0, resolved plain v h result u Then i c.0 (S.named i h e) c.1 s)

  looked_err : {T : Type 0} (o : Option Component) (c : Component) (answer : Component → T) → o ≡ Some c → is_err (looked {T = T} o (λ d. Ok (answer d))) ≡ false
  looked_err None c answer e = absurd cc
  looked_err (Some d) c answer e = refl

  not_refused_there : (a : Act) (r : Reply) (u : World) → IsAtPart plan handles a → is_request_act a ≡ false → Step v a r u → is_refused r ≡ false
  not_refused_there (acts.RunCommand h) (acts.Acted result) u P n s =
      let R = at_component h result u (λ i c. Acts (run_idle c c.commands) result v (with_component i (run_front (look v) c.commands c) v) u) P s in
      acts_err (run_idle R.1 (R.1).commands) result v (with_component R.0 (run_front (look v) (R.1).commands R.1) v) u R.2
  not_refused_there (acts.Claim h) (acts.Claimed result) u P n s =
      let R = at_component h result u (λ i c. Claims (claim_idle (look v) c) i c v result u) P s in
      claims_err (claim_idle (look v) R.1) R.0 R.1 v result u R.2
  not_refused_there (acts.TakeNote h) (acts.Took result) u P n s =
      let R = at_component h result u (λ i c. TakeFrom v i c c.client_out (slice_get c.notes 0) result u) P s in
      takes_err v R.0 R.1 (R.1).client_out (slice_get (R.1).notes 0) result u R.2
  not_refused_there (acts.Progress h) (acts.Progressed result) u (i, e) n s =
      let c = S.there i h e in
      let here : component_named h v.components ≡ Some c.0 = ap (option_and_then (slice_get v.components)) (S.named i h e) ∙ c.1 in
      ap is_err s.0 ∙ looked_err (component_named h v.components) c.0 (λ d. if d.client_out then None else Some (progress_of d v)) here
  not_refused_there (acts.Supply h port) (acts.Supplied result) u P n s =
      let R = on_port Omx h port result u (λ i c p. Acts (supply_idle (look v) c p) result v (with_supplied p v) u) P s in
      acts_err (supply_idle (look v) R.1 R.2) result v (with_supplied R.2 v) u R.3
  not_refused_there (acts.Release h port) (acts.Acted result) u P n s =
      let R = on_port plain h port result u (λ i c p. Acts (release_idle (look v) c p) result v (front_unmade (in_port (seen v.headers) p) v) u) P s in
      acts_err (release_idle (look v) R.1 R.2) result v (front_unmade (in_port (seen v.headers) R.2) v) u R.3
  not_refused_there (acts.HandOver h port) (acts.Acted result) u P n s =
      let R = on_port plain h port result u (λ i c p. Acts (over_idle (look v) c p) result v (handed_over p v) u) P s in
      acts_err (over_idle (look v) R.1 R.2) result v (handed_over R.2 v) u R.3
  not_refused_there (acts.HandBack h port) (acts.Acted result) u P n s =
      let R = on_port plain h port result u (λ i c p. Acts (back_idle (look v) c p) result v (handed_back i c p p.state.link v) u) P s in
      acts_err (back_idle (look v) R.1 R.2) result v (handed_back R.0 R.1 R.2 (R.2).state.link v) u R.3
  not_refused_there (acts.Finish done) acts.Finished u P n s = refl
  not_refused_there (acts.EndNote h progress) acts.Ended u P n s = refl
  not_refused_there (acts.RunCommand h) _ u P n s = absurd s
  not_refused_there (acts.Claim h) _ u P n s = absurd s
  not_refused_there (acts.TakeNote h) _ u P n s = absurd s
  not_refused_there (acts.Progress h) _ u P n s = absurd s
  not_refused_there (acts.Supply h port) _ u P n s = absurd s
  not_refused_there (acts.Release h port) _ u P n s = absurd s
  not_refused_there (acts.HandOver h port) _ u P n s = absurd s
  not_refused_there (acts.HandBack h port) _ u P n s = absurd s
  not_refused_there (acts.Finish done) _ u P n s = absurd s
  not_refused_there (acts.EndNote h progress) _ u P n s = absurd s
  not_refused_there _ r u P n s = absurd cc

-- ---- behind a history

module _ (plan : PlanValue) (files : PlayFiles) (handles : List Handle) (w : World) (steps : List (Act × Reply)) (k : Cursor) (v : World) (G : IsPlanHistory plan files handles w steps k v) where
  abbrev x : PlayCast
  x = play_cast_of plan

  below : (i : ℕ) (h : Handle) → slice_get handles i ≡ Some h → i < length plan.parts
  below i h e = let b = slice_get_within handles i h e in let m = many plan files handles w steps k v G in omega (arith, b, m)

  component_there : (i : ℕ) (h : Handle) → slice_get handles i ≡ Some h → (c : Component) × (slice_get v.components i ≡ Some c)
  component_there i h e =
      let d = there plan files handles w steps k v G i (below i h e) in
      let c = read_is v i d.0 d.1 in
      (c.0, c.1)

  -- each of its ports is an end of a link, and so it is there
  read_port : (i port : ℕ) (h : Handle) → slice_get handles i ≡ Some h → port < ports_in (kind_in (slice_get plan.parts i)) → (q : Port) × (port_in (read_of v).components (record { component = i; port = port }) ≡ Some q)
  read_port i port h e b =
      let E = (plan_lawful plan files G.ready).each i port (below i h e) b in
      by E.side E.link E.below E.end
    where
      by : (side : Bool) (l : ℕ) → l < length plan.joints → end_of side (joint_of plan l) ≡ record { component = i; port = port } → (q : Port) × (port_in (read_of v).components (record { component = i; port = port }) ≡ Some q)
      by false l b is =
          let K = link_is plan files handles w steps k v G l b in
          let W = ((((((come plan files handles w steps k v G).faulty).taken).played).play).wired l b) in
          let key : output_at x.cast l ≡ record { component = i; port = port } = λ j. record { component = (K.giver ∙ ap (λ (y : PortKey). y.component) is) j; port = (K.output ∙ ap (λ (y : PortKey). y.port) is) j } in
          (W.output, ap (port_in (read_of v).components) (sym key) ∙ W.output_there)
      by true l b is =
          let K = link_is plan files handles w steps k v G l b in
          let W = ((((((come plan files handles w steps k v G).faulty).taken).played).play).wired l b) in
          let key : input_at x.cast l ≡ record { component = i; port = port } = λ j. record { component = (K.taker ∙ ap (λ (y : PortKey). y.component) is) j; port = (K.input ∙ ap (λ (y : PortKey). y.port) is) j } in
          (W.input, ap (port_in (read_of v).components) (sym key) ∙ W.input_there)

  port_there : (i port : ℕ) (h : Handle) (c : Component) → slice_get handles i ≡ Some h → slice_get v.components i ≡ Some c → port < ports_in (kind_in (slice_get plan.parts i)) → (q : Port) × (port_of c port ≡ Some q)
  port_there i port h c e t b =
      let q = read_port i port h e b in
      let read : slice_get (read_of v).components i ≡ Some (taken_in (mended c)) = read_there v.streams v i c t in
      (q.0, sym (ap (option_and_then (λ (d : Component). port_of d port)) read) ∙ q.1)

  has_parts : HasParts plan handles v
  has_parts = record { named = named_now plan files handles w steps k v G; there = component_there; ports = port_there }

  pub not_refused : (a : Act) (r : Reply) (u : World) → IsAtPart plan handles a → is_request_act a ≡ false → Step v a r u → is_refused r ≡ false
  not_refused = not_refused_there plan handles v has_parts
