-- The acts of a StateSet: it begins, and goes to one component after the other, while others act.
use Rattle.std.proofs.Common.{◌≡◌, ◌⊎◌, inl, inr, ℕ, suc, ◌+◌, ◌≤◌, List, [], ◌∷◌, map, length, slice_get, Some, None, refl, sym, ◌∙◌, ap, subst, arith}
use Rattle.omx_types.specs.declared.command.Command.TheVariants.{StateSet}
use Rattle.omx_types.specs.declared.handle.Handle.{Handle}
use Rattle.omx_types.specs.declared.state.State.{State}
use Rattle.il_machine.specs.Acts.{Act as MachineAct, Reply}
use Rattle.il_machine.specs.Run.{Step}
use Rattle.il_machine.specs.World.{Stream, World}
use Rattle.conductor.specs.declared.phase.Phase.TheVariants as phases
use Rattle.conductor.specs.Hearing.{ConductorValue}
use Rattle.conductor.specs.Phases.{Conducts}
use Rattle.play_build_laws.specs.Stages.{IsStage, Joining}
use Rattle.play_forms.specs.Plans.{PlanValue}
use Rattle.play_model.specs.Acts.{Act, acted}
use Rattle.play_model.specs.Play.{Layout, Play}
use Rattle.play_world_laws.specs.Standing.{target}
use Rattle.play_world_laws.specs.PlayWorlds.{PlayCast}
use Rattle.play_plan_laws.specs.Assemblies.{IsReady, PlayFiles, assembly_of, play_cast_of}
use Rattle.play_result_laws.specs.Asked.{sending}
use Rattle.read_world_laws.specs.Inside.{inside}
use Rattle.read_world_laws.specs.Mended.{mend}
use Rattle.play_history_laws.specs.Following.{Follows}
use Rattle.play_history_laws.specs.Order.{Cursor, IsAsked, IsSending, nothing_asked}
use Rattle.play_history_laws.specs.Faults.{IsFaultHistory, IsFaulty}
use Rattle.play_history_laws.proofs.Accepting.{accepts, not_declined}
use Rattle.play_history_laws.proofs.FaultAsking.{asked_so}
use Rattle.play_history_laws.specs.Behind.{IsOld}
use Rattle.play_history_laws.proofs.ViewsKept.{old_stays}
use Rattle.play_history_laws.proofs.Standing.{old_sends}
use Rattle.play_history_laws.specs.Askings.{IsPlanHistory, read_of}
use Rattle.play_history_laws.proofs.Answered.{mapped_at, sent_ok}
use Rattle.play_history_laws.proofs.Askings.{sends_to}
use Rattle.play_history_laws.proofs.AskedInTime.{begins_asked}
use Rattle.play_history_laws.proofs.Knowing.{Holds, old_on}
use Rattle.play_history_laws.proofs.PassWalk.{AcceptsNext, Holding, IsOn, KeepsOthers, KeepsOwn}

-- at a later place of a list
pub place_on : {A : Type 0} (xs : List A) (i j : ℕ) (y : A) → slice_get xs (i + suc j) ≡ Some y → slice_get xs ((i + 1) + j) ≡ Some y
place_on xs i j y e = let s : (i + 1) + j ≡ i + suc j = omega arith in ap (slice_get xs) s ∙ e

pub place_first : {A : Type 0} (xs : List A) (i : ℕ) (y : A) → slice_get xs (i + 0) ≡ Some y → slice_get xs i ≡ Some y
place_first xs i y e = let s : i ≡ i + 0 = omega arith in ap (slice_get xs) s ∙ e

module _ (plan : PlanValue) (files : PlayFiles) (handles : List Handle) (w : World) (ready : IsReady plan files) (stage : IsStage (assembly_of plan files) (Joining (length plan.joints)) handles w)
    (value next : ConductorValue) (state : State) (C : Conducts value (phases.Send state) next) where
  abbrev x : PlayCast
  x = play_cast_of plan

  abbrev net : Layout
  net = (x.cast).layout

  -- nothing of it was sent
  pub record Waits (todo : List (MachineAct × Reply)) (k : Cursor) (r : ℕ) (p : Play) : Type 0 where
    is : todo ≡ map (sending state) handles
    sent : length plan.parts ≤ k.sent
    phase : k.phase ≡ value.sends
    old : IsOld x.cast r p value

  -- it is sent from this place on
  pub record Goes (todo : List (MachineAct × Reply)) (k : Cursor) (r : ℕ) (p : Play) : Type 0 where
    place : ℕ
    left : List Handle
    is : todo ≡ map (sending state) left
    at : (i : ℕ) (h : Handle) → slice_get left i ≡ Some h → slice_get handles (place + i) ≡ Some h
    all : place + length left ≡ length handles
    begun : 1 ≤ k.phase
    sent : k.sent ≡ place
    phase : k.phase ≡ next.sends
    its : state ≡ target k.phase
    old : IsOld x.cast r p next

  abbrev pub SendsOn : Holding
  SendsOn todo k r p v = Waits todo k r p ⊎ Goes todo k r p

  pub sends_others : KeepsOthers x (nothing_asked x.cast) w SendsOn
  sends_others todo k r p v s q u O H = elim H [
    | inl A ↦ inl (record { is = A.is; sent = A.sent; phase = A.phase; old = old_on x k r p s q value O.goes A.old })
    | inr A ↦ inr (record { place = A.place; left = A.left; is = A.is; at = A.at; all = A.all; begun = A.begun; sent = A.sent; phase = A.phase; its = A.its; old = old_on x k r p s q next O.goes A.old })
  ]

  -- what is left of the list once its first is made
  cut : (hs : List Handle) (step : MachineAct × Reply) (todo : List (MachineAct × Reply)) → step ∷ todo ≡ map (sending state) hs → (h : Handle) × (rest : List Handle) × (hs ≡ h ∷ rest) × (step ≡ sending state h) × (todo ≡ map (sending state) rest)
  cut [] step todo e = absurd cc
  cut (h ∷ hs) step todo e =
      let a : step ≡ sending state h = cc in
      let b : todo ≡ map (sending state) hs = cc in
      (h, hs, refl, a, b)

  module _ (step : MachineAct × Reply) (todo before : List (MachineAct × Reply)) (k : Cursor) (r : ℕ) (p : Play) (ss : List Stream) (v : World) (H : IsFaultHistory x (nothing_asked x.cast) w before k v) (D : IsFaulty x k r p ss v) where
    -- its first act may be asked, and leads on
    abbrev Asked : Type 0
    Asked = (j : Cursor) × IsAsked x k (read_of v) step.0 j × ((s : ℕ) (q : Play) (u : World) → IsOn x k r p v j s q u → SendsOn todo j s q u)

    G : IsPlanHistory plan files handles w before k v
    G = record { ready = ready; stage = stage; goes = H }

    abbrev F : Follows x.cast k r p
    F = ((D.taken).played).follows

    begins_own : Waits (step ∷ todo) k r p → Asked
    begins_own A =
        let c = cut handles step todo A.is in
        let W = ((D.taken).played).play in
        let B = old_sends x r p (inside (mend ss v)) W value A.old next state C in
        let first : slice_get handles 0 ≡ Some c.0 = ap (λ (hs : List Handle). slice_get hs 0) c.2 in
        let there : slice_get (map (sending state) handles) 0 ≡ Some step = mapped_at state handles 0 c.0 first ∙ ap Some (sym c.3) in
        let S = (sends_to plan files handles w before k v G state (p.phase + 1) 0 step B.1 there).0 in
        let sends : IsSending x.cast (read_of v) (k.phase + 1) 0 step.0 = subst (λ (n : ℕ). IsSending x.cast (read_of v) (n + 1) 0 step.0) F.phase S in
        let j : Cursor = record { phase = k.phase + 1; sent = 1; made = k.made; changing = None } in
        let many_left = ap length c.2 in
        let phase : k.phase + 1 ≡ next.sends = ap (λ (n : ℕ). n + 1) A.phase ∙ sym (ap (λ (y : ConductorValue). y.sends) C.2) in (
          j,
          begins_asked x k r p (inside (mend ss v)) W F v.streams B.0 A.sent step.0 sends,
          λ s q u O. inr (record {
            place = 1;
            left = c.1;
            is = c.4;
            at = λ i h e. place_on handles 0 i h (ap (λ (hs : List Handle). slice_get hs (0 + suc i)) c.2 ∙ (later c.0 c.1 i h e));
            all = omega (arith, many_left);
            begun = omega arith;
            sent = refl;
            phase = phase;
            its = B.1 ∙ ap (λ (n : ℕ). target (n + 1)) F.phase;
            old = subst (λ (n : ℕ). IsOld x.cast n q next) (sym ((O.goes).latest (λ l. refl))) (old_stays x.cast r (acted net Act.Begin p) q next ((O.goes).begun refl) (λ l. (O.goes).left l refl) B.2);
          }),
        )
      where
        later : (h : Handle) (rest : List Handle) (i : ℕ) (g : Handle) → slice_get rest i ≡ Some g → slice_get (h ∷ rest) (0 + suc i) ≡ Some g
        later h rest i g e = let s : 0 + suc i ≡ suc i = omega arith in ap (slice_get (h ∷ rest)) s ∙ e

    goes_own : Goes (step ∷ todo) k r p → Asked
    goes_own A =
        let c = cut A.left step todo A.is in
        let here : slice_get handles A.place ≡ Some c.0 = place_first handles A.place c.0 (A.at 0 c.0 (ap (λ (hs : List Handle). slice_get hs 0) c.2)) in
        let there : slice_get (map (sending state) handles) A.place ≡ Some step = mapped_at state handles A.place c.0 here ∙ ap Some (sym c.3) in
        let S = (sends_to plan files handles w before k v G state k.phase A.place step A.its there).0 in
        let sends : IsSending x.cast (read_of v) k.phase k.sent step.0 = subst (λ (n : ℕ). IsSending x.cast (read_of v) k.phase n step.0) (sym A.sent) S in
        let many_left = ap length c.2 in
        let all = A.all in (
          record k { sent = k.sent + 1 },
          inl (record { begun = A.begun; sends = sends; after = refl }),
          λ s q u O. inr (record {
            place = A.place + 1;
            left = c.1;
            is = c.4;
            at = λ i h e. place_on handles A.place i h (A.at (suc i) h (ap (λ (hs : List Handle). slice_get hs (suc i)) c.2 ∙ e));
            all = omega (arith, many_left, all);
            begun = A.begun;
            sent = ap (λ (n : ℕ). n + 1) A.sent;
            phase = A.phase;
            its = A.its;
            old = subst (λ (n : ℕ). IsOld x.cast n q next) (sym ((O.goes).latest (λ l. refl))) (old_stays x.cast r p q next ((O.goes).later refl) (λ l. (O.goes).left l refl) A.old);
          }),
        )

  sends_what : (step : MachineAct × Reply) (todo : List (MachineAct × Reply)) (k : Cursor) (r : ℕ) (p : Play) (v : World) → SendsOn (step ∷ todo) k r p v → (h : Handle) × (step ≡ sending state h)
  sends_what step todo k r p v A = elim A [
    | inl B ↦ let c = cut handles step todo B.is in (c.0, c.3)
    | inr B ↦ let c = cut B.left step todo B.is in (c.0, c.3)
  ]

  asked : (step : MachineAct × Reply) (todo before : List (MachineAct × Reply)) (k : Cursor) (r : ℕ) (p : Play) (ss : List Stream) (v : World) (H : IsFaultHistory x (nothing_asked x.cast) w before k v) (D : IsFaulty x k r p ss v) → SendsOn (step ∷ todo) k r p v
      → Asked step todo before k r p ss v H D
  asked step todo before k r p ss v H D A = elim A [
    | inl B ↦ begins_own step todo before k r p ss v H D B
    | inr B ↦ goes_own step todo before k r p ss v H D B
  ]

  pub sends_own : KeepsOwn x (nothing_asked x.cast) w SendsOn
  sends_own step todo before k r p ss v u H D m s A =
      let B = asked step todo before k r p ss v H D A in
      (B.0, inr B.1, λ t q ts E O. B.2 t q u O)

  pub sends_accept : AcceptsNext x (nothing_asked x.cast) w SendsOn
  sends_accept step todo before k r p ss v u reply H D s A =
      let B = asked step todo before k r p ss v H D A in
      let done = accepts x k r p ss v D step.0 reply u B.0 s (asked_so x (read_of v) ss k step.0 B.0 B.1) in
      let is = sends_what step todo k r p v A in
      let t : Step v (sending state is.0).0 reply u = subst (λ (y : MachineAct × Reply). Step v y.0 reply u) is.1 s in
      sent_ok v is.0 (StateSet state) reply u t (not_declined reply done) ∙ sym (ap (λ (y : MachineAct × Reply). y.1) is.1)

  -- it was sent to all
  pub sends_first : (k : Cursor) (r : ℕ) (p : Play) (v : World) → length plan.parts ≤ k.sent → k.phase ≡ value.sends → IsOld x.cast r p value → SendsOn (map (sending state) handles) k r p v
  sends_first k r p v b e V = inl (record { is = refl; sent = b; phase = e; old = V })

  none_left : (hs : List Handle) → [] ≡ map (sending state) hs → length hs ≡ 0
  none_left [] e = refl
  none_left (h ∷ hs) e = absurd cc

  pub sends_last : length handles ≡ length plan.parts → 1 ≤ length plan.parts → (k : Cursor) (r : ℕ) (p : Play) (v : World) → SendsOn [] k r p v → Holds plan next k r p v
  sends_last same one k r p v H = elim H [
    | inl A ↦ let z = none_left handles A.is in absurd (omega (arith, z, same, one))
    | inr A ↦
        let z = none_left A.left A.is in
        let all = A.all in
        let sent = A.sent in
        record { sent = omega (arith, z, all, sent, same); phase = A.phase; knows = inl A.old }
  ]
