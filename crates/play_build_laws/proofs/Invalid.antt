-- A component without notes is made Invalid. That isn't refused, and nothing is pending at it then.
use Rattle.std.proofs.Common.{◌≡◌, inl, inr, ℕ, zero, suc, ◌+◌, Bool, false, nat_eq, List, [], ◌∷◌, ◌-◌, length, map, set, slice_get, sum_by, Some, None, Result, Ok, refl, sym, ◌∙◌, ap, subst, arith}
use Rattle.std.proofs.lemmas.List.Sums.{sum_by-cons}
use Rattle.omx_types.specs.declared.handle.Handle.{Handle}
use Rattle.omx_types.specs.declared.command.Command.TheVariants.{StateSet}
use Rattle.omx_types.specs.declared.command.Event.TheVariants.{Error}
use Rattle.omx_types.specs.declared.command.Note.{Note}
use Rattle.omx_types.specs.declared.error.OmxError.{OmxError}
use Rattle.omx_types.specs.declared.error.OmxError.TheVariants as errors
use Rattle.omx_types.specs.declared.state.State.TheVariants.{Invalid}
use Rattle.il_machine.specs.declared.port.PortState.{PortState}
use Rattle.il_machine.specs.Acts as acts
use Rattle.il_machine.specs.Answers.{Answers, plain}
use Rattle.il_machine.specs.Commands.{SendCommand, calmed, invalidated, send_refusal, sent}
use Rattle.il_machine.specs.Due.{ClosesTo, IsClosed, has_due}
use Rattle.il_machine.specs.Headers.{seen}
use Rattle.il_machine.specs.Look.{Look, look}
use Rattle.il_machine.specs.Ports.{IsCalm, IsCalmPort}
use Rattle.il_machine.specs.Room.{events_in, port_reserve, room, used, work_reserve}
use Rattle.il_machine.specs.States.{is_invalid}
use Rattle.il_machine.specs.World.{Component, World, place_of, told, with_component}
use Rattle.machine_laws.specs.Changes.{link_of}
use Rattle.machine_laws.proofs.Closing.{closed_closes}
use Rattle.machine_laws.proofs.Every.{at_set, from_places}
use Rattle.machine_laws.proofs.Steps.{sound_step}
use Rattle.play_build_laws.proofs.Calm.{calm_closed}
use Rattle.play_build_laws.proofs.Places.{from_mapped, resolved}
use Rattle.play_build_laws.proofs.Standing.{answered}
use Rattle.play_build_laws.specs.Halting.{AreStoppedTo, CanStop, IsLinked, IsStopped, IsStoppedIn, KeepsFiles}
use Rattle.play_build_laws.proofs.Linked.{KeepsSeat, client_in, each_set, files_kept, linked_kept, seat_same, work_none}
use Rattle.play_build_laws.proofs.Notes.{closed_at, closed_set}

-- ---- the room for its event

none_reserved : (ps : List PortState) → sum_by port_reserve (map calmed ps) ≡ 0
none_reserved [] = refl
none_reserved (p ∷ ps) = let s = sum_by-cons port_reserve (calmed p) (map calmed ps) in let i = none_reserved ps in omega arith

no_events : (ns : List Note) → length ns ≡ 0 → events_in ns ≡ 0
no_events [] e = refl
no_events (n ∷ ns) e = absurd (omega arith)

none_used : (a : Component) → a.work ≡ None → length a.notes ≡ 0 → used (invalidated a) ≡ 0
none_used a w n =
    let e = no_events a.notes n in
    let r : work_reserve a.work ≡ 0 = ap work_reserve w in
    let p = none_reserved a.ports in
    rw (e, r, p) refl

some_room : (taken : ℕ) → taken ≡ 0 → nat_eq (256 - taken) 0 ≡ false
some_room taken e = rw e refl

pub can_send : (l : Look) (a : Component) → is_invalid a.state ≡ false → a.work ≡ None → length a.notes ≡ 0 → send_refusal l a (StateSet Invalid) ≡ None
can_send l a v w n =
    let r : nat_eq (room (invalidated a)) 0 ≡ false = some_room (used (invalidated a)) (none_used a w n) in
    rw (v, r) refl

-- ---- what it leaves

abbrev pub stopped : Component → Component
stopped a = told (Error errors.InvalidState) (invalidated a)

calm_port : (p : PortState) → IsCalmPort (calmed p)
calm_port p = record { steady = refl; quiet = refl; unmarked = refl }

links_same : (ps : List PortState) → map link_of (map calmed ps) ≡ map link_of ps
links_same [] = refl
links_same (p ∷ ps) = ap (λ ls. p.link ∷ ls) (links_same ps)

is_stopped : (a : Component) → IsStopped (stopped a)
is_stopped a = record {
  invalid = refl;
  calm = record {
    resting = refl;
    ports = from_places IsCalmPort (map calmed a.ports) (λ i s e. let p = from_mapped calmed a.ports i s e in subst IsCalmPort p.2 (calm_port p.0));
  };
}

-- nothing is due at it
calm_due : (w : World) (a : Component) → IsCalm a → has_due (seen w.headers) a ≡ false
calm_due w a C =
    let one : World = record w { components = a ∷ [] } in
    closed_at one (calm_closed one (λ i b e. first i b e)) 0 a refl
  where
    first : (i : ℕ) (b : Component) → slice_get (a ∷ []) i ≡ Some b → IsCalm b
    first zero b e = let s : a ≡ b = cc in subst IsCalm s C
    first (suc i) b e = absurd cc

pub stops : (place : ℕ) (w v : World) (h : Handle) (result : Result (Unit {0}) OmxError) → CanStop place w → IsClosed w → place_of h w.components ≡ Some place → SendCommand w h (StateSet Invalid) result v
    → (result ≡ Ok tt) × IsStoppedIn place w v
stops place w v h result H Z N T =
    let a = H.component in
    let R = resolved plain w h result v (λ i c. Answers (send_refusal (look w) c (StateSet Invalid)) result w v (λ _. ClosesTo (with_component i (sent (StateSet Invalid) c) w) v)) place a N H.there T in
    let A = answered (send_refusal (look w) a (StateSet Invalid)) result w v (λ _. ClosesTo (with_component place (sent (StateSet Invalid) a) w) v) (can_send (look w) a H.valid H.work H.notes) R in
    let e : World = with_component place (stopped a) w in
    let Y = closed_set w e place (stopped a) Z refl refl (calm_due w (stopped a) (is_stopped a).calm) in
    let same : v ≡ e = closed_closes e v Y A.2 in
    (A.1, record { sound = sound_step w v (acts.SendCommand h (StateSet Invalid)) (acts.Plain result) tt T H.sound; component = a; there = H.there; after = ap (λ (y : World). y.components) same })

-- ---- the world then

pub one_stopped : (end : Bool → ℕ → _) (links place : ℕ) (w v : World) → IsLinked end links w → AreStoppedTo place w → IsStoppedIn place w v → IsLinked end links v × AreStoppedTo (place + 1) v × KeepsFiles w v
one_stopped end links place w v L A B =
    let a = B.component in
    let K = each_set KeepsSeat seat_same w v place a (stopped a) B.there B.after (record { number = refl; settings = refl; links = links_same a.ports }, refl) in
    let at : (i : ℕ) (b : Component) → slice_get v.components i ≡ Some b → slice_get (set w.components place (stopped a)) i ≡ Some b = λ i b e. ap (λ (cs : List Component). slice_get cs i) (sym B.after) ∙ e in (
      linked_kept end links w v L K B.sound
          (from_places (λ (c : Component). c.work ≡ None) v.components (λ i b e. elim (at_set w.components place i (stopped a) b (at i b e)) [
            | inl h ↦ ap (λ (c : Component). c.work) h.1 ∙ work_none end links w L place a B.there
            | inr h ↦ work_none end links w L i b h.1
          ]))
          (from_places (λ (c : Component). c.client_out ≡ false) v.components (λ i b e. elim (at_set w.components place i (stopped a) b (at i b e)) [
            | inl h ↦ ap (λ (c : Component). c.client_out) h.1 ∙ client_in end links w L place a B.there
            | inr h ↦ client_in end links w L i b h.1
          ])),
      record {
        stopped = λ i b l e. elim (at_set w.components place i (stopped a) b (at i b e)) [
          | inl h ↦ subst IsStopped (sym h.1) (is_stopped a)
          | inr h ↦ let n = h.0 in A.stopped i b (omega (arith, l, n)) h.1
        ];
        valid = λ i b l e. elim (at_set w.components place i (stopped a) b (at i b e)) [
          | inl h ↦ let q = h.0 in absurd (omega (arith, l, q))
          | inr h ↦ A.valid i b (omega (arith, l)) h.1
        ];
      },
      files_kept w v K,
    )
