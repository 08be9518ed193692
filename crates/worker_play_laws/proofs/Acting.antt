-- The acts of a play at its seats, as the machine has them: each at a component of the plan, and at a port that it has.
use Rattle.std.proofs.Common.{ℕ, ◌<◌, List, Option, Some, sym, ◌∙◌, ap, subst}
use Rattle.omx_types.specs.declared.handle.Handle.{Handle}
use Rattle.il_machine.specs.Kinds.{ports_in}
use Rattle.script_lang.specs.declared.play_line.PartLine.{PartLine}
use Rattle.play_forms.specs.Plans.{PlanValue}
use Rattle.play_plan_laws.specs.Assemblies.{kind_in}
use Rattle.play_history_laws.specs.Refused.{IsAtPart, IsPartHandle, IsPartPort}
use Rattle.graph_acts.specs.declared.act.Act.{Act}
use Rattle.graph_acts.specs.declared.act.Act.TheVariants as asks
use Rattle.graph_acts.specs.Plain.{Sight, Unsaid, plain_act}
use Rattle.work_signs.specs.declared.seat.Seat.{Seat}
use Rattle.work_signs.specs.Seats.{AreSeatsOf}
use Rattle.pass_book.specs.Seats.{IsOfPlay, IsSeated, IsSeatedAt}
use Rattle.worker_play_laws.proofs.PlanSeats.{handle_at, part_at, port_within}

module _ (plan : PlanValue) (handles : List Handle) (seats : List Seat) (are : AreSeatsOf plan.parts handles seats) where
  has_handle : (h : Handle) → IsSeated seats h → IsPartHandle handles h
  has_handle h (s, at, is) = (h.generation, handle_at plan.parts handles seats are h.generation s at ∙ ap (λ (k : Handle). Some k) is)

  has_port : (h : Handle) (port : ℕ) → IsSeatedAt seats h port → IsPartPort plan handles h port
  has_port h port (s, at, is, b) = (
    h.generation,
    handle_at plan.parts handles seats are h.generation s at ∙ ap (λ (k : Handle). Some k) is,
    subst (λ (o : Option PartLine). port < ports_in (kind_in o)) (sym (part_at plan.parts handles seats are h.generation s at)) (port_within plan.parts handles seats are h.generation s at port b),
  )

  pub at_part : {S K C : Type 0} (see : Sight S K C) (u : Unsaid) (act : Act S K C) → IsOfPlay seats act → IsAtPart plan handles (plain_act see u act)
  at_part see u (asks.Progress h) is = has_handle h is
  at_part see u (asks.RunCommand h) is = has_handle h is
  at_part see u (asks.TakeNote h) is = has_handle h is
  at_part see u (asks.Claim h) is = has_handle h is
  at_part see u (asks.Supply h port) is = has_port h port is
  at_part see u (asks.Release h port) is = has_port h port is
  at_part see u (asks.HandOver h port) is = has_port h port is
  at_part see u (asks.HandBack h port) is = has_port h port is
  at_part see u _ is = tt
