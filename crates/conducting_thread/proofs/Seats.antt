-- The seats of a plan: each request of a change is one at a port that its component has.
use Rattle.std.proofs.Common.{◌≡◌, ℕ, ◌<◌, Bool, true, false, nat_lt, nat_le, List, [], ◌∷◌, length, map, take, slice_get, get_or, All, Option, Some, None, option_map, refl, sym, ◌∙◌, ap, subst, arith}
use Rattle.std.specs.Prelude.{not}
use Rattle.std.specs.List.{list_any}
use Rattle.std.proofs.lemmas.Bool.{le-ltb, leb-true}
use Rattle.std.proofs.lemmas.List.Elements.{All-cons, All-get_or, All-nil}
use Rattle.std.proofs.lemmas.Option.{get_or_from_slice_get, slice_get-get_or, slice_get-map, slice_get_within}
use Rattle.omx_types.specs.declared.kind.Kind.{Kind}
use Rattle.omx_types.specs.declared.handle.Handle.{Handle}
use Rattle.part_forms.specs.Kinds.{inputs_of, is_input, ports_in}
use Rattle.machine_laws.proofs.Every.{from_places}
use Rattle.script_lang.specs.declared.play_line.PartLine.{PartLine}
use Rattle.conductor.specs.declared.phase.ChangeStep.{ChangeStep}
use Rattle.conductor.specs.declared.phase.ChangeStep.TheVariants as steps
use Rattle.play_build_laws.specs.Building.{no_handle}
use Rattle.play_build_laws.specs.Stages.{port_key}
use Rattle.play_forms.specs.declared.joint.Joint.{Joint}
use Rattle.play_forms.specs.Joints.{is_joint, shares_port}
use Rattle.play_forms.specs.Parts.{has_input, has_output, kind_of, passes_at}
use Rattle.play_forms.specs.Plans.{IsValid, PlanValue}
use Rattle.play_forms.proofs.Places.{and_both}
use Rattle.play_forms.proofs.Plainly.{givers_within}
use Rattle.play_plan_laws.proofs.Links.{takers_within}
use Rattle.play_plan_laws.specs.Assemblies.{PlayFiles, end_of}
use Rattle.play_result_laws.specs.Asked.{acts_of, tuned}
use Rattle.play_result_laws.specs.Rounds.{asking_by}
use Rattle.play_plan_laws.specs.Casting.{joint_of, no_joint}
use Rattle.play_world_laws.proofs.Lists.{get_there}
use Rattle.pass_book.specs.declared.quiet.QuietAct.{QuietAct}
use Rattle.pass_book.specs.declared.quiet.QuietAct.TheVariants.{DropTunnel, SetupTunnel}
use Rattle.work_signs.specs.declared.seat.Seat.{Seat}
use Rattle.pass_book.specs.Seats.{IsSeated}
use Rattle.conducting_thread.specs.Asking.{IsRequestOf, due}
use Rattle.conducting_thread.specs.declared.link_ends.LinkEnds.{LinkEnds}
use Rattle.conducting_thread.specs.Changing.{change_acts, definition_of, disabling, enabling, ends_of, port_of, setting}
use Rattle.work_signs.specs.Seats.{handles_of}
use Rattle.conducting_thread.specs.Seating.{AreSeatsFor}

-- ---- the directions of ports

record IsThere (test : Kind → Bool) (o : Option PartLine) : Type 0 where
  part : PartLine
  is : o ≡ Some part
  passes : test (kind_of part.form) ≡ true

there_of : (test : Kind → Bool) (o : Option PartLine) → passes_at test o ≡ true → IsThere test o
there_of test None e = absurd cc
there_of test (Some part) e = record { part = part; is = refl; passes = e }

-- the end of a link at the component has that port
abbrev has_port : Bool → ℕ → Kind → Bool
has_port false port = has_output port
has_port true port = has_input port

direction : (side : Bool) (port : ℕ) (kind : Kind) → has_port side port kind ≡ true → is_input kind port ≡ side
direction false port kind h =
    let low = and_both (nat_le (inputs_of kind) port) (nat_lt port (ports_in kind)) h in
    le-ltb port (inputs_of kind) (leb-true (inputs_of kind) port low.0)
direction true port kind h = h

-- the handle of a seat that is there
pub handle_there : (seats : List Seat) (place : ℕ) (h : Handle) → ((seat : Seat) × (slice_get seats place ≡ Some seat) × (h ≡ seat.handle)) → h ≡ get_or (handles_of seats) place no_handle
handle_there seats place h (seat, at, is) =
    is ∙ sym (get_or_from_slice_get (handles_of seats) place seat.handle no_handle (slice_get-map (λ (s : Seat). s.handle) seats place ∙ ap (option_map (λ (s : Seat). s.handle)) at))

pub seated_there : (seats : List Seat) (place : ℕ) (h : Handle) → ((seat : Seat) × (slice_get seats place ≡ Some seat) × (h ≡ seat.handle)) → All (λ (seat : Seat). IsSeated seats seat.handle) seats → IsSeated seats h
seated_there seats place h (seat, at, is) all =
    subst (IsSeated seats) (sym is) (subst (λ (s : Seat). IsSeated seats s.handle) (get_or_from_slice_get seats place seat seat at) (All-get_or (λ (s : Seat). IsSeated seats s.handle) seats place seat (slice_get_within seats place seat at) all))

pub giver_there : (plan : PlanValue) (link : ℕ) (j : Joint) → IsValid plan → link < length plan.joints → j ≡ joint_of plan link → j.giver < length plan.parts
giver_there plan link j V b e = subst (λ (k : Joint). k.giver < length plan.parts) (sym e) (givers_within plan.parts plan.joints V.joined link (joint_of plan link) (slice_get-get_or plan.joints link no_joint b))

pub taker_there : (plan : PlanValue) (link : ℕ) (j : Joint) → IsValid plan → link < length plan.joints → j ≡ joint_of plan link → j.taker < length plan.parts
taker_there plan link j V b e = subst (λ (k : Joint). k.taker < length plan.parts) (sym e) (takers_within plan.parts plan.joints V.joined link (joint_of plan link) (slice_get-get_or plan.joints link no_joint b))

module _ (plan : PlanValue) (seats : List Seat) (are : AreSeatsFor plan seats) where
  seated_at : (place : ℕ) (seat : Seat) → slice_get seats place ≡ Some seat → IsSeated seats seat.handle
  seated_at place seat e = (seat, ap (slice_get seats) (are.numbered place seat e) ∙ e, refl)

  pub all_seated : All (λ (seat : Seat). IsSeated seats seat.handle) seats
  all_seated = from_places (λ (seat : Seat). IsSeated seats seat.handle) seats seated_at

  -- ---- the ends of a link

  module _ (valid : IsValid plan) (link : ℕ) (below : link < length plan.joints) where
    abbrev joint : Joint
    joint = joint_of plan link

    joins : is_joint plan.parts joint ≡ true
    joins = (and_both (is_joint plan.parts joint) (not (list_any (shares_port joint) (take link plan.joints))) (valid.joined link joint (slice_get-get_or plan.joints link no_joint below))).0

    has_end : (side : Bool) → passes_at (has_port side (end_of side joint).port) (slice_get plan.parts (end_of side joint).component) ≡ true
    has_end false = (and_both (passes_at (has_output joint.output) (slice_get plan.parts joint.giver)) (passes_at (has_input joint.input) (slice_get plan.parts joint.taker)) joins).0
    has_end true = (and_both (passes_at (has_output joint.output) (slice_get plan.parts joint.giver)) (passes_at (has_input joint.input) (slice_get plan.parts joint.taker)) joins).1

    -- the component at an end has its seat, by which its port has the end's direction
    record IsEnd (side : Bool) : Type 0 where
      seat : Seat
      there : slice_get seats (end_of side joint).component ≡ Some seat
      handle : get_or (handles_of seats) (end_of side joint).component no_handle ≡ seat.handle
      direction_is : nat_lt (end_of side joint).port seat.inputs ≡ side

    an_end : (side : Bool) → IsEnd side
    an_end side =
        let place = (end_of side joint).component in
        let port = (end_of side joint).port in
        let P = there_of (has_port side port) (slice_get plan.parts place) (has_end side) in
        let within : place < length plan.parts = slice_get_within plan.parts place P.part P.is in
        let many = are.many in
        let S = get_there seats place (omega arith) in
        record {
          seat = S.0;
          there = S.1;
          handle = get_or_from_slice_get (handles_of seats) place (S.0).handle no_handle (slice_get-map (λ (seat : Seat). seat.handle) seats place ∙ ap (option_map (λ (seat : Seat). seat.handle)) S.1);
          direction_is = are.inputs place P.part S.0 port P.is S.1 ∙ direction side port (kind_of (P.part).form) P.passes;
        }

    port_seated : (side : Bool) → IsSeated seats (port_of plan (handles_of seats) link side).handle
    port_seated side =
        let E = an_end side in subst (IsSeated seats) (sym E.handle) (seated_at (end_of side joint).component E.seat E.there)

    is_definition : (side : Bool) → IsRequestOf seats (setting (port_of plan (handles_of seats) link side) (definition_of plan link side))
    is_definition side =
        let E = an_end side in
        let place = (end_of side joint).component in
        let key = port_key (end_of side joint).port in
        (tt, (E.seat, ap (λ (h : Handle). slice_get seats h.generation) E.handle ∙ ap (slice_get seats) (are.numbered place E.seat E.there) ∙ E.there, sym E.handle, refl, sym E.direction_is))

    abbrev Asks : QuietAct → Type 0
    Asks = IsRequestOf seats

    two : (one other : QuietAct) → Asks one → Asks other → All Asks (one ∷ other ∷ [])
    two one other a b = All-cons Asks one (other ∷ []) a (All-cons Asks other [] b (All-nil Asks))

    abbrev ends : LinkEnds
    ends = ends_of plan (handles_of seats) link

    pub requests : (step : ChangeStep) → All (IsRequestOf seats) (change_acts (ends_of plan (handles_of seats) link) step)
    requests steps.Disable = two (disabling ends.output) (disabling ends.input) (tt, (port_seated false, tt)) (tt, (port_seated true, tt))
    requests steps.Retune =
        let drops : QuietAct = DropTunnel ends.output ends.input in
        let joins_them : QuietAct = SetupTunnel ends.output ends.input in
        let first : QuietAct = setting ends.output ends.given in
        let second : QuietAct = setting ends.input ends.taken in
        All-cons Asks drops (first ∷ second ∷ joins_them ∷ []) (tt, (port_seated false, port_seated true))
        (All-cons Asks first (second ∷ joins_them ∷ []) (is_definition false) (two second joins_them (is_definition true) (tt, (port_seated false, port_seated true))))
    requests steps.Enable = two (enabling ends.output) (enabling ends.input) (tt, (port_seated false, tt)) (tt, (port_seated true, tt))

-- ---- what the steps are

pub steps_are : (plan : PlanValue) (files : PlayFiles) (handles : List Handle) (link : ℕ) (step : ChangeStep) → map due (change_acts (ends_of plan handles link) step) ≡ acts_of (tuned plan files) handles (asking_by step link)
steps_are plan files handles link steps.Disable = refl
steps_are plan files handles link steps.Retune = refl
steps_are plan files handles link steps.Enable = refl
