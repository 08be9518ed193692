-- The seats of a plan's components, place by place, and in the scene of a log.
use Rattle.std.proofs.Common.{◌≡◌, ℕ, ◌-◌, ◌^◌, ◌<◌, min, nat_lt, List, length, map, slice_get, Option, Some, None, option_map, sym, refl, ◌∙◌, ap, arith}
use Rattle.std.proofs.lemmas.List.{length-map}
use Rattle.std.proofs.lemmas.Option.{slice_get-map}
use Rattle.omx_types.specs.declared.handle.Handle.{Handle}
use Rattle.part_forms.specs.Kinds.{ports_in}
use Rattle.il_machine.specs.World.{Component, World}
use Rattle.script_lang.specs.declared.play_line.PartLine.{PartLine}
use Rattle.play_forms.specs.Parts.{kind_of}
use Rattle.play_forms.specs.Plans.{PlanValue}
use Rattle.play_log.specs.Scenes.{scene_of}
use Rattle.play_build_laws.specs.Stages.{IsStage, Joining}
use Rattle.play_plan_laws.specs.Assemblies.{PlayFiles, assembly_of}
use Rattle.turnstile.proofs.Basics.{some_is}
use Rattle.work_signs.specs.declared.seat.Seat.{Seat}
use Rattle.work_signs.specs.Seats.{AreSeatsOf, inputs_by, ports_by}
use Rattle.pass_book.specs.Scenes.{AreSeatsIn}

-- what stands behind a value of a mapped list
pub there_in : {A B : Type 0} (f : A → B) (o : Option A) (y : B) → option_map f o ≡ Some y → (x : A) × (o ≡ Some x) × (f x ≡ y)
there_in f None y e = absurd cc
there_in f (Some x) y e = (x, refl, some_is (f x) y e)

module _ (parts : List PartLine) (handles : List Handle) (seats : List Seat) (are : AreSeatsOf parts handles seats) (place : ℕ) (s : Seat) (at : slice_get seats place ≡ Some s) where
  mapped : {A : Type 0} (f : Seat → A) (xs : List A) → map f seats ≡ xs → slice_get xs place ≡ Some (f s)
  mapped {A} f xs e = sym (ap (λ (ys : List A). slice_get ys place) e) ∙ (slice_get-map f seats place ∙ ap (option_map f) at)

  pub handle_at : slice_get handles place ≡ Some s.handle
  handle_at = mapped (λ (y : Seat). y.handle) handles are.seated

  -- the line of its component
  pub line : (part : PartLine) × (slice_get parts place ≡ Some part) × (part.name ≡ s.name)
  line =
      let name = λ (part : PartLine). part.name in
      there_in name (slice_get parts place) s.name (sym (slice_get-map name parts place) ∙ mapped (λ (y : Seat). y.name) (map name parts) are.names)

  abbrev pub part : PartLine
  part = line.0

  pub part_at : slice_get parts place ≡ Some part
  part_at = line.1

  pub named : part.name ≡ s.name
  named = line.2

  by_part : (f : PartLine → ℕ) (g : Seat → ℕ) → map g seats ≡ map f parts → g s ≡ f part
  by_part f g e = some_is (g s) (f part) (sym (mapped g (map f parts) e) ∙ (slice_get-map f parts place ∙ ap (option_map f) part_at))

  pub inputs : s.inputs ≡ inputs_by part
  inputs = by_part inputs_by (λ (y : Seat). y.inputs) are.inputs

  ports : s.ports ≡ ports_by part
  ports = by_part ports_by (λ (y : Seat). y.ports) are.ports

  pub port_within : (port : ℕ) → port < s.ports → port < ports_in (kind_of part.form)
  port_within port b =
      let n : ℕ = ports_in (kind_of part.form) in
      let e : s.ports ≡ min n (2 ^ 32 - 1) = ports in
      omega (arith, b, e)

-- as many as the components
pub many_seats : (parts : List PartLine) (handles : List Handle) (seats : List Seat) → AreSeatsOf parts handles seats → length seats ≡ length parts
many_seats parts handles seats are =
    sym (length-map seats (λ (y : Seat). y.name)) ∙ (ap length are.names ∙ length-map parts (λ (y : PartLine). y.name))

module _ (plan : PlanValue) (files : PlayFiles) (handles : List Handle) (seats : List Seat) (w : World) (are : AreSeatsOf plan.parts handles seats)
    (stage : IsStage (assembly_of plan files) (Joining (length plan.joints)) handles w) where
  abbrev ours : List Handle
  ours = map (λ (c : Component). c.handle) w.components

  -- a component's number is its place
  number_at : (place : ℕ) (h : Handle) → slice_get ours place ≡ Some h → h.generation ≡ place
  number_at place h e =
      let x = there_in (λ (c : Component). c.handle) (slice_get w.components place) h (sym (slice_get-map (λ (c : Component). c.handle) w.components place) ∙ e) in
      ap (λ (k : Handle). k.generation) (sym x.2) ∙ (((stage.built).components).each place x.0 x.1).number

  pub seats_in : AreSeatsIn (scene_of plan.parts w) seats
  seats_in place s at =
      let h : slice_get ours place ≡ Some s.handle = ap (λ (hs : List Handle). slice_get hs place) (stage.built).handles_are ∙ handle_at plan.parts handles seats are place s at in
      record {
        part = part plan.parts handles seats are place s at;
        player = record {
          line = part_at plan.parts handles seats are place s at;
          named = named plan.parts handles seats are place s at;
          handle = h;
        };
        number = number_at place s.handle h;
        inputs = λ port. ap (nat_lt port) (inputs plan.parts handles seats are place s at);
      }
