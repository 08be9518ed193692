-- The components of a graph that is being made, and a graph of which only components are made.
use Rattle.std.proofs.Common.{◌≡◌, Bool, ℕ, suc, ◌<◌, ◌≤◌, false, List, [], ◌∷◌, length, slice_get, Option, Some, None, option_map, MatchOption, refl, sym, ◌∙◌, ap, subst, arith}
use Rattle.std.specs.Prelude.{slice_index_or}
use Rattle.std.proofs.lemmas.Option.{get_or_from_slice_get, slice_get-get_or}
use Rattle.std.proofs.lemmas.List.Sums.{sum_by-cons}
use Rattle.omx_types.specs.declared.handle.Handle.{Handle}
use Rattle.il_machine.specs.declared.answer.Progress.{Progress}
use Rattle.il_machine.specs.declared.header.Owner.TheVariants as owners
use Rattle.il_machine.specs.World.{Component, HeaderRecord}
use Rattle.il_machine.specs.Components.{handle_at}
use Rattle.il_machine.specs.Headers.{seen}
use Rattle.il_machine.specs.Look.{look}
use Rattle.il_machine.specs.Whole.{Always}
use Rattle.machine_laws.proofs.Every.{from_places}
use Rattle.graph_core.specs.Ending.{IsAllIn}
use Rattle.il_graph.specs.Shown.{Shown, look_of}
use Rattle.play_forms.specs.declared.joint.Joint.{Joint}
use Rattle.play_forms.specs.Joints.{headers_of}
use Rattle.play_forms.specs.Plans.{IsValid, PlanValue}
use Rattle.play_forms.proofs.Plainly.{givers_within}
use Rattle.play_plan_laws.specs.Casting.{joint_of, no_joint}
use Rattle.play_plan_laws.proofs.Links.{takers_within}
use Rattle.play_world_laws.proofs.Lists.{get_there}
use Rattle.play_build_laws.specs.Stages.{Stage, Making, progress_of}
use Rattle.play_build_laws.proofs.Places.{mapped_at}
use Rattle.play_plan_laws.specs.Assemblies.{IsReady, PlayFiles, assembly_of, end_of}
use Rattle.play_plan_laws.proofs.Lawful.{plan_lawful}
use Rattle.play_graph.specs.declared.link_end.End.{End}
use Rattle.play_graph.specs.declared.link_end.End.TheVariants.{Input, Output}
use Rattle.play_graph.specs.Graphs.{IsHandleAt, kept_of}
use Rattle.play_graph.specs.LinkEnds.{at_input, place_by}
use Rattle.play_graph.specs.Making.{IsAt, IsMade, SomeAt}

few_by : (joints : List Joint) → ((l : ℕ) (joint : Joint) → slice_get joints l ≡ Some joint → 1 ≤ joint.count) → length joints ≤ headers_of joints
few_by [] h = omega arith
few_by (joint ∷ joints) h =
    let one = h 0 joint refl in
    let rest = few_by joints (λ l j e. h (suc l) j e) in
    let c = sum_by-cons (λ (j : Joint). j.count) joint joints in
    omega arith

-- a link has a header, so there are few links
pub few_links : (plan : PlanValue) (files : PlayFiles) → IsReady plan files → length plan.joints ≤ 1024
few_links plan files R =
    let n = few_by plan.joints (λ l joint e. (R.scripted.joints l joint e).some) in
    let m = R.valid.few in
    omega arith

-- ---- what stands at a place of the plan

pub takers_there : (plan : PlanValue) (l : ℕ) (j : Joint) → IsValid plan → l < length plan.joints → j ≡ joint_of plan l → j.taker < length plan.parts
takers_there plan l j V b J = subst (λ (k : Joint). k.taker < length plan.parts) (sym J) (takers_within plan.parts plan.joints V.joined l (joint_of plan l) (slice_get-get_or plan.joints l no_joint b))

pub givers_there : (plan : PlanValue) (l : ℕ) (j : Joint) → IsValid plan → l < length plan.joints → j ≡ joint_of plan l → j.giver < length plan.parts
givers_there plan l j V b J = subst (λ (k : Joint). k.giver < length plan.parts) (sym J) (givers_within plan.parts plan.joints V.joined l (joint_of plan l) (slice_get-get_or plan.joints l no_joint b))

-- what is read there
pub read_at : {X : Type 0} (xs ys : List X) (i : ℕ) (x : X) → ys ≡ xs → i < length xs → slice_get xs i ≡ Some (slice_index_or ys i x)
read_at {X = X} xs ys i x e b = slice_get-get_or xs i x b ∙ ap (λ (zs : List X). Some (slice_index_or zs i x)) (sym e)

pub read_or : {X : Type 0} (xs ys : List X) (i : ℕ) (x d : X) → ys ≡ xs → i < length xs → slice_index_or ys i x ≡ slice_index_or xs i d
read_or xs ys i x d e b = sym (get_or_from_slice_get xs i (slice_index_or ys i x) d (read_at xs ys i x e b))

place_is : (end : End) (j : Joint) → place_by end j ≡ (end_of (at_input end) j).component
place_is Output j = refl
place_is Input j = refl

module _ {S K : Type 0} where
  pub is_made : (plan : PlanValue) (files : PlayFiles) (stage : Stage) (g : Shown S K Progress) (place : ℕ) → IsAt plan files stage g → place < (progress_of (assembly_of plan files) stage).made → IsMade place g
  is_made plan files stage g place A b = (A.world, A.stands, subst (λ (n : ℕ). place < n) (sym A.built.built.many) b)

  pub no_handle : (g : Shown S K Progress) (place : ℕ) (o : Option Handle) → IsMade place g → Always (kept_of g) (λ w. o ≡ handle_at place (look w)) → o ≡ None → ⊥
  no_handle g place o M A e =
      let t = get_there (M.0).components place M.2 in
      let there : handle_at place (look M.0) ≡ Some (t.0).handle = ap (option_map (λ (d : Component). d.handle)) t.1 in
      let z : None ≡ Some (t.0).handle = sym e ∙ (A M.0 M.1 ∙ there) in
      absurd cc

  pub some_handle : (g : Shown S K Progress) (place : ℕ) (o : Option Handle) (h : Handle) → Always (kept_of g) (λ w. o ≡ handle_at place (look w)) → o ≡ Some h → IsHandleAt g place h
  some_handle g place o h A e = λ w s. sym (A w s) ∙ e

  -- the handle is the one that the assembly's component got
  pub handle_in : (plan : PlanValue) (files : PlayFiles) (stage : Stage) (g : Shown S K Progress) (place : ℕ) (h : Handle) (A : IsAt plan files stage g) → IsHandleAt g place h → slice_get A.handles place ≡ Some h
  handle_in plan files stage g place h A H =
      ap (λ (hs : List Handle). slice_get hs place) (sym A.built.built.handles_are) ∙ (mapped_at (λ (a : Component). a.handle) A.world.components place ∙ H A.world A.stands)

  -- no header is with the client, no client object and no work is out, and no component has a file yet
  pub all_in : (plan : PlanValue) (files : PlayFiles) (made : ℕ) (g : Shown S K Progress) → IsAt plan files (Making made) g → IsAllIn (look_of g)
  all_in plan files made g A =
      let each = A.built.built.components.each in
      subst IsAllIn A.stands.looks (record {
        headers = λ number W. subst (λ (hs : List HeaderRecord). MatchOption ((seen hs).header number) ⊥ (λ s. s.owner ≡ owners.Client)) A.built.built.headers W;
        clients = from_places (λ (a : Component). a.client_out ≡ false) A.world.components (λ i a e. ap (λ (y : Component). y.client_out) (each i a e).fresh_else);
        works = from_places (λ (a : Component). a.work ≡ None) A.world.components (λ i a e. ap (λ (y : Component). y.work) (each i a e).fresh_else);
        files = from_places (λ (a : Component). a.file ≡ None) A.world.components (λ i a e. (each i a e).file);
      })

  -- the component at an end of a link, where all are made
  end_made : (plan : PlanValue) (stage : Stage) (l : ℕ) (side : Bool) (g : Shown S K Progress) → l < length plan.joints → ((files : PlayFiles) → (progress_of (assembly_of plan files) stage).made ≡ length plan.parts) → SomeAt plan stage g
      → IsMade (end_of side (joint_of plan l)).component g
  end_made plan stage l side g b all (files, A) =
      let L = plan_lawful plan files A.ready in
      is_made plan files stage g (end_of side (joint_of plan l)).component A (subst (λ (n : ℕ). (end_of side (joint_of plan l)).component < n) (sym (all files)) (L.ends side l b).there)

  pub end_made_by : (plan : PlanValue) (stage : Stage) (l : ℕ) (end : End) (j : Joint) (place : ℕ) (g : Shown S K Progress) → l < length plan.joints → j ≡ joint_of plan l → place ≡ place_by end j
      → ((files : PlayFiles) → (progress_of (assembly_of plan files) stage).made ≡ length plan.parts) → SomeAt plan stage g → IsMade place g
  end_made_by plan stage l end j place g b J P all s = subst (λ (n : ℕ). IsMade n g) (sym (P ∙ (place_is end j ∙ ap (λ (z : Joint). (end_of (at_input end) z).component) J))) (end_made plan stage l (at_input end) g b all s)
