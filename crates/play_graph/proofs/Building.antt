-- Each call leads to the next stage of the assembly.
use Rattle.std.proofs.Common.{◌≡◌, ◌⊎◌, inl, inr, ℕ, ◌+◌, ◌<◌, true, false, List, [], ◌∷◌, ◌++◌, length, slice_get, Some, None, Result, Ok, Err, refl, sym, ◌∙◌, ap, subst}
use Rattle.std.proofs.lemmas.List.Elements.{All-nil}
use Rattle.std.proofs.lemmas.Option.{slice_get_within}
use Rattle.omx_types.specs.declared.handle.Handle.{Handle}
use Rattle.omx_types.specs.declared.kind.Kind.{Kind}
use Rattle.omx_types.specs.declared.error.OmxError.{OmxError}
use Rattle.omx_types.specs.declared.error.CallError.{CallError}
use Rattle.omx_types.specs.declared.error.CallError.TheVariants.{OutOfMemory}
use Rattle.omx_types.specs.declared.param.Param.TheVariants as params
use Rattle.omx_types.specs.declared.param.PortDefinition.{PortDefinition}
use Rattle.omx_types.specs.declared.param.Supplier.{Supplier}
use Rattle.il_machine.specs.declared.answer.Progress.{Progress}
use Rattle.il_machine.specs.Components.{GetHandle}
use Rattle.il_machine.specs.Files.{Attach, Offered}
use Rattle.il_machine.specs.Parameters.{SetConfig, SetParameter}
use Rattle.il_machine.specs.Tunnels.{SetupTunnel}
use Rattle.il_machine.specs.World.{World, no_world}
use Rattle.il_machine.specs.Whole.{Kept, Stands, Steps, no_kept}
use Rattle.script_lang.specs.declared.play_line.PartLine.{PartLine}
use Rattle.play_forms.specs.declared.joint.Joint.{Joint}
use Rattle.play_forms.specs.Parts.{kind_of}
use Rattle.play_forms.specs.Plans.{PlanValue}
use Rattle.play_plan_laws.specs.Casting.{joint_of}
use Rattle.play_build_laws.specs.Stages.{IsStage, Stage, Making, Factoring, Setting, Filing, Joining, factor_key, factor_value, name_of, port_key}
use Rattle.play_build_laws.proofs.Stages.{begins, factors, files as files_come, joins, makes, none_filed, sets_input, sets_output}
use Rattle.il_graph.specs.Shown.{Shown}
use Rattle.play_plan_laws.specs.Assemblies.{IsReady, PlayFiles, assembly_of, factors_in, kind_in, file_at}
use Rattle.play_plan_laws.proofs.Lawful.{plan_lawful}
use Rattle.play_graph.specs.declared.link_end.End.{End}
use Rattle.play_graph.specs.declared.link_end.End.TheVariants.{Input, Output}
use Rattle.play_graph.specs.Graphs.{IsHandleAt, kept_of}
use Rattle.play_graph.specs.LinkEnds.{at_input, index_by, place_by}
use Rattle.play_graph.specs.Making.{GoesOn, IsAt, definition_at, next_setting}
use Rattle.play_graph.proofs.Standing.{handle_in}

module _ {S K : Type 0} (plan : PlanValue) where
  -- the world after a call
  comes : (files : PlayFiles) (one other : Stage) (g k : Shown S K Progress) (A : IsAt plan files one g) (v : World) → Stands (kept_of k) v → (handles : List Handle) → IsStage (assembly_of plan files) other handles v → IsAt plan files other k
  comes files one other g k A v st handles B = record { ready = A.ready; handles = handles; world = v; stands = st; built = B }

  -- without a call
  pub turns : (one other : Stage) (g : Shown S K Progress) → ((files : PlayFiles) (handles : List Handle) (w : World) → IsStage (assembly_of plan files) one handles w → IsStage (assembly_of plan files) other handles w) → GoesOn plan one other g g
  turns one other g h = λ files A. comes files one other g g A A.world A.stands A.handles (h files A.handles A.world A.built)

  -- ---- the beginning

  pub starts : (key : ℕ) (g : Shown S K Progress) → kept_of g ≡ no_kept key plan.units → (files : PlayFiles) → IsReady plan files → IsAt plan files (Making 0) g
  starts key g e files R = record {
    ready = R;
    handles = [];
    world = no_world key plan.units;
    stands = subst (λ (k : Kept). Stands k (no_world key plan.units)) (sym e) nothing;
    built = begins (assembly_of plan files) key;
  }
    where
      nothing : Stands (no_kept key plan.units) (no_world key plan.units)
      nothing = record {
        looks = refl;
        loads = λ number load h. absurd cc;
        noticed = All-nil _;
        progress = λ i c h. absurd cc;
        parts = λ i c s h. absurd cc;
        streams = refl;
        once = tt;
        given = All-nil _;
      }

  module _ (g k : Shown S K Progress) where
    -- ---- components

    made_or : (place : ℕ) (part : PartLine) (r : Result Handle CallError) → slice_get plan.parts place ≡ Some part → Steps (kept_of g) (kept_of k) (λ w v. GetHandle w (name_of (kind_of part.form)) r v) → (files : PlayFiles) → IsAt plan files (Making place) g
        → ((h : Handle) × (r ≡ Ok h) × IsAt plan files (Making (place + 1)) k) ⊎ ((r ≡ Err OutOfMemory) × IsAt plan files (Making place) k)
    made_or place part r e steps files A =
        let s = assembly_of plan files in
        let v = steps A.world A.stands in
        let below : place < length plan.parts = slice_get_within plan.parts place part e in
        let named = subst (λ (kind : Kind). GetHandle A.world (name_of kind) r v.0) (sym (ap kind_in e)) v.2 in
        elim (makes s (plan_lawful plan files A.ready) A.handles A.world v.0 place r A.built below named) [
          | inl m ↦ inl (m.0, m.1, comes files (Making place) (Making (place + 1)) g k A v.0 v.1 (A.handles ++ m.0 ∷ []) m.2)
          | inr m ↦ inr (m.0, comes files (Making place) (Making place) g k A v.0 v.1 A.handles (subst (λ (u : World). IsStage s (Making place) A.handles u) (sym m.1) A.built))
        ]

    pub made_on : (place : ℕ) (part : PartLine) (h : Handle) → slice_get plan.parts place ≡ Some part → Steps (kept_of g) (kept_of k) (λ w v. GetHandle w (name_of (kind_of part.form)) (Ok h) v) → GoesOn plan (Making place) (Making (place + 1)) g k
    made_on place part h e steps = λ files A. elim (made_or place part (Ok h) e steps files A) [ inl m ↦ m.2 | inr m ↦ let z = m.0 in absurd cc ]

    pub not_made : (place : ℕ) (part : PartLine) (error : CallError) → slice_get plan.parts place ≡ Some part → Steps (kept_of g) (kept_of k) (λ w v. GetHandle w (name_of (kind_of part.form)) (Err error) v) → GoesOn plan (Making place) (Making place) g k
    not_made place part error e steps = λ files A. elim (made_or place part (Err error) e steps files A) [ inl m ↦ let z = m.1 in absurd cc | inr m ↦ m.1 ]

    -- ---- factors

    pub factor_on : (place i factor : ℕ) (part : PartLine) (h : Handle) (r : Result (Unit {0}) OmxError) → slice_get plan.parts place ≡ Some part → slice_get (factors_in (slice_get plan.parts place)) i ≡ Some factor → IsHandleAt g place h
        → Steps (kept_of g) (kept_of k) (λ w v. SetConfig w h (factor_key (kind_of part.form) i) (factor_value (kind_of part.form) factor) r v) → GoesOn plan (Factoring place i) (Factoring place (i + 1)) g k
    factor_on place i factor part h r e f H steps = λ files A.
        let s = assembly_of plan files in
        let v = steps A.world A.stands in
        let below : place < length plan.parts = slice_get_within plan.parts place part e in
        let set_so = subst (λ (kind : Kind). SetConfig A.world h (factor_key kind i) (factor_value kind factor) r v.0) (sym (ap kind_in e)) v.2 in
        let next = factors s (plan_lawful plan files A.ready) A.handles A.world v.0 place i factor h r A.built below (handle_in plan files (Factoring place i) g place h A H) f set_so in
        comes files (Factoring place i) (Factoring place (i + 1)) g k A v.0 v.1 A.handles next.1

    -- ---- ends

    end_on : (l : ℕ) (end : End) (h : Handle) (r : Result (Unit {0}) OmxError) → l < length plan.joints → IsHandleAt g (place_by end (joint_of plan l)) h
        → Steps (kept_of g) (kept_of k) (λ w v. SetParameter w h (port_key (index_by end (joint_of plan l))) (params.Port (definition_at plan end l)) r v) → GoesOn plan (Setting l (at_input end)) (next_setting l end) g k
    end_on l Output h r b H steps = λ files A.
        let v = steps A.world A.stands in
        let next = sets_output (assembly_of plan files) (plan_lawful plan files A.ready) A.handles A.world v.0 l h r A.built b (handle_in plan files (Setting l false) g (joint_of plan l).giver h A H) v.2 in
        comes files (Setting l false) (Setting l true) g k A v.0 v.1 A.handles next.1
    end_on l Input h r b H steps = λ files A.
        let v = steps A.world A.stands in
        let next = sets_input (assembly_of plan files) (plan_lawful plan files A.ready) A.handles A.world v.0 l h r A.built b (handle_in plan files (Setting l true) g (joint_of plan l).taker h A H) v.2 in
        comes files (Setting l true) (Setting (l + 1) false) g k A v.0 v.1 A.handles next.1

    -- ---- files

    module _ (place : ℕ) (file : Offered) (h : Handle) (r : Result (Unit {0}) OmxError) (below : place < length plan.parts) (H : IsHandleAt g place h) (steps : Steps (kept_of g) (kept_of k) (λ w v. Attach w h file r v)) (files : PlayFiles) (e : Some file ≡ file_at plan files place) where
      pub attached_so : (A : IsAt plan files (Filing place) g) → (r ≡ Ok tt) × IsAt plan files (Filing (place + 1)) k
      attached_so A =
          let v = steps A.world A.stands in
          let next = files_come (assembly_of plan files) (plan_lawful plan files A.ready) A.handles A.world v.0 place h file r A.built below (handle_in plan files (Filing place) g place h A H) (sym e) v.2 in
          (next.0, comes files (Filing place) (Filing (place + 1)) g k A v.0 v.1 A.handles next.1)

    -- ---- tunnels

    pub join_on : (l : ℕ) (h j : Handle) (r : Result Supplier OmxError) → l < length plan.joints → IsHandleAt g (joint_of plan l).giver h → IsHandleAt g (joint_of plan l).taker j
        → Steps (kept_of g) (kept_of k) (λ w v. SetupTunnel w (record { handle = h; index = (joint_of plan l).output }) (record { handle = j; index = (joint_of plan l).input }) r v) → GoesOn plan (Joining l) (Joining (l + 1)) g k
    join_on l h j r b H J steps = λ files A.
        let s = assembly_of plan files in
        let v = steps A.world A.stands in
        let next = joins s (plan_lawful plan files A.ready) A.handles A.world v.0 l h j r A.built b (handle_in plan files (Joining l) g (joint_of plan l).giver h A H) (handle_in plan files (Joining l) g (joint_of plan l).taker j A J) v.2 in
        comes files (Joining l) (Joining (l + 1)) g k A v.0 v.1 A.handles next.1

    pub join_by : (l : ℕ) (j : Joint) (h k' : Handle) (r : Result Supplier OmxError) → l < length plan.joints → j ≡ joint_of plan l → IsHandleAt g j.giver h → IsHandleAt g j.taker k'
        → Steps (kept_of g) (kept_of k) (λ w v. SetupTunnel w (record { handle = h; index = j.output }) (record { handle = k'; index = j.input }) r v) → GoesOn plan (Joining l) (Joining (l + 1)) g k
    join_by l j h k' r b J = subst (λ (z : Joint). IsHandleAt g z.giver h → IsHandleAt g z.taker k' → Steps (kept_of g) (kept_of k) (λ w v. SetupTunnel w (record { handle = h; index = z.output }) (record { handle = k'; index = z.input }) r v) → GoesOn plan (Joining l) (Joining (l + 1)) g k)
        (sym J) (join_on l h k' r b)

    pub end_by : (l : ℕ) (end : End) (j : Joint) (place port : ℕ) (d : PortDefinition) (h : Handle) (r : Result (Unit {0}) OmxError) → l < length plan.joints → j ≡ joint_of plan l → place ≡ place_by end j → port ≡ index_by end j → d ≡ definition_at plan end l
        → IsHandleAt g place h → Steps (kept_of g) (kept_of k) (λ w v. SetParameter w h (port_key port) (params.Port d) r v) → GoesOn plan (Setting l (at_input end)) (next_setting l end) g k
    end_by l end j place port d h r b J P Q D H steps = end_on l end h r b
        (subst (λ (n : ℕ). IsHandleAt g n h) (P ∙ ap (λ (z : Joint). place_by end z) J) H)
        (subst (λ (n : ℕ). Steps (kept_of g) (kept_of k) (λ w v. SetParameter w h (port_key n) (params.Port (definition_at plan end l)) r v)) (Q ∙ ap (λ (z : Joint). index_by end z) J)
        (subst (λ (z : PortDefinition). Steps (kept_of g) (kept_of k) (λ w v. SetParameter w h (port_key port) (params.Port z) r v)) D steps))

  -- without a file
  pub none_on : (g : Shown S K Progress) (place : ℕ) (files : PlayFiles) → None ≡ file_at plan files place → IsAt plan files (Filing place) g → IsAt plan files (Filing (place + 1)) g
  none_on g place files e A = comes files (Filing place) (Filing (place + 1)) g g A A.world A.stands A.handles (none_filed (assembly_of plan files) A.handles A.world place (sym e) A.built)
