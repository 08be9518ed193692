-- A state that the conductor begins is asked in time.
use Rattle.std.proofs.Common.{◌≡◌, ◌⊎◌, inl, inr, ℕ, zero, suc, ◌<◌, ◌≤◌, Bool, true, false, nat_lt, ◌==◌, List, [], ◌∷◌, ◌++◌, drop, slice_get, Option, Some, None, refl, sym, ◌∙◌, ap, subst, append-nil, append_assoc, arith}
use Rattle.std.specs.Prelude.{count_by, flat_map, if◌then◌else◌}
use Rattle.std.proofs.lemmas.List.Concat.{flat_map-append}
use Rattle.omx_types.specs.declared.command.Completion.{Completion}
use Rattle.omx_types.specs.declared.command.Completion.TheVariants.{Enable}
use Rattle.omx_types.specs.declared.state.State.{State}
use Rattle.omx_types.specs.declared.state.State.TheVariants.{Idle, Executing}
use Rattle.il_machine.specs.Acts.{Act as MachineAct, Reply}
use Rattle.il_machine.specs.Kinds.{is_sink}
use Rattle.conductor.specs.Hearing.{ConductorValue}
use Rattle.script_lang.specs.declared.play_line.PartLine.{PartLine}
use Rattle.play_build_laws.specs.Assembly.{Assembly, component_at as place_at}
use Rattle.play_forms.specs.Parts.{passes_at}
use Rattle.play_plan_laws.specs.Casting.{joint_of}
use Rattle.play_model.specs.Acts.{Act, CanAct}
use Rattle.play_model.specs.Changes.{Change, IsChanged, port_at}
use Rattle.play_model.specs.Play.{Play, component_at}
use Rattle.play_world_laws.specs.Cast.{components_of, links_of, script_place}
use Rattle.play_world_laws.specs.Standing.{target}
use Rattle.play_world_laws.proofs.Lists.{get_there}
use Rattle.play_world_laws.specs.Changing.{told_of_port}
use Rattle.play_world_laws.specs.PlayWorlds.{port_number}
use Rattle.play_turn_laws.specs.Conducting.{IsPlayConductor}
use Rattle.play_turn_laws.proofs.Standing.{none_answered}
use Rattle.play_plan_laws.specs.Assemblies.{kind_in}
use Rattle.play_log.specs.Entries.{steps_of}
use Rattle.play_result_laws.specs.Asked.{AreAllAt, AreBothDone, Asking, BackToIdle, Disabling, Enabling, HasCause, IsDone, Retuning, ToExecuting, ToIdle, change_of, told_by, tuned}
use Rattle.play_graph.specs.declared.link_end.End.TheVariants.{Input, Output}
use Rattle.play_run.specs.Asking.{Asks, answered}
use Rattle.play_run.specs.Playing.{IsPlaying, PlayingValue, cast, layout_of}
use Rattle.play_run.proofs.Asked.{carried_once, counted, last_or, none_behind}
use Rattle.play_run.proofs.Asking.{next_of}
use Rattle.play_run.proofs.Ends.{end_place}
use Rattle.play_run.proofs.Heard.{all_at, end_at, port_told}
use Rattle.play_result_laws.proofs.ListFronts.{last_is, none_there}

-- ---- lists

none_before : (xs ys : List Asking) → xs ++ ys ≡ [] → xs ≡ []
none_before [] ys e = refl
none_before (x ∷ xs) ys e = absurd cc

some_steps : (n : ℕ) → 1 ≤ (if nat_lt 0 n then 1 else 0) → n ≡ 0 → ⊥
some_steps zero b e = absurd (omega arith)
some_steps (suc n) b e = absurd (omega arith)

sink_kind : (o : Option PartLine) (part : PartLine) → o ≡ Some part → is_sink (kind_in o) ≡ true → passes_at is_sink o ≡ true
sink_kind None part q e = absurd cc
sink_kind (Some other) part q e = e

-- ---- a link that is changed

all_of_last : (front : List ℕ) (l : ℕ) (changes : List Asking) → changes ++ [] ≡ flat_map change_of (front ++ l ∷ []) → changes ≡ (flat_map change_of front ++ Disabling l ∷ Retuning l ∷ []) ++ Enabling l ∷ []
all_of_last front l changes e =
    sym (append-nil changes) ∙ (e ∙ (flat_map-append change_of front (l ∷ []) ∙ sym (append_assoc (flat_map change_of front) (Disabling l ∷ Retuning l ∷ []) (Enabling l ∷ []))))

module _ {S K : Type 0} (x : PlayingValue S K) (p : Play) (Y : IsPlaying x p) where
  abbrev s : Assembly
  s = tuned x.plan Y.standing.files

  abbrev steps : List (MachineAct × Reply)
  steps = steps_of (Y.standing.recorded).history

  -- where each end of the link that was changed last has told the completion
  pub both_done : (l n : ℕ) (completion : ℕ → Completion) → Y.standing.recent ≡ l → l < links_of (cast x.plan) → (layout_of x.plan).is_late l ≡ true → ((output : Bool) → port_at output (p.change l) ≡ n)
      → ((port : ℕ) → told_of_port n port ≡ Some (completion port)) → AreBothDone s completion l steps
  both_done l n completion r b t at told side = by_side side
    where
      of_output : (output : Bool) → (told_by (script_place (cast x.plan) (component_at (layout_of x.plan) output l)) steps).port ≡ Some (completion (port_number (cast x.plan) output l))
      of_output output =
          subst (λ (k : ℕ). (told_by (script_place (cast x.plan) (component_at (layout_of x.plan) output k)) steps).port ≡ Some (completion (port_number (cast x.plan) output k))) r
          (port_told x p Y.standing (subst (λ (k : ℕ). k < links_of (cast x.plan)) (sym r) b) (subst (λ (k : ℕ). (layout_of x.plan).is_late k ≡ true) (sym r) t) output (completion (port_number (cast x.plan) output Y.standing.recent))
          (ap (λ (m : ℕ). told_of_port m (port_number (cast x.plan) output Y.standing.recent)) (ap (λ (k : ℕ). port_at output (p.change k)) r ∙ at output) ∙ told (port_number (cast x.plan) output Y.standing.recent)))

      by_side : (side : Bool) → (told_by (place_at s side l) steps).port ≡ Some (completion (s.end side l).port)
      by_side false = subst (λ (place : ℕ). (told_by place steps).port ≡ Some (completion (joint_of x.plan l).output)) (end_place x.plan l Output Y.standing.valid b) (of_output true)
      by_side true = subst (λ (place : ℕ). (told_by place steps).port ≡ Some (completion (joint_of x.plan l).input)) (end_place x.plan l Input Y.standing.valid b) (of_output false)

  -- where each has told the state that was sent last
  all_done : (k : ℕ) (state : State) → p.phase ≡ suc k → target (suc k) ≡ state → ((c : ℕ) → c < components_of (cast x.plan) → p.stage c ≡ 4) → AreAllAt s state steps
  all_done k state e is all place b = all_at x p Y.standing k e all place b ∙ ap (λ (a : State). Some a) (ap target e ∙ is)

  -- ---- where all run and no link is half changed

  module _ (value : ConductorValue) (A : Asks x.plan Y.standing.files Y.standing.opening Y.standing.recent value [] steps) (V : IsPlayConductor (cast x.plan) Y.standing.recent p value)
      (done : (k : ℕ) → k < links_of (cast x.plan) → (layout_of x.plan).is_late k ≡ true → ((p.change k).step ≤ 2) ⊎ IsChanged (p.change k)) where
    -- the last of the links whose changes were begun is changed
    pub record IsLastChanged (front : List ℕ) (l : ℕ) : Type 0 where
      pub below : l < links_of (cast x.plan)
      pub late : (layout_of x.plan).is_late l ≡ true
      pub recent : Y.standing.recent ≡ l
      pub changed : IsChanged (p.change l)
      pub none : (A.are).rest ≡ []

    pub last_changed : (front : List ℕ) (l : ℕ) → (A.are).links ≡ front ++ l ∷ [] → IsLastChanged front l
    last_changed front l z =
        let many = subst (λ (ls : List ℕ). 1 ≤ count_by (λ (k : ℕ). k == l) ls) (sym z) (counted front l) in
        let o = (A.are).only l many in
        let r = ((V.conducting).lates).some l o.0 o.1 in
        let O = (r.3).of_link in
        let n = (A.are).begun r.0 l r.1 r.2 O in
        let out = V.carried r.0 l r.1 r.2 O in
        let L = (A.are).last front l r.0 r.1 z r.2 O in
        elim (done l o.0 o.1) [
          | inl few ↦ absurd (some_steps (r.1).steps (omega (arith, n, many)) (none_answered (r.1).steps (p.change l).step out few))
          | inr C ↦ record { below = o.0; late = o.1; recent = sym L.0; changed = C; none = L.1 ∙ ap (λ (n : ℕ). drop n (change_of l)) (carried_once (r.1).steps 3 (p.change l).step out C.0) }
        ]

    pub rest_none : (A.are).rest ≡ []
    rest_none = elim (last_or (A.are).links) [
      | inl n ↦ none_behind A.changes (A.are).rest ((A.are).parts ∙ ap (λ (ls : List ℕ). flat_map change_of ls) n)
      | inr z ↦ (last_changed z.0 z.1 z.2).none
    ]

    -- of changes that are all done the last asking is the enabling of the last link
    pub changes_done : p.phase ≡ 2 → ((c : ℕ) → c < components_of (cast x.plan) → p.stage c ≡ 4) → (one : Asking) (front : List Asking) → ToIdle ∷ ToExecuting ∷ A.changes ≡ front ++ one ∷ [] → IsDone s one steps
    changes_done e all one front f = elim (last_or (A.are).links) [
      | inl n ↦
          let none = none_before A.changes (A.are).rest ((A.are).parts ∙ ap (λ (ls : List ℕ). flat_map change_of ls) n) in
          let is = last_is (ToIdle ∷ []) front ToExecuting one (sym (ap (λ (cs : List Asking). ToIdle ∷ ToExecuting ∷ cs) none) ∙ f) in
          subst (λ (y : Asking). IsDone s y steps) (sym is) (all_done 1 Executing e refl all)
      | inr z ↦
          let l : ℕ = z.1 in
          let L = last_changed z.0 l z.2 in
          let whole = all_of_last z.0 l A.changes (ap (λ (t : List Asking). A.changes ++ t) (sym L.none) ∙ ((A.are).parts ∙ ap (λ (ls : List ℕ). flat_map change_of ls) z.2)) in
          let is = last_is (ToIdle ∷ ToExecuting ∷ (flat_map change_of z.0 ++ Disabling l ∷ Retuning l ∷ [])) front (Enabling l) one (sym (ap (λ (cs : List Asking). ToIdle ∷ ToExecuting ∷ cs) whole) ∙ f) in
          subst (λ (y : Asking). IsDone s y steps) (sym is) (both_done l 8 (λ port. Enable port) L.recent L.below L.late (at_eight (p.change l) L.changed) (λ port. refl))
    ]
      where
        at_eight : (k : Change) → IsChanged k → (output : Bool) → port_at output k ≡ 8
        at_eight k C true = C.1
        at_eight k C false = C.2

  -- ---- a state is begun

  module _ (value : ConductorValue) (A : Asks x.plan Y.standing.files Y.standing.opening Y.standing.recent value [] steps) (V : IsPlayConductor (cast x.plan) Y.standing.recent p value) (B : CanAct (layout_of x.plan) p Act.Begin) where
    done_so : p.phase ≡ 2 → (k : ℕ) → k < links_of (cast x.plan) → (layout_of x.plan).is_late k ≡ true → ((p.change k).step ≤ 2) ⊎ IsChanged (p.change k)
    done_so e k b t = elim (B.changes e k b t) [ inl m ↦ inl (omega (arith, m)) | inr C ↦ inr C ]

    sinks_done : p.phase ≡ 2 → HasCause s BackToIdle steps
    sinks_done e place b t =
        let c = (((Y.standing.conducted).play).cast_is).each place b in
        let part = get_there (x.plan).parts place b in
        let sink : (layout_of x.plan).is_sink c.0 ≡ true = ap (λ (n : ℕ). passes_at is_sink (slice_get (x.plan).parts n)) c.2 ∙ sink_kind (slice_get (x.plan).parts place) part.0 part.1 t in
        subst (λ (n : ℕ). (told_by n steps).eos ≡ true) c.2 (end_at x p Y.standing c.0 c.1 (B.ends e c.0 c.1 sink))

    pub begin_in_time : (one : Asking) (front : List Asking) → answered value.sends A.changes ≡ front ++ one ∷ [] → IsDone s one steps × HasCause s (next_of value.sends) steps
    begin_in_time one front e = by_sends value.sends refl e
      where
        by_sends : (n : ℕ) → value.sends ≡ n → answered n A.changes ≡ front ++ one ∷ [] → IsDone s one steps × HasCause s (next_of n) steps
        by_sends zero m f = absurd (none_there front [] one f)
        by_sends (suc zero) m f =
            let is = last_is [] front ToIdle one f in
            (subst (λ (y : Asking). IsDone s y steps) (sym is) (all_done 0 Idle (sym (V.conducting).sends ∙ m) refl B.all), tt)
        by_sends (suc (suc zero)) m f = let e : p.phase ≡ 2 = sym (V.conducting).sends ∙ m in (changes_done value A V (done_so e) e B.all one front f, sinks_done e)
        by_sends (suc (suc (suc zero))) m f =
            let is = last_is (ToIdle ∷ ToExecuting ∷ A.changes) front BackToIdle one f in
            (subst (λ (y : Asking). IsDone s y steps) (sym is) (all_done 2 Idle (sym (V.conducting).sends ∙ m) refl B.all), tt)
        by_sends (suc (suc (suc (suc n)))) m f = let a = B.more in let b = (V.conducting).sends in absurd (omega (arith, a, b, m))
